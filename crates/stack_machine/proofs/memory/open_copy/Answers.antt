use Rattle.std.proofs.Common.{◌≡◌, ◌+◌, ◌*◌, FitsSigned, w64, to_z, of_z, Some, None, refl, subst, sym, arith, rules, pos}
use Rattle.std.proofs.lemmas.List.{get_or_read}
use Rattle.stack_machine.specs.Able.{Comes}
use Rattle.stack_machine.specs.Numbers.{count_of}
use Rattle.stack_machine.specs.State.{state_of}
use Rattle.stack_machine.specs.Step.{Next, cell_of}
use Rattle.stack_machine.proofs.Cells.{opens, opens_none, passed, source_told, source_within}
use Rattle.stack_machine.proofs.memory.open_copy.Goals as goal

pub copy_open-requires-clause-free : goal.copy_open-requires-clause-free
copy_open-requires-clause-free c =
    let few = c.in-Some.ensures.some.1 in let top = c.requires.able.room.top in
    omega (arith, few, top)

pub copy_open-requires-clause-from : goal.copy_open-requires-clause-from
copy_open-requires-clause-from c =
    let s = state_of c.args.core.now in
    let room = c.requires.able.room in let heap = room.heap in let local = c.requires.local in let top = room.top in
    let few = c.in-Some.ensures.some.1 in
    let first : c.index-2.result.now ≡ cell_of s.cells (s.base + c.args.o) = get_or_read s.cells _ _ (omega (arith, local, heap, top)) c.index-2.ensures (pos 0) in
    let first_fits : FitsSigned w64 c.index-2.result.now = search rules in
    source_within s.cells c.in-Some.n (cell_of s.cells (s.base + c.args.o)) c.in-Some-source.from
    (source_told s.cells c.deref.result.now c.in-Some.n c.index-2.result.now (cell_of s.cells (s.base + c.args.o)) c.source.result (Some c.in-Some-source.from) c.deref.ensures.value first_fits first c.source.ensures c.in-Some-source.is)
    (omega (arith, few, heap, top))

pub returns-clause-comes : goal.returns-clause-comes
returns-clause-comes c =
    let s = state_of c.args.core.now in
    let room = c.requires.able.room in let heap = room.heap in let local = c.requires.local in let top = room.top in
    let few = c.in-Some.ensures.some.1 in
    let high : c.index.result.now ≡ cell_of s.cells (s.base + c.args.o + 1) = get_or_read s.cells _ _ (omega (arith, local, heap, top)) c.index.ensures (pos 0) in
    let high_fits : FitsSigned w64 c.index.result.now = search rules in
    let first : c.index-2.result.now ≡ cell_of s.cells (s.base + c.args.o) = get_or_read s.cells _ _ (omega (arith, local, heap, top)) c.index-2.ensures (pos 0) in
    let first_fits : FitsSigned w64 c.index-2.result.now = search rules in
    subst (λ (next : Next). Comes c.copy_open.result next s (state_of c.copy_open.new.core))
    (sym (opens c.in-Some.n c.args.o c.args.size s (to_z w64 (of_z w64 c.index.result.now)) (Some c.in-Some-source.from) c.in-Some.ensures.some.0 (passed c.index.result.now (cell_of s.cells (s.base + c.args.o + 1)) high_fits high) (omega (arith, few, top))
    (source_told s.cells c.deref.result.now c.in-Some.n c.index-2.result.now (cell_of s.cells (s.base + c.args.o)) c.source.result (Some c.in-Some-source.from) c.deref.ensures.value first_fits first c.source.ensures c.in-Some-source.is)))
    c.copy_open.ensures.comes

pub returns-in_default-clause-comes : goal.returns-in_default-clause-comes
returns-in_default-clause-comes c =
    let s = state_of c.args.core.now in
    let room = c.requires.able.room in let heap = room.heap in let local = c.requires.local in let top = room.top in
    let high : c.index.result.now ≡ cell_of s.cells (s.base + c.args.o + 1) = get_or_read s.cells _ _ (omega (arith, local, heap, top)) c.index.ensures (pos 0) in
    let high_fits : FitsSigned w64 c.index.result.now = search rules in
    let many = c.in_default.ensures.none in
    (opens_none (count_of (to_z w64 (of_z w64 c.index.result.now)) * c.args.size) c.args.o c.args.size s (to_z w64 (of_z w64 c.index.result.now)) refl (passed c.index.result.now (cell_of s.cells (s.base + c.args.o + 1)) high_fits high) (omega (arith, many, top)), refl)

pub returns-in_default-source-clause-comes : goal.returns-in_default-source-clause-comes
returns-in_default-source-clause-comes c =
    let s = state_of c.args.core.now in
    let room = c.requires.able.room in let heap = room.heap in let local = c.requires.local in let top = room.top in
    let few = c.in-Some.ensures.some.1 in
    let high : c.index.result.now ≡ cell_of s.cells (s.base + c.args.o + 1) = get_or_read s.cells _ _ (omega (arith, local, heap, top)) c.index.ensures (pos 0) in
    let high_fits : FitsSigned w64 c.index.result.now = search rules in
    let first : c.index-2.result.now ≡ cell_of s.cells (s.base + c.args.o) = get_or_read s.cells _ _ (omega (arith, local, heap, top)) c.index-2.ensures (pos 0) in
    let first_fits : FitsSigned w64 c.index-2.result.now = search rules in (
      opens c.in-Some.n c.args.o c.args.size s (to_z w64 (of_z w64 c.index.result.now)) None c.in-Some.ensures.some.0 (passed c.index.result.now (cell_of s.cells (s.base + c.args.o + 1)) high_fits high) (omega (arith, few, top))
          (source_told s.cells c.deref.result.now c.in-Some.n c.index-2.result.now (cell_of s.cells (s.base + c.args.o)) c.source.result None c.deref.ensures.value first_fits first c.source.ensures c.in_default-source.is),
      refl,
    )
