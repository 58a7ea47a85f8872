use Rattle.std.proofs.Common.{◌≡◌, refl, sym, ap, subst}
use Rattle.stack_machine.specs.declared.core_state.Core.{Core}
use Rattle.stack_machine.specs.declared.op.Op.{Op}
use Rattle.stack_machine.specs.State.{State, Program, state_of, program_of}
use Rattle.stack_machine.specs.declared.next.Next.{Next}
use Rattle.stack_machine.specs.InOut.{Got}
use Rattle.stack_machine.specs.Step.{does, takes}
use Rattle.stack_machine.specs.Able.{Comes, CanDo}
use Rattle.stack_machine.specs.Ready.{Able}
use Rattle.stack_machine.proofs.act.act.Goals as goal

-- what the operation at hand does
by_op : (program : Program) (got : Got) (result : Next) (old new : State) {op this : Op} → op ≡ this → Comes result (does program got this old) old new → Comes result (does program got op old) old new
by_op program got result old new is comes = subst (λ (o : Op). Comes result (does program got o old) old new) (sym is) comes

-- its operands are there
able_for : {p : Program} (core : Core) {op this : Op} → op ≡ this → Able p core op → CanDo core (takes this)
able_for core is able = subst (λ (o : Op). CanDo core (takes o)) is able.can

pub returns-in-Call-clause-comes : goal.returns-in-Call-clause-comes
returns-in-Call-clause-comes c = λ got.
    subst (λ (op : Op). Comes c.call_routine.result (does (program_of c.args.code.now) got op (state_of c.args.core.now)) (state_of c.args.core.now) (state_of c.call_routine.new.core)) (sym c.in-Call.is) (c.call_routine.ensures.comes got)

pub returns-in-Local-clause-comes : goal.returns-in-Local-clause-comes
unfolding does
returns-in-Local-clause-comes c = λ got. by_op (program_of c.args.code.now) got c.local.result _ (state_of c.local.new.core) c.in-Local.is c.local.ensures.comes

pub returns-in-Load-clause-comes : goal.returns-in-Load-clause-comes
unfolding does
returns-in-Load-clause-comes c = λ got. by_op (program_of c.args.code.now) got c.load.result _ (state_of c.load.new.core) c.in-Load.is c.load.ensures.comes

pub returns-in-Store-clause-comes : goal.returns-in-Store-clause-comes
unfolding does
returns-in-Store-clause-comes c = λ got. by_op (program_of c.args.code.now) got c.store.result _ (state_of c.store.new.core) c.in-Store.is c.store.ensures.comes

pub returns-in-Move-clause-comes : goal.returns-in-Move-clause-comes
unfolding does
returns-in-Move-clause-comes c = λ got. by_op (program_of c.args.code.now) got c.copy_cells.result _ (state_of c.copy_cells.new.core) c.in-Move.is c.copy_cells.ensures.comes

pub returns-in-Dup-clause-comes : goal.returns-in-Dup-clause-comes
unfolding does
returns-in-Dup-clause-comes c = λ got. by_op (program_of c.args.code.now) got c.duplicate.result _ (state_of c.duplicate.new.core) c.in-Dup.is c.duplicate.ensures.comes

pub returns-in-Offset-clause-comes : goal.returns-in-Offset-clause-comes
unfolding does
returns-in-Offset-clause-comes c = λ got. by_op (program_of c.args.code.now) got c.offset.result _ (state_of c.offset.new.core) c.in-Offset.is c.offset.ensures.comes

pub returns-in-IndexOpen-clause-comes : goal.returns-in-IndexOpen-clause-comes
unfolding does
returns-in-IndexOpen-clause-comes c = λ got. by_op (program_of c.args.code.now) got c.open_index.result _ (state_of c.open_index.new.core) c.in-IndexOpen.is c.open_index.ensures.comes

pub returns-in-Nil-clause-comes : goal.returns-in-Nil-clause-comes
unfolding does
returns-in-Nil-clause-comes c = λ got. by_op (program_of c.args.code.now) got c.not_nil.result _ (state_of c.not_nil.new.core) c.in-Nil.is c.not_nil.ensures.comes

pub returns-in-Add-clause-comes : goal.returns-in-Add-clause-comes
unfolding does
returns-in-Add-clause-comes c = λ got. by_op (program_of c.args.code.now) got c.add.result _ (state_of c.add.new.core) c.in-Add.is c.add.ensures.comes

pub returns-in-Sub-clause-comes : goal.returns-in-Sub-clause-comes
unfolding does
returns-in-Sub-clause-comes c = λ got. by_op (program_of c.args.code.now) got c.subtract.result _ (state_of c.subtract.new.core) c.in-Sub.is c.subtract.ensures.comes

pub returns-in-Mul-clause-comes : goal.returns-in-Mul-clause-comes
unfolding does
returns-in-Mul-clause-comes c = λ got. by_op (program_of c.args.code.now) got c.multiply.result _ (state_of c.multiply.new.core) c.in-Mul.is c.multiply.ensures.comes

pub returns-in-Div-clause-comes : goal.returns-in-Div-clause-comes
unfolding does
returns-in-Div-clause-comes c = λ got. by_op (program_of c.args.code.now) got c.divide.result _ (state_of c.divide.new.core) c.in-Div.is c.divide.ensures.comes

pub returns-in-Mod-clause-comes : goal.returns-in-Mod-clause-comes
unfolding does
returns-in-Mod-clause-comes c = λ got. by_op (program_of c.args.code.now) got c.remainder.result _ (state_of c.remainder.new.core) c.in-Mod.is c.remainder.ensures.comes

pub returns-in-Neg-clause-comes : goal.returns-in-Neg-clause-comes
unfolding does
returns-in-Neg-clause-comes c = λ got. by_op (program_of c.args.code.now) got c.negate.result _ (state_of c.negate.new.core) c.in-Neg.is c.negate.ensures.comes

pub returns-in-Abs-clause-comes : goal.returns-in-Abs-clause-comes
unfolding does
returns-in-Abs-clause-comes c = λ got. by_op (program_of c.args.code.now) got c.absolute.result _ (state_of c.absolute.new.core) c.in-Abs.is c.absolute.ensures.comes

pub returns-in-Not-clause-comes : goal.returns-in-Not-clause-comes
unfolding does
returns-in-Not-clause-comes c = λ got. by_op (program_of c.args.code.now) got c.negation.result _ (state_of c.negation.new.core) c.in-Not.is c.negation.ensures.comes

pub returns-in-Eq-clause-comes : goal.returns-in-Eq-clause-comes
unfolding does
returns-in-Eq-clause-comes c = λ got. by_op (program_of c.args.code.now) got c.equal.result _ (state_of c.equal.new.core) c.in-Eq.is c.equal.ensures.comes

pub returns-in-Ne-clause-comes : goal.returns-in-Ne-clause-comes
unfolding does
returns-in-Ne-clause-comes c = λ got. by_op (program_of c.args.code.now) got c.differ.result _ (state_of c.differ.new.core) c.in-Ne.is c.differ.ensures.comes

pub returns-in-Lt-clause-comes : goal.returns-in-Lt-clause-comes
unfolding does
returns-in-Lt-clause-comes c = λ got. by_op (program_of c.args.code.now) got c.less.result _ (state_of c.less.new.core) c.in-Lt.is c.less.ensures.comes

pub returns-in-Le-clause-comes : goal.returns-in-Le-clause-comes
unfolding does
returns-in-Le-clause-comes c = λ got. by_op (program_of c.args.code.now) got c.at_most.result _ (state_of c.at_most.new.core) c.in-Le.is c.at_most.ensures.comes

pub returns-in-Gt-clause-comes : goal.returns-in-Gt-clause-comes
unfolding does
returns-in-Gt-clause-comes c = λ got. by_op (program_of c.args.code.now) got c.greater.result _ (state_of c.greater.new.core) c.in-Gt.is c.greater.ensures.comes

pub returns-in-Ge-clause-comes : goal.returns-in-Ge-clause-comes
unfolding does
returns-in-Ge-clause-comes c = λ got. by_op (program_of c.args.code.now) got c.at_least.result _ (state_of c.at_least.new.core) c.in-Ge.is c.at_least.ensures.comes

pub returns-in-Union-clause-comes : goal.returns-in-Union-clause-comes
unfolding does
returns-in-Union-clause-comes c = λ got. by_op (program_of c.args.code.now) got c.unite.result _ (state_of c.unite.new.core) c.in-Union.is c.unite.ensures.comes

pub returns-in-Diff-clause-comes : goal.returns-in-Diff-clause-comes
unfolding does
returns-in-Diff-clause-comes c = λ got. by_op (program_of c.args.code.now) got c.subtract_set.result _ (state_of c.subtract_set.new.core) c.in-Diff.is c.subtract_set.ensures.comes

pub returns-in-Inter-clause-comes : goal.returns-in-Inter-clause-comes
unfolding does
returns-in-Inter-clause-comes c = λ got. by_op (program_of c.args.code.now) got c.intersect.result _ (state_of c.intersect.new.core) c.in-Inter.is c.intersect.ensures.comes

pub returns-in-SymDiff-clause-comes : goal.returns-in-SymDiff-clause-comes
unfolding does
returns-in-SymDiff-clause-comes c = λ got. by_op (program_of c.args.code.now) got c.exclusive.result _ (state_of c.exclusive.new.core) c.in-SymDiff.is c.exclusive.ensures.comes

pub returns-in-Subset-clause-comes : goal.returns-in-Subset-clause-comes
unfolding does
returns-in-Subset-clause-comes c = λ got. by_op (program_of c.args.code.now) got c.subset.result _ (state_of c.subset.new.core) c.in-Subset.is c.subset.ensures.comes

pub returns-in-Superset-clause-comes : goal.returns-in-Superset-clause-comes
unfolding does
returns-in-Superset-clause-comes c = λ got. by_op (program_of c.args.code.now) got c.superset.result _ (state_of c.superset.new.core) c.in-Superset.is c.superset.ensures.comes

pub returns-in-In-clause-comes : goal.returns-in-In-clause-comes
unfolding does
returns-in-In-clause-comes c = λ got. by_op (program_of c.args.code.now) got c.contains.result _ (state_of c.contains.new.core) c.in-In.is c.contains.ensures.comes

pub returns-in-Bit-clause-comes : goal.returns-in-Bit-clause-comes
unfolding does
returns-in-Bit-clause-comes c = λ got. by_op (program_of c.args.code.now) got c.single.result _ (state_of c.single.new.core) c.in-Bit.is c.single.ensures.comes

pub returns-in-Span-clause-comes : goal.returns-in-Span-clause-comes
unfolding does
returns-in-Span-clause-comes c = λ got. by_op (program_of c.args.code.now) got c.range.result _ (state_of c.range.new.core) c.in-Span.is c.range.ensures.comes

pub returns-in-Cap-clause-comes : goal.returns-in-Cap-clause-comes
unfolding does
returns-in-Cap-clause-comes c = λ got. by_op (program_of c.args.code.now) got c.capitalize.result _ (state_of c.capitalize.new.core) c.in-Cap.is c.capitalize.ensures.comes

pub returns-in-Jump-clause-comes : goal.returns-in-Jump-clause-comes
unfolding does
returns-in-Jump-clause-comes c = λ got. by_op (program_of c.args.code.now) got c.jump.result _ (state_of c.jump.new.core) c.in-Jump.is c.jump.ensures.comes

pub returns-in-JumpFalse-clause-comes : goal.returns-in-JumpFalse-clause-comes
unfolding does
returns-in-JumpFalse-clause-comes c = λ got. by_op (program_of c.args.code.now) got c.jump_false.result _ (state_of c.jump_false.new.core) c.in-JumpFalse.is c.jump_false.ensures.comes

pub returns-in-AndJump-clause-comes : goal.returns-in-AndJump-clause-comes
unfolding does
returns-in-AndJump-clause-comes c = λ got. by_op (program_of c.args.code.now) got c.and_jump.result _ (state_of c.and_jump.new.core) c.in-AndJump.is c.and_jump.ensures.comes

pub returns-in-OrJump-clause-comes : goal.returns-in-OrJump-clause-comes
unfolding does
returns-in-OrJump-clause-comes c = λ got. by_op (program_of c.args.code.now) got c.or_jump.result _ (state_of c.or_jump.new.core) c.in-OrJump.is c.or_jump.ensures.comes

pub returns-in-New-clause-comes : goal.returns-in-New-clause-comes
unfolding does
returns-in-New-clause-comes c = λ got. by_op (program_of c.args.code.now) got c.allocate.result _ (state_of c.allocate.new.core) c.in-New.is c.allocate.ensures.comes

pub returns-in-OpenCopy-clause-comes : goal.returns-in-OpenCopy-clause-comes
unfolding does
returns-in-OpenCopy-clause-comes c = λ got. by_op (program_of c.args.code.now) got c.open_copy.result _ (state_of c.open_copy.new.core) c.in-OpenCopy.is c.open_copy.ensures.comes

pub returns-in-Halt-clause-comes : goal.returns-in-Halt-clause-comes
unfolding does
returns-in-Halt-clause-comes c = λ got. (ap (λ (op : Op). does (program_of c.args.code.now) got op (state_of c.args.core.now)) c.in-Halt.is, refl)

pub returns-in-Trap-clause-comes : goal.returns-in-Trap-clause-comes
unfolding does
returns-in-Trap-clause-comes c = λ got. (ap (λ (op : Op). does (program_of c.args.code.now) got op (state_of c.args.core.now)) c.in-Trap.is, refl)

pub push-requires : goal.push-requires
push-requires c = record { able = able_for c.args.core.now c.in-Push.is c.requires.able }

pub returns-in-Push-clause-room : goal.returns-in-Push-clause-room
returns-in-Push-clause-room c = c.push.ensures.room

pub returns-in-Local-clause-room : goal.returns-in-Local-clause-room
returns-in-Local-clause-room c = c.local.ensures.room

pub load-requires : goal.load-requires
load-requires c = record { able = able_for c.args.core.now c.in-Load.is c.requires.able }

pub returns-in-Load-clause-room : goal.returns-in-Load-clause-room
returns-in-Load-clause-room c = c.load.ensures.room

pub store-requires : goal.store-requires
store-requires c = record { able = able_for c.args.core.now c.in-Store.is c.requires.able }

pub returns-in-Store-clause-room : goal.returns-in-Store-clause-room
returns-in-Store-clause-room c = c.store.ensures.room

pub copy_cells-requires : goal.copy_cells-requires
copy_cells-requires c = record { able = able_for c.args.core.now c.in-Move.is c.requires.able }

pub returns-in-Move-clause-room : goal.returns-in-Move-clause-room
returns-in-Move-clause-room c = c.copy_cells.ensures.room

pub duplicate-requires : goal.duplicate-requires
duplicate-requires c = record { able = able_for c.args.core.now c.in-Dup.is c.requires.able }

pub returns-in-Dup-clause-room : goal.returns-in-Dup-clause-room
returns-in-Dup-clause-room c = c.duplicate.ensures.room

pub offset-requires : goal.offset-requires
offset-requires c = record { able = able_for c.args.core.now c.in-Offset.is c.requires.able }

pub returns-in-Offset-clause-room : goal.returns-in-Offset-clause-room
returns-in-Offset-clause-room c = c.offset.ensures.room

pub index-requires : goal.index-requires
index-requires c = record { able = able_for c.args.core.now c.in-Index.is c.requires.able }

pub returns-in-Index-clause-room : goal.returns-in-Index-clause-room
returns-in-Index-clause-room c = c.index.ensures.room

pub open_index-requires : goal.open_index-requires
open_index-requires c = record { able = able_for c.args.core.now c.in-IndexOpen.is c.requires.able }

pub returns-in-IndexOpen-clause-room : goal.returns-in-IndexOpen-clause-room
returns-in-IndexOpen-clause-room c = c.open_index.ensures.room

pub check-requires : goal.check-requires
check-requires c = record { able = able_for c.args.core.now c.in-Check.is c.requires.able }

pub returns-in-Check-clause-room : goal.returns-in-Check-clause-room
returns-in-Check-clause-room c = c.check.ensures.room

pub not_nil-requires : goal.not_nil-requires
not_nil-requires c = record { able = able_for c.args.core.now c.in-Nil.is c.requires.able }

pub returns-in-Nil-clause-room : goal.returns-in-Nil-clause-room
returns-in-Nil-clause-room c = c.not_nil.ensures.room

pub add-requires : goal.add-requires
add-requires c = record { able = able_for c.args.core.now c.in-Add.is c.requires.able }

pub returns-in-Add-clause-room : goal.returns-in-Add-clause-room
returns-in-Add-clause-room c = c.add.ensures.room

pub subtract-requires : goal.subtract-requires
subtract-requires c = record { able = able_for c.args.core.now c.in-Sub.is c.requires.able }

pub returns-in-Sub-clause-room : goal.returns-in-Sub-clause-room
returns-in-Sub-clause-room c = c.subtract.ensures.room

pub multiply-requires : goal.multiply-requires
multiply-requires c = record { able = able_for c.args.core.now c.in-Mul.is c.requires.able }

pub returns-in-Mul-clause-room : goal.returns-in-Mul-clause-room
returns-in-Mul-clause-room c = c.multiply.ensures.room

pub divide-requires : goal.divide-requires
divide-requires c = record { able = able_for c.args.core.now c.in-Div.is c.requires.able }

pub returns-in-Div-clause-room : goal.returns-in-Div-clause-room
returns-in-Div-clause-room c = c.divide.ensures.room

pub remainder-requires : goal.remainder-requires
remainder-requires c = record { able = able_for c.args.core.now c.in-Mod.is c.requires.able }

pub returns-in-Mod-clause-room : goal.returns-in-Mod-clause-room
returns-in-Mod-clause-room c = c.remainder.ensures.room

pub negate-requires : goal.negate-requires
negate-requires c = record { able = able_for c.args.core.now c.in-Neg.is c.requires.able }

pub returns-in-Neg-clause-room : goal.returns-in-Neg-clause-room
returns-in-Neg-clause-room c = c.negate.ensures.room

pub absolute-requires : goal.absolute-requires
absolute-requires c = record { able = able_for c.args.core.now c.in-Abs.is c.requires.able }

pub returns-in-Abs-clause-room : goal.returns-in-Abs-clause-room
returns-in-Abs-clause-room c = c.absolute.ensures.room

pub negation-requires : goal.negation-requires
negation-requires c = record { able = able_for c.args.core.now c.in-Not.is c.requires.able }

pub returns-in-Not-clause-room : goal.returns-in-Not-clause-room
returns-in-Not-clause-room c = c.negation.ensures.room

pub equal-requires : goal.equal-requires
equal-requires c = record { able = able_for c.args.core.now c.in-Eq.is c.requires.able }

pub returns-in-Eq-clause-room : goal.returns-in-Eq-clause-room
returns-in-Eq-clause-room c = c.equal.ensures.room

pub differ-requires : goal.differ-requires
differ-requires c = record { able = able_for c.args.core.now c.in-Ne.is c.requires.able }

pub returns-in-Ne-clause-room : goal.returns-in-Ne-clause-room
returns-in-Ne-clause-room c = c.differ.ensures.room

pub less-requires : goal.less-requires
less-requires c = record { able = able_for c.args.core.now c.in-Lt.is c.requires.able }

pub returns-in-Lt-clause-room : goal.returns-in-Lt-clause-room
returns-in-Lt-clause-room c = c.less.ensures.room

pub at_most-requires : goal.at_most-requires
at_most-requires c = record { able = able_for c.args.core.now c.in-Le.is c.requires.able }

pub returns-in-Le-clause-room : goal.returns-in-Le-clause-room
returns-in-Le-clause-room c = c.at_most.ensures.room

pub greater-requires : goal.greater-requires
greater-requires c = record { able = able_for c.args.core.now c.in-Gt.is c.requires.able }

pub returns-in-Gt-clause-room : goal.returns-in-Gt-clause-room
returns-in-Gt-clause-room c = c.greater.ensures.room

pub at_least-requires : goal.at_least-requires
at_least-requires c = record { able = able_for c.args.core.now c.in-Ge.is c.requires.able }

pub returns-in-Ge-clause-room : goal.returns-in-Ge-clause-room
returns-in-Ge-clause-room c = c.at_least.ensures.room

pub unite-requires : goal.unite-requires
unite-requires c = record { able = able_for c.args.core.now c.in-Union.is c.requires.able }

pub returns-in-Union-clause-room : goal.returns-in-Union-clause-room
returns-in-Union-clause-room c = c.unite.ensures.room

pub subtract_set-requires : goal.subtract_set-requires
subtract_set-requires c = record { able = able_for c.args.core.now c.in-Diff.is c.requires.able }

pub returns-in-Diff-clause-room : goal.returns-in-Diff-clause-room
returns-in-Diff-clause-room c = c.subtract_set.ensures.room

pub intersect-requires : goal.intersect-requires
intersect-requires c = record { able = able_for c.args.core.now c.in-Inter.is c.requires.able }

pub returns-in-Inter-clause-room : goal.returns-in-Inter-clause-room
returns-in-Inter-clause-room c = c.intersect.ensures.room

pub exclusive-requires : goal.exclusive-requires
exclusive-requires c = record { able = able_for c.args.core.now c.in-SymDiff.is c.requires.able }

pub returns-in-SymDiff-clause-room : goal.returns-in-SymDiff-clause-room
returns-in-SymDiff-clause-room c = c.exclusive.ensures.room

pub subset-requires : goal.subset-requires
subset-requires c = record { able = able_for c.args.core.now c.in-Subset.is c.requires.able }

pub returns-in-Subset-clause-room : goal.returns-in-Subset-clause-room
returns-in-Subset-clause-room c = c.subset.ensures.room

pub superset-requires : goal.superset-requires
superset-requires c = record { able = able_for c.args.core.now c.in-Superset.is c.requires.able }

pub returns-in-Superset-clause-room : goal.returns-in-Superset-clause-room
returns-in-Superset-clause-room c = c.superset.ensures.room

pub contains-requires : goal.contains-requires
contains-requires c = record { able = able_for c.args.core.now c.in-In.is c.requires.able }

pub returns-in-In-clause-room : goal.returns-in-In-clause-room
returns-in-In-clause-room c = c.contains.ensures.room

pub single-requires : goal.single-requires
single-requires c = record { able = able_for c.args.core.now c.in-Bit.is c.requires.able }

pub returns-in-Bit-clause-room : goal.returns-in-Bit-clause-room
returns-in-Bit-clause-room c = c.single.ensures.room

pub range-requires : goal.range-requires
range-requires c = record { able = able_for c.args.core.now c.in-Span.is c.requires.able }

pub returns-in-Span-clause-room : goal.returns-in-Span-clause-room
returns-in-Span-clause-room c = c.range.ensures.room

pub more-requires : goal.more-requires
more-requires c = record { able = able_for c.args.core.now c.in-More.is c.requires.able }

pub returns-in-More-clause-room : goal.returns-in-More-clause-room
returns-in-More-clause-room c = c.more.ensures.room

pub capitalize-requires : goal.capitalize-requires
capitalize-requires c = record { able = able_for c.args.core.now c.in-Cap.is c.requires.able }

pub returns-in-Cap-clause-room : goal.returns-in-Cap-clause-room
returns-in-Cap-clause-room c = c.capitalize.ensures.room

pub jump-requires : goal.jump-requires
jump-requires c = record { able = able_for c.args.core.now c.in-Jump.is c.requires.able }

pub returns-in-Jump-clause-room : goal.returns-in-Jump-clause-room
returns-in-Jump-clause-room c = c.jump.ensures.room

pub jump_false-requires : goal.jump_false-requires
jump_false-requires c = record { able = able_for c.args.core.now c.in-JumpFalse.is c.requires.able }

pub returns-in-JumpFalse-clause-room : goal.returns-in-JumpFalse-clause-room
returns-in-JumpFalse-clause-room c = c.jump_false.ensures.room

pub and_jump-requires : goal.and_jump-requires
and_jump-requires c = record { able = able_for c.args.core.now c.in-AndJump.is c.requires.able }

pub returns-in-AndJump-clause-room : goal.returns-in-AndJump-clause-room
returns-in-AndJump-clause-room c = c.and_jump.ensures.room

pub or_jump-requires : goal.or_jump-requires
or_jump-requires c = record { able = able_for c.args.core.now c.in-OrJump.is c.requires.able }

pub returns-in-OrJump-clause-room : goal.returns-in-OrJump-clause-room
returns-in-OrJump-clause-room c = c.or_jump.ensures.room

pub allocate-requires : goal.allocate-requires
allocate-requires c = record { able = able_for c.args.core.now c.in-New.is c.requires.able }

pub returns-in-New-clause-room : goal.returns-in-New-clause-room
returns-in-New-clause-room c = c.allocate.ensures.room

pub returns-in-OpenCopy-clause-room : goal.returns-in-OpenCopy-clause-room
returns-in-OpenCopy-clause-room c = c.open_copy.ensures.room
