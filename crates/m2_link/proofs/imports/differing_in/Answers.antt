use Rattle.std.proofs.Common.{◌∙◌, ◌+◌, ℕ, Some, ap, drop, sym}
use Rattle.object_file.specs.Views.{keyed_of}
use Rattle.m2_link.specs.Refusals.{differs, differs_at}
use Rattle.m2_link.proofs.Firsts.{first_here, first_later, next_note}
use Rattle.m2_link.proofs.imports.differing_in.Goals as goal

pub returns-then-differs : goal.returns-then-differs
returns-then-differs c =
    let is = c.args.object.now.imports in
    let i = c.loop-note.note-index in
    let n = c.note-item.result in
    let next = next_note c.imports-note-items.result.now is i n c.imports-note-items.ensures.imports c.loop-note-test.true c.note-item.is in
    ap Some c.deref.ensures.value ∙ sym (c.loop-note.invariant ∙ first_here (differs c.args.objects.now c.args.object.now) (drop i is) (drop (i + 1) is) (keyed_of n) next (ap (λ (v : ℕ). differs_at v c.args.objects.now (keyed_of c.note-item.result)) (sym c.version.ensures) ∙ sym c.differs.ensures ∙ c.if-differs.true))

pub loop-note-preserved : goal.loop-note-preserved
loop-note-preserved c =
    let is = c.args.object.now.imports in
    let i = c.loop-note.note-index in
    let n = c.note-item.result in
    let next = next_note c.imports-note-items.result.now is i n c.imports-note-items.ensures.imports c.loop-note-test.true c.note-item.is in
    c.loop-note.invariant ∙ first_later (differs c.args.objects.now c.args.object.now) (drop i is) (drop (i + 1) is) (keyed_of n) next (ap (λ (v : ℕ). differs_at v c.args.objects.now (keyed_of c.note-item.result)) (sym c.version.ensures) ∙ sym c.differs.ensures ∙ c.if-differs.false)
