use Rattle.std.proofs.Common.{◌∙◌, ◌+◌, Some, ap, drop, sym}
use Rattle.object_file.specs.Directories.{found_in}
use Rattle.object_file.specs.Views.{keyed_of}
use Rattle.m2_link.specs.Refusals.{lacks}
use Rattle.m2_link.proofs.Firsts.{first_here, first_later, next_note}
use Rattle.m2_link.proofs.imports.missing_in.Goals as goal

pub returns-then-lacks : goal.returns-then-lacks
returns-then-lacks c =
    let is = c.args.object.now.imports in
    let i = c.loop-note.note-index in
    let n = c.note-item.result in
    let next = next_note c.imports-note-items.result.now is i n c.imports-note-items.ensures.imports c.loop-note-test.true c.note-item.is in
    ap Some c.deref.ensures.value ∙ sym (c.loop-note.invariant ∙ first_here (λ i. lacks (found_in c.args.directory.now i.definition.name) i.definition) (drop i is) (drop (i + 1) is) (keyed_of n) next (sym c.lacks.ensures ∙ c.if-lacks.true))

pub loop-note-preserved : goal.loop-note-preserved
loop-note-preserved c =
    let is = c.args.object.now.imports in
    let i = c.loop-note.note-index in
    let n = c.note-item.result in
    let next = next_note c.imports-note-items.result.now is i n c.imports-note-items.ensures.imports c.loop-note-test.true c.note-item.is in
    c.loop-note.invariant ∙ first_later (λ i. lacks (found_in c.args.directory.now i.definition.name) i.definition) (drop i is) (drop (i + 1) is) (keyed_of n) next (sym c.lacks.ensures ∙ c.if-lacks.false)
