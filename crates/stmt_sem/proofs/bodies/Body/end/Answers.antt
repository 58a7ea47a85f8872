use Rattle.std.proofs.Common.{◌≤◌, ◌∙◌, ◌++◌, ap, arith, length, refl, sym}
use Rattle.m2_base.specs.Views.{stream_view}
use Rattle.block_code.specs.BlockCode.{size_by}
use Rattle.stmt_sem.specs.Bodies.{Built}
use Rattle.block_code.specs.Flows.{Run}
use Rattle.stmt_sem.specs.Stating.{block_at}
use Rattle.stmt_sem.proofs.BodyStatements.{built_whole}
use Rattle.stmt_sem.proofs.bodies.Body.end.Goals as goal

pub returns-clause-whole : goal.returns-clause-whole
returns-clause-whole c k e text so =
    let tree = stream_view c.args.stream.now in
    let xs = c.args.stream.now.body.items in
    let size = c.size_of-size.result in
    let past : length xs ≤ c.args.self.count = let h = c.requires in omega (arith, h) in
    built_whole k tree e c.args.self c.self.inside.piece c.append_ending.new.piece c.note_size.new.notes size.0 size.1 xs refl past
    (sym (ap (λ (b : Built). b.made) c.self.view_is)) c.in_ok-append_ending.ensures
    (λ (r : Run). c.size_of-size.ensures k (block_at k tree) e r (sym so.cells ∙ sym (ap (λ (b : Built). b.cells) c.self.view_is)))
    (c.in_ok-note_size.ensures.diags k (block_at k tree) text (sym c.block_name.ensures) ∙ ap (λ (b : Built). b.diags ++ size_by k (block_at k tree) size.0 size.1) c.self.view_is)
    (c.in_ok-note_size.ensures.answers ∙ ap (λ (b : Built). b.answers) c.self.view_is)
    so

pub returns-clause-answers : goal.returns-clause-answers
returns-clause-answers c = c.in_ok-note_size.ensures.answers ∙ ap (λ (b : Built). b.answers) c.self.view_is
