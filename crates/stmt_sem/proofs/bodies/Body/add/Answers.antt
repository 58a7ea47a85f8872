use Rattle.std.proofs.Common.{◌+◌, ◌<◌, Ok, length, refl, subst, sym}
use Rattle.m2_base.specs.Views.{statement_view, stream_view}
use Rattle.m2_base.specs.declared.replies.Ask.TheVariants.{Known}
use Rattle.stmt_sem.specs.Bodies.{Adding, Built, IsAdded, given_in}
use Rattle.block_code.specs.Flows.{part_at}
use Rattle.stmt_sem.specs.FlowTrees.{flow_in}
use Rattle.stmt_sem.specs.Stating.{made_in}
use Rattle.stmt_sem.proofs.BodyStatements.{added, added_waits, unadded}
use Rattle.stmt_sem.proofs.PiecesJoined.{made_behind}
use Rattle.stmt_sem.proofs.TopStatements.{statement_is, statement_read}
use Rattle.stmt_sem.proofs.bodies.Body.add.Goals as goal

pub top_statement-requires-clause-read : goal.top_statement-requires-clause-read
top_statement-requires-clause-read g c =
    let xs = c.args.stream.now.body.items in
    let k = c.self.inside.count in
    let x = c.index-of.result.now in
    let below : k < length xs = subst (λ (b : Built). b.count < length xs) (sym c.self.view_is) c.requires.more in
    statement_read c.args.site.now.texts.now.names (stream_view c.args.stream.now).body k (statement_view x) (statement_is xs k x below c.index-of.ensures) c.requires.read

pub returns-in-DontKnowYet : goal.returns-in-DontKnowYet
returns-in-DontKnowYet g c = added_waits (stream_view c.args.stream.now) c.args.self.now (rw c.in-DontKnowYet.is at c.in-Ok.ensures)

pub returns-in-Err : goal.returns-in-Err
returns-in-Err g c = unadded (stream_view c.args.stream.now) c.args.self.now c.in-Err.ensures c.args.self.now refl _ refl

pub returns : goal.returns
returns g c =
    let tree = stream_view c.args.stream.now in
    let xs = c.args.stream.now.body.items in
    let i = c.self.inside in
    let x = c.index-of.result.now in
    let ns = c.top_statement.new.fragments.nodes.items in
    let appended = c.in_ok-append_stated.ensures in
    let below : i.count < length xs = subst (λ (b : Built). b.count < length xs) (sym c.self.view_is) c.requires.more in
    let from : Built = record { made = made_in i.piece; diags = i.notes.diags.items; answers = i.notes.answers.items; cells = i.cells; count = i.count } in
    let new = c.append_stated.new in
    let to : Built = record { made = made_in new.piece; diags = new.notes.diags.items; answers = new.notes.answers.items; cells = i.cells; count = i.count + 1 } in
    let put : IsAdded from to (given_in ns c.in-Known.value c.top_statement.new.notes) =
    record { made_is = made_behind (part_at 0 (flow_in ns c.in-Known.value 0)) appended.code; diags = appended.diags; answers = appended.answers; cells = refl; count = refl } in
    subst (λ (b : Built). Adding (g.S.Scopes.state c.args.scopes.now) (g.S.Scopes.state c.top_statement.new.scopes) b to c.args.site.now tree (Ok (Known tt))) c.self.view_is
    (added tree from to c.args.returns (statement_view x) c.requires.item c.new-notes.ensures.diags c.new-notes.ensures.answers
    (statement_is xs i.count x below c.index-of.ensures) c.requires.returns (rw c.in-Known.is at c.in-Ok.ensures) put)
