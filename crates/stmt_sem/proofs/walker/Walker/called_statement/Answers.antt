use Rattle.std.proofs.Common.{Ok, ap, map}
use Rattle.m2_base.specs.Gives.{gives}
use Rattle.m2_base.specs.Trees.{exprs}
use Rattle.m2_base.specs.Views.{designator_view, expr_view}
use Rattle.m2_base.specs.declared.replies.Ask.TheVariants.{Known}
use Rattle.expr_sem.specs.Codings.{IsFragment, coded_in, with_types}
use Rattle.block_code.specs.Expressions.{call_alone}
use Rattle.expr_sem.specs.Fragments.{part}
use Rattle.expr_sem.proofs.Operating.{coding_after, value_alone}
use Rattle.expr_sem.proofs.Walking.{stands_after}
use Rattle.block_code.specs.Assignments.{code_unless_bad}
use Rattle.block_code.specs.Flows.{straight}
use Rattle.stmt_sem.specs.StatementParts.{called}
use Rattle.stmt_sem.specs.Stands.{stand_in}
use Rattle.stmt_sem.proofs.Flowed.{by_answer, described, made_after, of_coding, unknown, unmade}
use Rattle.stmt_sem.proofs.SimpleGiven.{call_given}
use Rattle.stmt_sem.proofs.walker.Walker.called_statement.Goals as goal

pub returns-in-DontKnowYet-clause-walks : goal.returns-in-DontKnowYet-clause-walks
returns-in-DontKnowYet-clause-walks g c = unknown (of_coding _ (rw c.in-DontKnowYet.is at c.in-Ok.ensures.codes))

pub returns-in-Err-clause-walks : goal.returns-in-Err-clause-walks
returns-in-Err-clause-walks g c = unmade (of_coding _ c.in-Err.ensures.codes) _

pub straight-requires-clause-sound : goal.straight-requires-clause-sound
straight-requires-clause-sound g c = (rw c.in-Known.is at c.in-Ok.ensures.codes).grows.sound c.requires.sound

pub straight-requires-clause-there : goal.straight-requires-clause-there
straight-requires-clause-there g c = c.code_unless_bad-code.ensures.there c.call_alone.new.self.fragments.now.nodes.items (rw c.in-Known.is at c.in-Ok.ensures.codes).there.code

pub returns-clause-walks : goal.returns-clause-walks
returns-clause-walks g c =
    let s = c.args.stand.now in
    let d = designator_view c.args.to.now in
    let args = exprs (map expr_view c.args.args.now) in
    let ms = c.call_alone.new.self.fragments.now.nodes.items in
    let call = rw c.in-Known.is at c.in-Ok.ensures.codes in
    let code = c.code_unless_bad-code.result in
    let one = of_coding _ (coding_after (λ k. call_alone k (with_types s.withs.now) d args) (λ x k. gives (code_unless_bad x)) (Ok (Known code)) call
    (value_alone (g.S.Scopes.state c.call_alone.new.self.scopes.now) c.call_alone.new.self.notes.now ms s.site.now code IsFragment part (λ k. code_unless_bad (coded_in ms c.in-Known.value))
    (c.code_unless_bad-code.ensures.there ms (stands_after call).code) (λ k. c.code_unless_bad-code.ensures.told ms))) in
    by_answer c.straight.result c.answered.result c.answered.ensures
    (described _ (made_after (λ k. called (stand_in k s) d args) (λ p. straight p) c.straight.result one c.straight.ensures (λ p same cell. ap straight (same cell))) (λ k. call_given (stand_in k s) d args))

pub returns-in-DontKnowYet-clause-keeps : goal.returns-in-DontKnowYet-clause-keeps
returns-in-DontKnowYet-clause-keeps g c = c.call_alone.ensures.keeps

pub returns-in-Err-clause-keeps : goal.returns-in-Err-clause-keeps
returns-in-Err-clause-keeps g c = c.call_alone.ensures.keeps

pub returns-clause-keeps : goal.returns-clause-keeps
returns-clause-keeps g c = c.call_alone.ensures.keeps
