use Rattle.std.proofs.Common.{ap, sym}
use Rattle.m2_base.specs.Gives.{gives}
use Rattle.m2_base.specs.States.{Frame}
use Rattle.m2_base.specs.Statics.Diagnostics.{not_assignable}
use Rattle.type_rules.specs.Scenes.{IsThere}
use Rattle.expr_sem.specs.Codings.{coded_in}
use Rattle.block_code.specs.Values.{assigned_to}
use Rattle.expr_sem.proofs.Onwards.{holds_after, suits_after}
use Rattle.expr_sem.proofs.Operating.{coding_after, described, unknown, unmade}
use Rattle.expr_sem.proofs.Walking.{stands_after}
use Rattle.block_code.specs.Returns.{return_value, returned}
use Rattle.stmt_sem.proofs.LoopCases.{no_step}
use Rattle.stmt_sem.proofs.walker.Walker.return_value.Goals as goal

pub returns-in_default-clause-codes : goal.returns-in_default-clause-codes
returns-in_default-clause-codes g c =
    described c.refused_code.result (c.refused_code.ensures (g.S.Scopes.state c.args.self.now.scopes.now) c.args.self.now.fragments.now.nodes.items)
    (λ k. ap (λ o. return_value k c.args.at o c.args.x.at (coded_in c.args.self.now.fragments.now.nodes.items c.args.x.coded)) (no_step c.args.stand.now.result c.in_default.not-Some))

pub assigned_to-requires-clause-to : goal.assigned_to-requires-clause-to
assigned_to-requires-clause-to g c = rw c.in-Some.is at c.requires.stand.result

pub returns-in-DontKnowYet-clause-codes : goal.returns-in-DontKnowYet-clause-codes
returns-in-DontKnowYet-clause-codes g c = unknown (rw c.in-DontKnowYet.is at c.in-Ok.ensures.codes)

pub returns-in-Err-clause-codes : goal.returns-in-Err-clause-codes
returns-in-Err-clause-codes g c = unmade c.in-Err.ensures.codes _

pub returned-requires-clause-suits : goal.returned-requires-clause-suits
returned-requires-clause-suits g c = suits_after (rw c.in-Known.is at c.in-Ok.ensures.codes) c.requires.stand.suits

pub returned-requires-clause-of : goal.returned-requires-clause-of
returned-requires-clause-of g c = holds_after (rw c.in-Known.is at c.in-Ok.ensures.codes) (λ (f : Frame). IsThere f c.in-Some.of) (rw c.in-Some.is at c.requires.stand.result)

pub returned-requires-clause-x : goal.returned-requires-clause-x
returned-requires-clause-x g c = stands_after (rw c.in-Known.is at c.in-Ok.ensures.codes)

pub returns-clause-codes : goal.returns-clause-codes
returns-clause-codes g c =
    let x = coded_in c.args.self.now.fragments.now.nodes.items c.args.x.coded in
    described c.returned.result
    (coding_after (λ k. assigned_to k c.in-Some.of c.args.x.at not_assignable x) (λ v k. gives (returned k c.in-Some.of v)) c.returned.result
    (rw c.in-Known.is at c.in-Ok.ensures.codes) (c.returned.ensures c.assigned_to.new.self.notes.now))
    (λ k. ap (λ o. return_value k c.args.at o c.args.x.at x) (sym c.in-Some.is))
