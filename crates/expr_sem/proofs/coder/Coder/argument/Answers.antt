use Rattle.m2_base.specs.Gives.{and_then}
use Rattle.expr_sem.specs.ArgumentCodes.{parameter_view}
use Rattle.block_code.specs.Arguments.{checked_mode as spec_checked}
use Rattle.expr_sem.specs.Codings.{coded_in}
use Rattle.block_code.specs.Values.{as_value as spec_as_value}
use Rattle.expr_sem.proofs.ArgumentCases.{chosen, other}
use Rattle.expr_sem.proofs.Operating.{coding_after, described, unknown, unmade}
use Rattle.expr_sem.proofs.coder.Coder.argument.Goals as goal

pub returns-then-p-clause-codes : goal.returns-then-p-clause-codes
returns-then-p-clause-codes g c =
    let x = coded_in c.args.self.now.fragments.now.nodes.items c.args.x in
    described c.pass_argument.result c.pass_argument.ensures.codes
    (λ k. chosen c.args.p.by_ref (spec_checked k (parameter_view c.args.p) c.args.at x) (and_then (spec_as_value k c.args.at x) (spec_checked k (parameter_view c.args.p) c.args.at)) c.if-p.true)

pub returns-in-DontKnowYet-clause-codes : goal.returns-in-DontKnowYet-clause-codes
returns-in-DontKnowYet-clause-codes g c = unknown (rw c.in-DontKnowYet.is at c.in-Ok.ensures (g.S.Scopes.state c.args.self.now.scopes.now) c.args.self.now.fragments.now.nodes.items c.requires.x)

pub returns-in-Err-clause-codes : goal.returns-in-Err-clause-codes
returns-in-Err-clause-codes g c = unmade (c.in-Err.ensures (g.S.Scopes.state c.args.self.now.scopes.now) c.args.self.now.fragments.now.nodes.items c.requires.x) c.in-Err.memory

pub pass_argument-requires-2-clause-x : goal.pass_argument-requires-2-clause-x
pass_argument-requires-2-clause-x g c = (rw c.in-Known.is at c.in-Ok.ensures (g.S.Scopes.state c.args.self.now.scopes.now) c.args.self.now.fragments.now.nodes.items c.requires.x).there

pub returns-clause-codes : goal.returns-clause-codes
returns-clause-codes g c =
    let ns = c.args.self.now.fragments.now.nodes.items in
    let x = coded_in ns c.args.x in
    let first = rw c.in-Known.is at c.in-Ok.ensures (g.S.Scopes.state c.args.self.now.scopes.now) ns c.requires.x in
    described c.pass_argument-2.result
    (coding_after (λ k. spec_as_value k c.args.at x) (λ v k. spec_checked k (parameter_view c.args.p) c.args.at v) c.pass_argument-2.result first c.pass_argument-2.ensures.codes)
    (λ k. other c.args.p.by_ref (spec_checked k (parameter_view c.args.p) c.args.at x) (and_then (spec_as_value k c.args.at x) (spec_checked k (parameter_view c.args.p) c.args.at)) c.if-p.false)
