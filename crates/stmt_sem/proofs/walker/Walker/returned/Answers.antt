use Rattle.std.proofs.Common.{◌∙◌, Option, ℕ, ap, sym, option_map}
use Rattle.m2_base.specs.Gives.{and_then}
use Rattle.m2_base.specs.Views.{expr_view}
use Rattle.m2_base.specs.declared.trees.expressions.Expr.{Expr}
use Rattle.const_eval.proofs.ReadParts.{at_seen}
use Rattle.expr_sem.specs.Codings.{with_types}
use Rattle.block_code.specs.Expressions.{value}
use Rattle.expr_sem.proofs.Operating.{coding_after, described}
use Rattle.block_code.specs.Returns.{return_value}
use Rattle.stmt_sem.specs.Stands.{stand_in}
use Rattle.block_code.specs.Statements.{return_of}
use Rattle.stmt_sem.proofs.FlowsBehind.{stand_on}
use Rattle.stmt_sem.proofs.walker.Walker.returned.Goals as goal

pub returns-in-None-clause-codes : goal.returns-in-None-clause-codes
returns-in-None-clause-codes g c =
    described c.return_alone.result (c.return_alone.ensures (g.S.Scopes.state c.args.self.now.scopes.now))
    (λ k. ap (λ (v : Option Expr). return_of (stand_in k c.args.stand.now) c.args.at (option_map expr_view v)) (sym c.in-None.is))

pub returns-in-Known-clause-codes : goal.returns-in-Known-clause-codes
returns-in-Known-clause-codes g c =
    let e = c.in-Some.e in
    let s = c.args.stand.now in
    let ws = with_types s.withs.now in
    described c.return_value.result (coding_after (λ k. value k ws (expr_view e)) (λ x k. return_value k c.args.at s.result e.at x) c.return_value.result (rw c.in-Known.is at c.in-Ok.ensures.codes) c.return_value.ensures.codes)
    (λ k. ap (λ (at : ℕ). and_then (value k ws (expr_view e)) (λ x. return_value k c.args.at s.result at x)) (sym (at_seen e))
    ∙ ap (λ (v : Option Expr). return_of (stand_in k s) c.args.at (option_map expr_view v)) (sym c.in-Some.is))

pub return_value-requires-clause-stand : goal.return_value-requires-clause-stand
return_value-requires-clause-stand g c = stand_on (rw c.in-Known.is at c.in-Ok.ensures.codes) c.args.stand.now c.requires.stand
