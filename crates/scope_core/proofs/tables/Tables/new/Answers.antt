use Rattle.std.proofs.Common.{◌≡◌, ◌∙◌, ◌≤◌, ℕ, ap, arith, replicate}
use Rattle.m2_base.specs.Tables.{no_rows}
use Rattle.scope_core.specs.Kept.{tables_in}
use Rattle.scope_core.proofs.KeptTables.{empty_more, small_tables}
use Rattle.m2_base.proofs.Without.{if_ok_of_err}
use Rattle.scope_core.proofs.tables.Tables.new.Goals as goal

-- where the loop ends
at_end : (n m : ℕ) → m ≤ n → n ≤ m → n ≡ m
at_end n m h k = omega arith

pub loop-init : goal.loop-init
loop-init c = ap tables_in c.in_ok-list.ensures.items

pub loop-preserved : goal.loop-preserved
loop-preserved c = empty_more _ _ c.in_ok-scope.scope _ c.in_ok-push.ensures.items c.loop.invariant c.in_ok-scope.ensures.table

pub invariant_of-result : goal.invariant_of-result
invariant_of-result c = small_tables c.loop.counter c.loop.list.items c.loop.invariant

pub returns : goal.returns
returns c = c.loop.invariant ∙ ap (λ n. replicate n no_rows) (at_end _ _ c.loop-test.false c.loop.auto.counter-end)

pub returns-in_err-list : goal.returns-in_err-list
returns-in_err-list c = if_ok_of_err _ c.from_residual.result c.from_residual.ensures.0

pub returns-in_err-scope : goal.returns-in_err-scope
returns-in_err-scope c = if_ok_of_err _ c.from_residual-in_err-scope.result c.from_residual-in_err-scope.ensures.0

pub returns-in_err-push : goal.returns-in_err-push
returns-in_err-push c = if_ok_of_err _ c.from_residual-in_err-push.result c.from_residual-in_err-push.ensures.0
