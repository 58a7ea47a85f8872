use Rattle.std.proofs.Common.{◌∙◌, ℕ, Bool, Ok, ap, sym, subst, if◌then◌else◌}
use Rattle.m2_base.specs.Gives.{and_then, gives}
use Rattle.m2_base.specs.Statics.Diagnostics.{not_assignable}
use Rattle.m2_base.specs.Statics.Operands.{operand_type}
use Rattle.m2_base.specs.Trees.{expr_at}
use Rattle.m2_base.specs.Views.{expr_view}
use Rattle.m2_base.specs.declared.replies.Ask.TheVariants.{Known}
use Rattle.m2_base.specs.declared.rows.Place.{Place}
use Rattle.const_eval.proofs.ReadParts.{at_seen}
use Rattle.const_eval.proofs.TypesThere.{type_there}
use Rattle.type_rules.specs.Scenes.{IsThere}
use Rattle.block_code.specs.Coded.{in_error}
use Rattle.expr_sem.specs.Codings.{coded_in, with_types}
use Rattle.block_code.specs.Expressions.{value}
use Rattle.block_code.specs.Values.{assigned_to}
use Rattle.expr_sem.proofs.Onwards.{coded_after, suits_after}
use Rattle.expr_sem.proofs.Operating.{coding_after, described, unknown, unmade}
use Rattle.expr_sem.proofs.Selecting.{error_alone}
use Rattle.expr_sem.proofs.Walking.{stands_after}
use Rattle.block_code.specs.Counting.{bound_value}
use Rattle.stmt_sem.proofs.FlowsBehind.{stand_on}
use Rattle.stmt_sem.proofs.walker.Walker.check_bound.Goals as goal

pub returns-in-DontKnowYet-clause-codes : goal.returns-in-DontKnowYet-clause-codes
returns-in-DontKnowYet-clause-codes g c = unknown (rw c.in-DontKnowYet.is at c.in-Ok.ensures.codes)

pub returns-in-Err-clause-codes : goal.returns-in-Err-clause-codes
returns-in-Err-clause-codes g c = unmade c.in-Err.ensures.codes _

pub returns-then-is_bad-clause-codes : goal.returns-then-is_bad-clause-codes
returns-then-is_bad-clause-codes g c =
    let e = expr_view c.args.e.now in
    let x = coded_in c.args.self.now.fragments.now.nodes.items c.args.x in
    let v = coded_in c.value_of.new.self.fragments.now.nodes.items c.in-Known.value in
    coding_after (λ k. value k (with_types c.args.stand.now.withs.now) e) (λ o k. bound_value k x (expr_at e) o) (Ok (Known c.in_error.result)) (rw c.in-Known.is at c.in-Ok.ensures.codes)
    (error_alone (g.S.Scopes.state c.value_of.new.self.scopes.now) c.value_of.new.self.notes.now c.value_of.new.self.fragments.now.nodes.items c.args.stand.now.site.now c.in_error.result (λ k. bound_value k x (expr_at e) v) c.in_error.ensures.told c.in_error.ensures.there
    (λ k. ap (λ (b : Bool). if b then gives in_error else assigned_to k (operand_type c.args.x.operand) (expr_at e) not_assignable v) (sym c.if-is_bad.true ∙ c.is_bad.ensures)))

pub assigned_to-requires-clause-stand : goal.assigned_to-requires-clause-stand
assigned_to-requires-clause-stand g c = stand_on (rw c.in-Known.is at c.in-Ok.ensures.codes) c.args.stand.now c.requires.stand

pub assigned_to-requires-clause-to : goal.assigned_to-requires-clause-to
assigned_to-requires-clause-to g c =
    let one = rw c.in-Known.is at c.in-Ok.ensures.codes in
    subst (λ (t : Place). IsThere (g.S.Scopes.state c.value_of.new.self.scopes.now).frame t) (sym c.operand_type-of.ensures) (type_there (suits_after one c.requires.stand.suits).around c.args.x.operand (coded_after one c.args.x c.requires.x).operand)

pub assigned_to-requires-clause-x : goal.assigned_to-requires-clause-x
assigned_to-requires-clause-x g c = stands_after (rw c.in-Known.is at c.in-Ok.ensures.codes)

pub returns-clause-codes : goal.returns-clause-codes
returns-clause-codes g c =
    let e = c.args.e.now in
    let ws = with_types c.args.stand.now.withs.now in
    let one = (rw c.in-Known.is at c.in-Ok.ensures.codes) in
    let x = coded_in c.args.self.now.fragments.now.nodes.items c.args.x in
    let v = coded_in c.value_of.new.self.fragments.now.nodes.items c.in-Known.value in
    described c.assigned_to.result (coding_after (λ k. value k ws (expr_view e)) (λ o k. bound_value k x e.at o) c.assigned_to.result one
    (described c.assigned_to.result c.assigned_to.ensures.codes
    (λ k. ap (λ (t : Place). assigned_to k t e.at not_assignable v) c.operand_type-of.ensures
    ∙ ap (λ (b : Bool). if b then gives in_error else assigned_to k (operand_type c.args.x.operand) e.at not_assignable v) (sym c.if-is_bad.false ∙ c.is_bad.ensures))))
    (λ k. ap (λ (at : ℕ). and_then (value k ws (expr_view e)) (λ o. bound_value k x at o)) (sym (at_seen e)))
