use Rattle.std.proofs.Common.{◌∙◌, Bool, Ok, ap, sym, subst, refl, if◌then◌else◌}
use Rattle.m2_base.specs.Gives.{and_then, gives}
use Rattle.m2_base.specs.Statics.Contexts.{Context}
use Rattle.m2_base.specs.Statics.Diagnostics.{not_assignable}
use Rattle.m2_base.specs.Statics.Operands.{operand_type}
use Rattle.m2_base.specs.declared.replies.Ask.TheVariants.{Known}
use Rattle.m2_base.specs.declared.rows.Place.{Place}
use Rattle.const_eval.proofs.TypesThere.{type_there}
use Rattle.type_rules.specs.Scenes.{IsThere}
use Rattle.block_code.specs.Coded as code
use Rattle.expr_sem.specs.Codings.{IsFragment, coded_in}
use Rattle.expr_sem.specs.Fragments.{part}
use Rattle.block_code.specs.Parts.{none}
use Rattle.block_code.specs.Values.{assigned_to}
use Rattle.expr_sem.specs.declared.fragments.Fragment.TheVariants.{Nothing}
use Rattle.expr_sem.proofs.Onwards.{coded_after, suits_after}
use Rattle.expr_sem.proofs.Operating.{coded_later, coding_after, described, unknown, unmade, value_alone}
use Rattle.expr_sem.proofs.Walking.{stands_after}
use Rattle.block_code.specs.Assignments.{store_code}
use Rattle.stmt_sem.proofs.walker.Walker.assignment.Goals as goal

pub returns-then-is_bad-clause-codes : goal.returns-then-is_bad-clause-codes
returns-then-is_bad-clause-codes g c =
    described (Ok (Known Nothing)) (value_alone _ c.args.self.now.notes.now c.args.self.now.fragments.now.nodes.items c.args.stand.now.site.now Nothing IsFragment part (λ k. none) tt (λ k. refl))
    (λ k. ap (λ (b : Bool). if b then gives none else and_then (assigned_to k (operand_type c.args.to.operand) c.args.x.at not_assignable (coded_in c.args.self.now.fragments.now.nodes.items c.args.x.coded)) (λ v. gives (store_code k (coded_in c.args.self.now.fragments.now.nodes.items c.args.to) v))) (sym c.if-is_bad.true ∙ c.is_bad.ensures))

pub assigned_to-requires-clause-to : goal.assigned_to-requires-clause-to
assigned_to-requires-clause-to g c =
    subst (λ (t : Place). IsThere (g.S.Scopes.state c.args.self.now.scopes.now).frame t) (sym c.operand_type-of.ensures) (type_there c.requires.stand.suits.around c.args.to.operand c.requires.to.operand)

pub returns-in-DontKnowYet-clause-codes : goal.returns-in-DontKnowYet-clause-codes
returns-in-DontKnowYet-clause-codes g c = unknown (rw c.in-DontKnowYet.is at c.in-Ok.ensures.codes)

pub returns-in-Err-clause-codes : goal.returns-in-Err-clause-codes
returns-in-Err-clause-codes g c = unmade c.in-Err.ensures.codes _

pub store_code-requires-clause-suits : goal.store_code-requires-clause-suits
store_code-requires-clause-suits g c = suits_after (rw c.in-Known.is at c.in-Ok.ensures.codes) c.requires.stand.suits

pub store_code-requires-clause-to : goal.store_code-requires-clause-to
store_code-requires-clause-to g c = coded_after (rw c.in-Known.is at c.in-Ok.ensures.codes) c.args.to c.requires.to

pub store_code-requires-clause-x : goal.store_code-requires-clause-x
store_code-requires-clause-x g c = stands_after (rw c.in-Known.is at c.in-Ok.ensures.codes)

pub returns-clause-codes : goal.returns-clause-codes
returns-clause-codes g c =
    let ns = c.args.self.now.fragments.now.nodes.items in
    let to = coded_in ns c.args.to in
    let taken = λ (k : Context). assigned_to k (operand_type c.args.to.operand) c.args.x.at not_assignable (coded_in ns c.args.x.coded) in
    let one = rw c.in-Known.is at c.in-Ok.ensures.codes in
    let value = coded_in c.assigned_to.new.self.fragments.now.nodes.items c.in-Known.value in
    described c.store_code.result
    (coding_after taken (λ v k. gives (store_code k to v)) c.store_code.result
    (described _ one (λ k. ap (λ (t : Place). assigned_to k t c.args.x.at not_assignable (coded_in ns c.args.x.coded)) c.operand_type-of.ensures))
    (described c.store_code.result (c.store_code.ensures c.assigned_to.new.self.notes.now) (λ k. ap (λ (u : code.Coded). gives (store_code k u value)) (coded_later one.grows c.args.to c.requires.to))))
    (λ k. ap (λ (b : Bool). if b then gives none else and_then (taken k) (λ v. gives (store_code k to v))) (sym c.if-is_bad.false ∙ c.is_bad.ensures))
