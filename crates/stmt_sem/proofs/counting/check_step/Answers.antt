use Rattle.std.proofs.Common.{◌≡◌, ◌∙◌, [], ℕ, suc, zero, ℤ, pos, negsuc, Bool, true, false, Option, Some, None, Ok, not, ap, sym, refl, rules, of_z, to_z, w64, if◌then◌else◌}
use Rattle.m2_base.specs.Gives.{Gives, and_then, gives}
use Rattle.m2_base.specs.States.{Frame}
use Rattle.m2_base.specs.Statics.Compatible.{is_number_type}
use Rattle.m2_base.specs.Statics.Contexts.{Context, refuse}
use Rattle.m2_base.specs.Statics.Diagnostics.{out_of_range, wrong_operands}
use Rattle.m2_base.specs.declared.operands.Operand.{Operand}
use Rattle.m2_base.specs.declared.replies.Ask.TheVariants.{DontKnowYet, Known}
use Rattle.type_rules.specs.Scenes.{IsThere}
use Rattle.type_rules.specs.Sites.{context_of}
use Rattle.expr_sem.proofs.Making.{after_question, question_waits}
use Rattle.expr_sem.proofs.Onwards.{holds_after, suits_after}
use Rattle.expr_sem.proofs.Operating.{described, of_analysed, unknown, unmade, value_alone}
use Rattle.block_code.specs.Counting.{is_zero, or_one}
use Rattle.stmt_sem.specs.Plain.{IsStep, itself}
use Rattle.stmt_sem.proofs.ActionCases.{by_other}
use Rattle.stmt_sem.proofs.LoopCases.{no_step, step_by, step_found, step_of}
use Rattle.stmt_sem.proofs.counting.check_step.Goals as goal

-- a constant, by whether it is a number and whether it is 0
abbrev checked : Context → (at : ℕ) → (value : ℤ) → (number nothing : Bool) → Gives ℤ
checked k at v number nothing =
    and_then (if not number then refuse k at wrong_operands None else if nothing then refuse k at out_of_range None else gives (Some v)) (λ n. gives (or_one n))

nothing : (v : ℤ) → to_z w64 (of_z w64 v) ≡ v → of_z w64 v ≡ 0 → true ≡ is_zero v
nothing v same e = ap is_zero (ap (to_z w64) (sym e) ∙ same)

something : (v : ℤ) → (of_z w64 v ≡ 0 → ⊥) → false ≡ is_zero v
something (pos zero) h = absurd (h refl)
something (pos (suc n)) h = refl
something (negsuc n) h = refl

pub returns-in_default : goal.returns-in_default
returns-in_default g c s nodes =
    described (Ok (Known (pos 1))) (value_alone (g.S.Scopes.state c.args.scopes.now) c.args.notes.now nodes c.args.site.now (pos 1) IsStep itself (λ k. pos 1) tt (λ k. refl))
    (λ k. ap (step_of k s) (no_step c.args.by.now c.in_default.not-Some))

pub returns-in-DontKnowYet : goal.returns-in-DontKnowYet
returns-in-DontKnowYet g c s nodes = unknown (of_analysed nodes _ (rw c.in-DontKnowYet.is at c.in-Ok.ensures.analysed))

pub returns-in-Err : goal.returns-in-Err
returns-in-Err g c s nodes = unmade (of_analysed nodes _ c.in-Err.ensures.analysed) _

-- no constant
pub returns-in_default-2 : goal.returns-in_default-2
returns-in_default-2 g c s nodes =
    let e = c.in-Some.e in
    step_found nodes s c.args.by.now e (Ok (Known (pos 1))) (sym c.in-Some.is) (rw c.in-Known.is at c.in-Ok.ensures.analysed)
    (described (Ok (Known (pos 1))) (value_alone (g.S.Scopes.state c.constant.new.scopes) c.constant.new.notes nodes c.args.site.now (pos 1) IsStep itself (λ k. pos 1) tt (λ k. refl))
    (λ k. ap (step_by k e.at) (no_step c.in-Known.value c.in_default-2.not-Some)))

-- a constant of no type of numbers
pub returns-in_default-operand : goal.returns-in_default-operand
returns-in_default-operand g c s nodes =
    let e = c.in-Some.e in
    step_found nodes s c.args.by.now e c.refused_step.result (sym c.in-Some.is) (rw c.in-Known.is at c.in-Ok.ensures.analysed)
    (described c.refused_step.result (c.refused_step.ensures (g.S.Scopes.state c.constant.new.scopes) nodes)
    (λ k. ap (λ (r : Gives (Option ℤ)). and_then r (λ n. gives (or_one n))) (by_other k e.at c.in-Some-2.operand c.in_default-operand.not-Constant) ∙ ap (step_by k e.at) (sym c.in-Some-2.is)))

pub base_of-requires-clause-suits : goal.base_of-requires-clause-suits
base_of-requires-clause-suits g c = (suits_after (of_analysed [] _ (rw c.in-Known.is at c.in-Ok.ensures.analysed)) c.requires.suits).around

pub base_of-requires-clause-there : goal.base_of-requires-clause-there
base_of-requires-clause-there g c =
    holds_after (of_analysed [] _ (rw c.in-Known.is at c.in-Ok.ensures.analysed)) (λ (f : Frame). IsThere f c.in-Constant.of) (rw c.in-Constant.is at (rw c.in-Some-2.is at (rw c.in-Known.is at c.in-Ok.ensures.analysed).there)).0.0

pub returns-in-DontKnowYet-base_of : goal.returns-in-DontKnowYet-base_of
returns-in-DontKnowYet-base_of g c s nodes =
    step_found nodes s c.args.by.now c.in-Some.e (Ok (DontKnowYet c.in-DontKnowYet-base_of.head)) (sym c.in-Some.is) (rw c.in-Known.is at c.in-Ok.ensures.analysed)
    (question_waits _ nodes c.base_of.ensures.reads c.in-DontKnowYet-base_of.ensures.waits)

-- a constant of a type, whose base is known
pub returns-then-not-is_number : goal.returns-then-not-is_number
returns-then-not-is_number g c s nodes =
    let e = c.in-Some.e in
    let v = c.in-Constant.value in
    let r = c.refused_step-then-not-is_number.result in
    step_found nodes s c.args.by.now e r (sym c.in-Some.is) (rw c.in-Known.is at c.in-Ok.ensures.analysed)
    (after_question r c.in-Known-base_of.ensures.reads (c.refused_step-then-not-is_number.ensures (g.S.Scopes.state c.base_of.new.scopes) nodes)
    (λ made in_hand told. let k = context_of (g.S.Scopes.state c.constant.new.scopes).frame made c.args.site.now in
    ap (λ (b : Bool). checked k e.at v b (is_zero v)) (sym c.if-not-is_number.true ∙ c.is_number.ensures ∙ ap is_number_type (c.in-Known-base_of.ensures.told made in_hand told))
    ∙ ap (λ (o : Operand). step_by k e.at (Some o)) (sym c.in-Constant.is) ∙ ap (step_by k e.at) (sym c.in-Some-2.is)))

pub returns-then-value-eq0 : goal.returns-then-value-eq0
returns-then-value-eq0 g c s nodes =
    let e = c.in-Some.e in
    let v = c.in-Constant.value in
    let value : to_z w64 (of_z w64 v) ≡ v = search rules in
    let r = c.refused_step-then-value-eq0.result in
    step_found nodes s c.args.by.now e r (sym c.in-Some.is) (rw c.in-Known.is at c.in-Ok.ensures.analysed)
    (after_question r c.in-Known-base_of.ensures.reads (c.refused_step-then-value-eq0.ensures (g.S.Scopes.state c.base_of.new.scopes) nodes)
    (λ made in_hand told. let k = context_of (g.S.Scopes.state c.constant.new.scopes).frame made c.args.site.now in
    ap (checked k e.at v true) (nothing v value c.if-value-eq0.true)
    ∙ ap (λ (b : Bool). checked k e.at v b (is_zero v)) (sym c.if-not-is_number.false ∙ c.is_number.ensures ∙ ap is_number_type (c.in-Known-base_of.ensures.told made in_hand told))
    ∙ ap (λ (o : Operand). step_by k e.at (Some o)) (sym c.in-Constant.is) ∙ ap (step_by k e.at) (sym c.in-Some-2.is)))

pub returns : goal.returns
returns g c s nodes =
    let e = c.in-Some.e in
    let v = c.in-Constant.value in
    let value : to_z w64 (of_z w64 v) ≡ v = search rules in
    let r = Ok (Known (to_z w64 (of_z w64 v))) in
    step_found nodes s c.args.by.now e r (sym c.in-Some.is) (rw c.in-Known.is at c.in-Ok.ensures.analysed)
    (after_question r c.in-Known-base_of.ensures.reads (value_alone (g.S.Scopes.state c.base_of.new.scopes) c.constant.new.notes nodes c.args.site.now (to_z w64 (of_z w64 v)) IsStep itself (λ k. v) tt (λ k. value))
    (λ made in_hand told. let k = context_of (g.S.Scopes.state c.constant.new.scopes).frame made c.args.site.now in
    ap (checked k e.at v true) (something v c.if-value-eq0.false)
    ∙ ap (λ (b : Bool). checked k e.at v b (is_zero v)) (sym c.if-not-is_number.false ∙ c.is_number.ensures ∙ ap is_number_type (c.in-Known-base_of.ensures.told made in_hand told))
    ∙ ap (λ (o : Operand). step_by k e.at (Some o)) (sym c.in-Constant.is) ∙ ap (step_by k e.at) (sym c.in-Some-2.is)))
