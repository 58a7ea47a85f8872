use Rattle.std.proofs.Common.{◌≡◌, ◌∙◌, ℕ, ℤ, None, Ok, Option, Some, false, refl, true, ap, sym, subst}
use Rattle.std.specs.Option.{IfSome}
use Rattle.m2_base.specs.Gives.{gives}
use Rattle.m2_base.specs.Rows.{is_same_place}
use Rattle.m2_base.specs.Standard.{text_type}
use Rattle.m2_base.specs.States.{Frame}
use Rattle.m2_base.specs.Statics.Constants.{constant_or_refused}
use Rattle.m2_base.specs.Statics.Contexts.{Context, refuse}
use Rattle.m2_base.specs.Statics.Diagnostics.{not_a_constant}
use Rattle.m2_base.specs.declared.operands.Operand.{Operand}
use Rattle.m2_base.specs.declared.operands.Operand.TheVariants.{Constant, InError, StringConstant}
use Rattle.m2_base.specs.declared.replies.Ask.TheVariants.{Known}
use Rattle.m2_base.specs.declared.rows.Place.{Place}
use Rattle.m2_base.proofs.Kept.{Works-refl}
use Rattle.const_eval.specs.NamedTexts.{IsNamedText}
use Rattle.const_eval.specs.Sites.{IsOperand}
use Rattle.const_eval.proofs.Analysing.{and_after, described, failed, value_everywhere, waiting}
use Rattle.const_eval.proofs.constants.constant_or_refused.Goals as goal

abbrev MayStand : Frame → Option Operand → Type 0
MayStand f constant = IfSome constant (λ operand. IsOperand f operand × IsNamedText f operand)

none_given : (c : Context) (at : ℕ) (o : Operand) → ((t : Place) (v : ℤ) → o ≡ Constant t v → ⊥) → ((n l : ℕ) → o ≡ StringConstant n l → ⊥) → (o ≡ InError → ⊥)
    → refuse {T = Option Operand} c at not_a_constant None ≡ constant_or_refused c at o
none_given c at (Constant t v) constant string in_error = absurd (constant t v refl)
none_given c at (StringConstant n l) constant string in_error = absurd (string n l refl)
none_given c at InError constant string in_error = absurd (in_error refl)
none_given c at o constant string in_error = refl

true_not_false : true ≡ false → ⊥
true_not_false e = absurd (cc)

no_text : (f : Frame) (o : Operand) (t : Place) (v : ℤ) → o ≡ Constant t v → is_same_place t text_type ≡ false → IsNamedText f o
no_text f o t v e other = subst (λ (u : Operand). IsNamedText f u) (sym e) (λ same. absurd (true_not_false (sym (ap (λ u. is_same_place u text_type) same) ∙ other)))

named : (f : Frame) (o : Operand) (n l : ℕ) → o ≡ StringConstant n l → IsNamedText f o
named f o n l e = subst (λ (u : Operand). IsNamedText f u) (sym e) tt

pub returns-then-eq : goal.returns-then-eq
returns-then-eq c now h = record { works = Works-refl now c.args.notes.now; waits = tt; told = λ made in_hand told of_site. tt; there = tt }

pub returns-else-eq : goal.returns-else-eq
returns-else-eq c now h =
    value_everywhere now c.args.notes.now c.args.site.now (Some (Constant c.in-Constant.of c.in-Constant.field-1)) MayStand (λ k. constant_or_refused k c.args.at c.args.operand)
    (subst (λ (u : Operand). IsOperand now.frame u) c.in-Constant.is h, no_text now.frame (Constant c.in-Constant.of c.in-Constant.field-1) c.in-Constant.of c.in-Constant.field-1 refl (sym c.eq.ensures ∙ c.if-eq.false))
    (λ k. ap (constant_or_refused k c.args.at) (sym c.in-Constant.is))

pub returns-in-StringConstant : goal.returns-in-StringConstant
returns-in-StringConstant c now h =
    value_everywhere now c.args.notes.now c.args.site.now (Some c.args.operand) MayStand (λ k. constant_or_refused k c.args.at c.args.operand)
    (h, named now.frame c.args.operand c.in-StringConstant.field-0 c.in-StringConstant.field-1 c.in-StringConstant.is)
    (λ k. ap (λ o. gives (Some o)) c.in-StringConstant.is ∙ ap (constant_or_refused k c.args.at) (sym c.in-StringConstant.is))

pub returns-in-InError : goal.returns-in-InError
returns-in-InError c now h =
    value_everywhere now c.args.notes.now c.args.site.now None MayStand (λ k. constant_or_refused k c.args.at c.args.operand) tt
    (λ k. ap (constant_or_refused k c.args.at) (sym c.in-InError.is))

pub returns-in-DontKnowYet : goal.returns-in-DontKnowYet
returns-in-DontKnowYet c now h = waiting (rw c.in-DontKnowYet.is at c.in-Ok.ensures now)

pub returns-in-Err : goal.returns-in-Err
returns-in-Err c now h = failed (c.in-Err.ensures now) _

pub returns-in-Known : goal.returns-in-Known
returns-in-Known c now h =
    described (Ok (Known None)) (and_after (λ k. refuse k c.args.at not_a_constant InError) (λ o k. gives None) (Ok (Known None)) (rw c.in-Known.is at c.in-Ok.ensures now)
    (value_everywhere now c.fault_noted.new.notes c.args.site.now None MayStand (λ k. gives None) tt (λ k. refl)))
    (λ k. none_given k c.args.at c.args.operand c.in_default.not-Constant c.in_default.not-StringConstant c.in_default.not-InError)

pub eq-requires : goal.eq-requires
eq-requires c = tt

pub fault_noted-requires : goal.fault_noted-requires
fault_noted-requires c = tt
