-- Elements as they are taken into a set.
use Rattle.std.proofs.Common.{◌≡◌, ◌∙◌, ℕ, Bool, true, false, Some, None, sym, ap, if◌then◌else◌}
use Rattle.std.specs.Prelude.{◌&&◌, not}
use Rattle.m2_base.specs.Gives.{Gives, gives}
use Rattle.m2_base.specs.Statics.Compatible.{is_compatible}
use Rattle.m2_base.specs.Statics.Contexts.{Context, refuse}
use Rattle.m2_base.specs.Statics.Diagnostics.{not_assignable}
use Rattle.m2_base.specs.Statics.Operands.{is_bad, is_procedure}
use Rattle.m2_base.specs.Statics.Sets.{checked_element, element_of}
use Rattle.m2_base.specs.Statics.Types.{is_broken}
use Rattle.m2_base.specs.declared.operands.Operand.{Operand}
use Rattle.m2_base.specs.declared.operands.Operand.TheVariants.{Computed, InError}
use Rattle.m2_base.specs.declared.rows.Place.{Place}
use Rattle.const_eval.proofs.Elements.{element, other, pair}
use Rattle.const_eval.proofs.Refusals.{none_of, some_of}

module _ (c : Context) (base : Place) (at : ℕ) (x : Operand) where
  -- where the element is compatible with the base, or else not
  abbrev pub taken_where : Bool → Gives Operand
  taken_where b = if b then checked_element c base at (element c x base) else refuse c at not_assignable InError

  pub taken_some : (p : Operand × Operand) → Some p ≡ pair c x base → checked_element c base at p.0 ≡ taken_where (is_compatible c.scene x (Computed base))
  taken_some p e =
      let is = some_of (is_compatible c.scene x (Computed base)) p (element c x base, other c x base) e in
      ap (λ (t : Operand × Operand). checked_element c base at t.0) is.1 ∙ sym (ap taken_where is.0)

  pub taken_none : None ≡ pair c x base → refuse c at not_assignable InError ≡ taken_where (is_compatible c.scene x (Computed base))
  taken_none e = sym (ap taken_where (none_of (is_compatible c.scene x (Computed base)) (element c x base, other c x base) e))

  abbrev by_tests : (bad broken procedure : Bool) → Gives Operand
  by_tests bad broken procedure =
      if bad then gives x else
      if broken then gives InError else
      if not procedure && is_compatible c.scene x (Computed base) then checked_element c base at (element c x base)
      else refuse c at not_assignable InError

  pub element_bad : is_bad x ≡ true → gives x ≡ element_of c base at x
  element_bad bad = sym (ap (λ b. by_tests b (is_broken c.scene base) (is_procedure x)) bad)

  pub element_broken : is_bad x ≡ false → is_broken c.scene base ≡ true → gives InError ≡ element_of c base at x
  element_broken good broken = sym (ap (λ b. by_tests b (is_broken c.scene base) (is_procedure x)) good ∙ ap (λ b. by_tests false b (is_procedure x)) broken)

  pub element_procedure : is_bad x ≡ false → is_broken c.scene base ≡ false → is_procedure x ≡ true → refuse c at not_assignable InError ≡ element_of c base at x
  element_procedure good whole procedure =
      sym (ap (λ b. by_tests b (is_broken c.scene base) (is_procedure x)) good ∙ ap (λ b. by_tests false b (is_procedure x)) whole ∙ ap (λ b. by_tests false false b) procedure)

  pub element_taken : is_bad x ≡ false → is_broken c.scene base ≡ false → is_procedure x ≡ false → taken_where (is_compatible c.scene x (Computed base)) ≡ element_of c base at x
  element_taken good whole value =
      sym (ap (λ b. by_tests b (is_broken c.scene base) (is_procedure x)) good ∙ ap (λ b. by_tests false b (is_procedure x)) whole ∙ ap (λ b. by_tests false false b) value)
