-- An element and a set.
use Rattle.std.proofs.Common.{◌≡◌, ◌∙◌, ℕ, Bool, true, false, Option, Some, None, refl, sym, ap, if◌then◌else◌}
use Rattle.std.specs.Prelude.{◌&&◌}
use Rattle.m2_base.specs.Gives.{Gives, and_then, gives}
use Rattle.m2_base.specs.Statics.Compatible.{is_compatible, taken_beside}
use Rattle.m2_base.specs.Statics.Contexts.{Context}
use Rattle.m2_base.specs.Statics.Operations.{as_number, is_ordinal, member_of_set, membership, membership_in, wrong}
use Rattle.m2_base.specs.Statics.Types.{base_of, is_broken}
use Rattle.m2_base.specs.declared.operands.Operand.{Operand}
use Rattle.m2_base.specs.declared.operands.Operand.TheVariants.{Computed, InError}
use Rattle.m2_base.specs.declared.rows.Place.{Place}
use Rattle.m2_base.specs.declared.rows.RowMeaning.{RowMeaning}
use Rattle.m2_base.specs.declared.rows.RowMeaning.TheVariants.{Set}
use Rattle.const_eval.specs.Structures.{set_row_by}
use Rattle.const_eval.proofs.Refusals.{none_of, some_of}

-- what isn't anything
pub none_is : {T : Type 0} (o : Option T) → ((x : T) → o ≡ Some x → ⊥) → o ≡ None
none_is None none = refl
none_is (Some x) none = absurd (none x refl)

module _ (c : Context) (x : Operand) (base : Place) where
  abbrev pub element : Operand
  element = taken_beside c.source c.scene x (Computed base)

  abbrev pub other : Operand
  other = taken_beside c.source c.scene (Computed base) x

  abbrev pub pair : Option (Operand × Operand)
  pair = if is_compatible c.scene x (Computed base) then Some (element, other) else None

  abbrev pub ordinal : Option Operand
  ordinal = if is_compatible c.scene x (Computed base) && is_ordinal c element then Some element else None

  -- compatible, and then ordinal or not
  pub ordinal_some : (e : Operand) (b : Bool) → is_compatible c.scene x (Computed base) ≡ true → e ≡ element → b ≡ is_ordinal c e → (if b then Some e else None) ≡ ordinal
  ordinal_some e b holds same is =
      ap (λ t. if t then Some e else None) is
      ∙ ap (λ (o : Operand). if is_ordinal c o then Some o else None) same
      ∙ sym (ap (λ t. if t && is_ordinal c element then Some element else None) holds)

  pub ordinal_none : is_compatible c.scene x (Computed base) ≡ false → None ≡ ordinal
  ordinal_none fails = sym (ap (λ t. if t && is_ordinal c element then Some element else None) fails)

pick_some : (b : Bool) (t e : Operand) (k : Operand → Gives Operand) (w : Gives Operand) → Some e ≡ (if b then Some t else None) → k e ≡ (if b then k t else w)
pick_some b t e k w h =
    let is = some_of b e t h in
    ap k is.1 ∙ sym (ap (λ n. if n then k t else w) is.0)

pick_none : (b : Bool) (t : Operand) (k : Operand → Gives Operand) (w : Gives Operand) → None ≡ (if b then Some t else None) → w ≡ (if b then k t else w)
pick_none b t k w h = sym (ap (λ n. if n then k t else w) (none_of b t h))

module _ (c : Context) (at : ℕ) (x : Operand) (x_at : ℕ) (y : Operand) where
  abbrev pub within : Place → Gives Operand
  within base =
      if is_compatible c.scene x (Computed base) && is_ordinal c (element c x base) then
      and_then (as_number c x_at (base_of c.scene base) (element c x base)) (λ e. gives (member_of_set e y))
      else wrong c at

  pub within_some : (base : Place) (e : Operand) → Some e ≡ ordinal c x base → and_then (as_number c x_at (base_of c.scene base) e) (λ v. gives (member_of_set v y)) ≡ within base
  within_some base e h =
      pick_some (is_compatible c.scene x (Computed base) && is_ordinal c (element c x base)) (element c x base) e
      (λ t. and_then (as_number c x_at (base_of c.scene base) t) (λ v. gives (member_of_set v y))) (wrong c at) h

  pub within_none : (base : Place) → None ≡ ordinal c x base → wrong c at ≡ within base
  within_none base h =
      pick_none (is_compatible c.scene x (Computed base) && is_ordinal c (element c x base)) (element c x base)
      (λ t. and_then (as_number c x_at (base_of c.scene base) t) (λ v. gives (member_of_set v y))) (wrong c at) h

  pub in_by : (base : Place) (b : Bool) → b ≡ is_broken c.scene base → (if b then gives InError else within base) ≡ membership_in c at x x_at y base
  in_by base b e = ap (λ t. if t then gives InError else within base) e

  pub in_set : (p : Place) (m : RowMeaning) (row : Place × Place) → Some row ≡ set_row_by p m → membership_in c at x x_at y row.1 ≡ membership c at x x_at y m
  in_set p (Set b) row e = let same : row.1 ≡ b = cc in ap (membership_in c at x x_at y) same
  in_set p m row e = absurd (cc)

  pub in_none : (p : Place) (m : RowMeaning) → None ≡ set_row_by p m → wrong c at ≡ membership c at x x_at y m
  in_none p (Set b) e = absurd (cc)
  in_none p m e = refl
