-- What holds of one of two values, by the test that chooses it.
use Rattle.std.specs.Prelude.{◌≡◌, Bool, true, false, if◌then◌else◌, ℕ}
use Rattle.std.proofs.Common.{refl, subst, sym}
use Rattle.m2_base.specs.Lists.{Each}
use Rattle.m2_base.specs.Rows.{row_of}
use Rattle.m2_base.specs.declared.rows.Place.{Place}
use Rattle.m2_base.specs.declared.rows.Row.{Row}
use Rattle.m2_base.specs.declared.rows.RowMeaning.{RowMeaning}
use Rattle.m2_base.specs.Standard.{is_standard}
use Rattle.m2_base.specs.Statics.Contexts.{Context}
use Rattle.m2_base.specs.Statics.Lookup.{has_name}
use Rattle.m2_base.specs.Statics.Makes.{Makes, makes_named}
use Rattle.m2_base.proofs.SoundTypes.{either}

-- of two values one, by what the test says
pub either_by : {A : Type 0} (P : A → Type 0) (b : Bool) (x y : A) → (b ≡ true → P x) → (b ≡ false → P y) → P (if b then x else y)
either_by P true x y h k = h refl
either_by P false x y h k = k refl

-- of two values the second, where the test fails
pub where_false : {A : Type 0} (P : A → Type 0) (b : Bool) (x y : A) → b ≡ false → P y → P (if b then x else y)
where_false P b x y e h = subst (λ t. P (if t then x else y)) (sym e) h

-- of each row that a name makes, with the name or without it
pub named_each : (P : Row → Type 0) (c : Context) (name at : ℕ) (m : RowMeaning) → ((n : ℕ) → P (row_of n at m)) → Each P (makes_named c name at m).rows
named_each P c name at m h =
    either (λ (x : Makes Place). Each P x.rows) (is_standard name) _ _ (h 0, tt)
    (either (λ (x : Makes Place). Each P x.rows) (has_name c.scene.tables c.scene.block.scope name) _ _ (h 0, tt) (h name, tt))
