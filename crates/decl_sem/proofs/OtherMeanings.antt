-- What follows where a row is none of the kinds that a choice names.
use Rattle.std.specs.Prelude.{◌≡◌, ℕ, List, [], if◌then◌else◌}
use Rattle.std.proofs.Common.{refl}
use Rattle.m2_base.specs.Statics.Closing.{implemented, is_implemented, is_missing, procedure_implements, type_implements}
use Rattle.m2_base.specs.Statics.Contexts.{Scene}
use Rattle.m2_base.specs.Statics.ImportedConstants.{members_by}
use Rattle.m2_base.specs.Statics.Lookup.{Entry}
use Rattle.m2_base.specs.Statics.Uses.{followed_by}
use Rattle.m2_base.specs.declared.rows.Place.{Place}
use Rattle.m2_base.specs.declared.rows.Row.{Row}
use Rattle.m2_base.specs.declared.rows.RowMeaning.{RowMeaning}
use Rattle.m2_base.specs.declared.rows.RowMeaning.TheVariants.{Alias, Enum, Proc, TypeName}

-- no type's name implements no opaque type
pub no_type_name : (scene : Scene) (m : RowMeaning) → ((t : Place) → m ≡ TypeName t → ⊥) → is_missing ≡ (if type_implements scene m then is_implemented else is_missing)
no_type_name scene (TypeName t) other = absurd (other t refl)
no_type_name scene m other = refl

-- no procedure implements no heading
pub no_procedure : (scene : Scene) (heading : Place) (at : ℕ) (m : RowMeaning) → ((t : Place) (number scope : ℕ) → m ≡ Proc t number scope → ⊥) → is_missing ≡ procedure_implements scene heading at m
no_procedure scene heading at (Proc t number scope) other = absurd (other t number scope refl)
no_procedure scene heading at m other = refl

-- what is neither promises nothing
pub none_promised : (scene : Scene) (own o name : ℕ) (m : RowMeaning) → ((t : Place) → m ≡ TypeName t → ⊥) → ((t : Place) (number scope : ℕ) → m ≡ Proc t number scope → ⊥) → is_implemented ≡ implemented scene own o name m
none_promised scene own o name (TypeName t) no_name no_proc = absurd (no_name t refl)
none_promised scene own o name (Proc t number scope) no_name no_proc = absurd (no_proc t number scope refl)
none_promised scene own o name m no_name no_proc = refl

-- what is no alias leads to itself
pub no_alias : (scene : Scene) (e : Entry) (m : RowMeaning) → ((p : Place) → m ≡ Alias p → ⊥) → e ≡ followed_by scene e m
no_alias scene e (Alias p) other = absurd (other p refl)
no_alias scene e m other = refl

-- what is no enumeration has no constants
pub no_constants : (tables : List (List Row)) (t : Place) (m : RowMeaning) → ((n : ℕ) → m ≡ Enum n → ⊥) → members_by tables t m ≡ []
no_constants tables t (Enum n) other = absurd (other n refl)
no_constants tables t m other = refl
