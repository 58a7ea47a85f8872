-- What the row of a set type gives.
use Rattle.std.proofs.Common.{◌≡◌, ℕ, refl, if◌then◌else◌, ◌≢◌}
use Rattle.m2_base.specs.Gives.{gives}
use Rattle.m2_base.specs.Standard.{broken}
use Rattle.m2_base.specs.Statics.Contexts.{Context, refuse}
use Rattle.m2_base.specs.Statics.Diagnostics.{wrong_index, not_a_type}
use Rattle.m2_base.specs.Statics.Operations.{is_set_kind}
use Rattle.m2_base.specs.Statics.Sets.{set_base_by, set_type_of}
use Rattle.m2_base.specs.declared.rows.Place.{Place}
use Rattle.m2_base.specs.declared.rows.RowMeaning.{RowMeaning}
use Rattle.m2_base.specs.declared.rows.RowMeaning.TheVariants.{Set}
use Rattle.m2_base.specs.declared.operands.Operand.{Operand}
use Rattle.m2_base.specs.declared.operands.Operand.TheVariants.{InError, NamedType}
use Rattle.const_eval.specs.Structures.{base_by, set_row_by, type_by}

pub set_type_is : (c : Context) (at : ℕ) (p : Place) (m : RowMeaning) → type_by c at (set_row_by p m) ≡ (if is_set_kind m then gives p else refuse c at wrong_index broken)
set_type_is c at p (Set b) = refl
set_type_is c at p m = refl

pub set_base_is : (p : Place) (m : RowMeaning) → base_by (set_row_by p m) ≡ set_base_by m
set_base_is p (Set b) = refl
set_base_is p m = refl

-- what is neither a type nor in error
pub no_type : (c : Context) (at : ℕ) (x : Operand) → ((t : Place) → x ≡ NamedType t → ⊥) → x ≢ InError → refuse c at not_a_type broken ≡ set_type_of c at x
no_type c at (NamedType t) other fine = absurd (other t refl)
no_type c at InError other fine = absurd (fine refl)
no_type c at x other fine = refl
