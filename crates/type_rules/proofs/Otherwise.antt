-- What the definitions say of a kind that no arm of a match names.
use Rattle.std.proofs.Common.{◌≡◌, ℕ, false, Option, None, refl}
use Rattle.m2_base.specs.Statics.Assignable.{is_open_kind, takes_string}
use Rattle.m2_base.specs.Statics.Compatible.{is_pointer_kind}
use Rattle.m2_base.specs.Statics.Contexts.{Scene}
use Rattle.m2_base.specs.Statics.TypeParts.{field_by, index_by}
use Rattle.m2_base.specs.Statics.Types.{size_by}
use Rattle.m2_base.specs.declared.rows.Place.{Place}
use Rattle.m2_base.specs.declared.rows.RowMeaning.{RowMeaning}
use Rattle.m2_base.specs.declared.rows.RowMeaning.TheVariants.{Array, Opaque, OpenArray, Pointer, ProcType, Record}
use Rattle.m2_base.specs.declared.rows.Row.{Row}
use Rattle.type_rules.specs.Forms.{form_by}

pub other_size : (m : RowMeaning) → ((i t : Place) (s : ℕ) → m ≡ Array i t s → ⊥) → ((f s : ℕ) → m ≡ Record f s → ⊥) → 1 ≡ size_by m
other_size (Array i t s) array record_of = absurd (array i t s refl)
other_size (Record f s) array record_of = absurd (record_of f s refl)
other_size m array record_of = refl

pub other_open : (m : RowMeaning) → ((t : Place) → m ≡ OpenArray t → ⊥) → false ≡ is_open_kind m
other_open (OpenArray t) open_array = absurd (open_array t refl)
other_open m open_array = refl

pub other_pointer : (m : RowMeaning) → ((t : Place) → m ≡ Pointer t → ⊥) → (m ≡ Opaque → ⊥) → false ≡ is_pointer_kind m
other_pointer (Pointer t) pointer opaque = absurd (pointer t refl)
other_pointer Opaque pointer opaque = absurd (opaque refl)
other_pointer m pointer opaque = refl

pub other_form : (p : Place) (m : RowMeaning) → ((r : Option Place) (k f : ℕ) → m ≡ ProcType r k f → ⊥) → None ≡ form_by p m
other_form p (ProcType r k f) procedure = absurd (procedure r k f refl)
other_form p m procedure = refl

pub other_field : (scene : Scene) (p : Place) (name : ℕ) (m : RowMeaning) → ((f s : ℕ) → m ≡ Record f s → ⊥) → None ≡ field_by scene p name m
other_field scene p name (Record f s) record_of = absurd (record_of f s refl)
other_field scene p name m record_of = refl

pub other_string : (scene : Scene) (len : ℕ) (m : RowMeaning) → ((i t : Place) (s : ℕ) → m ≡ Array i t s → ⊥) → false ≡ takes_string scene len m
other_string scene len (Array i t s) array = absurd (array i t s refl)
other_string scene len m array = refl

pub other_index : (r : Row) (m : RowMeaning) → ((i t : Place) (s : ℕ) → m ≡ Array i t s → ⊥) → None ≡ index_by r m
other_index r (Array i t s) array = absurd (array i t s refl)
other_index r m array = refl
