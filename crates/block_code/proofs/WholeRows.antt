-- In rows no part of which is in error, the parts of types aren't in error.
use Rattle.std.specs.Prelude.{◌≡◌, ℕ, zero, suc, ◌-◌, ◌<◌, ◌≤◌, ◌==◌, Bool, true, false, if◌then◌else◌, ◌⊎◌, List, [], ◌∷◌, length, drop, take, find, filter_map, slice_get, slice_index_or, Option, Some, None}
use Rattle.std.specs.List.{cons_option}
use Rattle.std.specs.Option.{IsSome}
use Rattle.std.proofs.Common.{ap, subst, sym, ◌∙◌, refl, inl, inr}
use Rattle.std.proofs.lemmas.Bool.{false≢true, or_from}
use Rattle.std.proofs.lemmas.List.{get_or_past}
use Rattle.std.proofs.lemmas.Option.{get_or_from_slice_get, slice_get_cases}
use Rattle.m2_base.specs.Lists.{Each, WhereKept}
use Rattle.m2_base.specs.Rows.{is_same_place, row_meaning, row_of}
use Rattle.m2_base.specs.declared.rows.Place.{Place}
use Rattle.m2_base.specs.declared.rows.Row.{Row}
use Rattle.m2_base.specs.declared.rows.RowMeaning.{RowMeaning}
use Rattle.m2_base.specs.declared.rows.RowMeaning.TheVariants.{Broken, Cardinal, Field, OpenArray, Param, Pointer, ProcType, Record, Set}
use Rattle.m2_base.specs.Standard.{bit_range, bitset, broken, cardinal, standard_rows}
use Rattle.m2_base.specs.Statics.Contexts.{Scene, row_at}
use Rattle.m2_base.specs.Statics.NamedOperands.{is_in_error, is_open_of_broken}
use Rattle.m2_base.specs.Statics.Operations.{is_set_kind}
use Rattle.m2_base.specs.Statics.Sets.{set_base_by}
use Rattle.m2_base.specs.Statics.TypeParts.{Parameter, field_by, field_of, is_field, is_field_meaning, parameter_by, parameter_of, parameters, parameters_by, result_by, result_of_type, rows_between, target_by, target_of}
use Rattle.m2_base.specs.Statics.Types.{is_broken, kind_of, meaning_at, stands_as, stands_for}
use Rattle.m2_base.specs.Tables.{rows_at}
use Rattle.m2_base.specs.declared.operands.Operand.{Operand}
use Rattle.m2_base.specs.declared.operands.Operand.TheVariants.{InError, NamedType, NotConstant, Procedure}
use Rattle.block_code.specs.ProcedureNames.{target_of_procedure}
use Rattle.block_code.specs.StandardProcedures.{is_pointer_type}
use Rattle.block_code.specs.Whole.{AreWhole, HasWholeParts, IsWholeRow, IsWholeType}

-- ---- operands

-- An operand that isn't in error, nor left open. A type that is named isn't in error, and a procedure is one that there is.
abbrev pub IsWhole : Scene → Operand → Type 0
IsWhole scene (NamedType t) = IsWholeType scene t
IsWhole scene (Procedure name t number s) = IsSome (target_of_procedure scene name t number)
IsWhole scene NotConstant = ⊥
IsWhole scene InError = ⊥
IsWhole scene other = Unit {0}

-- ---- rows of a list

find_each : {A : Type 0} (P : A → Type 0) (f : A → Bool) (xs : List A) → Each P xs → WhereKept (find f xs) (λ x. P x × (f x ≡ true))
find_each P f [] h = tt
find_each {A} P f (x ∷ xs) h = go (f x) refl (find_each P f xs h.1)
  where
    go : (b : Bool) → f x ≡ b → WhereKept (find f xs) (λ y. P y × (f y ≡ true)) → WhereKept (if b then Some x else find f xs) (λ y. P y × (f y ≡ true))
    go true e rest = (h.0, e)
    go false e rest = rest

drop_each : {A : Type 0} (P : A → Type 0) (n : ℕ) (xs : List A) → Each P xs → Each P (drop n xs)
drop_each P zero xs h = h
drop_each P (suc n) [] h = tt
drop_each P (suc n) (x ∷ xs) h = drop_each P n xs h.1

take_each : {A : Type 0} (P : A → Type 0) (n : ℕ) (xs : List A) → Each P xs → Each P (take n xs)
take_each P zero xs h = tt
take_each P (suc n) [] h = tt
take_each P (suc n) (x ∷ xs) h = (h.0, take_each P n xs h.1)

pub each_got : {A : Type 0} (P : A → Type 0) (xs : List A) → ((k : ℕ) (x : A) → slice_get xs k ≡ Some x → P x) → Each P xs
each_got P [] h = tt
each_got P (x ∷ xs) h = (h zero x refl, each_got P xs (λ k y e. h (suc k) y e))

with_first : {B : Type 0} (Q : B → Type 0) (o : Option B) (ys : List B) → WhereKept o Q → Each Q ys → Each Q (cons_option o ys)
with_first Q None ys h rest = rest
with_first Q (Some y) ys h rest = (h, rest)

mapped_each : {A B : Type 0} (P : A → Type 0) (Q : B → Type 0) (f : A → Option B) (xs : List A) → ((x : A) → P x → WhereKept (f x) Q) → Each P xs
    → Each Q (filter_map f xs)
mapped_each P Q f [] k h = tt
mapped_each P Q f (x ∷ xs) k h = with_first Q (f x) (filter_map f xs) (k x h.0) (mapped_each P Q f xs k h.1)

-- ---- types

-- a parameter whose type isn't in error
abbrev pub IsWholeParameter : Scene → Parameter → Type 0
IsWholeParameter scene p = is_in_error scene p.typ ≡ false

-- a field whose type isn't in error
abbrev pub IsWholeField : Scene → RowMeaning → Type 0
IsWholeField scene (Field t offset own name) = IsWholeType scene t
IsWholeField scene other = ⊥

module _ (scene : Scene) (rows : AreWhole scene) where
  -- the row at a place is there, or it is as Broken
  pub at_row : (P : Row → Type 0) → P (row_of 0 0 Broken) → ((r : Row) → IsWholeRow scene r → P r) → (p : Place) → P (row_at scene.tables p)
  at_row P none some p = go ((slice_get_cases (rows_at scene.tables p.scope) p.ordinal).1)
    where
      go : ((x : Row) × (p.ordinal < length (rows_at scene.tables p.scope)) × (slice_get (rows_at scene.tables p.scope) p.ordinal ≡ Some x) × (slice_index_or (rows_at scene.tables p.scope) p.ordinal x ≡ x))
          ⊎ ((length (rows_at scene.tables p.scope) ≤ p.ordinal) × (slice_get (rows_at scene.tables p.scope) p.ordinal ≡ None))
          → P (row_at scene.tables p)
      go (inl h) =
          subst P (sym (get_or_from_slice_get (rows_at scene.tables p.scope) p.ordinal h.0 (row_of 0 0 Broken) h.2))
          (some h.0 (rows.rows p.scope p.ordinal h.0 h.2))
      go (inr h) = subst P (sym (get_or_past (rows_at scene.tables p.scope) p.ordinal (row_of 0 0 Broken) h.0)) none

  pub meaning-whole : (p : Place) → HasWholeParts scene (meaning_at scene p)
  meaning-whole p = at_row (λ r. HasWholeParts scene (row_meaning r)) tt (λ r h. h.parts) p

  pub kind-whole : (t : Place) → HasWholeParts scene (kind_of scene t)
  kind-whole t = meaning-whole (stands_for scene t)

  open_by : (m : RowMeaning) → HasWholeParts scene m → is_open_of_broken scene m ≡ false
  open_by (OpenArray elem) h = h
  open_by m h = refl

  -- neither the type of a variable nor the elements of an open array are in error
  pub type-whole : (t : Place) → IsWholeType scene t → is_in_error scene t ≡ false
  type-whole t h = or_from (is_broken scene t) (is_open_of_broken scene (kind_of scene t)) h (open_by (kind_of scene t) (kind-whole t))

  set_by : (m : RowMeaning) → HasWholeParts scene m → is_set_kind m ≡ true → is_broken scene (set_base_by m) ≡ false
  set_by (Set base) h e = h
  set_by m h e = absurd (false≢true e)

  pub base-whole : (t : Place) → is_set_kind (kind_of scene t) ≡ true → is_broken scene (set_base_by (kind_of scene t)) ≡ false
  base-whole t e = set_by (kind_of scene t) (kind-whole t) e

  pointer_by : (m : RowMeaning) → HasWholeParts scene m → is_pointer_type m ≡ true → is_broken scene (target_by scene m) ≡ false
  pointer_by (Pointer p) h e = h
  pointer_by m h e = absurd (false≢true e)

  pub target-whole : (t : Place) → is_pointer_type (kind_of scene t) ≡ true → is_broken scene (target_of scene t) ≡ false
  target-whole t e = pointer_by (kind_of scene t) (kind-whole t) e

  -- a set type stands for itself
  stands_by : (t : Place) (m : RowMeaning) → kind_of scene t ≡ m → is_set_kind m ≡ true → stands_for scene (stands_for scene t) ≡ stands_for scene t
  stands_by t (Set base) e s = ap (stands_as scene (stands_for scene t)) e
  stands_by t m e s = absurd (false≢true s)

  pub stood-base : (t : Place) → is_set_kind (kind_of scene t) ≡ true → is_broken scene (set_base_by (kind_of scene (stands_for scene t))) ≡ false
  stood-base t e =
      subst (λ (u : Place). is_broken scene (set_base_by (meaning_at scene u)) ≡ false) (sym (stands_by t (kind_of scene t) refl e)) (base-whole t e)

  result_by-whole : (m : RowMeaning) → HasWholeParts scene m → WhereKept (result_by m) (IsWholeType scene)
  result_by-whole (ProcType result count first) h = h
  result_by-whole m h = tt

  pub result-whole : (t : Place) → WhereKept (result_of_type scene t) (IsWholeType scene)
  result-whole t = result_by-whole (kind_of scene t) (kind-whole t)

  -- the rows of a scope between two ordinals
  between-whole : (s from upto : ℕ) → Each (IsWholeRow scene) (rows_between scene s from upto)
  between-whole s from upto =
      take_each (IsWholeRow scene) (upto - from) (drop from (rows_at scene.tables s))
      (drop_each (IsWholeRow scene) from (rows_at scene.tables s) (each_got (IsWholeRow scene) (rows_at scene.tables s) (rows.rows s)))

  parameter_by-whole : (own : ℕ) (m : RowMeaning) → HasWholeParts scene m → WhereKept (parameter_by own m) (IsWholeParameter scene)
  parameter_by-whole own (Param t v q) h = go (q == own)
    where
      go : (b : Bool) → WhereKept (if b then Some (record { typ = t; by_ref = v }) else None) (IsWholeParameter scene)
      go true = type-whole t h
      go false = tt
  parameter_by-whole own m h = tt

  parameters_by-whole : (t : Place) (m : RowMeaning) → Each (IsWholeParameter scene) (parameters_by scene t m)
  parameters_by-whole t (ProcType result count first) =
      mapped_each (IsWholeRow scene) (IsWholeParameter scene) (parameter_of t.ordinal) (rows_between scene t.scope first t.ordinal)
      (λ r h. parameter_by-whole t.ordinal (row_meaning r) h.parts) (between-whole t.scope first t.ordinal)
  parameters_by-whole t m = tt

  pub parameters-whole : (t : Place) → Each (IsWholeParameter scene) (parameters scene t)
  parameters-whole t = parameters_by-whole (stands_for scene t) (kind_of scene t)

  found_by : (own name : ℕ) (m : RowMeaning) → HasWholeParts scene m → is_field_meaning own name m ≡ true → IsWholeField scene m
  found_by own name (Field t o q n) h e = h
  found_by own name m h e = absurd (false≢true e)

  found_field : (own name : ℕ) (o : Option Row) → WhereKept o (λ r. IsWholeRow scene r × (is_field own name r ≡ true)) → WhereKept o (λ r. IsWholeField scene (row_meaning r))
  found_field own name None h = tt
  found_field own name (Some r) h = found_by own name (row_meaning r) h.0.parts h.1

  field_by-whole : (t : Place) (name : ℕ) (m : RowMeaning) → WhereKept (field_by scene t name m) (λ r. IsWholeField scene (row_meaning r))
  field_by-whole t name (Record first size) =
      found_field t.ordinal name (find (is_field t.ordinal name) (rows_between scene t.scope first t.ordinal))
      (find_each (IsWholeRow scene) (is_field t.ordinal name) (rows_between scene t.scope first t.ordinal) (between-whole t.scope first t.ordinal))
  field_by-whole t name m = tt

  pub field-whole : (t : Place) (name : ℕ) → WhereKept (field_of scene t name) (λ r. IsWholeField scene (row_meaning r))
  field-whole t name = field_by-whole (stands_for scene t) name (kind_of scene t)

  -- ---- standard types

  standard-meaning : (n : ℕ) (m : RowMeaning) → row_meaning (slice_index_or standard_rows n (row_of 0 0 Broken)) ≡ m
      → row_meaning (slice_index_or (rows_at scene.tables 0) n (row_of 0 0 Broken)) ≡ m
  standard-meaning n m e = ap (λ (all : List Row). row_meaning (slice_index_or all n (row_of 0 0 Broken))) rows.standard ∙ e

  pub cardinal-whole : is_broken scene cardinal ≡ false
  cardinal-whole =
      ap (λ (m : RowMeaning). is_same_place (stands_as scene cardinal m) broken) (standard-meaning 1 Cardinal refl)

  pub bitset-whole : is_broken scene (set_base_by (kind_of scene bitset)) ≡ false
  bitset-whole =
      let m : meaning_at scene bitset ≡ Set bit_range = standard-meaning 5 (Set bit_range) refl in
      let s : stands_for scene bitset ≡ bitset = ap (stands_as scene bitset) m in
      let k : kind_of scene bitset ≡ Set bit_range = ap (meaning_at scene) s ∙ m in
      base-whole bitset (ap is_set_kind k)
