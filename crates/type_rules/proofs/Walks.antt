-- Rows that are read one after another.
use Rattle.std.proofs.Common.{◌≡◌, ◌∙◌, ◌⊎◌, inl, inr, ℕ, zero, suc, ◌+◌, ◌-◌, ◌<◌, ◌≤◌, Bool, true, false, List, [], ◌∷◌, Option, Some, None, length, take, drop, refl, sym, ap, subst, arith, cond, get_or}
use Rattle.std.specs.Prelude.{find, filter_map, option_map}
use Rattle.std.specs.List.{cons_option}
use Rattle.std.proofs.lemmas.Bool.{true≢false}
use Rattle.std.proofs.lemmas.List.{drop_more, drop_all}
use Rattle.m2_base.specs.Rows.{row_of, at_place}
use Rattle.m2_base.specs.States.{Frame}
use Rattle.m2_base.specs.Statics.Contexts.{row_at}
use Rattle.m2_base.specs.Statics.TypeParts.{Parameter, is_field, parameter_of, rows_between}
use Rattle.m2_base.specs.Tables.{rows_at}
use Rattle.m2_base.specs.declared.rows.Place.{Place}
use Rattle.m2_base.specs.declared.rows.Row.{Row}
use Rattle.m2_base.specs.declared.rows.RowMeaning.TheVariants.{Broken}
use Rattle.m2_base.specs.declared.sites.Around.{Around}
use Rattle.type_rules.specs.Forms.{parameters_from}
use Rattle.type_rules.specs.Scenes.{Hand, WhereTold, rows_of, scene_of}
use Rattle.std.proofs.Math.ListN.{get_or-eq_default}

-- the items from an ordinal up to another
abbrev pub between : {A : Type 0} → List A → (from upto : ℕ) → List A
between xs from upto = take (upto - from) (drop from xs)

take_none : {A : Type 0} (n : ℕ) → take n (let xs : List A = [] in xs) ≡ []
take_none zero = refl
take_none (suc n) = refl

within_or_past : (i n : ℕ) → (i < n) ⊎ (n ≤ i)
within_or_past i n = grind arith

-- one more item of those left
between_step : {A : Type 0} (xs : List A) (d : A) (i upto : ℕ) → i < length xs → i < upto → between xs i upto ≡ get_or xs i d ∷ between xs (i + 1) upto
between_step {A} xs d i upto within below =
    let count : upto - i ≡ suc (upto - (i + 1)) = omega (arith, below) in
    ap (take (upto - i)) (drop_more xs i d within) ∙ ap (λ n. take n (get_or xs i d ∷ drop (i + 1) xs)) count

between_past : {A : Type 0} (xs : List A) (i upto : ℕ) → length xs ≤ i → between xs i upto ≡ []
between_past xs i upto past = ap (take (upto - i)) (drop_all i xs past) ∙ take_none (upto - i)

pub between_none : {A : Type 0} (xs : List A) (i upto : ℕ) → upto ≤ i → between xs i upto ≡ []
between_none xs i upto past = let none : upto - i ≡ 0 = omega (arith, past) in ap (λ n. take n (drop i xs)) none

past_next : {A : Type 0} (xs : List A) (i : ℕ) → length xs ≤ i → length xs ≤ i + 1
past_next xs i past = omega (arith, past)

-- an item that the test refuses is passed over
pub find_skip : {A : Type 0} (test : A → Bool) (xs : List A) (d : A) (i upto : ℕ) → i < upto → test (get_or xs i d) ≡ false → find test (between xs (i + 1) upto) ≡ find test (between xs i upto)
find_skip {A} test xs d i upto below refused =
    elim (within_or_past i (length xs)) as (λ _. find test (between xs (i + 1) upto) ≡ find test (between xs i upto)) [
      | inl within ↦ sym (ap (find test) (between_step xs d i upto within below) ∙ ap (λ b. cond b (Some (get_or xs i d)) (find test (between xs (i + 1) upto))) refused)
      | inr past ↦ ap (find test) (between_past xs (i + 1) upto (past_next xs i past)) ∙ sym (ap (find test) (between_past xs i upto past))
    ]

-- an item that the test takes is found; the default isn't one
pub find_hit : {A : Type 0} (test : A → Bool) (xs : List A) (d : A) (i upto : ℕ) → test d ≡ false → i < upto → test (get_or xs i d) ≡ true → find test (between xs i upto) ≡ Some (get_or xs i d)
find_hit {A} test xs d i upto none below taken =
    elim (within_or_past i (length xs)) as (λ _. find test (between xs i upto) ≡ Some (get_or xs i d)) [
      | inl within ↦ ap (find test) (between_step xs d i upto within below) ∙ ap (λ b. cond b (Some (get_or xs i d)) (find test (between xs (i + 1) upto))) taken
      | inr past ↦ absurd (true≢false (sym taken ∙ ap test (get_or-eq_default xs d past) ∙ none))
    ]

-- ** The fields of a record

-- the row at an ordinal of a scope, as a walk reads it
abbrev pub IsReadAt : Frame → Place → (i : ℕ) → Row → Type 0
IsReadAt f of i row = WhereTold f (λ made. row ≡ row_at (rows_of f made) (at_place of.scope i))

pub read_before : (f mid : Frame) (of : Place) (i : ℕ) (row : Row) → mid ≡ f → IsReadAt mid of i row → IsReadAt f of i row
read_before f mid of i row same read = subst (λ (g : Frame). IsReadAt g of i row) same read

module _ (f : Frame) (a : Around) (of : Place) (first name : ℕ) where
  -- the field of this name from an ordinal on
  abbrev pub field_from : (made : Hand) (i : ℕ) → Option Row
  field_from made i = find (is_field of.ordinal name) (rows_between (scene_of f made a) of.scope i of.ordinal)

  pub field_found : (i : ℕ) (row : Row) → IsReadAt f of i row → i < of.ordinal → is_field of.ordinal name row ≡ true → WhereTold f (λ made. field_from made i ≡ field_from made first)
      → WhereTold f (λ made. Some row ≡ field_from made first)
  field_found i row read below taken left made in_hand told =
      let same = read made in_hand told in
      sym (find_hit (is_field of.ordinal name) (rows_at (rows_of f made) of.scope) (row_of 0 0 Broken) i of.ordinal refl below (ap (is_field of.ordinal name) (sym same) ∙ taken) ∙ ap Some (sym same))
      ∙ left made in_hand told

  pub field_passed : (i : ℕ) (row : Row) → IsReadAt f of i row → i < of.ordinal → is_field of.ordinal name row ≡ false → WhereTold f (λ made. field_from made i ≡ field_from made first)
      → WhereTold f (λ made. field_from made (i + 1) ≡ field_from made first)
  field_passed i row read below refused left made in_hand told =
      let same = read made in_hand told in
      find_skip (is_field of.ordinal name) (rows_at (rows_of f made) of.scope) (row_of 0 0 Broken) i of.ordinal below (ap (is_field of.ordinal name) (sym same) ∙ refused)
      ∙ left made in_hand told

-- ** The parameters of a procedure type

-- a row that says nothing is passed over
filter_skip : {A B : Type 0} (f : A → Option B) (xs : List A) (d : A) (i upto : ℕ) → i < upto → f (get_or xs i d) ≡ None → filter_map f (between xs i upto) ≡ filter_map f (between xs (i + 1) upto)
filter_skip {A} {B} f xs d i upto below none =
    elim (within_or_past i (length xs)) as (λ _. filter_map f (between xs i upto) ≡ filter_map f (between xs (i + 1) upto)) [
      | inl within ↦ ap (filter_map f) (between_step xs d i upto within below) ∙ ap (λ o. cons_option o (filter_map f (between xs (i + 1) upto))) none
      | inr past ↦ ap (filter_map f) (between_past xs i upto past) ∙ sym (ap (filter_map f) (between_past xs (i + 1) upto (past_next xs i past)))
    ]

-- a row that says something comes first; the default says nothing
filter_hit : {A B : Type 0} (f : A → Option B) (xs : List A) (d : A) (i upto : ℕ) (b : B) → f d ≡ None → i < upto → f (get_or xs i d) ≡ Some b → filter_map f (between xs i upto) ≡ b ∷ filter_map f (between xs (i + 1) upto)
filter_hit {A} {B} f xs d i upto b nothing below some =
    elim (within_or_past i (length xs)) as (λ _. filter_map f (between xs i upto) ≡ b ∷ filter_map f (between xs (i + 1) upto)) [
      | inl within ↦ ap (filter_map f) (between_step xs d i upto within below) ∙ ap (λ o. cons_option o (filter_map f (between xs (i + 1) upto))) some
      | inr past ↦ absurd (let bad : Some b ≡ None = sym some ∙ ap f (get_or-eq_default xs d past) ∙ nothing in cc)
    ]

-- a parameter by what the code reads of it
abbrev pub as_parameter : Place × Bool → Parameter
as_parameter p = record { typ = p.0; by_ref = p.1 }

module _ (f : Frame) (a : Around) (of : Place) (start : ℕ) where
  pub parameter_found : (i : ℕ) (row : Row) (o : Option (Place × Bool)) (typ : Place) (by_ref : Bool) → IsReadAt f of i row → i < of.ordinal → o ≡ Some (typ, by_ref)
      → option_map as_parameter o ≡ parameter_of of.ordinal row → WhereTold f (λ made. parameters_from (scene_of f made a) of start ≡ parameters_from (scene_of f made a) of i)
      → WhereTold f (λ made. parameters_from (scene_of f made a) of start ≡ record { typ = typ; by_ref = by_ref } ∷ parameters_from (scene_of f made a) of (i + 1))
  parameter_found i row o typ by_ref read below is said left made in_hand told =
      left made in_hand told
      ∙ filter_hit (parameter_of of.ordinal) (rows_at (rows_of f made) of.scope) (row_of 0 0 Broken) i of.ordinal (record { typ = typ; by_ref = by_ref }) refl below
      (ap (parameter_of of.ordinal) (sym (read made in_hand told)) ∙ sym said ∙ ap (option_map as_parameter) is)

  pub parameter_passed : (i : ℕ) (row : Row) (o : Option (Place × Bool)) → IsReadAt f of i row → i < of.ordinal → o ≡ None
      → option_map as_parameter o ≡ parameter_of of.ordinal row → WhereTold f (λ made. parameters_from (scene_of f made a) of start ≡ parameters_from (scene_of f made a) of i)
      → WhereTold f (λ made. parameters_from (scene_of f made a) of start ≡ parameters_from (scene_of f made a) of (i + 1))
  parameter_passed i row o read below is said left made in_hand told =
      left made in_hand told
      ∙ filter_skip (parameter_of of.ordinal) (rows_at (rows_of f made) of.scope) (row_of 0 0 Broken) i of.ordinal below
      (ap (parameter_of of.ordinal) (sym (read made in_hand told)) ∙ sym said ∙ ap (option_map as_parameter) is)
