-- The rows of the constants that an import brings are clear: each leads to a constant that has a name.
use Rattle.std.specs.Prelude.{◌≡◌, ◌≢◌, ℕ, zero, suc, ◌+◌, ◌^◌, ◌<◌, ◌==◌, Bool, true, false, not, ◌&&◌, if◌then◌else◌, map, take, drop, length, List, [], ◌∷◌, slice_get, Option, Some, None}
use Rattle.std.proofs.Common.{ap, subst, sym, ◌∙◌, refl, arith}
use Rattle.std.proofs.lemmas.Bool.{and_parts, eq-eqb}
use Rattle.std.proofs.lemmas.Option.{get_or_from_slice_get, slice_get_within}
use Rattle.m2_base.specs.Lists.{Each}
use Rattle.m2_base.specs.Rows.{at_place, row_meaning, row_of}
use Rattle.m2_base.specs.declared.rows.Place.{Place}
use Rattle.m2_base.specs.declared.rows.Row.{Row}
use Rattle.m2_base.specs.declared.rows.RowMeaning.{RowMeaning}
use Rattle.m2_base.specs.declared.rows.RowMeaning.TheVariants.{Broken, Const, Enum, TypeName}
use Rattle.m2_base.specs.Tables.{rows_at}
use Rattle.m2_base.specs.Statics.Contexts.{Context, Scene, row_at}
use Rattle.m2_base.specs.Statics.ImportedConstants.{Member, are_too_many, brought_by, brought_row, constants_from, is_constant, is_given, members_by, members_of, members_of_row, new_members}
use Rattle.m2_base.specs.Statics.Lookup.{Entry}
use Rattle.m2_base.specs.Statics.Makes.{Makes}
use Rattle.m2_base.specs.Statics.Types.{meaning_at}
use Rattle.m2_base.specs.declared.sites.Named.{Named}
use Rattle.m2_base.proofs.RowLaws.{place_of-number_of}
use Rattle.m2_base.proofs.SoundTypes.{either}
use Rattle.row_laws.specs.Clear.{IsClearRow, IsNamedTarget, IsTarget}
use Rattle.row_laws.proofs.ClearRows.{IsClearScene, clear_with}
use Rattle.row_laws.proofs.ClearNotes.{MakesFine, row_refused}
use Rattle.row_laws.proofs.ClearTypes.{IsAny}

-- a constant that has a name, at a place that a row can name
pub record IsThereMember (tables : List (List Row)) (m : Member) : Type 0 where
  pub target : IsNamedTarget (row_at tables m.place)
  pub small : m.place.ordinal < 2 ^ 32

-- ** The constants of a type

taken_at : {A : Type 0} (xs : List A) (n k : ℕ) (x : A) → slice_get (take n xs) k ≡ Some x → slice_get xs k ≡ Some x
taken_at [] zero k x e = absurd (cc)
taken_at [] (suc n) k x e = absurd (cc)
taken_at (y ∷ xs) zero k x e = absurd (cc)
taken_at (y ∷ xs) (suc n) zero x e = e
taken_at (y ∷ xs) (suc n) (suc k) x e = taken_at xs n k x e

dropped_at : {A : Type 0} (xs : List A) (n k : ℕ) (x : A) → slice_get (drop n xs) k ≡ Some x → slice_get xs (n + k) ≡ Some x
dropped_at xs zero k x e = ap (slice_get xs) (omega arith) ∙ e
dropped_at [] (suc n) k x e = absurd (cc)
dropped_at (y ∷ xs) (suc n) k x e =
    let next : suc n + k ≡ suc (n + k) = omega arith in
    ap (slice_get (y ∷ xs)) next ∙ dropped_at xs n k x e

constant_target : (m : RowMeaning) → is_constant m ≡ true → IsTarget m
constant_target (Const t v l) e = tt
constant_target m e = absurd (cc)

some_name : (n : ℕ) → not (n == 0) ≡ true → n ≢ 0
some_name n e h = let never : false ≡ true = sym (ap not (eq-eqb n 0 h)) ∙ e in absurd (cc)

module _ (tables : List (List Row)) (few : (s : ℕ) → length (rows_at tables s) < 2 ^ 32) (s : ℕ) where
  -- these rows are those of the scope from this ordinal on
  abbrev AreFrom : (o : ℕ) → List Row → Type 0
  AreFrom o rows = (k : ℕ) (r : Row) → slice_get rows k ≡ Some r → slice_get (rows_at tables s) (o + k) ≡ Some r

  constant_there : (o : ℕ) (r : Row) → slice_get (rows_at tables s) o ≡ Some r → (is_constant (row_meaning r) && not (r.name == 0)) ≡ true → IsThereMember tables (record { name = r.name; place = at_place s o })
  constant_there o r e b =
      let parts = and_parts (is_constant (row_meaning r)) (not (r.name == 0)) b in
      let there : row_at tables (at_place s o) ≡ r = get_or_from_slice_get (rows_at tables s) o r (row_of 0 0 Broken) e in
      let within = slice_get_within (rows_at tables s) o r e in
      let small = few s in
      record { target = subst IsNamedTarget (sym there) (some_name r.name parts.1, constant_target (row_meaning r) parts.0); small = omega (arith, within, small) }

  constants_there : (rows : List Row) (o : ℕ) → AreFrom o rows → Each (IsThereMember tables) (constants_from s o rows)
  constants_there [] o h = tt
  constants_there (r ∷ rows) o h =
      by_test (is_constant (row_meaning r) && not (r.name == 0)) refl
      (constants_there rows (o + 1) (λ k x e. ap (slice_get (rows_at tables s)) (next_is k) ∙ h (suc k) x e))
    where
      next_is : (k : ℕ) → o + 1 + k ≡ o + suc k
      next_is k = omega arith

      first : slice_get (rows_at tables s) o ≡ Some r
      first = ap (slice_get (rows_at tables s)) (omega arith) ∙ h 0 r refl

      by_test : (b : Bool) → (is_constant (row_meaning r) && not (r.name == 0)) ≡ b → Each (IsThereMember tables) (constants_from s (o + 1) rows)
          → Each (IsThereMember tables) (if b then record { name = r.name; place = at_place s o } ∷ constants_from s (o + 1) rows else constants_from s (o + 1) rows)
      by_test true e rest = (constant_there o r first e, rest)
      by_test false e rest = rest

module _ (scene : Scene) (few : (s : ℕ) → length (rows_at scene.tables s) < 2 ^ 32) where
  type_there : (t : Place) (m : RowMeaning) → Each (IsThereMember scene.tables) (members_by scene.tables t m)
  type_there t (Enum n) =
      constants_there scene.tables few t.scope (take n (drop (t.ordinal + 1) (rows_at scene.tables t.scope))) (t.ordinal + 1)
      (λ k r e. dropped_at (rows_at scene.tables t.scope) (t.ordinal + 1) k r (taken_at (drop (t.ordinal + 1) (rows_at scene.tables t.scope)) n k r e))
  type_there t m = tt

  row_there : (m : RowMeaning) → Each (IsThereMember scene.tables) (members_of_row scene m)
  row_there (TypeName t) = either (λ (ms : List Member). Each (IsThereMember scene.tables) ms) (t.scope == 0) _ _ tt (type_there t (meaning_at scene t))
  row_there m = tt

  -- the constants of what an import leads to are there
  pub members_there : (o : Option Entry) → Each (IsThereMember scene.tables) (members_of scene o)
  members_there None = tt
  members_there (Some e) = row_there (row_meaning e.1)

-- ** Their rows

-- of the constants that are new holds what holds of all
new_each : (P : Member → Type 0) (c : Context) (names : List ℕ) (members : List Member) → Each P members → Each P (new_members c names members)
new_each P c names [] h = tt
new_each P c names (m ∷ members) h =
    either (Each P) (is_given c names m.name) _ _ (new_each P c names members h.1) (h.0, new_each P c (m.name ∷ names) members h.1)

row_clear : (tables : List (List Row)) (at : ℕ) (m : Member) → IsThereMember tables m → IsClearRow tables (brought_row at m)
row_clear tables at m h = (tt, subst (λ (p : Place). IsNamedTarget (row_at tables p)) (sym (place_of-number_of m.place h.small)) h.target, λ some. tt)

rows_clear : (tables : List (List Row)) (at : ℕ) (members : List Member) → Each (IsThereMember tables) members → Each (IsClearRow tables) (map (brought_row at) members)
rows_clear tables at [] h = tt
rows_clear tables at (m ∷ members) h = (row_clear tables at m h.0, rows_clear tables at members h.1)

pub brought_fine : (c : Context) (at : ℕ) (members : List Member) → IsClearScene c.scene → Each (IsThereMember c.scene.tables) members → MakesFine IsAny c (brought_by c at members)
brought_fine c at members clear h =
    let new = new_members c [] members in
    either (λ (x : Makes (List Named)). MakesFine IsAny c x) (are_too_many c new) _ _ row_refused
    (record { clear = λ e. clear_with c.scene (map (brought_row at) new) clear (rows_clear c.scene.tables at new (new_each (IsThereMember c.scene.tables) c [] members h)); value = λ e. tt })
