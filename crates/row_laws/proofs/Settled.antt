-- What stands for a type that isn't opaque stands for it in every later scene.
use Rattle.std.specs.Prelude.{◌≡◌, ℕ, ◌+◌, ◌<◌, ◌==◌, Bool, true, false, if◌then◌else◌, ◌⊎◌, List, [], ◌∷◌, ◌++◌, length, slice_index_or, Option, Some, None}
use Rattle.std.proofs.Common.{ap, subst, sym, ◌∙◌, refl, inl, inr, arith}
use Rattle.std.proofs.lemmas.Bool.{cases_order}
use Rattle.std.proofs.lemmas.List.{append-nil, get_or-set_other, get_or_append_left}
use Rattle.m2_base.specs.Lists.{WhereKept}
use Rattle.m2_base.specs.Rows.{at_place, row_of, row_meaning, Fits, HasSmallOrdinals}
use Rattle.m2_base.specs.declared.rows.Place.{Place}
use Rattle.m2_base.specs.declared.rows.Row.{Row}
use Rattle.m2_base.specs.declared.rows.RowMeaning.{RowMeaning}
use Rattle.m2_base.specs.declared.rows.RowMeaning.TheVariants.{Broken, Opaque, TypeName}
use Rattle.m2_base.specs.Tables.{first_named, found_or, rows_at}
use Rattle.m2_base.specs.Statics.Contexts.{Scene, row_at}
use Rattle.m2_base.specs.Statics.Lookup.{Entry, entry_in}
use Rattle.m2_base.specs.Statics.Makes.{scene_with}
use Rattle.m2_base.specs.Statics.Types.{meaning_at, unless_opaque, type_named, named_or, declared_as, opaque_as, stands_as, stands_for, kind_of}
use Rattle.m2_base.proofs.SceneLaws.{IsOpen, own_of, own-with}
use Rattle.m2_base.proofs.Sound.{Sound, EntryOk, IsThere, found_ok}
use Rattle.m2_base.proofs.SoundTypes.{before_next}

-- what an opaque type of this definition is asked is answered in the same way
pub record IsSameBehind (scene later : Scene) (own : ℕ) : Type 0 where
  pub own_same : later.block.own ≡ Some own
  pub home_same : later.block.home ≡ scene.block.home
  pub names_same : (k : ℕ) → row_at later.tables (at_place own k) ≡ row_at scene.tables (at_place own k)
  pub found_same : (name : ℕ) (e : Entry) → entry_in scene.tables scene.block.home name ≡ Some e → entry_in later.tables scene.block.home name ≡ Some e

-- a scene in which all rows of another are there, and which has its own definition if it has one
pub record IsLater (scene later : Scene) : Type 0 where
  pub rows_same : (t : Place) → IsThere scene t → row_at later.tables t ≡ row_at scene.tables t
  pub own_behind : WhereKept scene.block.own (IsSameBehind scene later)

-- the type stands for the same one, which isn't opaque
pub record IsSettled (scene later : Scene) (t : Place) : Type 0 where
  pub stands : stands_for later t ≡ stands_for scene t
  pub kind : kind_of later t ≡ kind_of scene t

abbrev IsClear : Scene → Place → Type 0
IsClear scene t = kind_of scene t ≡ Opaque → ⊥

module _ (names : ℕ) (scene later : Scene) (sound : Sound names scene) (is : IsLater scene later) where
  meaning_same : (t : Place) → IsThere scene t → meaning_at later t ≡ meaning_at scene t
  meaning_same t h = ap row_meaning (is.rows_same t h)

  -- a type that stands for a type that is there
  settled_as : (t u : Place) → stands_for scene t ≡ u → stands_for later t ≡ u → IsThere scene u → IsSettled scene later t
  settled_as t u p q h =
      record { stands = q ∙ sym p; kind = ap (meaning_at later) q ∙ meaning_same u h ∙ ap (meaning_at scene) (sym p) }

  -- a type that stands for itself and is opaque isn't clear
  not_clear : (t : Place) → stands_for scene t ≡ t → meaning_at scene t ≡ Opaque → IsClear scene t → IsSettled scene later t
  not_clear t p e clear = absurd (clear (ap (meaning_at scene) p ∙ e))

  -- by what the declared type's row means
  by_kind : (t u : Place) (m : RowMeaning) → meaning_at scene u ≡ m → stands_for scene t ≡ unless_opaque t u (meaning_at scene u) → stands_for later t ≡ unless_opaque t u (meaning_at later u)
      → meaning_at scene t ≡ Opaque → IsThere scene u → IsClear scene t → IsSettled scene later t
  by_kind t u Opaque k p q e h clear = not_clear t (p ∙ ap (unless_opaque t u) k) e clear
  by_kind t u m k p q e h clear = settled_as t u (p ∙ ap (unless_opaque t u) k) (q ∙ ap (unless_opaque t u) (meaning_same u h ∙ k)) h

  -- by what the row of the type's name means
  by_row : (t q : Place) (m : RowMeaning) → stands_for scene t ≡ type_named scene t m → stands_for later t ≡ type_named later t m → meaning_at scene t ≡ Opaque
      → IsThere scene q → Fits names q m → HasSmallOrdinals m → IsClear scene t → IsSettled scene later t
  by_row t q (TypeName u) p p' e h f s clear = by_kind t u (meaning_at scene u) refl p p' e (before_next scene u q s f h) clear
  by_row t q m p p' e h f s clear = not_clear t p e clear

  -- by the entry under the type's name
  by_entry : (t : Place) (own name : ℕ) (o : Option Entry) → IsSameBehind scene later own → entry_in scene.tables scene.block.home name ≡ o → WhereKept o (EntryOk names scene)
      → stands_for scene t ≡ named_or scene t o → stands_for later t ≡ named_or later t (entry_in later.tables later.block.home name) → meaning_at scene t ≡ Opaque
      → IsClear scene t → IsSettled scene later t
  by_entry t own name None same found ok p p' e clear = not_clear t p e clear
  by_entry t own name (Some x) same found ok p p' e clear =
      let there = ap (λ home. entry_in later.tables home name) same.home_same ∙ same.found_same name x found in
      by_row t x.0 (row_meaning x.1) p (p' ∙ ap (named_or later t) there) e ok.there ok.row.formed.fits ok.row.small clear

  -- by whether there is a name
  by_name : (t : Place) (own name : ℕ) (b : Bool) → (name == 0) ≡ b → IsSameBehind scene later own
      → stands_for scene t ≡ declared_as scene t name → stands_for later t ≡ declared_as later t name → meaning_at scene t ≡ Opaque
      → IsClear scene t → IsSettled scene later t
  by_name t own name true z same p p' e clear =
      not_clear t (p ∙ ap (λ b. if b then t else named_or scene t (entry_in scene.tables scene.block.home name)) z) e clear
  by_name t own name false z same p p' e clear =
      by_entry t own name (entry_in scene.tables scene.block.home name) same refl (found_ok sound (scene.block.home ∷ []) name)
      (p ∙ ap (λ b. if b then t else named_or scene t (entry_in scene.tables scene.block.home name)) z)
      (p' ∙ ap (λ b. if b then t else named_or later t (entry_in later.tables later.block.home name)) z) e clear

  -- by whether the type is the own definition's
  by_scope : (t : Place) (own : ℕ) (b : Bool) → (t.scope == own) ≡ b → IsSameBehind scene later own
      → stands_for scene t ≡ opaque_as scene t (Some own) → stands_for later t ≡ opaque_as later t (Some own) → meaning_at scene t ≡ Opaque
      → IsClear scene t → IsSettled scene later t
  by_scope t own true z same p p' e clear =
      let name = (row_at scene.tables (at_place own (t.ordinal + 1))).name in
      by_name t own name (name == 0) refl same
      (p ∙ ap (λ b. if b then declared_as scene t name else t) z)
      (p' ∙ ap (λ (r : Row). if t.scope == own then declared_as later t r.name else t) (same.names_same (t.ordinal + 1)) ∙ ap (λ b. if b then declared_as later t name else t) z) e clear
  by_scope t own false z same p p' e clear =
      let name = (row_at scene.tables (at_place own (t.ordinal + 1))).name in
      not_clear t (p ∙ ap (λ b. if b then declared_as scene t name else t) z) e clear

  -- by whether there is an own definition
  by_own : (t : Place) (own : Option ℕ) → scene.block.own ≡ own → WhereKept own (IsSameBehind scene later) → meaning_at scene t ≡ Opaque → meaning_at later t ≡ Opaque
      → IsClear scene t → IsSettled scene later t
  by_own t None o same e e' clear = not_clear t (ap (stands_as scene t) e ∙ ap (opaque_as scene t) o) e clear
  by_own t (Some own) o same e e' clear =
      by_scope t own (t.scope == own) refl same (ap (stands_as scene t) e ∙ ap (opaque_as scene t) o) (ap (stands_as later t) e' ∙ ap (opaque_as later t) same.own_same) e clear

  -- by what the type's row means
  by_meaning : (t : Place) (m : RowMeaning) → meaning_at scene t ≡ m → IsThere scene t → IsClear scene t → IsSettled scene later t
  by_meaning t Opaque e h clear = by_own t scene.block.own refl is.own_behind e (meaning_same t h ∙ e) clear
  by_meaning t m e h clear = settled_as t t (ap (stands_as scene t) e) (ap (stands_as later t) (meaning_same t h ∙ e)) h

  pub settled : (t : Place) → IsThere scene t → (kind_of scene t ≡ Opaque → ⊥) → IsSettled scene later t
  settled t h clear = by_meaning t (meaning_at scene t) refl h clear

-- ** With more rows

-- the first row of a name stays the first
named_stays : (name : ℕ) (rows xs : List Row) (k : ℕ) (hit : ℕ × Row) → first_named name rows k ≡ Some hit → first_named name (rows ++ xs) k ≡ Some hit
named_stays name [] xs k hit e = absurd (cc)
named_stays name (r ∷ rows) xs k hit e = by_test (r.name == name) (named_stays name rows xs (k + 1) hit) e
  where
    by_test : (b : Bool) → (first_named name rows (k + 1) ≡ Some hit → first_named name (rows ++ xs) (k + 1) ≡ Some hit)
        → (if b then Some (k, r) else first_named name rows (k + 1)) ≡ Some hit → (if b then Some (k, r) else first_named name (rows ++ xs) (k + 1)) ≡ Some hit
    by_test true rest h = h
    by_test false rest h = rest h

-- an entry that was found is found among more rows
entry_stays : (s name : ℕ) (rows more : List Row) (xs : List Row) → more ≡ rows ++ xs → (e : Entry) → found_or s (first_named name rows 0) None ≡ Some e
    → found_or s (first_named name more 0) None ≡ Some e
entry_stays s name rows more xs same e h = by_hit (first_named name rows 0) refl h
  where
    by_hit : (o : Option (ℕ × Row)) → first_named name rows 0 ≡ o → found_or s o None ≡ Some e → found_or s (first_named name more 0) None ≡ Some e
    by_hit None p q = absurd (cc)
    by_hit (Some hit) p q = ap (λ all. found_or s (first_named name all 0) None) same ∙ ap (λ o. found_or s o None) (named_stays name rows xs 0 hit p) ∙ q

pub other_rows : (scene : Scene) (xs : List Row) (s : ℕ) → (s ≡ scene.block.scope → ⊥) → rows_at (scene_with scene xs).tables s ≡ rows_at scene.tables s
other_rows scene xs s h = get_or-set_other scene.tables scene.block.scope s (own_of scene ++ xs) [] h

-- the rows of any scope, or more of them
pub rows_stay : (scene : Scene) (xs : List Row) → IsOpen scene → (s : ℕ) → (ys : List Row) × (rows_at (scene_with scene xs).tables s ≡ rows_at scene.tables s ++ ys)
rows_stay scene xs o s = by_order (cases_order s scene.block.scope)
  where
    by_order : (s ≡ scene.block.scope) ⊎ ((s < scene.block.scope) ⊎ (scene.block.scope < s)) → (ys : List Row) × (rows_at (scene_with scene xs).tables s ≡ rows_at scene.tables s ++ ys)
    by_order (inl same) = (xs, subst (λ n. rows_at (scene_with scene xs).tables n ≡ rows_at scene.tables n ++ xs) (sym same) (own-with scene xs o))
    by_order (inr (inl less)) = ([], other_rows scene xs s (λ e. omega (arith, e, less)) ∙ sym (append-nil (rows_at scene.tables s)))
    by_order (inr (inr more)) = ([], other_rows scene xs s (λ e. omega (arith, e, more)) ∙ sym (append-nil (rows_at scene.tables s)))

pub row_stays : {names : ℕ} (scene : Scene) (xs : List Row) → Sound names scene → (t : Place) → IsThere scene t → row_at (scene_with scene xs).tables t ≡ row_at scene.tables t
row_stays {names} scene xs sound t h = by_order (cases_order t.scope scene.block.scope)
  where
    by_order : (t.scope ≡ scene.block.scope) ⊎ ((t.scope < scene.block.scope) ⊎ (scene.block.scope < t.scope)) → row_at (scene_with scene xs).tables t ≡ row_at scene.tables t
    by_order (inl same) =
        let within : t.ordinal < length (own_of scene) = let b = h.1 in omega (arith, same, b) in
        ap (λ s. slice_index_or (rows_at (scene_with scene xs).tables s) t.ordinal (row_of 0 0 Broken)) same
        ∙ ap (λ (rows : List Row). slice_index_or rows t.ordinal (row_of 0 0 Broken)) (own-with scene xs sound.room)
        ∙ get_or_append_left (own_of scene) xs (row_of 0 0 Broken) t.ordinal within
        ∙ ap (λ s. slice_index_or (rows_at scene.tables s) t.ordinal (row_of 0 0 Broken)) (sym same)
    by_order (inr (inl less)) = ap (λ (rows : List Row). slice_index_or rows t.ordinal (row_of 0 0 Broken)) (other_rows scene xs t.scope (λ e. omega (arith, e, less)))
    by_order (inr (inr more)) = let b = h.1 in let few = sound.few in absurd (omega (arith, more, b, few))

-- the own definition of a block, if it has one, has its scope before
abbrev pub HasOwnBefore : Scene → Type 0
HasOwnBefore scene = WhereKept scene.block.own (λ o. o < scene.block.scope)

pub later-with : {names : ℕ} (scene : Scene) (xs : List Row) → Sound names scene → HasOwnBefore scene → IsLater scene (scene_with scene xs)
later-with {names} scene xs sound before =
    record { rows_same = row_stays scene xs sound; own_behind = by_own scene.block.own refl before }
  where
    by_own : (o : Option ℕ) → scene.block.own ≡ o → WhereKept o (λ own. own < scene.block.scope) → WhereKept o (IsSameBehind scene (scene_with scene xs))
    by_own None e h = tt
    by_own (Some own) e h = record {
      own_same = e;
      home_same = refl;
      names_same = λ k. ap (λ (rows : List Row). slice_index_or rows k (row_of 0 0 Broken)) (other_rows scene xs own (λ same. omega (arith, same, h)));
      found_same = λ name x found.
          let stay = rows_stay scene xs sound.room scene.block.home in
          entry_stays scene.block.home name (rows_at scene.tables scene.block.home) _ stay.0 stay.1 x found;
    }
