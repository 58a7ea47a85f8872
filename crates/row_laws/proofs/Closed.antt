-- Scenes in which no type's name is an open array's, and what is found in them.
use Rattle.std.specs.Prelude.{◌≡◌, ℕ, ◌+◌, ◌*◌, ◌^◌, ◌<◌, ◌≤◌, ◌==◌, false, ◌⊎◌, List, [], ◌∷◌, ◌++◌, drop, length, nat_lt, slice_get, slice_index_or, Option, Some, None}
use Rattle.std.proofs.Common.{ap, subst, ◌∙◌, refl, inl, inr, arith}
use Rattle.std.proofs.lemmas.Bool.{cases_order}
use Rattle.std.proofs.lemmas.List.{get_or-set_other}
use Rattle.std.proofs.lemmas.Option.{slice_get_within}
use Rattle.m2_base.specs.Gives.{Gives, gives}
use Rattle.m2_base.specs.Lists.{WhereKept}
use Rattle.m2_base.specs.Rows.{at_place, row_of, row_meaning, Fits, HasSmallOrdinals}
use Rattle.m2_base.specs.declared.rows.Place.{Place}
use Rattle.m2_base.specs.declared.rows.Row.{Row}
use Rattle.m2_base.specs.declared.rows.RowMeaning.{RowMeaning}
use Rattle.m2_base.specs.declared.rows.RowMeaning.TheVariants.{Alias, Broken, Module, Opaque, TypeName}
use Rattle.m2_base.specs.declared.sites.Named.{Named}
use Rattle.m2_base.specs.declared.trees.Ident.{Ident}
use Rattle.m2_base.specs.declared.trees.Qual.{Qual}
use Rattle.m2_base.specs.Standard.{is_standard, standard_place, broken}
use Rattle.m2_base.specs.Tables.{lookup, rows_at}
use Rattle.m2_base.specs.Statics.Assignable.{is_open_array, is_open_kind}
use Rattle.m2_base.specs.Statics.Contexts.{Context, Scene, row_at}
use Rattle.m2_base.specs.Statics.Lookup.{Entry, entry_at, entry_in, first_entry}
use Rattle.m2_base.specs.Statics.Makes.{scene_with}
use Rattle.m2_base.specs.Statics.TypeNames.{member_of, qualified, type_by, type_of_entry, type_of_qual}
use Rattle.m2_base.specs.Statics.Types.{meaning_at, unless_opaque, type_named, named_or, declared_as, opaque_as, stands_as}
use Rattle.m2_base.specs.Statics.Uses.{followed_by, bound, bound_or, stands_later, bound_outside, use_in_item, use_by_item, use_of}
use Rattle.m2_base.proofs.SceneLaws.{own_of, own-with}
use Rattle.m2_base.proofs.Sound.{Sound}
use Rattle.m2_base.proofs.SoundTypes.{either}
use Rattle.row_laws.proofs.Numbers.{Agrees, AllAgree}
use Rattle.row_laws.proofs.Agreeing.{Ready}
use Rattle.row_laws.proofs.Joined.{front_or_back}
use Rattle.row_laws.proofs.Later.{agree_each}
use Rattle.row_laws.proofs.Lookups.{Found, found_row, row_of_place}
use Rattle.row_laws.proofs.Members.{each_at, kept_then}
use Rattle.row_laws.proofs.Settled.{row_stays}

-- a type's name is no open array's
abbrev pub IsNamed : Scene → RowMeaning → Type 0
IsNamed scene (TypeName t) = is_open_kind (meaning_at scene t) ≡ false
IsNamed scene other = Unit {0}

-- so it is of all rows
abbrev pub IsClosed : Scene → Type 0
IsClosed scene = (s o : ℕ) (r : Row) → slice_get (rows_at scene.tables s) o ≡ Some r → IsNamed scene (row_meaning r)

abbrev pub IsClosedEntry : Scene → Entry → Type 0
IsClosedEntry scene e = IsNamed scene (row_meaning e.1)

pub agrees_named : (scene : Scene) (m : RowMeaning) → Agrees scene m → IsNamed scene m
agrees_named scene (TypeName t) h = h
agrees_named scene m h = tt

-- ** What is found

found_closed : (scene : Scene) → IsClosed scene → (chain : List ℕ) (name : ℕ) → WhereKept (lookup scene.tables chain name) (IsClosedEntry scene)
found_closed scene closed chain name =
    let P : Row → Type 0 = λ (r : Row). IsNamed scene (row_meaning r) in
    kept_then (Found P scene.tables name) (IsClosedEntry scene) (lookup scene.tables chain name) (λ e f. f.holds) (found_row P scene.tables closed chain name)

row_closed : (scene : Scene) → IsClosed scene → (p : Place) → IsNamed scene (row_meaning (row_at scene.tables p))
row_closed scene closed p = row_of_place (λ r. IsNamed scene (row_meaning r)) scene.tables closed tt p

followed_closed : (scene : Scene) → IsClosed scene → (e : Entry) (m : RowMeaning) → IsClosedEntry scene e → IsClosedEntry scene (followed_by scene e m)
followed_closed scene closed e (Alias p) h = row_closed scene closed p
followed_closed scene closed e m h = h

abbrev IsClosedUse : Scene → Gives (Option Entry) → Type 0
IsClosedUse scene g = WhereKept g.value (IsClosedEntry scene)

bound_or_closed : (c : Context) → IsClosed c.scene → (code name at : ℕ) (o : Option Entry) → WhereKept o (IsClosedEntry c.scene) → IsClosedUse c.scene (bound_or c code name at o)
bound_or_closed c closed code name at None h = tt
bound_or_closed c closed code name at (Some e) h = followed_closed c.scene closed e (row_meaning e.1) h

bound_outside_closed : (c : Context) → IsClosed c.scene → (name at : ℕ) (o : Option Entry) → WhereKept o (IsClosedEntry c.scene) → IsClosedUse c.scene (bound_outside c name at o)
bound_outside_closed c closed name at None h = tt
bound_outside_closed c closed name at (Some e) h =
    either (IsClosedUse c.scene) (stands_later c at e) _ (bound c name at e) tt (followed_closed c.scene closed e (row_meaning e.1) h)

use_in_item_closed : (c : Context) → IsClosed c.scene → (item name at : ℕ) (o : Option Named) → IsClosedUse c.scene (use_in_item c item name at o)
use_in_item_closed c closed item name at (Some n) =
    either (IsClosedUse c.scene) (nat_lt n.item item) _ _ (bound_or_closed c closed 40 name at (entry_in c.scene.tables c.scene.block.scope name) (found_closed c.scene closed (c.scene.block.scope ∷ []) name)) tt
use_in_item_closed c closed item name at None =
    bound_outside_closed c closed name at (lookup c.scene.tables (drop 1 c.scene.block.chain) name) (found_closed c.scene closed (drop 1 c.scene.block.chain) name)

use_by_item_closed : (c : Context) → IsClosed c.scene → (name at : ℕ) (o : Option ℕ) → IsClosedUse c.scene (use_by_item c name at o)
use_by_item_closed c closed name at (Some item) = use_in_item_closed c closed item name at (first_entry c.layout name)
use_by_item_closed c closed name at None = bound_or_closed c closed 40 name at (lookup c.scene.tables c.scene.block.chain name) (found_closed c.scene closed c.scene.block.chain name)

use_closed : (c : Context) → IsClosed c.scene → (within : Option ℕ) (name at : ℕ) → IsClosedUse c.scene (use_of c within name at)
use_closed c closed (Some s) name at = bound_or_closed c closed 44 name at (entry_in c.scene.tables s name) (found_closed c.scene closed (s ∷ []) name)
use_closed c closed None name at =
    either (IsClosedUse c.scene) (is_standard name) (gives (Some (entry_at c.scene (standard_place name)))) _ (row_closed c.scene closed (standard_place name)) (use_by_item_closed c closed name at c.item)

member_closed : (c : Context) → IsClosed c.scene → (at : ℕ) (i : Ident) (m : RowMeaning) → IsClosedUse c.scene (member_of c at i m)
member_closed c closed at i (Module s) = use_closed c closed (Some s) i.name i.at
member_closed c closed at i m = tt

qualified_closed : (c : Context) → IsClosed c.scene → (at : ℕ) (second : Option Ident) (o : Option Entry) → WhereKept o (IsClosedEntry c.scene) → IsClosedUse c.scene (qualified c at second o)
qualified_closed c closed at second None h = tt
qualified_closed c closed at None (Some e) h = h
qualified_closed c closed at (Some i) (Some e) h = member_closed c closed at i (row_meaning e.1)

-- the type in error is no open array
pub broken_closed : {names : ℕ} {scene : Scene} → Sound names scene → is_open_kind (meaning_at scene broken) ≡ false
broken_closed {names} {scene} sound = ap (λ (rows : List Row). is_open_kind (row_meaning (slice_index_or rows 10 (row_of 0 0 Broken)))) sound.standard

type_by_closed : (names : ℕ) (c : Context) → Sound names c.scene → (at : ℕ) (m : RowMeaning) → IsNamed c.scene m → is_open_kind (meaning_at c.scene (type_by c at m).value) ≡ false
type_by_closed names c sound at (TypeName t) h = h
type_by_closed names c sound at m h = broken_closed sound

type_of_entry_closed : (names : ℕ) (c : Context) → Sound names c.scene → (at : ℕ) (o : Option Entry) → WhereKept o (IsClosedEntry c.scene) → is_open_kind (meaning_at c.scene (type_of_entry c at o).value) ≡ false
type_of_entry_closed names c sound at None h = broken_closed sound
type_of_entry_closed names c sound at (Some e) h = type_by_closed names c sound at (row_meaning e.1) h

pub qual_closed : (names : ℕ) (c : Context) → Sound names c.scene → IsClosed c.scene → (q : Qual) → is_open_kind (meaning_at c.scene (type_of_qual c q).value) ≡ false
qual_closed names c sound closed q =
    let first = (use_of c None q.first.name q.first.at).value in
    type_of_entry_closed names c sound q.first.at (qualified c q.first.at q.second first).value
    (qualified_closed c closed q.first.at q.second first (use_closed c closed None q.first.name q.first.at))

-- ** More rows

-- a type's name that is there keeps what it means
named_stays : (names : ℕ) (scene : Scene) (xs : List Row) → Sound names scene → (p : Place) → p.scope * 2 ^ 32 + p.ordinal ≤ scene.block.scope * 2 ^ 32 + length (own_of scene) → (m : RowMeaning) → Fits names p m → HasSmallOrdinals m
    → IsNamed scene m → IsNamed (scene_with scene xs) m
named_stays names scene xs sound p near (TypeName t) fits small h =
    ap (λ (r : Row). is_open_kind (row_meaning r)) (row_stays scene xs sound t (small, omega (arith, fits, near))) ∙ h
named_stays names scene xs sound p near m fits small h = tt

pub closed_with : (names : ℕ) (c : Context) (rows : List Row) → Ready names c rows → AllAgree c.scene rows → IsClosed c.scene → IsClosed (scene_with c.scene rows)
closed_with names c rows ready agree closed s o r e = by_order (cases_order s c.scene.block.scope)
  where
    by_order : (s ≡ c.scene.block.scope) ⊎ ((s < c.scene.block.scope) ⊎ (c.scene.block.scope < s)) → IsNamed (scene_with c.scene rows) (row_meaning r)
    by_order (inl same) = by_part (front_or_back (own_of c.scene) rows o r found)
      where
        here : rows_at (scene_with c.scene rows).tables s ≡ own_of c.scene ++ rows
        here = ap (rows_at (scene_with c.scene rows).tables) same ∙ own-with c.scene rows ready.sound.scene.room

        found : slice_get (own_of c.scene ++ rows) o ≡ Some r
        found = subst (λ (rs : List Row). slice_get rs o ≡ Some r) here e

        by_part : (slice_get (own_of c.scene) o ≡ Some r) ⊎ ((k : ℕ) × (slice_get rows k ≡ Some r)) → IsNamed (scene_with c.scene rows) (row_meaning r)
        by_part (inl h) =
            let ok = ready.sound.scene.own o r h in
            let within = slice_get_within (own_of c.scene) o r h in
            named_stays names c.scene rows ready.sound.scene (at_place c.scene.block.scope o) (omega (arith, within)) (row_meaning r) ok.formed.fits ok.small (closed c.scene.block.scope o r h)
        by_part (inr h) = agrees_named (scene_with c.scene rows) (row_meaning r) (each_at (λ (x : Row). Agrees (scene_with c.scene rows) (row_meaning x)) rows (agree_each names c rows ready agree) h.0 r h.1)
    by_order (inr (inl less)) =
        let found : slice_get (rows_at c.scene.tables s) o ≡ Some r =
        subst (λ (rs : List Row). slice_get rs o ≡ Some r) (get_or-set_other c.scene.tables c.scene.block.scope s (own_of c.scene ++ rows) [] (λ q. omega (arith, q, less))) e in
        let ok = ready.sound.scene.earlier s o r less found in
        let small = ok.0 in
        named_stays names c.scene rows ready.sound.scene (at_place s o) (omega (arith, small, less)) (row_meaning r) ok.1.formed.fits ok.1.small (closed s o r found)
    by_order (inr (inr more)) =
        let none : slice_get [] o ≡ Some r =
        subst (λ (rs : List Row). slice_get rs o ≡ Some r)
        (get_or-set_other c.scene.tables c.scene.block.scope s (own_of c.scene ++ rows) [] (λ q. omega (arith, q, more)) ∙ ready.sound.scene.above s more) e in
        absurd (cc)

-- ** Types that stand for others

module _ (scene : Scene) (closed : IsClosed scene) where
  by_kind : (t u : Place) (m : RowMeaning) → meaning_at scene u ≡ m → is_open_kind (meaning_at scene t) ≡ false → is_open_kind (meaning_at scene u) ≡ false → is_open_kind (meaning_at scene (unless_opaque t u m)) ≡ false
  by_kind t u Opaque e h k = h
  by_kind t u m e h k = k

  by_row : (t : Place) (m : RowMeaning) → is_open_kind (meaning_at scene t) ≡ false → IsNamed scene m → is_open_kind (meaning_at scene (type_named scene t m)) ≡ false
  by_row t (TypeName u) h k = by_kind t u (meaning_at scene u) refl h k
  by_row t m h k = h

  by_entry : (t : Place) (o : Option Entry) → is_open_kind (meaning_at scene t) ≡ false → WhereKept o (IsClosedEntry scene) → is_open_kind (meaning_at scene (named_or scene t o)) ≡ false
  by_entry t None h k = h
  by_entry t (Some e) h k = by_row t (row_meaning e.1) h k

  by_own : (t : Place) (o : Option ℕ) → is_open_kind (meaning_at scene t) ≡ false → is_open_kind (meaning_at scene (opaque_as scene t o)) ≡ false
  by_own t None h = h
  by_own t (Some own) h =
      let name = (row_at scene.tables (at_place own (t.ordinal + 1))).name in
      either (λ p. is_open_kind (meaning_at scene p) ≡ false) (t.scope == own) (declared_as scene t name) t
      (either (λ p. is_open_kind (meaning_at scene p) ≡ false) (name == 0) t (named_or scene t (entry_in scene.tables scene.block.home name)) h
      (by_entry t (entry_in scene.tables scene.block.home name) h (found_closed scene closed (scene.block.home ∷ []) name))) h

  by_meaning : (t : Place) (m : RowMeaning) → is_open_kind (meaning_at scene t) ≡ false → is_open_kind (meaning_at scene (stands_as scene t m)) ≡ false
  by_meaning t Opaque h = by_own t scene.block.own h
  by_meaning t m h = h

  -- what is no open array stands for none
  pub kind_closed : (t : Place) → is_open_kind (meaning_at scene t) ≡ false → is_open_array scene t ≡ false
  kind_closed t h = by_meaning t (meaning_at scene t) h
