-- Scenes in which no row has a type in error, and what is found in them.
use Rattle.std.specs.Prelude.{◌≡◌, ◌≢◌, ℕ, zero, suc, ◌+◌, ◌-◌, ◌*◌, ◌/◌, ◌%◌, ◌^◌, ◌<◌, ◌≤◌, ◌==◌, true, false, ◌⊎◌, List, [], ◌∷◌, ◌++◌, length, map, pos, slice_get, slice_index_or, Option, Some, None}
use Rattle.std.proofs.Common.{ap, subst, sym, ◌∙◌, refl, inl, inr, arith}
use Rattle.std.proofs.lemmas.Bool.{and_from, and_parts, both_ways, cases_order, eq-eqb, eqb-true, false_from_ne_true}
use Rattle.std.proofs.lemmas.List.{append-nil, get_or_append_left, get_or_past, get_or-append-add}
use Rattle.std.proofs.lemmas.Option.{slice_get_cases}
use Rattle.m2_base.specs.Lists.{Each, WhereKept}
use Rattle.m2_base.specs.Rows.{at_place, is_same_place, number_of, place_of, row_of, row_meaning}
use Rattle.m2_base.specs.declared.rows.Place.{Place}
use Rattle.m2_base.specs.declared.rows.Row.{Row}
use Rattle.m2_base.specs.declared.rows.RowMeaning.{RowMeaning}
use Rattle.m2_base.specs.declared.rows.RowMeaning.TheVariants.{Alias, Broken, Cardinal, Character, Enum, Integer, Nil, Opaque, ProcType, Set, Subrange, Text, TypeName, Whole}
use Rattle.m2_base.specs.Standard.{bit_range, broken, cardinal, is_standard, named_rows, standard_meanings, standard_rows}
use Rattle.m2_base.specs.Tables.{rows_at}
use Rattle.m2_base.specs.Statics.Contexts.{Scene, row_at}
use Rattle.m2_base.specs.Statics.Lookup.{Entry, entry_in}
use Rattle.m2_base.specs.Statics.Makes.{scene_with}
use Rattle.m2_base.specs.Statics.Types.{declared_as, is_broken, meaning_at, named_or, opaque_as, stands_as, stands_for, type_named, unless_opaque}
use Rattle.row_laws.specs.Clear.{AreClear, HasClear, IsClear, IsClearRow, IsNamedTarget, IsTarget, LeadsOn}
use Rattle.m2_base.proofs.SceneLaws.{IsOpen, open-with, own_of, own-with}
use Rattle.m2_base.proofs.SoundTypes.{either}
use Rattle.m2_base.proofs.StandardLaws.{standard_between}
use Rattle.row_laws.proofs.Joined.{front_or_back}
use Rattle.row_laws.proofs.Lookups.{row_of_place, Found, found_row}
use Rattle.row_laws.proofs.Members.{each_at, each_index}
use Rattle.row_laws.proofs.Settled.{other_rows, rows_stay}

-- ** Types that aren't in error

-- a number names the place of parts in error only if it is that place's
low_number : (n s o : ℕ) → n ≡ s * 2 ^ 32 + o → n / 2 ^ 32 ≡ 0 → n % 2 ^ 32 ≡ 10 → (s ≡ 0) × (o ≡ 10)
low_number n s o e h k = (omega (arith, e, h, k), omega (arith, e, h, k))

-- a type is as clear as it is written in a row
pub clear_again : (t : Place) → IsClear t → IsClear (place_of (number_of t))
clear_again t h =
    let n = t.scope * 2 ^ 32 + t.ordinal in
    false_from_ne_true (is_same_place (place_of (number_of t)) broken) (λ e.
    let parts = and_parts (n / 2 ^ 32 == 0) (n % 2 ^ 32 == 10) e in
    let is = low_number n t.scope t.ordinal refl (eqb-true (n / 2 ^ 32) 0 parts.0) (eqb-true (n % 2 ^ 32) 10 parts.1) in
    both_ways (is_same_place t broken) h (and_from _ _ (eq-eqb t.scope 0 is.0) (eq-eqb t.ordinal 10 is.1)))

-- a place of another scope than the standard one
pub behind_clear : (s o : ℕ) → 0 < s → IsClear (at_place s o)
behind_clear s o h =
    false_from_ne_true (is_same_place (at_place s o) broken) (λ e. let zero_is = eqb-true s 0 (and_parts (s == 0) (o == 10) e).0 in omega (arith, h, zero_is))

-- ** Clear rows

-- of all rows the types aren't in error
abbrev pub HaveClear : List (List Row) → Type 0
HaveClear tables = (s o : ℕ) (r : Row) → slice_get (rows_at tables s) o ≡ Some r → HasClear (row_meaning r)

-- a scene whose rows are clear, and in which rows can be made
pub record IsClearScene (scene : Scene) : Type 0 where
  pub room : IsOpen scene
  pub positive : 0 < scene.block.scope
  pub standard : rows_at scene.tables 0 ≡ standard_rows
  pub rows : AreClear scene.tables

pub have_clear : (tables : List (List Row)) → AreClear tables → HaveClear tables
have_clear tables all s o r e = (all s o r e).0

pub place_clear : (tables : List (List Row)) → HaveClear tables → (p : Place) → HasClear (row_meaning (row_at tables p))
place_clear tables all p = row_of_place (λ r. HasClear (row_meaning r)) tables all tt p

-- ** Types that stand for others

module _ (scene : Scene) (all : HaveClear scene.tables) where
  by_kind : (t u : Place) (m : RowMeaning) → IsClear t → IsClear u → IsClear (unless_opaque t u m)
  by_kind t u Opaque h k = h
  by_kind t u m h k = k

  by_row : (t : Place) (m : RowMeaning) → IsClear t → HasClear m → IsClear (type_named scene t m)
  by_row t (TypeName u) h k = by_kind t u (meaning_at scene u) h k
  by_row t m h k = h

  by_entry : (t : Place) (name : ℕ) (o : Option Entry) → IsClear t → WhereKept o (Found (λ r. HasClear (row_meaning r)) scene.tables name) → IsClear (named_or scene t o)
  by_entry t name None h k = h
  by_entry t name (Some e) h k = by_row t (row_meaning e.1) h k.holds

  by_own : (t : Place) (o : Option ℕ) → IsClear t → IsClear (opaque_as scene t o)
  by_own t None h = h
  by_own t (Some own) h =
      let name = (row_at scene.tables (at_place own (t.ordinal + 1))).name in
      either IsClear (t.scope == own) (declared_as scene t name) t
      (either IsClear (name == 0) t (named_or scene t (entry_in scene.tables scene.block.home name)) h
      (by_entry t name (entry_in scene.tables scene.block.home name) h (found_row (λ (r : Row). HasClear (row_meaning r)) scene.tables all (scene.block.home ∷ []) name)))
      h

  by_meaning : (t : Place) (m : RowMeaning) → IsClear t → IsClear (stands_as scene t m)
  by_meaning t Opaque h = by_own t scene.block.own h
  by_meaning t m h = h

  -- what stands for a type isn't in error either
  pub stands_clear : (t : Place) → IsClear t → IsClear (stands_for scene t)
  stands_clear t h = by_meaning t (meaning_at scene t) h

  pub not_broken : (t : Place) → IsClear t → is_broken scene t ≡ false
  not_broken t h = stands_clear t h

-- ** More rows

-- the scopes have more rows
abbrev pub Extends : (old new : List (List Row)) → Type 0
Extends old new = (s : ℕ) → (ys : List Row) × (rows_at new s ≡ rows_at old s ++ ys)

-- a row that is there stays
pub row_stays : (old new : List (List Row)) → Extends old new → (p : Place) → p.ordinal < length (rows_at old p.scope) → row_at new p ≡ row_at old p
row_stays old new more p there =
    let ys = more p.scope in
    ap (λ (rs : List Row). slice_index_or rs p.ordinal (row_of 0 0 Broken)) ys.1 ∙ get_or_append_left (rows_at old p.scope) ys.0 (row_of 0 0 Broken) p.ordinal there

-- a target is there
pub target_there : (tables : List (List Row)) (p : Place) → IsTarget (row_meaning (row_at tables p)) → p.ordinal < length (rows_at tables p.scope)
target_there tables p h = by_case ((slice_get_cases (rows_at tables p.scope) p.ordinal).1)
  where
    by_case : ((x : Row) × (p.ordinal < length (rows_at tables p.scope)) × (slice_get (rows_at tables p.scope) p.ordinal ≡ Some x) × (slice_index_or (rows_at tables p.scope) p.ordinal x ≡ x))
        ⊎ ((length (rows_at tables p.scope) ≤ p.ordinal) × (slice_get (rows_at tables p.scope) p.ordinal ≡ None))
        → p.ordinal < length (rows_at tables p.scope)
    by_case (inl x) = x.1
    by_case (inr x) = absurd (subst (λ (r : Row). IsTarget (row_meaning r)) (get_or_past (rows_at tables p.scope) p.ordinal (row_of 0 0 Broken) x.0) h)

leads_stay : (old new : List (List Row)) → Extends old new → (m : RowMeaning) → LeadsOn old m → LeadsOn new m
leads_stay old new more (Alias p) h = subst IsNamedTarget (sym (row_stays old new more p (target_there old p h.1))) h
leads_stay old new more m h = tt

pub row_stays_clear : (old new : List (List Row)) → Extends old new → (r : Row) → IsClearRow old r → IsClearRow new r
row_stays_clear old new more r h = (h.0, leads_stay old new more (row_meaning r) h.1, h.2)

-- the same rows are as clear
pub same_clear : (old new : List (List Row)) → ((s : ℕ) → rows_at new s ≡ rows_at old s) → AreClear old → AreClear new
same_clear old new same all s o r e =
    row_stays_clear old new (λ q. ([], same q ∙ sym (append-nil (rows_at old q)))) r (all s o r (subst (λ (rs : List Row). slice_get rs o ≡ Some r) (same s) e))

-- clear rows in a clear scene make a clear scene
pub clear_with : (scene : Scene) (xs : List Row) → IsClearScene scene → Each (IsClearRow scene.tables) xs → IsClearScene (scene_with scene xs)
clear_with scene xs clear h =
    record {
      room = open-with scene xs clear.room;
      positive = clear.positive;
      standard = other_rows scene xs 0 (λ e. let p = clear.positive in omega (arith, e, p)) ∙ clear.standard;
      rows = λ s o r e. row_stays_clear scene.tables (scene_with scene xs).tables (rows_stay scene xs clear.room) r (by_order s o r (cases_order s scene.block.scope) e);
    }
  where
    by_order : (s o : ℕ) (r : Row) → (s ≡ scene.block.scope) ⊎ ((s < scene.block.scope) ⊎ (scene.block.scope < s)) → slice_get (rows_at (scene_with scene xs).tables s) o ≡ Some r → IsClearRow scene.tables r
    by_order s o r (inl same) e = by_part (front_or_back (own_of scene) xs o r (subst (λ (rs : List Row). slice_get rs o ≡ Some r) (ap (rows_at (scene_with scene xs).tables) same ∙ own-with scene xs clear.room) e))
      where
        by_part : (slice_get (own_of scene) o ≡ Some r) ⊎ ((k : ℕ) × (slice_get xs k ≡ Some r)) → IsClearRow scene.tables r
        by_part (inl k) = clear.rows scene.block.scope o r k
        by_part (inr k) = each_at (IsClearRow scene.tables) xs h k.0 r k.1
    by_order s o r (inr (inl less)) e = clear.rows s o r (subst (λ (rs : List Row). slice_get rs o ≡ Some r) (other_rows scene xs s (λ q. omega (arith, q, less))) e)
    by_order s o r (inr (inr more)) e = clear.rows s o r (subst (λ (rs : List Row). slice_get rs o ≡ Some r) (other_rows scene xs s (λ q. omega (arith, q, more))) e)

-- ** Standard rows

-- the rows of the standard scope are clear
standard_each : (tables : List (List Row)) → Each (IsClearRow tables) standard_rows
standard_each tables = ((tt, tt, λ h. absurd (h refl)), ((tt, tt, λ h. absurd (h refl)), ((tt, tt, λ h. absurd (h refl)), ((tt, tt, λ h. absurd (h refl)), ((tt, tt, λ h. absurd (h refl)), ((refl, tt, λ h. absurd (h refl)), ((tt, tt, λ h. absurd (h refl)), ((tt, tt, λ h. absurd (h refl)), ((tt, tt, λ h. absurd (h refl)), ((tt, tt, λ h. absurd (h refl)), ((tt, tt, λ h. absurd (h refl)), ((refl, tt, λ h. tt), ((refl, tt, λ h. tt), ((refl, tt, λ h. tt), ((refl, tt, λ h. tt), ((refl, tt, λ h. tt), ((refl, tt, λ h. tt), ((refl, tt, λ h. tt), ((refl, tt, λ h. tt), ((refl, tt, λ h. tt), ((tt, tt, λ h. tt), ((tt, tt, λ h. tt), ((tt, tt, λ h. tt), ((tt, tt, λ h. tt), ((tt, tt, λ h. tt), ((tt, tt, λ h. tt), ((tt, tt, λ h. tt), ((tt, tt, λ h. tt), ((tt, tt, λ h. tt), ((tt, tt, λ h. tt), ((tt, tt, λ h. tt), ((tt, tt, λ h. tt), ((tt, tt, λ h. tt), ((tt, tt, λ h. tt), ((tt, tt, λ h. tt), ((tt, tt, λ h. tt), ((tt, tt, λ h. tt), tt)))))))))))))))))))))))))))))))))))))

pub standard_clear : AreClear (standard_rows ∷ [])
standard_clear zero o r e = each_at (IsClearRow (standard_rows ∷ [])) standard_rows (standard_each (standard_rows ∷ [])) o r e
standard_clear (suc s) o r e = absurd (cc)

-- the rows of the standard names lead to something
named_each : Each (λ (r : Row). IsTarget (row_meaning r)) (named_rows 1 standard_meanings)
named_each = (tt, (tt, (tt, (tt, (tt, (tt, (tt, (tt, (tt, (tt, (tt, (tt, (tt, (tt, (tt, (tt, (tt, (tt, (tt, (tt, (tt, (tt, (tt, (tt, (tt, (tt, tt))))))))))))))))))))))))))

-- and have names
named_above : (n : ℕ) (ms : List RowMeaning) → 0 < n → Each (λ (r : Row). r.name ≢ 0) (named_rows n ms)
named_above n [] h = tt
named_above n (m ∷ ms) h = (λ (e : n ≡ 0). omega (arith, h, e), named_above (n + 1) ms (omega (arith, h)))

standard_row : (P : Row → Type 0) → Each P (named_rows 1 standard_meanings) → (name : ℕ) → is_standard name ≡ true → P (slice_index_or standard_rows (name + 10) (row_of 0 0 Broken))
standard_row P all name h =
    let between = standard_between name h in
    let k = name - 1 in
    let types = map (row_of 0 0) (Integer ∷ Cardinal ∷ Character ∷ Enum 2 ∷ Subrange cardinal (pos 0) (pos 31) ∷ Set bit_range ∷ ProcType None 0 6 ∷ Nil ∷ Text ∷ Whole ∷ Broken ∷ []) in
    let same : name + 10 ≡ length types + k = omega (arith, between.0) in
    subst P (sym (ap (λ n. slice_index_or standard_rows n (row_of 0 0 Broken)) same ∙ get_or-append-add types (named_rows 1 standard_meanings) k (row_of 0 0 Broken)))
    (each_index P (named_rows 1 standard_meanings) (row_of 0 0 Broken) all k (omega (arith, between.0, between.1)))

pub standard_target : (name : ℕ) → is_standard name ≡ true → IsNamedTarget (slice_index_or standard_rows (name + 10) (row_of 0 0 Broken))
standard_target name h =
    (standard_row (λ (r : Row). r.name ≢ 0) (named_above 1 standard_meanings (omega arith)) name h, standard_row (λ (r : Row). IsTarget (row_meaning r)) named_each name h)
