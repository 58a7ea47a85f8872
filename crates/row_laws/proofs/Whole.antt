-- The scene of a block's statements, over all finished rows.
use Rattle.std.specs.Prelude.{◌≡◌, ◌≤ℤ◌, ◌-ℤ◌, ℕ, ◌+◌, ◌-◌, ◌^◌, ◌<◌, ◌≤◌, true, false, ◌||◌, ◌⊎◌, ℤ, pos, negsuc, take, List, [], ◌∷◌, ◌++◌, length, slice_get, slice_index_or, Option, Some, None, unwrap_or}
use Rattle.std.proofs.Common.{ap, subst, sym, ◌∙◌, refl, inl, inr, arith}
use Rattle.std.proofs.Math.Facts.{yes_leb}
use Rattle.std.proofs.lemmas.Bool.{cases_order, ltb-true}
use Rattle.std.proofs.lemmas.Int.{ints}
use Rattle.std.proofs.lemmas.List.{get_or_at, get_or-take, get_or_append_left, get_or_past, length-append, length-take-le}
use Rattle.m2_base.specs.Lists.{WhereKept}
use Rattle.m2_base.specs.Rows.{at_place, row_of, Fits, HasSmallOrdinals}
use Rattle.m2_base.specs.declared.rows.Place.{Place}
use Rattle.m2_base.specs.declared.rows.Row.{Row}
use Rattle.m2_base.specs.declared.rows.RowMeaning.{RowMeaning}
use Rattle.m2_base.specs.declared.rows.RowMeaning.TheVariants.{Array, Broken, Cardinal, Character, Const, Enum, Field, Integer, Proc, Record, Subrange, Var}
use Rattle.m2_base.specs.Standard.{standard_rows}
use Rattle.m2_base.specs.Tables.{first_named, found_or, rows_at}
use Rattle.m2_base.specs.Statics.Arrays.{is_index_range}
use Rattle.m2_base.specs.Statics.Cells.{most_cells}
use Rattle.m2_base.specs.Statics.Contexts.{Block, Scene, Source, counting}
use Rattle.m2_base.specs.Statics.FormedRows.{AreRight, IsFilled, IsSoundText}
use Rattle.m2_base.specs.Statics.Ranges.{Range, range, count_of, count_to, cardinal_range, integer_range}
use Rattle.m2_base.specs.Statics.Types.{is_broken, kind_of, meaning_at, range_by, range_of, stands_for}
use Rattle.m2_base.proofs.Sound.{Sound, RowOk, IsThere}
use Rattle.row_laws.proofs.Numbers.{IsIndex, Agrees}
use Rattle.row_laws.specs.RowRanges.{HasOperands, IsIndexRange}
use Rattle.row_laws.proofs.Fitting.{IsInModule}
use Rattle.row_laws.proofs.Settled.{IsLater, IsSameBehind}

-- ** The scene

-- where the statements of a block stand
abbrev pub whole_scene : (all : List (List Row)) → Block → Scene
whole_scene all b = counting all b (rows_at all b.scope)

pub whole-rows : (all : List (List Row)) (b : Block) (q : ℕ) → b.scope < length all → q ≤ b.scope → rows_at (whole_scene all b).tables q ≡ rows_at all q
whole-rows all b q h k = by_order (cases_order q b.scope)
  where
    long : length (take b.scope all) ≡ b.scope
    long = length-take-le b.scope all (omega (arith, h))

    by_order : (q ≡ b.scope) ⊎ ((q < b.scope) ⊎ (b.scope < q)) → rows_at (whole_scene all b).tables q ≡ rows_at all q
    by_order (inl same) = get_or_at (take b.scope all) (rows_at all b.scope) [] [] q (long ∙ sym same) ∙ ap (rows_at all) (sym same)
    by_order (inr (inl less)) = get_or_append_left (take b.scope all) (rows_at all b.scope ∷ []) [] q (omega (arith, long, less)) ∙ get_or-take b.scope all q [] less
    by_order (inr (inr more)) = absurd (omega (arith, k, more))

pub whole-above : (all : List (List Row)) (b : Block) (q : ℕ) → b.scope < length all → b.scope < q → rows_at (whole_scene all b).tables q ≡ []
whole-above all b q h k =
    let long = length-take-le b.scope all (omega (arith, h)) in
    let e = length-append (take b.scope all) (rows_at all b.scope ∷ []) in
    get_or_past (take b.scope all ++ rows_at all b.scope ∷ []) q [] (omega (arith, long, e, k))

pub whole-length : (all : List (List Row)) (b : Block) → b.scope < length all → length (whole_scene all b).tables ≡ b.scope + 1
whole-length all b h =
    let long = length-take-le b.scope all (omega (arith, h)) in
    let e = length-append (take b.scope all) (rows_at all b.scope ∷ []) in
    omega (arith, long, e)

-- what all finished rows of a unit keep to
pub record Whole (names : ℕ) (source : Source) (own : Option ℕ) (home : ℕ) (all : List (List Row)) : Type 0 where
  pub some : 0 < names
  pub few_names : names ≤ 2 ^ 32
  pub text : IsSoundText source
  pub standard : rows_at all 0 ≡ standard_rows
  pub right : AreRight names all
  pub short : length all ≤ 2 ^ 32
  pub few : (s : ℕ) → length (rows_at all s) < 2 ^ 31
  pub own_before : WhereKept own (λ o. o < home)

module _ (names : ℕ) (source : Source) (own : Option ℕ) (home : ℕ) (all : List (List Row)) (whole : Whole names source own home all) where
  row_right : (b : Block) → b.scope < length all → (q o : ℕ) (r : Row) → q ≤ b.scope → slice_get (rows_at (whole_scene all b).tables q) o ≡ Some r → (o < 2 ^ 32) × RowOk names (at_place q o) r
  row_right b h q o r k e =
      let right = whole.right q o r (subst (λ (rows : List Row). slice_get rows o ≡ Some r) (whole-rows all b q h k) e) in
      (right.0, record { formed = right.1.formed; small = right.1.small; cells = right.1.cells })

  pub whole_sound : (b : Block) → 0 < b.scope → b.scope < length all → Sound names (whole_scene all b)
  whole_sound b positive h =
      record {
        some = whole.some;
        room = let e = whole-length all b h in omega (arith, e);
        positive = positive;
        above = λ s k. whole-above all b s h k;
        earlier = λ s o r k e. row_right b h s o r (omega (arith, k)) e;
        own = λ o r e. (row_right b h b.scope o r (omega arith) e).1;
        standard = whole-rows all b 0 h (omega arith) ∙ whole.standard;
        few = let e = ap length (whole-rows all b b.scope h (omega arith)) in let few = whole.few b.scope in omega (arith, e, few);
      }

  -- ** Later scenes

  -- a type that is there has no greater scope
  pub there_scope : (scene : Scene) → Sound names scene → (t : Place) → IsThere scene t → t.scope ≤ scene.block.scope
  there_scope scene sound t h = let b = h.1 in let few = sound.few in omega (arith, b, few)

  -- an own definition, if there is one, is before the main module's scopes
  later_own : (scene : Scene) → ((q : ℕ) → q ≤ scene.block.scope → rows_at scene.tables q ≡ rows_at all q) → IsInModule own home scene.block
      → (b : Block) → IsInModule own home b → scene.block.scope ≤ b.scope → b.scope < length all → (o : Option ℕ) → scene.block.own ≡ o → WhereKept o (IsSameBehind scene (whole_scene all b))
  later_own scene same fits b fits' k h None e = tt
  later_own scene same fits b fits' k h (Some o) e = by_module fits fits'
    where
      by_module : IsInModule own home scene.block → IsInModule own home b → IsSameBehind scene (whole_scene all b) o
      by_module (inl d) y = let none : None ≡ Some o = sym d.0 ∙ e in absurd (cc)
      by_module (inr m) (inl d) = let x = m.2 in let y = d.1 in absurd (omega (arith, x, y, k))
      by_module (inr m) (inr m') =
          let is : own ≡ Some o = sym m.0 ∙ e in
          let before : o < home = subst (λ (x : Option ℕ). WhereKept x (λ o. o < home)) is whole.own_before in
          let behind = m.2 in
          let home_is = m.1 in
          let there : o ≤ scene.block.scope = omega (arith, before, behind) in
          let rows : (q : ℕ) → q ≤ scene.block.scope → rows_at (whole_scene all b).tables q ≡ rows_at scene.tables q = λ q l. whole-rows all b q h (omega (arith, l, k)) ∙ sym (same q l) in
          let home_there : scene.block.home ≤ scene.block.scope = omega (arith, behind, home_is) in
          record {
            own_same = m'.0 ∙ is;
            home_same = m'.1 ∙ sym m.1;
            names_same = λ n. ap (λ (rs : List Row). slice_index_or rs n (row_of 0 0 Broken)) (rows o there);
            found_same = λ name x found. ap (λ (rs : List Row). found_or scene.block.home (first_named name rs 0) None) (rows scene.block.home home_there) ∙ found;
          }

  pub later_whole : (scene : Scene) → Sound names scene → ((q : ℕ) → q ≤ scene.block.scope → rows_at scene.tables q ≡ rows_at all q) → IsInModule own home scene.block
      → (b : Block) → IsInModule own home b → scene.block.scope ≤ b.scope → b.scope < length all → IsLater scene (whole_scene all b)
  later_whole scene sound same fits b fits' k h =
      record {
        rows_same = λ t there. let l = there_scope scene sound t there in
            ap (λ (rs : List Row). slice_index_or rs t.ordinal (row_of 0 0 Broken)) (whole-rows all b t.scope h (omega (arith, l, k)) ∙ sym (same t.scope l));
        own_behind = later_own scene same fits b fits' k h scene.block.own refl;
      }

-- ** Operands

-- an offset isn't too great
abbrev pub HasOffset : RowMeaning → Type 0
HasOffset (Var t mode offset) = offset ≤ most_cells + 1
HasOffset other = Unit {0}

counted_as : (low high z : ℤ) → high -ℤ low ≡ z → low ≤ℤ high → 1 ≤ count_to z
counted_as low high (pos n) e h = omega arith
counted_as low high (negsuc n) e h = absurd (omega (arith, ints, e, h))

counted : (low high : ℤ) → low ≤ℤ high → 1 ≤ count_of (range low high)
counted low high h = counted_as low high (high -ℤ low) refl h

range_is : (q r : Range) → 1 ≤ count_of q → Some q ≡ Some r → 1 ≤ count_of r
range_is q r h e = subst (λ x. 1 ≤ count_of x) (ap (λ o. unwrap_or o q) e) h

range_counted : (scene : Scene) (m : RowMeaning) (r : Range) → Agrees scene m → range_by m ≡ Some r → 1 ≤ count_of r
range_counted scene Integer r h e = range_is integer_range r (counted (negsuc 2147483647) (pos 2147483647) (record { le = tt })) e
range_counted scene Cardinal r h e = range_is cardinal_range r (counted (pos 0) (pos 4294967295) (record { le = tt })) e
range_counted scene Character r h e = range_is (range (pos 0) (pos 255)) r (counted (pos 0) (pos 255) (record { le = tt })) e
range_counted scene (Enum n) r h e = range_is (range (pos 0) (pos (n - 1))) r (counted (pos 0) (pos (n - 1)) (omega (arith, yes_leb))) e
range_counted scene (Subrange b low high) r h e = range_is (range low high) r (counted low high h) e
range_counted scene m r h e = absurd (cc)

index_operands : (scene : Scene) (i : Place) → IsIndex scene i → Agrees scene (kind_of scene i) → is_broken scene i ≡ false → IsIndexRange (range_of scene i)
index_operands scene i is agrees sound = by_range (range_of scene i) refl
  where
    few : is_index_range (range_of scene i) ≡ true
    few = sym (ap (λ b. b || is_index_range (range_of scene i)) sound) ∙ is

    by_range : (o : Option Range) → range_of scene i ≡ o → IsIndexRange o
    by_range None e = tt
    by_range (Some r) e =
        let most_few = ltb-true (count_of r) (most_cells + 1) (sym (ap is_index_range e) ∙ few) in
        (range_counted scene (kind_of scene i) r agrees e, omega (arith, most_few))

pub operands : (names : ℕ) (scene : Scene) (p : Place) → p.scope < 2 ^ 32 → p.ordinal < 2 ^ 32 → ((i : Place) → Agrees scene (meaning_at scene i)) → (m : RowMeaning) → Fits names p m → HasSmallOrdinals m → IsFilled m
    → Agrees scene m → HasOffset m → HasOperands scene m
operands names scene p scope ordinal all (Const t v l) f s k a o = (f.1, f.2)
operands names scene p scope ordinal all (Var t mode offset) f s k a o = omega (arith, o)
operands names scene p scope ordinal all (Proc t n q) f s k a o = (let b = f.0 in omega (arith, b, scope, ordinal), f.1)
operands names scene p scope ordinal all (Field t offset own name) f s k a o = f.1
operands names scene p scope ordinal all (Enum n) f s k a o = f
operands names scene p scope ordinal all (Subrange b low high) f s k a o = (f.1, f.2)
operands names scene p scope ordinal all (Array i t size) f s k a o = (k, f.2, index_operands scene i a (all (stands_for scene i)))
operands names scene p scope ordinal all (Record first size) f s k a o = (k, f.1)
operands names scene p scope ordinal all m f s k a o = tt
