-- What rows in hand say.
use Rattle.std.specs.Prelude.{◌≡◌, ℕ, zero, suc, ◌+◌, ◌-◌, ◌<◌, ◌≤◌, ◌==◌, ◌^◌, Bool, true, false, if◌then◌else◌, List, [], ◌∷◌, ◌++◌, length, slice_index_or, Option, None, Some}
use Rattle.std.proofs.Common.{refl, sym, ap, ◌∙◌, subst, arith}
use Rattle.m2_base.specs.Finished.{IsFinished}
use Rattle.m2_base.specs.Lists.{WhereKept}
use Rattle.m2_base.specs.Rows.{at_place, row_meaning, row_of}
use Rattle.m2_base.specs.States.{Frame}
use Rattle.m2_base.specs.Statics.Contexts.{Scene, row_at}
use Rattle.m2_base.specs.Statics.Types.{declared_as, kind_of, meaning_at, opaque_as, stands_as, stands_for}
use Rattle.m2_base.specs.Tables.{rows_at}
use Rattle.m2_base.specs.declared.rows.Place.{Place}
use Rattle.m2_base.specs.declared.rows.Row.{Row}
use Rattle.m2_base.specs.declared.rows.RowMeaning.{RowMeaning}
use Rattle.m2_base.specs.declared.rows.RowMeaning.TheVariants.{Broken, Opaque}
use Rattle.m2_base.specs.declared.sites.Site.{Site}
use Rattle.m2_base.proofs.RowLaws.{HasSmallNumbers-fits}
use Rattle.type_rules.specs.Scenes.{Hand, IsSaid, IsStood, IsThere, rows_of, scene_of}
use Rattle.decl_sem.specs.Hands.{held_meaning, is_held}
use Rattle.decl_sem.specs.Making.{next_ordinal}
use Rattle.decl_sem.specs.Pieces.{AreNewRows, IsBehind, IsMaking, IsNewRow, item_end}
use Rattle.decl_sem.specs.declared.making.Made.{Made}
use Rattle.decl_sem.proofs.Hands.{own_are}

-- ** A row among those in hand

new_at : (f : Frame) (limit o : ℕ) (rows : List Row) (k : ℕ) (d : Row) → k < length rows → AreNewRows f limit o rows → IsNewRow f limit (o + k) (slice_index_or rows k d)
new_at f limit o [] k d h all = absurd (omega (arith, h))
new_at f limit o (r ∷ rows) zero d h all = subst (λ n. IsNewRow f limit n r) (let e : o ≡ o + 0 = omega arith in e) all.0
new_at f limit o (r ∷ rows) (suc k) d h all =
    subst (λ n. IsNewRow f limit n (slice_index_or rows k d)) (let e : o + 1 + k ≡ o + suc k = omega arith in e) (new_at f limit (o + 1) rows k d (omega (arith, h)) all.1)

behind_front : (xs ys : List Row) (k : ℕ) (d : Row) → slice_index_or (xs ++ ys) (length xs + k) d ≡ slice_index_or ys k d
behind_front [] ys k d = let e : 0 + k ≡ k = omega arith in ap (λ n. slice_index_or ys n d) e
behind_front (x ∷ xs) ys k d = let e : suc (length xs) + k ≡ suc (length xs + k) = omega arith in ap (λ n. slice_index_or (x ∷ (xs ++ ys)) n d) e ∙ behind_front xs ys k d

held_true : (scope first : ℕ) (p : Place) → is_held scope first p ≡ true → (p.scope ≡ scope) × (first ≤ p.ordinal)
held_true scope first p h = (grind (arith, h), grind (arith, h))

held_false : (scope first : ℕ) (p : Place) → is_held scope first p ≡ false → p.scope ≡ scope → p.ordinal < first
held_false scope first p h same = grind (arith, h, same)

module _ {f : Frame} {s : Site} {made : Made} (making : IsMaking f s made []) {p : Place} (behind : IsBehind f (next_ordinal made) p) where
  -- in hand it is one of the rows
  pub held_row : is_held s.around.now.scope made.first p ≡ true → (made.first ≤ p.ordinal) × (p.ordinal < next_ordinal made)
  held_row h =
      let e = held_true s.around.now.scope made.first p h in
      let own : p.scope ≡ f.setting.fills = e.0 ∙ making.suits.around.fills in
      (e.1, behind.before own)

  held_new : is_held s.around.now.scope made.first p ≡ true → IsNewRow f (item_end s) p.ordinal (slice_index_or made.rows.items (p.ordinal - made.first) (row_of 0 0 Broken))
  held_new h =
      let b = held_row h in
      let b0 = b.0 in
      let b1 = b.1 in
      subst (λ n. IsNewRow f (item_end s) n (slice_index_or made.rows.items (p.ordinal - made.first) (row_of 0 0 Broken))) (let e : made.first + (p.ordinal - made.first) ≡ p.ordinal = omega arith in e)
      (new_at f (item_end s) made.first made.rows.items (p.ordinal - made.first) (row_of 0 0 Broken) (omega arith) making.rows)

  held_place : is_held s.around.now.scope made.first p ≡ true → at_place f.setting.fills p.ordinal ≡ p
  held_place h = let e = held_true s.around.now.scope made.first p h in ap (λ n. at_place n p.ordinal) (sym (e.0 ∙ making.suits.around.fills))

  pub held_said : is_held s.around.now.scope made.first p ≡ true → IsSaid f p (held_meaning made p)
  held_said h =
      let new = held_new h in
      let m = held_meaning made p in
      let few = making.small in
      let names = making.suits.around.names in
      subst (λ (q : Place). IsSaid f q m) (held_place h)
      (record {
        fits = new.right.formed.fits;
        small = HasSmallNumbers-fits (length f.setting.texts.names) (at_place f.setting.fills p.ordinal) m names (omega arith) behind.small new.right.formed.fits;
      })

  -- otherwise it can be asked for
  pub unheld_there : is_held s.around.now.scope made.first p ≡ false → IsThere f p
  unheld_there h =
      record {
        scope = behind.scope;
        entered = λ same begun. let n = making.count in let b = held_false s.around.now.scope made.first p h (same ∙ sym making.suits.around.fills) in omega (arith, n, b);
      }

  own_place : (own : Option ℕ) → WhereKept own (λ o. o < f.setting.fills) → p.scope ≡ f.setting.fills → (scene : Scene) → opaque_as scene p own ≡ p
  own_place None before same scene = refl
  own_place (Some o) before same scene =
      let other : (p.scope == o) ≡ false = grind (arith, before, same) in
      ap (λ (b : Bool). if b then declared_as scene p (row_at scene.tables (at_place o (p.ordinal + 1))).name else p) other

  stands_itself : (m : RowMeaning) (scene : Scene) → opaque_as scene p scene.block.own ≡ p → stands_as scene p m ≡ p
  stands_itself Opaque scene h = h
  stands_itself other scene h = refl

  pub meaning_is : is_held s.around.now.scope made.first p ≡ true → (hand : Hand) → hand.rows ≡ made.rows.items → IsFinished f.setting.texts hand.finished → meaning_at (scene_of f hand s.around.now) p ≡ held_meaning made p
  meaning_is h hand same told =
      let e = held_true s.around.now.scope made.first p h in
      let own : rows_at (rows_of f hand) p.scope ≡ f.entered ++ hand.rows = ap (rows_at (rows_of f hand)) e.0 ∙ own_are {f = f} {s = s} hand making.suits told in
      let c = making.count in
      let e1 = e.1 in
      let at : p.ordinal ≡ length f.entered + (p.ordinal - made.first) = omega arith in
      ap (λ (rows : List Row). row_meaning (slice_index_or rows p.ordinal (row_of 0 0 Broken))) own
      ∙ ap (λ n. row_meaning (slice_index_or (f.entered ++ hand.rows) n (row_of 0 0 Broken))) at
      ∙ ap row_meaning (behind_front f.entered hand.rows (p.ordinal - made.first) (row_of 0 0 Broken))
      ∙ ap (λ (rows : List Row). row_meaning (slice_index_or rows (p.ordinal - made.first) (row_of 0 0 Broken))) same

  pub held_stands : is_held s.around.now.scope made.first p ≡ true → (hand : Hand) → hand.rows ≡ made.rows.items → IsFinished f.setting.texts hand.finished → IsStood (scene_of f hand s.around.now) p (p, held_meaning made p)
  held_stands h hand same told =
      let e = held_true s.around.now.scope made.first p h in
      let scene = scene_of f hand s.around.now in
      let itself : stands_for scene p ≡ p = stands_itself (meaning_at scene p) scene (own_place s.around.now.own making.suits.around.own (e.0 ∙ making.suits.around.fills) scene) in
      record {
        place = sym itself;
        meaning = sym (ap (meaning_at scene) itself ∙ meaning_is h hand same told);
      }

-- what was asked for
pub known_stood : (scene : Scene) (p : Place) (v : Place × RowMeaning) (q : Place) → q ≡ v.0 → v.0 ≡ stands_for scene p → v.1 ≡ kind_of scene p → IsStood scene p (q, v.1)
known_stood scene p v q e h k = record { place = e ∙ h; meaning = k }

pub here_behind : {f : Frame} {s : Site} {made : Made} {p : Place} → IsMaking f s made [] → p.ordinal < 2 ^ 32 → IsThere f p → IsBehind f (next_ordinal made) p
here_behind making small h =
    record { small = small; scope = h.scope; before = λ same. let b = h.entered same making.begun in let n = making.count in omega (arith, b, n) }
