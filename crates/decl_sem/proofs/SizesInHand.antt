-- The cells of a type whose row may be in hand.
use Rattle.std.specs.Prelude.{◌≡◌, ℕ, zero, suc, ◌+◌, ◌-◌, ◌<◌, ◌≤◌, ◌==◌, Bool, true, false, if◌then◌else◌, List, [], ◌∷◌, ◌++◌, length, slice_get, slice_index_or, Option, None, Some}
use Rattle.std.proofs.Common.{refl, sym, ap, ◌∙◌, subst, arith}
use Rattle.m2_base.specs.Lists.{Each, WhereKept}
use Rattle.m2_base.specs.Rows.{HasSmallNumbers, at_place, row_meaning, row_of}
use Rattle.m2_base.specs.States.{Frame}
use Rattle.m2_base.specs.Statics.Contexts.{Scene, row_at}
use Rattle.m2_base.specs.Statics.Shapes.{Shape}
use Rattle.m2_base.specs.Statics.Types.{declared_as, meaning_at, opaque_as, size_by, size_of, stands_as, stands_for}
use Rattle.m2_base.specs.declared.replies.Ask.{Ask}
use Rattle.m2_base.specs.declared.replies.Ask.TheVariants.{Known, DontKnowYet}
use Rattle.m2_base.specs.declared.rows.Place.{Place}
use Rattle.m2_base.specs.declared.rows.Row.{Row}
use Rattle.m2_base.specs.declared.rows.RowMeaning.{RowMeaning}
use Rattle.m2_base.specs.declared.rows.RowMeaning.TheVariants.{Broken, Opaque}
use Rattle.m2_base.specs.declared.sites.Site.{Site}
use Rattle.m2_base.proofs.EachLaws.{each_append}
use Rattle.m2_base.proofs.RowLaws.{HasSmallNumbers-fits}
use Rattle.type_rules.specs.Asks.{WhereKnown}
use Rattle.type_rules.specs.Scenes.{AreInHand, Hand, IsThere, NamesNoType, WhereTold}
use Rattle.type_rules.specs.Sites.{context_of}
use Rattle.decl_sem.specs.Making.{next_ordinal}
use Rattle.decl_sem.specs.Pieces.{AreNewRows, IsBehind, IsMaking, IsNewRow, WhereMaking, holding, item_end}
use Rattle.decl_sem.specs.declared.making.Made.{Made}
use Rattle.decl_sem.proofs.Hands.{own_are}

-- ** Rows in hand

new_at : (f : Frame) (limit o : ℕ) (rows : List Row) (k : ℕ) (r : Row) → AreNewRows f limit o rows → slice_get rows k ≡ Some r → IsNewRow f limit (o + k) r × (k < length rows)
new_at f limit o [] k r h e = absurd (cc)
new_at f limit o (x ∷ rows) zero r h e =
    let same : x ≡ r = cc in
    let at : o ≡ o + 0 = omega arith in
    (subst (λ (n : ℕ). IsNewRow f limit n r) at (subst (λ (y : Row). IsNewRow f limit o y) same h.0), omega arith)
new_at f limit o (x ∷ rows) (suc k) r h e =
    let rest = new_at f limit (o + 1) rows k r h.1 e in
    let at : o + 1 + k ≡ o + suc k = omega arith in
    let below = rest.1 in
    (subst (λ (n : ℕ). IsNewRow f limit n r) at rest.0, omega arith)

-- the numbers of a row in hand
pub numbers_in_hand : {f : Frame} {s : Site} {x : Made} {ss : List Shape} (k : ℕ) (r : Row) → IsMaking f s x ss → slice_get x.rows.items k ≡ Some r → HasSmallNumbers (row_meaning r)
numbers_in_hand {f} {s} {x} k r making e =
    let found = new_at f (item_end s) x.first x.rows.items k r making.rows e in
    let below = found.1 in
    let room = making.room in
    let few = making.few in
    let small = making.small in
    HasSmallNumbers-fits (length f.setting.texts.names) (at_place f.setting.fills (x.first + k)) (row_meaning r) making.suits.around.names (omega arith) (omega arith) found.0.right.formed.fits

-- ** What a type of the own scope stands for

opaque_here : (scene : Scene) (t : Place) (own : Option ℕ) → WhereKept own (λ s. s < t.scope) → opaque_as scene t own ≡ t
opaque_here scene t None h = refl
opaque_here scene t (Some own) h =
    let other : (t.scope == own) ≡ false = grind (arith, h) in
    ap (λ (b : Bool). if b then declared_as scene t (row_at scene.tables (at_place own (t.ordinal + 1))).name else t) other

stands_here : (scene : Scene) (t : Place) → WhereKept scene.block.own (λ s. s < t.scope) → stands_for scene t ≡ t
stands_here scene t h = go (meaning_at scene t)
  where
    go : (m : RowMeaning) → stands_as scene t m ≡ t
    go Opaque = opaque_here scene t scene.block.own h
    go other = refl

size_here : (scene : Scene) (t : Place) → WhereKept scene.block.own (λ s. s < t.scope) → size_of scene t ≡ size_by (meaning_at scene t)
size_here scene t h = ap (λ (p : Place). size_by (meaning_at scene p)) (stands_here scene t h)

index_behind : (xs ys : List Row) (k : ℕ) (d : Row) → slice_index_or (xs ++ ys) (length xs + k) d ≡ slice_index_or ys k d
index_behind [] ys k d = ap (λ (n : ℕ). slice_index_or ys n d) (let e : 0 + k ≡ k = omega arith in e)
index_behind (x ∷ xs) ys k d =
    ap (λ (n : ℕ). slice_index_or (x ∷ (xs ++ ys)) n d) (let e : suc (length xs) + k ≡ suc (length xs + k) = omega arith in e)
    ∙ index_behind xs ys k d

index_front : (xs ys : List Row) (k : ℕ) (r d : Row) → slice_get xs k ≡ Some r → slice_index_or (xs ++ ys) k d ≡ r
index_front [] ys k r d e = absurd (cc)
index_front (x ∷ xs) ys zero r d e = cc
index_front (x ∷ xs) ys (suc k) r d e = index_front xs ys k r d e

-- where own definitions stand
own_before : {f : Frame} {s : Site} {x : Made} {ss : List Shape} (t : Place) → IsMaking f s x ss → t.scope ≡ s.around.now.scope → WhereKept s.around.now.own (λ (k : ℕ). k < t.scope)
own_before {f} {s} t making e =
    subst (λ (n : ℕ). WhereKept s.around.now.own (λ (k : ℕ). k < n)) (sym (e ∙ making.suits.around.fills)) making.suits.around.own

-- the row of a type in hand
pub size_found : {f : Frame} {s : Site} {x : Made} {ss : List Shape} (t : Place) (r : Row) → IsMaking f s x ss → t.scope ≡ s.around.now.scope → x.first ≤ t.ordinal → slice_get x.rows.items (t.ordinal - x.first) ≡ Some r
    → WhereMaking f x (λ hand. (more : List Row) → Each (λ r. NamesNoType (row_meaning r)) more → size_by (row_meaning r) ≡ size_of (context_of f (holding hand more) s).scene t)
size_found {f} {s} {x} t r making own from found hand in_hand told same more types =
    let c = context_of f (holding hand more) s in
    let d : Row = row_of 0 0 Broken in
    let n = making.count in
    let at : t.ordinal ≡ length f.entered + (t.ordinal - x.first) = omega arith in
    let here : slice_get hand.rows (t.ordinal - x.first) ≡ Some r = ap (λ (rows : List Row). slice_get rows (t.ordinal - x.first)) same ∙ found in
    let row : row_at c.scene.tables t ≡ r =
    ap (λ (scope : ℕ). slice_index_or (slice_index_or c.scene.tables scope []) t.ordinal d) own
    ∙ ap (λ (rows : List Row). slice_index_or rows t.ordinal d) (own_are {f = f} {s = s} (holding hand more) making.suits told)
    ∙ ap (λ (o : ℕ). slice_index_or (f.entered ++ (hand.rows ++ more)) o d) at
    ∙ index_behind f.entered (hand.rows ++ more) (t.ordinal - x.first) d
    ∙ index_front hand.rows more (t.ordinal - x.first) r d here in
    sym (size_here c.scene t (own_before t making own) ∙ ap (λ (r : Row). size_by (row_meaning r)) row)

-- ** A type whose row is entered

pub there_before : {f : Frame} {s : Site} {x : Made} {ss : List Shape} (t : Place) → IsMaking f s x ss → IsBehind f (next_ordinal x) t
    → (t.scope ≡ s.around.now.scope → t.ordinal < next_ordinal x → t.ordinal < x.first) → IsThere f t
there_before {f} {s} {x} t making behind before =
    record {
      scope = behind.scope;
      entered = λ own begun.
          let h = before (own ∙ sym making.suits.around.fills) (behind.before own) in
          let n = making.count in
          omega arith;
    }

in_hand_more : {f : Frame} {s : Site} {x : Made} {ss : List Shape} (hand : Hand) (more : List Row) → IsMaking f s x ss → hand.rows ≡ x.rows.items → Each (λ r. NamesNoType (row_meaning r)) more → AreInHand f (holding hand more)
in_hand_more {f} {s} {x} hand more making same types =
    record {
      closed = λ e. absurd (let b = making.begun in let h : true ≡ false = sym e ∙ b in cc);
      types = each_append (λ (r : Row). NamesNoType (row_meaning r)) hand.rows more (subst (λ (rows : List Row). Each (λ r. NamesNoType (row_meaning r)) rows) (sym same) making.types) types;
    }

pub size_entered : {f : Frame} {s : Site} {x : Made} {ss : List Shape} (t : Place) (answer : Ask ℕ) → IsMaking f s x ss
    → WhereTold f (λ made. WhereKnown answer (λ size. size ≡ size_of (context_of f made s).scene t))
    → WhereMaking f x (λ hand. WhereKnown answer (λ size. (more : List Row) → Each (λ r. NamesNoType (row_meaning r)) more → size ≡ size_of (context_of f (holding hand more) s).scene t))
size_entered t (Known size) making all hand in_hand told same = λ more types. all (holding hand more) (in_hand_more hand more making same types) told
size_entered t (DontKnowYet head) making all hand in_hand told same = tt
