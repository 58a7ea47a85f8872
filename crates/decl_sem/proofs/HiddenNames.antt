-- What the block has under a name, by the layout, and where it leads.
use Rattle.std.specs.Prelude.{◌≡◌, ◌≢◌, ℕ, ◌+◌, ◌<◌, ◌^◌, ◌==◌, ◌||◌, Bool, true, false, nat_lt, not, is_some, if◌then◌else◌, List, [], ◌∷◌, ◌++◌, length, slice_index_or, Option, None, Some, option_map}
use Rattle.std.proofs.Common.{refl, sym, ap, ◌∙◌, subst, arith}
use Rattle.m2_base.specs.Finished.{IsFinished}
use Rattle.m2_base.specs.Rows.{at_place, is_same_place, row_meaning, row_of}
use Rattle.m2_base.specs.States.{Frame}
use Rattle.m2_base.specs.Standard.{is_standard}
use Rattle.m2_base.specs.Statics.Contexts.{Layout, Scene, row_at}
use Rattle.m2_base.specs.declared.sites.Named.{Named}
use Rattle.m2_base.specs.Statics.ImportedConstants.{leads_elsewhere}
use Rattle.m2_base.specs.Statics.Lookup.{Entry, entry_at, entry_in, first_entry}
use Rattle.m2_base.specs.Statics.Makes.{own_rows}
use Rattle.m2_base.specs.Statics.Shapes.{Shape}
use Rattle.m2_base.specs.Statics.Uses.{followed, followed_by}
use Rattle.m2_base.specs.Tables.{found_or, rows_at}
use Rattle.m2_base.specs.declared.rows.Place.{Place}
use Rattle.m2_base.specs.declared.rows.Row.{Row}
use Rattle.m2_base.specs.declared.rows.RowMeaning.{RowMeaning}
use Rattle.m2_base.specs.declared.rows.RowMeaning.TheVariants.{Alias, Broken}
use Rattle.m2_base.specs.declared.sites.Site.{Site}
use Rattle.type_rules.specs.Scenes.{Hand, scene_of}
use Rattle.type_rules.specs.Sites.{context_of}
use Rattle.decl_sem.specs.Making.{next_ordinal}
use Rattle.decl_sem.specs.NewNames.{earlier_row, ordinal_before}
use Rattle.decl_sem.specs.Pieces.{IsBehind, IsMaking}
use Rattle.decl_sem.specs.declared.making.Made.{Made}
use Rattle.decl_sem.proofs.FirstNames.{row_of_name}
use Rattle.decl_sem.proofs.Hands.{hand_ahead, hand_is}

-- the entry of the own row with this ordinal
abbrev pub own_entry : Scene → ℕ → Entry
own_entry scene k = entry_at scene (at_place scene.block.scope k)

found_row : (s : ℕ) (rows : List Row) (o : Option ℕ) → found_or s (option_map (λ k. (k, slice_index_or rows k (row_of 0 0 Broken))) o) None ≡ option_map (λ k. (at_place s k, slice_index_or rows k (row_of 0 0 Broken))) o
found_row s rows None = refl
found_row s rows (Some k) = refl

-- what the block has under a name is what the layout has before the next row
pub entry_by_layout : {f : Frame} {s : Site} {made : Made} {shapes : List Shape} (name : ℕ) → IsMaking f s made shapes → name ≢ 0 → (hand : Hand) → hand.rows ≡ made.rows.items → IsFinished f.setting.texts hand.finished
    → entry_in (context_of f hand s).scene.tables (context_of f hand s).scene.block.scope name ≡ option_map (own_entry (context_of f hand s).scene) (earlier_row s.layout.now (next_ordinal made) name)
entry_by_layout {f} {s} {made} {shapes} name making some hand same told =
    let c = context_of f hand s in
    let found = row_of_name s.layout.now (own_rows c) shapes name some (hand_ahead making hand same told) in
    ap (λ hit. found_or c.scene.block.scope hit None) found
    ∙ found_row c.scene.block.scope (own_rows c) (earlier_row s.layout.now (length (own_rows c)) name)
    ∙ ap (λ (n : ℕ). option_map (own_entry c.scene) (earlier_row s.layout.now n name)) (hand_is making hand same told).count

-- where a row leads
abbrev pub led : Scene → ℕ → Place
led scene k = (followed scene (own_entry scene k)).0

pub led_alias : (scene : Scene) (k : ℕ) (target : Place) (m : RowMeaning) → m ≡ row_meaning (row_at scene.tables (at_place scene.block.scope k)) → m ≡ Alias target → target ≡ led scene k
led_alias scene k target m e is =
    let there : row_meaning (row_at scene.tables (at_place scene.block.scope k)) ≡ Alias target = sym e ∙ is in
    sym (ap (λ (n : RowMeaning). (followed_by scene (own_entry scene k) n).0) there)

-- it is hidden where that is elsewhere
pub hidden_some : (scene : Scene) (p target : Place) (k : ℕ) (o : Option Entry) (d : Bool) → o ≡ Some (own_entry scene k) → target ≡ led scene k → d ≡ not (is_same_place target p) → d ≡ leads_elsewhere scene p o
hidden_some scene p target k o d e is h =
    h ∙ ap (λ (q : Place). not (is_same_place q p)) is ∙ sym (ap (leads_elsewhere scene p) e)

pub hidden_none : (scene : Scene) (p : Place) (o : Option Entry) → o ≡ None → false ≡ leads_elsewhere scene p o
hidden_none scene p o e = sym (ap (leads_elsewhere scene p) e)

-- a row of the own scope stands before the next
pub own_behind : {f : Frame} {s : Site} {made : Made} {shapes : List Shape} (p : Place) → IsMaking f s made shapes → p.scope ≡ s.around.now.scope → p.ordinal < 2 ^ 32 → p.ordinal < next_ordinal made → IsBehind f (next_ordinal made) p
own_behind p making own small below = record { small = small; scope = let e = making.suits.around.fills in omega (arith, own, e); before = λ same. below }

ordinal_below : (next k : ℕ) (e : Option Named) → ordinal_before next e ≡ Some k → k < next
ordinal_below next k None h = absurd (cc)
ordinal_below next k (Some n) h = go (nat_lt n.ordinal next) refl h
  where
    go : (t : Bool) → nat_lt n.ordinal next ≡ t → (if t then Some n.ordinal else None) ≡ Some k → k < next
    go true q e = let same : n.ordinal ≡ k = cc in grind (arith, q, same)
    go false q e = absurd (cc)

-- an earlier row is before the next
pub earlier_below : (l : Layout) (next name k : ℕ) → earlier_row l next name ≡ Some k → k < next
earlier_below l next name k h = go (is_standard name) h
  where
    go : (b : Bool) → (if b then None else ordinal_before next (first_entry l name)) ≡ Some k → k < next
    go true e = absurd (cc)
    go false e = ordinal_below next k (first_entry l name) e

-- and has no standard name
pub earlier_plain : (l : Layout) (next name k : ℕ) → earlier_row l next name ≡ Some k → is_standard name ≡ false
earlier_plain l next name k h = go (is_standard name) h
  where
    go : (b : Bool) → (if b then None else ordinal_before next (first_entry l name)) ≡ Some k → b ≡ false
    go true e = absurd (cc)
    go false e = refl

-- a name that is no standard one, and has no earlier row
pub earlier_none : (l : Layout) (next name : ℕ) → earlier_row l next name ≡ None → is_standard name ≡ false → ordinal_before next (first_entry l name) ≡ None
earlier_none l next name h plain = ap (λ (b : Bool). if b then None else ordinal_before next (first_entry l name)) (sym plain) ∙ h

led_other_by : (scene : Scene) (e : Entry) (m : RowMeaning) → ((p : Place) → m ≡ Alias p → ⊥) → (followed_by scene e m).0 ≡ e.0
led_other_by scene e (Alias p) unlike = absurd (unlike p refl)
led_other_by scene e other unlike = refl

-- any other row leads to itself
pub led_itself : (scene : Scene) (k : ℕ) (m : RowMeaning) → m ≡ row_meaning (row_at scene.tables (at_place scene.block.scope k)) → ((p : Place) → m ≡ Alias p → ⊥) → at_place scene.block.scope k ≡ led scene k
led_itself scene k m e unlike = sym (ap (λ (n : RowMeaning). (followed_by scene (own_entry scene k) n).0) (sym e) ∙ led_other_by scene (own_entry scene k) m unlike)
