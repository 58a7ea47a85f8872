-- The rows of a block that is ready are right, each at its place.
use Rattle.std.specs.Prelude.{◌≡◌, ℕ, zero, suc, ◌+◌, ◌==◌, ◌^◌, ◌<◌, ◌≤◌, Bool, true, false, if◌then◌else◌, take, List, [], ◌∷◌, ◌++◌, length, flat_map, slice_get, Option, Some}
use Rattle.std.proofs.Common.{ap, subst, ◌∙◌, arith}
use Rattle.std.proofs.lemmas.List.{get_or-take, get_or_append_left, get_or_past, length-append, length-take-le}
use Rattle.m2_base.specs.Lists.{Each}
use Rattle.m2_base.specs.Rows.{Row, at_place, RowMeaning, Var, row_meaning}
use Rattle.m2_base.specs.Tables.{rows_at}
use Rattle.m2_base.specs.Trees.{StreamKind, Main}
use Rattle.m2_base.specs.Statics.BlockRows.{declare_block, declare_items, context_of, scene_of, first_cell, cells_after, cell_after}
use Rattle.m2_base.specs.Statics.Blocks.{BlockTree}
use Rattle.m2_base.specs.Statics.Cells.{most_cells}
use Rattle.m2_base.specs.Statics.Contexts.{Block, Named, Scene, Source}
use Rattle.m2_base.specs.Statics.FormedRows.{IsReady, IsRight}
use Rattle.m2_base.specs.Statics.Items.{Item, items_of}
use Rattle.m2_base.specs.Statics.Layouts.{names_of_item, names_from}
use Rattle.m2_base.specs.Statics.Makes.{scene_with}
use Rattle.m2_base.specs.Statics.Shapes.{Shape, item_shapes}
use Rattle.m2_base.specs.Statics.Types.{meaning_at, size_by}
use Rattle.m2_base.specs.declared.limits.TheConstants.{MOST_BROUGHT}
use Rattle.m2_base.proofs.EachLaws.{each_append}
use Rattle.m2_base.proofs.LayoutLaws.{block_counted, block_few}
use Rattle.m2_base.proofs.NoRepeats.{scene_open, scene_empty, some_is}
use Rattle.m2_base.proofs.SceneLaws.{IsOpen, own_of, own-with, open-with}
use Rattle.m2_base.proofs.Sound.{Sound, RowOk, AreOk, no_ok, more_ok, next_of}
use Rattle.m2_base.proofs.SoundItems.{items_ok}
use Rattle.m2_base.proofs.SoundOperations.{SoundContext}
use Rattle.m2_base.proofs.SoundParts.{capped-most}

-- ** The layout's ordinals

shape_ordinals : (i o : ℕ) (shapes : List Shape) (most_ordinal : ℕ) → o + length shapes + MOST_BROUGHT ≤ most_ordinal → Each (λ (n : Named). n.ordinal + MOST_BROUGHT < most_ordinal) (names_of_item i o shapes)
shape_ordinals i o [] k h = tt
shape_ordinals i o (s ∷ shapes) k h = by_test (s.name == 0) (shape_ordinals i (o + 1) shapes k (omega (arith, h)))
  where
    by_test : (b : Bool) → Each (λ (n : Named). n.ordinal + MOST_BROUGHT < k) (names_of_item i (o + 1) shapes)
        → Each (λ (n : Named). n.ordinal + MOST_BROUGHT < k) (if b then names_of_item i (o + 1) shapes else record { name = s.name; ordinal = o; kind = s.kind; at = s.at; item = i } ∷ names_of_item i (o + 1) shapes)
    by_test true rest = rest
    by_test false rest = (omega (arith, h), rest)

item_ordinals : (i o : ℕ) (items : List Item) (k : ℕ) → o + length (flat_map item_shapes items) + MOST_BROUGHT ≤ k → Each (λ (n : Named). n.ordinal + MOST_BROUGHT < k) (names_from i o items)
item_ordinals i o [] k h = tt
item_ordinals i o (x ∷ items) k h =
    let e = length-append (item_shapes x) (flat_map item_shapes items) in
    each_append (λ (n : Named). n.ordinal + MOST_BROUGHT < k) (names_of_item i o (item_shapes x)) _
    (shape_ordinals i o (item_shapes x) k (omega (arith, e, h)))
    (item_ordinals (i + 1) (o + length (item_shapes x)) items k (omega (arith, e, h)))

-- ** The first cell

cell_most : (scene : Scene) (cell : ℕ) (m : RowMeaning) → cell ≤ most_cells + 1 → cell_after scene cell m ≤ most_cells + 1
cell_most scene cell (Var t mode offset) h = capped-most (cell + size_by (meaning_at scene t))
cell_most scene cell m h = h

cells_most : (scene : Scene) (rows : List Row) (cell : ℕ) → cell ≤ most_cells + 1 → cells_after scene cell rows ≤ most_cells + 1
cells_most scene [] cell h = h
cells_most scene (r ∷ rows) cell h = cells_most scene rows (cell_after scene cell (row_meaning r)) (cell_most scene cell (row_meaning r) h)

pub first_cell_most : (scene : Scene) (kind : StreamKind) (own : Option ℕ) → first_cell scene kind own ≤ most_cells + 1
first_cell_most scene Main (Some own) = cells_most scene (rows_at scene.tables own) 0 (omega arith)
first_cell_most scene kind own = omega arith

-- ** The scene of a block

-- the rows of an earlier scope
pub rows_before : (tables : List (List Row)) (b : Block) (s : ℕ) → b.scope ≤ length tables → s < b.scope → rows_at (scene_of tables b).tables s ≡ rows_at tables s
rows_before tables b s h k =
    let e = length-take-le b.scope tables h in
    get_or_append_left (take b.scope tables) ([] ∷ []) [] s (omega (arith, e, k)) ∙ get_or-take b.scope tables s [] k

pub rows_above : (tables : List (List Row)) (b : Block) (s : ℕ) → b.scope ≤ length tables → b.scope < s → rows_at (scene_of tables b).tables s ≡ []
rows_above tables b s h k =
    let e = length-take-le b.scope tables h in
    let f = length-append (take b.scope tables) ([] ∷ []) in
    get_or_past (take b.scope tables ++ [] ∷ []) s [] (omega (arith, e, f, k))

none_here : {names : ℕ} (tables : List (List Row)) (b : Block) → b.scope ≤ length tables → (o : ℕ) (r : Row) → slice_get (own_of (scene_of tables b)) o ≡ Some r → RowOk names (at_place b.scope o) r
none_here tables b h o r e = let none : slice_get [] o ≡ Some r = subst (λ (rows : List Row). slice_get rows o ≡ Some r) (scene_empty tables b h) e in absurd (cc)

pub scene_sound : (names : ℕ) (source : Source) (tables : List (List Row)) (b : BlockTree) → IsReady names source tables b → Sound names (scene_of tables b.block)
scene_sound names source tables b ready =
    record {
      some = ready.some_names;
      room = scene_open tables b.block ready.before;
      positive = ready.positive;
      above = λ s h. rows_above tables b.block s ready.before h;
      earlier = λ s o r h e.
          let right = ready.right s o r h (subst (λ (rows : List Row). slice_get rows o ≡ Some r) (rows_before tables b.block s ready.before h) e) in
          (right.0, record { formed = right.1.formed; small = right.1.small; cells = right.1.cells });
      own = none_here tables b.block ready.before;
      standard = rows_before tables b.block 0 ready.before ready.positive ∙ ready.standard;
      few = let e = ap length (scene_empty tables b.block ready.before) in omega (arith, e);
    }

-- the context of a block that is ready
pub context_sound : (names : ℕ) (source : Source) (tables : List (List Row)) (b : BlockTree) → IsReady names source tables b → SoundContext names (context_of source tables b)
context_sound names source tables b ready =
    let few = ready.few in
    let layout = item_ordinals 0 0 (items_of b.tree) (2 ^ 32) (omega (arith, few)) in
    record {
      scene = scene_sound names source tables b ready;
      source = record { short = ready.short; bytes = ready.bytes };
      few_names = ready.few_names;
      layout = record { names_small = layout; brought_small = tt; few = omega arith };
    }

-- each row is right at its place
at_each : {names : ℕ} {scene : Scene} {rows : List Row} → AreOk names scene rows → IsOpen scene → (k : ℕ) (r : Row) → slice_get rows k ≡ Some r
    → RowOk names (at_place scene.block.scope (length (own_of scene) + k)) r
at_each no_ok o k r e = absurd (cc)
at_each {names} {scene} (more_ok {r = x} h rest) o zero r e =
    let same : length (own_of scene) ≡ length (own_of scene) + 0 = omega arith in
    subst (λ n. RowOk names (at_place scene.block.scope n) r) same (subst (RowOk names (next_of scene)) (some_is x r e) h)
at_each {names} {scene} (more_ok {r = x} h rest) o (suc k) r e =
    let f = ap length (own-with scene (x ∷ []) o) in
    let g = length-append (own_of scene) (x ∷ []) in
    let same : length (own_of (scene_with scene (x ∷ []))) + k ≡ length (own_of scene) + suc k = omega (arith, f, g) in
    subst (λ n. RowOk names (at_place scene.block.scope n) r) same (at_each rest (open-with scene (x ∷ []) o) k r e)

pub block_right : (names : ℕ) (source : Source) (tables : List (List Row)) (b : BlockTree) → IsReady names source tables b
    → (k : ℕ) (r : Row) → slice_get (declare_block source tables b).rows k ≡ Some r → IsRight names (at_place b.block.scope k) r
unfolding declare_block
block_right names source tables b ready k r e =
    let c = context_of source tables b in
    let sound = scene_sound names source tables b ready in
    let few = ready.few in
    let context : SoundContext names c = context_sound names source tables b ready in
    let cell = first_cell (scene_of tables b.block) b.tree.kind b.block.own in
    let rows = (declare_items c b.tree.kind 0 cell (items_of b.tree)).rows in
    let many = block_counted source tables b in
    let brought = block_few source tables b in
    let empty = scene_empty tables b.block ready.before in
    let none = ap length empty in
    let ok = items_ok names (items_of b.tree) c b.tree.kind 0 cell context ready.items ready.imports (first_cell_most (scene_of tables b.block) b.tree.kind b.block.own)
    (record { enough = omega (arith, many, brought, none, few) }) in
    let row = at_each ok sound.room k r e in
    let at : length (own_of (scene_of tables b.block)) + k ≡ k = omega (arith, none) in
    let right = subst (λ n. RowOk names (at_place b.block.scope n) r) at row in
    record { formed = right.formed; small = right.small; cells = right.cells }
