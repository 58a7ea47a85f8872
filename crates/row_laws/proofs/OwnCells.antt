-- The cells of an own definition's variables are those that its rows count.
use Rattle.std.specs.Prelude.{◌≡◌, ℕ, ◌+◌, ◌^◌, ◌<◌, List, [], ◌∷◌, ◌++◌, Option, Some, None}
use Rattle.std.proofs.Common.{ap, subst, sym, ◌∙◌, refl}
use Rattle.std.proofs.lemmas.List.{append-nil}
use Rattle.m2_base.specs.Lists.{Each}
use Rattle.m2_base.specs.Rows.{row_meaning, number_of, place_of}
use Rattle.m2_base.specs.declared.rows.Mode.TheVariants.{Plain}
use Rattle.m2_base.specs.declared.rows.Place.{Place}
use Rattle.m2_base.specs.declared.rows.Row.{Row}
use Rattle.m2_base.specs.declared.rows.RowMeaning.{RowMeaning}
use Rattle.m2_base.specs.declared.rows.RowMeaning.TheVariants.{Opaque, Var}
use Rattle.m2_base.specs.declared.trees.Ident.{Ident}
use Rattle.m2_base.specs.declared.trees.declarations.StreamKind.{StreamKind}
use Rattle.m2_base.specs.declared.trees.declarations.StreamKind.TheVariants.{Main, Definition, Procedure}
use Rattle.m2_base.specs.Standard.{is_standard}
use Rattle.m2_base.specs.Statics.BlockRows.{cell_after, cells_after, declare_block, declare_items, at_item, brought_in, context_of, scene_of, first_cell}
use Rattle.m2_base.specs.Statics.Blocks.{BlockTree}
use Rattle.m2_base.specs.Statics.Cells.{capped}
use Rattle.m2_base.specs.Statics.Contexts.{Context, Scene, Source}
use Rattle.m2_base.specs.Statics.Declarations.{declare}
use Rattle.m2_base.specs.Statics.Items.{Item, heading_item, import_item, const_item, type_item, vars_item, proc_item, items_of}
use Rattle.m2_base.specs.Statics.Lookup.{has_name}
use Rattle.m2_base.specs.Statics.Makes.{Makes, scene_with, with_rows, makes_named}
use Rattle.m2_base.specs.Statics.NameRows.{var_rows}
use Rattle.m2_base.specs.Statics.ShapedRows.{AreShaped}
use Rattle.m2_base.specs.Statics.Shapes.{Shape, type_shapes}
use Rattle.m2_base.specs.Statics.SoundTrees.{IsSoundItem}
use Rattle.m2_base.specs.Statics.TypeRows.{type_rows}
use Rattle.m2_base.specs.Statics.Types.{meaning_at, opaque_as, size_by, size_of, stands_as, stands_for}
use Rattle.m2_base.proofs.ItemLaws.{item_of}
use Rattle.m2_base.proofs.RowLaws.{place_of-number_of}
use Rattle.m2_base.proofs.SceneLaws.{with-twice}
use Rattle.m2_base.proofs.ShapeLaws.{type_of}
use Rattle.m2_base.proofs.Sound.{IsThere, there-with, sound-with}
use Rattle.m2_base.proofs.SoundRows.{type_made}
use Rattle.m2_base.proofs.SoundTypes.{either}
use Rattle.row_laws.proofs.Agreeing.{Ready, ready-left, ready-right}
use Rattle.row_laws.proofs.ImportedRows.{alias_shapes, import_aliases, own_shaped, ready-item, ready-next}
use Rattle.row_laws.proofs.Placing.{IsOther, others}
use Rattle.row_laws.proofs.PlacingItems.{IsInner, items_inner}
use Rattle.row_laws.proofs.Settled.{row_stays}
use Rattle.row_laws.proofs.TypeShapes.{HaveKinds, MeanKinds, item_kinds, kind_of_meaning, shaped_means, type_kinds}

-- ** Rows that count no cells

other_counted : (scene : Scene) (cell : ℕ) (m : RowMeaning) → IsOther (kind_of_meaning m) → cell_after scene cell m ≡ cell
other_counted scene cell (Var t mode o) h = absurd (cc)
other_counted scene cell m h = refl

others_counted : (scene : Scene) (cell : ℕ) (rows : List Row) → MeanKinds IsOther rows → cells_after scene cell rows ≡ cell
others_counted scene cell [] h = refl
others_counted scene cell (r ∷ rows) h = ap (λ n. cells_after scene n rows) (other_counted scene cell (row_meaning r) h.0) ∙ others_counted scene cell rows h.1

shaped_counted : (scene : Scene) (cell : ℕ) (shapes : List Shape) (rows : List Row) → AreShaped shapes rows → HaveKinds IsOther shapes → cells_after scene cell rows ≡ cell
shaped_counted scene cell shapes rows is h = others_counted scene cell rows (shaped_means IsOther refl shapes rows is h)

counted_append : (scene : Scene) (cell : ℕ) (xs ys : List Row) → cells_after scene cell (xs ++ ys) ≡ cells_after scene (cells_after scene cell xs) ys
counted_append scene cell [] ys = refl
counted_append scene cell (x ∷ xs) ys = counted_append scene (cell_after scene cell (row_meaning x)) xs ys

-- ** A scene that sees another

-- what a type means that is there in the other
abbrev pub Sees : (scene behind : Scene) → Type 0
Sees scene behind = (t : Place) → IsThere behind t → meaning_at scene t ≡ meaning_at behind t

-- without an own definition each type stands for itself
stands_same : (scene : Scene) (t : Place) → scene.block.own ≡ None → stands_for scene t ≡ t
stands_same scene t e = by_meaning (meaning_at scene t)
  where
    by_meaning : (m : RowMeaning) → stands_as scene t m ≡ t
    by_meaning Opaque = ap (opaque_as scene t) e
    by_meaning m = refl

module _ (names : ℕ) (scene : Scene) where
  sees_left : (c : Context) (xs ys : List Row) → Ready names c (xs ++ ys) → Sees scene (scene_with c.scene (xs ++ ys)) → Sees scene (scene_with c.scene xs)
  sees_left c xs ys ready sees t h =
      let left = ready-left xs ys ready in
      let sound = sound-with left.sound.scene left.ok left.room in
      let there : IsThere (scene_with c.scene (xs ++ ys)) t = subst (λ s. IsThere s t) (with-twice c.scene xs ys) (there-with (scene_with c.scene xs) ys t sound.room h) in
      sees t there ∙ ap (λ s. meaning_at s t) (sym (with-twice c.scene xs ys)) ∙ ap row_meaning (row_stays (scene_with c.scene xs) ys sound t h)

  sees_right : (c : Context) (xs ys : List Row) → Sees scene (scene_with c.scene (xs ++ ys)) → Sees scene (scene_with (with_rows c xs).scene ys)
  sees_right c xs ys sees = subst (Sees scene) (sym (with-twice c.scene xs ys)) sees

  -- ** Variables

  named_counted : (c : Context) (name at : ℕ) (t : Place) (cell o : ℕ) → t.ordinal < 2 ^ 32 → cells_after scene cell (makes_named c name at (Var t Plain o)).rows ≡ capped (cell + size_by (meaning_at scene t))
  named_counted c name at t cell o h =
      either (λ (x : Makes Place). cells_after scene cell x.rows ≡ capped (cell + size_by (meaning_at scene t))) (is_standard name) _ _ same
      (either (λ (x : Makes Place). cells_after scene cell x.rows ≡ capped (cell + size_by (meaning_at scene t))) (has_name c.scene.tables c.scene.block.scope name) _ _ same same)
    where
      same : capped (cell + size_by (meaning_at scene (place_of (number_of t)))) ≡ capped (cell + size_by (meaning_at scene t))
      same = ap (λ p. capped (cell + size_by (meaning_at scene p))) (place_of-number_of t h)

  size_seen : (d : Context) (t : Place) → d.scene.block.own ≡ None → Sees scene d.scene → IsThere d.scene t → size_by (meaning_at scene t) ≡ size_of d.scene t
  size_seen d t own sees h = ap size_by (sees t h ∙ ap (meaning_at d.scene) (sym (stands_same d.scene t own)))

  vars_counted : (idents : List Ident) (c : Context) (t : Place) (cell : ℕ) → Ready names c (var_rows c t cell idents).rows → c.scene.block.own ≡ None → IsThere c.scene t
      → Sees scene (scene_with c.scene (var_rows c t cell idents).rows) → cells_after scene cell (var_rows c t cell idents).rows ≡ (var_rows c t cell idents).value
  vars_counted [] c t cell ready own h sees = refl
  vars_counted (i ∷ idents) c t cell ready own h sees =
      let m = makes_named c i.name i.at (Var t Plain cell) in
      let d = with_rows c m.rows in
      let there = there-with c.scene m.rows t ready.sound.scene.room h in
      let next = capped (cell + size_of d.scene t) in
      let more = var_rows d t next idents in
      counted_append scene cell m.rows more.rows
      ∙ ap (λ n. cells_after scene n more.rows) (named_counted c i.name i.at t cell cell h.0 ∙ ap (λ n. capped (cell + n)) (size_seen d t own (sees_left c m.rows more.rows ready sees) there))
      ∙ vars_counted idents d t next (ready-right m.rows more.rows ready) own there (sees_right c m.rows more.rows sees)

  -- ** Items

  item_counted : (x : Item) (c : Context) (kind : StreamKind) (cell : ℕ) → IsInner x → IsSoundItem names x → Ready names c (declare c kind x cell).rows → c.scene.block.own ≡ None
      → Sees scene (scene_with c.scene (declare c kind x cell).rows) → cells_after scene cell (declare c kind x cell).rows ≡ (declare c kind x cell).value.cell
  item_counted (heading_item h) c kind cell inner good ready own sees = absurd inner
  item_counted (import_item None i) c kind cell inner good ready own sees = shaped_counted scene cell _ _ (item_of (import_item None i) c kind cell) (refl, tt)
  item_counted (import_item (Some m) i) c kind cell inner good ready own sees = shaped_counted scene cell _ _ (own_shaped _) (alias_shapes IsOther refl _ (import_aliases m i c kind cell))
  item_counted (const_item i e) c kind cell inner good ready own sees = shaped_counted scene cell _ _ (item_of (const_item i e) c kind cell) (refl, tt)
  item_counted (type_item i t) c kind cell inner good ready own sees =
      shaped_counted scene cell _ _ (item_of (type_item i t) c kind cell) (item_kinds IsOther others (type_item i t) refl)
  item_counted (vars_item idents t) c kind cell inner good ready own sees =
      let made = type_rows c t in
      let d = with_rows c made.rows in
      let vars = var_rows d made.value cell idents in
      let all : (made.rows ++ vars.rows) ++ [] ≡ made.rows ++ vars.rows = append-nil (made.rows ++ vars.rows) in
      let rc = ready-left (made.rows ++ vars.rows) [] ready in
      let seen : Sees scene (scene_with c.scene (made.rows ++ vars.rows)) = subst (λ (rs : List Row). Sees scene (scene_with c.scene rs)) all sees in
      let left = ready-left made.rows vars.rows rc in
      let first = type_made names t c left.sound good.1 left.room in
      ap (cells_after scene cell) all
      ∙ counted_append scene cell made.rows vars.rows
      ∙ ap (λ n. cells_after scene n vars.rows) (shaped_counted scene cell (type_shapes t) made.rows (type_of t c) (type_kinds IsOther others t))
      ∙ vars_counted idents d made.value cell (ready-right made.rows vars.rows rc) own first.there (sees_right c made.rows vars.rows seen)
  item_counted (proc_item h stream) c kind cell inner good ready own sees =
      shaped_counted scene cell _ _ (item_of (proc_item h stream) c kind cell) (item_kinds IsOther others (proc_item h stream) refl)

  items_counted : (items : List Item) (c : Context) (kind : StreamKind) (i cell : ℕ) → Each IsInner items → Each (IsSoundItem names) items → Ready names c (declare_items c kind i cell items).rows → c.scene.block.own ≡ None
      → Sees scene (scene_with c.scene (declare_items c kind i cell items).rows) → cells_after scene cell (declare_items c kind i cell items).rows ≡ (declare_items c kind i cell items).value.cell
  items_counted [] c kind i cell inner good ready own sees = refl
  items_counted (x ∷ items) c kind i cell inner good ready own sees =
      let a = at_item c i in
      let m = declare a kind x cell in
      let d = brought_in (with_rows c m.rows) m.value.brought in
      let more = declare_items d kind (i + 1) m.value.cell items in
      let same : m.rows ++ (more.rows ++ []) ≡ m.rows ++ more.rows = ap (λ rs. m.rows ++ rs) (append-nil more.rows) in
      let all : Ready names c (m.rows ++ more.rows) = subst (Ready names c) same ready in
      let seen : Sees scene (scene_with c.scene (m.rows ++ more.rows)) = subst (λ (rs : List Row). Sees scene (scene_with c.scene rs)) same sees in
      let ra = ready-item c i (ready-left m.rows more.rows all) in
      ap (cells_after scene cell) same
      ∙ counted_append scene cell m.rows more.rows
      ∙ ap (λ n. cells_after scene n more.rows) (item_counted x a kind cell inner.0 good.0 ra own (sees_left c m.rows more.rows all seen))
      ∙ items_counted items d kind (i + 1) m.value.cell inner.1 good.1 (ready-next c x kind i cell more.rows all) own (sees_right c m.rows more.rows seen)

  -- without an own definition the first cell is 0
  first_is : (s : Scene) (kind : StreamKind) (own : Option ℕ) → own ≡ None → first_cell s kind own ≡ 0
  first_is s Main None e = refl
  first_is s Main (Some o) e = absurd (cc)
  first_is s Definition own e = refl
  first_is s Procedure own e = refl

  -- the rows of a definition module count the cells of its variables
  pub block_counted : (source : Source) (tables : List (List Row)) (b : BlockTree) → Each (IsSoundItem names) (items_of b.tree) → Ready names (context_of source tables b) (declare_block source tables b).rows
      → b.block.own ≡ None → b.tree.heading ≡ None → Sees scene (scene_with (scene_of tables b.block) (declare_block source tables b).rows)
      → cells_after scene 0 (declare_block source tables b).rows ≡ (declare_block source tables b).value.cell
  unfolding declare_block
  block_counted source tables b good ready own none sees =
      let c = context_of source tables b in
      let cell = first_cell (scene_of tables b.block) b.tree.kind b.block.own in
      ap (λ n. cells_after scene n (declare_items c b.tree.kind 0 cell (items_of b.tree)).rows) (sym (first_is (scene_of tables b.block) b.tree.kind b.block.own own))
      ∙ items_counted (items_of b.tree) c b.tree.kind 0 cell (items_inner b.tree none) good ready own sees
