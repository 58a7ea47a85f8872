-- The next free cell only grows from item to item: so a block has the cells of its parameters, and a module those of its definition.
use Rattle.std.specs.Prelude.{◌≡◌, ℕ, ◌+◌, ◌≤◌, List, [], ◌∷◌, ◌++◌, flat_map, map, Option, Some, None}
use Rattle.std.proofs.Common.{ap, subst, arith}
use Rattle.m2_base.specs.Lists.{Each}
use Rattle.m2_base.specs.Statics.BlockRows.{at_item, brought_in, cell_after, cells_after, context_of, declare_block, declare_items, first_cell, scene_of}
use Rattle.m2_base.specs.Statics.Blocks.{BlockTree}
use Rattle.m2_base.specs.Statics.Cells.{capped, most_cells}
use Rattle.m2_base.specs.Statics.Contexts.{Context, Scene, Source}
use Rattle.m2_base.specs.Statics.Declarations.{declare}
use Rattle.m2_base.specs.Statics.HeadingRows.{Placing, own_section_rows, own_sections_rows, parameter_row, parameter_rows, placing}
use Rattle.m2_base.specs.Statics.Items.{Item, const_item, decl_item, heading_item, heading_items, import_item, import_items, proc_item, type_item, vars_item, items_of}
use Rattle.m2_base.specs.Statics.Makes.{Makes, makes_named, with_rows}
use Rattle.m2_base.specs.Statics.NameRows.{var_rows}
use Rattle.m2_base.specs.Statics.ProcedureRows.{parameter_cells}
use Rattle.m2_base.specs.Statics.ProcedureTypes.{is_structured, open_array_row}
use Rattle.m2_base.specs.Statics.TypeNames.{type_of_qual}
use Rattle.m2_base.specs.Statics.TypeRows.{type_rows}
use Rattle.m2_base.specs.Statics.Types.{size_of}
use Rattle.m2_base.specs.Tables.{rows_at}
use Rattle.m2_base.specs.Rows.{row_meaning}
use Rattle.m2_base.specs.Trees.{Heading, Section}
use Rattle.m2_base.specs.declared.rows.Mode.TheVariants.{Plain}
use Rattle.m2_base.specs.declared.rows.Place.{Place}
use Rattle.m2_base.specs.declared.rows.Row.{Row}
use Rattle.m2_base.specs.declared.rows.RowMeaning.{RowMeaning}
use Rattle.m2_base.specs.declared.rows.RowMeaning.TheVariants.{Var}
use Rattle.m2_base.specs.declared.trees.Ident.{Ident}
use Rattle.m2_base.specs.declared.trees.declarations.StreamKind.{StreamKind}
use Rattle.m2_base.specs.declared.trees.declarations.StreamKind.TheVariants.{Definition, Main, Procedure}
use Rattle.m2_base.proofs.SoundTypes.{either}
use Rattle.row_laws.proofs.PlacingItems.{IsInner, behind_inner, items_inner}

-- cells after others, none of them more than one too many
abbrev Grows : (from to : ℕ) → Type 0
Grows from to = (from ≤ to) × (to ≤ most_cells + 1)

grows_more : (a b c : ℕ) → Grows a b → Grows b c → Grows a c
grows_more a b c h k = let p = h.0 in let q = k.0 in (omega (arith, p, q), k.1)

capped_grows : (n size : ℕ) → n ≤ most_cells + 1 → Grows n (capped (n + size))
capped_grows n size h = (omega (arith, h), omega arith)

-- ** Items

vars_grow : (idents : List Ident) (c : Context) (t : Place) (cell : ℕ) → cell ≤ most_cells + 1 → Grows cell (var_rows c t cell idents).value
vars_grow [] c t cell h = (omega arith, h)
vars_grow (i ∷ idents) c t cell h =
    let d = with_rows c (makes_named c i.name i.at (Var t Plain cell)).rows in
    let next = capped (cell + size_of d.scene t) in
    let up = capped_grows cell (size_of d.scene t) h in
    grows_more cell next (var_rows d t next idents).value up (vars_grow idents d t next up.1)

item_grows : (x : Item) (c : Context) (kind : StreamKind) (cell : ℕ) → IsInner x → cell ≤ most_cells + 1 → Grows cell (declare c kind x cell).value.cell
item_grows (heading_item h) c kind cell inner low = absurd inner
item_grows (import_item from i) c kind cell inner low = (omega arith, low)
item_grows (const_item i e) c kind cell inner low = (omega arith, low)
item_grows (type_item i t) c kind cell inner low = (omega arith, low)
item_grows (vars_item idents t) c kind cell inner low = let made = type_rows c t in vars_grow idents (with_rows c made.rows) made.value cell low
item_grows (proc_item h stream) c kind cell inner low = (omega arith, low)

items_grow : (items : List Item) (c : Context) (kind : StreamKind) (i cell : ℕ) → Each IsInner items → cell ≤ most_cells + 1 → Grows cell (declare_items c kind i cell items).value.cell
items_grow [] c kind i cell inner low = (omega arith, low)
items_grow (x ∷ items) c kind i cell inner low =
    let m = declare (at_item c i) kind x cell in
    let first = item_grows x (at_item c i) kind cell inner.0 low in
    grows_more cell m.value.cell _ first (items_grow items (brought_in (with_rows c m.rows) m.value.brought) kind (i + 1) m.value.cell inner.1 first.1)

-- ** Parameters

abbrev Wider : Placing → Makes Placing → Type 0
Wider f m = Grows f.own m.value.own

parameter_grows : (c : Context) (s : Section) (elem t : Place) (f : Placing) (i : Ident) → f.own ≤ most_cells + 1 → Wider f (parameter_row c s elem t f i)
parameter_grows c s elem t f i low =
    either (Wider f) s.is_open _ _ (omega arith, low)
    (either (Wider f) s.by_ref _ _ (omega arith, low)
    (either (Wider f) (is_structured c t) _ _ (capped_grows f.own _ low) (omega arith, low)))

parameters_grow : (idents : List Ident) (c : Context) (s : Section) (elem t : Place) (f : Placing) → f.own ≤ most_cells + 1 → Wider f (parameter_rows c s elem t f idents)
parameters_grow [] c s elem t f low = (omega arith, low)
parameters_grow (i ∷ idents) c s elem t f low =
    let m = parameter_row c s elem t f i in
    let first = parameter_grows c s elem t f i low in
    grows_more f.own m.value.own _ first (parameters_grow idents (with_rows c m.rows) s elem t m.value first.1)

section_grows : (c : Context) (f : Placing) (s : Section) → f.own ≤ most_cells + 1 → Wider f (own_section_rows c f s)
section_grows c f s low =
    let elem = (type_of_qual c s.of).value in
    let d = with_rows c [] in
    let row = open_array_row d s.of.first.at s.is_open elem in
    parameters_grow s.names (with_rows d row.rows) s elem row.value f low

sections_grow : (sections : List Section) (c : Context) (f : Placing) → f.own ≤ most_cells + 1 → Wider f (own_sections_rows c f sections)
sections_grow [] c f low = (omega arith, low)
sections_grow (s ∷ sections) c f low =
    let m = own_section_rows c f s in
    let first = section_grows c f s low in
    grows_more f.own m.value.own _ first (sections_grow sections (with_rows c m.rows) m.value first.1)

-- ** Blocks

-- a block has the cells of its parameters, unless it has too many
pub parameters_fit : (source : Source) (tables : List (List Row)) (b : BlockTree) (h : Heading) → b.tree.heading ≡ Some h → (declare_block source tables b).value.cell ≤ most_cells
    → parameter_cells h.sections ≤ (declare_block source tables b).value.cell
unfolding declare_block
parameters_fit source tables b h headed few = by b.tree.heading headed few
  where
    c : Context
    c = context_of source tables b

    cell : ℕ
    cell = first_cell (scene_of tables b.block) b.tree.kind b.block.own

    xs : List Item
    xs = flat_map import_items b.tree.imports

    ys : List Item
    ys = map decl_item b.tree.decls

    by : (o : Option Heading) → o ≡ Some h → (declare_items c b.tree.kind 0 cell (heading_items o ++ xs ++ ys)).value.cell ≤ most_cells
        → parameter_cells h.sections ≤ (declare_items c b.tree.kind 0 cell (heading_items o ++ xs ++ ys)).value.cell
    by None e few = absurd cc
    by (Some g) e few =
        let same : g ≡ h = cc in
        let a = at_item c 0 in
        let m = declare a b.tree.kind (heading_item g) cell in
        let own : Grows (capped (parameter_cells g.sections)) m.value.cell = sections_grow g.sections a (placing 0 (capped (parameter_cells g.sections)) []) (omega arith) in
        let rest = items_grow (xs ++ ys) (with_rows c m.rows) b.tree.kind 1 m.value.cell (behind_inner b.tree) own.1 in
        let up = own.0 in
        let further = rest.0 in
        let cells = ap (λ (x : Heading). parameter_cells x.sections) same in
        omega (arith, up, further, few, cells)

after_most : (scene : Scene) (cell : ℕ) (m : RowMeaning) → cell ≤ most_cells + 1 → cell_after scene cell m ≤ most_cells + 1
after_most scene cell (Var t mode o) h = omega arith
after_most scene cell m h = h

cells_most : (scene : Scene) (cell : ℕ) (rows : List Row) → cell ≤ most_cells + 1 → cells_after scene cell rows ≤ most_cells + 1
cells_most scene cell [] h = h
cells_most scene cell (r ∷ rows) h = cells_most scene (cell_after scene cell (row_meaning r)) rows (after_most scene cell (row_meaning r) h)

-- a module has the cells of its definition's variables
pub first_fits : (source : Source) (tables : List (List Row)) (b : BlockTree) (own : ℕ) → b.tree.kind ≡ Main → b.tree.heading ≡ None → b.block.own ≡ Some own
    → cells_after (scene_of tables b.block) 0 (rows_at (scene_of tables b.block).tables own) ≤ (declare_block source tables b).value.cell
unfolding declare_block
first_fits source tables b own main headless has = by b.tree.kind main b.block.own has
  where
    c : Context
    c = context_of source tables b

    by : (k : StreamKind) → k ≡ Main → (p : Option ℕ) → p ≡ Some own
        → cells_after (scene_of tables b.block) 0 (rows_at (scene_of tables b.block).tables own) ≤ (declare_items c k 0 (first_cell (scene_of tables b.block) k p) (items_of b.tree)).value.cell
    by Definition f p g = absurd cc
    by Procedure f p g = absurd cc
    by Main f None g = absurd cc
    by Main f (Some q) g =
        let same : q ≡ own = cc in
        let scene = scene_of tables b.block in
        let first = cells_after scene 0 (rows_at scene.tables q) in
        let up = (items_grow (items_of b.tree) c Main 0 first (items_inner b.tree headless) (cells_most scene 0 (rows_at scene.tables q) (omega arith))).0 in
        subst (λ (n : ℕ). cells_after scene 0 (rows_at scene.tables n) ≤ (declare_items c Main 0 first (items_of b.tree)).value.cell) same up
