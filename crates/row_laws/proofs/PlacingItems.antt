-- The variables of a block are placed below its next free cell.
use Rattle.std.specs.Prelude.{◌≡◌, ℕ, ◌+◌, ◌≤◌, List, [], ◌∷◌, ◌++◌, map, flat_map, Option, Some, None}
use Rattle.std.proofs.Common.{ap, subst, sym, ◌∙◌, refl, arith}
use Rattle.m2_base.proofs.SoundBlocks.{first_cell_most}
use Rattle.m2_base.specs.Lists.{Each}
use Rattle.m2_base.specs.Rows.{row_meaning}
use Rattle.m2_base.specs.declared.rows.Row.{Row}
use Rattle.m2_base.specs.declared.trees.Ident.{Ident}
use Rattle.m2_base.specs.declared.trees.declarations.StreamKind.{StreamKind}
use Rattle.m2_base.specs.Trees.{Decl, const_decl, type_decl, vars_decl, proc_decl, Import, Heading, Stream}
use Rattle.m2_base.specs.Statics.BlockRows.{declare_block, declare_items, at_item, brought_in, context_of, scene_of, first_cell}
use Rattle.m2_base.specs.Statics.Blocks.{BlockTree}
use Rattle.m2_base.specs.Statics.Cells.{capped, most_cells}
use Rattle.m2_base.specs.Statics.Contexts.{Context, Source}
use Rattle.m2_base.specs.Statics.Declarations.{declare}
use Rattle.m2_base.specs.Statics.Effects.{Effect, BlockEffects}
use Rattle.m2_base.specs.Statics.HeadingRows.{placing, own_sections_rows}
use Rattle.m2_base.specs.Statics.Items.{Item, heading_item, import_item, const_item, type_item, vars_item, proc_item, heading_items, import_items, decl_item, items_of}
use Rattle.m2_base.specs.Statics.Makes.{Makes, with_rows}
use Rattle.m2_base.specs.Statics.NameRows.{var_rows}
use Rattle.m2_base.specs.Statics.ProcedureRows.{parameter_cells}
use Rattle.m2_base.specs.Statics.TypeRows.{type_rows}
use Rattle.m2_base.proofs.EachLaws.{each_append}
use Rattle.m2_base.proofs.ItemLaws.{item_of}
use Rattle.m2_base.proofs.ShapeLaws.{type_of}
use Rattle.row_laws.proofs.Agreeing.{Ready, ready-left, ready-right}
use Rattle.row_laws.proofs.ImportedRows.{alias_shapes, import_aliases, own_shaped, ready-item, ready-next}
use Rattle.row_laws.proofs.Placing.{ArePlaced, Cells, IsCopyPlaced, IsOther, IsPlaced, copies-more, others, placed-more, sections_placed, shaped_placed, type_placed, vars_placed}
use Rattle.row_laws.proofs.TypeShapes.{item_kinds}

-- ** Items that declare no variables

-- the item isn't the heading of the block itself
abbrev pub IsInner : Item → Type 0
IsInner (heading_item h) = ⊥
IsInner other = Unit {0}

imports_inner : (imports : List Import) → Each IsInner (flat_map import_items imports)
imports_inner [] = tt
imports_inner (i ∷ imports) = each_append IsInner (import_items i) _ (names_inner i.names) (imports_inner imports)
  where
    names_inner : (names : List Ident) → Each IsInner (map (λ n. import_item i.from n) names)
    names_inner [] = tt
    names_inner (n ∷ names) = (tt, names_inner names)

decls_inner : (decls : List Decl) → Each IsInner (map decl_item decls)
decls_inner [] = tt
decls_inner (const_decl i e ∷ decls) = (tt, decls_inner decls)
decls_inner (type_decl i t ∷ decls) = (tt, decls_inner decls)
decls_inner (vars_decl is t ∷ decls) = (tt, decls_inner decls)
decls_inner (proc_decl h s ∷ decls) = (tt, decls_inner decls)

-- no item behind the heading is one
pub behind_inner : (tree : Stream) → Each IsInner (flat_map import_items tree.imports ++ map decl_item tree.decls)
behind_inner tree = each_append IsInner (flat_map import_items tree.imports) _ (imports_inner tree.imports) (decls_inner tree.decls)

pub items_inner : (tree : Stream) → tree.heading ≡ None → Each IsInner (items_of tree)
items_inner tree none = subst (λ (o : Option Heading). Each IsInner (heading_items o ++ flat_map import_items tree.imports ++ map decl_item tree.decls)) (sym none) (behind_inner tree)

-- what an item makes: its rows are placed, and nothing is copied
record ItemPlaced (cell : ℕ) (m : Makes Effect) : Type 0 where
  cells : Cells cell m.value.cell m.rows
  none : m.value.prologue ≡ []

-- what items make: their rows are placed, and what is copied
pub record ItemsPlaced (cell : ℕ) (m : Makes BlockEffects) : Type 0 where
  pub cells : Cells cell m.value.cell m.rows
  pub none : m.value.prologue ≡ []

-- what a block makes: its rows and what is copied are placed
pub record Placed (m : Makes BlockEffects) : Type 0 where
  pub few : m.value.cell ≤ most_cells + 1
  pub placed : ArePlaced m.value.cell m.rows
  pub copied : Each (IsCopyPlaced m.value.cell) m.value.prologue

module _ (names : ℕ) where
  item_placed : (x : Item) (c : Context) (kind : StreamKind) (cell : ℕ) → IsInner x → Ready names c (declare c kind x cell).rows → cell ≤ most_cells + 1 → ItemPlaced cell (declare c kind x cell)
  item_placed (heading_item h) c kind cell good ready small = absurd good
  item_placed (import_item None i) c kind cell good ready small =
      record { cells = record { more = omega arith; few = small; placed = shaped_placed cell _ _ (item_of (import_item None i) c kind cell) (refl, tt) }; none = refl }
  item_placed (import_item (Some m) i) c kind cell good ready small =
      record { cells = record { more = omega arith; few = small; placed = shaped_placed cell _ _ (own_shaped _) (alias_shapes IsOther refl _ (import_aliases m i c kind cell)) }; none = refl }
  item_placed (const_item i e) c kind cell good ready small =
      record { cells = record { more = omega arith; few = small; placed = shaped_placed cell _ _ (item_of (const_item i e) c kind cell) (refl, tt) }; none = refl }
  item_placed (type_item i t) c kind cell good ready small =
      record {
        cells = record {
          more = omega arith;
          few = small;
          placed = shaped_placed cell _ _ (item_of (type_item i t) c kind cell) (item_kinds IsOther others (type_item i t) refl);
        };
        none = refl;
      }
  item_placed (vars_item idents t) c kind cell good ready small =
      let made = type_rows c t in
      let d = with_rows c made.rows in
      let vars = var_rows d made.value cell idents in
      let rc = ready-left (made.rows ++ vars.rows) [] ready in
      let rest = vars_placed names idents d made.value cell (ready-right made.rows vars.rows rc) small in
      let P : Row → Type 0 = λ (r : Row). IsPlaced vars.value (row_meaning r) in
      record {
        cells = record {
          more = rest.more;
          few = rest.few;
          placed = each_append P (made.rows ++ vars.rows) [] (each_append P made.rows vars.rows (type_placed vars.value t c made.rows (type_of t c)) rest.placed) tt;
        };
        none = refl;
      }
  item_placed (proc_item h stream) c kind cell good ready small =
      record {
        cells = record {
          more = omega arith;
          few = small;
          placed = shaped_placed cell _ _ (item_of (proc_item h stream) c kind cell) (item_kinds IsOther others (proc_item h stream) refl);
        };
        none = refl;
      }

  items_placed : (items : List Item) (c : Context) (kind : StreamKind) (i cell : ℕ) → Each IsInner items → Ready names c (declare_items c kind i cell items).rows → cell ≤ most_cells + 1
      → ItemsPlaced cell (declare_items c kind i cell items)
  items_placed [] c kind i cell good ready small = record { cells = record { more = omega arith; few = small; placed = tt }; none = refl }
  items_placed (x ∷ items) c kind i cell good ready small =
      let a = at_item c i in
      let m = declare a kind x cell in
      let d = brought_in (with_rows c m.rows) m.value.brought in
      let more = declare_items d kind (i + 1) m.value.cell items in
      let ra = ready-item c i (ready-left m.rows (more.rows ++ []) ready) in
      let first = item_placed x a kind cell good.0 ra small in
      let rest = items_placed items d kind (i + 1) m.value.cell good.1 (ready-left more.rows [] (ready-next c x kind i cell (more.rows ++ []) ready)) first.cells.few in
      let up = first.cells.more in
      let further = rest.cells.more in
      let end = more.value.cell in
      let P : Row → Type 0 = λ (r : Row). IsPlaced end (row_meaning r) in
      record {
        cells = record {
          more = omega (arith, up, further);
          few = rest.cells.few;
          placed = each_append P m.rows (more.rows ++ []) (placed-more m.value.cell end m.rows further first.cells.placed) (each_append P more.rows [] rest.cells.placed tt);
        };
        none = ap (λ p. p ++ more.value.prologue) first.none ∙ rest.none;
      }

  -- with the heading of the block itself, or without one
  all_placed : (o : Option Heading) (xs ys : List Item) (c : Context) (kind : StreamKind) (cell : ℕ) → Each IsInner (xs ++ ys) → Ready names c (declare_items c kind 0 cell (heading_items o ++ xs ++ ys)).rows → cell ≤ most_cells + 1
      → Placed (declare_items c kind 0 cell (heading_items o ++ xs ++ ys))
  all_placed None xs ys c kind cell good ready small =
      let all = items_placed (xs ++ ys) c kind 0 cell good ready small in
      record { few = all.cells.few; placed = all.cells.placed; copied = subst (Each (IsCopyPlaced (declare_items c kind 0 cell (xs ++ ys)).value.cell)) (sym all.none) tt }
  all_placed (Some h) xs ys c kind cell good ready small =
      let a = at_item c 0 in
      let m = declare a kind (heading_item h) cell in
      let sections = own_sections_rows a (placing 0 (capped (parameter_cells h.sections)) []) h.sections in
      let d = brought_in (with_rows c m.rows) m.value.brought in
      let more = declare_items d kind 1 m.value.cell (xs ++ ys) in
      let ra = ready-item c 0 (ready-left m.rows (more.rows ++ []) ready) in
      let first = sections_placed names h.sections a (ready-left sections.rows [] ra) in
      let rest = items_placed (xs ++ ys) d kind 1 m.value.cell good (ready-left more.rows [] (ready-next c (heading_item h) kind 0 cell (more.rows ++ []) ready)) first.few in
      let further = rest.cells.more in
      let end = more.value.cell in
      let P : Row → Type 0 = λ (r : Row). IsPlaced end (row_meaning r) in
      record {
        few = rest.cells.few;
        placed = each_append P m.rows (more.rows ++ [])
            (each_append P sections.rows [] (placed-more m.value.cell end sections.rows further first.placed) tt)
            (each_append P more.rows [] rest.cells.placed tt);
        copied = each_append (IsCopyPlaced end) m.value.prologue more.value.prologue (copies-more m.value.cell end m.value.prologue further first.copied)
            (subst (Each (IsCopyPlaced end)) (sym rest.none) tt);
      }

  pub block_placed : (source : Source) (tables : List (List Row)) (b : BlockTree) → Ready names (context_of source tables b) (declare_block source tables b).rows → Placed (declare_block source tables b)
  unfolding declare_block
  block_placed source tables b ready =
      all_placed b.tree.heading (flat_map import_items b.tree.imports) (map decl_item b.tree.decls) (context_of source tables b) b.tree.kind
      (first_cell (scene_of tables b.block) b.tree.kind b.block.own)
      (behind_inner b.tree) ready (first_cell_most (scene_of tables b.block) b.tree.kind b.block.own)

  -- a block without a heading has its first cell's cells too
  pub block_more : (source : Source) (tables : List (List Row)) (b : BlockTree) → Ready names (context_of source tables b) (declare_block source tables b).rows → b.tree.heading ≡ None
      → first_cell (scene_of tables b.block) b.tree.kind b.block.own ≤ (declare_block source tables b).value.cell
  unfolding declare_block
  block_more source tables b ready none =
      (items_placed (items_of b.tree) (context_of source tables b) b.tree.kind 0 (first_cell (scene_of tables b.block) b.tree.kind b.block.own) (items_inner b.tree none) ready
      (first_cell_most (scene_of tables b.block) b.tree.kind b.block.own)).cells.more
