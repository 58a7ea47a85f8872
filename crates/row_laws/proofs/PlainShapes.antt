-- The rows of a block that imports nothing are of plain kinds: only a procedure's own name makes a row of a procedure, only an import one of a module or an alias.
use Rattle.std.specs.Prelude.{◌≡◌, ℕ, ◌+◌, ◌==◌, false, List, [], ◌∷◌, ◌++◌, map, flat_map, Option, Some, None, ◌||◌}
use Rattle.std.proofs.Common.{subst, sym, refl}
use Rattle.m2_base.specs.Lists.{Each}
use Rattle.m2_base.specs.Rows.{row_meaning, proc_kind, module_kind, alias_kind}
use Rattle.m2_base.specs.declared.rows.Row.{Row}
use Rattle.m2_base.specs.declared.rows.RowMeaning.{RowMeaning}
use Rattle.m2_base.specs.declared.trees.declarations.StreamKind.{StreamKind}
use Rattle.m2_base.specs.Trees.{Decl, const_decl, proc_decl, type_decl, vars_decl, Heading, Import}
use Rattle.m2_base.specs.Statics.BlockRows.{at_item, brought_in, context_of, declare_block, declare_items, first_cell, scene_of}
use Rattle.m2_base.specs.Statics.Blocks.{BlockTree}
use Rattle.m2_base.specs.Statics.Contexts.{Context, Source}
use Rattle.m2_base.specs.Statics.Declarations.{declare}
use Rattle.m2_base.specs.Statics.Items.{Item, const_item, decl_item, heading_item, heading_items, import_item, import_items, items_of, proc_item, type_item, vars_item}
use Rattle.m2_base.specs.Statics.Makes.{with_rows}
use Rattle.m2_base.specs.Statics.ShapedRows.{AreShaped}
use Rattle.m2_base.specs.Statics.Shapes.{Shape, item_shapes}
use Rattle.m2_base.proofs.EachLaws.{each_append, each_then}
use Rattle.m2_base.proofs.ItemLaws.{item_of}
use Rattle.row_laws.specs.Sight.{LeadsTo}
use Rattle.row_laws.proofs.TypeShapes.{HaveKinds, OfTypes, item_kinds, kind_of_meaning, shaped_means}
use Rattle.m2_base.specs.declared.rows.RowMeaning.TheVariants.{Alias, Module}

-- ** Rows of no procedure

-- the kind is no procedure's
abbrev pub IsNoProcedure : ℕ → Type 0
IsNoProcedure k = (k == proc_kind) ≡ false

pub no_procedures : OfTypes IsNoProcedure
no_procedures = record { const_kind = refl; field_kind = refl; param_kind = refl; enum_kind = refl; subrange_kind = refl; array_kind = refl; open_array_kind = refl; record_kind = refl; set_kind = refl; pointer_kind = refl; proc_type_kind = refl; opaque_kind = refl }

-- ** Rows that lead nowhere

-- the meaning is that of no module and no alias
abbrev pub LeadsNowhere : RowMeaning → Type 0
LeadsNowhere m = LeadsTo (λ s. ⊥) m

-- the kind is no module's and no alias's
abbrev pub IsOwn : ℕ → Type 0
IsOwn k = (k == module_kind || k == alias_kind) ≡ false

-- no shape is a module's or an alias's
abbrev pub AreOwn : List Shape → Type 0
AreOwn shapes = HaveKinds IsOwn shapes

types_own : OfTypes IsOwn
types_own = record { const_kind = refl; field_kind = refl; param_kind = refl; enum_kind = refl; subrange_kind = refl; array_kind = refl; open_array_kind = refl; record_kind = refl; set_kind = refl; pointer_kind = refl; proc_type_kind = refl; opaque_kind = refl }

own_leads : (m : RowMeaning) → IsOwn (kind_of_meaning m) → LeadsNowhere m
own_leads (Module s) h = absurd (cc)
own_leads (Alias p) h = absurd (cc)
own_leads m h = tt

-- the item is no import
abbrev IsOwnItem : Item → Type 0
IsOwnItem (import_item from i) = ⊥
IsOwnItem other = Unit {0}

item_own : (x : Item) → IsOwnItem x → AreOwn (item_shapes x)
item_own (import_item from i) k = absurd k
item_own (heading_item h) k = item_kinds IsOwn types_own (heading_item h) refl
item_own (const_item i e) k = item_kinds IsOwn types_own (const_item i e) refl
item_own (type_item i t) k = item_kinds IsOwn types_own (type_item i t) refl
item_own (vars_item idents t) k = item_kinds IsOwn types_own (vars_item idents t) refl
item_own (proc_item h stream) k = item_kinds IsOwn types_own (proc_item h stream) refl

own_decl : (d : Decl) → IsOwnItem (decl_item d)
own_decl (const_decl name value) = tt
own_decl (type_decl name t) = tt
own_decl (vars_decl idents t) = tt
own_decl (proc_decl h stream) = tt

pub decl_own : (d : Decl) → AreOwn (item_shapes (decl_item d))
decl_own d = item_own (decl_item d) (own_decl d)

own_decls : (ds : List Decl) → Each IsOwnItem (map decl_item ds)
own_decls [] = tt
own_decls (d ∷ ds) = (own_decl d, own_decls ds)

own_items : (h : Option Heading) (ds : List Decl) → Each IsOwnItem ((heading_items h ++ []) ++ map decl_item ds)
own_items None ds = own_decls ds
own_items (Some h) ds = (tt, own_decls ds)

shaped_leads : (shapes : List Shape) (rows : List Row) → AreShaped shapes rows → AreOwn shapes → Each (λ r. LeadsNowhere (row_meaning r)) rows
shaped_leads shapes rows is h =
    each_then (λ (r : Row). IsOwn (kind_of_meaning (row_meaning r))) (λ (r : Row). LeadsNowhere (row_meaning r)) rows (λ r. own_leads (row_meaning r)) (shaped_means IsOwn refl shapes rows is h)

-- what isn't an import makes the rows of its syntax and no others
own_shaped : (x : Item) (c : Context) (kind : StreamKind) (cell : ℕ) → IsOwnItem x → AreShaped (item_shapes x) (declare c kind x cell).rows
own_shaped (heading_item h) c kind cell k = item_of (heading_item h) c kind cell
own_shaped (import_item from i) c kind cell k = absurd k
own_shaped (const_item i e) c kind cell k = item_of (const_item i e) c kind cell
own_shaped (type_item i t) c kind cell k = item_of (type_item i t) c kind cell
own_shaped (vars_item idents t) c kind cell k = item_of (vars_item idents t) c kind cell
own_shaped (proc_item h stream) c kind cell k = item_of (proc_item h stream) c kind cell

items_lead : (items : List Item) (c : Context) (kind : StreamKind) (i cell : ℕ) → Each IsOwnItem items → Each (λ r. LeadsNowhere (row_meaning r)) (declare_items c kind i cell items).rows
items_lead [] c kind i cell h = tt
items_lead (x ∷ items) c kind i cell h =
    let a = at_item c i in
    let m = declare a kind x cell in
    let more = declare_items (brought_in (with_rows c m.rows) m.value.brought) kind (i + 1) m.value.cell items in
    let P : Row → Type 0 = λ (r : Row). LeadsNowhere (row_meaning r) in
    each_append P m.rows (more.rows ++ []) (shaped_leads (item_shapes x) m.rows (own_shaped x a kind cell h.0) (item_own x h.0))
    (each_append P more.rows [] (items_lead items (brought_in (with_rows c m.rows) m.value.brought) kind (i + 1) m.value.cell h.1) tt)

-- a block that imports nothing has no row that leads to another scope
pub nothing_leads : (source : Source) (before : List (List Row)) (b : BlockTree) → b.tree.imports ≡ [] → Each (λ r. LeadsNowhere (row_meaning r)) (declare_block source before b).rows
unfolding declare_block
nothing_leads source before b e =
    items_lead (items_of b.tree) (context_of source before b) b.tree.kind 0 (first_cell (scene_of before b.block) b.tree.kind b.block.own)
    (subst (λ (is : List Import). Each IsOwnItem ((heading_items b.tree.heading ++ flat_map import_items is) ++ map decl_item b.tree.decls)) (sym e) (own_items b.tree.heading b.tree.decls))
