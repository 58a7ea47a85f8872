-- What a block makes is what it declares and what its imports bring.
use Rattle.std.proofs.Common.{ℕ, ◌+◌, ◌≤◌, List, [], ◌∷◌, refl, sym, length, arith, Some, None}
use Rattle.std.proofs.lemmas.Bool.{false≢true}
use Rattle.std.specs.List.{AllZip}
use Rattle.m2_base.proofs.LayoutLaws.{AreShaped-length, block_few, block_shaped}
use Rattle.m2_base.specs.declared.rows.Row.{Row}
use Rattle.m2_base.specs.declared.trees.declarations.StreamKind.{StreamKind}
use Rattle.m2_base.specs.Statics.BlockRows.{declare_block, declare_items}
use Rattle.m2_base.specs.Statics.Blocks.{BlockTree}
use Rattle.m2_base.specs.Statics.Bringing.{BringsIts, HaveBrought}
use Rattle.m2_base.specs.Statics.Contexts.{Context, Source}
use Rattle.m2_base.specs.Statics.Declarations.{declare}
use Rattle.m2_base.specs.Statics.Items.{Item, const_item, heading_item, import_item, items_of, proc_item, type_item, vars_item}
use Rattle.stream_split.specs.Rooms.{most_rows}
use Rattle.stream_split.proofs.BroughtRows.{laid_most}

-- only a name of a module brings
item_brings : (x : Item) (c : Context) (kind : StreamKind) (cell : ℕ) → BringsIts x (declare c kind x cell).value.brought
item_brings (heading_item h) c kind cell e = refl
item_brings (import_item None i) c kind cell e = refl
item_brings (import_item (Some m) i) c kind cell e = absurd (false≢true (sym e))
item_brings (const_item i v) c kind cell e = refl
item_brings (type_item i t) c kind cell e = refl
item_brings (vars_item is t) c kind cell e = refl
item_brings (proc_item h n) c kind cell e = refl

items_bring : (items : List Item) (c : Context) (kind : StreamKind) (i cell : ℕ) → AllZip BringsIts items (declare_items c kind i cell items).value.brought
items_bring [] c kind i cell = tt
items_bring (x ∷ items) c kind i cell = (item_brings x _ kind cell, items_bring items _ kind (i + 1) _)

-- what a block brings
pub block_brings : (source : Source) (tables : List (List Row)) (b : BlockTree) → HaveBrought (items_of b.tree) (declare_block source tables b).value.brought
unfolding declare_block
block_brings source tables b = record { each = items_bring (items_of b.tree) _ b.tree.kind 0 _; few = block_few source tables b }

-- its rows are no more than that
pub finished_rows : (source : Source) (tables : List (List Row)) (b : BlockTree) → length (declare_block source tables b).rows ≤ most_rows b.tree
finished_rows source tables b =
    let i = AreShaped-length (block_shaped source tables b) in
    let j = laid_most b.tree (declare_block source tables b).value.brought (block_brings source tables b) in
    omega (arith, i, j)
