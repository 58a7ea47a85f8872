-- A block makes as many rows as its layout says with what is brought, each of its shape.
use Rattle.std.specs.Prelude.{◌≡◌, refl, ℕ, suc, ◌+◌, ◌≤◌, List, [], ◌∷◌, flat_map, length, map, Option, Some, None}
use Rattle.std.proofs.Common.{ap, ◌∙◌, arith}
use Rattle.std.proofs.lemmas.List.{length-append, length-map}
use Rattle.m2_base.specs.Rows.{Row}
use Rattle.m2_base.specs.Statics.BlockRows.{at_item, brought_in, context_of, declare_items, declare_block, first_cell, scene_of}
use Rattle.m2_base.specs.Statics.Blocks.{BlockTree}
use Rattle.m2_base.specs.Statics.Contexts.{Context, Named, Source, scope_of_module}
use Rattle.m2_base.specs.Statics.Declarations.{declare}
use Rattle.m2_base.specs.Statics.ImportRows.{alias_row, place_or_broken}
use Rattle.m2_base.specs.Statics.ImportedConstants.{members_of, new_members}
use Rattle.m2_base.specs.Statics.Layouts.{all_brought, brought_shape, laid_shapes, with_brought}
use Rattle.m2_base.specs.Statics.Makes.{with_rows}
use Rattle.m2_base.specs.Statics.Uses.{use_of}
use Rattle.m2_base.specs.declared.limits.TheConstants.{MOST_BROUGHT}
use Rattle.m2_base.proofs.ImportLaws.{brings_few, extended_length}
use Rattle.m2_base.specs.Statics.Items.{Item, heading_item, import_item, const_item, type_item, vars_item, proc_item, items_of}
use Rattle.m2_base.specs.Statics.ShapedRows.{AreShaped, none_of, more_of}
use Rattle.m2_base.specs.Statics.Shapes.{Shape, item_shapes}
use Rattle.m2_base.specs.Trees.{Ident, StreamKind}
use Rattle.m2_base.proofs.ShapeLaws.{AreShaped-append, AreShaped-end}
use Rattle.m2_base.proofs.ItemLaws.{item_of}

pub AreShaped-length : {ss : List Shape} {rs : List Row} → AreShaped ss rs → length rs ≡ length ss
AreShaped-length none_of = refl
AreShaped-length (more_of i h) = ap suc (AreShaped-length h)

items_shaped : (items : List Item) (c : Context) (kind : StreamKind) (i cell : ℕ)
    → AreShaped (laid_shapes items (declare_items c kind i cell items).value.brought) (declare_items c kind i cell items).rows
items_shaped [] c kind i cell = none_of
items_shaped (x ∷ items) c kind i cell = AreShaped-append (item_of x _ kind cell) (AreShaped-end (items_shaped items _ kind (i + 1) _))

pub block_shaped : (source : Source) (tables : List (List Row)) (b : BlockTree)
    → AreShaped (laid_shapes (items_of b.tree) (declare_block source tables b).value.brought) (declare_block source tables b).rows
unfolding declare_block
block_shaped source tables b = items_shaped (items_of b.tree) _ b.tree.kind 0 _

-- ** How many rows

with_length : (shapes : List Shape) (b : List Named) → length (with_brought shapes b) ≡ length shapes + length b
with_length shapes [] = omega arith
with_length shapes (n ∷ b) =
    let e = length-append shapes (brought_shape n ∷ map brought_shape b) in
    let f = length-map b brought_shape in
    omega (arith, e, f)

items_counted : (items : List Item) (c : Context) (kind : StreamKind) (i cell : ℕ)
    → length (laid_shapes items (declare_items c kind i cell items).value.brought)
    ≡ length (flat_map item_shapes items) + length (all_brought (declare_items c kind i cell items).value.brought)
items_counted [] c kind i cell = refl
items_counted (x ∷ items) c kind i cell =
    let e = (declare (at_item c i) kind x cell).value in
    let d = with_rows c (declare (at_item c i) kind x cell).rows in
    let rest = (declare_items (brought_in d e.brought) kind (i + 1) e.cell items).value.brought in
    let one = with_length (item_shapes x) e.brought in
    let more = items_counted items (brought_in d e.brought) kind (i + 1) e.cell in
    let shapes = length-append (with_brought (item_shapes x) e.brought) (laid_shapes items rest) in
    let own = length-append (item_shapes x) (flat_map item_shapes items) in
    let brought = length-append e.brought (all_brought rest) in
    omega (arith, one, more, shapes, own, brought)

pub block_counted : (source : Source) (tables : List (List Row)) (b : BlockTree)
    → length (declare_block source tables b).rows
    ≡ length (flat_map item_shapes (items_of b.tree)) + length (all_brought (declare_block source tables b).value.brought)
unfolding declare_block
block_counted source tables b =
    AreShaped-length (block_shaped source tables b) ∙ items_counted (items_of b.tree) _ b.tree.kind 0 _

-- ** How many names are brought

pub import_few : (from : Option Ident) (i : Ident) (c : Context) (kind : StreamKind) (cell : ℕ) → length c.layout.brought ≤ MOST_BROUGHT
    → length c.layout.brought + length (declare c kind (import_item from i) cell).value.brought ≤ MOST_BROUGHT
import_few None i c kind cell h = omega (arith, h)
import_few (Some m) i c kind cell h =
    let e = (use_of c (Some (scope_of_module c.source m.name)) i.name i.at).value in
    let d = with_rows c [] in
    let f = with_rows d (alias_row d i (place_or_broken e)).rows in
    let ms = members_of f.scene e in
    brings_few f i.at ms (new_members f [] ms) h

pub item_few : (x : Item) (c : Context) (kind : StreamKind) (cell : ℕ) → length c.layout.brought ≤ MOST_BROUGHT
    → length c.layout.brought + length (declare c kind x cell).value.brought ≤ MOST_BROUGHT
item_few (heading_item s) c kind cell h = omega (arith, h)
item_few (import_item from i) c kind cell h = import_few from i c kind cell h
item_few (const_item i e) c kind cell h = omega (arith, h)
item_few (type_item i t) c kind cell h = omega (arith, h)
item_few (vars_item names t) c kind cell h = omega (arith, h)
item_few (proc_item s stream) c kind cell h = omega (arith, h)

items_few : (items : List Item) (c : Context) (kind : StreamKind) (i cell : ℕ) → length c.layout.brought ≤ MOST_BROUGHT
    → length c.layout.brought + length (all_brought (declare_items c kind i cell items).value.brought) ≤ MOST_BROUGHT
items_few [] c kind i cell h = omega (arith, h)
items_few (x ∷ items) c kind i cell h =
    let e = (declare (at_item c i) kind x cell).value in
    let d = with_rows c (declare (at_item c i) kind x cell).rows in
    let one = item_few x (at_item c i) kind cell h in
    let more = extended_length c.layout e.brought in
    let rest = items_few items (brought_in d e.brought) kind (i + 1) e.cell (omega (arith, one, more)) in
    let brought = length-append e.brought (all_brought (declare_items (brought_in d e.brought) kind (i + 1) e.cell items).value.brought) in
    omega (arith, more, rest, brought)

pub block_few : (source : Source) (tables : List (List Row)) (b : BlockTree) → length (all_brought (declare_block source tables b).value.brought) ≤ MOST_BROUGHT
unfolding declare_block
block_few source tables b =
    let few = items_few (items_of b.tree) (context_of source tables b) b.tree.kind 0 (first_cell (scene_of tables b.block) b.tree.kind b.block.own) (omega arith) in
    omega (arith, few)
