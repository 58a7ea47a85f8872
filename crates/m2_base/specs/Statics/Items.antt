-- What declares in a block: its items, in text order.
use Rattle.std.specs.Prelude.{List, None, Option, Some, [], flat_map, map, ℕ, ◌∷◌, ◌++◌}
use Rattle.m2_base.specs.Trees.{Decl, Expr, Heading, Ident, Import, Stream, TypeExpr, const_decl, proc_decl, type_decl}
use Rattle.m2_base.specs.Trees.{vars_decl}

-- what declares: the heading of the block itself, a name of an import, a constant, a type, a group of variables, a
-- procedure
pub data Item : Type 0 where
  heading_item : Heading → Item
  import_item : (from : Option Ident) → (name : Ident) → Item
  const_item : Ident → Expr → Item
  type_item : Ident → Option TypeExpr → Item
  vars_item : List Ident → TypeExpr → Item
  proc_item : Heading → (stream : ℕ) → Item

-- the heading of a procedure's block is an item
abbrev pub heading_items : Option Heading → List Item
heading_items None = []
heading_items (Some h) = heading_item h ∷ []

-- each name of an import is an item
abbrev pub import_items : Import → List Item
import_items i = map (λ n. import_item i.from n) i.names

-- each declaration is an item
abbrev pub decl_item : Decl → Item
decl_item (const_decl name value) = const_item name value
decl_item (type_decl name typ) = type_item name typ
decl_item (vars_decl names typ) = vars_item names typ
decl_item (proc_decl heading stream) = proc_item heading stream

-- the heading of a procedure, then each name of an import, then the declarations, in text order
abbrev pub items_of : Stream → List Item
items_of s = heading_items s.heading ++ flat_map import_items s.imports ++ map decl_item s.decls
