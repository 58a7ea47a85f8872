-- The items of a block, and what they give, as the code has them.
use Rattle.std.specs.Prelude.{◌≡◌, ℕ, ◌+◌, ◌<◌, ◌≤◌, ◌^◌, false, filter, length, flat_map, List, [], ◌∷◌, ◌++◌, Some}
use Rattle.m2_base.specs.Lists.{Each}
use Rattle.m2_base.specs.Rows.{row_meaning}
use Rattle.m2_base.specs.States.{Frame}
use Rattle.m2_base.specs.Statics.Bringing.{BringsIts}
use Rattle.m2_base.specs.Statics.Cells.{most_cells}
use Rattle.m2_base.specs.Statics.Effects.{Effect}
use Rattle.m2_base.specs.Statics.Items as items
use Rattle.m2_base.specs.Statics.Items.{decl_item, heading_item, import_item, items_of}
use Rattle.m2_base.specs.Statics.Layouts.{laid_shapes}
use Rattle.m2_base.specs.Statics.ProcedureRows.{is_proc}
use Rattle.m2_base.specs.Statics.Shapes.{item_shapes}
use Rattle.m2_base.specs.Trees.{Stream}
use Rattle.m2_base.specs.Views.{decl_view, heading_view}
use Rattle.m2_base.specs.declared.limits.TheConstants.{MOST_BROUGHT}
use Rattle.m2_base.specs.declared.sites.Named.{Named}
use Rattle.m2_base.specs.declared.sites.Site.{Site}
use Rattle.type_rules.specs.Sites.{SuitsSite, source_of}
use Rattle.decl_sem.specs.ImportedModules.{IsFromBefore}
use Rattle.decl_sem.specs.LaidRows.{AreLaid}
use Rattle.decl_sem.specs.Layouts.{IsLayoutAt}
use Rattle.decl_sem.specs.Pieces.{IsOptionBehind, IsOwned}
use Rattle.m2_base.specs.Statics.ReadTrees.{IsReadItem}
use Rattle.decl_sem.specs.declared.items.Item.{Item}
use Rattle.decl_sem.specs.declared.items.Item.TheVariants.{Declaration, Heading, Import}

-- an item
abbrev pub item_view : Item → items.Item
item_view (Heading h) = heading_item (heading_view h.now)
item_view (Import from name) = import_item from.now name
item_view (Declaration d) = decl_item (decl_view d.now)

-- the next free cell is one, and the type of the result, if there is one, stands before the row with this ordinal
pub record IsEffect (f : Frame) (next : ℕ) (e : Effect) : Type 0 where
  pub cell : e.cell ≤ most_cells + 1
  pub result : IsOptionBehind f next e.result

-- the next free cell, and the type of the result; no name is brought
pub record IsLoneEffect (f : Frame) (next : ℕ) (e : Effect) : Type 0 where
  pub effect : IsEffect f next e
  pub alone : e.brought ≡ []

-- what an item gives: only a name of a module brings names
pub record IsEffectOf (x : items.Item) (f : Frame) (next : ℕ) (e : Effect) : Type 0 where
  pub effect : IsEffect f next e
  pub only : BringsIts x e.brought

-- The site is in an item of the block: the rows of the items before, with those of the names that each has brought,
-- are entered, as the layout gives them, each field before its record; the item was read from tokens,
-- and its modules stand before.
pub record IsAtItem (f : Frame) (s : Site) (stream : Stream) (x : items.Item) (cell procedures : ℕ) : Type 0 where
  pub suits : SuitsSite f s
  pub small : f.setting.fills < 2 ^ 31
  pub begun : f.closed ≡ false
  pub before : List items.Item
  pub rest : List items.Item
  pub items : items_of stream ≡ before ++ x ∷ rest
  pub item : s.item ≡ Some (length before)
  pub brought : List (List Named)
  pub of_each : length brought ≡ length before
  pub layout : IsLayoutAt s.layout.now stream brought
  pub entered : AreLaid s.layout.now 0 (laid_shapes before brought) f.entered
  pub owned : Each (λ r. IsOwned (length f.entered) (row_meaning r)) f.entered
  pub few : length (flat_map item_shapes (items_of stream)) + MOST_BROUGHT ≤ 2 ^ 31
  pub read : IsReadItem s.texts.now.names x
  pub imports : IsFromBefore (source_of s.texts.now) f.setting.fills x
  pub cells : cell ≤ most_cells + 1
  pub headings : procedures ≡ length (filter is_proc f.entered)
