-- What the items of a block have given so far, and what the definition says of the first of them.
use Rattle.std.specs.Prelude.{◌≡◌, ◌≤◌, ℕ, ◌+◌, ◌==◌, if◌then◌else◌, List, [], ◌∷◌, ◌++◌, Option, Some, None, filter}
use Rattle.std.specs.Prelude.{length, take}
use Rattle.m2_base.specs.Lists.{Each}
use Rattle.m2_base.specs.Statics.BlockRows.{at_item, context_of, declare_items, first_cell, scene_of}
use Rattle.m2_base.specs.Statics.Blocks.{BlockTree}
use Rattle.m2_base.specs.Statics.Contexts.{Context, Layout, Source}
use Rattle.m2_base.specs.Statics.Declarations.{declare}
use Rattle.m2_base.specs.Statics.Effects.{BlockEffects, ParamCopy, heading_list}
use Rattle.m2_base.specs.Statics.Items.{Item, items_of}
use Rattle.m2_base.specs.Statics.Layouts.{extended, extended_by, layout_of}
use Rattle.m2_base.specs.Statics.Makes.{Makes}
use Rattle.m2_base.specs.Statics.ProcedureRows.{is_proc}
use Rattle.m2_base.specs.Trees.{Heading}
use Rattle.m2_base.specs.declared.limits.TheConstants.{MOST_BROUGHT}
use Rattle.m2_base.specs.declared.notes.Answer.{Answer}
use Rattle.m2_base.specs.declared.notes.Diag.{Diag}
use Rattle.m2_base.specs.declared.outputs.HeadingNote.{HeadingNote}
use Rattle.m2_base.specs.declared.rows.Place.{Place}
use Rattle.m2_base.specs.declared.rows.Row.{Row}
use Rattle.m2_base.specs.declared.trees.declarations.StreamKind.{StreamKind}
use Rattle.decl_sem.specs.declared.declaring.Declared.{Declared}

-- The layout with the names that the items have brought; how many items there are; the next free cell and the number
-- of their procedures; the type of the result that the block's own heading binds; what the body copies first;
-- the notes of headings; and what was noted.
pub record Collected : Type 0 where
  pub layout : Layout
  pub count : ℕ
  pub cell : ℕ
  pub procedures : ℕ
  pub returns : Option Place
  pub copies : List ParamCopy
  pub headings : List HeadingNote
  pub diags : List Diag
  pub answers : List Answer

-- of no item
abbrev pub none_from : Layout → (cell : ℕ) → Collected
none_from l cell =
    record {
      layout = l;
      count = 0;
      cell = cell;
      procedures = 0;
      returns = None;
      copies = [];
      headings = [];
      diags = [];
      answers = [];
    }

-- with this as the next free cell
abbrev pub placed_from : (cell : ℕ) → Collected → Collected
placed_from cell m = record m { cell = cell }

-- with what the next item gives; the block's own heading is its first item
abbrev pub with_item : Collected → Declared → Collected
with_item m d =
    record {
      layout = extended m.layout d.effect.brought;
      count = m.count + 1;
      cell = d.effect.cell;
      procedures = m.procedures + length (filter is_proc d.rows.items);
      returns = if m.count == 0 then d.effect.result else m.returns;
      copies = m.copies ++ d.effect.prologue;
      headings = m.headings ++ heading_list d.effect.heading;
      diags = m.diags ++ d.notes.diags.items;
      answers = m.answers ++ d.notes.answers.items;
    }

-- The names that an item brings can be put behind those that the items before have brought.
pub record CanAdd (m : Collected) (d : Declared) : Type 0 where
  pub item : Each (λ b. b.item ≡ m.count) d.effect.brought
  pub order : Each (λ b. b.item ≤ m.count) m.layout.brought
  pub few : length m.layout.brought + length d.effect.brought ≤ MOST_BROUGHT

-- the cell from which the variables of a block are placed, over the finished scopes before it
abbrev pub first_cell_of : (before : List (List Row)) → BlockTree → ℕ
first_cell_of before b = first_cell (scene_of before b.block) b.tree.kind b.block.own

-- what the first items of a block make, so many of them, over the finished scopes before it
abbrev pub first_made : Source → (before : List (List Row)) → BlockTree → (count : ℕ) → Makes BlockEffects
first_made source before b count =
    declare_items (context_of source before b) b.tree.kind 0 (first_cell_of before b) (take count (items_of b.tree))

-- what the first of these items gives as the result
abbrev pub result_from : Context → StreamKind → (cell : ℕ) → List Item → Option Place
result_from c kind cell [] = None
result_from c kind cell (x ∷ items) = (declare (at_item c 0) kind x cell).value.result

-- the type of the result, as the first items of a block give it
abbrev pub first_result : Source → (before : List (List Row)) → BlockTree → (count : ℕ) → Option Place
first_result source before b count =
    result_from (context_of source before b) b.tree.kind (first_cell_of before b) (take count (items_of b.tree))

-- All is what the definition says of the first items: the layout, the rows, and what was collected.
pub record IsMade (source : Source) (before : List (List Row)) (b : BlockTree) (entered : List Row)
    (m : Collected) : Type 0 where
  pub layout : m.layout ≡ extended_by (layout_of b.tree) (first_made source before b m.count).value.brought
  pub rows : entered ≡ (first_made source before b m.count).rows
  pub cell : m.cell ≡ (first_made source before b m.count).value.cell
  pub returns : m.returns ≡ first_result source before b m.count
  pub copies : m.copies ≡ (first_made source before b m.count).value.prologue
  pub headings : m.headings ≡ (first_made source before b m.count).value.headings
  pub diags : m.diags ≡ (first_made source before b m.count).diags
  pub answers : m.answers ≡ (first_made source before b m.count).answers

-- a block without a heading returns nothing
abbrev pub returned : Option Heading → Option Place → Option Place
returned None place = None
returned (Some h) place = place
