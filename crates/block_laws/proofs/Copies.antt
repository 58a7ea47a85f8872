-- A block that is no procedure's copies nothing first.
use Rattle.std.specs.Prelude.{◌≡◌, refl, ℕ, ◌+◌, List, [], ◌∷◌, None}
use Rattle.m2_base.specs.Lists.{Each}
use Rattle.m2_base.specs.Statics.BlockRows.{context_of, declare_block, declare_items}
use Rattle.m2_base.specs.Statics.Blocks.{BlockTree}
use Rattle.m2_base.specs.Statics.Contexts.{Context, Source}
use Rattle.m2_base.specs.Statics.Declarations.{declare}
use Rattle.m2_base.specs.Statics.Effects.{ParamCopy}
use Rattle.m2_base.specs.Statics.Items.{Item, const_item, heading_item, import_item, proc_item, type_item, vars_item, items_of}
use Rattle.m2_base.specs.declared.rows.Row.{Row}
use Rattle.m2_base.specs.declared.trees.declarations.StreamKind.{StreamKind}
use Rattle.row_laws.specs.RowRanges.{IsCopyBelow}
use Rattle.row_laws.proofs.Joined.{both_none}
use Rattle.row_laws.proofs.PlacingItems.{IsInner, items_inner}

inner_copy : (c : Context) (kind : StreamKind) (x : Item) (cell : ℕ) → IsInner x → (declare c kind x cell).value.prologue ≡ []
inner_copy c kind (heading_item h') cell h = absurd h
inner_copy c kind (import_item from i) cell h = refl
inner_copy c kind (const_item i value) cell h = refl
inner_copy c kind (type_item i typ) cell h = refl
inner_copy c kind (vars_item names typ) cell h = refl
inner_copy c kind (proc_item h' stream) cell h = refl

pub inner_copies : (items : List Item) (c : Context) (kind : StreamKind) (i cell : ℕ) → Each IsInner items → (declare_items c kind i cell items).value.prologue ≡ []
inner_copies [] c kind i cell h = refl
inner_copies (x ∷ items) c kind i cell h = both_none (inner_copy _ kind x cell h.0) (inner_copies items _ kind (i + 1) _ h.1)

pub without_heading : (source : Source) (tables : List (List Row)) (b : BlockTree) → b.tree.heading ≡ None → (declare_block source tables b).value.prologue ≡ []
unfolding declare_block
without_heading source tables b none = inner_copies (items_of b.tree) (context_of source tables b) b.tree.kind 0 _ (items_inner b.tree none)

-- where nothing is copied
pub none_copied : (n : ℕ) (ds : List ParamCopy) → ds ≡ [] → Each (IsCopyBelow n) ds
none_copied n [] e = tt
none_copied n (d ∷ ds) e = absurd cc
