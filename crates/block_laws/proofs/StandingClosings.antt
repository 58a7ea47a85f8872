-- The diagnostics of a block's closing check stand at tokens that its tree names. A procedure that differs from its heading is refused where
-- its row stands.
use Rattle.std.specs.Prelude.{if◌then◌else◌, ◌≡◌, refl, ℕ, zero, suc, ◌+◌, ◌==◌, Bool, true, false, List, [], ◌∷◌, ◌++◌, take, Option, Some, None}
use Rattle.std.proofs.Common.{subst, sym}
use Rattle.std.proofs.lemmas.Bool.{eqb-true}
use Rattle.m2_base.specs.Lists.{Each}
use Rattle.m2_base.specs.declared.rows.Place.{Place}
use Rattle.m2_base.specs.declared.rows.Row.{Row}
use Rattle.m2_base.specs.declared.rows.RowMeaning.{RowMeaning}
use Rattle.m2_base.specs.declared.rows.RowMeaning.TheVariants.{Proc, TypeName}
use Rattle.m2_base.specs.Rows.{row_meaning}
use Rattle.m2_base.specs.Statics.BlockRows.{declare_block}
use Rattle.m2_base.specs.Statics.Blocks.{BlockTree}
use Rattle.m2_base.specs.Statics.Closing.{Implemented, all_implemented, block_name, closing_diags, differing, differs_at, has_missing, implementation_diags, implemented, implements_heading, implements_type, is_implemented, is_missing, is_opaque_before, own_diags, procedure_implements, type_implemented}
use Rattle.m2_base.specs.Statics.Contexts.{Context, Scene, Source, diag}
use Rattle.m2_base.specs.Statics.Diagnostics.{not_implemented}
use Rattle.m2_base.specs.Statics.Lookup.{Entry, entry_in}
use Rattle.m2_base.specs.Statics.SameForm.{is_same_form}
use Rattle.m2_base.specs.Statics.Leaves.{NameOptionHas, StreamHas}
use Rattle.m2_base.specs.Statics.StandingTrees.{Stands}
use Rattle.m2_base.specs.Statics.Types.{meaning_at}
use Rattle.m2_base.specs.Statics.UnitNotes.{complete_context}
use Rattle.m2_base.specs.Tables.{first_named, found_or, rows_at}
use Rattle.m2_base.specs.Trees.{Stream}
use Rattle.m2_base.specs.declared.trees.Ident.{Ident}
use Rattle.m2_base.proofs.StandingItems.{name_diags_at}
use Rattle.m2_base.proofs.StandingNotes.{NotesAt, join, none, notes_either, one}
use Rattle.block_laws.proofs.StandingRows.{rows_stand}

module _ (Here : ℕ → Type 0) where
  -- rows that stand here
  abbrev pub RowsHere : List Row → Type 0
  RowsHere rows = Each (λ (r : Row). Here r.at) rows

  -- ** Entries

  abbrev HitHere : Option (ℕ × Row) → Type 0
  HitHere None = Unit {0}
  HitHere (Some hit) = Here hit.1.at

  abbrev EntryHere : Option Entry → Type 0
  EntryHere None = Unit {0}
  EntryHere (Some e) = Here e.1.at

  hit_either : (b : Bool) (o p : Option (ℕ × Row)) → HitHere o → HitHere p → HitHere (if b then o else p)
  hit_either true o p h k = h
  hit_either false o p h k = k

  first_here : (rows : List Row) (name k : ℕ) → RowsHere rows → HitHere (first_named name rows k)
  first_here [] name k h = tt
  first_here (r ∷ rows) name k h = hit_either (r.name == name) (Some (k, r)) (first_named name rows (k + 1)) h.0 (first_here rows name (k + 1) h.1)

  found_here : (s : ℕ) (o : Option (ℕ × Row)) → HitHere o → EntryHere (found_or s o None)
  found_here s None h = tt
  found_here s (Some hit) h = h

  entry_here : (tables : List (List Row)) (s name : ℕ) → RowsHere (rows_at tables s) → EntryHere (entry_in tables s name)
  entry_here tables s name h = found_here s (first_named name (rows_at tables s) 0) (first_here (rows_at tables s) name 0 h)

  -- ** What is implemented

  -- what differs stands here
  abbrev IsHere : Implemented → Type 0
  IsHere is_implemented = Unit {0}
  IsHere is_missing = Unit {0}
  IsHere (differs_at at) = Here at

  implemented_either : (b : Bool) (x y : Implemented) → IsHere x → IsHere y → IsHere (if b then x else y)
  implemented_either true x y h k = h
  implemented_either false x y h k = k

  procedure_here : (scene : Scene) (t : Place) (at : ℕ) (m : RowMeaning) → Here at → IsHere (procedure_implements scene t at m)
  procedure_here scene t at (Proc u number s) h = implemented_either (is_same_form scene t u) is_implemented (differs_at at) tt h
  procedure_here scene t at m h = tt

  heading_here : (scene : Scene) (t : Place) (e : Option Entry) → EntryHere e → IsHere (implements_heading scene t e)
  heading_here scene t None h = tt
  heading_here scene t (Some e) h = procedure_here scene t e.1.at (row_meaning e.1) h

  implemented_here : (scene : Scene) (own o name : ℕ) (m : RowMeaning) → RowsHere (rows_at scene.tables scene.block.home) → IsHere (implemented scene own o name m)
  implemented_here scene own o name (TypeName t) h =
      let e = entry_in scene.tables scene.block.home name in
      implemented_either (is_opaque_before scene own o t (meaning_at scene t)) (type_implemented scene e) is_implemented (implemented_either (implements_type scene e) is_implemented is_missing tt tt) tt
  implemented_here scene own o name (Proc t number s) h = heading_here scene t (entry_in scene.tables scene.block.home name) (entry_here scene.tables scene.block.home name h)
  implemented_here scene own o name m h = tt

  each_either : (b : Bool) (xs ys : List Implemented) → Each IsHere xs → Each IsHere ys → Each IsHere (if b then xs else ys)
  each_either true xs ys h k = h
  each_either false xs ys h k = k

  all_here : (rows : List Row) (scene : Scene) (own o : ℕ) → RowsHere (rows_at scene.tables scene.block.home) → Each IsHere (all_implemented scene own o rows)
  all_here [] scene own o h = tt
  all_here (r ∷ rows) scene own o h =
      let rest = all_here rows scene own (o + 1) h in
      each_either (r.name == 0) (all_implemented scene own (o + 1) rows) (implemented scene own o r.name (row_meaning r) ∷ all_implemented scene own (o + 1) rows)
      rest (implemented_here scene own o r.name (row_meaning r) h, rest)

  differing_at : (c : Context) (all : List Implemented) → Each IsHere all → NotesAt Here c (differing c all)
  differing_at c [] h = none
  differing_at c (differs_at at ∷ rest) h = join (one h.0) (differing_at c rest h.1)
  differing_at c (is_implemented ∷ rest) h = differing_at c rest h.1
  differing_at c (is_missing ∷ rest) h = differing_at c rest h.1

  implementation_at : (c : Context) (o : Option Ident) (all : List Implemented) → NameOptionHas (Stands Here) o → Each IsHere all → NotesAt Here c (implementation_diags c o all)
  implementation_at c None all h k = none
  implementation_at c (Some i) all h k =
      notes_either (has_missing all) (differing c all ++ diag c i.at not_implemented ∷ []) (differing c all)
      (join (differing_at c all k) (one h)) (differing_at c all k)

  own_either : (b : Bool) (c : Context) (o : Option Ident) (all : List Implemented) → NameOptionHas (Stands Here) o → (b ≡ true → Each IsHere all) → NotesAt Here c (if b then implementation_diags c o all else [])
  own_either true c o all h f = implementation_at c o all h (f refl)
  own_either false c o all h f = none

  own_at : (c : Context) (s : Stream) (o : Option ℕ) → NameOptionHas (Stands Here) s.name → (c.scene.block.level ≡ 0 → RowsHere (rows_at c.scene.tables c.scene.block.home)) → NotesAt Here c (own_diags c s o)
  own_at c s None h k = none
  own_at c s (Some own) h k =
      own_either (c.scene.block.level == 0) c s.name (all_implemented c.scene own 0 (rows_at c.scene.tables own)) h
      (λ e. all_here (rows_at c.scene.tables own) c.scene own 0 (k (eqb-true c.scene.block.level 0 e)))

  pub closing_at : (c : Context) (s : Stream) → StreamHas (Stands Here) s → (c.scene.block.level ≡ 0 → RowsHere (rows_at c.scene.tables c.scene.block.home)) → NotesAt Here c (closing_diags c s)
  closing_at c s h k = join (name_diags_at Here c s.close (block_name s) h.close) (own_at c s c.scene.block.own h.name k)

  -- ** Where the block is complete

  -- the rows of the block's own scope, where all of them count
  own_rows_here : (s : ℕ) (all : List (List Row)) (own : List Row) → RowsHere own → RowsHere (rows_at (take s all ++ own ∷ []) s)
  own_rows_here zero all own h = h
  own_rows_here (suc s) [] own h = tt
  own_rows_here (suc s) (rows ∷ all) own h = own_rows_here s all own h

  -- those of the home of a block of a module, over the finished scopes
  pub home_rows_here : (source : Source) (before all : List (List Row)) (b : BlockTree) → StreamHas (Stands Here) b.tree → (b.block.level ≡ 0 → b.block.home ≡ b.block.scope)
      → rows_at all b.block.scope ≡ (declare_block source before b).rows → b.block.level ≡ 0 → RowsHere (rows_at (complete_context source all b.block).scene.tables b.block.home)
  home_rows_here source before all b h home made zero_level =
      let tables = (complete_context source all b.block).scene.tables in
      let rows : RowsHere (rows_at tables b.block.scope) =
      own_rows_here b.block.scope all (rows_at all b.block.scope) (subst RowsHere (sym made) (rows_stand Here source before b h)) in
      subst (λ (s : ℕ). RowsHere (rows_at tables s)) (sym (home zero_level)) rows
