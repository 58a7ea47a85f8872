-- The code of a unit of one text without procedures is valid.
use Rattle.std.specs.Prelude.{◌≡◌, refl, ℕ, zero, suc, ◌≤◌, List, [], ◌∷◌, ◌++◌}
use Rattle.std.proofs.Common.{ap, subst, sym, inl, inr}
use Rattle.code_form.specs.Valid.{IsValidCode}
use Rattle.m2_base.specs.Lists.{Each, IsIn}
use Rattle.m2_base.specs.Rows.{row_meaning}
use Rattle.m2_base.specs.declared.rows.Place.{Place}
use Rattle.m2_base.specs.declared.rows.Row.{Row}
use Rattle.m2_base.specs.declared.rows.RowMeaning.{RowMeaning}
use Rattle.m2_base.specs.declared.rows.RowMeaning.TheVariants.{Proc, Var}
use Rattle.m2_base.specs.Standard.{standard_rows}
use Rattle.m2_base.specs.Statics.BlockRows.{declare_block}
use Rattle.m2_base.specs.Statics.Blocks.{BlockTree, UnitTrees, blocks_of, definition_blocks, main_block}
use Rattle.m2_base.specs.Statics.Contexts.{DefinitionModule, Scene, Source}
use Rattle.m2_base.specs.Statics.Effects.{BlockEffects}
use Rattle.m2_base.specs.Statics.Items.{Item, heading_item, items_of, proc_item}
use Rattle.m2_base.specs.Statics.UnitNotes.{complete_context}
use Rattle.m2_base.specs.Statics.UnitRows.{rows_from, unit_rows}
use Rattle.m2_base.specs.Tables.{rows_at}
use Rattle.m2_base.specs.Trees.{Heading, Stream}
use Rattle.m2_base.specs.declared.outputs.HeadingNote.{HeadingNote}
use Rattle.row_laws.specs.Procedures.{IsDeclared, IsSeenAs, ProceduresAreDeclared}
use Rattle.row_laws.specs.RowRanges.{BlockInRange, CellsAreThere, EachBlock}
use Rattle.block_code.specs.BlockCode.{block_code, block_diags}
use Rattle.block_code.specs.StatementTokens.{block_tokens}
use Rattle.block_laws.specs.Lone.{AreOfLone, IsLone, IsLoneTree, IsOfLone, IsPlainItem, lone_unit, lone_world}
use Rattle.block_laws.specs.Named.{procedure_of}
use Rattle.m2_base.specs.Statics.ReadStatements.{AreReadStatements}
use Rattle.block_laws.proofs.Copies.{inner_copies}
use Rattle.block_laws.proofs.Lone.{lone-valid}
use Rattle.row_laws.proofs.Members.{each_at}
use Rattle.row_laws.proofs.PlacingItems.{IsInner}
use Rattle.m2_base.proofs.EachLaws.{each_then}

-- ** Its only block, and its rows

no-definitions : (s : ℕ) (ds : List DefinitionModule) → definition_blocks s ds [] ≡ []
no-definitions s [] = refl
no-definitions s (d ∷ ds) = refl

abbrev lone_block : Source → Stream → BlockTree
lone_block source tree = main_block (lone_unit source tree) tree

lone-blocks : (source : Source) (tree : Stream) → blocks_of (lone_unit source tree) ≡ lone_block source tree ∷ []
unfolding blocks_of
lone-blocks source tree = ap (λ (ds : List BlockTree). ds ++ lone_block source tree ∷ []) (no-definitions 1 source.definitions)

abbrev own_rows : Source → Stream → List Row
own_rows source tree = (declare_block source (standard_rows ∷ []) (lone_block source tree)).rows

lone-rows : (source : Source) (tree : Stream) → unit_rows (lone_unit source tree) ≡ standard_rows ∷ own_rows source tree ∷ []
unfolding unit_rows
lone-rows source tree = ap (rows_from source (standard_rows ∷ [])) (lone-blocks source tree)

-- of each block, so of the only one
of-only : (P : List (List Row) → BlockTree → Type 0) (source : Source) (tree : Stream) → EachBlock P source (standard_rows ∷ []) (blocks_of (lone_unit source tree)) → P (standard_rows ∷ []) (lone_block source tree)
of-only P source tree h = (subst (EachBlock P source (standard_rows ∷ [])) (lone-blocks source tree) h).0

-- ** Nothing is copied first

plain_inner : (x : Item) → IsPlainItem x → IsInner x
plain_inner (heading_item h) k = absurd k
plain_inner x k = tt

nothing-copied : (source : Source) (tree : Stream) → Each IsPlainItem (items_of tree) → (declare_block source (standard_rows ∷ []) (lone_block source tree)).value.prologue ≡ []
unfolding declare_block
nothing-copied source tree h = inner_copies (items_of tree) _ tree.kind 0 _ (each_then IsPlainItem IsInner (items_of tree) plain_inner h)

-- ** No row declares a procedure

none-in : (items : List Item) (h : Heading) (stream : ℕ) → Each IsPlainItem items → IsIn (proc_item h stream) items → ⊥
none-in [] h stream f i = i
none-in (x ∷ items) h stream f (inl e) = subst IsPlainItem (sym e) f.0
none-in (x ∷ items) h stream f (inr i) = none-in items h stream f.1 i

pub standard-of-lone : Each (λ r. IsOfLone 0 1 (row_meaning r)) standard_rows
standard-of-lone = (tt, (tt, (tt, (tt, (tt, (tt, (tt, (tt, (tt, (tt, (tt, (tt, (tt, (tt, (tt, (tt, (tt, (tt, (tt, (tt, (tt, (tt, (tt, (tt, (tt, (tt, (tt, (tt, (tt, (tt, (tt, (tt, (tt, (tt, (tt, (tt, (tt, tt)))))))))))))))))))))))))))))))))))))

row-of-lone : (Q : Heading → Place → Type 0) (source : Source) (tree : Stream) (notes : List HeadingNote) → Each IsPlainItem (items_of tree) → (m : RowMeaning)
    → IsDeclared Q tree.kind (lone_block source tree).block notes (items_of tree) m → IsOfLone 1 1 m
row-of-lone Q source tree notes f (Proc t k s) d = none-in (items_of tree) d.0 d.1 f d.2
row-of-lone Q source tree notes f (Var t mode o) d = refl
row-of-lone Q source tree notes f m d = tt

each-of-lone : (Q : Heading → Place → Type 0) (source : Source) (tree : Stream) (notes : List HeadingNote) → Each IsPlainItem (items_of tree) → (rows : List Row)
    → Each (λ r. IsDeclared Q tree.kind (lone_block source tree).block notes (items_of tree) (row_meaning r)) rows → Each (λ r. IsOfLone 1 1 (row_meaning r)) rows
each-of-lone Q source tree notes f [] h = tt
each-of-lone Q source tree notes f (r ∷ rows) h = (row-of-lone Q source tree notes f (row_meaning r) h.0, each-of-lone Q source tree notes f rows h.1)

abbrev scene_over : Source → Stream → List (List Row) → Scene
scene_over source tree all = (complete_context source all (lone_block source tree).block).scene

of-two : (source : Source) (tree : Stream) (rows : List Row) → Each (λ r. IsOfLone 1 1 (row_meaning r)) rows → AreOfLone (scene_over source tree (standard_rows ∷ rows ∷ []))
of-two source tree rows h zero o r e = each_at (λ x. IsOfLone 0 1 (row_meaning x)) standard_rows standard-of-lone o r e
of-two source tree rows h (suc zero) o r e = each_at (λ x. IsOfLone 1 1 (row_meaning x)) rows h o r e
of-two source tree rows h (suc (suc s)) o r e = absurd cc

-- ** The whole

is-lone : (source : Source) (tree : Stream) → IsLoneTree tree → ProceduresAreDeclared (lone_unit source tree) (lone_block source tree) (declare_block source (standard_rows ∷ []) (lone_block source tree))
    → CellsAreThere (own_rows source tree) (declare_block source (standard_rows ∷ []) (lone_block source tree)).value
    → IsLone source (standard_rows ∷ []) (unit_rows (lone_unit source tree)) (lone_block source tree)
is-lone source tree h procedures cells =
    let b : BlockTree = lone_block source tree in
    let e : BlockEffects = (declare_block source (standard_rows ∷ []) b).value in
    record {
      main = h.main;
      name = h.name;
      named = h.named;
      home = refl;
      nothing_copied = nothing-copied source tree h.plain;
      rows = subst (λ (all : List (List Row)). AreOfLone (scene_over source tree all)) (sym (lone-rows source tree))
          (of-two source tree (own_rows source tree) (each-of-lone (IsSeenAs (lone_unit source tree) b) source tree e.headings h.plain (own_rows source tree) procedures));
      cells = subst (λ (all : List (List Row)). CellsAreThere (rows_at (scene_over source tree all).tables 1) e) (sym (lone-rows source tree)) cells;
    }

-- what the laws on rows say of each block
pub record BlocksKeep (names : List (List ℕ)) (u : UnitTrees) : Type 0 where
  pub ranges : EachBlock (λ before b. BlockInRange u.source before (unit_rows u) b) u.source (standard_rows ∷ []) (blocks_of u)
  pub cells : EachBlock (λ before b. CellsAreThere (declare_block u.source before b).rows (declare_block u.source before b).value) u.source (standard_rows ∷ []) (blocks_of u)
  pub procedures : EachBlock (λ before b. ProceduresAreDeclared u b (declare_block u.source before b)) u.source (standard_rows ∷ []) (blocks_of u)

pub lone-unit-valid : (names : List (List ℕ)) (source : Source) (tree : Stream) → BlocksKeep names (lone_unit source tree) → IsLoneTree tree → AreReadStatements names tree.body → block_tokens tree ≤ 1048576
    → block_diags source (standard_rows ∷ []) (unit_rows (lone_unit source tree)) (lone_block source tree) ≡ []
    → IsValidCode (lone_world (declare_block source (standard_rows ∷ []) (lone_block source tree)).value.cell (procedure_of (block_code source (standard_rows ∷ []) (unit_rows (lone_unit source tree)) (lone_block source tree)))) 0
    (procedure_of (block_code source (standard_rows ∷ []) (unit_rows (lone_unit source tree)) (lone_block source tree)))
lone-unit-valid names source tree keep lone read few told =
    let u : UnitTrees = lone_unit source tree in
    let all : List (List Row) = unit_rows u in
    let b : BlockTree = lone_block source tree in
    let ranges : BlockInRange source (standard_rows ∷ []) all b = of-only (λ before b. BlockInRange source before (unit_rows u) b) source tree keep.ranges in
    let cells : CellsAreThere (own_rows source tree) (declare_block source (standard_rows ∷ []) b).value =
    of-only (λ before b. CellsAreThere (declare_block source before b).rows (declare_block source before b).value) source tree keep.cells in
    let procedures : ProceduresAreDeclared u b (declare_block source (standard_rows ∷ []) b) =
    of-only (λ before b. ProceduresAreDeclared u b (declare_block source before b)) source tree keep.procedures in
    lone-valid names source (standard_rows ∷ []) all b (is-lone source tree lone procedures cells) ranges read few told
