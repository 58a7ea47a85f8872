-- A unit's world has the procedures, the imports and the cells of its blocks.
use Rattle.std.specs.Prelude.{◌≡◌, refl, ℕ, zero, suc, ◌+◌, ◌-◌, ◌<◌, ◌≤◌, ◌⊎◌, Bool, if◌then◌else◌, List, [], ◌∷◌, ◌++◌, drop, length, map, slice_get, slice_index_or, take, Option, Some, None}
use Rattle.std.proofs.Common.{ap, subst, sym, ◌∙◌, inl, inr, arith}
use Rattle.std.proofs.lemmas.Bool.{cases_order, le-ltb, lt-ltb}
use Rattle.std.proofs.lemmas.Option.{get_or_from_slice_get, slice_get_cases, slice_get_within}
use Rattle.code_form.specs.Modules.{Import, World}
use Rattle.code_form.specs.Valid.{import_of}
use Rattle.block_code.specs.ProcedureNames.{import_number_beside}
use Rattle.m2_base.proofs.EachLaws.{each_then}
use Rattle.m2_base.specs.Lists.{Each, IsIn, WhereKept}
use Rattle.m2_base.specs.Rows.{row_meaning}
use Rattle.m2_base.specs.Standard.{standard_rows}
use Rattle.m2_base.specs.Statics.BlockRows.{declare_block}
use Rattle.m2_base.specs.Statics.Blocks.{BlockTree, UnitTrees, blocks_of, home_of}
use Rattle.m2_base.specs.Statics.Cells.{most_cells}
use Rattle.m2_base.specs.Statics.Closing.{closing_diags}
use Rattle.m2_base.specs.Statics.Contexts.{Context}
use Rattle.m2_base.specs.Statics.Effects.{BlockEffects}
use Rattle.m2_base.specs.Statics.Items.{items_of}
use Rattle.m2_base.specs.Statics.Makes.{Makes}
use Rattle.m2_base.specs.Statics.UnitNotes.{complete_context}
use Rattle.m2_base.specs.Statics.UnitRows.{unit_rows}
use Rattle.m2_base.specs.Tables.{rows_at}
use Rattle.m2_base.specs.declared.outputs.HeadingNote.{HeadingNote}
use Rattle.m2_base.specs.declared.rows.Row.{Row}
use Rattle.m2_base.specs.declared.trees.declarations.StreamKind.{StreamKind}
use Rattle.row_laws.proofs.Joined.{none_left}
use Rattle.row_laws.proofs.Members.{each_in}
use Rattle.row_laws.proofs.Placing.{below_more}
use Rattle.row_laws.proofs.Units.{unit_cells, unit_declared, unit_in_range, unit_own_cells, unit_whole, long_from}
use Rattle.row_laws.specs.Procedures.{IsDeclared, IsSeenAs, ProceduresAreDeclared}
use Rattle.row_laws.specs.RowRanges.{BlockInRange, CellsAreThere, EachBlock, IsBelow, IsSoundUnit, OwnCellsAreThere}
use Rattle.row_laws.specs.UnitBlocks.{HasItsBlocks, HasItsForm}
use Rattle.block_code.specs.BlockCode.{block_code, block_diags, body_of, first_cell, run_of, size_diags}
use Rattle.block_code.specs.Flows.{Run}
use Rattle.block_laws.specs.Named.{HasCode, procedure_of}
use Rattle.m2_base.specs.Statics.ReadStatements.{AreReadStatements}
use Rattle.block_laws.specs.Worlds.{callee_of, import_over, of_blocks, unit_world, without_own}
use Rattle.block_laws.proofs.BlocksAt.{at_before, at_behind, at_drop, at_take, before_of, in_at, scope_at, unit_each, unit_made, unit_over, unit_place}
use Rattle.block_laws.proofs.InRange.{block-leads}
use Rattle.block_laws.proofs.Links.{HasProcedure}
use Rattle.block_laws.proofs.Named.{HasRoom, room, small}
use Rattle.block_laws.proofs.WorldCalls.{AreImplemented, Declares, IsBlockOf}
use Rattle.block_laws.proofs.WorldCells.{Furnishes, HasImport, in_main}

-- ** Imports by their numbers

-- what is left of the items when the own definition's is left out
without_at : {A : Type 0} (o : Option ℕ) → WhereKept o (λ q. 0 < q) → (ys : List A) (s : ℕ) (x : A) → 0 < s → (o ≡ Some s → ⊥) → slice_get ys (s - 1) ≡ Some x
    → (0 < import_number_beside o s) × (slice_get (without_own o ys) (import_number_beside o s - 1) ≡ Some x)
without_at None p ys s x h other e = (h, e)
without_at {A} (Some q) p ys s x h other e = by_order (cases_order q s)
  where
    next : suc (q - 1) ≡ q
    next = omega (arith, p)

    by_order : (q ≡ s) ⊎ ((q < s) ⊎ (s < q)) → (0 < import_number_beside (Some q) s) × (slice_get (without_own (Some q) ys) (import_number_beside (Some q) s - 1) ≡ Some x)
    by_order (inl f) = absurd (other (ap (λ (z : ℕ). Some z) f))
    by_order (inr (inl f)) =
        let number : import_number_beside (Some q) s ≡ s - 1 = ap (λ (t : Bool). if t then s - 1 else s) (lt-ltb q s f) in
        let at : slice_get ys (suc (s - 2)) ≡ Some x = subst (λ (n : ℕ). slice_get ys n ≡ Some x) (omega (arith, f, p)) e in
        let there : slice_get (take (q - 1) ys ++ drop q ys) (s - 2) ≡ Some x = subst (λ (n : ℕ). slice_get (take (q - 1) ys ++ drop n ys) (s - 2) ≡ Some x) next (at_behind (q - 1) ys (s - 2) x at (omega (arith, f, p))) in
        (omega (arith, number, f, p), subst (λ (n : ℕ). slice_get (take (q - 1) ys ++ drop q ys) n ≡ Some x) (omega (arith, number, f, p)) there)
    by_order (inr (inr f)) =
        let number : import_number_beside (Some q) s ≡ s = ap (λ (t : Bool). if t then s - 1 else s) (le-ltb q s (omega (arith, f))) in
        let there : slice_get (take (q - 1) ys ++ drop q ys) (s - 1) ≡ Some x = subst (λ (n : ℕ). slice_get (take (q - 1) ys ++ drop n ys) (s - 1) ≡ Some x) next (at_before (q - 1) ys (s - 1) x e (omega (arith, f, h))) in
        (omega (arith, number, h), subst (λ (n : ℕ). slice_get (take (q - 1) ys ++ drop q ys) n ≡ Some x) (omega (arith, number)) there)

import_place : (w : World) (m : ℕ) → 0 < m → import_of w m ≡ slice_get w.imports (m - 1)
import_place w zero h = absurd (omega (arith, h))
import_place w (suc m) h = ap (slice_get w.imports) (omega arith)

-- ** Cells

rows_more : (c d : ℕ) (rows : List Row) → c ≤ d → Each (λ r. IsBelow c (row_meaning r)) rows → Each (λ r. IsBelow d (row_meaning r)) rows
rows_more c d rows h k = each_then (λ (r : Row). IsBelow c (row_meaning r)) (λ (r : Row). IsBelow d (row_meaning r)) rows (λ r. below_more c d (row_meaning r) h) k

-- the notes of the headings of a scope
abbrev pub notes_of : UnitTrees → ℕ → List HeadingNote
notes_of u s = slice_index_or (of_blocks (λ before b. (declare_block u.source before b).value.headings) u) (s - 1) []

-- what is known of a unit whose blocks have no diagnostics
pub record IsClear (names : List (List ℕ)) (u : UnitTrees) : Type 0 where
  pub sound : IsSoundUnit names u
  pub blocks : HasItsBlocks u
  pub none : EachBlock (λ before b. block_diags u.source before (unit_rows u) b ≡ []) u.source (standard_rows ∷ []) (blocks_of u)

module _ (names : List (List ℕ)) (u : UnitTrees) (is : IsClear names u) where
  abbrev pub made : BlockTree → Makes BlockEffects
  made b = declare_block u.source (before_of u b) b

  abbrev context : BlockTree → Context
  context b = complete_context u.source (unit_rows u) b.block

  abbrev run : BlockTree → Run
  run b = run_of b (made b).value (body_of (context b) b).value

  pub form : (b : BlockTree) → IsIn b (blocks_of u) → HasItsForm (home_of u) b
  form b i = each_in (HasItsForm (home_of u)) (blocks_of u) b is.blocks.forms i

  pub ranges : (b : BlockTree) → IsIn b (blocks_of u) → BlockInRange u.source (before_of u b) (unit_rows u) b
  ranges b i = unit_each u is.sound.scopes (λ before c. BlockInRange u.source before (unit_rows u) c) (unit_in_range names u is.sound) b i

  pub told : (b : BlockTree) → IsIn b (blocks_of u) → block_diags u.source (before_of u b) (unit_rows u) b ≡ []
  told b i = unit_each u is.sound.scopes (λ before c. block_diags u.source before (unit_rows u) c ≡ []) is.none b i

  pub cells : (b : BlockTree) → IsIn b (blocks_of u) → CellsAreThere (made b).rows (made b).value
  cells b i = unit_each u is.sound.scopes (λ before c. CellsAreThere (declare_block u.source before c).rows (declare_block u.source before c).value) (unit_cells names u is.sound) b i

  own_cells : (b : BlockTree) → IsIn b (blocks_of u) → OwnCellsAreThere (unit_rows u) b (made b).value
  own_cells b i = unit_each u is.sound.scopes (λ before c. OwnCellsAreThere (unit_rows u) c (declare_block u.source before c).value) (unit_own_cells names u is.sound) b i

  pub declared : (b : BlockTree) → IsIn b (blocks_of u) → ProceduresAreDeclared u b (made b)
  declared b i = unit_each u is.sound.scopes (λ before c. ProceduresAreDeclared u c (declare_block u.source before c)) (unit_declared names u is.sound) b i

  sized : (b : BlockTree) → IsIn b (blocks_of u) → size_diags (context b) b b.tree.kind (made b).value (run b) ≡ []
  sized b i = (none_left ((made b).diags ++ closing_diags (context b) b.tree ++ (body_of (context b) b).diags) (size_diags (context b) b b.tree.kind (made b).value (run b)) (told b i)).1

  pub coded : (b : BlockTree) → IsIn b (blocks_of u) → home_of u ≤ b.block.scope → HasCode b.tree.kind
  coded b i behind = by_order (cases_order b.block.scope (home_of u))
    where
      by_order : (b.block.scope ≡ home_of u) ⊎ ((b.block.scope < home_of u) ⊎ (home_of u < b.block.scope)) → HasCode b.tree.kind
      by_order (inl e) = subst HasCode (sym ((form b i).module_kind e)) tt
      by_order (inr (inl e)) = absurd (omega (arith, e, behind))
      by_order (inr (inr e)) = subst HasCode (sym ((form b i).procedure e)) tt

  -- ** Procedures

  pub has_procedure : (b : BlockTree) → IsIn b (blocks_of u) → home_of u ≤ b.block.scope → slice_get (unit_world u).procedures (b.block.scope - home_of u) ≡ Some (procedure_of (block_code u.source (before_of u b) (unit_rows u) b))
  has_procedure b i behind =
      let positive = (unit_place u is.sound.scopes b i).1 in
      let place : length u.definitions + (b.block.scope - home_of u) ≡ b.block.scope - 1 = omega (arith, behind, positive) in
      at_drop (length u.definitions) (of_blocks (λ before c. procedure_of (block_code u.source before (unit_rows u) c)) u) (b.block.scope - home_of u)
      ∙ ap (slice_get (of_blocks (λ before c. procedure_of (block_code u.source before (unit_rows u) c)) u)) place
      ∙ unit_over u is.sound.scopes (λ before c. procedure_of (block_code u.source before (unit_rows u) c)) b i

  -- ** Imports

  few_cells : (b : BlockTree) → IsIn b (blocks_of u) → b.block.scope < home_of u → (made b).value.cell ≤ most_cells
  few_cells b i low =
      (small (context b) b (made b).value.cell 0 (form b i).name (form b i).named
      (subst (λ (k : StreamKind). size_diags (context b) b k (made b).value (run b) ≡ []) ((form b i).definition low) (sized b i))).0

  notes_at : (b : BlockTree) → IsIn b (blocks_of u) → notes_of u b.block.scope ≡ (made b).value.headings
  notes_at b i =
      get_or_from_slice_get (of_blocks (λ before c. (declare_block u.source before c).value.headings) u) (b.block.scope - 1) (made b).value.headings []
      (unit_over u is.sound.scopes (λ before c. (declare_block u.source before c).value.headings) b i)

  import : (b : BlockTree) → IsIn b (blocks_of u) → b.block.scope < home_of u → (u.own ≡ Some b.block.scope → ⊥) → HasImport (unit_world u) u.own (unit_rows u) (notes_of u b.block.scope) b.block.scope
  import b i low other =
      let x : Import = import_over u.source (before_of u b) b in
      let positive = (unit_place u is.sound.scopes b i).1 in
      let xs : List Import = of_blocks (import_over u.source) u in
      let at : slice_get (take (length u.definitions) xs) (b.block.scope - 1) ≡ Some x =
      at_take (length u.definitions) xs (b.block.scope - 1) (omega (arith, low, positive)) ∙ unit_over u is.sound.scopes (import_over u.source) b i in
      let there = without_at u.own is.blocks.own (take (length u.definitions) xs) b.block.scope x positive other at in
      record {
        i = x;
        positive = there.0;
        there = import_place (unit_world u) (import_number_beside u.own b.block.scope) there.0 ∙ there.1;
        cells = subst (Each (λ (r : Row). IsBelow (made b).value.cell (row_meaning r))) (sym (unit_made u is.sound.scopes b i)) ((cells b i).variables (few_cells b i low));
        headings = ap (map callee_of) (sym (notes_at b i));
      }

  -- ** All blocks

  pub earlier : (b : BlockTree) → IsIn b (blocks_of u) → (s : ℕ) → 0 < s → s ≤ b.block.scope → IsBlockOf u s
  earlier b i s positive low =
      let place = (unit_place u is.sound.scopes b i).0 in
      by_case (slice_get_within (blocks_of u) (b.block.scope - 1) b place) ((slice_get_cases (blocks_of u) (s - 1)).1)
    where
      by_case : b.block.scope - 1 < length (blocks_of u)
          → ((x : BlockTree) × (s - 1 < length (blocks_of u)) × (slice_get (blocks_of u) (s - 1) ≡ Some x) × (slice_index_or (blocks_of u) (s - 1) x ≡ x)) ⊎ ((length (blocks_of u) ≤ s - 1) × (slice_get (blocks_of u) (s - 1) ≡ None))
          → IsBlockOf u s
      by_case l (inl h) =
          let scope = scope_at 1 (blocks_of u) is.sound.scopes (s - 1) h.0 h.2 in
          (h.0, in_at (blocks_of u) (s - 1) h.0 h.2, omega (arith, scope, positive))
      by_case l (inr h) = let more = h.0 in absurd (omega (arith, l, more, low))

  pub there : (b : BlockTree) → IsIn b (blocks_of u) → b.block.scope < length (unit_rows u)
  unfolding unit_rows
  there b i =
      let place = unit_place u is.sound.scopes b i in
      let within = slice_get_within (blocks_of u) (b.block.scope - 1) b place.0 in
      let all = long_from u.source (blocks_of u) (standard_rows ∷ []) in
      omega (arith, within, all)

  pub declares : AreImplemented u → Declares u (notes_of u)
  declares implemented = record {
    forms = is.blocks.forms;
    procedures = is.blocks.procedures;
    rows = λ q i. subst (Each (λ (r : Row). IsDeclared (IsSeenAs u q) q.tree.kind q.block (notes_of u q.block.scope) (items_of q.tree) (row_meaning r))) (sym (unit_made u is.sound.scopes q i))
        (subst (λ (ns : List HeadingNote). Each (λ (r : Row). IsDeclared (IsSeenAs u q) q.tree.kind q.block ns (items_of q.tree) (row_meaning r)) (made q).rows) (sym (notes_at q i)) (declared q i));
    before = λ b i s positive low. earlier b i s positive low;
    own = is.sound.own;
    positive = λ q i. (unit_place u is.sound.scopes q i).1;
    there = λ q i. there q i;
    implemented = implemented;
  }

  -- ** Where the statements are read

  module _ (read : Each (λ b. AreReadStatements names b.tree.body) (blocks_of u)) where
    pub reads : (b : BlockTree) → IsIn b (blocks_of u) → AreReadStatements names b.tree.body
    reads b i = each_in (λ c. AreReadStatements names c.tree.body) (blocks_of u) b read i

    leads : (b : BlockTree) → IsIn b (blocks_of u) → first_cell b.tree.kind (made b).value.cell ≤ (run b).next.cell
    leads b i = (block-leads names u.source (before_of u b) (unit_rows u) b (ranges b i) (reads b i)).cells

    pub has_room : (b : BlockTree) → IsIn b (blocks_of u) → home_of u ≤ b.block.scope → HasRoom (made b).value (run b)
    has_room b i behind = room (context b) b b.tree.kind (made b).value (run b) (form b i).name (coded b i behind) (form b i).named (leads b i) (sized b i)

    frame : (b : BlockTree) → IsIn b (blocks_of u) → home_of u < b.block.scope → Each (λ r. IsBelow (run b).next.cell (row_meaning r)) (rows_at (unit_rows u) b.block.scope)
    frame b i far =
        let first : first_cell b.tree.kind (made b).value.cell ≡ (made b).value.cell = ap (λ (k : StreamKind). first_cell k (made b).value.cell) ((form b i).procedure far) in
        let more = leads b i in
        subst (Each (λ (r : Row). IsBelow (run b).next.cell (row_meaning r))) (sym (unit_made u is.sound.scopes b i))
        (rows_more (made b).value.cell (run b).next.cell (made b).rows (omega (arith, first, more)) ((cells b i).variables (has_room b i (omega (arith, far))).own))

    procedure : (b : BlockTree) → IsIn b (blocks_of u) → home_of u ≤ b.block.scope → HasProcedure (unit_world u) (home_of u) (unit_rows u) b
    procedure b i behind = record {
      p = procedure_of (block_code u.source (before_of u b) (unit_rows u) b);
      there = has_procedure b i behind;
      outer = refl;
      params = refl;
      result = refl;
      cells = λ far. frame b i far;
    }

    -- ** The module's cells

    module_cells : (b : BlockTree) → IsIn b (blocks_of u) → b.block.scope ≡ home_of u → (unit_world u).cells ≡ (made b).value.cell
    module_cells b i e =
        let place : length u.definitions ≡ b.block.scope - 1 = omega (arith, e) in
        ap (λ (n : ℕ). slice_index_or (of_blocks (λ before c. (declare_block u.source before c).value.cell) u) n 0) place
        ∙ get_or_from_slice_get (of_blocks (λ before c. (declare_block u.source before c).value.cell) u) (b.block.scope - 1) (made b).value.cell 0
        (unit_over u is.sound.scopes (λ before c. (declare_block u.source before c).value.cell) b i)

    global : (b : BlockTree) → IsIn b (blocks_of u) → b.block.scope ≡ home_of u → Each (λ r. IsBelow (unit_world u).cells (row_meaning r)) (rows_at (unit_rows u) (home_of u))
    global b i e =
        let first = module_cells b i e in
        subst (λ (s : ℕ). Each (λ (r : Row). IsBelow (unit_world u).cells (row_meaning r)) (rows_at (unit_rows u) s)) e
        (subst (Each (λ (r : Row). IsBelow (unit_world u).cells (row_meaning r))) (sym (unit_made u is.sound.scopes b i))
        (rows_more (made b).value.cell (unit_world u).cells (made b).rows (omega (arith, first)) ((cells b i).variables (has_room b i (omega (arith, e))).own)))

    own_global : (b : BlockTree) → IsIn b (blocks_of u) → b.block.scope ≡ home_of u → b.block.own ≡ u.own → (s : ℕ) → u.own ≡ Some s → Each (λ r. IsBelow (unit_world u).cells (row_meaning r)) (rows_at (unit_rows u) s)
    own_global b i e own s f =
        let first = module_cells b i e in
        let there = own_cells b i s ((form b i).module_kind e) ((form b i).module_heading e) (own ∙ f) in
        rows_more (made b).value.cell (unit_world u).cells (rows_at (unit_rows u) s) (omega (arith, first)) (there.variables (has_room b i (omega (arith, e))).own)

    pub furnishes : (b : BlockTree) → IsIn b (blocks_of u) → home_of u ≤ b.block.scope → Furnishes u (unit_world u) (unit_rows u) (notes_of u)
    furnishes b i behind =
        let home = earlier b i (home_of u) (omega arith) behind in
        let own = (in_main u home.0 home.1 (let same = home.2 in omega (arith, same))).own in
        record {
          standard = (unit_whole names u is.sound).standard;
          procedures = λ q j far. procedure q j far;
          cells = global home.0 home.1 home.2;
          own_cells = λ s e. own_global home.0 home.1 home.2 own s e;
          imports = λ s positive low other.
              let q = earlier b i s positive (omega (arith, low, behind)) in
              let same = q.2 in
              subst (λ (z : ℕ). HasImport (unit_world u) u.own (unit_rows u) (notes_of u z) z) same (import q.0 q.1 (omega (arith, same, low)) (λ e. other (e ∙ ap (λ (z : ℕ). Some z) same)));
        }
