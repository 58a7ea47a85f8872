-- The cells that a block's code names are there, in a world that has the unit's procedures, imports and cells.
use Rattle.std.specs.Prelude.{◌≡◌, refl, ℕ, zero, suc, ◌-◌, ◌<◌, ◌≤◌, ◌==◌, ◌||◌, ◌⊎◌, Bool, true, false, nat_lt, if◌then◌else◌, List, map, slice_get, Option, Some, None}
use Rattle.std.proofs.Common.{ap, subst, sym, ◌∙◌, inl, inr, arith}
use Rattle.std.proofs.lemmas.Bool.{eq-eqb, eqb-true, eqb-false, lt-ltb}
use Rattle.code_form.specs.Modules.{Import, Procedure, World}
use Rattle.code_form.specs.Valid.{has_cell, has_local, import_of, names_what_is_there, when_there}
use Rattle.code_form.specs.declared.instr.Instr.TheVariants.{Global, Local}
use Rattle.block_code.specs.ProcedureNames.{import_number, import_number_beside, is_own, is_own_definition}
use Rattle.block_code.specs.Variables.{cell_instr, links_out}
use Rattle.m2_base.specs.Lists.{Each, IsIn}
use Rattle.m2_base.specs.Rows.{row_meaning}
use Rattle.m2_base.specs.Standard.{standard_rows}
use Rattle.m2_base.specs.Statics.Blocks.{BlockTree, UnitTrees, blocks_of, home_of}
use Rattle.m2_base.specs.Statics.Contexts.{Block, level_of}
use Rattle.m2_base.specs.Tables.{rows_at}
use Rattle.m2_base.specs.declared.outputs.HeadingNote.{HeadingNote}
use Rattle.m2_base.specs.declared.rows.Row.{Row}
use Rattle.row_laws.specs.RowRanges.{IsBelow}
use Rattle.block_laws.specs.Sight.{IsInSight}
use Rattle.block_laws.specs.Worlds.{callee_of}
use Rattle.block_laws.proofs.Chains.{Stands, blocks_stand}
use Rattle.block_laws.proofs.Links.{HasProcedure, Reaches, in_module, reach}
use Rattle.row_laws.proofs.Members.{each_in, each_at}

-- the import that a world has of the definition module with this scope: its cells are those of the rows, its headings the noted ones
pub record HasImport (w : World) (own : Option ℕ) (all : List (List Row)) (notes : List HeadingNote) (s : ℕ) : Type 0 where
  pub i : Import
  pub positive : 0 < import_number_beside own s
  pub there : import_of w (import_number_beside own s) ≡ Some i
  pub cells : Each (λ r. IsBelow i.cells (row_meaning r)) (rows_at all s)
  pub headings : i.headings ≡ map callee_of notes

-- what a world has of a unit's blocks, whose notes of headings are given by their scopes
pub record Furnishes (u : UnitTrees) (w : World) (all : List (List Row)) (notes : ℕ → List HeadingNote) : Type 0 where
  pub standard : rows_at all 0 ≡ standard_rows
  pub procedures : (b : BlockTree) → IsIn b (blocks_of u) → home_of u ≤ b.block.scope → HasProcedure w (home_of u) all b
  pub cells : Each (λ r. IsBelow w.cells (row_meaning r)) (rows_at all (home_of u))
  pub own_cells : (s : ℕ) → u.own ≡ Some s → Each (λ r. IsBelow w.cells (row_meaning r)) (rows_at all s)
  pub imports : (s : ℕ) → 0 < s → s < home_of u → (u.own ≡ Some s → ⊥) → HasImport w u.own all (notes s) s

-- a block of the main text is in the module
pub record IsInMain (u : UnitTrees) (b : Block) : Type 0 where
  pub home : b.home ≡ home_of u
  pub own : b.own ≡ u.own

pub in_main : (u : UnitTrees) (b : BlockTree) → IsIn b (blocks_of u) → home_of u ≤ b.block.scope → IsInMain u b.block
in_main u b i behind = by_place (each_in _ (blocks_of u) b (blocks_stand u) i behind)
  where
    by_place : Stands u (blocks_of u) b.block → IsInMain u b.block
    by_place (inl h) = record { home = h.home; own = h.own }
    by_place (inr h) = record { home = h.home; own = h.own }

-- ** Own scopes

-- the module's scope, or that of its own definition
pub own_is : (u : UnitTrees) (b : Block) → IsInMain u b → (s : ℕ) → is_own b s ≡ true → (s ≡ home_of u) ⊎ (u.own ≡ Some s)
own_is u b main s e = by_home (s == b.home) refl e
  where
    by_own : (o : Option ℕ) → u.own ≡ o → is_own_definition o s ≡ true → u.own ≡ Some s
    by_own None f h = absurd cc
    by_own (Some q) f h = f ∙ ap (λ (x : ℕ). Some x) (sym (eqb-true s q h))

    by_home : (t : Bool) → (s == b.home) ≡ t → (t || is_own_definition b.own s) ≡ true → (s ≡ home_of u) ⊎ (u.own ≡ Some s)
    by_home true f h = inl (eqb-true s b.home f ∙ main.home)
    by_home false f h = inr (by_own u.own refl (subst (λ (o : Option ℕ). is_own_definition o s ≡ true) main.own h))

pub not_own : (u : UnitTrees) (b : Block) → IsInMain u b → (s : ℕ) → is_own b s ≡ false → ((s ≡ home_of u) ⊎ (u.own ≡ Some s)) → ⊥
not_own u b main s e (inl h) =
    let yes : is_own b s ≡ true = ap (λ (t : Bool). t || is_own_definition b.own s) (eq-eqb s b.home (h ∙ sym main.home)) in
    absurd cc
not_own u b main s e (inr h) = by_home (s == b.home) e
  where
    is : is_own_definition b.own s ≡ true
    is = ap (λ (o : Option ℕ). is_own_definition o s) (main.own ∙ h) ∙ eq-eqb s s refl

    by_home : (t : Bool) → (t || is_own_definition b.own s) ≡ false → ⊥
    by_home true f = absurd cc
    by_home false f = let no : true ≡ false = sym is ∙ f in absurd cc

-- ** Cells

standard-cells : Each (λ r. IsBelow 0 (row_meaning r)) standard_rows
standard-cells = (tt, (tt, (tt, (tt, (tt, (tt, (tt, (tt, (tt, (tt, (tt, (tt, (tt, (tt, (tt, (tt, (tt, (tt, (tt, (tt, (tt, (tt, (tt, (tt, (tt, (tt, (tt, (tt, (tt, (tt, (tt, (tt, (tt, (tt, (tt, (tt, (tt, tt)))))))))))))))))))))))))))))))))))))

-- import m is the one at its place
pub at_import : (w : World) (m o : ℕ) (i : Import) → 0 < m → import_of w m ≡ Some i → o < i.cells → has_cell w m o ≡ true
at_import w zero o i h e k = absurd (omega (arith, h))
at_import w (suc m) o i h e k = ap (λ (x : Option Import). when_there x (λ j. nat_lt o j.cells)) e ∙ lt-ltb o i.cells k

module _ (u : UnitTrees) (w : World) (all : List (List Row)) (notes : ℕ → List HeadingNote) (has : Furnishes u w all notes) (b : BlockTree) (i : IsIn b (blocks_of u)) (behind : home_of u ≤ b.block.scope) where
  main : IsInMain u b.block
  main = in_main u b i behind

  -- a scope in sight that isn't the module's own, and on no level, is an imported definition's
  pub far : (s : ℕ) → IsInSight b.block s → is_own b.block s ≡ false → level_of b.block s ≡ 0 → (s < home_of u) × (u.own ≡ Some s → ⊥)
  far s sight e l = (by_sight sight, λ o. not_own u b.block main s e (inr o))
    where
      by_sight : IsInSight b.block s → s < home_of u
      by_sight (inl k) = absurd (not_own u b.block main s e (in_module u (suc b.block.scope) b i behind (omega arith) s k l))
      by_sight (inr k) = subst (λ (h : ℕ). s < h) main.home k

  pub reached : (s : ℕ) → (level_of b.block s == 0) ≡ false → Reaches u w b s
  reached s e = reach u w all has.procedures (suc b.block.scope) b i behind (omega arith) s (eqb-false (level_of b.block s) 0 e)

  -- the cell of a row's variable
  pub cell-there : (p : Procedure) (s n o : ℕ) (r : Row) → IsInSight b.block s → slice_get (rows_at all s) n ≡ Some r → ((cells : ℕ) → IsBelow cells (row_meaning r) → o < cells)
      → names_what_is_there w (b.block.scope - home_of u) p (cell_instr b.block s o) ≡ true
  cell-there p s n o r sight e fits = by_test (is_own b.block s) refl (level_of b.block s == 0) refl
    where
      below : (cells : ℕ) → Each (λ x. IsBelow cells (row_meaning x)) (rows_at all s) → o < cells
      below cells h = fits cells (each_at (λ x. IsBelow cells (row_meaning x)) (rows_at all s) h n r e)

      positive : 0 < s
      positive = by_zero s refl
        where
          by_zero : (q : ℕ) → s ≡ q → 0 < q
          by_zero zero f =
              let none : o < 0 = below 0 (subst (Each (λ x. IsBelow 0 (row_meaning x))) (sym (ap (rows_at all) f ∙ has.standard)) standard-cells) in
              absurd (omega (arith, none))
          by_zero (suc q) f = omega arith

      of_own : (s ≡ home_of u) ⊎ (u.own ≡ Some s) → o < w.cells
      of_own (inl h) = below w.cells (subst (λ (q : ℕ). Each (λ x. IsBelow w.cells (row_meaning x)) (rows_at all q)) (sym h) has.cells)
      of_own (inr h) = below w.cells (has.own_cells s h)

      of_import : (s < home_of u) × (u.own ≡ Some s → ⊥) → has_cell w (import_number b.block s) o ≡ true
      of_import h =
          let m = has.imports s positive h.0 h.1 in
          subst (λ (x : Option ℕ). has_cell w (import_number_beside x s) o ≡ true) (sym main.own) (at_import w (import_number_beside u.own s) o m.i m.positive m.there (below m.i.cells m.cells))

      of_frame : Reaches u w b s → has_local w (b.block.scope - home_of u) (links_out b.block s) o ≡ true
      of_frame h =
          let far = h.behind in
          let same = h.scope in
          let q = has.procedures h.block h.there (omega (arith, far, same)) in
          let at : slice_get w.procedures (s - home_of u) ≡ Some q.p = subst (λ (x : ℕ). slice_get w.procedures (x - home_of u) ≡ Some q.p) same q.there in
          let cells : Each (λ x. IsBelow q.p.locals (row_meaning x)) (rows_at all s) = subst (λ (x : ℕ). Each (λ y. IsBelow q.p.locals (row_meaning y)) (rows_at all x)) same (q.cells (omega (arith, far, same))) in
          ap (λ (x : Option ℕ). when_there x (λ k. when_there (slice_get w.procedures k) (λ (f : Procedure). nat_lt o f.locals))) h.links
          ∙ ap (λ (x : Option Procedure). when_there x (λ (f : Procedure). nat_lt o f.locals)) at ∙ lt-ltb o q.p.locals (below q.p.locals cells)

      by_test : (t : Bool) → is_own b.block s ≡ t → (v : Bool) → (level_of b.block s == 0) ≡ v
          → names_what_is_there w (b.block.scope - home_of u) p (if t then Global 0 o else if v then Global (import_number b.block s) o else Local (links_out b.block s) o) ≡ true
      by_test true f v g = lt-ltb o w.cells (of_own (own_is u b.block main s f))
      by_test false f true g = of_import (far s sight f (eqb-true (level_of b.block s) 0 g))
      by_test false f false g = of_frame (reached s g)
