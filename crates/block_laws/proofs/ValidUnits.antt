-- The code of each block of a unit is valid where no block has a diagnostic.
use Rattle.std.specs.Prelude.{◌≡◌, ℕ, ◌+◌, ◌-◌, ◌<◌, ◌≤◌, ◌⊎◌, true, List, slice_get, Some}
use Rattle.std.proofs.Common.{ap, subst, sym, inl, inr, arith}
use Rattle.std.proofs.lemmas.Bool.{cases_order}
use Rattle.code_form.specs.Modules.{Procedure}
use Rattle.code_form.specs.Valid.{IsValidCode, names_what_is_there}
use Rattle.block_code.specs.Variables.{cell_instr}
use Rattle.m2_base.specs.Lists.{Each, IsIn}
use Rattle.m2_base.specs.Statics.Blocks.{BlockTree, UnitTrees, blocks_of, home_of}
use Rattle.m2_base.specs.Statics.Cells.{most_cells}
use Rattle.m2_base.specs.Statics.Contexts.{Scene}
use Rattle.m2_base.specs.Statics.Effects.{BlockEffects}
use Rattle.m2_base.specs.Statics.UnitNotes.{complete_context}
use Rattle.m2_base.specs.Statics.UnitRows.{unit_rows}
use Rattle.m2_base.specs.Tables.{rows_at}
use Rattle.m2_base.specs.declared.rows.Mode.TheVariants.{ByAddress, Open, Plain}
use Rattle.m2_base.specs.declared.rows.Mode.{Mode}
use Rattle.m2_base.specs.declared.rows.Place.{Place}
use Rattle.m2_base.specs.declared.rows.Row.{Row}
use Rattle.m2_base.specs.declared.rows.RowMeaning.TheVariants.{Proc, Var}
use Rattle.m2_base.specs.declared.rows.RowMeaning.{RowMeaning}
use Rattle.m2_base.specs.declared.trees.declarations.StreamKind.{StreamKind}
use Rattle.row_laws.proofs.Whole.{whole-rows}
use Rattle.row_laws.specs.RowRanges.{IsBelow, IsCopyBelow}
use Rattle.block_code.specs.BlockCode.{block_code, first_cell}
use Rattle.block_code.specs.StatementTokens.{block_tokens}
use Rattle.block_laws.specs.Named.{BlockNamesThere, procedure_of}
use Rattle.block_laws.specs.Sight.{IsDeclared, IsInSight, RowsNameThere, Sees}
use Rattle.m2_base.specs.Statics.ReadStatements.{AreReadStatements}
use Rattle.block_laws.specs.Worlds.{unit_world}
use Rattle.block_laws.proofs.BlocksAt.{before_of}
use Rattle.block_laws.proofs.Copies.{none_copied, without_heading}
use Rattle.block_laws.proofs.Named.{block-code-valid}
use Rattle.block_laws.proofs.UnitWorlds.{IsClear, cells, coded, declares, form, furnishes, has_procedure, made, notes_of, ranges, reads, told}
use Rattle.block_laws.proofs.WorldCalls.{AreImplemented, Declares, HasTarget, call-there, sight-low, target-there, value-there}
use Rattle.block_laws.proofs.WorldCells.{Furnishes, cell-there}

-- ** Blocks

first_below : (t : Place) (mode : Mode) (o n : ℕ) → IsBelow n (Var t mode o) → o < n
first_below t Open o n h = omega (arith, h)
first_below t Plain o n h = h
first_below t ByAddress o n h = h

module _ (names : List (List ℕ)) (u : UnitTrees) (is : IsClear names u) (read : Each (λ b. AreReadStatements names b.tree.body) (blocks_of u)) (implemented : AreImplemented u) (b : BlockTree) (i : IsIn b (blocks_of u)) (behind : home_of u ≤ b.block.scope)
    (sees : Sees (IsInSight b.block) (complete_context u.source (unit_rows u) b.block).scene) where
  abbrev scene : Scene
  scene = (complete_context u.source (unit_rows u) b.block).scene

  abbrev p : Procedure
  p = procedure_of (block_code u.source (before_of u b) (unit_rows u) b)

  known : Declares u (notes_of u)
  known = declares names u is implemented

  has : Furnishes u (unit_world u) (unit_rows u) (notes_of u)
  has = furnishes names u is read b i behind

  row_here : (name : ℕ) (m : RowMeaning) (d : IsDeclared (IsInSight b.block) scene name m) → slice_get (rows_at (unit_rows u) d.place.scope) d.place.ordinal ≡ Some d.row
  row_here name m d =
      subst (λ (rs : List Row). slice_get rs d.place.ordinal ≡ Some d.row)
      (whole-rows (unit_rows u) b.block d.place.scope (known.there b i) (sight-low u (unit_world u) (notes_of u) has known b i behind p d.place.scope d.in_sight)) d.there

  cell_named : (name : ℕ) (t : Place) (mode : Mode) (o : ℕ) (d : IsDeclared (IsInSight b.block) scene name (Var t mode o)) (q : ℕ) → ((n : ℕ) → IsBelow n (Var t mode o) → q < n)
      → names_what_is_there (unit_world u) (b.block.scope - home_of u) p (cell_instr b.block d.place.scope q) ≡ true
  cell_named name t mode o d q fits =
      cell-there u (unit_world u) (unit_rows u) (notes_of u) has b i behind p d.place.scope d.place.ordinal q d.row d.in_sight (row_here name (Var t mode o) d)
      (λ n h. fits n (subst (IsBelow n) d.means h))

  target : (name : ℕ) (t : Place) (k s : ℕ) → IsDeclared (IsInSight b.block) scene name (Proc t k s) → HasTarget u (unit_world u) (notes_of u) has known b i behind p name t k
  target name t k s d =
      target-there u (unit_world u) (notes_of u) has known b i behind p d.place.scope d.place.ordinal d.row t k s name d.in_sight (row_here name (Proc t k s) d) d.means d.named

  rows-there : RowsNameThere (IsInSight b.block) (unit_world u) (b.block.scope - home_of u) p scene
  rows-there = record {
    sight = sees;
    cells = λ name t mode o d. cell_named name t mode o d o (λ n h. first_below t mode o n h);
    second_cells = λ name t o d. cell_named name t Open o d (o + 1) (λ n h. h);
    values = λ name t k s d l. value-there u (unit_world u) (notes_of u) has known b i behind p name t k (target name t k s d) l;
    calls = λ name t k s q d e. call-there u (unit_world u) (notes_of u) has known b i behind p name t k q (target name t k s d) e;
  }

  copies : (made names u is b).value.cell ≤ most_cells → Each (IsCopyBelow (first_cell b.tree.kind (made names u is b).value.cell)) (made names u is b).value.prologue
  copies few = by_order (cases_order b.block.scope (home_of u))
    where
      e : BlockEffects
      e = (made names u is b).value

      by_order : (b.block.scope ≡ home_of u) ⊎ ((b.block.scope < home_of u) ⊎ (home_of u < b.block.scope)) → Each (IsCopyBelow (first_cell b.tree.kind (made names u is b).value.cell)) (made names u is b).value.prologue
      by_order (inl f) = none_copied _ (made names u is b).value.prologue (without_heading u.source (before_of u b) b ((form names u is b i).module_heading f))
      by_order (inr (inl f)) = absurd (omega (arith, f, behind))
      by_order (inr (inr f)) =
          subst (λ (n : ℕ). Each (IsCopyBelow n) (made names u is b).value.prologue) (sym (ap (λ (k : StreamKind). first_cell k (made names u is b).value.cell) ((form names u is b i).procedure f)))
          ((cells names u is b i).copies few)

  names-there : BlockNamesThere (IsInSight b.block) (unit_world u) (b.block.scope - home_of u) u.source (before_of u b) (unit_rows u) b
  names-there = record {
    coded = coded names u is b i behind;
    name = (form names u is b i).name;
    named = (form names u is b i).named;
    there = has_procedure names u is b i behind;
    copies = copies;
    rows = λ few. rows-there;
  }

  pub block-valid-in-unit : block_tokens b.tree ≤ 1048576 → IsValidCode (unit_world u) (b.block.scope - home_of u) p
  block-valid-in-unit few =
      block-code-valid (IsInSight b.block) names u.source (before_of u b) (unit_rows u) b (unit_world u) (b.block.scope - home_of u) names-there
      (ranges names u is b i) (reads names u is read b i) few (told names u is b i)
