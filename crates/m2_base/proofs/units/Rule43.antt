-- A unit, with what its declarations give. Names are numbered from 28 on as they come here.
--
-- A.mod:
--     MODULE A; VAR v: CARDINAL; CONST s = {1, v}; t = {v}; u = nix IN {1}; w = {1, nix}; END A.
use Rattle.std.specs.Prelude.{◌≡◌, pos, false, List, [], ◌∷◌, ◌++◌, Some, None}
use Rattle.std.proofs.Common.{refl}
use Rattle.m2_base.specs.Names.{standard_names}
use Rattle.m2_base.specs.Rows.{Row, numbers_row}
use Rattle.m2_base.specs.Standard.{standard_rows}
use Rattle.m2_base.specs.Statics.BlockRows.{declare_block}
use Rattle.m2_base.specs.Statics.Blocks.{UnitTrees, blocks_of}
use Rattle.m2_base.specs.Statics.UnitNotes.{declaration_diags, declaration_answers}
use Rattle.m2_base.specs.Statics.UnitRows.{unit_rows}
use Rattle.m2_base.specs.Trees.{Stream, Main, expr, number_form, set_form, name_form, many_form, next, nexts, designator, selectors, one_label, labels, type_expr, named_type, const_decl, vars_decl, statements}
use Rattle.m2_base.specs.declared.trees.operators.Operator.TheVariants.{In}
use Rattle.m2_base.proofs.UnitTerms.{ident, qual, stream, sorted_diags, sorted_answers}

abbrev tree_1 : Stream
tree_1 = stream Main false (Some (ident 28 1)) ([]) None ((vars_decl ((ident 29 4) ∷ []) (type_expr 6 (named_type (qual (ident 2 6) None)))) ∷ (const_decl (ident 30 9) (expr 11 (set_form (labels ((one_label (expr 12 (number_form 1))) ∷ (one_label (expr 14 (name_form (designator (ident 29 14) (selectors ([])))))) ∷ []))))) ∷ (const_decl (ident 31 17) (expr 19 (set_form (labels ((one_label (expr 20 (name_form (designator (ident 29 20) (selectors ([])))))) ∷ []))))) ∷ (const_decl (ident 32 23) (expr 25 (many_form (expr 25 (name_form (designator (ident 33 25) (selectors ([]))))) (nexts ((next In 26 (expr 27 (set_form (labels ((one_label (expr 28 (number_form 1))) ∷ []))))) ∷ []))))) ∷ (const_decl (ident 34 31) (expr 33 (set_form (labels ((one_label (expr 34 (number_form 1))) ∷ (one_label (expr 36 (name_form (designator (ident 33 36) (selectors ([])))))) ∷ []))))) ∷ []) (statements []) (ident 28 40)

abbrev rows_1 : List Row
rows_1 = ((numbers_row 29 4 3 (pos 1) (pos 0) (pos 0) (pos 0)) ∷ (numbers_row 30 9 1 (pos 10) (pos 0) (pos 0) (pos 0)) ∷ (numbers_row 31 17 1 (pos 10) (pos 0) (pos 0) (pos 0)) ∷ (numbers_row 32 23 1 (pos 10) (pos 0) (pos 0) (pos 0)) ∷ (numbers_row 34 31 1 (pos 10) (pos 0) (pos 0) (pos 0)) ∷ [])

abbrev unit : UnitTrees
unit = record {
  source = record { spellings = standard_names ++ ((65 ∷ []) ∷ (118 ∷ []) ∷ (115 ∷ []) ∷ (116 ∷ []) ∷ (117 ∷ []) ∷ (110 ∷ 105 ∷ 120 ∷ []) ∷ (119 ∷ []) ∷ []); definitions = ([]) };
  own = None;
  definitions = ([]);
  main = (tree_1 ∷ []);
}

pub rows_are : unit_rows unit ≡ standard_rows ∷ (rows_1 ∷ [])
unfolding unit_rows declare_block blocks_of standard_names
rows_are = refl

pub diagnostics_are : sorted_diags (declaration_diags unit) ≡ ((0 ∷ 11 ∷ 46 ∷ []) ∷ (0 ∷ 19 ∷ 46 ∷ []) ∷ (0 ∷ 25 ∷ 40 ∷ []) ∷ (0 ∷ 36 ∷ 40 ∷ []) ∷ [])
unfolding unit_rows declare_block blocks_of declaration_diags standard_names
diagnostics_are = refl

pub answers_are : sorted_answers (declaration_answers unit) ≡ ((14 ∷ 1 ∷ 0 ∷ []) ∷ (20 ∷ 1 ∷ 0 ∷ []) ∷ [])
unfolding unit_rows declare_block blocks_of declaration_answers standard_names
answers_are = refl
