-- A unit, with what its declarations give. Names are numbered from 28 on as they come here.
--
-- A.mod:
--     MODULE A; CONST a = 4294967295 + 1; b = 1 DIV 0; c = -4294967295; d = (-7) DIV 2; e = a + 1; END A.
use Rattle.std.specs.Prelude.{◌≡◌, pos, negsuc, false, List, [], ◌∷◌, ◌++◌, Some, None}
use Rattle.std.proofs.Common.{refl}
use Rattle.m2_base.specs.Names.{standard_names}
use Rattle.m2_base.specs.Rows.{Row, numbers_row}
use Rattle.m2_base.specs.Standard.{standard_rows}
use Rattle.m2_base.specs.Statics.BlockRows.{declare_block}
use Rattle.m2_base.specs.Statics.Blocks.{UnitTrees, blocks_of}
use Rattle.m2_base.specs.Statics.UnitNotes.{declaration_diags, declaration_answers}
use Rattle.m2_base.specs.Statics.UnitRows.{unit_rows}
use Rattle.m2_base.specs.Trees.{Stream, Main, expr, number_form, name_form, one_form, many_form, next, nexts, designator, selectors, const_decl, statements}
use Rattle.m2_base.specs.declared.trees.operators.Operator.TheVariants.{Plus, Minus, Div}
use Rattle.m2_base.proofs.UnitTerms.{ident, stream, sorted_diags, sorted_answers}

abbrev tree_1 : Stream
tree_1 = stream Main false (Some (ident 28 1)) ([]) None ((const_decl (ident 29 4) (expr 6 (many_form (expr 6 (number_form 4294967295)) (nexts ((next Plus 7 (expr 8 (number_form 1))) ∷ []))))) ∷ (const_decl (ident 30 10) (expr 12 (many_form (expr 12 (number_form 1)) (nexts ((next Div 13 (expr 14 (number_form 0))) ∷ []))))) ∷ (const_decl (ident 31 16) (expr 18 (one_form Minus 18 (expr 19 (number_form 4294967295))))) ∷ (const_decl (ident 32 21) (expr 23 (many_form (expr 23 (one_form Minus 24 (expr 25 (number_form 7)))) (nexts ((next Div 27 (expr 28 (number_form 2))) ∷ []))))) ∷ (const_decl (ident 33 30) (expr 32 (many_form (expr 32 (name_form (designator (ident 29 32) (selectors ([]))))) (nexts ((next Plus 33 (expr 34 (number_form 1))) ∷ []))))) ∷ []) (statements []) (ident 28 37)

abbrev rows_1 : List Row
rows_1 = ((numbers_row 29 4 1 (pos 10) (pos 0) (pos 0) (pos 0)) ∷ (numbers_row 30 10 1 (pos 10) (pos 0) (pos 0) (pos 0)) ∷ (numbers_row 31 16 1 (pos 10) (pos 0) (pos 0) (pos 0)) ∷ (numbers_row 32 21 1 (pos 9) (negsuc 3) (pos 0) (pos 0)) ∷ (numbers_row 33 30 1 (pos 10) (pos 0) (pos 0) (pos 0)) ∷ [])

abbrev unit : UnitTrees
unit = record {
  source = record { spellings = standard_names ++ ((65 ∷ []) ∷ (97 ∷ []) ∷ (98 ∷ []) ∷ (99 ∷ []) ∷ (100 ∷ []) ∷ (101 ∷ []) ∷ []); definitions = ([]) };
  own = None;
  definitions = ([]);
  main = (tree_1 ∷ []);
}

pub rows_are : unit_rows unit ≡ standard_rows ∷ (rows_1 ∷ [])
unfolding unit_rows declare_block blocks_of standard_names
rows_are = refl

pub diagnostics_are : sorted_diags (declaration_diags unit) ≡ ((0 ∷ 7 ∷ 47 ∷ []) ∷ (0 ∷ 13 ∷ 47 ∷ []) ∷ (0 ∷ 18 ∷ 47 ∷ []) ∷ [])
unfolding unit_rows declare_block blocks_of declaration_diags standard_names
diagnostics_are = refl

pub answers_are : sorted_answers (declaration_answers unit) ≡ ((32 ∷ 1 ∷ 0 ∷ []) ∷ [])
unfolding unit_rows declare_block blocks_of declaration_answers standard_names
answers_are = refl
