-- A unit, with what its declarations give. Names are numbered from 28 on as they come here.
--
-- A.mod:
--     MODULE A; TYPE T = [VAL(INTEGER, 3)..7]; U = [-2..VAL(CARDINAL, 7)]; V = [VAL(CARDINAL, 1)..4294967295]; W =
--     ["a"..1]; X = [0..{1}]; END A.
use Rattle.std.specs.Prelude.{◌≡◌, pos, false, List, [], ◌∷◌, ◌++◌, Some, None}
use Rattle.std.proofs.Common.{refl}
use Rattle.m2_base.specs.Names.{standard_names}
use Rattle.m2_base.specs.Rows.{Row, numbers_row}
use Rattle.m2_base.specs.Standard.{standard_rows}
use Rattle.m2_base.specs.Statics.BlockRows.{declare_block}
use Rattle.m2_base.specs.Statics.Blocks.{UnitTrees, blocks_of}
use Rattle.m2_base.specs.Statics.UnitNotes.{declaration_diags, declaration_answers}
use Rattle.m2_base.specs.Statics.UnitRows.{unit_rows}
use Rattle.m2_base.specs.Trees.{Stream, Main, expr, number_form, string_form, set_form, name_form, call_form, one_form, exprs, designator, selectors, one_label, labels, type_expr, sub_type, type_decl, statements}
use Rattle.m2_base.specs.declared.trees.operators.Operator.TheVariants.{Minus}
use Rattle.m2_base.proofs.UnitTerms.{ident, stream, sorted_diags, sorted_answers}

abbrev tree_1 : Stream
tree_1 = stream Main false (Some (ident 28 1)) ([]) None ((type_decl (ident 29 4) (Some (type_expr 6 (sub_type None (expr 7 (call_form (designator (ident 26 7) (selectors ([]))) (exprs ((expr 9 (name_form (designator (ident 1 9) (selectors ([]))))) ∷ (expr 11 (number_form 3)) ∷ [])))) (expr 14 (number_form 7)))))) ∷ (type_decl (ident 30 17) (Some (type_expr 19 (sub_type None (expr 20 (one_form Minus 20 (expr 21 (number_form 2)))) (expr 23 (call_form (designator (ident 26 23) (selectors ([]))) (exprs ((expr 25 (name_form (designator (ident 2 25) (selectors ([]))))) ∷ (expr 27 (number_form 7)) ∷ [])))))))) ∷ (type_decl (ident 31 31) (Some (type_expr 33 (sub_type None (expr 34 (call_form (designator (ident 26 34) (selectors ([]))) (exprs ((expr 36 (name_form (designator (ident 2 36) (selectors ([]))))) ∷ (expr 38 (number_form 1)) ∷ [])))) (expr 41 (number_form 4294967295)))))) ∷ (type_decl (ident 32 44) (Some (type_expr 46 (sub_type None (expr 47 (string_form 33)) (expr 49 (number_form 1)))))) ∷ (type_decl (ident 34 52) (Some (type_expr 54 (sub_type None (expr 55 (number_form 0)) (expr 57 (set_form (labels ((one_label (expr 58 (number_form 1))) ∷ [])))))))) ∷ []) (statements []) (ident 28 63)

abbrev rows_1 : List Row
rows_1 = ((numbers_row 0 6 12 (pos 0) (pos 3) (pos 7) (pos 0)) ∷ (numbers_row 29 4 2 (pos 4294967296) (pos 0) (pos 0) (pos 0)) ∷ (numbers_row 0 19 12 (pos 10) (pos 0) (pos 0) (pos 0)) ∷ (numbers_row 30 17 2 (pos 10) (pos 0) (pos 0) (pos 0)) ∷ (numbers_row 0 33 12 (pos 1) (pos 1) (pos 4294967295) (pos 0)) ∷ (numbers_row 31 31 2 (pos 4294967300) (pos 0) (pos 0) (pos 0)) ∷ (numbers_row 0 46 12 (pos 10) (pos 0) (pos 0) (pos 0)) ∷ (numbers_row 32 44 2 (pos 10) (pos 0) (pos 0) (pos 0)) ∷ (numbers_row 0 54 12 (pos 10) (pos 0) (pos 0) (pos 0)) ∷ (numbers_row 34 52 2 (pos 10) (pos 0) (pos 0) (pos 0)) ∷ [])

abbrev unit : UnitTrees
unit = record {
  source = record { spellings = standard_names ++ ((65 ∷ []) ∷ (84 ∷ []) ∷ (85 ∷ []) ∷ (86 ∷ []) ∷ (87 ∷ []) ∷ (97 ∷ []) ∷ (88 ∷ []) ∷ []); definitions = ([]) };
  own = None;
  definitions = ([]);
  main = (tree_1 ∷ []);
}

pub rows_are : unit_rows unit ≡ standard_rows ∷ (rows_1 ∷ [])
unfolding unit_rows declare_block blocks_of standard_names
rows_are = refl

pub diagnostics_are : sorted_diags (declaration_diags unit) ≡ ((0 ∷ 20 ∷ 47 ∷ []) ∷ (0 ∷ 49 ∷ 49 ∷ []) ∷ (0 ∷ 57 ∷ 49 ∷ []) ∷ [])
unfolding unit_rows declare_block blocks_of declaration_diags standard_names
diagnostics_are = refl

pub answers_are : sorted_answers (declaration_answers unit) ≡ ([])
unfolding unit_rows declare_block blocks_of declaration_answers standard_names
answers_are = refl
