-- A unit, with what its declarations give. Names are numbered from 28 on as they come here.
--
-- M.mod:
--     MODULE M; FROM E IMPORT Other, amber; IMPORT C; FROM D IMPORT k; TYPE T = [green..one]; VAR x0: Other; VAR x1:
--     C.Tint; VAR one: Other; BEGIN one := amber; IF x1 = two THEN x1 := two END; one := VAL(Other, 0); one := blue
--     END M.
--
-- E.def:
--     DEFINITION MODULE E; IMPORT C; FROM D IMPORT k; TYPE Other = (two, green); VAR v: Other; END E.
--
-- C.def:
--     DEFINITION MODULE C; TYPE Color = (blue, two, one); TYPE Tint = SET OF Color; VAR v: Tint; END C.
--
-- D.def:
--     DEFINITION MODULE D; FROM C IMPORT Tint; CONST k = 1; END D.
use Rattle.std.specs.Prelude.{◌≡◌, pos, false, List, [], ◌∷◌, ◌++◌, Some, None}
use Rattle.std.proofs.Common.{refl}
use Rattle.m2_base.specs.Names.{standard_names}
use Rattle.m2_base.specs.Rows.{Row, numbers_row}
use Rattle.m2_base.specs.Standard.{standard_rows}
use Rattle.m2_base.specs.Statics.BlockRows.{declare_block}
use Rattle.m2_base.specs.Statics.Blocks.{UnitTrees, blocks_of}
use Rattle.m2_base.specs.Statics.UnitNotes.{declaration_diags, declaration_answers}
use Rattle.m2_base.specs.Statics.UnitRows.{unit_rows}
use Rattle.m2_base.specs.Trees.{Stream, Main, Definition, expr, number_form, name_form, designator, selectors, type_expr, named_type, enum_type, sub_type, set_type, const_decl, type_decl, vars_decl, statements}
use Rattle.m2_base.proofs.UnitTerms.{ident, qual, an_import, stream, definition_module, sorted_diags, sorted_answers}

abbrev tree_1 : Stream
tree_1 = stream Definition false (Some (ident 31 2)) ([]) None ((type_decl (ident 35 5) (Some (type_expr 7 (enum_type ((ident 36 8) ∷ (ident 37 10) ∷ (ident 38 12) ∷ []))))) ∷ (type_decl (ident 34 16) (Some (type_expr 18 (set_type (type_expr 20 (named_type (qual (ident 35 20) None))))))) ∷ (vars_decl ((ident 39 23) ∷ []) (type_expr 25 (named_type (qual (ident 34 25) None)))) ∷ []) (statements []) (ident 31 28)

abbrev tree_2 : Stream
tree_2 = stream Definition false (Some (ident 32 2)) ((an_import (Some (ident 31 5)) ((ident 34 7) ∷ [])) ∷ []) None ((const_decl (ident 33 10) (expr 12 (number_form 1))) ∷ []) (statements []) (ident 32 15)

abbrev tree_3 : Stream
tree_3 = stream Definition false (Some (ident 28 2)) ((an_import None ((ident 31 5) ∷ [])) ∷ (an_import (Some (ident 32 8)) ((ident 33 10) ∷ [])) ∷ []) None ((type_decl (ident 29 13) (Some (type_expr 15 (enum_type ((ident 37 16) ∷ (ident 40 18) ∷ []))))) ∷ (vars_decl ((ident 39 22) ∷ []) (type_expr 24 (named_type (qual (ident 29 24) None)))) ∷ []) (statements []) (ident 28 27)

abbrev tree_4 : Stream
tree_4 = stream Main false (Some (ident 41 1)) ((an_import (Some (ident 28 4)) ((ident 29 6) ∷ (ident 30 8) ∷ [])) ∷ (an_import None ((ident 31 11) ∷ [])) ∷ (an_import (Some (ident 32 14)) ((ident 33 16) ∷ [])) ∷ []) None ((type_decl (ident 42 19) (Some (type_expr 21 (sub_type None (expr 22 (name_form (designator (ident 40 22) (selectors ([]))))) (expr 24 (name_form (designator (ident 38 24) (selectors ([]))))))))) ∷ (vars_decl ((ident 43 28) ∷ []) (type_expr 30 (named_type (qual (ident 29 30) None)))) ∷ (vars_decl ((ident 44 33) ∷ []) (type_expr 35 (named_type (qual (ident 31 35) (Some (ident 34 37)))))) ∷ (vars_decl ((ident 38 40) ∷ []) (type_expr 42 (named_type (qual (ident 29 42) None)))) ∷ []) (statements []) (ident 41 72)

abbrev rows_1 : List Row
rows_1 = ((numbers_row 0 7 11 (pos 3) (pos 0) (pos 0) (pos 0)) ∷ (numbers_row 36 8 1 (pos 4294967296) (pos 0) (pos 0) (pos 0)) ∷ (numbers_row 37 10 1 (pos 4294967296) (pos 1) (pos 0) (pos 0)) ∷ (numbers_row 38 12 1 (pos 4294967296) (pos 2) (pos 0) (pos 0)) ∷ (numbers_row 35 5 2 (pos 4294967296) (pos 0) (pos 0) (pos 0)) ∷ (numbers_row 0 18 16 (pos 4294967296) (pos 0) (pos 0) (pos 0)) ∷ (numbers_row 34 16 2 (pos 4294967301) (pos 0) (pos 0) (pos 0)) ∷ (numbers_row 39 23 3 (pos 4294967301) (pos 0) (pos 0) (pos 0)) ∷ [])

abbrev rows_2 : List Row
rows_2 = ((numbers_row 34 7 6 (pos 4294967302) (pos 0) (pos 0) (pos 0)) ∷ (numbers_row 33 10 1 (pos 9) (pos 1) (pos 0) (pos 0)) ∷ [])

abbrev rows_3 : List Row
rows_3 = ((numbers_row 31 5 5 (pos 1) (pos 0) (pos 0) (pos 0)) ∷ (numbers_row 33 10 6 (pos 8589934593) (pos 0) (pos 0) (pos 0)) ∷ (numbers_row 0 15 11 (pos 2) (pos 0) (pos 0) (pos 0)) ∷ (numbers_row 37 16 1 (pos 12884901890) (pos 0) (pos 0) (pos 0)) ∷ (numbers_row 40 18 1 (pos 12884901890) (pos 1) (pos 0) (pos 0)) ∷ (numbers_row 29 13 2 (pos 12884901890) (pos 0) (pos 0) (pos 0)) ∷ (numbers_row 39 22 3 (pos 12884901890) (pos 0) (pos 0) (pos 0)) ∷ [])

abbrev rows_4 : List Row
rows_4 = ((numbers_row 29 6 6 (pos 12884901893) (pos 0) (pos 0) (pos 0)) ∷ (numbers_row 37 6 6 (pos 12884901891) (pos 0) (pos 0) (pos 0)) ∷ (numbers_row 40 6 6 (pos 12884901892) (pos 0) (pos 0) (pos 0)) ∷ (numbers_row 30 8 6 (pos 10) (pos 0) (pos 0) (pos 0)) ∷ (numbers_row 31 11 5 (pos 1) (pos 0) (pos 0) (pos 0)) ∷ (numbers_row 33 16 6 (pos 8589934593) (pos 0) (pos 0) (pos 0)) ∷ (numbers_row 0 21 12 (pos 10) (pos 0) (pos 0) (pos 0)) ∷ (numbers_row 42 19 2 (pos 10) (pos 0) (pos 0) (pos 0)) ∷ (numbers_row 43 28 3 (pos 12884901890) (pos 0) (pos 0) (pos 0)) ∷ (numbers_row 44 33 3 (pos 4294967301) (pos 0) (pos 1) (pos 0)) ∷ (numbers_row 38 40 3 (pos 12884901890) (pos 0) (pos 2) (pos 0)) ∷ [])

abbrev unit : UnitTrees
unit = record {
  source = record { spellings = standard_names ++ ((69 ∷ []) ∷ (79 ∷ 116 ∷ 104 ∷ 101 ∷ 114 ∷ []) ∷ (97 ∷ 109 ∷ 98 ∷ 101 ∷ 114 ∷ []) ∷ (67 ∷ []) ∷ (68 ∷ []) ∷ (107 ∷ []) ∷ (84 ∷ 105 ∷ 110 ∷ 116 ∷ []) ∷ (67 ∷ 111 ∷ 108 ∷ 111 ∷ 114 ∷ []) ∷ (98 ∷ 108 ∷ 117 ∷ 101 ∷ []) ∷ (116 ∷ 119 ∷ 111 ∷ []) ∷ (111 ∷ 110 ∷ 101 ∷ []) ∷ (118 ∷ []) ∷ (103 ∷ 114 ∷ 101 ∷ 101 ∷ 110 ∷ []) ∷ (77 ∷ []) ∷ (84 ∷ []) ∷ (120 ∷ 48 ∷ []) ∷ (120 ∷ 49 ∷ []) ∷ []); definitions = ((definition_module 31 2) ∷ (definition_module 32 3) ∷ (definition_module 28 1) ∷ []) };
  own = None;
  definitions = (tree_1 ∷ tree_2 ∷ tree_3 ∷ []);
  main = (tree_4 ∷ []);
}

pub rows_are : unit_rows unit ≡ standard_rows ∷ (rows_1 ∷ rows_2 ∷ rows_3 ∷ rows_4 ∷ [])
unfolding unit_rows declare_block blocks_of standard_names
rows_are = refl

pub diagnostics_are : sorted_diags (declaration_diags unit) ≡ ((0 ∷ 8 ∷ 44 ∷ []) ∷ (0 ∷ 24 ∷ 41 ∷ []) ∷ [])
unfolding unit_rows declare_block blocks_of declaration_diags standard_names
diagnostics_are = refl

pub answers_are : sorted_answers (declaration_answers unit) ≡ ((6 ∷ 3 ∷ 5 ∷ []) ∷ (7 ∷ 1 ∷ 6 ∷ []) ∷ (10 ∷ 2 ∷ 1 ∷ []) ∷ (16 ∷ 2 ∷ 1 ∷ []) ∷ (20 ∷ 1 ∷ 4 ∷ []) ∷ (22 ∷ 4 ∷ 2 ∷ []) ∷ (24 ∷ 3 ∷ 5 ∷ []) ∷ (25 ∷ 1 ∷ 6 ∷ []) ∷ (30 ∷ 4 ∷ 0 ∷ []) ∷ (35 ∷ 4 ∷ 4 ∷ []) ∷ (37 ∷ 1 ∷ 6 ∷ []) ∷ (42 ∷ 4 ∷ 0 ∷ []) ∷ [])
unfolding unit_rows declare_block blocks_of declaration_answers standard_names
answers_are = refl
