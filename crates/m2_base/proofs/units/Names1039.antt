-- A unit, with what its declarations give. Names are numbered from 28 on as they come here.
--
-- M.mod:
--     MODULE M; FROM D IMPORT Few; FROM C IMPORT green, Other, v, Color; FROM E IMPORT Color, amber, k; CONST red =
--     ORD(amber); TYPE T = [one..two]; VAR x0: Few; BEGIN x0 := VAL(Other, 0); FOR x0 := blue TO blue DO END END M.
--
-- D.def:
--     DEFINITION MODULE D; TYPE Few = (amber, red, green, one); TYPE Other = Few; END D.
--
-- C.def:
--     DEFINITION MODULE C; TYPE Color = (blue, amber, one); TYPE Other = (green, blue); VAR v: Other; END C.
--
-- E.def:
--     DEFINITION MODULE E; TYPE Color = (blue, green); CONST k = 1; END E.
use Rattle.std.specs.Prelude.{◌≡◌, pos, false, List, [], ◌∷◌, ◌++◌, Some, None}
use Rattle.std.proofs.Common.{refl}
use Rattle.m2_base.specs.Names.{standard_names}
use Rattle.m2_base.specs.Rows.{Row, numbers_row}
use Rattle.m2_base.specs.Standard.{standard_rows}
use Rattle.m2_base.specs.Statics.BlockRows.{declare_block}
use Rattle.m2_base.specs.Statics.Blocks.{UnitTrees, blocks_of}
use Rattle.m2_base.specs.Statics.UnitNotes.{declaration_diags, declaration_answers}
use Rattle.m2_base.specs.Statics.UnitRows.{unit_rows}
use Rattle.m2_base.specs.Trees.{Stream, Main, Definition, expr, number_form, name_form, call_form, exprs, designator, selectors, type_expr, named_type, enum_type, sub_type, const_decl, type_decl, vars_decl, statements}
use Rattle.m2_base.proofs.UnitTerms.{ident, qual, an_import, stream, definition_module, sorted_diags, sorted_answers}

abbrev tree_1 : Stream
tree_1 = stream Definition false (Some (ident 28 2)) ([]) None ((type_decl (ident 29 5) (Some (type_expr 7 (enum_type ((ident 36 8) ∷ (ident 38 10) ∷ (ident 31 12) ∷ (ident 39 14) ∷ []))))) ∷ (type_decl (ident 32 18) (Some (type_expr 20 (named_type (qual (ident 29 20) None))))) ∷ []) (statements []) (ident 28 23)

abbrev tree_2 : Stream
tree_2 = stream Definition false (Some (ident 30 2)) ([]) None ((type_decl (ident 34 5) (Some (type_expr 7 (enum_type ((ident 40 8) ∷ (ident 36 10) ∷ (ident 39 12) ∷ []))))) ∷ (type_decl (ident 32 16) (Some (type_expr 18 (enum_type ((ident 31 19) ∷ (ident 40 21) ∷ []))))) ∷ (vars_decl ((ident 33 25) ∷ []) (type_expr 27 (named_type (qual (ident 32 27) None)))) ∷ []) (statements []) (ident 30 30)

abbrev tree_3 : Stream
tree_3 = stream Definition false (Some (ident 35 2)) ([]) None ((type_decl (ident 34 5) (Some (type_expr 7 (enum_type ((ident 40 8) ∷ (ident 31 10) ∷ []))))) ∷ (const_decl (ident 37 14) (expr 16 (number_form 1))) ∷ []) (statements []) (ident 35 19)

abbrev tree_4 : Stream
tree_4 = stream Main false (Some (ident 41 1)) ((an_import (Some (ident 28 4)) ((ident 29 6) ∷ [])) ∷ (an_import (Some (ident 30 9)) ((ident 31 11) ∷ (ident 32 13) ∷ (ident 33 15) ∷ (ident 34 17) ∷ [])) ∷ (an_import (Some (ident 35 20)) ((ident 34 22) ∷ (ident 36 24) ∷ (ident 37 26) ∷ [])) ∷ []) None ((const_decl (ident 38 29) (expr 31 (call_form (designator (ident 24 31) (selectors ([]))) (exprs ((expr 33 (name_form (designator (ident 36 33) (selectors ([]))))) ∷ []))))) ∷ (type_decl (ident 42 37) (Some (type_expr 39 (sub_type None (expr 40 (name_form (designator (ident 39 40) (selectors ([]))))) (expr 42 (name_form (designator (ident 43 42) (selectors ([]))))))))) ∷ (vars_decl ((ident 44 46) ∷ []) (type_expr 48 (named_type (qual (ident 29 48) None)))) ∷ []) (statements []) (ident 41 69)

abbrev rows_1 : List Row
rows_1 = ((numbers_row 0 7 11 (pos 4) (pos 0) (pos 0) (pos 0)) ∷ (numbers_row 36 8 1 (pos 4294967296) (pos 0) (pos 0) (pos 0)) ∷ (numbers_row 38 10 1 (pos 4294967296) (pos 1) (pos 0) (pos 0)) ∷ (numbers_row 31 12 1 (pos 4294967296) (pos 2) (pos 0) (pos 0)) ∷ (numbers_row 39 14 1 (pos 4294967296) (pos 3) (pos 0) (pos 0)) ∷ (numbers_row 29 5 2 (pos 4294967296) (pos 0) (pos 0) (pos 0)) ∷ (numbers_row 32 18 2 (pos 4294967296) (pos 0) (pos 0) (pos 0)) ∷ [])

abbrev rows_2 : List Row
rows_2 = ((numbers_row 0 7 11 (pos 3) (pos 0) (pos 0) (pos 0)) ∷ (numbers_row 40 8 1 (pos 8589934592) (pos 0) (pos 0) (pos 0)) ∷ (numbers_row 36 10 1 (pos 8589934592) (pos 1) (pos 0) (pos 0)) ∷ (numbers_row 39 12 1 (pos 8589934592) (pos 2) (pos 0) (pos 0)) ∷ (numbers_row 34 5 2 (pos 8589934592) (pos 0) (pos 0) (pos 0)) ∷ (numbers_row 0 18 11 (pos 2) (pos 0) (pos 0) (pos 0)) ∷ (numbers_row 31 19 1 (pos 8589934597) (pos 0) (pos 0) (pos 0)) ∷ (numbers_row 0 21 1 (pos 8589934597) (pos 1) (pos 0) (pos 0)) ∷ (numbers_row 32 16 2 (pos 8589934597) (pos 0) (pos 0) (pos 0)) ∷ (numbers_row 33 25 3 (pos 8589934597) (pos 0) (pos 0) (pos 0)) ∷ [])

abbrev rows_3 : List Row
rows_3 = ((numbers_row 0 7 11 (pos 2) (pos 0) (pos 0) (pos 0)) ∷ (numbers_row 40 8 1 (pos 12884901888) (pos 0) (pos 0) (pos 0)) ∷ (numbers_row 31 10 1 (pos 12884901888) (pos 1) (pos 0) (pos 0)) ∷ (numbers_row 34 5 2 (pos 12884901888) (pos 0) (pos 0) (pos 0)) ∷ (numbers_row 37 14 1 (pos 9) (pos 1) (pos 0) (pos 0)) ∷ [])

abbrev rows_4 : List Row
rows_4 = ((numbers_row 29 6 6 (pos 4294967301) (pos 0) (pos 0) (pos 0)) ∷ (numbers_row 36 6 6 (pos 4294967297) (pos 0) (pos 0) (pos 0)) ∷ (numbers_row 38 6 6 (pos 4294967298) (pos 0) (pos 0) (pos 0)) ∷ (numbers_row 31 6 6 (pos 4294967299) (pos 0) (pos 0) (pos 0)) ∷ (numbers_row 39 6 6 (pos 4294967300) (pos 0) (pos 0) (pos 0)) ∷ (numbers_row 0 11 6 (pos 8589934598) (pos 0) (pos 0) (pos 0)) ∷ (numbers_row 32 13 6 (pos 8589934600) (pos 0) (pos 0) (pos 0)) ∷ (numbers_row 33 15 6 (pos 8589934601) (pos 0) (pos 0) (pos 0)) ∷ (numbers_row 34 17 6 (pos 8589934596) (pos 0) (pos 0) (pos 0)) ∷ (numbers_row 40 17 6 (pos 8589934593) (pos 0) (pos 0) (pos 0)) ∷ (numbers_row 0 22 6 (pos 12884901891) (pos 0) (pos 0) (pos 0)) ∷ (numbers_row 0 24 6 (pos 10) (pos 0) (pos 0) (pos 0)) ∷ (numbers_row 37 26 6 (pos 12884901892) (pos 0) (pos 0) (pos 0)) ∷ (numbers_row 0 29 1 (pos 1) (pos 0) (pos 0) (pos 0)) ∷ (numbers_row 0 39 12 (pos 10) (pos 0) (pos 0) (pos 0)) ∷ (numbers_row 42 37 2 (pos 10) (pos 0) (pos 0) (pos 0)) ∷ (numbers_row 44 46 3 (pos 4294967296) (pos 0) (pos 0) (pos 0)) ∷ [])

abbrev unit : UnitTrees
unit = record {
  source = record { spellings = standard_names ++ ((68 ∷ []) ∷ (70 ∷ 101 ∷ 119 ∷ []) ∷ (67 ∷ []) ∷ (103 ∷ 114 ∷ 101 ∷ 101 ∷ 110 ∷ []) ∷ (79 ∷ 116 ∷ 104 ∷ 101 ∷ 114 ∷ []) ∷ (118 ∷ []) ∷ (67 ∷ 111 ∷ 108 ∷ 111 ∷ 114 ∷ []) ∷ (69 ∷ []) ∷ (97 ∷ 109 ∷ 98 ∷ 101 ∷ 114 ∷ []) ∷ (107 ∷ []) ∷ (114 ∷ 101 ∷ 100 ∷ []) ∷ (111 ∷ 110 ∷ 101 ∷ []) ∷ (98 ∷ 108 ∷ 117 ∷ 101 ∷ []) ∷ (77 ∷ []) ∷ (84 ∷ []) ∷ (116 ∷ 119 ∷ 111 ∷ []) ∷ (120 ∷ 48 ∷ []) ∷ []); definitions = ((definition_module 28 1) ∷ (definition_module 30 2) ∷ (definition_module 35 3) ∷ []) };
  own = None;
  definitions = (tree_1 ∷ tree_2 ∷ tree_3 ∷ []);
  main = (tree_4 ∷ []);
}

pub rows_are : unit_rows unit ≡ standard_rows ∷ (rows_1 ∷ rows_2 ∷ rows_3 ∷ rows_4 ∷ [])
unfolding unit_rows declare_block blocks_of standard_names
rows_are = refl

pub diagnostics_are : sorted_diags (declaration_diags unit) ≡ ((0 ∷ 11 ∷ 42 ∷ []) ∷ (0 ∷ 13 ∷ 42 ∷ []) ∷ (0 ∷ 17 ∷ 42 ∷ []) ∷ (0 ∷ 22 ∷ 42 ∷ []) ∷ (0 ∷ 24 ∷ 44 ∷ []) ∷ (0 ∷ 29 ∷ 42 ∷ []) ∷ (0 ∷ 42 ∷ 40 ∷ []) ∷ (2 ∷ 21 ∷ 42 ∷ []) ∷ [])
unfolding unit_rows declare_block blocks_of declaration_diags standard_names
diagnostics_are = refl

pub answers_are : sorted_answers (declaration_answers unit) ≡ ((6 ∷ 1 ∷ 5 ∷ []) ∷ (11 ∷ 2 ∷ 6 ∷ []) ∷ (13 ∷ 2 ∷ 8 ∷ []) ∷ (15 ∷ 2 ∷ 9 ∷ []) ∷ (17 ∷ 2 ∷ 4 ∷ []) ∷ (20 ∷ 1 ∷ 5 ∷ []) ∷ (22 ∷ 3 ∷ 3 ∷ []) ∷ (26 ∷ 3 ∷ 4 ∷ []) ∷ (27 ∷ 2 ∷ 8 ∷ []) ∷ (33 ∷ 4 ∷ 1 ∷ []) ∷ (40 ∷ 4 ∷ 4 ∷ []) ∷ (48 ∷ 4 ∷ 0 ∷ []) ∷ [])
unfolding unit_rows declare_block blocks_of declaration_answers standard_names
answers_are = refl
