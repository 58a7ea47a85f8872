-- A unit, with what its declarations give. Names are numbered from 28 on as they come here.
--
-- M.mod:
--     MODULE M; FROM C IMPORT Other, Color; FROM D IMPORT Few, k; FROM E IMPORT Few; TYPE T = [blue..red]; VAR x0:
--     Color; VAR x1: Few; VAR x2: Few; BEGIN x1 := VAL(Other, 0); x0 := VAL(Other, 0) END M.
--
-- C.def:
--     DEFINITION MODULE C; TYPE Color = (amber, two); TYPE Other = Color; END C.
--
-- D.def:
--     DEFINITION MODULE D; FROM C IMPORT Color; TYPE Few = (blue, amber); CONST k = red; END D.
--
-- E.def:
--     DEFINITION MODULE E; IMPORT C; TYPE Color = (amber, green, two); TYPE Few = (amber, red, green, one); VAR v:
--     Few; END E.
use Rattle.std.specs.Prelude.{◌≡◌, pos, false, List, [], ◌∷◌, ◌++◌, Some, None}
use Rattle.std.proofs.Common.{refl}
use Rattle.m2_base.specs.Names.{standard_names}
use Rattle.m2_base.specs.Rows.{Row, numbers_row}
use Rattle.m2_base.specs.Standard.{standard_rows}
use Rattle.m2_base.specs.Statics.BlockRows.{declare_block}
use Rattle.m2_base.specs.Statics.Blocks.{UnitTrees, blocks_of}
use Rattle.m2_base.specs.Statics.UnitNotes.{declaration_diags, declaration_answers}
use Rattle.m2_base.specs.Statics.UnitRows.{unit_rows}
use Rattle.m2_base.specs.Trees.{Stream, Main, Definition, expr, name_form, designator, selectors, type_expr, named_type, enum_type, sub_type, const_decl, type_decl, vars_decl, statements}
use Rattle.m2_base.proofs.UnitTerms.{ident, qual, an_import, stream, definition_module, sorted_diags, sorted_answers}

abbrev tree_1 : Stream
tree_1 = stream Definition false (Some (ident 28 2)) ([]) None ((type_decl (ident 30 5) (Some (type_expr 7 (enum_type ((ident 35 8) ∷ (ident 36 10) ∷ []))))) ∷ (type_decl (ident 29 14) (Some (type_expr 16 (named_type (qual (ident 30 16) None))))) ∷ []) (statements []) (ident 28 19)

abbrev tree_2 : Stream
tree_2 = stream Definition false (Some (ident 31 2)) ((an_import (Some (ident 28 5)) ((ident 30 7) ∷ [])) ∷ []) None ((type_decl (ident 32 10) (Some (type_expr 12 (enum_type ((ident 37 13) ∷ (ident 35 15) ∷ []))))) ∷ (const_decl (ident 33 19) (expr 21 (name_form (designator (ident 38 21) (selectors ([])))))) ∷ []) (statements []) (ident 31 24)

abbrev tree_3 : Stream
tree_3 = stream Definition false (Some (ident 34 2)) ((an_import None ((ident 28 5) ∷ [])) ∷ []) None ((type_decl (ident 30 8) (Some (type_expr 10 (enum_type ((ident 35 11) ∷ (ident 39 13) ∷ (ident 36 15) ∷ []))))) ∷ (type_decl (ident 32 19) (Some (type_expr 21 (enum_type ((ident 35 22) ∷ (ident 38 24) ∷ (ident 39 26) ∷ (ident 40 28) ∷ []))))) ∷ (vars_decl ((ident 41 32) ∷ []) (type_expr 34 (named_type (qual (ident 32 34) None)))) ∷ []) (statements []) (ident 34 37)

abbrev tree_4 : Stream
tree_4 = stream Main false (Some (ident 42 1)) ((an_import (Some (ident 28 4)) ((ident 29 6) ∷ (ident 30 8) ∷ [])) ∷ (an_import (Some (ident 31 11)) ((ident 32 13) ∷ (ident 33 15) ∷ [])) ∷ (an_import (Some (ident 34 18)) ((ident 32 20) ∷ [])) ∷ []) None ((type_decl (ident 43 23) (Some (type_expr 25 (sub_type None (expr 26 (name_form (designator (ident 37 26) (selectors ([]))))) (expr 28 (name_form (designator (ident 38 28) (selectors ([]))))))))) ∷ (vars_decl ((ident 44 32) ∷ []) (type_expr 34 (named_type (qual (ident 30 34) None)))) ∷ (vars_decl ((ident 45 37) ∷ []) (type_expr 39 (named_type (qual (ident 32 39) None)))) ∷ (vars_decl ((ident 46 42) ∷ []) (type_expr 44 (named_type (qual (ident 32 44) None)))) ∷ []) (statements []) (ident 42 65)

abbrev rows_1 : List Row
rows_1 = ((numbers_row 0 7 11 (pos 2) (pos 0) (pos 0) (pos 0)) ∷ (numbers_row 35 8 1 (pos 4294967296) (pos 0) (pos 0) (pos 0)) ∷ (numbers_row 36 10 1 (pos 4294967296) (pos 1) (pos 0) (pos 0)) ∷ (numbers_row 30 5 2 (pos 4294967296) (pos 0) (pos 0) (pos 0)) ∷ (numbers_row 29 14 2 (pos 4294967296) (pos 0) (pos 0) (pos 0)) ∷ [])

abbrev rows_2 : List Row
rows_2 = ((numbers_row 30 7 6 (pos 4294967299) (pos 0) (pos 0) (pos 0)) ∷ (numbers_row 35 7 6 (pos 4294967297) (pos 0) (pos 0) (pos 0)) ∷ (numbers_row 36 7 6 (pos 4294967298) (pos 0) (pos 0) (pos 0)) ∷ (numbers_row 0 12 11 (pos 2) (pos 0) (pos 0) (pos 0)) ∷ (numbers_row 37 13 1 (pos 8589934595) (pos 0) (pos 0) (pos 0)) ∷ (numbers_row 0 15 1 (pos 8589934595) (pos 1) (pos 0) (pos 0)) ∷ (numbers_row 32 10 2 (pos 8589934595) (pos 0) (pos 0) (pos 0)) ∷ (numbers_row 33 19 1 (pos 10) (pos 0) (pos 0) (pos 0)) ∷ [])

abbrev rows_3 : List Row
rows_3 = ((numbers_row 28 5 5 (pos 1) (pos 0) (pos 0) (pos 0)) ∷ (numbers_row 0 10 11 (pos 3) (pos 0) (pos 0) (pos 0)) ∷ (numbers_row 35 11 1 (pos 12884901889) (pos 0) (pos 0) (pos 0)) ∷ (numbers_row 39 13 1 (pos 12884901889) (pos 1) (pos 0) (pos 0)) ∷ (numbers_row 36 15 1 (pos 12884901889) (pos 2) (pos 0) (pos 0)) ∷ (numbers_row 30 8 2 (pos 12884901889) (pos 0) (pos 0) (pos 0)) ∷ (numbers_row 0 21 11 (pos 4) (pos 0) (pos 0) (pos 0)) ∷ (numbers_row 0 22 1 (pos 12884901894) (pos 0) (pos 0) (pos 0)) ∷ (numbers_row 38 24 1 (pos 12884901894) (pos 1) (pos 0) (pos 0)) ∷ (numbers_row 0 26 1 (pos 12884901894) (pos 2) (pos 0) (pos 0)) ∷ (numbers_row 40 28 1 (pos 12884901894) (pos 3) (pos 0) (pos 0)) ∷ (numbers_row 32 19 2 (pos 12884901894) (pos 0) (pos 0) (pos 0)) ∷ (numbers_row 41 32 3 (pos 12884901894) (pos 0) (pos 0) (pos 0)) ∷ [])

abbrev rows_4 : List Row
rows_4 = ((numbers_row 29 6 6 (pos 4294967300) (pos 0) (pos 0) (pos 0)) ∷ (numbers_row 35 6 6 (pos 4294967297) (pos 0) (pos 0) (pos 0)) ∷ (numbers_row 36 6 6 (pos 4294967298) (pos 0) (pos 0) (pos 0)) ∷ (numbers_row 30 8 6 (pos 4294967299) (pos 0) (pos 0) (pos 0)) ∷ (numbers_row 32 13 6 (pos 8589934598) (pos 0) (pos 0) (pos 0)) ∷ (numbers_row 37 13 6 (pos 8589934596) (pos 0) (pos 0) (pos 0)) ∷ (numbers_row 33 15 6 (pos 8589934599) (pos 0) (pos 0) (pos 0)) ∷ (numbers_row 0 20 6 (pos 12884901899) (pos 0) (pos 0) (pos 0)) ∷ (numbers_row 38 20 6 (pos 12884901896) (pos 0) (pos 0) (pos 0)) ∷ (numbers_row 40 20 6 (pos 12884901898) (pos 0) (pos 0) (pos 0)) ∷ (numbers_row 0 25 12 (pos 10) (pos 0) (pos 0) (pos 0)) ∷ (numbers_row 43 23 2 (pos 10) (pos 0) (pos 0) (pos 0)) ∷ (numbers_row 44 32 3 (pos 4294967296) (pos 0) (pos 0) (pos 0)) ∷ (numbers_row 45 37 3 (pos 8589934595) (pos 0) (pos 1) (pos 0)) ∷ (numbers_row 46 42 3 (pos 8589934595) (pos 0) (pos 2) (pos 0)) ∷ [])

abbrev unit : UnitTrees
unit = record {
  source = record { spellings = standard_names ++ ((67 ∷ []) ∷ (79 ∷ 116 ∷ 104 ∷ 101 ∷ 114 ∷ []) ∷ (67 ∷ 111 ∷ 108 ∷ 111 ∷ 114 ∷ []) ∷ (68 ∷ []) ∷ (70 ∷ 101 ∷ 119 ∷ []) ∷ (107 ∷ []) ∷ (69 ∷ []) ∷ (97 ∷ 109 ∷ 98 ∷ 101 ∷ 114 ∷ []) ∷ (116 ∷ 119 ∷ 111 ∷ []) ∷ (98 ∷ 108 ∷ 117 ∷ 101 ∷ []) ∷ (114 ∷ 101 ∷ 100 ∷ []) ∷ (103 ∷ 114 ∷ 101 ∷ 101 ∷ 110 ∷ []) ∷ (111 ∷ 110 ∷ 101 ∷ []) ∷ (118 ∷ []) ∷ (77 ∷ []) ∷ (84 ∷ []) ∷ (120 ∷ 48 ∷ []) ∷ (120 ∷ 49 ∷ []) ∷ (120 ∷ 50 ∷ []) ∷ []); definitions = ((definition_module 28 1) ∷ (definition_module 31 2) ∷ (definition_module 34 3) ∷ []) };
  own = None;
  definitions = (tree_1 ∷ tree_2 ∷ tree_3 ∷ []);
  main = (tree_4 ∷ []);
}

pub rows_are : unit_rows unit ≡ standard_rows ∷ (rows_1 ∷ rows_2 ∷ rows_3 ∷ rows_4 ∷ [])
unfolding unit_rows declare_block blocks_of standard_names
rows_are = refl

pub diagnostics_are : sorted_diags (declaration_diags unit) ≡ ((0 ∷ 20 ∷ 42 ∷ []) ∷ (0 ∷ 28 ∷ 49 ∷ []) ∷ (2 ∷ 15 ∷ 42 ∷ []) ∷ (2 ∷ 21 ∷ 40 ∷ []) ∷ (3 ∷ 22 ∷ 42 ∷ []) ∷ (3 ∷ 26 ∷ 42 ∷ []) ∷ [])
unfolding unit_rows declare_block blocks_of declaration_diags standard_names
diagnostics_are = refl

pub answers_are : sorted_answers (declaration_answers unit) ≡ ((6 ∷ 1 ∷ 4 ∷ []) ∷ (7 ∷ 1 ∷ 3 ∷ []) ∷ (8 ∷ 1 ∷ 3 ∷ []) ∷ (13 ∷ 2 ∷ 6 ∷ []) ∷ (15 ∷ 2 ∷ 7 ∷ []) ∷ (16 ∷ 1 ∷ 3 ∷ []) ∷ (20 ∷ 3 ∷ 11 ∷ []) ∷ (26 ∷ 4 ∷ 5 ∷ []) ∷ (28 ∷ 4 ∷ 8 ∷ []) ∷ (34 ∷ 3 ∷ 11 ∷ []) ∷ (34 ∷ 4 ∷ 3 ∷ []) ∷ (39 ∷ 4 ∷ 4 ∷ []) ∷ (44 ∷ 4 ∷ 4 ∷ []) ∷ [])
unfolding unit_rows declare_block blocks_of declaration_answers standard_names
answers_are = refl
