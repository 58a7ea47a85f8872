-- A unit, with what its declarations give. Names are numbered from 28 on as they come here.
--
-- M.mod:
--     MODULE M; FROM D IMPORT Tint; FROM C IMPORT Color; FROM E IMPORT k, v, Tint; CONST red = ORD(red); VAR one:
--     Tint; VAR x1: Color; VAR x2: Color; BEGIN x1 := VAL(Color, 0); x1 := VAL(Tint, 0) END M.
--
-- D.def:
--     DEFINITION MODULE D; TYPE Tint = (one, green, blue, amber); TYPE Other = (green); END D.
--
-- C.def:
--     DEFINITION MODULE C; TYPE Other = (one); TYPE Color = (red); TYPE Tint = Color; END C.
--
-- E.def:
--     DEFINITION MODULE E; FROM C IMPORT Other; IMPORT D; TYPE Tint = Other; TYPE Few = (one, red, blue); VAR v:
--     Tint; CONST k = "x"; END E.
use Rattle.std.specs.Prelude.{◌≡◌, pos, false, List, [], ◌∷◌, ◌++◌, Some, None}
use Rattle.std.proofs.Common.{refl}
use Rattle.m2_base.specs.Names.{standard_names}
use Rattle.m2_base.specs.Rows.{Row, numbers_row}
use Rattle.m2_base.specs.Standard.{standard_rows}
use Rattle.m2_base.specs.Statics.BlockRows.{declare_block}
use Rattle.m2_base.specs.Statics.Blocks.{UnitTrees, blocks_of}
use Rattle.m2_base.specs.Statics.UnitNotes.{declaration_diags, declaration_answers}
use Rattle.m2_base.specs.Statics.UnitRows.{unit_rows}
use Rattle.m2_base.specs.Trees.{Stream, Main, Definition, expr, string_form, name_form, call_form, exprs, designator, selectors, type_expr, named_type, enum_type, const_decl, type_decl, vars_decl, statements}
use Rattle.m2_base.proofs.UnitTerms.{ident, qual, an_import, stream, definition_module, sorted_diags, sorted_answers}

abbrev tree_1 : Stream
tree_1 = stream Definition false (Some (ident 28 2)) ([]) None ((type_decl (ident 29 5) (Some (type_expr 7 (enum_type ((ident 36 8) ∷ (ident 37 10) ∷ (ident 38 12) ∷ (ident 39 14) ∷ []))))) ∷ (type_decl (ident 35 18) (Some (type_expr 20 (enum_type ((ident 37 21) ∷ []))))) ∷ []) (statements []) (ident 28 25)

abbrev tree_2 : Stream
tree_2 = stream Definition false (Some (ident 30 2)) ([]) None ((type_decl (ident 35 5) (Some (type_expr 7 (enum_type ((ident 36 8) ∷ []))))) ∷ (type_decl (ident 31 12) (Some (type_expr 14 (enum_type ((ident 40 15) ∷ []))))) ∷ (type_decl (ident 29 19) (Some (type_expr 21 (named_type (qual (ident 31 21) None))))) ∷ []) (statements []) (ident 30 24)

abbrev tree_3 : Stream
tree_3 = stream Definition false (Some (ident 32 2)) ((an_import (Some (ident 30 5)) ((ident 35 7) ∷ [])) ∷ (an_import None ((ident 28 10) ∷ [])) ∷ []) None ((type_decl (ident 29 13) (Some (type_expr 15 (named_type (qual (ident 35 15) None))))) ∷ (type_decl (ident 41 18) (Some (type_expr 20 (enum_type ((ident 36 21) ∷ (ident 40 23) ∷ (ident 38 25) ∷ []))))) ∷ (vars_decl ((ident 34 29) ∷ []) (type_expr 31 (named_type (qual (ident 29 31) None)))) ∷ (const_decl (ident 33 34) (expr 36 (string_form 42))) ∷ []) (statements []) (ident 32 39)

abbrev tree_4 : Stream
tree_4 = stream Main false (Some (ident 43 1)) ((an_import (Some (ident 28 4)) ((ident 29 6) ∷ [])) ∷ (an_import (Some (ident 30 9)) ((ident 31 11) ∷ [])) ∷ (an_import (Some (ident 32 14)) ((ident 33 16) ∷ (ident 34 18) ∷ (ident 29 20) ∷ [])) ∷ []) None ((const_decl (ident 40 23) (expr 25 (call_form (designator (ident 24 25) (selectors ([]))) (exprs ((expr 27 (name_form (designator (ident 40 27) (selectors ([]))))) ∷ []))))) ∷ (vars_decl ((ident 36 31) ∷ []) (type_expr 33 (named_type (qual (ident 29 33) None)))) ∷ (vars_decl ((ident 44 36) ∷ []) (type_expr 38 (named_type (qual (ident 31 38) None)))) ∷ (vars_decl ((ident 45 41) ∷ []) (type_expr 43 (named_type (qual (ident 31 43) None)))) ∷ []) (statements []) (ident 43 64)

abbrev rows_1 : List Row
rows_1 = ((numbers_row 0 7 11 (pos 4) (pos 0) (pos 0) (pos 0)) ∷ (numbers_row 36 8 1 (pos 4294967296) (pos 0) (pos 0) (pos 0)) ∷ (numbers_row 37 10 1 (pos 4294967296) (pos 1) (pos 0) (pos 0)) ∷ (numbers_row 38 12 1 (pos 4294967296) (pos 2) (pos 0) (pos 0)) ∷ (numbers_row 39 14 1 (pos 4294967296) (pos 3) (pos 0) (pos 0)) ∷ (numbers_row 29 5 2 (pos 4294967296) (pos 0) (pos 0) (pos 0)) ∷ (numbers_row 0 20 11 (pos 1) (pos 0) (pos 0) (pos 0)) ∷ (numbers_row 0 21 1 (pos 4294967302) (pos 0) (pos 0) (pos 0)) ∷ (numbers_row 35 18 2 (pos 4294967302) (pos 0) (pos 0) (pos 0)) ∷ [])

abbrev rows_2 : List Row
rows_2 = ((numbers_row 0 7 11 (pos 1) (pos 0) (pos 0) (pos 0)) ∷ (numbers_row 36 8 1 (pos 8589934592) (pos 0) (pos 0) (pos 0)) ∷ (numbers_row 35 5 2 (pos 8589934592) (pos 0) (pos 0) (pos 0)) ∷ (numbers_row 0 14 11 (pos 1) (pos 0) (pos 0) (pos 0)) ∷ (numbers_row 40 15 1 (pos 8589934595) (pos 0) (pos 0) (pos 0)) ∷ (numbers_row 31 12 2 (pos 8589934595) (pos 0) (pos 0) (pos 0)) ∷ (numbers_row 29 19 2 (pos 8589934595) (pos 0) (pos 0) (pos 0)) ∷ [])

abbrev rows_3 : List Row
rows_3 = ((numbers_row 35 7 6 (pos 8589934594) (pos 0) (pos 0) (pos 0)) ∷ (numbers_row 36 7 6 (pos 8589934593) (pos 0) (pos 0) (pos 0)) ∷ (numbers_row 28 10 5 (pos 1) (pos 0) (pos 0) (pos 0)) ∷ (numbers_row 29 13 2 (pos 8589934592) (pos 0) (pos 0) (pos 0)) ∷ (numbers_row 0 20 11 (pos 3) (pos 0) (pos 0) (pos 0)) ∷ (numbers_row 0 21 1 (pos 12884901892) (pos 0) (pos 0) (pos 0)) ∷ (numbers_row 40 23 1 (pos 12884901892) (pos 1) (pos 0) (pos 0)) ∷ (numbers_row 38 25 1 (pos 12884901892) (pos 2) (pos 0) (pos 0)) ∷ (numbers_row 41 18 2 (pos 12884901892) (pos 0) (pos 0) (pos 0)) ∷ (numbers_row 34 29 3 (pos 8589934592) (pos 0) (pos 0) (pos 0)) ∷ (numbers_row 33 34 1 (pos 8) (pos 42) (pos 1) (pos 0)) ∷ [])

abbrev rows_4 : List Row
rows_4 = ((numbers_row 29 6 6 (pos 4294967301) (pos 0) (pos 0) (pos 0)) ∷ (numbers_row 36 6 6 (pos 4294967297) (pos 0) (pos 0) (pos 0)) ∷ (numbers_row 37 6 6 (pos 4294967298) (pos 0) (pos 0) (pos 0)) ∷ (numbers_row 38 6 6 (pos 4294967299) (pos 0) (pos 0) (pos 0)) ∷ (numbers_row 39 6 6 (pos 4294967300) (pos 0) (pos 0) (pos 0)) ∷ (numbers_row 31 11 6 (pos 8589934597) (pos 0) (pos 0) (pos 0)) ∷ (numbers_row 40 11 6 (pos 8589934596) (pos 0) (pos 0) (pos 0)) ∷ (numbers_row 33 16 6 (pos 12884901898) (pos 0) (pos 0) (pos 0)) ∷ (numbers_row 34 18 6 (pos 12884901897) (pos 0) (pos 0) (pos 0)) ∷ (numbers_row 0 20 6 (pos 12884901891) (pos 0) (pos 0) (pos 0)) ∷ (numbers_row 0 23 1 (pos 1) (pos 0) (pos 0) (pos 0)) ∷ (numbers_row 0 31 3 (pos 4294967296) (pos 0) (pos 0) (pos 0)) ∷ (numbers_row 44 36 3 (pos 8589934595) (pos 0) (pos 1) (pos 0)) ∷ (numbers_row 45 41 3 (pos 8589934595) (pos 0) (pos 2) (pos 0)) ∷ [])

abbrev unit : UnitTrees
unit = record {
  source = record { spellings = standard_names ++ ((68 ∷ []) ∷ (84 ∷ 105 ∷ 110 ∷ 116 ∷ []) ∷ (67 ∷ []) ∷ (67 ∷ 111 ∷ 108 ∷ 111 ∷ 114 ∷ []) ∷ (69 ∷ []) ∷ (107 ∷ []) ∷ (118 ∷ []) ∷ (79 ∷ 116 ∷ 104 ∷ 101 ∷ 114 ∷ []) ∷ (111 ∷ 110 ∷ 101 ∷ []) ∷ (103 ∷ 114 ∷ 101 ∷ 101 ∷ 110 ∷ []) ∷ (98 ∷ 108 ∷ 117 ∷ 101 ∷ []) ∷ (97 ∷ 109 ∷ 98 ∷ 101 ∷ 114 ∷ []) ∷ (114 ∷ 101 ∷ 100 ∷ []) ∷ (70 ∷ 101 ∷ 119 ∷ []) ∷ (120 ∷ []) ∷ (77 ∷ []) ∷ (120 ∷ 49 ∷ []) ∷ (120 ∷ 50 ∷ []) ∷ []); definitions = ((definition_module 28 1) ∷ (definition_module 30 2) ∷ (definition_module 32 3) ∷ []) };
  own = None;
  definitions = (tree_1 ∷ tree_2 ∷ tree_3 ∷ []);
  main = (tree_4 ∷ []);
}

pub rows_are : unit_rows unit ≡ standard_rows ∷ (rows_1 ∷ rows_2 ∷ rows_3 ∷ rows_4 ∷ [])
unfolding unit_rows declare_block blocks_of standard_names
rows_are = refl

pub diagnostics_are : sorted_diags (declaration_diags unit) ≡ ((0 ∷ 20 ∷ 42 ∷ []) ∷ (0 ∷ 23 ∷ 42 ∷ []) ∷ (0 ∷ 31 ∷ 42 ∷ []) ∷ (1 ∷ 21 ∷ 42 ∷ []) ∷ (3 ∷ 21 ∷ 42 ∷ []) ∷ [])
unfolding unit_rows declare_block blocks_of declaration_diags standard_names
diagnostics_are = refl

pub answers_are : sorted_answers (declaration_answers unit) ≡ ((6 ∷ 1 ∷ 5 ∷ []) ∷ (7 ∷ 2 ∷ 2 ∷ []) ∷ (11 ∷ 2 ∷ 5 ∷ []) ∷ (15 ∷ 3 ∷ 0 ∷ []) ∷ (16 ∷ 3 ∷ 10 ∷ []) ∷ (18 ∷ 3 ∷ 9 ∷ []) ∷ (20 ∷ 3 ∷ 3 ∷ []) ∷ (21 ∷ 2 ∷ 5 ∷ []) ∷ (27 ∷ 4 ∷ 6 ∷ []) ∷ (31 ∷ 3 ∷ 3 ∷ []) ∷ (33 ∷ 4 ∷ 0 ∷ []) ∷ (38 ∷ 4 ∷ 5 ∷ []) ∷ (43 ∷ 4 ∷ 5 ∷ []) ∷ [])
unfolding unit_rows declare_block blocks_of declaration_answers standard_names
answers_are = refl
