-- A unit, with what its declarations give. Names are numbered from 28 on as they come here.
--
-- M.mod:
--     MODULE M; IMPORT E; FROM D IMPORT Tint, k; VAR x0: Tint; VAR amber: E.Few; VAR x2: E.Few; PROCEDURE P(p: Tint);
--     BEGIN IF amber = amber THEN amber := amber END; IF x0 = two THEN x0 := two END; INCL(amber, two); INCL(x2,
--     blue) END P; BEGIN CASE x2 OF amber: | amber..amber: HALT ELSE END END M.
--
-- E.def:
--     DEFINITION MODULE E; FROM C IMPORT v, Tint; FROM D IMPORT k, Tint; TYPE Few = SET OF v; VAR v: Few; CONST k =
--     red; END E.
--
-- D.def:
--     DEFINITION MODULE D; IMPORT C; TYPE Tint = (blue); CONST k = "x"; END D.
--
-- C.def:
--     DEFINITION MODULE C; TYPE Tint = (two, amber, red); TYPE Color = (amber); VAR v: Color; END C.
use Rattle.std.specs.Prelude.{◌≡◌, pos, negsuc, false, List, [], ◌∷◌, ◌++◌, Some, None}
use Rattle.std.proofs.Common.{refl}
use Rattle.m2_base.specs.Names.{standard_names}
use Rattle.m2_base.specs.Rows.{Row, numbers_row}
use Rattle.m2_base.specs.Standard.{standard_rows}
use Rattle.m2_base.specs.Statics.BlockRows.{declare_block}
use Rattle.m2_base.specs.Statics.Blocks.{UnitTrees, blocks_of}
use Rattle.m2_base.specs.Statics.UnitNotes.{declaration_diags, declaration_answers}
use Rattle.m2_base.specs.Statics.UnitRows.{unit_rows}
use Rattle.m2_base.specs.Trees.{Stream, Main, Definition, Procedure, expr, string_form, name_form, designator, selectors, type_expr, named_type, enum_type, set_type, const_decl, type_decl, vars_decl, proc_decl, statements}
use Rattle.m2_base.proofs.UnitTerms.{ident, qual, section, heading, an_import, stream, definition_module, sorted_diags, sorted_answers}

abbrev tree_1 : Stream
tree_1 = stream Definition false (Some (ident 32 2)) ([]) None ((type_decl (ident 30 5) (Some (type_expr 7 (enum_type ((ident 34 8) ∷ (ident 35 10) ∷ (ident 36 12) ∷ []))))) ∷ (type_decl (ident 37 16) (Some (type_expr 18 (enum_type ((ident 35 19) ∷ []))))) ∷ (vars_decl ((ident 33 23) ∷ []) (type_expr 25 (named_type (qual (ident 37 25) None)))) ∷ []) (statements []) (ident 32 28)

abbrev tree_2 : Stream
tree_2 = stream Definition false (Some (ident 29 2)) ((an_import None ((ident 32 5) ∷ [])) ∷ []) None ((type_decl (ident 30 8) (Some (type_expr 10 (enum_type ((ident 38 11) ∷ []))))) ∷ (const_decl (ident 31 15) (expr 17 (string_form 39))) ∷ []) (statements []) (ident 29 20)

abbrev tree_3 : Stream
tree_3 = stream Definition false (Some (ident 28 2)) ((an_import (Some (ident 32 5)) ((ident 33 7) ∷ (ident 30 9) ∷ [])) ∷ (an_import (Some (ident 29 12)) ((ident 31 14) ∷ (ident 30 16) ∷ [])) ∷ []) None ((type_decl (ident 40 19) (Some (type_expr 21 (set_type (type_expr 23 (named_type (qual (ident 33 23) None))))))) ∷ (vars_decl ((ident 33 26) ∷ []) (type_expr 28 (named_type (qual (ident 40 28) None)))) ∷ (const_decl (ident 31 31) (expr 33 (name_form (designator (ident 36 33) (selectors ([])))))) ∷ []) (statements []) (ident 28 36)

abbrev tree_4 : Stream
tree_4 = stream Main false (Some (ident 41 1)) ((an_import None ((ident 28 4) ∷ [])) ∷ (an_import (Some (ident 29 7)) ((ident 30 9) ∷ (ident 31 11) ∷ [])) ∷ []) None ((vars_decl ((ident 42 14) ∷ []) (type_expr 16 (named_type (qual (ident 30 16) None)))) ∷ (vars_decl ((ident 35 19) ∷ []) (type_expr 21 (named_type (qual (ident 28 21) (Some (ident 40 23)))))) ∷ (vars_decl ((ident 43 26) ∷ []) (type_expr 28 (named_type (qual (ident 28 28) (Some (ident 40 30)))))) ∷ (proc_decl (heading (ident 44 33) ((section false ((ident 45 35) ∷ []) false (qual (ident 30 37) None)) ∷ []) None) 5) ∷ []) (statements []) (ident 41 92)

abbrev tree_5 : Stream
tree_5 = stream Procedure false None [] (Some (heading (ident 44 33) ((section false ((ident 45 35) ∷ []) false (qual (ident 30 37) None)) ∷ []) None)) ([]) (statements []) (ident 44 75)

abbrev rows_1 : List Row
rows_1 = ((numbers_row 0 7 11 (pos 3) (pos 0) (pos 0) (pos 0)) ∷ (numbers_row 34 8 1 (pos 4294967296) (pos 0) (pos 0) (pos 0)) ∷ (numbers_row 35 10 1 (pos 4294967296) (pos 1) (pos 0) (pos 0)) ∷ (numbers_row 36 12 1 (pos 4294967296) (pos 2) (pos 0) (pos 0)) ∷ (numbers_row 30 5 2 (pos 4294967296) (pos 0) (pos 0) (pos 0)) ∷ (numbers_row 0 18 11 (pos 1) (pos 0) (pos 0) (pos 0)) ∷ (numbers_row 0 19 1 (pos 4294967301) (pos 0) (pos 0) (pos 0)) ∷ (numbers_row 37 16 2 (pos 4294967301) (pos 0) (pos 0) (pos 0)) ∷ (numbers_row 33 23 3 (pos 4294967301) (pos 0) (pos 0) (pos 0)) ∷ [])

abbrev rows_2 : List Row
rows_2 = ((numbers_row 32 5 5 (pos 1) (pos 0) (pos 0) (pos 0)) ∷ (numbers_row 0 10 11 (pos 1) (pos 0) (pos 0) (pos 0)) ∷ (numbers_row 38 11 1 (pos 8589934593) (pos 0) (pos 0) (pos 0)) ∷ (numbers_row 30 8 2 (pos 8589934593) (pos 0) (pos 0) (pos 0)) ∷ (numbers_row 31 15 1 (pos 8) (pos 39) (pos 1) (pos 0)) ∷ [])

abbrev rows_3 : List Row
rows_3 = ((numbers_row 33 7 6 (pos 4294967304) (pos 0) (pos 0) (pos 0)) ∷ (numbers_row 30 9 6 (pos 4294967300) (pos 0) (pos 0) (pos 0)) ∷ (numbers_row 34 9 6 (pos 4294967297) (pos 0) (pos 0) (pos 0)) ∷ (numbers_row 35 9 6 (pos 4294967298) (pos 0) (pos 0) (pos 0)) ∷ (numbers_row 36 9 6 (pos 4294967299) (pos 0) (pos 0) (pos 0)) ∷ (numbers_row 31 14 6 (pos 8589934596) (pos 0) (pos 0) (pos 0)) ∷ (numbers_row 0 16 6 (pos 8589934595) (pos 0) (pos 0) (pos 0)) ∷ (numbers_row 38 16 6 (pos 8589934594) (pos 0) (pos 0) (pos 0)) ∷ (numbers_row 0 21 16 (pos 10) (pos 0) (pos 0) (pos 0)) ∷ (numbers_row 40 19 2 (pos 12884901896) (pos 0) (pos 0) (pos 0)) ∷ (numbers_row 0 26 3 (pos 12884901896) (pos 0) (pos 0) (pos 0)) ∷ (numbers_row 0 31 1 (pos 4294967296) (pos 2) (pos 0) (pos 0)) ∷ [])

abbrev rows_4 : List Row
rows_4 = ((numbers_row 28 4 5 (pos 3) (pos 0) (pos 0) (pos 0)) ∷ (numbers_row 30 9 6 (pos 8589934595) (pos 0) (pos 0) (pos 0)) ∷ (numbers_row 38 9 6 (pos 8589934594) (pos 0) (pos 0) (pos 0)) ∷ (numbers_row 31 11 6 (pos 8589934596) (pos 0) (pos 0) (pos 0)) ∷ (numbers_row 42 14 3 (pos 8589934593) (pos 0) (pos 0) (pos 0)) ∷ (numbers_row 35 19 3 (pos 12884901896) (pos 0) (pos 1) (pos 0)) ∷ (numbers_row 43 26 3 (pos 12884901896) (pos 0) (pos 2) (pos 0)) ∷ (numbers_row 0 35 8 (pos 8589934593) (pos 0) (pos 8) (pos 0)) ∷ (numbers_row 0 33 18 (negsuc 0) (pos 1) (pos 7) (pos 0)) ∷ (numbers_row 44 33 4 (pos 17179869192) (pos 1) (pos 5) (pos 0)) ∷ [])

abbrev rows_5 : List Row
rows_5 = ((numbers_row 45 35 3 (pos 8589934593) (pos 0) (pos 0) (pos 0)) ∷ [])

abbrev unit : UnitTrees
unit = record {
  source = record { spellings = standard_names ++ ((69 ∷ []) ∷ (68 ∷ []) ∷ (84 ∷ 105 ∷ 110 ∷ 116 ∷ []) ∷ (107 ∷ []) ∷ (67 ∷ []) ∷ (118 ∷ []) ∷ (116 ∷ 119 ∷ 111 ∷ []) ∷ (97 ∷ 109 ∷ 98 ∷ 101 ∷ 114 ∷ []) ∷ (114 ∷ 101 ∷ 100 ∷ []) ∷ (67 ∷ 111 ∷ 108 ∷ 111 ∷ 114 ∷ []) ∷ (98 ∷ 108 ∷ 117 ∷ 101 ∷ []) ∷ (120 ∷ []) ∷ (70 ∷ 101 ∷ 119 ∷ []) ∷ (77 ∷ []) ∷ (120 ∷ 48 ∷ []) ∷ (120 ∷ 50 ∷ []) ∷ (80 ∷ []) ∷ (112 ∷ []) ∷ []); definitions = ((definition_module 32 3) ∷ (definition_module 29 2) ∷ (definition_module 28 1) ∷ []) };
  own = None;
  definitions = (tree_1 ∷ tree_2 ∷ tree_3 ∷ []);
  main = (tree_4 ∷ tree_5 ∷ []);
}

pub rows_are : unit_rows unit ≡ standard_rows ∷ (rows_1 ∷ rows_2 ∷ rows_3 ∷ rows_4 ∷ rows_5 ∷ [])
unfolding unit_rows declare_block blocks_of standard_names
rows_are = refl

pub diagnostics_are : sorted_diags (declaration_diags unit) ≡ ((1 ∷ 16 ∷ 42 ∷ []) ∷ (1 ∷ 23 ∷ 45 ∷ []) ∷ (1 ∷ 26 ∷ 42 ∷ []) ∷ (1 ∷ 31 ∷ 42 ∷ []) ∷ (3 ∷ 19 ∷ 42 ∷ []) ∷ [])
unfolding unit_rows declare_block blocks_of declaration_diags standard_names
diagnostics_are = refl

pub answers_are : sorted_answers (declaration_answers unit) ≡ ((7 ∷ 1 ∷ 8 ∷ []) ∷ (9 ∷ 1 ∷ 4 ∷ []) ∷ (9 ∷ 2 ∷ 3 ∷ []) ∷ (11 ∷ 2 ∷ 4 ∷ []) ∷ (14 ∷ 2 ∷ 4 ∷ []) ∷ (16 ∷ 2 ∷ 3 ∷ []) ∷ (16 ∷ 4 ∷ 1 ∷ []) ∷ (21 ∷ 4 ∷ 0 ∷ []) ∷ (23 ∷ 3 ∷ 0 ∷ []) ∷ (23 ∷ 3 ∷ 9 ∷ []) ∷ (25 ∷ 1 ∷ 7 ∷ []) ∷ (28 ∷ 3 ∷ 9 ∷ []) ∷ (28 ∷ 4 ∷ 0 ∷ []) ∷ (30 ∷ 3 ∷ 9 ∷ []) ∷ (33 ∷ 3 ∷ 4 ∷ []) ∷ (37 ∷ 4 ∷ 1 ∷ []) ∷ [])
unfolding unit_rows declare_block blocks_of declaration_answers standard_names
answers_are = refl
