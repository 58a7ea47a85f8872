-- A unit, with what its declarations give. Names are numbered from 28 on as they come here.
--
-- M.mod:
--     MODULE M; FROM C IMPORT v, amber; FROM D IMPORT v, Tint, amber; VAR x0: Tint; VAR x1: Tint; PROCEDURE P(p:
--     Tint); BEGIN x1 := two END P; BEGIN FOR x1 := blue TO blue DO END; INCL(x0, blue); INCL(x1, green) END M.
--
-- C.def:
--     DEFINITION MODULE C; TYPE Color = (two, green, blue); TYPE Other = SET OF Color; VAR v: Other; END C.
--
-- D.def:
--     DEFINITION MODULE D; FROM C IMPORT Other, Color; TYPE Tint = (green, two, blue); VAR v: Tint; END D.
use Rattle.std.specs.Prelude.{◌≡◌, pos, negsuc, false, List, [], ◌∷◌, ◌++◌, Some, None}
use Rattle.std.proofs.Common.{refl}
use Rattle.m2_base.specs.Names.{standard_names}
use Rattle.m2_base.specs.Rows.{Row, numbers_row}
use Rattle.m2_base.specs.Standard.{standard_rows}
use Rattle.m2_base.specs.Statics.BlockRows.{declare_block}
use Rattle.m2_base.specs.Statics.Blocks.{UnitTrees, blocks_of}
use Rattle.m2_base.specs.Statics.UnitNotes.{declaration_diags, declaration_answers}
use Rattle.m2_base.specs.Statics.UnitRows.{unit_rows}
use Rattle.m2_base.specs.Trees.{Stream, Main, Definition, Procedure, type_expr, named_type, enum_type, set_type, type_decl, vars_decl, proc_decl, statements}
use Rattle.m2_base.proofs.UnitTerms.{ident, qual, section, heading, an_import, stream, definition_module, sorted_diags, sorted_answers}

abbrev tree_1 : Stream
tree_1 = stream Definition false (Some (ident 28 2)) ([]) None ((type_decl (ident 34 5) (Some (type_expr 7 (enum_type ((ident 35 8) ∷ (ident 36 10) ∷ (ident 37 12) ∷ []))))) ∷ (type_decl (ident 33 16) (Some (type_expr 18 (set_type (type_expr 20 (named_type (qual (ident 34 20) None))))))) ∷ (vars_decl ((ident 29 23) ∷ []) (type_expr 25 (named_type (qual (ident 33 25) None)))) ∷ []) (statements []) (ident 28 28)

abbrev tree_2 : Stream
tree_2 = stream Definition false (Some (ident 31 2)) ((an_import (Some (ident 28 5)) ((ident 33 7) ∷ (ident 34 9) ∷ [])) ∷ []) None ((type_decl (ident 32 12) (Some (type_expr 14 (enum_type ((ident 36 15) ∷ (ident 35 17) ∷ (ident 37 19) ∷ []))))) ∷ (vars_decl ((ident 29 23) ∷ []) (type_expr 25 (named_type (qual (ident 32 25) None)))) ∷ []) (statements []) (ident 31 28)

abbrev tree_3 : Stream
tree_3 = stream Main false (Some (ident 38 1)) ((an_import (Some (ident 28 4)) ((ident 29 6) ∷ (ident 30 8) ∷ [])) ∷ (an_import (Some (ident 31 11)) ((ident 29 13) ∷ (ident 32 15) ∷ (ident 30 17) ∷ [])) ∷ []) None ((vars_decl ((ident 39 20) ∷ []) (type_expr 22 (named_type (qual (ident 32 22) None)))) ∷ (vars_decl ((ident 40 25) ∷ []) (type_expr 27 (named_type (qual (ident 32 27) None)))) ∷ (proc_decl (heading (ident 41 30) ((section false ((ident 42 32) ∷ []) false (qual (ident 32 34) None)) ∷ []) None) 4) ∷ []) (statements []) (ident 38 68)

abbrev tree_4 : Stream
tree_4 = stream Procedure false None [] (Some (heading (ident 41 30) ((section false ((ident 42 32) ∷ []) false (qual (ident 32 34) None)) ∷ []) None)) ([]) (statements []) (ident 41 42)

abbrev rows_1 : List Row
rows_1 = ((numbers_row 0 7 11 (pos 3) (pos 0) (pos 0) (pos 0)) ∷ (numbers_row 35 8 1 (pos 4294967296) (pos 0) (pos 0) (pos 0)) ∷ (numbers_row 36 10 1 (pos 4294967296) (pos 1) (pos 0) (pos 0)) ∷ (numbers_row 37 12 1 (pos 4294967296) (pos 2) (pos 0) (pos 0)) ∷ (numbers_row 34 5 2 (pos 4294967296) (pos 0) (pos 0) (pos 0)) ∷ (numbers_row 0 18 16 (pos 4294967296) (pos 0) (pos 0) (pos 0)) ∷ (numbers_row 33 16 2 (pos 4294967301) (pos 0) (pos 0) (pos 0)) ∷ (numbers_row 29 23 3 (pos 4294967301) (pos 0) (pos 0) (pos 0)) ∷ [])

abbrev rows_2 : List Row
rows_2 = ((numbers_row 33 7 6 (pos 4294967302) (pos 0) (pos 0) (pos 0)) ∷ (numbers_row 34 9 6 (pos 4294967300) (pos 0) (pos 0) (pos 0)) ∷ (numbers_row 35 9 6 (pos 4294967297) (pos 0) (pos 0) (pos 0)) ∷ (numbers_row 36 9 6 (pos 4294967298) (pos 0) (pos 0) (pos 0)) ∷ (numbers_row 37 9 6 (pos 4294967299) (pos 0) (pos 0) (pos 0)) ∷ (numbers_row 0 14 11 (pos 3) (pos 0) (pos 0) (pos 0)) ∷ (numbers_row 0 15 1 (pos 8589934597) (pos 0) (pos 0) (pos 0)) ∷ (numbers_row 0 17 1 (pos 8589934597) (pos 1) (pos 0) (pos 0)) ∷ (numbers_row 0 19 1 (pos 8589934597) (pos 2) (pos 0) (pos 0)) ∷ (numbers_row 32 12 2 (pos 8589934597) (pos 0) (pos 0) (pos 0)) ∷ (numbers_row 29 23 3 (pos 8589934597) (pos 0) (pos 0) (pos 0)) ∷ [])

abbrev rows_3 : List Row
rows_3 = ((numbers_row 29 6 6 (pos 4294967303) (pos 0) (pos 0) (pos 0)) ∷ (numbers_row 30 8 6 (pos 10) (pos 0) (pos 0) (pos 0)) ∷ (numbers_row 0 13 6 (pos 8589934602) (pos 0) (pos 0) (pos 0)) ∷ (numbers_row 32 15 6 (pos 8589934601) (pos 0) (pos 0) (pos 0)) ∷ (numbers_row 0 17 6 (pos 10) (pos 0) (pos 0) (pos 0)) ∷ (numbers_row 39 20 3 (pos 8589934597) (pos 0) (pos 0) (pos 0)) ∷ (numbers_row 40 25 3 (pos 8589934597) (pos 0) (pos 1) (pos 0)) ∷ (numbers_row 0 32 8 (pos 8589934597) (pos 0) (pos 8) (pos 0)) ∷ (numbers_row 0 30 18 (negsuc 0) (pos 1) (pos 7) (pos 0)) ∷ (numbers_row 41 30 4 (pos 12884901896) (pos 1) (pos 4) (pos 0)) ∷ [])

abbrev rows_4 : List Row
rows_4 = ((numbers_row 42 32 3 (pos 8589934597) (pos 0) (pos 0) (pos 0)) ∷ [])

abbrev unit : UnitTrees
unit = record {
  source = record { spellings = standard_names ++ ((67 ∷ []) ∷ (118 ∷ []) ∷ (97 ∷ 109 ∷ 98 ∷ 101 ∷ 114 ∷ []) ∷ (68 ∷ []) ∷ (84 ∷ 105 ∷ 110 ∷ 116 ∷ []) ∷ (79 ∷ 116 ∷ 104 ∷ 101 ∷ 114 ∷ []) ∷ (67 ∷ 111 ∷ 108 ∷ 111 ∷ 114 ∷ []) ∷ (116 ∷ 119 ∷ 111 ∷ []) ∷ (103 ∷ 114 ∷ 101 ∷ 101 ∷ 110 ∷ []) ∷ (98 ∷ 108 ∷ 117 ∷ 101 ∷ []) ∷ (77 ∷ []) ∷ (120 ∷ 48 ∷ []) ∷ (120 ∷ 49 ∷ []) ∷ (80 ∷ []) ∷ (112 ∷ []) ∷ []); definitions = ((definition_module 28 1) ∷ (definition_module 31 2) ∷ []) };
  own = None;
  definitions = (tree_1 ∷ tree_2 ∷ []);
  main = (tree_3 ∷ tree_4 ∷ []);
}

pub rows_are : unit_rows unit ≡ standard_rows ∷ (rows_1 ∷ rows_2 ∷ rows_3 ∷ rows_4 ∷ [])
unfolding unit_rows declare_block blocks_of standard_names
rows_are = refl

pub diagnostics_are : sorted_diags (declaration_diags unit) ≡ ((0 ∷ 8 ∷ 44 ∷ []) ∷ (0 ∷ 13 ∷ 42 ∷ []) ∷ (0 ∷ 17 ∷ 42 ∷ []) ∷ (0 ∷ 17 ∷ 44 ∷ []) ∷ (2 ∷ 15 ∷ 42 ∷ []) ∷ (2 ∷ 17 ∷ 42 ∷ []) ∷ (2 ∷ 19 ∷ 42 ∷ []) ∷ [])
unfolding unit_rows declare_block blocks_of declaration_diags standard_names
diagnostics_are = refl

pub answers_are : sorted_answers (declaration_answers unit) ≡ ((6 ∷ 1 ∷ 7 ∷ []) ∷ (7 ∷ 1 ∷ 6 ∷ []) ∷ (9 ∷ 1 ∷ 4 ∷ []) ∷ (13 ∷ 2 ∷ 10 ∷ []) ∷ (15 ∷ 2 ∷ 9 ∷ []) ∷ (20 ∷ 1 ∷ 4 ∷ []) ∷ (22 ∷ 3 ∷ 3 ∷ []) ∷ (25 ∷ 1 ∷ 6 ∷ []) ∷ (25 ∷ 2 ∷ 9 ∷ []) ∷ (27 ∷ 3 ∷ 3 ∷ []) ∷ (34 ∷ 3 ∷ 3 ∷ []) ∷ [])
unfolding unit_rows declare_block blocks_of declaration_answers standard_names
answers_are = refl
