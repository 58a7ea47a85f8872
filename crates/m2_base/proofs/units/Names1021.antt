-- A unit, with what its declarations give. Names are numbered from 28 on as they come here.
--
-- M.mod:
--     MODULE M; FROM C IMPORT Few, v; FROM D IMPORT Tint; VAR x0: Few; VAR x1: Tint; PROCEDURE P(p: Few); BEGIN IF x1
--     = one THEN x1 := one END END P; BEGIN INCL(x0, green); INCL(x0, blue) END M.
--
-- C.def:
--     DEFINITION MODULE C; TYPE Few = (two, green, one, amber); VAR v: Few; END C.
--
-- D.def:
--     DEFINITION MODULE D; FROM C IMPORT Few, v; TYPE Tint = v; END D.
use Rattle.std.specs.Prelude.{◌≡◌, pos, negsuc, false, List, [], ◌∷◌, ◌++◌, Some, None}
use Rattle.std.proofs.Common.{refl}
use Rattle.m2_base.specs.Names.{standard_names}
use Rattle.m2_base.specs.Rows.{Row, numbers_row}
use Rattle.m2_base.specs.Standard.{standard_rows}
use Rattle.m2_base.specs.Statics.BlockRows.{declare_block}
use Rattle.m2_base.specs.Statics.Blocks.{UnitTrees, blocks_of}
use Rattle.m2_base.specs.Statics.UnitNotes.{declaration_diags, declaration_answers}
use Rattle.m2_base.specs.Statics.UnitRows.{unit_rows}
use Rattle.m2_base.specs.Trees.{Stream, Main, Definition, Procedure, type_expr, named_type, enum_type, type_decl, vars_decl, proc_decl, statements}
use Rattle.m2_base.proofs.UnitTerms.{ident, qual, section, heading, an_import, stream, definition_module, sorted_diags, sorted_answers}

abbrev tree_1 : Stream
tree_1 = stream Definition false (Some (ident 28 2)) ([]) None ((type_decl (ident 29 5) (Some (type_expr 7 (enum_type ((ident 33 8) ∷ (ident 34 10) ∷ (ident 35 12) ∷ (ident 36 14) ∷ []))))) ∷ (vars_decl ((ident 30 18) ∷ []) (type_expr 20 (named_type (qual (ident 29 20) None)))) ∷ []) (statements []) (ident 28 23)

abbrev tree_2 : Stream
tree_2 = stream Definition false (Some (ident 31 2)) ((an_import (Some (ident 28 5)) ((ident 29 7) ∷ (ident 30 9) ∷ [])) ∷ []) None ((type_decl (ident 32 12) (Some (type_expr 14 (named_type (qual (ident 30 14) None))))) ∷ []) (statements []) (ident 31 17)

abbrev tree_3 : Stream
tree_3 = stream Main false (Some (ident 37 1)) ((an_import (Some (ident 28 4)) ((ident 29 6) ∷ (ident 30 8) ∷ [])) ∷ (an_import (Some (ident 31 11)) ((ident 32 13) ∷ [])) ∷ []) None ((vars_decl ((ident 38 16) ∷ []) (type_expr 18 (named_type (qual (ident 29 18) None)))) ∷ (vars_decl ((ident 39 21) ∷ []) (type_expr 23 (named_type (qual (ident 32 23) None)))) ∷ (proc_decl (heading (ident 40 26) ((section false ((ident 41 28) ∷ []) false (qual (ident 29 30) None)) ∷ []) None) 4) ∷ []) (statements []) (ident 37 61)

abbrev tree_4 : Stream
tree_4 = stream Procedure false None [] (Some (heading (ident 40 26) ((section false ((ident 41 28) ∷ []) false (qual (ident 29 30) None)) ∷ []) None)) ([]) (statements []) (ident 40 44)

abbrev rows_1 : List Row
rows_1 = ((numbers_row 0 7 11 (pos 4) (pos 0) (pos 0) (pos 0)) ∷ (numbers_row 33 8 1 (pos 4294967296) (pos 0) (pos 0) (pos 0)) ∷ (numbers_row 34 10 1 (pos 4294967296) (pos 1) (pos 0) (pos 0)) ∷ (numbers_row 35 12 1 (pos 4294967296) (pos 2) (pos 0) (pos 0)) ∷ (numbers_row 36 14 1 (pos 4294967296) (pos 3) (pos 0) (pos 0)) ∷ (numbers_row 29 5 2 (pos 4294967296) (pos 0) (pos 0) (pos 0)) ∷ (numbers_row 30 18 3 (pos 4294967296) (pos 0) (pos 0) (pos 0)) ∷ [])

abbrev rows_2 : List Row
rows_2 = ((numbers_row 29 7 6 (pos 4294967301) (pos 0) (pos 0) (pos 0)) ∷ (numbers_row 33 7 6 (pos 4294967297) (pos 0) (pos 0) (pos 0)) ∷ (numbers_row 34 7 6 (pos 4294967298) (pos 0) (pos 0) (pos 0)) ∷ (numbers_row 35 7 6 (pos 4294967299) (pos 0) (pos 0) (pos 0)) ∷ (numbers_row 36 7 6 (pos 4294967300) (pos 0) (pos 0) (pos 0)) ∷ (numbers_row 30 9 6 (pos 4294967302) (pos 0) (pos 0) (pos 0)) ∷ (numbers_row 32 12 2 (pos 10) (pos 0) (pos 0) (pos 0)) ∷ [])

abbrev rows_3 : List Row
rows_3 = ((numbers_row 29 6 6 (pos 4294967301) (pos 0) (pos 0) (pos 0)) ∷ (numbers_row 33 6 6 (pos 4294967297) (pos 0) (pos 0) (pos 0)) ∷ (numbers_row 34 6 6 (pos 4294967298) (pos 0) (pos 0) (pos 0)) ∷ (numbers_row 35 6 6 (pos 4294967299) (pos 0) (pos 0) (pos 0)) ∷ (numbers_row 36 6 6 (pos 4294967300) (pos 0) (pos 0) (pos 0)) ∷ (numbers_row 30 8 6 (pos 4294967302) (pos 0) (pos 0) (pos 0)) ∷ (numbers_row 32 13 6 (pos 8589934598) (pos 0) (pos 0) (pos 0)) ∷ (numbers_row 38 16 3 (pos 4294967296) (pos 0) (pos 0) (pos 0)) ∷ (numbers_row 39 21 3 (pos 10) (pos 0) (pos 1) (pos 0)) ∷ (numbers_row 0 28 8 (pos 4294967296) (pos 0) (pos 10) (pos 0)) ∷ (numbers_row 0 26 18 (negsuc 0) (pos 1) (pos 9) (pos 0)) ∷ (numbers_row 40 26 4 (pos 12884901898) (pos 1) (pos 4) (pos 0)) ∷ [])

abbrev rows_4 : List Row
rows_4 = ((numbers_row 41 28 3 (pos 4294967296) (pos 0) (pos 0) (pos 0)) ∷ [])

abbrev unit : UnitTrees
unit = record {
  source = record { spellings = standard_names ++ ((67 ∷ []) ∷ (70 ∷ 101 ∷ 119 ∷ []) ∷ (118 ∷ []) ∷ (68 ∷ []) ∷ (84 ∷ 105 ∷ 110 ∷ 116 ∷ []) ∷ (116 ∷ 119 ∷ 111 ∷ []) ∷ (103 ∷ 114 ∷ 101 ∷ 101 ∷ 110 ∷ []) ∷ (111 ∷ 110 ∷ 101 ∷ []) ∷ (97 ∷ 109 ∷ 98 ∷ 101 ∷ 114 ∷ []) ∷ (77 ∷ []) ∷ (120 ∷ 48 ∷ []) ∷ (120 ∷ 49 ∷ []) ∷ (80 ∷ []) ∷ (112 ∷ []) ∷ []); definitions = ((definition_module 28 1) ∷ (definition_module 31 2) ∷ []) };
  own = None;
  definitions = (tree_1 ∷ tree_2 ∷ []);
  main = (tree_3 ∷ tree_4 ∷ []);
}

pub rows_are : unit_rows unit ≡ standard_rows ∷ (rows_1 ∷ rows_2 ∷ rows_3 ∷ rows_4 ∷ [])
unfolding unit_rows declare_block blocks_of standard_names
rows_are = refl

pub diagnostics_are : sorted_diags (declaration_diags unit) ≡ ((2 ∷ 14 ∷ 45 ∷ []) ∷ [])
unfolding unit_rows declare_block blocks_of declaration_diags standard_names
diagnostics_are = refl

pub answers_are : sorted_answers (declaration_answers unit) ≡ ((6 ∷ 1 ∷ 5 ∷ []) ∷ (7 ∷ 1 ∷ 5 ∷ []) ∷ (8 ∷ 1 ∷ 6 ∷ []) ∷ (9 ∷ 1 ∷ 6 ∷ []) ∷ (13 ∷ 2 ∷ 6 ∷ []) ∷ (14 ∷ 2 ∷ 5 ∷ []) ∷ (18 ∷ 3 ∷ 0 ∷ []) ∷ (20 ∷ 1 ∷ 5 ∷ []) ∷ (23 ∷ 3 ∷ 6 ∷ []) ∷ (30 ∷ 3 ∷ 0 ∷ []) ∷ [])
unfolding unit_rows declare_block blocks_of declaration_answers standard_names
answers_are = refl
