-- A unit, with what its declarations give. Names are numbered from 28 on as they come here.
--
-- M.mod:
--     MODULE M; FROM D IMPORT red, Other; FROM C IMPORT Tint, amber, Color, Few; VAR x0: Tint; VAR two: Other;
--     PROCEDURE P(p: Other); BEGIN IF two = two THEN two := two END END P; BEGIN x0 := VAL(Few, 0); x0 := two; FOR x0
--     := green TO green DO END END M.
--
-- D.def:
--     DEFINITION MODULE D; TYPE Other = (red, one, two, blue); TYPE Few = (one); TYPE Tint = (red, green, blue); END
--     D.
--
-- C.def:
--     DEFINITION MODULE C; TYPE Tint = (green, amber, one, two); TYPE Color = (blue, two); TYPE Few = (amber); END C.
use Rattle.std.specs.Prelude.{◌≡◌, pos, negsuc, false, List, [], ◌∷◌, ◌++◌, Some, None}
use Rattle.std.proofs.Common.{refl}
use Rattle.m2_base.specs.Names.{standard_names}
use Rattle.m2_base.specs.Rows.{Row, numbers_row}
use Rattle.m2_base.specs.Standard.{standard_rows}
use Rattle.m2_base.specs.Statics.BlockRows.{declare_block}
use Rattle.m2_base.specs.Statics.Blocks.{UnitTrees, blocks_of}
use Rattle.m2_base.specs.Statics.UnitNotes.{declaration_diags, declaration_answers}
use Rattle.m2_base.specs.Statics.UnitRows.{unit_rows}
use Rattle.m2_base.specs.Trees.{Stream, Main, Definition, Procedure, type_expr, named_type, enum_type, type_decl, vars_decl, proc_decl, statements}
use Rattle.m2_base.proofs.UnitTerms.{ident, qual, section, heading, an_import, stream, definition_module, sorted_diags, sorted_answers}

abbrev tree_1 : Stream
tree_1 = stream Definition false (Some (ident 28 2)) ([]) None ((type_decl (ident 30 5) (Some (type_expr 7 (enum_type ((ident 29 8) ∷ (ident 36 10) ∷ (ident 37 12) ∷ (ident 38 14) ∷ []))))) ∷ (type_decl (ident 35 18) (Some (type_expr 20 (enum_type ((ident 36 21) ∷ []))))) ∷ (type_decl (ident 32 25) (Some (type_expr 27 (enum_type ((ident 29 28) ∷ (ident 39 30) ∷ (ident 38 32) ∷ []))))) ∷ []) (statements []) (ident 28 36)

abbrev tree_2 : Stream
tree_2 = stream Definition false (Some (ident 31 2)) ([]) None ((type_decl (ident 32 5) (Some (type_expr 7 (enum_type ((ident 39 8) ∷ (ident 33 10) ∷ (ident 36 12) ∷ (ident 37 14) ∷ []))))) ∷ (type_decl (ident 34 18) (Some (type_expr 20 (enum_type ((ident 38 21) ∷ (ident 37 23) ∷ []))))) ∷ (type_decl (ident 35 27) (Some (type_expr 29 (enum_type ((ident 33 30) ∷ []))))) ∷ []) (statements []) (ident 31 34)

abbrev tree_3 : Stream
tree_3 = stream Main false (Some (ident 40 1)) ((an_import (Some (ident 28 4)) ((ident 29 6) ∷ (ident 30 8) ∷ [])) ∷ (an_import (Some (ident 31 11)) ((ident 32 13) ∷ (ident 33 15) ∷ (ident 34 17) ∷ (ident 35 19) ∷ [])) ∷ []) None ((vars_decl ((ident 41 22) ∷ []) (type_expr 24 (named_type (qual (ident 32 24) None)))) ∷ (vars_decl ((ident 37 27) ∷ []) (type_expr 29 (named_type (qual (ident 30 29) None)))) ∷ (proc_decl (heading (ident 42 32) ((section false ((ident 43 34) ∷ []) false (qual (ident 30 36) None)) ∷ []) None) 4) ∷ []) (statements []) (ident 40 75)

abbrev tree_4 : Stream
tree_4 = stream Procedure false None [] (Some (heading (ident 42 32) ((section false ((ident 43 34) ∷ []) false (qual (ident 30 36) None)) ∷ []) None)) ([]) (statements []) (ident 42 50)

abbrev rows_1 : List Row
rows_1 = ((numbers_row 0 7 11 (pos 4) (pos 0) (pos 0) (pos 0)) ∷ (numbers_row 29 8 1 (pos 4294967296) (pos 0) (pos 0) (pos 0)) ∷ (numbers_row 36 10 1 (pos 4294967296) (pos 1) (pos 0) (pos 0)) ∷ (numbers_row 37 12 1 (pos 4294967296) (pos 2) (pos 0) (pos 0)) ∷ (numbers_row 38 14 1 (pos 4294967296) (pos 3) (pos 0) (pos 0)) ∷ (numbers_row 30 5 2 (pos 4294967296) (pos 0) (pos 0) (pos 0)) ∷ (numbers_row 0 20 11 (pos 1) (pos 0) (pos 0) (pos 0)) ∷ (numbers_row 0 21 1 (pos 4294967302) (pos 0) (pos 0) (pos 0)) ∷ (numbers_row 35 18 2 (pos 4294967302) (pos 0) (pos 0) (pos 0)) ∷ (numbers_row 0 27 11 (pos 3) (pos 0) (pos 0) (pos 0)) ∷ (numbers_row 0 28 1 (pos 4294967305) (pos 0) (pos 0) (pos 0)) ∷ (numbers_row 39 30 1 (pos 4294967305) (pos 1) (pos 0) (pos 0)) ∷ (numbers_row 0 32 1 (pos 4294967305) (pos 2) (pos 0) (pos 0)) ∷ (numbers_row 32 25 2 (pos 4294967305) (pos 0) (pos 0) (pos 0)) ∷ [])

abbrev rows_2 : List Row
rows_2 = ((numbers_row 0 7 11 (pos 4) (pos 0) (pos 0) (pos 0)) ∷ (numbers_row 39 8 1 (pos 8589934592) (pos 0) (pos 0) (pos 0)) ∷ (numbers_row 33 10 1 (pos 8589934592) (pos 1) (pos 0) (pos 0)) ∷ (numbers_row 36 12 1 (pos 8589934592) (pos 2) (pos 0) (pos 0)) ∷ (numbers_row 37 14 1 (pos 8589934592) (pos 3) (pos 0) (pos 0)) ∷ (numbers_row 32 5 2 (pos 8589934592) (pos 0) (pos 0) (pos 0)) ∷ (numbers_row 0 20 11 (pos 2) (pos 0) (pos 0) (pos 0)) ∷ (numbers_row 38 21 1 (pos 8589934598) (pos 0) (pos 0) (pos 0)) ∷ (numbers_row 0 23 1 (pos 8589934598) (pos 1) (pos 0) (pos 0)) ∷ (numbers_row 34 18 2 (pos 8589934598) (pos 0) (pos 0) (pos 0)) ∷ (numbers_row 0 29 11 (pos 1) (pos 0) (pos 0) (pos 0)) ∷ (numbers_row 0 30 1 (pos 8589934602) (pos 0) (pos 0) (pos 0)) ∷ (numbers_row 35 27 2 (pos 8589934602) (pos 0) (pos 0) (pos 0)) ∷ [])

abbrev rows_3 : List Row
rows_3 = ((numbers_row 29 6 6 (pos 4294967297) (pos 0) (pos 0) (pos 0)) ∷ (numbers_row 30 8 6 (pos 4294967301) (pos 0) (pos 0) (pos 0)) ∷ (numbers_row 36 8 6 (pos 4294967298) (pos 0) (pos 0) (pos 0)) ∷ (numbers_row 37 8 6 (pos 4294967299) (pos 0) (pos 0) (pos 0)) ∷ (numbers_row 38 8 6 (pos 4294967300) (pos 0) (pos 0) (pos 0)) ∷ (numbers_row 32 13 6 (pos 8589934597) (pos 0) (pos 0) (pos 0)) ∷ (numbers_row 39 13 6 (pos 8589934593) (pos 0) (pos 0) (pos 0)) ∷ (numbers_row 33 13 6 (pos 8589934594) (pos 0) (pos 0) (pos 0)) ∷ (numbers_row 0 15 6 (pos 8589934594) (pos 0) (pos 0) (pos 0)) ∷ (numbers_row 34 17 6 (pos 8589934601) (pos 0) (pos 0) (pos 0)) ∷ (numbers_row 35 19 6 (pos 8589934604) (pos 0) (pos 0) (pos 0)) ∷ (numbers_row 41 22 3 (pos 8589934592) (pos 0) (pos 0) (pos 0)) ∷ (numbers_row 0 27 3 (pos 4294967296) (pos 0) (pos 1) (pos 0)) ∷ (numbers_row 0 34 8 (pos 4294967296) (pos 0) (pos 14) (pos 0)) ∷ (numbers_row 0 32 18 (negsuc 0) (pos 1) (pos 13) (pos 0)) ∷ (numbers_row 42 32 4 (pos 12884901902) (pos 1) (pos 4) (pos 0)) ∷ [])

abbrev rows_4 : List Row
rows_4 = ((numbers_row 43 34 3 (pos 4294967296) (pos 0) (pos 0) (pos 0)) ∷ [])

abbrev unit : UnitTrees
unit = record {
  source = record { spellings = standard_names ++ ((68 ∷ []) ∷ (114 ∷ 101 ∷ 100 ∷ []) ∷ (79 ∷ 116 ∷ 104 ∷ 101 ∷ 114 ∷ []) ∷ (67 ∷ []) ∷ (84 ∷ 105 ∷ 110 ∷ 116 ∷ []) ∷ (97 ∷ 109 ∷ 98 ∷ 101 ∷ 114 ∷ []) ∷ (67 ∷ 111 ∷ 108 ∷ 111 ∷ 114 ∷ []) ∷ (70 ∷ 101 ∷ 119 ∷ []) ∷ (111 ∷ 110 ∷ 101 ∷ []) ∷ (116 ∷ 119 ∷ 111 ∷ []) ∷ (98 ∷ 108 ∷ 117 ∷ 101 ∷ []) ∷ (103 ∷ 114 ∷ 101 ∷ 101 ∷ 110 ∷ []) ∷ (77 ∷ []) ∷ (120 ∷ 48 ∷ []) ∷ (80 ∷ []) ∷ (112 ∷ []) ∷ []); definitions = ((definition_module 28 1) ∷ (definition_module 31 2) ∷ []) };
  own = None;
  definitions = (tree_1 ∷ tree_2 ∷ []);
  main = (tree_3 ∷ tree_4 ∷ []);
}

pub rows_are : unit_rows unit ≡ standard_rows ∷ (rows_1 ∷ rows_2 ∷ rows_3 ∷ rows_4 ∷ [])
unfolding unit_rows declare_block blocks_of standard_names
rows_are = refl

pub diagnostics_are : sorted_diags (declaration_diags unit) ≡ ((0 ∷ 13 ∷ 42 ∷ []) ∷ (0 ∷ 17 ∷ 42 ∷ []) ∷ (0 ∷ 27 ∷ 42 ∷ []) ∷ (1 ∷ 21 ∷ 42 ∷ []) ∷ (1 ∷ 28 ∷ 42 ∷ []) ∷ (1 ∷ 32 ∷ 42 ∷ []) ∷ (2 ∷ 23 ∷ 42 ∷ []) ∷ (2 ∷ 30 ∷ 42 ∷ []) ∷ [])
unfolding unit_rows declare_block blocks_of declaration_diags standard_names
diagnostics_are = refl

pub answers_are : sorted_answers (declaration_answers unit) ≡ ((6 ∷ 1 ∷ 1 ∷ []) ∷ (8 ∷ 1 ∷ 5 ∷ []) ∷ (13 ∷ 2 ∷ 5 ∷ []) ∷ (15 ∷ 2 ∷ 2 ∷ []) ∷ (17 ∷ 2 ∷ 9 ∷ []) ∷ (19 ∷ 2 ∷ 12 ∷ []) ∷ (24 ∷ 3 ∷ 5 ∷ []) ∷ (29 ∷ 3 ∷ 1 ∷ []) ∷ (36 ∷ 3 ∷ 1 ∷ []) ∷ [])
unfolding unit_rows declare_block blocks_of declaration_answers standard_names
answers_are = refl
