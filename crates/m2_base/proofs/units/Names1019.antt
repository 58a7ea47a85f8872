-- A unit, with what its declarations give. Names are numbered from 28 on as they come here.
--
-- M.mod:
--     MODULE M; FROM C IMPORT Other; FROM D IMPORT Other, Few, v; VAR x0: Other; BEGIN x0 := VAL(Few, 0) END M.
--
-- C.def:
--     DEFINITION MODULE C; TYPE Other = (amber, one, blue, green); TYPE Tint = SET OF Other; VAR v: Tint; END C.
--
-- D.def:
--     DEFINITION MODULE D; TYPE Other = (two, one, red, amber); TYPE Few = (amber, two, blue, red); VAR v: Other; END
--     D.
use Rattle.std.specs.Prelude.{◌≡◌, pos, false, List, [], ◌∷◌, ◌++◌, Some, None}
use Rattle.std.proofs.Common.{refl}
use Rattle.m2_base.specs.Names.{standard_names}
use Rattle.m2_base.specs.Rows.{Row, numbers_row}
use Rattle.m2_base.specs.Standard.{standard_rows}
use Rattle.m2_base.specs.Statics.BlockRows.{declare_block}
use Rattle.m2_base.specs.Statics.Blocks.{UnitTrees, blocks_of}
use Rattle.m2_base.specs.Statics.UnitNotes.{declaration_diags, declaration_answers}
use Rattle.m2_base.specs.Statics.UnitRows.{unit_rows}
use Rattle.m2_base.specs.Trees.{Stream, Main, Definition, type_expr, named_type, enum_type, set_type, type_decl, vars_decl, statements}
use Rattle.m2_base.proofs.UnitTerms.{ident, qual, an_import, stream, definition_module, sorted_diags, sorted_answers}

abbrev tree_1 : Stream
tree_1 = stream Definition false (Some (ident 28 2)) ([]) None ((type_decl (ident 29 5) (Some (type_expr 7 (enum_type ((ident 33 8) ∷ (ident 34 10) ∷ (ident 35 12) ∷ (ident 36 14) ∷ []))))) ∷ (type_decl (ident 37 18) (Some (type_expr 20 (set_type (type_expr 22 (named_type (qual (ident 29 22) None))))))) ∷ (vars_decl ((ident 32 25) ∷ []) (type_expr 27 (named_type (qual (ident 37 27) None)))) ∷ []) (statements []) (ident 28 30)

abbrev tree_2 : Stream
tree_2 = stream Definition false (Some (ident 30 2)) ([]) None ((type_decl (ident 29 5) (Some (type_expr 7 (enum_type ((ident 38 8) ∷ (ident 34 10) ∷ (ident 39 12) ∷ (ident 33 14) ∷ []))))) ∷ (type_decl (ident 31 18) (Some (type_expr 20 (enum_type ((ident 33 21) ∷ (ident 38 23) ∷ (ident 35 25) ∷ (ident 39 27) ∷ []))))) ∷ (vars_decl ((ident 32 31) ∷ []) (type_expr 33 (named_type (qual (ident 29 33) None)))) ∷ []) (statements []) (ident 30 36)

abbrev tree_3 : Stream
tree_3 = stream Main false (Some (ident 40 1)) ((an_import (Some (ident 28 4)) ((ident 29 6) ∷ [])) ∷ (an_import (Some (ident 30 9)) ((ident 29 11) ∷ (ident 31 13) ∷ (ident 32 15) ∷ [])) ∷ []) None ((vars_decl ((ident 41 18) ∷ []) (type_expr 20 (named_type (qual (ident 29 20) None)))) ∷ []) (statements []) (ident 40 32)

abbrev rows_1 : List Row
rows_1 = ((numbers_row 0 7 11 (pos 4) (pos 0) (pos 0) (pos 0)) ∷ (numbers_row 33 8 1 (pos 4294967296) (pos 0) (pos 0) (pos 0)) ∷ (numbers_row 34 10 1 (pos 4294967296) (pos 1) (pos 0) (pos 0)) ∷ (numbers_row 35 12 1 (pos 4294967296) (pos 2) (pos 0) (pos 0)) ∷ (numbers_row 36 14 1 (pos 4294967296) (pos 3) (pos 0) (pos 0)) ∷ (numbers_row 29 5 2 (pos 4294967296) (pos 0) (pos 0) (pos 0)) ∷ (numbers_row 0 20 16 (pos 4294967296) (pos 0) (pos 0) (pos 0)) ∷ (numbers_row 37 18 2 (pos 4294967302) (pos 0) (pos 0) (pos 0)) ∷ (numbers_row 32 25 3 (pos 4294967302) (pos 0) (pos 0) (pos 0)) ∷ [])

abbrev rows_2 : List Row
rows_2 = ((numbers_row 0 7 11 (pos 4) (pos 0) (pos 0) (pos 0)) ∷ (numbers_row 38 8 1 (pos 8589934592) (pos 0) (pos 0) (pos 0)) ∷ (numbers_row 34 10 1 (pos 8589934592) (pos 1) (pos 0) (pos 0)) ∷ (numbers_row 39 12 1 (pos 8589934592) (pos 2) (pos 0) (pos 0)) ∷ (numbers_row 33 14 1 (pos 8589934592) (pos 3) (pos 0) (pos 0)) ∷ (numbers_row 29 5 2 (pos 8589934592) (pos 0) (pos 0) (pos 0)) ∷ (numbers_row 0 20 11 (pos 4) (pos 0) (pos 0) (pos 0)) ∷ (numbers_row 0 21 1 (pos 8589934598) (pos 0) (pos 0) (pos 0)) ∷ (numbers_row 0 23 1 (pos 8589934598) (pos 1) (pos 0) (pos 0)) ∷ (numbers_row 35 25 1 (pos 8589934598) (pos 2) (pos 0) (pos 0)) ∷ (numbers_row 0 27 1 (pos 8589934598) (pos 3) (pos 0) (pos 0)) ∷ (numbers_row 31 18 2 (pos 8589934598) (pos 0) (pos 0) (pos 0)) ∷ (numbers_row 32 31 3 (pos 8589934592) (pos 0) (pos 0) (pos 0)) ∷ [])

abbrev rows_3 : List Row
rows_3 = ((numbers_row 29 6 6 (pos 4294967301) (pos 0) (pos 0) (pos 0)) ∷ (numbers_row 33 6 6 (pos 4294967297) (pos 0) (pos 0) (pos 0)) ∷ (numbers_row 34 6 6 (pos 4294967298) (pos 0) (pos 0) (pos 0)) ∷ (numbers_row 35 6 6 (pos 4294967299) (pos 0) (pos 0) (pos 0)) ∷ (numbers_row 36 6 6 (pos 4294967300) (pos 0) (pos 0) (pos 0)) ∷ (numbers_row 0 11 6 (pos 8589934597) (pos 0) (pos 0) (pos 0)) ∷ (numbers_row 38 11 6 (pos 8589934593) (pos 0) (pos 0) (pos 0)) ∷ (numbers_row 39 11 6 (pos 8589934595) (pos 0) (pos 0) (pos 0)) ∷ (numbers_row 31 13 6 (pos 8589934603) (pos 0) (pos 0) (pos 0)) ∷ (numbers_row 32 15 6 (pos 8589934604) (pos 0) (pos 0) (pos 0)) ∷ (numbers_row 41 18 3 (pos 4294967296) (pos 0) (pos 0) (pos 0)) ∷ [])

abbrev unit : UnitTrees
unit = record {
  source = record { spellings = standard_names ++ ((67 ∷ []) ∷ (79 ∷ 116 ∷ 104 ∷ 101 ∷ 114 ∷ []) ∷ (68 ∷ []) ∷ (70 ∷ 101 ∷ 119 ∷ []) ∷ (118 ∷ []) ∷ (97 ∷ 109 ∷ 98 ∷ 101 ∷ 114 ∷ []) ∷ (111 ∷ 110 ∷ 101 ∷ []) ∷ (98 ∷ 108 ∷ 117 ∷ 101 ∷ []) ∷ (103 ∷ 114 ∷ 101 ∷ 101 ∷ 110 ∷ []) ∷ (84 ∷ 105 ∷ 110 ∷ 116 ∷ []) ∷ (116 ∷ 119 ∷ 111 ∷ []) ∷ (114 ∷ 101 ∷ 100 ∷ []) ∷ (77 ∷ []) ∷ (120 ∷ 48 ∷ []) ∷ []); definitions = ((definition_module 28 1) ∷ (definition_module 30 2) ∷ []) };
  own = None;
  definitions = (tree_1 ∷ tree_2 ∷ []);
  main = (tree_3 ∷ []);
}

pub rows_are : unit_rows unit ≡ standard_rows ∷ (rows_1 ∷ rows_2 ∷ rows_3 ∷ [])
unfolding unit_rows declare_block blocks_of standard_names
rows_are = refl

pub diagnostics_are : sorted_diags (declaration_diags unit) ≡ ((0 ∷ 11 ∷ 42 ∷ []) ∷ (0 ∷ 13 ∷ 42 ∷ []) ∷ (2 ∷ 21 ∷ 42 ∷ []) ∷ (2 ∷ 23 ∷ 42 ∷ []) ∷ (2 ∷ 27 ∷ 42 ∷ []) ∷ [])
unfolding unit_rows declare_block blocks_of declaration_diags standard_names
diagnostics_are = refl

pub answers_are : sorted_answers (declaration_answers unit) ≡ ((6 ∷ 1 ∷ 5 ∷ []) ∷ (11 ∷ 2 ∷ 5 ∷ []) ∷ (13 ∷ 2 ∷ 11 ∷ []) ∷ (15 ∷ 2 ∷ 12 ∷ []) ∷ (20 ∷ 3 ∷ 0 ∷ []) ∷ (22 ∷ 1 ∷ 5 ∷ []) ∷ (27 ∷ 1 ∷ 7 ∷ []) ∷ (33 ∷ 2 ∷ 5 ∷ []) ∷ [])
unfolding unit_rows declare_block blocks_of declaration_answers standard_names
answers_are = refl
