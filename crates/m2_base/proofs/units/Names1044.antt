-- A unit, with what its declarations give. Names are numbered from 28 on as they come here.
--
-- M.mod:
--     MODULE M; FROM C IMPORT Few, Other; TYPE T = [blue..two]; VAR two: Other; VAR x1: Few; PROCEDURE P(p: Few);
--     BEGIN INCL(two, green); x1 := VAL(Few, 0); two := x1; FOR two := amber TO amber DO END END P; BEGIN INCL(two,
--     red); two := one; FOR two := two TO two DO END END M.
--
-- C.def:
--     DEFINITION MODULE C; TYPE Tint = (two, blue); TYPE Other = (blue, amber); TYPE Few = (green, amber, two); END
--     C.
use Rattle.std.specs.Prelude.{◌≡◌, pos, negsuc, false, List, [], ◌∷◌, ◌++◌, Some, None}
use Rattle.std.proofs.Common.{refl}
use Rattle.m2_base.specs.Names.{standard_names}
use Rattle.m2_base.specs.Rows.{Row, numbers_row}
use Rattle.m2_base.specs.Standard.{standard_rows}
use Rattle.m2_base.specs.Statics.BlockRows.{declare_block}
use Rattle.m2_base.specs.Statics.Blocks.{UnitTrees, blocks_of}
use Rattle.m2_base.specs.Statics.UnitNotes.{declaration_diags, declaration_answers}
use Rattle.m2_base.specs.Statics.UnitRows.{unit_rows}
use Rattle.m2_base.specs.Trees.{Stream, Main, Definition, Procedure, expr, name_form, designator, selectors, type_expr, named_type, enum_type, sub_type, type_decl, vars_decl, proc_decl, statements}
use Rattle.m2_base.proofs.UnitTerms.{ident, qual, section, heading, an_import, stream, definition_module, sorted_diags, sorted_answers}

abbrev tree_1 : Stream
tree_1 = stream Definition false (Some (ident 28 2)) ([]) None ((type_decl (ident 31 5) (Some (type_expr 7 (enum_type ((ident 32 8) ∷ (ident 33 10) ∷ []))))) ∷ (type_decl (ident 30 14) (Some (type_expr 16 (enum_type ((ident 33 17) ∷ (ident 34 19) ∷ []))))) ∷ (type_decl (ident 29 23) (Some (type_expr 25 (enum_type ((ident 35 26) ∷ (ident 34 28) ∷ (ident 32 30) ∷ []))))) ∷ []) (statements []) (ident 28 34)

abbrev tree_2 : Stream
tree_2 = stream Main false (Some (ident 36 1)) ((an_import (Some (ident 28 4)) ((ident 29 6) ∷ (ident 30 8) ∷ [])) ∷ []) None ((type_decl (ident 37 11) (Some (type_expr 13 (sub_type None (expr 14 (name_form (designator (ident 33 14) (selectors ([]))))) (expr 16 (name_form (designator (ident 32 16) (selectors ([]))))))))) ∷ (vars_decl ((ident 32 20) ∷ []) (type_expr 22 (named_type (qual (ident 30 22) None)))) ∷ (vars_decl ((ident 38 25) ∷ []) (type_expr 27 (named_type (qual (ident 29 27) None)))) ∷ (proc_decl (heading (ident 39 30) ((section false ((ident 40 32) ∷ []) false (qual (ident 29 34) None)) ∷ []) None) 3) ∷ []) (statements []) (ident 36 90)

abbrev tree_3 : Stream
tree_3 = stream Procedure false None [] (Some (heading (ident 39 30) ((section false ((ident 40 32) ∷ []) false (qual (ident 29 34) None)) ∷ []) None)) ([]) (statements []) (ident 39 67)

abbrev rows_1 : List Row
rows_1 = ((numbers_row 0 7 11 (pos 2) (pos 0) (pos 0) (pos 0)) ∷ (numbers_row 32 8 1 (pos 4294967296) (pos 0) (pos 0) (pos 0)) ∷ (numbers_row 33 10 1 (pos 4294967296) (pos 1) (pos 0) (pos 0)) ∷ (numbers_row 31 5 2 (pos 4294967296) (pos 0) (pos 0) (pos 0)) ∷ (numbers_row 0 16 11 (pos 2) (pos 0) (pos 0) (pos 0)) ∷ (numbers_row 0 17 1 (pos 4294967300) (pos 0) (pos 0) (pos 0)) ∷ (numbers_row 34 19 1 (pos 4294967300) (pos 1) (pos 0) (pos 0)) ∷ (numbers_row 30 14 2 (pos 4294967300) (pos 0) (pos 0) (pos 0)) ∷ (numbers_row 0 25 11 (pos 3) (pos 0) (pos 0) (pos 0)) ∷ (numbers_row 35 26 1 (pos 4294967304) (pos 0) (pos 0) (pos 0)) ∷ (numbers_row 0 28 1 (pos 4294967304) (pos 1) (pos 0) (pos 0)) ∷ (numbers_row 0 30 1 (pos 4294967304) (pos 2) (pos 0) (pos 0)) ∷ (numbers_row 29 23 2 (pos 4294967304) (pos 0) (pos 0) (pos 0)) ∷ [])

abbrev rows_2 : List Row
rows_2 = ((numbers_row 29 6 6 (pos 4294967308) (pos 0) (pos 0) (pos 0)) ∷ (numbers_row 35 6 6 (pos 4294967305) (pos 0) (pos 0) (pos 0)) ∷ (numbers_row 30 8 6 (pos 4294967303) (pos 0) (pos 0) (pos 0)) ∷ (numbers_row 34 8 6 (pos 4294967302) (pos 0) (pos 0) (pos 0)) ∷ (numbers_row 0 13 12 (pos 10) (pos 0) (pos 0) (pos 0)) ∷ (numbers_row 37 11 2 (pos 10) (pos 0) (pos 0) (pos 0)) ∷ (numbers_row 32 20 3 (pos 4294967300) (pos 0) (pos 0) (pos 0)) ∷ (numbers_row 38 25 3 (pos 4294967304) (pos 0) (pos 1) (pos 0)) ∷ (numbers_row 0 32 8 (pos 4294967304) (pos 0) (pos 9) (pos 0)) ∷ (numbers_row 0 30 18 (negsuc 0) (pos 1) (pos 8) (pos 0)) ∷ (numbers_row 39 30 4 (pos 8589934601) (pos 1) (pos 3) (pos 0)) ∷ [])

abbrev rows_3 : List Row
rows_3 = ((numbers_row 40 32 3 (pos 4294967304) (pos 0) (pos 0) (pos 0)) ∷ [])

abbrev unit : UnitTrees
unit = record {
  source = record { spellings = standard_names ++ ((67 ∷ []) ∷ (70 ∷ 101 ∷ 119 ∷ []) ∷ (79 ∷ 116 ∷ 104 ∷ 101 ∷ 114 ∷ []) ∷ (84 ∷ 105 ∷ 110 ∷ 116 ∷ []) ∷ (116 ∷ 119 ∷ 111 ∷ []) ∷ (98 ∷ 108 ∷ 117 ∷ 101 ∷ []) ∷ (97 ∷ 109 ∷ 98 ∷ 101 ∷ 114 ∷ []) ∷ (103 ∷ 114 ∷ 101 ∷ 101 ∷ 110 ∷ []) ∷ (77 ∷ []) ∷ (84 ∷ []) ∷ (120 ∷ 49 ∷ []) ∷ (80 ∷ []) ∷ (112 ∷ []) ∷ []); definitions = ((definition_module 28 1) ∷ []) };
  own = None;
  definitions = (tree_1 ∷ []);
  main = (tree_2 ∷ tree_3 ∷ []);
}

pub rows_are : unit_rows unit ≡ standard_rows ∷ (rows_1 ∷ rows_2 ∷ rows_3 ∷ [])
unfolding unit_rows declare_block blocks_of standard_names
rows_are = refl

pub diagnostics_are : sorted_diags (declaration_diags unit) ≡ ((0 ∷ 14 ∷ 40 ∷ []) ∷ (0 ∷ 16 ∷ 41 ∷ []) ∷ (1 ∷ 17 ∷ 42 ∷ []) ∷ (1 ∷ 28 ∷ 42 ∷ []) ∷ (1 ∷ 30 ∷ 42 ∷ []) ∷ [])
unfolding unit_rows declare_block blocks_of declaration_diags standard_names
diagnostics_are = refl

pub answers_are : sorted_answers (declaration_answers unit) ≡ ((6 ∷ 1 ∷ 12 ∷ []) ∷ (8 ∷ 1 ∷ 7 ∷ []) ∷ (22 ∷ 2 ∷ 2 ∷ []) ∷ (27 ∷ 2 ∷ 0 ∷ []) ∷ (34 ∷ 2 ∷ 0 ∷ []) ∷ [])
unfolding unit_rows declare_block blocks_of declaration_answers standard_names
answers_are = refl
