-- A unit, with what its declarations give. Names are numbered from 28 on as they come here.
--
-- M.mod:
--     MODULE M; FROM C IMPORT Few, blue, Tint, k; FROM D IMPORT v, red, Tint, Other; TYPE T = [green..two]; VAR red:
--     Tint; VAR x1: Other; BEGIN IF red = one THEN red := one END END M.
--
-- C.def:
--     DEFINITION MODULE C; TYPE Few = (amber, blue); TYPE Tint = (one, two); CONST k = "x"; END C.
--
-- D.def:
--     DEFINITION MODULE D; TYPE Other = (amber, blue); TYPE Tint = Other; VAR v: Tint; CONST k = red; END D.
use Rattle.std.specs.Prelude.{◌≡◌, pos, false, List, [], ◌∷◌, ◌++◌, Some, None}
use Rattle.std.proofs.Common.{refl}
use Rattle.m2_base.specs.Names.{standard_names}
use Rattle.m2_base.specs.Rows.{Row, numbers_row}
use Rattle.m2_base.specs.Standard.{standard_rows}
use Rattle.m2_base.specs.Statics.BlockRows.{declare_block}
use Rattle.m2_base.specs.Statics.Blocks.{UnitTrees, blocks_of}
use Rattle.m2_base.specs.Statics.UnitNotes.{declaration_diags, declaration_answers}
use Rattle.m2_base.specs.Statics.UnitRows.{unit_rows}
use Rattle.m2_base.specs.Trees.{Stream, Main, Definition, expr, string_form, name_form, designator, selectors, type_expr, named_type, enum_type, sub_type, const_decl, type_decl, vars_decl, statements}
use Rattle.m2_base.proofs.UnitTerms.{ident, qual, an_import, stream, definition_module, sorted_diags, sorted_answers}

abbrev tree_1 : Stream
tree_1 = stream Definition false (Some (ident 28 2)) ([]) None ((type_decl (ident 29 5) (Some (type_expr 7 (enum_type ((ident 37 8) ∷ (ident 30 10) ∷ []))))) ∷ (type_decl (ident 31 14) (Some (type_expr 16 (enum_type ((ident 38 17) ∷ (ident 39 19) ∷ []))))) ∷ (const_decl (ident 32 23) (expr 25 (string_form 40))) ∷ []) (statements []) (ident 28 28)

abbrev tree_2 : Stream
tree_2 = stream Definition false (Some (ident 33 2)) ([]) None ((type_decl (ident 36 5) (Some (type_expr 7 (enum_type ((ident 37 8) ∷ (ident 30 10) ∷ []))))) ∷ (type_decl (ident 31 14) (Some (type_expr 16 (named_type (qual (ident 36 16) None))))) ∷ (vars_decl ((ident 34 19) ∷ []) (type_expr 21 (named_type (qual (ident 31 21) None)))) ∷ (const_decl (ident 32 24) (expr 26 (name_form (designator (ident 35 26) (selectors ([])))))) ∷ []) (statements []) (ident 33 29)

abbrev tree_3 : Stream
tree_3 = stream Main false (Some (ident 41 1)) ((an_import (Some (ident 28 4)) ((ident 29 6) ∷ (ident 30 8) ∷ (ident 31 10) ∷ (ident 32 12) ∷ [])) ∷ (an_import (Some (ident 33 15)) ((ident 34 17) ∷ (ident 35 19) ∷ (ident 31 21) ∷ (ident 36 23) ∷ [])) ∷ []) None ((type_decl (ident 42 26) (Some (type_expr 28 (sub_type None (expr 29 (name_form (designator (ident 43 29) (selectors ([]))))) (expr 31 (name_form (designator (ident 39 31) (selectors ([]))))))))) ∷ (vars_decl ((ident 35 35) ∷ []) (type_expr 37 (named_type (qual (ident 31 37) None)))) ∷ (vars_decl ((ident 44 40) ∷ []) (type_expr 42 (named_type (qual (ident 36 42) None)))) ∷ []) (statements []) (ident 41 55)

abbrev rows_1 : List Row
rows_1 = ((numbers_row 0 7 11 (pos 2) (pos 0) (pos 0) (pos 0)) ∷ (numbers_row 37 8 1 (pos 4294967296) (pos 0) (pos 0) (pos 0)) ∷ (numbers_row 30 10 1 (pos 4294967296) (pos 1) (pos 0) (pos 0)) ∷ (numbers_row 29 5 2 (pos 4294967296) (pos 0) (pos 0) (pos 0)) ∷ (numbers_row 0 16 11 (pos 2) (pos 0) (pos 0) (pos 0)) ∷ (numbers_row 38 17 1 (pos 4294967300) (pos 0) (pos 0) (pos 0)) ∷ (numbers_row 39 19 1 (pos 4294967300) (pos 1) (pos 0) (pos 0)) ∷ (numbers_row 31 14 2 (pos 4294967300) (pos 0) (pos 0) (pos 0)) ∷ (numbers_row 32 23 1 (pos 8) (pos 40) (pos 1) (pos 0)) ∷ [])

abbrev rows_2 : List Row
rows_2 = ((numbers_row 0 7 11 (pos 2) (pos 0) (pos 0) (pos 0)) ∷ (numbers_row 37 8 1 (pos 8589934592) (pos 0) (pos 0) (pos 0)) ∷ (numbers_row 30 10 1 (pos 8589934592) (pos 1) (pos 0) (pos 0)) ∷ (numbers_row 36 5 2 (pos 8589934592) (pos 0) (pos 0) (pos 0)) ∷ (numbers_row 31 14 2 (pos 8589934592) (pos 0) (pos 0) (pos 0)) ∷ (numbers_row 34 19 3 (pos 8589934592) (pos 0) (pos 0) (pos 0)) ∷ (numbers_row 32 24 1 (pos 10) (pos 0) (pos 0) (pos 0)) ∷ [])

abbrev rows_3 : List Row
rows_3 = ((numbers_row 29 6 6 (pos 4294967299) (pos 0) (pos 0) (pos 0)) ∷ (numbers_row 37 6 6 (pos 4294967297) (pos 0) (pos 0) (pos 0)) ∷ (numbers_row 30 6 6 (pos 4294967298) (pos 0) (pos 0) (pos 0)) ∷ (numbers_row 0 8 6 (pos 4294967298) (pos 0) (pos 0) (pos 0)) ∷ (numbers_row 31 10 6 (pos 4294967303) (pos 0) (pos 0) (pos 0)) ∷ (numbers_row 38 10 6 (pos 4294967301) (pos 0) (pos 0) (pos 0)) ∷ (numbers_row 39 10 6 (pos 4294967302) (pos 0) (pos 0) (pos 0)) ∷ (numbers_row 32 12 6 (pos 4294967304) (pos 0) (pos 0) (pos 0)) ∷ (numbers_row 34 17 6 (pos 8589934597) (pos 0) (pos 0) (pos 0)) ∷ (numbers_row 35 19 6 (pos 10) (pos 0) (pos 0) (pos 0)) ∷ (numbers_row 0 21 6 (pos 8589934596) (pos 0) (pos 0) (pos 0)) ∷ (numbers_row 36 23 6 (pos 8589934595) (pos 0) (pos 0) (pos 0)) ∷ (numbers_row 0 28 12 (pos 10) (pos 0) (pos 0) (pos 0)) ∷ (numbers_row 42 26 2 (pos 10) (pos 0) (pos 0) (pos 0)) ∷ (numbers_row 0 35 3 (pos 4294967300) (pos 0) (pos 0) (pos 0)) ∷ (numbers_row 44 40 3 (pos 8589934592) (pos 0) (pos 1) (pos 0)) ∷ [])

abbrev unit : UnitTrees
unit = record {
  source = record { spellings = standard_names ++ ((67 ∷ []) ∷ (70 ∷ 101 ∷ 119 ∷ []) ∷ (98 ∷ 108 ∷ 117 ∷ 101 ∷ []) ∷ (84 ∷ 105 ∷ 110 ∷ 116 ∷ []) ∷ (107 ∷ []) ∷ (68 ∷ []) ∷ (118 ∷ []) ∷ (114 ∷ 101 ∷ 100 ∷ []) ∷ (79 ∷ 116 ∷ 104 ∷ 101 ∷ 114 ∷ []) ∷ (97 ∷ 109 ∷ 98 ∷ 101 ∷ 114 ∷ []) ∷ (111 ∷ 110 ∷ 101 ∷ []) ∷ (116 ∷ 119 ∷ 111 ∷ []) ∷ (120 ∷ []) ∷ (77 ∷ []) ∷ (84 ∷ []) ∷ (103 ∷ 114 ∷ 101 ∷ 101 ∷ 110 ∷ []) ∷ (120 ∷ 49 ∷ []) ∷ []); definitions = ((definition_module 28 1) ∷ (definition_module 33 2) ∷ []) };
  own = None;
  definitions = (tree_1 ∷ tree_2 ∷ []);
  main = (tree_3 ∷ []);
}

pub rows_are : unit_rows unit ≡ standard_rows ∷ (rows_1 ∷ rows_2 ∷ rows_3 ∷ [])
unfolding unit_rows declare_block blocks_of standard_names
rows_are = refl

pub diagnostics_are : sorted_diags (declaration_diags unit) ≡ ((0 ∷ 19 ∷ 44 ∷ []) ∷ (0 ∷ 21 ∷ 42 ∷ []) ∷ (0 ∷ 23 ∷ 42 ∷ []) ∷ (0 ∷ 29 ∷ 40 ∷ []) ∷ (0 ∷ 35 ∷ 42 ∷ []) ∷ (2 ∷ 26 ∷ 40 ∷ []) ∷ [])
unfolding unit_rows declare_block blocks_of declaration_diags standard_names
diagnostics_are = refl

pub answers_are : sorted_answers (declaration_answers unit) ≡ ((6 ∷ 1 ∷ 3 ∷ []) ∷ (8 ∷ 1 ∷ 2 ∷ []) ∷ (10 ∷ 1 ∷ 7 ∷ []) ∷ (12 ∷ 1 ∷ 8 ∷ []) ∷ (16 ∷ 2 ∷ 3 ∷ []) ∷ (17 ∷ 2 ∷ 5 ∷ []) ∷ (21 ∷ 2 ∷ 4 ∷ []) ∷ (23 ∷ 2 ∷ 3 ∷ []) ∷ (31 ∷ 3 ∷ 6 ∷ []) ∷ (37 ∷ 3 ∷ 4 ∷ []) ∷ (42 ∷ 3 ∷ 11 ∷ []) ∷ [])
unfolding unit_rows declare_block blocks_of declaration_answers standard_names
answers_are = refl
