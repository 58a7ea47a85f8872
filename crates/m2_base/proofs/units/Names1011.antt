-- A unit, with what its declarations give. Names are numbered from 28 on as they come here.
--
-- M.mod:
--     MODULE M; FROM D IMPORT amber, Color; CONST c0 = ORD(one); VAR x0: Color; VAR x1: Color; PROCEDURE P(p: Color);
--     BEGIN FOR x0 := green TO green DO END; CASE x1 OF green: | green..green: HALT ELSE END; CASE x1 OF one: |
--     one..one: HALT ELSE END END P; BEGIN FOR x0 := red TO red DO END; x0 := VAL(Color, 0) END M.
--
-- D.def:
--     DEFINITION MODULE D; FROM C IMPORT v, Other; TYPE Tint = SET OF Other; TYPE Color = SET OF Tint; CONST k = 1;
--     END D.
--
-- C.def:
--     DEFINITION MODULE C; TYPE Other = (red, blue, green, two); VAR v: Other; END C.
use Rattle.std.specs.Prelude.{◌≡◌, pos, negsuc, false, List, [], ◌∷◌, ◌++◌, Some, None}
use Rattle.std.proofs.Common.{refl}
use Rattle.m2_base.specs.Names.{standard_names}
use Rattle.m2_base.specs.Rows.{Row, numbers_row}
use Rattle.m2_base.specs.Standard.{standard_rows}
use Rattle.m2_base.specs.Statics.BlockRows.{declare_block}
use Rattle.m2_base.specs.Statics.Blocks.{UnitTrees, blocks_of}
use Rattle.m2_base.specs.Statics.UnitNotes.{declaration_diags, declaration_answers}
use Rattle.m2_base.specs.Statics.UnitRows.{unit_rows}
use Rattle.m2_base.specs.Trees.{Stream, Main, Definition, Procedure, expr, number_form, name_form, call_form, exprs, designator, selectors, type_expr, named_type, enum_type, set_type, const_decl, type_decl, vars_decl, proc_decl, statements}
use Rattle.m2_base.proofs.UnitTerms.{ident, qual, section, heading, an_import, stream, definition_module, sorted_diags, sorted_answers}

abbrev tree_1 : Stream
tree_1 = stream Definition false (Some (ident 31 2)) ([]) None ((type_decl (ident 33 5) (Some (type_expr 7 (enum_type ((ident 34 8) ∷ (ident 35 10) ∷ (ident 36 12) ∷ (ident 37 14) ∷ []))))) ∷ (vars_decl ((ident 32 18) ∷ []) (type_expr 20 (named_type (qual (ident 33 20) None)))) ∷ []) (statements []) (ident 31 23)

abbrev tree_2 : Stream
tree_2 = stream Definition false (Some (ident 28 2)) ((an_import (Some (ident 31 5)) ((ident 32 7) ∷ (ident 33 9) ∷ [])) ∷ []) None ((type_decl (ident 38 12) (Some (type_expr 14 (set_type (type_expr 16 (named_type (qual (ident 33 16) None))))))) ∷ (type_decl (ident 30 19) (Some (type_expr 21 (set_type (type_expr 23 (named_type (qual (ident 38 23) None))))))) ∷ (const_decl (ident 39 26) (expr 28 (number_form 1))) ∷ []) (statements []) (ident 28 31)

abbrev tree_3 : Stream
tree_3 = stream Main false (Some (ident 40 1)) ((an_import (Some (ident 28 4)) ((ident 29 6) ∷ (ident 30 8) ∷ [])) ∷ []) None ((const_decl (ident 41 11) (expr 13 (call_form (designator (ident 24 13) (selectors ([]))) (exprs ((expr 15 (name_form (designator (ident 42 15) (selectors ([]))))) ∷ []))))) ∷ (vars_decl ((ident 43 19) ∷ []) (type_expr 21 (named_type (qual (ident 30 21) None)))) ∷ (vars_decl ((ident 44 24) ∷ []) (type_expr 26 (named_type (qual (ident 30 26) None)))) ∷ (proc_decl (heading (ident 45 29) ((section false ((ident 46 31) ∷ []) false (qual (ident 30 33) None)) ∷ []) None) 4) ∷ []) (statements []) (ident 40 95)

abbrev tree_4 : Stream
tree_4 = stream Procedure false None [] (Some (heading (ident 45 29) ((section false ((ident 46 31) ∷ []) false (qual (ident 30 33) None)) ∷ []) None)) ([]) (statements []) (ident 45 74)

abbrev rows_1 : List Row
rows_1 = ((numbers_row 0 7 11 (pos 4) (pos 0) (pos 0) (pos 0)) ∷ (numbers_row 34 8 1 (pos 4294967296) (pos 0) (pos 0) (pos 0)) ∷ (numbers_row 35 10 1 (pos 4294967296) (pos 1) (pos 0) (pos 0)) ∷ (numbers_row 36 12 1 (pos 4294967296) (pos 2) (pos 0) (pos 0)) ∷ (numbers_row 37 14 1 (pos 4294967296) (pos 3) (pos 0) (pos 0)) ∷ (numbers_row 33 5 2 (pos 4294967296) (pos 0) (pos 0) (pos 0)) ∷ (numbers_row 32 18 3 (pos 4294967296) (pos 0) (pos 0) (pos 0)) ∷ [])

abbrev rows_2 : List Row
rows_2 = ((numbers_row 32 7 6 (pos 4294967302) (pos 0) (pos 0) (pos 0)) ∷ (numbers_row 33 9 6 (pos 4294967301) (pos 0) (pos 0) (pos 0)) ∷ (numbers_row 34 9 6 (pos 4294967297) (pos 0) (pos 0) (pos 0)) ∷ (numbers_row 35 9 6 (pos 4294967298) (pos 0) (pos 0) (pos 0)) ∷ (numbers_row 36 9 6 (pos 4294967299) (pos 0) (pos 0) (pos 0)) ∷ (numbers_row 37 9 6 (pos 4294967300) (pos 0) (pos 0) (pos 0)) ∷ (numbers_row 0 14 16 (pos 4294967296) (pos 0) (pos 0) (pos 0)) ∷ (numbers_row 38 12 2 (pos 8589934598) (pos 0) (pos 0) (pos 0)) ∷ (numbers_row 0 21 16 (pos 10) (pos 0) (pos 0) (pos 0)) ∷ (numbers_row 30 19 2 (pos 8589934600) (pos 0) (pos 0) (pos 0)) ∷ (numbers_row 39 26 1 (pos 9) (pos 1) (pos 0) (pos 0)) ∷ [])

abbrev rows_3 : List Row
rows_3 = ((numbers_row 29 6 6 (pos 10) (pos 0) (pos 0) (pos 0)) ∷ (numbers_row 30 8 6 (pos 8589934601) (pos 0) (pos 0) (pos 0)) ∷ (numbers_row 41 11 1 (pos 10) (pos 0) (pos 0) (pos 0)) ∷ (numbers_row 43 19 3 (pos 8589934600) (pos 0) (pos 0) (pos 0)) ∷ (numbers_row 44 24 3 (pos 8589934600) (pos 0) (pos 1) (pos 0)) ∷ (numbers_row 0 31 8 (pos 8589934600) (pos 0) (pos 6) (pos 0)) ∷ (numbers_row 0 29 18 (negsuc 0) (pos 1) (pos 5) (pos 0)) ∷ (numbers_row 45 29 4 (pos 12884901894) (pos 1) (pos 4) (pos 0)) ∷ [])

abbrev rows_4 : List Row
rows_4 = ((numbers_row 46 31 3 (pos 8589934600) (pos 0) (pos 0) (pos 0)) ∷ [])

abbrev unit : UnitTrees
unit = record {
  source = record { spellings = standard_names ++ ((68 ∷ []) ∷ (97 ∷ 109 ∷ 98 ∷ 101 ∷ 114 ∷ []) ∷ (67 ∷ 111 ∷ 108 ∷ 111 ∷ 114 ∷ []) ∷ (67 ∷ []) ∷ (118 ∷ []) ∷ (79 ∷ 116 ∷ 104 ∷ 101 ∷ 114 ∷ []) ∷ (114 ∷ 101 ∷ 100 ∷ []) ∷ (98 ∷ 108 ∷ 117 ∷ 101 ∷ []) ∷ (103 ∷ 114 ∷ 101 ∷ 101 ∷ 110 ∷ []) ∷ (116 ∷ 119 ∷ 111 ∷ []) ∷ (84 ∷ 105 ∷ 110 ∷ 116 ∷ []) ∷ (107 ∷ []) ∷ (77 ∷ []) ∷ (99 ∷ 48 ∷ []) ∷ (111 ∷ 110 ∷ 101 ∷ []) ∷ (120 ∷ 48 ∷ []) ∷ (120 ∷ 49 ∷ []) ∷ (80 ∷ []) ∷ (112 ∷ []) ∷ []); definitions = ((definition_module 31 2) ∷ (definition_module 28 1) ∷ []) };
  own = None;
  definitions = (tree_1 ∷ tree_2 ∷ []);
  main = (tree_3 ∷ tree_4 ∷ []);
}

pub rows_are : unit_rows unit ≡ standard_rows ∷ (rows_1 ∷ rows_2 ∷ rows_3 ∷ rows_4 ∷ [])
unfolding unit_rows declare_block blocks_of standard_names
rows_are = refl

pub diagnostics_are : sorted_diags (declaration_diags unit) ≡ ((0 ∷ 6 ∷ 44 ∷ []) ∷ (0 ∷ 15 ∷ 40 ∷ []) ∷ (1 ∷ 23 ∷ 61 ∷ []) ∷ [])
unfolding unit_rows declare_block blocks_of declaration_diags standard_names
diagnostics_are = refl

pub answers_are : sorted_answers (declaration_answers unit) ≡ ((7 ∷ 1 ∷ 6 ∷ []) ∷ (8 ∷ 2 ∷ 9 ∷ []) ∷ (9 ∷ 1 ∷ 5 ∷ []) ∷ (16 ∷ 2 ∷ 1 ∷ []) ∷ (20 ∷ 1 ∷ 5 ∷ []) ∷ (21 ∷ 3 ∷ 1 ∷ []) ∷ (23 ∷ 2 ∷ 7 ∷ []) ∷ (26 ∷ 3 ∷ 1 ∷ []) ∷ (33 ∷ 3 ∷ 1 ∷ []) ∷ [])
unfolding unit_rows declare_block blocks_of declaration_answers standard_names
answers_are = refl
