-- A unit, with what its declarations give. Names are numbered from 28 on as they come here.
--
-- A.mod:
--     MODULE A; FROM B IMPORT T; FROM C IMPORT W, V; BEGIN END A.
--
-- B.def:
--     DEFINITION MODULE B; TYPE T = (x, y); R = RECORD a: INTEGER END; O; CONST k = 3; VAR v: T; PROCEDURE P(q:
--     INTEGER); END B.
--
-- C.def:
--     DEFINITION MODULE C; TYPE W = (x, z); V = (x1); END C.
use Rattle.std.specs.Prelude.{◌≡◌, pos, negsuc, false, List, [], ◌∷◌, ◌++◌, Some, None}
use Rattle.std.proofs.Common.{refl}
use Rattle.m2_base.specs.Names.{standard_names}
use Rattle.m2_base.specs.Rows.{Row, numbers_row}
use Rattle.m2_base.specs.Standard.{standard_rows}
use Rattle.m2_base.specs.Statics.BlockRows.{declare_block}
use Rattle.m2_base.specs.Statics.Blocks.{UnitTrees, blocks_of}
use Rattle.m2_base.specs.Statics.UnitNotes.{declaration_diags, declaration_answers}
use Rattle.m2_base.specs.Statics.UnitRows.{unit_rows}
use Rattle.m2_base.specs.Trees.{Stream, Main, Definition, expr, number_form, type_expr, named_type, enum_type, record_type, plain_fields, field_lists, const_decl, type_decl, vars_decl, proc_decl, statements}
use Rattle.m2_base.proofs.UnitTerms.{ident, qual, section, heading, an_import, stream, definition_module, sorted_diags, sorted_answers}

abbrev tree_1 : Stream
tree_1 = stream Definition false (Some (ident 28 2)) ([]) None ((type_decl (ident 29 5) (Some (type_expr 7 (enum_type ((ident 33 8) ∷ (ident 34 10) ∷ []))))) ∷ (type_decl (ident 35 13) (Some (type_expr 15 (record_type (field_lists ((plain_fields ((ident 36 16) ∷ []) (type_expr 18 (named_type (qual (ident 1 18) None)))) ∷ [])))))) ∷ (type_decl (ident 37 21) None) ∷ (const_decl (ident 38 24) (expr 26 (number_form 3))) ∷ (vars_decl ((ident 39 29) ∷ []) (type_expr 31 (named_type (qual (ident 29 31) None)))) ∷ (proc_decl (heading (ident 40 34) ((section false ((ident 41 36) ∷ []) false (qual (ident 1 38) None)) ∷ []) None) 0) ∷ []) (statements []) (ident 28 42)

abbrev tree_2 : Stream
tree_2 = stream Definition false (Some (ident 30 2)) ([]) None ((type_decl (ident 31 5) (Some (type_expr 7 (enum_type ((ident 33 8) ∷ (ident 42 10) ∷ []))))) ∷ (type_decl (ident 32 13) (Some (type_expr 15 (enum_type ((ident 43 16) ∷ []))))) ∷ []) (statements []) (ident 30 20)

abbrev tree_3 : Stream
tree_3 = stream Main false (Some (ident 44 1)) ((an_import (Some (ident 28 4)) ((ident 29 6) ∷ [])) ∷ (an_import (Some (ident 30 9)) ((ident 31 11) ∷ (ident 32 13) ∷ [])) ∷ []) None ([]) (statements []) (ident 44 17)

abbrev rows_1 : List Row
rows_1 = ((numbers_row 0 7 11 (pos 2) (pos 0) (pos 0) (pos 0)) ∷ (numbers_row 33 8 1 (pos 4294967296) (pos 0) (pos 0) (pos 0)) ∷ (numbers_row 34 10 1 (pos 4294967296) (pos 1) (pos 0) (pos 0)) ∷ (numbers_row 29 5 2 (pos 4294967296) (pos 0) (pos 0) (pos 0)) ∷ (numbers_row 0 16 7 (pos 0) (pos 0) (pos 5) (pos 36)) ∷ (numbers_row 0 15 15 (pos 4) (pos 0) (pos 1) (pos 0)) ∷ (numbers_row 35 13 2 (pos 4294967301) (pos 0) (pos 0) (pos 0)) ∷ (numbers_row 0 21 19 (pos 0) (pos 0) (pos 0) (pos 0)) ∷ (numbers_row 37 21 2 (pos 4294967303) (pos 0) (pos 0) (pos 0)) ∷ (numbers_row 38 24 1 (pos 9) (pos 3) (pos 0) (pos 0)) ∷ (numbers_row 39 29 3 (pos 4294967296) (pos 0) (pos 0) (pos 0)) ∷ (numbers_row 0 36 8 (pos 0) (pos 0) (pos 12) (pos 0)) ∷ (numbers_row 0 34 18 (negsuc 0) (pos 1) (pos 11) (pos 0)) ∷ (numbers_row 40 34 4 (pos 4294967308) (pos 0) (pos 0) (pos 0)) ∷ [])

abbrev rows_2 : List Row
rows_2 = ((numbers_row 0 7 11 (pos 2) (pos 0) (pos 0) (pos 0)) ∷ (numbers_row 33 8 1 (pos 8589934592) (pos 0) (pos 0) (pos 0)) ∷ (numbers_row 42 10 1 (pos 8589934592) (pos 1) (pos 0) (pos 0)) ∷ (numbers_row 31 5 2 (pos 8589934592) (pos 0) (pos 0) (pos 0)) ∷ (numbers_row 0 15 11 (pos 1) (pos 0) (pos 0) (pos 0)) ∷ (numbers_row 43 16 1 (pos 8589934596) (pos 0) (pos 0) (pos 0)) ∷ (numbers_row 32 13 2 (pos 8589934596) (pos 0) (pos 0) (pos 0)) ∷ [])

abbrev rows_3 : List Row
rows_3 = ((numbers_row 29 6 6 (pos 4294967299) (pos 0) (pos 0) (pos 0)) ∷ (numbers_row 33 6 6 (pos 4294967297) (pos 0) (pos 0) (pos 0)) ∷ (numbers_row 34 6 6 (pos 4294967298) (pos 0) (pos 0) (pos 0)) ∷ (numbers_row 31 11 6 (pos 8589934595) (pos 0) (pos 0) (pos 0)) ∷ (numbers_row 42 11 6 (pos 8589934594) (pos 0) (pos 0) (pos 0)) ∷ (numbers_row 32 13 6 (pos 8589934598) (pos 0) (pos 0) (pos 0)) ∷ (numbers_row 43 13 6 (pos 8589934597) (pos 0) (pos 0) (pos 0)) ∷ [])

abbrev unit : UnitTrees
unit = record {
  source = record { spellings = standard_names ++ ((66 ∷ []) ∷ (84 ∷ []) ∷ (67 ∷ []) ∷ (87 ∷ []) ∷ (86 ∷ []) ∷ (120 ∷ []) ∷ (121 ∷ []) ∷ (82 ∷ []) ∷ (97 ∷ []) ∷ (79 ∷ []) ∷ (107 ∷ []) ∷ (118 ∷ []) ∷ (80 ∷ []) ∷ (113 ∷ []) ∷ (122 ∷ []) ∷ (120 ∷ 49 ∷ []) ∷ (65 ∷ []) ∷ []); definitions = ((definition_module 28 1) ∷ (definition_module 30 2) ∷ []) };
  own = None;
  definitions = (tree_1 ∷ tree_2 ∷ []);
  main = (tree_3 ∷ []);
}

pub rows_are : unit_rows unit ≡ standard_rows ∷ (rows_1 ∷ rows_2 ∷ rows_3 ∷ [])
unfolding unit_rows declare_block blocks_of standard_names
rows_are = refl

pub diagnostics_are : sorted_diags (declaration_diags unit) ≡ ((0 ∷ 11 ∷ 42 ∷ []) ∷ [])
unfolding unit_rows declare_block blocks_of declaration_diags standard_names
diagnostics_are = refl

pub answers_are : sorted_answers (declaration_answers unit) ≡ ((6 ∷ 1 ∷ 3 ∷ []) ∷ (11 ∷ 2 ∷ 3 ∷ []) ∷ (13 ∷ 2 ∷ 6 ∷ []) ∷ (31 ∷ 1 ∷ 3 ∷ []) ∷ [])
unfolding unit_rows declare_block blocks_of declaration_answers standard_names
answers_are = refl
