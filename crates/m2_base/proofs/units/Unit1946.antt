-- A unit, with what its declarations give. Names are numbered from 28 on as they come here.
--
-- M.mod:
--     MODULE M; FROM InOut IMPORT WriteLn, EOL, WriteInt, WriteString, Write; VAR v16, v17: CARDINAL; TYPE T18 =
--     POINTER TO R19; R19 = RECORD f20: T18; f21: [FALSE..TRUE] END; TYPE TYPE T22 = CARDINAL; T23 = POINTER TO R24;
--     R24 = RECORD f25: T23; f26: (e27, e28) END; BEGIN INC(v17, (ORD(v16 < ((v17 + ((8 + 3))) - ((7 + 3)))))); v17
--     := 7; DEC(v16) END M.
use Rattle.std.specs.Prelude.{◌≡◌, pos, negsuc, true, false, List, [], ◌∷◌, ◌++◌, Some, None}
use Rattle.std.proofs.Common.{refl}
use Rattle.m2_base.specs.Names.{standard_names}
use Rattle.m2_base.specs.Rows.{Row, numbers_row}
use Rattle.m2_base.specs.Standard.{standard_rows}
use Rattle.m2_base.specs.Statics.BlockRows.{declare_block}
use Rattle.m2_base.specs.Statics.Blocks.{UnitTrees, blocks_of}
use Rattle.m2_base.specs.Statics.UnitNotes.{declaration_diags, declaration_answers}
use Rattle.m2_base.specs.Statics.UnitRows.{unit_rows}
use Rattle.m2_base.specs.Trees.{Stream, Main, Definition, expr, char_form, name_form, designator, selectors, type_expr, named_type, enum_type, sub_type, record_type, pointer_type, plain_fields, field_lists, const_decl, type_decl, vars_decl, proc_decl, statements}
use Rattle.m2_base.proofs.UnitTerms.{ident, qual, section, heading, an_import, stream, definition_module, sorted_diags, sorted_answers}

abbrev tree_1 : Stream
tree_1 = stream Definition false (Some (ident 27 2)) ([]) None ((const_decl (ident 29 5) (expr 7 (char_form 10))) ∷ (vars_decl ((ident 33 10) ∷ []) (type_expr 12 (named_type (qual (ident 4 12) None)))) ∷ (proc_decl (heading (ident 34 15) ((section true ((ident 35 18) ∷ []) false (qual (ident 3 20) None)) ∷ []) None) 0) ∷ (proc_decl (heading (ident 36 24) ((section true ((ident 37 27) ∷ []) false (qual (ident 1 29) None)) ∷ []) None) 0) ∷ (proc_decl (heading (ident 38 33) ((section true ((ident 37 36) ∷ []) false (qual (ident 2 38) None)) ∷ []) None) 0) ∷ (proc_decl (heading (ident 32 42) ((section false ((ident 35 44) ∷ []) false (qual (ident 3 46) None)) ∷ []) None) 0) ∷ (proc_decl (heading (ident 31 50) ((section false ((ident 39 52) ∷ []) true (qual (ident 3 56) None)) ∷ []) None) 0) ∷ (proc_decl (heading (ident 28 60) ([]) None) 0) ∷ (proc_decl (heading (ident 30 63) ((section false ((ident 37 65) ∷ []) false (qual (ident 1 67) None)) ∷ (section false ((ident 40 69) ∷ []) false (qual (ident 2 71) None)) ∷ []) None) 0) ∷ (proc_decl (heading (ident 41 75) ((section false ((ident 37 77) ∷ (ident 40 79) ∷ []) false (qual (ident 2 81) None)) ∷ []) None) 0) ∷ []) (statements []) (ident 27 85)

abbrev tree_2 : Stream
tree_2 = stream Main false (Some (ident 42 1)) ((an_import (Some (ident 27 4)) ((ident 28 6) ∷ (ident 29 8) ∷ (ident 30 10) ∷ (ident 31 12) ∷ (ident 32 14) ∷ [])) ∷ []) None ((vars_decl ((ident 43 17) ∷ (ident 44 19) ∷ []) (type_expr 21 (named_type (qual (ident 2 21) None)))) ∷ (type_decl (ident 45 24) (Some (type_expr 26 (pointer_type (type_expr 28 (named_type (qual (ident 46 28) None))))))) ∷ (type_decl (ident 46 30) (Some (type_expr 32 (record_type (field_lists ((plain_fields ((ident 47 33) ∷ []) (type_expr 35 (named_type (qual (ident 45 35) None)))) ∷ (plain_fields ((ident 48 37) ∷ []) (type_expr 39 (sub_type None (expr 40 (name_form (designator (ident 8 40) (selectors ([]))))) (expr 42 (name_form (designator (ident 7 42) (selectors ([])))))))) ∷ [])))))) ∷ (type_decl (ident 49 48) (Some (type_expr 50 (named_type (qual (ident 2 50) None))))) ∷ (type_decl (ident 50 52) (Some (type_expr 54 (pointer_type (type_expr 56 (named_type (qual (ident 51 56) None))))))) ∷ (type_decl (ident 51 58) (Some (type_expr 60 (record_type (field_lists ((plain_fields ((ident 52 61) ∷ []) (type_expr 63 (named_type (qual (ident 50 63) None)))) ∷ (plain_fields ((ident 53 65) ∷ []) (type_expr 67 (enum_type ((ident 54 68) ∷ (ident 55 70) ∷ [])))) ∷ [])))))) ∷ []) (statements []) (ident 42 118)

abbrev rows_1 : List Row
rows_1 = ((numbers_row 29 5 1 (pos 2) (pos 10) (pos 0) (pos 0)) ∷ (numbers_row 33 10 3 (pos 3) (pos 0) (pos 0) (pos 0)) ∷ (numbers_row 0 18 8 (pos 2) (pos 1) (pos 3) (pos 0)) ∷ (numbers_row 0 15 18 (negsuc 0) (pos 1) (pos 2) (pos 0)) ∷ (numbers_row 34 15 4 (pos 4294967299) (pos 0) (pos 0) (pos 0)) ∷ (numbers_row 0 27 8 (pos 0) (pos 1) (pos 6) (pos 0)) ∷ (numbers_row 0 24 18 (negsuc 0) (pos 1) (pos 5) (pos 0)) ∷ (numbers_row 36 24 4 (pos 4294967302) (pos 1) (pos 0) (pos 0)) ∷ (numbers_row 0 36 8 (pos 1) (pos 1) (pos 9) (pos 0)) ∷ (numbers_row 0 33 18 (negsuc 0) (pos 1) (pos 8) (pos 0)) ∷ (numbers_row 38 33 4 (pos 4294967305) (pos 2) (pos 0) (pos 0)) ∷ (numbers_row 0 44 8 (pos 2) (pos 0) (pos 12) (pos 0)) ∷ (numbers_row 0 42 18 (negsuc 0) (pos 1) (pos 11) (pos 0)) ∷ (numbers_row 32 42 4 (pos 4294967308) (pos 3) (pos 0) (pos 0)) ∷ (numbers_row 0 56 14 (pos 0) (pos 2) (pos 0) (pos 0)) ∷ (numbers_row 0 52 8 (pos 4294967310) (pos 0) (pos 16) (pos 0)) ∷ (numbers_row 0 50 18 (negsuc 0) (pos 1) (pos 14) (pos 0)) ∷ (numbers_row 31 50 4 (pos 4294967312) (pos 4) (pos 0) (pos 0)) ∷ (numbers_row 0 60 18 (negsuc 0) (pos 0) (pos 18) (pos 0)) ∷ (numbers_row 28 60 4 (pos 4294967314) (pos 5) (pos 0) (pos 0)) ∷ (numbers_row 0 65 8 (pos 0) (pos 0) (pos 22) (pos 0)) ∷ (numbers_row 0 69 8 (pos 1) (pos 0) (pos 22) (pos 0)) ∷ (numbers_row 0 63 18 (negsuc 0) (pos 2) (pos 20) (pos 0)) ∷ (numbers_row 30 63 4 (pos 4294967318) (pos 6) (pos 0) (pos 0)) ∷ (numbers_row 0 77 8 (pos 1) (pos 0) (pos 26) (pos 0)) ∷ (numbers_row 0 79 8 (pos 1) (pos 0) (pos 26) (pos 0)) ∷ (numbers_row 0 75 18 (negsuc 0) (pos 2) (pos 24) (pos 0)) ∷ (numbers_row 41 75 4 (pos 4294967322) (pos 7) (pos 0) (pos 0)) ∷ [])

abbrev rows_2 : List Row
rows_2 = ((numbers_row 28 6 6 (pos 4294967315) (pos 0) (pos 0) (pos 0)) ∷ (numbers_row 29 8 6 (pos 4294967296) (pos 0) (pos 0) (pos 0)) ∷ (numbers_row 30 10 6 (pos 4294967319) (pos 0) (pos 0) (pos 0)) ∷ (numbers_row 31 12 6 (pos 4294967313) (pos 0) (pos 0) (pos 0)) ∷ (numbers_row 32 14 6 (pos 4294967309) (pos 0) (pos 0) (pos 0)) ∷ (numbers_row 43 17 3 (pos 1) (pos 0) (pos 0) (pos 0)) ∷ (numbers_row 44 19 3 (pos 1) (pos 0) (pos 1) (pos 0)) ∷ (numbers_row 0 26 17 (pos 8589934605) (pos 0) (pos 0) (pos 0)) ∷ (numbers_row 45 24 2 (pos 8589934599) (pos 0) (pos 0) (pos 0)) ∷ (numbers_row 0 33 7 (pos 8589934599) (pos 0) (pos 12) (pos 47)) ∷ (numbers_row 0 39 12 (pos 3) (pos 0) (pos 1) (pos 0)) ∷ (numbers_row 0 37 7 (pos 8589934602) (pos 1) (pos 12) (pos 48)) ∷ (numbers_row 0 32 15 (pos 9) (pos 0) (pos 2) (pos 0)) ∷ (numbers_row 46 30 2 (pos 8589934604) (pos 0) (pos 0) (pos 0)) ∷ (numbers_row 49 48 2 (pos 1) (pos 0) (pos 0) (pos 0)) ∷ (numbers_row 0 54 17 (pos 8589934615) (pos 0) (pos 0) (pos 0)) ∷ (numbers_row 50 52 2 (pos 8589934607) (pos 0) (pos 0) (pos 0)) ∷ (numbers_row 0 61 7 (pos 8589934607) (pos 0) (pos 22) (pos 52)) ∷ (numbers_row 0 67 11 (pos 2) (pos 0) (pos 0) (pos 0)) ∷ (numbers_row 54 68 1 (pos 8589934610) (pos 0) (pos 0) (pos 0)) ∷ (numbers_row 55 70 1 (pos 8589934610) (pos 1) (pos 0) (pos 0)) ∷ (numbers_row 0 65 7 (pos 8589934610) (pos 1) (pos 22) (pos 53)) ∷ (numbers_row 0 60 15 (pos 17) (pos 0) (pos 2) (pos 0)) ∷ (numbers_row 51 58 2 (pos 8589934614) (pos 0) (pos 0) (pos 0)) ∷ [])

abbrev unit : UnitTrees
unit = record {
  source = record { spellings = standard_names ++ ((87 ∷ 114 ∷ 105 ∷ 116 ∷ 101 ∷ 76 ∷ 110 ∷ []) ∷ (69 ∷ 79 ∷ 76 ∷ []) ∷ (87 ∷ 114 ∷ 105 ∷ 116 ∷ 101 ∷ 73 ∷ 110 ∷ 116 ∷ []) ∷ (87 ∷ 114 ∷ 105 ∷ 116 ∷ 101 ∷ 83 ∷ 116 ∷ 114 ∷ 105 ∷ 110 ∷ 103 ∷ []) ∷ (87 ∷ 114 ∷ 105 ∷ 116 ∷ 101 ∷ []) ∷ (68 ∷ 111 ∷ 110 ∷ 101 ∷ []) ∷ (82 ∷ 101 ∷ 97 ∷ 100 ∷ []) ∷ (99 ∷ 104 ∷ []) ∷ (82 ∷ 101 ∷ 97 ∷ 100 ∷ 73 ∷ 110 ∷ 116 ∷ []) ∷ (120 ∷ []) ∷ (82 ∷ 101 ∷ 97 ∷ 100 ∷ 67 ∷ 97 ∷ 114 ∷ 100 ∷ []) ∷ (115 ∷ []) ∷ (110 ∷ []) ∷ (87 ∷ 114 ∷ 105 ∷ 116 ∷ 101 ∷ 67 ∷ 97 ∷ 114 ∷ 100 ∷ []) ∷ (77 ∷ []) ∷ (118 ∷ 49 ∷ 54 ∷ []) ∷ (118 ∷ 49 ∷ 55 ∷ []) ∷ (84 ∷ 49 ∷ 56 ∷ []) ∷ (82 ∷ 49 ∷ 57 ∷ []) ∷ (102 ∷ 50 ∷ 48 ∷ []) ∷ (102 ∷ 50 ∷ 49 ∷ []) ∷ (84 ∷ 50 ∷ 50 ∷ []) ∷ (84 ∷ 50 ∷ 51 ∷ []) ∷ (82 ∷ 50 ∷ 52 ∷ []) ∷ (102 ∷ 50 ∷ 53 ∷ []) ∷ (102 ∷ 50 ∷ 54 ∷ []) ∷ (101 ∷ 50 ∷ 55 ∷ []) ∷ (101 ∷ 50 ∷ 56 ∷ []) ∷ []); definitions = ((definition_module 27 1) ∷ []) };
  own = None;
  definitions = (tree_1 ∷ []);
  main = (tree_2 ∷ []);
}

pub rows_are : unit_rows unit ≡ standard_rows ∷ (rows_1 ∷ rows_2 ∷ [])
unfolding unit_rows declare_block blocks_of standard_names
rows_are = refl

pub diagnostics_are : sorted_diags (declaration_diags unit) ≡ ([])
unfolding unit_rows declare_block blocks_of declaration_diags standard_names
diagnostics_are = refl

pub answers_are : sorted_answers (declaration_answers unit) ≡ ((6 ∷ 1 ∷ 19 ∷ []) ∷ (8 ∷ 1 ∷ 0 ∷ []) ∷ (10 ∷ 1 ∷ 23 ∷ []) ∷ (12 ∷ 1 ∷ 17 ∷ []) ∷ (14 ∷ 1 ∷ 13 ∷ []) ∷ (35 ∷ 2 ∷ 8 ∷ []) ∷ (63 ∷ 2 ∷ 16 ∷ []) ∷ [])
unfolding unit_rows declare_block blocks_of declaration_answers standard_names
answers_are = refl
