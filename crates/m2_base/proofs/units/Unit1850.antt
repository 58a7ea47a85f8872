-- A unit, with what its declarations give. Names are numbered from 28 on as they come here.
--
-- M.mod:
--     IMPLEMENTATION MODULE M; FROM InOut IMPORT ReadInt; TYPE O5 = POINTER TO INTEGER; TYPE T6 = POINTER TO ARRAY
--     [FALSE..TRUE] OF ARRAY (e7, e8, e9, e10) OF O5; T11 = [FALSE..TRUE]; CONST c12 = 19; BEGIN IF (ODD(1B)) AND
--     (TRUE & TRUE) THEN END; CASE "_" OF 131C, 77C..106C: ; | "W": ; | 124C.."V": IF ODD(9) THEN ; ; REPEAT ; UNTIL
--     TRUE ELSIF TRUE THEN ; ELSE END ELSE END; ; ; WHILE TRUE DO ; END END M.
--
-- M.def:
--     DEFINITION MODULE M; TYPE T1 = POINTER TO R2; R2 = RECORD f3: T1; f4: T1 END; TYPE O5; END M.
use Rattle.std.specs.Prelude.{◌≡◌, pos, negsuc, true, false, List, [], ◌∷◌, ◌++◌, Some, None}
use Rattle.std.proofs.Common.{refl}
use Rattle.m2_base.specs.Names.{standard_names}
use Rattle.m2_base.specs.Rows.{Row, numbers_row}
use Rattle.m2_base.specs.Standard.{standard_rows}
use Rattle.m2_base.specs.Statics.BlockRows.{declare_block}
use Rattle.m2_base.specs.Statics.Blocks.{UnitTrees, blocks_of}
use Rattle.m2_base.specs.Statics.UnitNotes.{declaration_diags, declaration_answers}
use Rattle.m2_base.specs.Statics.UnitRows.{unit_rows}
use Rattle.m2_base.specs.Trees.{Stream, Main, Definition, expr, number_form, char_form, name_form, designator, selectors, type_expr, named_type, enum_type, sub_type, array_type, record_type, pointer_type, type_exprs, plain_fields, field_lists, const_decl, type_decl, vars_decl, proc_decl, statements}
use Rattle.m2_base.proofs.UnitTerms.{ident, qual, section, heading, an_import, stream, definition_module, sorted_diags, sorted_answers}

abbrev tree_1 : Stream
tree_1 = stream Definition false (Some (ident 29 2)) ([]) None ((type_decl (ident 30 5) (Some (type_expr 7 (pointer_type (type_expr 9 (named_type (qual (ident 31 9) None))))))) ∷ (type_decl (ident 31 11) (Some (type_expr 13 (record_type (field_lists ((plain_fields ((ident 32 14) ∷ []) (type_expr 16 (named_type (qual (ident 30 16) None)))) ∷ (plain_fields ((ident 33 18) ∷ []) (type_expr 20 (named_type (qual (ident 30 20) None)))) ∷ [])))))) ∷ (type_decl (ident 34 24) None) ∷ []) (statements []) (ident 29 27)

abbrev tree_2 : Stream
tree_2 = stream Definition false (Some (ident 27 2)) ([]) None ((const_decl (ident 35 5) (expr 7 (char_form 10))) ∷ (vars_decl ((ident 36 10) ∷ []) (type_expr 12 (named_type (qual (ident 4 12) None)))) ∷ (proc_decl (heading (ident 37 15) ((section true ((ident 38 18) ∷ []) false (qual (ident 3 20) None)) ∷ []) None) 0) ∷ (proc_decl (heading (ident 28 24) ((section true ((ident 39 27) ∷ []) false (qual (ident 1 29) None)) ∷ []) None) 0) ∷ (proc_decl (heading (ident 40 33) ((section true ((ident 39 36) ∷ []) false (qual (ident 2 38) None)) ∷ []) None) 0) ∷ (proc_decl (heading (ident 41 42) ((section false ((ident 38 44) ∷ []) false (qual (ident 3 46) None)) ∷ []) None) 0) ∷ (proc_decl (heading (ident 42 50) ((section false ((ident 43 52) ∷ []) true (qual (ident 3 56) None)) ∷ []) None) 0) ∷ (proc_decl (heading (ident 44 60) ([]) None) 0) ∷ (proc_decl (heading (ident 45 63) ((section false ((ident 39 65) ∷ []) false (qual (ident 1 67) None)) ∷ (section false ((ident 46 69) ∷ []) false (qual (ident 2 71) None)) ∷ []) None) 0) ∷ (proc_decl (heading (ident 47 75) ((section false ((ident 39 77) ∷ (ident 46 79) ∷ []) false (qual (ident 2 81) None)) ∷ []) None) 0) ∷ []) (statements []) (ident 27 85)

abbrev tree_3 : Stream
tree_3 = stream Main true (Some (ident 29 2)) ((an_import (Some (ident 27 5)) ((ident 28 7) ∷ [])) ∷ []) None ((type_decl (ident 34 10) (Some (type_expr 12 (pointer_type (type_expr 14 (named_type (qual (ident 1 14) None))))))) ∷ (type_decl (ident 48 17) (Some (type_expr 19 (pointer_type (type_expr 21 (array_type (type_exprs ((type_expr 22 (sub_type None (expr 23 (name_form (designator (ident 8 23) (selectors ([]))))) (expr 25 (name_form (designator (ident 7 25) (selectors ([]))))))) ∷ [])) (type_expr 28 (array_type (type_exprs ((type_expr 29 (enum_type ((ident 49 30) ∷ (ident 50 32) ∷ (ident 51 34) ∷ (ident 52 36) ∷ []))) ∷ [])) (type_expr 39 (named_type (qual (ident 34 39) None))))))))))) ∷ (type_decl (ident 53 41) (Some (type_expr 43 (sub_type None (expr 44 (name_form (designator (ident 8 44) (selectors ([]))))) (expr 46 (name_form (designator (ident 7 46) (selectors ([]))))))))) ∷ (const_decl (ident 54 50) (expr 52 (number_form 19))) ∷ []) (statements []) (ident 29 119)

abbrev rows_1 : List Row
rows_1 = ((numbers_row 0 7 17 (pos 4294967301) (pos 0) (pos 0) (pos 0)) ∷ (numbers_row 30 5 2 (pos 4294967296) (pos 0) (pos 0) (pos 0)) ∷ (numbers_row 0 14 7 (pos 4294967296) (pos 0) (pos 4) (pos 32)) ∷ (numbers_row 0 18 7 (pos 4294967296) (pos 1) (pos 4) (pos 33)) ∷ (numbers_row 0 13 15 (pos 2) (pos 0) (pos 2) (pos 0)) ∷ (numbers_row 31 11 2 (pos 4294967300) (pos 0) (pos 0) (pos 0)) ∷ (numbers_row 0 24 19 (pos 0) (pos 0) (pos 0) (pos 0)) ∷ (numbers_row 34 24 2 (pos 4294967302) (pos 0) (pos 0) (pos 0)) ∷ [])

abbrev rows_2 : List Row
rows_2 = ((numbers_row 35 5 1 (pos 2) (pos 10) (pos 0) (pos 0)) ∷ (numbers_row 36 10 3 (pos 3) (pos 0) (pos 0) (pos 0)) ∷ (numbers_row 0 18 8 (pos 2) (pos 1) (pos 3) (pos 0)) ∷ (numbers_row 0 15 18 (negsuc 0) (pos 1) (pos 2) (pos 0)) ∷ (numbers_row 37 15 4 (pos 8589934595) (pos 0) (pos 0) (pos 0)) ∷ (numbers_row 0 27 8 (pos 0) (pos 1) (pos 6) (pos 0)) ∷ (numbers_row 0 24 18 (negsuc 0) (pos 1) (pos 5) (pos 0)) ∷ (numbers_row 28 24 4 (pos 8589934598) (pos 1) (pos 0) (pos 0)) ∷ (numbers_row 0 36 8 (pos 1) (pos 1) (pos 9) (pos 0)) ∷ (numbers_row 0 33 18 (negsuc 0) (pos 1) (pos 8) (pos 0)) ∷ (numbers_row 40 33 4 (pos 8589934601) (pos 2) (pos 0) (pos 0)) ∷ (numbers_row 0 44 8 (pos 2) (pos 0) (pos 12) (pos 0)) ∷ (numbers_row 0 42 18 (negsuc 0) (pos 1) (pos 11) (pos 0)) ∷ (numbers_row 41 42 4 (pos 8589934604) (pos 3) (pos 0) (pos 0)) ∷ (numbers_row 0 56 14 (pos 0) (pos 2) (pos 0) (pos 0)) ∷ (numbers_row 0 52 8 (pos 8589934606) (pos 0) (pos 16) (pos 0)) ∷ (numbers_row 0 50 18 (negsuc 0) (pos 1) (pos 14) (pos 0)) ∷ (numbers_row 42 50 4 (pos 8589934608) (pos 4) (pos 0) (pos 0)) ∷ (numbers_row 0 60 18 (negsuc 0) (pos 0) (pos 18) (pos 0)) ∷ (numbers_row 44 60 4 (pos 8589934610) (pos 5) (pos 0) (pos 0)) ∷ (numbers_row 0 65 8 (pos 0) (pos 0) (pos 22) (pos 0)) ∷ (numbers_row 0 69 8 (pos 1) (pos 0) (pos 22) (pos 0)) ∷ (numbers_row 0 63 18 (negsuc 0) (pos 2) (pos 20) (pos 0)) ∷ (numbers_row 45 63 4 (pos 8589934614) (pos 6) (pos 0) (pos 0)) ∷ (numbers_row 0 77 8 (pos 1) (pos 0) (pos 26) (pos 0)) ∷ (numbers_row 0 79 8 (pos 1) (pos 0) (pos 26) (pos 0)) ∷ (numbers_row 0 75 18 (negsuc 0) (pos 2) (pos 24) (pos 0)) ∷ (numbers_row 47 75 4 (pos 8589934618) (pos 7) (pos 0) (pos 0)) ∷ [])

abbrev rows_3 : List Row
rows_3 = ((numbers_row 28 7 6 (pos 8589934599) (pos 0) (pos 0) (pos 0)) ∷ (numbers_row 0 12 17 (pos 0) (pos 0) (pos 0) (pos 0)) ∷ (numbers_row 34 10 2 (pos 12884901889) (pos 0) (pos 0) (pos 0)) ∷ (numbers_row 0 22 12 (pos 3) (pos 0) (pos 1) (pos 0)) ∷ (numbers_row 0 29 11 (pos 4) (pos 0) (pos 0) (pos 0)) ∷ (numbers_row 49 30 1 (pos 12884901892) (pos 0) (pos 0) (pos 0)) ∷ (numbers_row 50 32 1 (pos 12884901892) (pos 1) (pos 0) (pos 0)) ∷ (numbers_row 51 34 1 (pos 12884901892) (pos 2) (pos 0) (pos 0)) ∷ (numbers_row 52 36 1 (pos 12884901892) (pos 3) (pos 0) (pos 0)) ∷ (numbers_row 0 28 13 (pos 12884901892) (pos 12884901889) (pos 4) (pos 0)) ∷ (numbers_row 0 21 13 (pos 12884901891) (pos 12884901897) (pos 8) (pos 0)) ∷ (numbers_row 0 19 17 (pos 12884901898) (pos 0) (pos 0) (pos 0)) ∷ (numbers_row 48 17 2 (pos 12884901899) (pos 0) (pos 0) (pos 0)) ∷ (numbers_row 0 43 12 (pos 3) (pos 0) (pos 1) (pos 0)) ∷ (numbers_row 53 41 2 (pos 12884901901) (pos 0) (pos 0) (pos 0)) ∷ (numbers_row 54 50 1 (pos 9) (pos 19) (pos 0) (pos 0)) ∷ [])

abbrev unit : UnitTrees
unit = record {
  source = record { spellings = standard_names ++ ((82 ∷ 101 ∷ 97 ∷ 100 ∷ 73 ∷ 110 ∷ 116 ∷ []) ∷ (77 ∷ []) ∷ (84 ∷ 49 ∷ []) ∷ (82 ∷ 50 ∷ []) ∷ (102 ∷ 51 ∷ []) ∷ (102 ∷ 52 ∷ []) ∷ (79 ∷ 53 ∷ []) ∷ (69 ∷ 79 ∷ 76 ∷ []) ∷ (68 ∷ 111 ∷ 110 ∷ 101 ∷ []) ∷ (82 ∷ 101 ∷ 97 ∷ 100 ∷ []) ∷ (99 ∷ 104 ∷ []) ∷ (120 ∷ []) ∷ (82 ∷ 101 ∷ 97 ∷ 100 ∷ 67 ∷ 97 ∷ 114 ∷ 100 ∷ []) ∷ (87 ∷ 114 ∷ 105 ∷ 116 ∷ 101 ∷ []) ∷ (87 ∷ 114 ∷ 105 ∷ 116 ∷ 101 ∷ 83 ∷ 116 ∷ 114 ∷ 105 ∷ 110 ∷ 103 ∷ []) ∷ (115 ∷ []) ∷ (87 ∷ 114 ∷ 105 ∷ 116 ∷ 101 ∷ 76 ∷ 110 ∷ []) ∷ (87 ∷ 114 ∷ 105 ∷ 116 ∷ 101 ∷ 73 ∷ 110 ∷ 116 ∷ []) ∷ (110 ∷ []) ∷ (87 ∷ 114 ∷ 105 ∷ 116 ∷ 101 ∷ 67 ∷ 97 ∷ 114 ∷ 100 ∷ []) ∷ (84 ∷ 54 ∷ []) ∷ (101 ∷ 55 ∷ []) ∷ (101 ∷ 56 ∷ []) ∷ (101 ∷ 57 ∷ []) ∷ (101 ∷ 49 ∷ 48 ∷ []) ∷ (84 ∷ 49 ∷ 49 ∷ []) ∷ (99 ∷ 49 ∷ 50 ∷ []) ∷ []); definitions = ((definition_module 29 1) ∷ (definition_module 27 2) ∷ []) };
  own = (Some 1);
  definitions = (tree_1 ∷ tree_2 ∷ []);
  main = (tree_3 ∷ []);
}

pub rows_are : unit_rows unit ≡ standard_rows ∷ (rows_1 ∷ rows_2 ∷ rows_3 ∷ [])
unfolding unit_rows declare_block blocks_of standard_names
rows_are = refl

pub diagnostics_are : sorted_diags (declaration_diags unit) ≡ ([])
unfolding unit_rows declare_block blocks_of declaration_diags standard_names
diagnostics_are = refl

pub answers_are : sorted_answers (declaration_answers unit) ≡ ((7 ∷ 2 ∷ 7 ∷ []) ∷ (16 ∷ 1 ∷ 1 ∷ []) ∷ (20 ∷ 1 ∷ 1 ∷ []) ∷ (39 ∷ 3 ∷ 2 ∷ []) ∷ [])
unfolding unit_rows declare_block blocks_of declaration_answers standard_names
answers_are = refl
