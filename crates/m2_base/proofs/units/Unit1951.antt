-- A unit, with what its declarations give. Names are numbered from 28 on as they come here.
--
-- M.mod:
--     MODULE M; FROM D0 IMPORT T16, c15, R17, T1; CONST TYPE VAR v21: INTEGER[-6..0]; v27: ARRAY [5..8], (e22) OF SET
--     OF (e23, e24, e25, e26, v); v32: (e28, e29, e30, e31); TYPE BEGIN ; DEC(v21, v21); IF v27[ORD(v21)][e22] =
--     (v27[7][e22]) THEN ; v32 := v32 END END M.
--
-- D0.def:
--     DEFINITION MODULE D0; TYPE T1 = CARDINAL; T2 = RECORD CASE : BOOLEAN OF TRUE: CASE t3: BOOLEAN OF TRUE, FALSE:
--     | ELSE END; f4, f5: SET OF [0..9] | END; f6, f7: T1; f8: RECORD f9, f10: POINTER TO BOOLEAN; f11: [-6..-1];
--     f12, f13: ARRAY [4..10] OF SET OF CHAR END END; CONST c14 = 18; c15 = {0, 19, 24}; TYPE T16 = POINTER TO R17;
--     R17 = RECORD f18: T16; f19: ARRAY INTEGER[-5..-1] OF INTEGER END; PROCEDURE H20(): CHAR; END D0.
use Rattle.std.specs.Prelude.{◌≡◌, pos, negsuc, false, List, [], ◌∷◌, ◌++◌, Some, None}
use Rattle.std.proofs.Common.{refl}
use Rattle.m2_base.specs.Names.{standard_names}
use Rattle.m2_base.specs.Rows.{Row, numbers_row}
use Rattle.m2_base.specs.Standard.{standard_rows}
use Rattle.m2_base.specs.Statics.BlockRows.{declare_block}
use Rattle.m2_base.specs.Statics.Blocks.{UnitTrees, blocks_of}
use Rattle.m2_base.specs.Statics.UnitNotes.{declaration_diags, declaration_answers}
use Rattle.m2_base.specs.Statics.UnitRows.{unit_rows}
use Rattle.m2_base.specs.Trees.{Stream, Main, Definition, expr, number_form, set_form, name_form, one_form, designator, selectors, one_label, labels, type_expr, named_type, enum_type, sub_type, array_type, record_type, set_type, pointer_type, type_exprs, plain_fields, case_fields, field_lists, variant_arm, variant_arms, const_decl, type_decl, vars_decl, proc_decl, statements}
use Rattle.m2_base.specs.declared.trees.operators.Operator.TheVariants.{Minus}
use Rattle.m2_base.proofs.UnitTerms.{ident, qual, heading, an_import, stream, definition_module, sorted_diags, sorted_answers}

abbrev tree_1 : Stream
tree_1 = stream Definition false (Some (ident 28 2)) ([]) None ((type_decl (ident 32 5) (Some (type_expr 7 (named_type (qual (ident 2 7) None))))) ∷ (type_decl (ident 33 9) (Some (type_expr 11 (record_type (field_lists ((case_fields None (qual (ident 4 14) None) (variant_arms ((variant_arm (labels ((one_label (expr 16 (name_form (designator (ident 7 16) (selectors ([])))))) ∷ [])) (field_lists ((case_fields (Some (ident 34 19)) (qual (ident 4 21) None) (variant_arms ((variant_arm (labels ((one_label (expr 23 (name_form (designator (ident 7 23) (selectors ([])))))) ∷ (one_label (expr 25 (name_form (designator (ident 8 25) (selectors ([])))))) ∷ [])) (field_lists ([]))) ∷ [])) (field_lists ([]))) ∷ (plain_fields ((ident 35 31) ∷ (ident 36 33) ∷ []) (type_expr 35 (set_type (type_expr 37 (sub_type None (expr 38 (number_form 0)) (expr 40 (number_form 9))))))) ∷ []))) ∷ [])) (field_lists [])) ∷ (plain_fields ((ident 37 45) ∷ (ident 38 47) ∷ []) (type_expr 49 (named_type (qual (ident 32 49) None)))) ∷ (plain_fields ((ident 39 51) ∷ []) (type_expr 53 (record_type (field_lists ((plain_fields ((ident 40 54) ∷ (ident 41 56) ∷ []) (type_expr 58 (pointer_type (type_expr 60 (named_type (qual (ident 4 60) None)))))) ∷ (plain_fields ((ident 42 62) ∷ []) (type_expr 64 (sub_type None (expr 65 (one_form Minus 65 (expr 66 (number_form 6)))) (expr 68 (one_form Minus 68 (expr 69 (number_form 1))))))) ∷ (plain_fields ((ident 43 72) ∷ (ident 44 74) ∷ []) (type_expr 76 (array_type (type_exprs ((type_expr 77 (sub_type None (expr 78 (number_form 4)) (expr 80 (number_form 10)))) ∷ [])) (type_expr 83 (set_type (type_expr 85 (named_type (qual (ident 3 85) None)))))))) ∷ []))))) ∷ [])))))) ∷ (const_decl (ident 45 90) (expr 92 (number_form 18))) ∷ (const_decl (ident 30 94) (expr 96 (set_form (labels ((one_label (expr 97 (number_form 0))) ∷ (one_label (expr 99 (number_form 19))) ∷ (one_label (expr 101 (number_form 24))) ∷ []))))) ∷ (type_decl (ident 29 105) (Some (type_expr 107 (pointer_type (type_expr 109 (named_type (qual (ident 31 109) None))))))) ∷ (type_decl (ident 31 111) (Some (type_expr 113 (record_type (field_lists ((plain_fields ((ident 46 114) ∷ []) (type_expr 116 (named_type (qual (ident 29 116) None)))) ∷ (plain_fields ((ident 47 118) ∷ []) (type_expr 120 (array_type (type_exprs ((type_expr 121 (sub_type (Some (qual (ident 1 121) None)) (expr 123 (one_form Minus 123 (expr 124 (number_form 5)))) (expr 126 (one_form Minus 126 (expr 127 (number_form 1)))))) ∷ [])) (type_expr 130 (named_type (qual (ident 1 130) None)))))) ∷ [])))))) ∷ (proc_decl (heading (ident 48 134) ([]) (Some (qual (ident 3 138) None))) 0) ∷ []) (statements []) (ident 28 141)

abbrev tree_2 : Stream
tree_2 = stream Main false (Some (ident 49 1)) ((an_import (Some (ident 28 4)) ((ident 29 6) ∷ (ident 30 8) ∷ (ident 31 10) ∷ (ident 32 12) ∷ [])) ∷ []) None ((vars_decl ((ident 50 17) ∷ []) (type_expr 19 (sub_type (Some (qual (ident 1 19) None)) (expr 21 (one_form Minus 21 (expr 22 (number_form 6)))) (expr 24 (number_form 0))))) ∷ (vars_decl ((ident 51 27) ∷ []) (type_expr 29 (array_type (type_exprs ((type_expr 30 (sub_type None (expr 31 (number_form 5)) (expr 33 (number_form 8)))) ∷ (type_expr 36 (enum_type ((ident 52 37) ∷ []))) ∷ [])) (type_expr 40 (set_type (type_expr 42 (enum_type ((ident 53 43) ∷ (ident 54 45) ∷ (ident 55 47) ∷ (ident 56 49) ∷ (ident 57 51) ∷ [])))))))) ∷ (vars_decl ((ident 58 54) ∷ []) (type_expr 56 (enum_type ((ident 59 57) ∷ (ident 60 59) ∷ (ident 61 61) ∷ (ident 62 63) ∷ [])))) ∷ []) (statements []) (ident 49 104)

abbrev rows_1 : List Row
rows_1 = ((numbers_row 32 5 2 (pos 1) (pos 0) (pos 0) (pos 0)) ∷ (numbers_row 0 19 7 (pos 3) (pos 0) (pos 20) (pos 34)) ∷ (numbers_row 0 37 12 (pos 1) (pos 0) (pos 9) (pos 0)) ∷ (numbers_row 0 35 16 (pos 4294967298) (pos 0) (pos 0) (pos 0)) ∷ (numbers_row 0 31 7 (pos 4294967299) (pos 1) (pos 20) (pos 35)) ∷ (numbers_row 0 33 7 (pos 4294967299) (pos 2) (pos 20) (pos 36)) ∷ (numbers_row 0 45 7 (pos 1) (pos 3) (pos 20) (pos 37)) ∷ (numbers_row 0 47 7 (pos 1) (pos 4) (pos 20) (pos 38)) ∷ (numbers_row 0 58 17 (pos 3) (pos 0) (pos 0) (pos 0)) ∷ (numbers_row 0 54 7 (pos 4294967304) (pos 0) (pos 18) (pos 40)) ∷ (numbers_row 0 56 7 (pos 4294967304) (pos 1) (pos 18) (pos 41)) ∷ (numbers_row 0 64 12 (pos 0) (negsuc 5) (negsuc 0) (pos 0)) ∷ (numbers_row 0 62 7 (pos 4294967307) (pos 2) (pos 18) (pos 42)) ∷ (numbers_row 0 77 12 (pos 1) (pos 4) (pos 10) (pos 0)) ∷ (numbers_row 0 83 16 (pos 10) (pos 0) (pos 0) (pos 0)) ∷ (numbers_row 0 76 13 (pos 4294967309) (pos 4294967310) (pos 7) (pos 0)) ∷ (numbers_row 0 72 7 (pos 4294967311) (pos 3) (pos 18) (pos 43)) ∷ (numbers_row 0 74 7 (pos 4294967311) (pos 10) (pos 18) (pos 44)) ∷ (numbers_row 0 53 15 (pos 8) (pos 0) (pos 17) (pos 0)) ∷ (numbers_row 0 51 7 (pos 4294967314) (pos 5) (pos 20) (pos 39)) ∷ (numbers_row 0 11 15 (pos 1) (pos 0) (pos 22) (pos 0)) ∷ (numbers_row 33 9 2 (pos 4294967316) (pos 0) (pos 0) (pos 0)) ∷ (numbers_row 45 90 1 (pos 9) (pos 18) (pos 0) (pos 0)) ∷ (numbers_row 30 94 1 (pos 5) (pos 17301505) (pos 0) (pos 0)) ∷ (numbers_row 0 107 17 (pos 4294967327) (pos 0) (pos 0) (pos 0)) ∷ (numbers_row 29 105 2 (pos 4294967320) (pos 0) (pos 0) (pos 0)) ∷ (numbers_row 0 114 7 (pos 4294967320) (pos 0) (pos 30) (pos 46)) ∷ (numbers_row 0 121 12 (pos 0) (negsuc 4) (negsuc 0) (pos 0)) ∷ (numbers_row 0 120 13 (pos 4294967323) (pos 0) (pos 5) (pos 0)) ∷ (numbers_row 0 118 7 (pos 4294967324) (pos 1) (pos 30) (pos 47)) ∷ (numbers_row 0 113 15 (pos 26) (pos 0) (pos 6) (pos 0)) ∷ (numbers_row 31 111 2 (pos 4294967326) (pos 0) (pos 0) (pos 0)) ∷ (numbers_row 0 134 18 (pos 2) (pos 0) (pos 32) (pos 0)) ∷ (numbers_row 48 134 4 (pos 4294967328) (pos 0) (pos 0) (pos 0)) ∷ [])

abbrev rows_2 : List Row
rows_2 = ((numbers_row 29 6 6 (pos 4294967321) (pos 0) (pos 0) (pos 0)) ∷ (numbers_row 30 8 6 (pos 4294967319) (pos 0) (pos 0) (pos 0)) ∷ (numbers_row 31 10 6 (pos 4294967327) (pos 0) (pos 0) (pos 0)) ∷ (numbers_row 32 12 6 (pos 4294967296) (pos 0) (pos 0) (pos 0)) ∷ (numbers_row 0 19 12 (pos 0) (negsuc 5) (pos 0) (pos 0)) ∷ (numbers_row 50 17 3 (pos 8589934596) (pos 0) (pos 0) (pos 0)) ∷ (numbers_row 0 30 12 (pos 1) (pos 5) (pos 8) (pos 0)) ∷ (numbers_row 0 36 11 (pos 1) (pos 0) (pos 0) (pos 0)) ∷ (numbers_row 52 37 1 (pos 8589934599) (pos 0) (pos 0) (pos 0)) ∷ (numbers_row 0 42 11 (pos 5) (pos 0) (pos 0) (pos 0)) ∷ (numbers_row 53 43 1 (pos 8589934601) (pos 0) (pos 0) (pos 0)) ∷ (numbers_row 54 45 1 (pos 8589934601) (pos 1) (pos 0) (pos 0)) ∷ (numbers_row 55 47 1 (pos 8589934601) (pos 2) (pos 0) (pos 0)) ∷ (numbers_row 56 49 1 (pos 8589934601) (pos 3) (pos 0) (pos 0)) ∷ (numbers_row 57 51 1 (pos 8589934601) (pos 4) (pos 0) (pos 0)) ∷ (numbers_row 0 40 16 (pos 8589934601) (pos 0) (pos 0) (pos 0)) ∷ (numbers_row 0 29 13 (pos 8589934599) (pos 8589934607) (pos 1) (pos 0)) ∷ (numbers_row 0 29 13 (pos 8589934598) (pos 8589934608) (pos 4) (pos 0)) ∷ (numbers_row 51 27 3 (pos 8589934609) (pos 0) (pos 1) (pos 0)) ∷ (numbers_row 0 56 11 (pos 4) (pos 0) (pos 0) (pos 0)) ∷ (numbers_row 59 57 1 (pos 8589934611) (pos 0) (pos 0) (pos 0)) ∷ (numbers_row 60 59 1 (pos 8589934611) (pos 1) (pos 0) (pos 0)) ∷ (numbers_row 61 61 1 (pos 8589934611) (pos 2) (pos 0) (pos 0)) ∷ (numbers_row 62 63 1 (pos 8589934611) (pos 3) (pos 0) (pos 0)) ∷ (numbers_row 58 54 3 (pos 8589934611) (pos 0) (pos 5) (pos 0)) ∷ [])

abbrev unit : UnitTrees
unit = record {
  source = record { spellings = standard_names ++ ((68 ∷ 48 ∷ []) ∷ (84 ∷ 49 ∷ 54 ∷ []) ∷ (99 ∷ 49 ∷ 53 ∷ []) ∷ (82 ∷ 49 ∷ 55 ∷ []) ∷ (84 ∷ 49 ∷ []) ∷ (84 ∷ 50 ∷ []) ∷ (116 ∷ 51 ∷ []) ∷ (102 ∷ 52 ∷ []) ∷ (102 ∷ 53 ∷ []) ∷ (102 ∷ 54 ∷ []) ∷ (102 ∷ 55 ∷ []) ∷ (102 ∷ 56 ∷ []) ∷ (102 ∷ 57 ∷ []) ∷ (102 ∷ 49 ∷ 48 ∷ []) ∷ (102 ∷ 49 ∷ 49 ∷ []) ∷ (102 ∷ 49 ∷ 50 ∷ []) ∷ (102 ∷ 49 ∷ 51 ∷ []) ∷ (99 ∷ 49 ∷ 52 ∷ []) ∷ (102 ∷ 49 ∷ 56 ∷ []) ∷ (102 ∷ 49 ∷ 57 ∷ []) ∷ (72 ∷ 50 ∷ 48 ∷ []) ∷ (77 ∷ []) ∷ (118 ∷ 50 ∷ 49 ∷ []) ∷ (118 ∷ 50 ∷ 55 ∷ []) ∷ (101 ∷ 50 ∷ 50 ∷ []) ∷ (101 ∷ 50 ∷ 51 ∷ []) ∷ (101 ∷ 50 ∷ 52 ∷ []) ∷ (101 ∷ 50 ∷ 53 ∷ []) ∷ (101 ∷ 50 ∷ 54 ∷ []) ∷ (118 ∷ []) ∷ (118 ∷ 51 ∷ 50 ∷ []) ∷ (101 ∷ 50 ∷ 56 ∷ []) ∷ (101 ∷ 50 ∷ 57 ∷ []) ∷ (101 ∷ 51 ∷ 48 ∷ []) ∷ (101 ∷ 51 ∷ 49 ∷ []) ∷ []); definitions = ((definition_module 28 1) ∷ []) };
  own = None;
  definitions = (tree_1 ∷ []);
  main = (tree_2 ∷ []);
}

pub rows_are : unit_rows unit ≡ standard_rows ∷ (rows_1 ∷ rows_2 ∷ [])
unfolding unit_rows declare_block blocks_of standard_names
rows_are = refl

pub diagnostics_are : sorted_diags (declaration_diags unit) ≡ ((1 ∷ 85 ∷ 61 ∷ []) ∷ [])
unfolding unit_rows declare_block blocks_of declaration_diags standard_names
diagnostics_are = refl

pub answers_are : sorted_answers (declaration_answers unit) ≡ ((6 ∷ 1 ∷ 25 ∷ []) ∷ (8 ∷ 1 ∷ 23 ∷ []) ∷ (10 ∷ 1 ∷ 31 ∷ []) ∷ (12 ∷ 1 ∷ 0 ∷ []) ∷ (49 ∷ 1 ∷ 0 ∷ []) ∷ (116 ∷ 1 ∷ 25 ∷ []) ∷ [])
unfolding unit_rows declare_block blocks_of declaration_answers standard_names
answers_are = refl
