-- A unit, with what its declarations give. Names are numbered from 28 on as they come here.
--
-- M.mod:
--     MODULE M; FROM InOut IMPORT WriteCard; IMPORT D1; FROM D2 IMPORT T29, c18, O24, T26; TYPE CONST c42 = MIN(T26);
--     c43 = 17; TYPE T44 = RECORD f45: T29; f46: PROCEDURE (D1.O23, D1.T22, T26): D1.O23; f47: CARDINAL END; T48 =
--     POINTER TO RECORD f49: CARDINAL; f50: [2..5] END; T51 = POINTER TO R52; R52 = RECORD f53: T51; f54: CHAR END;
--     BEGIN IF ODD((-6)) THEN LOOP RETURN; WriteCard(ORD(TRUE), 30); IF ODD({1}) THEN EXIT END; WriteCard((24 + 3),
--     7) END END; CASE 7 OF 1+TRUE, 4: ; IF ((ODD(29)) & TRUE) OR (~TRUE) THEN WriteCard((14 + 3), ORD("-")) END END;
--     ; LOOP HALT; ; IF HIGH(x) THEN EXIT END; WriteCard(ORD("x"), SIZE(D1.T21)) END; ; END M.
--
-- D1.def:
--     DEFINITION MODULE D1; IMPORT D0; EXPORT QUALIFIED a, b; CONST c18 = 0CH; c19 = 3 IN {1, 3}; c20 = (12 + 3);
--     TYPE T21 = D0.T3; T22 = PROCEDURE (D0.O4): T21; TYPE O23; TYPE O24; PROCEDURE H25(): D0.O5; END D1.
--
-- D2.def:
--     DEFINITION MODULE D2; IMPORT D0; FROM D1 IMPORT T22, O24, c18, H25; TYPE T26 = (e27, e28); T29 = RECORD f30:
--     D0.O4; f31: INTEGER END; CONST c32 = 15; c33 = 7; c34 = 4; TYPE O35; PROCEDURE H36(): BITSET; PROCEDURE
--     H37(p38: BITSET; VAR p39, p40: D0.O5; H37: BITSET): CHAR; END D2.
--
-- D0.def:
--     DEFINITION MODULE D0; TYPE T1 = [7..-1]; T2 = CARDINAL; T3 = POINTER TO PROCEDURE (T1); TYPE O4; TYPE O5;
--     PROCEDURE H6(VAR p7: INTEGER; VAR BOOLEAN, p9: BOOLEAN); PROCEDURE H10(p11: ARRAY OF BOOLEAN; p12: INTEGER;
--     p13: O5): O4; PROCEDURE H14(p15: T1; p16, p17: BITSET); END D0.
use Rattle.std.specs.Prelude.{◌≡◌, pos, negsuc, true, false, List, [], ◌∷◌, ◌++◌, Some, None}
use Rattle.std.proofs.Common.{refl}
use Rattle.m2_base.specs.Names.{standard_names}
use Rattle.m2_base.specs.Rows.{Row, numbers_row}
use Rattle.m2_base.specs.Standard.{standard_rows}
use Rattle.m2_base.specs.Statics.BlockRows.{declare_block}
use Rattle.m2_base.specs.Statics.Blocks.{UnitTrees, blocks_of}
use Rattle.m2_base.specs.Statics.UnitNotes.{declaration_diags, declaration_answers}
use Rattle.m2_base.specs.Statics.UnitRows.{unit_rows}
use Rattle.m2_base.specs.Trees.{Stream, Main, Definition, expr, number_form, char_form, set_form, name_form, call_form, one_form, many_form, exprs, next, nexts, designator, selectors, one_label, labels, type_expr, named_type, enum_type, sub_type, record_type, pointer_type, proc_type, plain_fields, field_lists, const_decl, type_decl, vars_decl, proc_decl, statements}
use Rattle.m2_base.specs.declared.trees.operators.Operator.TheVariants.{In, Plus, Minus}
use Rattle.m2_base.proofs.UnitTerms.{ident, qual, formal, section, heading, an_import, stream, definition_module, sorted_diags, sorted_answers}

abbrev tree_1 : Stream
tree_1 = stream Definition false (Some (ident 27 2)) ([]) None ((const_decl (ident 38 5) (expr 7 (char_form 10))) ∷ (vars_decl ((ident 39 10) ∷ []) (type_expr 12 (named_type (qual (ident 4 12) None)))) ∷ (proc_decl (heading (ident 40 15) ((section true ((ident 41 18) ∷ []) false (qual (ident 3 20) None)) ∷ []) None) 0) ∷ (proc_decl (heading (ident 42 24) ((section true ((ident 43 27) ∷ []) false (qual (ident 1 29) None)) ∷ []) None) 0) ∷ (proc_decl (heading (ident 44 33) ((section true ((ident 43 36) ∷ []) false (qual (ident 2 38) None)) ∷ []) None) 0) ∷ (proc_decl (heading (ident 45 42) ((section false ((ident 41 44) ∷ []) false (qual (ident 3 46) None)) ∷ []) None) 0) ∷ (proc_decl (heading (ident 46 50) ((section false ((ident 47 52) ∷ []) true (qual (ident 3 56) None)) ∷ []) None) 0) ∷ (proc_decl (heading (ident 48 60) ([]) None) 0) ∷ (proc_decl (heading (ident 49 63) ((section false ((ident 43 65) ∷ []) false (qual (ident 1 67) None)) ∷ (section false ((ident 50 69) ∷ []) false (qual (ident 2 71) None)) ∷ []) None) 0) ∷ (proc_decl (heading (ident 28 75) ((section false ((ident 43 77) ∷ (ident 50 79) ∷ []) false (qual (ident 2 81) None)) ∷ []) None) 0) ∷ []) (statements []) (ident 27 85)

abbrev tree_2 : Stream
tree_2 = stream Definition false (Some (ident 35 2)) ([]) None ((type_decl (ident 51 5) (Some (type_expr 7 (sub_type None (expr 8 (number_form 7)) (expr 10 (one_form Minus 10 (expr 11 (number_form 1)))))))) ∷ (type_decl (ident 52 14) (Some (type_expr 16 (named_type (qual (ident 2 16) None))))) ∷ (type_decl (ident 53 18) (Some (type_expr 20 (pointer_type (type_expr 22 (proc_type ((formal false false (qual (ident 51 24) None)) ∷ []) None)))))) ∷ (type_decl (ident 54 28) None) ∷ (type_decl (ident 55 31) None) ∷ (proc_decl (heading (ident 56 34) ((section true ((ident 57 37) ∷ []) false (qual (ident 1 39) None)) ∷ (section true ((ident 4 42) ∷ (ident 58 44) ∷ []) false (qual (ident 4 46) None)) ∷ []) None) 0) ∷ (proc_decl (heading (ident 59 50) ((section false ((ident 60 52) ∷ []) true (qual (ident 4 56) None)) ∷ (section false ((ident 61 58) ∷ []) false (qual (ident 1 60) None)) ∷ (section false ((ident 62 62) ∷ []) false (qual (ident 55 64) None)) ∷ []) (Some (qual (ident 54 67) None))) 0) ∷ (proc_decl (heading (ident 63 70) ((section false ((ident 64 72) ∷ []) false (qual (ident 51 74) None)) ∷ (section false ((ident 65 76) ∷ (ident 66 78) ∷ []) false (qual (ident 5 80) None)) ∷ []) None) 0) ∷ []) (statements []) (ident 35 84)

abbrev tree_3 : Stream
tree_3 = stream Definition false (Some (ident 29 2)) ((an_import None ((ident 35 5) ∷ [])) ∷ []) None ((const_decl (ident 32 14) (expr 16 (number_form 12))) ∷ (const_decl (ident 69 18) (expr 20 (many_form (expr 20 (number_form 3)) (nexts ((next In 21 (expr 22 (set_form (labels ((one_label (expr 23 (number_form 1))) ∷ (one_label (expr 25 (number_form 3))) ∷ []))))) ∷ []))))) ∷ (const_decl (ident 70 28) (expr 30 (many_form (expr 31 (number_form 12)) (nexts ((next Plus 32 (expr 33 (number_form 3))) ∷ []))))) ∷ (type_decl (ident 71 37) (Some (type_expr 39 (named_type (qual (ident 35 39) (Some (ident 53 41))))))) ∷ (type_decl (ident 36 43) (Some (type_expr 45 (proc_type ((formal false false (qual (ident 35 47) (Some (ident 54 49)))) ∷ []) (Some (qual (ident 71 52) None)))))) ∷ (type_decl (ident 72 55) None) ∷ (type_decl (ident 33 58) None) ∷ (proc_decl (heading (ident 37 61) ([]) (Some (qual (ident 35 65) (Some (ident 55 67))))) 0) ∷ []) (statements []) (ident 29 70)

abbrev tree_4 : Stream
tree_4 = stream Definition false (Some (ident 30 2)) ((an_import None ((ident 35 5) ∷ [])) ∷ (an_import (Some (ident 29 8)) ((ident 36 10) ∷ (ident 33 12) ∷ (ident 32 14) ∷ (ident 37 16) ∷ [])) ∷ []) None ((type_decl (ident 34 19) (Some (type_expr 21 (enum_type ((ident 73 22) ∷ (ident 74 24) ∷ []))))) ∷ (type_decl (ident 31 27) (Some (type_expr 29 (record_type (field_lists ((plain_fields ((ident 75 30) ∷ []) (type_expr 32 (named_type (qual (ident 35 32) (Some (ident 54 34)))))) ∷ (plain_fields ((ident 76 36) ∷ []) (type_expr 38 (named_type (qual (ident 1 38) None)))) ∷ [])))))) ∷ (const_decl (ident 77 42) (expr 44 (number_form 15))) ∷ (const_decl (ident 78 46) (expr 48 (number_form 7))) ∷ (const_decl (ident 79 50) (expr 52 (number_form 4))) ∷ (type_decl (ident 80 55) None) ∷ (proc_decl (heading (ident 81 58) ([]) (Some (qual (ident 5 62) None))) 0) ∷ (proc_decl (heading (ident 82 65) ((section false ((ident 83 67) ∷ []) false (qual (ident 5 69) None)) ∷ (section true ((ident 84 72) ∷ (ident 85 74) ∷ []) false (qual (ident 35 76) (Some (ident 55 78)))) ∷ (section false ((ident 82 80) ∷ []) false (qual (ident 5 82) None)) ∷ []) (Some (qual (ident 3 85) None))) 0) ∷ []) (statements []) (ident 30 88)

abbrev tree_5 : Stream
tree_5 = stream Main false (Some (ident 86 1)) ((an_import (Some (ident 27 4)) ((ident 28 6) ∷ [])) ∷ (an_import None ((ident 29 9) ∷ [])) ∷ (an_import (Some (ident 30 12)) ((ident 31 14) ∷ (ident 32 16) ∷ (ident 33 18) ∷ (ident 34 20) ∷ [])) ∷ []) None ((const_decl (ident 87 24) (expr 26 (call_form (designator (ident 21 26) (selectors ([]))) (exprs ((expr 28 (name_form (designator (ident 34 28) (selectors ([]))))) ∷ []))))) ∷ (const_decl (ident 88 31) (expr 33 (number_form 17))) ∷ (type_decl (ident 89 36) (Some (type_expr 38 (record_type (field_lists ((plain_fields ((ident 90 39) ∷ []) (type_expr 41 (named_type (qual (ident 31 41) None)))) ∷ (plain_fields ((ident 91 43) ∷ []) (type_expr 45 (proc_type ((formal false false (qual (ident 29 47) (Some (ident 72 49)))) ∷ (formal false false (qual (ident 29 51) (Some (ident 36 53)))) ∷ (formal false false (qual (ident 34 55) None)) ∷ []) (Some (qual (ident 29 58) (Some (ident 72 60))))))) ∷ (plain_fields ((ident 92 62) ∷ []) (type_expr 64 (named_type (qual (ident 2 64) None)))) ∷ [])))))) ∷ (type_decl (ident 93 67) (Some (type_expr 69 (pointer_type (type_expr 71 (record_type (field_lists ((plain_fields ((ident 94 72) ∷ []) (type_expr 74 (named_type (qual (ident 2 74) None)))) ∷ (plain_fields ((ident 95 76) ∷ []) (type_expr 78 (sub_type None (expr 79 (number_form 2)) (expr 81 (number_form 5))))) ∷ [])))))))) ∷ (type_decl (ident 96 85) (Some (type_expr 87 (pointer_type (type_expr 89 (named_type (qual (ident 97 89) None))))))) ∷ (type_decl (ident 97 91) (Some (type_expr 93 (record_type (field_lists ((plain_fields ((ident 98 94) ∷ []) (type_expr 96 (named_type (qual (ident 96 96) None)))) ∷ (plain_fields ((ident 99 98) ∷ []) (type_expr 100 (named_type (qual (ident 3 100) None)))) ∷ [])))))) ∷ []) (statements []) (ident 86 225)

abbrev rows_1 : List Row
rows_1 = ((numbers_row 38 5 1 (pos 2) (pos 10) (pos 0) (pos 0)) ∷ (numbers_row 39 10 3 (pos 3) (pos 0) (pos 0) (pos 0)) ∷ (numbers_row 0 18 8 (pos 2) (pos 1) (pos 3) (pos 0)) ∷ (numbers_row 0 15 18 (negsuc 0) (pos 1) (pos 2) (pos 0)) ∷ (numbers_row 40 15 4 (pos 4294967299) (pos 0) (pos 0) (pos 0)) ∷ (numbers_row 0 27 8 (pos 0) (pos 1) (pos 6) (pos 0)) ∷ (numbers_row 0 24 18 (negsuc 0) (pos 1) (pos 5) (pos 0)) ∷ (numbers_row 42 24 4 (pos 4294967302) (pos 1) (pos 0) (pos 0)) ∷ (numbers_row 0 36 8 (pos 1) (pos 1) (pos 9) (pos 0)) ∷ (numbers_row 0 33 18 (negsuc 0) (pos 1) (pos 8) (pos 0)) ∷ (numbers_row 44 33 4 (pos 4294967305) (pos 2) (pos 0) (pos 0)) ∷ (numbers_row 0 44 8 (pos 2) (pos 0) (pos 12) (pos 0)) ∷ (numbers_row 0 42 18 (negsuc 0) (pos 1) (pos 11) (pos 0)) ∷ (numbers_row 45 42 4 (pos 4294967308) (pos 3) (pos 0) (pos 0)) ∷ (numbers_row 0 56 14 (pos 0) (pos 2) (pos 0) (pos 0)) ∷ (numbers_row 0 52 8 (pos 4294967310) (pos 0) (pos 16) (pos 0)) ∷ (numbers_row 0 50 18 (negsuc 0) (pos 1) (pos 14) (pos 0)) ∷ (numbers_row 46 50 4 (pos 4294967312) (pos 4) (pos 0) (pos 0)) ∷ (numbers_row 0 60 18 (negsuc 0) (pos 0) (pos 18) (pos 0)) ∷ (numbers_row 48 60 4 (pos 4294967314) (pos 5) (pos 0) (pos 0)) ∷ (numbers_row 0 65 8 (pos 0) (pos 0) (pos 22) (pos 0)) ∷ (numbers_row 0 69 8 (pos 1) (pos 0) (pos 22) (pos 0)) ∷ (numbers_row 0 63 18 (negsuc 0) (pos 2) (pos 20) (pos 0)) ∷ (numbers_row 49 63 4 (pos 4294967318) (pos 6) (pos 0) (pos 0)) ∷ (numbers_row 0 77 8 (pos 1) (pos 0) (pos 26) (pos 0)) ∷ (numbers_row 0 79 8 (pos 1) (pos 0) (pos 26) (pos 0)) ∷ (numbers_row 0 75 18 (negsuc 0) (pos 2) (pos 24) (pos 0)) ∷ (numbers_row 28 75 4 (pos 4294967322) (pos 7) (pos 0) (pos 0)) ∷ [])

abbrev rows_2 : List Row
rows_2 = ((numbers_row 0 7 12 (pos 10) (pos 0) (pos 0) (pos 0)) ∷ (numbers_row 51 5 2 (pos 10) (pos 0) (pos 0) (pos 0)) ∷ (numbers_row 52 14 2 (pos 1) (pos 0) (pos 0) (pos 0)) ∷ (numbers_row 0 24 8 (pos 10) (pos 0) (pos 4) (pos 0)) ∷ (numbers_row 0 22 18 (negsuc 0) (pos 1) (pos 3) (pos 0)) ∷ (numbers_row 0 20 17 (pos 8589934596) (pos 0) (pos 0) (pos 0)) ∷ (numbers_row 53 18 2 (pos 8589934597) (pos 0) (pos 0) (pos 0)) ∷ (numbers_row 0 28 19 (pos 0) (pos 0) (pos 0) (pos 0)) ∷ (numbers_row 54 28 2 (pos 8589934599) (pos 0) (pos 0) (pos 0)) ∷ (numbers_row 0 31 19 (pos 0) (pos 0) (pos 0) (pos 0)) ∷ (numbers_row 55 31 2 (pos 8589934601) (pos 0) (pos 0) (pos 0)) ∷ (numbers_row 0 37 8 (pos 0) (pos 1) (pos 14) (pos 0)) ∷ (numbers_row 0 42 8 (pos 3) (pos 1) (pos 14) (pos 0)) ∷ (numbers_row 0 44 8 (pos 3) (pos 1) (pos 14) (pos 0)) ∷ (numbers_row 0 34 18 (negsuc 0) (pos 3) (pos 11) (pos 0)) ∷ (numbers_row 56 34 4 (pos 8589934606) (pos 0) (pos 0) (pos 0)) ∷ (numbers_row 0 56 14 (pos 0) (pos 3) (pos 0) (pos 0)) ∷ (numbers_row 0 52 8 (pos 8589934608) (pos 0) (pos 20) (pos 0)) ∷ (numbers_row 0 58 8 (pos 0) (pos 0) (pos 20) (pos 0)) ∷ (numbers_row 0 62 8 (pos 8589934601) (pos 0) (pos 20) (pos 0)) ∷ (numbers_row 0 50 18 (pos 8589934599) (pos 3) (pos 16) (pos 0)) ∷ (numbers_row 59 50 4 (pos 8589934612) (pos 1) (pos 0) (pos 0)) ∷ (numbers_row 0 72 8 (pos 10) (pos 0) (pos 25) (pos 0)) ∷ (numbers_row 0 76 8 (pos 5) (pos 0) (pos 25) (pos 0)) ∷ (numbers_row 0 78 8 (pos 5) (pos 0) (pos 25) (pos 0)) ∷ (numbers_row 0 70 18 (negsuc 0) (pos 3) (pos 22) (pos 0)) ∷ (numbers_row 63 70 4 (pos 8589934617) (pos 2) (pos 0) (pos 0)) ∷ [])

abbrev rows_3 : List Row
rows_3 = ((numbers_row 35 5 5 (pos 2) (pos 0) (pos 0) (pos 0)) ∷ (numbers_row 32 14 1 (pos 9) (pos 12) (pos 0) (pos 0)) ∷ (numbers_row 69 18 1 (pos 3) (pos 1) (pos 0) (pos 0)) ∷ (numbers_row 70 28 1 (pos 9) (pos 15) (pos 0) (pos 0)) ∷ (numbers_row 71 37 2 (pos 8589934597) (pos 0) (pos 0) (pos 0)) ∷ (numbers_row 0 47 8 (pos 8589934599) (pos 0) (pos 6) (pos 0)) ∷ (numbers_row 0 45 18 (pos 8589934597) (pos 1) (pos 5) (pos 0)) ∷ (numbers_row 36 43 2 (pos 12884901894) (pos 0) (pos 0) (pos 0)) ∷ (numbers_row 0 55 19 (pos 0) (pos 0) (pos 0) (pos 0)) ∷ (numbers_row 72 55 2 (pos 12884901896) (pos 0) (pos 0) (pos 0)) ∷ (numbers_row 0 58 19 (pos 0) (pos 0) (pos 0) (pos 0)) ∷ (numbers_row 33 58 2 (pos 12884901898) (pos 0) (pos 0) (pos 0)) ∷ (numbers_row 0 61 18 (pos 8589934601) (pos 0) (pos 12) (pos 0)) ∷ (numbers_row 37 61 4 (pos 12884901900) (pos 0) (pos 0) (pos 0)) ∷ [])

abbrev rows_4 : List Row
rows_4 = ((numbers_row 35 5 5 (pos 2) (pos 0) (pos 0) (pos 0)) ∷ (numbers_row 36 10 6 (pos 12884901895) (pos 0) (pos 0) (pos 0)) ∷ (numbers_row 33 12 6 (pos 12884901899) (pos 0) (pos 0) (pos 0)) ∷ (numbers_row 32 14 6 (pos 12884901889) (pos 0) (pos 0) (pos 0)) ∷ (numbers_row 37 16 6 (pos 12884901901) (pos 0) (pos 0) (pos 0)) ∷ (numbers_row 0 21 11 (pos 2) (pos 0) (pos 0) (pos 0)) ∷ (numbers_row 73 22 1 (pos 17179869189) (pos 0) (pos 0) (pos 0)) ∷ (numbers_row 74 24 1 (pos 17179869189) (pos 1) (pos 0) (pos 0)) ∷ (numbers_row 34 19 2 (pos 17179869189) (pos 0) (pos 0) (pos 0)) ∷ (numbers_row 0 30 7 (pos 8589934599) (pos 0) (pos 11) (pos 75)) ∷ (numbers_row 0 36 7 (pos 0) (pos 1) (pos 11) (pos 76)) ∷ (numbers_row 0 29 15 (pos 9) (pos 0) (pos 2) (pos 0)) ∷ (numbers_row 31 27 2 (pos 17179869195) (pos 0) (pos 0) (pos 0)) ∷ (numbers_row 77 42 1 (pos 9) (pos 15) (pos 0) (pos 0)) ∷ (numbers_row 78 46 1 (pos 9) (pos 7) (pos 0) (pos 0)) ∷ (numbers_row 79 50 1 (pos 9) (pos 4) (pos 0) (pos 0)) ∷ (numbers_row 0 55 19 (pos 0) (pos 0) (pos 0) (pos 0)) ∷ (numbers_row 80 55 2 (pos 17179869200) (pos 0) (pos 0) (pos 0)) ∷ (numbers_row 0 58 18 (pos 5) (pos 0) (pos 18) (pos 0)) ∷ (numbers_row 81 58 4 (pos 17179869202) (pos 0) (pos 0) (pos 0)) ∷ (numbers_row 0 67 8 (pos 5) (pos 0) (pos 24) (pos 0)) ∷ (numbers_row 0 72 8 (pos 8589934601) (pos 1) (pos 24) (pos 0)) ∷ (numbers_row 0 74 8 (pos 8589934601) (pos 1) (pos 24) (pos 0)) ∷ (numbers_row 0 80 8 (pos 5) (pos 0) (pos 24) (pos 0)) ∷ (numbers_row 0 65 18 (pos 2) (pos 4) (pos 20) (pos 0)) ∷ (numbers_row 82 65 4 (pos 17179869208) (pos 1) (pos 0) (pos 0)) ∷ [])

abbrev rows_5 : List Row
rows_5 = ((numbers_row 28 6 6 (pos 4294967323) (pos 0) (pos 0) (pos 0)) ∷ (numbers_row 29 9 5 (pos 3) (pos 0) (pos 0) (pos 0)) ∷ (numbers_row 31 14 6 (pos 17179869196) (pos 0) (pos 0) (pos 0)) ∷ (numbers_row 32 16 6 (pos 12884901889) (pos 0) (pos 0) (pos 0)) ∷ (numbers_row 33 18 6 (pos 12884901899) (pos 0) (pos 0) (pos 0)) ∷ (numbers_row 34 20 6 (pos 17179869192) (pos 0) (pos 0) (pos 0)) ∷ (numbers_row 73 20 6 (pos 17179869190) (pos 0) (pos 0) (pos 0)) ∷ (numbers_row 74 20 6 (pos 17179869191) (pos 0) (pos 0) (pos 0)) ∷ (numbers_row 87 24 1 (pos 17179869189) (pos 0) (pos 0) (pos 0)) ∷ (numbers_row 88 31 1 (pos 9) (pos 17) (pos 0) (pos 0)) ∷ (numbers_row 0 39 7 (pos 17179869195) (pos 0) (pos 17) (pos 90)) ∷ (numbers_row 0 47 8 (pos 12884901896) (pos 0) (pos 14) (pos 0)) ∷ (numbers_row 0 51 8 (pos 12884901894) (pos 0) (pos 14) (pos 0)) ∷ (numbers_row 0 55 8 (pos 17179869189) (pos 0) (pos 14) (pos 0)) ∷ (numbers_row 0 45 18 (pos 12884901896) (pos 3) (pos 11) (pos 0)) ∷ (numbers_row 0 43 7 (pos 21474836494) (pos 2) (pos 17) (pos 91)) ∷ (numbers_row 0 62 7 (pos 1) (pos 3) (pos 17) (pos 92)) ∷ (numbers_row 0 38 15 (pos 10) (pos 0) (pos 4) (pos 0)) ∷ (numbers_row 89 36 2 (pos 21474836497) (pos 0) (pos 0) (pos 0)) ∷ (numbers_row 0 72 7 (pos 1) (pos 0) (pos 22) (pos 94)) ∷ (numbers_row 0 78 12 (pos 1) (pos 2) (pos 5) (pos 0)) ∷ (numbers_row 0 76 7 (pos 21474836500) (pos 1) (pos 22) (pos 95)) ∷ (numbers_row 0 71 15 (pos 19) (pos 0) (pos 2) (pos 0)) ∷ (numbers_row 0 69 17 (pos 21474836502) (pos 0) (pos 0) (pos 0)) ∷ (numbers_row 93 67 2 (pos 21474836503) (pos 0) (pos 0) (pos 0)) ∷ (numbers_row 0 87 17 (pos 21474836510) (pos 0) (pos 0) (pos 0)) ∷ (numbers_row 96 85 2 (pos 21474836505) (pos 0) (pos 0) (pos 0)) ∷ (numbers_row 0 94 7 (pos 21474836505) (pos 0) (pos 29) (pos 98)) ∷ (numbers_row 0 98 7 (pos 2) (pos 1) (pos 29) (pos 99)) ∷ (numbers_row 0 93 15 (pos 27) (pos 0) (pos 2) (pos 0)) ∷ (numbers_row 97 91 2 (pos 21474836509) (pos 0) (pos 0) (pos 0)) ∷ [])

abbrev unit : UnitTrees
unit = record {
  source = record { spellings = standard_names ++ ((87 ∷ 114 ∷ 105 ∷ 116 ∷ 101 ∷ 67 ∷ 97 ∷ 114 ∷ 100 ∷ []) ∷ (68 ∷ 49 ∷ []) ∷ (68 ∷ 50 ∷ []) ∷ (84 ∷ 50 ∷ 57 ∷ []) ∷ (99 ∷ 49 ∷ 56 ∷ []) ∷ (79 ∷ 50 ∷ 52 ∷ []) ∷ (84 ∷ 50 ∷ 54 ∷ []) ∷ (68 ∷ 48 ∷ []) ∷ (84 ∷ 50 ∷ 50 ∷ []) ∷ (72 ∷ 50 ∷ 53 ∷ []) ∷ (69 ∷ 79 ∷ 76 ∷ []) ∷ (68 ∷ 111 ∷ 110 ∷ 101 ∷ []) ∷ (82 ∷ 101 ∷ 97 ∷ 100 ∷ []) ∷ (99 ∷ 104 ∷ []) ∷ (82 ∷ 101 ∷ 97 ∷ 100 ∷ 73 ∷ 110 ∷ 116 ∷ []) ∷ (120 ∷ []) ∷ (82 ∷ 101 ∷ 97 ∷ 100 ∷ 67 ∷ 97 ∷ 114 ∷ 100 ∷ []) ∷ (87 ∷ 114 ∷ 105 ∷ 116 ∷ 101 ∷ []) ∷ (87 ∷ 114 ∷ 105 ∷ 116 ∷ 101 ∷ 83 ∷ 116 ∷ 114 ∷ 105 ∷ 110 ∷ 103 ∷ []) ∷ (115 ∷ []) ∷ (87 ∷ 114 ∷ 105 ∷ 116 ∷ 101 ∷ 76 ∷ 110 ∷ []) ∷ (87 ∷ 114 ∷ 105 ∷ 116 ∷ 101 ∷ 73 ∷ 110 ∷ 116 ∷ []) ∷ (110 ∷ []) ∷ (84 ∷ 49 ∷ []) ∷ (84 ∷ 50 ∷ []) ∷ (84 ∷ 51 ∷ []) ∷ (79 ∷ 52 ∷ []) ∷ (79 ∷ 53 ∷ []) ∷ (72 ∷ 54 ∷ []) ∷ (112 ∷ 55 ∷ []) ∷ (112 ∷ 57 ∷ []) ∷ (72 ∷ 49 ∷ 48 ∷ []) ∷ (112 ∷ 49 ∷ 49 ∷ []) ∷ (112 ∷ 49 ∷ 50 ∷ []) ∷ (112 ∷ 49 ∷ 51 ∷ []) ∷ (72 ∷ 49 ∷ 52 ∷ []) ∷ (112 ∷ 49 ∷ 53 ∷ []) ∷ (112 ∷ 49 ∷ 54 ∷ []) ∷ (112 ∷ 49 ∷ 55 ∷ []) ∷ (97 ∷ []) ∷ (98 ∷ []) ∷ (99 ∷ 49 ∷ 57 ∷ []) ∷ (99 ∷ 50 ∷ 48 ∷ []) ∷ (84 ∷ 50 ∷ 49 ∷ []) ∷ (79 ∷ 50 ∷ 51 ∷ []) ∷ (101 ∷ 50 ∷ 55 ∷ []) ∷ (101 ∷ 50 ∷ 56 ∷ []) ∷ (102 ∷ 51 ∷ 48 ∷ []) ∷ (102 ∷ 51 ∷ 49 ∷ []) ∷ (99 ∷ 51 ∷ 50 ∷ []) ∷ (99 ∷ 51 ∷ 51 ∷ []) ∷ (99 ∷ 51 ∷ 52 ∷ []) ∷ (79 ∷ 51 ∷ 53 ∷ []) ∷ (72 ∷ 51 ∷ 54 ∷ []) ∷ (72 ∷ 51 ∷ 55 ∷ []) ∷ (112 ∷ 51 ∷ 56 ∷ []) ∷ (112 ∷ 51 ∷ 57 ∷ []) ∷ (112 ∷ 52 ∷ 48 ∷ []) ∷ (77 ∷ []) ∷ (99 ∷ 52 ∷ 50 ∷ []) ∷ (99 ∷ 52 ∷ 51 ∷ []) ∷ (84 ∷ 52 ∷ 52 ∷ []) ∷ (102 ∷ 52 ∷ 53 ∷ []) ∷ (102 ∷ 52 ∷ 54 ∷ []) ∷ (102 ∷ 52 ∷ 55 ∷ []) ∷ (84 ∷ 52 ∷ 56 ∷ []) ∷ (102 ∷ 52 ∷ 57 ∷ []) ∷ (102 ∷ 53 ∷ 48 ∷ []) ∷ (84 ∷ 53 ∷ 49 ∷ []) ∷ (82 ∷ 53 ∷ 50 ∷ []) ∷ (102 ∷ 53 ∷ 51 ∷ []) ∷ (102 ∷ 53 ∷ 52 ∷ []) ∷ []); definitions = ((definition_module 27 1) ∷ (definition_module 35 4) ∷ (definition_module 29 2) ∷ (definition_module 30 3) ∷ []) };
  own = None;
  definitions = (tree_1 ∷ tree_2 ∷ tree_3 ∷ tree_4 ∷ []);
  main = (tree_5 ∷ []);
}

pub rows_are : unit_rows unit ≡ standard_rows ∷ (rows_1 ∷ rows_2 ∷ rows_3 ∷ rows_4 ∷ rows_5 ∷ [])
unfolding unit_rows declare_block blocks_of standard_names
rows_are = refl

pub diagnostics_are : sorted_diags (declaration_diags unit) ≡ ((4 ∷ 10 ∷ 47 ∷ []) ∷ [])
unfolding unit_rows declare_block blocks_of declaration_diags standard_names
diagnostics_are = refl

pub answers_are : sorted_answers (declaration_answers unit) ≡ ((6 ∷ 1 ∷ 27 ∷ []) ∷ (10 ∷ 3 ∷ 7 ∷ []) ∷ (12 ∷ 3 ∷ 11 ∷ []) ∷ (14 ∷ 3 ∷ 1 ∷ []) ∷ (14 ∷ 4 ∷ 12 ∷ []) ∷ (16 ∷ 3 ∷ 13 ∷ []) ∷ (16 ∷ 4 ∷ 3 ∷ []) ∷ (18 ∷ 4 ∷ 2 ∷ []) ∷ (20 ∷ 4 ∷ 8 ∷ []) ∷ (24 ∷ 2 ∷ 1 ∷ []) ∷ (28 ∷ 5 ∷ 5 ∷ []) ∷ (32 ∷ 4 ∷ 0 ∷ []) ∷ (34 ∷ 2 ∷ 8 ∷ []) ∷ (39 ∷ 3 ∷ 0 ∷ []) ∷ (41 ∷ 2 ∷ 6 ∷ []) ∷ (41 ∷ 5 ∷ 2 ∷ []) ∷ (47 ∷ 3 ∷ 0 ∷ []) ∷ (47 ∷ 5 ∷ 1 ∷ []) ∷ (49 ∷ 2 ∷ 8 ∷ []) ∷ (49 ∷ 3 ∷ 9 ∷ []) ∷ (51 ∷ 5 ∷ 1 ∷ []) ∷ (52 ∷ 3 ∷ 4 ∷ []) ∷ (53 ∷ 3 ∷ 7 ∷ []) ∷ (55 ∷ 5 ∷ 5 ∷ []) ∷ (58 ∷ 5 ∷ 1 ∷ []) ∷ (60 ∷ 3 ∷ 9 ∷ []) ∷ (64 ∷ 2 ∷ 10 ∷ []) ∷ (65 ∷ 3 ∷ 0 ∷ []) ∷ (67 ∷ 2 ∷ 8 ∷ []) ∷ (67 ∷ 2 ∷ 10 ∷ []) ∷ (74 ∷ 2 ∷ 1 ∷ []) ∷ (76 ∷ 4 ∷ 0 ∷ []) ∷ (78 ∷ 2 ∷ 10 ∷ []) ∷ (96 ∷ 5 ∷ 26 ∷ []) ∷ [])
unfolding unit_rows declare_block blocks_of declaration_answers standard_names
answers_are = refl
