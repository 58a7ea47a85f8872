-- A unit, with what its declarations give. Names are numbered from 28 on as they come here.
--
-- M.mod:
--     MODULE M; FROM InOut IMPORT WriteString; FROM D0 IMPORT e3, c7, T2, T1; TYPE T13 = ARRAY (e14, e15) OF RECORD
--     f16: CARDINAL; f17: INTEGER; f18: RECORD f19: T2; f20: T2 END END; T21 = [-6..-5]; T22 = T21; PROCEDURE P23():
--     T21; BEGIN REPEAT IF ODD(16) THEN RETURN P23() MOD (P23() - (P23() + ((-5)))); ; END; UNTIL FALSE & TRUE; HALT;
--     IF TRUE THEN RETURN P23() - (P23()) ELSIF ODD(14) THEN ELSE END; RETURN P23() END P23; CONST c24 = 18; CONST
--     c25 = MAX(T1); c26 = '. cx'; PROCEDURE P27(VAR p28: BOOLEAN; p29, p30: T21; VAR p31, p32: T2): CARDINAL; TYPE
--     T33 = CHAR; VAR v34: [2..3]; v35: BOOLEAN; v36, v37: T2; BEGIN DEC(p28, (ORD(ODD((p29 + 08H) - p30)))); CASE
--     p30 OF (-5): v36 := v36 | ELSE FOR v36 := v36 TO v36 DO RETURN v34 DIV (v34 DIV 0); v37 := v36 END; END; ;
--     RETURN v34 + (v34 MOD ((v34 - 28) - v34)) END P27; PROCEDURE P38(): T1; BEGIN IF TRUE THEN LOOP ; ; IF (P38())
--     > (P38() DIV ((P23() - ((5 - 4))) - 0)) THEN EXIT END; ; END ELSE END; ; ; ; RETURN P23() + (P23() * ((P23() +
--     ((-3))) DIV 6)) END P38; CONST c39 = 10; BEGIN ; ; END M.
--
-- D0.def:
--     DEFINITION MODULE D0; TYPE T1 = [-4..-3]; T2 = (e3, e4, e5, e6); CONST c7 = 3 IN {1, 3}; c8 = MAX(T2); c9 =
--     "xyx"; TYPE T10 = INTEGER; T11 = RECORD CASE : BOOLEAN OF FALSE: END END; VAR v12: [e4..e6]; END D0.
use Rattle.std.specs.Prelude.{◌≡◌, pos, negsuc, true, false, List, [], ◌∷◌, ◌++◌, Some, None}
use Rattle.std.proofs.Common.{refl}
use Rattle.m2_base.specs.Names.{standard_names}
use Rattle.m2_base.specs.Rows.{Row, numbers_row}
use Rattle.m2_base.specs.Standard.{standard_rows}
use Rattle.m2_base.specs.Statics.BlockRows.{declare_block}
use Rattle.m2_base.specs.Statics.Blocks.{UnitTrees, blocks_of}
use Rattle.m2_base.specs.Statics.UnitNotes.{declaration_diags, declaration_answers}
use Rattle.m2_base.specs.Statics.UnitRows.{unit_rows}
use Rattle.m2_base.specs.Trees.{Stream, Main, Definition, Procedure, expr, number_form, char_form, string_form, set_form, name_form, call_form, one_form, many_form, exprs, next, nexts, designator, selectors, one_label, labels, type_expr, named_type, enum_type, sub_type, array_type, record_type, type_exprs, plain_fields, case_fields, field_lists, variant_arm, variant_arms, const_decl, type_decl, vars_decl, proc_decl, statements}
use Rattle.m2_base.specs.declared.trees.operators.Operator.TheVariants.{In, Minus}
use Rattle.m2_base.proofs.UnitTerms.{ident, qual, section, heading, an_import, stream, definition_module, sorted_diags, sorted_answers}

abbrev tree_1 : Stream
tree_1 = stream Definition false (Some (ident 27 2)) ([]) None ((const_decl (ident 34 5) (expr 7 (char_form 10))) ∷ (vars_decl ((ident 35 10) ∷ []) (type_expr 12 (named_type (qual (ident 4 12) None)))) ∷ (proc_decl (heading (ident 36 15) ((section true ((ident 37 18) ∷ []) false (qual (ident 3 20) None)) ∷ []) None) 0) ∷ (proc_decl (heading (ident 38 24) ((section true ((ident 39 27) ∷ []) false (qual (ident 1 29) None)) ∷ []) None) 0) ∷ (proc_decl (heading (ident 40 33) ((section true ((ident 39 36) ∷ []) false (qual (ident 2 38) None)) ∷ []) None) 0) ∷ (proc_decl (heading (ident 41 42) ((section false ((ident 37 44) ∷ []) false (qual (ident 3 46) None)) ∷ []) None) 0) ∷ (proc_decl (heading (ident 28 50) ((section false ((ident 42 52) ∷ []) true (qual (ident 3 56) None)) ∷ []) None) 0) ∷ (proc_decl (heading (ident 43 60) ([]) None) 0) ∷ (proc_decl (heading (ident 44 63) ((section false ((ident 39 65) ∷ []) false (qual (ident 1 67) None)) ∷ (section false ((ident 45 69) ∷ []) false (qual (ident 2 71) None)) ∷ []) None) 0) ∷ (proc_decl (heading (ident 46 75) ((section false ((ident 39 77) ∷ (ident 45 79) ∷ []) false (qual (ident 2 81) None)) ∷ []) None) 0) ∷ []) (statements []) (ident 27 85)

abbrev tree_2 : Stream
tree_2 = stream Definition false (Some (ident 29 2)) ([]) None ((type_decl (ident 33 5) (Some (type_expr 7 (sub_type None (expr 8 (one_form Minus 8 (expr 9 (number_form 4)))) (expr 11 (one_form Minus 11 (expr 12 (number_form 3)))))))) ∷ (type_decl (ident 32 15) (Some (type_expr 17 (enum_type ((ident 30 18) ∷ (ident 47 20) ∷ (ident 48 22) ∷ (ident 49 24) ∷ []))))) ∷ (const_decl (ident 31 28) (expr 30 (many_form (expr 30 (number_form 3)) (nexts ((next In 31 (expr 32 (set_form (labels ((one_label (expr 33 (number_form 1))) ∷ (one_label (expr 35 (number_form 3))) ∷ []))))) ∷ []))))) ∷ (const_decl (ident 50 38) (expr 40 (call_form (designator (ident 20 40) (selectors ([]))) (exprs ((expr 42 (name_form (designator (ident 32 42) (selectors ([]))))) ∷ []))))) ∷ (const_decl (ident 51 45) (expr 47 (string_form 52))) ∷ (type_decl (ident 53 50) (Some (type_expr 52 (named_type (qual (ident 1 52) None))))) ∷ (type_decl (ident 54 54) (Some (type_expr 56 (record_type (field_lists ((case_fields None (qual (ident 4 59) None) (variant_arms ((variant_arm (labels ((one_label (expr 61 (name_form (designator (ident 8 61) (selectors ([])))))) ∷ [])) (field_lists ([]))) ∷ [])) (field_lists [])) ∷ [])))))) ∷ (vars_decl ((ident 55 67) ∷ []) (type_expr 69 (sub_type None (expr 70 (name_form (designator (ident 47 70) (selectors ([]))))) (expr 72 (name_form (designator (ident 49 72) (selectors ([])))))))) ∷ []) (statements []) (ident 29 76)

abbrev tree_3 : Stream
tree_3 = stream Main false (Some (ident 56 1)) ((an_import (Some (ident 27 4)) ((ident 28 6) ∷ [])) ∷ (an_import (Some (ident 29 9)) ((ident 30 11) ∷ (ident 31 13) ∷ (ident 32 15) ∷ (ident 33 17) ∷ [])) ∷ []) None ((type_decl (ident 57 20) (Some (type_expr 22 (array_type (type_exprs ((type_expr 23 (enum_type ((ident 58 24) ∷ (ident 59 26) ∷ []))) ∷ [])) (type_expr 29 (record_type (field_lists ((plain_fields ((ident 60 30) ∷ []) (type_expr 32 (named_type (qual (ident 2 32) None)))) ∷ (plain_fields ((ident 61 34) ∷ []) (type_expr 36 (named_type (qual (ident 1 36) None)))) ∷ (plain_fields ((ident 62 38) ∷ []) (type_expr 40 (record_type (field_lists ((plain_fields ((ident 63 41) ∷ []) (type_expr 43 (named_type (qual (ident 32 43) None)))) ∷ (plain_fields ((ident 64 45) ∷ []) (type_expr 47 (named_type (qual (ident 32 47) None)))) ∷ []))))) ∷ [])))))))) ∷ (type_decl (ident 65 51) (Some (type_expr 53 (sub_type None (expr 54 (one_form Minus 54 (expr 55 (number_form 6)))) (expr 57 (one_form Minus 57 (expr 58 (number_form 5)))))))) ∷ (type_decl (ident 66 61) (Some (type_expr 63 (named_type (qual (ident 65 63) None))))) ∷ (proc_decl (heading (ident 67 66) ([]) (Some (qual (ident 65 70) None))) 4) ∷ (const_decl (ident 68 144) (expr 146 (number_form 18))) ∷ (const_decl (ident 69 149) (expr 151 (call_form (designator (ident 20 151) (selectors ([]))) (exprs ((expr 153 (name_form (designator (ident 33 153) (selectors ([]))))) ∷ []))))) ∷ (const_decl (ident 70 156) (expr 158 (string_form 71))) ∷ (proc_decl (heading (ident 72 161) ((section true ((ident 73 164) ∷ []) false (qual (ident 4 166) None)) ∷ (section false ((ident 74 168) ∷ (ident 75 170) ∷ []) false (qual (ident 65 172) None)) ∷ (section true ((ident 76 175) ∷ (ident 77 177) ∷ []) false (qual (ident 32 179) None)) ∷ []) (Some (qual (ident 2 182) None))) 5) ∷ (proc_decl (heading (ident 83 287) ([]) (Some (qual (ident 33 291) None))) 6) ∷ (const_decl (ident 84 373) (expr 375 (number_form 10))) ∷ []) (statements []) (ident 56 381)

abbrev tree_4 : Stream
tree_4 = stream Procedure false None [] (Some (heading (ident 67 66) ([]) (Some (qual (ident 65 70) None)))) ([]) (statements []) (ident 67 141)

abbrev tree_5 : Stream
tree_5 = stream Procedure false None [] (Some (heading (ident 72 161) ((section true ((ident 73 164) ∷ []) false (qual (ident 4 166) None)) ∷ (section false ((ident 74 168) ∷ (ident 75 170) ∷ []) false (qual (ident 65 172) None)) ∷ (section true ((ident 76 175) ∷ (ident 77 177) ∷ []) false (qual (ident 32 179) None)) ∷ []) (Some (qual (ident 2 182) None)))) ((type_decl (ident 78 185) (Some (type_expr 187 (named_type (qual (ident 3 187) None))))) ∷ (vars_decl ((ident 79 190) ∷ []) (type_expr 192 (sub_type None (expr 193 (number_form 2)) (expr 195 (number_form 3))))) ∷ (vars_decl ((ident 80 198) ∷ []) (type_expr 200 (named_type (qual (ident 4 200) None)))) ∷ (vars_decl ((ident 81 202) ∷ (ident 82 204) ∷ []) (type_expr 206 (named_type (qual (ident 32 206) None)))) ∷ []) (statements []) (ident 72 284)

abbrev tree_6 : Stream
tree_6 = stream Procedure false None [] (Some (heading (ident 83 287) ([]) (Some (qual (ident 33 291) None)))) ([]) (statements []) (ident 83 370)

abbrev rows_1 : List Row
rows_1 = ((numbers_row 34 5 1 (pos 2) (pos 10) (pos 0) (pos 0)) ∷ (numbers_row 35 10 3 (pos 3) (pos 0) (pos 0) (pos 0)) ∷ (numbers_row 0 18 8 (pos 2) (pos 1) (pos 3) (pos 0)) ∷ (numbers_row 0 15 18 (negsuc 0) (pos 1) (pos 2) (pos 0)) ∷ (numbers_row 36 15 4 (pos 4294967299) (pos 0) (pos 0) (pos 0)) ∷ (numbers_row 0 27 8 (pos 0) (pos 1) (pos 6) (pos 0)) ∷ (numbers_row 0 24 18 (negsuc 0) (pos 1) (pos 5) (pos 0)) ∷ (numbers_row 38 24 4 (pos 4294967302) (pos 1) (pos 0) (pos 0)) ∷ (numbers_row 0 36 8 (pos 1) (pos 1) (pos 9) (pos 0)) ∷ (numbers_row 0 33 18 (negsuc 0) (pos 1) (pos 8) (pos 0)) ∷ (numbers_row 40 33 4 (pos 4294967305) (pos 2) (pos 0) (pos 0)) ∷ (numbers_row 0 44 8 (pos 2) (pos 0) (pos 12) (pos 0)) ∷ (numbers_row 0 42 18 (negsuc 0) (pos 1) (pos 11) (pos 0)) ∷ (numbers_row 41 42 4 (pos 4294967308) (pos 3) (pos 0) (pos 0)) ∷ (numbers_row 0 56 14 (pos 0) (pos 2) (pos 0) (pos 0)) ∷ (numbers_row 0 52 8 (pos 4294967310) (pos 0) (pos 16) (pos 0)) ∷ (numbers_row 0 50 18 (negsuc 0) (pos 1) (pos 14) (pos 0)) ∷ (numbers_row 28 50 4 (pos 4294967312) (pos 4) (pos 0) (pos 0)) ∷ (numbers_row 0 60 18 (negsuc 0) (pos 0) (pos 18) (pos 0)) ∷ (numbers_row 43 60 4 (pos 4294967314) (pos 5) (pos 0) (pos 0)) ∷ (numbers_row 0 65 8 (pos 0) (pos 0) (pos 22) (pos 0)) ∷ (numbers_row 0 69 8 (pos 1) (pos 0) (pos 22) (pos 0)) ∷ (numbers_row 0 63 18 (negsuc 0) (pos 2) (pos 20) (pos 0)) ∷ (numbers_row 44 63 4 (pos 4294967318) (pos 6) (pos 0) (pos 0)) ∷ (numbers_row 0 77 8 (pos 1) (pos 0) (pos 26) (pos 0)) ∷ (numbers_row 0 79 8 (pos 1) (pos 0) (pos 26) (pos 0)) ∷ (numbers_row 0 75 18 (negsuc 0) (pos 2) (pos 24) (pos 0)) ∷ (numbers_row 46 75 4 (pos 4294967322) (pos 7) (pos 0) (pos 0)) ∷ [])

abbrev rows_2 : List Row
rows_2 = ((numbers_row 0 7 12 (pos 0) (negsuc 3) (negsuc 2) (pos 0)) ∷ (numbers_row 33 5 2 (pos 8589934592) (pos 0) (pos 0) (pos 0)) ∷ (numbers_row 0 17 11 (pos 4) (pos 0) (pos 0) (pos 0)) ∷ (numbers_row 30 18 1 (pos 8589934594) (pos 0) (pos 0) (pos 0)) ∷ (numbers_row 47 20 1 (pos 8589934594) (pos 1) (pos 0) (pos 0)) ∷ (numbers_row 48 22 1 (pos 8589934594) (pos 2) (pos 0) (pos 0)) ∷ (numbers_row 49 24 1 (pos 8589934594) (pos 3) (pos 0) (pos 0)) ∷ (numbers_row 32 15 2 (pos 8589934594) (pos 0) (pos 0) (pos 0)) ∷ (numbers_row 31 28 1 (pos 3) (pos 1) (pos 0) (pos 0)) ∷ (numbers_row 50 38 1 (pos 8589934594) (pos 3) (pos 0) (pos 0)) ∷ (numbers_row 51 45 1 (pos 8) (pos 52) (pos 3) (pos 0)) ∷ (numbers_row 53 50 2 (pos 0) (pos 0) (pos 0) (pos 0)) ∷ (numbers_row 0 56 15 (pos 12) (pos 0) (pos 1) (pos 0)) ∷ (numbers_row 54 54 2 (pos 8589934604) (pos 0) (pos 0) (pos 0)) ∷ (numbers_row 0 69 12 (pos 8589934594) (pos 1) (pos 3) (pos 0)) ∷ (numbers_row 55 67 3 (pos 8589934606) (pos 0) (pos 0) (pos 0)) ∷ [])

abbrev rows_3 : List Row
rows_3 = ((numbers_row 28 6 6 (pos 4294967313) (pos 0) (pos 0) (pos 0)) ∷ (numbers_row 30 11 6 (pos 8589934595) (pos 0) (pos 0) (pos 0)) ∷ (numbers_row 31 13 6 (pos 8589934600) (pos 0) (pos 0) (pos 0)) ∷ (numbers_row 32 15 6 (pos 8589934599) (pos 0) (pos 0) (pos 0)) ∷ (numbers_row 47 15 6 (pos 8589934596) (pos 0) (pos 0) (pos 0)) ∷ (numbers_row 48 15 6 (pos 8589934597) (pos 0) (pos 0) (pos 0)) ∷ (numbers_row 49 15 6 (pos 8589934598) (pos 0) (pos 0) (pos 0)) ∷ (numbers_row 33 17 6 (pos 8589934593) (pos 0) (pos 0) (pos 0)) ∷ (numbers_row 0 23 11 (pos 2) (pos 0) (pos 0) (pos 0)) ∷ (numbers_row 58 24 1 (pos 12884901896) (pos 0) (pos 0) (pos 0)) ∷ (numbers_row 59 26 1 (pos 12884901896) (pos 1) (pos 0) (pos 0)) ∷ (numbers_row 0 30 7 (pos 1) (pos 0) (pos 17) (pos 60)) ∷ (numbers_row 0 34 7 (pos 0) (pos 1) (pos 17) (pos 61)) ∷ (numbers_row 0 41 7 (pos 8589934594) (pos 0) (pos 15) (pos 63)) ∷ (numbers_row 0 45 7 (pos 8589934594) (pos 1) (pos 15) (pos 64)) ∷ (numbers_row 0 40 15 (pos 13) (pos 0) (pos 2) (pos 0)) ∷ (numbers_row 0 38 7 (pos 12884901903) (pos 2) (pos 17) (pos 62)) ∷ (numbers_row 0 29 15 (pos 11) (pos 0) (pos 4) (pos 0)) ∷ (numbers_row 0 22 13 (pos 12884901896) (pos 12884901905) (pos 8) (pos 0)) ∷ (numbers_row 57 20 2 (pos 12884901906) (pos 0) (pos 0) (pos 0)) ∷ (numbers_row 0 53 12 (pos 0) (negsuc 5) (negsuc 4) (pos 0)) ∷ (numbers_row 65 51 2 (pos 12884901908) (pos 0) (pos 0) (pos 0)) ∷ (numbers_row 66 61 2 (pos 12884901908) (pos 0) (pos 0) (pos 0)) ∷ (numbers_row 0 66 18 (pos 12884901908) (pos 0) (pos 23) (pos 0)) ∷ (numbers_row 67 66 4 (pos 12884901911) (pos 1) (pos 4) (pos 0)) ∷ (numbers_row 68 144 1 (pos 9) (pos 18) (pos 0) (pos 0)) ∷ (numbers_row 69 149 1 (pos 8589934592) (negsuc 2) (pos 0) (pos 0)) ∷ (numbers_row 70 156 1 (pos 8) (pos 71) (pos 4) (pos 0)) ∷ (numbers_row 0 164 8 (pos 3) (pos 1) (pos 33) (pos 0)) ∷ (numbers_row 0 168 8 (pos 12884901908) (pos 0) (pos 33) (pos 0)) ∷ (numbers_row 0 170 8 (pos 12884901908) (pos 0) (pos 33) (pos 0)) ∷ (numbers_row 0 175 8 (pos 8589934594) (pos 1) (pos 33) (pos 0)) ∷ (numbers_row 0 177 8 (pos 8589934594) (pos 1) (pos 33) (pos 0)) ∷ (numbers_row 0 161 18 (pos 1) (pos 5) (pos 28) (pos 0)) ∷ (numbers_row 72 161 4 (pos 12884901921) (pos 2) (pos 5) (pos 0)) ∷ (numbers_row 0 287 18 (pos 8589934592) (pos 0) (pos 35) (pos 0)) ∷ (numbers_row 83 287 4 (pos 12884901923) (pos 3) (pos 6) (pos 0)) ∷ (numbers_row 84 373 1 (pos 9) (pos 10) (pos 0) (pos 0)) ∷ [])

abbrev rows_4 : List Row
rows_4 = ([])

abbrev rows_5 : List Row
rows_5 = ((numbers_row 73 164 3 (pos 3) (pos 1) (pos 0) (pos 0)) ∷ (numbers_row 74 168 3 (pos 12884901908) (pos 0) (pos 1) (pos 0)) ∷ (numbers_row 75 170 3 (pos 12884901908) (pos 0) (pos 2) (pos 0)) ∷ (numbers_row 76 175 3 (pos 8589934594) (pos 1) (pos 3) (pos 0)) ∷ (numbers_row 77 177 3 (pos 8589934594) (pos 1) (pos 4) (pos 0)) ∷ (numbers_row 78 185 2 (pos 2) (pos 0) (pos 0) (pos 0)) ∷ (numbers_row 0 192 12 (pos 1) (pos 2) (pos 3) (pos 0)) ∷ (numbers_row 79 190 3 (pos 21474836486) (pos 0) (pos 5) (pos 0)) ∷ (numbers_row 80 198 3 (pos 3) (pos 0) (pos 6) (pos 0)) ∷ (numbers_row 81 202 3 (pos 8589934594) (pos 0) (pos 7) (pos 0)) ∷ (numbers_row 82 204 3 (pos 8589934594) (pos 0) (pos 8) (pos 0)) ∷ [])

abbrev rows_6 : List Row
rows_6 = ([])

abbrev unit : UnitTrees
unit = record {
  source = record { spellings = standard_names ++ ((87 ∷ 114 ∷ 105 ∷ 116 ∷ 101 ∷ 83 ∷ 116 ∷ 114 ∷ 105 ∷ 110 ∷ 103 ∷ []) ∷ (68 ∷ 48 ∷ []) ∷ (101 ∷ 51 ∷ []) ∷ (99 ∷ 55 ∷ []) ∷ (84 ∷ 50 ∷ []) ∷ (84 ∷ 49 ∷ []) ∷ (69 ∷ 79 ∷ 76 ∷ []) ∷ (68 ∷ 111 ∷ 110 ∷ 101 ∷ []) ∷ (82 ∷ 101 ∷ 97 ∷ 100 ∷ []) ∷ (99 ∷ 104 ∷ []) ∷ (82 ∷ 101 ∷ 97 ∷ 100 ∷ 73 ∷ 110 ∷ 116 ∷ []) ∷ (120 ∷ []) ∷ (82 ∷ 101 ∷ 97 ∷ 100 ∷ 67 ∷ 97 ∷ 114 ∷ 100 ∷ []) ∷ (87 ∷ 114 ∷ 105 ∷ 116 ∷ 101 ∷ []) ∷ (115 ∷ []) ∷ (87 ∷ 114 ∷ 105 ∷ 116 ∷ 101 ∷ 76 ∷ 110 ∷ []) ∷ (87 ∷ 114 ∷ 105 ∷ 116 ∷ 101 ∷ 73 ∷ 110 ∷ 116 ∷ []) ∷ (110 ∷ []) ∷ (87 ∷ 114 ∷ 105 ∷ 116 ∷ 101 ∷ 67 ∷ 97 ∷ 114 ∷ 100 ∷ []) ∷ (101 ∷ 52 ∷ []) ∷ (101 ∷ 53 ∷ []) ∷ (101 ∷ 54 ∷ []) ∷ (99 ∷ 56 ∷ []) ∷ (99 ∷ 57 ∷ []) ∷ (120 ∷ 121 ∷ 120 ∷ []) ∷ (84 ∷ 49 ∷ 48 ∷ []) ∷ (84 ∷ 49 ∷ 49 ∷ []) ∷ (118 ∷ 49 ∷ 50 ∷ []) ∷ (77 ∷ []) ∷ (84 ∷ 49 ∷ 51 ∷ []) ∷ (101 ∷ 49 ∷ 52 ∷ []) ∷ (101 ∷ 49 ∷ 53 ∷ []) ∷ (102 ∷ 49 ∷ 54 ∷ []) ∷ (102 ∷ 49 ∷ 55 ∷ []) ∷ (102 ∷ 49 ∷ 56 ∷ []) ∷ (102 ∷ 49 ∷ 57 ∷ []) ∷ (102 ∷ 50 ∷ 48 ∷ []) ∷ (84 ∷ 50 ∷ 49 ∷ []) ∷ (84 ∷ 50 ∷ 50 ∷ []) ∷ (80 ∷ 50 ∷ 51 ∷ []) ∷ (99 ∷ 50 ∷ 52 ∷ []) ∷ (99 ∷ 50 ∷ 53 ∷ []) ∷ (99 ∷ 50 ∷ 54 ∷ []) ∷ (46 ∷ 32 ∷ 99 ∷ 120 ∷ []) ∷ (80 ∷ 50 ∷ 55 ∷ []) ∷ (112 ∷ 50 ∷ 56 ∷ []) ∷ (112 ∷ 50 ∷ 57 ∷ []) ∷ (112 ∷ 51 ∷ 48 ∷ []) ∷ (112 ∷ 51 ∷ 49 ∷ []) ∷ (112 ∷ 51 ∷ 50 ∷ []) ∷ (84 ∷ 51 ∷ 51 ∷ []) ∷ (118 ∷ 51 ∷ 52 ∷ []) ∷ (118 ∷ 51 ∷ 53 ∷ []) ∷ (118 ∷ 51 ∷ 54 ∷ []) ∷ (118 ∷ 51 ∷ 55 ∷ []) ∷ (80 ∷ 51 ∷ 56 ∷ []) ∷ (99 ∷ 51 ∷ 57 ∷ []) ∷ []); definitions = ((definition_module 27 1) ∷ (definition_module 29 2) ∷ []) };
  own = None;
  definitions = (tree_1 ∷ tree_2 ∷ []);
  main = (tree_3 ∷ tree_4 ∷ tree_5 ∷ tree_6 ∷ []);
}

pub rows_are : unit_rows unit ≡ standard_rows ∷ (rows_1 ∷ rows_2 ∷ rows_3 ∷ rows_4 ∷ rows_5 ∷ rows_6 ∷ [])
unfolding unit_rows declare_block blocks_of standard_names
rows_are = refl

pub diagnostics_are : sorted_diags (declaration_diags unit) ≡ ([])
unfolding unit_rows declare_block blocks_of declaration_diags standard_names
diagnostics_are = refl

pub answers_are : sorted_answers (declaration_answers unit) ≡ ((6 ∷ 1 ∷ 17 ∷ []) ∷ (11 ∷ 2 ∷ 3 ∷ []) ∷ (13 ∷ 2 ∷ 8 ∷ []) ∷ (15 ∷ 2 ∷ 7 ∷ []) ∷ (17 ∷ 2 ∷ 1 ∷ []) ∷ (42 ∷ 2 ∷ 7 ∷ []) ∷ (43 ∷ 3 ∷ 3 ∷ []) ∷ (47 ∷ 3 ∷ 3 ∷ []) ∷ (63 ∷ 3 ∷ 21 ∷ []) ∷ (70 ∷ 2 ∷ 4 ∷ []) ∷ (70 ∷ 3 ∷ 21 ∷ []) ∷ (72 ∷ 2 ∷ 6 ∷ []) ∷ (153 ∷ 3 ∷ 7 ∷ []) ∷ (172 ∷ 3 ∷ 21 ∷ []) ∷ (179 ∷ 3 ∷ 3 ∷ []) ∷ (206 ∷ 3 ∷ 3 ∷ []) ∷ (291 ∷ 3 ∷ 7 ∷ []) ∷ [])
unfolding unit_rows declare_block blocks_of declaration_answers standard_names
answers_are = refl
