-- A unit, with what its declarations give. Names are numbered from 28 on as they come here.
--
-- M.mod:
--     MODULE M; FROM InOut IMPORT WriteLn, ReadInt; CONST c1 = "z"; CONST c2 = 'za'; TYPE T3 = INTEGER; T4 = BITSET;
--     TYPE T5 = POINTER TO InOut; T6 = ARRAY (e7, e8) OF [FALSE..TRUE]; T9 = (e10, e11, e12, e13, e14); TYPE T15 =
--     [(0 + 3)..3]; T16 = INTEGER[-2..5]; CONST TYPE T17 = CARDINAL; PROCEDURE P18(p19, p20: BOOLEAN; VAR p21: T6);
--     PROCEDURE P22(VAR p23: ARRAY OF BITSET): BOOLEAN; CONST c24 = 62C; BEGIN p20 := TRUE; ; HALT(1); RETURN
--     P22(p23) END P22; CONST BEGIN IF ODD((-6)) THEN HALT(1) END; WHILE TRUE DO LOOP ; IF (p21[e8]) <= ((ODD(13)) OR
--     ((p21[e8]) <= p20)) THEN EXIT END; RETURN; END END; p21[e8] := TRUE END P18; BEGIN ; FOR x := 1 TO 2 BY 0 DO
--     END; ; REPEAT REPEAT UNTIL TRUE; UNTIL TRUE; WHILE (ODD(7)) & TRUE DO ReadInt(nothing); CASE TRUE OF FALSE: ; |
--     TRUE: | ELSE HALT(1); END END; LOOP ; ; IF ODD(13) THEN EXIT END; END; IF ODD(16) THEN END; INC(TRUE) END M.
use Rattle.std.specs.Prelude.{◌≡◌, pos, negsuc, true, false, List, [], ◌∷◌, ◌++◌, Some, None}
use Rattle.std.proofs.Common.{refl}
use Rattle.m2_base.specs.Names.{standard_names}
use Rattle.m2_base.specs.Rows.{Row, numbers_row}
use Rattle.m2_base.specs.Standard.{standard_rows}
use Rattle.m2_base.specs.Statics.BlockRows.{declare_block}
use Rattle.m2_base.specs.Statics.Blocks.{UnitTrees, blocks_of}
use Rattle.m2_base.specs.Statics.UnitNotes.{declaration_diags, declaration_answers}
use Rattle.m2_base.specs.Statics.UnitRows.{unit_rows}
use Rattle.m2_base.specs.Trees.{Stream, Main, Definition, Procedure, expr, number_form, char_form, string_form, name_form, one_form, many_form, next, nexts, designator, selectors, type_expr, named_type, enum_type, sub_type, array_type, pointer_type, type_exprs, const_decl, type_decl, vars_decl, proc_decl, statements}
use Rattle.m2_base.specs.declared.trees.operators.Operator.TheVariants.{Plus, Minus}
use Rattle.m2_base.proofs.UnitTerms.{ident, qual, section, heading, an_import, stream, definition_module, sorted_diags, sorted_answers}

abbrev tree_1 : Stream
tree_1 = stream Definition false (Some (ident 27 2)) ([]) None ((const_decl (ident 30 5) (expr 7 (char_form 10))) ∷ (vars_decl ((ident 31 10) ∷ []) (type_expr 12 (named_type (qual (ident 4 12) None)))) ∷ (proc_decl (heading (ident 32 15) ((section true ((ident 33 18) ∷ []) false (qual (ident 3 20) None)) ∷ []) None) 0) ∷ (proc_decl (heading (ident 29 24) ((section true ((ident 34 27) ∷ []) false (qual (ident 1 29) None)) ∷ []) None) 0) ∷ (proc_decl (heading (ident 35 33) ((section true ((ident 34 36) ∷ []) false (qual (ident 2 38) None)) ∷ []) None) 0) ∷ (proc_decl (heading (ident 36 42) ((section false ((ident 33 44) ∷ []) false (qual (ident 3 46) None)) ∷ []) None) 0) ∷ (proc_decl (heading (ident 37 50) ((section false ((ident 38 52) ∷ []) true (qual (ident 3 56) None)) ∷ []) None) 0) ∷ (proc_decl (heading (ident 28 60) ([]) None) 0) ∷ (proc_decl (heading (ident 39 63) ((section false ((ident 34 65) ∷ []) false (qual (ident 1 67) None)) ∷ (section false ((ident 40 69) ∷ []) false (qual (ident 2 71) None)) ∷ []) None) 0) ∷ (proc_decl (heading (ident 41 75) ((section false ((ident 34 77) ∷ (ident 40 79) ∷ []) false (qual (ident 2 81) None)) ∷ []) None) 0) ∷ []) (statements []) (ident 27 85)

abbrev tree_2 : Stream
tree_2 = stream Main false (Some (ident 42 1)) ((an_import (Some (ident 27 4)) ((ident 28 6) ∷ (ident 29 8) ∷ [])) ∷ []) None ((const_decl (ident 43 11) (expr 13 (string_form 44))) ∷ (const_decl (ident 45 16) (expr 18 (string_form 46))) ∷ (type_decl (ident 47 21) (Some (type_expr 23 (named_type (qual (ident 1 23) None))))) ∷ (type_decl (ident 48 25) (Some (type_expr 27 (named_type (qual (ident 5 27) None))))) ∷ (type_decl (ident 49 30) (Some (type_expr 32 (pointer_type (type_expr 34 (named_type (qual (ident 27 34) None))))))) ∷ (type_decl (ident 50 36) (Some (type_expr 38 (array_type (type_exprs ((type_expr 39 (enum_type ((ident 51 40) ∷ (ident 52 42) ∷ []))) ∷ [])) (type_expr 45 (sub_type None (expr 46 (name_form (designator (ident 8 46) (selectors ([]))))) (expr 48 (name_form (designator (ident 7 48) (selectors ([]))))))))))) ∷ (type_decl (ident 53 51) (Some (type_expr 53 (enum_type ((ident 54 54) ∷ (ident 55 56) ∷ (ident 56 58) ∷ (ident 57 60) ∷ (ident 58 62) ∷ []))))) ∷ (type_decl (ident 59 66) (Some (type_expr 68 (sub_type None (expr 69 (many_form (expr 70 (number_form 0)) (nexts ((next Plus 71 (expr 72 (number_form 3))) ∷ [])))) (expr 75 (number_form 3)))))) ∷ (type_decl (ident 60 78) (Some (type_expr 80 (sub_type (Some (qual (ident 1 80) None)) (expr 82 (one_form Minus 82 (expr 83 (number_form 2)))) (expr 85 (number_form 5)))))) ∷ (type_decl (ident 61 90) (Some (type_expr 92 (named_type (qual (ident 2 92) None))))) ∷ (proc_decl (heading (ident 62 95) ((section false ((ident 63 97) ∷ (ident 64 99) ∷ []) false (qual (ident 4 101) None)) ∷ (section true ((ident 65 104) ∷ []) false (qual (ident 50 106) None)) ∷ []) None) 3) ∷ []) (statements []) (ident 42 296)

abbrev tree_3 : Stream
tree_3 = stream Procedure false None [] (Some (heading (ident 62 95) ((section false ((ident 63 97) ∷ (ident 64 99) ∷ []) false (qual (ident 4 101) None)) ∷ (section true ((ident 65 104) ∷ []) false (qual (ident 50 106) None)) ∷ []) None)) ((proc_decl (heading (ident 66 110) ((section true ((ident 67 113) ∷ []) true (qual (ident 5 117) None)) ∷ []) (Some (qual (ident 4 120) None))) 4) ∷ []) (statements []) (ident 62 211)

abbrev tree_4 : Stream
tree_4 = stream Procedure false None [] (Some (heading (ident 66 110) ((section true ((ident 67 113) ∷ []) true (qual (ident 5 117) None)) ∷ []) (Some (qual (ident 4 120) None)))) ((const_decl (ident 68 123) (expr 125 (char_form 50))) ∷ []) (statements []) (ident 66 144)

abbrev rows_1 : List Row
rows_1 = ((numbers_row 30 5 1 (pos 2) (pos 10) (pos 0) (pos 0)) ∷ (numbers_row 31 10 3 (pos 3) (pos 0) (pos 0) (pos 0)) ∷ (numbers_row 0 18 8 (pos 2) (pos 1) (pos 3) (pos 0)) ∷ (numbers_row 0 15 18 (negsuc 0) (pos 1) (pos 2) (pos 0)) ∷ (numbers_row 32 15 4 (pos 4294967299) (pos 0) (pos 0) (pos 0)) ∷ (numbers_row 0 27 8 (pos 0) (pos 1) (pos 6) (pos 0)) ∷ (numbers_row 0 24 18 (negsuc 0) (pos 1) (pos 5) (pos 0)) ∷ (numbers_row 29 24 4 (pos 4294967302) (pos 1) (pos 0) (pos 0)) ∷ (numbers_row 0 36 8 (pos 1) (pos 1) (pos 9) (pos 0)) ∷ (numbers_row 0 33 18 (negsuc 0) (pos 1) (pos 8) (pos 0)) ∷ (numbers_row 35 33 4 (pos 4294967305) (pos 2) (pos 0) (pos 0)) ∷ (numbers_row 0 44 8 (pos 2) (pos 0) (pos 12) (pos 0)) ∷ (numbers_row 0 42 18 (negsuc 0) (pos 1) (pos 11) (pos 0)) ∷ (numbers_row 36 42 4 (pos 4294967308) (pos 3) (pos 0) (pos 0)) ∷ (numbers_row 0 56 14 (pos 0) (pos 2) (pos 0) (pos 0)) ∷ (numbers_row 0 52 8 (pos 4294967310) (pos 0) (pos 16) (pos 0)) ∷ (numbers_row 0 50 18 (negsuc 0) (pos 1) (pos 14) (pos 0)) ∷ (numbers_row 37 50 4 (pos 4294967312) (pos 4) (pos 0) (pos 0)) ∷ (numbers_row 0 60 18 (negsuc 0) (pos 0) (pos 18) (pos 0)) ∷ (numbers_row 28 60 4 (pos 4294967314) (pos 5) (pos 0) (pos 0)) ∷ (numbers_row 0 65 8 (pos 0) (pos 0) (pos 22) (pos 0)) ∷ (numbers_row 0 69 8 (pos 1) (pos 0) (pos 22) (pos 0)) ∷ (numbers_row 0 63 18 (negsuc 0) (pos 2) (pos 20) (pos 0)) ∷ (numbers_row 39 63 4 (pos 4294967318) (pos 6) (pos 0) (pos 0)) ∷ (numbers_row 0 77 8 (pos 1) (pos 0) (pos 26) (pos 0)) ∷ (numbers_row 0 79 8 (pos 1) (pos 0) (pos 26) (pos 0)) ∷ (numbers_row 0 75 18 (negsuc 0) (pos 2) (pos 24) (pos 0)) ∷ (numbers_row 41 75 4 (pos 4294967322) (pos 7) (pos 0) (pos 0)) ∷ [])

abbrev rows_2 : List Row
rows_2 = ((numbers_row 28 6 6 (pos 4294967315) (pos 0) (pos 0) (pos 0)) ∷ (numbers_row 29 8 6 (pos 4294967303) (pos 0) (pos 0) (pos 0)) ∷ (numbers_row 43 11 1 (pos 8) (pos 44) (pos 1) (pos 0)) ∷ (numbers_row 45 16 1 (pos 8) (pos 46) (pos 2) (pos 0)) ∷ (numbers_row 47 21 2 (pos 0) (pos 0) (pos 0) (pos 0)) ∷ (numbers_row 48 25 2 (pos 5) (pos 0) (pos 0) (pos 0)) ∷ (numbers_row 0 32 17 (pos 10) (pos 0) (pos 0) (pos 0)) ∷ (numbers_row 49 30 2 (pos 8589934598) (pos 0) (pos 0) (pos 0)) ∷ (numbers_row 0 39 11 (pos 2) (pos 0) (pos 0) (pos 0)) ∷ (numbers_row 51 40 1 (pos 8589934600) (pos 0) (pos 0) (pos 0)) ∷ (numbers_row 52 42 1 (pos 8589934600) (pos 1) (pos 0) (pos 0)) ∷ (numbers_row 0 45 12 (pos 3) (pos 0) (pos 1) (pos 0)) ∷ (numbers_row 0 38 13 (pos 8589934600) (pos 8589934603) (pos 2) (pos 0)) ∷ (numbers_row 50 36 2 (pos 8589934604) (pos 0) (pos 0) (pos 0)) ∷ (numbers_row 0 53 11 (pos 5) (pos 0) (pos 0) (pos 0)) ∷ (numbers_row 54 54 1 (pos 8589934606) (pos 0) (pos 0) (pos 0)) ∷ (numbers_row 55 56 1 (pos 8589934606) (pos 1) (pos 0) (pos 0)) ∷ (numbers_row 56 58 1 (pos 8589934606) (pos 2) (pos 0) (pos 0)) ∷ (numbers_row 57 60 1 (pos 8589934606) (pos 3) (pos 0) (pos 0)) ∷ (numbers_row 58 62 1 (pos 8589934606) (pos 4) (pos 0) (pos 0)) ∷ (numbers_row 53 51 2 (pos 8589934606) (pos 0) (pos 0) (pos 0)) ∷ (numbers_row 0 68 12 (pos 1) (pos 3) (pos 3) (pos 0)) ∷ (numbers_row 59 66 2 (pos 8589934613) (pos 0) (pos 0) (pos 0)) ∷ (numbers_row 0 80 12 (pos 0) (negsuc 1) (pos 5) (pos 0)) ∷ (numbers_row 60 78 2 (pos 8589934615) (pos 0) (pos 0) (pos 0)) ∷ (numbers_row 61 90 2 (pos 1) (pos 0) (pos 0) (pos 0)) ∷ (numbers_row 0 97 8 (pos 3) (pos 0) (pos 29) (pos 0)) ∷ (numbers_row 0 99 8 (pos 3) (pos 0) (pos 29) (pos 0)) ∷ (numbers_row 0 104 8 (pos 8589934604) (pos 1) (pos 29) (pos 0)) ∷ (numbers_row 0 95 18 (negsuc 0) (pos 3) (pos 26) (pos 0)) ∷ (numbers_row 62 95 4 (pos 8589934621) (pos 1) (pos 3) (pos 0)) ∷ [])

abbrev rows_3 : List Row
rows_3 = ((numbers_row 63 97 3 (pos 3) (pos 0) (pos 0) (pos 0)) ∷ (numbers_row 64 99 3 (pos 3) (pos 0) (pos 1) (pos 0)) ∷ (numbers_row 65 104 3 (pos 8589934604) (pos 1) (pos 2) (pos 0)) ∷ (numbers_row 0 117 14 (pos 0) (pos 5) (pos 0) (pos 0)) ∷ (numbers_row 0 113 8 (pos 12884901891) (pos 1) (pos 5) (pos 0)) ∷ (numbers_row 0 110 18 (pos 3) (pos 1) (pos 3) (pos 0)) ∷ (numbers_row 66 110 4 (pos 12884901893) (pos 2) (pos 4) (pos 0)) ∷ [])

abbrev rows_4 : List Row
rows_4 = ((numbers_row 0 117 14 (pos 0) (pos 5) (pos 0) (pos 0)) ∷ (numbers_row 67 113 3 (pos 17179869184) (pos 2) (pos 0) (pos 0)) ∷ (numbers_row 68 123 1 (pos 2) (pos 50) (pos 0) (pos 0)) ∷ [])

abbrev unit : UnitTrees
unit = record {
  source = record { spellings = standard_names ++ ((87 ∷ 114 ∷ 105 ∷ 116 ∷ 101 ∷ 76 ∷ 110 ∷ []) ∷ (82 ∷ 101 ∷ 97 ∷ 100 ∷ 73 ∷ 110 ∷ 116 ∷ []) ∷ (69 ∷ 79 ∷ 76 ∷ []) ∷ (68 ∷ 111 ∷ 110 ∷ 101 ∷ []) ∷ (82 ∷ 101 ∷ 97 ∷ 100 ∷ []) ∷ (99 ∷ 104 ∷ []) ∷ (120 ∷ []) ∷ (82 ∷ 101 ∷ 97 ∷ 100 ∷ 67 ∷ 97 ∷ 114 ∷ 100 ∷ []) ∷ (87 ∷ 114 ∷ 105 ∷ 116 ∷ 101 ∷ []) ∷ (87 ∷ 114 ∷ 105 ∷ 116 ∷ 101 ∷ 83 ∷ 116 ∷ 114 ∷ 105 ∷ 110 ∷ 103 ∷ []) ∷ (115 ∷ []) ∷ (87 ∷ 114 ∷ 105 ∷ 116 ∷ 101 ∷ 73 ∷ 110 ∷ 116 ∷ []) ∷ (110 ∷ []) ∷ (87 ∷ 114 ∷ 105 ∷ 116 ∷ 101 ∷ 67 ∷ 97 ∷ 114 ∷ 100 ∷ []) ∷ (77 ∷ []) ∷ (99 ∷ 49 ∷ []) ∷ (122 ∷ []) ∷ (99 ∷ 50 ∷ []) ∷ (122 ∷ 97 ∷ []) ∷ (84 ∷ 51 ∷ []) ∷ (84 ∷ 52 ∷ []) ∷ (84 ∷ 53 ∷ []) ∷ (84 ∷ 54 ∷ []) ∷ (101 ∷ 55 ∷ []) ∷ (101 ∷ 56 ∷ []) ∷ (84 ∷ 57 ∷ []) ∷ (101 ∷ 49 ∷ 48 ∷ []) ∷ (101 ∷ 49 ∷ 49 ∷ []) ∷ (101 ∷ 49 ∷ 50 ∷ []) ∷ (101 ∷ 49 ∷ 51 ∷ []) ∷ (101 ∷ 49 ∷ 52 ∷ []) ∷ (84 ∷ 49 ∷ 53 ∷ []) ∷ (84 ∷ 49 ∷ 54 ∷ []) ∷ (84 ∷ 49 ∷ 55 ∷ []) ∷ (80 ∷ 49 ∷ 56 ∷ []) ∷ (112 ∷ 49 ∷ 57 ∷ []) ∷ (112 ∷ 50 ∷ 48 ∷ []) ∷ (112 ∷ 50 ∷ 49 ∷ []) ∷ (80 ∷ 50 ∷ 50 ∷ []) ∷ (112 ∷ 50 ∷ 51 ∷ []) ∷ (99 ∷ 50 ∷ 52 ∷ []) ∷ []); definitions = ((definition_module 27 1) ∷ []) };
  own = None;
  definitions = (tree_1 ∷ []);
  main = (tree_2 ∷ tree_3 ∷ tree_4 ∷ []);
}

pub rows_are : unit_rows unit ≡ standard_rows ∷ (rows_1 ∷ rows_2 ∷ rows_3 ∷ rows_4 ∷ [])
unfolding unit_rows declare_block blocks_of standard_names
rows_are = refl

pub diagnostics_are : sorted_diags (declaration_diags unit) ≡ ((0 ∷ 34 ∷ 40 ∷ []) ∷ [])
unfolding unit_rows declare_block blocks_of declaration_diags standard_names
diagnostics_are = refl

pub answers_are : sorted_answers (declaration_answers unit) ≡ ((6 ∷ 1 ∷ 19 ∷ []) ∷ (8 ∷ 1 ∷ 7 ∷ []) ∷ (106 ∷ 2 ∷ 13 ∷ []) ∷ [])
unfolding unit_rows declare_block blocks_of declaration_answers standard_names
answers_are = refl
