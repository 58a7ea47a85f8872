-- A unit, with what its declarations give. Names are numbered from 28 on as they come here.
--
-- M.mod:
--     MODULE M; FROM InOut IMPORT EOL, ReadInt, WriteInt, WriteLn; PROCEDURE P1(VAR p2, p3: INTEGER; p4: ARRAY OF
--     INTEGER); VAR v5: POINTER TO ARRAY [-4..-1] OF INTEGER; v6, ABS, v7: BOOLEAN; BEGIN WHILE (ODD(ABS(p3))) & TRUE
--     DO REPEAT ; RETURN; RETURN UNTIL ODD(p3 * (p3 * ((-8)))); HALT; v6 := (p2 >= p3) AND ABS END; CASE p2 OF (6 -
--     4)..7B: DEC(ABS); v5 := v5 | 0: p4[0] := 10 ELSE v6 := v5 # NIL; p4[VAL(CARDINAL, p2)] := p4[0] END; v5 := v5;
--     FOR v6 := (v5^[p2 * 4]) > 2 TO v5 # v5 DO v7 := ODD(-(p4[0])) END END P1; CONST c8 = 1 + WriteInt; c9 = (-3);
--     c10 = 15; CONST c11 = {29, 14, 15}; TRUE = 4; c12 = 75C; TYPE T13 = [2..9]; T14 = T13; BEGIN ; RETURN; ; ; IF 1
--     THEN END; END M.
use Rattle.std.specs.Prelude.{◌≡◌, pos, negsuc, true, false, List, [], ◌∷◌, ◌++◌, Some, None}
use Rattle.std.proofs.Common.{refl}
use Rattle.m2_base.specs.Names.{standard_names}
use Rattle.m2_base.specs.Rows.{Row, numbers_row}
use Rattle.m2_base.specs.Standard.{standard_rows}
use Rattle.m2_base.specs.Statics.BlockRows.{declare_block}
use Rattle.m2_base.specs.Statics.Blocks.{UnitTrees, blocks_of}
use Rattle.m2_base.specs.Statics.UnitNotes.{declaration_diags, declaration_answers}
use Rattle.m2_base.specs.Statics.UnitRows.{unit_rows}
use Rattle.m2_base.specs.Trees.{Stream, Main, Definition, Procedure, expr, number_form, char_form, set_form, name_form, one_form, many_form, next, nexts, designator, selectors, one_label, labels, type_expr, named_type, sub_type, array_type, pointer_type, type_exprs, const_decl, type_decl, vars_decl, proc_decl, statements}
use Rattle.m2_base.specs.declared.trees.operators.Operator.TheVariants.{Plus, Minus}
use Rattle.m2_base.proofs.UnitTerms.{ident, qual, section, heading, an_import, stream, definition_module, sorted_diags, sorted_answers}

abbrev tree_1 : Stream
tree_1 = stream Definition false (Some (ident 27 2)) ([]) None ((const_decl (ident 28 5) (expr 7 (char_form 10))) ∷ (vars_decl ((ident 32 10) ∷ []) (type_expr 12 (named_type (qual (ident 4 12) None)))) ∷ (proc_decl (heading (ident 33 15) ((section true ((ident 34 18) ∷ []) false (qual (ident 3 20) None)) ∷ []) None) 0) ∷ (proc_decl (heading (ident 29 24) ((section true ((ident 35 27) ∷ []) false (qual (ident 1 29) None)) ∷ []) None) 0) ∷ (proc_decl (heading (ident 36 33) ((section true ((ident 35 36) ∷ []) false (qual (ident 2 38) None)) ∷ []) None) 0) ∷ (proc_decl (heading (ident 37 42) ((section false ((ident 34 44) ∷ []) false (qual (ident 3 46) None)) ∷ []) None) 0) ∷ (proc_decl (heading (ident 38 50) ((section false ((ident 39 52) ∷ []) true (qual (ident 3 56) None)) ∷ []) None) 0) ∷ (proc_decl (heading (ident 31 60) ([]) None) 0) ∷ (proc_decl (heading (ident 30 63) ((section false ((ident 35 65) ∷ []) false (qual (ident 1 67) None)) ∷ (section false ((ident 40 69) ∷ []) false (qual (ident 2 71) None)) ∷ []) None) 0) ∷ (proc_decl (heading (ident 41 75) ((section false ((ident 35 77) ∷ (ident 40 79) ∷ []) false (qual (ident 2 81) None)) ∷ []) None) 0) ∷ []) (statements []) (ident 27 85)

abbrev tree_2 : Stream
tree_2 = stream Main false (Some (ident 42 1)) ((an_import (Some (ident 27 4)) ((ident 28 6) ∷ (ident 29 8) ∷ (ident 30 10) ∷ (ident 31 12) ∷ [])) ∷ []) None ((proc_decl (heading (ident 43 15) ((section true ((ident 44 18) ∷ (ident 45 20) ∷ []) false (qual (ident 1 22) None)) ∷ (section false ((ident 46 24) ∷ []) true (qual (ident 1 28) None)) ∷ []) None) 3) ∷ (const_decl (ident 50 195) (expr 197 (many_form (expr 197 (number_form 1)) (nexts ((next Plus 198 (expr 199 (name_form (designator (ident 30 199) (selectors ([])))))) ∷ []))))) ∷ (const_decl (ident 51 201) (expr 203 (one_form Minus 204 (expr 205 (number_form 3))))) ∷ (const_decl (ident 52 208) (expr 210 (number_form 15))) ∷ (const_decl (ident 53 213) (expr 215 (set_form (labels ((one_label (expr 216 (number_form 29))) ∷ (one_label (expr 218 (number_form 14))) ∷ (one_label (expr 220 (number_form 15))) ∷ []))))) ∷ (const_decl (ident 7 223) (expr 225 (number_form 4))) ∷ (const_decl (ident 54 227) (expr 229 (char_form 61))) ∷ (type_decl (ident 55 232) (Some (type_expr 234 (sub_type None (expr 235 (number_form 2)) (expr 237 (number_form 9)))))) ∷ (type_decl (ident 56 240) (Some (type_expr 242 (named_type (qual (ident 55 242) None))))) ∷ []) (statements []) (ident 42 256)

abbrev tree_3 : Stream
tree_3 = stream Procedure false None [] (Some (heading (ident 43 15) ((section true ((ident 44 18) ∷ (ident 45 20) ∷ []) false (qual (ident 1 22) None)) ∷ (section false ((ident 46 24) ∷ []) true (qual (ident 1 28) None)) ∷ []) None)) ((vars_decl ((ident 47 32) ∷ []) (type_expr 34 (pointer_type (type_expr 36 (array_type (type_exprs ((type_expr 37 (sub_type None (expr 38 (one_form Minus 38 (expr 39 (number_form 4)))) (expr 41 (one_form Minus 41 (expr 42 (number_form 1)))))) ∷ [])) (type_expr 45 (named_type (qual (ident 1 45) None)))))))) ∷ (vars_decl ((ident 48 47) ∷ (ident 10 49) ∷ (ident 49 51) ∷ []) (type_expr 53 (named_type (qual (ident 4 53) None)))) ∷ []) (statements []) (ident 43 192)

abbrev rows_1 : List Row
rows_1 = ((numbers_row 28 5 1 (pos 2) (pos 10) (pos 0) (pos 0)) ∷ (numbers_row 32 10 3 (pos 3) (pos 0) (pos 0) (pos 0)) ∷ (numbers_row 0 18 8 (pos 2) (pos 1) (pos 3) (pos 0)) ∷ (numbers_row 0 15 18 (negsuc 0) (pos 1) (pos 2) (pos 0)) ∷ (numbers_row 33 15 4 (pos 4294967299) (pos 0) (pos 0) (pos 0)) ∷ (numbers_row 0 27 8 (pos 0) (pos 1) (pos 6) (pos 0)) ∷ (numbers_row 0 24 18 (negsuc 0) (pos 1) (pos 5) (pos 0)) ∷ (numbers_row 29 24 4 (pos 4294967302) (pos 1) (pos 0) (pos 0)) ∷ (numbers_row 0 36 8 (pos 1) (pos 1) (pos 9) (pos 0)) ∷ (numbers_row 0 33 18 (negsuc 0) (pos 1) (pos 8) (pos 0)) ∷ (numbers_row 36 33 4 (pos 4294967305) (pos 2) (pos 0) (pos 0)) ∷ (numbers_row 0 44 8 (pos 2) (pos 0) (pos 12) (pos 0)) ∷ (numbers_row 0 42 18 (negsuc 0) (pos 1) (pos 11) (pos 0)) ∷ (numbers_row 37 42 4 (pos 4294967308) (pos 3) (pos 0) (pos 0)) ∷ (numbers_row 0 56 14 (pos 0) (pos 2) (pos 0) (pos 0)) ∷ (numbers_row 0 52 8 (pos 4294967310) (pos 0) (pos 16) (pos 0)) ∷ (numbers_row 0 50 18 (negsuc 0) (pos 1) (pos 14) (pos 0)) ∷ (numbers_row 38 50 4 (pos 4294967312) (pos 4) (pos 0) (pos 0)) ∷ (numbers_row 0 60 18 (negsuc 0) (pos 0) (pos 18) (pos 0)) ∷ (numbers_row 31 60 4 (pos 4294967314) (pos 5) (pos 0) (pos 0)) ∷ (numbers_row 0 65 8 (pos 0) (pos 0) (pos 22) (pos 0)) ∷ (numbers_row 0 69 8 (pos 1) (pos 0) (pos 22) (pos 0)) ∷ (numbers_row 0 63 18 (negsuc 0) (pos 2) (pos 20) (pos 0)) ∷ (numbers_row 30 63 4 (pos 4294967318) (pos 6) (pos 0) (pos 0)) ∷ (numbers_row 0 77 8 (pos 1) (pos 0) (pos 26) (pos 0)) ∷ (numbers_row 0 79 8 (pos 1) (pos 0) (pos 26) (pos 0)) ∷ (numbers_row 0 75 18 (negsuc 0) (pos 2) (pos 24) (pos 0)) ∷ (numbers_row 41 75 4 (pos 4294967322) (pos 7) (pos 0) (pos 0)) ∷ [])

abbrev rows_2 : List Row
rows_2 = ((numbers_row 28 6 6 (pos 4294967296) (pos 0) (pos 0) (pos 0)) ∷ (numbers_row 29 8 6 (pos 4294967303) (pos 0) (pos 0) (pos 0)) ∷ (numbers_row 30 10 6 (pos 4294967319) (pos 0) (pos 0) (pos 0)) ∷ (numbers_row 31 12 6 (pos 4294967315) (pos 0) (pos 0) (pos 0)) ∷ (numbers_row 0 18 8 (pos 0) (pos 1) (pos 8) (pos 0)) ∷ (numbers_row 0 20 8 (pos 0) (pos 1) (pos 8) (pos 0)) ∷ (numbers_row 0 28 14 (pos 0) (pos 0) (pos 0) (pos 0)) ∷ (numbers_row 0 24 8 (pos 8589934598) (pos 0) (pos 8) (pos 0)) ∷ (numbers_row 0 15 18 (negsuc 0) (pos 3) (pos 4) (pos 0)) ∷ (numbers_row 43 15 4 (pos 8589934600) (pos 1) (pos 3) (pos 0)) ∷ (numbers_row 50 195 1 (pos 10) (pos 0) (pos 0) (pos 0)) ∷ (numbers_row 51 201 1 (pos 9) (negsuc 2) (pos 0) (pos 0)) ∷ (numbers_row 52 208 1 (pos 9) (pos 15) (pos 0) (pos 0)) ∷ (numbers_row 53 213 1 (pos 5) (pos 536920064) (pos 0) (pos 0)) ∷ (numbers_row 0 223 1 (pos 9) (pos 4) (pos 0) (pos 0)) ∷ (numbers_row 54 227 1 (pos 2) (pos 61) (pos 0) (pos 0)) ∷ (numbers_row 0 234 12 (pos 1) (pos 2) (pos 9) (pos 0)) ∷ (numbers_row 55 232 2 (pos 8589934608) (pos 0) (pos 0) (pos 0)) ∷ (numbers_row 56 240 2 (pos 8589934608) (pos 0) (pos 0) (pos 0)) ∷ [])

abbrev rows_3 : List Row
rows_3 = ((numbers_row 44 18 3 (pos 0) (pos 1) (pos 0) (pos 0)) ∷ (numbers_row 45 20 3 (pos 0) (pos 1) (pos 1) (pos 0)) ∷ (numbers_row 0 28 14 (pos 0) (pos 0) (pos 0) (pos 0)) ∷ (numbers_row 46 24 3 (pos 12884901890) (pos 2) (pos 2) (pos 0)) ∷ (numbers_row 0 37 12 (pos 0) (negsuc 3) (negsuc 0) (pos 0)) ∷ (numbers_row 0 36 13 (pos 12884901892) (pos 0) (pos 4) (pos 0)) ∷ (numbers_row 0 34 17 (pos 12884901893) (pos 0) (pos 0) (pos 0)) ∷ (numbers_row 47 32 3 (pos 12884901894) (pos 0) (pos 4) (pos 0)) ∷ (numbers_row 48 47 3 (pos 3) (pos 0) (pos 5) (pos 0)) ∷ (numbers_row 0 49 3 (pos 3) (pos 0) (pos 6) (pos 0)) ∷ (numbers_row 49 51 3 (pos 3) (pos 0) (pos 7) (pos 0)) ∷ [])

abbrev unit : UnitTrees
unit = record {
  source = record { spellings = standard_names ++ ((69 ∷ 79 ∷ 76 ∷ []) ∷ (82 ∷ 101 ∷ 97 ∷ 100 ∷ 73 ∷ 110 ∷ 116 ∷ []) ∷ (87 ∷ 114 ∷ 105 ∷ 116 ∷ 101 ∷ 73 ∷ 110 ∷ 116 ∷ []) ∷ (87 ∷ 114 ∷ 105 ∷ 116 ∷ 101 ∷ 76 ∷ 110 ∷ []) ∷ (68 ∷ 111 ∷ 110 ∷ 101 ∷ []) ∷ (82 ∷ 101 ∷ 97 ∷ 100 ∷ []) ∷ (99 ∷ 104 ∷ []) ∷ (120 ∷ []) ∷ (82 ∷ 101 ∷ 97 ∷ 100 ∷ 67 ∷ 97 ∷ 114 ∷ 100 ∷ []) ∷ (87 ∷ 114 ∷ 105 ∷ 116 ∷ 101 ∷ []) ∷ (87 ∷ 114 ∷ 105 ∷ 116 ∷ 101 ∷ 83 ∷ 116 ∷ 114 ∷ 105 ∷ 110 ∷ 103 ∷ []) ∷ (115 ∷ []) ∷ (110 ∷ []) ∷ (87 ∷ 114 ∷ 105 ∷ 116 ∷ 101 ∷ 67 ∷ 97 ∷ 114 ∷ 100 ∷ []) ∷ (77 ∷ []) ∷ (80 ∷ 49 ∷ []) ∷ (112 ∷ 50 ∷ []) ∷ (112 ∷ 51 ∷ []) ∷ (112 ∷ 52 ∷ []) ∷ (118 ∷ 53 ∷ []) ∷ (118 ∷ 54 ∷ []) ∷ (118 ∷ 55 ∷ []) ∷ (99 ∷ 56 ∷ []) ∷ (99 ∷ 57 ∷ []) ∷ (99 ∷ 49 ∷ 48 ∷ []) ∷ (99 ∷ 49 ∷ 49 ∷ []) ∷ (99 ∷ 49 ∷ 50 ∷ []) ∷ (84 ∷ 49 ∷ 51 ∷ []) ∷ (84 ∷ 49 ∷ 52 ∷ []) ∷ []); definitions = ((definition_module 27 1) ∷ []) };
  own = None;
  definitions = (tree_1 ∷ []);
  main = (tree_2 ∷ tree_3 ∷ []);
}

pub rows_are : unit_rows unit ≡ standard_rows ∷ (rows_1 ∷ rows_2 ∷ rows_3 ∷ [])
unfolding unit_rows declare_block blocks_of standard_names
rows_are = refl

pub diagnostics_are : sorted_diags (declaration_diags unit) ≡ ((0 ∷ 49 ∷ 43 ∷ []) ∷ (0 ∷ 197 ∷ 46 ∷ []) ∷ (0 ∷ 223 ∷ 43 ∷ []) ∷ [])
unfolding unit_rows declare_block blocks_of declaration_diags standard_names
diagnostics_are = refl

pub answers_are : sorted_answers (declaration_answers unit) ≡ ((6 ∷ 1 ∷ 0 ∷ []) ∷ (8 ∷ 1 ∷ 7 ∷ []) ∷ (10 ∷ 1 ∷ 23 ∷ []) ∷ (12 ∷ 1 ∷ 19 ∷ []) ∷ (199 ∷ 2 ∷ 2 ∷ []) ∷ (242 ∷ 2 ∷ 17 ∷ []) ∷ [])
unfolding unit_rows declare_block blocks_of declaration_answers standard_names
answers_are = refl
