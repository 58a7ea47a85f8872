-- A unit, with what its declarations give. Names are numbered from 28 on as they come here.
--
-- M.mod:
--     MODULE M; FROM InOut IMPORT WriteString, Read; PROCEDURE P1(p2: INTEGER; p3, p4: ARRAY OF INTEGER; VAR p5:
--     BOOLEAN): INTEGER; CONST c6 = 8; BEGIN WHILE (p5 # TRUE) & p5 DO p4[9] := (6 + 3); ; p4[ORD(p4[{1}])] := (p4[0]
--     + (p4[7] + ((p4[0] - (p3[0])) DIV 11))) + (p3[0]) END; FOR p2 := ABS((p4[0])) TO +p2 DO INC(p4[0]); p4[25] :=
--     p4[27] - (p4[0] DIV (p2 DIV 5)) END; p3[nothing] := p2 * (P1(p2 + ((1 + 3)), p3, p4, p5)); RETURN P1(p3[0], p3,
--     p3, p5) END P1; CONST c7 = 'cyc. '; c8 = ORD("a") > 3; c9 = {1, 0, 9}; BEGIN ; RETURN; ; ; ;
--     WriteString(nothing) END M.
use Rattle.std.specs.Prelude.{◌≡◌, pos, negsuc, true, false, List, [], ◌∷◌, ◌++◌, Some, None}
use Rattle.std.proofs.Common.{refl}
use Rattle.m2_base.specs.Names.{standard_names}
use Rattle.m2_base.specs.Rows.{Row, numbers_row}
use Rattle.m2_base.specs.Standard.{standard_rows}
use Rattle.m2_base.specs.Statics.BlockRows.{declare_block}
use Rattle.m2_base.specs.Statics.Blocks.{UnitTrees, blocks_of}
use Rattle.m2_base.specs.Statics.UnitNotes.{declaration_diags, declaration_answers}
use Rattle.m2_base.specs.Statics.UnitRows.{unit_rows}
use Rattle.m2_base.specs.Trees.{Stream, Main, Definition, Procedure, expr, number_form, char_form, string_form, set_form, call_form, many_form, exprs, next, nexts, designator, selectors, one_label, labels, type_expr, named_type, const_decl, vars_decl, proc_decl, statements}
use Rattle.m2_base.specs.declared.trees.operators.Operator.TheVariants.{Greater}
use Rattle.m2_base.proofs.UnitTerms.{ident, qual, section, heading, an_import, stream, definition_module, sorted_diags, sorted_answers}

abbrev tree_1 : Stream
tree_1 = stream Definition false (Some (ident 27 2)) ([]) None ((const_decl (ident 30 5) (expr 7 (char_form 10))) ∷ (vars_decl ((ident 31 10) ∷ []) (type_expr 12 (named_type (qual (ident 4 12) None)))) ∷ (proc_decl (heading (ident 29 15) ((section true ((ident 32 18) ∷ []) false (qual (ident 3 20) None)) ∷ []) None) 0) ∷ (proc_decl (heading (ident 33 24) ((section true ((ident 34 27) ∷ []) false (qual (ident 1 29) None)) ∷ []) None) 0) ∷ (proc_decl (heading (ident 35 33) ((section true ((ident 34 36) ∷ []) false (qual (ident 2 38) None)) ∷ []) None) 0) ∷ (proc_decl (heading (ident 36 42) ((section false ((ident 32 44) ∷ []) false (qual (ident 3 46) None)) ∷ []) None) 0) ∷ (proc_decl (heading (ident 28 50) ((section false ((ident 37 52) ∷ []) true (qual (ident 3 56) None)) ∷ []) None) 0) ∷ (proc_decl (heading (ident 38 60) ([]) None) 0) ∷ (proc_decl (heading (ident 39 63) ((section false ((ident 34 65) ∷ []) false (qual (ident 1 67) None)) ∷ (section false ((ident 40 69) ∷ []) false (qual (ident 2 71) None)) ∷ []) None) 0) ∷ (proc_decl (heading (ident 41 75) ((section false ((ident 34 77) ∷ (ident 40 79) ∷ []) false (qual (ident 2 81) None)) ∷ []) None) 0) ∷ []) (statements []) (ident 27 85)

abbrev tree_2 : Stream
tree_2 = stream Main false (Some (ident 42 1)) ((an_import (Some (ident 27 4)) ((ident 28 6) ∷ (ident 29 8) ∷ [])) ∷ []) None ((proc_decl (heading (ident 43 11) ((section false ((ident 44 13) ∷ []) false (qual (ident 1 15) None)) ∷ (section false ((ident 45 17) ∷ (ident 46 19) ∷ []) true (qual (ident 1 23) None)) ∷ (section true ((ident 47 26) ∷ []) false (qual (ident 4 28) None)) ∷ []) (Some (qual (ident 1 31) None))) 3) ∷ (const_decl (ident 49 207) (expr 209 (string_form 50))) ∷ (const_decl (ident 51 211) (expr 213 (many_form (expr 213 (call_form (designator (ident 24 213) (selectors ([]))) (exprs ((expr 215 (string_form 52)) ∷ [])))) (nexts ((next Greater 217 (expr 218 (number_form 3))) ∷ []))))) ∷ (const_decl (ident 53 220) (expr 222 (set_form (labels ((one_label (expr 223 (number_form 1))) ∷ (one_label (expr 225 (number_form 0))) ∷ (one_label (expr 227 (number_form 9))) ∷ []))))) ∷ []) (statements []) (ident 42 242)

abbrev tree_3 : Stream
tree_3 = stream Procedure false None [] (Some (heading (ident 43 11) ((section false ((ident 44 13) ∷ []) false (qual (ident 1 15) None)) ∷ (section false ((ident 45 17) ∷ (ident 46 19) ∷ []) true (qual (ident 1 23) None)) ∷ (section true ((ident 47 26) ∷ []) false (qual (ident 4 28) None)) ∷ []) (Some (qual (ident 1 31) None)))) ((const_decl (ident 48 34) (expr 36 (number_form 8))) ∷ []) (statements []) (ident 43 204)

abbrev rows_1 : List Row
rows_1 = ((numbers_row 30 5 1 (pos 2) (pos 10) (pos 0) (pos 0)) ∷ (numbers_row 31 10 3 (pos 3) (pos 0) (pos 0) (pos 0)) ∷ (numbers_row 0 18 8 (pos 2) (pos 1) (pos 3) (pos 0)) ∷ (numbers_row 0 15 18 (negsuc 0) (pos 1) (pos 2) (pos 0)) ∷ (numbers_row 29 15 4 (pos 4294967299) (pos 0) (pos 0) (pos 0)) ∷ (numbers_row 0 27 8 (pos 0) (pos 1) (pos 6) (pos 0)) ∷ (numbers_row 0 24 18 (negsuc 0) (pos 1) (pos 5) (pos 0)) ∷ (numbers_row 33 24 4 (pos 4294967302) (pos 1) (pos 0) (pos 0)) ∷ (numbers_row 0 36 8 (pos 1) (pos 1) (pos 9) (pos 0)) ∷ (numbers_row 0 33 18 (negsuc 0) (pos 1) (pos 8) (pos 0)) ∷ (numbers_row 35 33 4 (pos 4294967305) (pos 2) (pos 0) (pos 0)) ∷ (numbers_row 0 44 8 (pos 2) (pos 0) (pos 12) (pos 0)) ∷ (numbers_row 0 42 18 (negsuc 0) (pos 1) (pos 11) (pos 0)) ∷ (numbers_row 36 42 4 (pos 4294967308) (pos 3) (pos 0) (pos 0)) ∷ (numbers_row 0 56 14 (pos 0) (pos 2) (pos 0) (pos 0)) ∷ (numbers_row 0 52 8 (pos 4294967310) (pos 0) (pos 16) (pos 0)) ∷ (numbers_row 0 50 18 (negsuc 0) (pos 1) (pos 14) (pos 0)) ∷ (numbers_row 28 50 4 (pos 4294967312) (pos 4) (pos 0) (pos 0)) ∷ (numbers_row 0 60 18 (negsuc 0) (pos 0) (pos 18) (pos 0)) ∷ (numbers_row 38 60 4 (pos 4294967314) (pos 5) (pos 0) (pos 0)) ∷ (numbers_row 0 65 8 (pos 0) (pos 0) (pos 22) (pos 0)) ∷ (numbers_row 0 69 8 (pos 1) (pos 0) (pos 22) (pos 0)) ∷ (numbers_row 0 63 18 (negsuc 0) (pos 2) (pos 20) (pos 0)) ∷ (numbers_row 39 63 4 (pos 4294967318) (pos 6) (pos 0) (pos 0)) ∷ (numbers_row 0 77 8 (pos 1) (pos 0) (pos 26) (pos 0)) ∷ (numbers_row 0 79 8 (pos 1) (pos 0) (pos 26) (pos 0)) ∷ (numbers_row 0 75 18 (negsuc 0) (pos 2) (pos 24) (pos 0)) ∷ (numbers_row 41 75 4 (pos 4294967322) (pos 7) (pos 0) (pos 0)) ∷ [])

abbrev rows_2 : List Row
rows_2 = ((numbers_row 28 6 6 (pos 4294967313) (pos 0) (pos 0) (pos 0)) ∷ (numbers_row 29 8 6 (pos 4294967300) (pos 0) (pos 0) (pos 0)) ∷ (numbers_row 0 13 8 (pos 0) (pos 0) (pos 7) (pos 0)) ∷ (numbers_row 0 23 14 (pos 0) (pos 0) (pos 0) (pos 0)) ∷ (numbers_row 0 17 8 (pos 8589934595) (pos 0) (pos 7) (pos 0)) ∷ (numbers_row 0 19 8 (pos 8589934595) (pos 0) (pos 7) (pos 0)) ∷ (numbers_row 0 26 8 (pos 3) (pos 1) (pos 7) (pos 0)) ∷ (numbers_row 0 11 18 (pos 0) (pos 4) (pos 2) (pos 0)) ∷ (numbers_row 43 11 4 (pos 8589934599) (pos 1) (pos 3) (pos 0)) ∷ (numbers_row 49 207 1 (pos 8) (pos 50) (pos 6) (pos 0)) ∷ (numbers_row 51 211 1 (pos 3) (pos 1) (pos 0) (pos 0)) ∷ (numbers_row 53 220 1 (pos 5) (pos 515) (pos 0) (pos 0)) ∷ [])

abbrev rows_3 : List Row
rows_3 = ((numbers_row 44 13 3 (pos 0) (pos 0) (pos 0) (pos 0)) ∷ (numbers_row 0 23 14 (pos 0) (pos 0) (pos 0) (pos 0)) ∷ (numbers_row 45 17 3 (pos 12884901889) (pos 2) (pos 1) (pos 0)) ∷ (numbers_row 46 19 3 (pos 12884901889) (pos 2) (pos 3) (pos 0)) ∷ (numbers_row 47 26 3 (pos 3) (pos 1) (pos 5) (pos 0)) ∷ (numbers_row 48 34 1 (pos 9) (pos 8) (pos 0) (pos 0)) ∷ [])

abbrev unit : UnitTrees
unit = record {
  source = record { spellings = standard_names ++ ((87 ∷ 114 ∷ 105 ∷ 116 ∷ 101 ∷ 83 ∷ 116 ∷ 114 ∷ 105 ∷ 110 ∷ 103 ∷ []) ∷ (82 ∷ 101 ∷ 97 ∷ 100 ∷ []) ∷ (69 ∷ 79 ∷ 76 ∷ []) ∷ (68 ∷ 111 ∷ 110 ∷ 101 ∷ []) ∷ (99 ∷ 104 ∷ []) ∷ (82 ∷ 101 ∷ 97 ∷ 100 ∷ 73 ∷ 110 ∷ 116 ∷ []) ∷ (120 ∷ []) ∷ (82 ∷ 101 ∷ 97 ∷ 100 ∷ 67 ∷ 97 ∷ 114 ∷ 100 ∷ []) ∷ (87 ∷ 114 ∷ 105 ∷ 116 ∷ 101 ∷ []) ∷ (115 ∷ []) ∷ (87 ∷ 114 ∷ 105 ∷ 116 ∷ 101 ∷ 76 ∷ 110 ∷ []) ∷ (87 ∷ 114 ∷ 105 ∷ 116 ∷ 101 ∷ 73 ∷ 110 ∷ 116 ∷ []) ∷ (110 ∷ []) ∷ (87 ∷ 114 ∷ 105 ∷ 116 ∷ 101 ∷ 67 ∷ 97 ∷ 114 ∷ 100 ∷ []) ∷ (77 ∷ []) ∷ (80 ∷ 49 ∷ []) ∷ (112 ∷ 50 ∷ []) ∷ (112 ∷ 51 ∷ []) ∷ (112 ∷ 52 ∷ []) ∷ (112 ∷ 53 ∷ []) ∷ (99 ∷ 54 ∷ []) ∷ (99 ∷ 55 ∷ []) ∷ (99 ∷ 121 ∷ 99 ∷ 46 ∷ 32 ∷ 32 ∷ []) ∷ (99 ∷ 56 ∷ []) ∷ (97 ∷ []) ∷ (99 ∷ 57 ∷ []) ∷ []); definitions = ((definition_module 27 1) ∷ []) };
  own = None;
  definitions = (tree_1 ∷ []);
  main = (tree_2 ∷ tree_3 ∷ []);
}

pub rows_are : unit_rows unit ≡ standard_rows ∷ (rows_1 ∷ rows_2 ∷ rows_3 ∷ [])
unfolding unit_rows declare_block blocks_of standard_names
rows_are = refl

pub diagnostics_are : sorted_diags (declaration_diags unit) ≡ ([])
unfolding unit_rows declare_block blocks_of declaration_diags standard_names
diagnostics_are = refl

pub answers_are : sorted_answers (declaration_answers unit) ≡ ((6 ∷ 1 ∷ 17 ∷ []) ∷ (8 ∷ 1 ∷ 4 ∷ []) ∷ [])
unfolding unit_rows declare_block blocks_of declaration_answers standard_names
answers_are = refl
