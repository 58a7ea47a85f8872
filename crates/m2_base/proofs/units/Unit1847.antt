-- A unit, with what its declarations give. Names are numbered from 28 on as they come here.
--
-- M.mod:
--     MODULE M; FROM InOut IMPORT WriteInt, WriteCard, Read; VAR v5, v6: RECORD f1: ARRAY [0..(1 + 3)] OF CHAR; f2:
--     (e3, e4) END; v7, v8: CHAR; v9, v10: BITSET; TYPE T11 = CHAR; TYPE T12 = T11; CONST CONST BEGIN LOOP v9 := v10;
--     IF v7 = (CAP(v7)) THEN EXIT END; v8 := CAP(v8); v6 := v5 END; INCL(v10, 23); v8 := CHR(125); v7 :=
--     CAP(v5.f1[4]); CASE v6.f2 OF e4: v10 := BITSET{14, 19..ORD(FALSE)} | e3: WHILE FALSE DO v9 := BITSET{5..20,
--     6..7}; v7 := CAP(v8) END ELSE v8 := CAP(v8) END END M.
use Rattle.std.specs.Prelude.{◌≡◌, pos, negsuc, true, false, List, [], ◌∷◌, ◌++◌, Some, None}
use Rattle.std.proofs.Common.{refl}
use Rattle.m2_base.specs.Names.{standard_names}
use Rattle.m2_base.specs.Rows.{Row, numbers_row}
use Rattle.m2_base.specs.Standard.{standard_rows}
use Rattle.m2_base.specs.Statics.BlockRows.{declare_block}
use Rattle.m2_base.specs.Statics.Blocks.{UnitTrees, blocks_of}
use Rattle.m2_base.specs.Statics.UnitNotes.{declaration_diags, declaration_answers}
use Rattle.m2_base.specs.Statics.UnitRows.{unit_rows}
use Rattle.m2_base.specs.Trees.{Stream, Main, Definition, expr, number_form, char_form, many_form, next, nexts, type_expr, named_type, enum_type, sub_type, array_type, record_type, type_exprs, plain_fields, field_lists, const_decl, type_decl, vars_decl, proc_decl, statements}
use Rattle.m2_base.specs.declared.trees.operators.Operator.TheVariants.{Plus}
use Rattle.m2_base.proofs.UnitTerms.{ident, qual, section, heading, an_import, stream, definition_module, sorted_diags, sorted_answers}

abbrev tree_1 : Stream
tree_1 = stream Definition false (Some (ident 27 2)) ([]) None ((const_decl (ident 31 5) (expr 7 (char_form 10))) ∷ (vars_decl ((ident 32 10) ∷ []) (type_expr 12 (named_type (qual (ident 4 12) None)))) ∷ (proc_decl (heading (ident 30 15) ((section true ((ident 33 18) ∷ []) false (qual (ident 3 20) None)) ∷ []) None) 0) ∷ (proc_decl (heading (ident 34 24) ((section true ((ident 35 27) ∷ []) false (qual (ident 1 29) None)) ∷ []) None) 0) ∷ (proc_decl (heading (ident 36 33) ((section true ((ident 35 36) ∷ []) false (qual (ident 2 38) None)) ∷ []) None) 0) ∷ (proc_decl (heading (ident 37 42) ((section false ((ident 33 44) ∷ []) false (qual (ident 3 46) None)) ∷ []) None) 0) ∷ (proc_decl (heading (ident 38 50) ((section false ((ident 39 52) ∷ []) true (qual (ident 3 56) None)) ∷ []) None) 0) ∷ (proc_decl (heading (ident 40 60) ([]) None) 0) ∷ (proc_decl (heading (ident 28 63) ((section false ((ident 35 65) ∷ []) false (qual (ident 1 67) None)) ∷ (section false ((ident 41 69) ∷ []) false (qual (ident 2 71) None)) ∷ []) None) 0) ∷ (proc_decl (heading (ident 29 75) ((section false ((ident 35 77) ∷ (ident 41 79) ∷ []) false (qual (ident 2 81) None)) ∷ []) None) 0) ∷ []) (statements []) (ident 27 85)

abbrev tree_2 : Stream
tree_2 = stream Main false (Some (ident 42 1)) ((an_import (Some (ident 27 4)) ((ident 28 6) ∷ (ident 29 8) ∷ (ident 30 10) ∷ [])) ∷ []) None ((vars_decl ((ident 43 13) ∷ (ident 44 15) ∷ []) (type_expr 17 (record_type (field_lists ((plain_fields ((ident 45 18) ∷ []) (type_expr 20 (array_type (type_exprs ((type_expr 21 (sub_type None (expr 22 (number_form 0)) (expr 24 (many_form (expr 25 (number_form 1)) (nexts ((next Plus 26 (expr 27 (number_form 3))) ∷ [])))))) ∷ [])) (type_expr 31 (named_type (qual (ident 3 31) None)))))) ∷ (plain_fields ((ident 46 33) ∷ []) (type_expr 35 (enum_type ((ident 47 36) ∷ (ident 48 38) ∷ [])))) ∷ []))))) ∷ (vars_decl ((ident 49 42) ∷ (ident 50 44) ∷ []) (type_expr 46 (named_type (qual (ident 3 46) None)))) ∷ (vars_decl ((ident 51 48) ∷ (ident 52 50) ∷ []) (type_expr 52 (named_type (qual (ident 5 52) None)))) ∷ (type_decl (ident 53 55) (Some (type_expr 57 (named_type (qual (ident 3 57) None))))) ∷ (type_decl (ident 54 60) (Some (type_expr 62 (named_type (qual (ident 53 62) None))))) ∷ []) (statements []) (ident 42 178)

abbrev rows_1 : List Row
rows_1 = ((numbers_row 31 5 1 (pos 2) (pos 10) (pos 0) (pos 0)) ∷ (numbers_row 32 10 3 (pos 3) (pos 0) (pos 0) (pos 0)) ∷ (numbers_row 0 18 8 (pos 2) (pos 1) (pos 3) (pos 0)) ∷ (numbers_row 0 15 18 (negsuc 0) (pos 1) (pos 2) (pos 0)) ∷ (numbers_row 30 15 4 (pos 4294967299) (pos 0) (pos 0) (pos 0)) ∷ (numbers_row 0 27 8 (pos 0) (pos 1) (pos 6) (pos 0)) ∷ (numbers_row 0 24 18 (negsuc 0) (pos 1) (pos 5) (pos 0)) ∷ (numbers_row 34 24 4 (pos 4294967302) (pos 1) (pos 0) (pos 0)) ∷ (numbers_row 0 36 8 (pos 1) (pos 1) (pos 9) (pos 0)) ∷ (numbers_row 0 33 18 (negsuc 0) (pos 1) (pos 8) (pos 0)) ∷ (numbers_row 36 33 4 (pos 4294967305) (pos 2) (pos 0) (pos 0)) ∷ (numbers_row 0 44 8 (pos 2) (pos 0) (pos 12) (pos 0)) ∷ (numbers_row 0 42 18 (negsuc 0) (pos 1) (pos 11) (pos 0)) ∷ (numbers_row 37 42 4 (pos 4294967308) (pos 3) (pos 0) (pos 0)) ∷ (numbers_row 0 56 14 (pos 0) (pos 2) (pos 0) (pos 0)) ∷ (numbers_row 0 52 8 (pos 4294967310) (pos 0) (pos 16) (pos 0)) ∷ (numbers_row 0 50 18 (negsuc 0) (pos 1) (pos 14) (pos 0)) ∷ (numbers_row 38 50 4 (pos 4294967312) (pos 4) (pos 0) (pos 0)) ∷ (numbers_row 0 60 18 (negsuc 0) (pos 0) (pos 18) (pos 0)) ∷ (numbers_row 40 60 4 (pos 4294967314) (pos 5) (pos 0) (pos 0)) ∷ (numbers_row 0 65 8 (pos 0) (pos 0) (pos 22) (pos 0)) ∷ (numbers_row 0 69 8 (pos 1) (pos 0) (pos 22) (pos 0)) ∷ (numbers_row 0 63 18 (negsuc 0) (pos 2) (pos 20) (pos 0)) ∷ (numbers_row 28 63 4 (pos 4294967318) (pos 6) (pos 0) (pos 0)) ∷ (numbers_row 0 77 8 (pos 1) (pos 0) (pos 26) (pos 0)) ∷ (numbers_row 0 79 8 (pos 1) (pos 0) (pos 26) (pos 0)) ∷ (numbers_row 0 75 18 (negsuc 0) (pos 2) (pos 24) (pos 0)) ∷ (numbers_row 29 75 4 (pos 4294967322) (pos 7) (pos 0) (pos 0)) ∷ [])

abbrev rows_2 : List Row
rows_2 = ((numbers_row 28 6 6 (pos 4294967319) (pos 0) (pos 0) (pos 0)) ∷ (numbers_row 29 8 6 (pos 4294967323) (pos 0) (pos 0) (pos 0)) ∷ (numbers_row 30 10 6 (pos 4294967300) (pos 0) (pos 0) (pos 0)) ∷ (numbers_row 0 21 12 (pos 1) (pos 0) (pos 4) (pos 0)) ∷ (numbers_row 0 20 13 (pos 8589934595) (pos 2) (pos 5) (pos 0)) ∷ (numbers_row 0 18 7 (pos 8589934596) (pos 0) (pos 10) (pos 45)) ∷ (numbers_row 0 35 11 (pos 2) (pos 0) (pos 0) (pos 0)) ∷ (numbers_row 47 36 1 (pos 8589934598) (pos 0) (pos 0) (pos 0)) ∷ (numbers_row 48 38 1 (pos 8589934598) (pos 1) (pos 0) (pos 0)) ∷ (numbers_row 0 33 7 (pos 8589934598) (pos 5) (pos 10) (pos 46)) ∷ (numbers_row 0 17 15 (pos 3) (pos 0) (pos 6) (pos 0)) ∷ (numbers_row 43 13 3 (pos 8589934602) (pos 0) (pos 0) (pos 0)) ∷ (numbers_row 44 15 3 (pos 8589934602) (pos 0) (pos 6) (pos 0)) ∷ (numbers_row 49 42 3 (pos 2) (pos 0) (pos 12) (pos 0)) ∷ (numbers_row 50 44 3 (pos 2) (pos 0) (pos 13) (pos 0)) ∷ (numbers_row 51 48 3 (pos 5) (pos 0) (pos 14) (pos 0)) ∷ (numbers_row 52 50 3 (pos 5) (pos 0) (pos 15) (pos 0)) ∷ (numbers_row 53 55 2 (pos 2) (pos 0) (pos 0) (pos 0)) ∷ (numbers_row 54 60 2 (pos 2) (pos 0) (pos 0) (pos 0)) ∷ [])

abbrev unit : UnitTrees
unit = record {
  source = record { spellings = standard_names ++ ((87 ∷ 114 ∷ 105 ∷ 116 ∷ 101 ∷ 73 ∷ 110 ∷ 116 ∷ []) ∷ (87 ∷ 114 ∷ 105 ∷ 116 ∷ 101 ∷ 67 ∷ 97 ∷ 114 ∷ 100 ∷ []) ∷ (82 ∷ 101 ∷ 97 ∷ 100 ∷ []) ∷ (69 ∷ 79 ∷ 76 ∷ []) ∷ (68 ∷ 111 ∷ 110 ∷ 101 ∷ []) ∷ (99 ∷ 104 ∷ []) ∷ (82 ∷ 101 ∷ 97 ∷ 100 ∷ 73 ∷ 110 ∷ 116 ∷ []) ∷ (120 ∷ []) ∷ (82 ∷ 101 ∷ 97 ∷ 100 ∷ 67 ∷ 97 ∷ 114 ∷ 100 ∷ []) ∷ (87 ∷ 114 ∷ 105 ∷ 116 ∷ 101 ∷ []) ∷ (87 ∷ 114 ∷ 105 ∷ 116 ∷ 101 ∷ 83 ∷ 116 ∷ 114 ∷ 105 ∷ 110 ∷ 103 ∷ []) ∷ (115 ∷ []) ∷ (87 ∷ 114 ∷ 105 ∷ 116 ∷ 101 ∷ 76 ∷ 110 ∷ []) ∷ (110 ∷ []) ∷ (77 ∷ []) ∷ (118 ∷ 53 ∷ []) ∷ (118 ∷ 54 ∷ []) ∷ (102 ∷ 49 ∷ []) ∷ (102 ∷ 50 ∷ []) ∷ (101 ∷ 51 ∷ []) ∷ (101 ∷ 52 ∷ []) ∷ (118 ∷ 55 ∷ []) ∷ (118 ∷ 56 ∷ []) ∷ (118 ∷ 57 ∷ []) ∷ (118 ∷ 49 ∷ 48 ∷ []) ∷ (84 ∷ 49 ∷ 49 ∷ []) ∷ (84 ∷ 49 ∷ 50 ∷ []) ∷ []); definitions = ((definition_module 27 1) ∷ []) };
  own = None;
  definitions = (tree_1 ∷ []);
  main = (tree_2 ∷ []);
}

pub rows_are : unit_rows unit ≡ standard_rows ∷ (rows_1 ∷ rows_2 ∷ [])
unfolding unit_rows declare_block blocks_of standard_names
rows_are = refl

pub diagnostics_are : sorted_diags (declaration_diags unit) ≡ ([])
unfolding unit_rows declare_block blocks_of declaration_diags standard_names
diagnostics_are = refl

pub answers_are : sorted_answers (declaration_answers unit) ≡ ((6 ∷ 1 ∷ 23 ∷ []) ∷ (8 ∷ 1 ∷ 27 ∷ []) ∷ (10 ∷ 1 ∷ 4 ∷ []) ∷ (62 ∷ 2 ∷ 17 ∷ []) ∷ [])
unfolding unit_rows declare_block blocks_of declaration_answers standard_names
answers_are = refl
