-- A unit, with what its declarations give. Names are numbered from 28 on as they come here.
--
-- M.mod:
--     MODULE M; FROM InOut IMPORT WriteInt, Write, Read, WriteString, Done; PROCEDURE P1(VAR p2: BITSET; VAR p3:
--     BITSET; VAR p4: ARRAY OF BOOLEAN): CHAR; BEGIN WriteString("z a z"); RETURN 41C END P1; VAR v5, v6: CARDINAL;
--     VAR v7: PROCEDURE (VAR BITSET, INTEGER, ARRAY OF BITSET): CHAR; v8: CARDINAL; v9: SET OF [0..9]; BEGIN HALT END
--     M.
use Rattle.std.specs.Prelude.{◌≡◌, pos, negsuc, true, false, List, [], ◌∷◌, ◌++◌, Some, None}
use Rattle.std.proofs.Common.{refl}
use Rattle.m2_base.specs.Names.{standard_names}
use Rattle.m2_base.specs.Rows.{Row, numbers_row}
use Rattle.m2_base.specs.Standard.{standard_rows}
use Rattle.m2_base.specs.Statics.BlockRows.{declare_block}
use Rattle.m2_base.specs.Statics.Blocks.{UnitTrees, blocks_of}
use Rattle.m2_base.specs.Statics.UnitNotes.{declaration_diags, declaration_answers}
use Rattle.m2_base.specs.Statics.UnitRows.{unit_rows}
use Rattle.m2_base.specs.Trees.{Stream, Main, Definition, Procedure, expr, number_form, char_form, type_expr, named_type, sub_type, set_type, proc_type, const_decl, vars_decl, proc_decl, statements}
use Rattle.m2_base.proofs.UnitTerms.{ident, qual, formal, section, heading, an_import, stream, definition_module, sorted_diags, sorted_answers}

abbrev tree_1 : Stream
tree_1 = stream Definition false (Some (ident 27 2)) ([]) None ((const_decl (ident 33 5) (expr 7 (char_form 10))) ∷ (vars_decl ((ident 32 10) ∷ []) (type_expr 12 (named_type (qual (ident 4 12) None)))) ∷ (proc_decl (heading (ident 30 15) ((section true ((ident 34 18) ∷ []) false (qual (ident 3 20) None)) ∷ []) None) 0) ∷ (proc_decl (heading (ident 35 24) ((section true ((ident 36 27) ∷ []) false (qual (ident 1 29) None)) ∷ []) None) 0) ∷ (proc_decl (heading (ident 37 33) ((section true ((ident 36 36) ∷ []) false (qual (ident 2 38) None)) ∷ []) None) 0) ∷ (proc_decl (heading (ident 29 42) ((section false ((ident 34 44) ∷ []) false (qual (ident 3 46) None)) ∷ []) None) 0) ∷ (proc_decl (heading (ident 31 50) ((section false ((ident 38 52) ∷ []) true (qual (ident 3 56) None)) ∷ []) None) 0) ∷ (proc_decl (heading (ident 39 60) ([]) None) 0) ∷ (proc_decl (heading (ident 28 63) ((section false ((ident 36 65) ∷ []) false (qual (ident 1 67) None)) ∷ (section false ((ident 40 69) ∷ []) false (qual (ident 2 71) None)) ∷ []) None) 0) ∷ (proc_decl (heading (ident 41 75) ((section false ((ident 36 77) ∷ (ident 40 79) ∷ []) false (qual (ident 2 81) None)) ∷ []) None) 0) ∷ []) (statements []) (ident 27 85)

abbrev tree_2 : Stream
tree_2 = stream Main false (Some (ident 42 1)) ((an_import (Some (ident 27 4)) ((ident 28 6) ∷ (ident 29 8) ∷ (ident 30 10) ∷ (ident 31 12) ∷ (ident 32 14) ∷ [])) ∷ []) None ((proc_decl (heading (ident 43 17) ((section true ((ident 44 20) ∷ []) false (qual (ident 5 22) None)) ∷ (section true ((ident 45 25) ∷ []) false (qual (ident 5 27) None)) ∷ (section true ((ident 46 30) ∷ []) true (qual (ident 4 34) None)) ∷ []) (Some (qual (ident 3 37) None))) 3) ∷ (vars_decl ((ident 47 51) ∷ (ident 48 53) ∷ []) (type_expr 55 (named_type (qual (ident 2 55) None)))) ∷ (vars_decl ((ident 49 58) ∷ []) (type_expr 60 (proc_type ((formal true false (qual (ident 5 63) None)) ∷ (formal false false (qual (ident 1 65) None)) ∷ (formal false true (qual (ident 5 69) None)) ∷ []) (Some (qual (ident 3 72) None))))) ∷ (vars_decl ((ident 50 74) ∷ []) (type_expr 76 (named_type (qual (ident 2 76) None)))) ∷ (vars_decl ((ident 51 78) ∷ []) (type_expr 80 (set_type (type_expr 82 (sub_type None (expr 83 (number_form 0)) (expr 85 (number_form 9))))))) ∷ []) (statements []) (ident 42 91)

abbrev tree_3 : Stream
tree_3 = stream Procedure false None [] (Some (heading (ident 43 17) ((section true ((ident 44 20) ∷ []) false (qual (ident 5 22) None)) ∷ (section true ((ident 45 25) ∷ []) false (qual (ident 5 27) None)) ∷ (section true ((ident 46 30) ∷ []) true (qual (ident 4 34) None)) ∷ []) (Some (qual (ident 3 37) None)))) ([]) (statements []) (ident 43 48)

abbrev rows_1 : List Row
rows_1 = ((numbers_row 33 5 1 (pos 2) (pos 10) (pos 0) (pos 0)) ∷ (numbers_row 32 10 3 (pos 3) (pos 0) (pos 0) (pos 0)) ∷ (numbers_row 0 18 8 (pos 2) (pos 1) (pos 3) (pos 0)) ∷ (numbers_row 0 15 18 (negsuc 0) (pos 1) (pos 2) (pos 0)) ∷ (numbers_row 30 15 4 (pos 4294967299) (pos 0) (pos 0) (pos 0)) ∷ (numbers_row 0 27 8 (pos 0) (pos 1) (pos 6) (pos 0)) ∷ (numbers_row 0 24 18 (negsuc 0) (pos 1) (pos 5) (pos 0)) ∷ (numbers_row 35 24 4 (pos 4294967302) (pos 1) (pos 0) (pos 0)) ∷ (numbers_row 0 36 8 (pos 1) (pos 1) (pos 9) (pos 0)) ∷ (numbers_row 0 33 18 (negsuc 0) (pos 1) (pos 8) (pos 0)) ∷ (numbers_row 37 33 4 (pos 4294967305) (pos 2) (pos 0) (pos 0)) ∷ (numbers_row 0 44 8 (pos 2) (pos 0) (pos 12) (pos 0)) ∷ (numbers_row 0 42 18 (negsuc 0) (pos 1) (pos 11) (pos 0)) ∷ (numbers_row 29 42 4 (pos 4294967308) (pos 3) (pos 0) (pos 0)) ∷ (numbers_row 0 56 14 (pos 0) (pos 2) (pos 0) (pos 0)) ∷ (numbers_row 0 52 8 (pos 4294967310) (pos 0) (pos 16) (pos 0)) ∷ (numbers_row 0 50 18 (negsuc 0) (pos 1) (pos 14) (pos 0)) ∷ (numbers_row 31 50 4 (pos 4294967312) (pos 4) (pos 0) (pos 0)) ∷ (numbers_row 0 60 18 (negsuc 0) (pos 0) (pos 18) (pos 0)) ∷ (numbers_row 39 60 4 (pos 4294967314) (pos 5) (pos 0) (pos 0)) ∷ (numbers_row 0 65 8 (pos 0) (pos 0) (pos 22) (pos 0)) ∷ (numbers_row 0 69 8 (pos 1) (pos 0) (pos 22) (pos 0)) ∷ (numbers_row 0 63 18 (negsuc 0) (pos 2) (pos 20) (pos 0)) ∷ (numbers_row 28 63 4 (pos 4294967318) (pos 6) (pos 0) (pos 0)) ∷ (numbers_row 0 77 8 (pos 1) (pos 0) (pos 26) (pos 0)) ∷ (numbers_row 0 79 8 (pos 1) (pos 0) (pos 26) (pos 0)) ∷ (numbers_row 0 75 18 (negsuc 0) (pos 2) (pos 24) (pos 0)) ∷ (numbers_row 41 75 4 (pos 4294967322) (pos 7) (pos 0) (pos 0)) ∷ [])

abbrev rows_2 : List Row
rows_2 = ((numbers_row 28 6 6 (pos 4294967319) (pos 0) (pos 0) (pos 0)) ∷ (numbers_row 29 8 6 (pos 4294967309) (pos 0) (pos 0) (pos 0)) ∷ (numbers_row 30 10 6 (pos 4294967300) (pos 0) (pos 0) (pos 0)) ∷ (numbers_row 31 12 6 (pos 4294967313) (pos 0) (pos 0) (pos 0)) ∷ (numbers_row 32 14 6 (pos 4294967297) (pos 0) (pos 0) (pos 0)) ∷ (numbers_row 0 20 8 (pos 5) (pos 1) (pos 9) (pos 0)) ∷ (numbers_row 0 25 8 (pos 5) (pos 1) (pos 9) (pos 0)) ∷ (numbers_row 0 34 14 (pos 0) (pos 3) (pos 0) (pos 0)) ∷ (numbers_row 0 30 8 (pos 8589934599) (pos 1) (pos 9) (pos 0)) ∷ (numbers_row 0 17 18 (pos 2) (pos 3) (pos 5) (pos 0)) ∷ (numbers_row 43 17 4 (pos 8589934601) (pos 1) (pos 3) (pos 0)) ∷ (numbers_row 47 51 3 (pos 1) (pos 0) (pos 0) (pos 0)) ∷ (numbers_row 48 53 3 (pos 1) (pos 0) (pos 1) (pos 0)) ∷ (numbers_row 0 63 8 (pos 5) (pos 1) (pos 17) (pos 0)) ∷ (numbers_row 0 65 8 (pos 0) (pos 0) (pos 17) (pos 0)) ∷ (numbers_row 0 69 14 (pos 0) (pos 5) (pos 0) (pos 0)) ∷ (numbers_row 0 69 8 (pos 8589934607) (pos 0) (pos 17) (pos 0)) ∷ (numbers_row 0 60 18 (pos 2) (pos 3) (pos 13) (pos 0)) ∷ (numbers_row 49 58 3 (pos 8589934609) (pos 0) (pos 2) (pos 0)) ∷ (numbers_row 50 74 3 (pos 1) (pos 0) (pos 3) (pos 0)) ∷ (numbers_row 0 82 12 (pos 1) (pos 0) (pos 9) (pos 0)) ∷ (numbers_row 0 80 16 (pos 8589934612) (pos 0) (pos 0) (pos 0)) ∷ (numbers_row 51 78 3 (pos 8589934613) (pos 0) (pos 4) (pos 0)) ∷ [])

abbrev rows_3 : List Row
rows_3 = ((numbers_row 44 20 3 (pos 5) (pos 1) (pos 0) (pos 0)) ∷ (numbers_row 45 25 3 (pos 5) (pos 1) (pos 1) (pos 0)) ∷ (numbers_row 0 34 14 (pos 0) (pos 3) (pos 0) (pos 0)) ∷ (numbers_row 46 30 3 (pos 12884901890) (pos 2) (pos 2) (pos 0)) ∷ [])

abbrev unit : UnitTrees
unit = record {
  source = record { spellings = standard_names ++ ((87 ∷ 114 ∷ 105 ∷ 116 ∷ 101 ∷ 73 ∷ 110 ∷ 116 ∷ []) ∷ (87 ∷ 114 ∷ 105 ∷ 116 ∷ 101 ∷ []) ∷ (82 ∷ 101 ∷ 97 ∷ 100 ∷ []) ∷ (87 ∷ 114 ∷ 105 ∷ 116 ∷ 101 ∷ 83 ∷ 116 ∷ 114 ∷ 105 ∷ 110 ∷ 103 ∷ []) ∷ (68 ∷ 111 ∷ 110 ∷ 101 ∷ []) ∷ (69 ∷ 79 ∷ 76 ∷ []) ∷ (99 ∷ 104 ∷ []) ∷ (82 ∷ 101 ∷ 97 ∷ 100 ∷ 73 ∷ 110 ∷ 116 ∷ []) ∷ (120 ∷ []) ∷ (82 ∷ 101 ∷ 97 ∷ 100 ∷ 67 ∷ 97 ∷ 114 ∷ 100 ∷ []) ∷ (115 ∷ []) ∷ (87 ∷ 114 ∷ 105 ∷ 116 ∷ 101 ∷ 76 ∷ 110 ∷ []) ∷ (110 ∷ []) ∷ (87 ∷ 114 ∷ 105 ∷ 116 ∷ 101 ∷ 67 ∷ 97 ∷ 114 ∷ 100 ∷ []) ∷ (77 ∷ []) ∷ (80 ∷ 49 ∷ []) ∷ (112 ∷ 50 ∷ []) ∷ (112 ∷ 51 ∷ []) ∷ (112 ∷ 52 ∷ []) ∷ (118 ∷ 53 ∷ []) ∷ (118 ∷ 54 ∷ []) ∷ (118 ∷ 55 ∷ []) ∷ (118 ∷ 56 ∷ []) ∷ (118 ∷ 57 ∷ []) ∷ []); definitions = ((definition_module 27 1) ∷ []) };
  own = None;
  definitions = (tree_1 ∷ []);
  main = (tree_2 ∷ tree_3 ∷ []);
}

pub rows_are : unit_rows unit ≡ standard_rows ∷ (rows_1 ∷ rows_2 ∷ rows_3 ∷ [])
unfolding unit_rows declare_block blocks_of standard_names
rows_are = refl

pub diagnostics_are : sorted_diags (declaration_diags unit) ≡ ([])
unfolding unit_rows declare_block blocks_of declaration_diags standard_names
diagnostics_are = refl

pub answers_are : sorted_answers (declaration_answers unit) ≡ ((6 ∷ 1 ∷ 23 ∷ []) ∷ (8 ∷ 1 ∷ 13 ∷ []) ∷ (10 ∷ 1 ∷ 4 ∷ []) ∷ (12 ∷ 1 ∷ 17 ∷ []) ∷ (14 ∷ 1 ∷ 1 ∷ []) ∷ [])
unfolding unit_rows declare_block blocks_of declaration_answers standard_names
answers_are = refl
