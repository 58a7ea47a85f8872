-- A unit, with what its declarations give. Names are numbered from 28 on as they come here.
--
-- M.mod:
--     MODULE M; FROM InOut IMPORT Done, Read; PROCEDURE P1(VAR p2: CHAR); BEGIN INC(Done, 03H); p2 := p2 END P1; TYPE
--     T3 = (e4, e5); T6 = ARRAY CHAR["C"..103C] OF CHAR; BEGIN ; ; ; CASE Done OF TRUE: Done := (ODD(19)) &
--     (ODD(ORD(Done))); RETURN | ELSE END; Done := TRUE; IF (ODD(04H)) AND TRUE THEN ; LOOP Done := Done = (Done =
--     (Done < Done)); RETURN; IF FALSE THEN EXIT END; Done := Done END; IF ODD((1 + 3)) THEN Done := ODD(8) END END;
--     END M.
use Rattle.std.specs.Prelude.{◌≡◌, pos, negsuc, true, false, List, [], ◌∷◌, ◌++◌, Some, None}
use Rattle.std.proofs.Common.{refl}
use Rattle.m2_base.specs.Names.{standard_names}
use Rattle.m2_base.specs.Rows.{Row, numbers_row}
use Rattle.m2_base.specs.Standard.{standard_rows}
use Rattle.m2_base.specs.Statics.BlockRows.{declare_block}
use Rattle.m2_base.specs.Statics.Blocks.{UnitTrees, blocks_of}
use Rattle.m2_base.specs.Statics.UnitNotes.{declaration_diags, declaration_answers}
use Rattle.m2_base.specs.Statics.UnitRows.{unit_rows}
use Rattle.m2_base.specs.Trees.{Stream, Main, Definition, Procedure, expr, char_form, string_form, type_expr, named_type, enum_type, sub_type, array_type, type_exprs, const_decl, type_decl, vars_decl, proc_decl, statements}
use Rattle.m2_base.proofs.UnitTerms.{ident, qual, section, heading, an_import, stream, definition_module, sorted_diags, sorted_answers}

abbrev tree_1 : Stream
tree_1 = stream Definition false (Some (ident 27 2)) ([]) None ((const_decl (ident 30 5) (expr 7 (char_form 10))) ∷ (vars_decl ((ident 28 10) ∷ []) (type_expr 12 (named_type (qual (ident 4 12) None)))) ∷ (proc_decl (heading (ident 29 15) ((section true ((ident 31 18) ∷ []) false (qual (ident 3 20) None)) ∷ []) None) 0) ∷ (proc_decl (heading (ident 32 24) ((section true ((ident 33 27) ∷ []) false (qual (ident 1 29) None)) ∷ []) None) 0) ∷ (proc_decl (heading (ident 34 33) ((section true ((ident 33 36) ∷ []) false (qual (ident 2 38) None)) ∷ []) None) 0) ∷ (proc_decl (heading (ident 35 42) ((section false ((ident 31 44) ∷ []) false (qual (ident 3 46) None)) ∷ []) None) 0) ∷ (proc_decl (heading (ident 36 50) ((section false ((ident 37 52) ∷ []) true (qual (ident 3 56) None)) ∷ []) None) 0) ∷ (proc_decl (heading (ident 38 60) ([]) None) 0) ∷ (proc_decl (heading (ident 39 63) ((section false ((ident 33 65) ∷ []) false (qual (ident 1 67) None)) ∷ (section false ((ident 40 69) ∷ []) false (qual (ident 2 71) None)) ∷ []) None) 0) ∷ (proc_decl (heading (ident 41 75) ((section false ((ident 33 77) ∷ (ident 40 79) ∷ []) false (qual (ident 2 81) None)) ∷ []) None) 0) ∷ []) (statements []) (ident 27 85)

abbrev tree_2 : Stream
tree_2 = stream Main false (Some (ident 42 1)) ((an_import (Some (ident 27 4)) ((ident 28 6) ∷ (ident 29 8) ∷ [])) ∷ []) None ((proc_decl (heading (ident 43 11) ((section true ((ident 44 14) ∷ []) false (qual (ident 3 16) None)) ∷ []) None) 3) ∷ (type_decl (ident 45 34) (Some (type_expr 36 (enum_type ((ident 46 37) ∷ (ident 47 39) ∷ []))))) ∷ (type_decl (ident 48 42) (Some (type_expr 44 (array_type (type_exprs ((type_expr 45 (sub_type (Some (qual (ident 3 45) None)) (expr 47 (string_form 49)) (expr 49 (char_form 67)))) ∷ [])) (type_expr 52 (named_type (qual (ident 3 52) None))))))) ∷ []) (statements []) (ident 42 150)

abbrev tree_3 : Stream
tree_3 = stream Procedure false None [] (Some (heading (ident 43 11) ((section true ((ident 44 14) ∷ []) false (qual (ident 3 16) None)) ∷ []) None)) ([]) (statements []) (ident 43 31)

abbrev rows_1 : List Row
rows_1 = ((numbers_row 30 5 1 (pos 2) (pos 10) (pos 0) (pos 0)) ∷ (numbers_row 28 10 3 (pos 3) (pos 0) (pos 0) (pos 0)) ∷ (numbers_row 0 18 8 (pos 2) (pos 1) (pos 3) (pos 0)) ∷ (numbers_row 0 15 18 (negsuc 0) (pos 1) (pos 2) (pos 0)) ∷ (numbers_row 29 15 4 (pos 4294967299) (pos 0) (pos 0) (pos 0)) ∷ (numbers_row 0 27 8 (pos 0) (pos 1) (pos 6) (pos 0)) ∷ (numbers_row 0 24 18 (negsuc 0) (pos 1) (pos 5) (pos 0)) ∷ (numbers_row 32 24 4 (pos 4294967302) (pos 1) (pos 0) (pos 0)) ∷ (numbers_row 0 36 8 (pos 1) (pos 1) (pos 9) (pos 0)) ∷ (numbers_row 0 33 18 (negsuc 0) (pos 1) (pos 8) (pos 0)) ∷ (numbers_row 34 33 4 (pos 4294967305) (pos 2) (pos 0) (pos 0)) ∷ (numbers_row 0 44 8 (pos 2) (pos 0) (pos 12) (pos 0)) ∷ (numbers_row 0 42 18 (negsuc 0) (pos 1) (pos 11) (pos 0)) ∷ (numbers_row 35 42 4 (pos 4294967308) (pos 3) (pos 0) (pos 0)) ∷ (numbers_row 0 56 14 (pos 0) (pos 2) (pos 0) (pos 0)) ∷ (numbers_row 0 52 8 (pos 4294967310) (pos 0) (pos 16) (pos 0)) ∷ (numbers_row 0 50 18 (negsuc 0) (pos 1) (pos 14) (pos 0)) ∷ (numbers_row 36 50 4 (pos 4294967312) (pos 4) (pos 0) (pos 0)) ∷ (numbers_row 0 60 18 (negsuc 0) (pos 0) (pos 18) (pos 0)) ∷ (numbers_row 38 60 4 (pos 4294967314) (pos 5) (pos 0) (pos 0)) ∷ (numbers_row 0 65 8 (pos 0) (pos 0) (pos 22) (pos 0)) ∷ (numbers_row 0 69 8 (pos 1) (pos 0) (pos 22) (pos 0)) ∷ (numbers_row 0 63 18 (negsuc 0) (pos 2) (pos 20) (pos 0)) ∷ (numbers_row 39 63 4 (pos 4294967318) (pos 6) (pos 0) (pos 0)) ∷ (numbers_row 0 77 8 (pos 1) (pos 0) (pos 26) (pos 0)) ∷ (numbers_row 0 79 8 (pos 1) (pos 0) (pos 26) (pos 0)) ∷ (numbers_row 0 75 18 (negsuc 0) (pos 2) (pos 24) (pos 0)) ∷ (numbers_row 41 75 4 (pos 4294967322) (pos 7) (pos 0) (pos 0)) ∷ [])

abbrev rows_2 : List Row
rows_2 = ((numbers_row 28 6 6 (pos 4294967297) (pos 0) (pos 0) (pos 0)) ∷ (numbers_row 29 8 6 (pos 4294967300) (pos 0) (pos 0) (pos 0)) ∷ (numbers_row 0 14 8 (pos 2) (pos 1) (pos 3) (pos 0)) ∷ (numbers_row 0 11 18 (negsuc 0) (pos 1) (pos 2) (pos 0)) ∷ (numbers_row 43 11 4 (pos 8589934595) (pos 1) (pos 3) (pos 0)) ∷ (numbers_row 0 36 11 (pos 2) (pos 0) (pos 0) (pos 0)) ∷ (numbers_row 46 37 1 (pos 8589934597) (pos 0) (pos 0) (pos 0)) ∷ (numbers_row 47 39 1 (pos 8589934597) (pos 1) (pos 0) (pos 0)) ∷ (numbers_row 45 34 2 (pos 8589934597) (pos 0) (pos 0) (pos 0)) ∷ (numbers_row 0 45 12 (pos 2) (pos 67) (pos 67) (pos 0)) ∷ (numbers_row 0 44 13 (pos 8589934601) (pos 2) (pos 1) (pos 0)) ∷ (numbers_row 48 42 2 (pos 8589934602) (pos 0) (pos 0) (pos 0)) ∷ [])

abbrev rows_3 : List Row
rows_3 = ((numbers_row 44 14 3 (pos 2) (pos 1) (pos 0) (pos 0)) ∷ [])

abbrev unit : UnitTrees
unit = record {
  source = record { spellings = standard_names ++ ((68 ∷ 111 ∷ 110 ∷ 101 ∷ []) ∷ (82 ∷ 101 ∷ 97 ∷ 100 ∷ []) ∷ (69 ∷ 79 ∷ 76 ∷ []) ∷ (99 ∷ 104 ∷ []) ∷ (82 ∷ 101 ∷ 97 ∷ 100 ∷ 73 ∷ 110 ∷ 116 ∷ []) ∷ (120 ∷ []) ∷ (82 ∷ 101 ∷ 97 ∷ 100 ∷ 67 ∷ 97 ∷ 114 ∷ 100 ∷ []) ∷ (87 ∷ 114 ∷ 105 ∷ 116 ∷ 101 ∷ []) ∷ (87 ∷ 114 ∷ 105 ∷ 116 ∷ 101 ∷ 83 ∷ 116 ∷ 114 ∷ 105 ∷ 110 ∷ 103 ∷ []) ∷ (115 ∷ []) ∷ (87 ∷ 114 ∷ 105 ∷ 116 ∷ 101 ∷ 76 ∷ 110 ∷ []) ∷ (87 ∷ 114 ∷ 105 ∷ 116 ∷ 101 ∷ 73 ∷ 110 ∷ 116 ∷ []) ∷ (110 ∷ []) ∷ (87 ∷ 114 ∷ 105 ∷ 116 ∷ 101 ∷ 67 ∷ 97 ∷ 114 ∷ 100 ∷ []) ∷ (77 ∷ []) ∷ (80 ∷ 49 ∷ []) ∷ (112 ∷ 50 ∷ []) ∷ (84 ∷ 51 ∷ []) ∷ (101 ∷ 52 ∷ []) ∷ (101 ∷ 53 ∷ []) ∷ (84 ∷ 54 ∷ []) ∷ (67 ∷ []) ∷ []); definitions = ((definition_module 27 1) ∷ []) };
  own = None;
  definitions = (tree_1 ∷ []);
  main = (tree_2 ∷ tree_3 ∷ []);
}

pub rows_are : unit_rows unit ≡ standard_rows ∷ (rows_1 ∷ rows_2 ∷ rows_3 ∷ [])
unfolding unit_rows declare_block blocks_of standard_names
rows_are = refl

pub diagnostics_are : sorted_diags (declaration_diags unit) ≡ ([])
unfolding unit_rows declare_block blocks_of declaration_diags standard_names
diagnostics_are = refl

pub answers_are : sorted_answers (declaration_answers unit) ≡ ((6 ∷ 1 ∷ 1 ∷ []) ∷ (8 ∷ 1 ∷ 4 ∷ []) ∷ [])
unfolding unit_rows declare_block blocks_of declaration_answers standard_names
answers_are = refl
