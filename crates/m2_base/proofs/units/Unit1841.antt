-- A unit, with what its declarations give. Names are numbered from 28 on as they come here.
--
-- M.mod:
--     MODULE M; FROM InOut IMPORT WriteCard, ReadInt; TYPE VAR v2: INTEGER; TYPE VAR v3, v4, v5: BOOLEAN; VAR v6:
--     BOOLEAN; v10: (e7, e8, e9); BEGIN v10 := e7; FOR v2 := v2 + (v2 - 0) TO ABS(v2) BY 1 DO INC(v5); v4 := v3 END;
--     CASE 7 OF 0: v2 := 16; IF ODD(v2 DIV (v2 MOD 0EH)) THEN IF v2 = v2 THEN WriteCard(6, 22B); v10 := e7 ELSIF
--     ((ODD(v2)) AND v4) AND (~TRUE) THEN v2 := v2; v6 := TRUE & v6 ELSE RETURN; END END | 10..11: REPEAT v4 := v2 >
--     (ABS(v2)); v5 := v6 # (ODD(v2 + v2)) UNTIL ODD(v2 + (v2 - ((-4)))); ReadInt(v2) ELSE IF NOT ((v2 <> v2) AND
--     (v10 <> e7)) THEN v10 := v10; ReadInt(v2) ELSIF v6 <= (ODD(2)) THEN v4 := ODD(v2 MOD (v2 DIV ((-1)))) END END;
--     FOR v10 := v10 TO e7 DO WriteCard(14, 18); v5 := ODD((17 + 3)) END; LOOP ; v3 := TRUE; IF v3 >= (ODD(19)) THEN
--     EXIT END; IF ~TRUE THEN HALT ELSIF ODD(v2 MOD (ABS(v2))) THEN v5 := ODD(ORD("C")) END; WriteCard(013H, 3) END;
--     v4 := v5 END M.
use Rattle.std.specs.Prelude.{◌≡◌, pos, negsuc, true, false, List, [], ◌∷◌, ◌++◌, Some, None}
use Rattle.std.proofs.Common.{refl}
use Rattle.m2_base.specs.Names.{standard_names}
use Rattle.m2_base.specs.Rows.{Row, numbers_row}
use Rattle.m2_base.specs.Standard.{standard_rows}
use Rattle.m2_base.specs.Statics.BlockRows.{declare_block}
use Rattle.m2_base.specs.Statics.Blocks.{UnitTrees, blocks_of}
use Rattle.m2_base.specs.Statics.UnitNotes.{declaration_diags, declaration_answers}
use Rattle.m2_base.specs.Statics.UnitRows.{unit_rows}
use Rattle.m2_base.specs.Trees.{Stream, Main, Definition, expr, char_form, type_expr, named_type, enum_type, const_decl, vars_decl, proc_decl, statements}
use Rattle.m2_base.proofs.UnitTerms.{ident, qual, section, heading, an_import, stream, definition_module, sorted_diags, sorted_answers}

abbrev tree_1 : Stream
tree_1 = stream Definition false (Some (ident 27 2)) ([]) None ((const_decl (ident 30 5) (expr 7 (char_form 10))) ∷ (vars_decl ((ident 31 10) ∷ []) (type_expr 12 (named_type (qual (ident 4 12) None)))) ∷ (proc_decl (heading (ident 32 15) ((section true ((ident 33 18) ∷ []) false (qual (ident 3 20) None)) ∷ []) None) 0) ∷ (proc_decl (heading (ident 29 24) ((section true ((ident 34 27) ∷ []) false (qual (ident 1 29) None)) ∷ []) None) 0) ∷ (proc_decl (heading (ident 35 33) ((section true ((ident 34 36) ∷ []) false (qual (ident 2 38) None)) ∷ []) None) 0) ∷ (proc_decl (heading (ident 36 42) ((section false ((ident 33 44) ∷ []) false (qual (ident 3 46) None)) ∷ []) None) 0) ∷ (proc_decl (heading (ident 37 50) ((section false ((ident 38 52) ∷ []) true (qual (ident 3 56) None)) ∷ []) None) 0) ∷ (proc_decl (heading (ident 39 60) ([]) None) 0) ∷ (proc_decl (heading (ident 40 63) ((section false ((ident 34 65) ∷ []) false (qual (ident 1 67) None)) ∷ (section false ((ident 41 69) ∷ []) false (qual (ident 2 71) None)) ∷ []) None) 0) ∷ (proc_decl (heading (ident 28 75) ((section false ((ident 34 77) ∷ (ident 41 79) ∷ []) false (qual (ident 2 81) None)) ∷ []) None) 0) ∷ []) (statements []) (ident 27 85)

abbrev tree_2 : Stream
tree_2 = stream Main false (Some (ident 42 1)) ((an_import (Some (ident 27 4)) ((ident 28 6) ∷ (ident 29 8) ∷ [])) ∷ []) None ((vars_decl ((ident 43 12) ∷ []) (type_expr 14 (named_type (qual (ident 1 14) None)))) ∷ (vars_decl ((ident 44 18) ∷ (ident 45 20) ∷ (ident 46 22) ∷ []) (type_expr 24 (named_type (qual (ident 4 24) None)))) ∷ (vars_decl ((ident 47 27) ∷ []) (type_expr 29 (named_type (qual (ident 4 29) None)))) ∷ (vars_decl ((ident 48 31) ∷ []) (type_expr 33 (enum_type ((ident 49 34) ∷ (ident 50 36) ∷ (ident 51 38) ∷ [])))) ∷ []) (statements []) (ident 42 332)

abbrev rows_1 : List Row
rows_1 = ((numbers_row 30 5 1 (pos 2) (pos 10) (pos 0) (pos 0)) ∷ (numbers_row 31 10 3 (pos 3) (pos 0) (pos 0) (pos 0)) ∷ (numbers_row 0 18 8 (pos 2) (pos 1) (pos 3) (pos 0)) ∷ (numbers_row 0 15 18 (negsuc 0) (pos 1) (pos 2) (pos 0)) ∷ (numbers_row 32 15 4 (pos 4294967299) (pos 0) (pos 0) (pos 0)) ∷ (numbers_row 0 27 8 (pos 0) (pos 1) (pos 6) (pos 0)) ∷ (numbers_row 0 24 18 (negsuc 0) (pos 1) (pos 5) (pos 0)) ∷ (numbers_row 29 24 4 (pos 4294967302) (pos 1) (pos 0) (pos 0)) ∷ (numbers_row 0 36 8 (pos 1) (pos 1) (pos 9) (pos 0)) ∷ (numbers_row 0 33 18 (negsuc 0) (pos 1) (pos 8) (pos 0)) ∷ (numbers_row 35 33 4 (pos 4294967305) (pos 2) (pos 0) (pos 0)) ∷ (numbers_row 0 44 8 (pos 2) (pos 0) (pos 12) (pos 0)) ∷ (numbers_row 0 42 18 (negsuc 0) (pos 1) (pos 11) (pos 0)) ∷ (numbers_row 36 42 4 (pos 4294967308) (pos 3) (pos 0) (pos 0)) ∷ (numbers_row 0 56 14 (pos 0) (pos 2) (pos 0) (pos 0)) ∷ (numbers_row 0 52 8 (pos 4294967310) (pos 0) (pos 16) (pos 0)) ∷ (numbers_row 0 50 18 (negsuc 0) (pos 1) (pos 14) (pos 0)) ∷ (numbers_row 37 50 4 (pos 4294967312) (pos 4) (pos 0) (pos 0)) ∷ (numbers_row 0 60 18 (negsuc 0) (pos 0) (pos 18) (pos 0)) ∷ (numbers_row 39 60 4 (pos 4294967314) (pos 5) (pos 0) (pos 0)) ∷ (numbers_row 0 65 8 (pos 0) (pos 0) (pos 22) (pos 0)) ∷ (numbers_row 0 69 8 (pos 1) (pos 0) (pos 22) (pos 0)) ∷ (numbers_row 0 63 18 (negsuc 0) (pos 2) (pos 20) (pos 0)) ∷ (numbers_row 40 63 4 (pos 4294967318) (pos 6) (pos 0) (pos 0)) ∷ (numbers_row 0 77 8 (pos 1) (pos 0) (pos 26) (pos 0)) ∷ (numbers_row 0 79 8 (pos 1) (pos 0) (pos 26) (pos 0)) ∷ (numbers_row 0 75 18 (negsuc 0) (pos 2) (pos 24) (pos 0)) ∷ (numbers_row 28 75 4 (pos 4294967322) (pos 7) (pos 0) (pos 0)) ∷ [])

abbrev rows_2 : List Row
rows_2 = ((numbers_row 28 6 6 (pos 4294967323) (pos 0) (pos 0) (pos 0)) ∷ (numbers_row 29 8 6 (pos 4294967303) (pos 0) (pos 0) (pos 0)) ∷ (numbers_row 43 12 3 (pos 0) (pos 0) (pos 0) (pos 0)) ∷ (numbers_row 44 18 3 (pos 3) (pos 0) (pos 1) (pos 0)) ∷ (numbers_row 45 20 3 (pos 3) (pos 0) (pos 2) (pos 0)) ∷ (numbers_row 46 22 3 (pos 3) (pos 0) (pos 3) (pos 0)) ∷ (numbers_row 47 27 3 (pos 3) (pos 0) (pos 4) (pos 0)) ∷ (numbers_row 0 33 11 (pos 3) (pos 0) (pos 0) (pos 0)) ∷ (numbers_row 49 34 1 (pos 8589934599) (pos 0) (pos 0) (pos 0)) ∷ (numbers_row 50 36 1 (pos 8589934599) (pos 1) (pos 0) (pos 0)) ∷ (numbers_row 51 38 1 (pos 8589934599) (pos 2) (pos 0) (pos 0)) ∷ (numbers_row 48 31 3 (pos 8589934599) (pos 0) (pos 5) (pos 0)) ∷ [])

abbrev unit : UnitTrees
unit = record {
  source = record { spellings = standard_names ++ ((87 ∷ 114 ∷ 105 ∷ 116 ∷ 101 ∷ 67 ∷ 97 ∷ 114 ∷ 100 ∷ []) ∷ (82 ∷ 101 ∷ 97 ∷ 100 ∷ 73 ∷ 110 ∷ 116 ∷ []) ∷ (69 ∷ 79 ∷ 76 ∷ []) ∷ (68 ∷ 111 ∷ 110 ∷ 101 ∷ []) ∷ (82 ∷ 101 ∷ 97 ∷ 100 ∷ []) ∷ (99 ∷ 104 ∷ []) ∷ (120 ∷ []) ∷ (82 ∷ 101 ∷ 97 ∷ 100 ∷ 67 ∷ 97 ∷ 114 ∷ 100 ∷ []) ∷ (87 ∷ 114 ∷ 105 ∷ 116 ∷ 101 ∷ []) ∷ (87 ∷ 114 ∷ 105 ∷ 116 ∷ 101 ∷ 83 ∷ 116 ∷ 114 ∷ 105 ∷ 110 ∷ 103 ∷ []) ∷ (115 ∷ []) ∷ (87 ∷ 114 ∷ 105 ∷ 116 ∷ 101 ∷ 76 ∷ 110 ∷ []) ∷ (87 ∷ 114 ∷ 105 ∷ 116 ∷ 101 ∷ 73 ∷ 110 ∷ 116 ∷ []) ∷ (110 ∷ []) ∷ (77 ∷ []) ∷ (118 ∷ 50 ∷ []) ∷ (118 ∷ 51 ∷ []) ∷ (118 ∷ 52 ∷ []) ∷ (118 ∷ 53 ∷ []) ∷ (118 ∷ 54 ∷ []) ∷ (118 ∷ 49 ∷ 48 ∷ []) ∷ (101 ∷ 55 ∷ []) ∷ (101 ∷ 56 ∷ []) ∷ (101 ∷ 57 ∷ []) ∷ []); definitions = ((definition_module 27 1) ∷ []) };
  own = None;
  definitions = (tree_1 ∷ []);
  main = (tree_2 ∷ []);
}

pub rows_are : unit_rows unit ≡ standard_rows ∷ (rows_1 ∷ rows_2 ∷ [])
unfolding unit_rows declare_block blocks_of standard_names
rows_are = refl

pub diagnostics_are : sorted_diags (declaration_diags unit) ≡ ([])
unfolding unit_rows declare_block blocks_of declaration_diags standard_names
diagnostics_are = refl

pub answers_are : sorted_answers (declaration_answers unit) ≡ ((6 ∷ 1 ∷ 27 ∷ []) ∷ (8 ∷ 1 ∷ 7 ∷ []) ∷ [])
unfolding unit_rows declare_block blocks_of declaration_answers standard_names
answers_are = refl
