-- A unit, with what its declarations give. Names are numbered from 28 on as they come here.
--
-- M.mod:
--     MODULE M; VAR v1, v2: INTEGER; v4: ARRAY CHAR["G"..114C] OF RECORD f3: INTEGER END; TYPE VAR v10: ARRAY [5..11]
--     OF (e5, e6, e7, e8, e9); CONST c11 = ORD("a") > 3; TYPE T12 = ARRAY (e13, e14, e15) OF CHAR; T19 = ARRAY
--     [-5..3] OF CHAR; VAR v25: RECORD f20, f21: RECORD f22, f23: T12 END; f24: POINTER TO T12 END; BEGIN WHILE v2 >=
--     17 DO v2 := (8 + 3); END; ; ; CASE ODD(v1 + (v1 - 11)) OF TRUE: IF ODD((27 + 3)) THEN IF FALSE THEN v2 := +v1
--     END; END; | FALSE: WITH v25.f21 DO v4["G"].f3 := v4["J"].f3 END END; REPEAT UNTIL ((ODD(24)) AND TRUE) & FALSE;
--     WITH v25 DO ; END; v2 := v1; IF ~TRUE THEN v10[9] := v10[8]; v4 := v4; DEC(v10[7]) END END M.
use Rattle.std.specs.Prelude.{◌≡◌, pos, negsuc, false, List, [], ◌∷◌, ◌++◌, Some, None}
use Rattle.std.proofs.Common.{refl}
use Rattle.m2_base.specs.Names.{standard_names}
use Rattle.m2_base.specs.Rows.{Row, numbers_row}
use Rattle.m2_base.specs.Standard.{standard_rows}
use Rattle.m2_base.specs.Statics.BlockRows.{declare_block}
use Rattle.m2_base.specs.Statics.Blocks.{UnitTrees, blocks_of}
use Rattle.m2_base.specs.Statics.UnitNotes.{declaration_diags, declaration_answers}
use Rattle.m2_base.specs.Statics.UnitRows.{unit_rows}
use Rattle.m2_base.specs.Trees.{Stream, Main, expr, number_form, char_form, string_form, call_form, one_form, many_form, exprs, next, nexts, designator, selectors, type_expr, named_type, enum_type, sub_type, array_type, record_type, pointer_type, type_exprs, plain_fields, field_lists, const_decl, type_decl, vars_decl, statements}
use Rattle.m2_base.specs.declared.trees.operators.Operator.TheVariants.{Greater, Minus}
use Rattle.m2_base.proofs.UnitTerms.{ident, qual, stream, sorted_diags, sorted_answers}

abbrev tree_1 : Stream
tree_1 = stream Main false (Some (ident 28 1)) ([]) None ((vars_decl ((ident 29 4) ∷ (ident 30 6) ∷ []) (type_expr 8 (named_type (qual (ident 1 8) None)))) ∷ (vars_decl ((ident 31 10) ∷ []) (type_expr 12 (array_type (type_exprs ((type_expr 13 (sub_type (Some (qual (ident 3 13) None)) (expr 15 (string_form 32)) (expr 17 (char_form 76)))) ∷ [])) (type_expr 20 (record_type (field_lists ((plain_fields ((ident 33 21) ∷ []) (type_expr 23 (named_type (qual (ident 1 23) None)))) ∷ []))))))) ∷ (vars_decl ((ident 34 28) ∷ []) (type_expr 30 (array_type (type_exprs ((type_expr 31 (sub_type None (expr 32 (number_form 5)) (expr 34 (number_form 11)))) ∷ [])) (type_expr 37 (enum_type ((ident 35 38) ∷ (ident 36 40) ∷ (ident 37 42) ∷ (ident 38 44) ∷ (ident 39 46) ∷ [])))))) ∷ (const_decl (ident 40 50) (expr 52 (many_form (expr 52 (call_form (designator (ident 24 52) (selectors ([]))) (exprs ((expr 54 (string_form 41)) ∷ [])))) (nexts ((next Greater 56 (expr 57 (number_form 3))) ∷ []))))) ∷ (type_decl (ident 42 60) (Some (type_expr 62 (array_type (type_exprs ((type_expr 63 (enum_type ((ident 43 64) ∷ (ident 44 66) ∷ (ident 45 68) ∷ []))) ∷ [])) (type_expr 71 (named_type (qual (ident 3 71) None))))))) ∷ (type_decl (ident 46 73) (Some (type_expr 75 (array_type (type_exprs ((type_expr 76 (sub_type None (expr 77 (one_form Minus 77 (expr 78 (number_form 5)))) (expr 80 (number_form 3)))) ∷ [])) (type_expr 83 (named_type (qual (ident 3 83) None))))))) ∷ (vars_decl ((ident 47 86) ∷ []) (type_expr 88 (record_type (field_lists ((plain_fields ((ident 48 89) ∷ (ident 49 91) ∷ []) (type_expr 93 (record_type (field_lists ((plain_fields ((ident 50 94) ∷ (ident 51 96) ∷ []) (type_expr 98 (named_type (qual (ident 42 98) None)))) ∷ []))))) ∷ (plain_fields ((ident 52 101) ∷ []) (type_expr 103 (pointer_type (type_expr 105 (named_type (qual (ident 42 105) None)))))) ∷ []))))) ∷ []) (statements []) (ident 28 237)

abbrev rows_1 : List Row
rows_1 = ((numbers_row 29 4 3 (pos 0) (pos 0) (pos 0) (pos 0)) ∷ (numbers_row 30 6 3 (pos 0) (pos 0) (pos 1) (pos 0)) ∷ (numbers_row 0 13 12 (pos 2) (pos 71) (pos 76) (pos 0)) ∷ (numbers_row 0 21 7 (pos 0) (pos 0) (pos 4) (pos 33)) ∷ (numbers_row 0 20 15 (pos 3) (pos 0) (pos 1) (pos 0)) ∷ (numbers_row 0 12 13 (pos 4294967298) (pos 4294967300) (pos 6) (pos 0)) ∷ (numbers_row 31 10 3 (pos 4294967301) (pos 0) (pos 2) (pos 0)) ∷ (numbers_row 0 31 12 (pos 1) (pos 5) (pos 11) (pos 0)) ∷ (numbers_row 0 37 11 (pos 5) (pos 0) (pos 0) (pos 0)) ∷ (numbers_row 35 38 1 (pos 4294967304) (pos 0) (pos 0) (pos 0)) ∷ (numbers_row 36 40 1 (pos 4294967304) (pos 1) (pos 0) (pos 0)) ∷ (numbers_row 37 42 1 (pos 4294967304) (pos 2) (pos 0) (pos 0)) ∷ (numbers_row 38 44 1 (pos 4294967304) (pos 3) (pos 0) (pos 0)) ∷ (numbers_row 39 46 1 (pos 4294967304) (pos 4) (pos 0) (pos 0)) ∷ (numbers_row 0 30 13 (pos 4294967303) (pos 4294967304) (pos 7) (pos 0)) ∷ (numbers_row 34 28 3 (pos 4294967310) (pos 0) (pos 8) (pos 0)) ∷ (numbers_row 40 50 1 (pos 3) (pos 1) (pos 0) (pos 0)) ∷ (numbers_row 0 63 11 (pos 3) (pos 0) (pos 0) (pos 0)) ∷ (numbers_row 43 64 1 (pos 4294967313) (pos 0) (pos 0) (pos 0)) ∷ (numbers_row 44 66 1 (pos 4294967313) (pos 1) (pos 0) (pos 0)) ∷ (numbers_row 45 68 1 (pos 4294967313) (pos 2) (pos 0) (pos 0)) ∷ (numbers_row 0 62 13 (pos 4294967313) (pos 2) (pos 3) (pos 0)) ∷ (numbers_row 42 60 2 (pos 4294967317) (pos 0) (pos 0) (pos 0)) ∷ (numbers_row 0 76 12 (pos 0) (negsuc 4) (pos 3) (pos 0)) ∷ (numbers_row 0 75 13 (pos 4294967319) (pos 2) (pos 9) (pos 0)) ∷ (numbers_row 46 73 2 (pos 4294967320) (pos 0) (pos 0) (pos 0)) ∷ (numbers_row 0 94 7 (pos 4294967317) (pos 0) (pos 28) (pos 50)) ∷ (numbers_row 0 96 7 (pos 4294967317) (pos 3) (pos 28) (pos 51)) ∷ (numbers_row 0 93 15 (pos 26) (pos 0) (pos 6) (pos 0)) ∷ (numbers_row 0 89 7 (pos 4294967324) (pos 0) (pos 33) (pos 48)) ∷ (numbers_row 0 91 7 (pos 4294967324) (pos 6) (pos 33) (pos 49)) ∷ (numbers_row 0 103 17 (pos 4294967318) (pos 0) (pos 0) (pos 0)) ∷ (numbers_row 0 101 7 (pos 4294967327) (pos 12) (pos 33) (pos 52)) ∷ (numbers_row 0 88 15 (pos 26) (pos 0) (pos 13) (pos 0)) ∷ (numbers_row 47 86 3 (pos 4294967329) (pos 0) (pos 15) (pos 0)) ∷ [])

abbrev unit : UnitTrees
unit = record {
  source = record { spellings = standard_names ++ ((77 ∷ []) ∷ (118 ∷ 49 ∷ []) ∷ (118 ∷ 50 ∷ []) ∷ (118 ∷ 52 ∷ []) ∷ (71 ∷ []) ∷ (102 ∷ 51 ∷ []) ∷ (118 ∷ 49 ∷ 48 ∷ []) ∷ (101 ∷ 53 ∷ []) ∷ (101 ∷ 54 ∷ []) ∷ (101 ∷ 55 ∷ []) ∷ (101 ∷ 56 ∷ []) ∷ (101 ∷ 57 ∷ []) ∷ (99 ∷ 49 ∷ 49 ∷ []) ∷ (97 ∷ []) ∷ (84 ∷ 49 ∷ 50 ∷ []) ∷ (101 ∷ 49 ∷ 51 ∷ []) ∷ (101 ∷ 49 ∷ 52 ∷ []) ∷ (101 ∷ 49 ∷ 53 ∷ []) ∷ (84 ∷ 49 ∷ 57 ∷ []) ∷ (118 ∷ 50 ∷ 53 ∷ []) ∷ (102 ∷ 50 ∷ 48 ∷ []) ∷ (102 ∷ 50 ∷ 49 ∷ []) ∷ (102 ∷ 50 ∷ 50 ∷ []) ∷ (102 ∷ 50 ∷ 51 ∷ []) ∷ (102 ∷ 50 ∷ 52 ∷ []) ∷ []); definitions = ([]) };
  own = None;
  definitions = ([]);
  main = (tree_1 ∷ []);
}

pub rows_are : unit_rows unit ≡ standard_rows ∷ (rows_1 ∷ [])
unfolding unit_rows declare_block blocks_of standard_names
rows_are = refl

pub diagnostics_are : sorted_diags (declaration_diags unit) ≡ ([])
unfolding unit_rows declare_block blocks_of declaration_diags standard_names
diagnostics_are = refl

pub answers_are : sorted_answers (declaration_answers unit) ≡ ((98 ∷ 1 ∷ 22 ∷ []) ∷ [])
unfolding unit_rows declare_block blocks_of declaration_answers standard_names
answers_are = refl
