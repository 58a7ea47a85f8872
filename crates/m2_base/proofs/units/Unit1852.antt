-- A unit, with what its declarations give. Names are numbered from 28 on as they come here.
--
-- M.mod:
--     MODULE M; TYPE T1 = ARRAY INTEGER[-2..7] OF [2..3]; T2 = (e3, e4, e5); PROCEDURE P6(p7: ARRAY OF T2; p8: CHAR;
--     p9: BITSET): CHAR; VAR v10: ARRAY [3..0AH] OF CHAR; TYPE BEGIN IF p9 <= ((BITSET{}) + (({}) * p9)) THEN p7[0]
--     := e4; ; WHILE ((v10[(6 + 3)]) <> (CAP(p8))) AND (p8 <> p8) DO p7[SIZE(T1)] := p7[0] END ELSIF ODD((-2)) THEN
--     LOOP p7[0] := e4; IF FALSE THEN EXIT END; p8 := CAP(v10[3]) END ELSE INC(p7[0], 3); CASE p7[0] OF e4..e4: ELSE
--     p7[7] := e3 END END; p9 := (BITSET{(9 + 3), 20..ORD(p8), ORD(TRUE)..20}) / p9; RETURN p8 END P6; BEGIN ; ; ;
--     WHILE TRUE DO IF TRUE THEN ; END; WHILE (ODD(10)) & TRUE DO ; ; END END; IF ~TRUE THEN ; END; RETURN END M.
use Rattle.std.specs.Prelude.{◌≡◌, pos, negsuc, true, false, List, [], ◌∷◌, ◌++◌, Some, None}
use Rattle.std.proofs.Common.{refl}
use Rattle.m2_base.specs.Names.{standard_names}
use Rattle.m2_base.specs.Rows.{Row, numbers_row}
use Rattle.m2_base.specs.Standard.{standard_rows}
use Rattle.m2_base.specs.Statics.BlockRows.{declare_block}
use Rattle.m2_base.specs.Statics.Blocks.{UnitTrees, blocks_of}
use Rattle.m2_base.specs.Statics.UnitNotes.{declaration_diags, declaration_answers}
use Rattle.m2_base.specs.Statics.UnitRows.{unit_rows}
use Rattle.m2_base.specs.Trees.{Stream, Main, Procedure, expr, number_form, one_form, type_expr, named_type, enum_type, sub_type, array_type, type_exprs, type_decl, vars_decl, proc_decl, statements}
use Rattle.m2_base.specs.declared.trees.operators.Operator.TheVariants.{Minus}
use Rattle.m2_base.proofs.UnitTerms.{ident, qual, section, heading, stream, sorted_diags, sorted_answers}

abbrev tree_1 : Stream
tree_1 = stream Main false (Some (ident 28 1)) ([]) None ((type_decl (ident 29 4) (Some (type_expr 6 (array_type (type_exprs ((type_expr 7 (sub_type (Some (qual (ident 1 7) None)) (expr 9 (one_form Minus 9 (expr 10 (number_form 2)))) (expr 12 (number_form 7)))) ∷ [])) (type_expr 15 (sub_type None (expr 16 (number_form 2)) (expr 18 (number_form 3)))))))) ∷ (type_decl (ident 30 21) (Some (type_expr 23 (enum_type ((ident 31 24) ∷ (ident 32 26) ∷ (ident 33 28) ∷ []))))) ∷ (proc_decl (heading (ident 34 32) ((section false ((ident 35 34) ∷ []) true (qual (ident 30 38) None)) ∷ (section false ((ident 36 40) ∷ []) false (qual (ident 3 42) None)) ∷ (section false ((ident 37 44) ∷ []) false (qual (ident 5 46) None)) ∷ []) (Some (qual (ident 3 49) None))) 2) ∷ []) (statements []) (ident 28 268)

abbrev tree_2 : Stream
tree_2 = stream Procedure false None [] (Some (heading (ident 34 32) ((section false ((ident 35 34) ∷ []) true (qual (ident 30 38) None)) ∷ (section false ((ident 36 40) ∷ []) false (qual (ident 3 42) None)) ∷ (section false ((ident 37 44) ∷ []) false (qual (ident 5 46) None)) ∷ []) (Some (qual (ident 3 49) None)))) ((vars_decl ((ident 38 52) ∷ []) (type_expr 54 (array_type (type_exprs ((type_expr 55 (sub_type None (expr 56 (number_form 3)) (expr 58 (number_form 10)))) ∷ [])) (type_expr 61 (named_type (qual (ident 3 61) None)))))) ∷ []) (statements []) (ident 34 229)

abbrev rows_1 : List Row
rows_1 = ((numbers_row 0 7 12 (pos 0) (negsuc 1) (pos 7) (pos 0)) ∷ (numbers_row 0 15 12 (pos 1) (pos 2) (pos 3) (pos 0)) ∷ (numbers_row 0 6 13 (pos 4294967296) (pos 4294967297) (pos 10) (pos 0)) ∷ (numbers_row 29 4 2 (pos 4294967298) (pos 0) (pos 0) (pos 0)) ∷ (numbers_row 0 23 11 (pos 3) (pos 0) (pos 0) (pos 0)) ∷ (numbers_row 31 24 1 (pos 4294967300) (pos 0) (pos 0) (pos 0)) ∷ (numbers_row 32 26 1 (pos 4294967300) (pos 1) (pos 0) (pos 0)) ∷ (numbers_row 33 28 1 (pos 4294967300) (pos 2) (pos 0) (pos 0)) ∷ (numbers_row 30 21 2 (pos 4294967300) (pos 0) (pos 0) (pos 0)) ∷ (numbers_row 0 38 14 (pos 0) (pos 4294967300) (pos 0) (pos 0)) ∷ (numbers_row 0 34 8 (pos 4294967305) (pos 0) (pos 13) (pos 0)) ∷ (numbers_row 0 40 8 (pos 2) (pos 0) (pos 13) (pos 0)) ∷ (numbers_row 0 44 8 (pos 5) (pos 0) (pos 13) (pos 0)) ∷ (numbers_row 0 32 18 (pos 2) (pos 3) (pos 9) (pos 0)) ∷ (numbers_row 34 32 4 (pos 4294967309) (pos 1) (pos 2) (pos 0)) ∷ [])

abbrev rows_2 : List Row
rows_2 = ((numbers_row 0 38 14 (pos 0) (pos 4294967300) (pos 0) (pos 0)) ∷ (numbers_row 35 34 3 (pos 8589934592) (pos 2) (pos 0) (pos 0)) ∷ (numbers_row 36 40 3 (pos 2) (pos 0) (pos 2) (pos 0)) ∷ (numbers_row 37 44 3 (pos 5) (pos 0) (pos 3) (pos 0)) ∷ (numbers_row 0 55 12 (pos 1) (pos 3) (pos 10) (pos 0)) ∷ (numbers_row 0 54 13 (pos 8589934596) (pos 2) (pos 8) (pos 0)) ∷ (numbers_row 38 52 3 (pos 8589934597) (pos 0) (pos 4) (pos 0)) ∷ [])

abbrev unit : UnitTrees
unit = record {
  source = record { spellings = standard_names ++ ((77 ∷ []) ∷ (84 ∷ 49 ∷ []) ∷ (84 ∷ 50 ∷ []) ∷ (101 ∷ 51 ∷ []) ∷ (101 ∷ 52 ∷ []) ∷ (101 ∷ 53 ∷ []) ∷ (80 ∷ 54 ∷ []) ∷ (112 ∷ 55 ∷ []) ∷ (112 ∷ 56 ∷ []) ∷ (112 ∷ 57 ∷ []) ∷ (118 ∷ 49 ∷ 48 ∷ []) ∷ []); definitions = ([]) };
  own = None;
  definitions = ([]);
  main = (tree_1 ∷ tree_2 ∷ []);
}

pub rows_are : unit_rows unit ≡ standard_rows ∷ (rows_1 ∷ rows_2 ∷ [])
unfolding unit_rows declare_block blocks_of standard_names
rows_are = refl

pub diagnostics_are : sorted_diags (declaration_diags unit) ≡ ([])
unfolding unit_rows declare_block blocks_of declaration_diags standard_names
diagnostics_are = refl

pub answers_are : sorted_answers (declaration_answers unit) ≡ ((38 ∷ 1 ∷ 8 ∷ []) ∷ [])
unfolding unit_rows declare_block blocks_of declaration_answers standard_names
answers_are = refl
