-- A unit, with what its declarations give. Names are numbered from 28 on as they come here.
--
-- M.mod:
--     MODULE M; PROCEDURE P1(p2: CARDINAL; p3: BITSET; p4, p5: INTEGER); PROCEDURE P6; BEGIN REPEAT p2 := p2 - (p2 +
--     (p2 + 13)) UNTIL TRUE; RETURN; p2 := 7; DEC(p4) END P6; CONST BEGIN p4 := p4 - p4; p5 := p5 MOD (p4 + (p4 MOD
--     p4)) END P1; TYPE T7 = CARDINAL; T8 = ARRAY (e9), [4..5] OF CHAR; TYPE T15 = RECORD f16: T8; f17, f18:
--     PROCEDURE (VAR CHAR, T7): CHAR; f19: POINTER TO (e20, e21, e22, e23) END; T24 = BITSET; T25 = POINTER TO R26;
--     R26 = RECORD f27: T25; f28: ARRAY BOOLEAN OF BOOLEAN END; CONST VAR v29: POINTER TO ARRAY BOOLEAN, [1..8] OF
--     CARDINAL; v30, v31, v32: T8; v33, v34, v35: [FALSE..TRUE]; PROCEDURE P36(p37: ARRAY OF CHAR); BEGIN INC(v33,
--     (SIZE(v32[e9]))); v30 := v30; DISPOSE(v29) END P36; BEGIN v31[e9] := v32[e9]; v30[e9] := v32[e9]; v33 :=
--     (ODD(21)) AND TRUE; P1(v29^[(v31[e9][4]) <> (v32[e9][5])][5], BITSET{}, 10, (-2)) END M.
use Rattle.std.specs.Prelude.{◌≡◌, pos, negsuc, true, false, List, [], ◌∷◌, ◌++◌, Some, None}
use Rattle.std.proofs.Common.{refl}
use Rattle.m2_base.specs.Names.{standard_names}
use Rattle.m2_base.specs.Rows.{Row, numbers_row}
use Rattle.m2_base.specs.Standard.{standard_rows}
use Rattle.m2_base.specs.Statics.BlockRows.{declare_block}
use Rattle.m2_base.specs.Statics.Blocks.{UnitTrees, blocks_of}
use Rattle.m2_base.specs.Statics.UnitNotes.{declaration_diags, declaration_answers}
use Rattle.m2_base.specs.Statics.UnitRows.{unit_rows}
use Rattle.m2_base.specs.Trees.{Stream, Main, Procedure, expr, number_form, name_form, designator, selectors, type_expr, named_type, enum_type, sub_type, array_type, record_type, pointer_type, proc_type, type_exprs, plain_fields, field_lists, type_decl, vars_decl, proc_decl, statements}
use Rattle.m2_base.proofs.UnitTerms.{ident, qual, formal, section, heading, stream, sorted_diags, sorted_answers}

abbrev tree_1 : Stream
tree_1 = stream Main false (Some (ident 28 1)) ([]) None ((proc_decl (heading (ident 29 4) ((section false ((ident 30 6) ∷ []) false (qual (ident 2 8) None)) ∷ (section false ((ident 31 10) ∷ []) false (qual (ident 5 12) None)) ∷ (section false ((ident 32 14) ∷ (ident 33 16) ∷ []) false (qual (ident 1 18) None)) ∷ []) None) 2) ∷ (type_decl (ident 35 80) (Some (type_expr 82 (named_type (qual (ident 2 82) None))))) ∷ (type_decl (ident 36 84) (Some (type_expr 86 (array_type (type_exprs ((type_expr 87 (enum_type ((ident 37 88) ∷ []))) ∷ (type_expr 91 (sub_type None (expr 92 (number_form 4)) (expr 94 (number_form 5)))) ∷ [])) (type_expr 97 (named_type (qual (ident 3 97) None))))))) ∷ (type_decl (ident 38 100) (Some (type_expr 102 (record_type (field_lists ((plain_fields ((ident 39 103) ∷ []) (type_expr 105 (named_type (qual (ident 36 105) None)))) ∷ (plain_fields ((ident 40 107) ∷ (ident 41 109) ∷ []) (type_expr 111 (proc_type ((formal true false (qual (ident 3 114) None)) ∷ (formal false false (qual (ident 35 116) None)) ∷ []) (Some (qual (ident 3 119) None))))) ∷ (plain_fields ((ident 42 121) ∷ []) (type_expr 123 (pointer_type (type_expr 125 (enum_type ((ident 43 126) ∷ (ident 44 128) ∷ (ident 45 130) ∷ (ident 46 132) ∷ [])))))) ∷ [])))))) ∷ (type_decl (ident 47 136) (Some (type_expr 138 (named_type (qual (ident 5 138) None))))) ∷ (type_decl (ident 48 140) (Some (type_expr 142 (pointer_type (type_expr 144 (named_type (qual (ident 49 144) None))))))) ∷ (type_decl (ident 49 146) (Some (type_expr 148 (record_type (field_lists ((plain_fields ((ident 50 149) ∷ []) (type_expr 151 (named_type (qual (ident 48 151) None)))) ∷ (plain_fields ((ident 51 153) ∷ []) (type_expr 155 (array_type (type_exprs ((type_expr 156 (named_type (qual (ident 4 156) None))) ∷ [])) (type_expr 158 (named_type (qual (ident 4 158) None)))))) ∷ [])))))) ∷ (vars_decl ((ident 52 163) ∷ []) (type_expr 165 (pointer_type (type_expr 167 (array_type (type_exprs ((type_expr 168 (named_type (qual (ident 4 168) None))) ∷ (type_expr 170 (sub_type None (expr 171 (number_form 1)) (expr 173 (number_form 8)))) ∷ [])) (type_expr 176 (named_type (qual (ident 2 176) None)))))))) ∷ (vars_decl ((ident 53 178) ∷ (ident 54 180) ∷ (ident 55 182) ∷ []) (type_expr 184 (named_type (qual (ident 36 184) None)))) ∷ (vars_decl ((ident 56 186) ∷ (ident 57 188) ∷ (ident 58 190) ∷ []) (type_expr 192 (sub_type None (expr 193 (name_form (designator (ident 8 193) (selectors ([]))))) (expr 195 (name_form (designator (ident 7 195) (selectors ([])))))))) ∷ (proc_decl (heading (ident 59 199) ((section false ((ident 60 201) ∷ []) true (qual (ident 3 205) None)) ∷ []) None) 4) ∷ []) (statements []) (ident 28 308)

abbrev tree_2 : Stream
tree_2 = stream Procedure false None [] (Some (heading (ident 29 4) ((section false ((ident 30 6) ∷ []) false (qual (ident 2 8) None)) ∷ (section false ((ident 31 10) ∷ []) false (qual (ident 5 12) None)) ∷ (section false ((ident 32 14) ∷ (ident 33 16) ∷ []) false (qual (ident 1 18) None)) ∷ []) None)) ((proc_decl (heading (ident 34 22) ([]) None) 3) ∷ []) (statements []) (ident 29 77)

abbrev tree_3 : Stream
tree_3 = stream Procedure false None [] (Some (heading (ident 34 22) ([]) None)) ([]) (statements []) (ident 34 53)

abbrev tree_4 : Stream
tree_4 = stream Procedure false None [] (Some (heading (ident 59 199) ((section false ((ident 60 201) ∷ []) true (qual (ident 3 205) None)) ∷ []) None)) ([]) (statements []) (ident 59 233)

abbrev rows_1 : List Row
rows_1 = ((numbers_row 0 6 8 (pos 1) (pos 0) (pos 4) (pos 0)) ∷ (numbers_row 0 10 8 (pos 5) (pos 0) (pos 4) (pos 0)) ∷ (numbers_row 0 14 8 (pos 0) (pos 0) (pos 4) (pos 0)) ∷ (numbers_row 0 16 8 (pos 0) (pos 0) (pos 4) (pos 0)) ∷ (numbers_row 0 4 18 (negsuc 0) (pos 4) (pos 0) (pos 0)) ∷ (numbers_row 29 4 4 (pos 4294967300) (pos 1) (pos 2) (pos 0)) ∷ (numbers_row 35 80 2 (pos 1) (pos 0) (pos 0) (pos 0)) ∷ (numbers_row 0 87 11 (pos 1) (pos 0) (pos 0) (pos 0)) ∷ (numbers_row 37 88 1 (pos 4294967303) (pos 0) (pos 0) (pos 0)) ∷ (numbers_row 0 91 12 (pos 1) (pos 4) (pos 5) (pos 0)) ∷ (numbers_row 0 86 13 (pos 4294967305) (pos 2) (pos 2) (pos 0)) ∷ (numbers_row 0 86 13 (pos 4294967303) (pos 4294967306) (pos 2) (pos 0)) ∷ (numbers_row 36 84 2 (pos 4294967307) (pos 0) (pos 0) (pos 0)) ∷ (numbers_row 0 103 7 (pos 4294967307) (pos 0) (pos 26) (pos 39)) ∷ (numbers_row 0 114 8 (pos 2) (pos 1) (pos 16) (pos 0)) ∷ (numbers_row 0 116 8 (pos 1) (pos 0) (pos 16) (pos 0)) ∷ (numbers_row 0 111 18 (pos 2) (pos 2) (pos 14) (pos 0)) ∷ (numbers_row 0 107 7 (pos 4294967312) (pos 2) (pos 26) (pos 40)) ∷ (numbers_row 0 109 7 (pos 4294967312) (pos 3) (pos 26) (pos 41)) ∷ (numbers_row 0 125 11 (pos 4) (pos 0) (pos 0) (pos 0)) ∷ (numbers_row 43 126 1 (pos 4294967315) (pos 0) (pos 0) (pos 0)) ∷ (numbers_row 44 128 1 (pos 4294967315) (pos 1) (pos 0) (pos 0)) ∷ (numbers_row 45 130 1 (pos 4294967315) (pos 2) (pos 0) (pos 0)) ∷ (numbers_row 46 132 1 (pos 4294967315) (pos 3) (pos 0) (pos 0)) ∷ (numbers_row 0 123 17 (pos 4294967315) (pos 0) (pos 0) (pos 0)) ∷ (numbers_row 0 121 7 (pos 4294967320) (pos 4) (pos 26) (pos 42)) ∷ (numbers_row 0 102 15 (pos 13) (pos 0) (pos 5) (pos 0)) ∷ (numbers_row 38 100 2 (pos 4294967322) (pos 0) (pos 0) (pos 0)) ∷ (numbers_row 47 136 2 (pos 5) (pos 0) (pos 0) (pos 0)) ∷ (numbers_row 0 142 17 (pos 4294967331) (pos 0) (pos 0) (pos 0)) ∷ (numbers_row 48 140 2 (pos 4294967325) (pos 0) (pos 0) (pos 0)) ∷ (numbers_row 0 149 7 (pos 4294967325) (pos 0) (pos 34) (pos 50)) ∷ (numbers_row 0 155 13 (pos 3) (pos 3) (pos 2) (pos 0)) ∷ (numbers_row 0 153 7 (pos 4294967328) (pos 1) (pos 34) (pos 51)) ∷ (numbers_row 0 148 15 (pos 31) (pos 0) (pos 3) (pos 0)) ∷ (numbers_row 49 146 2 (pos 4294967330) (pos 0) (pos 0) (pos 0)) ∷ (numbers_row 0 170 12 (pos 1) (pos 1) (pos 8) (pos 0)) ∷ (numbers_row 0 167 13 (pos 4294967332) (pos 1) (pos 8) (pos 0)) ∷ (numbers_row 0 167 13 (pos 3) (pos 4294967333) (pos 16) (pos 0)) ∷ (numbers_row 0 165 17 (pos 4294967334) (pos 0) (pos 0) (pos 0)) ∷ (numbers_row 52 163 3 (pos 4294967335) (pos 0) (pos 0) (pos 0)) ∷ (numbers_row 53 178 3 (pos 4294967307) (pos 0) (pos 1) (pos 0)) ∷ (numbers_row 54 180 3 (pos 4294967307) (pos 0) (pos 3) (pos 0)) ∷ (numbers_row 55 182 3 (pos 4294967307) (pos 0) (pos 5) (pos 0)) ∷ (numbers_row 0 192 12 (pos 3) (pos 0) (pos 1) (pos 0)) ∷ (numbers_row 56 186 3 (pos 4294967340) (pos 0) (pos 7) (pos 0)) ∷ (numbers_row 57 188 3 (pos 4294967340) (pos 0) (pos 8) (pos 0)) ∷ (numbers_row 58 190 3 (pos 4294967340) (pos 0) (pos 9) (pos 0)) ∷ (numbers_row 0 205 14 (pos 0) (pos 2) (pos 0) (pos 0)) ∷ (numbers_row 0 201 8 (pos 4294967344) (pos 0) (pos 50) (pos 0)) ∷ (numbers_row 0 199 18 (negsuc 0) (pos 1) (pos 48) (pos 0)) ∷ (numbers_row 59 199 4 (pos 4294967346) (pos 3) (pos 4) (pos 0)) ∷ [])

abbrev rows_2 : List Row
rows_2 = ((numbers_row 30 6 3 (pos 1) (pos 0) (pos 0) (pos 0)) ∷ (numbers_row 31 10 3 (pos 5) (pos 0) (pos 1) (pos 0)) ∷ (numbers_row 32 14 3 (pos 0) (pos 0) (pos 2) (pos 0)) ∷ (numbers_row 33 16 3 (pos 0) (pos 0) (pos 3) (pos 0)) ∷ (numbers_row 0 22 18 (negsuc 0) (pos 0) (pos 4) (pos 0)) ∷ (numbers_row 34 22 4 (pos 8589934596) (pos 2) (pos 3) (pos 0)) ∷ [])

abbrev rows_3 : List Row
rows_3 = ([])

abbrev rows_4 : List Row
rows_4 = ((numbers_row 0 205 14 (pos 0) (pos 2) (pos 0) (pos 0)) ∷ (numbers_row 60 201 3 (pos 17179869184) (pos 2) (pos 0) (pos 0)) ∷ [])

abbrev unit : UnitTrees
unit = record {
  source = record { spellings = standard_names ++ ((77 ∷ []) ∷ (80 ∷ 49 ∷ []) ∷ (112 ∷ 50 ∷ []) ∷ (112 ∷ 51 ∷ []) ∷ (112 ∷ 52 ∷ []) ∷ (112 ∷ 53 ∷ []) ∷ (80 ∷ 54 ∷ []) ∷ (84 ∷ 55 ∷ []) ∷ (84 ∷ 56 ∷ []) ∷ (101 ∷ 57 ∷ []) ∷ (84 ∷ 49 ∷ 53 ∷ []) ∷ (102 ∷ 49 ∷ 54 ∷ []) ∷ (102 ∷ 49 ∷ 55 ∷ []) ∷ (102 ∷ 49 ∷ 56 ∷ []) ∷ (102 ∷ 49 ∷ 57 ∷ []) ∷ (101 ∷ 50 ∷ 48 ∷ []) ∷ (101 ∷ 50 ∷ 49 ∷ []) ∷ (101 ∷ 50 ∷ 50 ∷ []) ∷ (101 ∷ 50 ∷ 51 ∷ []) ∷ (84 ∷ 50 ∷ 52 ∷ []) ∷ (84 ∷ 50 ∷ 53 ∷ []) ∷ (82 ∷ 50 ∷ 54 ∷ []) ∷ (102 ∷ 50 ∷ 55 ∷ []) ∷ (102 ∷ 50 ∷ 56 ∷ []) ∷ (118 ∷ 50 ∷ 57 ∷ []) ∷ (118 ∷ 51 ∷ 48 ∷ []) ∷ (118 ∷ 51 ∷ 49 ∷ []) ∷ (118 ∷ 51 ∷ 50 ∷ []) ∷ (118 ∷ 51 ∷ 51 ∷ []) ∷ (118 ∷ 51 ∷ 52 ∷ []) ∷ (118 ∷ 51 ∷ 53 ∷ []) ∷ (80 ∷ 51 ∷ 54 ∷ []) ∷ (112 ∷ 51 ∷ 55 ∷ []) ∷ []); definitions = ([]) };
  own = None;
  definitions = ([]);
  main = (tree_1 ∷ tree_2 ∷ tree_3 ∷ tree_4 ∷ []);
}

pub rows_are : unit_rows unit ≡ standard_rows ∷ (rows_1 ∷ rows_2 ∷ rows_3 ∷ rows_4 ∷ [])
unfolding unit_rows declare_block blocks_of standard_names
rows_are = refl

pub diagnostics_are : sorted_diags (declaration_diags unit) ≡ ([])
unfolding unit_rows declare_block blocks_of declaration_diags standard_names
diagnostics_are = refl

pub answers_are : sorted_answers (declaration_answers unit) ≡ ((105 ∷ 1 ∷ 12 ∷ []) ∷ (116 ∷ 1 ∷ 6 ∷ []) ∷ (151 ∷ 1 ∷ 30 ∷ []) ∷ (184 ∷ 1 ∷ 12 ∷ []) ∷ [])
unfolding unit_rows declare_block blocks_of declaration_answers standard_names
answers_are = refl
