-- A unit, with what its declarations give. Names are numbered from 28 on as they come here.
--
-- A.mod:
--     MODULE A; TYPE S = ARRAY [0..2] OF INTEGER; VAR s: S; c: CHAR; PROCEDURE P(VAR x: ARRAY OF CHAR); CONST q =
--     SIZE(c); r = SIZE(x); END P; BEGIN P(s); P(c); P("ab") END A.
use Rattle.std.specs.Prelude.{◌≡◌, pos, negsuc, true, false, List, [], ◌∷◌, ◌++◌, Some, None}
use Rattle.std.proofs.Common.{refl}
use Rattle.m2_base.specs.Names.{standard_names}
use Rattle.m2_base.specs.Rows.{Row, numbers_row}
use Rattle.m2_base.specs.Standard.{standard_rows}
use Rattle.m2_base.specs.Statics.BlockRows.{declare_block}
use Rattle.m2_base.specs.Statics.Blocks.{UnitTrees, blocks_of}
use Rattle.m2_base.specs.Statics.UnitNotes.{declaration_diags, declaration_answers}
use Rattle.m2_base.specs.Statics.UnitRows.{unit_rows}
use Rattle.m2_base.specs.Trees.{Stream, Main, Procedure, expr, number_form, name_form, call_form, exprs, designator, selectors, type_expr, named_type, sub_type, array_type, type_exprs, const_decl, type_decl, vars_decl, proc_decl, statements}
use Rattle.m2_base.proofs.UnitTerms.{ident, qual, section, heading, stream, sorted_diags, sorted_answers}

abbrev tree_1 : Stream
tree_1 = stream Main false (Some (ident 28 1)) ([]) None ((type_decl (ident 29 4) (Some (type_expr 6 (array_type (type_exprs ((type_expr 7 (sub_type None (expr 8 (number_form 0)) (expr 10 (number_form 2)))) ∷ [])) (type_expr 13 (named_type (qual (ident 1 13) None))))))) ∷ (vars_decl ((ident 30 16) ∷ []) (type_expr 18 (named_type (qual (ident 29 18) None)))) ∷ (vars_decl ((ident 31 20) ∷ []) (type_expr 22 (named_type (qual (ident 3 22) None)))) ∷ (proc_decl (heading (ident 32 25) ((section true ((ident 33 28) ∷ []) true (qual (ident 3 32) None)) ∷ []) None) 2) ∷ []) (statements []) (ident 28 69)

abbrev tree_2 : Stream
tree_2 = stream Procedure false None [] (Some (heading (ident 32 25) ((section true ((ident 33 28) ∷ []) true (qual (ident 3 32) None)) ∷ []) None)) ((const_decl (ident 34 36) (expr 38 (call_form (designator (ident 25 38) (selectors ([]))) (exprs ((expr 40 (name_form (designator (ident 31 40) (selectors ([]))))) ∷ []))))) ∷ (const_decl (ident 35 43) (expr 45 (call_form (designator (ident 25 45) (selectors ([]))) (exprs ((expr 47 (name_form (designator (ident 33 47) (selectors ([]))))) ∷ []))))) ∷ []) (statements []) (ident 32 51)

abbrev rows_1 : List Row
rows_1 = ((numbers_row 0 7 12 (pos 1) (pos 0) (pos 2) (pos 0)) ∷ (numbers_row 0 6 13 (pos 4294967296) (pos 0) (pos 3) (pos 0)) ∷ (numbers_row 29 4 2 (pos 4294967297) (pos 0) (pos 0) (pos 0)) ∷ (numbers_row 30 16 3 (pos 4294967297) (pos 0) (pos 0) (pos 0)) ∷ (numbers_row 31 20 3 (pos 2) (pos 0) (pos 3) (pos 0)) ∷ (numbers_row 0 32 14 (pos 0) (pos 2) (pos 0) (pos 0)) ∷ (numbers_row 0 28 8 (pos 4294967301) (pos 1) (pos 7) (pos 0)) ∷ (numbers_row 0 25 18 (negsuc 0) (pos 1) (pos 5) (pos 0)) ∷ (numbers_row 32 25 4 (pos 4294967303) (pos 1) (pos 2) (pos 0)) ∷ [])

abbrev rows_2 : List Row
rows_2 = ((numbers_row 0 32 14 (pos 0) (pos 2) (pos 0) (pos 0)) ∷ (numbers_row 33 28 3 (pos 8589934592) (pos 2) (pos 0) (pos 0)) ∷ (numbers_row 34 36 1 (pos 10) (pos 0) (pos 0) (pos 0)) ∷ (numbers_row 35 43 1 (pos 10) (pos 0) (pos 0) (pos 0)) ∷ [])

abbrev unit : UnitTrees
unit = record {
  source = record { spellings = standard_names ++ ((65 ∷ []) ∷ (83 ∷ []) ∷ (115 ∷ []) ∷ (99 ∷ []) ∷ (80 ∷ []) ∷ (120 ∷ []) ∷ (113 ∷ []) ∷ (114 ∷ []) ∷ []); definitions = ([]) };
  own = None;
  definitions = ([]);
  main = (tree_1 ∷ tree_2 ∷ []);
}

pub rows_are : unit_rows unit ≡ standard_rows ∷ (rows_1 ∷ rows_2 ∷ [])
unfolding unit_rows declare_block blocks_of standard_names
rows_are = refl

pub diagnostics_are : sorted_diags (declaration_diags unit) ≡ ((0 ∷ 38 ∷ 46 ∷ []) ∷ (0 ∷ 45 ∷ 46 ∷ []) ∷ [])
unfolding unit_rows declare_block blocks_of declaration_diags standard_names
diagnostics_are = refl

pub answers_are : sorted_answers (declaration_answers unit) ≡ ((18 ∷ 1 ∷ 2 ∷ []) ∷ (40 ∷ 1 ∷ 4 ∷ []) ∷ (47 ∷ 2 ∷ 1 ∷ []) ∷ [])
unfolding unit_rows declare_block blocks_of declaration_answers standard_names
answers_are = refl
