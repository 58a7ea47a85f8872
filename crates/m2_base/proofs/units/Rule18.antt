-- A unit, with what its declarations give. Names are numbered from 28 on as they come here.
--
-- A.mod:
--     MODULE A; PROCEDURE P(a: INTEGER; VAR b: INTEGER); END P; VAR x: INTEGER; y: [0..9]; BEGIN P(1, x); P(1); P(1,
--     y); P("ab", x); x := P(1, x); ABS(x) END A.
use Rattle.std.specs.Prelude.{◌≡◌, pos, negsuc, true, false, List, [], ◌∷◌, ◌++◌, Some, None}
use Rattle.std.proofs.Common.{refl}
use Rattle.m2_base.specs.Names.{standard_names}
use Rattle.m2_base.specs.Rows.{Row, numbers_row}
use Rattle.m2_base.specs.Standard.{standard_rows}
use Rattle.m2_base.specs.Statics.BlockRows.{declare_block}
use Rattle.m2_base.specs.Statics.Blocks.{UnitTrees, blocks_of}
use Rattle.m2_base.specs.Statics.UnitNotes.{declaration_diags, declaration_answers}
use Rattle.m2_base.specs.Statics.UnitRows.{unit_rows}
use Rattle.m2_base.specs.Trees.{Stream, Main, Procedure, expr, number_form, type_expr, named_type, sub_type, vars_decl, proc_decl, statements}
use Rattle.m2_base.proofs.UnitTerms.{ident, qual, section, heading, stream, sorted_diags, sorted_answers}

abbrev tree_1 : Stream
tree_1 = stream Main false (Some (ident 28 1)) ([]) None ((proc_decl (heading (ident 29 4) ((section false ((ident 30 6) ∷ []) false (qual (ident 1 8) None)) ∷ (section true ((ident 31 11) ∷ []) false (qual (ident 1 13) None)) ∷ []) None) 2) ∷ (vars_decl ((ident 32 20) ∷ []) (type_expr 22 (named_type (qual (ident 1 22) None)))) ∷ (vars_decl ((ident 33 24) ∷ []) (type_expr 26 (sub_type None (expr 27 (number_form 0)) (expr 29 (number_form 9))))) ∷ []) (statements []) (ident 28 73)

abbrev tree_2 : Stream
tree_2 = stream Procedure false None [] (Some (heading (ident 29 4) ((section false ((ident 30 6) ∷ []) false (qual (ident 1 8) None)) ∷ (section true ((ident 31 11) ∷ []) false (qual (ident 1 13) None)) ∷ []) None)) ([]) (statements []) (ident 29 17)

abbrev rows_1 : List Row
rows_1 = ((numbers_row 0 6 8 (pos 0) (pos 0) (pos 2) (pos 0)) ∷ (numbers_row 0 11 8 (pos 0) (pos 1) (pos 2) (pos 0)) ∷ (numbers_row 0 4 18 (negsuc 0) (pos 2) (pos 0) (pos 0)) ∷ (numbers_row 29 4 4 (pos 4294967298) (pos 1) (pos 2) (pos 0)) ∷ (numbers_row 32 20 3 (pos 0) (pos 0) (pos 0) (pos 0)) ∷ (numbers_row 0 26 12 (pos 1) (pos 0) (pos 9) (pos 0)) ∷ (numbers_row 33 24 3 (pos 4294967301) (pos 0) (pos 1) (pos 0)) ∷ [])

abbrev rows_2 : List Row
rows_2 = ((numbers_row 30 6 3 (pos 0) (pos 0) (pos 0) (pos 0)) ∷ (numbers_row 31 11 3 (pos 0) (pos 1) (pos 1) (pos 0)) ∷ [])

abbrev unit : UnitTrees
unit = record {
  source = record { spellings = standard_names ++ ((65 ∷ []) ∷ (80 ∷ []) ∷ (97 ∷ []) ∷ (98 ∷ []) ∷ (120 ∷ []) ∷ (121 ∷ []) ∷ []); definitions = ([]) };
  own = None;
  definitions = ([]);
  main = (tree_1 ∷ tree_2 ∷ []);
}

pub rows_are : unit_rows unit ≡ standard_rows ∷ (rows_1 ∷ rows_2 ∷ [])
unfolding unit_rows declare_block blocks_of standard_names
rows_are = refl

pub diagnostics_are : sorted_diags (declaration_diags unit) ≡ ([])
unfolding unit_rows declare_block blocks_of declaration_diags standard_names
diagnostics_are = refl

pub answers_are : sorted_answers (declaration_answers unit) ≡ ([])
unfolding unit_rows declare_block blocks_of declaration_answers standard_names
answers_are = refl
