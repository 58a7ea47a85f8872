-- A unit, with what its declarations give. Names are numbered from 28 on as they come here.
--
-- A.mod:
--     MODULE A; VAR c: CHAR; s: ARRAY [0..2] OF CHAR; BEGIN c := "a"; c := "ab"; c := ""; s := "abc"; s := "abcd"; s
--     := "a"; s := 101C; c := 1 END A.
use Rattle.std.specs.Prelude.{◌≡◌, pos, false, List, [], ◌∷◌, ◌++◌, Some, None}
use Rattle.std.proofs.Common.{refl}
use Rattle.m2_base.specs.Names.{standard_names}
use Rattle.m2_base.specs.Rows.{Row, numbers_row}
use Rattle.m2_base.specs.Standard.{standard_rows}
use Rattle.m2_base.specs.Statics.BlockRows.{declare_block}
use Rattle.m2_base.specs.Statics.Blocks.{UnitTrees, blocks_of}
use Rattle.m2_base.specs.Statics.UnitNotes.{declaration_diags, declaration_answers}
use Rattle.m2_base.specs.Statics.UnitRows.{unit_rows}
use Rattle.m2_base.specs.Trees.{Stream, Main, expr, number_form, type_expr, named_type, sub_type, array_type, type_exprs, vars_decl, statements}
use Rattle.m2_base.proofs.UnitTerms.{ident, qual, stream, sorted_diags, sorted_answers}

abbrev tree_1 : Stream
tree_1 = stream Main false (Some (ident 28 1)) ([]) None ((vars_decl ((ident 29 4) ∷ []) (type_expr 6 (named_type (qual (ident 3 6) None)))) ∷ (vars_decl ((ident 30 8) ∷ []) (type_expr 10 (array_type (type_exprs ((type_expr 11 (sub_type None (expr 12 (number_form 0)) (expr 14 (number_form 2)))) ∷ [])) (type_expr 17 (named_type (qual (ident 3 17) None)))))) ∷ []) (statements []) (ident 28 52)

abbrev rows_1 : List Row
rows_1 = ((numbers_row 29 4 3 (pos 2) (pos 0) (pos 0) (pos 0)) ∷ (numbers_row 0 11 12 (pos 1) (pos 0) (pos 2) (pos 0)) ∷ (numbers_row 0 10 13 (pos 4294967297) (pos 2) (pos 3) (pos 0)) ∷ (numbers_row 30 8 3 (pos 4294967298) (pos 0) (pos 1) (pos 0)) ∷ [])

abbrev unit : UnitTrees
unit = record {
  source = record { spellings = standard_names ++ ((65 ∷ []) ∷ (99 ∷ []) ∷ (115 ∷ []) ∷ []); definitions = ([]) };
  own = None;
  definitions = ([]);
  main = (tree_1 ∷ []);
}

pub rows_are : unit_rows unit ≡ standard_rows ∷ (rows_1 ∷ [])
unfolding unit_rows declare_block blocks_of standard_names
rows_are = refl

pub diagnostics_are : sorted_diags (declaration_diags unit) ≡ ([])
unfolding unit_rows declare_block blocks_of declaration_diags standard_names
diagnostics_are = refl

pub answers_are : sorted_answers (declaration_answers unit) ≡ ([])
unfolding unit_rows declare_block blocks_of declaration_answers standard_names
answers_are = refl
