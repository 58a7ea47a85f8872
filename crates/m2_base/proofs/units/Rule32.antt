-- A unit, with what its declarations give. Names are numbered from 28 on as they come here.
--
-- A.mod:
--     MODULE A; TYPE T = ARRAY [0..4095] OF ARRAY [0..4095] OF CHAR; U = ARRAY [0..4095] OF ARRAY [0..4094] OF CHAR;
--     END A.
use Rattle.std.specs.Prelude.{◌≡◌, pos, false, List, [], ◌∷◌, ◌++◌, Some, None}
use Rattle.std.proofs.Common.{refl}
use Rattle.m2_base.specs.Names.{standard_names}
use Rattle.m2_base.specs.Rows.{Row, numbers_row}
use Rattle.m2_base.specs.Standard.{standard_rows}
use Rattle.m2_base.specs.Statics.BlockRows.{declare_block}
use Rattle.m2_base.specs.Statics.Blocks.{UnitTrees, blocks_of}
use Rattle.m2_base.specs.Statics.UnitNotes.{declaration_diags, declaration_answers}
use Rattle.m2_base.specs.Statics.UnitRows.{unit_rows}
use Rattle.m2_base.specs.Trees.{Stream, Main, expr, number_form, type_expr, named_type, sub_type, array_type, type_exprs, type_decl, statements}
use Rattle.m2_base.proofs.UnitTerms.{ident, qual, stream, sorted_diags, sorted_answers}

abbrev tree_1 : Stream
tree_1 = stream Main false (Some (ident 28 1)) ([]) None ((type_decl (ident 29 4) (Some (type_expr 6 (array_type (type_exprs ((type_expr 7 (sub_type None (expr 8 (number_form 0)) (expr 10 (number_form 4095)))) ∷ [])) (type_expr 13 (array_type (type_exprs ((type_expr 14 (sub_type None (expr 15 (number_form 0)) (expr 17 (number_form 4095)))) ∷ [])) (type_expr 20 (named_type (qual (ident 3 20) None))))))))) ∷ (type_decl (ident 30 22) (Some (type_expr 24 (array_type (type_exprs ((type_expr 25 (sub_type None (expr 26 (number_form 0)) (expr 28 (number_form 4095)))) ∷ [])) (type_expr 31 (array_type (type_exprs ((type_expr 32 (sub_type None (expr 33 (number_form 0)) (expr 35 (number_form 4094)))) ∷ [])) (type_expr 38 (named_type (qual (ident 3 38) None))))))))) ∷ []) (statements []) (ident 28 41)

abbrev rows_1 : List Row
rows_1 = ((numbers_row 0 7 12 (pos 1) (pos 0) (pos 4095) (pos 0)) ∷ (numbers_row 0 14 12 (pos 1) (pos 0) (pos 4095) (pos 0)) ∷ (numbers_row 0 13 13 (pos 4294967297) (pos 2) (pos 4096) (pos 0)) ∷ (numbers_row 0 6 13 (pos 4294967296) (pos 4294967298) (pos 16777216) (pos 0)) ∷ (numbers_row 29 4 2 (pos 10) (pos 0) (pos 0) (pos 0)) ∷ (numbers_row 0 25 12 (pos 1) (pos 0) (pos 4095) (pos 0)) ∷ (numbers_row 0 32 12 (pos 1) (pos 0) (pos 4094) (pos 0)) ∷ (numbers_row 0 31 13 (pos 4294967302) (pos 2) (pos 4095) (pos 0)) ∷ (numbers_row 0 24 13 (pos 4294967301) (pos 4294967303) (pos 16773120) (pos 0)) ∷ (numbers_row 30 22 2 (pos 4294967304) (pos 0) (pos 0) (pos 0)) ∷ [])

abbrev unit : UnitTrees
unit = record {
  source = record { spellings = standard_names ++ ((65 ∷ []) ∷ (84 ∷ []) ∷ (85 ∷ []) ∷ []); definitions = ([]) };
  own = None;
  definitions = ([]);
  main = (tree_1 ∷ []);
}

pub rows_are : unit_rows unit ≡ standard_rows ∷ (rows_1 ∷ [])
unfolding unit_rows declare_block blocks_of standard_names
rows_are = refl

pub diagnostics_are : sorted_diags (declaration_diags unit) ≡ ((0 ∷ 6 ∷ 62 ∷ []) ∷ [])
unfolding unit_rows declare_block blocks_of declaration_diags standard_names
diagnostics_are = refl

pub answers_are : sorted_answers (declaration_answers unit) ≡ ([])
unfolding unit_rows declare_block blocks_of declaration_answers standard_names
answers_are = refl
