-- A unit, with what its declarations give. Names are numbered from 28 on as they come here.
--
-- A.mod:
--     MODULE A; TYPE T = ARRAY INTEGER OF CHAR; U = ARRAY CHAR OF CHAR; V = ARRAY BITSET OF CHAR; W = SET OF CHAR; X
--     = SET OF BOOLEAN; Y = ARRAY [0..16777215] OF CHAR; END A.
use Rattle.std.specs.Prelude.{◌≡◌, pos, false, List, [], ◌∷◌, ◌++◌, Some, None}
use Rattle.std.proofs.Common.{refl}
use Rattle.m2_base.specs.Names.{standard_names}
use Rattle.m2_base.specs.Rows.{Row, numbers_row}
use Rattle.m2_base.specs.Standard.{standard_rows}
use Rattle.m2_base.specs.Statics.BlockRows.{declare_block}
use Rattle.m2_base.specs.Statics.Blocks.{UnitTrees, blocks_of}
use Rattle.m2_base.specs.Statics.UnitNotes.{declaration_diags, declaration_answers}
use Rattle.m2_base.specs.Statics.UnitRows.{unit_rows}
use Rattle.m2_base.specs.Trees.{Stream, Main, expr, number_form, type_expr, named_type, sub_type, array_type, set_type, type_exprs, type_decl, statements}
use Rattle.m2_base.proofs.UnitTerms.{ident, qual, stream, sorted_diags, sorted_answers}

abbrev tree_1 : Stream
tree_1 = stream Main false (Some (ident 28 1)) ([]) None ((type_decl (ident 29 4) (Some (type_expr 6 (array_type (type_exprs ((type_expr 7 (named_type (qual (ident 1 7) None))) ∷ [])) (type_expr 9 (named_type (qual (ident 3 9) None))))))) ∷ (type_decl (ident 30 11) (Some (type_expr 13 (array_type (type_exprs ((type_expr 14 (named_type (qual (ident 3 14) None))) ∷ [])) (type_expr 16 (named_type (qual (ident 3 16) None))))))) ∷ (type_decl (ident 31 18) (Some (type_expr 20 (array_type (type_exprs ((type_expr 21 (named_type (qual (ident 5 21) None))) ∷ [])) (type_expr 23 (named_type (qual (ident 3 23) None))))))) ∷ (type_decl (ident 32 25) (Some (type_expr 27 (set_type (type_expr 29 (named_type (qual (ident 3 29) None))))))) ∷ (type_decl (ident 33 31) (Some (type_expr 33 (set_type (type_expr 35 (named_type (qual (ident 4 35) None))))))) ∷ (type_decl (ident 34 37) (Some (type_expr 39 (array_type (type_exprs ((type_expr 40 (sub_type None (expr 41 (number_form 0)) (expr 43 (number_form 16777215)))) ∷ [])) (type_expr 46 (named_type (qual (ident 3 46) None))))))) ∷ []) (statements []) (ident 28 49)

abbrev rows_1 : List Row
rows_1 = ((numbers_row 0 6 13 (pos 10) (pos 2) (pos 1) (pos 0)) ∷ (numbers_row 29 4 2 (pos 4294967296) (pos 0) (pos 0) (pos 0)) ∷ (numbers_row 0 13 13 (pos 2) (pos 2) (pos 256) (pos 0)) ∷ (numbers_row 30 11 2 (pos 4294967298) (pos 0) (pos 0) (pos 0)) ∷ (numbers_row 0 20 13 (pos 10) (pos 2) (pos 1) (pos 0)) ∷ (numbers_row 31 18 2 (pos 4294967300) (pos 0) (pos 0) (pos 0)) ∷ (numbers_row 0 27 16 (pos 10) (pos 0) (pos 0) (pos 0)) ∷ (numbers_row 32 25 2 (pos 4294967302) (pos 0) (pos 0) (pos 0)) ∷ (numbers_row 0 33 16 (pos 3) (pos 0) (pos 0) (pos 0)) ∷ (numbers_row 33 31 2 (pos 4294967304) (pos 0) (pos 0) (pos 0)) ∷ (numbers_row 0 40 12 (pos 1) (pos 0) (pos 16777215) (pos 0)) ∷ (numbers_row 0 39 13 (pos 10) (pos 2) (pos 1) (pos 0)) ∷ (numbers_row 34 37 2 (pos 4294967307) (pos 0) (pos 0) (pos 0)) ∷ [])

abbrev unit : UnitTrees
unit = record {
  source = record { spellings = standard_names ++ ((65 ∷ []) ∷ (84 ∷ []) ∷ (85 ∷ []) ∷ (86 ∷ []) ∷ (87 ∷ []) ∷ (88 ∷ []) ∷ (89 ∷ []) ∷ []); definitions = ([]) };
  own = None;
  definitions = ([]);
  main = (tree_1 ∷ []);
}

pub rows_are : unit_rows unit ≡ standard_rows ∷ (rows_1 ∷ [])
unfolding unit_rows declare_block blocks_of standard_names
rows_are = refl

pub diagnostics_are : sorted_diags (declaration_diags unit) ≡ ((0 ∷ 7 ∷ 61 ∷ []) ∷ (0 ∷ 21 ∷ 61 ∷ []) ∷ (0 ∷ 29 ∷ 61 ∷ []) ∷ (0 ∷ 40 ∷ 61 ∷ []) ∷ [])
unfolding unit_rows declare_block blocks_of declaration_diags standard_names
diagnostics_are = refl

pub answers_are : sorted_answers (declaration_answers unit) ≡ ([])
unfolding unit_rows declare_block blocks_of declaration_answers standard_names
answers_are = refl
