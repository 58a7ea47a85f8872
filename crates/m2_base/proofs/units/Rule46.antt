-- A unit, with what its declarations give. Names are numbered from 28 on as they come here.
--
-- A.mod:
--     MODULE A; TYPE T = nix[1..2]; U = INTEGER[nix..v]; VAR v: INTEGER; END A.
use Rattle.std.specs.Prelude.{◌≡◌, pos, false, List, [], ◌∷◌, ◌++◌, Some, None}
use Rattle.std.proofs.Common.{refl}
use Rattle.m2_base.specs.Names.{standard_names}
use Rattle.m2_base.specs.Rows.{Row, numbers_row}
use Rattle.m2_base.specs.Standard.{standard_rows}
use Rattle.m2_base.specs.Statics.BlockRows.{declare_block}
use Rattle.m2_base.specs.Statics.Blocks.{UnitTrees, blocks_of}
use Rattle.m2_base.specs.Statics.UnitNotes.{declaration_diags, declaration_answers}
use Rattle.m2_base.specs.Statics.UnitRows.{unit_rows}
use Rattle.m2_base.specs.Trees.{Stream, Main, expr, number_form, name_form, designator, selectors, type_expr, named_type, sub_type, type_decl, vars_decl, statements}
use Rattle.m2_base.proofs.UnitTerms.{ident, qual, stream, sorted_diags, sorted_answers}

abbrev tree_1 : Stream
tree_1 = stream Main false (Some (ident 28 1)) ([]) None ((type_decl (ident 29 4) (Some (type_expr 6 (sub_type (Some (qual (ident 30 6) None)) (expr 8 (number_form 1)) (expr 10 (number_form 2)))))) ∷ (type_decl (ident 31 13) (Some (type_expr 15 (sub_type (Some (qual (ident 1 15) None)) (expr 17 (name_form (designator (ident 30 17) (selectors ([]))))) (expr 19 (name_form (designator (ident 32 19) (selectors ([]))))))))) ∷ (vars_decl ((ident 32 23) ∷ []) (type_expr 25 (named_type (qual (ident 1 25) None)))) ∷ []) (statements []) (ident 28 28)

abbrev rows_1 : List Row
rows_1 = ((numbers_row 0 6 12 (pos 10) (pos 0) (pos 0) (pos 0)) ∷ (numbers_row 29 4 2 (pos 10) (pos 0) (pos 0) (pos 0)) ∷ (numbers_row 0 15 12 (pos 10) (pos 0) (pos 0) (pos 0)) ∷ (numbers_row 31 13 2 (pos 10) (pos 0) (pos 0) (pos 0)) ∷ (numbers_row 32 23 3 (pos 0) (pos 0) (pos 0) (pos 0)) ∷ [])

abbrev unit : UnitTrees
unit = record {
  source = record { spellings = standard_names ++ ((65 ∷ []) ∷ (84 ∷ []) ∷ (110 ∷ 105 ∷ 120 ∷ []) ∷ (85 ∷ []) ∷ (118 ∷ []) ∷ []); definitions = ([]) };
  own = None;
  definitions = ([]);
  main = (tree_1 ∷ []);
}

pub rows_are : unit_rows unit ≡ standard_rows ∷ (rows_1 ∷ [])
unfolding unit_rows declare_block blocks_of standard_names
rows_are = refl

pub diagnostics_are : sorted_diags (declaration_diags unit) ≡ ((0 ∷ 6 ∷ 40 ∷ []) ∷ (0 ∷ 17 ∷ 40 ∷ []) ∷ (0 ∷ 19 ∷ 41 ∷ []) ∷ [])
unfolding unit_rows declare_block blocks_of declaration_diags standard_names
diagnostics_are = refl

pub answers_are : sorted_answers (declaration_answers unit) ≡ ([])
unfolding unit_rows declare_block blocks_of declaration_answers standard_names
answers_are = refl
