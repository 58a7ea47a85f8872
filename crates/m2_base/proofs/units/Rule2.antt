-- A unit, with what its declarations give. Names are numbered from 28 on as they come here.
--
-- A.mod:
--     MODULE A; CONST a = INTEGER(3); b = NEW(1); c = ABS; END A.
use Rattle.std.specs.Prelude.{◌≡◌, pos, false, List, [], ◌∷◌, ◌++◌, Some, None}
use Rattle.std.proofs.Common.{refl}
use Rattle.m2_base.specs.Names.{standard_names}
use Rattle.m2_base.specs.Rows.{Row, numbers_row}
use Rattle.m2_base.specs.Standard.{standard_rows}
use Rattle.m2_base.specs.Statics.BlockRows.{declare_block}
use Rattle.m2_base.specs.Statics.Blocks.{UnitTrees, blocks_of}
use Rattle.m2_base.specs.Statics.UnitNotes.{declaration_diags, declaration_answers}
use Rattle.m2_base.specs.Statics.UnitRows.{unit_rows}
use Rattle.m2_base.specs.Trees.{Stream, Main, expr, number_form, name_form, call_form, exprs, designator, selectors, const_decl, statements}
use Rattle.m2_base.proofs.UnitTerms.{ident, stream, sorted_diags, sorted_answers}

abbrev tree_1 : Stream
tree_1 = stream Main false (Some (ident 28 1)) ([]) None ((const_decl (ident 29 4) (expr 6 (call_form (designator (ident 1 6) (selectors ([]))) (exprs ((expr 8 (number_form 3)) ∷ []))))) ∷ (const_decl (ident 30 11) (expr 13 (call_form (designator (ident 22 13) (selectors ([]))) (exprs ((expr 15 (number_form 1)) ∷ []))))) ∷ (const_decl (ident 31 18) (expr 20 (name_form (designator (ident 10 20) (selectors ([])))))) ∷ []) (statements []) (ident 28 23)

abbrev rows_1 : List Row
rows_1 = ((numbers_row 29 4 1 (pos 10) (pos 0) (pos 0) (pos 0)) ∷ (numbers_row 30 11 1 (pos 10) (pos 0) (pos 0) (pos 0)) ∷ (numbers_row 31 18 1 (pos 10) (pos 0) (pos 0) (pos 0)) ∷ [])

abbrev unit : UnitTrees
unit = record {
  source = record { spellings = standard_names ++ ((65 ∷ []) ∷ (97 ∷ []) ∷ (98 ∷ []) ∷ (99 ∷ []) ∷ []); definitions = ([]) };
  own = None;
  definitions = ([]);
  main = (tree_1 ∷ []);
}

pub rows_are : unit_rows unit ≡ standard_rows ∷ (rows_1 ∷ [])
unfolding unit_rows declare_block blocks_of standard_names
rows_are = refl

pub diagnostics_are : sorted_diags (declaration_diags unit) ≡ ((0 ∷ 6 ∷ 46 ∷ []) ∷ (0 ∷ 13 ∷ 46 ∷ []) ∷ (0 ∷ 20 ∷ 46 ∷ []) ∷ [])
unfolding unit_rows declare_block blocks_of declaration_diags standard_names
diagnostics_are = refl

pub answers_are : sorted_answers (declaration_answers unit) ≡ ([])
unfolding unit_rows declare_block blocks_of declaration_answers standard_names
answers_are = refl
