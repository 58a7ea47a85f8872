-- A unit, with what its declarations give. Names are numbered from 28 on as they come here.
--
-- A.mod:
--     MODULE A; CONST s = "ab"; c = s; d = "a"; VAR h: CHAR; b: BOOLEAN; BEGIN h := d; h := c; b := h = d; b := h =
--     c; b := "a" <= h; b := ORD(d) = 97 END A.
use Rattle.std.specs.Prelude.{◌≡◌, pos, false, List, [], ◌∷◌, ◌++◌, Some, None}
use Rattle.std.proofs.Common.{refl}
use Rattle.m2_base.specs.Names.{standard_names}
use Rattle.m2_base.specs.Rows.{Row, numbers_row}
use Rattle.m2_base.specs.Standard.{standard_rows}
use Rattle.m2_base.specs.Statics.BlockRows.{declare_block}
use Rattle.m2_base.specs.Statics.Blocks.{UnitTrees, blocks_of}
use Rattle.m2_base.specs.Statics.UnitNotes.{declaration_diags, declaration_answers}
use Rattle.m2_base.specs.Statics.UnitRows.{unit_rows}
use Rattle.m2_base.specs.Trees.{Stream, Main, expr, string_form, name_form, designator, selectors, type_expr, named_type, const_decl, vars_decl, statements}
use Rattle.m2_base.proofs.UnitTerms.{ident, qual, stream, sorted_diags, sorted_answers}

abbrev tree_1 : Stream
tree_1 = stream Main false (Some (ident 28 1)) ([]) None ((const_decl (ident 29 4) (expr 6 (string_form 30))) ∷ (const_decl (ident 31 8) (expr 10 (name_form (designator (ident 29 10) (selectors ([])))))) ∷ (const_decl (ident 32 12) (expr 14 (string_form 33))) ∷ (vars_decl ((ident 34 17) ∷ []) (type_expr 19 (named_type (qual (ident 3 19) None)))) ∷ (vars_decl ((ident 35 21) ∷ []) (type_expr 23 (named_type (qual (ident 4 23) None)))) ∷ []) (statements []) (ident 28 61)

abbrev rows_1 : List Row
rows_1 = ((numbers_row 29 4 1 (pos 8) (pos 30) (pos 2) (pos 0)) ∷ (numbers_row 31 8 1 (pos 8) (pos 30) (pos 2) (pos 0)) ∷ (numbers_row 32 12 1 (pos 8) (pos 33) (pos 1) (pos 0)) ∷ (numbers_row 34 17 3 (pos 2) (pos 0) (pos 0) (pos 0)) ∷ (numbers_row 35 21 3 (pos 3) (pos 0) (pos 1) (pos 0)) ∷ [])

abbrev unit : UnitTrees
unit = record {
  source = record { spellings = standard_names ++ ((65 ∷ []) ∷ (115 ∷ []) ∷ (97 ∷ 98 ∷ []) ∷ (99 ∷ []) ∷ (100 ∷ []) ∷ (97 ∷ []) ∷ (104 ∷ []) ∷ (98 ∷ []) ∷ []); definitions = ([]) };
  own = None;
  definitions = ([]);
  main = (tree_1 ∷ []);
}

pub rows_are : unit_rows unit ≡ standard_rows ∷ (rows_1 ∷ [])
unfolding unit_rows declare_block blocks_of standard_names
rows_are = refl

pub diagnostics_are : sorted_diags (declaration_diags unit) ≡ ([])
unfolding unit_rows declare_block blocks_of declaration_diags standard_names
diagnostics_are = refl

pub answers_are : sorted_answers (declaration_answers unit) ≡ ((10 ∷ 1 ∷ 0 ∷ []) ∷ [])
unfolding unit_rows declare_block blocks_of declaration_answers standard_names
answers_are = refl
