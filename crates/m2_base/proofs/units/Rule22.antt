-- A unit, with what its declarations give. Names are numbered from 28 on as they come here.
--
-- A.mod:
--     MODULE A; TYPE R = RECORD CASE t: BITSET OF 1: a: CHAR END END; Q = RECORD CASE : BOOLEAN OF TRUE: END END; END
--     A.
use Rattle.std.specs.Prelude.{◌≡◌, pos, false, List, [], ◌∷◌, ◌++◌, Some, None}
use Rattle.std.proofs.Common.{refl}
use Rattle.m2_base.specs.Names.{standard_names}
use Rattle.m2_base.specs.Rows.{Row, numbers_row}
use Rattle.m2_base.specs.Standard.{standard_rows}
use Rattle.m2_base.specs.Statics.BlockRows.{declare_block}
use Rattle.m2_base.specs.Statics.Blocks.{UnitTrees, blocks_of}
use Rattle.m2_base.specs.Statics.UnitNotes.{declaration_diags, declaration_answers}
use Rattle.m2_base.specs.Statics.UnitRows.{unit_rows}
use Rattle.m2_base.specs.Trees.{Stream, Main, expr, number_form, name_form, designator, selectors, one_label, labels, type_expr, named_type, record_type, plain_fields, case_fields, field_lists, variant_arm, variant_arms, type_decl, statements}
use Rattle.m2_base.proofs.UnitTerms.{ident, qual, stream, sorted_diags, sorted_answers}

abbrev tree_1 : Stream
tree_1 = stream Main false (Some (ident 28 1)) ([]) None ((type_decl (ident 29 4) (Some (type_expr 6 (record_type (field_lists ((case_fields (Some (ident 30 8)) (qual (ident 5 10) None) (variant_arms ((variant_arm (labels ((one_label (expr 12 (number_form 1))) ∷ [])) (field_lists ((plain_fields ((ident 31 14) ∷ []) (type_expr 16 (named_type (qual (ident 3 16) None)))) ∷ []))) ∷ [])) (field_lists [])) ∷ [])))))) ∷ (type_decl (ident 32 20) (Some (type_expr 22 (record_type (field_lists ((case_fields None (qual (ident 4 25) None) (variant_arms ((variant_arm (labels ((one_label (expr 27 (name_form (designator (ident 7 27) (selectors ([])))))) ∷ [])) (field_lists ([]))) ∷ [])) (field_lists [])) ∷ [])))))) ∷ []) (statements []) (ident 28 33)

abbrev rows_1 : List Row
rows_1 = ((numbers_row 0 8 7 (pos 10) (pos 0) (pos 2) (pos 30)) ∷ (numbers_row 0 14 7 (pos 2) (pos 1) (pos 2) (pos 31)) ∷ (numbers_row 0 6 15 (pos 0) (pos 0) (pos 2) (pos 0)) ∷ (numbers_row 29 4 2 (pos 4294967298) (pos 0) (pos 0) (pos 0)) ∷ (numbers_row 0 22 15 (pos 4) (pos 0) (pos 1) (pos 0)) ∷ (numbers_row 32 20 2 (pos 4294967300) (pos 0) (pos 0) (pos 0)) ∷ [])

abbrev unit : UnitTrees
unit = record {
  source = record { spellings = standard_names ++ ((65 ∷ []) ∷ (82 ∷ []) ∷ (116 ∷ []) ∷ (97 ∷ []) ∷ (81 ∷ []) ∷ []); definitions = ([]) };
  own = None;
  definitions = ([]);
  main = (tree_1 ∷ []);
}

pub rows_are : unit_rows unit ≡ standard_rows ∷ (rows_1 ∷ [])
unfolding unit_rows declare_block blocks_of standard_names
rows_are = refl

pub diagnostics_are : sorted_diags (declaration_diags unit) ≡ ((0 ∷ 10 ∷ 49 ∷ []) ∷ [])
unfolding unit_rows declare_block blocks_of declaration_diags standard_names
diagnostics_are = refl

pub answers_are : sorted_answers (declaration_answers unit) ≡ ([])
unfolding unit_rows declare_block blocks_of declaration_answers standard_names
answers_are = refl
