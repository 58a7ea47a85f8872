-- A unit, with what its declarations give. Names are numbered from 28 on as they come here.
--
-- A.mod:
--     MODULE A; VAR i: INTEGER; r: RECORD i: INTEGER END; BEGIN FOR i := 1 TO 2 BY TRUE DO END; WITH r DO FOR i := 1
--     TO 2 DO END END END A.
use Rattle.std.specs.Prelude.{◌≡◌, pos, false, List, [], ◌∷◌, ◌++◌, Some, None}
use Rattle.std.proofs.Common.{refl}
use Rattle.m2_base.specs.Names.{standard_names}
use Rattle.m2_base.specs.Rows.{Row, numbers_row}
use Rattle.m2_base.specs.Standard.{standard_rows}
use Rattle.m2_base.specs.Statics.BlockRows.{declare_block}
use Rattle.m2_base.specs.Statics.Blocks.{UnitTrees, blocks_of}
use Rattle.m2_base.specs.Statics.UnitNotes.{declaration_diags, declaration_answers}
use Rattle.m2_base.specs.Statics.UnitRows.{unit_rows}
use Rattle.m2_base.specs.Trees.{Stream, Main, type_expr, named_type, record_type, plain_fields, field_lists, vars_decl, statements}
use Rattle.m2_base.proofs.UnitTerms.{ident, qual, stream, sorted_diags, sorted_answers}

abbrev tree_1 : Stream
tree_1 = stream Main false (Some (ident 28 1)) ([]) None ((vars_decl ((ident 29 4) ∷ []) (type_expr 6 (named_type (qual (ident 1 6) None)))) ∷ (vars_decl ((ident 30 8) ∷ []) (type_expr 10 (record_type (field_lists ((plain_fields ((ident 29 11) ∷ []) (type_expr 13 (named_type (qual (ident 1 13) None)))) ∷ []))))) ∷ []) (statements []) (ident 28 41)

abbrev rows_1 : List Row
rows_1 = ((numbers_row 29 4 3 (pos 0) (pos 0) (pos 0) (pos 0)) ∷ (numbers_row 0 11 7 (pos 0) (pos 0) (pos 2) (pos 29)) ∷ (numbers_row 0 10 15 (pos 1) (pos 0) (pos 1) (pos 0)) ∷ (numbers_row 30 8 3 (pos 4294967298) (pos 0) (pos 1) (pos 0)) ∷ [])

abbrev unit : UnitTrees
unit = record {
  source = record { spellings = standard_names ++ ((65 ∷ []) ∷ (105 ∷ []) ∷ (114 ∷ []) ∷ []); definitions = ([]) };
  own = None;
  definitions = ([]);
  main = (tree_1 ∷ []);
}

pub rows_are : unit_rows unit ≡ standard_rows ∷ (rows_1 ∷ [])
unfolding unit_rows declare_block blocks_of standard_names
rows_are = refl

pub diagnostics_are : sorted_diags (declaration_diags unit) ≡ ([])
unfolding unit_rows declare_block blocks_of declaration_diags standard_names
diagnostics_are = refl

pub answers_are : sorted_answers (declaration_answers unit) ≡ ([])
unfolding unit_rows declare_block blocks_of declaration_answers standard_names
answers_are = refl
