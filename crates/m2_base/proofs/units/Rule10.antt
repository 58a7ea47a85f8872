-- A unit, with what its declarations give. Names are numbered from 28 on as they come here.
--
-- A.mod:
--     MODULE A; TYPE R = RECORD END; PROCEDURE F(): R; END F; TYPE G = PROCEDURE (): R; VAR g: G; BEGIN g := F END A.
use Rattle.std.specs.Prelude.{◌≡◌, pos, false, List, [], ◌∷◌, ◌++◌, Some, None}
use Rattle.std.proofs.Common.{refl}
use Rattle.m2_base.specs.Names.{standard_names}
use Rattle.m2_base.specs.Rows.{Row, numbers_row}
use Rattle.m2_base.specs.Standard.{standard_rows}
use Rattle.m2_base.specs.Statics.BlockRows.{declare_block}
use Rattle.m2_base.specs.Statics.Blocks.{UnitTrees, blocks_of}
use Rattle.m2_base.specs.Statics.UnitNotes.{declaration_diags, declaration_answers}
use Rattle.m2_base.specs.Statics.UnitRows.{unit_rows}
use Rattle.m2_base.specs.Trees.{Stream, Main, Procedure, type_expr, named_type, record_type, proc_type, field_lists, type_decl, vars_decl, proc_decl, statements}
use Rattle.m2_base.proofs.UnitTerms.{ident, qual, heading, stream, sorted_diags, sorted_answers}

abbrev tree_1 : Stream
tree_1 = stream Main false (Some (ident 28 1)) ([]) None ((type_decl (ident 29 4) (Some (type_expr 6 (record_type (field_lists ([])))))) ∷ (proc_decl (heading (ident 30 10) ([]) (Some (qual (ident 29 14) None))) 2) ∷ (type_decl (ident 31 20) (Some (type_expr 22 (proc_type ([]) (Some (qual (ident 29 26) None)))))) ∷ (vars_decl ((ident 32 29) ∷ []) (type_expr 31 (named_type (qual (ident 31 31) None)))) ∷ []) (statements []) (ident 28 38)

abbrev tree_2 : Stream
tree_2 = stream Procedure false None [] (Some (heading (ident 30 10) ([]) (Some (qual (ident 29 14) None)))) ([]) (statements []) (ident 30 17)

abbrev rows_1 : List Row
rows_1 = ((numbers_row 0 6 15 (pos 0) (pos 0) (pos 1) (pos 0)) ∷ (numbers_row 29 4 2 (pos 4294967296) (pos 0) (pos 0) (pos 0)) ∷ (numbers_row 0 10 18 (pos 10) (pos 0) (pos 2) (pos 0)) ∷ (numbers_row 30 10 4 (pos 4294967298) (pos 1) (pos 2) (pos 0)) ∷ (numbers_row 0 22 18 (pos 10) (pos 0) (pos 4) (pos 0)) ∷ (numbers_row 31 20 2 (pos 4294967300) (pos 0) (pos 0) (pos 0)) ∷ (numbers_row 32 29 3 (pos 4294967300) (pos 0) (pos 0) (pos 0)) ∷ [])

abbrev rows_2 : List Row
rows_2 = ([])

abbrev unit : UnitTrees
unit = record {
  source = record { spellings = standard_names ++ ((65 ∷ []) ∷ (82 ∷ []) ∷ (70 ∷ []) ∷ (71 ∷ []) ∷ (103 ∷ []) ∷ []); definitions = ([]) };
  own = None;
  definitions = ([]);
  main = (tree_1 ∷ tree_2 ∷ []);
}

pub rows_are : unit_rows unit ≡ standard_rows ∷ (rows_1 ∷ rows_2 ∷ [])
unfolding unit_rows declare_block blocks_of standard_names
rows_are = refl

pub diagnostics_are : sorted_diags (declaration_diags unit) ≡ ((0 ∷ 14 ∷ 68 ∷ []) ∷ (0 ∷ 26 ∷ 68 ∷ []) ∷ [])
unfolding unit_rows declare_block blocks_of declaration_diags standard_names
diagnostics_are = refl

pub answers_are : sorted_answers (declaration_answers unit) ≡ ((14 ∷ 1 ∷ 1 ∷ []) ∷ (26 ∷ 1 ∷ 1 ∷ []) ∷ (31 ∷ 1 ∷ 5 ∷ []) ∷ [])
unfolding unit_rows declare_block blocks_of declaration_answers standard_names
answers_are = refl
