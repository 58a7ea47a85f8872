-- A unit, with what its declarations give. Names are numbered from 28 on as they come here.
--
-- A.mod:
--     MODULE A; TYPE F = PROCEDURE (INTEGER, VAR ARRAY OF CHAR): CHAR; VAR f: F; PROCEDURE P(a: INTEGER; VAR b: ARRAY
--     OF CHAR): CHAR; END P; PROCEDURE Q(a: INTEGER; b: ARRAY OF CHAR): CHAR; END Q; BEGIN f := P; f := Q; f := f END
--     A.
use Rattle.std.specs.Prelude.{◌≡◌, pos, true, false, List, [], ◌∷◌, ◌++◌, Some, None}
use Rattle.std.proofs.Common.{refl}
use Rattle.m2_base.specs.Names.{standard_names}
use Rattle.m2_base.specs.Rows.{Row, numbers_row}
use Rattle.m2_base.specs.Standard.{standard_rows}
use Rattle.m2_base.specs.Statics.BlockRows.{declare_block}
use Rattle.m2_base.specs.Statics.Blocks.{UnitTrees, blocks_of}
use Rattle.m2_base.specs.Statics.UnitNotes.{declaration_diags, declaration_answers}
use Rattle.m2_base.specs.Statics.UnitRows.{unit_rows}
use Rattle.m2_base.specs.Trees.{Stream, Main, Procedure, type_expr, named_type, proc_type, type_decl, vars_decl, proc_decl, statements}
use Rattle.m2_base.proofs.UnitTerms.{ident, qual, formal, section, heading, stream, sorted_diags, sorted_answers}

abbrev tree_1 : Stream
tree_1 = stream Main false (Some (ident 28 1)) ([]) None ((type_decl (ident 29 4) (Some (type_expr 6 (proc_type ((formal false false (qual (ident 1 8) None)) ∷ (formal true true (qual (ident 3 13) None)) ∷ []) (Some (qual (ident 3 16) None)))))) ∷ (vars_decl ((ident 30 19) ∷ []) (type_expr 21 (named_type (qual (ident 29 21) None)))) ∷ (proc_decl (heading (ident 31 24) ((section false ((ident 32 26) ∷ []) false (qual (ident 1 28) None)) ∷ (section true ((ident 33 31) ∷ []) true (qual (ident 3 35) None)) ∷ []) (Some (qual (ident 3 38) None))) 2) ∷ (proc_decl (heading (ident 34 44) ((section false ((ident 32 46) ∷ []) false (qual (ident 1 48) None)) ∷ (section false ((ident 33 50) ∷ []) true (qual (ident 3 54) None)) ∷ []) (Some (qual (ident 3 57) None))) 3) ∷ []) (statements []) (ident 28 75)

abbrev tree_2 : Stream
tree_2 = stream Procedure false None [] (Some (heading (ident 31 24) ((section false ((ident 32 26) ∷ []) false (qual (ident 1 28) None)) ∷ (section true ((ident 33 31) ∷ []) true (qual (ident 3 35) None)) ∷ []) (Some (qual (ident 3 38) None)))) ([]) (statements []) (ident 31 41)

abbrev tree_3 : Stream
tree_3 = stream Procedure false None [] (Some (heading (ident 34 44) ((section false ((ident 32 46) ∷ []) false (qual (ident 1 48) None)) ∷ (section false ((ident 33 50) ∷ []) true (qual (ident 3 54) None)) ∷ []) (Some (qual (ident 3 57) None)))) ([]) (statements []) (ident 34 60)

abbrev rows_1 : List Row
rows_1 = ((numbers_row 0 8 8 (pos 0) (pos 0) (pos 3) (pos 0)) ∷ (numbers_row 0 13 14 (pos 0) (pos 2) (pos 0) (pos 0)) ∷ (numbers_row 0 13 8 (pos 4294967297) (pos 1) (pos 3) (pos 0)) ∷ (numbers_row 0 6 18 (pos 2) (pos 2) (pos 0) (pos 0)) ∷ (numbers_row 29 4 2 (pos 4294967299) (pos 0) (pos 0) (pos 0)) ∷ (numbers_row 30 19 3 (pos 4294967299) (pos 0) (pos 0) (pos 0)) ∷ (numbers_row 0 26 8 (pos 0) (pos 0) (pos 9) (pos 0)) ∷ (numbers_row 0 35 14 (pos 0) (pos 2) (pos 0) (pos 0)) ∷ (numbers_row 0 31 8 (pos 4294967303) (pos 1) (pos 9) (pos 0)) ∷ (numbers_row 0 24 18 (pos 2) (pos 2) (pos 6) (pos 0)) ∷ (numbers_row 31 24 4 (pos 4294967305) (pos 1) (pos 2) (pos 0)) ∷ (numbers_row 0 46 8 (pos 0) (pos 0) (pos 14) (pos 0)) ∷ (numbers_row 0 54 14 (pos 0) (pos 2) (pos 0) (pos 0)) ∷ (numbers_row 0 50 8 (pos 4294967308) (pos 0) (pos 14) (pos 0)) ∷ (numbers_row 0 44 18 (pos 2) (pos 2) (pos 11) (pos 0)) ∷ (numbers_row 34 44 4 (pos 4294967310) (pos 2) (pos 3) (pos 0)) ∷ [])

abbrev rows_2 : List Row
rows_2 = ((numbers_row 32 26 3 (pos 0) (pos 0) (pos 0) (pos 0)) ∷ (numbers_row 0 35 14 (pos 0) (pos 2) (pos 0) (pos 0)) ∷ (numbers_row 33 31 3 (pos 8589934593) (pos 2) (pos 1) (pos 0)) ∷ [])

abbrev rows_3 : List Row
rows_3 = ((numbers_row 32 46 3 (pos 0) (pos 0) (pos 0) (pos 0)) ∷ (numbers_row 0 54 14 (pos 0) (pos 2) (pos 0) (pos 0)) ∷ (numbers_row 33 50 3 (pos 12884901889) (pos 2) (pos 1) (pos 0)) ∷ [])

abbrev unit : UnitTrees
unit = record {
  source = record { spellings = standard_names ++ ((65 ∷ []) ∷ (70 ∷ []) ∷ (102 ∷ []) ∷ (80 ∷ []) ∷ (97 ∷ []) ∷ (98 ∷ []) ∷ (81 ∷ []) ∷ []); definitions = ([]) };
  own = None;
  definitions = ([]);
  main = (tree_1 ∷ tree_2 ∷ tree_3 ∷ []);
}

pub rows_are : unit_rows unit ≡ standard_rows ∷ (rows_1 ∷ rows_2 ∷ rows_3 ∷ [])
unfolding unit_rows declare_block blocks_of standard_names
rows_are = refl

pub diagnostics_are : sorted_diags (declaration_diags unit) ≡ ([])
unfolding unit_rows declare_block blocks_of declaration_diags standard_names
diagnostics_are = refl

pub answers_are : sorted_answers (declaration_answers unit) ≡ ((21 ∷ 1 ∷ 4 ∷ []) ∷ [])
unfolding unit_rows declare_block blocks_of declaration_answers standard_names
answers_are = refl
