-- A unit, with what its declarations give. Names are numbered from 28 on as they come here.
--
-- M.mod:
--     MODULE M; FROM C IMPORT Other, blue; TYPE T = [blue..two]; VAR x0: Other; VAR x1: Other; VAR x2: Other; BEGIN
--     IF x0 = amber THEN x0 := amber END; x1 := amber; CASE x2 OF red: | red..red: HALT ELSE END; FOR x0 := one TO
--     one DO END END M.
--
-- C.def:
--     DEFINITION MODULE C; TYPE Other = (two, blue, amber); END C.
use Rattle.std.specs.Prelude.{◌≡◌, pos, false, List, [], ◌∷◌, ◌++◌, Some, None}
use Rattle.std.proofs.Common.{refl}
use Rattle.m2_base.specs.Names.{standard_names}
use Rattle.m2_base.specs.Rows.{Row, numbers_row}
use Rattle.m2_base.specs.Standard.{standard_rows}
use Rattle.m2_base.specs.Statics.BlockRows.{declare_block}
use Rattle.m2_base.specs.Statics.Blocks.{UnitTrees, blocks_of}
use Rattle.m2_base.specs.Statics.UnitNotes.{declaration_diags, declaration_answers}
use Rattle.m2_base.specs.Statics.UnitRows.{unit_rows}
use Rattle.m2_base.specs.Trees.{Stream, Main, Definition, expr, name_form, designator, selectors, type_expr, named_type, enum_type, sub_type, type_decl, vars_decl, statements}
use Rattle.m2_base.proofs.UnitTerms.{ident, qual, an_import, stream, definition_module, sorted_diags, sorted_answers}

abbrev tree_1 : Stream
tree_1 = stream Definition false (Some (ident 28 2)) ([]) None ((type_decl (ident 29 5) (Some (type_expr 7 (enum_type ((ident 31 8) ∷ (ident 30 10) ∷ (ident 32 12) ∷ []))))) ∷ []) (statements []) (ident 28 16)

abbrev tree_2 : Stream
tree_2 = stream Main false (Some (ident 33 1)) ((an_import (Some (ident 28 4)) ((ident 29 6) ∷ (ident 30 8) ∷ [])) ∷ []) None ((type_decl (ident 34 11) (Some (type_expr 13 (sub_type None (expr 14 (name_form (designator (ident 30 14) (selectors ([]))))) (expr 16 (name_form (designator (ident 31 16) (selectors ([]))))))))) ∷ (vars_decl ((ident 35 20) ∷ []) (type_expr 22 (named_type (qual (ident 29 22) None)))) ∷ (vars_decl ((ident 36 25) ∷ []) (type_expr 27 (named_type (qual (ident 29 27) None)))) ∷ (vars_decl ((ident 37 30) ∷ []) (type_expr 32 (named_type (qual (ident 29 32) None)))) ∷ []) (statements []) (ident 33 72)

abbrev rows_1 : List Row
rows_1 = ((numbers_row 0 7 11 (pos 3) (pos 0) (pos 0) (pos 0)) ∷ (numbers_row 31 8 1 (pos 4294967296) (pos 0) (pos 0) (pos 0)) ∷ (numbers_row 30 10 1 (pos 4294967296) (pos 1) (pos 0) (pos 0)) ∷ (numbers_row 32 12 1 (pos 4294967296) (pos 2) (pos 0) (pos 0)) ∷ (numbers_row 29 5 2 (pos 4294967296) (pos 0) (pos 0) (pos 0)) ∷ [])

abbrev rows_2 : List Row
rows_2 = ((numbers_row 29 6 6 (pos 4294967300) (pos 0) (pos 0) (pos 0)) ∷ (numbers_row 31 6 6 (pos 4294967297) (pos 0) (pos 0) (pos 0)) ∷ (numbers_row 30 6 6 (pos 4294967298) (pos 0) (pos 0) (pos 0)) ∷ (numbers_row 32 6 6 (pos 4294967299) (pos 0) (pos 0) (pos 0)) ∷ (numbers_row 0 8 6 (pos 4294967298) (pos 0) (pos 0) (pos 0)) ∷ (numbers_row 0 13 12 (pos 10) (pos 0) (pos 0) (pos 0)) ∷ (numbers_row 34 11 2 (pos 10) (pos 0) (pos 0) (pos 0)) ∷ (numbers_row 35 20 3 (pos 4294967296) (pos 0) (pos 0) (pos 0)) ∷ (numbers_row 36 25 3 (pos 4294967296) (pos 0) (pos 1) (pos 0)) ∷ (numbers_row 37 30 3 (pos 4294967296) (pos 0) (pos 2) (pos 0)) ∷ [])

abbrev unit : UnitTrees
unit = record {
  source = record { spellings = standard_names ++ ((67 ∷ []) ∷ (79 ∷ 116 ∷ 104 ∷ 101 ∷ 114 ∷ []) ∷ (98 ∷ 108 ∷ 117 ∷ 101 ∷ []) ∷ (116 ∷ 119 ∷ 111 ∷ []) ∷ (97 ∷ 109 ∷ 98 ∷ 101 ∷ 114 ∷ []) ∷ (77 ∷ []) ∷ (84 ∷ []) ∷ (120 ∷ 48 ∷ []) ∷ (120 ∷ 49 ∷ []) ∷ (120 ∷ 50 ∷ []) ∷ []); definitions = ((definition_module 28 1) ∷ []) };
  own = None;
  definitions = (tree_1 ∷ []);
  main = (tree_2 ∷ []);
}

pub rows_are : unit_rows unit ≡ standard_rows ∷ (rows_1 ∷ rows_2 ∷ [])
unfolding unit_rows declare_block blocks_of standard_names
rows_are = refl

pub diagnostics_are : sorted_diags (declaration_diags unit) ≡ ((0 ∷ 16 ∷ 47 ∷ []) ∷ [])
unfolding unit_rows declare_block blocks_of declaration_diags standard_names
diagnostics_are = refl

pub answers_are : sorted_answers (declaration_answers unit) ≡ ((6 ∷ 1 ∷ 4 ∷ []) ∷ (8 ∷ 1 ∷ 2 ∷ []) ∷ (14 ∷ 2 ∷ 2 ∷ []) ∷ (16 ∷ 2 ∷ 1 ∷ []) ∷ (22 ∷ 2 ∷ 0 ∷ []) ∷ (27 ∷ 2 ∷ 0 ∷ []) ∷ (32 ∷ 2 ∷ 0 ∷ []) ∷ [])
unfolding unit_rows declare_block blocks_of declaration_answers standard_names
answers_are = refl
