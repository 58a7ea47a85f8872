-- A unit, with what its declarations give. Names are numbered from 28 on as they come here.
--
-- M.mod:
--     MODULE M; FROM D IMPORT Own; FROM C IMPORT Color; VAR o: Own; c: Color; BEGIN o := red; c := green END M.
--
-- D.def:
--     DEFINITION MODULE D; FROM C IMPORT Color; TYPE Mine = Color; Own = (red, x); END D.
--
-- C.def:
--     DEFINITION MODULE C; TYPE Color = (red, green, blue); Tint = Color; Few = [red..green]; Other = (a, b); VAR v:
--     Color; END C.
use Rattle.std.specs.Prelude.{◌≡◌, pos, false, List, [], ◌∷◌, ◌++◌, Some, None}
use Rattle.std.proofs.Common.{refl}
use Rattle.m2_base.specs.Names.{standard_names}
use Rattle.m2_base.specs.Rows.{Row, numbers_row}
use Rattle.m2_base.specs.Standard.{standard_rows}
use Rattle.m2_base.specs.Statics.BlockRows.{declare_block}
use Rattle.m2_base.specs.Statics.Blocks.{UnitTrees, blocks_of}
use Rattle.m2_base.specs.Statics.UnitNotes.{declaration_diags, declaration_answers}
use Rattle.m2_base.specs.Statics.UnitRows.{unit_rows}
use Rattle.m2_base.specs.Trees.{Stream, Main, Definition, expr, name_form, designator, selectors, type_expr, named_type, enum_type, sub_type, type_decl, vars_decl, statements}
use Rattle.m2_base.proofs.UnitTerms.{ident, qual, an_import, stream, definition_module, sorted_diags, sorted_answers}

abbrev tree_1 : Stream
tree_1 = stream Definition false (Some (ident 30 2)) ([]) None ((type_decl (ident 31 5) (Some (type_expr 7 (enum_type ((ident 32 8) ∷ (ident 33 10) ∷ (ident 34 12) ∷ []))))) ∷ (type_decl (ident 35 15) (Some (type_expr 17 (named_type (qual (ident 31 17) None))))) ∷ (type_decl (ident 36 19) (Some (type_expr 21 (sub_type None (expr 22 (name_form (designator (ident 32 22) (selectors ([]))))) (expr 24 (name_form (designator (ident 33 24) (selectors ([]))))))))) ∷ (type_decl (ident 37 27) (Some (type_expr 29 (enum_type ((ident 38 30) ∷ (ident 39 32) ∷ []))))) ∷ (vars_decl ((ident 40 36) ∷ []) (type_expr 38 (named_type (qual (ident 31 38) None)))) ∷ []) (statements []) (ident 30 41)

abbrev tree_2 : Stream
tree_2 = stream Definition false (Some (ident 28 2)) ((an_import (Some (ident 30 5)) ((ident 31 7) ∷ [])) ∷ []) None ((type_decl (ident 41 10) (Some (type_expr 12 (named_type (qual (ident 31 12) None))))) ∷ (type_decl (ident 29 14) (Some (type_expr 16 (enum_type ((ident 32 17) ∷ (ident 42 19) ∷ []))))) ∷ []) (statements []) (ident 28 23)

abbrev tree_3 : Stream
tree_3 = stream Main false (Some (ident 43 1)) ((an_import (Some (ident 28 4)) ((ident 29 6) ∷ [])) ∷ (an_import (Some (ident 30 9)) ((ident 31 11) ∷ [])) ∷ []) None ((vars_decl ((ident 44 14) ∷ []) (type_expr 16 (named_type (qual (ident 29 16) None)))) ∷ (vars_decl ((ident 45 18) ∷ []) (type_expr 20 (named_type (qual (ident 31 20) None)))) ∷ []) (statements []) (ident 43 31)

abbrev rows_1 : List Row
rows_1 = ((numbers_row 0 7 11 (pos 3) (pos 0) (pos 0) (pos 0)) ∷ (numbers_row 32 8 1 (pos 4294967296) (pos 0) (pos 0) (pos 0)) ∷ (numbers_row 33 10 1 (pos 4294967296) (pos 1) (pos 0) (pos 0)) ∷ (numbers_row 34 12 1 (pos 4294967296) (pos 2) (pos 0) (pos 0)) ∷ (numbers_row 31 5 2 (pos 4294967296) (pos 0) (pos 0) (pos 0)) ∷ (numbers_row 35 15 2 (pos 4294967296) (pos 0) (pos 0) (pos 0)) ∷ (numbers_row 0 21 12 (pos 4294967296) (pos 0) (pos 1) (pos 0)) ∷ (numbers_row 36 19 2 (pos 4294967302) (pos 0) (pos 0) (pos 0)) ∷ (numbers_row 0 29 11 (pos 2) (pos 0) (pos 0) (pos 0)) ∷ (numbers_row 38 30 1 (pos 4294967304) (pos 0) (pos 0) (pos 0)) ∷ (numbers_row 39 32 1 (pos 4294967304) (pos 1) (pos 0) (pos 0)) ∷ (numbers_row 37 27 2 (pos 4294967304) (pos 0) (pos 0) (pos 0)) ∷ (numbers_row 40 36 3 (pos 4294967296) (pos 0) (pos 0) (pos 0)) ∷ [])

abbrev rows_2 : List Row
rows_2 = ((numbers_row 31 7 6 (pos 4294967300) (pos 0) (pos 0) (pos 0)) ∷ (numbers_row 32 7 6 (pos 4294967297) (pos 0) (pos 0) (pos 0)) ∷ (numbers_row 33 7 6 (pos 4294967298) (pos 0) (pos 0) (pos 0)) ∷ (numbers_row 34 7 6 (pos 4294967299) (pos 0) (pos 0) (pos 0)) ∷ (numbers_row 41 10 2 (pos 4294967296) (pos 0) (pos 0) (pos 0)) ∷ (numbers_row 0 16 11 (pos 2) (pos 0) (pos 0) (pos 0)) ∷ (numbers_row 0 17 1 (pos 8589934597) (pos 0) (pos 0) (pos 0)) ∷ (numbers_row 42 19 1 (pos 8589934597) (pos 1) (pos 0) (pos 0)) ∷ (numbers_row 29 14 2 (pos 8589934597) (pos 0) (pos 0) (pos 0)) ∷ [])

abbrev rows_3 : List Row
rows_3 = ((numbers_row 29 6 6 (pos 8589934600) (pos 0) (pos 0) (pos 0)) ∷ (numbers_row 42 6 6 (pos 8589934599) (pos 0) (pos 0) (pos 0)) ∷ (numbers_row 31 11 6 (pos 4294967300) (pos 0) (pos 0) (pos 0)) ∷ (numbers_row 32 11 6 (pos 4294967297) (pos 0) (pos 0) (pos 0)) ∷ (numbers_row 33 11 6 (pos 4294967298) (pos 0) (pos 0) (pos 0)) ∷ (numbers_row 34 11 6 (pos 4294967299) (pos 0) (pos 0) (pos 0)) ∷ (numbers_row 44 14 3 (pos 8589934597) (pos 0) (pos 0) (pos 0)) ∷ (numbers_row 45 18 3 (pos 4294967296) (pos 0) (pos 1) (pos 0)) ∷ [])

abbrev unit : UnitTrees
unit = record {
  source = record { spellings = standard_names ++ ((68 ∷ []) ∷ (79 ∷ 119 ∷ 110 ∷ []) ∷ (67 ∷ []) ∷ (67 ∷ 111 ∷ 108 ∷ 111 ∷ 114 ∷ []) ∷ (114 ∷ 101 ∷ 100 ∷ []) ∷ (103 ∷ 114 ∷ 101 ∷ 101 ∷ 110 ∷ []) ∷ (98 ∷ 108 ∷ 117 ∷ 101 ∷ []) ∷ (84 ∷ 105 ∷ 110 ∷ 116 ∷ []) ∷ (70 ∷ 101 ∷ 119 ∷ []) ∷ (79 ∷ 116 ∷ 104 ∷ 101 ∷ 114 ∷ []) ∷ (97 ∷ []) ∷ (98 ∷ []) ∷ (118 ∷ []) ∷ (77 ∷ 105 ∷ 110 ∷ 101 ∷ []) ∷ (120 ∷ []) ∷ (77 ∷ []) ∷ (111 ∷ []) ∷ (99 ∷ []) ∷ []); definitions = ((definition_module 30 2) ∷ (definition_module 28 1) ∷ []) };
  own = None;
  definitions = (tree_1 ∷ tree_2 ∷ []);
  main = (tree_3 ∷ []);
}

pub rows_are : unit_rows unit ≡ standard_rows ∷ (rows_1 ∷ rows_2 ∷ rows_3 ∷ [])
unfolding unit_rows declare_block blocks_of standard_names
rows_are = refl

pub diagnostics_are : sorted_diags (declaration_diags unit) ≡ ((1 ∷ 17 ∷ 42 ∷ []) ∷ [])
unfolding unit_rows declare_block blocks_of declaration_diags standard_names
diagnostics_are = refl

pub answers_are : sorted_answers (declaration_answers unit) ≡ ((6 ∷ 2 ∷ 8 ∷ []) ∷ (7 ∷ 1 ∷ 4 ∷ []) ∷ (11 ∷ 1 ∷ 4 ∷ []) ∷ (12 ∷ 2 ∷ 0 ∷ []) ∷ (16 ∷ 3 ∷ 0 ∷ []) ∷ (17 ∷ 1 ∷ 4 ∷ []) ∷ (20 ∷ 3 ∷ 2 ∷ []) ∷ (22 ∷ 1 ∷ 1 ∷ []) ∷ (24 ∷ 1 ∷ 2 ∷ []) ∷ (38 ∷ 1 ∷ 4 ∷ []) ∷ [])
unfolding unit_rows declare_block blocks_of declaration_answers standard_names
answers_are = refl
