-- A unit, with what its declarations give. Names are numbered from 28 on as they come here.
--
-- M.mod:
--     MODULE M; IMPORT E; FROM E IMPORT Color; END M.
--
-- E.def:
--     DEFINITION MODULE E; FROM C IMPORT Color; FROM D IMPORT Mine; END E.
--
-- C.def:
--     DEFINITION MODULE C; TYPE Color = (red, green, blue); Tint = Color; Few = [red..green]; Other = (a, b); VAR v:
--     Color; END C.
--
-- D.def:
--     DEFINITION MODULE D; FROM C IMPORT Color; TYPE Mine = Color; Own = (red, x); END D.
use Rattle.std.specs.Prelude.{◌≡◌, pos, false, List, [], ◌∷◌, ◌++◌, Some, None}
use Rattle.std.proofs.Common.{refl}
use Rattle.m2_base.specs.Names.{standard_names}
use Rattle.m2_base.specs.Rows.{Row, numbers_row}
use Rattle.m2_base.specs.Standard.{standard_rows}
use Rattle.m2_base.specs.Statics.BlockRows.{declare_block}
use Rattle.m2_base.specs.Statics.Blocks.{UnitTrees, blocks_of}
use Rattle.m2_base.specs.Statics.UnitNotes.{declaration_diags, declaration_answers}
use Rattle.m2_base.specs.Statics.UnitRows.{unit_rows}
use Rattle.m2_base.specs.Trees.{Stream, Main, Definition, expr, name_form, designator, selectors, type_expr, named_type, enum_type, sub_type, type_decl, vars_decl, statements}
use Rattle.m2_base.proofs.UnitTerms.{ident, qual, an_import, stream, definition_module, sorted_diags, sorted_answers}

abbrev tree_1 : Stream
tree_1 = stream Definition false (Some (ident 30 2)) ([]) None ((type_decl (ident 29 5) (Some (type_expr 7 (enum_type ((ident 33 8) ∷ (ident 34 10) ∷ (ident 35 12) ∷ []))))) ∷ (type_decl (ident 36 15) (Some (type_expr 17 (named_type (qual (ident 29 17) None))))) ∷ (type_decl (ident 37 19) (Some (type_expr 21 (sub_type None (expr 22 (name_form (designator (ident 33 22) (selectors ([]))))) (expr 24 (name_form (designator (ident 34 24) (selectors ([]))))))))) ∷ (type_decl (ident 38 27) (Some (type_expr 29 (enum_type ((ident 39 30) ∷ (ident 40 32) ∷ []))))) ∷ (vars_decl ((ident 41 36) ∷ []) (type_expr 38 (named_type (qual (ident 29 38) None)))) ∷ []) (statements []) (ident 30 41)

abbrev tree_2 : Stream
tree_2 = stream Definition false (Some (ident 31 2)) ((an_import (Some (ident 30 5)) ((ident 29 7) ∷ [])) ∷ []) None ((type_decl (ident 32 10) (Some (type_expr 12 (named_type (qual (ident 29 12) None))))) ∷ (type_decl (ident 42 14) (Some (type_expr 16 (enum_type ((ident 33 17) ∷ (ident 43 19) ∷ []))))) ∷ []) (statements []) (ident 31 23)

abbrev tree_3 : Stream
tree_3 = stream Definition false (Some (ident 28 2)) ((an_import (Some (ident 30 5)) ((ident 29 7) ∷ [])) ∷ (an_import (Some (ident 31 10)) ((ident 32 12) ∷ [])) ∷ []) None ([]) (statements []) (ident 28 15)

abbrev tree_4 : Stream
tree_4 = stream Main false (Some (ident 44 1)) ((an_import None ((ident 28 4) ∷ [])) ∷ (an_import (Some (ident 28 7)) ((ident 29 9) ∷ [])) ∷ []) None ([]) (statements []) (ident 44 12)

abbrev rows_1 : List Row
rows_1 = ((numbers_row 0 7 11 (pos 3) (pos 0) (pos 0) (pos 0)) ∷ (numbers_row 33 8 1 (pos 4294967296) (pos 0) (pos 0) (pos 0)) ∷ (numbers_row 34 10 1 (pos 4294967296) (pos 1) (pos 0) (pos 0)) ∷ (numbers_row 35 12 1 (pos 4294967296) (pos 2) (pos 0) (pos 0)) ∷ (numbers_row 29 5 2 (pos 4294967296) (pos 0) (pos 0) (pos 0)) ∷ (numbers_row 36 15 2 (pos 4294967296) (pos 0) (pos 0) (pos 0)) ∷ (numbers_row 0 21 12 (pos 4294967296) (pos 0) (pos 1) (pos 0)) ∷ (numbers_row 37 19 2 (pos 4294967302) (pos 0) (pos 0) (pos 0)) ∷ (numbers_row 0 29 11 (pos 2) (pos 0) (pos 0) (pos 0)) ∷ (numbers_row 39 30 1 (pos 4294967304) (pos 0) (pos 0) (pos 0)) ∷ (numbers_row 40 32 1 (pos 4294967304) (pos 1) (pos 0) (pos 0)) ∷ (numbers_row 38 27 2 (pos 4294967304) (pos 0) (pos 0) (pos 0)) ∷ (numbers_row 41 36 3 (pos 4294967296) (pos 0) (pos 0) (pos 0)) ∷ [])

abbrev rows_2 : List Row
rows_2 = ((numbers_row 29 7 6 (pos 4294967300) (pos 0) (pos 0) (pos 0)) ∷ (numbers_row 33 7 6 (pos 4294967297) (pos 0) (pos 0) (pos 0)) ∷ (numbers_row 34 7 6 (pos 4294967298) (pos 0) (pos 0) (pos 0)) ∷ (numbers_row 35 7 6 (pos 4294967299) (pos 0) (pos 0) (pos 0)) ∷ (numbers_row 32 10 2 (pos 4294967296) (pos 0) (pos 0) (pos 0)) ∷ (numbers_row 0 16 11 (pos 2) (pos 0) (pos 0) (pos 0)) ∷ (numbers_row 0 17 1 (pos 8589934597) (pos 0) (pos 0) (pos 0)) ∷ (numbers_row 43 19 1 (pos 8589934597) (pos 1) (pos 0) (pos 0)) ∷ (numbers_row 42 14 2 (pos 8589934597) (pos 0) (pos 0) (pos 0)) ∷ [])

abbrev rows_3 : List Row
rows_3 = ((numbers_row 29 7 6 (pos 4294967300) (pos 0) (pos 0) (pos 0)) ∷ (numbers_row 33 7 6 (pos 4294967297) (pos 0) (pos 0) (pos 0)) ∷ (numbers_row 34 7 6 (pos 4294967298) (pos 0) (pos 0) (pos 0)) ∷ (numbers_row 35 7 6 (pos 4294967299) (pos 0) (pos 0) (pos 0)) ∷ (numbers_row 32 12 6 (pos 8589934596) (pos 0) (pos 0) (pos 0)) ∷ [])

abbrev rows_4 : List Row
rows_4 = ((numbers_row 28 4 5 (pos 3) (pos 0) (pos 0) (pos 0)) ∷ (numbers_row 29 9 6 (pos 4294967300) (pos 0) (pos 0) (pos 0)) ∷ (numbers_row 33 9 6 (pos 4294967297) (pos 0) (pos 0) (pos 0)) ∷ (numbers_row 34 9 6 (pos 4294967298) (pos 0) (pos 0) (pos 0)) ∷ (numbers_row 35 9 6 (pos 4294967299) (pos 0) (pos 0) (pos 0)) ∷ [])

abbrev unit : UnitTrees
unit = record {
  source = record { spellings = standard_names ++ ((69 ∷ []) ∷ (67 ∷ 111 ∷ 108 ∷ 111 ∷ 114 ∷ []) ∷ (67 ∷ []) ∷ (68 ∷ []) ∷ (77 ∷ 105 ∷ 110 ∷ 101 ∷ []) ∷ (114 ∷ 101 ∷ 100 ∷ []) ∷ (103 ∷ 114 ∷ 101 ∷ 101 ∷ 110 ∷ []) ∷ (98 ∷ 108 ∷ 117 ∷ 101 ∷ []) ∷ (84 ∷ 105 ∷ 110 ∷ 116 ∷ []) ∷ (70 ∷ 101 ∷ 119 ∷ []) ∷ (79 ∷ 116 ∷ 104 ∷ 101 ∷ 114 ∷ []) ∷ (97 ∷ []) ∷ (98 ∷ []) ∷ (118 ∷ []) ∷ (79 ∷ 119 ∷ 110 ∷ []) ∷ (120 ∷ []) ∷ (77 ∷ []) ∷ []); definitions = ((definition_module 30 2) ∷ (definition_module 31 3) ∷ (definition_module 28 1) ∷ []) };
  own = None;
  definitions = (tree_1 ∷ tree_2 ∷ tree_3 ∷ []);
  main = (tree_4 ∷ []);
}

pub rows_are : unit_rows unit ≡ standard_rows ∷ (rows_1 ∷ rows_2 ∷ rows_3 ∷ rows_4 ∷ [])
unfolding unit_rows declare_block blocks_of standard_names
rows_are = refl

pub diagnostics_are : sorted_diags (declaration_diags unit) ≡ ((3 ∷ 17 ∷ 42 ∷ []) ∷ [])
unfolding unit_rows declare_block blocks_of declaration_diags standard_names
diagnostics_are = refl

pub answers_are : sorted_answers (declaration_answers unit) ≡ ((7 ∷ 1 ∷ 4 ∷ []) ∷ (9 ∷ 3 ∷ 0 ∷ []) ∷ (12 ∷ 2 ∷ 0 ∷ []) ∷ (12 ∷ 2 ∷ 4 ∷ []) ∷ (17 ∷ 1 ∷ 4 ∷ []) ∷ (22 ∷ 1 ∷ 1 ∷ []) ∷ (24 ∷ 1 ∷ 2 ∷ []) ∷ (38 ∷ 1 ∷ 4 ∷ []) ∷ [])
unfolding unit_rows declare_block blocks_of declaration_answers standard_names
answers_are = refl
