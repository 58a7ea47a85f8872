-- A unit, with what its declarations give. Names are numbered from 28 on as they come here.
--
-- M.mod:
--     MODULE M; FROM C IMPORT Few; VAR c: Few; BEGIN c := red END M.
--
-- C.def:
--     DEFINITION MODULE C; TYPE Color = (red, green, blue); Tint = Color; Few = [red..green]; Other = (a, b); VAR v:
--     Color; END C.
use Rattle.std.specs.Prelude.{◌≡◌, pos, false, List, [], ◌∷◌, ◌++◌, Some, None}
use Rattle.std.proofs.Common.{refl}
use Rattle.m2_base.specs.Names.{standard_names}
use Rattle.m2_base.specs.Rows.{Row, numbers_row}
use Rattle.m2_base.specs.Standard.{standard_rows}
use Rattle.m2_base.specs.Statics.BlockRows.{declare_block}
use Rattle.m2_base.specs.Statics.Blocks.{UnitTrees, blocks_of}
use Rattle.m2_base.specs.Statics.UnitNotes.{declaration_diags, declaration_answers}
use Rattle.m2_base.specs.Statics.UnitRows.{unit_rows}
use Rattle.m2_base.specs.Trees.{Stream, Main, Definition, expr, name_form, designator, selectors, type_expr, named_type, enum_type, sub_type, type_decl, vars_decl, statements}
use Rattle.m2_base.proofs.UnitTerms.{ident, qual, an_import, stream, definition_module, sorted_diags, sorted_answers}

abbrev tree_1 : Stream
tree_1 = stream Definition false (Some (ident 28 2)) ([]) None ((type_decl (ident 30 5) (Some (type_expr 7 (enum_type ((ident 31 8) ∷ (ident 32 10) ∷ (ident 33 12) ∷ []))))) ∷ (type_decl (ident 34 15) (Some (type_expr 17 (named_type (qual (ident 30 17) None))))) ∷ (type_decl (ident 29 19) (Some (type_expr 21 (sub_type None (expr 22 (name_form (designator (ident 31 22) (selectors ([]))))) (expr 24 (name_form (designator (ident 32 24) (selectors ([]))))))))) ∷ (type_decl (ident 35 27) (Some (type_expr 29 (enum_type ((ident 36 30) ∷ (ident 37 32) ∷ []))))) ∷ (vars_decl ((ident 38 36) ∷ []) (type_expr 38 (named_type (qual (ident 30 38) None)))) ∷ []) (statements []) (ident 28 41)

abbrev tree_2 : Stream
tree_2 = stream Main false (Some (ident 39 1)) ((an_import (Some (ident 28 4)) ((ident 29 6) ∷ [])) ∷ []) None ((vars_decl ((ident 40 9) ∷ []) (type_expr 11 (named_type (qual (ident 29 11) None)))) ∷ []) (statements []) (ident 39 18)

abbrev rows_1 : List Row
rows_1 = ((numbers_row 0 7 11 (pos 3) (pos 0) (pos 0) (pos 0)) ∷ (numbers_row 31 8 1 (pos 4294967296) (pos 0) (pos 0) (pos 0)) ∷ (numbers_row 32 10 1 (pos 4294967296) (pos 1) (pos 0) (pos 0)) ∷ (numbers_row 33 12 1 (pos 4294967296) (pos 2) (pos 0) (pos 0)) ∷ (numbers_row 30 5 2 (pos 4294967296) (pos 0) (pos 0) (pos 0)) ∷ (numbers_row 34 15 2 (pos 4294967296) (pos 0) (pos 0) (pos 0)) ∷ (numbers_row 0 21 12 (pos 4294967296) (pos 0) (pos 1) (pos 0)) ∷ (numbers_row 29 19 2 (pos 4294967302) (pos 0) (pos 0) (pos 0)) ∷ (numbers_row 0 29 11 (pos 2) (pos 0) (pos 0) (pos 0)) ∷ (numbers_row 36 30 1 (pos 4294967304) (pos 0) (pos 0) (pos 0)) ∷ (numbers_row 37 32 1 (pos 4294967304) (pos 1) (pos 0) (pos 0)) ∷ (numbers_row 35 27 2 (pos 4294967304) (pos 0) (pos 0) (pos 0)) ∷ (numbers_row 38 36 3 (pos 4294967296) (pos 0) (pos 0) (pos 0)) ∷ [])

abbrev rows_2 : List Row
rows_2 = ((numbers_row 29 6 6 (pos 4294967303) (pos 0) (pos 0) (pos 0)) ∷ (numbers_row 40 9 3 (pos 4294967302) (pos 0) (pos 0) (pos 0)) ∷ [])

abbrev unit : UnitTrees
unit = record {
  source = record { spellings = standard_names ++ ((67 ∷ []) ∷ (70 ∷ 101 ∷ 119 ∷ []) ∷ (67 ∷ 111 ∷ 108 ∷ 111 ∷ 114 ∷ []) ∷ (114 ∷ 101 ∷ 100 ∷ []) ∷ (103 ∷ 114 ∷ 101 ∷ 101 ∷ 110 ∷ []) ∷ (98 ∷ 108 ∷ 117 ∷ 101 ∷ []) ∷ (84 ∷ 105 ∷ 110 ∷ 116 ∷ []) ∷ (79 ∷ 116 ∷ 104 ∷ 101 ∷ 114 ∷ []) ∷ (97 ∷ []) ∷ (98 ∷ []) ∷ (118 ∷ []) ∷ (77 ∷ []) ∷ (99 ∷ []) ∷ []); definitions = ((definition_module 28 1) ∷ []) };
  own = None;
  definitions = (tree_1 ∷ []);
  main = (tree_2 ∷ []);
}

pub rows_are : unit_rows unit ≡ standard_rows ∷ (rows_1 ∷ rows_2 ∷ [])
unfolding unit_rows declare_block blocks_of standard_names
rows_are = refl

pub diagnostics_are : sorted_diags (declaration_diags unit) ≡ ([])
unfolding unit_rows declare_block blocks_of declaration_diags standard_names
diagnostics_are = refl

pub answers_are : sorted_answers (declaration_answers unit) ≡ ((6 ∷ 1 ∷ 7 ∷ []) ∷ (11 ∷ 2 ∷ 0 ∷ []) ∷ (17 ∷ 1 ∷ 4 ∷ []) ∷ (22 ∷ 1 ∷ 1 ∷ []) ∷ (24 ∷ 1 ∷ 2 ∷ []) ∷ (38 ∷ 1 ∷ 4 ∷ []) ∷ [])
unfolding unit_rows declare_block blocks_of declaration_answers standard_names
answers_are = refl
