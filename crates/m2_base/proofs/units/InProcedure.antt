-- A unit, with what its declarations give. Names are numbered from 28 on as they come here.
--
-- M.mod:
--     MODULE M; FROM C IMPORT Color; PROCEDURE P(c: Color): Color; VAR red: Color; BEGIN red := green; RETURN red END
--     P; END M.
--
-- C.def:
--     DEFINITION MODULE C; TYPE Color = (red, green, blue); Tint = Color; Few = [red..green]; Other = (a, b); VAR v:
--     Color; END C.
use Rattle.std.specs.Prelude.{◌≡◌, pos, false, List, [], ◌∷◌, ◌++◌, Some, None}
use Rattle.std.proofs.Common.{refl}
use Rattle.m2_base.specs.Names.{standard_names}
use Rattle.m2_base.specs.Rows.{Row, numbers_row}
use Rattle.m2_base.specs.Standard.{standard_rows}
use Rattle.m2_base.specs.Statics.BlockRows.{declare_block}
use Rattle.m2_base.specs.Statics.Blocks.{UnitTrees, blocks_of}
use Rattle.m2_base.specs.Statics.UnitNotes.{declaration_diags, declaration_answers}
use Rattle.m2_base.specs.Statics.UnitRows.{unit_rows}
use Rattle.m2_base.specs.Trees.{Stream, Main, Definition, Procedure, expr, name_form, designator, selectors, type_expr, named_type, enum_type, sub_type, type_decl, vars_decl, proc_decl, statements}
use Rattle.m2_base.proofs.UnitTerms.{ident, qual, section, heading, an_import, stream, definition_module, sorted_diags, sorted_answers}

abbrev tree_1 : Stream
tree_1 = stream Definition false (Some (ident 28 2)) ([]) None ((type_decl (ident 29 5) (Some (type_expr 7 (enum_type ((ident 30 8) ∷ (ident 31 10) ∷ (ident 32 12) ∷ []))))) ∷ (type_decl (ident 33 15) (Some (type_expr 17 (named_type (qual (ident 29 17) None))))) ∷ (type_decl (ident 34 19) (Some (type_expr 21 (sub_type None (expr 22 (name_form (designator (ident 30 22) (selectors ([]))))) (expr 24 (name_form (designator (ident 31 24) (selectors ([]))))))))) ∷ (type_decl (ident 35 27) (Some (type_expr 29 (enum_type ((ident 36 30) ∷ (ident 37 32) ∷ []))))) ∷ (vars_decl ((ident 38 36) ∷ []) (type_expr 38 (named_type (qual (ident 29 38) None)))) ∷ []) (statements []) (ident 28 41)

abbrev tree_2 : Stream
tree_2 = stream Main false (Some (ident 39 1)) ((an_import (Some (ident 28 4)) ((ident 29 6) ∷ [])) ∷ []) None ((proc_decl (heading (ident 40 9) ((section false ((ident 41 11) ∷ []) false (qual (ident 29 13) None)) ∷ []) (Some (qual (ident 29 16) None))) 3) ∷ []) (statements []) (ident 39 34)

abbrev tree_3 : Stream
tree_3 = stream Procedure false None [] (Some (heading (ident 40 9) ((section false ((ident 41 11) ∷ []) false (qual (ident 29 13) None)) ∷ []) (Some (qual (ident 29 16) None)))) ((vars_decl ((ident 30 19) ∷ []) (type_expr 21 (named_type (qual (ident 29 21) None)))) ∷ []) (statements []) (ident 40 31)

abbrev rows_1 : List Row
rows_1 = ((numbers_row 0 7 11 (pos 3) (pos 0) (pos 0) (pos 0)) ∷ (numbers_row 30 8 1 (pos 4294967296) (pos 0) (pos 0) (pos 0)) ∷ (numbers_row 31 10 1 (pos 4294967296) (pos 1) (pos 0) (pos 0)) ∷ (numbers_row 32 12 1 (pos 4294967296) (pos 2) (pos 0) (pos 0)) ∷ (numbers_row 29 5 2 (pos 4294967296) (pos 0) (pos 0) (pos 0)) ∷ (numbers_row 33 15 2 (pos 4294967296) (pos 0) (pos 0) (pos 0)) ∷ (numbers_row 0 21 12 (pos 4294967296) (pos 0) (pos 1) (pos 0)) ∷ (numbers_row 34 19 2 (pos 4294967302) (pos 0) (pos 0) (pos 0)) ∷ (numbers_row 0 29 11 (pos 2) (pos 0) (pos 0) (pos 0)) ∷ (numbers_row 36 30 1 (pos 4294967304) (pos 0) (pos 0) (pos 0)) ∷ (numbers_row 37 32 1 (pos 4294967304) (pos 1) (pos 0) (pos 0)) ∷ (numbers_row 35 27 2 (pos 4294967304) (pos 0) (pos 0) (pos 0)) ∷ (numbers_row 38 36 3 (pos 4294967296) (pos 0) (pos 0) (pos 0)) ∷ [])

abbrev rows_2 : List Row
rows_2 = ((numbers_row 29 6 6 (pos 4294967300) (pos 0) (pos 0) (pos 0)) ∷ (numbers_row 30 6 6 (pos 4294967297) (pos 0) (pos 0) (pos 0)) ∷ (numbers_row 31 6 6 (pos 4294967298) (pos 0) (pos 0) (pos 0)) ∷ (numbers_row 32 6 6 (pos 4294967299) (pos 0) (pos 0) (pos 0)) ∷ (numbers_row 0 11 8 (pos 4294967296) (pos 0) (pos 5) (pos 0)) ∷ (numbers_row 0 9 18 (pos 4294967296) (pos 1) (pos 4) (pos 0)) ∷ (numbers_row 40 9 4 (pos 8589934597) (pos 1) (pos 3) (pos 0)) ∷ [])

abbrev rows_3 : List Row
rows_3 = ((numbers_row 41 11 3 (pos 4294967296) (pos 0) (pos 0) (pos 0)) ∷ (numbers_row 30 19 3 (pos 4294967296) (pos 0) (pos 1) (pos 0)) ∷ [])

abbrev unit : UnitTrees
unit = record {
  source = record { spellings = standard_names ++ ((67 ∷ []) ∷ (67 ∷ 111 ∷ 108 ∷ 111 ∷ 114 ∷ []) ∷ (114 ∷ 101 ∷ 100 ∷ []) ∷ (103 ∷ 114 ∷ 101 ∷ 101 ∷ 110 ∷ []) ∷ (98 ∷ 108 ∷ 117 ∷ 101 ∷ []) ∷ (84 ∷ 105 ∷ 110 ∷ 116 ∷ []) ∷ (70 ∷ 101 ∷ 119 ∷ []) ∷ (79 ∷ 116 ∷ 104 ∷ 101 ∷ 114 ∷ []) ∷ (97 ∷ []) ∷ (98 ∷ []) ∷ (118 ∷ []) ∷ (77 ∷ []) ∷ (80 ∷ []) ∷ (99 ∷ []) ∷ []); definitions = ((definition_module 28 1) ∷ []) };
  own = None;
  definitions = (tree_1 ∷ []);
  main = (tree_2 ∷ tree_3 ∷ []);
}

pub rows_are : unit_rows unit ≡ standard_rows ∷ (rows_1 ∷ rows_2 ∷ rows_3 ∷ [])
unfolding unit_rows declare_block blocks_of standard_names
rows_are = refl

pub diagnostics_are : sorted_diags (declaration_diags unit) ≡ ([])
unfolding unit_rows declare_block blocks_of declaration_diags standard_names
diagnostics_are = refl

pub answers_are : sorted_answers (declaration_answers unit) ≡ ((6 ∷ 1 ∷ 4 ∷ []) ∷ (13 ∷ 2 ∷ 0 ∷ []) ∷ (16 ∷ 2 ∷ 0 ∷ []) ∷ (17 ∷ 1 ∷ 4 ∷ []) ∷ (21 ∷ 2 ∷ 0 ∷ []) ∷ (22 ∷ 1 ∷ 1 ∷ []) ∷ (24 ∷ 1 ∷ 2 ∷ []) ∷ (38 ∷ 1 ∷ 4 ∷ []) ∷ [])
unfolding unit_rows declare_block blocks_of declaration_answers standard_names
answers_are = refl
