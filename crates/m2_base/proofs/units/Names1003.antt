-- A unit, with what its declarations give. Names are numbered from 28 on as they come here.
--
-- M.mod:
--     MODULE M; FROM C IMPORT v; FROM D IMPORT Color, Tint; CONST red = ORD(blue); VAR x0: Color; VAR x1: Tint; BEGIN
--     IF x0 = two THEN x0 := two END; x1 := two; FOR x1 := red TO red DO END; x0 := VAL(Color, 0) END M.
--
-- C.def:
--     DEFINITION MODULE C; TYPE Other = (blue); TYPE Tint = (blue, one, red); VAR v: Tint; END C.
--
-- D.def:
--     DEFINITION MODULE D; FROM C IMPORT Other, v; TYPE Tint = SET OF v; TYPE Color = (red, two, blue); END D.
use Rattle.std.specs.Prelude.{◌≡◌, pos, false, List, [], ◌∷◌, ◌++◌, Some, None}
use Rattle.std.proofs.Common.{refl}
use Rattle.m2_base.specs.Names.{standard_names}
use Rattle.m2_base.specs.Rows.{Row, numbers_row}
use Rattle.m2_base.specs.Standard.{standard_rows}
use Rattle.m2_base.specs.Statics.BlockRows.{declare_block}
use Rattle.m2_base.specs.Statics.Blocks.{UnitTrees, blocks_of}
use Rattle.m2_base.specs.Statics.UnitNotes.{declaration_diags, declaration_answers}
use Rattle.m2_base.specs.Statics.UnitRows.{unit_rows}
use Rattle.m2_base.specs.Trees.{Stream, Main, Definition, expr, name_form, call_form, exprs, designator, selectors, type_expr, named_type, enum_type, set_type, const_decl, type_decl, vars_decl, statements}
use Rattle.m2_base.proofs.UnitTerms.{ident, qual, an_import, stream, definition_module, sorted_diags, sorted_answers}

abbrev tree_1 : Stream
tree_1 = stream Definition false (Some (ident 28 2)) ([]) None ((type_decl (ident 33 5) (Some (type_expr 7 (enum_type ((ident 34 8) ∷ []))))) ∷ (type_decl (ident 32 12) (Some (type_expr 14 (enum_type ((ident 34 15) ∷ (ident 35 17) ∷ (ident 36 19) ∷ []))))) ∷ (vars_decl ((ident 29 23) ∷ []) (type_expr 25 (named_type (qual (ident 32 25) None)))) ∷ []) (statements []) (ident 28 28)

abbrev tree_2 : Stream
tree_2 = stream Definition false (Some (ident 30 2)) ((an_import (Some (ident 28 5)) ((ident 33 7) ∷ (ident 29 9) ∷ [])) ∷ []) None ((type_decl (ident 32 12) (Some (type_expr 14 (set_type (type_expr 16 (named_type (qual (ident 29 16) None))))))) ∷ (type_decl (ident 31 19) (Some (type_expr 21 (enum_type ((ident 36 22) ∷ (ident 37 24) ∷ (ident 34 26) ∷ []))))) ∷ []) (statements []) (ident 30 30)

abbrev tree_3 : Stream
tree_3 = stream Main false (Some (ident 38 1)) ((an_import (Some (ident 28 4)) ((ident 29 6) ∷ [])) ∷ (an_import (Some (ident 30 9)) ((ident 31 11) ∷ (ident 32 13) ∷ [])) ∷ []) None ((const_decl (ident 36 16) (expr 18 (call_form (designator (ident 24 18) (selectors ([]))) (exprs ((expr 20 (name_form (designator (ident 34 20) (selectors ([]))))) ∷ []))))) ∷ (vars_decl ((ident 39 24) ∷ []) (type_expr 26 (named_type (qual (ident 31 26) None)))) ∷ (vars_decl ((ident 40 29) ∷ []) (type_expr 31 (named_type (qual (ident 32 31) None)))) ∷ []) (statements []) (ident 38 66)

abbrev rows_1 : List Row
rows_1 = ((numbers_row 0 7 11 (pos 1) (pos 0) (pos 0) (pos 0)) ∷ (numbers_row 34 8 1 (pos 4294967296) (pos 0) (pos 0) (pos 0)) ∷ (numbers_row 33 5 2 (pos 4294967296) (pos 0) (pos 0) (pos 0)) ∷ (numbers_row 0 14 11 (pos 3) (pos 0) (pos 0) (pos 0)) ∷ (numbers_row 0 15 1 (pos 4294967299) (pos 0) (pos 0) (pos 0)) ∷ (numbers_row 35 17 1 (pos 4294967299) (pos 1) (pos 0) (pos 0)) ∷ (numbers_row 36 19 1 (pos 4294967299) (pos 2) (pos 0) (pos 0)) ∷ (numbers_row 32 12 2 (pos 4294967299) (pos 0) (pos 0) (pos 0)) ∷ (numbers_row 29 23 3 (pos 4294967299) (pos 0) (pos 0) (pos 0)) ∷ [])

abbrev rows_2 : List Row
rows_2 = ((numbers_row 33 7 6 (pos 4294967298) (pos 0) (pos 0) (pos 0)) ∷ (numbers_row 34 7 6 (pos 4294967297) (pos 0) (pos 0) (pos 0)) ∷ (numbers_row 29 9 6 (pos 4294967304) (pos 0) (pos 0) (pos 0)) ∷ (numbers_row 0 14 16 (pos 10) (pos 0) (pos 0) (pos 0)) ∷ (numbers_row 32 12 2 (pos 8589934595) (pos 0) (pos 0) (pos 0)) ∷ (numbers_row 0 21 11 (pos 3) (pos 0) (pos 0) (pos 0)) ∷ (numbers_row 36 22 1 (pos 8589934597) (pos 0) (pos 0) (pos 0)) ∷ (numbers_row 37 24 1 (pos 8589934597) (pos 1) (pos 0) (pos 0)) ∷ (numbers_row 0 26 1 (pos 8589934597) (pos 2) (pos 0) (pos 0)) ∷ (numbers_row 31 19 2 (pos 8589934597) (pos 0) (pos 0) (pos 0)) ∷ [])

abbrev rows_3 : List Row
rows_3 = ((numbers_row 29 6 6 (pos 4294967304) (pos 0) (pos 0) (pos 0)) ∷ (numbers_row 31 11 6 (pos 8589934601) (pos 0) (pos 0) (pos 0)) ∷ (numbers_row 36 11 6 (pos 8589934598) (pos 0) (pos 0) (pos 0)) ∷ (numbers_row 37 11 6 (pos 8589934599) (pos 0) (pos 0) (pos 0)) ∷ (numbers_row 32 13 6 (pos 8589934596) (pos 0) (pos 0) (pos 0)) ∷ (numbers_row 0 16 1 (pos 10) (pos 0) (pos 0) (pos 0)) ∷ (numbers_row 39 24 3 (pos 8589934597) (pos 0) (pos 0) (pos 0)) ∷ (numbers_row 40 29 3 (pos 8589934595) (pos 0) (pos 1) (pos 0)) ∷ [])

abbrev unit : UnitTrees
unit = record {
  source = record { spellings = standard_names ++ ((67 ∷ []) ∷ (118 ∷ []) ∷ (68 ∷ []) ∷ (67 ∷ 111 ∷ 108 ∷ 111 ∷ 114 ∷ []) ∷ (84 ∷ 105 ∷ 110 ∷ 116 ∷ []) ∷ (79 ∷ 116 ∷ 104 ∷ 101 ∷ 114 ∷ []) ∷ (98 ∷ 108 ∷ 117 ∷ 101 ∷ []) ∷ (111 ∷ 110 ∷ 101 ∷ []) ∷ (114 ∷ 101 ∷ 100 ∷ []) ∷ (116 ∷ 119 ∷ 111 ∷ []) ∷ (77 ∷ []) ∷ (120 ∷ 48 ∷ []) ∷ (120 ∷ 49 ∷ []) ∷ []); definitions = ((definition_module 28 1) ∷ (definition_module 30 2) ∷ []) };
  own = None;
  definitions = (tree_1 ∷ tree_2 ∷ []);
  main = (tree_3 ∷ []);
}

pub rows_are : unit_rows unit ≡ standard_rows ∷ (rows_1 ∷ rows_2 ∷ rows_3 ∷ [])
unfolding unit_rows declare_block blocks_of standard_names
rows_are = refl

pub diagnostics_are : sorted_diags (declaration_diags unit) ≡ ((0 ∷ 16 ∷ 42 ∷ []) ∷ (0 ∷ 20 ∷ 40 ∷ []) ∷ (1 ∷ 15 ∷ 42 ∷ []) ∷ (2 ∷ 16 ∷ 45 ∷ []) ∷ (2 ∷ 26 ∷ 42 ∷ []) ∷ [])
unfolding unit_rows declare_block blocks_of declaration_diags standard_names
diagnostics_are = refl

pub answers_are : sorted_answers (declaration_answers unit) ≡ ((6 ∷ 1 ∷ 8 ∷ []) ∷ (7 ∷ 1 ∷ 2 ∷ []) ∷ (9 ∷ 1 ∷ 8 ∷ []) ∷ (11 ∷ 2 ∷ 9 ∷ []) ∷ (13 ∷ 2 ∷ 4 ∷ []) ∷ (16 ∷ 2 ∷ 2 ∷ []) ∷ (25 ∷ 1 ∷ 7 ∷ []) ∷ (26 ∷ 3 ∷ 1 ∷ []) ∷ (31 ∷ 3 ∷ 4 ∷ []) ∷ [])
unfolding unit_rows declare_block blocks_of declaration_answers standard_names
answers_are = refl
