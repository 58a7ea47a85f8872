-- A unit, with what its declarations give. Names are numbered from 28 on as they come here.
--
-- M.mod:
--     MODULE M; FROM C IMPORT Shape, Again; FROM D IMPORT Mine, w; VAR x0: Shape; VAR x1: Shape; VAR x2: Shape;
--     PROCEDURE P(p: Shape): Shape; BEGIN CASE p OF c8: p := MAX(Shape) ELSE END; FOR p := c10 TO c3 DO HALT END; IF
--     p > c8 THEN INC(p) END; CASE p OF c3: p := MAX(Shape) ELSE END; RETURN c8 END P; BEGIN FOR x1 := c10 TO c10 DO
--     HALT END END M.
--
-- C.def:
--     DEFINITION MODULE C; TYPE Color = (c11, c5, c9); TYPE Shape = (c10, c2, c3, c8); TYPE Mood = (c1); TYPE Again =
--     Shape; END C.
--
-- D.def:
--     DEFINITION MODULE D; FROM C IMPORT Shape; TYPE Mine = Shape; VAR w: Mine; END D.
use Rattle.std.specs.Prelude.{◌≡◌, pos, false, List, [], ◌∷◌, ◌++◌, Some, None}
use Rattle.std.proofs.Common.{refl}
use Rattle.m2_base.specs.Names.{standard_names}
use Rattle.m2_base.specs.Rows.{Row, numbers_row}
use Rattle.m2_base.specs.Standard.{standard_rows}
use Rattle.m2_base.specs.Statics.BlockRows.{declare_block}
use Rattle.m2_base.specs.Statics.Blocks.{UnitTrees, blocks_of}
use Rattle.m2_base.specs.Statics.UnitNotes.{declaration_diags, declaration_answers}
use Rattle.m2_base.specs.Statics.UnitRows.{unit_rows}
use Rattle.m2_base.specs.Trees.{Stream, Main, Definition, Procedure, type_expr, named_type, enum_type, type_decl, vars_decl, proc_decl, statements}
use Rattle.m2_base.proofs.UnitTerms.{ident, qual, section, heading, an_import, stream, definition_module, sorted_diags, sorted_answers}

abbrev tree_1 : Stream
tree_1 = stream Definition false (Some (ident 28 2)) ([]) None ((type_decl (ident 34 5) (Some (type_expr 7 (enum_type ((ident 35 8) ∷ (ident 36 10) ∷ (ident 37 12) ∷ []))))) ∷ (type_decl (ident 29 16) (Some (type_expr 18 (enum_type ((ident 38 19) ∷ (ident 39 21) ∷ (ident 40 23) ∷ (ident 41 25) ∷ []))))) ∷ (type_decl (ident 42 29) (Some (type_expr 31 (enum_type ((ident 43 32) ∷ []))))) ∷ (type_decl (ident 30 36) (Some (type_expr 38 (named_type (qual (ident 29 38) None))))) ∷ []) (statements []) (ident 28 41)

abbrev tree_2 : Stream
tree_2 = stream Definition false (Some (ident 31 2)) ((an_import (Some (ident 28 5)) ((ident 29 7) ∷ [])) ∷ []) None ((type_decl (ident 32 10) (Some (type_expr 12 (named_type (qual (ident 29 12) None))))) ∷ (vars_decl ((ident 33 15) ∷ []) (type_expr 17 (named_type (qual (ident 32 17) None)))) ∷ []) (statements []) (ident 31 20)

abbrev tree_3 : Stream
tree_3 = stream Main false (Some (ident 44 1)) ((an_import (Some (ident 28 4)) ((ident 29 6) ∷ (ident 30 8) ∷ [])) ∷ (an_import (Some (ident 31 11)) ((ident 32 13) ∷ (ident 33 15) ∷ [])) ∷ []) None ((vars_decl ((ident 45 18) ∷ []) (type_expr 20 (named_type (qual (ident 29 20) None)))) ∷ (vars_decl ((ident 46 23) ∷ []) (type_expr 25 (named_type (qual (ident 29 25) None)))) ∷ (vars_decl ((ident 47 28) ∷ []) (type_expr 30 (named_type (qual (ident 29 30) None)))) ∷ (proc_decl (heading (ident 48 33) ((section false ((ident 49 35) ∷ []) false (qual (ident 29 37) None)) ∷ []) (Some (qual (ident 29 40) None))) 4) ∷ []) (statements []) (ident 44 108)

abbrev tree_4 : Stream
tree_4 = stream Procedure false None [] (Some (heading (ident 48 33) ((section false ((ident 49 35) ∷ []) false (qual (ident 29 37) None)) ∷ []) (Some (qual (ident 29 40) None)))) ([]) (statements []) (ident 48 95)

abbrev rows_1 : List Row
rows_1 = ((numbers_row 0 7 11 (pos 3) (pos 0) (pos 0) (pos 0)) ∷ (numbers_row 35 8 1 (pos 4294967296) (pos 0) (pos 0) (pos 0)) ∷ (numbers_row 36 10 1 (pos 4294967296) (pos 1) (pos 0) (pos 0)) ∷ (numbers_row 37 12 1 (pos 4294967296) (pos 2) (pos 0) (pos 0)) ∷ (numbers_row 34 5 2 (pos 4294967296) (pos 0) (pos 0) (pos 0)) ∷ (numbers_row 0 18 11 (pos 4) (pos 0) (pos 0) (pos 0)) ∷ (numbers_row 38 19 1 (pos 4294967301) (pos 0) (pos 0) (pos 0)) ∷ (numbers_row 39 21 1 (pos 4294967301) (pos 1) (pos 0) (pos 0)) ∷ (numbers_row 40 23 1 (pos 4294967301) (pos 2) (pos 0) (pos 0)) ∷ (numbers_row 41 25 1 (pos 4294967301) (pos 3) (pos 0) (pos 0)) ∷ (numbers_row 29 16 2 (pos 4294967301) (pos 0) (pos 0) (pos 0)) ∷ (numbers_row 0 31 11 (pos 1) (pos 0) (pos 0) (pos 0)) ∷ (numbers_row 43 32 1 (pos 4294967307) (pos 0) (pos 0) (pos 0)) ∷ (numbers_row 42 29 2 (pos 4294967307) (pos 0) (pos 0) (pos 0)) ∷ (numbers_row 30 36 2 (pos 4294967301) (pos 0) (pos 0) (pos 0)) ∷ [])

abbrev rows_2 : List Row
rows_2 = ((numbers_row 29 7 6 (pos 4294967306) (pos 0) (pos 0) (pos 0)) ∷ (numbers_row 38 7 6 (pos 4294967302) (pos 0) (pos 0) (pos 0)) ∷ (numbers_row 39 7 6 (pos 4294967303) (pos 0) (pos 0) (pos 0)) ∷ (numbers_row 40 7 6 (pos 4294967304) (pos 0) (pos 0) (pos 0)) ∷ (numbers_row 41 7 6 (pos 4294967305) (pos 0) (pos 0) (pos 0)) ∷ (numbers_row 32 10 2 (pos 4294967301) (pos 0) (pos 0) (pos 0)) ∷ (numbers_row 33 15 3 (pos 4294967301) (pos 0) (pos 0) (pos 0)) ∷ [])

abbrev rows_3 : List Row
rows_3 = ((numbers_row 29 6 6 (pos 4294967306) (pos 0) (pos 0) (pos 0)) ∷ (numbers_row 38 6 6 (pos 4294967302) (pos 0) (pos 0) (pos 0)) ∷ (numbers_row 39 6 6 (pos 4294967303) (pos 0) (pos 0) (pos 0)) ∷ (numbers_row 40 6 6 (pos 4294967304) (pos 0) (pos 0) (pos 0)) ∷ (numbers_row 41 6 6 (pos 4294967305) (pos 0) (pos 0) (pos 0)) ∷ (numbers_row 30 8 6 (pos 4294967310) (pos 0) (pos 0) (pos 0)) ∷ (numbers_row 32 13 6 (pos 8589934597) (pos 0) (pos 0) (pos 0)) ∷ (numbers_row 33 15 6 (pos 8589934598) (pos 0) (pos 0) (pos 0)) ∷ (numbers_row 45 18 3 (pos 4294967301) (pos 0) (pos 0) (pos 0)) ∷ (numbers_row 46 23 3 (pos 4294967301) (pos 0) (pos 1) (pos 0)) ∷ (numbers_row 47 28 3 (pos 4294967301) (pos 0) (pos 2) (pos 0)) ∷ (numbers_row 0 35 8 (pos 4294967301) (pos 0) (pos 12) (pos 0)) ∷ (numbers_row 0 33 18 (pos 4294967301) (pos 1) (pos 11) (pos 0)) ∷ (numbers_row 48 33 4 (pos 12884901900) (pos 1) (pos 4) (pos 0)) ∷ [])

abbrev rows_4 : List Row
rows_4 = ((numbers_row 49 35 3 (pos 4294967301) (pos 0) (pos 0) (pos 0)) ∷ [])

abbrev unit : UnitTrees
unit = record {
  source = record { spellings = standard_names ++ ((67 ∷ []) ∷ (83 ∷ 104 ∷ 97 ∷ 112 ∷ 101 ∷ []) ∷ (65 ∷ 103 ∷ 97 ∷ 105 ∷ 110 ∷ []) ∷ (68 ∷ []) ∷ (77 ∷ 105 ∷ 110 ∷ 101 ∷ []) ∷ (119 ∷ []) ∷ (67 ∷ 111 ∷ 108 ∷ 111 ∷ 114 ∷ []) ∷ (99 ∷ 49 ∷ 49 ∷ []) ∷ (99 ∷ 53 ∷ []) ∷ (99 ∷ 57 ∷ []) ∷ (99 ∷ 49 ∷ 48 ∷ []) ∷ (99 ∷ 50 ∷ []) ∷ (99 ∷ 51 ∷ []) ∷ (99 ∷ 56 ∷ []) ∷ (77 ∷ 111 ∷ 111 ∷ 100 ∷ []) ∷ (99 ∷ 49 ∷ []) ∷ (77 ∷ []) ∷ (120 ∷ 48 ∷ []) ∷ (120 ∷ 49 ∷ []) ∷ (120 ∷ 50 ∷ []) ∷ (80 ∷ []) ∷ (112 ∷ []) ∷ []); definitions = ((definition_module 28 1) ∷ (definition_module 31 2) ∷ []) };
  own = None;
  definitions = (tree_1 ∷ tree_2 ∷ []);
  main = (tree_3 ∷ tree_4 ∷ []);
}

pub rows_are : unit_rows unit ≡ standard_rows ∷ (rows_1 ∷ rows_2 ∷ rows_3 ∷ rows_4 ∷ [])
unfolding unit_rows declare_block blocks_of standard_names
rows_are = refl

pub diagnostics_are : sorted_diags (declaration_diags unit) ≡ ([])
unfolding unit_rows declare_block blocks_of declaration_diags standard_names
diagnostics_are = refl

pub answers_are : sorted_answers (declaration_answers unit) ≡ ((6 ∷ 1 ∷ 10 ∷ []) ∷ (7 ∷ 1 ∷ 10 ∷ []) ∷ (8 ∷ 1 ∷ 14 ∷ []) ∷ (12 ∷ 2 ∷ 0 ∷ []) ∷ (13 ∷ 2 ∷ 5 ∷ []) ∷ (15 ∷ 2 ∷ 6 ∷ []) ∷ (17 ∷ 2 ∷ 5 ∷ []) ∷ (20 ∷ 3 ∷ 0 ∷ []) ∷ (25 ∷ 3 ∷ 0 ∷ []) ∷ (30 ∷ 3 ∷ 0 ∷ []) ∷ (37 ∷ 3 ∷ 0 ∷ []) ∷ (38 ∷ 1 ∷ 10 ∷ []) ∷ (40 ∷ 3 ∷ 0 ∷ []) ∷ [])
unfolding unit_rows declare_block blocks_of declaration_answers standard_names
answers_are = refl
