-- A unit, with what its declarations give. Names are numbered from 28 on as they come here.
--
-- M.mod:
--     MODULE M; FROM C IMPORT Mood, Again; FROM D IMPORT Mine, w; VAR x0: Mood; VAR x1: Mood; PROCEDURE P(p: Mood):
--     Mood; BEGIN FOR p := c3 TO c0 DO HALT END; p := c0; CASE p OF c3: p := MAX(Mood) ELSE END; RETURN c2 END P;
--     BEGIN IF x1 > c3 THEN INC(x1) END; x1 := c2; FOR x0 := c3 TO c0 DO HALT END END M.
--
-- C.def:
--     DEFINITION MODULE C; TYPE Color = (c1, c8, c11); TYPE Shape = (c9, c6, c10); TYPE Mood = (c3, c2, c0); TYPE
--     Again = Shape; END C.
--
-- D.def:
--     DEFINITION MODULE D; FROM C IMPORT Shape; TYPE Mine = Shape; VAR w: Mine; END D.
use Rattle.std.specs.Prelude.{◌≡◌, pos, false, List, [], ◌∷◌, ◌++◌, Some, None}
use Rattle.std.proofs.Common.{refl}
use Rattle.m2_base.specs.Names.{standard_names}
use Rattle.m2_base.specs.Rows.{Row, numbers_row}
use Rattle.m2_base.specs.Standard.{standard_rows}
use Rattle.m2_base.specs.Statics.BlockRows.{declare_block}
use Rattle.m2_base.specs.Statics.Blocks.{UnitTrees, blocks_of}
use Rattle.m2_base.specs.Statics.UnitNotes.{declaration_diags, declaration_answers}
use Rattle.m2_base.specs.Statics.UnitRows.{unit_rows}
use Rattle.m2_base.specs.Trees.{Stream, Main, Definition, Procedure, type_expr, named_type, enum_type, type_decl, vars_decl, proc_decl, statements}
use Rattle.m2_base.proofs.UnitTerms.{ident, qual, section, heading, an_import, stream, definition_module, sorted_diags, sorted_answers}

abbrev tree_1 : Stream
tree_1 = stream Definition false (Some (ident 28 2)) ([]) None ((type_decl (ident 35 5) (Some (type_expr 7 (enum_type ((ident 36 8) ∷ (ident 37 10) ∷ (ident 38 12) ∷ []))))) ∷ (type_decl (ident 34 16) (Some (type_expr 18 (enum_type ((ident 39 19) ∷ (ident 40 21) ∷ (ident 41 23) ∷ []))))) ∷ (type_decl (ident 29 27) (Some (type_expr 29 (enum_type ((ident 42 30) ∷ (ident 43 32) ∷ (ident 44 34) ∷ []))))) ∷ (type_decl (ident 30 38) (Some (type_expr 40 (named_type (qual (ident 34 40) None))))) ∷ []) (statements []) (ident 28 43)

abbrev tree_2 : Stream
tree_2 = stream Definition false (Some (ident 31 2)) ((an_import (Some (ident 28 5)) ((ident 34 7) ∷ [])) ∷ []) None ((type_decl (ident 32 10) (Some (type_expr 12 (named_type (qual (ident 34 12) None))))) ∷ (vars_decl ((ident 33 15) ∷ []) (type_expr 17 (named_type (qual (ident 32 17) None)))) ∷ []) (statements []) (ident 31 20)

abbrev tree_3 : Stream
tree_3 = stream Main false (Some (ident 45 1)) ((an_import (Some (ident 28 4)) ((ident 29 6) ∷ (ident 30 8) ∷ [])) ∷ (an_import (Some (ident 31 11)) ((ident 32 13) ∷ (ident 33 15) ∷ [])) ∷ []) None ((vars_decl ((ident 46 18) ∷ []) (type_expr 20 (named_type (qual (ident 29 20) None)))) ∷ (vars_decl ((ident 47 23) ∷ []) (type_expr 25 (named_type (qual (ident 29 25) None)))) ∷ (proc_decl (heading (ident 48 28) ((section false ((ident 49 30) ∷ []) false (qual (ident 29 32) None)) ∷ []) (Some (qual (ident 29 35) None))) 4) ∷ []) (statements []) (ident 45 97)

abbrev tree_4 : Stream
tree_4 = stream Procedure false None [] (Some (heading (ident 48 28) ((section false ((ident 49 30) ∷ []) false (qual (ident 29 32) None)) ∷ []) (Some (qual (ident 29 35) None)))) ([]) (statements []) (ident 48 69)

abbrev rows_1 : List Row
rows_1 = ((numbers_row 0 7 11 (pos 3) (pos 0) (pos 0) (pos 0)) ∷ (numbers_row 36 8 1 (pos 4294967296) (pos 0) (pos 0) (pos 0)) ∷ (numbers_row 37 10 1 (pos 4294967296) (pos 1) (pos 0) (pos 0)) ∷ (numbers_row 38 12 1 (pos 4294967296) (pos 2) (pos 0) (pos 0)) ∷ (numbers_row 35 5 2 (pos 4294967296) (pos 0) (pos 0) (pos 0)) ∷ (numbers_row 0 18 11 (pos 3) (pos 0) (pos 0) (pos 0)) ∷ (numbers_row 39 19 1 (pos 4294967301) (pos 0) (pos 0) (pos 0)) ∷ (numbers_row 40 21 1 (pos 4294967301) (pos 1) (pos 0) (pos 0)) ∷ (numbers_row 41 23 1 (pos 4294967301) (pos 2) (pos 0) (pos 0)) ∷ (numbers_row 34 16 2 (pos 4294967301) (pos 0) (pos 0) (pos 0)) ∷ (numbers_row 0 29 11 (pos 3) (pos 0) (pos 0) (pos 0)) ∷ (numbers_row 42 30 1 (pos 4294967306) (pos 0) (pos 0) (pos 0)) ∷ (numbers_row 43 32 1 (pos 4294967306) (pos 1) (pos 0) (pos 0)) ∷ (numbers_row 44 34 1 (pos 4294967306) (pos 2) (pos 0) (pos 0)) ∷ (numbers_row 29 27 2 (pos 4294967306) (pos 0) (pos 0) (pos 0)) ∷ (numbers_row 30 38 2 (pos 4294967301) (pos 0) (pos 0) (pos 0)) ∷ [])

abbrev rows_2 : List Row
rows_2 = ((numbers_row 34 7 6 (pos 4294967305) (pos 0) (pos 0) (pos 0)) ∷ (numbers_row 39 7 6 (pos 4294967302) (pos 0) (pos 0) (pos 0)) ∷ (numbers_row 40 7 6 (pos 4294967303) (pos 0) (pos 0) (pos 0)) ∷ (numbers_row 41 7 6 (pos 4294967304) (pos 0) (pos 0) (pos 0)) ∷ (numbers_row 32 10 2 (pos 4294967301) (pos 0) (pos 0) (pos 0)) ∷ (numbers_row 33 15 3 (pos 4294967301) (pos 0) (pos 0) (pos 0)) ∷ [])

abbrev rows_3 : List Row
rows_3 = ((numbers_row 29 6 6 (pos 4294967310) (pos 0) (pos 0) (pos 0)) ∷ (numbers_row 42 6 6 (pos 4294967307) (pos 0) (pos 0) (pos 0)) ∷ (numbers_row 43 6 6 (pos 4294967308) (pos 0) (pos 0) (pos 0)) ∷ (numbers_row 44 6 6 (pos 4294967309) (pos 0) (pos 0) (pos 0)) ∷ (numbers_row 30 8 6 (pos 4294967311) (pos 0) (pos 0) (pos 0)) ∷ (numbers_row 39 8 6 (pos 4294967302) (pos 0) (pos 0) (pos 0)) ∷ (numbers_row 40 8 6 (pos 4294967303) (pos 0) (pos 0) (pos 0)) ∷ (numbers_row 41 8 6 (pos 4294967304) (pos 0) (pos 0) (pos 0)) ∷ (numbers_row 32 13 6 (pos 8589934596) (pos 0) (pos 0) (pos 0)) ∷ (numbers_row 33 15 6 (pos 8589934597) (pos 0) (pos 0) (pos 0)) ∷ (numbers_row 46 18 3 (pos 4294967306) (pos 0) (pos 0) (pos 0)) ∷ (numbers_row 47 23 3 (pos 4294967306) (pos 0) (pos 1) (pos 0)) ∷ (numbers_row 0 30 8 (pos 4294967306) (pos 0) (pos 13) (pos 0)) ∷ (numbers_row 0 28 18 (pos 4294967306) (pos 1) (pos 12) (pos 0)) ∷ (numbers_row 48 28 4 (pos 12884901901) (pos 1) (pos 4) (pos 0)) ∷ [])

abbrev rows_4 : List Row
rows_4 = ((numbers_row 49 30 3 (pos 4294967306) (pos 0) (pos 0) (pos 0)) ∷ [])

abbrev unit : UnitTrees
unit = record {
  source = record { spellings = standard_names ++ ((67 ∷ []) ∷ (77 ∷ 111 ∷ 111 ∷ 100 ∷ []) ∷ (65 ∷ 103 ∷ 97 ∷ 105 ∷ 110 ∷ []) ∷ (68 ∷ []) ∷ (77 ∷ 105 ∷ 110 ∷ 101 ∷ []) ∷ (119 ∷ []) ∷ (83 ∷ 104 ∷ 97 ∷ 112 ∷ 101 ∷ []) ∷ (67 ∷ 111 ∷ 108 ∷ 111 ∷ 114 ∷ []) ∷ (99 ∷ 49 ∷ []) ∷ (99 ∷ 56 ∷ []) ∷ (99 ∷ 49 ∷ 49 ∷ []) ∷ (99 ∷ 57 ∷ []) ∷ (99 ∷ 54 ∷ []) ∷ (99 ∷ 49 ∷ 48 ∷ []) ∷ (99 ∷ 51 ∷ []) ∷ (99 ∷ 50 ∷ []) ∷ (99 ∷ 48 ∷ []) ∷ (77 ∷ []) ∷ (120 ∷ 48 ∷ []) ∷ (120 ∷ 49 ∷ []) ∷ (80 ∷ []) ∷ (112 ∷ []) ∷ []); definitions = ((definition_module 28 1) ∷ (definition_module 31 2) ∷ []) };
  own = None;
  definitions = (tree_1 ∷ tree_2 ∷ []);
  main = (tree_3 ∷ tree_4 ∷ []);
}

pub rows_are : unit_rows unit ≡ standard_rows ∷ (rows_1 ∷ rows_2 ∷ rows_3 ∷ rows_4 ∷ [])
unfolding unit_rows declare_block blocks_of standard_names
rows_are = refl

pub diagnostics_are : sorted_diags (declaration_diags unit) ≡ ([])
unfolding unit_rows declare_block blocks_of declaration_diags standard_names
diagnostics_are = refl

pub answers_are : sorted_answers (declaration_answers unit) ≡ ((6 ∷ 1 ∷ 14 ∷ []) ∷ (7 ∷ 1 ∷ 9 ∷ []) ∷ (8 ∷ 1 ∷ 15 ∷ []) ∷ (12 ∷ 2 ∷ 0 ∷ []) ∷ (13 ∷ 2 ∷ 4 ∷ []) ∷ (15 ∷ 2 ∷ 5 ∷ []) ∷ (17 ∷ 2 ∷ 4 ∷ []) ∷ (20 ∷ 3 ∷ 0 ∷ []) ∷ (25 ∷ 3 ∷ 0 ∷ []) ∷ (32 ∷ 3 ∷ 0 ∷ []) ∷ (35 ∷ 3 ∷ 0 ∷ []) ∷ (40 ∷ 1 ∷ 9 ∷ []) ∷ [])
unfolding unit_rows declare_block blocks_of declaration_answers standard_names
answers_are = refl
