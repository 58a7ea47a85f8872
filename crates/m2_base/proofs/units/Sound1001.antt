-- A unit, with what its declarations give. Names are numbered from 28 on as they come here.
--
-- M.mod:
--     MODULE M; FROM C IMPORT Shape, Mood; FROM D IMPORT Mine, w; VAR x0: Mood; VAR x1: Shape; VAR a: ARRAY Shape OF
--     INTEGER; s: SET OF Shape; PROCEDURE P(p: Shape): Shape; BEGIN FOR p := c2 TO c10 DO HALT END; RETURN c6 END P;
--     BEGIN a[c2] := ORD(c2); INCL(s, c2); a[c5] := ORD(c5); INCL(s, c5) END M.
--
-- C.def:
--     DEFINITION MODULE C; TYPE Color = (c3, c4, c9, c8); TYPE Shape = (c2, c6, c10, c5); TYPE Mood = (c11); TYPE
--     Again = Shape; END C.
--
-- D.def:
--     DEFINITION MODULE D; FROM C IMPORT Shape; TYPE Mine = Shape; VAR w: Mine; END D.
use Rattle.std.specs.Prelude.{◌≡◌, pos, false, List, [], ◌∷◌, ◌++◌, Some, None}
use Rattle.std.proofs.Common.{refl}
use Rattle.m2_base.specs.Names.{standard_names}
use Rattle.m2_base.specs.Rows.{Row, numbers_row}
use Rattle.m2_base.specs.Standard.{standard_rows}
use Rattle.m2_base.specs.Statics.BlockRows.{declare_block}
use Rattle.m2_base.specs.Statics.Blocks.{UnitTrees, blocks_of}
use Rattle.m2_base.specs.Statics.UnitNotes.{declaration_diags, declaration_answers}
use Rattle.m2_base.specs.Statics.UnitRows.{unit_rows}
use Rattle.m2_base.specs.Trees.{Stream, Main, Definition, Procedure, type_expr, named_type, enum_type, array_type, set_type, type_exprs, type_decl, vars_decl, proc_decl, statements}
use Rattle.m2_base.proofs.UnitTerms.{ident, qual, section, heading, an_import, stream, definition_module, sorted_diags, sorted_answers}

abbrev tree_1 : Stream
tree_1 = stream Definition false (Some (ident 28 2)) ([]) None ((type_decl (ident 34 5) (Some (type_expr 7 (enum_type ((ident 35 8) ∷ (ident 36 10) ∷ (ident 37 12) ∷ (ident 38 14) ∷ []))))) ∷ (type_decl (ident 29 18) (Some (type_expr 20 (enum_type ((ident 39 21) ∷ (ident 40 23) ∷ (ident 41 25) ∷ (ident 42 27) ∷ []))))) ∷ (type_decl (ident 30 31) (Some (type_expr 33 (enum_type ((ident 43 34) ∷ []))))) ∷ (type_decl (ident 44 38) (Some (type_expr 40 (named_type (qual (ident 29 40) None))))) ∷ []) (statements []) (ident 28 43)

abbrev tree_2 : Stream
tree_2 = stream Definition false (Some (ident 31 2)) ((an_import (Some (ident 28 5)) ((ident 29 7) ∷ [])) ∷ []) None ((type_decl (ident 32 10) (Some (type_expr 12 (named_type (qual (ident 29 12) None))))) ∷ (vars_decl ((ident 33 15) ∷ []) (type_expr 17 (named_type (qual (ident 32 17) None)))) ∷ []) (statements []) (ident 31 20)

abbrev tree_3 : Stream
tree_3 = stream Main false (Some (ident 45 1)) ((an_import (Some (ident 28 4)) ((ident 29 6) ∷ (ident 30 8) ∷ [])) ∷ (an_import (Some (ident 31 11)) ((ident 32 13) ∷ (ident 33 15) ∷ [])) ∷ []) None ((vars_decl ((ident 46 18) ∷ []) (type_expr 20 (named_type (qual (ident 30 20) None)))) ∷ (vars_decl ((ident 47 23) ∷ []) (type_expr 25 (named_type (qual (ident 29 25) None)))) ∷ (vars_decl ((ident 48 28) ∷ []) (type_expr 30 (array_type (type_exprs ((type_expr 31 (named_type (qual (ident 29 31) None))) ∷ [])) (type_expr 33 (named_type (qual (ident 1 33) None)))))) ∷ (vars_decl ((ident 49 35) ∷ []) (type_expr 37 (set_type (type_expr 39 (named_type (qual (ident 29 39) None)))))) ∷ (proc_decl (heading (ident 50 42) ((section false ((ident 51 44) ∷ []) false (qual (ident 29 46) None)) ∷ []) (Some (qual (ident 29 49) None))) 4) ∷ []) (statements []) (ident 45 102)

abbrev tree_4 : Stream
tree_4 = stream Procedure false None [] (Some (heading (ident 50 42) ((section false ((ident 51 44) ∷ []) false (qual (ident 29 46) None)) ∷ []) (Some (qual (ident 29 49) None)))) ([]) (statements []) (ident 50 65)

abbrev rows_1 : List Row
rows_1 = ((numbers_row 0 7 11 (pos 4) (pos 0) (pos 0) (pos 0)) ∷ (numbers_row 35 8 1 (pos 4294967296) (pos 0) (pos 0) (pos 0)) ∷ (numbers_row 36 10 1 (pos 4294967296) (pos 1) (pos 0) (pos 0)) ∷ (numbers_row 37 12 1 (pos 4294967296) (pos 2) (pos 0) (pos 0)) ∷ (numbers_row 38 14 1 (pos 4294967296) (pos 3) (pos 0) (pos 0)) ∷ (numbers_row 34 5 2 (pos 4294967296) (pos 0) (pos 0) (pos 0)) ∷ (numbers_row 0 20 11 (pos 4) (pos 0) (pos 0) (pos 0)) ∷ (numbers_row 39 21 1 (pos 4294967302) (pos 0) (pos 0) (pos 0)) ∷ (numbers_row 40 23 1 (pos 4294967302) (pos 1) (pos 0) (pos 0)) ∷ (numbers_row 41 25 1 (pos 4294967302) (pos 2) (pos 0) (pos 0)) ∷ (numbers_row 42 27 1 (pos 4294967302) (pos 3) (pos 0) (pos 0)) ∷ (numbers_row 29 18 2 (pos 4294967302) (pos 0) (pos 0) (pos 0)) ∷ (numbers_row 0 33 11 (pos 1) (pos 0) (pos 0) (pos 0)) ∷ (numbers_row 43 34 1 (pos 4294967308) (pos 0) (pos 0) (pos 0)) ∷ (numbers_row 30 31 2 (pos 4294967308) (pos 0) (pos 0) (pos 0)) ∷ (numbers_row 44 38 2 (pos 4294967302) (pos 0) (pos 0) (pos 0)) ∷ [])

abbrev rows_2 : List Row
rows_2 = ((numbers_row 29 7 6 (pos 4294967307) (pos 0) (pos 0) (pos 0)) ∷ (numbers_row 39 7 6 (pos 4294967303) (pos 0) (pos 0) (pos 0)) ∷ (numbers_row 40 7 6 (pos 4294967304) (pos 0) (pos 0) (pos 0)) ∷ (numbers_row 41 7 6 (pos 4294967305) (pos 0) (pos 0) (pos 0)) ∷ (numbers_row 42 7 6 (pos 4294967306) (pos 0) (pos 0) (pos 0)) ∷ (numbers_row 32 10 2 (pos 4294967302) (pos 0) (pos 0) (pos 0)) ∷ (numbers_row 33 15 3 (pos 4294967302) (pos 0) (pos 0) (pos 0)) ∷ [])

abbrev rows_3 : List Row
rows_3 = ((numbers_row 29 6 6 (pos 4294967307) (pos 0) (pos 0) (pos 0)) ∷ (numbers_row 39 6 6 (pos 4294967303) (pos 0) (pos 0) (pos 0)) ∷ (numbers_row 40 6 6 (pos 4294967304) (pos 0) (pos 0) (pos 0)) ∷ (numbers_row 41 6 6 (pos 4294967305) (pos 0) (pos 0) (pos 0)) ∷ (numbers_row 42 6 6 (pos 4294967306) (pos 0) (pos 0) (pos 0)) ∷ (numbers_row 30 8 6 (pos 4294967310) (pos 0) (pos 0) (pos 0)) ∷ (numbers_row 43 8 6 (pos 4294967309) (pos 0) (pos 0) (pos 0)) ∷ (numbers_row 32 13 6 (pos 8589934597) (pos 0) (pos 0) (pos 0)) ∷ (numbers_row 33 15 6 (pos 8589934598) (pos 0) (pos 0) (pos 0)) ∷ (numbers_row 46 18 3 (pos 4294967308) (pos 0) (pos 0) (pos 0)) ∷ (numbers_row 47 23 3 (pos 4294967302) (pos 0) (pos 1) (pos 0)) ∷ (numbers_row 0 30 13 (pos 4294967302) (pos 0) (pos 4) (pos 0)) ∷ (numbers_row 48 28 3 (pos 12884901899) (pos 0) (pos 2) (pos 0)) ∷ (numbers_row 0 37 16 (pos 4294967302) (pos 0) (pos 0) (pos 0)) ∷ (numbers_row 49 35 3 (pos 12884901901) (pos 0) (pos 6) (pos 0)) ∷ (numbers_row 0 44 8 (pos 4294967302) (pos 0) (pos 16) (pos 0)) ∷ (numbers_row 0 42 18 (pos 4294967302) (pos 1) (pos 15) (pos 0)) ∷ (numbers_row 50 42 4 (pos 12884901904) (pos 1) (pos 4) (pos 0)) ∷ [])

abbrev rows_4 : List Row
rows_4 = ((numbers_row 51 44 3 (pos 4294967302) (pos 0) (pos 0) (pos 0)) ∷ [])

abbrev unit : UnitTrees
unit = record {
  source = record { spellings = standard_names ++ ((67 ∷ []) ∷ (83 ∷ 104 ∷ 97 ∷ 112 ∷ 101 ∷ []) ∷ (77 ∷ 111 ∷ 111 ∷ 100 ∷ []) ∷ (68 ∷ []) ∷ (77 ∷ 105 ∷ 110 ∷ 101 ∷ []) ∷ (119 ∷ []) ∷ (67 ∷ 111 ∷ 108 ∷ 111 ∷ 114 ∷ []) ∷ (99 ∷ 51 ∷ []) ∷ (99 ∷ 52 ∷ []) ∷ (99 ∷ 57 ∷ []) ∷ (99 ∷ 56 ∷ []) ∷ (99 ∷ 50 ∷ []) ∷ (99 ∷ 54 ∷ []) ∷ (99 ∷ 49 ∷ 48 ∷ []) ∷ (99 ∷ 53 ∷ []) ∷ (99 ∷ 49 ∷ 49 ∷ []) ∷ (65 ∷ 103 ∷ 97 ∷ 105 ∷ 110 ∷ []) ∷ (77 ∷ []) ∷ (120 ∷ 48 ∷ []) ∷ (120 ∷ 49 ∷ []) ∷ (97 ∷ []) ∷ (115 ∷ []) ∷ (80 ∷ []) ∷ (112 ∷ []) ∷ []); definitions = ((definition_module 28 1) ∷ (definition_module 31 2) ∷ []) };
  own = None;
  definitions = (tree_1 ∷ tree_2 ∷ []);
  main = (tree_3 ∷ tree_4 ∷ []);
}

pub rows_are : unit_rows unit ≡ standard_rows ∷ (rows_1 ∷ rows_2 ∷ rows_3 ∷ rows_4 ∷ [])
unfolding unit_rows declare_block blocks_of standard_names
rows_are = refl

pub diagnostics_are : sorted_diags (declaration_diags unit) ≡ ([])
unfolding unit_rows declare_block blocks_of declaration_diags standard_names
diagnostics_are = refl

pub answers_are : sorted_answers (declaration_answers unit) ≡ ((6 ∷ 1 ∷ 11 ∷ []) ∷ (7 ∷ 1 ∷ 11 ∷ []) ∷ (8 ∷ 1 ∷ 14 ∷ []) ∷ (12 ∷ 2 ∷ 0 ∷ []) ∷ (13 ∷ 2 ∷ 5 ∷ []) ∷ (15 ∷ 2 ∷ 6 ∷ []) ∷ (17 ∷ 2 ∷ 5 ∷ []) ∷ (20 ∷ 3 ∷ 5 ∷ []) ∷ (25 ∷ 3 ∷ 0 ∷ []) ∷ (31 ∷ 3 ∷ 0 ∷ []) ∷ (39 ∷ 3 ∷ 0 ∷ []) ∷ (40 ∷ 1 ∷ 11 ∷ []) ∷ (46 ∷ 3 ∷ 0 ∷ []) ∷ (49 ∷ 3 ∷ 0 ∷ []) ∷ [])
unfolding unit_rows declare_block blocks_of declaration_answers standard_names
answers_are = refl
