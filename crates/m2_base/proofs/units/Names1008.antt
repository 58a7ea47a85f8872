-- A unit, with what its declarations give. Names are numbered from 28 on as they come here.
--
-- M.mod:
--     MODULE M; IMPORT D; FROM C IMPORT Few; FROM E IMPORT Few; VAR two: Few; PROCEDURE P(p: Few); BEGIN INCL(two,
--     one); IF two = amber THEN two := amber END; IF two = one THEN two := one END; FOR two := green TO green DO END
--     END P; BEGIN INCL(two, amber) END M.
--
-- D.def:
--     DEFINITION MODULE D; FROM C IMPORT Few; TYPE Other = Few; END D.
--
-- C.def:
--     DEFINITION MODULE C; TYPE Few = (two); CONST k = 1; END C.
--
-- E.def:
--     DEFINITION MODULE E; FROM D IMPORT Other; TYPE Few = SET OF Other; END E.
use Rattle.std.specs.Prelude.{◌≡◌, pos, negsuc, false, List, [], ◌∷◌, ◌++◌, Some, None}
use Rattle.std.proofs.Common.{refl}
use Rattle.m2_base.specs.Names.{standard_names}
use Rattle.m2_base.specs.Rows.{Row, numbers_row}
use Rattle.m2_base.specs.Standard.{standard_rows}
use Rattle.m2_base.specs.Statics.BlockRows.{declare_block}
use Rattle.m2_base.specs.Statics.Blocks.{UnitTrees, blocks_of}
use Rattle.m2_base.specs.Statics.UnitNotes.{declaration_diags, declaration_answers}
use Rattle.m2_base.specs.Statics.UnitRows.{unit_rows}
use Rattle.m2_base.specs.Trees.{Stream, Main, Definition, Procedure, expr, number_form, type_expr, named_type, enum_type, set_type, const_decl, type_decl, vars_decl, proc_decl, statements}
use Rattle.m2_base.proofs.UnitTerms.{ident, qual, section, heading, an_import, stream, definition_module, sorted_diags, sorted_answers}

abbrev tree_1 : Stream
tree_1 = stream Definition false (Some (ident 29 2)) ([]) None ((type_decl (ident 30 5) (Some (type_expr 7 (enum_type ((ident 33 8) ∷ []))))) ∷ (const_decl (ident 34 12) (expr 14 (number_form 1))) ∷ []) (statements []) (ident 29 17)

abbrev tree_2 : Stream
tree_2 = stream Definition false (Some (ident 28 2)) ((an_import (Some (ident 29 5)) ((ident 30 7) ∷ [])) ∷ []) None ((type_decl (ident 32 10) (Some (type_expr 12 (named_type (qual (ident 30 12) None))))) ∷ []) (statements []) (ident 28 15)

abbrev tree_3 : Stream
tree_3 = stream Definition false (Some (ident 31 2)) ((an_import (Some (ident 28 5)) ((ident 32 7) ∷ [])) ∷ []) None ((type_decl (ident 30 10) (Some (type_expr 12 (set_type (type_expr 14 (named_type (qual (ident 32 14) None))))))) ∷ []) (statements []) (ident 31 17)

abbrev tree_4 : Stream
tree_4 = stream Main false (Some (ident 35 1)) ((an_import None ((ident 28 4) ∷ [])) ∷ (an_import (Some (ident 29 7)) ((ident 30 9) ∷ [])) ∷ (an_import (Some (ident 31 12)) ((ident 30 14) ∷ [])) ∷ []) None ((vars_decl ((ident 33 17) ∷ []) (type_expr 19 (named_type (qual (ident 30 19) None)))) ∷ (proc_decl (heading (ident 36 22) ((section false ((ident 37 24) ∷ []) false (qual (ident 30 26) None)) ∷ []) None) 5) ∷ []) (statements []) (ident 35 76)

abbrev tree_5 : Stream
tree_5 = stream Procedure false None [] (Some (heading (ident 36 22) ((section false ((ident 37 24) ∷ []) false (qual (ident 30 26) None)) ∷ []) None)) ([]) (statements []) (ident 36 66)

abbrev rows_1 : List Row
rows_1 = ((numbers_row 0 7 11 (pos 1) (pos 0) (pos 0) (pos 0)) ∷ (numbers_row 33 8 1 (pos 4294967296) (pos 0) (pos 0) (pos 0)) ∷ (numbers_row 30 5 2 (pos 4294967296) (pos 0) (pos 0) (pos 0)) ∷ (numbers_row 34 12 1 (pos 9) (pos 1) (pos 0) (pos 0)) ∷ [])

abbrev rows_2 : List Row
rows_2 = ((numbers_row 30 7 6 (pos 4294967298) (pos 0) (pos 0) (pos 0)) ∷ (numbers_row 33 7 6 (pos 4294967297) (pos 0) (pos 0) (pos 0)) ∷ (numbers_row 32 10 2 (pos 4294967296) (pos 0) (pos 0) (pos 0)) ∷ [])

abbrev rows_3 : List Row
rows_3 = ((numbers_row 32 7 6 (pos 8589934594) (pos 0) (pos 0) (pos 0)) ∷ (numbers_row 33 7 6 (pos 4294967297) (pos 0) (pos 0) (pos 0)) ∷ (numbers_row 0 12 16 (pos 4294967296) (pos 0) (pos 0) (pos 0)) ∷ (numbers_row 30 10 2 (pos 12884901890) (pos 0) (pos 0) (pos 0)) ∷ [])

abbrev rows_4 : List Row
rows_4 = ((numbers_row 28 4 5 (pos 2) (pos 0) (pos 0) (pos 0)) ∷ (numbers_row 30 9 6 (pos 4294967298) (pos 0) (pos 0) (pos 0)) ∷ (numbers_row 33 9 6 (pos 4294967297) (pos 0) (pos 0) (pos 0)) ∷ (numbers_row 0 14 6 (pos 12884901891) (pos 0) (pos 0) (pos 0)) ∷ (numbers_row 0 17 3 (pos 4294967296) (pos 0) (pos 0) (pos 0)) ∷ (numbers_row 0 24 8 (pos 4294967296) (pos 0) (pos 6) (pos 0)) ∷ (numbers_row 0 22 18 (negsuc 0) (pos 1) (pos 5) (pos 0)) ∷ (numbers_row 36 22 4 (pos 17179869190) (pos 1) (pos 5) (pos 0)) ∷ [])

abbrev rows_5 : List Row
rows_5 = ((numbers_row 37 24 3 (pos 4294967296) (pos 0) (pos 0) (pos 0)) ∷ [])

abbrev unit : UnitTrees
unit = record {
  source = record { spellings = standard_names ++ ((68 ∷ []) ∷ (67 ∷ []) ∷ (70 ∷ 101 ∷ 119 ∷ []) ∷ (69 ∷ []) ∷ (79 ∷ 116 ∷ 104 ∷ 101 ∷ 114 ∷ []) ∷ (116 ∷ 119 ∷ 111 ∷ []) ∷ (107 ∷ []) ∷ (77 ∷ []) ∷ (80 ∷ []) ∷ (112 ∷ []) ∷ []); definitions = ((definition_module 29 2) ∷ (definition_module 28 1) ∷ (definition_module 31 3) ∷ []) };
  own = None;
  definitions = (tree_1 ∷ tree_2 ∷ tree_3 ∷ []);
  main = (tree_4 ∷ tree_5 ∷ []);
}

pub rows_are : unit_rows unit ≡ standard_rows ∷ (rows_1 ∷ rows_2 ∷ rows_3 ∷ rows_4 ∷ rows_5 ∷ [])
unfolding unit_rows declare_block blocks_of standard_names
rows_are = refl

pub diagnostics_are : sorted_diags (declaration_diags unit) ≡ ((0 ∷ 14 ∷ 42 ∷ []) ∷ (0 ∷ 17 ∷ 42 ∷ []) ∷ [])
unfolding unit_rows declare_block blocks_of declaration_diags standard_names
diagnostics_are = refl

pub answers_are : sorted_answers (declaration_answers unit) ≡ ((7 ∷ 1 ∷ 2 ∷ []) ∷ (7 ∷ 2 ∷ 2 ∷ []) ∷ (9 ∷ 1 ∷ 2 ∷ []) ∷ (12 ∷ 2 ∷ 0 ∷ []) ∷ (14 ∷ 3 ∷ 0 ∷ []) ∷ (14 ∷ 3 ∷ 3 ∷ []) ∷ (19 ∷ 4 ∷ 1 ∷ []) ∷ (26 ∷ 4 ∷ 1 ∷ []) ∷ [])
unfolding unit_rows declare_block blocks_of declaration_answers standard_names
answers_are = refl
