-- A unit, with what its declarations give. Names are numbered from 28 on as they come here.
--
-- A.mod:
--     MODULE A; TYPE P = POINTER TO INTEGER; Q = POINTER TO INTEGER; VAR p: P; q: Q; BEGIN p := q; p := NIL; IF p =
--     NIL THEN END; IF p = q THEN END; IF p < p THEN END END A.
use Rattle.std.specs.Prelude.{◌≡◌, pos, false, List, [], ◌∷◌, ◌++◌, Some, None}
use Rattle.std.proofs.Common.{refl}
use Rattle.m2_base.specs.Names.{standard_names}
use Rattle.m2_base.specs.Rows.{Row, numbers_row}
use Rattle.m2_base.specs.Standard.{standard_rows}
use Rattle.m2_base.specs.Statics.BlockRows.{declare_block}
use Rattle.m2_base.specs.Statics.Blocks.{UnitTrees, blocks_of}
use Rattle.m2_base.specs.Statics.UnitNotes.{declaration_diags, declaration_answers}
use Rattle.m2_base.specs.Statics.UnitRows.{unit_rows}
use Rattle.m2_base.specs.Trees.{Stream, Main, type_expr, named_type, pointer_type, type_decl, vars_decl, statements}
use Rattle.m2_base.proofs.UnitTerms.{ident, qual, stream, sorted_diags, sorted_answers}

abbrev tree_1 : Stream
tree_1 = stream Main false (Some (ident 28 1)) ([]) None ((type_decl (ident 29 4) (Some (type_expr 6 (pointer_type (type_expr 8 (named_type (qual (ident 1 8) None))))))) ∷ (type_decl (ident 30 10) (Some (type_expr 12 (pointer_type (type_expr 14 (named_type (qual (ident 1 14) None))))))) ∷ (vars_decl ((ident 31 17) ∷ []) (type_expr 19 (named_type (qual (ident 29 19) None)))) ∷ (vars_decl ((ident 32 21) ∷ []) (type_expr 23 (named_type (qual (ident 30 23) None)))) ∷ []) (statements []) (ident 28 55)

abbrev rows_1 : List Row
rows_1 = ((numbers_row 0 6 17 (pos 0) (pos 0) (pos 0) (pos 0)) ∷ (numbers_row 29 4 2 (pos 4294967296) (pos 0) (pos 0) (pos 0)) ∷ (numbers_row 0 12 17 (pos 0) (pos 0) (pos 0) (pos 0)) ∷ (numbers_row 30 10 2 (pos 4294967298) (pos 0) (pos 0) (pos 0)) ∷ (numbers_row 31 17 3 (pos 4294967296) (pos 0) (pos 0) (pos 0)) ∷ (numbers_row 32 21 3 (pos 4294967298) (pos 0) (pos 1) (pos 0)) ∷ [])

abbrev unit : UnitTrees
unit = record {
  source = record { spellings = standard_names ++ ((65 ∷ []) ∷ (80 ∷ []) ∷ (81 ∷ []) ∷ (112 ∷ []) ∷ (113 ∷ []) ∷ []); definitions = ([]) };
  own = None;
  definitions = ([]);
  main = (tree_1 ∷ []);
}

pub rows_are : unit_rows unit ≡ standard_rows ∷ (rows_1 ∷ [])
unfolding unit_rows declare_block blocks_of standard_names
rows_are = refl

pub diagnostics_are : sorted_diags (declaration_diags unit) ≡ ([])
unfolding unit_rows declare_block blocks_of declaration_diags standard_names
diagnostics_are = refl

pub answers_are : sorted_answers (declaration_answers unit) ≡ ((19 ∷ 1 ∷ 1 ∷ []) ∷ (23 ∷ 1 ∷ 3 ∷ []) ∷ [])
unfolding unit_rows declare_block blocks_of declaration_answers standard_names
answers_are = refl
