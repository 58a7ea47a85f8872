-- A unit, with what its declarations give. Names are numbered from 28 on as they come here.
--
-- M.mod:
--     MODULE M; TYPE TYPE T1 = BITSET; CONST c2 = ODD(7) OR FALSE; TYPE T3 = ARRAY BOOLEAN OF INTEGER; T4 = BITSET;
--     T5 = ARRAY INTEGER[-1..6] OF T3; BEGIN IF TRUE THEN ; ; END; ; CASE TRUE OF TRUE: HALT ELSE ; END END M.
use Rattle.std.specs.Prelude.{◌≡◌, pos, negsuc, false, List, [], ◌∷◌, ◌++◌, Some, None}
use Rattle.std.proofs.Common.{refl}
use Rattle.m2_base.specs.Names.{standard_names}
use Rattle.m2_base.specs.Rows.{Row, numbers_row}
use Rattle.m2_base.specs.Standard.{standard_rows}
use Rattle.m2_base.specs.Statics.BlockRows.{declare_block}
use Rattle.m2_base.specs.Statics.Blocks.{UnitTrees, blocks_of}
use Rattle.m2_base.specs.Statics.UnitNotes.{declaration_diags, declaration_answers}
use Rattle.m2_base.specs.Statics.UnitRows.{unit_rows}
use Rattle.m2_base.specs.Trees.{Stream, Main, expr, number_form, name_form, call_form, one_form, many_form, exprs, next, nexts, designator, selectors, type_expr, named_type, sub_type, array_type, type_exprs, const_decl, type_decl, statements}
use Rattle.m2_base.specs.declared.trees.operators.Operator.TheVariants.{Minus, Or}
use Rattle.m2_base.proofs.UnitTerms.{ident, qual, stream, sorted_diags, sorted_answers}

abbrev tree_1 : Stream
tree_1 = stream Main false (Some (ident 28 1)) ([]) None ((type_decl (ident 29 5) (Some (type_expr 7 (named_type (qual (ident 5 7) None))))) ∷ (const_decl (ident 30 10) (expr 12 (many_form (expr 12 (call_form (designator (ident 23 12) (selectors ([]))) (exprs ((expr 14 (number_form 7)) ∷ [])))) (nexts ((next Or 16 (expr 17 (name_form (designator (ident 8 17) (selectors ([])))))) ∷ []))))) ∷ (type_decl (ident 31 20) (Some (type_expr 22 (array_type (type_exprs ((type_expr 23 (named_type (qual (ident 4 23) None))) ∷ [])) (type_expr 25 (named_type (qual (ident 1 25) None))))))) ∷ (type_decl (ident 32 27) (Some (type_expr 29 (named_type (qual (ident 5 29) None))))) ∷ (type_decl (ident 33 31) (Some (type_expr 33 (array_type (type_exprs ((type_expr 34 (sub_type (Some (qual (ident 1 34) None)) (expr 36 (one_form Minus 36 (expr 37 (number_form 1)))) (expr 39 (number_form 6)))) ∷ [])) (type_expr 42 (named_type (qual (ident 31 42) None))))))) ∷ []) (statements []) (ident 28 63)

abbrev rows_1 : List Row
rows_1 = ((numbers_row 29 5 2 (pos 5) (pos 0) (pos 0) (pos 0)) ∷ (numbers_row 30 10 1 (pos 3) (pos 1) (pos 0) (pos 0)) ∷ (numbers_row 0 22 13 (pos 3) (pos 0) (pos 2) (pos 0)) ∷ (numbers_row 31 20 2 (pos 4294967298) (pos 0) (pos 0) (pos 0)) ∷ (numbers_row 32 27 2 (pos 5) (pos 0) (pos 0) (pos 0)) ∷ (numbers_row 0 34 12 (pos 0) (negsuc 0) (pos 6) (pos 0)) ∷ (numbers_row 0 33 13 (pos 4294967301) (pos 4294967298) (pos 16) (pos 0)) ∷ (numbers_row 33 31 2 (pos 4294967302) (pos 0) (pos 0) (pos 0)) ∷ [])

abbrev unit : UnitTrees
unit = record {
  source = record { spellings = standard_names ++ ((77 ∷ []) ∷ (84 ∷ 49 ∷ []) ∷ (99 ∷ 50 ∷ []) ∷ (84 ∷ 51 ∷ []) ∷ (84 ∷ 52 ∷ []) ∷ (84 ∷ 53 ∷ []) ∷ []); definitions = ([]) };
  own = None;
  definitions = ([]);
  main = (tree_1 ∷ []);
}

pub rows_are : unit_rows unit ≡ standard_rows ∷ (rows_1 ∷ [])
unfolding unit_rows declare_block blocks_of standard_names
rows_are = refl

pub diagnostics_are : sorted_diags (declaration_diags unit) ≡ ([])
unfolding unit_rows declare_block blocks_of declaration_diags standard_names
diagnostics_are = refl

pub answers_are : sorted_answers (declaration_answers unit) ≡ ((42 ∷ 1 ∷ 3 ∷ []) ∷ [])
unfolding unit_rows declare_block blocks_of declaration_answers standard_names
answers_are = refl
