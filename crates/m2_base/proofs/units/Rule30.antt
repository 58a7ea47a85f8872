-- A unit, with what its declarations give. Names are numbered from 28 on as they come here.
--
-- A.mod:
--     MODULE A; PROCEDURE P; END Q; END A.
use Rattle.std.specs.Prelude.{◌≡◌, pos, negsuc, false, List, [], ◌∷◌, ◌++◌, Some, None}
use Rattle.std.proofs.Common.{refl}
use Rattle.m2_base.specs.Names.{standard_names}
use Rattle.m2_base.specs.Rows.{Row, numbers_row}
use Rattle.m2_base.specs.Standard.{standard_rows}
use Rattle.m2_base.specs.Statics.BlockRows.{declare_block}
use Rattle.m2_base.specs.Statics.Blocks.{UnitTrees, blocks_of}
use Rattle.m2_base.specs.Statics.UnitNotes.{declaration_diags, declaration_answers}
use Rattle.m2_base.specs.Statics.UnitRows.{unit_rows}
use Rattle.m2_base.specs.Trees.{Stream, Main, Procedure, proc_decl, statements}
use Rattle.m2_base.proofs.UnitTerms.{ident, heading, stream, sorted_diags, sorted_answers}

abbrev tree_1 : Stream
tree_1 = stream Main false (Some (ident 28 1)) ([]) None ((proc_decl (heading (ident 29 4) ([]) None) 2) ∷ []) (statements []) (ident 28 10)

abbrev tree_2 : Stream
tree_2 = stream Procedure false None [] (Some (heading (ident 29 4) ([]) None)) ([]) (statements []) (ident 30 7)

abbrev rows_1 : List Row
rows_1 = ((numbers_row 0 4 18 (negsuc 0) (pos 0) (pos 0) (pos 0)) ∷ (numbers_row 29 4 4 (pos 4294967296) (pos 1) (pos 2) (pos 0)) ∷ [])

abbrev rows_2 : List Row
rows_2 = ([])

abbrev unit : UnitTrees
unit = record {
  source = record { spellings = standard_names ++ ((65 ∷ []) ∷ (80 ∷ []) ∷ (81 ∷ []) ∷ []); definitions = ([]) };
  own = None;
  definitions = ([]);
  main = (tree_1 ∷ tree_2 ∷ []);
}

pub rows_are : unit_rows unit ≡ standard_rows ∷ (rows_1 ∷ rows_2 ∷ [])
unfolding unit_rows declare_block blocks_of standard_names
rows_are = refl

pub diagnostics_are : sorted_diags (declaration_diags unit) ≡ ((0 ∷ 7 ∷ 21 ∷ []) ∷ [])
unfolding unit_rows declare_block blocks_of declaration_diags standard_names
diagnostics_are = refl

pub answers_are : sorted_answers (declaration_answers unit) ≡ ([])
unfolding unit_rows declare_block blocks_of declaration_answers standard_names
answers_are = refl
