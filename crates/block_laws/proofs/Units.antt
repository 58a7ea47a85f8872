-- The laws on blocks, over the laws on the rows of units.
use Rattle.std.specs.Prelude.{◌≡◌, ℕ, ◌≤◌, List, [], ◌∷◌}
use Rattle.code_form.specs.Valid.{IsValidCode}
use Rattle.m2_base.specs.Lists.{Each}
use Rattle.m2_base.specs.Standard.{standard_rows}
use Rattle.m2_base.specs.Statics.BlockRows.{declare_block}
use Rattle.m2_base.specs.Statics.Blocks.{UnitTrees, blocks_of, main_block}
use Rattle.m2_base.specs.Statics.Contexts.{Source}
use Rattle.m2_base.specs.Statics.UnitRows.{unit_rows}
use Rattle.m2_base.specs.Trees.{Stream}
use Rattle.row_laws.proofs.Units.{unit_cells, unit_declared, unit_in_range, each_block_with}
use Rattle.row_laws.specs.RowRanges.{BlockInRange, EachBlock, IsSoundUnit}
use Rattle.block_code.specs.BlockCode.{block_code, block_diags}
use Rattle.block_code.specs.Places.{OthersInRange, block_steps}
use Rattle.block_code.specs.StatementTokens.{block_tokens}
use Rattle.block_laws.specs.Lone.{IsLoneTree, lone_unit, lone_world}
use Rattle.block_laws.specs.Named.{procedure_of}
use Rattle.m2_base.specs.Statics.ReadStatements.{AreReadStatements}
use Rattle.block_laws.proofs.InRange.{block-in_range}
use Rattle.block_laws.proofs.LoneUnits.{lone-unit-valid}

pub units-in_range : (names : List (List ℕ)) (u : UnitTrees) → IsSoundUnit names u → Each (λ b. AreReadStatements names b.tree.body) (blocks_of u)
    → EachBlock (λ before b. OthersInRange (block_steps u.source before (unit_rows u) b)) u.source (standard_rows ∷ []) (blocks_of u)
units-in_range names u sound read =
    each_block_with (λ before b. BlockInRange u.source before (unit_rows u) b) (λ before b. OthersInRange (block_steps u.source before (unit_rows u) b))
    (λ b. AreReadStatements names b.tree.body) (λ before b h r. block-in_range names u.source before (unit_rows u) b h r) u.source (standard_rows ∷ []) (blocks_of u)
    (unit_in_range names u sound) read

pub units-valid : (names : List (List ℕ)) (source : Source) (tree : Stream) → IsSoundUnit names (lone_unit source tree) → IsLoneTree tree → AreReadStatements names tree.body → block_tokens tree ≤ 1048576
    → block_diags source (standard_rows ∷ []) (unit_rows (lone_unit source tree)) (main_block (lone_unit source tree) tree) ≡ []
    → IsValidCode
    (lone_world (declare_block source (standard_rows ∷ []) (main_block (lone_unit source tree) tree)).value.cell (procedure_of (block_code source (standard_rows ∷ []) (unit_rows (lone_unit source tree)) (main_block (lone_unit source tree) tree)))) 0
    (procedure_of (block_code source (standard_rows ∷ []) (unit_rows (lone_unit source tree)) (main_block (lone_unit source tree) tree)))
units-valid names source tree sound lone read few told =
    let u : UnitTrees = lone_unit source tree in
    lone-unit-valid names source tree (record {
      ranges = unit_in_range names u sound;
      cells = unit_cells names u sound;
      procedures = unit_declared names u sound;
    }) lone read few told
