-- The diagnostics and the answers of a unit's declarations, block after block, in each in text order.
use Rattle.std.specs.Prelude.{List, [], ◌∷◌, ◌++◌, None}
use Rattle.m2_base.specs.Rows.{Row}
use Rattle.m2_base.specs.Standard.{standard_rows}
use Rattle.m2_base.specs.Statics.BlockRows.{declare_block}
use Rattle.m2_base.specs.Statics.Blocks.{BlockTree, UnitTrees, blocks_of}
use Rattle.m2_base.specs.Statics.Closing.{closing_diags}
use Rattle.m2_base.specs.Statics.Contexts.{Block, Context, Source, counting, no_layout}
use Rattle.m2_base.specs.Statics.UnitRows.{unit_rows}
use Rattle.m2_base.specs.Tables.{rows_at}
use Rattle.m2_base.specs.declared.notes.Answer.{Answer}
use Rattle.m2_base.specs.declared.notes.Diag.{Diag}

-- where a block's statements and its closing check stand: all rows of its own scope count
abbrev pub complete_context : Source → (all : List (List Row)) → Block → Context
complete_context source all b =
    record { source = source; scene = counting all b (rows_at all b.scope); layout = no_layout; item = None }

-- the diagnostics of one block's declarations, over the finished scopes before it, and of its closing check
abbrev pub block_diags : Source → (before all : List (List Row)) → BlockTree → List Diag
block_diags source before all b =
    (declare_block source before b).diags ++ closing_diags (complete_context source all b.block) b.tree

-- the diagnostics of these blocks
abbrev pub diags_from : Source → (before all : List (List Row)) → List BlockTree → List Diag
diags_from source before all [] = []
diags_from source before all (b ∷ blocks) =
    block_diags source before all b
    ++ diags_from source (before ++ (declare_block source before b).rows ∷ []) all blocks

-- The diagnostics of all declarations. What stands in two blocks, as a heading does, may come twice.
unfoldable pub declaration_diags : UnitTrees → List Diag
declaration_diags u = diags_from u.source (standard_rows ∷ []) (unit_rows u) (blocks_of u)

-- the answers of these blocks
abbrev pub answers_from : Source → (before : List (List Row)) → List BlockTree → List Answer
answers_from source before [] = []
answers_from source before (b ∷ blocks) =
    (declare_block source before b).answers
    ++ answers_from source (before ++ (declare_block source before b).rows ∷ []) blocks

-- the answers of all declarations
unfoldable pub declaration_answers : UnitTrees → List Answer
declaration_answers u = answers_from u.source (standard_rows ∷ []) (blocks_of u)
