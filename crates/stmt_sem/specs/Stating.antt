-- The statements of a block by their numbers, and what a piece has.
use Rattle.std.specs.Prelude.{◌≡◌, ℕ, zero, suc, Option, Some, None, map, []}
use Rattle.m2_base.specs.Gives.{Gives}
use Rattle.m2_base.specs.States.{Frame}
use Rattle.m2_base.specs.Statics.Blocks.{BlockTree}
use Rattle.m2_base.specs.Statics.Contexts.{Context}
use Rattle.m2_base.specs.Trees.{Statement, Statements, Stream, more_statements, no_statements}
use Rattle.m2_base.specs.declared.rows.Place.{Place}
use Rattle.m2_base.specs.declared.sites.Site.{Site}
use Rattle.type_rules.specs.Scenes.{WhereTold}
use Rattle.type_rules.specs.Sites.{context_of}
use Rattle.expr_sem.specs.Fragments.{step_view}
use Rattle.block_code.specs.Parts.{Made, Spot}
use Rattle.expr_sem.specs.declared.pieces.Piece.{Piece}
use Rattle.block_code.specs.BlockCode.{result_by, stand_of}
use Rattle.block_code.specs.Flows.{Flow}
use Rattle.block_code.specs.Statements.{statement_flow}

-- the block of these statements, where they stand
abbrev pub block_at : Context → Stream → BlockTree
block_at c tree = record { block = c.scene.block; tree = tree }

-- the result of the block's procedure is this, where the texts are told
abbrev pub Returns : Frame → Site → Stream → Option Place → Type 0
Returns f s tree place = WhereTold f (λ made. place ≡ result_by (context_of f made s) tree)

-- the statement of this number, if there are so many
abbrev pub statement_at : Statements → (k : ℕ) → Option Statement
statement_at no_statements k = None
statement_at (more_statements st ss) zero = Some st
statement_at (more_statements st ss) (suc k) = statement_at ss k

-- where a statement begins that is in no WITH
abbrev pub spot_at : (cell byte : ℕ) → Spot
spot_at cell byte = record { cell = cell; byte = byte; withs = [] }

-- all that a piece has
abbrev pub made_in : Piece → Made
made_in p = record { code = map step_view p.steps.items; bytes = p.bytes.items; next = spot_at p.cell p.byte }

-- the code of a statement of the block, which is in no LOOP and no WITH
abbrev pub given_at : Context → Stream → Statement → Gives Flow
given_at c tree st = statement_flow (stand_of c (block_at c tree)) st
