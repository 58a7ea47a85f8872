-- The code of a unit's blocks is valid: the whole.
use Rattle.std.specs.Prelude.{◌≡◌, ℕ, ◌-◌, ◌≤◌, List, [], ◌∷◌, ◌++◌}
use Rattle.code_form.specs.Valid.{IsValidCode}
use Rattle.m2_base.specs.Finished.{AreRead}
use Rattle.m2_base.specs.Lists.{Each}
use Rattle.m2_base.specs.Standard.{standard_rows}
use Rattle.m2_base.specs.Statics.BlockRows.{declare_block}
use Rattle.m2_base.specs.Statics.Blocks.{BlockTree, UnitTrees, blocks_of, home_of}
use Rattle.m2_base.specs.Statics.Closing.{closing_diags}
use Rattle.m2_base.specs.Statics.Contexts.{Source}
use Rattle.m2_base.specs.Statics.Items.{items_of}
use Rattle.m2_base.specs.Statics.ReadTrees.{IsReadItem}
use Rattle.m2_base.specs.Statics.UnitNotes.{complete_context}
use Rattle.m2_base.specs.Statics.UnitRows.{unit_rows}
use Rattle.m2_base.specs.Units.{UnitTexts}
use Rattle.m2_base.specs.declared.rows.Row.{Row}
use Rattle.row_laws.specs.RowRanges.{EachBlock, IsSoundUnit}
use Rattle.row_laws.proofs.Joined.{none_left}
use Rattle.row_laws.proofs.ClearUnits.{unit_headings}
use Rattle.row_laws.proofs.Members.{each_in}
use Rattle.row_laws.proofs.TextBlocks.{blocks_read, trees_read}
use Rattle.row_laws.proofs.Units.{each_block_then}
use Rattle.block_code.specs.BlockCode.{block_code, block_diags, body_of, run_of, size_diags}
use Rattle.block_code.specs.StatementTokens.{block_tokens}
use Rattle.row_laws.specs.Headings.{HasSoundHeadings}
use Rattle.block_laws.specs.Named.{procedure_of}
use Rattle.m2_base.specs.Statics.ReadStatements.{AreReadStatements}
use Rattle.block_laws.specs.Sight.{IsInSight, Sees}
use Rattle.block_laws.specs.Worlds.{unit_world}
use Rattle.block_laws.proofs.BlocksAt.{unit_all}
use Rattle.block_laws.proofs.Implemented.{implements}
use Rattle.block_laws.proofs.MainBlocks.{blocks-see}
use Rattle.block_laws.proofs.NamedHeadings.{headings-named}
use Rattle.block_laws.proofs.UnitWorlds.{IsClear}
use Rattle.block_laws.proofs.ValidUnits.{block-valid-in-unit}

-- what holds of each block, whatever stands before it
each-of : (P : BlockTree → Type 0) (source : Source) (before : List (List Row)) (blocks : List BlockTree) → EachBlock (λ (b : List (List Row)) (c : BlockTree). P c) source before blocks → Each P blocks
each-of P source before [] f = tt
each-of P source before (b ∷ blocks) f = (f.0, each-of P source (before ++ (declare_block source before b).rows ∷ []) blocks f.1)

-- a block without a diagnostic has none in its declarations
pub declared-none : (source : Source) (before all : List (List Row)) (b : BlockTree) → block_diags source before all b ≡ [] → (declare_block source before b).diags ≡ []
declared-none source before all b e =
    let c = complete_context source all b.block in
    let d = declare_block source before b in
    let body = body_of c b in
    let size = size_diags c b b.tree.kind d.value (run_of b d.value body.value) in
    (none_left d.diags (closing_diags c b.tree) (none_left (d.diags ++ closing_diags c b.tree) body.diags (none_left (d.diags ++ closing_diags c b.tree ++ body.diags) size e).0).0).0

pub code-valid : (names : List (List ℕ)) (texts : UnitTexts) (u : UnitTrees) → IsSoundUnit names u → AreRead texts u → Each (λ b. AreReadStatements names b.tree.body) (blocks_of u) → Each (λ b. Each (IsReadItem names) (items_of b.tree)) (blocks_of u)
    → Each (λ b. block_tokens b.tree ≤ 1048576) (blocks_of u) → EachBlock (λ before b. block_diags u.source before (unit_rows u) b ≡ []) u.source (standard_rows ∷ []) (blocks_of u)
    → EachBlock (λ before b. home_of u ≤ b.block.scope → IsValidCode (unit_world u) (b.block.scope - home_of u) (procedure_of (block_code u.source before (unit_rows u) b))) u.source (standard_rows ∷ []) (blocks_of u)
code-valid names texts u sound told read items few none =
    let headings : HasSoundHeadings u = unit_headings names u sound items
    (each_block_then (λ before b. block_diags u.source before (unit_rows u) b ≡ []) (λ before b. (declare_block u.source before b).diags ≡ []) u.source (blocks_of u) (standard_rows ∷ [])
    (λ before b e. declared-none u.source before (unit_rows u) b e) none) in
    let is : IsClear names u = record { sound = sound; blocks = blocks_read texts u told; none = none } in
    let sight : Each (λ (b : BlockTree). Sees (IsInSight b.block) (complete_context u.source (unit_rows u) b.block).scene) (blocks_of u) =
    each-of (λ (b : BlockTree). Sees (IsInSight b.block) (complete_context u.source (unit_rows u) b.block).scene) u.source (standard_rows ∷ []) (blocks_of u) (blocks-see names u sound (trees_read texts u told)) in
    unit_all u sound.scopes (λ before b. home_of u ≤ b.block.scope → IsValidCode (unit_world u) (b.block.scope - home_of u) (procedure_of (block_code u.source before (unit_rows u) b)))
    (λ b i behind. block-valid-in-unit names u is read (implements names u is headings b i behind (headings-named names u is items b i behind)) b i behind
    (each_in (λ (c : BlockTree). Sees (IsInSight c.block) (complete_context u.source (unit_rows u) c.block).scene) (blocks_of u) b sight i)
    (each_in (λ (c : BlockTree). block_tokens c.tree ≤ 1048576) (blocks_of u) b few i))
