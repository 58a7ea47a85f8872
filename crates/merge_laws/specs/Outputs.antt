-- What the work on the streams of a unit leaves, by the definitions of its blocks: in whichever order and by however
-- many workers the work was done.
use Rattle.std.specs.Prelude.{◌≡◌, ℕ, List, [], ◌∷◌, drop, length, map, None}
use Rattle.std.specs.List.{AllZip}
use Rattle.m2_base.specs.Finished.{AreRead, main_tokens}
use Rattle.m2_base.specs.Standard.{standard_rows}
use Rattle.m2_base.specs.Statics.BlockLimits.{limit_of}
use Rattle.m2_base.specs.Statics.BlockRows.{declare_block}
use Rattle.m2_base.specs.Statics.Blocks.{UnitTrees, blocks_of}
use Rattle.m2_base.specs.Statics.UnitRows.{unit_rows}
use Rattle.m2_base.specs.Units.{UnitTexts}
use Rattle.m2_base.specs.declared.notes.Diag.{Diag}
use Rattle.m2_base.specs.declared.outputs.HeadingNote.{HeadingNote}
use Rattle.m2_base.specs.declared.outputs.Output.{Output}
use Rattle.stream_split.specs.Streams.{streams_of}
use Rattle.row_laws.specs.RowRanges.{EachBlock}
use Rattle.block_code.specs.BlockCode.{ProcedureCode, block_code, block_diags}
use Rattle.block_code.specs.ProcedureCodes.{code_view}
use Rattle.block_laws.specs.Worlds.{of_blocks}
use Rattle.unit_merge.specs.Objects.{cells_by, headings_by}
use Rattle.unit_merge.specs.Outputs.{IsOutputOf}

-- ** What the blocks of a unit make

-- the diagnostics of each block
abbrev pub noted_in : UnitTrees → List (List Diag)
noted_in u = of_blocks (λ before b. block_diags u.source before (unit_rows u) b) u

-- the cells of each block's variables
abbrev pub cells_in : UnitTrees → List ℕ
cells_in u = of_blocks (λ before b. (declare_block u.source before b).value.cell) u

-- the headings of each block
abbrev pub headings_in : UnitTrees → List (List HeadingNote)
headings_in u = of_blocks (λ before b. (declare_block u.source before b).value.headings) u

-- the code of each block of the main text
abbrev pub codes_in : UnitTrees → List ProcedureCode
codes_in u = drop (length u.definitions) (of_blocks (λ before b. block_code u.source before (unit_rows u) b) u)

-- no block has a diagnostic
abbrev pub HasNoDiags : UnitTrees → Type 0
HasNoDiags u = EachBlock (λ before b. block_diags u.source before (unit_rows u) b ≡ []) u.source
    (standard_rows ∷ []) (blocks_of u)

-- ** Outputs

-- the outputs have the diagnostics of the unit's blocks
abbrev pub AreNoted : UnitTrees → List Output → Type 0
AreNoted u outputs = map (λ o. o.diags.items) outputs ≡ noted_in u

-- they have the cells, the headings and the code of the unit's blocks; a definition module has no code
pub record AreCoded (u : UnitTrees) (outputs : List Output) : Type 0 where
  pub cells : cells_by outputs ≡ cells_in u
  pub headings : headings_by outputs ≡ headings_in u
  pub codes : map (λ o. code_view o.code) (drop (length u.definitions) outputs) ≡ codes_in u

-- These are the outputs of a unit that is cut into streams: its main text passes no limit on procedures. Each is of
-- the stream at its place, and tells its fault. Where all texts are read, they have the diagnostics of the unit's
-- blocks, and where there are none, what the blocks make.
pub record AreOutputs (texts : UnitTexts) (outputs : List Output) : Type 0 where
  pub limits : limit_of (main_tokens texts) ≡ None
  pub each : AllZip IsOutputOf (streams_of texts) outputs
  pub noted : (u : UnitTrees) → AreRead texts u → AreNoted u outputs
  pub coded : (u : UnitTrees) → AreRead texts u → HasNoDiags u → AreCoded u outputs
