-- What is left of a stream in the end.
use Rattle.std.specs.Prelude.{◌≡◌, List, Option, Some, None, take}
use Rattle.m2_base.specs.Finished.{WhereFinished, source_of}
use Rattle.m2_base.specs.Statics.BlockRows.{declare_block}
use Rattle.m2_base.specs.Statics.Blocks.{BlockTree}
use Rattle.m2_base.specs.Statics.Contexts.{Block, Source}
use Rattle.m2_base.specs.Trees.{Stream}
use Rattle.m2_base.specs.Units.{UnitTexts}
use Rattle.m2_base.specs.declared.outputs.Output.{Output}
use Rattle.m2_base.specs.declared.outputs.StreamFault.{StreamFault}
use Rattle.m2_base.specs.declared.rows.Row.{Row}
use Rattle.block_code.specs.BlockCode.{block_answers, block_code, block_diags}
use Rattle.block_code.specs.ProcedureCodes.{code_view}
use Rattle.stream_split.specs.Agreement.{IsFaultOf, SpellsStream}
use Rattle.stream_split.specs.Streams.{StreamOf}

-- The output is what the definition says of a block of a unit with these finished rows.
pub record IsOutputOf (source : Source) (tables : List (List Row)) (b : BlockTree) (o : Output) : Type 0 where
  pub diags : o.diags.items ≡ block_diags source (take b.block.scope tables) tables b
  pub answers : o.answers.items ≡ block_answers source (take b.block.scope tables) tables b
  pub code : code_view o.code ≡ block_code source (take b.block.scope tables) tables b
  pub cells : o.cells ≡ (declare_block source (take b.block.scope tables) b).value.cell
  pub headings : o.headings.items ≡ (declare_block source (take b.block.scope tables) b).value.headings

-- The stream has a tree, and where no text has a syntax error, the output is that of its block.
pub record IsOutputWith (u : UnitTexts) (s : StreamOf) (b : Block) (o : Output) : Type 0 where
  pub tree : Stream
  pub spelled : SpellsStream tree s
  pub told : WhereFinished u (λ tables. IsOutputOf (source_of u) tables (record { block = b; tree = tree }) o)

-- the fault of a stream, or what its tree gives
abbrev pub IsOutputBy : UnitTexts → StreamOf → Block → Output → Option StreamFault → Type 0
IsOutputBy u s b o (Some fault) = IsFaultOf s.text fault s
IsOutputBy u s b o None = IsOutputWith u s b o

-- the output of this stream, whose block this is
pub record IsOutput (u : UnitTexts) (s : StreamOf) (b : Block) (o : Output) : Type 0 where
  pub stream : o.stream ≡ s.stream
  pub by_fault : IsOutputBy u s b o o.fault
