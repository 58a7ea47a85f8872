-- What the work on the streams of a unit leaves.
use Rattle.std.specs.Prelude.{List}
use Rattle.std.specs.List.{AllZip}
use Rattle.m2_base.specs.Units.{UnitTexts}
use Rattle.m2_base.specs.declared.outputs.Output.{Output}
use Rattle.stream_split.specs.Streams.{StreamOf, streams_of}
use Rattle.task_state.specs.Outputs.{IsOutput}
use Rattle.unit_tasks.specs.Units.{block_in}
-- (handed on to those who say of what a unit's turns leave that merging takes it)
pub use Rattle.merge_laws.specs.Outputs.{AreOutputs}

-- the output of a stream of a unit
abbrev pub IsOutputIn : UnitTexts → StreamOf → Output → Type 0
IsOutputIn u s o = IsOutput u s (block_in u s) o

-- each output is that of the stream at its place
abbrev pub AreOfStreams : UnitTexts → List Output → Type 0
AreOfStreams u outputs = AllZip (IsOutputIn u) (streams_of u) outputs
