-- What the work on the streams of a unit leaves: one output for each stream, in their order.
use Rattle.std.specs.Prelude.{◌≡◌, List, flat_map, map, Option, Some, None}
use Rattle.listings.specs.Ordering.{in_order}
use Rattle.m2_base.specs.Trees.{Stream}
use Rattle.m2_base.specs.declared.notes.Diag.{Diag}
use Rattle.m2_base.specs.declared.outputs.Output.{Output}
use Rattle.m2_base.specs.declared.outputs.StreamFault.{StreamFault}
use Rattle.stream_split.specs.Agreement.{IsFaultOf, SpellsStream}
use Rattle.stream_split.specs.Streams.{StreamOf}

-- what is told of a stream: its first fault, or none where it spells a tree
abbrev pub IsFaultTold : StreamOf → Option StreamFault → Type 0
IsFaultTold s None = (tree : Stream) × SpellsStream tree s
IsFaultTold s (Some fault) = IsFaultOf s.text fault s

-- the output is of this stream, and tells its fault
pub record IsOutputOf (s : StreamOf) (o : Output) : Type 0 where
  pub stream : o.stream ≡ s.stream
  pub fault : IsFaultTold s o.fault

-- the faults that outputs tell
abbrev pub told_by : List Output → List (Option StreamFault)
told_by outputs = map (λ o. o.fault) outputs

-- all their diagnostics, in order, each once
abbrev pub output_diags : List Output → List Diag
output_diags outputs = in_order (flat_map (λ o. o.diags.items) outputs)
