-- What the streams of a main text say of it.
use Rattle.std.specs.Prelude.{◌≡◌, ℕ, ◌<◌, List, ◌⊎◌}
use Rattle.std.specs.List.{AllZip}
use Rattle.m2_base.specs.declared.outputs.StreamFault.{StreamFault}
use Rattle.m2_base.specs.declared.outputs.StreamFault.TheVariants.{Syntax, TooDeep}
use Rattle.m2_base.specs.FaultsOf.{fault_in}
use Rattle.m2_base.specs.Grammar.{grammar, levels, stream}
use Rattle.m2_base.specs.Lists.{IsIn, Each}
use Rattle.m2_base.specs.StreamsOf.{stream_of}
use Rattle.m2_base.specs.Trees.{Stream}
use Rattle.ll_grammar.specs.Texts as texts
use Rattle.stream_split.specs.Streams.{StreamOf}

-- the stream's tokens spell this tree
abbrev pub SpellsStream : Stream → StreamOf → Type 0
SpellsStream tree s = texts.Spells grammar levels (stream s.kind) (stream_of s.kind) tree s.tokens

-- each stream spells the tree at its place
abbrev pub SpellsStreams : List Stream → List StreamOf → Type 0
SpellsStreams trees streams = AllZip SpellsStream trees streams

-- the fault is the first of the stream, in the text of this number
abbrev pub IsFaultOf : ℕ → StreamFault → StreamOf → Type 0
IsFaultOf text fault s = texts.IsFirstFault grammar levels (stream s.kind) (fault_in text) fault s.tokens

-- the token of a fault
abbrev pub fault_at : StreamFault → ℕ
fault_at (Syntax d) = d.at
fault_at (TooDeep text at) = at

-- one of the streams has the fault, and the fault of each is the same or at a later token
pub record IsFirstOfStreams (text : ℕ) (fault : StreamFault) (streams : List StreamOf) : Type 0 where
  pub one : (s : StreamOf) × IsIn s streams × IsFaultOf text fault s
  pub others : Each
      (λ s. (other : StreamFault) → IsFaultOf text other s → (other ≡ fault) ⊎ (fault_at fault < fault_at other))
      streams
