-- The stream of a definition text is the whole text.
use Rattle.std.proofs.Common.{ℕ, List, [], ◌∷◌, refl, ap, subst}
use Rattle.std.specs.Prelude.{slice_index_or}
use Rattle.m2_base.specs.declared.token.Token.{Token}
use Rattle.m2_base.specs.StreamsOf.{no_stream}
use Rattle.m2_base.specs.Trees.{Stream}
use Rattle.m2_base.specs.WholeTexts.{SpellsDefinition}
use Rattle.stream_split.specs.Agreement.{SpellsStream, SpellsStreams}
use Rattle.stream_split.specs.Streams.{definition_stream}

-- it spells the tree that the text spells
pub definition_spelled : (j k : ℕ) (ts : List Token) (tree : Stream) → SpellsDefinition (tree ∷ []) ts → SpellsStream tree (definition_stream j k ts)
definition_spelled j k ts tree h = record { sentence = h.sentence; gives = ap (λ (trees : List Stream). slice_index_or trees 0 no_stream) h.gives }

pub definition_trees : (j k : ℕ) (ts : List Token) (trees : List Stream) → SpellsDefinition trees ts → SpellsStreams trees (definition_stream j k ts ∷ [])
definition_trees j k ts trees h =
    subst (λ (all : List Stream). SpellsStreams all (definition_stream j k ts ∷ [])) h.gives (record { sentence = h.sentence; gives = refl }, tt)

-- the text spells the tree of its stream
pub definition_whole : (j k : ℕ) (ts : List Token) (trees : List Stream) → SpellsStreams trees (definition_stream j k ts ∷ []) → SpellsDefinition trees ts
definition_whole j k ts [] h = absurd h
definition_whole j k ts (tree ∷ []) h = record { sentence = h.0.sentence; gives = ap (λ t. t ∷ []) h.0.gives }
definition_whole j k ts (tree ∷ more ∷ trees) h = absurd h.1
