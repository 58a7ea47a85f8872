-- The streams and the fronts of tokens that are among the first n of their text name none but these.
use Rattle.std.specs.Prelude.{◌≡◌, ℕ, ◌+◌, ◌<◌, Bool, List, [], ◌∷◌, length}
use Rattle.std.proofs.Common.{arith}
use Rattle.ll_grammar.specs.Texts as texts
use Rattle.m2_base.specs.Fronts.{Front, IsFront}
use Rattle.m2_base.specs.Grammar as rules
use Rattle.m2_base.specs.Grammar.{grammar, levels}
use Rattle.m2_base.specs.Lists.{Each}
use Rattle.m2_base.specs.Statics.StandingTrees.{IsBelow, IsStandingStream, Stands}
use Rattle.m2_base.specs.StreamsOf as streams
use Rattle.m2_base.specs.Trees.{Stream, StreamKind}
use Rattle.m2_base.specs.Units.{AreNumbered}
use Rattle.m2_base.specs.declared.token.Token.{Token}
use Rattle.m2_base.proofs.EachLaws.{each_then}
use Rattle.m2_base.proofs.LeafExpressions.{TokenHas}
use Rattle.m2_base.proofs.LeafFronts.{FrontHas, front_leaves}
use Rattle.m2_base.proofs.LeafStreams.{streams_leaves}

-- ** The tokens of a text

below_from : (at : ℕ) (ts : List Token) → AreNumbered at ts → Each (λ (t : Token). t.at < at + length ts) ts
below_from at [] h = absurd h
below_from at (t ∷ []) h = ((let e : t.at ≡ at = h.1 in omega (arith, e)), tt)
below_from at (t ∷ u ∷ ts) h = (
  (let e : t.at ≡ at = h.1 in omega (arith, e)),
  each_then (λ (x : Token). x.at < (at + 1) + length (u ∷ ts)) (λ (x : Token). x.at < at + length (t ∷ u ∷ ts)) (u ∷ ts) (λ x b. omega (arith, b)) (below_from (at + 1) (u ∷ ts) h.2),
)

-- they have the numbers below their count
pub tokens_below : (ts : List Token) → AreNumbered 0 ts → Each (λ (t : Token). t.at < length ts) ts
tokens_below ts h = each_then (λ (t : Token). t.at < 0 + length ts) (λ (t : Token). t.at < length ts) ts (λ t b. omega (arith, b)) (below_from 0 ts h)

-- ** Their streams and their front

token_stands : (Here : ℕ → Type 0) (t : Token) → Here t.at → TokenHas (Stands Here) t
token_stands Here t h = record { place = h; name = λ e. h; number = λ e. tt; character = λ e. tt; text = λ e. tt; cut = λ e. tt }

tokens_stand : (n : ℕ) (ts : List Token) → Each (λ (t : Token). t.at < n) ts → Each (TokenHas (Stands (IsBelow n))) ts
tokens_stand n ts h = each_then (λ (t : Token). t.at < n) (TokenHas (Stands (IsBelow n))) ts (token_stands (IsBelow n)) h

pub streams_stand : (n : ℕ) (kind : StreamKind) (tree : Stream) (ts : List Token) → texts.Spells grammar levels (rules.stream kind) (streams.stream_of kind) tree ts → Each (λ (t : Token). t.at < n) ts → IsStandingStream n tree
streams_stand n kind tree ts spelled h = streams_leaves (Stands (IsBelow n)) tt kind tree ts spelled (tokens_stand n ts h)

pub front_stands : (n : ℕ) (definition : Bool) (ts : List Token) (f : Front) → IsFront definition ts f → Each (λ (t : Token). t.at < n) ts → FrontHas (Stands (IsBelow n)) f
front_stands n definition ts f front h = front_leaves (Stands (IsBelow n)) definition ts f front (tokens_stand n ts h)
