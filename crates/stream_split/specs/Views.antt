-- How the code's types show what the definitions speak of.
use Rattle.std.specs.Prelude.{◌≡◌, ℕ, zero, suc, ◌+◌, ◌<◌, List, [], ◌∷◌, ◌++◌, map, length}
use Rattle.std.specs.List.{All}
use Rattle.m2_base.specs.declared.token.Token.{Token}
use Rattle.stream_split.specs.declared.cutter.Cutter.{Cutter}
use Rattle.stream_split.specs.declared.cutter.Frame.{Frame}
use Rattle.stream_split.specs.declared.cutter.Mode.{Mode}
use Rattle.stream_split.specs.declared.cutter.Phase as code
use Rattle.stream_split.specs.declared.cutter.Phase.TheVariants.{Amid, Seen, Heading, TwoLeft, OneLeft, Ended}
use Rattle.stream_split.specs.declared.streams.StreamTokens.{StreamTokens}
use Rattle.stream_split.specs.Cut.{Event, Phase, amid, seen, heading, two_left, one_left, ended, State, state, pick}
use Rattle.stream_split.specs.Streams.{StreamOf}

abbrev pub stream_view : StreamTokens → StreamOf
stream_view s = record {
  stream = s.stream;
  text = s.text;
  outer = s.outer;
  level = s.level;
  kind = s.kind;
  tokens = s.tokens.items;
}

-- a stream without its tokens
abbrev pub label : StreamTokens → StreamOf
label s = record { stream = s.stream; text = s.text; outer = s.outer; level = s.level; kind = s.kind; tokens = [] }

-- the tokens of the stream at this index
abbrev pub item : ℕ → List StreamTokens → List Token
item j [] = []
item zero (s ∷ ss) = s.tokens.items
item (suc j) (s ∷ ss) = item j ss

-- these tokens were sent; the stream at index 0 has the number n
abbrev pub Sent : ℕ → List StreamTokens → List Event → List StreamTokens → Type 0
Sent n xs es ys = (j : ℕ) → item j ys ≡ item j xs ++ pick (n + j) es

abbrev pub frame_view : ℕ → Frame → ℕ × Mode
frame_view n f = (n + f.stream, f.mode)

-- the streams round the current one, from the inside out
abbrev pub frames_on : ℕ → List (ℕ × Mode) → List Frame → List (ℕ × Mode)
frames_on n fs [] = fs
frames_on n fs (x ∷ xs) = frames_on n (frame_view n x ∷ fs) xs

abbrev pub frames_view : ℕ → List Frame → List (ℕ × Mode)
frames_view n xs = frames_on n [] xs

-- the token goes to each of these streams
abbrev pub sends_all : ℕ → List Frame → Token → List Event
sends_all n xs t = map (λ f. (n + f.stream, t)) xs

abbrev pub phase_view : code.Phase → Mode → List Token → Phase
phase_view Amid m hs = amid m
phase_view (Seen p) m hs = seen m p
phase_view (Heading q) m hs = heading m q hs
phase_view TwoLeft m hs = two_left
phase_view OneLeft m hs = one_left
phase_view Ended m hs = ended

abbrev pub state_view : Cutter → State
state_view c = state (c.first + c.current) (c.first + length c.streams.items) (frames_view c.first c.around.items)
    (phase_view c.phase c.mode c.held.items)

-- every stream that is open is there
pub record Ready (c : Cutter) : Type 0 where
  pub current : c.current < length c.streams.items
  pub around : All (λ f. f.stream < length c.streams.items) c.around.items
