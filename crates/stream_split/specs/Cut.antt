-- Where each token of a main text goes: to the stream of the block that it stands in, and a procedure's heading to
-- that of the procedure, too. The cut is defined one token at a time,
-- so that where the first tokens go depends on them alone.
use Rattle.std.specs.Prelude.{ℕ, zero, suc, ◌+◌, ◌==◌, List, [], ◌∷◌, ◌++◌, cond, map, length}
use Rattle.m2_base.specs.declared.kind.TokenKind.{TokenKind}
use Rattle.m2_base.specs.declared.kind.TokenKind.TheVariants as kinds
use Rattle.m2_base.specs.declared.token.Token.{Token}
use Rattle.stream_split.specs.declared.sorts.Sort.{Sort}
use Rattle.stream_split.specs.declared.sorts.Sort.TheVariants.{Stop, Word, Procedure, Opener, Closer, Left, Right}
use Rattle.stream_split.specs.declared.sorts.Sort.TheVariants.{Semicolon, Other}
use Rattle.stream_split.specs.declared.cutter.Mode.{Mode}
use Rattle.stream_split.specs.declared.cutter.Mode.TheVariants.{Free, Body}

-- what a kind of token is to the cut
abbrev pub sort : TokenKind → Sort
sort kinds.EndOfText = Stop
sort kinds.Identifier = Word
sort kinds.Procedure = Procedure
sort kinds.Record = Opener
sort kinds.Case = Opener
sort kinds.If = Opener
sort kinds.While = Opener
sort kinds.For = Opener
sort kinds.Loop = Opener
sort kinds.With = Opener
sort kinds.End = Closer
sort kinds.LeftParenthesis = Left
sort kinds.RightParenthesis = Right
sort kinds.Semicolon = Semicolon
sort kind = Other

-- How far the current stream is: amid its block; behind a PROCEDURE; in a heading, of which it has these tokens and so
-- many brackets are open; before the last two tokens of a procedure; before the last; at the end of the text. The mode
-- says how many constructs are open in a procedure's block; in the module's nothing is counted.
pub data Phase : Type 0 where
  amid : Mode → Phase
  seen : Mode → Token → Phase
  heading : Mode → ℕ → List Token → Phase
  two_left : Phase
  one_left : Phase
  ended : Phase

-- the current stream, the number of the next one, the streams round the current one from the inside out
pub data State : Type 0 where
  state : ℕ → ℕ → List (ℕ × Mode) → Phase → State

-- one more construct is open
abbrev pub deeper : Mode → Mode
deeper Free = Free
deeper (Body d) = Body (suc d)

-- behind an END
abbrev pub closed : Mode → Phase
closed Free = amid Free
closed (Body zero) = two_left
closed (Body (suc d)) = amid (Body d)

abbrev pub amid_next : Mode → Token → Sort → Phase
amid_next m t Stop = ended
amid_next m t Procedure = seen m t
amid_next m t Opener = amid (deeper m)
amid_next m t Closer = closed m
amid_next m t z = amid m

-- behind a PROCEDURE an identifier begins a heading
abbrev pub seen_next : Mode → Token → Token → Sort → Phase
seen_next m p t Word = heading m 0 (p ∷ t ∷ [])
seen_next m p t z = amid_next m t z

abbrev pub less : ℕ → ℕ
less zero = zero
less (suc n) = n

-- a heading ends with the first semicolon outside brackets, where the procedure's block begins
abbrev pub heading_next : ℕ → ℕ → List (ℕ × Mode) → Mode → ℕ → List Token → Token → Sort → State
heading_next k c fs m p hs t Stop = state k (suc c) fs ended
heading_next k c fs m p hs t Left = state k c fs (heading m (suc p) (hs ++ (t ∷ [])))
heading_next k c fs m p hs t Right = state k c fs (heading m (less p) (hs ++ (t ∷ [])))
heading_next k c fs m zero hs t Semicolon = state c (suc c) ((k, m) ∷ fs) (amid (Body 0))
heading_next k c fs m p hs t z = state k c fs (heading m p (hs ++ (t ∷ [])))

-- the one where the text ends here, else the other
abbrev pub unless_stop : Sort → {A : Type 0} → A → A → A
unless_stop Stop x y = x
unless_stop z x y = y

-- behind a procedure the stream round it goes on
abbrev pub out_of : ℕ → ℕ → List (ℕ × Mode) → State
out_of k c [] = state k c [] (amid Free)
out_of k c (f ∷ fs) = state f.0 c fs (amid f.1)

abbrev pub next_by : State → Token → Sort → State
next_by (state k c fs (amid m)) t z = state k c fs (amid_next m t z)
next_by (state k c fs (seen m p)) t z = state k c fs (seen_next m p t z)
next_by (state k c fs (heading m p hs)) t z = heading_next k c fs m p hs t z
next_by (state k c fs two_left) t z = state k c fs (unless_stop z ended one_left)
next_by (state k c fs one_left) t z = unless_stop z (state k c fs ended) (out_of k c fs)
next_by (state k c fs ended) t z = state k c fs ended

-- the state behind one more token
abbrev pub next : State → Token → State
next s t = next_by s t (sort t.kind)

-- a token of a stream
abbrev pub Event : Type 0
Event = ℕ × Token

-- these tokens go to stream k
abbrev pub to : ℕ → List Token → List Event
to k ts = map (λ t. (k, t)) ts

-- the Cut and the end of a stream, at the token before them
abbrev pub cut_at : ℕ → Token → Token
cut_at c t = record { kind = kinds.Cut; value = c; at = t.at; line = t.line; column = t.column }

abbrev pub end_at : Token → Token
end_at t = record { kind = kinds.StreamEnd; value = 0; at = t.at; line = t.line; column = t.column }

-- every stream round the current one ends with this token
abbrev pub all_end : List (ℕ × Mode) → Token → List Event
all_end [] t = []
all_end (f ∷ fs) t = (f.0, t) ∷ all_end fs t

-- the heading begins the procedure's stream, in which its end or that of the text comes next
abbrev pub heading_goes : ℕ → ℕ → List (ℕ × Mode) → ℕ → List Token → Token → Sort → List Event
heading_goes k c fs p hs t Stop = (k, t) ∷ (all_end fs t ++ to c (hs ++ (t ∷ [])))
heading_goes k c fs zero hs t Semicolon = (k, t) ∷ (k, cut_at c t) ∷ to c (hs ++ (t ∷ []))
heading_goes k c fs p hs t z = (k, t) ∷ []

abbrev pub goes_by : State → Token → Sort → List Event
goes_by (state k c fs (amid m)) t z = (k, t) ∷ unless_stop z (all_end fs t) []
goes_by (state k c fs (seen m p)) t z = (k, t) ∷ unless_stop z (all_end fs t) []
goes_by (state k c fs (heading m p hs)) t z = heading_goes k c fs p hs t z
goes_by (state k c fs two_left) t z = (k, t) ∷ unless_stop z (all_end fs t) []
goes_by (state k c fs one_left) t z = (k, t) ∷ unless_stop z (all_end fs t) ((k, end_at t) ∷ [])
goes_by (state k c fs ended) t z = []

-- where a token goes
abbrev pub goes : State → Token → List Event
goes s t = goes_by s t (sort t.kind)

abbrev pub events : State → List Token → List Event
events s [] = []
events s (t ∷ ts) = goes s t ++ events (next s t) ts

abbrev pub after : State → List Token → State
after s [] = s
after s (t ∷ ts) = after (next s t) ts

-- where a procedure is declared: the stream round its own, and how many procedures it lies in, itself included
pub record Enclosed : Type 0 where
  pub outer : ℕ
  pub level : ℕ

abbrev pub enclosed : ℕ → List (ℕ × Mode) → Enclosed
enclosed k fs = record { outer = k; level = length fs + 1 }

-- the stream that this token begins, if it ends a heading
abbrev pub heading_opens : ℕ → List (ℕ × Mode) → ℕ → Sort → List Enclosed
heading_opens k fs p Stop = enclosed k fs ∷ []
heading_opens k fs zero Semicolon = enclosed k fs ∷ []
heading_opens k fs p z = []

abbrev pub opens_by : State → Sort → List Enclosed
opens_by (state k c fs (heading m p hs)) z = heading_opens k fs p z
opens_by s z = []

-- the streams that begin, in their order
abbrev pub opened : State → List Token → List Enclosed
opened s [] = []
opened s (t ∷ ts) = opens_by s (sort t.kind) ++ opened (next s t) ts

-- before the first token of a main text, whose module has stream m
abbrev pub start : ℕ → State
start m = state m (suc m) [] (amid Free)

-- the tokens of stream j
abbrev pub pick : ℕ → List Event → List Token
pick j [] = []
pick j (e ∷ es) = cond (j == e.0) (e.1 ∷ pick j es) (pick j es)
