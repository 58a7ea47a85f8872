-- Sentences, their beginnings, and the first token of a text that is at fault.
use Rattle.std.specs.Prelude.{◌≡◌, ℕ, List, [], ◌∷◌, ◌++◌, Some, None, ◌⊎◌}
use Rattle.ll_grammar.specs.Grammar.{Rule, Grammar}
use Rattle.ll_grammar.specs.Derivations.{Tree, tokens, Derives, over}

-- Why a token is at fault: no sentence goes on with it, or it is nested too deep in each that does.
pub data Fault : Type 0 where
  Syntax : Fault
  TooDeep : Fault

-- the lists both end, or begin with one token
abbrev pub SameHead : {T : Type 0} → List T → List T → Type 0
SameHead [] [] = Unit {0}
SameHead [] (y ∷ ys) = ⊥
SameHead (x ∷ xs) [] = ⊥
SameHead (x ∷ xs) (y ∷ ys) = x ≡ y

-- the list begins with u and the first token of rest, and ends behind u where there is none
abbrev pub Begins : {T : Type 0} → List T → List T → List T → Type 0
Begins [] rest ts = SameHead ts rest
Begins (t ∷ u) rest [] = ⊥
Begins (t ∷ u) rest (x ∷ ts) = (x ≡ t) × Begins u rest ts

-- none of the tokens of u is the first that is nested too deep
abbrev pub Kept : {T : Type 0} → ℕ → Tree T → List T → Type 0
Kept n d u = (over n d ≡ None) ⊎ ((v : List _) × (over n d ≡ Some (u ++ v)))

module _ {T : Type 0} (g : Grammar T) (n : ℕ) (r : Rule) where
  -- the tokens are a sentence, and none is nested too deep
  pub record Sentence (ts : List T) : Type 0 where
    pub tree : Tree T
    pub derives : Derives g r tree
    pub spells : tokens tree ≡ ts
    pub within : over n tree ≡ None

  -- some sentence begins with u, and none of these tokens is nested too deep in it
  pub record Beginning (u : List T) : Type 0 where
    pub tree : Tree T
    pub derives : Derives g r tree
    pub behind : List T
    pub spells : tokens tree ≡ u ++ behind
    pub within : Kept n tree u

  -- no sentence begins with u and the next token
  abbrev pub NoSentence : List T → List T → Type 0
  NoSentence u rest = (d : Tree T) → Derives g r d → Begins u rest (tokens d) → ⊥

  -- some sentence begins with u and the next token, and in each that does this token is
  -- the first that is nested too deep
  pub record OnlyDeeper (u rest : List T) : Type 0 where
    pub tree : Tree T
    pub derives : Derives g r tree
    pub begins : Begins u rest (tokens tree)
    pub each : (d : Tree T) → Derives g r d → Begins u rest (tokens d) → over n d ≡ Some u

  -- why the token behind u is at fault
  abbrev pub Refusal : Fault → List T → List T → Type 0
  Refusal Syntax u rest = NoSentence u rest
  Refusal TooDeep u rest = OnlyDeeper u rest

  -- the first token at fault, for this reason, is that with which rest begins;
  -- the end of the text is at fault where rest is empty
  pub record Faulty (f : Fault) (ts rest : List T) : Type 0 where
    pub before : List T
    pub is : ts ≡ before ++ rest
    pub beginning : Beginning before
    pub refusal : Refusal f before rest
