-- What a parser promises of a text: its value, or the first token at fault.
use Rattle.std.specs.Prelude.{◌≡◌, ℕ, List, [], Result, Ok, Err, Option, Some, None}
use Rattle.ll_grammar.specs.Grammar.{Rule, Grammar}
use Rattle.ll_grammar.specs.Derivations.{Tree}
use Rattle.ll_grammar.specs.Sentences.{Fault, Sentence, Faulty}

module _ {T : Type 0} (g : Grammar T) (n : ℕ) (r : Rule) where
  -- The tokens are a sentence whose derivation gives this value. `value` may look at the tokens behind a derivation,
  -- of which a whole text has none.
  pub record Spells {X : Type 0} (value : Tree T → List T → X) (x : X) (ts : List T) : Type 0 where
    pub sentence : Sentence g n r ts
    pub gives : value sentence.tree [] ≡ x

  -- The fault is what `tell` says of the first token at fault.
  pub record IsFirstFault {F : Type 0} (tell : Fault → List T → F) (e : F) (ts : List T) : Type 0 where
    pub fault : Fault
    pub rest : List T
    pub faulty : Faulty g n r fault ts rest
    pub told : e ≡ tell fault rest

  -- what reading a text answers
  abbrev pub IsAnswer : {X F : Type 0} → (Tree T → List T → X) → (Fault → List T → F) → List T → Result X F → Type 0
  IsAnswer value tell ts (Ok x) = Spells value x ts
  IsAnswer value tell ts (Err e) = IsFirstFault tell e ts

  -- The fault that an error tells of is the first, where memory is not out.
  abbrev pub TellsFirst : {F : Type 0} → (Fault → List T → F) → List T → Option F → Type 0
  TellsFirst tell ts None = Unit {0}
  TellsFirst tell ts (Some f) = IsFirstFault tell f ts
