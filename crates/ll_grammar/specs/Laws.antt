-- What one token of look-ahead gives, for every such grammar.
use Rattle.std.specs.Prelude.{◌≡◌, ℕ, List, ◌++◌, ◌⊎◌, None, Result}
use Rattle.ll_grammar.specs.Grammar.{Rule, Grammar}
use Rattle.ll_grammar.specs.Derivations.{Tree, tokens, Derives, over}
use Rattle.ll_grammar.specs.Sentences.{Fault, Sentence, Faulty}
use Rattle.ll_grammar.specs.Texts.{IsAnswer}
use Rattle.ll_grammar.specs.Reading.{Accepts, Refuses, Answer}

module _ {T : Type 0} (g : Grammar T) (r : Rule) where
  -- what is accepted is a derivation, and nothing in it is nested too deep
  abbrev pub IsSound : Type 0
  IsSound = (n : ℕ) (d : Tree T) (rest : List T) → Accepts g n r d rest → Derives g r d × (over n d ≡ None)

  -- each list is accepted up to a rest, or refused
  abbrev pub IsTotal : Type 0
  IsTotal = (n : ℕ) (ts : List T) → Answer g n r ts

  -- a text has one derivation at most
  abbrev pub IsUnambiguous : Type 0
  IsUnambiguous = (d e : Tree T) → Derives g r d → Derives g r e → tokens d ≡ tokens e → d ≡ e

  -- the token at which reading is refused is the first at fault
  abbrev pub RefusesFirstFault : Type 0
  RefusesFirstFault =
      (f : Fault) (n : ℕ) (u rest ts : List T) → Refuses g f n r u rest → ts ≡ u ++ rest → Faulty g n r f ts rest

  -- a text is a sentence within the depth, or has a first token at fault
  abbrev pub IsDecided : Type 0
  IsDecided = (n : ℕ) (ts : List T) → Sentence g n r ts ⊎ ((f : Fault) × (rest : List T) × Faulty g n r f ts rest)

  -- never both, and never two
  abbrev pub HasOneFault : Type 0
  HasOneFault = (n : ℕ) (ts : List T) (f : Fault) (rest : List T) → Faulty g n r f ts rest
      → (Sentence g n r ts → ⊥) × ((f' : Fault) (rest' : List T) → Faulty g n r f' ts rest'
      → (rest' ≡ rest) × (f' ≡ f))

  -- where a parser's answer is a value of the derivation or what is told of the first fault, each text has one
  abbrev pub HasAnswer : {X F : Type 0} → (Tree T → List T → X) → (Fault → List T → F) → Type 0
  HasAnswer {X} {F} value tell = (n : ℕ) (ts : List T) → (answer : Result X F) × IsAnswer g n r value tell ts answer

  -- and no other
  abbrev pub HasOneAnswer : {X F : Type 0} → (Tree T → List T → X) → (Fault → List T → F) → Type 0
  HasOneAnswer {X} {F} value tell =
      (n : ℕ) (ts : List T) (a b : Result X F) → IsAnswer g n r value tell ts a → IsAnswer g n r value tell ts b
      → a ≡ b
