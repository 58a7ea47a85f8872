-- What reading a whole text by descent answers is what the text is.
use Rattle.std.proofs.Common.{◌≡◌, ℕ, List, [], ◌∷◌, Result, Ok, Err, Option, Some, None, refl, sym, ap, ◌∙◌, subst, IfOk}
use Rattle.std.specs.Prelude.{IfErr}
use Rattle.ll_grammar.specs.Grammar.{Rule, Grammar}
use Rattle.ll_grammar.specs.Derivations.{Tree}
use Rattle.ll_grammar.specs.LookAhead.{IsLL1, IsRoot}
use Rattle.ll_grammar.specs.Sentences.{Fault, Syntax}
use Rattle.ll_grammar.specs.Readers.{whole, ended, Gives, Ends}
use Rattle.ll_grammar.specs.Texts.{TellsFirst, Spells, IsAnswer}
use Rattle.ll_grammar.proofs.Decided.{whole_sentence, behind_sentence, derivation_accepted, derivation_not_refused}
use Rattle.ll_grammar.proofs.OneFault.{fault_of}
use Rattle.ll_grammar.proofs.Link.{Reads, Accepted, Outcome, IsAt}

module _ {T F X : Type 0} (g : Grammar T) (ok : IsLL1 g) (r : Rule) (root : IsRoot g r) (tell : Fault → List T → F)
    (value : Tree T → List T → X) (n : ℕ) (ts : List T) where
  on_whole : (x : X) (rest : List T) → Accepted g tell r (IsAt value) n ts (x, rest)
      → IsAnswer g n r value tell ts (whole tell x rest)
  on_whole x [] p = record { sentence = whole_sentence g r ok root p.by ts p.is; gives = p.says }
  on_whole x (t ∷ rest) p =
      record { fault = Syntax; rest = t ∷ rest; faulty = behind_sentence g r ok root p.by ts p.is; told = refl }

  on_outcome : (o : Result (X × List T) F) → Outcome g tell r (IsAt value) n ts o → IsAnswer g n r value tell ts (ended tell o)
  on_outcome (Ok x) p = on_whole x.0 x.1 p
  on_outcome (Err e) p =
      record { fault = p.fault; rest = p.rest; faulty = fault_of g ok n r root p.fault p.before p.rest ts p.by p.is; told = p.told }

  -- a value is spelled, and a fault is the first
  pub answers : (o : Result (X × List T) F) → Reads g tell r (IsAt value) n ts o → IsAnswer g n r value tell ts (ended tell o)
  answers o p = on_outcome o p.outcome

  on_spelled : (x : X) → Spells g n r value x ts → (o : Result (X × List T) F) → Outcome g tell r (IsAt value) n ts o
      → ended tell o ≡ Ok x
  on_spelled x s (Err e) p =
      absurd (derivation_not_refused g r ok root p.by s.sentence.tree s.sentence.derives (s.sentence.spells ∙ p.is) s.sentence.within)
  on_spelled x s (Ok y) p =
      let i = derivation_accepted g r ok root p.by s.sentence.tree s.sentence.derives (s.sentence.spells ∙ p.is) in
      let e : y.0 ≡ x = sym p.says ∙ (λ j. value (sym i.0 j) (i.1 j)) ∙ s.gives in
      ap (whole tell y.0) i.1 ∙ ap (λ z. Ok z) e

  -- what is spelled is read
  pub is_read : (x : X) → Spells g n r value x ts → (o : Result (X × List T) F) → Reads g tell r (IsAt value) n ts o
      → ended tell o ≡ Ok x
  is_read x s o p = on_spelled x s o p.outcome

-- The same of code whose result, seen by `view`, is what is read.
module _ {T F X Y E : Type 0} (g : Grammar T) (ok : IsLL1 g) (r : Rule) (root : IsRoot g r) (tell : Fault → List T → F)
    (cause : E → Option F) (value : Tree T → List T → X) (view : Y → X) (n : ℕ) (ts : List T) (o : Result (X × List T) F)
    (reads : Reads g tell r (IsAt value) n ts o) where
  -- what it returns is spelled
  pub returns_value : (result : Result Y E) → Gives cause view result (ended tell o)
      → IfOk result (λ y. Spells g n r value (view y) ts)
  returns_value (Ok y) h = subst (IsAnswer g n r value tell ts) h (answers g ok r root tell value n ts o reads)
  returns_value (Err e) h = tt

  -- what is spelled it returns, unless memory is out
  pub returns_spelled : (result : Result Y E) → Gives cause view result (ended tell o) → (x : X) → Spells g n r value x ts
      → Gives cause view result (Ok x)
  returns_spelled result h x s = subst (Gives cause view result) (is_read g ok r root tell value n ts x s o reads) h

  told : (c : Option F) → Ends c (ended tell o) → TellsFirst g n r tell ts c
  told None h = tt
  told (Some f) h = subst (IsAnswer g n r value tell ts) h (answers g ok r root tell value n ts o reads)

  -- the fault that it tells of is the first
  pub returns_fault : (result : Result Y E) → Gives cause view result (ended tell o)
      → IfErr result (λ e. TellsFirst g n r tell ts (cause e))
  returns_fault (Ok y) h = tt
  returns_fault (Err e) h = told (cause e) h
