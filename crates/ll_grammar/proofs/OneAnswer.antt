-- A text has one value or one first fault, and never both.
use Rattle.std.proofs.Common.{◌≡◌, ⊎_elim, ℕ, List, [], Result, Ok, Err, refl, sym, ap, ◌∙◌}
use Rattle.ll_grammar.specs.Grammar.{Rule, Grammar}
use Rattle.ll_grammar.specs.Derivations.{Tree}
use Rattle.ll_grammar.specs.LookAhead.{IsLL1, IsRoot}
use Rattle.ll_grammar.specs.Sentences.{Fault}
use Rattle.ll_grammar.specs.Laws.{HasAnswer, HasOneAnswer}
use Rattle.ll_grammar.specs.Texts.{Spells, IsFirstFault, IsAnswer}
use Rattle.ll_grammar.proofs.Decided.{is_unambiguous, is_decided}
use Rattle.ll_grammar.proofs.OneFault.{one_fault, no_fault}

module _ {T : Type 0} (g : Grammar T) (n : ℕ) (r : Rule) (ts : List T) where
  pub one_first_fault : {F : Type 0} (tell : Fault → List T → F) (e e' : F) → IsFirstFault g n r tell e ts
      → IsFirstFault g n r tell e' ts → e ≡ e'
  one_first_fault tell e e' a b =
      let i = one_fault g n r a.fault b.fault ts a.rest b.rest a.faulty b.faulty in
      a.told ∙ (λ j. tell (sym i.1 j) (sym i.0 j)) ∙ sym b.told

  module _ (ok : IsLL1 g) (root : IsRoot g r) where
    pub one_value : {X : Type 0} (value : Tree T → List T → X) (x y : X) → Spells g n r value x ts → Spells g n r value y ts → x ≡ y
    one_value value x y a b =
        let same = is_unambiguous g r ok root a.sentence.tree b.sentence.tree a.sentence.derives b.sentence.derives (a.sentence.spells ∙ sym b.sentence.spells) in
        sym a.gives ∙ ap (λ d. value d []) same ∙ b.gives

    -- two answers to one text are equal
    pub one_answer : {X F : Type 0} (value : Tree T → List T → X) (tell : Fault → List T → F) (a b : Result X F)
        → IsAnswer g n r value tell ts a → IsAnswer g n r value tell ts b → a ≡ b
    one_answer value tell (Ok x) (Ok y) p q = ap (λ z. Ok z) (one_value value x y p q)
    one_answer value tell (Ok x) (Err e) p q = absurd (no_fault g n r q.fault ts q.rest q.faulty p.sentence)
    one_answer value tell (Err e) (Ok y) p q = absurd (no_fault g n r p.fault ts p.rest p.faulty q.sentence)
    one_answer value tell (Err e) (Err e') p q = ap (λ z. Err z) (one_first_fault tell e e' p q)

module _ {T X F : Type 0} (g : Grammar T) (r : Rule) (value : Tree T → List T → X) (tell : Fault → List T → F) (ok : IsLL1 g)
    (root : IsRoot g r) where
  pub has_answer : HasAnswer g r value tell
  has_answer n ts = ⊎_elim
      (λ s. (Ok (value s.tree []), record { sentence = s; gives = refl }))
      (λ f. (Err (tell f.0 f.1), record { fault = f.0; rest = f.1; faulty = f.2; told = refl }))
      (is_decided g r ok root n ts)

  pub has_one_answer : HasOneAnswer g r value tell
  has_one_answer n ts a b p q = one_answer g n r ts ok root value tell a b p q
