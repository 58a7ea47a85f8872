-- The laws of grammars that one token of look-ahead reads.
use Rattle.std.proofs.Common.{◌≡◌, ℕ, List, [], ◌∷◌, ◌++◌, sym, ◌∙◌, subst, ◌⊎◌, inl, inr, None, arith}
use Rattle.std.proofs.lemmas.List.{append-nil}
use Rattle.ll_grammar.specs.Grammar.{Rule, Grammar}
use Rattle.ll_grammar.specs.Derivations.{Tree, tokens, Derives, over}
use Rattle.ll_grammar.specs.LookAhead.{IsLL1, IsRoot}
use Rattle.ll_grammar.specs.Sentences.{Fault, Syntax, TooDeep, Begins, Sentence, Faulty}
use Rattle.ll_grammar.specs.Reading.{Accepts, Refuses, Answer, accepted, refused}
use Rattle.ll_grammar.specs.Laws.{IsSound, IsTotal, IsUnambiguous, RefusesFirstFault, IsDecided, HasOneFault}
use Rattle.ll_grammar.proofs.Beginnings.{begins_self, begins_whole, same_refl}
use Rattle.ll_grammar.proofs.Checks.{root_clear}
use Rattle.ll_grammar.proofs.Soundness.{accepts_derives, accepts_within}
use Rattle.ll_grammar.proofs.OneTree.{one_tree}
use Rattle.ll_grammar.proofs.FirstFault.{Verdict}
use Rattle.ll_grammar.proofs.OneFault.{fault_of, one_fault, no_fault, none_some, root_verdict}
use Rattle.ll_grammar.proofs.Total.{total}
use Rattle.ll_grammar.proofs.Nesting.{count, within_count}

module _ {T : Type 0} (g : Grammar T) (r : Rule) where
  pub sound : IsSound g r
  sound n d rest p = (accepts_derives g p, accepts_within g p)

  pub has_one_fault : HasOneFault g r
  has_one_fault n ts f rest a = (no_fault g n r f ts rest a, λ f' rest' b. one_fault g n r f f' ts rest rest' a b)

  module _ (ok : IsLL1 g) (root : IsRoot g r) where
    pub is_total : IsTotal g r
    is_total n ts = total g ok n r [] (root_clear g r root) ts

    pub refuses_first_fault : RefusesFirstFault g r
    refuses_first_fault f n u rest ts p e = fault_of g ok n r root f u rest ts p e

    -- the only derivation of a text that begins with what is accepted and the next token
    pub root_tree : {n : ℕ} {d : Tree T} {rest : List T} → Accepts g n r d rest → (e : Tree T) → Derives g r e
        → Begins (tokens d) rest (tokens e) → e ≡ d
    root_tree {n} {d} {rest} p e k b =
        one_tree g ok p k [] [] (root_clear g r root) tt (subst (Begins (tokens d) rest) (sym (append-nil (tokens e))) b)

    -- a derivation of what is read, or its beginning
    begins_of : (d : Tree T) (u rest : List T) → tokens d ≡ u ++ rest → Begins u rest (tokens d)
    begins_of d u rest e = subst (Begins u rest) (sym e) (begins_self u rest rest (same_refl rest))

    no_more : (u : List T) (t : T) (ts : List T) → Begins u (t ∷ ts) u → ⊥
    no_more u t ts b = (let e = begins_whole u (t ∷ ts) b in cc)

    -- what stands behind a whole sentence is a fault
    pub behind_sentence : {n : ℕ} {d : Tree T} {t : T} {rest : List T} → Accepts g n r d (t ∷ rest) → (ts : List T)
        → ts ≡ tokens d ++ (t ∷ rest) → Faulty g n r Syntax ts (t ∷ rest)
    behind_sentence {n} {d} {t} {rest} p ts e = record {
      before = tokens d;
      is = e;
      beginning =
          record { tree = d; derives = accepts_derives g p; behind = []; spells = sym (append-nil (tokens d)); within = inl (accepts_within g p) };
      refusal = λ c k b. no_more (tokens d) t rest (subst (λ z. Begins (tokens d) (t ∷ rest) (tokens z)) (root_tree p c k b) b);
    }

    -- what is accepted whole is a sentence
    abbrev pub whole_sentence : {n : ℕ} {d : Tree T} → Accepts g n r d [] → (ts : List T) → ts ≡ tokens d ++ [] → Sentence g n r ts
    whole_sentence {n} {d} p ts e =
        record { tree = d; derives = accepts_derives g p; spells = sym (append-nil (tokens d)) ∙ sym e; within = accepts_within g p }

    pub is_decided : IsDecided g r
    is_decided n ts = on (is_total n ts)
      where
        on : Answer g n r ts → Sentence g n r ts ⊎ ((f : Fault) × (rest : List T) × Faulty g n r f ts rest)
        on (accepted {rest = []} p e) = inl (whole_sentence p ts e)
        on (accepted {rest = t ∷ rest} p e) = inr (Syntax, t ∷ rest, behind_sentence p ts e)
        on (refused {f = f} {u = u} {rest = rest} p e) = inr (f, rest, fault_of g ok n r root f u rest ts p e)

    -- a derivation of the whole text is what is accepted
    pub derivation_accepted : {n : ℕ} {d : Tree T} {rest : List T} → Accepts g n r d rest → (e : Tree T) → Derives g r e
        → tokens e ≡ tokens d ++ rest → (e ≡ d) × (rest ≡ [])
    derivation_accepted {n} {d} {rest} p e k h =
        let b = begins_of e (tokens d) rest h in
        let same = root_tree p e k b in
        (same, begins_whole (tokens d) rest (subst (λ z. Begins (tokens d) rest (tokens z)) same b))

    -- no derivation within the depth is refused
    pub derivation_not_refused : {n : ℕ} {f : Fault} {u rest : List T} → Refuses g f n r u rest → (e : Tree T) → Derives g r e
        → tokens e ≡ u ++ rest → over n e ≡ None → ⊥
    derivation_not_refused {n} {f} {u} {rest} p e k h o = no f (root_verdict g ok n r root f p e k (begins_of e u rest h))
      where
        no : (f : Fault) → Verdict f n e u → ⊥
        no Syntax v = v
        no TooDeep v = none_some u (sym v ∙ o)

    pub is_unambiguous : IsUnambiguous g r
    is_unambiguous d e k l same = on (is_total (count d) (tokens d))
      where
        on : Answer g (count d) r (tokens d) → d ≡ e
        on (accepted p h) = (derivation_accepted p d k h).0 ∙ sym (derivation_accepted p e l (sym same ∙ h)).0
        on (refused p h) = absurd (derivation_not_refused p d k h (within_count d (count d) (omega arith)))
