-- A text has one fault, and none among tokens that a sentence within the depth begins with.
use Rattle.std.proofs.Common.{◌≡◌, ℕ, List, [], ◌∷◌, ◌++◌, refl, sym, ap, ◌∙◌, subst, append_assoc, inl, inr, Some, None, length, arith, length-append}
use Rattle.std.proofs.lemmas.List.{append-nil}
use Rattle.ll_grammar.specs.Grammar.{Rule, Grammar}
use Rattle.ll_grammar.specs.Derivations.{Tree, tokens, Derives, over}
use Rattle.ll_grammar.specs.LookAhead.{IsLL1, IsRoot}
use Rattle.ll_grammar.specs.Sentences.{Fault, Syntax, TooDeep, SameHead, Begins, Kept, Sentence, Beginning, Refusal, Faulty}
use Rattle.ll_grammar.specs.Reading.{Refuses}
use Rattle.ll_grammar.proofs.Beginnings.{begins_self, same_refl}
use Rattle.ll_grammar.proofs.Checks.{root_clear, root_complete}
use Rattle.ll_grammar.proofs.FirstFault.{verdict, Verdict}
use Rattle.ll_grammar.proofs.Viable.{reaches, Reaches}

pub none_some : {A : Type 0} (x : A) → Some x ≡ None → ⊥
none_some x e = cc

pub some_is : {A : Type 0} (x y : A) → Some x ≡ Some y → x ≡ y
some_is x y e = cc

-- Two ways to part one list: u before rest, and v before w.
pub data Fork {T : Type 0} (u rest v w : List T) : Type 0 where
  longer : (z : List T) → u ≡ v ++ z → w ≡ z ++ rest → Fork u rest v w
  shorter : (t : T) (z : List T) → v ≡ u ++ (t ∷ z) → rest ≡ t ∷ (z ++ w) → Fork u rest v w

module _ {T : Type 0} where
  fork_cons : (x : T) (u rest v w : List T) → Fork u rest v w → Fork (x ∷ u) rest (x ∷ v) w
  fork_cons x u rest v w (longer z a b) = longer z (ap (λ q. x ∷ q) a) b
  fork_cons x u rest v w (shorter t z a b) = shorter t z (ap (λ q. x ∷ q) a) b

  pub fork : (u rest v w : List T) → u ++ rest ≡ v ++ w → Fork u rest v w
  fork u rest [] w h = longer u refl (sym h)
  fork [] rest (t ∷ v) w h = shorter t v refl h
  fork (x ∷ u) rest (y ∷ v) w h =
      let e : x ≡ y = cc in let f : u ++ rest ≡ v ++ w = cc in subst (λ q. Fork (x ∷ u) rest (q ∷ v) w) e (fork_cons x u rest v w (fork u rest v w f))

  too_long : (u v : List T) (t : T) (z : List T) → u ≡ (u ++ (t ∷ z)) ++ v → ⊥
  too_long [] v t z h = cc
  too_long (x ∷ u) v t z h = too_long u v t z cc

  same_back : (v w z y : List T) → v ≡ z ++ w → w ≡ y ++ v → v ≡ w
  same_back v w [] y h k = h
  same_back v w (x ∷ z) y h k =
      let a = ap length h in
      let b = ap length k in
      let no : ⊥ = omega (arith, a, b, length-append (x ∷ z) w, length-append y v) in absurd no

  pub same_before : (u v w : List T) → u ++ w ≡ v ++ w → u ≡ v
  same_before u v w h = on (fork u w v w h)
    where
      on : Fork u w v w → u ≡ v
      on (longer [] a b) = a ∙ append-nil v
      on (longer (x ∷ z) a b) = let e = ap length b in let no : ⊥ = omega (arith, e, length-append (x ∷ z) w) in absurd no
      on (shorter t z a b) = let e = ap length b in let no : ⊥ = omega (arith, e, length-append z w) in absurd no

module _ {T : Type 0} (g : Grammar T) (n : ℕ) (r : Rule) where
  -- no fault lies among the first tokens of a sentence, where these are not too deep
  pub not_before : (f : Fault) (ts rest v w : List T) → Faulty g n r f ts rest → Beginning g n r v → ts ≡ v ++ w
      → (z : List T) × (w ≡ z ++ rest)
  not_before f ts rest v w a b e = on (fork a.before rest v w (sym a.is ∙ e))
    where
      kept : (t : T) (z : List T) → v ≡ a.before ++ (t ∷ z) → over n b.tree ≡ Some a.before → Kept n b.tree v → ⊥
      kept t z h o (inl k) = none_some a.before (sym o ∙ k)
      kept t z h o (inr k) = too_long a.before k.0 t z (some_is a.before _ (sym o ∙ k.1 ∙ ap (λ q. Some (q ++ k.0)) h))

      begins : (t : T) (z : List T) → v ≡ a.before ++ (t ∷ z) → rest ≡ t ∷ (z ++ w) → Begins a.before rest (tokens b.tree)
      begins t z h k =
          subst (Begins a.before rest) (sym (b.spells ∙ ap (λ q. q ++ b.behind) h ∙ append_assoc a.before (t ∷ z) b.behind)) (begins_self a.before rest (t ∷ (z ++ b.behind)) (subst (SameHead (t ∷ (z ++ b.behind))) (sym k) refl))

      no : (f : Fault) → Refusal g n r f a.before rest → (t : T) (z : List T) → v ≡ a.before ++ (t ∷ z) → rest ≡ t ∷ (z ++ w) → ⊥
      no Syntax q t z h k = q b.tree b.derives (begins t z h k)
      no TooDeep q t z h k = kept t z h (q.each b.tree b.derives (begins t z h k)) b.within

      on : Fork a.before rest v w → (z : List T) × (w ≡ z ++ rest)
      on (longer z h k) = (z, k)
      on (shorter t z h k) = absurd (no f a.refusal t z h k)

  -- a text has one fault
  pub one_fault : (f f' : Fault) (ts rest rest' : List T) → Faulty g n r f ts rest → Faulty g n r f' ts rest'
      → (rest' ≡ rest) × (f' ≡ f)
  one_fault f f' ts rest rest' a b =
      let x = not_before f' ts rest' a.before rest b a.beginning a.is in
      let y = not_before f ts rest b.before rest' a b.beginning b.is in
      let same : rest ≡ rest' = same_back rest rest' x.0 y.0 x.1 y.1 in
      let us : a.before ≡ b.before = same_before a.before b.before rest (sym a.is ∙ b.is ∙ ap (λ q. b.before ++ q) (sym same)) in
      (sym same, kind f f' a.refusal (subst (λ q. Refusal g n r f' q rest) (sym us) (subst (Refusal g n r f' b.before) (sym same) b.refusal)))
    where
      kind : (f f' : Fault) → Refusal g n r f a.before rest → Refusal g n r f' a.before rest → f' ≡ f
      kind Syntax Syntax p q = refl
      kind TooDeep TooDeep p q = refl
      kind Syntax TooDeep p q = absurd (p q.tree q.derives q.begins)
      kind TooDeep Syntax p q = absurd (q p.tree p.derives p.begins)

  -- a sentence has no fault
  pub no_fault : (f : Fault) (ts rest : List T) → Faulty g n r f ts rest → Sentence g n r ts → ⊥
  no_fault f ts rest a s = no f a.refusal
    where
      begins : Begins a.before rest (tokens s.tree)
      begins = subst (Begins a.before rest) (sym (s.spells ∙ a.is)) (begins_self a.before rest rest (same_refl rest))

      no : (f : Fault) → Refusal g n r f a.before rest → ⊥
      no Syntax q = q s.tree s.derives begins
      no TooDeep q = none_some a.before (sym (q.each s.tree s.derives begins) ∙ s.within)

module _ {T : Type 0} (g : Grammar T) (ok : IsLL1 g) (n : ℕ) (r : Rule) (root : IsRoot g r) where
  pub root_verdict : (f : Fault) {u rest : List T} → Refuses g f n r u rest → (d : Tree T) → Derives g r d
      → Begins u rest (tokens d) → Verdict f n d u
  root_verdict f {u} {rest} p d k b =
      verdict g ok p k [] [] (root_clear g r root) tt (subst (Begins u rest) (sym (append-nil (tokens d))) b)

  -- the token at which reading is refused is the text's fault
  pub fault_of : (f : Fault) (u rest ts : List T) → Refuses g f n r u rest → ts ≡ u ++ rest → Faulty g n r f ts rest
  fault_of f u rest ts p e =
      let x = reaches g ok p (root_complete g r root) in
      record { before = u; is = e; beginning = record { tree = x.tree; derives = x.derives; behind = x.behind; spells = x.spells; within = x.kept }; refusal = why f p x }
    where
      why : (f : Fault) → Refuses g f n r u rest → Reaches g f n r u rest → Refusal g n r f u rest
      why Syntax p x = λ d k b. root_verdict Syntax p d k b
      why TooDeep p x =
          record { tree = x.tree; derives = x.derives; begins = subst (Begins u rest) (sym x.spells) (begins_self u rest x.behind x.on.1); each = λ d k b. root_verdict TooDeep p d k b }
