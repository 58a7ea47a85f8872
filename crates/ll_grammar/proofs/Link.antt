-- Reading by descent is what the grammar says: a combinator for each form of a right side.
use Rattle.std.proofs.Common.{◌≡◌, ℕ, zero, suc, Bool, true, false, List, [], ◌∷◌, ◌++◌, Result, Ok, Err, refl, sym, ap, ◌∙◌, subst, append_assoc, cond}
use Rattle.std.specs.Prelude.{◌==◌}
use Rattle.ll_grammar.specs.Grammar.{Rule, empty, token, then, or, deep, sub, one, Grammar}
use Rattle.ll_grammar.specs.Derivations.{Tree, nothing, leaf, both, left, right, inner, part, tokens}
use Rattle.ll_grammar.specs.LookAhead.{member, starts, first, firsts}
use Rattle.ll_grammar.specs.Sentences.{Fault, Syntax, TooDeep}
use Rattle.ll_grammar.specs.Reading.{Accepts, accept_empty, accept_token, accept_then, accept_left, accept_right, accept_deep, accept_sub, Refuses, refuse_token, refuse_then, refuse_later, refuse_left, refuse_right, refuse_deep, refuse_sub, refuse_limit, refuse_none}
use Rattle.ll_grammar.specs.Readers.{◌>>=◌, next_is, next_in, expect, expect_in, at_depth}
use Rattle.ll_grammar.proofs.KindSets.{or_false}
use Rattle.ll_grammar.proofs.Beginnings.{starts_nil, starts_cons}

-- What a value has to do with the derivation that was read and the tokens behind it: it is a function of the derivation.
abbrev pub Is : {T X : Type 0} → (Tree T → X) → Tree T → X → List T → Type 0
Is value d x rest = value d ≡ x

-- It is a function of the derivation and the tokens behind it.
abbrev pub IsAt : {T X : Type 0} → (Tree T → List T → X) → Tree T → X → List T → Type 0
IsAt value d x rest = value d rest ≡ x

-- It is the token of which the derivation is the leaf.
abbrev pub IsLeaf : {T : Type 0} → Tree T → T → List T → Type 0
IsLeaf d t rest = d ≡ leaf t

module _ {T F : Type 0} (g : Grammar T) (tell : Fault → List T → F) where
  -- The tokens were accepted, and `P` says what the value has to do with the derivation and the tokens behind it.
  pub record Accepted {X : Type 0} (r : Rule) (P : Tree T → X → List T → Type 0) (n : ℕ) (ts : List T)
      (x : X × List T) : Type 0 where
    pub tree : Tree T
    pub by : Accepts g n r tree x.1
    pub is : ts ≡ tokens tree ++ x.1
    pub says : P tree x.0 x.1

  -- A token was refused, and the fault tells which and why.
  pub record Refused (r : Rule) (n : ℕ) (ts : List T) (e : F) : Type 0 where
    pub fault : Fault
    pub before : List T
    pub rest : List T
    pub by : Refuses g fault n r before rest
    pub is : ts ≡ before ++ rest
    pub told : e ≡ tell fault rest

  abbrev pub Outcome : {X : Type 0} → Rule → (Tree T → X → List T → Type 0) → ℕ → List T → Result (X × List T) F → Type 0
  Outcome r P n ts (Ok x) = Accepted r P n ts x
  Outcome r P n ts (Err e) = Refused r n ts e

  -- Reading the list by the right side, with n levels left, answers o.
  pub record Reads {X : Type 0} (r : Rule) (P : Tree T → X → List T → Type 0) (n : ℕ) (ts : List T)
      (o : Result (X × List T) F) : Type 0 where
    pub outcome : Outcome r P n ts o

  module _ {A X : Type 0} (n : ℕ) (r s : Rule) (P : Tree T → A → List T → Type 0) (Q : Tree T → X → List T → Type 0)
      (ts : List T) where
    seq_next : (x : A × List T) (p : Accepted r P n ts x) (o : Result (X × List T) F)
        → Outcome s (λ e y w. x.1 ≡ tokens e ++ w → Q (both p.tree e) y w) n x.1 o → Outcome (then r s) Q n ts o
    seq_next x p (Ok y) q = record {
      tree = both p.tree q.tree;
      by = accept_then (subst (Accepts g n r p.tree) q.is p.by) q.by;
      is = p.is ∙ ap (λ w. tokens p.tree ++ w) q.is ∙ sym (append_assoc (tokens p.tree) (tokens q.tree) y.1);
      says = q.says q.is;
    }
    seq_next x p (Err e) q = record {
      fault = q.fault;
      before = tokens p.tree ++ q.before;
      rest = q.rest;
      by = refuse_later (subst (Accepts g n r p.tree) q.is p.by) q.by;
      is = p.is ∙ ap (λ w. tokens p.tree ++ w) q.is ∙ sym (append_assoc (tokens p.tree) q.before q.rest);
      told = q.told;
    }

    seq_on : (o : Result (A × List T) F) (k : A × List T → Result (X × List T) F) → Outcome r P n ts o
        → ((x : A × List T) (d : Tree T) → P d x.0 x.1 → Reads s (λ e y w. x.1 ≡ tokens e ++ w → Q (both d e) y w) n x.1 (k x)) → Outcome (then r s) Q n ts (o >>= k)
    seq_on (Ok x) k p h = seq_next x p (k x) (h x p.tree p.says).outcome
    seq_on (Err e) k p h =
        record { fault = p.fault; before = p.before; rest = p.rest; by = refuse_then p.by; is = p.is; told = p.told }

  module _ {A X : Type 0} (n : ℕ) (r : Rule) (P : Tree T → A → List T → Type 0) (Q : Tree T → X → List T → Type 0)
      (ts : List T) where
    final_on : (o : Result (A × List T) F) (v : A × List T → X) → Outcome r P n ts o
        → ((x : A × List T) (d : Tree T) → P d x.0 x.1 → Q d (v x) x.1) → Outcome r Q n ts (o >>= λ x. Ok (v x, x.1))
    final_on (Ok x) v p h = record { tree = p.tree; by = p.by; is = p.is; says = h x p.tree p.says }
    final_on (Err e) v p h = record { fault = p.fault; before = p.before; rest = p.rest; by = p.by; is = p.is; told = p.told }

    weaker_on : (o : Result (A × List T) F) (R : Tree T → A → List T → Type 0) → Outcome r P n ts o
        → ((x : A) (d : Tree T) (w : List T) → P d x w → R d x w) → Outcome r R n ts o
    weaker_on (Ok x) R p h = record { tree = p.tree; by = p.by; is = p.is; says = h x.0 p.tree x.1 p.says }
    weaker_on (Err e) R p h = record { fault = p.fault; before = p.before; rest = p.rest; by = p.by; is = p.is; told = p.told }

  module _ {X : Type 0} (n : ℕ) (r s : Rule) (Q : Tree T → X → List T → Type 0) (ts : List T) where
    left_on : (o : Result (X × List T) F) → starts g (first g r) ts ≡ true → Outcome r (λ d. Q (left d)) n ts o
        → Outcome (or r s) Q n ts o
    left_on (Ok x) h p =
        record { tree = left p.tree; by = accept_left (subst (λ w. starts g (first g r) w ≡ true) p.is h) p.by; is = p.is; says = p.says }
    left_on (Err e) h p =
        record { fault = p.fault; before = p.before; rest = p.rest; by = refuse_left (subst (λ w. starts g (first g r) w ≡ true) p.is h) p.by; is = p.is; told = p.told }

    right_on : (o : Result (X × List T) F) → starts g (first g r) ts ≡ false → Outcome s (λ d. Q (right d)) n ts o
        → Outcome (or r s) Q n ts o
    right_on (Ok x) h p =
        record { tree = right p.tree; by = accept_right (subst (λ w. starts g (first g r) w ≡ false) p.is h) p.by; is = p.is; says = p.says }
    right_on (Err e) h p =
        record { fault = p.fault; before = p.before; rest = p.rest; by = refuse_right (subst (λ w. starts g (first g r) w ≡ false) p.is h) p.by; is = p.is; told = p.told }

  module _ {X : Type 0} (n : ℕ) (Q : Tree T → X → List T → Type 0) (ts : List T) where
    deeper_on : (m : ℕ) (o : Result (X × List T) F) → Outcome (g.rule m) (λ d. Q (inner d)) n ts o → Outcome (deep m) Q (suc n) ts o
    deeper_on m (Ok x) p = record { tree = inner p.tree; by = accept_deep p.by; is = p.is; says = p.says }
    deeper_on m (Err e) p =
        record { fault = p.fault; before = p.before; rest = p.rest; by = refuse_deep p.by; is = p.is; told = p.told }

    nested_on : (o : Result (X × List T) F) → Outcome (g.rule zero) (λ d. Q (part d)) n ts o → Outcome sub Q n ts o
    nested_on (Ok x) p = record { tree = part p.tree; by = accept_sub p.by; is = p.is; says = p.says }
    nested_on (Err e) p =
        record { fault = p.fault; before = p.before; rest = p.rest; by = refuse_sub p.by; is = p.is; told = p.told }

  token_on : (n : ℕ) (ks : List ℕ) (t : T) (ts : List T) (b : Bool) → member (g.kind t) ks ≡ b
      → Outcome (token ks) IsLeaf n (t ∷ ts) (cond b (Ok (t, ts)) (Err (tell Syntax (t ∷ ts))))
  token_on n ks t ts true h = record { tree = leaf t; by = accept_token h; is = refl; says = refl }
  token_on n ks t ts false h =
      record { fault = Syntax; before = []; rest = t ∷ ts; by = refuse_token (starts_cons g ks t ts false h); is = refl; told = refl }

  no_token : (n : ℕ) (ks : List ℕ) → Outcome (token ks) IsLeaf n [] (Err (tell Syntax []))
  no_token n ks = record { fault = Syntax; before = []; rest = []; by = refuse_token (starts_nil g ks); is = refl; told = refl }

module _ {T : Type 0} (g : Grammar T) where
  -- what a token's test and a look-ahead have in common
  pub next_starts : (k : ℕ) (ts : List T) → next_is g.kind k ts ≡ starts g (k ∷ []) ts
  unfolding starts
  next_starts k [] = refl
  next_starts k (t ∷ ts) = sym (or_false (g.kind t == k))

  pub next_in_starts : (ks : List ℕ) (ts : List T) → next_in g.kind ks ts ≡ starts g ks ts
  unfolding starts
  next_in_starts ks [] = refl
  next_in_starts ks (t ∷ ts) = refl

module _ {T F : Type 0} {g : Grammar T} {tell : Fault → List T → F} where
  -- one part, and then what is behind it, where the value may depend on what follows the part
  pub seq_at : {A X : Type 0} {n : ℕ} {r s : Rule} {P : Tree T → A → List T → Type 0} {Q : Tree T → X → List T → Type 0} {ts : List T} {o : Result (A × List T) F} {k : A × List T → Result (X × List T) F}
      → Reads g tell r P n ts o
      → ((x : A × List T) (d : Tree T) → P d x.0 x.1 → Reads g tell s (λ e y w. x.1 ≡ tokens e ++ w → Q (both d e) y w) n x.1 (k x))
      → Reads g tell (then r s) Q n ts (o >>= k)
  seq_at {n = n} {r = r} {s = s} {P = P} {Q = Q} {ts = ts} {o = o} {k = k} p h =
      record { outcome = seq_on g tell n r s P Q ts o k p.outcome h }

  -- the same of a weaker fact
  pub weaker : {X : Type 0} {n : ℕ} {r : Rule} {P R : Tree T → X → List T → Type 0} {ts : List T} {o : Result (X × List T) F}
      → ((x : X) (d : Tree T) (w : List T) → P d x w → R d x w) → Reads g tell r P n ts o → Reads g tell r R n ts o
  weaker {n = n} {r = r} {P = P} {R = R} {ts = ts} {o = o} h p = record { outcome = weaker_on g tell n r P R ts o R p.outcome h }

  -- one part, and then what is behind it
  pub seq : {A X : Type 0} {n : ℕ} {r s : Rule} {P : Tree T → A → List T → Type 0} {Q : Tree T → X → List T → Type 0} {ts : List T} {o : Result (A × List T) F} {k : A × List T → Result (X × List T) F}
      → Reads g tell r P n ts o
      → ((x : A × List T) (d : Tree T) → P d x.0 x.1 → Reads g tell s (λ e. Q (both d e)) n x.1 (k x))
      → Reads g tell (then r s) Q n ts (o >>= k)
  seq {P = P} {Q = Q} p h = seq_at {P = P} {Q = Q} p (λ x d i. weaker {P = λ e. Q (both d e)} (λ y e w q is. q) (h x d i))

  -- the last part, which gives the value
  pub final : {A X : Type 0} {n : ℕ} {r : Rule} {P : Tree T → A → List T → Type 0} {Q : Tree T → X → List T → Type 0} {ts : List T} {o : Result (A × List T) F} (v : A × List T → X)
      → Reads g tell r P n ts o → ((x : A × List T) (d : Tree T) → P d x.0 x.1 → Q d (v x) x.1) → Reads g tell r Q n ts (o >>= λ x. Ok (v x, x.1))
  final {n = n} {r = r} {P = P} {Q = Q} {ts = ts} {o = o} v p h = record { outcome = final_on g tell n r P Q ts o v p.outcome h }

  -- a choice by a test of the next token
  pub either : {X : Type 0} {n : ℕ} {r s : Rule} {Q : Tree T → X → List T → Type 0} {ts : List T} {o1 o2 : Result (X × List T) F} (test : Bool)
      → test ≡ starts g (first g r) ts
      → Reads g tell r (λ d. Q (left d)) n ts o1 → Reads g tell s (λ d. Q (right d)) n ts o2 → Reads g tell (or r s) Q n ts (cond test o1 o2)
  either {n = n} {r = r} {s = s} {Q = Q} {ts = ts} {o1 = o1} true h p q =
      record { outcome = left_on g tell n r s Q ts o1 (sym h) p.outcome }
  either {n = n} {r = r} {s = s} {Q = Q} {ts = ts} {o2 = o2} false h p q =
      record { outcome = right_on g tell n r s Q ts o2 (sym h) q.outcome }

  -- an optional part that is not there
  pub no_part : {X : Type 0} {n : ℕ} {Q : Tree T → X → List T → Type 0} {ts : List T} {x : X} → Q nothing x ts
      → Reads g tell empty Q n ts (Ok (x, ts))
  no_part q = record { outcome = record { tree = nothing; by = accept_empty; is = refl; says = q } }

  -- a counted rule, with a level left
  pub deeper : {X : Type 0} {n m : ℕ} {Q : Tree T → X → List T → Type 0} {ts : List T} {o : Result (X × List T) F}
      → Reads g tell (g.rule m) (λ d. Q (inner d)) n ts o → Reads g tell (deep m) Q (suc n) ts o
  deeper {n = n} {m = m} {Q = Q} {ts = ts} {o = o} p = record { outcome = deeper_on g tell n Q ts m o p.outcome }

  -- a counted rule, with no level left
  pub at_limit : {X : Type 0} {m : ℕ} {Q : Tree T → X → List T → Type 0} {ts : List T} (test : Bool)
      → test ≡ starts g (firsts g m) ts → Reads g tell (deep m) Q zero ts (at_depth tell test ts)
  at_limit {ts = ts} true h =
      record { outcome = record { fault = TooDeep; before = []; rest = ts; by = refuse_limit (sym h); is = refl; told = refl } }
  at_limit {ts = ts} false h =
      record { outcome = record { fault = Syntax; before = []; rest = ts; by = refuse_none (sym h); is = refl; told = refl } }

  -- the rule that is not counted
  pub nested : {X : Type 0} {n : ℕ} {Q : Tree T → X → List T → Type 0} {ts : List T} {o : Result (X × List T) F}
      → Reads g tell (g.rule zero) (λ d. Q (part d)) n ts o → Reads g tell sub Q n ts o
  nested {n = n} {Q = Q} {ts = ts} {o = o} p = record { outcome = nested_on g tell n Q ts o p.outcome }

  -- a token of one of these kinds
  pub a_token : {n : ℕ} (ks : List ℕ) (ts : List T) → Reads g tell (token ks) IsLeaf n ts (expect_in tell g.kind ks ts)
  a_token {n} ks [] = record { outcome = no_token g tell n ks }
  a_token {n} ks (t ∷ ts) = record { outcome = token_on g tell n ks t ts (member (g.kind t) ks) refl }

  -- a token of this kind
  pub a_kind : {n : ℕ} (k : ℕ) (ts : List T) → Reads g tell (one k) IsLeaf n ts (expect tell g.kind k ts)
  a_kind {n} k [] = record { outcome = no_token g tell n (k ∷ []) }
  a_kind {n} k (t ∷ ts) = record { outcome = token_on g tell n (k ∷ []) t ts (g.kind t == k) (or_false (g.kind t == k)) }
