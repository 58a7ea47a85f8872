-- Reading by one token of look-ahead, where n levels are left.
use Rattle.std.specs.Prelude.{◌≡◌, ℕ, zero, suc, true, false, List, [], ◌++◌}
use Rattle.ll_grammar.specs.Grammar.{Rule, empty, token, then, or, many, deep, sub, Grammar}
use Rattle.ll_grammar.specs.Derivations.{Tree, nothing, leaf, both, left, right, last, more, inner, part, tokens}
use Rattle.ll_grammar.specs.LookAhead.{member, starts, first, firsts}
use Rattle.ll_grammar.specs.Sentences.{Fault, Syntax, TooDeep}

module _ {T : Type 0} (g : Grammar T) where
  -- reading what the tree spells, with rest behind it, gives the tree
  pub data Accepts : ℕ → Rule → Tree T → List T → Type 0 where
    accept_empty : {n : ℕ} {rest : List T} → Accepts n empty nothing rest
    accept_token : {n : ℕ} {ks : List ℕ} {t : T} {rest : List T} → member (g.kind t) ks ≡ true
        → Accepts n (token ks) (leaf t) rest
    accept_then : {n : ℕ} {r s : Rule} {d e : Tree T} {rest : List T} → Accepts n r d (tokens e ++ rest)
        → Accepts n s e rest
        → Accepts n (then r s) (both d e) rest
    accept_left : {n : ℕ} {r s : Rule} {d : Tree T} {rest : List T} → starts g (first g r) (tokens d ++ rest) ≡ true
        → Accepts n r d rest → Accepts n (or r s) (left d) rest
    accept_right : {n : ℕ} {r s : Rule} {d : Tree T} {rest : List T} → starts g (first g r) (tokens d ++ rest) ≡ false
        → Accepts n s d rest → Accepts n (or r s) (right d) rest
    accept_last : {n : ℕ} {r : Rule} {rest : List T} → starts g (first g r) rest ≡ false → Accepts n (many r) last rest
    accept_more : {n : ℕ} {r : Rule} {d ds : Tree T} {rest : List T}
        → starts g (first g r) (tokens d ++ (tokens ds ++ rest)) ≡ true
        → Accepts n r d (tokens ds ++ rest) → Accepts n (many r) ds rest → Accepts n (many r) (more d ds) rest
    accept_deep : {n m : ℕ} {d : Tree T} {rest : List T} → Accepts n (g.rule m) d rest
        → Accepts (suc n) (deep m) (inner d) rest
    accept_sub : {n : ℕ} {d : Tree T} {rest : List T} → Accepts n (g.rule zero) d rest → Accepts n sub (part d) rest

  -- reading u and rest is refused at the first token of rest, or at the end where there is none
  pub data Refuses : Fault → ℕ → Rule → List T → List T → Type 0 where
    refuse_token : {n : ℕ} {ks : List ℕ} {rest : List T} → starts g ks rest ≡ false
        → Refuses Syntax n (token ks) [] rest
    refuse_then : {f : Fault} {n : ℕ} {r s : Rule} {u rest : List T} → Refuses f n r u rest
        → Refuses f n (then r s) u rest
    refuse_later : {f : Fault} {n : ℕ} {r s : Rule} {d : Tree T} {u rest : List T} → Accepts n r d (u ++ rest)
        → Refuses f n s u rest → Refuses f n (then r s) (tokens d ++ u) rest
    refuse_left : {f : Fault} {n : ℕ} {r s : Rule} {u rest : List T} → starts g (first g r) (u ++ rest) ≡ true
        → Refuses f n r u rest → Refuses f n (or r s) u rest
    refuse_right : {f : Fault} {n : ℕ} {r s : Rule} {u rest : List T} → starts g (first g r) (u ++ rest) ≡ false
        → Refuses f n s u rest → Refuses f n (or r s) u rest
    refuse_many : {f : Fault} {n : ℕ} {r : Rule} {u rest : List T} → starts g (first g r) (u ++ rest) ≡ true
        → Refuses f n r u rest
        → Refuses f n (many r) u rest
    refuse_more : {f : Fault} {n : ℕ} {r : Rule} {d : Tree T} {u rest : List T}
        → starts g (first g r) (tokens d ++ (u ++ rest)) ≡ true → Accepts n r d (u ++ rest)
        → Refuses f n (many r) u rest
        → Refuses f n (many r) (tokens d ++ u) rest
    refuse_deep : {f : Fault} {n m : ℕ} {u rest : List T} → Refuses f n (g.rule m) u rest
        → Refuses f (suc n) (deep m) u rest
    refuse_sub : {f : Fault} {n : ℕ} {u rest : List T} → Refuses f n (g.rule zero) u rest → Refuses f n sub u rest
    refuse_limit : {m : ℕ} {rest : List T} → starts g (firsts g m) rest ≡ true → Refuses TooDeep zero (deep m) [] rest
    refuse_none : {m : ℕ} {rest : List T} → starts g (firsts g m) rest ≡ false → Refuses Syntax zero (deep m) [] rest

  -- what reading the list answers: a tree and the rest behind it, or the refused token
  pub data Answer (n : ℕ) (r : Rule) (ts : List T) : Type 0 where
    accepted : {d : Tree T} {rest : List T} → Accepts n r d rest → ts ≡ tokens d ++ rest → Answer n r ts
    refused : {f : Fault} {u rest : List T} → Refuses f n r u rest → ts ≡ u ++ rest → Answer n r ts
