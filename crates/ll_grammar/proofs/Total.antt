-- Every list is accepted up to a rest, or refused.
use Rattle.std.proofs.Common.{◌≡◌, ℕ, zero, suc, Bool, true, false, List, [], ◌∷◌, ◌++◌, refl, sym, ap, ◌∙◌, subst, true≢false, append_assoc, length, ◌≤◌, ◌&&◌, ◌||◌, arith, length-append}
use Rattle.ll_grammar.specs.Grammar.{Rule, empty, token, then, or, many, deep, sub, Grammar}
use Rattle.ll_grammar.specs.Derivations.{Tree, tokens}
use Rattle.ll_grammar.specs.LookAhead.{member, nullable, sub_first, starts, first, firsts, heads, clear, IsLL1}
use Rattle.ll_grammar.specs.Reading.{Accepts, accept_empty, accept_token, accept_then, accept_left, accept_right, accept_last, accept_more, accept_deep, accept_sub, refuse_token, refuse_then, refuse_later, refuse_left, refuse_right, refuse_many, refuse_more, refuse_deep, refuse_sub, refuse_limit, refuse_none, Answer, accepted, refused}
use Rattle.ll_grammar.proofs.Beginnings.{starts_nil, starts_cons}
use Rattle.ll_grammar.proofs.Checks.{rule_clear}
use Rattle.ll_grammar.proofs.Soundness.{accepts_derives}
use Rattle.ll_grammar.proofs.FirstTokens.{rest_shorter}
use Rattle.ll_grammar.proofs.OneTree.{choice, again, then_one, then_other}

not_longer : {T : Type 0} (ts u w : List T) (k : ℕ) → ts ≡ u ++ w → length ts ≤ k → length w ≤ k
not_longer ts u w k e l = let i = ap length e in omega (arith, i, length-append u w, l)

module _ {T : Type 0} (g : Grammar T) where
  -- one part, and then what is behind it
  then_answer : {n : ℕ} {r s : Rule} (ts : List T) → Answer g n r ts
      → ((d : Tree T) (w : List T) → Accepts g n r d w → ts ≡ tokens d ++ w → Answer g n s w) → Answer g n (then r s) ts
  then_answer ts (refused p e) k = refused (refuse_then p) e
  then_answer {n} {r} {s} ts (accepted {d = d} {rest = w} p e) k = on (k d w p e)
    where
      on : Answer g n s w → Answer g n (then r s) ts
      on (accepted {d = d'} {rest = v} q f) =
          accepted (accept_then (subst (Accepts g n r d) f p) q) (e ∙ ap (λ z. tokens d ++ z) f ∙ sym (append_assoc (tokens d) (tokens d') v))
      on (refused {u = u} {rest = v} q f) =
          refused (refuse_later (subst (Accepts g n r d) f p) q) (e ∙ ap (λ z. tokens d ++ z) f ∙ sym (append_assoc (tokens d) u v))

  or_answer : {n : ℕ} {r s : Rule} (ts : List T) (b : Bool) → starts g (first g r) ts ≡ b → Answer g n r ts → Answer g n s ts
      → Answer g n (or r s) ts
  or_answer {r = r} ts true h (accepted p e) k = accepted (accept_left (ap (starts g (first g r)) (sym e) ∙ h) p) e
  or_answer {r = r} ts true h (refused p e) k = refused (refuse_left (ap (starts g (first g r)) (sym e) ∙ h) p) e
  or_answer {r = r} ts false h k (accepted p e) = accepted (accept_right (ap (starts g (first g r)) (sym e) ∙ h) p) e
  or_answer {r = r} ts false h k (refused p e) = refused (refuse_right (ap (starts g (first g r)) (sym e) ∙ h) p) e

  token_answer : (n : ℕ) (ks : List ℕ) (ts : List T) → Answer g n (token ks) ts
  token_answer n ks [] = refused (refuse_token (starts_nil g ks)) refl
  token_answer n ks (t ∷ ts) = on (member (g.kind t) ks) refl
    where
      on : (b : Bool) → member (g.kind t) ks ≡ b → Answer g n (token ks) (t ∷ ts)
      on true h = accepted (accept_token {t = t} h) refl
      on false h = refused (refuse_token (starts_cons g ks t ts false h)) refl

  many_answer : {n : ℕ} {r : Rule} (ts : List T) (b : Bool) → starts g (first g r) ts ≡ b → Answer g n r ts
      → ((d : Tree T) (w : List T) → Accepts g n r d w → ts ≡ tokens d ++ w → Answer g n (many r) w) → Answer g n (many r) ts
  many_answer ts false h a k = accepted (accept_last h) refl
  many_answer {r = r} ts true h (refused p e) k = refused (refuse_many (ap (starts g (first g r)) (sym e) ∙ h) p) e
  many_answer {n} {r} ts true h (accepted {d = d} {rest = w} p e) k = on (k d w p e)
    where
      on : Answer g n (many r) w → Answer g n (many r) ts
      on (accepted {d = ds} {rest = v} q f) =
          accepted (accept_more (ap (λ z. starts g (first g r) (tokens d ++ z)) (sym f) ∙ ap (starts g (first g r)) (sym e) ∙ h) (subst (Accepts g n r d) f p) q) (e ∙ ap (λ z. tokens d ++ z) f ∙ sym (append_assoc (tokens d) (tokens ds) v))
      on (refused {u = u} {rest = v} q f) =
          refused (refuse_more (ap (λ z. starts g (first g r) (tokens d ++ z)) (sym f) ∙ ap (starts g (first g r)) (sym e) ∙ h) (subst (Accepts g n r d) f p) q) (e ∙ ap (λ z. tokens d ++ z) f ∙ sym (append_assoc (tokens d) u v))

  limit_answer : (m : ℕ) (ts : List T) (b : Bool) → starts g (firsts g m) ts ≡ b → Answer g zero (deep m) ts
  limit_answer m ts true h = refused (refuse_limit h) refl
  limit_answer m ts false h = refused (refuse_none h) refl

  deep_answer : {n m : ℕ} {ts : List T} → Answer g n (g.rule m) ts → Answer g (suc n) (deep m) ts
  deep_answer (accepted p e) = accepted (accept_deep p) e
  deep_answer (refused p e) = refused (refuse_deep p) e

  sub_answer : {n : ℕ} {ts : List T} → Answer g n (g.rule zero) ts → Answer g n sub ts
  sub_answer (accepted p e) = accepted (accept_sub p) e
  sub_answer (refused p e) = refused (refuse_sub p) e

  module _ (ok : IsLL1 g) where
    -- Each list of at most k tokens is answered where the deeper rules are, every shorter list is, and `sub` is if the right side may come to it first.
    module _ (k n : ℕ) (deeper : (m : ℕ) (ts : List T) → length ts ≤ k → Answer g n (deep m) ts)
        (shorter : (r : Rule) (follow : List ℕ) → clear g r follow ≡ true → (ts : List T) → suc (length ts) ≤ k → Answer g n r ts) where
      abbrev Subs : Bool → Type 0
      Subs false = Unit {0}
      Subs true = (ts : List T) → length ts ≤ k → Answer g n sub ts

      or_subs_l : (a b : Bool) → Subs (a || b) → Subs a
      or_subs_l true b s = s
      or_subs_l false b s = tt

      or_subs_r : (a b : Bool) → Subs (a || b) → Subs b
      or_subs_r true true s = s
      or_subs_r true false s = tt
      or_subs_r false b s = s

      and_subs : (a b : Bool) → a ≡ true → Subs (a && b) → Subs b
      and_subs true b h s = s
      and_subs false b h s = absurd (true≢false (sym h))

      pub all_subs : (a : Bool) → Subs true → Subs a
      all_subs true s = s
      all_subs false s = tt

      -- what is behind a part, where that part may be empty or not
      behind : {r s : Rule} (b : Bool) (follow : List ℕ) → nullable r ≡ b → clear g s follow ≡ true → (ts : List T) → length ts ≤ k
          → (b ≡ true → (w : List T) → length w ≤ k → Answer g n s w) → (d : Tree T) (w : List T) → Accepts g n r d w
          → ts ≡ tokens d ++ w → Answer g n s w
      behind true follow h c ts l i d w p e = i refl w (not_longer ts (tokens d) w k e l)
      behind {s = s} false follow h c ts l i d w p e =
          let m = rest_shorter g ok (accepts_derives g p) h ts w e in shorter s follow c w (omega (arith, m, l))

      pub read : (r : Rule) → Subs (sub_first r) → (follow : List ℕ) → clear g r follow ≡ true → (ts : List T) → length ts ≤ k
          → Answer g n r ts
      read empty s follow c ts l = accepted accept_empty refl
      read (token ks) s follow c ts l = token_answer n ks ts
      read (then q r) s follow c ts l =
          then_answer ts (read q (or_subs_l (sub_first q) _ s) (heads g r follow) (then_one g q r follow c) ts l)
          (behind (nullable q) follow refl (then_other g q r follow c) ts l (λ h w m. read r (and_subs (nullable q) (sub_first r) h (or_subs_r (sub_first q) _ s)) follow (then_other g q r follow c) w m))
      read (or q r) s follow c ts l =
          or_answer ts (starts g (first g q) ts) refl (read q (or_subs_l (sub_first q) _ s) follow (choice g q r follow c).one ts l) (read r (or_subs_r (sub_first q) _ s) follow (choice g q r follow c).other ts l)
      read (many r) s follow c ts l =
          many_answer ts (starts g (first g r) ts) refl (read r s (first g r ++ follow) (again g r follow c).item ts l)
          (λ d w p e. let m = rest_shorter g ok (accepts_derives g p) (again g r follow c).solid ts w e in shorter (many r) follow c w (omega (arith, m, l)))
      read (deep m) s follow c ts l = deeper m ts l
      read sub s follow c ts l = s ts l

    -- each list of fewer than k tokens is answered, at each depth
    abbrev Below : ℕ → Type 0
    Below k = (n : ℕ) (r : Rule) (follow : List ℕ) → clear g r follow ≡ true → (ts : List T) → suc (length ts) ≤ k → Answer g n r ts

    read_all : (k n : ℕ) (deeper : (m : ℕ) (ts : List T) → length ts ≤ k → Answer g n (deep m) ts) → Below k
        → (r : Rule) (follow : List ℕ) → clear g r follow ≡ true → (ts : List T) → length ts ≤ k → Answer g n r ts
    read_all k n deeper below r follow c ts l =
        read k n deeper (below n) r (all_subs k n deeper (below n) (sub_first r) subs) follow c ts l
      where
        subs : (ts : List T) → length ts ≤ k → Answer g n sub ts
        subs ts l =
            sub_answer (read k n deeper (below n) (g.rule zero) (subst (Subs k n deeper (below n)) (sym ok.ends) tt) (g.follows zero) (rule_clear g ok zero) ts l)

    at_depth : (k : ℕ) → Below k → (n : ℕ) (r : Rule) (follow : List ℕ) → clear g r follow ≡ true → (ts : List T) → length ts ≤ k
        → Answer g n r ts
    at_depth k below zero = read_all k zero (λ m ts l. limit_answer m ts (starts g (firsts g m) ts) refl) below
    at_depth k below (suc n) =
        read_all k (suc n) (λ m ts l. deep_answer (at_depth k below n (g.rule m) (g.follows m) (rule_clear g ok m) ts l)) below

    all_below : (k : ℕ) → Below k
    all_below zero n r follow c ts l = let no : ⊥ = omega (arith, l) in absurd no
    all_below (suc k) n r follow c ts l = at_depth k (all_below k) n r follow c ts (omega (arith, l))

    pub total : (n : ℕ) (r : Rule) (follow : List ℕ) → clear g r follow ≡ true → (ts : List T) → Answer g n r ts
    total n r follow c ts = all_below (suc (length ts)) n r follow c ts (omega arith)
