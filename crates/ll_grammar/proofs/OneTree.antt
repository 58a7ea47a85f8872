-- What is accepted is the only derivation of a text that begins with it and the next token.
use Rattle.std.proofs.Common.{◌≡◌, ℕ, zero, true, false, List, ◌++◌, refl, ap, ◌∙◌, subst, not, append_assoc}
use Rattle.ll_grammar.specs.Grammar.{Rule, then, or, many, Grammar}
use Rattle.ll_grammar.specs.Derivations.{Tree, leaf, both, left, right, more, inner, part, tokens, Derives, of_empty, of_token, of_then, of_left, of_right, of_last, of_more, of_deep, of_sub}
use Rattle.ll_grammar.specs.LookAhead.{nullable, disjoint, first, heads, clear, IsLL1}
use Rattle.ll_grammar.specs.Sentences.{SameHead, Begins}
use Rattle.ll_grammar.specs.Reading.{Accepts, accept_empty, accept_token, accept_then, accept_left, accept_right, accept_last, accept_more, accept_deep, accept_sub}
use Rattle.ll_grammar.proofs.KindSets.{and_l, and_r, not_is, subset_within}
use Rattle.ll_grammar.proofs.Beginnings.{MayStart, may_within, starts_apart, starts_same, same_apart, begins_less, begins_drop, begins_head}
use Rattle.ll_grammar.proofs.Checks.{rule_clear}
use Rattle.ll_grammar.proofs.FirstTokens.{may_start, starts_first}

-- What a clear choice between r and s is made of.
pub record Choice {T : Type 0} (g : Grammar T) (r s : Rule) (follow : List ℕ) : Type 0 where
  pub solid : nullable r ≡ false
  pub apart : disjoint (first g r) (heads g s follow) ≡ true
  pub one : clear g r follow ≡ true
  pub other : clear g s follow ≡ true

-- What a clear repetition of r is made of.
pub record Again {T : Type 0} (g : Grammar T) (r : Rule) (follow : List ℕ) : Type 0 where
  pub solid : nullable r ≡ false
  pub apart : disjoint (first g r) follow ≡ true
  pub item : clear g r (first g r ++ follow) ≡ true

module _ {T : Type 0} (g : Grammar T) where
  pub choice : (r s : Rule) (follow : List ℕ) → clear g (or r s) follow ≡ true → Choice g r s follow
  choice r s follow c =
      let c2 = and_r (not (nullable r)) _ c in
      let c3 = and_r (disjoint (first g r) (heads g s follow)) _ c2 in
      record { solid = not_is _ (and_l _ _ c); apart = and_l _ _ c2; one = and_l _ _ c3; other = and_r (clear g r follow) _ c3 }

  pub again : (r : Rule) (follow : List ℕ) → clear g (many r) follow ≡ true → Again g r follow
  again r follow c =
      let c2 = and_r (not (nullable r)) _ c in
      record { solid = not_is _ (and_l _ _ c); apart = and_l _ _ c2; item = and_r (disjoint (first g r) follow) _ c2 }

  pub then_one : (r s : Rule) (follow : List ℕ) → clear g (then r s) follow ≡ true → clear g r (heads g s follow) ≡ true
  then_one r s follow c = and_l _ _ c

  pub then_other : (r s : Rule) (follow : List ℕ) → clear g (then r s) follow ≡ true → clear g s follow ≡ true
  then_other r s follow c = and_r (clear g r (heads g s follow)) _ c

  -- what follows a numbered rule is among its follows
  pub may_follow : (n : ℕ) (follow : List ℕ) (rest : List T) → clear g (Rule.deep n) follow ≡ true → MayStart g follow rest
      → MayStart g (g.follows n) rest
  may_follow n follow rest c h = may_within g follow (g.follows n) (subset_within follow (g.follows n) c) rest h

  module _ (ok : IsLL1 g) where
    pub one_tree : {n : ℕ} {r : Rule} {d e : Tree T} {rest : List T} → Accepts g n r d rest → Derives g r e
        → (follow : List ℕ) (w : List T) → clear g r follow ≡ true → MayStart g follow w → Begins (tokens d) rest (tokens e ++ w)
        → e ≡ d
    one_tree accept_empty of_empty follow w c h b = refl
    one_tree (accept_token m) (of_token m') follow w c h b = ap leaf b.0
    one_tree {rest = rest} (accept_then {r = r} {s = s} {d = x} {e = y} p q) (of_then {d = x'} {e = y'} i j) follow w c h b =
        let b1 = subst (Begins (tokens x ++ tokens y) rest) (append_assoc (tokens x') (tokens y') w) b in
        let ex = one_tree p i (heads g s follow) (tokens y' ++ w) (then_one r s follow c) (may_start g ok j follow w h) (begins_less (tokens x) (tokens y) rest _ b1) in
        let b2 = subst (λ z. Begins (tokens x ++ tokens y) rest (tokens z ++ (tokens y' ++ w))) ex b1 in
        let ey = one_tree q j follow w (then_other r s follow c) h (begins_drop (tokens x) (tokens y) rest _ b2) in
        (λ k. both (ex k) (ey k))
    one_tree (accept_left {r = r} {s = s} m p) (of_left i) follow w c h b =
        ap left (one_tree p i follow w (choice r s follow c).one h b)
    one_tree {rest = rest} (accept_left {r = r} {s = s} {d = x} m p) (of_right {d = e} i) follow w c h b =
        absurd (starts_apart g (first g r) (heads g s follow) (tokens e ++ w) (choice r s follow c).apart (starts_same g _ _ _ (begins_head (tokens x) rest _ b) ∙ m) (may_start g ok i follow w h))
    one_tree {rest = rest} (accept_right {r = r} {s = s} {d = x} m p) (of_left {d = e} i) follow w c h b =
        absurd (same_apart g (first g r) (tokens e ++ w) (tokens x ++ rest) (begins_head (tokens x) rest _ b) m (starts_first g ok i (choice r s follow c).solid follow w h))
    one_tree (accept_right {r = r} {s = s} m p) (of_right i) follow w c h b =
        ap right (one_tree p i follow w (choice r s follow c).other h b)
    one_tree (accept_last m) of_last follow w c h b = refl
    one_tree {rest = rest} (accept_last {r = r} m) (of_more {d = x} {ds = xs} i j) follow w c h b =
        let s = starts_first g ok i (again r follow c).solid (first g r ++ follow) (tokens xs ++ w) (may_start g ok j follow w h) in
        absurd (same_apart g (first g r) (tokens x ++ (tokens xs ++ w)) rest (subst (λ z. SameHead z rest) (append_assoc (tokens x) (tokens xs) w) b) m s)
    one_tree {rest = rest} (accept_more {r = r} {d = x} {ds = xs} m p q) of_last follow w c h b =
        let b1 = subst (λ z. SameHead w z) (append_assoc (tokens x) (tokens xs) rest) (begins_head (tokens x ++ tokens xs) rest w b) in
        absurd (starts_apart g (first g r) follow w (again r follow c).apart (starts_same g _ w _ b1 ∙ m) h)
    one_tree {rest = rest} (accept_more {r = r} {d = x} {ds = xs} m p q) (of_more {d = x'} {ds = xs'} i j) follow w c h b =
        let b1 = subst (Begins (tokens x ++ tokens xs) rest) (append_assoc (tokens x') (tokens xs') w) b in
        let ex = one_tree p i (first g r ++ follow) (tokens xs' ++ w) (again r follow c).item (may_start g ok j follow w h) (begins_less (tokens x) (tokens xs) rest _ b1) in
        let b2 = subst (λ z. Begins (tokens x ++ tokens xs) rest (tokens z ++ (tokens xs' ++ w))) ex b1 in
        let ey = one_tree q j follow w c h (begins_drop (tokens x) (tokens xs) rest _ b2) in
        (λ k. more (ex k) (ey k))
    one_tree (accept_deep {m = m} p) (of_deep i) follow w c h b =
        ap inner (one_tree p i (g.follows m) w (rule_clear g ok m) (may_follow m follow w c h) b)
    one_tree (accept_sub p) (of_sub i) follow w c h b =
        ap part (one_tree p i (g.follows zero) w (rule_clear g ok zero) (may_follow zero follow w c h) b)
