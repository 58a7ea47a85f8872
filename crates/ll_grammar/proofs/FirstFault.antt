-- What a refusal says of every sentence that begins with the refused token.
use Rattle.std.proofs.Common.{◌≡◌, ℕ, zero, true, List, ◌∷◌, ◌++◌, refl, sym, ap, ◌∙◌, subst, true≢false, append_assoc, Some, None}
use Rattle.ll_grammar.specs.Grammar.{Rule, Grammar}
use Rattle.ll_grammar.specs.Derivations.{Tree, both, more, tokens, Derives, of_token, of_then, of_left, of_right, of_last, of_more, of_deep, of_sub, over, first_of}
use Rattle.ll_grammar.specs.LookAhead.{first, firsts, heads, clear, IsLL1}
use Rattle.ll_grammar.specs.Sentences.{Fault, Syntax, TooDeep, SameHead, Begins}
use Rattle.ll_grammar.specs.Reading.{Refuses, refuse_token, refuse_then, refuse_later, refuse_left, refuse_right, refuse_many, refuse_more, refuse_deep, refuse_sub, refuse_limit, refuse_none}
use Rattle.ll_grammar.proofs.Beginnings.{MayStart, starts_apart, starts_same, starts_cons, same_apart, begins_less, begins_drop, begins_head}
use Rattle.ll_grammar.proofs.Checks.{rule_clear}
use Rattle.ll_grammar.proofs.Soundness.{accepts_within}
use Rattle.ll_grammar.proofs.FirstTokens.{may_start, starts_first}
use Rattle.ll_grammar.proofs.OneTree.{one_tree, choice, again, then_one, then_other, may_follow}

-- there is no such sentence, or the refused token is the first that is nested too deep in it
abbrev pub Verdict : {T : Type 0} → Fault → ℕ → Tree T → List T → Type 0
Verdict Syntax n d u = ⊥
Verdict TooDeep n d u = over n d ≡ Some u

module _ {T : Type 0} where
  in_front : (f : Fault) (n : ℕ) (d e : Tree T) (u : List T) → Verdict f n d u → Verdict f n (both d e) u
  in_front Syntax n d e u h = h
  in_front TooDeep n d e u h = ap (λ o. first_of (tokens d) o (over n e)) h

  behind : (f : Fault) (n : ℕ) (d e : Tree T) (u : List T) → over n d ≡ None → Verdict f n e u
      → Verdict f n (both d e) (tokens d ++ u)
  behind Syntax n d e u o h = h
  behind TooDeep n d e u o h = ap (λ z. first_of (tokens d) z (over n e)) o ∙ ap (first_of (tokens d) None) h

  as_more : (f : Fault) (n : ℕ) (d e : Tree T) (u : List T) → Verdict f n (both d e) u → Verdict f n (more d e) u
  as_more Syntax n d e u h = h
  as_more TooDeep n d e u h = h

module _ {T : Type 0} (g : Grammar T) (ok : IsLL1 g) where
  pub verdict : {f : Fault} {n : ℕ} {r : Rule} {e : Tree T} {u rest : List T} → Refuses g f n r u rest → Derives g r e
      → (follow : List ℕ) (w : List T) → clear g r follow ≡ true → MayStart g follow w → Begins u rest (tokens e ++ w)
      → Verdict f n e u
  verdict {rest = rest} (refuse_token {ks = ks} m) (of_token {t = t} m') follow w c h b =
      absurd (true≢false (sym (starts_cons g ks t w true m') ∙ starts_same g ks (t ∷ w) rest b ∙ m))
  verdict {f = f} {n = n} {u = u} {rest = rest} (refuse_then {r = r} {s = s} p) (of_then {d = x} {e = y} i j) follow w c h b =
      in_front f n x y u (verdict p i (heads g s follow) (tokens y ++ w) (then_one g r s follow c) (may_start g ok j follow w h) (subst (Begins u rest) (append_assoc (tokens x) (tokens y) w) b))
  verdict {f = f} {n = n} {rest = rest} (refuse_later {r = r} {s = s} {d = x} {u = u} p q) (of_then {d = x'} {e = y'} i j) follow w c h b =
      let b1 = subst (Begins (tokens x ++ u) rest) (append_assoc (tokens x') (tokens y') w) b in
      let ex = one_tree g ok p i (heads g s follow) (tokens y' ++ w) (then_one g r s follow c) (may_start g ok j follow w h) (begins_less (tokens x) u rest _ b1) in
      let b2 = subst (λ z. Begins (tokens x ++ u) rest (tokens z ++ (tokens y' ++ w))) ex b1 in
      subst (λ z. Verdict f n (both z y') (tokens x ++ u)) (sym ex)
      (behind f n x y' u (accepts_within g p) (verdict q j follow w (then_other g r s follow c) h (begins_drop (tokens x) u rest _ b2)))
  verdict {f = Syntax} (refuse_left {r = r} {s = s} m p) (of_left i) follow w c h b =
      verdict p i follow w (choice g r s follow c).one h b
  verdict {f = TooDeep} (refuse_left {r = r} {s = s} m p) (of_left i) follow w c h b =
      verdict p i follow w (choice g r s follow c).one h b
  verdict {u = u} {rest = rest} (refuse_left {r = r} {s = s} m p) (of_right {d = e} i) follow w c h b =
      absurd (starts_apart g (first g r) (heads g s follow) (tokens e ++ w) (choice g r s follow c).apart (starts_same g _ _ _ (begins_head u rest _ b) ∙ m) (may_start g ok i follow w h))
  verdict {u = u} {rest = rest} (refuse_right {r = r} {s = s} m p) (of_left {d = e} i) follow w c h b =
      absurd (same_apart g (first g r) (tokens e ++ w) (u ++ rest) (begins_head u rest _ b) m (starts_first g ok i (choice g r s follow c).solid follow w h))
  verdict {f = Syntax} (refuse_right {r = r} {s = s} m p) (of_right i) follow w c h b =
      verdict p i follow w (choice g r s follow c).other h b
  verdict {f = TooDeep} (refuse_right {r = r} {s = s} m p) (of_right i) follow w c h b =
      verdict p i follow w (choice g r s follow c).other h b
  verdict {u = u} {rest = rest} (refuse_many {r = r} m p) of_last follow w c h b =
      absurd (starts_apart g (first g r) follow w (again g r follow c).apart (starts_same g _ w _ (begins_head u rest w b) ∙ m) h)
  verdict {f = f} {n = n} {u = u} {rest = rest} (refuse_many {r = r} m p) (of_more {d = x} {ds = xs} i j) follow w c h b =
      as_more f n x xs u (in_front f n x xs u (verdict p i (first g r ++ follow) (tokens xs ++ w) (again g r follow c).item (may_start g ok j follow w h) (subst (Begins u rest) (append_assoc (tokens x) (tokens xs) w) b)))
  verdict {rest = rest} (refuse_more {r = r} {d = x} {u = u} m p q) of_last follow w c h b =
      let b1 = subst (λ z. SameHead w z) (append_assoc (tokens x) u rest) (begins_head (tokens x ++ u) rest w b) in
      absurd (starts_apart g (first g r) follow w (again g r follow c).apart (starts_same g _ w _ b1 ∙ m) h)
  verdict {f = f} {n = n} {rest = rest} (refuse_more {r = r} {d = x} {u = u} m p q) (of_more {d = x'} {ds = xs'} i j) follow w c h b =
      let b1 = subst (Begins (tokens x ++ u) rest) (append_assoc (tokens x') (tokens xs') w) b in
      let ex = one_tree g ok p i (first g r ++ follow) (tokens xs' ++ w) (again g r follow c).item (may_start g ok j follow w h) (begins_less (tokens x) u rest _ b1) in
      let b2 = subst (λ z. Begins (tokens x ++ u) rest (tokens z ++ (tokens xs' ++ w))) ex b1 in
      subst (λ z. Verdict f n (more z xs') (tokens x ++ u)) (sym ex)
      (as_more f n x xs' (tokens x ++ u) (behind f n x xs' u (accepts_within g p) (verdict q j follow w c h (begins_drop (tokens x) u rest _ b2))))
  verdict {f = Syntax} (refuse_deep {m = m} p) (of_deep i) follow w c h b =
      verdict p i (g.follows m) w (rule_clear g ok m) (may_follow g m follow w c h) b
  verdict {f = TooDeep} (refuse_deep {m = m} p) (of_deep i) follow w c h b =
      verdict p i (g.follows m) w (rule_clear g ok m) (may_follow g m follow w c h) b
  verdict {f = Syntax} (refuse_sub p) (of_sub i) follow w c h b =
      verdict p i (g.follows zero) w (rule_clear g ok zero) (may_follow g zero follow w c h) b
  verdict {f = TooDeep} (refuse_sub p) (of_sub i) follow w c h b =
      verdict p i (g.follows zero) w (rule_clear g ok zero) (may_follow g zero follow w c h) b
  verdict (refuse_limit m) (of_deep i) follow w c h b = refl
  verdict {rest = rest} (refuse_none {m = m} n) (of_deep {d = e} i) follow w c h b =
      absurd (same_apart g (firsts g m) (tokens e ++ w) rest b n (starts_first g ok (of_deep i) refl follow w h))
