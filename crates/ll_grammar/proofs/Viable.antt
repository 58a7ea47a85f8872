-- What was read before a refused token goes on to a sentence.
use Rattle.std.proofs.Common.{◌≡◌, ℕ, zero, true, List, [], ◌∷◌, ◌++◌, refl, sym, ap, ◌∙◌, subst, append_assoc, inl, inr, Option, Some, None}
use Rattle.ll_grammar.specs.Grammar.{Rule, then, many, deep, Grammar}
use Rattle.ll_grammar.specs.Derivations.{Tree, both, left, right, last, more, inner, part, tokens, Derives, of_then, of_left, of_right, of_last, of_more, of_deep, of_sub, over, first_of}
use Rattle.ll_grammar.specs.LookAhead.{starts, firsts, complete, IsLL1}
use Rattle.ll_grammar.specs.Sentences.{Fault, Syntax, TooDeep, SameHead, Kept}
use Rattle.ll_grammar.specs.Reading.{Refuses, refuse_token, refuse_then, refuse_later, refuse_left, refuse_right, refuse_many, refuse_more, refuse_deep, refuse_sub, refuse_limit, refuse_none}
use Rattle.ll_grammar.proofs.KindSets.{and_l, and_r}
use Rattle.ll_grammar.proofs.Beginnings.{starts_some, IsFilled}
use Rattle.ll_grammar.proofs.Checks.{rule_complete}
use Rattle.ll_grammar.proofs.Soundness.{accepts_derives, accepts_within}
use Rattle.ll_grammar.proofs.Productive.{SomeTree, some_tree, rule_leads}

module _ {T : Type 0} where
  pub kept_nil : (n : ℕ) (d : Tree T) → Kept n d []
  kept_nil n d = on (over n d) refl
    where
      on : (o : Option (List T)) → over n d ≡ o → Kept n d []
      on None e = inl e
      on (Some v) e = inr (v, e)

  pub kept_front : (n : ℕ) (d e : Tree T) (u v : List T) → tokens d ≡ u ++ v → Kept n d u → Kept n (both d e) u
  kept_front n d e u v h (inr k) = inr (k.0, ap (λ o. first_of (tokens d) o (over n e)) k.1)
  kept_front n d e u v h (inl k) = on (over n e) refl
    where
      on : (o : Option (List T)) → over n e ≡ o → Kept n (both d e) u
      on None i = inl (ap (λ o. first_of (tokens d) o (over n e)) k ∙ ap (first_of (tokens d) None) i)
      on (Some z) i =
          inr (v ++ z, ap (λ o. first_of (tokens d) o (over n e)) k ∙ ap (first_of (tokens d) None) i ∙ ap (λ w. Some (w ++ z)) h ∙ ap Some (append_assoc u v z))

  pub kept_back : (n : ℕ) (d e : Tree T) (u : List T) → over n d ≡ None → Kept n e u → Kept n (both d e) (tokens d ++ u)
  kept_back n d e u o (inl k) = inl (ap (λ z. first_of (tokens d) z (over n e)) o ∙ ap (first_of (tokens d) None) k)
  kept_back n d e u o (inr k) =
      inr (k.0, ap (λ z. first_of (tokens d) z (over n e)) o ∙ ap (first_of (tokens d) None) k.1 ∙ ap Some (sym (append_assoc (tokens d) u k.0)))

  -- where only the depth is at fault, the sentence goes on with the refused token
  abbrev pub GoesOn : Fault → List T → List T → Type 0
  GoesOn Syntax v rest = Unit {0}
  GoesOn TooDeep v rest = IsFilled v × SameHead v rest

  same_longer : (v w rest : List T) → IsFilled v → SameHead v rest → IsFilled (v ++ w) × SameHead (v ++ w) rest
  same_longer [] w rest h k = absurd h
  same_longer (x ∷ v) w [] h k = absurd k
  same_longer (x ∷ v) w (y ∷ rest) h k = (tt, k)

  goes_on_longer : (f : Fault) (v w rest : List T) → GoesOn f v rest → GoesOn f (v ++ w) rest
  goes_on_longer Syntax v w rest h = tt
  goes_on_longer TooDeep v w rest h = same_longer v w rest h.0 h.1

  goes_on_with : (t : T) (v ts u : List T) → u ≡ t ∷ v → GoesOn TooDeep u (t ∷ ts)
  goes_on_with t v ts u e = subst (λ z. GoesOn TooDeep z (t ∷ ts)) (sym e) (tt, refl)

-- A sentence that begins with u, with no token of u nested too deep.
pub record Reaches {T : Type 0} (g : Grammar T) (f : Fault) (n : ℕ) (r : Rule) (u rest : List T) : Type 0 where
  pub tree : Tree T
  pub derives : Derives g r tree
  pub behind : List T
  pub spells : tokens tree ≡ u ++ behind
  pub on : GoesOn f behind rest
  pub kept : Kept n tree u

module _ {T : Type 0} (g : Grammar T) where
  abbrev in_front : {f : Fault} {n : ℕ} {r s : Rule} {u rest : List T} → Reaches g f n r u rest → (e : Tree T) → Derives g s e
      → Reaches g f n (then r s) u rest
  in_front {f} {n} {r} {s} {u} {rest} x e k = record {
    tree = both x.tree e;
    derives = of_then x.derives k;
    behind = x.behind ++ tokens e;
    spells = ap (λ w. w ++ tokens e) x.spells ∙ append_assoc u x.behind (tokens e);
    on = goes_on_longer f x.behind (tokens e) rest x.on;
    kept = kept_front n x.tree e u x.behind x.spells x.kept;
  }

  abbrev in_back : {f : Fault} {n : ℕ} {r s : Rule} {u rest : List T} (d : Tree T) → Derives g r d → over n d ≡ None
      → Reaches g f n s u rest → Reaches g f n (then r s) (tokens d ++ u) rest
  in_back {f} {n} {r} {s} {u} {rest} d k o y = record {
    tree = both d y.tree;
    derives = of_then k y.derives;
    behind = y.behind;
    spells = ap (λ w. tokens d ++ w) y.spells ∙ sym (append_assoc (tokens d) u y.behind);
    on = y.on;
    kept = kept_back n d y.tree u o y.kept;
  }

  by_nothing : {r : Rule} (n : ℕ) (rest : List T) → SomeTree g r → Reaches g Syntax n r [] rest
  by_nothing n rest x = record { tree = x.0; derives = x.1; behind = tokens x.0; spells = refl; on = tt; kept = kept_nil n x.0 }

  module _ (ok : IsLL1 g) where
    at_limit : (m : ℕ) (rest : List T) → starts g (firsts g m) rest ≡ true → Reaches g TooDeep zero (deep m) [] rest
    at_limit m rest h =
        let s = starts_some g (firsts g m) rest h in
        let x = rule_leads g ok m s.0 s.3 in
        record { tree = inner x.0; derives = of_deep x.2; behind = tokens x.0; spells = refl; on = subst (GoesOn TooDeep (tokens x.0)) (sym s.2) (goes_on_with s.0 x.1 s.1 (tokens x.0) x.3); kept = kept_nil zero (inner x.0) }

    pub reaches : {f : Fault} {n : ℕ} {r : Rule} {u rest : List T} → Refuses g f n r u rest → complete g r ≡ true
        → Reaches g f n r u rest
    reaches {n = n} {r = r} {rest = rest} (refuse_token m) c = by_nothing n rest (some_tree g ok r c)
    reaches (refuse_then {r = r} {s = s} p) c =
        let y = some_tree g ok s (and_r (complete g r) _ c) in in_front (reaches p (and_l _ _ c)) y.0 y.1
    reaches (refuse_later {r = r} {d = d} p q) c =
        in_back d (accepts_derives g p) (accepts_within g p) (reaches q (and_r (complete g r) _ c))
    reaches (refuse_left m p) c =
        let x = reaches p (and_l _ _ c) in record { tree = left x.tree; derives = of_left x.derives; behind = x.behind; spells = x.spells; on = x.on; kept = x.kept }
    reaches (refuse_right {r = r} m p) c =
        let x = reaches p (and_r (complete g r) _ c) in record { tree = right x.tree; derives = of_right x.derives; behind = x.behind; spells = x.spells; on = x.on; kept = x.kept }
    reaches (refuse_many {r = r} m p) c =
        let x = in_front {s = many r} (reaches p c) last of_last in record { tree = more (reaches p c).tree last; derives = of_more (reaches p c).derives of_last; behind = x.behind; spells = x.spells; on = x.on; kept = x.kept }
    reaches (refuse_more {r = r} {d = d} m p q) c =
        let y = in_back {r = r} d (accepts_derives g p) (accepts_within g p) (reaches q c) in record { tree = more d (reaches q c).tree; derives = of_more (accepts_derives g p) (reaches q c).derives; behind = y.behind; spells = y.spells; on = y.on; kept = y.kept }
    reaches (refuse_deep {m = m} p) c =
        let x = reaches p (rule_complete g ok m) in record { tree = inner x.tree; derives = of_deep x.derives; behind = x.behind; spells = x.spells; on = x.on; kept = x.kept }
    reaches (refuse_sub p) c =
        let x = reaches p (rule_complete g ok zero) in record { tree = part x.tree; derives = of_sub x.derives; behind = x.behind; spells = x.spells; on = x.on; kept = x.kept }
    reaches (refuse_limit {m = m} {rest = rest} h) c = at_limit m rest h
    reaches {n = n} {r = r} {rest = rest} (refuse_none m) c = by_nothing n rest (some_tree g ok r c)
