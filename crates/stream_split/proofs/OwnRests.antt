-- What is accepted in the unsplit text is accepted in its stream.
use Rattle.std.proofs.Common.{◌≡◌, ℕ, Bool, true, false, List, [], ◌∷◌, ◌++◌, refl, sym, ap, ◌∙◌, subst, ◌&&◌, ◌||◌, append_assoc}
use Rattle.m2_base.specs.declared.token.Token.{Token}
use Rattle.ll_grammar.specs.Grammar.{Rule, empty, token, then, or, many, deep, sub, Grammar}
use Rattle.ll_grammar.specs.Derivations.{Tree, tokens, Derives, of_empty, of_token, of_then, of_left, of_right, of_last, of_more, of_deep, of_sub}
use Rattle.ll_grammar.specs.LookAhead.{nullable, if_so, starts, first}
use Rattle.ll_grammar.specs.Reading.{Accepts, accept_empty, accept_token, accept_then, accept_left, accept_right, accept_last, accept_more, accept_deep, accept_sub}
use Rattle.ll_grammar.specs.Sentences.{SameHead}
use Rattle.ll_grammar.proofs.Beginnings.{starts_same, same_front}
use Rattle.ll_grammar.proofs.Rests.{accepts_rest}
use Rattle.ll_grammar.proofs.Soundness.{accepts_derives}
use Rattle.stream_split.specs.Cut.{cut_at}
use Rattle.stream_split.proofs.Flow.{Cuttable, head, grammar_of}
use Rattle.stream_split.proofs.Parts.{stream_rule, own, streams_after}

module _ (G : Cuttable) where
  abbrev W : Grammar Token
  W = grammar_of G

  abbrev H : Rule
  H = head G

  pub nullable_same : (r : Rule) → nullable (stream_rule H r) ≡ nullable r
  nullable_same empty = refl
  nullable_same (token ks) = refl
  nullable_same (then r s) = ap (λ z. z && nullable (stream_rule H s)) (nullable_same r) ∙ ap (λ z. nullable r && z) (nullable_same s)
  nullable_same (or r s) = ap (λ z. z || nullable (stream_rule H s)) (nullable_same r) ∙ ap (λ z. nullable r || z) (nullable_same s)
  nullable_same (many r) = refl
  nullable_same (deep n) = refl
  nullable_same sub = refl

  pub first_same : (r : Rule) → first W (stream_rule H r) ≡ first W r
  first_same empty = refl
  first_same (token ks) = refl
  first_same (then r s) = ap (λ z. z ++ if_so (nullable (stream_rule H r)) (first W (stream_rule H s))) (first_same r) ∙ ap (λ z. first W r ++ if_so z (first W (stream_rule H s))) (nullable_same r) ∙ ap (λ z. first W r ++ if_so (nullable r) z) (first_same s)
  first_same (or r s) = ap (λ z. z ++ first W (stream_rule H s)) (first_same r) ∙ ap (λ z. first W r ++ z) (first_same s)
  first_same (many r) = first_same r
  first_same (deep n) = refl
  first_same sub = refl

  -- the same look ahead
  pub ahead : (r : Rule) (b : Bool) (xs ys : List Token) → SameHead xs ys → starts W (first W r) xs ≡ b → starts W (first W (stream_rule H r)) ys ≡ b
  ahead r b xs ys h g = ap (λ z. starts W z ys) (first_same r) ∙ sym (starts_same W (first W r) xs ys h) ∙ g

  pub head_same : {r : Rule} {x : Tree Token} → Derives W r x → (c : ℕ) (rest rest' : List Token) → SameHead rest rest' → SameHead (tokens x ++ rest) (tokens (own c x) ++ rest')
  head_same of_empty c v w h = h
  head_same (of_token g) c v w h = refl
  head_same (of_then {d = x} {e = y} g g') c v w h =
      subst (λ z. SameHead z ((tokens (own c x) ++ tokens (own (streams_after c x) y)) ++ w)) (sym (append_assoc (tokens x) (tokens y) v))
      (subst (SameHead (tokens x ++ (tokens y ++ v))) (sym (append_assoc (tokens (own c x)) (tokens (own (streams_after c x) y)) w))
      (head_same g c (tokens y ++ v) (tokens (own (streams_after c x) y) ++ w) (head_same g' (streams_after c x) v w h)))
  head_same (of_left g) c v w h = head_same g c v w h
  head_same (of_right g) c v w h = head_same g c v w h
  head_same of_last c v w h = h
  head_same (of_more {d = x} {ds = y} g g') c v w h =
      subst (λ z. SameHead z ((tokens (own c x) ++ tokens (own (streams_after c x) y)) ++ w)) (sym (append_assoc (tokens x) (tokens y) v))
      (subst (SameHead (tokens x ++ (tokens y ++ v))) (sym (append_assoc (tokens (own c x)) (tokens (own (streams_after c x) y)) w))
      (head_same g c (tokens y ++ v) (tokens (own (streams_after c x) y) ++ w) (head_same g' (streams_after c x) v w h)))
  head_same (of_deep {d = x} g) c v w h = same_front (tokens x) v w h
  head_same (of_sub (of_then (of_then (of_token {t = t} g0) gh) (of_then gs (of_then gy gl)))) c v w h = refl

  -- what is accepted in the unsplit text is accepted in its stream
  pub own_accepts : {b : ℕ} {r : Rule} {x : Tree Token} {rest : List Token} → Accepts W b r x rest → (c : ℕ) (rest' : List Token) → SameHead rest rest' → Accepts W b (stream_rule H r) (own c x) rest'
  own_accepts accept_empty c w h = accept_empty
  own_accepts (accept_token g) c w h = accept_token g
  own_accepts {rest = rest} (accept_then {d = x} {e = y} p q) c w h =
      let c' = streams_after c x in
      accept_then (own_accepts p c (tokens (own c' y) ++ w) (head_same (accepts_derives W q) c' rest w h)) (own_accepts q c' w h)
  own_accepts {rest = rest} (accept_left {r = r} {d = x} g p) c w h = accept_left (ahead r true _ _ (head_same (accepts_derives W p) c rest w h) g) (own_accepts p c w h)
  own_accepts {rest = rest} (accept_right {r = r} {d = x} g p) c w h = accept_right (ahead r false _ _ (head_same (accepts_derives W p) c rest w h) g) (own_accepts p c w h)
  own_accepts (accept_last {r = r} g) c w h = accept_last (ahead r false _ _ h g)
  own_accepts {rest = rest} (accept_more {r = r} {d = x} {ds = y} g p q) c w h =
      let c' = streams_after c x in
      let hy = head_same (accepts_derives W q) c' rest w h in
      accept_more (ahead r true _ _ (head_same (accepts_derives W p) c (tokens y ++ rest) (tokens (own c' y) ++ w) hy) g) (own_accepts p c (tokens (own c' y) ++ w) hy) (own_accepts q c' w h)
  own_accepts (accept_deep p) c w h = accept_deep (accepts_rest W p w h)
  own_accepts (accept_sub (accept_then ah (accept_then (accept_token {t = s} gs) (accept_then ay al)))) c w h =
      accept_then (accepts_rest W ah (s ∷ cut_at c s ∷ w) refl) (accept_then (accept_token gs) (accept_token {ks = 6 ∷ []} refl))
