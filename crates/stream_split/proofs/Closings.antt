-- Each stream of a text ends with the end of the text, or with that of a procedure.
use Rattle.std.proofs.Common.{◌≡◌, ℕ, zero, suc, Bool, true, false, true≢false, List, [], ◌∷◌, ◌++◌, refl, sym, ap, ◌∙◌, subst, append_assoc, ◌⊎◌, inl, inr, ◌==◌, ◌||◌, eqb-true, cond, ◌<◌, ◌≤◌, arith}
use Rattle.std.proofs.lemmas.List.{append-nil}
use Rattle.m2_base.specs.declared.kind.TokenKind.{TokenKind}
use Rattle.m2_base.specs.declared.kind.TokenKind.TheVariants as kinds
use Rattle.m2_base.specs.declared.token.Token.{Token}
use Rattle.stream_split.specs.declared.sorts.Sort.{Sort}
use Rattle.stream_split.specs.declared.sorts.Sort.TheVariants.{Stop, Word, Closer, Semicolon}
use Rattle.stream_split.specs.declared.cutter.Mode.{Mode}
use Rattle.stream_split.specs.declared.cutter.Mode.TheVariants.{Free, Body}
use Rattle.stream_split.specs.Cut.{sort, Phase, amid, seen, heading, two_left, one_left, ended, State, state, start, next, goes, after, events, to, pick, all_end, cut_at, end_at, amid_next, seen_next, heading_next, heading_goes, unless_stop, out_of}
use Rattle.stream_split.proofs.Picks.{pick_append, pick_own, pick_other}
use Rattle.stream_split.proofs.Future.{count, phase}
use Rattle.stream_split.proofs.First.{Ended, after_end}
use Rattle.stream_split.proofs.Checked.{cuttable, main_text}

abbrev pub IsClosing : Token → Type 0
IsClosing t = (t.kind ≡ kinds.EndOfText) ⊎ (t.kind ≡ kinds.StreamEnd)

-- the list ends with such a token
pub record Closed (ts : List Token) : Type 0 where
  pub front : List Token
  pub end : Token
  pub is : ts ≡ front ++ (end ∷ [])
  pub closing : IsClosing end

closed_behind : (xs ys : List Token) → Closed ys → Closed (xs ++ ys)
closed_behind xs ys c =
    record { front = xs ++ c.front; end = c.end; is = ap (λ z. xs ++ z) c.is ∙ sym (append_assoc xs c.front (c.end ∷ [])); closing = c.closing }

closed_before : (xs ys : List Token) → ys ≡ [] → Closed xs → Closed (xs ++ ys)
closed_before xs ys e c = subst Closed (sym (ap (λ z. xs ++ z) e ∙ append-nil xs)) c

abbrev inside : ℕ → List (ℕ × Mode) → Bool
inside j [] = false
inside j (f ∷ fs) = (j == f.0) || inside j fs

-- the stream gets more tokens
abbrev open_by : ℕ → ℕ → List (ℕ × Mode) → Phase → Bool
open_by j k fs ended = false
open_by j k fs p = (j == k) || inside j fs

abbrev is_open : ℕ → State → Bool
is_open j (state k c fs p) = open_by j k fs p

is_end : (k : TokenKind) → sort k ≡ Stop → k ≡ kinds.EndOfText
is_end kinds.EndOfText e = refl
is_end k e = absurd (true≢false (sym (ap stops e)))
  where
    stops : Sort → Bool
    stops Stop = true
    stops z = false

-- the list ends with this token
abbrev Ends : Token → List Token → Type 0
Ends t xs = (front : List Token) × (xs ≡ front ++ (t ∷ []))

ends_cons : (t : Token) (b i : Bool) (rest : List Token) → (b || i) ≡ true → (i ≡ true → Ends t rest) → (i ≡ false → rest ≡ []) → Ends t (cond b (t ∷ rest) rest)
ends_cons t true true rest h e n = (t ∷ (e refl).0, ap (λ z. t ∷ z) (e refl).1)
ends_cons t true false rest h e n = ([], ap (λ z. t ∷ z) (n refl))
ends_cons t false true rest h e n = e refl
ends_cons t false false rest h e n = absurd (true≢false (sym h))

skip_cons : (b i : Bool) (t : Token) (rest : List Token) → (b || i) ≡ false → (i ≡ false → rest ≡ []) → cond b (t ∷ rest) rest ≡ []
skip_cons true i t rest h n = absurd (true≢false h)
skip_cons false i t rest h n = n h

none_all : (j : ℕ) (fs : List (ℕ × Mode)) (t : Token) → inside j fs ≡ false → pick j (all_end fs t) ≡ []
none_all j [] t h = refl
none_all j (f ∷ fs) t h = skip_cons (j == f.0) (inside j fs) t (pick j (all_end fs t)) h (none_all j fs t)

ends_all : (j : ℕ) (fs : List (ℕ × Mode)) (t : Token) → inside j fs ≡ true → Ends t (pick j (all_end fs t))
ends_all j [] t h = absurd (true≢false (sym h))
ends_all j (f ∷ fs) t h = ends_cons t (j == f.0) (inside j fs) (pick j (all_end fs t)) h (ends_all j fs t) (none_all j fs t)

of_ends : (t : Token) (xs : List Token) → sort t.kind ≡ Stop → Ends t xs → Closed xs
of_ends t xs z e = record { front = e.0; end = t; is = e.1; closing = inl (is_end t.kind z) }

module _ (j k c : ℕ) (fs : List (ℕ × Mode)) (t : Token) (xs : List Token) where
  abbrev round : Bool
  round = (j == k) || inside j fs

  -- the token goes to the current stream, and this is another
  stay : (round ≡ false → Closed xs) → round ≡ false → Closed (xs ++ pick j ((k, t) ∷ []))
  stay h e = closed_before xs _ (skip_cons (j == k) (inside j fs) t [] e (λ i. refl)) (h e)

  -- the text ends
  stop : (round ≡ false → Closed xs) → sort t.kind ≡ Stop → Closed (xs ++ pick j ((k, t) ∷ all_end fs t))
  stop h z = on round refl
    where
      on : (b : Bool) → round ≡ b → Closed (xs ++ pick j ((k, t) ∷ all_end fs t))
      on true e = closed_behind xs _ (of_ends t _ z (ends_cons t (j == k) (inside j fs) (pick j (all_end fs t)) e (ends_all j fs t) (none_all j fs t)))
      on false e = closed_before xs _ (skip_cons (j == k) (inside j fs) t (pick j (all_end fs t)) e (none_all j fs t)) (h e)

  amid_closes : (m : Mode) (z : Sort) → sort t.kind ≡ z → (round ≡ false → Closed xs) → open_by j k fs (amid_next m t z) ≡ false
      → Closed (xs ++ pick j ((k, t) ∷ unless_stop z (all_end fs t) []))
  amid_closes m Stop s h e = stop h s
  amid_closes Free Closer s h e = stay h e
  amid_closes (Body zero) Closer s h e = stay h e
  amid_closes (Body (suc d)) Closer s h e = stay h e
  amid_closes m z s h e = stay h e

  seen_closes : (m : Mode) (u : Token) (z : Sort) → sort t.kind ≡ z → (round ≡ false → Closed xs) → open_by j k fs (seen_next m u t z) ≡ false
      → Closed (xs ++ pick j ((k, t) ∷ unless_stop z (all_end fs t) []))
  seen_closes m u Word s h e = stay h e
  seen_closes m u z s h e = amid_closes m z s h e

  two_closes : (z : Sort) → sort t.kind ≡ z → (round ≡ false → Closed xs) → open_by j k fs (unless_stop z ended one_left) ≡ false
      → Closed (xs ++ pick j ((k, t) ∷ unless_stop z (all_end fs t) []))
  two_closes Stop s h e = stop h s
  two_closes z s h e = stay h e

  leaves : (fs : List (ℕ × Mode)) → (((j == k) || inside j fs) ≡ false → Closed xs) → is_open j (out_of k c fs) ≡ false
      → Closed (xs ++ pick j ((k, t) ∷ (k, end_at t) ∷ []))
  leaves fs h e = on (j == k) refl fs h e
    where
      on : (b : Bool) → (j == k) ≡ b → (fs : List (ℕ × Mode)) → (((j == k) || inside j fs) ≡ false → Closed xs) → is_open j (out_of k c fs) ≡ false
          → Closed (xs ++ cond (j == k) (t ∷ cond (j == k) (end_at t ∷ []) []) (cond (j == k) (end_at t ∷ []) []))
      on true q fs h e = subst (λ b. Closed (xs ++ cond b (t ∷ cond b (end_at t ∷ []) []) (cond b (end_at t ∷ []) []))) (sym q)
          (closed_behind xs (t ∷ end_at t ∷ []) (record { front = t ∷ []; end = end_at t; is = refl; closing = inr refl }))
      on false q [] h e = subst (λ b. Closed (xs ++ cond b (t ∷ cond b (end_at t ∷ []) []) (cond b (end_at t ∷ []) []))) (sym q)
          (closed_before xs [] refl (h (ap (λ b. b || false) q)))
      on false q (f ∷ fs) h e = subst (λ b. Closed (xs ++ cond b (t ∷ cond b (end_at t ∷ []) []) (cond b (end_at t ∷ []) []))) (sym q)
          (closed_before xs [] refl (h (ap (λ b. b || inside j (f ∷ fs)) q ∙ e)))

  one_closes : (z : Sort) → sort t.kind ≡ z → (round ≡ false → Closed xs) → is_open j (unless_stop z (state k c fs ended) (out_of k c fs)) ≡ false
      → Closed (xs ++ pick j ((k, t) ∷ unless_stop z (all_end fs t) ((k, end_at t) ∷ [])))
  one_closes Stop s h e = stop h s
  one_closes z s h e = leaves fs h e

  heading_stops : (hs : List Token) → sort t.kind ≡ Stop → (j < c → round ≡ false → Closed xs) → j < suc c
      → Closed (xs ++ pick j ((k, t) ∷ (all_end fs t ++ to c (hs ++ (t ∷ [])))))
  heading_stops hs s h l = on (j == c) refl
    where
      split : pick j ((k, t) ∷ (all_end fs t ++ to c (hs ++ (t ∷ [])))) ≡ pick j ((k, t) ∷ all_end fs t) ++ pick j (to c (hs ++ (t ∷ [])))
      split = pick_append j ((k, t) ∷ all_end fs t) (to c (hs ++ (t ∷ [])))

      less : (j c : ℕ) → j < suc c → (j == c) ≡ false → j < c
      less j c l e = grind arith

      on : (b : Bool) → (j == c) ≡ b → Closed (xs ++ pick j ((k, t) ∷ (all_end fs t ++ to c (hs ++ (t ∷ [])))))
      on true e =
          let own : pick j (to c (hs ++ (t ∷ []))) ≡ hs ++ (t ∷ []) = ap (λ z. pick z (to c (hs ++ (t ∷ [])))) (eqb-true j c e) ∙ pick_own c (hs ++ (t ∷ [])) in
          subst (λ z. Closed (xs ++ z)) (sym (split ∙ ap (λ z. pick j ((k, t) ∷ all_end fs t) ++ z) own))
          (closed_behind xs _ (closed_behind (pick j ((k, t) ∷ all_end fs t)) (hs ++ (t ∷ [])) (of_ends t (hs ++ (t ∷ [])) s (hs, refl))))
      on false e =
          subst (λ z. Closed (xs ++ z)) (sym (split ∙ ap (λ z. pick j ((k, t) ∷ all_end fs t) ++ z) (pick_other j c (hs ++ (t ∷ [])) e) ∙ append-nil _))
          (stop (h (less j c l e)) s)

  block_closes : (hs : List Token) → (j < c → round ≡ false → Closed xs) → j < suc c → ((j == c) || round) ≡ false
      → Closed (xs ++ pick j ((k, t) ∷ (k, cut_at c t) ∷ to c (hs ++ (t ∷ []))))
  block_closes hs h l e =
      let new : (j == c) ≡ false = or_left (j == c) round e in
      let old : round ≡ false = or_right (j == c) round e in
      let same : (j == k) ≡ false = or_left (j == k) (inside j fs) old in
      closed_before xs _ (pick_append j ((k, t) ∷ (k, cut_at c t) ∷ []) (to c (hs ++ (t ∷ []))) ∙ ap (λ z. z ++ pick j (to c (hs ++ (t ∷ [])))) (pick_other j k (t ∷ cut_at c t ∷ []) same) ∙ pick_other j c (hs ++ (t ∷ [])) new)
      (h (less j c l new) old)
    where
      or_left : (a b : Bool) → (a || b) ≡ false → a ≡ false
      or_left true b e = absurd (true≢false e)
      or_left false b e = refl

      or_right : (a b : Bool) → (a || b) ≡ false → b ≡ false
      or_right true b e = absurd (true≢false e)
      or_right false b e = e

      less : (j c : ℕ) → j < suc c → (j == c) ≡ false → j < c
      less j c l e = grind arith

  heading_closes : (m : Mode) (q : ℕ) (hs : List Token) (z : Sort) → sort t.kind ≡ z → (j < c → round ≡ false → Closed xs) → j < count (heading_next k c fs m q hs t z)
      → is_open j (heading_next k c fs m q hs t z) ≡ false → Closed (xs ++ pick j (heading_goes k c fs q hs t z))
  heading_closes m q hs Stop s h l e = heading_stops hs s h l
  heading_closes m zero hs Semicolon s h l e = block_closes hs h l e
  heading_closes m (suc q) hs Semicolon s h l e = stay (h l) e
  heading_closes m q hs z s h l e = stay (h l) e

-- one token
closes : (s : State) (t : Token) (j : ℕ) (xs : List Token) → (j < count s → is_open j s ≡ false → Closed xs) → j < count (next s t) → is_open j (next s t) ≡ false
    → Closed (xs ++ pick j (goes s t))
closes (state k c fs (amid m)) t j xs h l e = amid_closes j k c fs t xs m (sort t.kind) refl (h l) e
closes (state k c fs (seen m u)) t j xs h l e = seen_closes j k c fs t xs m u (sort t.kind) refl (h l) e
closes (state k c fs (heading m q hs)) t j xs h l e = heading_closes j k c fs t xs m q hs (sort t.kind) refl h l e
closes (state k c fs two_left) t j xs h l e = two_closes j k c fs t xs (sort t.kind) refl (h l) e
closes (state k c fs one_left) t j xs h l e = one_closes j k c fs t xs (sort t.kind) refl (h (subst (λ z. j < z) (one_count (sort t.kind)) l)) e
  where
    out_count : (fs : List (ℕ × Mode)) → count (out_of k c fs) ≡ c
    out_count [] = refl
    out_count (f ∷ fs) = refl

    one_count : (z : Sort) → count (unless_stop z (state k c fs ended) (out_of k c fs)) ≡ c
    one_count Stop = refl
    one_count z = out_count fs
closes (state k c fs ended) t j xs h l e = closed_before xs [] refl (h l refl)

all_close : (ts : List Token) (s : State) (j : ℕ) (xs : List Token) → (j < count s → is_open j s ≡ false → Closed xs) → j < count (after s ts) → is_open j (after s ts) ≡ false
    → Closed (xs ++ pick j (events s ts))
all_close [] s j xs h l e = closed_before xs [] refl (h l e)
all_close (t ∷ ts) s j xs h l e =
    subst Closed (append_assoc xs (pick j (goes s t)) (pick j (events (next s t) ts)) ∙ ap (λ z. xs ++ z) (sym (pick_append j (goes s t) (events (next s t) ts))))
    (all_close ts (next s t) j (xs ++ pick j (goes s t)) (λ l' e'. closes s t j xs h l' e') l e)

not_open : (j : ℕ) (s : State) → phase s ≡ ended → is_open j s ≡ false
not_open j (state k c fs p) e = ap (open_by j k fs) e

-- each stream of a text is closed
pub streams_close : (m : ℕ) (ts : List Token) → Ended ts → (j : ℕ) → m ≤ j → j < count (after (start m) ts) → Closed (pick j (events (start m) ts))
streams_close m ts e j low l =
    all_close ts (start m) j [] (λ l' o. absurd (true≢false (sym (at_start l') ∙ o))) l
    (not_open j (after (start m) ts) (ap (λ z. phase (after (start m) z)) e.is ∙ after_end cuttable main_text m e.before e.last_token e.end))
  where
    same : (j m : ℕ) → m ≤ j → j < suc m → (j == m) ≡ true
    same j m a b = grind arith

    at_start : j < suc m → ((j == m) || false) ≡ true
    at_start l' = ap (λ b. b || false) (same j m low l')
