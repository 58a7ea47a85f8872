-- Where the unsplit text is refused, the current stream is refused at the same token.
use Rattle.std.proofs.Common.{◌≡◌, ℕ, zero, suc, Bool, true, false, List, [], ◌∷◌, ◌++◌, refl, sym, ap, ◌∙◌, subst, ◌&&◌, ◌||◌, not, true≢false, append_assoc, ◌⊎◌, inl, inr, ⊎_elim, ◌==◌, eqb-true, length, ◌<◌, ◌≤◌, ◌+◌, arith}
use Rattle.std.proofs.lemmas.List.{append-nil}
use Rattle.m2_base.specs.declared.token.Token.{Token}
use Rattle.m2_base.specs.KindNumbers.{kind_number}
use Rattle.ll_grammar.specs.Grammar.{Rule, then, deep, sub, Grammar, one}
use Rattle.ll_grammar.specs.Derivations.{Tree, leaf, both, tokens, Derives}
use Rattle.ll_grammar.specs.LookAhead.{member}
use Rattle.stream_split.specs.declared.sorts.Sort.TheVariants.{Word, Procedure, Closer, Semicolon}
use Rattle.stream_split.specs.declared.cutter.Mode.{Mode}
use Rattle.stream_split.specs.declared.cutter.Mode.TheVariants.{Free, Body}
use Rattle.ll_grammar.specs.Reading.{Accepts, accept_token, accept_then, Refuses, refuse_token, refuse_then, refuse_later, refuse_left, refuse_right, refuse_many, refuse_more, refuse_deep, refuse_sub, refuse_limit, refuse_none}
use Rattle.ll_grammar.specs.Sentences.{Fault, SameHead}
use Rattle.ll_grammar.proofs.Beginnings.{same_front}
use Rattle.ll_grammar.proofs.KindSets.{and_l, and_r}
use Rattle.ll_grammar.proofs.Rests.{accepts_rest, refuses_rest}
use Rattle.ll_grammar.proofs.Soundness.{accepts_derives}
use Rattle.stream_split.specs.Cut.{Phase, amid, seen, heading, two_left, one_left, ended, State, state, events, after, Event, to, cut_at, pick}
use Rattle.stream_split.proofs.Runs.{after_append, events_append}
use Rattle.stream_split.proofs.Picks.{pick_append, pick_own, pick_other}
use Rattle.stream_split.proofs.Parts.{stream_rule, streams_after, own, parts, sends}
use Rattle.stream_split.proofs.Flow.{Cuttable, head, block, grammar_of, procedure_rule, flow, head_flow, plain, raise, Fits, fits_amid, fits_seen, Tops, Runs, runs_then, runs_one, flows, heads_of, seen_procedure, seen_closer, fits_more, fits_wider, again_stay, fits_low, is_word, is_procedure, is_closer, is_semi, no_more, plain_own}
use Rattle.stream_split.proofs.Told.{counted, own_pick, high_pick}
use Rattle.stream_split.proofs.OwnRests.{ahead, head_same, own_accepts}

pub runs_none : (s : State) → Runs s [] s []
runs_none s = record { state_is = refl; events_are = refl }

-- a refused heading
module _ (G : Cuttable) where
  abbrev whole_grammar : Grammar Token
  whole_grammar = grammar_of G

  pub record HeadEnds (k c : ℕ) (fs : List (ℕ × Mode)) (m : Mode) (p : ℕ) (hs u : List Token) : Type 0 where
    pub p' : ℕ
    pub runs : Runs (state k c fs (heading m p hs)) u (state k c fs (heading m p' (hs ++ u))) (to k u)

  abbrev hold : (k c : ℕ) (fs : List (ℕ × Mode)) (m : Mode) (p : ℕ) (hs : List Token) → HeadEnds k c fs m p hs []
  hold k c fs m p hs = record { p' = p; runs = record { state_is = ap (λ z. state k c fs (heading m p z)) (sym (append-nil hs)); events_are = refl } }

  abbrev beyond : (k c : ℕ) (fs : List (ℕ × Mode)) (m : Mode) (p q : ℕ) (hs xs u : List Token) → Runs (state k c fs (heading m p hs)) xs (state k c fs (heading m q (hs ++ xs))) (to k xs) → HeadEnds k c fs m q (hs ++ xs) u → HeadEnds k c fs m p hs (xs ++ u)
  beyond k c fs m p q hs xs u a b =
      let r = runs_then a b.runs in
      record { p' = b.p'; runs = record { state_is = r.state_is ∙ ap (λ z. state k c fs (heading m b.p' z)) (append_assoc hs xs u); events_are = r.events_are ∙ sym (to_joined k xs u) } }
    where
      to_joined : (k : ℕ) (xs ys : List Token) → to k (xs ++ ys) ≡ to k xs ++ to k ys
      to_joined k [] ys = refl
      to_joined k (x ∷ xs) ys = ap (λ z. (k, x) ∷ z) (to_joined k xs ys)

  pub head_ends : {f : Fault} {b : ℕ} {r : Rule} {u rest : List Token} → Refuses whole_grammar f b r u rest → (p : ℕ) (kk : ℕ → Bool) → head_flow r p kk ≡ true → (k c : ℕ) (fs : List (ℕ × Mode)) (m : Mode) (hs : List Token) → HeadEnds k c fs m p hs u
  head_ends (refuse_token g) p kk h k c fs m hs = hold k c fs m p hs
  head_ends (refuse_then {s = s} q) p kk h k c fs m hs = head_ends q p (λ p'. head_flow s p' kk) h k c fs m hs
  head_ends (refuse_later {s = s} {d = x} {u = u} a q) p kk h k c fs m hs =
      let i = heads_of G (accepts_derives whole_grammar a) p (λ p'. head_flow s p' kk) h k c fs m hs in
      beyond k c fs m p i.p' hs (tokens x) u (record { state_is = i.state_is; events_are = i.events_are }) (head_ends q i.p' kk i.test k c fs m (hs ++ tokens x))
  head_ends (refuse_left g q) p kk h k c fs m hs = head_ends q p kk (and_l _ _ h) k c fs m hs
  head_ends (refuse_right {r = r} g q) p kk h k c fs m hs = head_ends q p kk (and_r (head_flow r p kk) _ h) k c fs m hs
  head_ends (refuse_many g q) p kk h k c fs m hs = head_ends q p (λ p'. p' == p) (and_l _ _ h) k c fs m hs
  head_ends (refuse_more {d = x} {u = u} g a q) p kk h k c fs m hs =
      let i = heads_of G (accepts_derives whole_grammar a) p (λ p'. p' == p) (and_l _ _ h) k c fs m hs in
      let same = ap (λ z. state k c fs (heading m z (hs ++ tokens x))) (eqb-true i.p' p i.test) in
      beyond k c fs m p p hs (tokens x) u (record { state_is = i.state_is ∙ same; events_are = i.events_are }) (head_ends q p kk h k c fs m (hs ++ tokens x))
  head_ends (refuse_deep q) p kk h k c fs m hs = absurd (true≢false (sym h))
  head_ends (refuse_sub q) p kk h k c fs m hs = absurd (true≢false (sym h))
  head_ends (refuse_limit g) p kk h k c fs m hs = absurd (true≢false (sym h))
  head_ends (refuse_none g) p kk h k c fs m hs = absurd (true≢false (sym h))

module _ (G : Cuttable) where
  abbrev W : Grammar Token
  W = grammar_of G

  abbrev H : Rule
  H = head G

  abbrev PS : Rule
  PS = procedure_rule G

  abbrev pub Acc : ℕ → Rule → Tree Token → List Token → Type 0
  Acc = Accepts W

  abbrev pub Ref : Fault → ℕ → Rule → List Token → List Token → Type 0
  Ref = Refuses W

  -- a heading that the text breaks off is refused in the new stream, too
  abbrev pub Tip : Fault → ℕ → List Token → Phase → Type 0
  Tip f b rest (amid m) = Unit {0}
  Tip f b rest (seen m t) = Unit {0}
  Tip f b rest (heading m q hs) = (w : List Token) → SameHead rest w → Ref f b PS hs w
  Tip f b rest two_left = Unit {0}
  Tip f b rest one_left = Unit {0}
  Tip f b rest ended = ⊥

  -- refused in stream k itself
  pub record Here (f : Fault) (b : ℕ) (r : Rule) (u rest : List Token) (k k' : ℕ) (p' : Phase) (v : List Token) : Type 0 where
    pub same : k' ≡ k
    pub refuses : (w : List Token) → SameHead rest w → Ref f b (stream_rule H r) v w
    pub begin : (w : List Token) → SameHead rest w → SameHead (u ++ rest) (v ++ w)
    pub simple : plain r ≡ true → (v ≡ u) × ((f' : Fault) (b' : ℕ) → Tip f' b' rest p')

  -- refused in the stream of a Procedure
  pub record Inside (f : Fault) (b : ℕ) (r : Rule) (rest : List Token) (c k' : ℕ) (v : List Token) : Type 0 where
    pub above : c ≤ k'
    pub refuses : (w : List Token) → SameHead rest w → Ref f b PS v w
    pub simple : plain r ≡ true → ⊥

  pub record Stops (f : Fault) (b : ℕ) (r : Rule) (u rest : List Token) (k c : ℕ) (fs : List (ℕ × Mode)) (p : Phase) : Type 0 where
    pub k' : ℕ
    pub c' : ℕ
    pub fs' : List (ℕ × Mode)
    pub p' : Phase
    pub v : List Token
    pub state_is : after (state k c fs p) u ≡ state k' c' fs' p'
    pub picked : pick k' (events (state k c fs p) u) ≡ v
    pub tip : Tip f b rest p'
    pub place : Here f b r u rest k k' p' v ⊎ Inside f b r rest c k' v

  pub tip_fits : {m : Mode} {d : ℕ} {s : Bool} {p : Phase} (f : Fault) (b : ℕ) (rest : List Token) → Fits m d s p → Tip f b rest p
  tip_fits f b rest fits_amid = tt
  tip_fits f b rest fits_seen = tt

  -- refused at once
  at_once : {m : Mode} {d : ℕ} {s : Bool} {p : Phase} {f : Fault} {b : ℕ} {r : Rule} {rest : List Token} (k c : ℕ) (fs : List (ℕ × Mode)) → Fits m d s p → ((w : List Token) → SameHead rest w → Ref f b (stream_rule H r) [] w) → Stops f b r [] rest k c fs p
  at_once {p = p} {f = f} {b = b} {rest = rest} k c fs g q = record { k' = k; c' = c; fs' = fs; p' = p; v = []; state_is = refl; picked = refl; tip = tip_fits f b rest g; place = inl (record { same = refl; refuses = q; begin = λ w h. h; simple = λ e. (refl, λ f' b'. tip_fits f' b' rest g) }) }

  -- the same for a larger rule that begins so
  widen : {f : Fault} {b : ℕ} {q r : Rule} {u rest : List Token} {k c : ℕ} {fs : List (ℕ × Mode)} {p : Phase} → Stops f b q u rest k c fs p → (plain r ≡ true → plain q ≡ true) → ((v w : List Token) → SameHead rest w → SameHead (u ++ rest) (v ++ w) → Ref f b (stream_rule H q) v w → Ref f b (stream_rule H r) v w) → Stops f b r u rest k c fs p
  widen j e g = record {
    k' = j.k';
    c' = j.c';
    fs' = j.fs';
    p' = j.p';
    v = j.v;
    state_is = j.state_is;
    picked = j.picked;
    tip = j.tip;
    place = ⊎_elim (λ h. inl (record { same = h.same; refuses = λ w s. g j.v w s (h.begin w s) (h.refuses w s); begin = h.begin; simple = λ s. h.simple (e s) })) (λ i. inr (record { above = i.above; refuses = i.refuses; simple = λ s. i.simple (e s) })) j.place;
  }

  -- the same behind a sentence of another rule
  behind : {f : Fault} {b : ℕ} {q s r : Rule} {x : Tree Token} {u rest : List Token} {k c : ℕ} {fs : List (ℕ × Mode)} {p p1 : Phase} → Derives W q x → k < c → Runs (state k c fs p) (tokens x) (state k (streams_after c x) fs p1) (sends k c x) →
      Stops f b s u rest k (streams_after c x) fs p1 →
      (plain r ≡ true → (plain q ≡ true) × (plain s ≡ true)) →
      ((v w : List Token) → SameHead rest w → SameHead (u ++ rest) (v ++ w) → Ref f b (stream_rule H s) v w → Ref f b (stream_rule H r) (tokens (own c x) ++ v) w) →
      Stops f b r (tokens x ++ u) rest k c fs p
  behind {f} {b} {q} {s} {r} {x} {u} {rest} {k} {c} {fs} {p} {p1} g l a j e build = record {
    k' = j.k';
    c' = j.c';
    fs' = j.fs';
    p' = j.p';
    v = pick j.k' (sends k c x) ++ j.v;
    state_is = after_append (state k c fs p) (tokens x) u ∙ ap (λ z. after z u) a.state_is ∙ j.state_is;
    picked = ap (pick j.k') (events_append (state k c fs p) (tokens x) u ∙ ap (λ z. z ++ events (after (state k c fs p) (tokens x)) u) a.events_are ∙ ap (λ z. sends k c x ++ events z u) a.state_is) ∙ pick_append j.k' (sends k c x) _ ∙ ap (λ z. pick j.k' (sends k c x) ++ z) j.picked;
    tip = j.tip;
    place = ⊎_elim (λ h. inl (here h)) (λ i. inr (inside_of i)) j.place;
  }
    where
      up : {c' k' : ℕ} (ps : List (Tree Token)) → c' ≡ c + length ps → c' ≤ k' → c ≤ k'
      up ps n h = omega (arith, n, h)

      here : Here f b s u rest k j.k' j.p' j.v → Here f b r (tokens x ++ u) rest k j.k' j.p' (pick j.k' (sends k c x) ++ j.v)
      here h =
          let is : pick j.k' (sends k c x) ≡ tokens (own c x) = ap (λ z. pick z (sends k c x)) h.same ∙ own_pick G g k c l in
          record {
            same = h.same;
            refuses = λ w e'. subst (λ z. Ref f b (stream_rule H r) (z ++ j.v) w) (sym is) (build j.v w e' (h.begin w e') (h.refuses w e'));
            begin = λ w e'. subst (λ z. SameHead ((tokens x ++ u) ++ rest) ((z ++ j.v) ++ w)) (sym is) (subst (λ z. SameHead z ((tokens (own c x) ++ j.v) ++ w)) (sym (append_assoc (tokens x) u rest)) (subst (SameHead (tokens x ++ (u ++ rest))) (sym (append_assoc (tokens (own c x)) j.v w)) (head_same G g c (u ++ rest) (j.v ++ w) (h.begin w e'))));
            simple = λ e'. let i = e e' in let o = h.simple i.1 in (ap (λ z. z ++ j.v) (is ∙ plain_own G g i.0 c) ∙ ap (λ z. tokens x ++ z) o.0, o.1);
          }

      inside_of : Inside f b s rest (streams_after c x) j.k' j.v → Inside f b r rest c j.k' (pick j.k' (sends k c x) ++ j.v)
      inside_of i =
          let is = high_pick G g j.k' k c l i.above in
          record {
            above = up (parts c x) (counted G g c) i.above;
            refuses = λ w e'. subst (λ z. Ref f b PS (z ++ j.v) w) (sym is) (i.refuses w e');
            simple = λ e'. i.simple (e e').1;
          }

  under : {f : Fault} {b n : ℕ} {u rest : List Token} {k c : ℕ} {fs : List (ℕ × Mode)} {p : Phase} → Ref f b (G.below n) u rest → Stops f b (G.below n) u rest k c fs p → Stops f (suc b) (deep (suc n)) u rest k c fs p
  under {f} {b} {n} {u} {rest} {k} {c} q j = ⊎_elim
      (λ h. let o = h.simple (G.plains n) in record {
        k' = j.k';
        c' = j.c';
        fs' = j.fs';
        p' = j.p';
        v = j.v;
        state_is = j.state_is;
        picked = j.picked;
        tip = o.1 f (suc b);
        place = inl (record {
          same = h.same;
          refuses = λ w e. subst (λ z. Ref f (suc b) (deep (suc n)) z w) (sym o.0) (refuse_deep (refuses_rest W q w e));
          begin = λ w e. subst (λ z. SameHead (u ++ rest) (z ++ w)) (sym o.0) (same_front u rest w e);
          simple = λ e. o;
        });
      })
      (λ i. absurd (i.simple (G.plains n))) j.place

  -- a heading that is refused, as that of a Procedure
  in_heading : {f : Fault} {b : ℕ} {u rest : List Token} {m : Mode} {d : ℕ} {s : Bool} {p : Phase} (k c : ℕ) (fs : List (ℕ × Mode)) → Fits m d s p → Ref f b H u rest → Stops f b sub u rest k c fs p
  in_heading k c fs g (refuse_then (refuse_token h)) = at_once k c fs g (λ w e. refuse_then (refuses_rest W (refuse_then (refuse_token h)) w e))
  in_heading {f} {b} {u} {rest} {m} {d} {s} {p} k c fs g (refuse_later (accept_token {t = t0} g0) (refuse_then (refuse_token h))) =
      let a0 = seen_procedure k c fs t0 g in
      let r0 = runs_one (state k c fs p) t0 37 Procedure g0 is_procedure a0.0 a0.1 in
      record {
        k' = k;
        c' = c;
        fs' = fs;
        p' = seen (raise d m) t0;
        v = t0 ∷ [];
        state_is = r0.state_is;
        picked = ap (pick k) r0.events_are ∙ pick_own k (t0 ∷ []);
        tip = tt;
        place = inl (record { same = refl; refuses = λ w e. refuse_then (refuses_rest W (refuse_later (accept_token {t = t0} g0) (refuse_then (refuse_token h))) w e); begin = λ w e. refl; simple = λ e. absurd (true≢false (sym e)) });
      }
  in_heading {f} {b} {u} {rest} {m} {d} {s} {p} k c fs g (refuse_later (accept_token {t = t0} g0) (refuse_later {u = u2} (accept_token {t = t1} g1) q)) =
      let a0 = seen_procedure k c fs t0 g in
      let r0 = runs_one (state k c fs p) t0 37 Procedure g0 is_procedure a0.0 a0.1 in
      let r1 = runs_one (state k c fs (seen (raise d m) t0)) t1 1 Word g1 is_word refl refl in
      let j = head_ends G q 0 (λ p. p == 0) G.heads k c fs (raise d m) (t0 ∷ t1 ∷ []) in
      let r = runs_then r0 (runs_then r1 j.runs) in
      let all : Ref f b H (t0 ∷ t1 ∷ u2) rest = refuse_later (accept_token {t = t0} g0) (refuse_later (accept_token {t = t1} g1) q) in
      record {
        k' = k;
        c' = c;
        fs' = fs;
        p' = heading (raise d m) j.p' (t0 ∷ t1 ∷ u2);
        v = t0 ∷ t1 ∷ u2;
        state_is = r.state_is;
        picked = ap (pick k) r.events_are ∙ pick_own k (t0 ∷ t1 ∷ u2);
        tip = λ w e. refuse_then (refuses_rest W all w e);
        place = inl (record { same = refl; refuses = λ w e. refuse_then (refuses_rest W all w e); begin = λ w e. refl; simple = λ e. absurd (true≢false (sym e)) });
      }

  -- the stream of a Procedure whose heading was read
  pub record Entered (k c : ℕ) (fs : List (ℕ × Mode)) (p : Phase) (mm : Mode) (hd : List Token) : Type 0 where
    pub runs : Runs (state k c fs p) hd (state k c fs (heading mm 0 hd)) (to k hd)

  enter : {b : ℕ} {hd : Tree Token} {rest : List Token} {m : Mode} {d : ℕ} {s : Bool} {p : Phase} (k c : ℕ) (fs : List (ℕ × Mode)) → Fits m d s p → Acc b H hd rest → Entered k c fs p (raise d m) (tokens hd)
  enter {m = m} {d = d} {p = p} k c fs g (accept_then (accept_token {t = t0} g0) (accept_then {e = hm} (accept_token {t = t1} g1) a)) =
      let a0 = seen_procedure k c fs t0 g in
      let r0 = runs_one (state k c fs p) t0 37 Procedure g0 is_procedure a0.0 a0.1 in
      let r1 = runs_one (state k c fs (seen (raise d m) t0)) t1 1 Word g1 is_word refl refl in
      let i = heads_of G (accepts_derives W a) 0 (λ p. p == 0) G.heads k c fs (raise d m) (t0 ∷ t1 ∷ []) in
      let rm : Runs (state k c fs (heading (raise d m) 0 (t0 ∷ t1 ∷ []))) (tokens hm) (state k c fs (heading (raise d m) 0 (t0 ∷ t1 ∷ tokens hm))) (to k (tokens hm)) =
      record { state_is = i.state_is ∙ ap (λ z. state k c fs (heading (raise d m) z (t0 ∷ t1 ∷ tokens hm))) (eqb-true i.p' 0 i.test); events_are = i.events_are } in
      record { runs = runs_then r0 (runs_then r1 rm) }

  same_no : (j k : ℕ) → k < j → (j == k) ≡ false
  same_no j k h = grind arith

  -- what the stream of a Procedure does decides
  within : {f : Fault} {b : ℕ} {rest : List Token} {p : Phase} {mm : Mode} (k c : ℕ) (fs : List (ℕ × Mode)) (hd : List Token) (t : Token) (u3 : List Token) (k3 c3 : ℕ) (fs3 : List (ℕ × Mode)) (p3 : Phase) (v3 : List Token) → k < c →
      Runs (state k c fs p) (hd ++ (t ∷ [])) (state c (suc c) ((k, mm) ∷ fs) (amid (Body 0))) (to k hd ++ ((k, t) ∷ (k, cut_at c t) ∷ to c (hd ++ (t ∷ [])))) →
      after (state c (suc c) ((k, mm) ∷ fs) (amid (Body 0))) u3 ≡ state k3 c3 fs3 p3 →
      pick k3 (events (state c (suc c) ((k, mm) ∷ fs) (amid (Body 0))) u3) ≡ v3 →
      Tip f b rest p3 →
      ((k3 ≡ c) × ((w : List Token) → SameHead rest w → Ref f b PS (hd ++ (t ∷ v3)) w)) ⊎ ((suc c ≤ k3) × ((w : List Token) → SameHead rest w → Ref f b PS v3 w)) →
      Stops f b sub (hd ++ (t ∷ u3)) rest k c fs p
  within {f} {b} {rest} {p} {mm} k c fs hd t u3 k3 c3 fs3 p3 v3 l a e v tip place =
      let s0 = state k c fs p in
      let s1 = state c (suc c) ((k, mm) ∷ fs) (amid (Body 0)) in
      let es : List Event = to k hd ++ ((k, t) ∷ (k, cut_at c t) ∷ to c (hd ++ (t ∷ []))) in
      let split : hd ++ (t ∷ u3) ≡ (hd ++ (t ∷ [])) ++ u3 = sym (append_assoc hd (t ∷ []) u3) in
      record {
        k' = k3;
        c' = c3;
        fs' = fs3;
        p' = p3;
        v = pick k3 es ++ v3;
        state_is = ap (after s0) split ∙ after_append s0 (hd ++ (t ∷ [])) u3 ∙ ap (λ z. after z u3) a.state_is ∙ e;
        picked = ap (λ z. pick k3 (events s0 z)) split ∙ ap (pick k3) (events_append s0 (hd ++ (t ∷ [])) u3 ∙ ap (λ z. z ++ events (after s0 (hd ++ (t ∷ []))) u3) a.events_are ∙ ap (λ z. es ++ events z u3) a.state_is) ∙ pick_append k3 es _ ∙ ap (λ z. pick k3 es ++ z) v;
        tip = tip;
        place = inr (⊎_elim
            (λ h. record {
              above = low h.0;
              refuses = λ w g. subst (λ z. Ref f b PS z w) (sym (ap (λ z. z ++ v3) (ap (λ z. pick z es) h.0 ∙ own_of_new) ∙ append_assoc hd (t ∷ []) v3)) (h.1 w g);
              simple = λ g. true≢false (sym g);
            })
            (λ h. record {
              above = lower h.0;
              refuses = λ w g. subst (λ z. Ref f b PS z w) (sym (ap (λ z. z ++ v3) (none_of_later h.0))) (h.1 w g);
              simple = λ g. true≢false (sym g);
            }) place);
      }
    where
      low : {k3 : ℕ} → k3 ≡ c → c ≤ k3
      low h = omega (arith, h)

      lower : {k3 : ℕ} → suc c ≤ k3 → c ≤ k3
      lower h = omega (arith, h)

      own_of_new : pick c (to k hd ++ ((k, t) ∷ (k, cut_at c t) ∷ to c (hd ++ (t ∷ [])))) ≡ hd ++ (t ∷ [])
      own_of_new = pick_append c (to k hd) _ ∙ ap (λ z. z ++ pick c ((k, t) ∷ (k, cut_at c t) ∷ to c (hd ++ (t ∷ [])))) (pick_other c k hd (same_no c k l)) ∙ pick_append c ((k, t) ∷ (k, cut_at c t) ∷ []) (to c (hd ++ (t ∷ []))) ∙ ap (λ z. z ++ pick c (to c (hd ++ (t ∷ [])))) (pick_other c k (t ∷ cut_at c t ∷ []) (same_no c k l)) ∙ pick_own c (hd ++ (t ∷ []))

      none_of_later : {j : ℕ} → suc c ≤ j → pick j (to k hd ++ ((k, t) ∷ (k, cut_at c t) ∷ to c (hd ++ (t ∷ [])))) ≡ []
      none_of_later {j} h =
          let n1 : k < j = omega (arith, h, l) in let n2 : c < j = omega (arith, h) in
          pick_append j (to k hd) _ ∙ ap (λ z. z ++ pick j ((k, t) ∷ (k, cut_at c t) ∷ to c (hd ++ (t ∷ [])))) (pick_other j k hd (same_no j k n1)) ∙ pick_append j ((k, t) ∷ (k, cut_at c t) ∷ []) (to c (hd ++ (t ∷ []))) ∙ ap (λ z. z ++ pick j (to c (hd ++ (t ∷ [])))) (pick_other j k (t ∷ cut_at c t ∷ []) (same_no j k n1)) ∙ pick_other j c (hd ++ (t ∷ [])) (same_no j c n2)

  -- at the END of a procedure's block and its name
  end_stops : {f : Fault} {b : ℕ} {u rest : List Token} {s : Bool} {p : Phase} (k c : ℕ) (fs : List (ℕ × Mode)) → Fits (Body 0) 0 s p → Ref f b (then (one 21) (one 1)) u rest → Stops f b (then (one 21) (one 1)) u rest k c fs p
  end_stops k c fs g (refuse_then (refuse_token h)) = at_once k c fs g (λ w e. refuse_then (refuses_rest W (refuse_token h) w e))
  end_stops {f} {b} {u} {rest} {p = p} k c fs g (refuse_later (accept_token {t = te} ge) (refuse_token h)) =
      let ae = seen_closer k c fs te g in
      let r = runs_one (state k c fs p) te 21 Closer ge is_closer ae.0 ae.1 in
      record {
        k' = k;
        c' = c;
        fs' = fs;
        p' = two_left;
        v = te ∷ [];
        state_is = r.state_is;
        picked = ap (pick k) r.events_are ∙ pick_own k (te ∷ []);
        tip = tt;
        place = inl (record { same = refl; refuses = λ w e. refuse_later (accept_token {t = te} ge) (refuses_rest W (refuse_token h) w e); begin = λ w e. refl; simple = λ e. (refl, λ f' b'. tt) });
      }

  -- a procedure whose block is refused
  in_block : {f : Fault} {b : ℕ} {hd : Tree Token} {u rest : List Token} {m : Mode} {d : ℕ} {s : Bool} {p : Phase} (k c : ℕ) (fs : List (ℕ × Mode)) (t : Token) → k < c → Fits m d s p → Acc b H hd ((t ∷ u) ++ rest) → member (kind_number t.kind) (57 ∷ []) ≡ true →
      Stops f b (block G) u rest c (suc c) ((k, raise d m) ∷ fs) (amid (Body 0)) → Stops f b sub (tokens hd ++ (t ∷ u)) rest k c fs p
  in_block {f} {b} {hd} {u} {rest} {m} {d} {s} {p} k c fs t l g ah gt y =
      let i = enter k c fs g ah in
      let mm = raise d m in
      let r = runs_then i.runs (runs_one (state k c fs (heading mm 0 (tokens hd))) t 57 Semicolon gt is_semi refl refl) in
      within k c fs (tokens hd) t u y.k' y.c' y.fs' y.p' y.v l r y.state_is y.picked y.tip
      (⊎_elim
      (λ h. inl (h.same, λ w e. refuse_later (accepts_rest W ah ((t ∷ y.v) ++ w) refl) (refuse_later (accept_token {t = t} gt) (refuse_then (h.refuses w e)))))
      (λ h. inr (h.above, h.refuses)) y.place)

  more_count : {x : Tree Token} {q : Rule} → Derives W q x → (k c : ℕ) → k < c → k < streams_after c x
  more_count {x} g k c l = up (parts c x) (counted G g c)
    where
      up : {c' : ℕ} (ps : List (Tree Token)) → c' ≡ c + length ps → k < c'
      up ps n = omega (arith, n, l)

  pub stops : {f : Fault} {b : ℕ} {r : Rule} {u rest : List Token} → Ref f b r u rest → (top : Bool) (m : Mode) (d : ℕ) (s : Bool) (kk : ℕ → Bool → Bool) (k c : ℕ) (fs : List (ℕ × Mode)) (p : Phase) → flow top r d s kk ≡ true → Fits m d s p → Tops top m → k < c → Stops f b r u rest k c fs p
  stops (refuse_token h) top m d s kk k c fs p fl g o l = at_once k c fs g (λ w e. refuses_rest W (refuse_token h) w e)
  stops (refuse_then {r = q} {s = r} j) top m d s kk k c fs p fl g o l = widen (stops j top m d s (λ d' s'. flow top r d' s' kk) k c fs p fl g o l) (λ e. and_l _ _ e) (λ v w e i y. refuse_then y)
  stops (refuse_later {r = q} {s = r} {d = x} a j) top m d s kk k c fs p fl g o l =
      let og = (accepts_derives W a) in
      let i = flows G og top m d s (λ d' s'. flow top r d' s' kk) k c fs p fl g o in
      behind og l i.runs (stops j top m i.d' i.s' kk k (streams_after c x) fs i.p' i.test i.fits o (more_count og k c l)) (λ e. (and_l _ _ e, and_r (plain q) _ e)) (λ v w e h y. refuse_later (own_accepts G a c (v ++ w) h) y)
  stops (refuse_left {r = q} h j) top m d s kk k c fs p fl g o l = widen (stops j top m d s kk k c fs p (and_l _ _ fl) g o l) (λ e. and_l _ _ e) (λ v w e i y. refuse_left (ahead G q true _ _ i h) y)
  stops (refuse_right {r = q} h j) top m d s kk k c fs p fl g o l = widen (stops j top m d s kk k c fs p (and_r (flow top q d s kk) _ fl) g o l) (λ e. and_r (plain q) _ e) (λ v w e i y. refuse_right (ahead G q false _ _ i h) y)
  stops (refuse_many {r = q} h j) top m d s kk k c fs p fl g o l =
      let stay : Bool → Bool = λ z. flow top q d z (λ d' s'. (d' == d) && no_more z s') in
      let z = s || not (stay s) in
      widen (stops j top m d z (λ d' s'. (d' == d) && no_more z s') k c fs p (and_l _ _ fl) (fits_wider s (stay s) g) o l) (λ e. e) (λ v w e i y. refuse_many (ahead G q true _ _ i h) y)
  stops {f = f} {b = b} {rest = rest} (refuse_more {r = q} {d = x} {u = u} h a j) top m d s kk k c fs p fl g o l =
      let stay : Bool → Bool = λ z. flow top q d z (λ d' s'. (d' == d) && no_more z s') in
      let z = s || not (stay s) in
      let og = (accepts_derives W a) in
      let i = flows G og top m d z (λ d' s'. (d' == d) && no_more z s') k c fs p (and_l _ _ fl) (fits_wider s (stay s) g) o in
      let g' = fits_more z i.s' (and_r (i.d' == d) _ i.test) (subst (λ y. Fits m y i.s' i.p') (eqb-true i.d' d (and_l _ _ i.test)) i.fits) in
      behind og l i.runs (stops j top m d z kk k (streams_after c x) fs i.p' (again_stay stay (λ y. kk d y) z (and_l _ _ fl) (and_r (stay z) _ fl)) g' o (more_count og k c l)) (λ e. (e, e)) (λ v w e n y. refuse_more (ahead G q true _ _ (head_same G og c (u ++ rest) (v ++ w) n) h) (own_accepts G a c (v ++ w) n) y)
  stops (refuse_deep {m = zero} j) top m d s kk k c fs p fl g o l = absurd (true≢false (sym fl))
  stops (refuse_deep {m = suc n} j) top m d s kk k c fs p fl g o l = under j (stops j false (raise d m) 0 false (λ d s. d == 0) k c fs p (G.levels n) (fits_low s (and_l (not s) _ fl) g) (λ e. absurd (true≢false (sym e))) l)
  stops (refuse_limit {m = zero} h) top m d s kk k c fs p fl g o l = absurd (true≢false (sym fl))
  stops (refuse_limit {m = suc n} h) top m d s kk k c fs p fl g o l = at_once k c fs g (λ w e. refuses_rest W (refuse_limit h) w e)
  stops (refuse_none {m = zero} h) top m d s kk k c fs p fl g o l = absurd (true≢false (sym fl))
  stops (refuse_none {m = suc n} h) top m d s kk k c fs p fl g o l = at_once k c fs g (λ w e. refuses_rest W (refuse_none h) w e)
  stops (refuse_sub (refuse_then j)) top m d s kk k c fs p fl g o l = in_heading k c fs g j
  stops {f = f} {b = b} {rest = rest} (refuse_sub (refuse_later {d = hd} ah (refuse_then (refuse_token h)))) top m d s kk k c fs p fl g o l =
      let i = enter k c fs g ah in
      let again : (w : List Token) → SameHead rest w → Ref f b PS (tokens hd ++ []) w = λ w e. refuse_later (accepts_rest W ah w e) (refuse_then (refuses_rest W (refuse_token h) w e)) in
      record {
        k' = k;
        c' = c;
        fs' = fs;
        p' = heading (raise d m) 0 (tokens hd ++ []);
        v = tokens hd ++ [];
        state_is = ap (after (state k c fs p)) (append-nil (tokens hd)) ∙ i.runs.state_is ∙ ap (λ z. state k c fs (heading (raise d m) 0 z)) (sym (append-nil (tokens hd)));
        picked = ap (λ z. pick k (events (state k c fs p) z)) (append-nil (tokens hd)) ∙ ap (pick k) i.runs.events_are ∙ pick_own k (tokens hd) ∙ sym (append-nil (tokens hd));
        tip = again;
        place = inl (record { same = refl; refuses = λ w e. refuse_later (accepts_rest W ah w e) (refuse_then (refuses_rest W (refuse_token h) w e)); begin = λ w e. same_front (tokens hd ++ []) rest w e; simple = λ e. absurd (true≢false (sym e)) });
      }
  stops (refuse_sub (refuse_later ah (refuse_later (accept_token {t = t} gt) (refuse_then (refuse_then j))))) top m d s kk k c fs p fl g o l =
      in_block k c fs t l g ah gt
      (widen (stops j false (Body 0) 0 false (λ d' s'. flow false G.body d' s' (λ d s. d == 0)) c (suc c) ((k, raise d m) ∷ fs) (amid (Body 0)) G.insides fits_amid (λ e. absurd (true≢false (sym e))) (omega arith)) (λ e. and_l _ _ e) (λ v w e i y. refuse_then y))
  stops (refuse_sub (refuse_later ah (refuse_later (accept_token {t = t} gt) (refuse_then (refuse_later {d = x} a (refuse_then j)))))) top m d s kk k c fs p fl g o l =
      let fs' : List (ℕ × Mode) = (k, raise d m) ∷ fs in
      let no : false ≡ true → Body 0 ≡ Free = λ e. absurd (true≢false (sym e)) in
      let og = accepts_derives W a in
      let i = flows G og false (Body 0) 0 false (λ d' s'. flow false G.body d' s' (λ d s. d == 0)) c (suc c) fs' (amid (Body 0)) G.insides fits_amid no in
      in_block k c fs t l g ah gt
      (behind {s = then G.body (then (one 21) (one 1))} og (omega arith) i.runs
      (widen {r = then G.body (then (one 21) (one 1))} (stops j false (Body 0) i.d' i.s' (λ d s. d == 0) c (streams_after (suc c) x) fs' i.p' i.test i.fits no (more_count og c (suc c) (omega arith))) (λ e. and_l _ _ e) (λ v w e i y. refuse_then y))
      (λ e. (and_l _ _ e, and_r (plain G.decls) _ e)) (λ v w e h y. refuse_later (own_accepts G a (suc c) (v ++ w) h) y))
  stops (refuse_sub (refuse_later ah (refuse_later (accept_token {t = t} gt) (refuse_then (refuse_later {d = x} a (refuse_later {d = z} a2 q)))))) top m d s kk k c fs p fl g o l =
      let fs' : List (ℕ × Mode) = (k, raise d m) ∷ fs in
      let no : false ≡ true → Body 0 ≡ Free = λ e. absurd (true≢false (sym e)) in
      let og = accepts_derives W a in
      let og2 = accepts_derives W a2 in
      let i = flows G og false (Body 0) 0 false (λ d' s'. flow false G.body d' s' (λ d s. d == 0)) c (suc c) fs' (amid (Body 0)) G.insides fits_amid no in
      let c1 = streams_after (suc c) x in
      let l1 = more_count og c (suc c) (omega arith) in
      let i2 = flows G og2 false (Body 0) i.d' i.s' (λ d s. d == 0) c c1 fs' i.p' i.test i.fits no in
      let e2 = end_stops c (streams_after c1 z) fs' (subst (λ n. Fits (Body 0) n i2.s' i2.p') (eqb-true i2.d' 0 i2.test) i2.fits) q in
      in_block k c fs t l g ah gt
      (behind {s = then G.body (then (one 21) (one 1))} og (omega arith) i.runs
      (behind {s = then (one 21) (one 1)} {r = then G.body (then (one 21) (one 1))} og2 l1 i2.runs e2 (λ e. (and_l _ _ e, and_r (plain G.body) _ e)) (λ v w e h y. refuse_later (own_accepts G a2 c1 (v ++ w) h) y))
      (λ e. (and_l _ _ e, and_r (plain G.decls) _ e)) (λ v w e h y. refuse_later (own_accepts G a (suc c) (v ++ w) h) y))
  stops {f = f} {b = b} {rest = rest} (refuse_sub (refuse_later {d = hd} ah (refuse_later (accept_token {t = t} gt) (refuse_later (accept_then {d = x} a (accept_then {d = z} a2 (accept_then (accept_token {t = te} ge) (accept_token {t = ti} gi)))) (refuse_token h))))) top m d s kk k c fs p fl g o l =
      let i = enter k c fs g ah in
      let mm = raise d m in
      let fs' : List (ℕ × Mode) = (k, mm) ∷ fs in
      let no : false ≡ true → Body 0 ≡ Free = λ e. absurd (true≢false (sym e)) in
      let r = runs_then i.runs (runs_one (state k c fs (heading mm 0 (tokens hd))) t 57 Semicolon gt is_semi refl refl) in
      let og = accepts_derives W a in
      let og2 = accepts_derives W a2 in
      let i1 = flows G og false (Body 0) 0 false (λ d' s'. flow false G.body d' s' (λ d s. d == 0)) c (suc c) fs' (amid (Body 0)) G.insides fits_amid no in
      let c1 = streams_after (suc c) x in
      let i2 = flows G og2 false (Body 0) i1.d' i1.s' (λ d s. d == 0) c c1 fs' i1.p' i1.test i1.fits no in
      let c2 = streams_after c1 z in
      let ae = seen_closer c c2 fs' te (subst (λ n. Fits (Body 0) n i2.s' i2.p') (eqb-true i2.d' 0 i2.test) i2.fits) in
      let re = runs_one (state c c2 fs' i2.p') te 21 Closer ge is_closer ae.0 ae.1 in
      let ri = runs_one (state c c2 fs' two_left) ti 1 Word gi is_word refl refl in
      let q = runs_then i1.runs (runs_then i2.runs (runs_then re ri)) in
      let whole : Acc b (block G) (both x (both z (both (leaf te) (leaf ti)))) rest = accept_then a (accept_then a2 (accept_then (accept_token ge) (accept_token gi))) in
      let ts : List Token = tokens (both x (both z (both (leaf te) (leaf ti)))) in
      let x' : Tree Token = own (suc c) (both x (both z (both (leaf te) (leaf ti)))) in
      within k c fs (tokens hd) t (tokens (both x (both z (both (leaf te) (leaf ti)))) ++ []) c c2 fs' one_left (tokens x' ++ []) l r
      (ap (after (state c (suc c) fs' (amid (Body 0)))) (append-nil ts) ∙ q.state_is)
      (ap (λ n. pick c (events (state c (suc c) fs' (amid (Body 0))) n)) (append-nil ts) ∙ ap (pick c) q.events_are ∙ own_pick G (accepts_derives W whole) c (suc c) (omega arith) ∙ sym (append-nil (tokens x')))
      tt
      (inl (refl, λ w e. refuse_later (accepts_rest W ah (t ∷ ((tokens x' ++ []) ++ w)) refl) (refuse_later (accept_token {t = t} gt) (refuse_later (own_accepts G whole (suc c) w e) (refuse_then (refuses_rest W (refuse_token h) w e))))))
