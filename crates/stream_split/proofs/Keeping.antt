-- Where the first token that lies too deep in a text is none of its first tokens, the same holds of its streams.
use Rattle.std.proofs.Common.{◌≡◌, ℕ, zero, suc, Bool, true, false, List, [], ◌∷◌, ◌++◌, refl, sym, ap, ◌∙◌, subst, ◌&&◌, ◌||◌, not, true≢false, append_assoc, inl, inr, ⊎_elim, ◌==◌, eqb-true, length, ◌<◌, ◌≤◌, ◌+◌, arith, All, Option, Some, None}
use Rattle.std.proofs.lemmas.List.{append-nil}
use Rattle.std.proofs.lemmas.List.Elements.{All-head, All-tail}
use Rattle.m2_base.specs.declared.token.Token.{Token}
use Rattle.m2_base.specs.KindNumbers.{kind_number}
use Rattle.ll_grammar.specs.Grammar.{Rule, then, many, deep, sub, Grammar}
use Rattle.ll_grammar.specs.Derivations.{Tree, leaf, both, more, inner, part, tokens, Derives, of_empty, of_token, of_then, of_left, of_right, of_last, of_more, of_deep, of_sub, over, first_of}
use Rattle.ll_grammar.specs.LookAhead.{member}
use Rattle.stream_split.specs.declared.sorts.Sort.TheVariants.{Word, Procedure, Semicolon}
use Rattle.stream_split.specs.declared.cutter.Mode.{Mode}
use Rattle.stream_split.specs.declared.cutter.Mode.TheVariants.{Free, Body}
use Rattle.ll_grammar.specs.Sentences.{Kept}
use Rattle.ll_grammar.proofs.KindSets.{and_l, and_r}
use Rattle.ll_grammar.proofs.Nesting.{first_some}
use Rattle.ll_grammar.proofs.OneFault.{none_some, some_is}
use Rattle.ll_grammar.proofs.Soundness.{none_both}
use Rattle.ll_grammar.proofs.Viable.{kept_nil, kept_front, kept_back}
use Rattle.stream_split.specs.Cut.{Phase, amid, seen, heading, state, after, events, Event, to, cut_at, end_at, pick}
use Rattle.stream_split.proofs.Runs.{events_append}
use Rattle.stream_split.proofs.Picks.{to_append, pick_append, pick_own, pick_other}
use Rattle.stream_split.proofs.Parts.{streams_after, own, parts, sends}
use Rattle.stream_split.proofs.Flow.{Cuttable, head, grammar_of, flow, head_flow, plain, raise, Fits, fits_amid, Tops, Runs, runs_then, runs_one, flows, heads_of, seen_procedure, fits_more, fits_wider, fits_low, again_stay, is_word, is_procedure, is_semi, no_more, plain_sends}
use Rattle.stream_split.proofs.Told.{counted, own_pick, high_pick}
use Rattle.stream_split.proofs.Depths.{shallow}

pub kept_same : (n : ℕ) (d e : Tree Token) (u : List Token) → over n d ≡ over n e → Kept n d u → Kept n e u
kept_same n d e u h (inl k) = inl (sym h ∙ k)
kept_same n d e u h (inr k) = inr (k.0, sym h ∙ k.1)

pub kept_less : (b : ℕ) (x : Tree Token) (u v : List Token) → Kept b x (u ++ v) → Kept b x u
kept_less b x u v (inl h) = inl h
kept_less b x u v (inr h) = inr (v ++ h.0, h.1 ∙ ap Some (append_assoc u v h.0))

-- of each stream from number c on what was sent is kept
abbrev pub AllKept : ℕ → ℕ → List (Tree Token) → List Event → Type 0
AllKept n c [] es = Unit {0}
AllKept n c (x ∷ xs) es = Kept n x (pick c es) × AllKept n (suc c) xs es

pub all_kept : (n c : ℕ) (xs : List (Tree Token)) (es fs : List Event) → ((j : ℕ) → c ≤ j → pick j es ≡ pick j fs) → AllKept n c xs es → AllKept n c xs fs
all_kept n c [] es fs h a = tt
all_kept n c (x ∷ xs) es fs h a = (subst (Kept n x) (h c (omega arith)) a.0, all_kept n (suc c) xs es fs (λ j l. h j (omega (arith, l))) a.1)

all_kept_none : (n c : ℕ) (xs : List (Tree Token)) (es : List Event) → All (λ z. over n z ≡ None) xs → AllKept n c xs es
all_kept_none n c [] es a = tt
all_kept_none n c (x ∷ xs) es a = (inl (All-head (λ z. over n z ≡ None) x xs a), all_kept_none n (suc c) xs es (All-tail (λ z. over n z ≡ None) x xs a))

all_kept_append : (n c c' : ℕ) (xs ys : List (Tree Token)) (es : List Event) → c' ≡ c + length xs → AllKept n c xs es → AllKept n c' ys es → AllKept n c (xs ++ ys) es
all_kept_append n c c' [] ys es e a b = subst (λ z. AllKept n z ys es) (e ∙ omega arith) b
all_kept_append n c c' (x ∷ xs) ys es e a b = (a.0, all_kept_append n (suc c) c' xs ys es (e ∙ omega arith) a.1 b)

all_kept_nil : (n c : ℕ) (xs : List (Tree Token)) (es : List Event) → ((j : ℕ) → c ≤ j → pick j es ≡ []) → AllKept n c xs es
all_kept_nil n c [] es h = tt
all_kept_nil n c (x ∷ xs) es h = (subst (Kept n x) (sym (h c (omega arith))) (kept_nil n x), all_kept_nil n (suc c) xs es (λ j l. h j (omega (arith, l))))

pub nil_front : (xs ys : List Token) → [] ≡ xs ++ ys → xs ≡ []
nil_front [] ys h = refl
nil_front (x ∷ xs) ys h = cc

module _ (G : Cuttable) where
  -- nothing lies deep in a heading
  pub head_shallow : {r : Rule} {x : Tree Token} → Derives (grammar_of G) r x → (p : ℕ) (kk : ℕ → Bool) → head_flow r p kk ≡ true → (n : ℕ) → over n x ≡ None
  head_shallow of_empty p kk h n = refl
  head_shallow (of_token g) p kk h n = refl
  head_shallow (of_then {s = s} {d = x} {e = y} g g') p kk h n =
      let i = heads_of G g p (λ p'. head_flow s p' kk) h 0 0 [] (Body 0) [] in
      none_both (tokens x) (over n x) (over n y) (head_shallow g p (λ p'. head_flow s p' kk) h n) (head_shallow g' i.p' kk i.test n)
  head_shallow (of_left g) p kk h n = head_shallow g p kk (and_l _ _ h) n
  head_shallow (of_right {r = r} g) p kk h n = head_shallow g p kk (and_r (head_flow r p kk) _ h) n
  head_shallow of_last p kk h n = refl
  head_shallow (of_more {d = x} {ds = y} g g') p kk h n = none_both (tokens x) (over n x) (over n y) (head_shallow g p (λ p'. p' == p) (and_l _ _ h) n) (head_shallow g' p kk h n)
  head_shallow (of_deep g) p kk h n = absurd (true≢false (sym h))
  head_shallow (of_sub g) p kk h n = absurd (true≢false (sym h))

module _ (G : Cuttable) where
  abbrev W : Grammar Token
  W = grammar_of G

  -- a stands before the first token that lies too deep
  pub record Keeps (n : ℕ) (r : Rule) (x : Tree Token) (a : List Token) (k c : ℕ) (fs : List (ℕ × Mode)) (p : Phase) : Type 0 where
    pub z : List Token
    pub is : tokens x ≡ a ++ z
    pub mine : Kept n (own c x) (pick k (events (state k c fs p) a))
    pub theirs : AllKept n c (parts c x) (events (state k c fs p) a)
    pub simple : plain r ≡ true → events (state k c fs p) a ≡ to k a

  -- the two ways of a sequence
  in_first : {n : ℕ} {q r : Rule} {x y : Tree Token} {a : List Token} {k c : ℕ} {fs : List (ℕ × Mode)} {p p1 : Phase} → Derives W q x → Derives W r y → k < c → Runs (state k c fs p) (tokens x) (state k (streams_after c x) fs p1) (sends k c x) → Keeps n q x a k c fs p → Keeps n (then q r) (both x y) a k c fs p
  in_first {n} {q} {r} {x} {y} {a} {k} {c} {fs} {p} g g' l run i =
      let s = state k c fs p in
      let cut : sends k c x ≡ events s a ++ events (after s a) i.z = sym run.events_are ∙ ap (events s) i.is ∙ events_append s a i.z in
      let mine_is : tokens (own c x) ≡ pick k (events s a) ++ pick k (events (after s a) i.z) = sym (own_pick G g k c l) ∙ ap (pick k) cut ∙ pick_append k (events s a) _ in
      record {
        z = i.z ++ tokens y;
        is = ap (λ w. w ++ tokens y) i.is ∙ append_assoc a i.z (tokens y);
        mine = kept_front n (own c x) (own (streams_after c x) y) _ _ mine_is i.mine;
        theirs = all_kept_append n c (streams_after c x) (parts c x) (parts (streams_after c x) y) _ (counted G g c) i.theirs
            (all_kept_nil n (streams_after c x) (parts (streams_after c x) y) (events s a) (λ j h. nil_front _ _ (sym (high_pick G g j k c l h) ∙ ap (pick j) cut ∙ pick_append j (events s a) _)));
        simple = λ e. i.simple (and_l _ _ e);
      }

  in_second : {n : ℕ} {q r : Rule} {x y : Tree Token} {a : List Token} {k c : ℕ} {fs : List (ℕ × Mode)} {p p1 : Phase} → Derives W q x → Derives W r y → k < c → Runs (state k c fs p) (tokens x) (state k (streams_after c x) fs p1) (sends k c x) → over n x ≡ None → Keeps n r y a k (streams_after c x) fs p1 → Keeps n (then q r) (both x y) (tokens x ++ a) k c fs p
  in_second {n} {q} {r} {x} {y} {a} {k} {c} {fs} {p} {p1} g g' l run none i =
      let s = state k c fs p in
      let c1 = streams_after c x in
      let es = events (state k c1 fs p1) a in
      let cut : events s (tokens x ++ a) ≡ sends k c x ++ es = events_append s (tokens x) a ∙ ap (λ w. w ++ events (after s (tokens x)) a) run.events_are ∙ ap (λ w. sends k c x ++ events w a) run.state_is in
      let sh = shallow G g n c none in
      let mine_is : pick k (events s (tokens x ++ a)) ≡ tokens (own c x) ++ pick k es = ap (pick k) cut ∙ pick_append k (sends k c x) es ∙ ap (λ w. w ++ pick k es) (own_pick G g k c l) in
      record {
        z = i.z;
        is = ap (λ w. tokens x ++ w) i.is ∙ sym (append_assoc (tokens x) a i.z);
        mine = subst (Kept n (both (own c x) (own c1 y))) (sym mine_is) (kept_back n (own c x) (own c1 y) _ sh.mine i.mine);
        theirs = all_kept_append n c c1 (parts c x) (parts c1 y) _ (counted G g c) (all_kept_none n c (parts c x) _ sh.theirs)
            (all_kept n c1 (parts c1 y) es (events s (tokens x ++ a)) (λ j h. sym (ap (pick j) cut ∙ pick_append j (sends k c x) es ∙ ap (λ w. w ++ pick j es) (high_pick G g j k c l h))) i.theirs);
        simple = λ e. let o = plain_sends G g (and_l _ _ e) k c in cut ∙ ap (λ w. w ++ es) o.0 ∙ ap (λ w. to k (tokens x) ++ w) (i.simple (and_r (plain q) _ e)) ∙ sym (to_append k (tokens x) a);
      }

  as_more : {n : ℕ} {r : Rule} {x y : Tree Token} {a : List Token} {k c : ℕ} {fs : List (ℕ × Mode)} {p : Phase} → Keeps n (then r (many r)) (both x y) a k c fs p → Keeps n (many r) (more x y) a k c fs p
  as_more {r = r} i = record { z = i.z; is = i.is; mine = i.mine; theirs = i.theirs; simple = λ e. i.simple (ap (λ b. b && plain r) e ∙ e) }

  opening : {hd : Tree Token} {m : Mode} {d : ℕ} {s : Bool} {p : Phase} (k c : ℕ) (fs : List (ℕ × Mode)) (t : Token) → Fits m d s p → Derives W (head G) hd → member (kind_number t.kind) (57 ∷ []) ≡ true → Runs (state k c fs p) (tokens hd ++ (t ∷ [])) (state c (suc c) ((k, raise d m) ∷ fs) (amid (Body 0))) (to k (tokens hd) ++ ((k, t) ∷ (k, cut_at c t) ∷ to c (tokens hd ++ (t ∷ []))))
  opening {m = m} {d = d} {p = p} k c fs t g (of_then (of_token {t = t0} g0) (of_then {e = hm} (of_token {t = t1} g1) a)) gt =
      let a0 = seen_procedure k c fs t0 g in
      let r0 = runs_one (state k c fs p) t0 37 Procedure g0 is_procedure a0.0 a0.1 in
      let r1 = runs_one (state k c fs (seen (raise d m) t0)) t1 1 Word g1 is_word refl refl in
      let i = heads_of G a 0 (λ p. p == 0) G.heads k c fs (raise d m) (t0 ∷ t1 ∷ []) in
      let rm : Runs (state k c fs (heading (raise d m) 0 (t0 ∷ t1 ∷ []))) (tokens hm) (state k c fs (heading (raise d m) 0 (t0 ∷ t1 ∷ tokens hm))) (to k (tokens hm)) =
      record { state_is = i.state_is ∙ ap (λ z. state k c fs (heading (raise d m) z (t0 ∷ t1 ∷ tokens hm))) (eqb-true i.p' 0 i.test); events_are = i.events_are } in
      runs_then (runs_then r0 (runs_then r1 rm)) (runs_one (state k c fs (heading (raise d m) 0 (t0 ∷ t1 ∷ tokens hm))) t 57 Semicolon gt is_semi refl refl)

  whole_head_shallow : {hd : Tree Token} → Derives W (head G) hd → (n : ℕ) → over n hd ≡ None
  whole_head_shallow (of_then (of_token {t = t0} g0) (of_then {e = hm} (of_token {t = t1} g1) a)) n = none_both (t0 ∷ []) None _ refl (none_both (t1 ∷ []) None _ refl (head_shallow G a 0 (λ p. p == 0) G.heads n))

  apart : (j k : ℕ) → k < j → (j == k) ≡ false
  apart j k h = grind arith

  over_right : (u : List Token) (o : Option (List Token)) → first_of u o None ≡ o
  over_right u None = refl
  over_right u (Some v) = refl

  rejoin : (xs ys : List Token) (e i l : Token) → (xs ++ (ys ++ (e ∷ i ∷ []))) ++ (l ∷ []) ≡ (xs ++ ys) ++ (e ∷ i ∷ l ∷ [])
  rejoin xs ys e i l = append_assoc xs (ys ++ (e ∷ i ∷ [])) (l ∷ []) ∙ ap (λ z. xs ++ z) (append_assoc ys (e ∷ i ∷ []) (l ∷ [])) ∙ sym (append_assoc xs ys (e ∷ i ∷ l ∷ []))

  -- a lies in the procedure's block
  in_part : {n : ℕ} {hd x y : Tree Token} {m : Mode} {d : ℕ} {s : Bool} {p : Phase} {a : List Token} (k c : ℕ) (fs : List (ℕ × Mode)) (t e i l : Token) → k < c → Fits m d s p → Derives W (head G) hd → member (kind_number t.kind) (57 ∷ []) ≡ true → Keeps n (then G.decls G.body) (both x y) a c (suc c) ((k, raise d m) ∷ fs) (amid (Body 0)) →
      Keeps n sub (part (both hd (both (leaf t) (both (both x (both y (both (leaf e) (leaf i)))) (leaf l))))) (tokens hd ++ (t ∷ a)) k c fs p
  in_part {n} {hd} {x} {y} {m} {d} {s} {p} {a} k c fs t e i l lt g gh gt j =
      let s0 = state k c fs p in
      let s1 = state c (suc c) ((k, raise d m) ∷ fs) (amid (Body 0)) in
      let r = opening k c fs t g gh gt in
      let es : List Event = to k (tokens hd) ++ ((k, t) ∷ (k, cut_at c t) ∷ to c (tokens hd ++ (t ∷ []))) in
      let fs' = events s1 a in
      let split : tokens hd ++ (t ∷ a) ≡ (tokens hd ++ (t ∷ [])) ++ a = sym (append_assoc (tokens hd) (t ∷ []) a) in
      let all : events s0 (tokens hd ++ (t ∷ a)) ≡ es ++ fs' = ap (events s0) split ∙ events_append s0 (tokens hd ++ (t ∷ [])) a ∙ ap (λ w. w ++ events (after s0 (tokens hd ++ (t ∷ []))) a) r.events_are ∙ ap (λ w. es ++ events w a) r.state_is in
      let c1 = streams_after (suc c) x in
      let block : Tree Token = both (own (suc c) x) (both (own c1 y) (both (leaf e) (leaf i))) in
      let yt : Tree Token = both block (both (leaf l) (leaf (end_at l))) in
      let none = whole_head_shallow gh n in
      let own_es : pick c es ≡ tokens hd ++ (t ∷ []) = pick_append c (to k (tokens hd)) _ ∙ ap (λ z. z ++ pick c ((k, t) ∷ (k, cut_at c t) ∷ to c (tokens hd ++ (t ∷ [])))) (pick_other c k (tokens hd) (apart c k lt)) ∙ pick_append c ((k, t) ∷ (k, cut_at c t) ∷ []) (to c (tokens hd ++ (t ∷ []))) ∙ ap (λ z. z ++ pick c (to c (tokens hd ++ (t ∷ [])))) (pick_other c k (t ∷ cut_at c t ∷ []) (apart c k lt)) ∙ pick_own c (tokens hd ++ (t ∷ [])) in
      let mine_c : pick c (events s0 (tokens hd ++ (t ∷ a))) ≡ tokens hd ++ (t ∷ pick c fs') = ap (pick c) all ∙ pick_append c es fs' ∙ ap (λ w. w ++ pick c fs') own_es ∙ append_assoc (tokens hd) (t ∷ []) (pick c fs') in
      let same : over n yt ≡ over n (both (own (suc c) x) (own c1 y)) = over_right (tokens block) (over n block) ∙ ap (first_of (tokens (own (suc c) x)) (over n (own (suc c) x))) (over_right (tokens (own c1 y)) (over n (own c1 y))) in
      record {
        z = j.z ++ (e ∷ i ∷ l ∷ []);
        is = ap (λ w. tokens hd ++ (t ∷ w)) (rejoin (tokens x) (tokens y) e i l ∙ ap (λ w. w ++ (e ∷ i ∷ l ∷ [])) j.is ∙ append_assoc a j.z (e ∷ i ∷ l ∷ [])) ∙ sym (append_assoc (tokens hd) (t ∷ a) _);
        mine = inl (none_both (tokens hd) (over n hd) _ none refl);
        theirs = (
          subst (Kept n (both hd (both (leaf t) yt))) (sym mine_c) (kept_back n hd (both (leaf t) yt) (t ∷ pick c fs') none (kept_back n (leaf t) yt (pick c fs') refl (kept_same n (both (own (suc c) x) (own c1 y)) yt (pick c fs') (sym same) j.mine))),
          subst (λ q. AllKept n (suc c) (parts (suc c) x ++ q) (events s0 (tokens hd ++ (t ∷ a)))) (sym (append-nil (parts c1 y))) (all_kept n (suc c) (parts (suc c) (both x y)) fs' (events s0 (tokens hd ++ (t ∷ a))) (λ q h. sym (ap (pick q) all ∙ pick_append q es fs' ∙ ap (λ w. w ++ pick q fs') (none_of_later h))) j.theirs),
        );
        simple = λ e. absurd (true≢false (sym e));
      }
    where
      none_of_later : {j : ℕ} → suc c ≤ j → pick j (to k (tokens hd) ++ ((k, t) ∷ (k, cut_at c t) ∷ to c (tokens hd ++ (t ∷ [])))) ≡ []
      none_of_later {j} h =
          let n1 : k < j = omega (arith, h, lt) in let n2 : c < j = omega (arith, h) in
          pick_append j (to k (tokens hd)) _ ∙ ap (λ z. z ++ pick j ((k, t) ∷ (k, cut_at c t) ∷ to c (tokens hd ++ (t ∷ [])))) (pick_other j k (tokens hd) (apart j k n1)) ∙ pick_append j ((k, t) ∷ (k, cut_at c t) ∷ []) (to c (tokens hd ++ (t ∷ []))) ∙ ap (λ z. z ++ pick j (to c (tokens hd ++ (t ∷ [])))) (pick_other j k (t ∷ cut_at c t ∷ []) (apart j k n1)) ∙ pick_other j c (tokens hd ++ (t ∷ [])) (apart j c n2)

  pub keeps : {r : Rule} {x : Tree Token} → Derives W r x → (n : ℕ) (a : List Token) → over n x ≡ Some a → (top : Bool) (m : Mode) (d : ℕ) (s : Bool) (kk : ℕ → Bool → Bool) (k c : ℕ) (fs : List (ℕ × Mode)) (p : Phase) → flow top r d s kk ≡ true → Fits m d s p → Tops top m → k < c → Keeps n r x a k c fs p
  keeps of_empty n a h top m d s kk k c fs p fl g o l = absurd (none_some a (sym h))
  keeps (of_token j) n a h top m d s kk k c fs p fl g o l = absurd (none_some a (sym h))
  keeps (of_then {r = q} {s = r} {d = x} {e = y} j j') n a h top m d s kk k c fs p fl g o l =
      let i = flows G j top m d s (λ d' s'. flow top r d' s' kk) k c fs p fl g o in
      ⊎_elim
      (λ e. in_first j j' l i.runs (keeps j n a e top m d s (λ d' s'. flow top r d' s' kk) k c fs p fl g o l))
      (λ e. subst (λ z. Keeps n (then q r) (both x y) z k c fs p) (sym e.1.2) (in_second j j' l i.runs e.0 (keeps j' n e.1.0 e.1.1 top m i.d' i.s' kk k (streams_after c x) fs i.p' i.test i.fits o (up (parts c x) (counted G j c) l))))
      (first_some (tokens x) (over n x) (over n y) a h)
    where
      up : {c' : ℕ} (ps : List (Tree Token)) → c' ≡ c + length ps → k < c → k < c'
      up ps e l = omega arith
  keeps (of_left j) n a h top m d s kk k c fs p fl g o l = let i = keeps j n a h top m d s kk k c fs p (and_l _ _ fl) g o l in record { z = i.z; is = i.is; mine = i.mine; theirs = i.theirs; simple = λ e. i.simple (and_l _ _ e) }
  keeps (of_right {r = q} j) n a h top m d s kk k c fs p fl g o l = let i = keeps j n a h top m d s kk k c fs p (and_r (flow top q d s kk) _ fl) g o l in record { z = i.z; is = i.is; mine = i.mine; theirs = i.theirs; simple = λ e. i.simple (and_r (plain q) _ e) }
  keeps of_last n a h top m d s kk k c fs p fl g o l = absurd (none_some a (sym h))
  keeps (of_more {r = r} {d = x} {ds = y} j j') n a h top m d s kk k c fs p fl g o l =
      let stay : Bool → Bool = λ z. flow top r d z (λ d' s'. (d' == d) && no_more z s') in
      let z = s || not (stay s) in
      let i = flows G j top m d z (λ d' s'. (d' == d) && no_more z s') k c fs p (and_l _ _ fl) (fits_wider s (stay s) g) o in
      let f' = fits_more z i.s' (and_r (i.d' == d) _ i.test) (subst (λ y. Fits m y i.s' i.p') (eqb-true i.d' d (and_l _ _ i.test)) i.fits) in
      as_more (⊎_elim
      (λ e. in_first j j' l i.runs (keeps j n a e top m d z (λ d' s'. (d' == d) && no_more z s') k c fs p (and_l _ _ fl) (fits_wider s (stay s) g) o l))
      (λ e. subst (λ z. Keeps n (then r (many r)) (both x y) z k c fs p) (sym e.1.2) (in_second j j' l i.runs e.0 (keeps j' n e.1.0 e.1.1 top m d z kk k (streams_after c x) fs i.p' (again_stay stay (λ y. kk d y) z (and_l _ _ fl) (and_r (stay z) _ fl)) f' o (up (parts c x) (counted G j c) l))))
      (first_some (tokens x) (over n x) (over n y) a h))
    where
      up : {c' : ℕ} (ps : List (Tree Token)) → c' ≡ c + length ps → k < c → k < c'
      up ps e l = omega arith
  keeps (of_deep {n = zero} j) n a h top m d s kk k c fs p fl g o l = absurd (true≢false (sym fl))
  keeps (of_deep {n = suc q} {d = x} j) zero a h top m d s kk k c fs p fl g o l =
      let e : a ≡ [] = sym (some_is [] a h) in
      subst (λ z. Keeps zero (deep (suc q)) (inner x) z k c fs p) (sym e) (record { z = tokens x; is = refl; mine = kept_nil zero (inner x); theirs = tt; simple = λ e. refl })
  keeps (of_deep {n = suc q} {d = x} j) (suc n) a h top m d s kk k c fs p fl g o l =
      let i = keeps j n a h false (raise d m) 0 false (λ d s. d == 0) k c fs p (G.levels q) (fits_low s (and_l (not s) _ fl) g) (λ e. absurd (true≢false (sym e))) l in
      let all = i.simple (G.plains q) in
      record { z = i.z; is = i.is; mine = inr ([], h ∙ ap Some (sym (append-nil _ ∙ ap (pick k) all ∙ pick_own k a))); theirs = tt; simple = λ e. all }
  keeps (of_sub (of_then {d = hd} gh (of_then (of_token {t = t} gt) (of_then (of_then {d = x} gx (of_then {d = y} gy (of_then (of_token {t = e} ge) (of_token {t = i} gi)))) (of_token {t = l'} gl))))) n a h top m d s kk k c fs p fl g o l =
      let none = whole_head_shallow gh n in
      let fs' : List (ℕ × Mode) = (k, raise d m) ∷ fs in
      let no : false ≡ true → Body 0 ≡ Free = λ e. absurd (true≢false (sym e)) in
      let r = flows G gx false (Body 0) 0 false (λ d' s'. flow false G.body d' s' (λ d s. d == 0)) c (suc c) fs' (amid (Body 0)) G.insides fits_amid no in
      let c1 = streams_after (suc c) x in
      let first : (a2 : List Token) → over n x ≡ Some a2 → Keeps n (then G.decls G.body) (both x y) a2 c (suc c) fs' (amid (Body 0)) =
      λ a2 e. in_first gx gy (omega arith) r.runs (keeps gx n a2 e false (Body 0) 0 false (λ d' s'. flow false G.body d' s' (λ d s. d == 0)) c (suc c) fs' (amid (Body 0)) G.insides fits_amid no (omega arith)) in
      let second : (a2 : List Token) → over n x ≡ None → over n y ≡ Some a2 → Keeps n (then G.decls G.body) (both x y) (tokens x ++ a2) c (suc c) fs' (amid (Body 0)) =
      λ a2 ex e. in_second gx gy (omega arith) r.runs ex (keeps gy n a2 e false (Body 0) r.d' r.s' (λ d s. d == 0) c c1 fs' r.p' r.test r.fits no (up (parts (suc c) x) (counted G gx (suc c)))) in
      let cont : (a2 : List Token) → over n (both x (both y (both (leaf e) (leaf i)))) ≡ Some a2 → Keeps n (then G.decls G.body) (both x y) a2 c (suc c) fs' (amid (Body 0)) =
      λ a2 e2. ⊎_elim (λ ex. first a2 ex)
      (λ ey. subst (λ z. Keeps n (then G.decls G.body) (both x y) z c (suc c) fs' (amid (Body 0))) (sym ey.1.2) (second ey.1.0 ey.0 (sym (over_right (tokens y) (over n y)) ∙ ey.1.1)))
      (first_some (tokens x) (over n x) _ a2 e2) in
      ⊎_elim
      (λ e'. absurd (none_some a (sym e' ∙ none)))
      (λ e1. ⊎_elim
      (λ e'. absurd (none_some e1.1.0 (sym e')))
      (λ e2. ⊎_elim
      (λ e3. subst (λ z. Keeps n sub (part (both hd (both (leaf t) (both (both x (both y (both (leaf e) (leaf i)))) (leaf l'))))) z k c fs p) (sym (e1.1.2 ∙ ap (λ w. tokens hd ++ w) e2.1.2)) (in_part k c fs t e i l' l g gh gt (cont e2.1.0 e3)))
      (λ e3. absurd (none_some e3.1.0 (sym e3.1.1)))
      (first_some (tokens (both x (both y (both (leaf e) (leaf i))))) (over n (both x (both y (both (leaf e) (leaf i))))) None e2.1.0 e2.1.1))
      (first_some (t ∷ []) None _ e1.1.0 e1.1.1))
      (first_some (tokens hd) (over n hd) _ a h)
    where
      up : {c' : ℕ} (ps : List (Tree Token)) → c' ≡ suc c + length ps → c < c'
      up ps e = omega (arith, e)
