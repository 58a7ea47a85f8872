-- The first fault of a text is the first of its streams' faults.
use Rattle.std.proofs.Common.{◌≡◌, ℕ, zero, suc, Bool, true, false, List, [], ◌∷◌, ◌++◌, refl, sym, ap, ◌∙◌, subst, true≢false, append_assoc, ◌⊎◌, inl, inr, ⊎_elim, ◌==◌, eqb-true, cond, length, ◌<◌, ◌≤◌, ◌+◌, arith, All, None}
use Rattle.std.proofs.lemmas.List.{append-nil}
use Rattle.std.proofs.lemmas.List.Elements.{All-head, All-tail, All-nil}
use Rattle.m2_base.specs.declared.kind.TokenKind.{TokenKind}
use Rattle.m2_base.specs.declared.kind.TokenKind.TheVariants as kinds
use Rattle.m2_base.specs.declared.token.Token.{Token}
use Rattle.m2_base.specs.KindNumbers.{kind_number}
use Rattle.ll_grammar.specs.Grammar.{Rule, then, Grammar, one}
use Rattle.ll_grammar.specs.Derivations.{Tree, leaf, both, tokens, Derives, of_token, of_then, over}
use Rattle.ll_grammar.specs.LookAhead.{member}
use Rattle.stream_split.specs.declared.sorts.Sort.{Sort}
use Rattle.stream_split.specs.declared.sorts.Sort.TheVariants.{Stop, Word, Procedure, Opener, Closer, Left, Right, Semicolon, Other}
use Rattle.stream_split.specs.declared.cutter.Mode.{Mode}
use Rattle.stream_split.specs.declared.cutter.Mode.TheVariants.{Free}
use Rattle.ll_grammar.specs.LookAhead.{firsts, complete, IsLL1, IsRoot}
use Rattle.ll_grammar.specs.Reading.{Accepts, accept_token, accept_then, Refuses, refuse_token, refuse_then, refuse_later, Answer, accepted, refused}
use Rattle.ll_grammar.specs.Sentences.{Fault, Syntax, TooDeep, SameHead, Begins, Kept, Beginning, Faulty}
use Rattle.ll_grammar.proofs.Rests.{refuses_rest}
use Rattle.ll_grammar.proofs.Soundness.{accepts_derives}
use Rattle.ll_grammar.proofs.Checks.{root_complete}
use Rattle.ll_grammar.proofs.Decided.{is_total, whole_sentence}
use Rattle.ll_grammar.proofs.Nesting.{first_some, deep_token}
use Rattle.ll_grammar.proofs.OneFault.{none_some, not_before, one_fault, no_fault, fault_of}
use Rattle.ll_grammar.proofs.Productive.{some_tree}
use Rattle.ll_grammar.proofs.Viable.{reaches, kept_nil, kept_front, kept_back}
use Rattle.stream_split.specs.Cut.{sort, Phase, amid, seen, heading, two_left, one_left, ended, State, state, start, next, next_by, goes, goes_by, after, events, Event, to, pick, heading_goes, heading_next}
use Rattle.stream_split.proofs.Runs.{after_append, events_append}
use Rattle.stream_split.proofs.Picks.{same_number, pick_append, pick_own, pick_other}
use Rattle.stream_split.proofs.Parts.{stream_rule, streams_after, own, parts, sends, spread}
use Rattle.stream_split.proofs.Flow.{Cuttable, head, block, grammar_of, procedure_rule, flow, Fits, fits_amid, fits_seen, Runs, runs_then, runs_one, flows, is_stop}
use Rattle.stream_split.proofs.Told.{told, counted, own_of, parts_of, own_pick, pick_low}
use Rattle.stream_split.proofs.OwnRests.{own_accepts}
use Rattle.stream_split.proofs.Refusals.{Tip, stops, tip_fits}
use Rattle.stream_split.proofs.Depths.{shallow}
use Rattle.stream_split.proofs.Keeping.{keeps, kept_less, AllKept}
use Rattle.stream_split.proofs.Future.{Numbered, count, goes_new, well_next, InHeading, Well, well, well_after, count_next, phase, around, new, HeadingGets, heading_gets}

-- a main text, with what it has for this grammar
pub record MainText (G : Cuttable) : Type 0 where
  pub main_text : Rule
  pub mains : flow true main_text 0 false (λ d s. true) ≡ true
  pub ok : IsLL1 (grammar_of G)
  pub main_root : IsRoot (grammar_of G) (then main_text (one 0))
  pub stream_root : IsRoot (grammar_of G) (then (stream_rule (head G) main_text) (one 0))
  pub procedure_root : IsRoot (grammar_of G) (procedure_rule G)
  pub more_complete : complete (grammar_of G) G.more_head ≡ true
  pub rest_complete : complete (grammar_of G) (then (one 57) (then (stream_rule (head G) (block G)) (then (one 57) (one 7)))) ≡ true
  pub no_end : (n : ℕ) → member 0 (firsts (grammar_of G) n) ≡ false

-- a later token, or the same token for the same reason
abbrev pub NotBefore : Fault → List Token → Fault → List Token → Type 0
NotBefore f rest g [] = Unit {0}
NotBefore f [] g (y ∷ ys) = ⊥
NotBefore f (x ∷ xs) g (y ∷ ys) = (x.at < y.at) ⊎ ((y ≡ x) × (g ≡ f))

-- the last token is the end, and no other is
pub record Ended (ts : List Token) : Type 0 where
  pub before : List Token
  pub last_token : Token
  pub is : ts ≡ before ++ (last_token ∷ [])
  pub end : last_token.kind ≡ kinds.EndOfText
  pub inner : All (λ t. t.kind ≡ kinds.EndOfText → ⊥) before

-- the text is over after its End
stop_ends : (s : State) (t : Token) → phase (next_by s t Stop) ≡ ended
stop_ends (state k c fs (amid m)) t = refl
stop_ends (state k c fs (seen m u)) t = refl
stop_ends (state k c fs (heading m q hs)) t = refl
stop_ends (state k c fs two_left) t = refl
stop_ends (state k c fs one_left) t = refl
stop_ends (state k c fs ended) t = refl

count_after : (s : State) (ts : List Token) → count s ≤ count (after s ts)
count_after s [] = omega arith
count_after s (t ∷ ts) = let a = count_next s t in let b = count_after (next s t) ts in omega (arith, a, b)

apart : (j k : ℕ) → k < j → (j == k) ≡ false
apart j k h = grind arith

less_apart : (j c : ℕ) → c ≤ j → (j == c) ≡ false → suc c ≤ j
less_apart j c h e = grind arith

-- the tree of stream j among these
spread_at : (P : (Tree Token) → Type 0) (n c : ℕ) (xs : List (Tree Token)) (es : List Event) → All P xs → AllKept n c xs es → (j : ℕ) → c ≤ j → j < c + length xs → (x : Tree Token) × (P x) × (pick j (spread c xs) ≡ tokens x) × (Kept n x (pick j es))
spread_at P n c [] es a k j l h = let no : ⊥ = omega (arith, l, h) in absurd no
spread_at P n c (x ∷ xs) es a k j l h = on (j == c) refl (λ l' h'. spread_at P n (suc c) xs es (All-tail P x xs a) k.1 j l' h')
  where
    on : (b : Bool) → (j == c) ≡ b → (suc c ≤ j → j < suc c + length xs → (y : Tree Token) × (P y) × (pick j (spread (suc c) xs) ≡ tokens y) × (Kept n y (pick j es))) → (y : Tree Token) × (P y) × (pick j (spread c (x ∷ xs)) ≡ tokens y) × (Kept n y (pick j es))
    on true e r =
        let is : j ≡ c = eqb-true j c e in
        (x, All-head P x xs a, ap (λ z. pick z (spread c (x ∷ xs))) is ∙ pick_append c (to c (tokens x)) (spread (suc c) xs) ∙ ap (λ z. z ++ pick c (spread (suc c) xs)) (pick_own c (tokens x)) ∙ ap (λ z. tokens x ++ z) (pick_low c (suc c) xs (omega arith)) ∙ append-nil (tokens x), subst (λ z. Kept n x (pick z es)) (sym is) k.0)
    on false e r =
        let i = r (less_apart j c l e) (omega (arith, h)) in
        (i.0, i.1, pick_append j (to c (tokens x)) (spread (suc c) xs) ∙ ap (λ z. z ++ pick j (spread (suc c) xs)) (pick_other j c (tokens x) e) ∙ i.2, i.3)

all_kept_less : (n c : ℕ) (xs : List (Tree Token)) (es fs : List Event) → AllKept n c xs (es ++ fs) → AllKept n c xs es
all_kept_less n c [] es fs a = tt
all_kept_less n c (x ∷ xs) es fs a = (kept_less n x (pick c es) (pick c fs) (subst (Kept n x) (pick_append c es fs) a.0), all_kept_less n (suc c) xs es fs a.1)

all_kept_none : (n c : ℕ) (xs : List (Tree Token)) (es : List Event) → All (λ z. over n z ≡ None) xs → AllKept n c xs es
all_kept_none n c [] es a = tt
all_kept_none n c (x ∷ xs) es a = (inl (All-head (λ z. over n z ≡ None) x xs a), all_kept_none n (suc c) xs es (All-tail (λ z. over n z ≡ None) x xs a))

-- nothing was sent to a stream that has not begun
heading_quiet : (k c : ℕ) (fs : List (ℕ × Mode)) (m : Mode) (q : ℕ) (hs : List Token) (t : Token) (z : Sort) → (count (heading_next k c fs m q hs t z) ≡ suc c) ⊎ (heading_goes k c fs q hs t z ≡ (k, t) ∷ [])
heading_quiet k c fs m q hs t Stop = inl refl
heading_quiet k c fs m zero hs t Semicolon = inl refl
heading_quiet k c fs m (suc q) hs t Semicolon = inr refl
heading_quiet k c fs m q hs t Word = inr refl
heading_quiet k c fs m q hs t Procedure = inr refl
heading_quiet k c fs m q hs t Opener = inr refl
heading_quiet k c fs m q hs t Closer = inr refl
heading_quiet k c fs m q hs t Left = inr refl
heading_quiet k c fs m q hs t Right = inr refl
heading_quiet k c fs m q hs t Other = inr refl

quiet : (j : ℕ) (s : State) (t : Token) → Well s → count (next s t) ≤ j → pick j (goes s t) ≡ []
quiet j _ t (well {k = k} {c = c} {fs = fs} {p = amid m} l a h) n = goes_new j (state k c fs (amid m)) t (well l a h) n (λ x y. x)
quiet j _ t (well {k = k} {c = c} {fs = fs} {p = seen m u} l a h) n = goes_new j (state k c fs (seen m u)) t (well l a h) n (λ x y. x)
quiet j _ t (well {k = k} {c = c} {fs = fs} {p = heading m q hs} l a h) n = ⊎_elim
    (λ e. goes_new j (state k c fs (heading m q hs)) t (well l a h) (omega (arith, n, e)) (λ x y. omega (arith, n, e, y)))
    (λ e. let more : c ≤ count (heading_next k c fs m q hs t (sort t.kind)) = count_next (state k c fs (heading m q hs)) t in ap (pick j) e ∙ pick_other j k (t ∷ []) (apart j k (omega (arith, l, n, more))))
    (heading_quiet k c fs m q hs t (sort t.kind))
quiet j _ t (well {k = k} {c = c} {fs = fs} {p = two_left} l a h) n = goes_new j (state k c fs two_left) t (well l a h) n (λ x y. x)
quiet j _ t (well {k = k} {c = c} {fs = fs} {p = one_left} l a h) n = let more : c ≤ count (next (state k c fs one_left) t) = count_next (state k c fs one_left) t in goes_new j (state k c fs one_left) t (well l a h) (omega (arith, n, more)) (λ x y. x)
quiet j _ t (well {k = k} {c = c} {fs = fs} {p = ended} l a h) n = refl

past : (j : ℕ) (s : State) (ts : List Token) → Well s → count (after s ts) ≤ j → pick j (events s ts) ≡ []
past j s [] w n = refl
past j s (t ∷ ts) w n =
    let c = count_after (next s t) ts in
    pick_append j (goes s t) (events (next s t) ts) ∙ ap (λ z. z ++ pick j (events (next s t) ts)) (quiet j s t w (omega (arith, n, c))) ∙ past j (next s t) ts (well_next s t w) n

all_at : (P : Token → Type 0) (z : List Token) (y : Token) (ys : List Token) → All P (z ++ (y ∷ ys)) → P y
all_at P [] y ys a = All-head P y ys a
all_at P (x ∷ z) y ys a = all_at P z y ys (All-tail P x (z ++ (y ∷ ys)) a)

numbered_drop : (m : ℕ) (u rest : List Token) → Numbered m (u ++ rest) → Numbered (m + length u) rest
numbered_drop m [] rest h = subst (λ z. Numbered z rest) (omega arith) h
numbered_drop m (x ∷ u) rest h = subst (λ z. Numbered z rest) (plus m (length u)) (numbered_drop (suc m) u rest h.1)
  where
    plus : (m n : ℕ) → suc m + n ≡ m + suc n
    plus m n = omega arith

below_or : (j c : ℕ) → (j < c) ⊎ (c ≤ j)
below_or j zero = inr (omega arith)
below_or zero (suc c) = inl (omega arith)
below_or (suc j) (suc c) = ⊎_elim (λ h. inl (omega (arith, h))) (λ h. inr (omega (arith, h))) (below_or j c)

-- what kind has each sort
abbrev is_end : Sort → Bool
is_end Stop = true
is_end z = false

abbrev is_name : Sort → Bool
is_name Word = true
is_name z = false

abbrev is_proc : Sort → Bool
is_proc Procedure = true
is_proc z = false

stop_kind : (k : TokenKind) → sort k ≡ Stop → kind_number k ≡ 0
stop_kind kinds.EndOfText e = refl
stop_kind k e = absurd (true≢false (sym (ap is_end e)))

word_kind : (k : TokenKind) → sort k ≡ Word → member (kind_number k) (1 ∷ []) ≡ true
word_kind kinds.Identifier e = refl
word_kind k e = absurd (true≢false (sym (ap is_name e)))

procedure_kind : (k : TokenKind) → sort k ≡ Procedure → member (kind_number k) (37 ∷ []) ≡ true
procedure_kind kinds.Procedure e = refl
procedure_kind k e = absurd (true≢false (sym (ap is_proc e)))

begins_head' : (y : Token) (ys u : List Token) (t : Token) (z : List Token) → Begins u (y ∷ ys) (u ++ (t ∷ z)) → t ≡ y
begins_head' y ys [] t z h = h
begins_head' y ys (x ∷ u) t z h = begins_head' y ys u t z h.1

module _ (G : Cuttable) (M : MainText G) (m : ℕ) where
  abbrev W : Grammar Token
  W = grammar_of G

  abbrev PS : Rule
  PS = procedure_rule G

  abbrev main : Rule
  main = then M.main_text (one 0)

  -- the rule of stream j
  abbrev pub root : ℕ → Rule
  root j = cond (j == m) (then (stream_rule (head G) M.main_text) (one 0)) PS

  abbrev Ref : Fault → ℕ → Rule → List Token → List Token → Type 0
  Ref = Refuses W

  abbrev T : Fault → ℕ → List Token → Phase → Type 0
  T = Tip G

  abbrev pub stream : ℕ → List Token → List Token
  stream j ts = pick j (events (start m) ts)

  -- the unsplit list's fault is the first of the streams' faults
  pub record FirstOfStreams (n : ℕ) (f : Fault) (ts rest : List Token) : Type 0 where
    pub number : ℕ
    pub low : m ≤ number
    pub exists : number < count (after (start m) ts)
    pub rest' : List Token
    pub faulty : Faulty W n (root number) f (stream number ts) rest'
    pub here : SameHead rest rest'
    pub others : (j : ℕ) (g : Fault) (w : List Token) → m ≤ j → Faulty W n (root j) g (stream j ts) w → NotBefore f rest g w

  root_main : root m ≡ then (stream_rule (head G) M.main_text) (one 0)
  root_main = ap (λ b. cond b (then (stream_rule (head G) M.main_text) (one 0)) PS) (same_number m)

  root_of : (k : ℕ) → suc m ≤ k → root k ≡ PS
  root_of k h = ap (λ b. cond b (then (stream_rule (head G) M.main_text) (one 0)) PS) (apart k m h)

  root_root : (k : ℕ) → IsRoot W (root k)
  root_root k = on (k == m)
    where
      on : (b : Bool) → IsRoot W (cond b (then (stream_rule (head G) M.main_text) (one 0)) PS)
      on true = M.stream_root
      on false = M.procedure_root

  -- the cut at the refused token
  pub record Now (f : Fault) (n : ℕ) (u rest : List Token) : Type 0 where
    pub k' : ℕ
    pub c' : ℕ
    pub fs' : List (ℕ × Mode)
    pub p' : Phase
    pub v : List Token
    pub low : m ≤ k'
    pub state_is : after (start m) u ≡ state k' c' fs' p'
    pub picked : pick k' (events (start m) u) ≡ v
    pub tip : T f n rest p'
    pub refuses : (w : List Token) → SameHead rest w → Ref f n (root k') v w

  now : {f : Fault} {n : ℕ} {u rest : List Token} → Ref f n main u rest → Now f n u rest
  now {f} {n} {u} {rest} (refuse_then q) =
      let i = stops G q true Free 0 false (λ d s. true) m (suc m) [] (amid Free) M.mains fits_amid (λ e. refl) (omega arith) in
      record {
        k' = i.k';
        c' = i.c';
        fs' = i.fs';
        p' = i.p';
        v = i.v;
        state_is = i.state_is;
        picked = i.picked;
        tip = i.tip;
        low = ⊎_elim (λ h. same_low h.same) (λ h. above_low h.above) i.place;
        refuses = λ w e. ⊎_elim (λ h. subst (λ z. Ref f n (root z) i.v w) (sym h.same) (subst (λ r. Ref f n r i.v w) (sym root_main) (refuse_then (h.refuses w e)))) (λ h. subst (λ z. Ref f n z i.v w) (sym (root_of i.k' h.above)) (h.refuses w e)) i.place;
      }
    where
      same_low : {k : ℕ} → k ≡ m → m ≤ k
      same_low e = omega (arith, e)

      above_low : {k : ℕ} → suc m ≤ k → m ≤ k
      above_low e = omega (arith, e)
  now {f} {n} {rest = rest} (refuse_later {d = x} a (refuse_token h)) =
      let g = accepts_derives W a in
      let i = flows G g true Free 0 false (λ d s. true) m (suc m) [] (amid Free) M.mains fits_amid (λ e. refl) in
      let x' : Tree Token = own (suc m) x in
      record {
        k' = m;
        c' = streams_after (suc m) x;
        fs' = [];
        p' = i.p';
        v = tokens x' ++ [];
        low = omega arith;
        state_is = ap (after (start m)) (append-nil (tokens x)) ∙ i.runs.state_is;
        picked = ap (λ z. pick m (events (start m) z)) (append-nil (tokens x)) ∙ ap (pick m) i.runs.events_are ∙ own_pick G g m (suc m) (omega arith) ∙ sym (append-nil (tokens x'));
        tip = tip_fits G f n rest i.fits;
        refuses = λ w e. subst (λ r. Ref f n r (tokens x' ++ []) w) (sym root_main) (refuse_later (own_accepts G a (suc m) w e) (refuses_rest W (refuse_token h) w e));
      }

  is_faulty : (f : Fault) (n k : ℕ) (v w ts : List Token) → Ref f n (root k) v w → ts ≡ v ++ w → Faulty W n (root k) f ts w
  is_faulty f n k v w ts p e = fault_of W M.ok n (root k) (root_root k) f v w ts p e

  -- the next token goes to the current stream, unless the text is over
  next_goes : (f : Fault) (n k c : ℕ) (fs : List (ℕ × Mode)) (p : Phase) (t : Token) (rest : List Token) (z : Sort) → T f n (t ∷ rest) p → (es : List Event) → (es' : List Event) × (goes_by (state k c fs p) t z ≡ (k, t) ∷ es')
  next_goes f n k c fs (amid m) t rest z h es = (_, refl)
  next_goes f n k c fs (seen m u) t rest z h es = (_, refl)
  next_goes f n k c fs (heading m q hs) t rest Stop h es = (_, refl)
  next_goes f n k c fs (heading m zero hs) t rest Semicolon h es = (_, refl)
  next_goes f n k c fs (heading m (suc q) hs) t rest Semicolon h es = (_, refl)
  next_goes f n k c fs (heading m q hs) t rest Word h es = (_, refl)
  next_goes f n k c fs (heading m q hs) t rest Procedure h es = (_, refl)
  next_goes f n k c fs (heading m q hs) t rest Opener h es = (_, refl)
  next_goes f n k c fs (heading m q hs) t rest Closer h es = (_, refl)
  next_goes f n k c fs (heading m q hs) t rest Left h es = (_, refl)
  next_goes f n k c fs (heading m q hs) t rest Right h es = (_, refl)
  next_goes f n k c fs (heading m q hs) t rest Other h es = (_, refl)
  next_goes f n k c fs two_left t rest z h es = (_, refl)
  next_goes f n k c fs one_left t rest z h es = (_, refl)
  next_goes f n k c fs ended t rest z h es = absurd h

  -- the streams' trees of a sentence that begins with u
  trees_kept : {e : Tree Token} → Derives W main e → (n : ℕ) (u v : List Token) → tokens e ≡ u ++ v → Kept n e u → AllKept n m (own (suc m) e ∷ parts (suc m) e) (events (start m) u)
  trees_kept g n u v is (inl h) = let s = shallow G g n (suc m) h in (inl s.mine, all_kept_none n (suc m) _ _ s.theirs)
  trees_kept (of_then {d = x} g (of_token {t = t} q)) n u v is (inr h) = ⊎_elim
      (λ e.
      let i = keeps G g n (u ++ h.0) e true Free 0 false (λ d s. true) m (suc m) [] (amid Free) M.mains fits_amid (λ e. refl) (omega arith) in
      let es = events (start m) (u ++ h.0) in
      let runs = (flows G g true Free 0 false (λ d s. true) m (suc m) [] (amid Free) M.mains fits_amid (λ e. refl)).runs in
      let mine_is : tokens (own (suc m) x) ≡ pick m es ++ pick m (events (after (start m) (u ++ h.0)) i.z) = sym (own_pick G g m (suc m) (omega arith)) ∙ ap (pick m) (sym runs.events_are ∙ ap (events (start m)) i.is ∙ events_append (start m) (u ++ h.0) i.z) ∙ pick_append m es _ in
      let a : AllKept n m (both (own (suc m) x) (leaf t) ∷ (parts (suc m) x ++ [])) es = (kept_front n (own (suc m) x) (leaf t) (pick m es) _ mine_is i.mine, subst (λ z. AllKept n (suc m) z es) (sym (append-nil (parts (suc m) x))) i.theirs) in
      all_kept_less n m (both (own (suc m) x) (leaf t) ∷ (parts (suc m) x ++ [])) (events (start m) u) (events (after (start m) u) h.0) (subst (AllKept n m (both (own (suc m) x) (leaf t) ∷ (parts (suc m) x ++ []))) (events_append (start m) u h.0) a))
      (λ e. absurd (none_some e.1.0 (sym e.1.1)))
      (first_some (tokens x) (over n x) None (u ++ h.0) h.1)

  ends : {d : ℕ} {s : Bool} {p : Phase} (c : ℕ) (t : Token) → Fits Free d s p → member (kind_number t.kind) (0 ∷ []) ≡ true → Runs (state m c [] p) (t ∷ []) (state m c [] ended) ((m, t) ∷ [])
  ends c t fits_amid g = runs_one _ t 0 Stop g is_stop refl refl
  ends c t fits_seen g = runs_one _ t 0 Stop g is_stop refl refl

  pub whole_runs : {e : Tree Token} → Derives W main e → Runs (start m) (tokens e) (state m (streams_after (suc m) e) [] ended) (sends m (suc m) e)
  whole_runs (of_then {d = x} g (of_token {t = t} h)) =
      let i = flows G g true Free 0 false (λ d s. true) m (suc m) [] (amid Free) M.mains fits_amid (λ e. refl) in
      runs_then i.runs (ends (streams_after (suc m) x) t i.fits h)

  -- every stream that has begun begins with what a sentence begins with
  begun_streams : {f : Fault} {n : ℕ} {u rest : List Token} → Ref f n main u rest → (j : ℕ) → m ≤ j → j < count (after (start m) u) → Beginning W n (root j) (pick j (events (start m) u))
  begun_streams {f} {n} {u} {rest} p j low l =
      let x = reaches W M.ok p (root_complete W main M.main_root) in
      let e = x.tree in
      let k = trees_kept x.derives n u x.behind x.spells x.kept in
      let r = whole_runs x.derives in
      let num = counted G x.derives (suc m) in
      let c1 = count_after (after (start m) u) x.behind in
      let c2 : count (after (after (start m) u) x.behind) ≡ suc m + length (parts (suc m) e) = ap count (sym (after_append (start m) u x.behind)) ∙ ap (λ z. count (after (start m) z)) (sym x.spells) ∙ ap count r.state_is ∙ num in
      let sent : (j : ℕ) → pick j (events (start m) u) ++ pick j (events (after (start m) u) x.behind) ≡ pick j (spread m (own (suc m) e ∷ parts (suc m) e)) =
      λ j. sym (pick_append j (events (start m) u) _) ∙ ap (pick j) (sym (events_append (start m) u x.behind) ∙ ap (events (start m)) (sym x.spells) ∙ r.events_are) ∙ told G x.derives j m (suc m) (omega arith) ∙ sym (pick_append j (to m (tokens (own (suc m) e))) (spread (suc m) (parts (suc m) e))) in
      choose (j == m) refl (omega (arith, l, c1, c2)) x.behind (sent j) k x.derives
    where
      is_main : {e : Tree Token} (b : List Token) → pick m (events (start m) u) ++ pick m (events (after (start m) u) b) ≡ pick m (spread m (own (suc m) e ∷ parts (suc m) e)) → AllKept n m (own (suc m) e ∷ parts (suc m) e) (events (start m) u) → Derives W main e → Beginning W n (root m) (pick m (events (start m) u))
      is_main {e} b s k g = subst (λ r. Beginning W n r (pick m (events (start m) u))) (sym root_main) (record {
        tree = own (suc m) e;
        derives = own_of G g (suc m);
        behind = pick m (events (after (start m) u) b);
        spells = sym (s ∙ pick_append m (to m (tokens (own (suc m) e))) (spread (suc m) (parts (suc m) e)) ∙ ap (λ z. z ++ pick m (spread (suc m) (parts (suc m) e))) (pick_own m (tokens (own (suc m) e))) ∙ ap (λ z. tokens (own (suc m) e) ++ z) (pick_low m (suc m) (parts (suc m) e) (omega arith)) ∙ append-nil _);
        within = k.0;
      })

      is_part : {e : Tree Token} (b : List Token) → suc m ≤ j → j < suc m + length (parts (suc m) e) → pick j (events (start m) u) ++ pick j (events (after (start m) u) b) ≡ pick j (spread m (own (suc m) e ∷ parts (suc m) e)) → AllKept n m (own (suc m) e ∷ parts (suc m) e) (events (start m) u) → Derives W main e → Beginning W n (root j) (pick j (events (start m) u))
      is_part {e} b lo l s k g =
          let i = spread_at (λ x. Derives W PS x) n (suc m) (parts (suc m) e) (events (start m) u) (parts_of G g (suc m)) k.1 j lo l in
          subst (λ r. Beginning W n r (pick j (events (start m) u))) (sym (root_of j lo)) (record {
            tree = i.0;
            derives = i.1;
            behind = pick j (events (after (start m) u) b);
            spells = sym (s ∙ pick_append j (to m (tokens (own (suc m) e))) (spread (suc m) (parts (suc m) e)) ∙ ap (λ z. z ++ pick j (spread (suc m) (parts (suc m) e))) (pick_other j m (tokens (own (suc m) e)) (apart j m lo)) ∙ i.2);
            within = i.3;
          })

      choose : (b : Bool) → (j == m) ≡ b → {e : Tree Token} → j < suc m + length (parts (suc m) e) → (b : List Token) → pick j (events (start m) u) ++ pick j (events (after (start m) u) b) ≡ pick j (spread m (own (suc m) e ∷ parts (suc m) e)) → AllKept n m (own (suc m) e ∷ parts (suc m) e) (events (start m) u) → Derives W main e → Beginning W n (root j) (pick j (events (start m) u))
      choose true q {e} l b s k g =
          let is : j ≡ m = eqb-true j m q in
          subst (λ z. Beginning W n (root z) (pick z (events (start m) u))) (sym is) (is_main b (subst (λ z. pick z (events (start m) u) ++ pick z (events (after (start m) u) b) ≡ pick z (spread m (own (suc m) e ∷ parts (suc m) e))) is s) k g)
      choose false q l b s k g = is_part b (less_apart j m low q) l s k g

  -- a procedure's stream may begin so
  begun_new : (n : ℕ) (t0 t1 : Token) → sort t0.kind ≡ Procedure → sort t1.kind ≡ Word → Beginning W n PS (t0 ∷ t1 ∷ [])
  begun_new n t0 t1 e0 e1 =
      let hm = some_tree W M.ok G.more_head M.more_complete in
      let rs = some_tree W M.ok (then (one 57) (then (stream_rule (head G) (block G)) (then (one 57) (one 7)))) M.rest_complete in
      let hd : Tree Token = both (leaf t0) (both (leaf t1) hm.0) in
      record {
        tree = both hd rs.0;
        derives = of_then (of_then (of_token {t = t0} (procedure_kind t0.kind e0)) (of_then (of_token {t = t1} (word_kind t1.kind e1)) hm.1)) rs.1;
        behind = tokens hm.0 ++ tokens rs.0;
        spells = refl;
        within = kept_front n hd rs.0 (t0 ∷ t1 ∷ []) (tokens hm.0) refl (kept_back n (leaf t0) (both (leaf t1) hm.0) (t1 ∷ []) refl (kept_back n (leaf t1) hm.0 [] refl (kept_nil n hm.0)));
      }

  -- nothing lies too deep at the end of a text
  end_is_bad : (g : Fault) (n : ℕ) (r : Rule) (ts : List Token) (y : Token) (ys : List Token) → Faulty W n r g ts (y ∷ ys) → sort y.kind ≡ Stop → g ≡ Syntax
  end_is_bad Syntax n r ts y ys a e = refl
  end_is_bad TooDeep n r ts y ys a e =
      let o = a.refusal in
      let d = deep_token W M.ok o.derives n a.before (o.each o.tree o.derives o.begins) in
      let same : d.token ≡ y = begins_head' y ys a.before d.token d.behind (subst (Begins a.before (y ∷ ys)) d.is o.begins) in
      absurd (true≢false (sym d.begins ∙ ap (λ z. member z (firsts W d.number)) (ap (λ z. kind_number z.kind) same ∙ stop_kind y.kind e) ∙ M.no_end d.number))

  pub after_end : (before : List Token) (t : Token) → t.kind ≡ kinds.EndOfText → phase (after (start m) (before ++ (t ∷ []))) ≡ ended
  after_end before t e = ap phase (after_append (start m) before (t ∷ [])) ∙ ap (λ z. phase (next_by (after (start m) before) t z)) (ap sort e) ∙ stop_ends (after (start m) before) t

  module _ {f : Fault} {n : ℕ} {u : List Token} {t : Token} {rt : List Token} (p : Ref f n main u (t ∷ rt)) (ts : List Token) (numbers : Numbered 0 ts) (is : ts ≡ u ++ (t ∷ rt)) where
    abbrev i : Now f n u (t ∷ rt)
    i = now p

    abbrev S : State
    S = state i.k' i.c' i.fs' i.p'

    abbrev F : List Event
    F = events S (t ∷ rt)

    abbrev Str : ℕ → List Token
    Str j = stream j ts

    parted : (j : ℕ) → Str j ≡ pick j (events (start m) u) ++ pick j F
    parted j = ap (λ z. pick j (events (start m) z)) is ∙ ap (pick j) (events_append (start m) u (t ∷ rt) ∙ ap (λ z. events (start m) u ++ events z (t ∷ rt)) i.state_is) ∙ pick_append j (events (start m) u) F

    s_well : Well S
    s_well = subst Well i.state_is (well_after (start m) u (well (omega arith) (All-nil (λ f. f.0 < suc m)) tt))

    s_count : count (after (start m) u) ≡ i.c'
    s_count = ap count i.state_is

    numbered : Numbered (length u) (t ∷ rt)
    numbered = let e : 0 + length u ≡ length u = omega arith in subst (λ z. Numbered z (t ∷ rt)) e (numbered_drop 0 u (t ∷ rt) (subst (Numbered 0) is numbers))

    head_is : (more : List Token) × (pick i.k' F ≡ t ∷ more)
    head_is =
        let g = next_goes f n i.k' i.c' i.fs' i.p' t rt (sort t.kind) i.tip [] in
        (pick i.k' (g.0 ++ events (next S t) rt), ap (λ z. pick i.k' (z ++ events (next S t) rt)) g.1 ∙ ap (λ b. cond b (t ∷ pick i.k' (g.0 ++ events (next S t) rt)) (pick i.k' (g.0 ++ events (next S t) rt))) (same_number i.k'))

    same_head : SameHead (t ∷ rt) (pick i.k' F)
    same_head = subst (SameHead (t ∷ rt)) (sym head_is.1) refl

    faulty_here : Faulty W n (root i.k') f (Str i.k') (pick i.k' F)
    faulty_here = is_faulty f n i.k' i.v (pick i.k' F) (Str i.k') (i.refuses (pick i.k' F) same_head) (parted i.k' ∙ ap (λ z. z ++ pick i.k' F) i.picked)

    in_range : i.k' < count (after (start m) ts)
    in_range =
        let a : i.k' < i.c' = low s_well in
        let b = count_after S (t ∷ rt) in
        let c : count (after (start m) ts) ≡ count (after S (t ∷ rt)) = ap (λ z. count (after (start m) z)) is ∙ ap count (after_append (start m) u (t ∷ rt) ∙ ap (λ z. after z (t ∷ rt)) i.state_is) in
        omega (arith, a, b, c)
      where
        low : {k c : ℕ} {fs : List (ℕ × Mode)} {q : Phase} → Well (state k c fs q) → k < c
        low (well l a h) = l

    text_bad : sort t.kind ≡ Stop → f ≡ Syntax
    text_bad e = end_is_bad f n main ts t rt (fault_of W M.ok n main M.main_root f u (t ∷ rt) ts p is) e

    at_t : t.at ≡ length u
    at_t = numbered.0

    from_one : (w y : Token) (ys ws : List Token) → y ∷ ys ≡ w ∷ ws → y ≡ w
    from_one w y ys ws h = cc

    -- a stream that has begun
    case_old : (j : ℕ) (g : Fault) (y : Token) (ys : List Token) → m ≤ j → (j ≡ i.k' → ⊥) → j < i.c' → Faulty W n (root j) g (Str j) (y ∷ ys) → NotBefore f (t ∷ rt) g (y ∷ ys)
    case_old j g y ys lo o l a =
        let z = not_before W n (root j) g (Str j) (y ∷ ys) (pick j (events (start m) u)) (pick j F) a (begun_streams p j lo (omega (arith, l, s_count))) (parted j) in
        let all = around j S t rt (length u) s_well l o numbered in
        ⊎_elim
        (λ h. inl (omega (arith, h, at_t)))
        (λ h. inr (h.0, end_is_bad g n (root j) (Str j) y ys a (ap (λ q. sort q.kind) h.0 ∙ h.1) ∙ sym (text_bad h.1)))
        (all_at (λ x. (length u < x.at) ⊎ ((x ≡ t) × (sort t.kind ≡ Stop))) z.0 y ys (subst (All (λ x. (length u < x.at) ⊎ ((x ≡ t) × (sort t.kind ≡ Stop)))) z.1 all))

    none_before : (j : ℕ) → i.c' ≤ j → Str j ≡ pick j F
    none_before j l = parted j ∙ ap (λ z. z ++ pick j F) (past j (start m) u (well (omega arith) (All-nil (λ f. f.0 < suc m)) tt) (omega (arith, l, s_count)))

    nothing_at : (j : ℕ) (g : Fault) (y : Token) (ys : List Token) → Str j ≡ [] → Faulty W n (root j) g (Str j) (y ∷ ys) → ⊥
    nothing_at j g y ys e a = no (a.before) (sym e ∙ a.is)
      where
        no : (u : List Token) → [] ≡ u ++ (y ∷ ys) → ⊥
        no [] h = cc
        no (x ∷ u) h = cc

    root_new : (j : ℕ) → i.c' ≤ j → root j ≡ PS
    root_new j l = root_of j (pos s_well i.low l)
      where
        pos : {k c : ℕ} {fs : List (ℕ × Mode)} {q : Phase} → Well (state k c fs q) → m ≤ k → c ≤ j → suc m ≤ j
        pos (well l a h) lo e = omega (arith, l, lo, e)

    -- a stream that begins later
    case_new : (j : ℕ) (g : Fault) (y : Token) (ys : List Token) → i.c' ≤ j → (InHeading i.p' → j ≡ i.c' → ⊥) → Faulty W n (root j) g (Str j) (y ∷ ys) → NotBefore f (t ∷ rt) g (y ∷ ys)
    case_new j g y ys l o a = ⊎_elim
        (λ h. absurd (nothing_at j g y ys (none_before j l ∙ h) a))
        (λ h.
        let z = not_before W n (root j) g (Str j) (y ∷ ys) (h.t0 ∷ h.t1 ∷ []) h.more a (subst (λ q. Beginning W n q (h.t0 ∷ h.t1 ∷ [])) (sym (root_new j l)) (begun_new n h.t0 h.t1 h.first h.second)) (none_before j l ∙ h.is) in
        let late = all_at (λ x. length u < x.at) z.0 y ys (subst (All (λ x. length u < x.at)) z.1 h.late) in
        inl (omega (arith, late, at_t)))
        (new j S (t ∷ rt) (length u) s_well l o numbered)

    -- the stream of the heading that the text breaks off
    case_heading : (g : Fault) (y : Token) (ys : List Token) → InHeading i.p' → Faulty W n (root i.c') g (Str i.c') (y ∷ ys) → NotBefore f (t ∷ rt) g (y ∷ ys)
    case_heading g y ys h a = on i.p' refl h
      where
        le : (c : ℕ) → c ≤ c
        le c = omega arith

        with_tip : (mo : Mode) (q : ℕ) (hs : List Token) → T f n (t ∷ rt) (heading mo q hs) → HeadingGets i.c' hs F (t ∷ rt) (length u) → NotBefore f (t ∷ rt) g (y ∷ ys)
        with_tip mo q hs tip (inl e) = absurd (nothing_at i.c' g y ys (none_before i.c' (le i.c') ∙ e) a)
        with_tip mo q hs tip (inr e) =
            let b = is_faulty f n i.c' hs e.more (Str i.c') (subst (λ r. Ref f n r hs e.more) (sym (root_new i.c' (le i.c'))) (tip e.more e.next_is)) (none_before i.c' (le i.c') ∙ e.is) in
            let r = one_fault W n (root i.c') f g (Str i.c') e.more (y ∷ ys) b a in
            inr (head_of e.more (sym r.0) e.next_is, r.1)
          where
            head_of : (mo : List Token) → mo ≡ y ∷ ys → SameHead (t ∷ rt) mo → y ≡ t
            head_of [] d s = absurd s
            head_of (x ∷ mo) d s = sym (s ∙ cc)

        gets : {k c : ℕ} {fs : List (ℕ × Mode)} {q : Phase} (mo : Mode) (b : ℕ) (hs : List Token) → q ≡ heading mo b hs → Well (state k c fs q) → HeadingGets c hs (events (state k c fs q) (t ∷ rt)) (t ∷ rt) (length u)
        gets {k} {c} {fs} mo b hs e (well l al he) = subst (λ z. HeadingGets c hs (events (state k c fs z) (t ∷ rt)) (t ∷ rt) (length u)) (sym e) (heading_gets (t ∷ rt) k c fs mo b hs (length u) l al numbered)

        on : (q : Phase) → i.p' ≡ q → InHeading q → NotBefore f (t ∷ rt) g (y ∷ ys)
        on (amid m) e h = absurd h
        on (seen m w) e h = absurd h
        on (heading mo b hs) e h = with_tip mo b hs (subst (T f n (t ∷ rt)) e i.tip) (gets mo b hs e s_well)
        on two_left e h = absurd h
        on one_left e h = absurd h
        on ended e h = absurd h

    in_heading : (q : Phase) → InHeading q ⊎ (InHeading q → ⊥)
    in_heading (amid m) = inr (λ h. h)
    in_heading (seen m w) = inr (λ h. h)
    in_heading (heading m b hs) = inl tt
    in_heading two_left = inr (λ h. h)
    in_heading one_left = inr (λ h. h)
    in_heading ended = inr (λ h. h)

    not_same : (j k : ℕ) → (j == k) ≡ false → j ≡ k → ⊥
    not_same j k e h = true≢false (sym (same_number k) ∙ ap (λ z. z == k) (sym h) ∙ e)

    others : (j : ℕ) (g : Fault) (w : List Token) → m ≤ j → Faulty W n (root j) g (Str j) w → NotBefore f (t ∷ rt) g w
    others j g [] lo a = tt
    others j g (y ∷ ys) lo a = on (j == i.k') refl
      where
        here : j ≡ i.k' → NotBefore f (t ∷ rt) g (y ∷ ys)
        here e =
            let r = one_fault W n (root i.k') f g (Str i.k') (pick i.k' F) (y ∷ ys) faulty_here (subst (λ z. Faulty W n (root z) g (Str z) (y ∷ ys)) e a) in
            inr (from_one t y ys head_is.0 (r.0 ∙ head_is.1), r.1)

        later : i.c' ≤ j → NotBefore f (t ∷ rt) g (y ∷ ys)
        later l = split (j == i.c') refl
          where
            split : (b : Bool) → (j == i.c') ≡ b → NotBefore f (t ∷ rt) g (y ∷ ys)
            split false e = case_new j g y ys l (λ h. not_same j i.c' e) a
            split true e = ⊎_elim (λ h. case_heading g y ys h (subst (λ z. Faulty W n (root z) g (Str z) (y ∷ ys)) (eqb-true j i.c' e) a)) (λ h. case_new j g y ys l (λ x q. h x) a) (in_heading i.p')

        on : (b : Bool) → (j == i.k') ≡ b → NotBefore f (t ∷ rt) g (y ∷ ys)
        on true e = here (eqb-true j i.k' e)
        on false e = ⊎_elim (λ l. case_old j g y ys lo (not_same j i.k' e) l a) later (below_or j i.c')

    first_streams : FirstOfStreams n f ts (t ∷ rt)
    first_streams = record { number = i.k'; low = i.low; exists = in_range; rest' = pick i.k' F; faulty = faulty_here; here = same_head; others = others }

  ended_tip : (f : Fault) (n : ℕ) (rest : List Token) (p : Phase) → p ≡ ended → T f n rest p → ⊥
  ended_tip f n rest p e h = subst (T f n rest) e h

  -- a refused text has a token there
  refused_first : (f : Fault) (n : ℕ) (u rest ts : List Token) → Ref f n main u rest → Numbered 0 ts → Ended ts → ts ≡ u ++ rest → FirstOfStreams n f ts rest
  refused_first f n u [] ts p numbers t is =
      let i = now p in
      let e : u ≡ t.before ++ (t.last_token ∷ []) = sym (append-nil u) ∙ sym is ∙ t.is in
      absurd (ended_tip f n [] i.p' (ap phase (sym i.state_is) ∙ ap (λ z. phase (after (start m) z)) e ∙ after_end t.before t.last_token t.end) i.tip)
  refused_first f n u (t ∷ rt) ts p numbers x is = first_streams p ts numbers is

  no_end_in : (before xs w : List Token) (e la y : Token) → All (λ t. t.kind ≡ kinds.EndOfText → ⊥) before → before ++ (la ∷ []) ≡ xs ++ (e ∷ y ∷ w) → e.kind ≡ kinds.EndOfText → ⊥
  no_end_in [] [] w e la y a h k = cc
  no_end_in [] (x ∷ xs) w e la y a h k = no xs cc
    where
      no : (xs : List Token) → [] ≡ xs ++ (e ∷ y ∷ w) → ⊥
      no [] h = cc
      no (x ∷ xs) h = cc
  no_end_in (b ∷ before) [] w e la y a h k = let s : b ≡ e = cc in All-head (λ t. t.kind ≡ kinds.EndOfText → ⊥) b before a (ap (λ t. t.kind) s ∙ k)
  no_end_in (b ∷ before) (x ∷ xs) w e la y a h k = let r : before ++ (la ∷ []) ≡ xs ++ (e ∷ y ∷ w) = cc in no_end_in before xs w e la y (All-tail (λ t. t.kind ≡ kinds.EndOfText → ⊥) b before a) r k

  end_kind : (k : TokenKind) → member (kind_number k) (0 ∷ []) ≡ true → k ≡ kinds.EndOfText
  end_kind kinds.EndOfText e = refl
  end_kind k e = absurd (true≢false (sym e))

  took_case : (n : ℕ) (ts : List Token) → Ended ts → (f : Fault) (rest : List Token) → Faulty W n main f ts rest → {x : Tree Token} (w : List Token) → Accepts W n main x w → ts ≡ tokens x ++ w → FirstOfStreams n f ts rest
  took_case n ts t f rest a {x} [] p e = absurd (no_fault W n main f ts rest a (whole_sentence W main M.ok M.main_root p ts e))
  took_case n ts t f rest a (y ∷ w) (accept_then {d = x} q (accept_token {t = l} g)) e = absurd (no_end_in t.before (tokens x) w l t.last_token y t.inner (sym t.is ∙ e ∙ append_assoc (tokens x) (l ∷ []) (y ∷ w)) (end_kind l.kind g))

  -- the fault of a text is the first of its streams' faults
  pub first_fault : (n : ℕ) (ts : List Token) → Numbered 0 ts → Ended ts → (f : Fault) (rest : List Token) → Faulty W n main f ts rest → FirstOfStreams n f ts rest
  first_fault n ts numbers t f rest a = on (is_total W main M.ok M.main_root n ts)
    where
      on : Answer W n main ts → FirstOfStreams n f ts rest
      on (accepted {d = x} {rest = w} p e) = took_case n ts t f rest a w p e
      on (refused {f = g} {u = u} {rest = w} p e) =
          let b = fault_of W M.ok n main M.main_root g u w ts p e in
          let r = one_fault W n main g f ts w rest b a in
          subst (λ z. FirstOfStreams n z ts rest) (sym r.1) (subst (FirstOfStreams n g ts) (sym r.0) (refused_first g n u w ts p numbers t e))
