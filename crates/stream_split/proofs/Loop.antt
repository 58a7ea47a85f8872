-- The loop over the tokens of a main text.
use Rattle.std.proofs.Common.{◌≡◌, ℕ, zero, suc, List, [], ◌∷◌, ◌++◌, refl, sym, ap, ◌∙◌, subst, length, ◌<◌, ◌+◌, ◌-◌, arith, get_or, take, drop, map, All, Option, Some, None, length-append}
use Rattle.std.proofs.Math.Seq.{take-suc}
use Rattle.std.proofs.lemmas.List.{append-nil}
use Rattle.std.proofs.lemmas.List.Elements.{All-head, All-tail, All-cons, All-nil}
use Rattle.m2_base.specs.declared.token.Token.{Token}
use Rattle.m2_base.specs.Statics.BlockLimits.{BlockLimit, too_many_procedures, too_deep_procedure}
use Rattle.stream_split.specs.declared.cutter.Cutter.{Cutter}
use Rattle.stream_split.specs.declared.cutter.Frame.{Frame}
use Rattle.stream_split.specs.declared.cutter.Mode.{Mode}
use Rattle.stream_split.specs.declared.sorts.Sort.{Sort}
use Rattle.stream_split.specs.declared.streams.SplitFault.{SplitFault}
use Rattle.stream_split.specs.declared.streams.SplitFault.TheVariants.{TooManyStreams, TooNested, Memory}
use Rattle.stream_split.specs.declared.streams.StreamTokens.{StreamTokens}
use Rattle.stream_split.specs.Cut.{State, sort, start, after, events, next, next_by, goes, goes_by, pick, Event, Enclosed, opened, opens_by}
use Rattle.stream_split.specs.Limits.{passed, limit_at, first_of, Tells}
use Rattle.stream_split.specs.Streams.{StreamOf, procedure_stream, module_stream, procedure_streams, main_streams}
use Rattle.stream_split.specs.Views.{stream_view, label, item, Sent, state_view, frames_on, frame_view, Ready}
use Rattle.stream_split.proofs.Runs.{after_append, events_append, opened_append}
use Rattle.stream_split.proofs.Picks.{pick_append}
use Rattle.stream_split.proofs.Future.{Well, well, well_after}

-- the limits of one list behind another
pub passed_append : (n : ℕ) (s : State) (xs ys : List Token)
    → passed n s (xs ++ ys) ≡ first_of (passed n s xs) (passed (n + length (opened s xs)) (after s xs) ys)
passed_append n s [] ys = ap (λ z. passed z s ys) (plus n)
  where
    plus : (n : ℕ) → n ≡ n + 0
    plus n = omega arith
passed_append n s (x ∷ xs) ys =
    by (limit_at n s (sort x.kind)) _ _ _ (passed_append (n + length (opens_by s (sort x.kind))) (next s x) xs ys ∙ ap (λ z. first_of (passed (n + length (opens_by s (sort x.kind))) (next s x) xs) (passed z (after (next s x) xs) ys)) (joined (opens_by s (sort x.kind)) (opened (next s x) xs)))
  where
    joined : (ps qs : List Enclosed) → (n + length ps) + length qs ≡ n + length (ps ++ qs)
    joined ps qs = let e = length-append ps qs in omega (arith, e)

    by : (o p q r : Option BlockLimit) → p ≡ first_of q r → first_of o p ≡ first_of (first_of o q) r
    by None p q r h = h
    by (Some l) p q r h = refl

-- the streams of more procedures
pub streams_append : (j : ℕ) (ps qs : List Enclosed) (es : List Event)
    → procedure_streams j (ps ++ qs) es ≡ procedure_streams j ps es ++ procedure_streams (j + length ps) qs es
streams_append j [] qs es = ap (λ z. procedure_streams z qs es) (plus j)
  where
    plus : (j : ℕ) → j ≡ j + 0
    plus j = omega arith
streams_append j (p ∷ ps) qs es =
    ap (λ z. procedure_stream j p (pick j es) ∷ z) (streams_append (suc j) ps qs es ∙ ap (λ z. procedure_streams (suc j) ps es ++ procedure_streams z qs es) (plus j (length ps)))
  where
    plus : (j n : ℕ) → suc j + n ≡ j + suc n
    plus j n = omega arith

streams_length : (j : ℕ) (ps : List Enclosed) (es : List Event) → length (procedure_streams j ps es) ≡ length ps
streams_length j [] es = refl
streams_length j (p ∷ ps) es = ap suc (streams_length (suc j) ps es)

-- the labels of a main text's streams
abbrev labels_after : ℕ → List Token → List StreamOf
labels_after n ts = module_stream n [] ∷ procedure_streams (suc n) (opened (start n) ts) []

-- behind these tokens, where the module has stream n
pub record So (n : ℕ) (c : Cutter) (ts : List Token) : Type 0 where
  pub state_is : state_view c ≡ after (start n) ts
  pub sent : (j : ℕ) → item j c.streams.items ≡ pick (n + j) (events (start n) ts)
  pub labels : map label c.streams.items ≡ labels_after n ts
  pub within : passed 0 (start n) ts ≡ None
  pub first : c.first ≡ n

map_length : {A B : Type 0} (f : A → B) (xs : List A) → length (map f xs) ≡ length xs
map_length f [] = refl
map_length f (x ∷ xs) = ap suc (map_length f xs)

count_is : (n : ℕ) (c : Cutter) (ts : List Token) → So n c ts → length c.streams.items ≡ suc (length (opened (start n) ts))
count_is n c ts h = sym (map_length label c.streams.items) ∙ ap length h.labels ∙ ap suc (streams_length (suc n) (opened (start n) ts) [])

frames_all : (n m : ℕ) (fs : List (ℕ × Mode)) (xs : List Frame) → All (λ f. f.0 < n + m) (frames_on n fs xs)
    → All (λ f. f.0 < n + m) fs × All (λ f. f.stream < m) xs
frames_all n m fs [] a = (a, All-nil (λ f. f.stream < m))
frames_all n m fs (x ∷ xs) a =
    let i = frames_all n m (frame_view n x ∷ fs) xs a in
    let l = All-head (λ f. f.0 < n + m) (frame_view n x) fs i.0 in
    (All-tail (λ f. f.0 < n + m) (frame_view n x) fs i.0, All-cons (λ f. f.stream < m) x xs (omega (arith, l)) i.1)

pub ready : (n : ℕ) (c : Cutter) (ts : List Token) → So n c ts → Ready c
ready n c ts h = on (subst Well (sym h.state_is) (well_after (start n) ts (well (omega arith) (All-nil (λ f. f.0 < suc n)) tt)))
  where
    on : Well (state_view c) → Ready c
    on (well l a x) = record { current = omega (arith, l); around = (frames_all c.first (length c.streams.items) [] c.around.items a).1 }

one_step : (n : ℕ) (c c' : Cutter) (ts : List Token) (i : ℕ) (t : Token) (z : Sort) → i < length ts → t ≡ get_or ts i t → z ≡ sort t.kind
    → So n c (take i ts) → limit_at (length c.streams.items - 1) (state_view c) z ≡ None → state_view c' ≡ next_by (state_view c) t z
    → Sent c.first c.streams.items (goes_by (state_view c) t z) c'.streams.items
    → map label c'.streams.items ≡ map label c.streams.items ++ procedure_streams (c.first + length c.streams.items) (opens_by (state_view c) z) []
    → c'.first ≡ c.first → So n c' (take (i + 1) ts)
one_step n c c' ts i t z l e k h w f g lb fi =
    let one : i + 1 ≡ suc i = omega arith in
    let is : take (i + 1) ts ≡ take i ts ++ (t ∷ []) = ap (λ q. take q ts) one ∙ take-suc ts i t l ∙ ap (λ q. take i ts ++ (q ∷ [])) (sym e) in
    let s = after (start n) (take i ts) in
    let es = events (start n) (take i ts) in
    let count = count_is n c (take i ts) h in
    let opens : opens_by (state_view c) z ≡ opens_by s (sort t.kind) ++ [] = ap (λ q. opens_by q z) h.state_is ∙ ap (opens_by s) k ∙ sym (append-nil _) in
    record {
      state_is = f ∙ ap (λ q. next_by q t z) h.state_is ∙ ap (next_by s t) k ∙ sym (after_append (start n) (take i ts) (t ∷ [])) ∙ ap (after (start n)) (sym is);
      sent = λ j.
          g j ∙ ap (λ q. item j c.streams.items ++ pick (q + j) (goes_by (state_view c) t z)) h.first
          ∙ ap (λ q. q ++ pick (n + j) (goes_by (state_view c) t z)) (h.sent j) ∙ ap (λ q. pick (n + j) es ++ pick (n + j) (goes_by q t z)) h.state_is
          ∙ ap (λ q. pick (n + j) es ++ pick (n + j) (goes_by s t q)) k ∙ ap (λ q. pick (n + j) es ++ pick (n + j) q) (sym (append-nil (goes s t)))
          ∙ sym (pick_append (n + j) es (goes s t ++ [])) ∙ ap (pick (n + j)) (sym (events_append (start n) (take i ts) (t ∷ []))) ∙ ap (λ q. pick (n + j) (events (start n) q)) (sym is);
      labels =
          lb ∙ ap (λ q. q ++ procedure_streams (c.first + length c.streams.items) (opens_by (state_view c) z) []) h.labels
          ∙ ap (λ q. labels_after n (take i ts) ++ procedure_streams (c.first + length c.streams.items) q []) opens
          ∙ ap (λ q. labels_after n (take i ts) ++ procedure_streams q (opens_by s (sort t.kind) ++ []) []) (number n c (opened (start n) (take i ts)) h.first count)
          ∙ ap (λ q. module_stream n [] ∷ q) (sym (streams_append (suc n) (opened (start n) (take i ts)) (opens_by s (sort t.kind) ++ []) []) ∙ ap (λ q. procedure_streams (suc n) q []) (sym (opened_append (start n) (take i ts) (t ∷ []))))
          ∙ ap (labels_after n) (sym is);
      within =
          ap (passed 0 (start n)) is ∙ passed_append 0 (start n) (take i ts) (t ∷ [])
          ∙ ap (λ q. first_of q (first_of (limit_at (0 + length (opened (start n) (take i ts))) s (sort t.kind)) None)) h.within
          ∙ ap (λ q. first_of q None) (ap (limit_at (0 + length (opened (start n) (take i ts))) s) (sym k) ∙ ap (λ q. limit_at (0 + length (opened (start n) (take i ts))) q z) (sym h.state_is) ∙ ap (λ q. limit_at q (state_view c) z) (before (opened (start n) (take i ts)) count) ∙ w);
      first = fi ∙ h.first;
    }
  where
    number : (n : ℕ) (c : Cutter) (ps : List Enclosed) → c.first ≡ n → length c.streams.items ≡ suc (length ps) → c.first + length c.streams.items ≡ suc n + length ps
    number n c ps a b = omega (arith, a, b)

    before : (ps : List Enclosed) → length c.streams.items ≡ suc (length ps) → 0 + length ps ≡ length c.streams.items - 1
    before ps b = omega (arith, b)

same_token : (ts : List Token) (i : ℕ) → i < length ts → (d : Token) → get_or ts i d ≡ get_or ts i (get_or ts i d)
same_token [] i l d = refl
same_token (x ∷ ts) zero l d = refl
same_token (x ∷ ts) (suc i) l d = same_token ts i (omega (arith, l)) d

-- one more token
pub one_turn : (n : ℕ) (c c' : Cutter) (ts : List Token) (i : ℕ) (d : Token) (z : Sort) → i < length ts → z ≡ sort (get_or ts i d).kind
    → So n c (take i ts) → limit_at (length c.streams.items - 1) (state_view c) z ≡ None → state_view c' ≡ next_by (state_view c) (get_or ts i d) z
    → Sent c.first c.streams.items (goes_by (state_view c) (get_or ts i d) z) c'.streams.items
    → map label c'.streams.items ≡ map label c.streams.items ++ procedure_streams (c.first + length c.streams.items) (opens_by (state_view c) z) []
    → c'.first ≡ c.first → So n c' (take (i + 1) ts)
one_turn n c c' ts i d z l k h w f g lb fi = one_step n c c' ts i (get_or ts i d) z l (same_token ts i l d) k h w f g lb fi

parted_at : (ts : List Token) (i : ℕ) (d : Token) → i < length ts → ts ≡ take i ts ++ (get_or ts i d ∷ drop (suc i) ts)
parted_at [] i d l = let no : ⊥ = omega (arith, l) in absurd no
parted_at (x ∷ ts) zero d l = refl
parted_at (x ∷ ts) (suc i) d l = ap (λ z. x ∷ z) (parted_at ts i d (omega (arith, l)))

told : (o q : Option BlockLimit) (f : SplitFault) → ((l : BlockLimit) → q ≡ Some l → o ≡ Some l) → Tells f q → Tells f o
told o q Memory h i = tt
told o q TooManyStreams h i = (i.0, h (too_many_procedures i.0) i.1)
told o q TooNested h i = (i.0, h (too_deep_procedure i.0) i.1)

-- the text passes a limit here
pub passes : (n : ℕ) (c : Cutter) (ts : List Token) (i : ℕ) (d : Token) (z : Sort) (f : SplitFault) → i < length ts → z ≡ sort (get_or ts i d).kind
    → So n c (take i ts) → Tells f (limit_at (length c.streams.items - 1) (state_view c) z) → Tells f (passed 0 (start n) ts)
passes n c ts i d z f l k h w =
    let t : Token = get_or ts i d in
    let s : State = after (start n) (take i ts) in
    let m : ℕ = 0 + length (opened (start n) (take i ts)) in
    let more : Option BlockLimit = passed (m + length (opens_by s (sort t.kind))) (next s t) (drop (suc i) ts) in
    told (passed 0 (start n) ts) (limit_at (length c.streams.items - 1) (state_view c) z) f
    (λ g e.
    ap (passed 0 (start n)) (parted_at ts i d l) ∙ passed_append 0 (start n) (take i ts) _
    ∙ ap (λ q. first_of q (first_of (limit_at m s (sort t.kind)) more)) h.within
    ∙ ap (λ q. first_of q more) (ap (limit_at m s) (sym k) ∙ ap (λ q. limit_at m q z) (sym h.state_is) ∙ ap (λ q. limit_at q (state_view c) z) before ∙ e)) w
  where
    before : 0 + length (opened (start n) (take i ts)) ≡ length c.streams.items - 1
    before = let e = count_is n c (take i ts) h in omega (arith, e)

-- a stream is its label and its tokens
with_tokens : (x : StreamTokens) (b : StreamOf) (ts : List Token) → label x ≡ b → x.tokens.items ≡ ts
    → stream_view x ≡ record { stream = b.stream; text = b.text; outer = b.outer; level = b.level; kind = b.kind; tokens = ts }
with_tokens x b ts l e =
    ap (λ (z : List Token). record { stream = x.stream; text = x.text; outer = x.outer; level = x.level; kind = x.kind; tokens = z }) e
    ∙ ap (λ (z : StreamOf). record { stream = z.stream; text = z.text; outer = z.outer; level = z.level; kind = z.kind; tokens = ts }) l

procedures_are : (j : ℕ) (xs : List StreamTokens) (ps : List Enclosed) (es : List Event) → map label xs ≡ procedure_streams j ps []
    → ((i : ℕ) → item i xs ≡ pick (j + i) es) → map stream_view xs ≡ procedure_streams j ps es
procedures_are j [] [] es l h = refl
procedures_are j [] (p ∷ ps) es l h = cc
procedures_are j (x ∷ xs) [] es l h = cc
procedures_are j (x ∷ xs) (p ∷ ps) es l h =
    let one : label x ≡ procedure_stream j p [] = cc in
    let others : map label xs ≡ procedure_streams (suc j) ps [] = cc in
    let e : j + 0 ≡ j = omega arith in
    ap (λ z. z ∷ map stream_view xs) (with_tokens x _ _ one (h 0 ∙ ap (λ z. pick z es) e)) ∙ ap (λ z. procedure_stream j p (pick j es) ∷ z) (procedures_are (suc j) xs ps es others (λ i. h (suc i) ∙ ap (λ z. pick z es) (plus j i)))
  where
    plus : (j i : ℕ) → j + suc i ≡ suc j + i
    plus j i = omega arith

-- the streams at the end of the text
pub all_streams : (n : ℕ) (c : Cutter) (ts : List Token) → So n c ts → map stream_view c.streams.items ≡ main_streams n ts
all_streams n c ts h = on c.streams.items h.labels h.sent
  where
    plus : (j i : ℕ) → j + suc i ≡ suc j + i
    plus j i = omega arith

    on : (xs : List StreamTokens) → map label xs ≡ labels_after n ts → ((j : ℕ) → item j xs ≡ pick (n + j) (events (start n) ts)) → map stream_view xs ≡ main_streams n ts
    on [] l s = cc
    on (x ∷ xs) l s =
        let one : label x ≡ module_stream n [] = cc in
        let others : map label xs ≡ procedure_streams (suc n) (opened (start n) ts) [] = cc in
        let e : n + 0 ≡ n = omega arith in
        ap (λ z. z ∷ map stream_view xs) (with_tokens x _ _ one (s 0 ∙ ap (λ z. pick z (events (start n) ts)) e))
        ∙ ap (λ z. module_stream n (pick n (events (start n) ts)) ∷ z) (procedures_are (suc n) xs (opened (start n) ts) (events (start n) ts) others (λ i. s (suc i) ∙ ap (λ z. pick z (events (start n) ts)) (plus n i)))
