-- Each procedure that begins in a main text has its stream.
use Rattle.std.proofs.Common.{◌≡◌, ℕ, zero, suc, List, [], ◌∷◌, ◌++◌, refl, sym, ap, ◌∙◌, subst, append_assoc, length, length-append, ◌<◌, ◌≤◌, ◌+◌, arith, All, Some, slice_get}
use Rattle.std.proofs.lemmas.List.Elements.{All-nil}
use Rattle.m2_base.specs.declared.token.Token.{Token}
use Rattle.m2_base.specs.Statics.BlockLimits.{Begun, procedures_of}
use Rattle.m2_base.specs.Units.{AreNumbered}
use Rattle.stream_split.specs.declared.sorts.Sort.{Sort}
use Rattle.stream_split.specs.declared.sorts.Sort.TheVariants.{Stop, Word, Procedure, Opener, Closer, Left, Right, Semicolon, Other}
use Rattle.stream_split.specs.declared.cutter.Mode.{Mode}
use Rattle.stream_split.specs.declared.cutter.Mode.TheVariants.{Free, Body}
use Rattle.stream_split.specs.Cut.{Enclosed, Event, sort, amid, seen, heading, two_left, one_left, ended, State, state, start, next, next_by, goes, all_end, amid_next, seen_next, heading_goes, heading_next, heading_opens, opens_by, opened, events, unless_stop, out_of, closed, to, cut_at, pick}
use Rattle.stream_split.specs.Procedures.{HasStream, first_at}
use Rattle.stream_split.specs.Streams.{procedure_stream, procedure_streams}
use Rattle.stream_split.proofs.Beginnings.{Closes, IsSome, Sound, begins_by, begun, begun_none, begun_step, numbered_closes, seen_begins, sound_next}
use Rattle.stream_split.proofs.Future.{Well, well, well_next, all_map, apart, count, count_out, goes_new, pick_ends, pick_skip, unless_count}
use Rattle.stream_split.proofs.Picks.{pick_append, pick_other, pick_own}

-- ** Headings that end

abbrev first_of : List Token → ℕ
first_of [] = 0
first_of (t ∷ ts) = t.at

first_more : (hs us : List Token) → IsSome hs → first_of hs ≡ first_of (hs ++ us)
first_more [] us h = absurd h
first_more (t ∷ hs) us h = refl

first_is : (hs us : List Token) → IsSome hs → first_at (hs ++ us) ≡ Some (first_of hs)
first_is [] us h = absurd h
first_is (t ∷ hs) us h = refl

-- the procedure that begins with these tokens
abbrev headed : List (ℕ × Mode) → List Token → Begun
headed fs hs = record { at = first_of hs; level = length fs + 1 }

-- the procedure whose heading is read
abbrev waiting : State → List Begun
waiting (state k c fs (heading m q hs)) = headed fs hs ∷ []
waiting s = []

-- the procedure whose heading ends with a token of this sort
abbrev heading_ends : List (ℕ × Mode) → ℕ → List Token → Sort → List Begun
heading_ends fs p hs Stop = headed fs hs ∷ []
heading_ends fs zero hs Semicolon = headed fs hs ∷ []
heading_ends fs p hs z = []

abbrev ends_by : State → Sort → List Begun
ends_by (state k c fs (heading m p hs)) z = heading_ends fs p hs z
ends_by s z = []

-- those whose headings end, in their order
abbrev headings : State → List Token → List Begun
headings s [] = []
headings s (t ∷ ts) = ends_by s (sort t.kind) ++ headings (next s t) ts

waiting_closed : (k c : ℕ) (fs : List (ℕ × Mode)) (m : Mode) → [] ≡ waiting (state k c fs (closed m))
waiting_closed k c fs Free = refl
waiting_closed k c fs (Body zero) = refl
waiting_closed k c fs (Body (suc d)) = refl

waiting_amid : (k c : ℕ) (fs : List (ℕ × Mode)) (m : Mode) (t : Token) (z : Sort) → [] ≡ waiting (state k c fs (amid_next m t z))
waiting_amid k c fs m t Closer = waiting_closed k c fs m
waiting_amid k c fs m t Stop = refl
waiting_amid k c fs m t Word = refl
waiting_amid k c fs m t Procedure = refl
waiting_amid k c fs m t Opener = refl
waiting_amid k c fs m t Left = refl
waiting_amid k c fs m t Right = refl
waiting_amid k c fs m t Semicolon = refl
waiting_amid k c fs m t Other = refl

waiting_seen : (k c : ℕ) (fs : List (ℕ × Mode)) (m : Mode) (u t : Token) (z : Sort) → seen_begins fs u z ≡ waiting (state k c fs (seen_next m u t z))
waiting_seen k c fs m u t Word = refl
waiting_seen k c fs m u t Closer = waiting_closed k c fs m
waiting_seen k c fs m u t Stop = refl
waiting_seen k c fs m u t Procedure = refl
waiting_seen k c fs m u t Opener = refl
waiting_seen k c fs m u t Left = refl
waiting_seen k c fs m u t Right = refl
waiting_seen k c fs m u t Semicolon = refl
waiting_seen k c fs m u t Other = refl

heading_on : (fs : List (ℕ × Mode)) (hs : List Token) (t : Token) → IsSome hs → (headed fs hs ∷ []) ≡ headed fs (hs ++ (t ∷ [])) ∷ []
heading_on fs hs t i = ap (λ n. record { at = n; level = length fs + 1 } ∷ []) (first_more hs (t ∷ []) i)

waiting_heading : (k c : ℕ) (fs : List (ℕ × Mode)) (m : Mode) (q : ℕ) (hs : List Token) (t : Token) (z : Sort) → IsSome hs
    → (headed fs hs ∷ []) ≡ heading_ends fs q hs z ++ waiting (heading_next k c fs m q hs t z)
waiting_heading k c fs m q hs t Stop i = refl
waiting_heading k c fs m zero hs t Semicolon i = refl
waiting_heading k c fs m (suc q) hs t Semicolon i = heading_on fs hs t i
waiting_heading k c fs m q hs t Word i = heading_on fs hs t i
waiting_heading k c fs m q hs t Procedure i = heading_on fs hs t i
waiting_heading k c fs m q hs t Opener i = heading_on fs hs t i
waiting_heading k c fs m q hs t Closer i = heading_on fs hs t i
waiting_heading k c fs m q hs t Left i = heading_on fs hs t i
waiting_heading k c fs m q hs t Right i = heading_on fs hs t i
waiting_heading k c fs m q hs t Other i = heading_on fs hs t i

waiting_two : (k c : ℕ) (fs : List (ℕ × Mode)) (z : Sort) → [] ≡ waiting (state k c fs (unless_stop z ended one_left))
waiting_two k c fs Stop = refl
waiting_two k c fs z = refl

waiting_out : (k c : ℕ) (fs : List (ℕ × Mode)) → [] ≡ waiting (out_of k c fs)
waiting_out k c [] = refl
waiting_out k c (f ∷ fs) = refl

waiting_one : (k c : ℕ) (fs : List (ℕ × Mode)) (z : Sort) → [] ≡ waiting (unless_stop z (state k c fs ended) (out_of k c fs))
waiting_one k c fs Stop = refl
waiting_one k c fs z = waiting_out k c fs

-- what begins with a token waits until its heading ends
waiting_next : (s : State) (t : Token) (ts : List Token) (z : Sort) → Sound s ts → waiting s ++ begins_by s z ≡ ends_by s z ++ waiting (next_by s t z)
waiting_next (state k c fs (amid m)) t ts z h = waiting_amid k c fs m t z
waiting_next (state k c fs (seen m u)) t ts z h = waiting_seen k c fs m u t z
waiting_next (state k c fs (heading m q hs)) t ts z h = waiting_heading k c fs m q hs t z h.1
waiting_next (state k c fs two_left) t ts z h = waiting_two k c fs z
waiting_next (state k c fs one_left) t ts z h = waiting_one k c fs z
waiting_next (state k c fs ended) t ts z h = refl

-- at the end of the text all headings have ended
none_waits : (s : State) (t : Token) (z : Sort) → z ≡ Stop → waiting (next_by s t z) ≡ []
none_waits (state k c fs (amid m)) t Stop e = refl
none_waits (state k c fs (seen m u)) t Stop e = refl
none_waits (state k c fs (heading m q hs)) t Stop e = refl
none_waits (state k c fs two_left) t Stop e = refl
none_waits (state k c fs one_left) t Stop e = refl
none_waits (state k c fs ended) t Stop e = refl
none_waits s t Word e = cc
none_waits s t Procedure e = cc
none_waits s t Opener e = cc
none_waits s t Closer e = cc
none_waits s t Left e = cc
none_waits s t Right e = cc
none_waits s t Semicolon e = cc
none_waits s t Other e = cc

one_more : (s : State) (t : Token) (ts : List Token) → Sound s (t ∷ ts) → (sort t.kind ≡ Stop → ts ≡ [])
    → waiting s ++ begun s (t ∷ ts) ≡ ends_by s (sort t.kind) ++ (waiting (next s t) ++ begun (next s t) ts)
one_more s t ts h e =
    let z : Sort = sort t.kind in
    ap (λ bs. waiting s ++ bs) (begun_step s t ts h e) ∙ sym (append_assoc (waiting s) (begins_by s z) (begun (next s t) ts))
    ∙ ap (λ bs. bs ++ begun (next s t) ts) (waiting_next s t (t ∷ ts) z h) ∙ append_assoc (ends_by s z) (waiting (next s t)) (begun (next s t) ts)

-- the headings that end are those of the procedures that begin
headings_are : (at : ℕ) (s : State) (ts : List Token) → AreNumbered at ts → Sound s ts → Closes ts → headings s ts ≡ waiting s ++ begun s ts
headings_are at s [] n h e = absurd n
headings_are at s (t ∷ []) n h e =
    let z : Sort = sort t.kind in
    let none : waiting (next s t) ++ begun (next s t) [] ≡ [] = (λ k. none_waits s t z (ap sort n.0) k ++ begun_none (next s t) k) in
    ap (λ bs. ends_by s z ++ bs) (sym none) ∙ sym (one_more s t [] h e.0)
headings_are at s (t ∷ u ∷ ts) n h e =
    ap (λ bs. ends_by s (sort t.kind) ++ bs) (headings_are (at + 1) (next s t) (u ∷ ts) n.2 (sound_next s t (u ∷ ts) h e.0) e.1) ∙ sym (one_more s t (u ∷ ts) h e.0)

-- ** Streams that begin

-- What a token does to the streams from number c on: they get nothing, or the first of them begins, whose procedure is known.
data Turn (c c' : ℕ) (es : List Event) (bs : List Begun) (ps : List Enclosed) : Type 0 where
  none : c' ≡ c → bs ≡ [] → ps ≡ [] → ((j : ℕ) → c ≤ j → pick j es ≡ []) → Turn c c' es bs ps
  one : {b : Begun} {p : Enclosed} → c' ≡ suc c → bs ≡ b ∷ [] → ps ≡ p ∷ [] → p.level ≡ b.level → p.outer < c → first_at (pick c es) ≡ Some b.at → ((j : ℕ) → suc c ≤ j → pick j es ≡ [])
      → Turn c c' es bs ps

turn_on : (k c c' : ℕ) (t : Token) (bs : List Begun) (ps : List Enclosed) → k < c → c' ≡ c → bs ≡ [] → ps ≡ [] → Turn c c' ((k, t) ∷ []) bs ps
turn_on k c c' t bs ps l e b p = none e b p (λ j n. pick_skip j k t [] (apart j k (omega (arith, l, n))))

turn_heading : (k c : ℕ) (fs : List (ℕ × Mode)) (m : Mode) (q : ℕ) (hs : List Token) (t : Token) (z : Sort) → k < c → All (λ f. f.0 < c) fs → IsSome hs
    → Turn c (count (heading_next k c fs m q hs t z)) (heading_goes k c fs q hs t z) (heading_ends fs q hs z) (heading_opens k fs q z)
turn_heading k c fs m q hs t Stop l a i =
    let us : List Token = hs ++ (t ∷ []) in
    let es : List Event = all_end fs t ++ to c us in
    one refl refl refl refl l
    (ap first_at (pick_skip c k t es (apart c k l) ∙ pick_append c (all_end fs t) (to c us) ∙ ap (λ xs. xs ++ pick c (to c us)) (pick_ends c fs t a) ∙ pick_own c us) ∙ first_is hs (t ∷ []) i)
    (λ j n. pick_skip j k t es (apart j k (omega (arith, l, n))) ∙ pick_append j (all_end fs t) (to c us)
    ∙ ap (λ xs. xs ++ pick j (to c us)) (pick_ends j fs t (all_map {P = λ f. f.0 < c} {Q = λ f. f.0 < j} fs (λ f h. omega (arith, h, n)) a)) ∙ pick_other j c us (apart j c (omega (arith, n))))
turn_heading k c fs m zero hs t Semicolon l a i =
    let us : List Token = hs ++ (t ∷ []) in
    one refl refl refl refl l
    (ap first_at (pick_skip c k t ((k, cut_at c t) ∷ to c us) (apart c k l) ∙ pick_skip c k (cut_at c t) (to c us) (apart c k l) ∙ pick_own c us) ∙ first_is hs (t ∷ []) i)
    (λ j n. pick_skip j k t ((k, cut_at c t) ∷ to c us) (apart j k (omega (arith, l, n))) ∙ pick_skip j k (cut_at c t) (to c us) (apart j k (omega (arith, l, n))) ∙ pick_other j c us (apart j c (omega (arith, n))))
turn_heading k c fs m (suc q) hs t Semicolon l a i = turn_on k c c t [] [] l refl refl refl
turn_heading k c fs m q hs t Word l a i = turn_on k c c t [] [] l refl refl refl
turn_heading k c fs m q hs t Procedure l a i = turn_on k c c t [] [] l refl refl refl
turn_heading k c fs m q hs t Opener l a i = turn_on k c c t [] [] l refl refl refl
turn_heading k c fs m q hs t Closer l a i = turn_on k c c t [] [] l refl refl refl
turn_heading k c fs m q hs t Left l a i = turn_on k c c t [] [] l refl refl refl
turn_heading k c fs m q hs t Right l a i = turn_on k c c t [] [] l refl refl refl
turn_heading k c fs m q hs t Other l a i = turn_on k c c t [] [] l refl refl refl

turn : (s : State) (t : Token) (ts : List Token) → Well s → Sound s ts → Turn (count s) (count (next s t)) (goes s t) (ends_by s (sort t.kind)) (opens_by s (sort t.kind))
turn _ t ts (well {k = k} {c = c} {fs = fs} {p = amid m} l a h) s = none refl refl refl (λ j n. goes_new j (state k c fs (amid m)) t (well l a h) n (λ x e. x))
turn _ t ts (well {k = k} {c = c} {fs = fs} {p = seen m u} l a h) s = none refl refl refl (λ j n. goes_new j (state k c fs (seen m u)) t (well l a h) n (λ x e. x))
turn _ t ts (well {k = k} {c = c} {fs = fs} {p = heading m q hs} l a h) s = turn_heading k c fs m q hs t (sort t.kind) l a s.1
turn _ t ts (well {k = k} {c = c} {fs = fs} {p = two_left} l a h) s = none refl refl refl (λ j n. goes_new j (state k c fs two_left) t (well l a h) n (λ x e. x))
turn _ t ts (well {k = k} {c = c} {fs = fs} {p = one_left} l a h) s =
    none (unless_count (sort t.kind) (state k c fs ended) (out_of k c fs) c refl (count_out k c fs)) refl refl (λ j n. goes_new j (state k c fs one_left) t (well l a h) n (λ x e. x))
turn _ t ts (well {k = k} {c = c} {fs = fs} {p = ended} l a h) s = none refl refl refl (λ j n. goes_new j (state k c fs ended) t (well l a h) n (λ x e. x))

-- the stream of the procedure with this index begins, with the same level and the procedure's first token
record Begins (s : State) (ts : List Token) (k : ℕ) (b : Begun) : Type 0 where
  enclosed_is : Enclosed
  there : slice_get (opened s ts) k ≡ Some enclosed_is
  level : enclosed_is.level ≡ b.level
  outer : enclosed_is.outer < count s + k
  first : first_at (pick (count s + k) (events s ts)) ≡ Some b.at

first_then : (xs ys : List Token) (n : ℕ) → first_at xs ≡ Some n → first_at (xs ++ ys) ≡ Some n
first_then [] ys n h = cc
first_then (x ∷ xs) ys n h = h

begins : (s : State) (ts : List Token) → Well s → Sound s ts → Closes ts → (k : ℕ) (b : Begun) → slice_get (headings s ts) k ≡ Some b → Begins s ts k b
begins s [] w h e k b g = cc
begins s (t ∷ ts) w h e k b g = by (turn s t (t ∷ ts) w h) (begins (next s t) ts (well_next s t w) (sound_next s t ts h e.0) e.1)
  where
    by : Turn (count s) (count (next s t)) (goes s t) (ends_by s (sort t.kind)) (opens_by s (sort t.kind)) → ((i : ℕ) (c : Begun) → slice_get (headings (next s t) ts) i ≡ Some c → Begins (next s t) ts i c)
        → Begins s (t ∷ ts) k b
    by (none c' bs ps rest_none) rest =
        let i = rest k b (ap (λ xs. slice_get (xs ++ headings (next s t) ts) k) (sym bs) ∙ g) in
        let same : count (next s t) + k ≡ count s + k = ap (λ n. n + k) c' in
        record {
          enclosed_is = i.enclosed_is;
          there = ap (λ xs. slice_get (xs ++ opened (next s t) ts) k) ps ∙ i.there;
          level = i.level;
          outer = subst (λ n. i.enclosed_is.outer < n) same i.outer;
          first =
              ap first_at (pick_append (count s + k) (goes s t) (events (next s t) ts) ∙ ap (λ xs. xs ++ pick (count s + k) (events (next s t) ts)) (rest_none (count s + k) (omega arith)))
              ∙ ap (λ n. first_at (pick n (events (next s t) ts))) (sym same) ∙ i.first;
        }
    by (one {b = x} {p = p} c' bs ps l o f rest_none) rest = at_index k g
      where
        at_index : (i : ℕ) → slice_get (ends_by s (sort t.kind) ++ headings (next s t) ts) i ≡ Some b → Begins s (t ∷ ts) i b
        at_index zero g =
            let is : x ≡ b = (let e' = ap (λ xs. slice_get (xs ++ headings (next s t) ts) 0) (sym bs) ∙ g in cc) in
            let here : count s + 0 ≡ count s = omega arith in
            record {
              enclosed_is = p;
              there = ap (λ xs. slice_get (xs ++ opened (next s t) ts) 0) ps;
              level = l ∙ ap (λ (y : Begun). y.level) is;
              outer = omega (arith, o);
              first =
                  ap (λ n. first_at (pick n (events s (t ∷ ts)))) here ∙ ap first_at (pick_append (count s) (goes s t) (events (next s t) ts))
                  ∙ first_then (pick (count s) (goes s t)) (pick (count s) (events (next s t) ts)) b.at (f ∙ ap (λ (y : Begun). Some y.at) is);
            }
        at_index (suc i) g =
            let r = rest i b (ap (λ xs. slice_get (xs ++ headings (next s t) ts) (suc i)) (sym bs) ∙ g) in
            let same : count (next s t) + i ≡ count s + suc i = omega (arith, c') in
            record {
              enclosed_is = r.enclosed_is;
              there = ap (λ xs. slice_get (xs ++ opened (next s t) ts) (suc i)) ps ∙ r.there;
              level = r.level;
              outer = subst (λ n. r.enclosed_is.outer < n) same r.outer;
              first =
                  ap first_at (pick_append (count s + suc i) (goes s t) (events (next s t) ts) ∙ ap (λ xs. xs ++ pick (count s + suc i) (events (next s t) ts)) (rest_none (count s + suc i) (omega arith)))
                  ∙ ap (λ n. first_at (pick n (events (next s t) ts))) (sym same) ∙ r.first;
            }

-- as many streams begin as headings end
as_many : (s : State) (ts : List Token) → Well s → Sound s ts → Closes ts → length (opened s ts) ≡ length (headings s ts)
as_many s [] w h e = refl
as_many s (t ∷ ts) w h e =
    let rest = as_many (next s t) ts (well_next s t w) (sound_next s t ts h e.0) e.1 in
    let a = length-append (opens_by s (sort t.kind)) (opened (next s t) ts) in
    let b = length-append (ends_by s (sort t.kind)) (headings (next s t) ts) in
    let c = by (turn s t (t ∷ ts) w h) in
    omega (arith, rest, a, b, c)
  where
    by : Turn (count s) (count (next s t)) (goes s t) (ends_by s (sort t.kind)) (opens_by s (sort t.kind)) → length (opens_by s (sort t.kind)) ≡ length (ends_by s (sort t.kind))
    by (none c' bs ps rest_none) = ap length ps ∙ sym (ap length bs)
    by (one c' bs ps l o f rest_none) = ap length ps ∙ sym (ap length bs)

-- the stream round each that begins has a lower number
outers : (s : State) (ts : List Token) → Well s → Sound s ts → Closes ts → (k : ℕ) (p : Enclosed) → slice_get (opened s ts) k ≡ Some p → p.outer < count s + k
outers s [] w h e k p g = cc
outers s (t ∷ ts) w h e k p g = by (turn s t (t ∷ ts) w h) (outers (next s t) ts (well_next s t w) (sound_next s t ts h e.0) e.1)
  where
    by : Turn (count s) (count (next s t)) (goes s t) (ends_by s (sort t.kind)) (opens_by s (sort t.kind)) → ((i : ℕ) (q : Enclosed) → slice_get (opened (next s t) ts) i ≡ Some q → q.outer < count (next s t) + i)
        → p.outer < count s + k
    by (none c' bs ps rest_none) rest = let low = rest k p (ap (λ xs. slice_get (xs ++ opened (next s t) ts) k) (sym ps) ∙ g) in omega (arith, low, c')
    by (one {p = x} c' bs ps l o f rest_none) rest = at_index k (ap (λ xs. slice_get (xs ++ opened (next s t) ts) k) (sym ps) ∙ g)
      where
        at_index : (i : ℕ) → slice_get (x ∷ opened (next s t) ts) i ≡ Some p → p.outer < count s + i
        at_index zero g = let same : x ≡ p = cc in let out = ap (λ (y : Enclosed). y.outer) same in omega (arith, o, out)
        at_index (suc i) g = let low = rest i p g in omega (arith, low, c')

-- ** Main texts

started : (m : ℕ) → Well (start m)
started m = well (omega arith) (All-nil (λ f. f.0 < suc m)) tt

headings_of : (m at : ℕ) (ts : List Token) → AreNumbered at ts → headings (start m) ts ≡ procedures_of ts
headings_of m at ts n = headings_are at (start m) ts n refl (numbered_closes at ts n)

-- a main text has as many streams of procedures as procedures begin in it
pub procedures_counted : (m at : ℕ) (ts : List Token) → AreNumbered at ts → length (opened (start m) ts) ≡ length (procedures_of ts)
procedures_counted m at ts n = as_many (start m) ts (started m) refl (numbered_closes at ts n) ∙ ap length (headings_of m at ts n)

got_stream : (c : ℕ) (ps : List Enclosed) (es : List Event) (k : ℕ) (p : Enclosed) → slice_get ps k ≡ Some p → slice_get (procedure_streams c ps es) k ≡ Some (procedure_stream (c + k) p (pick (c + k) es))
got_stream c [] es k p h = cc
got_stream c (x ∷ ps) es zero p h =
    let same : x ≡ p = cc in
    let here : c ≡ c + 0 = omega arith in
    λ i. Some (procedure_stream (here i) (same i) (pick (here i) es))
got_stream c (x ∷ ps) es (suc k) p h =
    let next_is : suc c + k ≡ c + suc k = omega arith in got_stream (suc c) ps es k p h ∙ ap (λ n. Some (procedure_stream n p (pick n es))) next_is

-- each has the stream with its index among those of procedures
pub procedure_has : (m at : ℕ) (ts : List Token) → AreNumbered at ts → (k : ℕ) (b : Begun) → slice_get (procedures_of ts) k ≡ Some b
    → HasStream (procedure_streams (suc m) (opened (start m) ts) (events (start m) ts)) k (suc m + k) b
procedure_has m at ts n k b g =
    let i = begins (start m) ts (started m) refl (numbered_closes at ts n) k b (ap (λ bs. slice_get bs k) (headings_of m at ts n) ∙ g) in
    record {
      stream = procedure_stream (suc m + k) i.enclosed_is (pick (suc m + k) (events (start m) ts));
      there = got_stream (suc m) (opened (start m) ts) (events (start m) ts) k i.enclosed_is i.there;
      is = record { number_is = refl; text_is = refl; kind_is = refl; level_is = i.level; begins = i.first };
    }

-- the stream round a procedure's has a lower number
pub procedure_outer : (m at : ℕ) (ts : List Token) → AreNumbered at ts → (k : ℕ) (p : Enclosed) → slice_get (opened (start m) ts) k ≡ Some p → p.outer < suc m + k
procedure_outer m at ts n k p g = outers (start m) ts (started m) refl (numbered_closes at ts n) k p g
