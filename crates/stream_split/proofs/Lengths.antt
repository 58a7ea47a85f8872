-- How long a stream may be.
use Rattle.std.proofs.Common.{◌≡◌, ℕ, zero, suc, Bool, true, false, List, [], ◌∷◌, ◌++◌, refl, sym, ap, subst, length, length-append, ◌<◌, ◌≤◌, ◌+◌, ◌*◌, ◌^◌, ◌==◌, arith, All, cond, map, slice_get}
use Rattle.std.proofs.lemmas.List.Elements.{All-head, All-tail, All-append, All-cons, All-nil}
use Rattle.m2_base.specs.declared.token.Token.{Token}
use Rattle.m2_base.specs.Lists.{Each}
use Rattle.m2_base.specs.Units.{IsText, IsUnit, TextOf, UnitTexts}
use Rattle.stream_split.specs.declared.cutter.Mode.{Mode}
use Rattle.stream_split.specs.declared.cutter.Mode.TheVariants.{Free, Body}
use Rattle.stream_split.specs.declared.sorts.Sort.{Sort}
use Rattle.stream_split.specs.declared.sorts.Sort.TheVariants.{Stop, Word, Procedure, Opener, Closer, Left, Right, Semicolon, Other}
use Rattle.stream_split.specs.declared.streams.StreamTokens.{StreamTokens}
use Rattle.stream_split.specs.Cut.{Enclosed, Event, amid, seen, heading, two_left, one_left, ended, State, state, start, next, next_by, goes, goes_by, all_end, heading_goes, heading_next, to, events, opened, pick, sort}
use Rattle.stream_split.specs.Streams.{StreamOf, main_streams, procedure_streams, definition_streams, tokens_in, main_tokens, main_number, streams_of}
use Rattle.stream_split.specs.Views.{stream_view}

-- the most tokens that one stream has of a list of tokens
pick_count : (j : ℕ) (es : List Event) → length (pick j es) ≤ length es
pick_count j [] = omega arith
pick_count j (e ∷ es) = by (j == e.0) (pick_count j es)
  where
    by : (b : Bool) → length (pick j es) ≤ length es → length (cond b (e.1 ∷ pick j es) (pick j es)) ≤ suc (length es)
    by true i = omega (arith, i)
    by false i = omega (arith, i)

ends_count : (fs : List (ℕ × Mode)) (t : Token) → length (all_end fs t) ≡ length fs
ends_count [] t = refl
ends_count (f ∷ fs) t = ap suc (ends_count fs t)

to_count : (k : ℕ) (ts : List Token) → length (to k ts) ≡ length ts
to_count k [] = refl
to_count k (t ∷ ts) = ap suc (to_count k ts)

-- the events that are owed for tokens that were read
abbrev pending : State → ℕ
pending (state k c fs ended) = 0
pending (state k c fs (heading m p hs)) = length fs + length hs
pending (state k c fs p) = length fs

amid_count : (k c : ℕ) (fs : List (ℕ × Mode)) (m : Mode) (t : Token) (z : Sort)
    → length (goes_by (state k c fs (amid m)) t z) + pending (next_by (state k c fs (amid m)) t z) ≤ 4 + length fs
amid_count k c fs m t Stop = let e = ends_count fs t in omega (arith, e)
amid_count k c fs m t Word = omega arith
amid_count k c fs m t Procedure = omega arith
amid_count k c fs Free t Opener = omega arith
amid_count k c fs (Body d) t Opener = omega arith
amid_count k c fs Free t Closer = omega arith
amid_count k c fs (Body zero) t Closer = omega arith
amid_count k c fs (Body (suc d)) t Closer = omega arith
amid_count k c fs m t Left = omega arith
amid_count k c fs m t Right = omega arith
amid_count k c fs m t Semicolon = omega arith
amid_count k c fs m t Other = omega arith

seen_count : (k c : ℕ) (fs : List (ℕ × Mode)) (m : Mode) (p t : Token) (z : Sort)
    → length (goes_by (state k c fs (seen m p)) t z) + pending (next_by (state k c fs (seen m p)) t z) ≤ 4 + length fs
seen_count k c fs m p t Word = omega arith
seen_count k c fs m p t z = amid_count k c fs m t z

heading_count : (k c : ℕ) (fs : List (ℕ × Mode)) (m : Mode) (q : ℕ) (hs : List Token) (t : Token) (z : Sort)
    → length (heading_goes k c fs q hs t z) + pending (heading_next k c fs m q hs t z) ≤ 4 + (length fs + length hs)
heading_count k c fs m q hs t Stop =
    let e = ends_count fs t in
    let h = to_count c (hs ++ (t ∷ [])) in
    let l = length-append hs (t ∷ []) in
    let a = length-append (all_end fs t) (to c (hs ++ (t ∷ []))) in
    omega (arith, e, h, l, a)
heading_count k c fs m zero hs t Semicolon = let h = to_count c (hs ++ (t ∷ [])) in let l = length-append hs (t ∷ []) in omega (arith, h, l)
heading_count k c fs m (suc q) hs t Semicolon = let l = length-append hs (t ∷ []) in omega (arith, l)
heading_count k c fs m q hs t Word = let l = length-append hs (t ∷ []) in omega (arith, l)
heading_count k c fs m q hs t Procedure = let l = length-append hs (t ∷ []) in omega (arith, l)
heading_count k c fs m q hs t Opener = let l = length-append hs (t ∷ []) in omega (arith, l)
heading_count k c fs m q hs t Closer = let l = length-append hs (t ∷ []) in omega (arith, l)
heading_count k c fs m q hs t Left = let l = length-append hs (t ∷ []) in omega (arith, l)
heading_count k c fs m q hs t Right = let l = length-append hs (t ∷ []) in omega (arith, l)
heading_count k c fs m q hs t Other = let l = length-append hs (t ∷ []) in omega (arith, l)

two_count : (k c : ℕ) (fs : List (ℕ × Mode)) (t : Token) (z : Sort)
    → length (goes_by (state k c fs two_left) t z) + pending (next_by (state k c fs two_left) t z) ≤ 4 + length fs
two_count k c fs t Stop = let e = ends_count fs t in omega (arith, e)
two_count k c fs t z = omega arith

one_count : (k c : ℕ) (fs : List (ℕ × Mode)) (t : Token) (z : Sort)
    → length (goes_by (state k c fs one_left) t z) + pending (next_by (state k c fs one_left) t z) ≤ 4 + length fs
one_count k c fs t Stop = let e = ends_count fs t in omega (arith, e)
one_count k c [] t z = omega arith
one_count k c (f ∷ fs) t z = omega arith

step_count : (s : State) (t : Token) (z : Sort) → length (goes_by s t z) + pending (next_by s t z) ≤ 4 + pending s
step_count (state k c fs (amid m)) t z = amid_count k c fs m t z
step_count (state k c fs (seen m p)) t z = seen_count k c fs m p t z
step_count (state k c fs (heading m q hs)) t z = heading_count k c fs m q hs t z
step_count (state k c fs two_left) t z = two_count k c fs t z
step_count (state k c fs one_left) t z = one_count k c fs t z
step_count (state k c fs ended) t z = omega arith

events_count : (s : State) (ts : List Token) → length (events s ts) ≤ 4 * length ts + pending s
events_count s [] = omega arith
events_count s (t ∷ ts) =
    let i = events_count (next s t) ts in
    let j = step_count s t (sort t.kind) in
    let l = length-append (goes s t) (events (next s t) ts) in
    omega (arith, i, j, l)

-- a stream has fewer tokens than `sizes` may count
abbrev pub IsShort : StreamOf → Type 0
IsShort s = length s.tokens < 2 ^ 30

procedures_short : (j : ℕ) (ps : List Enclosed) (es : List Event) → length es ≤ 4194304 → All IsShort (procedure_streams j ps es)
procedures_short j [] es h = All-nil IsShort
procedures_short j (p ∷ ps) es h = let i = pick_count j es in All-cons IsShort _ _ (omega (arith, h, i)) (procedures_short (suc j) ps es h)

main_short : (m : ℕ) (ts : List Token) → length ts ≤ 1048576 → All IsShort (main_streams m ts)
main_short m ts h =
    let e = events_count (start m) ts in
    let i = pick_count m (events (start m) ts) in
    All-cons IsShort _ _ (omega (arith, h, e, i)) (procedures_short (suc m) (opened (start m) ts) (events (start m) ts) (omega (arith, h, e)))

-- a text has so many tokens at most
pub text_short : (names : List (List ℕ)) (texts : List TextOf) → Each (IsText names) texts → (k : ℕ) → length (tokens_in (slice_get texts k)) ≤ 1048576
text_short names [] h k = omega arith
text_short names (t ∷ texts) h zero = h.0.count
text_short names (t ∷ texts) h (suc k) = text_short names texts h.1 k

definitions_short : (names : List (List ℕ)) (texts : List TextOf) → Each (IsText names) texts → (j : ℕ) (order : List ℕ) → All IsShort (definition_streams j texts order)
definitions_short names texts h j [] = All-nil IsShort
definitions_short names texts h j (k ∷ order) = let i = text_short names texts h k in All-cons IsShort _ _ (omega (arith, i)) (definitions_short names texts h (suc j) order)

pub unit_short : (u : UnitTexts) → IsUnit u → All IsShort (streams_of u)
unit_short u h =
    All-append IsShort (definition_streams 1 u.list u.order) (main_streams (main_number u) (main_tokens u)) (definitions_short u.names u.list h.texts 1 u.order) (main_short (main_number u) (main_tokens u) (text_short u.names u.list h.texts 0))

-- the streams of a unit
pub streams_short : (u : UnitTexts) → IsUnit u → (streams : List StreamTokens) → map stream_view streams ≡ streams_of u → All (λ s. length s.tokens.items < 2 ^ 30) streams
streams_short u h streams e = back streams (subst (All IsShort) (sym e) (unit_short u h))
  where
    back : (xs : List StreamTokens) → All IsShort (map stream_view xs) → All (λ s. length s.tokens.items < 2 ^ 30) xs
    back [] a = All-nil (λ s. length s.tokens.items < 2 ^ 30)
    back (x ∷ xs) a =
        All-cons (λ s. length s.tokens.items < 2 ^ 30) x xs (All-head IsShort (stream_view x) (map stream_view xs) a)
        (back xs (All-tail IsShort (stream_view x) (map stream_view xs) a))
