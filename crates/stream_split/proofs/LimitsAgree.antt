-- The limit that the cut passes is that of the text.
use Rattle.std.proofs.Common.{◌≡◌, ℕ, zero, suc, Bool, true, false, List, [], ◌∷◌, ◌++◌, refl, sym, ap, ◌∙◌, subst, length, ◌+◌, ◌==◌, arith, Option, Some, None, if◌then◌else◌, nat_lt, slice_get}
use Rattle.m2_base.specs.declared.token.Token.{Token}
use Rattle.m2_base.specs.Statics.BlockLimits.{Begun, BlockLimit, too_many_procedures, too_deep_procedure, limit_from, limit_of}
use Rattle.m2_base.specs.Lists.{Each}
use Rattle.m2_base.specs.Units.{AreNumbered, IsText, IsUnit, TextOf, UnitTexts}
use Rattle.stream_split.specs.declared.sorts.Sort.{Sort}
use Rattle.stream_split.specs.declared.sorts.Sort.TheVariants.{Stop, Word, Procedure, Opener, Closer, Left, Right, Semicolon, Other}
use Rattle.stream_split.specs.declared.cutter.Mode.{Mode}
use Rattle.stream_split.specs.declared.cutter.Mode.TheVariants.{Free, Body}
use Rattle.stream_split.specs.Cut.{sort, amid, seen, heading, two_left, one_left, ended, State, state, start, next, next_by, amid_next, seen_next, heading_next, unless_stop, out_of, closed, opens_by, heading_opens}
use Rattle.stream_split.specs.Limits.{limit_at, seen_limit, first_of, passed}
use Rattle.stream_split.specs.Streams.{main_tokens, tokens_in}
use Rattle.stream_split.proofs.Beginnings.{Closes, Sound, begins_by, begun, begun_none, begun_step, numbered_closes, seen_begins, sound_next}

-- ** How many have begun

-- the procedure whose heading is read counts, but its stream has not begun
abbrev ahead : State → ℕ
ahead (state k c fs (heading m q hs)) = 1
ahead s = 0

ahead_closed : (k c : ℕ) (fs : List (ℕ × Mode)) (m : Mode) → ahead (state k c fs (closed m)) ≡ 0
ahead_closed k c fs Free = refl
ahead_closed k c fs (Body zero) = refl
ahead_closed k c fs (Body (suc d)) = refl

ahead_amid : (k c : ℕ) (fs : List (ℕ × Mode)) (m : Mode) (t : Token) (z : Sort) → ahead (state k c fs (amid_next m t z)) ≡ 0
ahead_amid k c fs m t Closer = ahead_closed k c fs m
ahead_amid k c fs m t Stop = refl
ahead_amid k c fs m t Procedure = refl
ahead_amid k c fs m t Opener = refl
ahead_amid k c fs m t Word = refl
ahead_amid k c fs m t Left = refl
ahead_amid k c fs m t Right = refl
ahead_amid k c fs m t Semicolon = refl
ahead_amid k c fs m t Other = refl

ahead_seen : (k c : ℕ) (fs : List (ℕ × Mode)) (m : Mode) (u t : Token) (z : Sort) → length (seen_begins fs u z) ≡ ahead (state k c fs (seen_next m u t z))
ahead_seen k c fs m u t Word = refl
ahead_seen k c fs m u t Closer = sym (ahead_closed k c fs m)
ahead_seen k c fs m u t Stop = refl
ahead_seen k c fs m u t Procedure = refl
ahead_seen k c fs m u t Opener = refl
ahead_seen k c fs m u t Left = refl
ahead_seen k c fs m u t Right = refl
ahead_seen k c fs m u t Semicolon = refl
ahead_seen k c fs m u t Other = refl

ahead_heading : (k c : ℕ) (fs : List (ℕ × Mode)) (m : Mode) (q : ℕ) (hs : List Token) (t : Token) (z : Sort)
    → 1 ≡ length (heading_opens k fs q z) + ahead (heading_next k c fs m q hs t z)
ahead_heading k c fs m q hs t Stop = refl
ahead_heading k c fs m zero hs t Semicolon = refl
ahead_heading k c fs m (suc q) hs t Semicolon = refl
ahead_heading k c fs m q hs t Word = refl
ahead_heading k c fs m q hs t Procedure = refl
ahead_heading k c fs m q hs t Opener = refl
ahead_heading k c fs m q hs t Closer = refl
ahead_heading k c fs m q hs t Left = refl
ahead_heading k c fs m q hs t Right = refl
ahead_heading k c fs m q hs t Other = refl

ahead_two : (k c : ℕ) (fs : List (ℕ × Mode)) (z : Sort) → ahead (state k c fs (unless_stop z ended one_left)) ≡ 0
ahead_two k c fs Stop = refl
ahead_two k c fs z = refl

ahead_out : (k c : ℕ) (fs : List (ℕ × Mode)) → ahead (out_of k c fs) ≡ 0
ahead_out k c [] = refl
ahead_out k c (f ∷ fs) = refl

ahead_one : (k c : ℕ) (fs : List (ℕ × Mode)) (z : Sort) → ahead (unless_stop z (state k c fs ended) (out_of k c fs)) ≡ 0
ahead_one k c fs Stop = refl
ahead_one k c fs z = ahead_out k c fs

-- each procedure that begins has a stream, or its heading is read
ahead_next : (s : State) (t : Token) (z : Sort) → ahead s + length (begins_by s z) ≡ length (opens_by s z) + ahead (next_by s t z)
ahead_next (state k c fs (amid m)) t z = let e = ahead_amid k c fs m t z in omega (arith, e)
ahead_next (state k c fs (seen m u)) t z = let e = ahead_seen k c fs m u t z in omega (arith, e)
ahead_next (state k c fs (heading m q hs)) t z = let e = ahead_heading k c fs m q hs t z in omega (arith, e)
ahead_next (state k c fs two_left) t z = let e = ahead_two k c fs z in omega (arith, e)
ahead_next (state k c fs one_left) t z = let e = ahead_one k c fs z in omega (arith, e)
ahead_next (state k c fs ended) t z = refl

-- ** Limits

first_by : (a b : Bool) (x y : BlockLimit) (o : Option BlockLimit)
    → first_of (if a then Some x else (if b then Some y else None)) o ≡ (if a then Some x else (if b then Some y else o))
first_by true b x y o = refl
first_by false true x y o = refl
first_by false false x y o = refl

plus_none : (n : ℕ) → n + 0 ≡ n
plus_none n = omega arith

seen_limited : (n : ℕ) (fs : List (ℕ × Mode)) (u : Token) (z : Sort) (ps : List Begun)
    → first_of (seen_limit n fs u z) (limit_from (n + length (seen_begins fs u z)) ps) ≡ limit_from n (seen_begins fs u z ++ ps)
seen_limited n fs u Word ps = first_by (n == 16384) (nat_lt 16 (length fs + 1)) (too_many_procedures u.at) (too_deep_procedure u.at) (limit_from (n + 1) ps)
seen_limited n fs u Stop ps = ap (λ i. limit_from i ps) (plus_none n)
seen_limited n fs u Procedure ps = ap (λ i. limit_from i ps) (plus_none n)
seen_limited n fs u Opener ps = ap (λ i. limit_from i ps) (plus_none n)
seen_limited n fs u Closer ps = ap (λ i. limit_from i ps) (plus_none n)
seen_limited n fs u Left ps = ap (λ i. limit_from i ps) (plus_none n)
seen_limited n fs u Right ps = ap (λ i. limit_from i ps) (plus_none n)
seen_limited n fs u Semicolon ps = ap (λ i. limit_from i ps) (plus_none n)
seen_limited n fs u Other ps = ap (λ i. limit_from i ps) (plus_none n)

limited : (n : ℕ) (s : State) (z : Sort) (ps : List Begun)
    → first_of (limit_at n s z) (limit_from (n + ahead s + length (begins_by s z)) ps) ≡ limit_from (n + ahead s) (begins_by s z ++ ps)
limited n (state k c fs (amid m)) z ps = ap (λ i. limit_from i ps) (plus_none (n + 0))
limited n (state k c fs (seen m u)) z ps =
    ap (λ i. first_of (seen_limit n fs u z) (limit_from (i + length (seen_begins fs u z)) ps)) (plus_none n) ∙ seen_limited n fs u z ps
    ∙ ap (λ i. limit_from i (seen_begins fs u z ++ ps)) (sym (plus_none n))
limited n (state k c fs (heading m q hs)) z ps = ap (λ i. limit_from i ps) (plus_none (n + 1))
limited n (state k c fs two_left) z ps = ap (λ i. limit_from i ps) (plus_none (n + 0))
limited n (state k c fs one_left) z ps = ap (λ i. limit_from i ps) (plus_none (n + 0))
limited n (state k c fs ended) z ps = ap (λ i. limit_from i ps) (plus_none (n + 0))

passed_is : (n : ℕ) (s : State) (ts : List Token) → Sound s ts → Closes ts → passed n s ts ≡ limit_from (n + ahead s) (begun s ts)
passed_is n s [] h e = sym (ap (limit_from (n + ahead s)) (begun_none s))
passed_is n s (t ∷ ts) h e =
    let z : Sort = sort t.kind in
    let count : n + length (opens_by s z) + ahead (next s t) ≡ n + ahead s + length (begins_by s z) = (let i = ahead_next s t z in omega (arith, i)) in
    ap (first_of (limit_at n s z)) (passed_is (n + length (opens_by s z)) (next s t) ts (sound_next s t ts h e.0) e.1)
    ∙ ap (λ i. first_of (limit_at n s z) (limit_from i (begun (next s t) ts))) count
    ∙ limited n s z (begun (next s t) ts) ∙ ap (limit_from (n + ahead s)) (sym (begun_step s t ts h e.0))

-- the cut of a text passes its limit
pub passed_is_limit : (m at : ℕ) (ts : List Token) → AreNumbered at ts → passed 0 (start m) ts ≡ limit_of ts
passed_is_limit m at ts h = passed_is 0 (start m) ts refl (numbered_closes at ts h)

unit_numbered : (u : UnitTexts) → IsUnit u → (t : TextOf) → slice_get u.list 0 ≡ Some t → AreNumbered 0 t.tokens
unit_numbered u h t e = on u.list h.texts e
  where
    on : (list : List TextOf) → Each (IsText u.names) list → slice_get list 0 ≡ Some t → AreNumbered 0 t.tokens
    on [] a e = cc
    on (x ∷ list) a e = let same : x ≡ t = cc in subst (λ z. AreNumbered 0 z.tokens) same a.0.numbered

-- the limit of a unit's main text
pub unit_limit : (u : UnitTexts) → IsUnit u → (t : TextOf) → slice_get u.list 0 ≡ Some t → (m : ℕ) (ts : List Token) → ts ≡ t.tokens
    → passed 0 (start m) ts ≡ limit_of (main_tokens u)
unit_limit u h t e m ts i =
    let main : ts ≡ main_tokens u = i ∙ sym (ap tokens_in e) in
    passed_is_limit m 0 ts (subst (AreNumbered 0) (sym i) (unit_numbered u h t e)) ∙ ap limit_of main
