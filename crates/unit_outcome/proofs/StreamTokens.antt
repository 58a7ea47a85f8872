-- The tokens of a unit's streams are those of their texts: each has the number of one of them.
use Rattle.std.proofs.Common.{◌≡◌, ℕ, zero, suc, Bool, true, false, List, [], ◌∷◌, ◌++◌, length, ◌<◌, ◌+◌, ◌==◌, Option, Some, arith, cond, refl, slice_get, subst, sym}
use Rattle.m2_base.specs.Finished.{main_number, main_tokens, tokens_in}
use Rattle.m2_base.specs.Lists.{Each}
use Rattle.m2_base.specs.Units.{AreNumbered, HasOneMain, IsDefinition, IsText, IsUnit, TextOf, UnitTexts}
use Rattle.m2_base.specs.declared.token.Token.{Token}
use Rattle.m2_base.proofs.EachLaws.{each_append}
use Rattle.m2_base.proofs.StandingStreams.{tokens_below}
use Rattle.stream_split.specs.declared.cutter.Mode.{Mode}
use Rattle.stream_split.specs.declared.cutter.Mode.TheVariants.{Free, Body}
use Rattle.stream_split.specs.declared.sorts.Sort.{Sort}
use Rattle.stream_split.specs.declared.sorts.Sort.TheVariants.{Stop, Word, Procedure, Closer, Left, Right, Semicolon}
use Rattle.stream_split.specs.Cut.{Enclosed, Event, Phase, all_end, amid, amid_next, end_at, ended, events, goes, goes_by, heading, heading_goes, heading_next, next, next_by, one_left, opened, out_of, pick, seen, seen_next, sort, start, State, state, to, two_left, unless_stop}
use Rattle.stream_split.specs.Streams.{StreamOf, definition_streams, main_streams, procedure_streams, streams_of}

-- ** Where they go

module _ (n : ℕ) where
  abbrev IsBelow : Token → Type 0
  IsBelow t = t.at < n

  abbrev Goes : Event → Type 0
  Goes e = e.1.at < n

  -- the tokens that a phase has
  abbrev Keeps : Phase → Type 0
  Keeps (seen m p) = IsBelow p
  Keeps (heading m p hs) = Each IsBelow hs
  Keeps other = Unit {0}

  -- and so of a state
  abbrev IsLow : State → Type 0
  IsLow (state k c fs p) = Keeps p

  ends_low : (fs : List (ℕ × Mode)) (t : Token) → IsBelow t → Each Goes (all_end fs t)
  ends_low [] t g = tt
  ends_low (f ∷ fs) t g = (g, ends_low fs t g)

  to_low : (k : ℕ) (ts : List Token) → Each IsBelow ts → Each Goes (to k ts)
  to_low k [] h = tt
  to_low k (t ∷ ts) h = (h.0, to_low k ts h.1)

  stop_low : (fs : List (ℕ × Mode)) (t : Token) (z : Sort) → IsBelow t → Each Goes (unless_stop z (all_end fs t) [])
  stop_low fs t Stop g = ends_low fs t g
  stop_low fs t z g = tt

  last_low : (k : ℕ) (fs : List (ℕ × Mode)) (t : Token) (z : Sort) → IsBelow t → Each Goes (unless_stop z (all_end fs t) ((k, end_at t) ∷ []))
  last_low k fs t Stop g = ends_low fs t g
  last_low k fs t z g = (g, tt)

  and_last : (hs : List Token) (t : Token) → Each IsBelow hs → IsBelow t → Each IsBelow (hs ++ (t ∷ []))
  and_last hs t h g = each_append IsBelow hs (t ∷ []) h (g, tt)

  heading_low : (k c : ℕ) (fs : List (ℕ × Mode)) (p : ℕ) (hs : List Token) (t : Token) (z : Sort) → Each IsBelow hs → IsBelow t → Each Goes (heading_goes k c fs p hs t z)
  heading_low k c fs p hs t Stop h g = (g, each_append Goes (all_end fs t) (to c (hs ++ (t ∷ []))) (ends_low fs t g) (to_low c (hs ++ (t ∷ [])) (and_last hs t h g)))
  heading_low k c fs zero hs t Semicolon h g = (g, (g, to_low c (hs ++ (t ∷ [])) (and_last hs t h g)))
  heading_low k c fs (suc p) hs t Semicolon h g = (g, tt)
  heading_low k c fs p hs t z h g = (g, tt)

  goes_low : (s : State) (t : Token) (z : Sort) → IsBelow t → IsLow s → Each Goes (goes_by s t z)
  goes_low (state k c fs (amid m)) t z g h = (g, stop_low fs t z g)
  goes_low (state k c fs (seen m p)) t z g h = (g, stop_low fs t z g)
  goes_low (state k c fs (heading m p hs)) t z g h = heading_low k c fs p hs t z h g
  goes_low (state k c fs two_left) t z g h = (g, stop_low fs t z g)
  goes_low (state k c fs one_left) t z g h = (g, last_low k fs t z g)
  goes_low (state k c fs ended) t z g h = tt

  -- ** The state behind

  amid_kept : (m : Mode) (t : Token) (z : Sort) → IsBelow t → Keeps (amid_next m t z)
  amid_kept m t Procedure g = g
  amid_kept Free t Closer g = tt
  amid_kept (Body zero) t Closer g = tt
  amid_kept (Body (suc d)) t Closer g = tt
  amid_kept m t z g = tt

  seen_kept : (m : Mode) (p t : Token) (z : Sort) → IsBelow p → IsBelow t → Keeps (seen_next m p t z)
  seen_kept m p t Word f g = (f, (g, tt))
  seen_kept m p t z f g = amid_kept m t z g

  heading_kept : (k c : ℕ) (fs : List (ℕ × Mode)) (m : Mode) (p : ℕ) (hs : List Token) (t : Token) (z : Sort) → Each IsBelow hs → IsBelow t → IsLow (heading_next k c fs m p hs t z)
  heading_kept k c fs m p hs t Stop h g = tt
  heading_kept k c fs m p hs t Left h g = and_last hs t h g
  heading_kept k c fs m p hs t Right h g = and_last hs t h g
  heading_kept k c fs m zero hs t Semicolon h g = tt
  heading_kept k c fs m (suc p) hs t Semicolon h g = and_last hs t h g
  heading_kept k c fs m p hs t z h g = and_last hs t h g

  two_kept : (z : Sort) → Keeps (unless_stop z ended one_left)
  two_kept Stop = tt
  two_kept z = tt

  out_kept : (k c : ℕ) (fs : List (ℕ × Mode)) → IsLow (out_of k c fs)
  out_kept k c [] = tt
  out_kept k c (f ∷ fs) = tt

  one_kept : (k c : ℕ) (fs : List (ℕ × Mode)) (z : Sort) → IsLow (unless_stop z (state k c fs ended) (out_of k c fs))
  one_kept k c fs Stop = tt
  one_kept k c fs z = out_kept k c fs

  next_low : (s : State) (t : Token) (z : Sort) → IsBelow t → IsLow s → IsLow (next_by s t z)
  next_low (state k c fs (amid m)) t z g h = amid_kept m t z g
  next_low (state k c fs (seen m p)) t z g h = seen_kept m p t z h g
  next_low (state k c fs (heading m p hs)) t z g h = heading_kept k c fs m p hs t z h g
  next_low (state k c fs two_left) t z g h = two_kept z
  next_low (state k c fs one_left) t z g h = one_kept k c fs z
  next_low (state k c fs ended) t z g h = tt

  -- ** Streams

  events_low : (s : State) (ts : List Token) → Each IsBelow ts → IsLow s → Each Goes (events s ts)
  events_low s [] g h = tt
  events_low s (t ∷ ts) g h =
      each_append Goes (goes s t) (events (next s t) ts) (goes_low s t (sort t.kind) g.0 h) (events_low (next s t) ts g.1 (next_low s t (sort t.kind) g.0 h))

  pick_low : (j : ℕ) (es : List Event) → Each Goes es → Each IsBelow (pick j es)
  pick_low j [] h = tt
  pick_low j (e ∷ es) h = by (j == e.0) (pick_low j es h.1)
    where
      by : (b : Bool) → Each IsBelow (pick j es) → Each IsBelow (cond b (e.1 ∷ pick j es) (pick j es))
      by true i = (h.0, i)
      by false i = i

-- ** The streams of a unit

-- the stream is cut out of a text of the unit
pub record IsOfText (list : List TextOf) (s : StreamOf) : Type 0 where
  pub text : TextOf
  pub there : slice_get list s.text ≡ Some text
  pub below : Each (λ (t : Token). t.at < length text.tokens) s.tokens

module _ (names : List (List ℕ)) (list : List TextOf) (texts : Each (IsText names) list) where
  -- the text of a number
  record HasText (k : ℕ) : Type 0 where
    text : TextOf
    there : slice_get list k ≡ Some text
    numbered : AreNumbered 0 text.tokens

  text_among : (l : List TextOf) (k : ℕ) → Each (IsText names) l → k < length l → (t : TextOf) × (slice_get l k ≡ Some t) × AreNumbered 0 t.tokens
  text_among [] k h low = absurd (omega (arith, low))
  text_among (t ∷ l) zero h low = (t, refl, h.0.numbered)
  text_among (t ∷ l) (suc k) h low = text_among l k h.1 (omega (arith, low))

  text_at : (k : ℕ) → k < length list → HasText k
  text_at k low = let t = text_among list k texts low in record { text = t.0; there = t.1; numbered = t.2 }

  -- the tokens of the text of a number
  whole_below : (k : ℕ) (h : HasText k) → Each (λ (t : Token). t.at < length h.text.tokens) (tokens_in (slice_get list k))
  whole_below k h =
      subst (λ (o : Option TextOf). Each (λ (t : Token). t.at < length h.text.tokens) (tokens_in o)) (sym h.there) (tokens_below h.text.tokens h.numbered)

  definitions_are : (order : List ℕ) (j : ℕ) → Each (IsDefinition list) order → Each (IsOfText list) (definition_streams j list order)
  definitions_are [] j h = tt
  definitions_are (k ∷ order) j h =
      let t = text_at k h.0.1 in
      (record { text = t.text; there = t.there; below = whole_below k t }, definitions_are order (suc j) h.1)

  procedures_are : (t : HasText 0) (ps : List Enclosed) (j : ℕ) (es : List Event) → Each (Goes (length t.text.tokens)) es → Each (IsOfText list) (procedure_streams j ps es)
  procedures_are t [] j es h = tt
  procedures_are t (p ∷ ps) j es h =
      (record { text = t.text; there = t.there; below = pick_low (length t.text.tokens) j es h }, procedures_are t ps (suc j) es h)

  main_are : (t : HasText 0) (m : ℕ) → Each (IsOfText list) (main_streams m (tokens_in (slice_get list 0)))
  main_are t m =
      let ts = tokens_in (slice_get list 0) in
      let n = length t.text.tokens in
      let es = events_low n (start m) ts (whole_below 0 t) tt in
      (record { text = t.text; there = t.there; below = pick_low n m (events (start m) ts) es }, procedures_are t (opened (start m) ts) (suc m) (events (start m) ts) es)

some_text : (list : List TextOf) → HasOneMain list → 0 < length list
some_text [] h = absurd h
some_text (t ∷ list) h = omega arith

-- each stream of a unit
pub streams_are : (u : UnitTexts) → IsUnit u → Each (IsOfText u.list) (streams_of u)
streams_are u unit =
    each_append (IsOfText u.list) (definition_streams 1 u.list u.order) (main_streams (main_number u) (main_tokens u)) (definitions_are u.names u.list unit.texts u.order 1 unit.ordered)
    (main_are u.names u.list unit.texts (text_at u.names u.list unit.texts 0 (some_text u.list unit.main)) (main_number u))
