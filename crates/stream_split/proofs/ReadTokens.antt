-- The tokens of a unit's streams are as read.
use Rattle.std.proofs.Common.{ℕ, zero, suc, Bool, true, false, List, [], ◌∷◌, ◌++◌, length, ◌<◌, ◌+◌, ◌^◌, ◌==◌, arith, cond}
use Rattle.std.specs.Prelude.{slice_get}
use Rattle.m2_base.proofs.EachLaws.{each_append}
use Rattle.m2_base.specs.Lists.{Each}
use Rattle.m2_base.specs.Statics.ReadTrees.{IsReadToken}
use Rattle.m2_base.specs.Units.{IsUnit, TextOf, UnitTexts}
use Rattle.m2_base.specs.declared.token.Token.{Token}
use Rattle.stream_split.specs.declared.cutter.Mode.{Mode}
use Rattle.stream_split.specs.declared.cutter.Mode.TheVariants.{Free, Body}
use Rattle.stream_split.specs.declared.sorts.Sort.{Sort}
use Rattle.stream_split.specs.declared.sorts.Sort.TheVariants.{Stop, Word, Procedure, Closer, Left, Right, Semicolon}
use Rattle.stream_split.specs.Cut.{Enclosed, Event, Phase, amid, seen, heading, two_left, one_left, ended, State, state, start, next, next_by, goes, goes_by, all_end, amid_next, seen_next, out_of, unless_stop, cut_at, end_at, heading_goes, heading_next, to, events, opened, pick, sort}
use Rattle.stream_split.specs.Streams.{StreamOf, definition_streams, main_number, main_streams, main_tokens, procedure_streams, streams_of, tokens_in}
use Rattle.stream_split.proofs.Counting.{order_few}
use Rattle.stream_split.proofs.Lengths.{text_short}
use Rattle.stream_split.proofs.TextTokens.{text_read}

module _ (names : List (List ℕ)) where
  -- a token of a stream, as read
  abbrev Goes : Event → Type 0
  Goes e = IsReadToken names e.1

  cut_read : (c : ℕ) (t : Token) → c < 2 ^ 32 → IsReadToken names (cut_at c t)
  cut_read c t h =
      record {
        name = λ e. absurd (omega (arith, e));
        number = λ e. absurd (omega (arith, e));
        character = λ e. absurd (omega (arith, e));
        text = λ e. absurd (omega (arith, e));
        cut = λ e. h;
      }

  end_read : (t : Token) → IsReadToken names (end_at t)
  end_read t =
      record {
        name = λ e. absurd (omega (arith, e));
        number = λ e. absurd (omega (arith, e));
        character = λ e. absurd (omega (arith, e));
        text = λ e. absurd (omega (arith, e));
        cut = λ e. absurd (omega (arith, e));
      }

  -- the tokens that a phase has are as read
  abbrev KeepsRead : Phase → Type 0
  KeepsRead (seen m p) = IsReadToken names p
  KeepsRead (heading m p hs) = Each (IsReadToken names) hs
  KeepsRead other = Unit {0}

  -- and so of a state, from which so many tokens may begin a stream
  abbrev IsRead : ℕ → State → Type 0
  IsRead left (state k c fs p) = (c + left < 2 ^ 32) × KeepsRead p

  -- ** What goes

  ends_read : (fs : List (ℕ × Mode)) (t : Token) → IsReadToken names t → Each Goes (all_end fs t)
  ends_read [] t g = tt
  ends_read (f ∷ fs) t g = (g, ends_read fs t g)

  to_read : (k : ℕ) (ts : List Token) → Each (IsReadToken names) ts → Each Goes (to k ts)
  to_read k [] h = tt
  to_read k (t ∷ ts) h = (h.0, to_read k ts h.1)

  stop_read : (fs : List (ℕ × Mode)) (t : Token) (z : Sort) → IsReadToken names t → Each Goes (unless_stop z (all_end fs t) [])
  stop_read fs t Stop g = ends_read fs t g
  stop_read fs t z g = tt

  last_read : (k : ℕ) (fs : List (ℕ × Mode)) (t : Token) (z : Sort) → IsReadToken names t → Each Goes (unless_stop z (all_end fs t) ((k, end_at t) ∷ []))
  last_read k fs t Stop g = ends_read fs t g
  last_read k fs t z g = (end_read t, tt)

  and_last : (hs : List Token) (t : Token) → Each (IsReadToken names) hs → IsReadToken names t → Each (IsReadToken names) (hs ++ (t ∷ []))
  and_last hs t h g = each_append (IsReadToken names) hs (t ∷ []) h (g, tt)

  heading_read : (k c : ℕ) (fs : List (ℕ × Mode)) (p : ℕ) (hs : List Token) (t : Token) (z : Sort) → c < 2 ^ 32 → Each (IsReadToken names) hs → IsReadToken names t
      → Each Goes (heading_goes k c fs p hs t z)
  heading_read k c fs p hs t Stop low h g =
      (g, each_append Goes (all_end fs t) (to c (hs ++ (t ∷ []))) (ends_read fs t g) (to_read c (hs ++ (t ∷ [])) (and_last hs t h g)))
  heading_read k c fs zero hs t Semicolon low h g = (g, (cut_read c t low, to_read c (hs ++ (t ∷ [])) (and_last hs t h g)))
  heading_read k c fs (suc p) hs t Semicolon low h g = (g, tt)
  heading_read k c fs p hs t z low h g = (g, tt)

  goes_read : (left : ℕ) (s : State) (t : Token) (z : Sort) → IsReadToken names t → IsRead left s → Each Goes (goes_by s t z)
  goes_read left (state k c fs (amid m)) t z g h = (g, stop_read fs t z g)
  goes_read left (state k c fs (seen m p)) t z g h = (g, stop_read fs t z g)
  goes_read left (state k c fs (heading m p hs)) t z g h = let low = h.0 in heading_read k c fs p hs t z (omega (arith, low)) h.1 g
  goes_read left (state k c fs two_left) t z g h = (g, stop_read fs t z g)
  goes_read left (state k c fs one_left) t z g h = (g, last_read k fs t z g)
  goes_read left (state k c fs ended) t z g h = tt

  -- ** The state behind

  amid_kept : (m : Mode) (t : Token) (z : Sort) → IsReadToken names t → KeepsRead (amid_next m t z)
  amid_kept m t Procedure g = g
  amid_kept Free t Closer g = tt
  amid_kept (Body zero) t Closer g = tt
  amid_kept (Body (suc d)) t Closer g = tt
  amid_kept m t z g = tt

  seen_kept : (m : Mode) (p t : Token) (z : Sort) → IsReadToken names p → IsReadToken names t → KeepsRead (seen_next m p t z)
  seen_kept m p t Word f g = (f, (g, tt))
  seen_kept m p t z f g = amid_kept m t z g

  heading_kept : (left k c : ℕ) (fs : List (ℕ × Mode)) (m : Mode) (p : ℕ) (hs : List Token) (t : Token) (z : Sort) → c + suc left < 2 ^ 32 → Each (IsReadToken names) hs → IsReadToken names t
      → IsRead left (heading_next k c fs m p hs t z)
  heading_kept left k c fs m p hs t Stop low h g = (omega (arith, low), tt)
  heading_kept left k c fs m p hs t Left low h g = (omega (arith, low), and_last hs t h g)
  heading_kept left k c fs m p hs t Right low h g = (omega (arith, low), and_last hs t h g)
  heading_kept left k c fs m zero hs t Semicolon low h g = (omega (arith, low), tt)
  heading_kept left k c fs m (suc p) hs t Semicolon low h g = (omega (arith, low), and_last hs t h g)
  heading_kept left k c fs m p hs t z low h g = (omega (arith, low), and_last hs t h g)

  two_kept : (z : Sort) → KeepsRead (unless_stop z ended one_left)
  two_kept Stop = tt
  two_kept z = tt

  out_kept : (left k c : ℕ) (fs : List (ℕ × Mode)) → c + left < 2 ^ 32 → IsRead left (out_of k c fs)
  out_kept left k c [] low = (low, tt)
  out_kept left k c (f ∷ fs) low = (low, tt)

  one_kept : (left k c : ℕ) (fs : List (ℕ × Mode)) (z : Sort) → c + left < 2 ^ 32 → IsRead left (unless_stop z (state k c fs ended) (out_of k c fs))
  one_kept left k c fs Stop low = (low, tt)
  one_kept left k c fs z low = out_kept left k c fs low

  next_read : (left : ℕ) (s : State) (t : Token) (z : Sort) → IsReadToken names t → IsRead (suc left) s → IsRead left (next_by s t z)
  next_read left (state k c fs (amid m)) t z g h = let low = h.0 in (omega (arith, low), amid_kept m t z g)
  next_read left (state k c fs (seen m p)) t z g h = let low = h.0 in (omega (arith, low), seen_kept m p t z h.1 g)
  next_read left (state k c fs (heading m p hs)) t z g h = heading_kept left k c fs m p hs t z h.0 h.1 g
  next_read left (state k c fs two_left) t z g h = let low = h.0 in (omega (arith, low), two_kept z)
  next_read left (state k c fs one_left) t z g h = let low = h.0 in one_kept left k c fs z (omega (arith, low))
  next_read left (state k c fs ended) t z g h = let low = h.0 in (omega (arith, low), tt)

  -- ** Streams

  events_read : (s : State) (ts : List Token) → Each (IsReadToken names) ts → IsRead (length ts) s → Each Goes (events s ts)
  events_read s [] g h = tt
  events_read s (t ∷ ts) g h =
      each_append Goes (goes s t) (events (next s t) ts) (goes_read (length (t ∷ ts)) s t (sort t.kind) g.0 h) (events_read (next s t) ts g.1 (next_read (length ts) s t (sort t.kind) g.0 h))

  pick_read : (j : ℕ) (es : List Event) → Each Goes es → Each (IsReadToken names) (pick j es)
  pick_read j [] h = tt
  pick_read j (e ∷ es) h = by (j == e.0) (pick_read j es h.1)
    where
      by : (b : Bool) → Each (IsReadToken names) (pick j es) → Each (IsReadToken names) (cond b (e.1 ∷ pick j es) (pick j es))
      by true i = (h.0, i)
      by false i = i

  -- the tokens of a stream
  abbrev pub IsReadStream : StreamOf → Type 0
  IsReadStream s = Each (IsReadToken names) s.tokens

  procedures_read : (j : ℕ) (ps : List Enclosed) (es : List Event) → Each Goes es → Each IsReadStream (procedure_streams j ps es)
  procedures_read j [] es h = tt
  procedures_read j (p ∷ ps) es h = (pick_read j es h, procedures_read (suc j) ps es h)

  main_read : (m : ℕ) (ts : List Token) → Each (IsReadToken names) ts → suc m + length ts < 2 ^ 32 → Each IsReadStream (main_streams m ts)
  main_read m ts g low =
      let es = events_read (start m) ts g (low, tt) in
      (pick_read m (events (start m) ts) es, procedures_read (suc m) (opened (start m) ts) (events (start m) ts) es)

  definitions_read : (texts : List TextOf) → ((k : ℕ) → Each (IsReadToken names) (tokens_in (slice_get texts k))) → (j : ℕ) (order : List ℕ) → Each IsReadStream (definition_streams j texts order)
  definitions_read texts g j [] = tt
  definitions_read texts g j (k ∷ order) = (g k, definitions_read texts g (suc j) order)

-- each stream of a unit has tokens as read
pub streams_read : (u : UnitTexts) → IsUnit u → Each (IsReadStream u.names) (streams_of u)
streams_read u unit =
    let read : (k : ℕ) → Each (IsReadToken u.names) (tokens_in (slice_get u.list k)) = text_read u.names unit.standard u.list unit.texts in
    let few = order_few u unit in
    let short = text_short u.names u.list unit.texts 0 in
    each_append (IsReadStream u.names) (definition_streams 1 u.list u.order) (main_streams (main_number u) (main_tokens u)) (definitions_read u.names u.list read 1 u.order)
    (main_read u.names (main_number u) (main_tokens u) (read 0) (omega (arith, few, short)))
