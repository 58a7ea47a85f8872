-- How many streams a unit has, and at which place each stands.
use Rattle.std.proofs.Common.{◌≡◌, ◌∙◌, ℕ, zero, suc, ◌+◌, ◌<◌, ◌≤◌, ◌^◌, List, [], ◌∷◌, ◌++◌, refl, sym, ap, subst, length, length-append, map, arith, Some, slice_get}
use Rattle.std.specs.Prelude.{slice_index}
use Rattle.std.proofs.lemmas.List.{length-map}
use Rattle.m2_base.specs.Lists.{Each}
use Rattle.m2_base.specs.Statics.BlockLimits.{Begun, procedures_of}
use Rattle.m2_base.specs.Units.{AreNumbered, HasOneMain, IsText, IsUnit, TextOf, UnitTexts}
use Rattle.m2_base.specs.declared.token.Token.{Token}
use Rattle.stream_split.specs.declared.sorts.Sort.{Sort}
use Rattle.stream_split.specs.declared.sorts.Sort.TheVariants.{Stop, Semicolon}
use Rattle.stream_split.specs.declared.cutter.Mode.{Mode}
use Rattle.stream_split.specs.declared.streams.StreamTokens.{StreamTokens}
use Rattle.stream_split.specs.Cut.{Enclosed, Event, State, state, heading, start, next, heading_opens, opens_by, events, opened, pick, sort}
use Rattle.stream_split.specs.Procedures.{HasStream}
use Rattle.stream_split.specs.Streams.{StreamOf, definition_stream, definition_streams, main_number, main_streams, main_tokens, module_stream, procedure_streams, streams_of, tokens_in}
use Rattle.stream_split.specs.Views.{stream_view}
use Rattle.m2_base.specs.Finished.{tokens_of}
use Rattle.m2_base.specs.Trees.{Stream}
use Rattle.stream_split.specs.Agreement.{SpellsStream}
use Rattle.stream_split.specs.Rooms.{most_rows}
use Rattle.stream_split.specs.Sizes.{room_of, sizes_of}
use Rattle.stream_split.proofs.BroughtRows.{stream_most}
use Rattle.stream_split.proofs.BlocksAgree.{got_behind}
use Rattle.stream_split.proofs.Counting.{order_few}
use Rattle.stream_split.proofs.Definitions.{definitions_length}
use Rattle.stream_split.proofs.Lengths.{text_short}
use Rattle.stream_split.proofs.ProcedureStreams.{procedure_has, procedures_counted}

-- ** How many there are

heading_few : (k : ℕ) (fs : List (ℕ × Mode)) (p : ℕ) (z : Sort) → length (heading_opens k fs p z) ≤ 1
heading_few k fs p Stop = omega arith
heading_few k fs zero Semicolon = omega arith
heading_few k fs (suc p) Semicolon = omega arith
heading_few k fs p z = omega arith

opens_few : (s : State) (z : Sort) → length (opens_by s z) ≤ 1
opens_few (state k c fs (heading m p hs)) z = heading_few k fs p z
opens_few (state k c fs p) z = omega arith

opened_few : (s : State) (ts : List Token) → length (opened s ts) ≤ length ts
opened_few s [] = omega arith
opened_few s (t ∷ ts) =
    let one = opens_few s (sort t.kind) in
    let rest = opened_few (next s t) ts in
    let both = length-append (opens_by s (sort t.kind)) (opened (next s t) ts) in
    omega (arith, one, rest, both)

procedures_count : (j : ℕ) (ps : List Enclosed) (es : List Event) → length (procedure_streams j ps es) ≡ length ps
procedures_count j [] es = refl
procedures_count j (p ∷ ps) es = let i = procedures_count (suc j) ps es in omega (arith, i)

counted : (u : UnitTexts) → length (streams_of u) ≡ main_number u + length (opened (start (main_number u)) (main_tokens u))
counted u =
    let m : ℕ = main_number u in
    let ts : List Token = main_tokens u in
    let first = definitions_length 1 u.list u.order in
    let behind = procedures_count (suc m) (opened (start m) ts) (events (start m) ts) in
    let all = length-append (definition_streams 1 u.list u.order) (main_streams m ts) in
    omega (arith, first, behind, all)

pub streams_few : (u : UnitTexts) → IsUnit u → length (streams_of u) < 2 ^ 31
streams_few u unit =
    let order = order_few u unit in
    let procedures = opened_few (start (main_number u)) (main_tokens u) in
    let short = text_short u.names u.list unit.texts 0 in
    let all = counted u in
    omega (arith, order, procedures, short, all)

-- the streams of a unit that is cut
pub cut_few : (u : UnitTexts) → IsUnit u → (streams : List StreamTokens) → map stream_view streams ≡ streams_of u → length streams < 2 ^ 31
cut_few u unit streams e =
    let few = streams_few u unit in
    let long = length-map streams stream_view in
    let same = ap length e in
    omega (arith, few, long, same)

-- ** Procedures

-- the tokens of the main text are numbered
pub main_numbered : (u : UnitTexts) → IsUnit u → AreNumbered 0 (main_tokens u)
main_numbered u unit = on u.list unit.main unit.texts
  where
    on : (list : List TextOf) → HasOneMain list → Each (IsText u.names) list → AreNumbered 0 (tokens_in (slice_get list 0))
    on [] m t = absurd m
    on (x ∷ list) m t = t.0.numbered

-- beside the definition modules and the main module there is one for each procedure that begins
pub streams_counted : (u : UnitTexts) → IsUnit u → length (streams_of u) ≡ main_number u + length (procedures_of (main_tokens u))
streams_counted u unit =
    let all = counted u in
    let procedures = procedures_counted (main_number u) 0 (main_tokens u) (main_numbered u unit) in
    omega (arith, all, procedures)

-- the streams of a unit behind the main module's
pub got_procedure : (u : UnitTexts) (k : ℕ)
    → slice_get (streams_of u) (main_number u + k) ≡ slice_get (procedure_streams (suc (main_number u)) (opened (start (main_number u)) (main_tokens u)) (events (start (main_number u)) (main_tokens u))) k
got_procedure u k =
    let m : ℕ = main_number u in
    let defs : List StreamOf = definition_streams 1 u.list u.order in
    let l = definitions_length 1 u.list u.order in
    let e : m + k ≡ length defs + suc k = omega (arith, l) in
    ap (slice_get (streams_of u)) e ∙ got_behind defs (main_streams m (main_tokens u)) (suc k)

-- and each has its stream
pub unit_procedure : (u : UnitTexts) → IsUnit u → (k : ℕ) (p : Begun) → slice_get (procedures_of (main_tokens u)) k ≡ Some p → HasStream (streams_of u) (main_number u + k) (main_number u + k + 1) p
unit_procedure u unit k p g =
    let m : ℕ = main_number u in
    let h = procedure_has m 0 (main_tokens u) (main_numbered u unit) k p g in
    let number : suc m + k ≡ m + k + 1 = omega arith in
    record {
      stream = h.stream;
      there = got_procedure u k ∙ h.there;
      is = record { number_is = h.is.number_is ∙ number; text_is = h.is.text_is; kind_is = h.is.kind_is; level_is = h.is.level_is; begins = h.is.begins };
    }

-- ** Numbers

-- the streams have these numbers from n on
abbrev pub AreFrom : ℕ → List StreamOf → Type 0
AreFrom n [] = Unit {0}
AreFrom n (s ∷ streams) = (s.stream ≡ n) × AreFrom (n + 1) streams

from_append : (n m : ℕ) (xs ys : List StreamOf) → m ≡ n + length xs → AreFrom n xs → AreFrom m ys → AreFrom n (xs ++ ys)
from_append n m [] ys e h k = let same : m ≡ n = omega (arith, e) in subst (λ (i : ℕ). AreFrom i ys) same k
from_append n m (x ∷ xs) ys e h k = (h.0, from_append (n + 1) m xs ys (omega (arith, e)) h.1 k)

definitions_from : (n j : ℕ) → j ≡ n → (texts : List TextOf) (order : List ℕ) → AreFrom n (definition_streams j texts order)
definitions_from n j e texts [] = tt
definitions_from n j e texts (k ∷ order) = (e, definitions_from (n + 1) (suc j) (omega (arith, e)) texts order)

procedures_from : (n j : ℕ) → j ≡ n → (ps : List Enclosed) (es : List Event) → AreFrom n (procedure_streams j ps es)
procedures_from n j e [] es = tt
procedures_from n j e (p ∷ ps) es = (e, procedures_from (n + 1) (suc j) (omega (arith, e)) ps es)

pub streams_from : (u : UnitTexts) → AreFrom 1 (streams_of u)
streams_from u =
    let m = main_number u in
    let ts = main_tokens u in
    let count = definitions_length 1 u.list u.order in
    from_append 1 m (definition_streams 1 u.list u.order) (main_streams m ts) (omega (arith, count)) (definitions_from 1 1 refl u.list u.order)
    (refl, procedures_from (m + 1) (suc m) (omega arith) (opened (start m) ts) (events (start m) ts))

number_at : (n : ℕ) (streams : List StreamOf) → AreFrom n streams → (k : ℕ) (s : StreamOf) → slice_get streams k ≡ Some s → s.stream ≡ n + k
number_at n [] h k s g = cc
number_at n (x ∷ streams) h zero s g = let same : x ≡ s = cc in let here : n ≡ n + 0 = omega arith in sym (ap (λ (y : StreamOf). y.stream) same) ∙ h.0 ∙ here
number_at n (x ∷ streams) h (suc k) s g = let rest = number_at (n + 1) streams h.1 k s g in omega (arith, rest)

-- a stream has the number that its place says
pub number_is : (u : UnitTexts) (k : ℕ) (s : StreamOf) → slice_get (streams_of u) k ≡ Some s → s.stream ≡ k + 1
number_is u k s g = let e = number_at 1 (streams_of u) (streams_from u) k s g in omega (arith, e)

-- the streams of definition texts stand in the order of these
pub definition_at : (u : UnitTexts) (k n : ℕ) → slice_get u.order k ≡ Some n → slice_get (streams_of u) k ≡ Some (definition_stream (k + 1) n (tokens_of u n))
definition_at u k n g = on 1 u.order k g ∙ ap (λ i. Some (definition_stream i n (tokens_of u n))) (plus k)
  where
    plus : (k : ℕ) → 1 + k ≡ k + 1
    plus k = omega arith

    on : (j : ℕ) (order : List ℕ) (i : ℕ) → slice_get order i ≡ Some n → slice_get (definition_streams j u.list order ++ main_streams (main_number u) (main_tokens u)) i ≡ Some (definition_stream (j + i) n (tokens_of u n))
    on j [] i g = cc
    on j (x ∷ order) zero g = let same : x ≡ n = cc in let here : j ≡ j + 0 = omega arith in λ i. Some (definition_stream (here i) (same i) (tokens_of u (same i)))
    on j (x ∷ order) (suc i) g = let next_is : suc j + i ≡ j + suc i = omega arith in on (suc j) order i g ∙ ap (λ m. Some (definition_stream m n (tokens_of u n))) next_is

-- behind them that of the main module
pub module_at : (u : UnitTexts) (s : StreamOf) → slice_get (streams_of u) (length u.order) ≡ Some s → s ≡ module_stream (main_number u) s.tokens
module_at u s g =
    let m : ℕ = main_number u in
    let defs : List StreamOf = definition_streams 1 u.list u.order in
    let first : StreamOf = module_stream m (pick m (events (start m) (main_tokens u))) in
    let l = definitions_length 1 u.list u.order in
    let place : length u.order ≡ length defs + 0 = omega (arith, l) in
    let there : slice_get (streams_of u) (length u.order) ≡ Some first = ap (slice_get (streams_of u)) place ∙ got_behind defs (main_streams m (main_tokens u)) 0 in
    let same : first ≡ s = (let e = sym there ∙ g in cc) in
    sym same ∙ ap (λ (x : StreamOf). module_stream m x.tokens) same

-- ** Rows

size_at : (streams : List StreamOf) (k : ℕ) (s : StreamOf) → slice_get streams k ≡ Some s → slice_index (sizes_of streams) (k + 1) ≡ room_of s
size_at streams k s g = let next_is : k + 1 ≡ suc k = omega arith in ap (slice_index (sizes_of streams)) next_is ∙ on streams k g
  where
    on : (streams : List StreamOf) (k : ℕ) → slice_get streams k ≡ Some s → slice_index (map room_of streams) k ≡ room_of s
    on [] k g = cc
    on (x ∷ streams) zero g = let same : x ≡ s = cc in ap room_of same
    on (x ∷ streams) (suc k) g = on streams k g

-- there is room for the rows of a stream's tree, and for those that its imports bring
pub row_room : (u : UnitTexts) (k : ℕ) (s : StreamOf) (tree : Stream) → slice_get (streams_of u) k ≡ Some s → SpellsStream tree s → most_rows tree ≤ slice_index (sizes_of (streams_of u)) s.stream
row_room u k s tree g h =
    let rows = stream_most tree s h in
    let size = ap (slice_index (sizes_of (streams_of u))) (number_is u k s g) ∙ size_at (streams_of u) k s g in
    omega (arith, rows, size)
