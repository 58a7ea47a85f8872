-- What surrounds the block of each stream comes before it.
use Rattle.std.proofs.Common.{◌≡◌, ◌≢◌, ◌∙◌, ℕ, zero, suc, ◌+◌, ◌-◌, Bool, true, false, if◌then◌else◌, ◌<◌, ◌≤◌, List, [], ◌∷◌, ◌++◌, refl, sym, ap, subst, length, length-append, arith, Option, Some, None, slice_get, get_or, ◌⊎◌, inl, inr}
use Rattle.std.specs.Prelude.{◌==◌, drop, nat_lt, option_map, position}
use Rattle.std.proofs.lemmas.List.Quantifiers.{position-Some}
use Rattle.std.proofs.lemmas.Option.{slice_get_cases, slice_get_within}
use Rattle.m2_base.proofs.EachLaws.{each_append}
use Rattle.m2_base.specs.Lists.{Each, WhereKept}
use Rattle.m2_base.specs.Statics.BlockLimits.{Begun, BlockLimit, limit_from, limit_of, procedures_of, too_deep_procedure, too_many_procedures}
use Rattle.m2_base.specs.Statics.Blocks.{with_own}
use Rattle.m2_base.specs.Units.{IsUnit, TextOf, UnitTexts}
use Rattle.m2_base.specs.declared.trees.declarations.StreamKind.{StreamKind}
use Rattle.m2_base.specs.declared.trees.declarations.StreamKind.TheVariants.{Definition, Main, Procedure}
use Rattle.stream_split.specs.Chains.{block_by, block_of, chain_from, outer_in, outer_of, own_scope, scope_in}
use Rattle.stream_split.specs.Cut.{Enclosed, Event, events, opened, start}
use Rattle.stream_split.specs.Procedures.{HasProcedure, IsStreamOf}
use Rattle.stream_split.specs.Streams.{StreamOf, definition_streams, main_number, main_streams, main_tokens, procedure_streams, streams_of}
use Rattle.stream_split.specs.Surroundings.{IsSurrounded}
use Rattle.stream_split.proofs.ProcedureStreams.{procedure_outer}
use Rattle.stream_split.proofs.StreamCounts.{main_numbered, number_is, streams_counted, unit_procedure}

-- ** Streams

-- by its kind a stream of the main text has the main module's number or a later one, and one of a definition text is in no procedure
abbrev BehindBy : StreamKind → (m : ℕ) → StreamOf → Type 0
BehindBy Definition m s = s.level ≡ 0
BehindBy kind m s = m ≤ s.stream

record IsPlaced (m : ℕ) (s : StreamOf) : Type 0 where
  outer : s.outer < s.stream
  behind : BehindBy s.kind m s

definitions_placed : (m j : ℕ) → 0 < j → (texts : List TextOf) (order : List ℕ) → Each (IsPlaced m) (definition_streams j texts order)
definitions_placed m j h texts [] = tt
definitions_placed m j h texts (k ∷ order) = (record { outer = h; behind = refl }, definitions_placed m (suc j) (omega arith) texts order)

procedures_placed : (m j : ℕ) → m < j → (ps : List Enclosed) (es : List Event) → ((k : ℕ) (p : Enclosed) → slice_get ps k ≡ Some p → p.outer < j + k) → Each (IsPlaced m) (procedure_streams j ps es)
procedures_placed m j l [] es h = tt
procedures_placed m j l (p ∷ ps) es h = (
  record { outer = (let low = h 0 p refl in omega (arith, low)); behind = omega (arith, l) },
  procedures_placed m (suc j) (omega (arith, l)) ps es (λ k q g. let low = h (suc k) q g in omega (arith, low)),
)

streams_placed : (u : UnitTexts) → IsUnit u → Each (IsPlaced (main_number u)) (streams_of u)
streams_placed u unit =
    let m : ℕ = main_number u in
    let ts = main_tokens u in
    each_append (IsPlaced m) (definition_streams 1 u.list u.order) (main_streams m ts) (definitions_placed m 1 (omega arith) u.list u.order)
    (record { outer = omega arith; behind = omega arith }, procedures_placed m (suc m) (omega arith) (opened (start m) ts) (events (start m) ts) (procedure_outer m 0 ts (main_numbered u unit)))

placed_at : (m : ℕ) (streams : List StreamOf) → Each (IsPlaced m) streams → (k : ℕ) (s : StreamOf) → slice_get streams k ≡ Some s → IsPlaced m s
placed_at m [] h k s g = cc
placed_at m (x ∷ streams) h zero s g = let same : x ≡ s = cc in subst (IsPlaced m) same h.0
placed_at m (x ∷ streams) h (suc k) s g = placed_at m streams h.1 k s g

-- ** Chains

module _ (u : UnitTexts) (unit : IsUnit u) where
  -- the scope right round that of a stream
  outer_low : (k : ℕ) → outer_of (streams_of u) (suc k) < suc k
  outer_low k = by (slice_get (streams_of u) k) refl
    where
      by : (o : Option StreamOf) → slice_get (streams_of u) k ≡ o → outer_in o < suc k
      by None g = omega arith
      by (Some s) g =
          let p = placed_at (main_number u) (streams_of u) (streams_placed u unit) k s g in
          let out = p.outer in
          let n = number_is u k s g in
          omega (arith, out, n)

  outer_most : (n : ℕ) → outer_of (streams_of u) n ≤ n
  outer_most zero = omega arith
  outer_most (suc k) = let low = outer_low k in omega (arith, low)

  chain_low : (count n top : ℕ) → n < top → Each (λ k. k < top) (chain_from count (streams_of u) n)
  chain_low zero n top h = (h, tt)
  chain_low (suc count) n top h = (h, chain_low count (outer_of (streams_of u) n) top (let most = outer_most n in omega (arith, h, most)))

  chain_long : (count n : ℕ) → length (chain_from count (streams_of u) n) ≡ count + 1
  chain_long zero n = refl
  chain_long (suc count) n = let rest = chain_long count (outer_of (streams_of u) n) in omega (arith, rest)

  own_low : (order : List ℕ) (own : Option ℕ) (n : ℕ) → length order < n → WhereKept (scope_in order own) (λ s. s < n)
  own_low order None n h = tt
  own_low order (Some k) n h = by (position (λ x. x == k) order) refl
    where
      by : (o : Option ℕ) → position (λ x. x == k) order ≡ o → WhereKept (option_map (λ i. i + 1) o) (λ s. s < n)
      by None e = tt
      by (Some i) e = let low = (position-Some (λ x. x == k) order i 0 e).0 in omega (arith, low, h)

  own_behind : (chain : List ℕ) (own : Option ℕ) (top : ℕ) → Each (λ k. k < top) chain → WhereKept own (λ s. s < top) → Each (λ k. k < top) (with_own chain own)
  own_behind chain None top h o = h
  own_behind chain (Some s) top h o = each_append (λ k. k < top) chain (s ∷ []) h (o, tt)

  own_first : (n : ℕ) (rest : List ℕ) (own : Option ℕ) → with_own (n ∷ rest) own ≡ n ∷ with_own rest own
  own_first n rest None = refl
  own_first n rest (Some s) = refl

  own_long : (chain : List ℕ) (own : Option ℕ) → length (with_own chain own) ≤ length chain + 1
  own_long chain None = omega arith
  own_long chain (Some s) = let long = length-append chain (s ∷ []) in omega (arith, long)

  -- a chain of a block of the main text
  record IsChain (n count : ℕ) (chain : List ℕ) : Type 0 where
    first : chain ≡ n ∷ drop 1 chain
    down : Each (λ k. k < n) (drop 1 chain)
    short : length chain ≤ count + 2

  is_chain : (n count : ℕ) → 0 < n → WhereKept (own_scope u) (λ s. s < n) → IsChain n count (with_own (chain_from count (streams_of u) n) (own_scope u))
  is_chain n zero h o =
      let same = own_first n [] (own_scope u) in
      record {
        first = same ∙ ap (λ (c : List ℕ). n ∷ drop 1 c) (sym same);
        down = subst (λ (c : List ℕ). Each (λ k. k < n) (drop 1 c)) (sym same) (own_behind [] (own_scope u) n tt o);
        short = own_long (n ∷ []) (own_scope u);
      }
  is_chain zero (suc count) h o = absurd (omega (arith, h))
  is_chain (suc n) (suc count) h o =
      let rest : List ℕ = chain_from count (streams_of u) (outer_of (streams_of u) (suc n)) in
      let same = own_first (suc n) rest (own_scope u) in
      record {
        first = same ∙ ap (λ (c : List ℕ). suc n ∷ drop 1 c) (sym same);
        down = subst (λ (c : List ℕ). Each (λ k. k < suc n) (drop 1 c)) (sym same) (own_behind rest (own_scope u) (suc n) (chain_low count (outer_of (streams_of u) (suc n)) (suc n) (outer_low n)) o);
        short = (let most = own_long (suc n ∷ rest) (own_scope u) in let long = chain_long count (outer_of (streams_of u) (suc n)) in omega (arith, most, long));
      }

  -- ** Blocks

  main_surrounded : (s : StreamOf) → 0 < s.stream → main_number u ≤ s.stream → IsSurrounded s (block_by Main (main_number u) (own_scope u) (streams_of u) s)
  main_surrounded s h b =
      let own : WhereKept (own_scope u) (λ o. o < s.stream) = own_low u.order u.own s.stream (omega (arith, b)) in
      let c = is_chain s.stream s.level h own in
      record { scope = refl; text = refl; level = refl; positive = h; home = b; own = own; chain = c.first; down = c.down; short = c.short }

  surrounded_by : (kind : StreamKind) (s : StreamOf) → 0 < s.stream → BehindBy kind (main_number u) s → IsSurrounded s (block_by kind (main_number u) (own_scope u) (streams_of u) s)
  surrounded_by Definition s h b = record { scope = refl; text = refl; level = sym b; positive = h; home = omega arith; own = tt; chain = refl; down = tt; short = omega arith }
  surrounded_by Main s h b = main_surrounded s h b
  surrounded_by Procedure s h b = main_surrounded s h b

  -- of each stream
  pub surrounded : (k : ℕ) (s : StreamOf) → slice_get (streams_of u) k ≡ Some s → IsSurrounded s (block_of (main_number u) (own_scope u) (streams_of u) s)
  surrounded k s g =
      let p = placed_at (main_number u) (streams_of u) (streams_placed u unit) k s g in
      let n = number_is u k s g in
      surrounded_by s.kind s (omega (arith, n)) p.behind

  -- ** Procedures

  -- each stream behind the main module's is that of a procedure
  pub stream_has : (k : ℕ) (s : StreamOf) → slice_get (streams_of u) (main_number u + k) ≡ Some s → HasProcedure (procedures_of (main_tokens u)) k (main_number u + k + 1) s
  stream_has k s g =
      let within = slice_get_within (streams_of u) (main_number u + k) s g in
      let count = streams_counted u unit in
      by (slice_get_cases (procedures_of (main_tokens u)) k).1 (omega (arith, within, count))
    where
      by : ((p : Begun) × (k < length (procedures_of (main_tokens u))) × (slice_get (procedures_of (main_tokens u)) k ≡ Some p) × (get_or (procedures_of (main_tokens u)) k p ≡ p)) ⊎ ((length (procedures_of (main_tokens u)) ≤ k) × (slice_get (procedures_of (main_tokens u)) k ≡ None))
          → k < length (procedures_of (main_tokens u)) → HasProcedure (procedures_of (main_tokens u)) k (main_number u + k + 1) s
      by (inl h) l =
          let has = unit_procedure u unit k h.0 h.2 in
          let same : has.stream ≡ s = (let e = sym has.there ∙ g in cc) in
          record { procedure = h.0; there = h.2; is = subst (IsStreamOf (main_number u + k + 1) h.0) same has.is }
      by (inr h) l = let most = h.0 in absurd (omega (arith, l, most))

-- ** Limits

-- the procedures of a text that passes no limit
levels_by : (b c : Bool) (x y o : Option BlockLimit) → (if b then x else (if c then y else o)) ≡ None → x ≢ None → y ≢ None → (c ≡ false) × (o ≡ None)
levels_by true c x y o e f g = absurd (f e)
levels_by false true x y o e f g = absurd (g e)
levels_by false false x y o e f g = (refl, e)

not_more : (m n : ℕ) → nat_lt m n ≡ false → n ≤ m
not_more m n e = grind arith

levels_low : (n : ℕ) (ps : List Begun) → limit_from n ps ≡ None → Each (λ p. p.level ≤ 16) ps
levels_low n [] h = tt
levels_low n (p ∷ ps) h =
    let both = levels_by (n == 16384) (nat_lt 16 p.level) (Some (too_many_procedures p.at)) (Some (too_deep_procedure p.at)) (limit_from (n + 1) ps) h (λ e. cc) (λ e. cc) in
    (not_more 16 p.level both.0, levels_low (n + 1) ps both.1)

got_level : (ps : List Begun) → Each (λ p. p.level ≤ 16) ps → (k : ℕ) (p : Begun) → slice_get ps k ≡ Some p → p.level ≤ 16
got_level [] h k p g = cc
got_level (x ∷ ps) h zero p g = let same : x ≡ p = cc in subst (λ (y : Begun). y.level ≤ 16) same h.0
got_level (x ∷ ps) h (suc k) p g = got_level ps h.1 k p g

-- the level of a stream, if there is one
abbrev level_of : Option StreamOf → ℕ
level_of None = 0
level_of (Some s) = s.level

is_less : (m n : ℕ) → nat_lt m n ≡ true → m < n
is_less m n e = grind arith

-- the streams of modules are in no procedure
front_flat : (u : UnitTexts) (k : ℕ) (s : StreamOf) → k < main_number u → slice_get (streams_of u) k ≡ Some s → s.level ≡ 0
front_flat u k s l g = on 1 u.list u.order k (omega (arith, l)) g
  where
    on : (j : ℕ) (texts : List TextOf) (order : List ℕ) (i : ℕ) → i < length order + 1 → slice_get (definition_streams j texts order ++ main_streams (main_number u) (main_tokens u)) i ≡ Some s → s.level ≡ 0
    on j texts [] zero l g = let e = g in sym (ap level_of e)
    on j texts [] (suc i) l g = absurd (omega (arith, l))
    on j texts (x ∷ order) zero l g = sym (ap level_of g)
    on j texts (x ∷ order) (suc i) l g = on (suc j) texts order i (omega (arith, l)) g

-- no stream of a unit that is cut lies in more than sixteen procedures
pub level_low : (u : UnitTexts) → IsUnit u → limit_of (main_tokens u) ≡ None → (k : ℕ) (s : StreamOf) → slice_get (streams_of u) k ≡ Some s → s.level ≤ 16
level_low u unit none k s g = by (nat_lt k (main_number u)) refl
  where
    by : (b : Bool) → nat_lt k (main_number u) ≡ b → s.level ≤ 16
    by true e = let flat = front_flat u k s (is_less k (main_number u) e) g in omega (arith, flat)
    by false e =
        let low = not_more k (main_number u) e in
        let i : ℕ = k - main_number u in
        let there : slice_get (streams_of u) (main_number u + i) ≡ Some s = (let same : main_number u + i ≡ k = omega (arith, low) in ap (slice_get (streams_of u)) same ∙ g) in
        let has = stream_has u unit i s there in
        let level = has.is.level_is in
        let most = got_level (procedures_of (main_tokens u)) (levels_low 0 (procedures_of (main_tokens u)) none) i has.procedure has.there in
        omega (arith, level, most)
