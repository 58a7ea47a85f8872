-- Reading code instruction after instruction, and finding one of them by its place.
use Rattle.std.proofs.Common.{get_or, ◌⊎◌, inl, inr, ◌^◌, ◌≡◌, ◌≢◌, ℕ, zero, suc, ◌+◌, ◌-◌, ◌<◌, ◌≤◌, Bool, true, false, cond, eqb, ne_eqb, eq-eqb, List, [], ◌∷◌, ◌++◌, length, map, drop, Option, Some, None, refl, sym, ap, ◌∙◌, subst, arith, append_assoc, append-nil, length-drop, drop-drop, drop_at, length-append}
use Rattle.std.specs.Prelude.{ℤ, pos, negsuc, ◌+ℤ◌, slice_get}
use Rattle.std.specs.List.{AllByRecursion}
use Rattle.std.proofs.lemmas.List.{map_push}
use Rattle.code_form.specs.declared.instr.Instr.{Instr}
use Rattle.code_form.specs.Instructions.{IsInstr}
use Rattle.code_form.specs.Bytes.{size, spelling, code_bytes, BeginsWith}
use Rattle.code_form.specs.Valid.{AreInstrs, same_place}
use Rattle.code_form.proofs.Spellings.{length-spelling}
use Rattle.stack_machine.specs.declared.placed.Placed.{Placed}
use Rattle.stack_machine.specs.Loading.{Spot, spots, instr_at}
use Rattle.stack_machine.specs.Sites.{spot_of, Ascend}
use Rattle.stack_machine.proofs.Flat.{get_within, one_is}

-- the instructions up to a place were read, and the others follow
pub record Ahead (code : List ℕ) (is : List Instr) (at : ℕ) (all : List Placed) : Type 0 where
  pub within : at ≤ length code
  pub rest : List Instr
  pub ahead : AreInstrs (drop at code) rest
  pub whole : spots 0 is ≡ map spot_of all ++ spots at rest

pub starts : (code : List ℕ) (is : List Instr) (all : List Placed) → AreInstrs code is → all ≡ [] → Ahead code is 0 all
starts code is all a none = record { within = omega arith; rest = is; ahead = a; whole = ap (λ (xs : List Placed). map spot_of xs ++ spots 0 is) (sym none) }

begins : (bytes : List ℕ) (i : Instr) (is : List Instr) → AreInstrs bytes (i ∷ is) → BeginsWith bytes i (code_bytes is)
begins bytes i is a = record { in_range = a.in_range.0; spelled = a.spelled }

nothing_left : (bytes : List ℕ) → AreInstrs bytes [] → 0 < length bytes → ⊥
nothing_left bytes a lt = let e = ap length a.spelled in omega (arith, e, lt)

pub stuck : (code : List ℕ) (is : List Instr) (at : ℕ) (all : List Placed) → Ahead code is at all → at < length code → ((i : Instr) (behind : List ℕ) → BeginsWith (drop at code) i behind → ⊥) → ⊥
stuck code is at all a lt none = chosen a.rest a.ahead where
  chosen : (rest : List Instr) → AreInstrs (drop at code) rest → ⊥
  chosen [] h = nothing_left (drop at code) h (omega (arith, lt, length-drop at code))
  chosen (i ∷ more) h = none i (code_bytes more) (begins (drop at code) i more h)

both : (i j : Instr) (m n : ℕ) → ◌≡◌ {A = Option (Instr × ℕ)} (Some (j, m)) (Some (i, n)) → (j ≡ i) × (m ≡ n)
both i j m n e = let p : ◌≡◌ {A = Instr × ℕ} (j, m) (i, n) = cc in (ap (λ (q : Instr × ℕ). q.0) p, ap (λ (q : Instr × ℕ). q.1) p)

pub goes : (code : List ℕ) (is : List Instr) (at end : ℕ) (all new : List Placed) (j : Instr) (p : Placed) → Ahead code is at all → at < length code → end ≤ length code
    → ((i : Instr) (rest : List ℕ) → BeginsWith (drop at code) i rest → ◌≡◌ {A = Option (Instr × ℕ)} (Some (j, end)) (Some (i, at + length (spelling i))))
    → new ≡ all ++ p ∷ [] → spot_of p ≡ record { at = at; instr = j } → Ahead code is end new
goes code is at end all new j p a lt le again new_is p_is = chosen a.rest a.ahead a.whole where
  chosen : (rest : List Instr) → AreInstrs (drop at code) rest → spots 0 is ≡ map spot_of all ++ spots at rest → Ahead code is end new
  chosen [] h w = absurd (nothing_left (drop at code) h (omega (arith, lt, length-drop at code)))
  chosen (i ∷ more) h w =
      let e = both i j end (at + length (spelling i)) (again i (code_bytes more) (begins (drop at code) i more h)) in
      let end_is : end ≡ at + size i = e.1 ∙ ap (λ (n : ℕ). at + n) (length-spelling i) in
      let behind : drop end code ≡ code_bytes more =
      ap (λ (n : ℕ). drop n code) (e.1 ∙ omega arith) ∙ sym (drop-drop (length (spelling i)) at code) ∙ ap (drop (length (spelling i))) h.spelled ∙ drop_at (spelling i) (code_bytes more) (length (spelling i)) refl in
      let spot : spot_of p ≡ record { at = at; instr = i } = p_is ∙ ap (λ (x : Instr). record { at = at; instr = x }) e.0 in
      let now : map spot_of new ≡ map spot_of all ++ record { at = at; instr = i } ∷ [] = ap (map spot_of) new_is ∙ map_push spot_of all p ∙ ap (λ (s : Spot). map spot_of all ++ s ∷ []) spot in
      record {
        within = le;
        rest = more;
        ahead = record { in_range = h.in_range.1; spelled = behind };
        whole = w ∙ sym (append_assoc (map spot_of all) (record { at = at; instr = i } ∷ []) (spots (at + size i) more)) ∙ ap (λ (ss : List Spot). ss ++ spots (at + size i) more) (sym now) ∙ ap (λ (n : ℕ). map spot_of new ++ spots n more) (sym end_is);
      }

pub over : (code : List ℕ) (is : List Instr) (at : ℕ) (all : List Placed) → Ahead code is at all → length code ≤ at → map spot_of all ≡ spots 0 is
over code is at all a le = chosen a.rest a.ahead a.whole where
  chosen : (rest : List Instr) → AreInstrs (drop at code) rest → spots 0 is ≡ map spot_of all ++ spots at rest → map spot_of all ≡ spots 0 is
  chosen [] h w = sym (append-nil (map spot_of all)) ∙ sym w
  chosen (i ∷ more) h w =
      let e = ap length h.spelled in
      absurd (omega (arith, e, le, length-drop at code, length-append (spelling i) (code_bytes more), length-spelling i))

-- ---- places ascend

low_spot : (at : ℕ) (is : List Instr) (j : ℕ) (y : Spot) → slice_get (spots at is) j ≡ Some y → at ≤ y.at
low_spot at [] j y e = absurd cc
low_spot at (i ∷ is) zero y e = let s = ap (λ (x : Spot). x.at) (one_is (record { at = at; instr = i }) y e) in omega (arith, s)
low_spot at (i ∷ is) (suc j) y e = let h = low_spot (at + size i) is j y e in omega (arith, h)

pub spots_ascend : (at : ℕ) (is : List Instr) → Ascend (spots at is)
spots_ascend at [] i j x y lt e h = absurd cc
spots_ascend at (k ∷ is) zero zero x y lt e h = absurd (omega arith)
spots_ascend at (k ∷ is) zero (suc j) x y lt e h =
    let s = ap (λ (z : Spot). z.at) (one_is (record { at = at; instr = k }) x e) in
    let l = low_spot (at + size k) is j y h in
    omega (arith, s, l)
spots_ascend at (k ∷ is) (suc i) zero x y lt e h = absurd (omega arith)
spots_ascend at (k ∷ is) (suc i) (suc j) x y lt e h = spots_ascend (at + size k) is i j x y (omega arith) e h

-- ---- the place of one

pub first_is : (ss : List Spot) (to k : ℕ) (s : Spot) → slice_get ss k ≡ Some s → s.at ≡ to → ((i : ℕ) (x : Spot) → i < k → slice_get ss i ≡ Some x → x.at < to) → instr_at ss (pos to) ≡ k
first_is [] to k s e at before = absurd cc
first_is (x ∷ ss) to zero s e at before =
    ap (λ (b : Bool). cond b 0 (suc (instr_at ss (pos to)))) (eq-eqb to x.at (sym at ∙ ap (λ (z : Spot). z.at) (sym (one_is x s e))))
first_is (x ∷ ss) to (suc k) s e at before =
    let lt = before 0 x (omega arith) refl in
    ap (λ (b : Bool). cond b 0 (suc (instr_at ss (pos to)))) (ne_eqb to x.at (λ same. omega (arith, lt, same)))
    ∙ ap suc (first_is ss to k s e at (λ i z l h. before (suc i) z (omega (arith, l)) h))

pub none_is : (ss : List Spot) (to : ℕ) → ((i : ℕ) (x : Spot) → slice_get ss i ≡ Some x → x.at ≢ to) → instr_at ss (pos to) ≡ length ss
none_is [] to none = refl
none_is (x ∷ ss) to none =
    ap (λ (b : Bool). cond b 0 (suc (instr_at ss (pos to)))) (ne_eqb to x.at (λ same. none 0 x refl (sym same)))
    ∙ ap suc (none_is ss to (λ i z h. none (suc i) z h))

pub below_is : (ss : List Spot) (n : ℕ) → instr_at ss (negsuc n) ≡ length ss
below_is [] n = refl
below_is (x ∷ ss) n = ap suc (below_is ss n)

-- ---- halving

pub get_index : {A : Type 0} (xs : List A) (k : ℕ) (x : A) → k < length xs → x ≡ get_or xs k x → slice_get xs k ≡ Some x
get_index [] k x lt e = absurd (omega arith)
get_index (y ∷ ys) zero x lt e = ap (λ z. Some z) (sym e)
get_index (y ∷ ys) (suc k) x lt e = get_index ys k x (omega arith) e

pub spot_there : (all : List Placed) (k : ℕ) (p : Placed) → k < length all → p ≡ get_or all k p → slice_get (map spot_of all) k ≡ Some (spot_of p)
spot_there all k p lt e = spots_get all k p (get_index all k p lt e) where
  spots_get : (all : List Placed) (k : ℕ) (p : Placed) → slice_get all k ≡ Some p → slice_get (map spot_of all) k ≡ Some (spot_of p)
  spots_get [] k p e = absurd cc
  spots_get (q ∷ qs) zero p e = ap (λ z. Some (spot_of z)) (one_is q p e)
  spots_get (q ∷ qs) (suc k) p e = spots_get qs k p e

below_or_at : (k m : ℕ) → k < m + 1 → (k < m) ⊎ (k ≡ m)
below_or_at zero zero lt = inr refl
below_or_at zero (suc m) lt = inl (omega arith)
below_or_at (suc k) zero lt = absurd (omega arith)
below_or_at (suc k) (suc m) lt = up (below_or_at k m (omega arith)) where
  up : (k < m) ⊎ (k ≡ m) → (suc k < suc m) ⊎ (suc k ≡ suc m)
  up (inl h) = inl (omega (arith, h))
  up (inr h) = inr (ap suc h)

same_spot : (ss : List Spot) (k m : ℕ) (s x : Spot) → k ≡ m → slice_get ss k ≡ Some s → slice_get ss m ≡ Some x → s.at ≡ x.at
same_spot ss k m s x e h g = ap (λ (z : Spot). z.at) (one_is s x (sym h ∙ ap (slice_get ss) e ∙ g))

pub all_below : (ss : List Spot) → Ascend ss → (m : ℕ) (x : Spot) (to : ℕ) → slice_get ss m ≡ Some x → x.at < to → (k : ℕ) (s : Spot) → k < m + 1 → slice_get ss k ≡ Some s → s.at < to
all_below ss up m x to is lt k s le h = chosen (below_or_at k m le) where
  chosen : (k < m) ⊎ (k ≡ m) → s.at < to
  chosen (inl l) = let a = up k m s x l h is in omega (arith, a, lt)
  chosen (inr e) = let a = same_spot ss k m s x e h is in omega (arith, a, lt)

pub all_above : (ss : List Spot) → Ascend ss → (m : ℕ) (x : Spot) (to : ℕ) → slice_get ss m ≡ Some x → to ≤ x.at → (k : ℕ) (s : Spot) → m ≤ k → slice_get ss k ≡ Some s → to ≤ s.at
all_above ss up m x to is le k s mk h = chosen (below_or_at m k (omega (arith, mk))) where
  chosen : (m < k) ⊎ (m ≡ k) → to ≤ s.at
  chosen (inl l) = let a = up m k x s l is h in omega (arith, a, le)
  chosen (inr e) = let a = same_spot ss m k x s e is h in omega (arith, a, le)

less_or : (k m : ℕ) → (k < m) ⊎ (m ≤ k)
less_or k zero = inr (omega arith)
less_or zero (suc m) = inl (omega arith)
less_or (suc k) (suc m) = up (less_or k m) where
  up : (k < m) ⊎ (m ≤ k) → (suc k < suc m) ⊎ (suc m ≤ suc k)
  up (inl h) = inl (omega (arith, h))
  up (inr h) = inr (omega (arith, h))

-- where halving ends on another place, or behind all, no instruction has the place
pub missed : (ss : List Spot) → Ascend ss → (low to : ℕ) → ((k : ℕ) (s : Spot) → k < low → slice_get ss k ≡ Some s → s.at < to) → (x : Spot) → slice_get ss low ≡ Some x → to ≤ x.at → x.at ≢ to
    → (i : ℕ) (s : Spot) → slice_get ss i ≡ Some s → s.at ≢ to
missed ss up low to below x is le other i s h = chosen (less_or i low) where
  chosen : (i < low) ⊎ (low ≤ i) → s.at ≢ to
  chosen (inl lt) = λ e. (let a = below i s lt h in omega (arith, a, e))
  chosen (inr ge) = later (below_or_at low i (omega (arith, ge))) where
    later : (low < i) ⊎ (low ≡ i) → s.at ≢ to
    later (inl lt) = λ e. (let a = up low i x s lt is h in omega (arith, a, le, e))
    later (inr e) = λ d. other (same_spot ss low i x s e is h ∙ d)

pub none_behind : (ss : List Spot) (low to : ℕ) → length ss ≤ low → ((k : ℕ) (s : Spot) → k < low → slice_get ss k ≡ Some s → s.at < to) → (i : ℕ) (s : Spot) → slice_get ss i ≡ Some s → s.at ≢ to
none_behind ss low to le below i s h = λ e. (let lt = get_within ss i s h in let a = below i s (omega (arith, lt, le)) h in omega (arith, a, e))

pub spots_len : (all : List Placed) → length (map spot_of all) ≡ length all
spots_len [] = refl
spots_len (p ∷ ps) = ap suc (spots_len ps)

-- a place that no number is
pub nowhere : (all : List Placed) (z : ℤ) → ((n : ℕ) → n < 2 ^ 64 → z ≢ pos n) → instr_at (map spot_of all) z ≡ length all
nowhere all (negsuc n) h = below_is (map spot_of all) n ∙ spots_len all
nowhere all (pos n) h = none_is (map spot_of all) n (λ i x g. low all i x g) ∙ spots_len all where
  low : (all : List Placed) (i : ℕ) (x : Spot) → slice_get (map spot_of all) i ≡ Some x → x.at ≢ n
  low [] i x e = absurd cc
  low (p ∷ ps) zero x e = λ same. (let a = ap (λ (s : Spot). s.at) (one_is (spot_of p) x e) in let ends = p.ends in let short = p.short in absurd (h n (omega (arith, a, same, ends, short)) refl))
  low (p ∷ ps) (suc i) x e = low ps i x e
