-- What valid code says of each of its instructions.
use Rattle.std.proofs.Common.{◌≡◌, ℕ, zero, suc, ◌+◌, ◌-◌, ◌<◌, ◌≤◌, Bool, true, false, cond, eqb, ltb, leb, List, [], ◌∷◌, ◌++◌, length, map, Option, Some, None, refl, sym, ap, ◌∙◌, subst, arith}
use Rattle.std.specs.Prelude.{ℤ, pos, negsuc, ◌+ℤ◌, ◌-ℤ◌, ◌≤ℤ◌, int_le, int_lt, slice_get, unsigned_abs, ◌&&◌, ◌||◌}
use Rattle.std.proofs.lemmas.Bool.{leb-true, ltb-true, eqb-true}
use Rattle.std.proofs.lemmas.Int.{ints}
use Rattle.std.proofs.lemmas.List.{length-append}
use Rattle.code_form.specs.declared.effect.Effect.{Effect}
use Rattle.code_form.specs.declared.effect.Effect.TheVariants.{Changes, CallsOwn, CallsImport, GivesResult}
use Rattle.code_form.specs.declared.instr.Instr.{Instr}
use Rattle.code_form.specs.Instructions.{line_of}
use Rattle.code_form.specs.Bytes.{size, spelling, code_bytes}
use Rattle.code_form.specs.Heights.{Callees, Step, step_by, step_among}
use Rattle.code_form.specs.Modules.{Procedure, World}
use Rattle.code_form.specs.Valid.{Point, points, height_behind, Fault, in_code, of_high, in_code_or, first_not, at_place, same_place, same_height, highest, is_right, is_level, fault_among, callees_of}
use Rattle.code_form.proofs.Spellings.{length-spelling}
use Rattle.stack_machine.specs.Loading.{Spot, spots, instr_at}
use Rattle.stack_machine.proofs.Flat.{one_is}

-- ---- points and instructions

step_instr : (c : Callees) (i : Instr) (e : Effect) → (step_by c i e).instr ≡ i
step_instr c i (Changes takes leaves) = refl
step_instr c i (CallsOwn p) = refl
step_instr c i (CallsImport m k) = refl
step_instr c i GivesResult = refl

pub instr_is : (c : Callees) (i : Instr) → (step_among c i).instr ≡ i
instr_is c i = step_instr c i (line_of i).effect

pub record PointAt (c : Callees) (at : ℕ) (h : ℤ) (is : List Instr) (n : ℕ) : Type 0 where
  pub place : ℕ
  pub height : ℤ
  pub instr : Instr
  pub instr_is : slice_get is n ≡ Some instr
  pub point_is : slice_get (points c at h is) n ≡ Some (record { at = place; height = height; step = step_among c instr })
  pub spot_is : slice_get (spots at is) n ≡ Some (record { at = place; instr = instr })

pub point_at : (c : Callees) (at : ℕ) (h : ℤ) (is : List Instr) (n : ℕ) → n < length is → PointAt c at h is n
point_at c at h [] n lt = absurd (omega arith)
point_at c at h (i ∷ is) zero lt = record { place = at; height = h; instr = i; instr_is = refl; point_is = refl; spot_is = refl }
point_at c at h (i ∷ is) (suc n) lt =
    let r = point_at c (at + size i) (h -ℤ pos (step_among c i).takes +ℤ pos (step_among c i).leaves) is n (omega arith) in
    record { place = r.place; height = r.height; instr = r.instr; instr_is = r.instr_is; point_is = r.point_is; spot_is = r.spot_is }

pub points_length : (c : Callees) (at : ℕ) (h : ℤ) (is : List Instr) → length (points c at h is) ≡ length is
points_length c at h [] = refl
points_length c at h (i ∷ is) = ap suc (points_length c (at + size i) (h -ℤ pos (step_among c i).takes +ℤ pos (step_among c i).leaves) is)

pub spots_length : (at : ℕ) (is : List Instr) → length (spots at is) ≡ length is
spots_length at [] = refl
spots_length at (i ∷ is) = ap suc (spots_length (at + size i) is)

abbrev pub spot_at : Point → Spot
spot_at p = record { at = p.at; instr = p.step.instr }

pub spots_are : (c : Callees) (at : ℕ) (h : ℤ) (is : List Instr) → map spot_at (points c at h is) ≡ spots at is
spots_are c at h [] = refl
spots_are c at h (i ∷ is) =
    ap (λ (x : Instr). record { at = at; instr = x } ∷ map spot_at (points c (at + size i) (h -ℤ pos (step_among c i).takes +ℤ pos (step_among c i).leaves) is)) (instr_is c i)
    ∙ ap (λ (ss : List Spot). record { at = at; instr = i } ∷ ss) (spots_are c (at + size i) (h -ℤ pos (step_among c i).takes +ℤ pos (step_among c i).leaves) is)

-- the point behind one that isn't the last
pub next_point : (c : Callees) (at : ℕ) (h : ℤ) (is : List Instr) (n : ℕ) (p : Point) → slice_get (points c at h is) n ≡ Some p → p.at + size p.step.instr < at + length (code_bytes is)
    → (q : Point) × (slice_get (points c at h is) (suc n) ≡ Some q) × (q.height ≡ height_behind p)
next_point c at h [] n p e lt = absurd cc
next_point c at h (i ∷ []) zero p e lt =
    let same = one_is (record { at = at; height = h; step = step_among c i }) p e in
    let a : at ≡ p.at = ap (λ (x : Point). x.at) same in
    let s : size i ≡ size p.step.instr = ap size (sym (instr_is c i)) ∙ ap (λ (x : Point). size x.step.instr) same in
    absurd (omega (arith, a, s, lt, length-spelling i, length-append (spelling i) []))
next_point c at h (i ∷ j ∷ is) zero p e lt =
    let same = one_is (record { at = at; height = h; step = step_among c i }) p e in
    (_, refl, ap height_behind same)
next_point c at h (i ∷ is) (suc n) p e lt =
    next_point c (at + size i) (h -ℤ pos (step_among c i).takes +ℤ pos (step_among c i).leaves) is n p e (omega (arith, lt, length-spelling i, length-append (spelling i) (code_bytes is)))

-- ---- the tests

pub record Judged (w : World) (k : ℕ) (p : Procedure) (is : List Instr) : Type 0 where
  pub some : 0 < length is
  pub right : (n : ℕ) (x : Point) → slice_get (points (callees_of w p) 0 (pos 0) is) n ≡ Some x → is_right w k p (points (callees_of w p) 0 (pos 0) is) x ≡ true
  pub level : (n : ℕ) (x : Point) → slice_get (points (callees_of w p) 0 (pos 0) is) n ≡ Some x → is_level (points (callees_of w p) 0 (pos 0) is) x ≡ true
  pub high : same_height (highest (pos 0) (points (callees_of w p) 0 (pos 0) is)) (pos p.high) ≡ true

all_pass : (test : Point → Bool) (ps : List Point) → first_not test ps ≡ None → (n : ℕ) (x : Point) → slice_get ps n ≡ Some x → test x ≡ true
all_pass test [] e n x is = absurd cc
all_pass test (q ∷ ps) e n x is = chosen (test q) refl e (λ d m is'. all_pass test ps d m x is') where
  one : (n : ℕ) → slice_get (q ∷ ps) n ≡ Some x → test q ≡ true → ((m : ℕ) → slice_get ps m ≡ Some x → test x ≡ true) → test x ≡ true
  one zero is t rest = subst (λ (y : Point). test y ≡ true) (one_is q x is) t
  one (suc m) is t rest = rest m is

  chosen : (b : Bool) → test q ≡ b → cond b (first_not test ps) (Some q.at) ≡ None → (first_not test ps ≡ None → (m : ℕ) → slice_get ps m ≡ Some x → test x ≡ true) → test x ≡ true
  chosen false t e rest = absurd cc
  chosen true t e rest = one n is t (rest e)

record Parts (empty : Bool) (right level : Option ℕ) (high : Bool) : Type 0 where
  some : empty ≡ false
  right_none : right ≡ None
  level_none : level ≡ None
  high_same : high ≡ true

parts : (empty : Bool) (right level : Option ℕ) (high : Bool) → cond empty (Some (in_code 0 6)) (in_code_or 6 right (in_code_or 7 level (cond high None (Some of_high)))) ≡ None → Parts empty right level high
parts true right level high e = absurd cc
parts false (Some x) level high e = absurd cc
parts false None (Some x) high e = absurd cc
parts false None None false e = absurd cc
parts false None None true e = record { some = refl; right_none = refl; level_none = refl; high_same = refl }

not_zero : (n : ℕ) → eqb n 0 ≡ false → 0 < n
not_zero zero e = absurd cc
not_zero (suc n) e = omega arith

pub judged : (w : World) (k : ℕ) (p : Procedure) (is : List Instr) → fault_among w k p is ≡ None → Judged w k p is
judged w k p is e =
    let all = points (callees_of w p) 0 (pos 0) is in
    let d = parts (eqb (length is) 0) (first_not (is_right w k p all) all) (first_not (is_level all) all) (same_height (highest (pos 0) all) (pos p.high)) e in
    record {
      some = not_zero (length is) d.some;
      right = all_pass (is_right w k p all) all d.right_none;
      level = all_pass (is_level all) all d.level_none;
      high = d.high_same;
    }

-- ---- heights

pub same_pos : (h : ℤ) (n : ℕ) → same_height h (pos n) ≡ true → h ≡ pos n
same_pos (pos m) n e = ap pos (eqb-true m n e)
same_pos (negsuc m) n e = absurd cc

pub same_is : (h k : ℤ) → same_height h k ≡ true → h ≡ k
same_is (pos m) (pos n) e = ap pos (eqb-true m n e)
same_is (negsuc m) (negsuc n) e = ap negsuc (eqb-true m n e)
same_is (pos m) (negsuc n) e = absurd cc
same_is (negsuc m) (pos n) e = absurd cc

-- a height that has what an instruction takes
pub height_pos : (t : ℕ) (h : ℤ) → int_le (pos t) h ≡ true → (n : ℕ) × (h ≡ pos n) × (t ≤ n)
height_pos t (pos n) e = (n, refl, omega (arith, ints, e))
height_pos t (negsuc n) e = absurd (omega (arith, ints, e))

pub abs_is : (h t l : ℕ) → t ≤ h → unsigned_abs (pos h -ℤ pos t +ℤ pos l) ≡ h - t + l
abs_is h t l le = omega (arith, ints)

pub behind_is : (h t l : ℕ) → t ≤ h → pos h -ℤ pos t +ℤ pos l ≡ pos (h - t + l)
behind_is h t l le = omega (arith, ints)

greater : ℤ → ℤ → ℤ
greater m b = cond (int_lt m b) b m

greater_left : (m b : ℤ) → m ≤ℤ cond (int_lt m b) b m
greater_left m b = chosen (int_lt m b) refl where
  chosen : (t : Bool) → int_lt m b ≡ t → m ≤ℤ cond t b m
  chosen true e = omega (arith, ints, e)
  chosen false e = omega (arith, ints)

greater_right : (m b : ℤ) → b ≤ℤ cond (int_lt m b) b m
greater_right m b = chosen (int_lt m b) refl where
  chosen : (t : Bool) → int_lt m b ≡ t → b ≤ℤ cond t b m
  chosen true e = omega (arith, ints)
  chosen false e = omega (arith, ints, e)

z_trans : (a b c : ℤ) → a ≤ℤ b → b ≤ℤ c → a ≤ℤ c
z_trans a b c p q = omega (arith, ints, p, q)

low_highest : (m : ℤ) (ps : List Point) → m ≤ℤ highest m ps
low_highest m [] = omega (arith, ints)
low_highest m (p ∷ ps) =
    let next = cond (int_lt m (height_behind p)) (height_behind p) m in
    z_trans m next (highest next ps) (greater_left m (height_behind p)) (low_highest next ps)

pub point_highest : (c : Callees) (at : ℕ) (h : ℤ) (is : List Instr) (n : ℕ) (p : Point) (m : ℤ) → h ≤ℤ m → slice_get (points c at h is) n ≡ Some p → p.height ≤ℤ highest m (points c at h is)
point_highest c at h [] n p m le is = absurd cc
point_highest c at h (i ∷ is) zero p m le e =
    let same = one_is (record { at = at; height = h; step = step_among c i }) p e in
    subst (λ (x : Point). x.height ≤ℤ highest m (points c at h (i ∷ is))) same (z_trans h m (highest m (points c at h (i ∷ is))) le (low_highest m (points c at h (i ∷ is))))
point_highest c at h (i ∷ is) (suc n) p m le e =
    let b = h -ℤ pos (step_among c i).takes +ℤ pos (step_among c i).leaves in
    point_highest c (at + size i) b is n p (cond (int_lt m b) b m) (greater_right m b) e

pub pos_le : (m n : ℕ) → pos m ≤ℤ pos n → m ≤ n
pos_le m n e = omega (arith, ints, e)

-- ---- jumps

pub record Lands (all : List Point) (to : ℤ) (test : Point → Bool) : Type 0 where
  pub point : Point
  pub is : slice_get all (instr_at (map spot_at all) to) ≡ Some point
  pub passes : test point ≡ true

pub lands : (all : List Point) (to : ℤ) (test : Point → Bool) → at_place all to test ≡ true → Lands all to test
lands [] to test e = absurd cc
lands (p ∷ ps) to test e = chosen (same_place to p.at) refl e (λ e'. lands ps to test e') where
  chosen : (b : Bool) → same_place to p.at ≡ b → cond b (test p) (at_place ps to test) ≡ true → (at_place ps to test ≡ true → Lands ps to test) → Lands (p ∷ ps) to test
  chosen true s e rest = record { point = p; is = ap (λ (b : Bool). slice_get (p ∷ ps) (cond b 0 (suc (instr_at (map spot_at ps) to)))) s; passes = e }
  chosen false s e rest =
      let r = rest e in
      record { point = r.point; is = ap (λ (b : Bool). slice_get (p ∷ ps) (cond b 0 (suc (instr_at (map spot_at ps) to)))) s ∙ r.is; passes = r.passes }
