-- What walks over a code find first.
use Rattle.std.proofs.Common.{◌≡◌, ℕ, ◌+◌, ◌<◌, ◌≤◌, Bool, true, false, cond, List, [], ◌∷◌, length, drop, Option, Some, None, refl, ap, ◌∙◌, arith, subst}
use Rattle.std.specs.Prelude.{ℤ, pos, ◌+ℤ◌, ◌-ℤ◌, ◌&&◌, ◌||◌, is_some, nat_lt, int_le}
use Rattle.std.proofs.lemmas.Bool.{lt-ltb, le-ltb}
use Rattle.std.proofs.lemmas.List.{take_all}
use Rattle.code_form.specs.declared.instr.Instr.{Instr}
use Rattle.code_form.specs.Bytes.{size}
use Rattle.code_form.specs.Heights.{Callees, step_among}
use Rattle.code_form.specs.Modules.{Procedure, World}
use Rattle.code_form.specs.Valid.{Point as PointOf, points, AreInstrs, callees_of, height_behind, first_not, is_right, is_level, jump_of, same_height, names_what_is_there, is_end, returns_all}
use Rattle.object_file.specs.declared.point.Place.{Place}
use Rattle.object_file.specs.declared.point.Point.{Point}
use Rattle.object_file.specs.declared.findings.Findings.{Findings}
use Rattle.object_file.specs.declared.survey.Survey.{Survey}
use Rattle.object_file.specs.Firsts.{is_named, is_stocked, is_landing, is_landing_level, kept, first_jump, place_or, earlier, IsLeft, AreJumpsFrom}
use Rattle.object_file.specs.Points.{point_of, OfPoints, IsPointAt}
use Rattle.object_file.specs.Surveys.{IsSurvey}
use Rattle.object_file.proofs.Judging.{stays}
use Rattle.object_file.proofs.Walking.{BeginsNone, IsWalk, left_first, left_on, left_fails, left_none}

-- ---- the first that fails a test

-- what is known of the first place that fails, where a walk has come to a place
abbrev pub IsFirst : World → Procedure → (List PointOf → PointOf → Bool) → Option ℕ → ℕ → ℤ → Type 0
IsFirst w p test None at h = IsLeft w p test at h
IsFirst w p test (Some n) at h = OfPoints w p (λ all. Some n ≡ first_not (test all) all)

pub first_on : (w : World) (p : Procedure) (test : List PointOf → PointOf → Bool) (known : Option ℕ) (passes : Bool) (at : ℕ) (h : ℤ) (q : Point) → IsFirst w p test known at h → IsPointAt w p at h q
    → ((is : List Instr) → AreInstrs p.code is → passes ≡ test (points (callees_of w p) 0 (pos 0) is) (point_of q)) → IsFirst w p test (kept known passes q.at) q.end (height_behind (point_of q))
first_on w p test (Some n) passes at h q first here passed = first
first_on w p test None true at h q first here passed = left_on w p test at h q first here passed
first_on w p test None false at h q first here passed = λ is a. ap Some here.at_is ∙ left_fails w p test at h q first here passed is a

pub first_ends : (w : World) (p : Procedure) (test : List PointOf → PointOf → Bool) (known : Option ℕ) (at : ℕ) (h : ℤ) → IsFirst w p test known at h → BeginsNone (drop at p.code)
    → OfPoints w p (λ all. known ≡ first_not (test all) all)
first_ends w p test (Some n) at h first none = first
first_ends w p test None at h first none = left_none w p test at h first none

-- ---- where jumps begin

jumps_first : (w : World) (p : Procedure) (at : ℕ) (h : ℤ) → at ≡ 0 → h ≡ pos 0 → AreJumpsFrom w p at h
jumps_first w p at h e f = record { within = omega (arith, e); lands = left_first w p is_landing at h e f; level = left_first w p is_landing_level at h e f }

jumps_on : (w : World) (p : Procedure) (at : ℕ) (h : ℤ) (q : Point) → AreJumpsFrom w p at h → IsPointAt w p at h q → jump_of q.instr ≡ None → AreJumpsFrom w p q.end (height_behind (point_of q))
jumps_on w p at h q jumps here none = record {
  within = here.within;
  lands = left_on w p is_landing at h q jumps.lands here (λ is a. stays (points (callees_of w p) 0 (pos 0) is) q (λ r gone. true) none);
  level = left_on w p is_landing_level at h q jumps.level here (λ is a. stays (points (callees_of w p) 0 (pos 0) is) q (λ r gone. same_height (q.height -ℤ pos gone) r.height) none);
}

-- before the first jump that is known, or else before this place, nothing jumps
abbrev pub AreFrom : World → Procedure → Option Place → ℕ → ℤ → Type 0
AreFrom w p None at h = AreJumpsFrom w p at h
AreFrom w p (Some m) at h = AreJumpsFrom w p m.at m.height

no_jump : {A : Type 0} (o : Option A) → is_some o ≡ false → o ≡ None
no_jump (Some x) e = absurd cc
no_jump None e = refl

from_by : (w : World) (p : Procedure) (known : Option Place) (jumps : Bool) (m : Place) (q : Point) → AreFrom w p known m.at m.height → IsPointAt w p m.at m.height q → is_some (jump_of q.instr) ≡ jumps
    → AreFrom w p (first_jump known jumps m) q.end (height_behind (point_of q))
from_by w p (Some n) jumps m q from here e = from
from_by w p None true m q from here e = from
from_by w p None false m q from here e = jumps_on w p m.at m.height q from here (no_jump (jump_of q.instr) e)

pub from_ends : (w : World) (p : Procedure) (known : Option Place) (m : Place) → AreFrom w p known m.at m.height → AreJumpsFrom w p (place_or known m).at (place_or known m).height
from_ends w p (Some n) m from = from
from_ends w p None m from = from

-- ---- what is found on the way

pub record AreFound (w : World) (k : ℕ) (p : Procedure) (f : Findings) (at : ℕ) (h : ℤ) : Type 0 where
  pub wrong : IsFirst w p (λ all. is_named w k p) f.wrong at h
  pub low : IsFirst w p (λ all. is_stocked) f.low at h
  pub jumps : AreFrom w p f.jump at h

pub found_first : (w : World) (k : ℕ) (p : Procedure) (f : Findings) (at : ℕ) (h : ℤ) → f.wrong ≡ None → f.low ≡ None → f.jump ≡ None → at ≡ 0 → h ≡ pos 0 → AreFound w k p f at h
found_first w k p f at h wrong low jump e g = record {
  wrong = rw wrong (left_first w p (λ all. is_named w k p) at h e g);
  low = rw low (left_first w p (λ all. is_stocked) at h e g);
  jumps = rw jump (jumps_first w p at h e g);
}

pub found_on : (w : World) (k : ℕ) (p : Procedure) (f g : Findings) (m : Place) (q : Point) → AreFound w k p f m.at m.height → IsPointAt w p m.at m.height q
    → g.wrong ≡ kept f.wrong (is_named w k p (point_of q)) q.at → g.low ≡ kept f.low (is_stocked (point_of q)) q.at → g.jump ≡ first_jump f.jump (is_some (jump_of q.instr)) m
    → AreFound w k p g q.end (height_behind (point_of q))
found_on w k p f g m q found here wrong low jump = record {
  wrong = rw wrong (first_on w p (λ all. is_named w k p) f.wrong (is_named w k p (point_of q)) m.at m.height q found.wrong here (λ is a. refl));
  low = rw low (first_on w p (λ all. is_stocked) f.low (is_stocked (point_of q)) m.at m.height q found.low here (λ is a. refl));
  jumps = rw jump (from_by w p f.jump (is_some (jump_of q.instr)) m q found.jumps here refl);
}

pub survey_ends : (w : World) (k : ℕ) (p : Procedure) (s : Survey) (m : Place) → IsWalk w p s.marks.items s.highest m.at m.height → AreFound w k p s.found m.at m.height
    → length p.code ≤ m.at → BeginsNone (drop m.at p.code) → s.jumps ≡ place_or s.found.jump m → IsSurvey w k p s
survey_ends w k p s m walk found le none jumps = record {
  is = walk.before;
  instrs_are = subst (λ (b : List ℕ). AreInstrs b walk.before) (take_all m.at p.code le) walk.instrs_are;
  highest_is = walk.most_is;
  marks_are = walk.marked;
  wrong_is = first_ends w p (λ all. is_named w k p) s.found.wrong m.at m.height found.wrong none;
  low_is = first_ends w p (λ all. is_stocked) s.found.low m.at m.height found.low none;
  jumps_are = rw jumps (from_ends w p s.found.jump m found.jumps);
}

-- ---- the earlier of two

some_at : (m n : ℕ) → Some m ≡ Some n → m ≡ n
some_at m n e = cc

-- none of the points from a place on is before it
none_before : (c : Callees) (at : ℕ) (h : ℤ) (is : List Instr) (test : PointOf → Bool) (n : ℕ) → first_not test (points c at h is) ≡ Some n → at ≤ n
none_before c at h [] test n e = absurd cc
none_before c at h (x ∷ xs) test n e =
    let s = step_among c x in
    picked (test (record { at = at; height = h; step = s })) (first_not test (points c (at + size x) (h -ℤ pos s.takes +ℤ pos s.leaves) xs)) (λ m f. none_before c (at + size x) (h -ℤ pos s.takes +ℤ pos s.leaves) xs test m f) e
  where
    picked : (b : Bool) (later : Option ℕ) → ((m : ℕ) → later ≡ Some m → at + size x ≤ m) → cond b later (Some at) ≡ Some n → at ≤ n
    picked true later above e = omega (arith, above n e)
    picked false later above e = omega (arith, some_at at n e)

-- the earlier of two, where the one here is followed by later ones
one_earlier : (at : ℕ) (x y : Option ℕ) (a b : Bool) → ((n : ℕ) → x ≡ Some n → at < n) → ((n : ℕ) → y ≡ Some n → at < n)
    → cond (a && b) (earlier x y) (Some at) ≡ earlier (cond a x (Some at)) (cond b y (Some at))
one_earlier at x y true true f g = refl
one_earlier at None y true false f g = refl
one_earlier at (Some m) y true false f g = rw (lt-ltb at m (f m refl)) refl
one_earlier at x None false true f g = refl
one_earlier at x (Some n) false true f g = rw (le-ltb n at (let lt = g n refl in omega (arith, lt))) refl
one_earlier at x y false false f g = rw (le-ltb at at (omega arith)) refl

-- the first that fails one of two tests is the earlier of the first that fail them
first_of_both : (c : Callees) (at : ℕ) (h : ℤ) (is : List Instr) (both one other : PointOf → Bool) → ((q : PointOf) → both q ≡ (one q && other q))
    → first_not both (points c at h is) ≡ earlier (first_not one (points c at h is)) (first_not other (points c at h is))
first_of_both c at h [] both one other e = refl
first_of_both c at h (x ∷ xs) both one other e =
    let s = step_among c x in
    let q : PointOf = record { at = at; height = h; step = s } in
    let later : List PointOf = points c (at + size x) (h -ℤ pos s.takes +ℤ pos s.leaves) xs in
    let above = none_before c (at + size x) (h -ℤ pos s.takes +ℤ pos s.leaves) xs in
    ap (λ (b : Bool). cond b (first_not both later) (Some at)) (e q)
    ∙ ap (λ (o : Option ℕ). cond (one q && other q) o (Some at)) (first_of_both c (at + size x) (h -ℤ pos s.takes +ℤ pos s.leaves) xs both one other e)
    ∙ one_earlier at (first_not one later) (first_not other later) (one q) (other q) (λ n f. omega (arith, above one n f)) (λ n f. omega (arith, above other n f))

three : (a b c : Bool) → (a && b && c) ≡ ((a && c) && b)
three true true true = refl
three true true false = refl
three true false true = refl
three true false false = refl
three false b c = refl

pub right_is : (w : World) (k : ℕ) (p : Procedure) (is : List Instr) (wrong nowhere : Option ℕ)
    → wrong ≡ first_not (is_named w k p) (points (callees_of w p) 0 (pos 0) is)
    → nowhere ≡ first_not (is_landing (points (callees_of w p) 0 (pos 0) is)) (points (callees_of w p) 0 (pos 0) is)
    → first_not (is_right w k p (points (callees_of w p) 0 (pos 0) is)) (points (callees_of w p) 0 (pos 0) is) ≡ earlier wrong nowhere
right_is w k p is wrong nowhere e f =
    let all : List PointOf = points (callees_of w p) 0 (pos 0) is in
    rw (e, f) (first_of_both (callees_of w p) 0 (pos 0) is (is_right w k p all) (is_named w k p) (is_landing all) (λ q. three (names_what_is_there w k p q.step.instr) (is_landing all q) (nat_lt (q.at + size q.step.instr) (length p.code) || is_end q.step.instr)))

pub level_is : (w : World) (p : Procedure) (is : List Instr) (low uneven : Option ℕ)
    → low ≡ first_not is_stocked (points (callees_of w p) 0 (pos 0) is)
    → uneven ≡ first_not (is_landing_level (points (callees_of w p) 0 (pos 0) is)) (points (callees_of w p) 0 (pos 0) is)
    → first_not (is_level (points (callees_of w p) 0 (pos 0) is)) (points (callees_of w p) 0 (pos 0) is) ≡ earlier low uneven
level_is w p is low uneven e f =
    let all : List PointOf = points (callees_of w p) 0 (pos 0) is in
    rw (e, f) (first_of_both (callees_of w p) 0 (pos 0) is (is_level all) is_stocked (is_landing_level all) (λ q. three (int_le (pos q.step.takes) q.height) (is_landing_level all q) (returns_all q.step.instr q.height q.step.takes)))
