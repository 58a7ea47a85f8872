-- A walk over a code comes to each of its instructions in turn.
use Rattle.std.proofs.Common.{◌≡◌, ◌≢◌, ℕ, zero, suc, ◌+◌, ◌<◌, ◌≤◌, Bool, true, false, cond, List, [], ◌∷◌, ◌++◌, length, take, drop, Option, Some, None, refl, sym, ap, subst, ◌∙◌, arith, inl, inr}
use Rattle.std.specs.Prelude.{ℤ, pos, negsuc, ◌+ℤ◌, ◌-ℤ◌, ◌⊎◌, int_lt, slice_get}
use Rattle.std.specs.List.{AllByRecursion}
use Rattle.std.specs.Option.{option_map}
use Rattle.std.proofs.lemmas.Bool.{ne_eqb}
use Rattle.std.proofs.lemmas.List.{drop_at, length-append}
use Rattle.std.proofs.lemmas.Grind.{flat_map-append}
use Rattle.std.proofs.Math.Seq.{append_snoc}
use Rattle.code_form.specs.declared.instr.Instr.{Instr}
use Rattle.code_form.specs.Instructions.{IsInstr}
use Rattle.code_form.specs.Bytes.{spelling, size, code_bytes, BeginsWith}
use Rattle.code_form.specs.Heights.{Callees, Step, step_among}
use Rattle.code_form.specs.Modules.{Procedure, World}
use Rattle.code_form.specs.Valid.{Point as PointOf, points, AreInstrs, StopsAt, callees_of, height_behind, first_not, same_place, highest}
use Rattle.code_form.proofs.Spellings.{one_instr, length-spelling}
use Rattle.object_file.specs.declared.point.Place.{Place}
use Rattle.object_file.specs.declared.point.Point.{Point}
use Rattle.object_file.specs.Firsts.{IsLeft}
use Rattle.object_file.specs.Points.{point_of, end_of, height_of, IsBehind, IsPassed, IsPointAt, AreMarks, IsKnown}
use Rattle.object_file.specs.Targets.{point_at, height_at}
use Rattle.object_file.proofs.Listings.{AreInstrs-more, stops, points-more, end_of-more, height_of-more, length-code_bytes, point-is}
use Rattle.object_file.proofs.Matching.{eq-eqb}

-- ---- what stands behind a place

abbrev pub BeginsNone : List ℕ → Type 0
BeginsNone bytes = (i : Instr) (rest : List ℕ) → BeginsWith bytes i rest → ⊥

all_behind : (xs ys : List Instr) → AllByRecursion IsInstr (xs ++ ys) → AllByRecursion IsInstr ys
all_behind [] ys h = h
all_behind (x ∷ xs) ys h = all_behind xs ys h.1

code_behind : (c : Callees) (code : List ℕ) (is : List Instr) (at : ℕ) (h : ℤ) → AreInstrs code is → (b : IsBehind c is at h) → code ≡ code_bytes b.before ++ code_bytes b.later
code_behind c code is at h a b = a.spelled ∙ ap code_bytes b.split ∙ flat_map-append spelling b.before b.later

bytes_behind : (c : Callees) (code : List ℕ) (is : List Instr) (at : ℕ) (h : ℤ) → AreInstrs code is → (b : IsBehind c is at h) → drop at code ≡ code_bytes b.later
bytes_behind c code is at h a b =
    ap (drop at) (code_behind c code is at h a b) ∙ drop_at (code_bytes b.before) (code_bytes b.later) at (omega (arith, b.place, length-code_bytes 0 b.before))

in_range_behind : (c : Callees) (code : List ℕ) (is : List Instr) (at : ℕ) (h : ℤ) → AreInstrs code is → (b : IsBehind c is at h) → AllByRecursion IsInstr b.later
in_range_behind c code is at h a b = all_behind b.before b.later (subst (AllByRecursion IsInstr) b.split a.in_range)

no_bytes : (i : Instr) (rest : List ℕ) → [] ≡ spelling i ++ rest → ⊥
no_bytes i rest e = absurd cc

-- where an instruction begins it is the next
record IsNext (later : List Instr) (i : Instr) : Type 0 where
  more : List Instr
  split : later ≡ i ∷ more

next_of : (later : List Instr) (bytes : List ℕ) (i : Instr) (rest : List ℕ) → bytes ≡ code_bytes later → AllByRecursion IsInstr later → BeginsWith bytes i rest → IsNext later i
next_of [] bytes i rest e h b = absurd (no_bytes i rest (sym e ∙ b.spelled))
next_of (x ∷ xs) bytes i rest e h b = record { more = xs; split = ap (λ (y : Instr). y ∷ xs) (one_instr bytes (code_bytes xs) rest x i (record { in_range = h.0; spelled = e }) b) }

next : (c : Callees) (code : List ℕ) (is : List Instr) (at : ℕ) (h : ℤ) (i : Instr) (rest : List ℕ) → AreInstrs code is → (b : IsBehind c is at h) → BeginsWith (drop at code) i rest → IsNext b.later i
next c code is at h i rest a b begins = next_of b.later (drop at code) i rest (bytes_behind c code is at h a b) (in_range_behind c code is at h a b) begins

-- where none begins none is left
none_of : (later : List Instr) (bytes : List ℕ) → bytes ≡ code_bytes later → AllByRecursion IsInstr later → BeginsNone bytes → later ≡ []
none_of [] bytes e h n = refl
none_of (x ∷ xs) bytes e h n = absurd (n x (code_bytes xs) (record { in_range = h.0; spelled = e }))

none_left : (c : Callees) (code : List ℕ) (is : List Instr) (at : ℕ) (h : ℤ) → AreInstrs code is → (b : IsBehind c is at h) → BeginsNone (drop at code) → b.later ≡ []
none_left c code is at h a b n = none_of b.later (drop at code) (bytes_behind c code is at h a b) (in_range_behind c code is at h a b) n

-- ---- places that are passed

abbrev start_is : (c : Callees) (is : List Instr) → IsBehind c is 0 (pos 0)
start_is c is = record { before = []; later = is; split = refl; place = refl; level = refl }

pub passed_first : (w : World) (p : Procedure) (at : ℕ) (h : ℤ) → at ≡ 0 → h ≡ pos 0 → IsPassed w p at h
passed_first w p at h e f = record { within = omega (arith, e); behind = λ is a. rw (e, f) (start_is (callees_of w p) is) }

height_on : (c : Callees) (q : Point) (h : ℤ) → q.height ≡ h → record { instr = q.instr; takes = q.takes; leaves = q.leaves } ≡ step_among c q.instr
    → height_behind (point_of q) ≡ h -ℤ pos (step_among c q.instr).takes +ℤ pos (step_among c q.instr).leaves
height_on c q h e s =
    ap (λ (x : ℤ). x -ℤ pos q.takes +ℤ pos q.leaves) e ∙ ap (λ (t : Step). h -ℤ pos t.takes +ℤ pos t.leaves) s

behind_on : (w : World) (p : Procedure) (at : ℕ) (h : ℤ) (q : Point) (is : List Instr) (b : IsBehind (callees_of w p) is at h) → IsPointAt w p at h q → IsNext b.later q.instr → IsBehind (callees_of w p) is q.end (height_behind (point_of q))
behind_on w p at h q is b here n =
    let c = callees_of w p in
    record {
      before = b.before ++ q.instr ∷ [];
      later = n.more;
      split = b.split ∙ ap (λ (l : List Instr). b.before ++ l) n.split ∙ sym (append_snoc b.before q.instr n.more);
      place = q.ends ∙ ap (λ (x : ℕ). x + size q.instr) (here.at_is ∙ b.place) ∙ sym (end_of-more 0 b.before q.instr);
      level = height_on c q h here.height_is here.step_is
          ∙ ap (λ (x : ℤ). x -ℤ pos (step_among c q.instr).takes +ℤ pos (step_among c q.instr).leaves) b.level
          ∙ sym (height_of-more c (pos 0) b.before q.instr);
    }

pub passed_on : (w : World) (p : Procedure) (at : ℕ) (h : ℤ) (q : Point) → IsPassed w p at h → IsPointAt w p at h q → IsPassed w p q.end (height_behind (point_of q))
passed_on w p at h q passed here = record {
  within = here.within;
  behind = λ is a. let b = passed.behind is a in behind_on w p at h q is b here (next (callees_of w p) p.code is at h q.instr (drop q.end p.code) a b here.begins);
}

-- ---- the first that fails a test

pub left_first : (w : World) (p : Procedure) (test : List PointOf → PointOf → Bool) (at : ℕ) (h : ℤ) → at ≡ 0 → h ≡ pos 0 → IsLeft w p test at h
left_first w p test at h e f = λ is a. rw (e, f) (start_is (callees_of w p) is, refl)

-- the points behind a place begin with the one there
points_next : (w : World) (p : Procedure) (at : ℕ) (h : ℤ) (q : Point) (later : List Instr) → IsPointAt w p at h q → (n : IsNext later q.instr)
    → points (callees_of w p) at h later ≡ point_of q ∷ points (callees_of w p) q.end (height_behind (point_of q)) n.more
points_next w p at h q later here n =
    let c = callees_of w p in
    let s = step_among c q.instr in
    let one = point-is at q.at h q.height s (record { instr = q.instr; takes = q.takes; leaves = q.leaves }) (sym here.at_is) (sym here.height_is) (sym here.step_is) in
    let end : at + size q.instr ≡ q.end = ap (λ (x : ℕ). x + size q.instr) (sym here.at_is) ∙ sym q.ends in
    ap (points c at h) n.split
    ∙ ap (λ (x : PointOf). x ∷ points c (at + size q.instr) (h -ℤ pos s.takes +ℤ pos s.leaves) n.more) one
    ∙ ap (λ (e : ℕ). point_of q ∷ points c e (h -ℤ pos s.takes +ℤ pos s.leaves) n.more) end
    ∙ ap (λ (x : ℤ). point_of q ∷ points c q.end x n.more) (sym (height_on c q h here.height_is here.step_is))

passes : (test : PointOf → Bool) (q : PointOf) (qs : List PointOf) → test q ≡ true → first_not test (q ∷ qs) ≡ first_not test qs
passes test q qs e = ap (λ (b : Bool). cond b (first_not test qs) (Some q.at)) e

fails : (test : PointOf → Bool) (q : PointOf) (qs : List PointOf) → test q ≡ false → first_not test (q ∷ qs) ≡ Some q.at
fails test q qs e = ap (λ (b : Bool). cond b (first_not test qs) (Some q.at)) e

pub left_on : (w : World) (p : Procedure) (test : List PointOf → PointOf → Bool) (at : ℕ) (h : ℤ) (q : Point) → IsLeft w p test at h → IsPointAt w p at h q
    → ((is : List Instr) → AreInstrs p.code is → true ≡ test (points (callees_of w p) 0 (pos 0) is) (point_of q)) → IsLeft w p test q.end (height_behind (point_of q))
unfolding behind_on
left_on w p test at h q left here passed = λ is a.
    let c = callees_of w p in
    let b = (left is a).0 in
    let n = next c p.code is at h q.instr (drop q.end p.code) a b here.begins in
    let t : PointOf → Bool = test (points c 0 (pos 0) is) in (
      behind_on w p at h q is b here n,
      sym (ap (first_not t) (points_next w p at h q b.later here n) ∙ passes t (point_of q) (points c q.end (height_behind (point_of q)) n.more) (sym (passed is a))) ∙ (left is a).1,
    )

pub left_fails : (w : World) (p : Procedure) (test : List PointOf → PointOf → Bool) (at : ℕ) (h : ℤ) (q : Point) → IsLeft w p test at h → IsPointAt w p at h q
    → ((is : List Instr) → AreInstrs p.code is → false ≡ test (points (callees_of w p) 0 (pos 0) is) (point_of q))
    → (is : List Instr) → AreInstrs p.code is → Some at ≡ first_not (test (points (callees_of w p) 0 (pos 0) is)) (points (callees_of w p) 0 (pos 0) is)
left_fails w p test at h q left here failed is a =
    let c = callees_of w p in
    let b = (left is a).0 in
    let n = next c p.code is at h q.instr (drop q.end p.code) a b here.begins in
    let t : PointOf → Bool = test (points c 0 (pos 0) is) in
    ap Some (sym here.at_is)
    ∙ sym (ap (first_not t) (points_next w p at h q b.later here n) ∙ fails t (point_of q) (points c q.end (height_behind (point_of q)) n.more) (sym (failed is a)))
    ∙ (left is a).1

pub left_none : (w : World) (p : Procedure) (test : List PointOf → PointOf → Bool) (at : ℕ) (h : ℤ) → IsLeft w p test at h → BeginsNone (drop at p.code)
    → (is : List Instr) → AreInstrs p.code is → None ≡ first_not (test (points (callees_of w p) 0 (pos 0) is)) (points (callees_of w p) 0 (pos 0) is)
left_none w p test at h left none is a =
    let c = callees_of w p in
    let b = (left is a).0 in
    ap (λ (l : List Instr). first_not (test (points c 0 (pos 0) is)) (points c at h l)) (sym (none_left c p.code is at h a b none)) ∙ (left is a).1

-- ---- the point at a place

-- behind a place is the point that is sought
abbrev pub IsSought : World → Procedure → (to at : ℕ) → ℤ → Type 0
IsSought w p to at h =
    (is : List Instr) → AreInstrs p.code is → (b : IsBehind (callees_of w p) is at h)
    × (point_at (points (callees_of w p) 0 (pos 0) is) (pos to) ≡ point_at (points (callees_of w p) at h b.later) (pos to))

end_above : (at : ℕ) (is : List Instr) → at ≤ end_of at is
end_above at is = omega (arith, length-code_bytes at is)

not_here : (at : ℕ) (q : PointOf) (qs : List PointOf) (to : ℕ) → to ≢ q.at → point_at (q ∷ qs) (pos to) ≡ point_at qs (pos to)
unfolding point_at
not_here at q qs to ne = ap (λ (b : Bool). cond b (Some q) (point_at qs (pos to))) (ne_eqb to q.at ne)

here_is : (q : PointOf) (qs : List PointOf) (to : ℕ) → to ≡ q.at → point_at (q ∷ qs) (pos to) ≡ Some q
unfolding point_at
here_is q qs to e = ap (λ (b : Bool). cond b (Some q) (point_at qs (pos to))) (eq-eqb to q.at e)

skipped : (c : Callees) (at : ℕ) (h : ℤ) (before later : List Instr) (to : ℕ) → end_of at before ≤ to
    → point_at (points c at h (before ++ later)) (pos to) ≡ point_at (points c (end_of at before) (height_of c h before) later) (pos to)
skipped c at h [] later to le = refl
skipped c at h (x ∷ xs) later to le =
    let s = step_among c x in
    not_here at (record { at = at; height = h; step = s }) (points c (at + size x) (h -ℤ pos s.takes +ℤ pos s.leaves) (xs ++ later)) to (λ e. absurd (omega (arith, e, le, end_above (at + size x) xs)))
    ∙ skipped c (at + size x) (h -ℤ pos s.takes +ℤ pos s.leaves) xs later to le

pub sought_first : (w : World) (p : Procedure) (to at : ℕ) (h : ℤ) → IsPassed w p at h → at ≤ to → IsSought w p to at h
sought_first w p to at h passed le = λ is a.
    let c = callees_of w p in
    let b = passed.behind is a in (
      b,
      ap (λ (l : List Instr). point_at (points c 0 (pos 0) l) (pos to)) b.split
          ∙ skipped c 0 (pos 0) b.before b.later to (omega (arith, b.place, le))
          ∙ ap (λ (n : ℕ). point_at (points c n (height_of c (pos 0) b.before) b.later) (pos to)) (sym b.place)
          ∙ ap (λ (x : ℤ). point_at (points c at x b.later) (pos to)) (sym b.level),
    )

pub sought_on : (w : World) (p : Procedure) (to at : ℕ) (h : ℤ) (q : Point) → IsSought w p to at h → at < to → IsPointAt w p at h q → IsSought w p to q.end (height_behind (point_of q))
unfolding behind_on
sought_on w p to at h q sought lt here = λ is a.
    let c = callees_of w p in
    let b = (sought is a).0 in
    let n = next c p.code is at h q.instr (drop q.end p.code) a b here.begins in (
      behind_on w p at h q is b here n,
      (sought is a).1 ∙ ap (λ (l : List PointOf). point_at l (pos to)) (points_next w p at h q b.later here n)
          ∙ not_here at (point_of q) (points c q.end (height_behind (point_of q)) n.more) to (λ e. absurd (omega (arith, e, lt, here.at_is))),
    )

none_above : (c : Callees) (at : ℕ) (h : ℤ) (is : List Instr) (to : ℕ) → to < at → point_at (points c at h is) (pos to) ≡ None
unfolding point_at
none_above c at h [] to lt = refl
none_above c at h (x ∷ xs) to lt =
    let s = step_among c x in
    not_here at (record { at = at; height = h; step = s }) (points c (at + size x) (h -ℤ pos s.takes +ℤ pos s.leaves) xs) to (λ e. absurd (omega (arith, e, lt)))
    ∙ none_above c (at + size x) (h -ℤ pos s.takes +ℤ pos s.leaves) xs to (omega (arith, lt))

height_none : (ps : List PointOf) (z : ℤ) → point_at ps z ≡ None → None ≡ height_at ps z
height_none ps z e = sym (ap (λ (o : Option PointOf). cond_height o) e) where
  cond_height : Option PointOf → Option ℤ
  cond_height (Some q) = Some q.height
  cond_height None = None

length_behind : (c : Callees) (code : List ℕ) (is : List Instr) (at : ℕ) (h : ℤ) → AreInstrs code is → (b : IsBehind c is at h) → length code ≡ at + length (code_bytes b.later)
length_behind c code is at h a b =
    omega (arith, ap length (code_behind c code is at h a b), length-append (code_bytes b.before) (code_bytes b.later), length-code_bytes 0 b.before, b.place)

no_more : (later : List Instr) → length (code_bytes later) ≡ 0 → later ≡ []
no_more [] e = refl
no_more (x ∷ xs) e = absurd (omega (arith, e, length-append (spelling x) (code_bytes xs), length-spelling x))

some_here : (c : Callees) (at : ℕ) (h : ℤ) (later : List Instr) → 0 < length (code_bytes later) → height_at (points c at h later) (pos at) ≡ Some h
some_here c at h [] lt = absurd (omega (arith, lt))
some_here c at h (x ∷ xs) lt =
    let s = step_among c x in
    ap height_in (here_is (record { at = at; height = h; step = s }) (points c (at + size x) (h -ℤ pos s.takes +ℤ pos s.leaves) xs) at refl)
  where
    height_in : Option PointOf → Option ℤ
    height_in o = option_map (λ q. q.height) o

-- the heights are those of the same points
same_height_at : (ps qs : List PointOf) (z : ℤ) → point_at ps z ≡ point_at qs z → height_at ps z ≡ height_at qs z
same_height_at ps qs z e = ap (λ (o : Option PointOf). option_map (λ q. q.height) o) e

pub sought_found : (w : World) (p : Procedure) (to at : ℕ) (h : ℤ) → IsSought w p to at h → at ≡ to → to < length p.code
    → (is : List Instr) → AreInstrs p.code is → Some h ≡ height_at (points (callees_of w p) 0 (pos 0) is) (pos to)
sought_found w p to at h sought e lt is a =
    let c = callees_of w p in
    let b = (sought is a).0 in
    sym (same_height_at (points c 0 (pos 0) is) (points c at h b.later) (pos to) (sought is a).1
    ∙ ap (λ (n : ℕ). height_at (points c at h b.later) (pos n)) (sym e)
    ∙ some_here c at h b.later (omega (arith, e, lt, length_behind c p.code is at h a b)))

pub sought_past : (w : World) (p : Procedure) (to at : ℕ) (h : ℤ) → IsSought w p to at h → to < at
    → (is : List Instr) → AreInstrs p.code is → None ≡ height_at (points (callees_of w p) 0 (pos 0) is) (pos to)
sought_past w p to at h sought lt is a =
    let c = callees_of w p in
    let b = (sought is a).0 in
    height_none (points c 0 (pos 0) is) (pos to) ((sought is a).1 ∙ none_above c at h b.later to lt)

other_place : (z : ℤ) (at : ℕ) → z ≢ pos at → same_place z at ≡ false
other_place (pos n) at h = ne_eqb n at (λ e. h (ap pos e))
other_place (negsuc n) at h = refl

no_point : (ps : List PointOf) (z : ℤ) → ((k : ℕ) (q : PointOf) → slice_get ps k ≡ Some q → z ≢ pos q.at) → point_at ps z ≡ None
unfolding point_at
no_point [] z h = refl
no_point (q ∷ qs) z h = ap (λ (b : Bool). cond b (Some q) (point_at qs z)) (other_place z q.at (h 0 q refl)) ∙ no_point qs z (λ k r e. h (suc k) r e)

left_of : (w : World) (p : Procedure) (to at : ℕ) (h : ℤ) (sought : IsSought w p to at h) (is : List Instr) (a : AreInstrs p.code is) → (sought is a).0.later ≡ []
    → None ≡ height_at (points (callees_of w p) 0 (pos 0) is) (pos to)
left_of w p to at h sought is a e =
    let c = callees_of w p in
    height_none (points c 0 (pos 0) is) (pos to) ((sought is a).1 ∙ ap (λ (l : List Instr). point_at (points c at h l) (pos to)) e ∙ no_point [] (pos to) (λ k q e. absurd cc))

pub sought_beyond : (w : World) (p : Procedure) (to at : ℕ) (h : ℤ) → IsSought w p to at h → to ≤ at → length p.code ≤ to
    → (is : List Instr) → AreInstrs p.code is → None ≡ height_at (points (callees_of w p) 0 (pos 0) is) (pos to)
sought_beyond w p to at h sought le past is a =
    let c = callees_of w p in
    let b = (sought is a).0 in
    left_of w p to at h sought is a (no_more b.later (omega (arith, le, past, length_behind c p.code is at h a b)))

pub sought_none : (w : World) (p : Procedure) (to at : ℕ) (h : ℤ) → IsSought w p to at h → BeginsNone (drop at p.code)
    → (is : List Instr) → AreInstrs p.code is → None ≡ height_at (points (callees_of w p) 0 (pos 0) is) (pos to)
sought_none w p to at h sought none is a = left_of w p to at h sought is a (none_left (callees_of w p) p.code is at h a (sought is a).0 none)

-- no place is before the beginning, or as far as no machine counts
pub nowhere : (ps : List PointOf) (z : ℤ) → ((k : ℕ) (q : PointOf) → slice_get ps k ≡ Some q → z ≢ pos q.at) → None ≡ height_at ps z
nowhere ps z h = height_none ps z (no_point ps z h)

-- each point is at a place before the end
places_within : (c : Callees) (at : ℕ) (h : ℤ) (is : List Instr) (k : ℕ) (q : PointOf) → slice_get (points c at h is) k ≡ Some q → q.at < at + length (code_bytes is)
places_within c at h [] k q e = absurd cc
places_within c at h (x ∷ xs) zero q e =
    let s = step_among c x in
    let same = point_same (record { at = at; height = h; step = s }) q e in
    omega (arith, same, length-append (spelling x) (code_bytes xs), length-spelling x)
  where
    point_same : (p q : PointOf) → Some p ≡ Some q → p.at ≡ q.at
    point_same p q e = cc
places_within c at h (x ∷ xs) (suc k) q e =
    let s = step_among c x in
    omega (arith, places_within c (at + size x) (h -ℤ pos s.takes +ℤ pos s.leaves) xs k q e, length-append (spelling x) (code_bytes xs), length-spelling x)

pub place_within : (w : World) (p : Procedure) (is : List Instr) (k : ℕ) (q : PointOf) → AreInstrs p.code is → slice_get (points (callees_of w p) 0 (pos 0) is) k ≡ Some q → q.at < length p.code
place_within w p is k q a e = omega (arith, places_within (callees_of w p) 0 (pos 0) is k q e, ap length a.spelled)

-- ---- marks

pub mark_is : (w : World) (p : Procedure) (marks : List Place) (m : Place) → AreMarks w p marks → IsKnown marks m → IsPassed w p m.at m.height
mark_is w p marks m h (inl first) = passed_first w p m.at m.height first.0 first.1
mark_is w p marks m h (inr known) = among marks h known.0 known.1 where
  some_is : {A : Type 0} (x y : A) → Some x ≡ Some y → x ≡ y
  some_is x y e = cc

  among : (ms : List Place) → AreMarks w p ms → (k : ℕ) → slice_get ms k ≡ Some m → IsPassed w p m.at m.height
  among [] h k e = absurd cc
  among (x ∷ xs) h zero e = subst (λ (n : Place). IsPassed w p n.at n.height) (some_is x m e) h.0
  among (x ∷ xs) h (suc k) e = among xs h.1 k e

pub marks_more : (w : World) (p : Procedure) (marks : List Place) (m : Place) → AreMarks w p marks → IsPassed w p m.at m.height → AreMarks w p (marks ++ m ∷ [])
marks_more w p [] m h here = (here, tt)
marks_more w p (x ∷ xs) m h here = (h.0, marks_more w p xs m h.1 here)

-- ---- the greatest height

pub highest-more : (h : ℤ) (ps : List PointOf) (p : PointOf) → highest h (ps ++ p ∷ []) ≡ highest (highest h ps) (p ∷ [])
highest-more h [] p = refl
highest-more h (q ∷ qs) p = highest-more (highest h (q ∷ [])) qs p

-- ---- what a walk keeps

pub record IsWalk (w : World) (p : Procedure) (marks : List Place) (most : ℤ) (at : ℕ) (h : ℤ) : Type 0 where
  pub before : List Instr
  pub instrs_are : AreInstrs (take at p.code) before
  pub place : at ≡ end_of 0 before
  pub level : h ≡ height_of (callees_of w p) (pos 0) before
  pub passed : IsPassed w p at h
  pub marked : AreMarks w p marks
  pub most_is : most ≡ highest (pos 0) (points (callees_of w p) 0 (pos 0) before)

pub walk_first : (w : World) (p : Procedure) (marks : List Place) (most : ℤ) (at : ℕ) (h : ℤ) → marks ≡ [] → most ≡ pos 0 → at ≡ 0 → h ≡ pos 0 → IsWalk w p marks most at h
walk_first w p marks most at h none m e f = rw (none, m, e, f) (record {
  before = [];
  instrs_are = record { in_range = tt; spelled = refl };
  place = refl;
  level = refl;
  passed = passed_first w p 0 (pos 0) refl refl;
  marked = tt;
  most_is = refl;
})

-- no mark more, or one
marks_on : (w : World) (p : Procedure) (old new : List Place) (m : Place) → AreMarks w p old → IsPassed w p m.at m.height → ((new ≡ old) ⊎ (new ≡ old ++ m ∷ [])) → AreMarks w p new
marks_on w p old new m h here (inl same) = subst (AreMarks w p) (sym same) h
marks_on w p old new m h here (inr more) = subst (AreMarks w p) (sym more) (marks_more w p old m h here)

pub walk_on : (w : World) (p : Procedure) (old new : List Place) (most : ℤ) (m : Place) (q : Point) → IsWalk w p old most m.at m.height → IsPointAt w p m.at m.height q
    → ((new ≡ old) ⊎ (new ≡ old ++ m ∷ [])) → IsWalk w p new (cond (int_lt most (height_behind (point_of q))) (height_behind (point_of q)) most) q.end (height_behind (point_of q))
walk_on w p old new most m q walk here added =
    let c = callees_of w p in
    let i = q.instr in
    let s = step_among c i in
    let b = walk.before in
    let last : PointOf = record { at = end_of 0 b; height = height_of c (pos 0) b; step = s } in
    let one : last ≡ point_of q =
    point-is (end_of 0 b) q.at (height_of c (pos 0) b) q.height s (record { instr = q.instr; takes = q.takes; leaves = q.leaves })
    (sym (here.at_is ∙ walk.place)) (sym (here.height_is ∙ walk.level)) (sym here.step_is) in
    let x = height_behind (point_of q) in
    record {
      before = b ++ i ∷ [];
      instrs_are = AreInstrs-more p.code m.at q.end b i walk.instrs_are here.begins (omega (arith, q.forward, here.at_is)) here.within;
      place = q.ends ∙ ap (λ (n : ℕ). n + size i) (here.at_is ∙ walk.place) ∙ sym (end_of-more 0 b i);
      level = height_on c q m.height here.height_is here.step_is ∙ ap (λ (y : ℤ). y -ℤ pos s.takes +ℤ pos s.leaves) walk.level ∙ sym (height_of-more c (pos 0) b i);
      passed = passed_on w p m.at m.height q walk.passed here;
      marked = marks_on w p old new m walk.marked walk.passed added;
      most_is =
          ap (λ (y : ℤ). cond (int_lt y x) x y) walk.most_is
          ∙ ap (λ (l : PointOf). highest (highest (pos 0) (points c 0 (pos 0) b)) (l ∷ [])) (sym one)
          ∙ sym (highest-more (pos 0) (points c 0 (pos 0) b) last)
          ∙ ap (highest (pos 0)) (sym (points-more c 0 (pos 0) b i));
    }

pub walk_stops : (w : World) (p : Procedure) (marks : List Place) (most : ℤ) (at : ℕ) (h : ℤ) → IsWalk w p marks most at h → at < length p.code → BeginsNone (drop at p.code) → StopsAt p.code at
walk_stops w p marks most at h walk lt none = stops p.code at walk.before walk.instrs_are lt none
