-- Where jumps land, and the first fault of a code.
use Rattle.std.proofs.Common.{◌≡◌, ℕ, ◌+◌, Bool, true, false, List, [], ◌∷◌, length, Option, Some, None, Err, refl, sym, ap, subst, ◌∙◌, arith, eqb}
use Rattle.std.specs.Prelude.{ℤ, pos, ◌+ℤ◌, if◌then◌else◌, is_some}
use Rattle.std.specs.Option.{option_map}
use Rattle.code_form.specs.declared.instr.Instr.{Instr}
use Rattle.code_form.specs.Bytes.{size, spelling, code_bytes}
use Rattle.code_form.proofs.Spellings.{length-spelling}
use Rattle.std.proofs.lemmas.Bool.{ne_eqb}
use Rattle.std.proofs.lemmas.List.{length-append}
use Rattle.code_form.specs.Modules.{Procedure, World}
use Rattle.code_form.specs.Valid.{Point as PointOf, AreInstrs, points, at_place, when_there, same_place, jump_of, target_passes, same_height, is_right, is_level, first_not, highest, fault_among, in_code, of_high, Fault, in_code_or, callees_of, IsFault, no_instr}
use Rattle.object_file.specs.declared.point.Place.{Place}
use Rattle.object_file.specs.declared.point.Point.{Point}
use Rattle.object_file.specs.Points.{point_of, Tells}
use Rattle.object_file.specs.Surveys.{Surveys}
use Rattle.object_file.specs.declared.fault.CodeFault.{CodeFault}
use Rattle.object_file.specs.declared.fault.CodeFault.TheVariants as faults
use Rattle.object_file.specs.Targets.{point_at, height_at}

-- ---- where jumps land

at_place-is : (all : List PointOf) (to : ℤ) (test : PointOf → Bool) → at_place all to test ≡ when_there (point_at all to) test
unfolding point_at
at_place-is [] to test = refl
at_place-is (p ∷ ps) to test = chosen (same_place to p.at) (at_place-is ps to test) where
  chosen : (b : Bool) → at_place ps to test ≡ when_there (point_at ps to) test → (if b then test p else at_place ps to test) ≡ when_there (if b then Some p else point_at ps to) test
  chosen true h = refl
  chosen false h = h

-- a test of the height alone
of_height : (found : Option PointOf) (test : ℤ → Bool) → when_there found (λ q. test q.height) ≡ when_there (option_map (λ q. q.height) found) test
of_height (Some q) test = refl
of_height None test = refl

pub lands_by : (all : List PointOf) (p : Point) (test : ℤ → ℕ → Bool) (j : ℤ) (gone : ℕ) (found : Option ℤ) → jump_of p.instr ≡ Some (j, gone) → found ≡ height_at all (pos p.end +ℤ j)
    → when_there found (λ h. test h gone) ≡ target_passes all (point_of p) (λ q g. test q.height g) (jump_of p.instr)
lands_by all p test j gone found e f = sym (
    ap (target_passes all (point_of p) (λ q g. test q.height g)) e
    ∙ at_place-is all (pos (p.at + size p.instr) +ℤ j) (λ q. test q.height gone)
    ∙ ap (λ (n : ℕ). when_there (point_at all (pos n +ℤ j)) (λ q. test q.height gone)) (sym p.ends)
    ∙ of_height (point_at all (pos p.end +ℤ j)) (λ h. test h gone)
    ∙ ap (λ (o : Option ℤ). when_there o (λ h. test h gone)) (sym f))

pub there : (o : Option Place) → is_some o ≡ when_there (option_map (λ m. m.height) o) (λ h. true)
there (Some m) = refl
there None = refl

pub stays : (all : List PointOf) (p : Point) (test : PointOf → ℕ → Bool) → jump_of p.instr ≡ None → true ≡ target_passes all (point_of p) test (jump_of p.instr)
stays all p test e = sym (ap (target_passes all (point_of p) test) e)

-- ---- the first fault

abbrev pub decide : (empty : Bool) → (right level : Option ℕ) → (high : Bool) → Option Fault
decide empty right level high = if empty then Some (in_code 0 6) else in_code_or 6 right (in_code_or 7 level (if high then None else Some of_high))

none_then_none : (is : List Instr) → eqb (length is) 0 ≡ eqb (length (code_bytes is)) 0
none_then_none [] = refl
none_then_none (i ∷ is) =
    ne_eqb (length (i ∷ is)) 0 (λ e. absurd (omega (arith, e)))
    ∙ sym (ne_eqb (length (code_bytes (i ∷ is))) 0 (λ e. absurd (omega (arith, e, length-append (spelling i) (code_bytes is), length-spelling i))))

pub no_code : (code : List ℕ) (is : List Instr) → AreInstrs code is → eqb (length is) 0 ≡ eqb (length code) 0
no_code code is a = none_then_none is ∙ ap (λ (b : List ℕ). eqb (length b) 0) (sym a.spelled)

pub fault_is : (w : World) (k : ℕ) (p : Procedure) (is : List Instr) (empty : Bool) (right level : Option ℕ) (high : Bool)
    → eqb (length is) 0 ≡ empty
    → first_not (is_right w k p (points (callees_of w p) 0 (pos 0) is)) (points (callees_of w p) 0 (pos 0) is) ≡ right
    → first_not (is_level (points (callees_of w p) 0 (pos 0) is)) (points (callees_of w p) 0 (pos 0) is) ≡ level
    → same_height (highest (pos 0) (points (callees_of w p) 0 (pos 0) is)) (pos p.high) ≡ high → fault_among w k p is ≡ decide empty right level high
fault_is w k p is empty right level high e r l g =
    let all : List PointOf = points (callees_of w p) 0 (pos 0) is in
    ap (λ (b : Bool). decide b (first_not (is_right w k p all) all) (first_not (is_level all) all) (same_height (highest (pos 0) all) (pos p.high))) e
    ∙ ap (λ (o : Option ℕ). decide empty o (first_not (is_level all) all) (same_height (highest (pos 0) all) (pos p.high))) r
    ∙ ap (λ (o : Option ℕ). decide empty right o (same_height (highest (pos 0) all) (pos p.high))) l
    ∙ ap (decide empty right level) g

-- what a walk tells is told of the code
pub walk_told : (w : World) (k : ℕ) (p : Procedure) (e : CodeFault) → Surveys w k p (Err e) → Tells w k p (Err e)
walk_told w k p faults.Memory h = tt
walk_told w k p (faults.InCode at code) h = subst (λ (n : ℕ). IsFault w k p (in_code at n)) (sym h.1) (no_instr at h.0)
walk_told w k p faults.OfHigh h = absurd h
