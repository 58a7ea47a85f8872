-- Places and points as the code keeps them.
use Rattle.std.specs.Prelude.{◌≡◌, ◌⊎◌, ◌+◌, ◌≤◌, ℕ, ℤ, pos, ◌-ℤ◌, ◌+ℤ◌, List, [], ◌∷◌, ◌++◌, length, drop, slice_get}
use Rattle.std.specs.Prelude.{Some, Result, Ok, Err}
use Rattle.std.specs.List.{AllByRecursion}
use Rattle.code_form.specs.declared.instr.Instr.{Instr}
use Rattle.code_form.specs.Bytes.{size, BeginsWith}
use Rattle.code_form.specs.Heights.{Callees, step_among}
use Rattle.code_form.specs.Modules.{Procedure, World}
use Rattle.code_form.specs.Valid.{Point as PointOf, AreInstrs, callees_of, points, IsValidCode, IsFault, in_code}
use Rattle.code_form.specs.Valid.{of_high}
use Rattle.object_file.specs.declared.point.Place.{Place}
use Rattle.object_file.specs.declared.point.Point.{Point}
use Rattle.object_file.specs.declared.fault.CodeFault.{CodeFault}
use Rattle.object_file.specs.declared.fault.CodeFault.TheVariants as faults

abbrev pub point_of : Point → PointOf
point_of p =
    record { at = p.at; height = p.height; step = record { instr = p.instr; takes = p.takes; leaves = p.leaves } }

-- this holds of the points of a procedure's code, if that is instructions
abbrev pub OfPoints : World → Procedure → (List PointOf → Type 0) → Type 0
OfPoints w p Holds = (is : List Instr) → AreInstrs p.code is → Holds (points (callees_of w p) 0 (pos 0) is)

-- the place behind instructions, and the height
abbrev pub end_of : (at : ℕ) → List Instr → ℕ
end_of at [] = at
end_of at (i ∷ is) = end_of (at + size i) is

abbrev pub height_of : Callees → (height : ℤ) → List Instr → ℤ
height_of c h [] = h
height_of c h (i ∷ is) = height_of c (h -ℤ pos (step_among c i).takes +ℤ pos (step_among c i).leaves) is

-- this place with this height is behind the first of these instructions
pub record IsBehind (c : Callees) (is : List Instr) (at : ℕ) (h : ℤ) : Type 0 where
  pub before : List Instr
  pub later : List Instr
  pub split : is ≡ before ++ later
  pub place : at ≡ end_of 0 before
  pub level : h ≡ height_of c (pos 0) before

-- a walk over the procedure's code comes to this place with this height
pub record IsPassed (w : World) (p : Procedure) (at : ℕ) (h : ℤ) : Type 0 where
  pub within : at ≤ length p.code
  pub behind : (is : List Instr) → AreInstrs p.code is → IsBehind (callees_of w p) is at h

-- the instruction at such a place
pub record IsPointAt (w : World) (p : Procedure) (at : ℕ) (h : ℤ) (q : Point) : Type 0 where
  pub at_is : q.at ≡ at
  pub height_is : q.height ≡ h
  pub step_is : record { instr = q.instr; takes = q.takes; leaves = q.leaves } ≡ step_among (callees_of w p) q.instr
  pub begins : BeginsWith (drop at p.code) q.instr (drop q.end p.code)
  pub within : q.end ≤ length p.code

abbrev pub AreMarks : World → Procedure → List Place → Type 0
AreMarks w p marks = AllByRecursion (λ m. IsPassed w p m.at m.height) marks

-- where the code begins, or one of the marks
abbrev pub IsKnown : List Place → Place → Type 0
IsKnown marks m = ((m.at ≡ 0) × (m.height ≡ pos 0)) ⊎ ((k : ℕ) × (slice_get marks k ≡ Some m))

-- what is told of a code
abbrev pub Tells : World → (k : ℕ) → Procedure → Result (Unit {0}) CodeFault → Type 0
Tells w k p (Ok u) = IsValidCode w k p
Tells w k p (Err faults.Memory) = Unit {0}
Tells w k p (Err (faults.InCode at code)) = IsFault w k p (in_code at code)
Tells w k p (Err faults.OfHigh) = IsFault w k p of_high
