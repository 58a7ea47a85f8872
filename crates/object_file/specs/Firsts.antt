-- The first places of a code that fail a test.
use Rattle.std.specs.Prelude.{◌≡◌, ℕ, ◌+◌, ◌≤◌, ℤ, pos, ◌-ℤ◌, int_le, Bool, true, ◌&&◌, ◌||◌, List, length, nat_lt}
use Rattle.std.specs.Prelude.{Option, Some, None, if◌then◌else◌}
use Rattle.code_form.specs.declared.instr.Instr.{Instr}
use Rattle.code_form.specs.Bytes.{size}
use Rattle.code_form.specs.Modules.{Procedure, World}
use Rattle.code_form.specs.Valid.{Point as PointOf, AreInstrs, callees_of, points, first_not, names_what_is_there}
use Rattle.code_form.specs.Valid.{is_end, jump_of, target_passes, same_height, returns_all}
use Rattle.object_file.specs.declared.point.Place.{Place}
use Rattle.object_file.specs.Points.{IsBehind}

-- the operands name what is there, and the last instruction ends
abbrev pub is_named : World → (k : ℕ) → Procedure → PointOf → Bool
is_named w k p q = names_what_is_there w k p q.step.instr
    && (nat_lt (q.at + size q.step.instr) (length p.code) || is_end q.step.instr)

-- the height has what the instruction takes, and a return takes all of it
abbrev pub is_stocked : PointOf → Bool
is_stocked q = int_le (pos q.step.takes) q.height && returns_all q.step.instr q.height q.step.takes

-- a jump goes to an instruction
abbrev pub is_landing : List PointOf → PointOf → Bool
is_landing all q = target_passes all q (λ r gone. true) (jump_of q.step.instr)

-- after a jump the height is that at its target
abbrev pub is_landing_level : List PointOf → PointOf → Bool
is_landing_level all q =
    target_passes all q (λ r gone. same_height (q.height -ℤ pos gone) r.height) (jump_of q.step.instr)

-- the first place that failed: that which is known, or else this one, if it doesn't pass
abbrev pub kept : Option ℕ → (passes : Bool) → (at : ℕ) → Option ℕ
kept (Some n) passes at = Some n
kept None passes at = if passes then None else Some at

-- where the first jump is: where it is known to be, or else here, if this is one
abbrev pub first_jump : Option Place → (jumps : Bool) → (here : Place) → Option Place
first_jump (Some m) jumps here = Some m
first_jump None jumps here = if jumps then Some here else None

abbrev pub place_or : Option Place → Place → Place
place_or (Some m) end = m
place_or None end = end

abbrev pub earlier : Option ℕ → Option ℕ → Option ℕ
earlier None y = y
earlier (Some m) None = Some m
earlier (Some m) (Some n) = if nat_lt n m then Some n else Some m

-- of what stands behind a place the first that fails the test is that of all
abbrev pub IsLeft : World → Procedure → (List PointOf → PointOf → Bool) → ℕ → ℤ → Type 0
IsLeft w p test at h =
    (is : List Instr) → AreInstrs p.code is → (b : IsBehind (callees_of w p) is at h)
    × (first_not (test (points (callees_of w p) 0 (pos 0) is)) (points (callees_of w p) at h b.later)
    ≡ first_not (test (points (callees_of w p) 0 (pos 0) is)) (points (callees_of w p) 0 (pos 0) is))

-- what jumps wrongly stands behind this place
pub record AreJumpsFrom (w : World) (p : Procedure) (at : ℕ) (h : ℤ) : Type 0 where
  pub within : at ≤ length p.code
  pub lands : IsLeft w p is_landing at h
  pub level : IsLeft w p is_landing_level at h
