-- Which code is valid: it is instructions one after another, what their operands name is there, their jumps go to
-- instructions, their heights agree, the last one ends, and the greatest height is the one that is told. Stated by the
-- first fault of a code, in the order in which faults are told.
use Rattle.std.specs.Prelude.{◌≡◌, ℕ, zero, suc, ◌+◌, ◌<◌, ◌==◌, ℤ, pos, negsuc, ◌+ℤ◌, ◌-ℤ◌, int_le, int_lt, Bool}
use Rattle.std.specs.Prelude.{true, false, ◌&&◌, ◌||◌, List, [], ◌∷◌, ◌++◌, length, slice_get, Option, Some, None}
use Rattle.std.specs.Prelude.{nat_le, nat_lt, if◌then◌else◌}
use Rattle.std.specs.List.{AllByRecursion}
use Rattle.code_form.specs.Instructions.{Instr, Local, Global, Str, CallX, Call, CallVar, Proc, OpenCopy, Jump}
use Rattle.code_form.specs.Instructions.{JumpFalse, AndJump, OrJump, Return, Trap, Halt, IsInstr}
use Rattle.code_form.specs.Bytes.{code_bytes, size, BeginsWith}
use Rattle.code_form.specs.Heights.{Callee, Callees, Step, step_among}
use Rattle.code_form.specs.Modules.{Import, Procedure, World}

-- ---- what operands name

-- what is there passes the test
abbrev pub when_there : {A : Type 0} → Option A → (A → Bool) → Bool
when_there None test = false
when_there (Some x) test = test x

-- the import m, from 1
abbrev pub import_of : World → ℕ → Option Import
import_of w zero = None
import_of w (suc m) = slice_get w.imports m

abbrev pub has_heading : World → (m k : ℕ) → Bool
has_heading w m k = when_there (import_of w m) (λ i. nat_lt k (length i.headings))

abbrev pub outer_or : ℕ → Option Procedure → ℕ
outer_or d None = d
outer_or d (Some p) = p.outer

-- the outer procedure, 0 at module level
abbrev pub outer_of : World → ℕ → ℕ
outer_of w k = outer_or 0 (slice_get w.procedures k)

-- the procedure that h static links lead to from procedure k; no link leads out of one at module level
unfoldable pub linked : World → (h k : ℕ) → Option ℕ
linked w zero k = Some k
linked w (suc h) k = if outer_of w k == 0 then None else linked w h (outer_of w k)

abbrev pub has_cell : World → (m o : ℕ) → Bool
has_cell w zero o = nat_lt o w.cells
has_cell w (suc m) o = when_there (slice_get w.imports m) (λ i. nat_lt o i.cells)

-- a procedure that can be a value: one of module level but the body, or a heading of an import
abbrev pub is_value : World → (m k : ℕ) → Bool
is_value w zero k = nat_le 1 k && when_there (slice_get w.procedures k) (λ p. p.outer == 0)
is_value w (suc m) k = has_heading w (suc m) k

-- a procedure of module level is called with no link, and any other one by links that lead to its outer procedure
abbrev pub can_call : World → (from p h : ℕ) → Bool
can_call w from p h =
    nat_le 1 p && when_there (slice_get w.procedures p) (λ callee.
    if callee.outer == 0 then h == 0 else when_there (linked w h from) (λ q. q == callee.outer))

-- a cell of the procedure that h links lead to
abbrev pub has_local : World → (from h o : ℕ) → Bool
has_local w from h o =
    when_there (linked w h from) (λ q. when_there (slice_get w.procedures q) (λ p. nat_lt o p.locals))

-- What the operands of an instruction in the code of procedure k name is there. A call of a variable has a result of
-- one cell or none; both cells of an open array are the procedure's.
abbrev pub names_what_is_there : World → (k : ℕ) → Procedure → Instr → Bool
names_what_is_there w k p (Local h o) = has_local w k h o
names_what_is_there w k p (Global m o) = has_cell w m o
names_what_is_there w k p (Str o) = nat_lt o (length p.bytes)
names_what_is_there w k p (Call q h) = can_call w k q h
names_what_is_there w k p (CallX m heading) = has_heading w m heading
names_what_is_there w k p (CallVar n r) = nat_le r 1
names_what_is_there w k p (Proc m q) = is_value w m q
names_what_is_there w k p (OpenCopy o s) = nat_lt (o + 1) p.locals
names_what_is_there w k p i = true

-- ---- instructions at their places

abbrev pub no_callee : Callee
no_callee = record { params = 0; result = 0 }

abbrev pub procedure_or : Option Procedure → Callee
procedure_or None = no_callee
procedure_or (Some p) = record { params = p.params; result = p.result }

abbrev pub heading_or : Option Callee → Callee
heading_or None = no_callee
heading_or (Some c) = c

abbrev pub headings_or : Option Import → List Callee
headings_or None = []
headings_or (Some i) = i.headings

-- what the calls in a procedure's code take and leave
abbrev pub callees_of : World → Procedure → Callees
callees_of w p =
    record {
      own = λ q. procedure_or (slice_get w.procedures q);
      imported = λ m k. heading_or (slice_get (headings_or (import_of w m)) k);
      result = p.result;
    }

-- an instruction, the place of its first byte, the height before it, and what it takes and leaves
pub record Point : Type 0 where
  pub at : ℕ
  pub height : ℤ
  pub step : Step

abbrev pub height_behind : Point → ℤ
height_behind p = p.height -ℤ pos p.step.takes +ℤ pos p.step.leaves

-- instructions one after another, from a place and a height on; a height may be negative behind a wrong instruction
abbrev pub points : Callees → (at : ℕ) → (height : ℤ) → List Instr → List Point
points c at h [] = []
points c at h (i ∷ is) =
    let s = step_among c i in
    record { at = at; height = h; step = s } ∷ points c (at + size i) (h -ℤ pos s.takes +ℤ pos s.leaves) is

-- where an instruction jumps to, and how much of the height is gone then; AndJump and OrJump keep their value
abbrev pub jump_of : Instr → Option (ℤ × ℕ)
jump_of (Jump j) = Some (j, 0)
jump_of (JumpFalse j) = Some (j, 1)
jump_of (AndJump j) = Some (j, 0)
jump_of (OrJump j) = Some (j, 0)
jump_of i = None

abbrev pub same_place : ℤ → ℕ → Bool
same_place (pos n) at = n == at
same_place (negsuc n) at = false

-- there is an instruction at this place, and it passes the test
abbrev pub at_place : List Point → ℤ → (Point → Bool) → Bool
at_place [] to test = false
at_place (p ∷ ps) to test = if same_place to p.at then test p else at_place ps to test

-- where the instruction jumps, the instruction at its target passes the test
abbrev pub target_passes : List Point → Point → (Point → ℕ → Bool) → Option (ℤ × ℕ) → Bool
target_passes all p test None = true
target_passes all p test (Some (j, gone)) = at_place all (pos (p.at + size p.step.instr) +ℤ j) (λ q. test q gone)

abbrev pub is_end : Instr → Bool
is_end Return = true
is_end (Trap c) = true
is_end Halt = true
is_end (Jump j) = true
is_end i = false

-- the operands name what is there, a jump goes to an instruction, and the last instruction ends
abbrev pub is_right : World → (k : ℕ) → Procedure → List Point → Point → Bool
is_right w k p all point =
    let i = point.step.instr in
    names_what_is_there w k p i && target_passes all point (λ q gone. true) (jump_of i)
    && (nat_lt (point.at + size i) (length p.code) || is_end i)

abbrev pub same_height : ℤ → ℤ → Bool
same_height (pos m) (pos n) = m == n
same_height (negsuc m) (negsuc n) = m == n
same_height h k = false

-- what a return finds is the result alone
abbrev pub returns_all : Instr → ℤ → ℕ → Bool
returns_all Return h result = same_height h (pos result)
returns_all i h result = true

-- the height has what the instruction takes; after a jump it is the height at its target; a return takes all of it
abbrev pub is_level : List Point → Point → Bool
is_level all p =
    int_le (pos p.step.takes) p.height
    && target_passes all p (λ q gone. same_height (p.height -ℤ pos gone) q.height) (jump_of p.step.instr)
    && returns_all p.step.instr p.height p.step.takes

-- the place of the first point that fails the test
abbrev pub first_not : (Point → Bool) → List Point → Option ℕ
first_not test [] = None
first_not test (p ∷ ps) = if test p then first_not test ps else Some p.at

-- the greatest height from h on
abbrev pub highest : ℤ → List Point → ℤ
highest h [] = h
highest h (p ∷ ps) = highest (if int_lt h (height_behind p) then height_behind p else h) ps

-- ---- the first fault

-- a fault of a code at one of its places, with the code that is told, or of the greatest height
pub data Fault : Type 0 where
  in_code : (at code : ℕ) → Fault
  of_high : Fault

abbrev pub in_code_or : (code : ℕ) → Option ℕ → Option Fault → Option Fault
in_code_or c None next = next
in_code_or c (Some at) next = Some (in_code at c)

-- The first fault of a code that is these instructions. 6: an operand, a jump or the last instruction; of empty code
-- at its beginning. 7: a height. Then the greatest height. Each over the whole code before the next.
abbrev pub fault_among : World → (k : ℕ) → Procedure → List Instr → Option Fault
fault_among w k p is =
    let all = points (callees_of w p) 0 (pos 0) is in
    if length is == 0 then Some (in_code 0 6) else
    in_code_or 6 (first_not (is_right w k p all) all)
    (in_code_or 7 (first_not (is_level all) all)
    (if same_height (highest (pos 0) all) (pos p.high) then None else Some of_high))

-- the code is these instructions one after another
pub record AreInstrs (code : List ℕ) (is : List Instr) : Type 0 where
  pub in_range : AllByRecursion IsInstr is
  pub spelled : code ≡ code_bytes is

-- at this place, behind some instructions, the code goes on with what begins with no instruction
pub record StopsAt (code : List ℕ) (at : ℕ) : Type 0 where
  pub before : List Instr
  pub rest : List ℕ
  pub in_range : AllByRecursion IsInstr before
  pub spelled : code ≡ code_bytes before ++ rest
  pub place : at ≡ length (code_bytes before)
  pub more : 0 < length rest
  pub none : (i : Instr) (behind : List ℕ) → BeginsWith rest i behind → ⊥

-- the code of procedure k is valid
pub record IsValidCode (w : World) (k : ℕ) (p : Procedure) : Type 0 where
  pub is : List Instr
  pub instrs : AreInstrs p.code is
  pub no_fault : fault_among w k p is ≡ None

-- The first fault of the code of procedure k: what is no instruction (5), or else a fault of the instructions.
pub data IsFault (w : World) (k : ℕ) (p : Procedure) : Fault → Type 0 where
  no_instr : (at : ℕ) → StopsAt p.code at → IsFault w k p (in_code at 5)
  of_instrs : (is : List Instr) (f : Fault) → AreInstrs p.code is → fault_among w k p is ≡ Some f → IsFault w k p f
