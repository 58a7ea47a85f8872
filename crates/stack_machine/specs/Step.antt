-- One step of a machine, by cases on the operation.
use Rattle.std.specs.Prelude.{ℕ, zero, suc, ◌+◌, ◌-◌, ◌*◌, ◌^◌, Bool, false, ◌&&◌, ◌==◌, if◌then◌else◌, ℤ, pos, negsuc}
use Rattle.std.specs.Prelude.{◌+ℤ◌, ◌-ℤ◌, ◌*ℤ◌, neg_ℤ, unsigned_abs, int_le, int_lt, nat_le, nat_lt, List, [], ◌∷◌}
use Rattle.std.specs.Prelude.{◌++◌, length, take, drop, replicate, slice_get, slice_set, Option, Some, None, unwrap_or}
use Rattle.std.specs.Prelude.{not, is_none}
use Rattle.std.specs.List.{slice_index_or, copy_within}
use Rattle.std.specs.Int.{int_div_euclid, int_rem_euclid}
use Rattle.std.specs.Option.{is_some}
use Rattle.stack_machine.specs.declared.op.Kind.{Kind}
use Rattle.stack_machine.specs.declared.op.Kind.TheVariants.{Integer}
use Rattle.stack_machine.specs.declared.op.Service.{Service}
use Rattle.stack_machine.specs.declared.op.Service.TheVariants as service
use Rattle.stack_machine.specs.declared.op.Op.{Op}
use Rattle.stack_machine.specs.declared.op.Op.TheVariants.{Push, Local, Load, Store, Move, Dup, Offset, Index}
use Rattle.stack_machine.specs.declared.op.Op.TheVariants.{IndexOpen, Check, Nil, Add, Sub, Mul, Div, Mod, Neg, Abs}
use Rattle.stack_machine.specs.declared.op.Op.TheVariants.{Not, Eq, Ne, Lt, Le, Gt, Ge, Union, Diff, Inter, SymDiff}
use Rattle.stack_machine.specs.declared.op.Op.TheVariants.{Subset, Superset, In, Bit, Span, Jump, JumpFalse, AndJump}
use Rattle.stack_machine.specs.declared.op.Op.TheVariants.{OrJump, More, Call, CallService, CallVar, Return, Trap, New}
use Rattle.stack_machine.specs.declared.op.Op.TheVariants.{OpenCopy, Halt, Cap}
use Rattle.stack_machine.specs.declared.trap.Trap.{Trap as TrapOf}
use Rattle.stack_machine.specs.declared.trap.Trap.TheVariants as traps
use Rattle.stack_machine.specs.declared.code.Routine.{Routine}
use Rattle.stack_machine.specs.declared.code.Origin.{Origin}
use Rattle.stack_machine.specs.declared.code.Callee.{Callee}
use Rattle.stack_machine.specs.declared.code.Callee.TheVariants as callees
use Rattle.stack_machine.specs.declared.core_state.Frame.{Frame}
use Rattle.stack_machine.specs.State.{State, Program}
use Rattle.stack_machine.specs.Operands.{top_of, without}
use Rattle.stack_machine.specs.Numbers.{in_kind, truth, is_zero, same, below, count_of, union, difference}
use Rattle.stack_machine.specs.Numbers.{intersection, symmetric_difference, is_subset, is_in, set_of, span, has_more}
use Rattle.stack_machine.specs.Numbers.{capital}
use Rattle.stack_machine.specs.InOut.{Got, params_of, services, string_of, is_width}

-- What a step comes to: another state; the end of the program; a trap at this operation, or want of memory for the
-- frame of the body that begins at a place; or that something is missing, which no valid program meets.
pub data Next : Type 0 where
  Goes : State → Next
  Halts : Next
  Traps : TrapOf → Next
  NoFrame : (at : ℕ) → Next
  Stuck : Next

-- a program of nothing, and nothing read: what most operations do depends on neither
abbrev pub empty : Program
empty = record { ops = []; origins = []; routines = []; bodies = []; frames_at = 0; has_in_out = false }

abbrev pub nothing : Got
nothing = record { value = None; kept = None; rest = [] }

-- ---- operands

-- takes n operands and gives one
abbrev pub gives : State → ℕ → ℤ → Next
gives s n v = Goes (record s { at = s.at + 1; operands = without n s.operands ++ v ∷ [] })

-- takes n operands, and leaves these cells
abbrev pub leaves : State → ℕ → List ℤ → Next
leaves s n cells = Goes (record s { at = s.at + 1; operands = without n s.operands; cells = cells })

abbrev pub goes_on_if : Bool → State → TrapOf → Next
goes_on_if test s trap = if test then Goes (record s { at = s.at + 1 }) else Traps trap

-- takes n operands and gives a number of this type, or traps
abbrev pub checked : Kind → State → ℕ → ℤ → Next
checked kind s n v = if in_kind kind v then gives s n v else Traps traps.Range

-- takes n operands and gives an address, or traps
abbrev pub made : State → ℕ → Option ℕ → Next
made s n None = Traps traps.Address
made s n (Some a) = gives s n (pos a)

-- ---- cells

-- the cell at an address; cell 0 is NIL's and no program's
abbrev pub cell_at : List ℤ → ℤ → Option ℕ
cell_at cells (pos a) = if nat_le 1 a && nat_lt a (length cells) then Some a else None
cell_at cells (negsuc a) = None

-- goes on with a cell, or traps
abbrev pub at_cell : Option ℕ → (ℕ → Next) → Next
at_cell None go = Traps traps.Address
at_cell (Some a) go = go a

-- n cells from an address on
abbrev pub part_at : List ℤ → ℕ → ℤ → Option ℕ
part_at cells n (pos a) = if nat_le 1 a && nat_le (a + n) (length cells) then Some a else None
part_at cells n (negsuc a) = None

-- n cells of 0 from a place on
abbrev pub cleared : List ℤ → ℕ → ℕ → List ℤ
cleared cells at n = take at cells ++ (replicate n (pos 0) ++ drop (at + n) cells)

-- values written from a place on
abbrev pub written : List ℤ → ℕ → List ℤ → List ℤ
written cells at values = take at cells ++ (values ++ drop (at + length values) cells)

-- the cell at this place
abbrev pub cell_of : List ℤ → ℕ → ℤ
cell_of cells a = slice_index_or cells a (pos 0)

-- n cells are copied as if at once
abbrev pub moved : State → ℕ → Option ℕ → Option ℕ → Next
moved s n (Some to) (Some from) = leaves s 2 (copy_within s.cells from (from + n) to)
moved s n (Some to) None = Traps traps.Address
moved s n None from = Traps traps.Address

-- goes on with an index that is within its array, or traps
abbrev pub indexed : State → ℕ → ℤ → ℕ → Option ℕ → Next
indexed s n address size None = Traps traps.Index
indexed s n address size (Some k) = made s n (below (length s.cells) (address +ℤ pos (k * size)))

-- n cells for NEW, from the top downward
unfoldable pub allocated : ℕ → State → Next
allocated n s =
    if nat_lt s.heap (s.top + n) then Traps traps.Memory else
    at_cell (cell_at s.cells (top_of 0 s.operands))
    (λ a. Goes (record s {
      at = s.at + 1;
      operands = without 1 s.operands;
      heap = s.heap - n;
      cells = slice_set (cleared s.cells (s.heap - n) n) a (pos (s.heap - n));
    }))

-- n cells more for the frame, with a copy of those from a place on, whose address the cell o gets
abbrev pub copied : ℕ → ℕ → Option ℕ → State → Next
copied n o None s = Traps traps.Address
copied n o (Some from) s =
    if nat_lt s.top (length s.cells)
    then Goes (record s {
      at = s.at + 1;
      top = s.top + n;
      cells = slice_set (copy_within s.cells from (from + n) s.top) (s.base + o) (pos s.top);
    })
    else Traps traps.Address

-- of no cells there is no source
abbrev pub source_at : List ℤ → ℕ → ℤ → Option ℕ
source_at cells n a = if n == 0 then Some 0 else part_at cells n a

-- a copy of an open array of n cells
unfoldable pub open_copied : ℕ → ℕ → State → Next
open_copied n o s =
    if nat_lt s.heap (s.top + n) then Traps traps.Memory else
    copied n o (source_at s.cells n (cell_of s.cells (s.base + o))) s

-- ---- frames

abbrev pub with_frame : Option Frame → (Frame → Option ℕ) → Option ℕ
with_frame None go = None
with_frame (Some f) go = go f

-- h static links lead from a frame with this first cell and link to one with this first cell
unfoldable pub base_out : List Frame → (h base link : ℕ) → Option ℕ
base_out frames zero base link = Some base
base_out frames (suc h) base link = with_frame (slice_get frames link) (λ f. base_out frames h f.base f.link)

-- h static links lead from the frame with this number and link to the one with this number
unfoldable pub number_out : List Frame → (h number link : ℕ) → Option ℕ
number_out frames zero number link = Some number
number_out frames (suc h) number link = with_frame (slice_get frames link) (λ f. number_out frames h link f.link)

-- the cells of a frame: the procedure's, as many as its operands can be, and four more
abbrev pub size_of : Routine → ℕ
size_of p = p.locals + p.high + 4

-- the cells with a new frame at a place, whose first cells are the parameters
abbrev pub with_frame_at : List ℤ → ℕ → ℕ → List ℤ → List ℤ
with_frame_at cells at size params = written (cleared cells at size) at params

-- a procedure is called, its parameters being the topmost operands, of which n are taken
unfoldable pub called : Routine → (n link : ℕ) → State → Next
called p n link s =
    if nat_lt (length s.operands) n then Stuck else
    (if nat_lt s.heap (s.top + size_of p) then Traps traps.Memory else
    Goes (record {
      at = p.entry;
      base = s.top;
      top = s.top + size_of p;
      link = link;
      heap = s.heap;
      kept = s.kept;
      operands = without n s.operands;
      cells = with_frame_at s.cells s.top (size_of p) (drop (length s.operands - p.params) s.operands);
      frames = s.frames ++ (record { at = s.at + 1; base = s.base; top = s.top; link = s.link }) ∷ [];
    }))

-- a procedure that others enclose is linked to the one that directly encloses it
abbrev pub link_of : Option ℕ → State → (h : ℕ) → Option ℕ
link_of None s h = Some 0
link_of (Some outer) s h = number_out s.frames h (length s.frames) s.link

abbrev pub called_with : Routine → State → Option ℕ → Next
called_with p s None = Stuck
called_with p s (Some link) = called p p.params link s

abbrev pub called_at : Option Routine → (h : ℕ) → State → Next
called_at None h s = Stuck
called_at (Some p) h s = called_with p s (link_of p.outer s h)

-- the body of a module begins, where no frame is
unfoldable pub entered : Option Routine → State → Next
entered None s = Stuck
entered (Some p) s =
    if nat_lt s.heap (s.base + size_of p) then NoFrame p.entry else
    Goes (record s { at = p.entry; top = s.base + size_of p; link = 0; cells = cleared s.cells s.base (size_of p) })

-- the next body begins behind the one with this number, or the program is over
abbrev pub next_body : Program → Option ℕ → State → Next
next_body p None s = Halts
next_body p (Some k) s = entered (slice_get p.routines k) s

-- the body of the module behind the one whose code has a place
abbrev pub body_after : List ℕ → Option Origin → Option ℕ
body_after bodies None = None
body_after bodies (Some o) = slice_get bodies (o.«module» + 1)

abbrev pub body_behind : Program → (at : ℕ) → Option ℕ
body_behind p at = body_after p.bodies (slice_get p.origins at)

-- back to the caller that stands last among the frames
abbrev pub back_to : State → Option Frame → Next → Next
back_to s None next = next
back_to s (Some f) next = Goes
    (record s { at = f.at; base = f.base; top = f.top; link = f.link; frames = take (length s.frames - 1) s.frames })

abbrev pub innermost : List Frame → Option Frame
innermost [] = None
innermost (f ∷ fs) = slice_get (f ∷ fs) (length fs)

-- ---- procedures as values: those of the program are numbered from 1, and InOut's follow

-- a procedure with these parameters and this result, and no other around it
abbrev pub routine_if : ℕ → (n r : ℕ) → Option Routine → Option Callee
routine_if k n r None = None
routine_if k n r (Some p) =
    if p.params == n && p.result == r && is_none p.outer then Some (callees.Routine k) else None

abbrev pub service_if : (n r : ℕ) → Option Service → Option Callee
service_if n r None = None
service_if n r (Some v) = if params_of v == n && r == 0 then Some (callees.Service v) else None

abbrev pub numbered : Program → (k n r : ℕ) → Option Callee
numbered p k n r =
    if nat_lt k (length p.routines) then routine_if k n r (slice_get p.routines k) else
    (if p.has_in_out then service_if n r (slice_get services (k - length p.routines)) else None)

abbrev pub callee_of : Program → ℤ → (n r : ℕ) → Option Callee
callee_of p v n r = if int_lt (pos 0) v then numbered p (unsigned_abs v - 1) n r else None

-- ---- InOut

-- the variable at the address on top gets a value and Done gets another, of n operands
abbrev pub assigned : State → ℕ → Option ℕ → (value done : ℤ) → Next
assigned s n kept value done =
    at_cell (cell_at s.cells (top_of 0 s.operands)) (λ a. Goes (record s {
      at = s.at + 1;
      operands = without n s.operands;
      kept = kept;
      cells = slice_set (slice_set s.cells a value) 1 done;
    }))

-- a number that was read, or none
abbrev pub number_read : State → ℕ → Got → Option ℤ → Next
number_read s n got None = Goes
    (record s { at = s.at + 1; operands = without n s.operands; kept = got.kept; cells = slice_set s.cells 1 (pos 0) })
number_read s n got (Some v) = assigned s n got.kept v (pos 1)

-- a procedure of InOut, which takes n operands
abbrev pub served : Service → ℕ → Got → State → Next
served service.Read n got s = assigned s n got.kept (unwrap_or got.value (pos 0)) (truth (is_some got.value))
served service.ReadInt n got s = number_read s n got got.value
served service.ReadCard n got s = number_read s n got got.value
served service.Write n got s = leaves s n s.cells
served service.WriteString n got s =
    if (string_of s.cells s.operands).whole then leaves s n s.cells else Traps traps.Address
served service.WriteLn n got s = leaves s n s.cells
served service.WriteInt n got s = if is_width (top_of 0 s.operands) then leaves s n s.cells else Traps traps.Range
served service.WriteCard n got s = if is_width (top_of 0 s.operands) then leaves s n s.cells else Traps traps.Range

-- ---- the step

abbrev pub called_var : Option Routine → (n : ℕ) → State → Next
called_var None n s = Stuck
called_var (Some q) n s = called q n 0 s

abbrev pub reached : Program → Option Callee → (n : ℕ) → Got → State → Next
reached p None n got s = Traps traps.Procedure
reached p (Some (callees.Routine k)) n got s = called_var (slice_get p.routines k) (n + 1) s
reached p (Some (callees.Service v)) n got s = served v (n + 1) got s

-- how many operands an operation takes from the stack at least
abbrev pub takes : Op → ℕ
takes (Push v) = 0
takes (Local h o) = 0
takes Load = 1
takes Store = 2
takes (Move n) = 2
takes Dup = 1
takes (Offset n) = 1
takes (Index low n size) = 2
takes (IndexOpen size) = 3
takes (Check low high) = 1
takes Nil = 1
takes (Add kind) = 2
takes (Sub kind) = 2
takes (Mul kind) = 2
takes (Div kind) = 2
takes (Mod kind) = 2
takes Neg = 1
takes Abs = 1
takes Not = 1
takes Eq = 2
takes Ne = 2
takes Lt = 2
takes Le = 2
takes Gt = 2
takes Ge = 2
takes Union = 2
takes Diff = 2
takes Inter = 2
takes SymDiff = 2
takes Subset = 2
takes Superset = 2
takes In = 2
takes Bit = 1
takes Span = 2
takes (Jump to) = 0
takes (JumpFalse to) = 1
takes (AndJump to) = 1
takes (OrJump to) = 1
takes (More c) = 2
takes (Call p h) = 0
takes (CallService v) = params_of v
takes (CallVar n r) = n + 1
takes Return = 0
takes (Trap c) = 0
takes (New n) = 1
takes (OpenCopy o size) = 0
takes Halt = 0
takes Cap = 1

-- an array whose index is counted from 0, or an open array
abbrev pub local_at : State → Option ℕ → ℕ → Next
local_at s None o = Stuck
local_at s (Some base) o = gives s 0 (pos (base + o))

abbrev pub bit_made : State → Option ℕ → Next
bit_made s None = Traps traps.Range
bit_made s (Some k) = gives s 1 (pos (2 ^ k))

abbrev pub span_made : State → Option ℕ → Option ℕ → Next
span_made s (Some low) (Some high) = gives s 2 (pos (span low high))
span_made s (Some low) None = Traps traps.Range
span_made s None high = Traps traps.Range

-- What an operation does, where its operands are there. x is the topmost operand, or y is and x is the one below.
unfoldable pub does : Program → Got → Op → State → Next
does p got (Push v) s = gives s 0 v
does p got (Local h o) s = local_at s (base_out s.frames h s.base s.link) o
does p got Load s = at_cell (cell_at s.cells (top_of 0 s.operands)) (λ a. gives s 1 (cell_of s.cells a))
does p got Store s =
    at_cell (cell_at s.cells (top_of 1 s.operands)) (λ a. leaves s 2 (slice_set s.cells a (top_of 0 s.operands)))
does p got (Move n) s = if n == 0 then leaves s 2 s.cells
    else moved s n (part_at s.cells n (top_of 1 s.operands)) (part_at s.cells n (top_of 0 s.operands))
does p got Dup s = gives s 0 (top_of 0 s.operands)
does p got (Offset n) s = made s 1 (below (length s.cells) (top_of 0 s.operands +ℤ pos n))
does p got (Index low n size) s = indexed s 2 (top_of 1 s.operands) size (below n (top_of 0 s.operands -ℤ low))
does p got (IndexOpen size) s =
    indexed s 3 (top_of 2 s.operands) size (below (count_of (top_of 1 s.operands)) (top_of 0 s.operands))
does p got (Check low high) s =
    goes_on_if (int_le low (top_of 0 s.operands) && int_le (top_of 0 s.operands) high) s traps.Range
does p got Nil s = if is_zero (top_of 0 s.operands) then Traps traps.Nil else Goes (record s { at = s.at + 1 })
does p got (Add kind) s = checked kind s 2 (top_of 1 s.operands +ℤ top_of 0 s.operands)
does p got (Sub kind) s = checked kind s 2 (top_of 1 s.operands -ℤ top_of 0 s.operands)
does p got (Mul kind) s = checked kind s 2 (top_of 1 s.operands *ℤ top_of 0 s.operands)
does p got (Div kind) s = if int_lt (pos 0) (top_of 0 s.operands) then
    checked kind s 2 (int_div_euclid (top_of 1 s.operands) (top_of 0 s.operands)) else Traps traps.Divisor
does p got (Mod kind) s = if int_lt (pos 0) (top_of 0 s.operands) then
    checked kind s 2 (int_rem_euclid (top_of 1 s.operands) (top_of 0 s.operands)) else Traps traps.Divisor
does p got Neg s = checked Integer s 1 (neg_ℤ (top_of 0 s.operands))
does p got Abs s = checked Integer s 1 (pos (unsigned_abs (top_of 0 s.operands)))
does p got Not s = gives s 1 (truth (is_zero (top_of 0 s.operands)))
does p got Eq s = gives s 2 (truth (same (top_of 1 s.operands) (top_of 0 s.operands)))
does p got Ne s = gives s 2 (truth (not (same (top_of 1 s.operands) (top_of 0 s.operands))))
does p got Lt s = gives s 2 (truth (int_lt (top_of 1 s.operands) (top_of 0 s.operands)))
does p got Le s = gives s 2 (truth (int_le (top_of 1 s.operands) (top_of 0 s.operands)))
does p got Gt s = gives s 2 (truth (int_lt (top_of 0 s.operands) (top_of 1 s.operands)))
does p got Ge s = gives s 2 (truth (int_le (top_of 0 s.operands) (top_of 1 s.operands)))
does p got Union s = gives s 2 (pos (union (top_of 1 s.operands) (top_of 0 s.operands)))
does p got Diff s = gives s 2 (pos (difference (top_of 1 s.operands) (top_of 0 s.operands)))
does p got Inter s = gives s 2 (pos (intersection (top_of 1 s.operands) (top_of 0 s.operands)))
does p got SymDiff s = gives s 2 (pos (symmetric_difference (top_of 1 s.operands) (top_of 0 s.operands)))
does p got Subset s = gives s 2 (truth (is_subset (top_of 1 s.operands) (top_of 0 s.operands)))
does p got Superset s = gives s 2 (truth (is_subset (top_of 0 s.operands) (top_of 1 s.operands)))
does p got In s = gives s 2 (truth (is_in (below 32 (top_of 1 s.operands)) (set_of (top_of 0 s.operands))))
does p got Bit s = bit_made s (below 32 (top_of 0 s.operands))
does p got Span s = span_made s (below 32 (top_of 1 s.operands)) (below 32 (top_of 0 s.operands))
does p got (Jump to) s = Goes (record s { at = to })
does p got (JumpFalse to) s =
    Goes (record s { at = if is_zero (top_of 0 s.operands) then to else s.at + 1; operands = without 1 s.operands })
does p got (AndJump to) s = if is_zero (top_of 0 s.operands) then Goes (record s { at = to }) else leaves s 1 s.cells
does p got (OrJump to) s = if is_zero (top_of 0 s.operands) then leaves s 1 s.cells else Goes (record s { at = to })
does p got (More c) s = gives s 2 (truth (has_more (top_of 1 s.operands) c (top_of 0 s.operands)))
does p got (Call k h) s = called_at (slice_get p.routines k) h s
does p got (CallService v) s = served v (params_of v) got s
does p got (CallVar n r) s = reached p (callee_of p (top_of n s.operands) n r) n got s
does p got Return s = back_to s (innermost s.frames) (next_body p (body_behind p s.at) s)
does p got (Trap c) s = Traps c
does p got (New n) s = allocated n s
does p got (OpenCopy o size) s = open_copied (count_of (cell_of s.cells (s.base + o + 1)) * size) o s
does p got Halt s = Halts
does p got Cap s = gives s 1 (capital (top_of 0 s.operands))

-- one operation
abbrev pub act : Program → Got → Option Op → State → Next
act p got None s = Stuck
act p got (Some op) s = if nat_lt (length s.operands) (takes op) then Stuck else does p got op s

unfoldable pub step : Program → Got → State → Next
step p got s = act p got (slice_get p.ops s.at) s
