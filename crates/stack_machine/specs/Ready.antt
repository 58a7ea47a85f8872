-- Which programs never get stuck, and the states that they come to.
use Rattle.std.specs.Prelude.{◌≡◌, ℕ, zero, suc, ◌+◌, ◌-◌, ◌*◌, ◌<◌, ◌≤◌, ◌^◌, IsTrue, true, List, length, Option}
use Rattle.std.specs.Prelude.{Some, None, slice_get}
use Rattle.stack_machine.specs.declared.op.Op.{Op}
use Rattle.stack_machine.specs.declared.op.Op.TheVariants.{Push, Local, Load, Store, Move, Dup, Offset, Index}
use Rattle.stack_machine.specs.declared.op.Op.TheVariants.{IndexOpen, Check, Nil, Add, Sub, Mul, Div, Mod, Neg, Abs}
use Rattle.stack_machine.specs.declared.op.Op.TheVariants.{Not, Eq, Ne, Lt, Le, Gt, Ge, Union, Diff, Inter, SymDiff}
use Rattle.stack_machine.specs.declared.op.Op.TheVariants.{Subset, Superset, In, Bit, Span, Jump, JumpFalse, AndJump}
use Rattle.stack_machine.specs.declared.op.Op.TheVariants.{OrJump, More, Call, CallService, CallVar, Return, Trap, New}
use Rattle.stack_machine.specs.declared.op.Op.TheVariants.{OpenCopy, Halt, Cap}
use Rattle.stack_machine.specs.declared.code.Routine.{Routine}
use Rattle.stack_machine.specs.declared.code.Code.{Code}
use Rattle.stack_machine.specs.declared.core_state.Frame.{Frame}
use Rattle.stack_machine.specs.declared.core_state.Core.{Core}
use Rattle.stack_machine.specs.State.{State, Program, state_of, program_of}
use Rattle.stack_machine.specs.Step as step
use Rattle.stack_machine.specs.Step.{Next, size_of, takes, innermost, base_out, number_out}
use Rattle.stack_machine.specs.InOut.{params_of}
use Rattle.stack_machine.specs.Able.{HasRoom, CanDo}

-- a procedure's frame is no larger than memory can be
pub record IsSmall (p : Routine) : Type 0 where
  pub params : p.params ≤ p.locals
  pub locals : p.locals < 2 ^ 32
  pub high : p.high < 2 ^ 32

-- a caller's frame lies below these cells
pub record Nests (f : Frame) (heap : ℕ) : Type 0 where
  pub base : f.base ≤ f.top
  pub top : f.top ≤ heap

-- each module's body is a procedure
abbrev pub AreBodies : Program → Type 0
AreBodies p = (m k : ℕ) → slice_get p.bodies m ≡ Some k → (q : Routine) × (slice_get p.routines k ≡ Some q) × IsSmall q

-- ---- heights

-- of each operation its procedure and the height before it
abbrev pub Shapes : Type 0
Shapes = List (ℕ × ℕ)

abbrev pub Leads : Shapes → (to p h : ℕ) → Type 0
Leads shapes to p h = slice_get shapes to ≡ Some (p, h)

-- takes n operands, gives m, and goes on behind
abbrev pub Passes : Shapes → (k p h n m : ℕ) → Type 0
Passes shapes k p h n m = (n ≤ h) × Leads shapes (k + 1) p (h - n + m)

abbrev pub outer_of : Option Routine → Option ℕ
outer_of None = None
outer_of (Some p) = p.outer

abbrev pub with_outer : Option ℕ → (ℕ → Option ℕ) → Option ℕ
with_outer None go = None
with_outer (Some e) go = go e

-- the procedure to which h static links lead
unfoldable pub level_out : List Routine → (h p : ℕ) → Option ℕ
level_out routines zero p = Some p
level_out routines (suc h) p = with_outer (outer_of (slice_get routines p)) (λ e. level_out routines h e)

-- the links of a call lead to the procedure that encloses the one that is called
abbrev pub LinksTo : List Routine → (h p : ℕ) → Option ℕ → Type 0
LinksTo routines h p None = Unit {0}
LinksTo routines h p (Some e) = level_out routines h p ≡ Some e

pub record CanCall (routines : List Routine) (shapes : Shapes) (k p h q links : ℕ) : Type 0 where
  pub callee : Routine
  pub is : slice_get routines q ≡ Some callee
  pub params : callee.params ≤ h
  pub comes_back : Leads shapes (k + 1) p (h - callee.params + callee.result)
  pub linked : LinksTo routines links p callee.outer

pub record CanReturn (routines : List Routine) (p h : ℕ) : Type 0 where
  pub own : Routine
  pub is : slice_get routines p ≡ Some own
  pub height : h ≡ own.result

pub record HasLocal (routines : List Routine) (h p o : ℕ) : Type 0 where
  pub small : o < 2 ^ 32
  pub owner : ℕ
  pub linked : level_out routines h p ≡ Some owner

pub record HasOpenArray (routines : List Routine) (p o : ℕ) : Type 0 where
  pub own : Routine
  pub is : slice_get routines p ≡ Some own
  pub within : o + 1 < own.locals

-- an operation at place k of procedure p, at height h
abbrev pub IsFine : Program → Shapes → (k p h : ℕ) → Op → Type 0
IsFine c shapes k p h (Push v) = Passes shapes k p h 0 1
IsFine c shapes k p h (Local links o) = Passes shapes k p h 0 1 × HasLocal c.routines links p o
IsFine c shapes k p h Load = Passes shapes k p h 1 1
IsFine c shapes k p h Store = Passes shapes k p h 2 0
IsFine c shapes k p h (Move n) = Passes shapes k p h 2 0
IsFine c shapes k p h Dup = Passes shapes k p h 1 2
IsFine c shapes k p h (Offset n) = Passes shapes k p h 1 1
IsFine c shapes k p h (Index low n size) = Passes shapes k p h 2 1
IsFine c shapes k p h (IndexOpen size) = Passes shapes k p h 3 1
IsFine c shapes k p h (Check low high) = Passes shapes k p h 1 1
IsFine c shapes k p h Nil = Passes shapes k p h 1 1
IsFine c shapes k p h (Add kind) = Passes shapes k p h 2 1
IsFine c shapes k p h (Sub kind) = Passes shapes k p h 2 1
IsFine c shapes k p h (Mul kind) = Passes shapes k p h 2 1
IsFine c shapes k p h (Div kind) = Passes shapes k p h 2 1
IsFine c shapes k p h (Mod kind) = Passes shapes k p h 2 1
IsFine c shapes k p h Neg = Passes shapes k p h 1 1
IsFine c shapes k p h Abs = Passes shapes k p h 1 1
IsFine c shapes k p h Not = Passes shapes k p h 1 1
IsFine c shapes k p h Eq = Passes shapes k p h 2 1
IsFine c shapes k p h Ne = Passes shapes k p h 2 1
IsFine c shapes k p h Lt = Passes shapes k p h 2 1
IsFine c shapes k p h Le = Passes shapes k p h 2 1
IsFine c shapes k p h Gt = Passes shapes k p h 2 1
IsFine c shapes k p h Ge = Passes shapes k p h 2 1
IsFine c shapes k p h Union = Passes shapes k p h 2 1
IsFine c shapes k p h Diff = Passes shapes k p h 2 1
IsFine c shapes k p h Inter = Passes shapes k p h 2 1
IsFine c shapes k p h SymDiff = Passes shapes k p h 2 1
IsFine c shapes k p h Subset = Passes shapes k p h 2 1
IsFine c shapes k p h Superset = Passes shapes k p h 2 1
IsFine c shapes k p h In = Passes shapes k p h 2 1
IsFine c shapes k p h Bit = Passes shapes k p h 1 1
IsFine c shapes k p h Span = Passes shapes k p h 2 1
IsFine c shapes k p h (Jump to) = Leads shapes to p h
IsFine c shapes k p h (JumpFalse to) = Passes shapes k p h 1 0 × Leads shapes to p (h - 1)
IsFine c shapes k p h (AndJump to) = Passes shapes k p h 1 0 × Leads shapes to p h
IsFine c shapes k p h (OrJump to) = Passes shapes k p h 1 0 × Leads shapes to p h
IsFine c shapes k p h (More n) = Passes shapes k p h 2 1
IsFine c shapes k p h (Call q links) = CanCall c.routines shapes k p h q links
IsFine c shapes k p h (CallService v) = Passes shapes k p h (params_of v) 0 × (c.has_in_out ≡ true)
IsFine c shapes k p h (CallVar n r) = Passes shapes k p h (n + 1) r
IsFine c shapes k p h Return = CanReturn c.routines p h
IsFine c shapes k p h (Trap t) = Unit {0}
IsFine c shapes k p h (New n) = Passes shapes k p h 1 0 × (n < 2 ^ 32)
IsFine c shapes k p h (OpenCopy o size) = Passes shapes k p h 0 0 × HasOpenArray c.routines p o
IsFine c shapes k p h Halt = Unit {0}
IsFine c shapes k p h Cap = Passes shapes k p h 1 1

-- the procedure of an operation is there, and the height is within its greatest
pub record Owns (routines : List Routine) (p h : ℕ) : Type 0 where
  pub own : Routine
  pub is : slice_get routines p ≡ Some own
  pub high : h ≤ own.high

pub record IsValid (c : Program) (shapes : Shapes) : Type 0 where
  pub long : length shapes ≡ length c.ops
  pub short : length c.ops < 2 ^ 62
  pub origins : length c.origins ≡ length c.ops
  pub small : (q : ℕ) (p : Routine) → slice_get c.routines q ≡ Some p → IsSmall p
  pub enters : (q : ℕ) (p : Routine) → slice_get c.routines q ≡ Some p → Leads shapes p.entry q 0
  pub bodies : (m k : ℕ) → slice_get c.bodies m ≡ Some k
      → (q : Routine) × (slice_get c.routines k ≡ Some q) × (q.outer ≡ None) × (q.result ≡ 0)
  pub done : (c.has_in_out ≡ true) → 1 < c.frames_at
  pub owner : (k p h : ℕ) → Leads shapes k p h → Owns c.routines p h
  pub each : (k p h : ℕ) (op : Op) → slice_get c.ops k ≡ Some op → Leads shapes k p h → IsFine c shapes k p h op

-- ---- states

-- a place in a procedure, with so many operands, those below `low` being others'
pub record IsAt (routines : List Routine) (shapes : Shapes) (at base top count low : ℕ) (own : Routine) : Type 0 where
  pub proc : ℕ
  pub height : ℕ
  pub here : Leads shapes at proc height
  pub own_is : slice_get routines proc ≡ Some own
  pub counts : count ≡ low + height
  pub under : low ≤ base
  pub room : base + size_of own ≤ top

-- the n outermost callers wait for a procedure that leaves so many operands; behind them all is a body, whose frame is
-- the first
abbrev pub Wait : Program → Shapes → List Frame → (n low base result : ℕ) → Type 0
Wait c shapes frames zero low base result = (result ≡ 0) × (c.frames_at ≤ base)
Wait c shapes frames (suc n) low base result =
    (f : Frame) × (low' : ℕ) × (own : Routine) × (slice_get frames n ≡ Some f) × (f.top ≤ base)
    × IsAt c.routines shapes f.at f.base f.top (low + result) low' own × Wait c shapes frames n low' f.base own.result

-- the static link of frame d, of procedure p, leads to an earlier frame of the procedure that encloses it
abbrev pub Linked : List Routine → Shapes → List Frame → (d p link : ℕ) → Type 0
Linked routines shapes frames d p link =
    (e : ℕ) → outer_of (slice_get routines p) ≡ Some e
    → (f : Frame) × (h : ℕ) × (slice_get frames link ≡ Some f) × (link < d) × Leads shapes f.at e h

pub record Fits (c : Program) (shapes : Shapes) (s : State) : Type 0 where
  pub low : ℕ
  pub own : Routine
  pub at : IsAt c.routines shapes s.at s.base s.top (length s.operands) low own
  pub wait : Wait c shapes s.frames (length s.frames) low s.base own.result
  pub link : Linked c.routines shapes s.frames (length s.frames) at.proc s.link
  pub links : (d p h : ℕ) (f : Frame) → slice_get s.frames d ≡ Some f → Leads shapes f.at p h
      → Linked c.routines shapes s.frames d p f.link

-- what a step comes to isn't stuck, and a state that it comes to fits
abbrev pub GoesOn : Program → Shapes → Next → Type 0
GoesOn c shapes (step.Goes s) = Fits c shapes s
GoesOn c shapes step.Halts = Unit {0}
GoesOn c shapes (step.Traps t) = Unit {0}
GoesOn c shapes (step.NoFrame at) = at < length c.ops
GoesOn c shapes step.Stuck = ⊥

pub record Ready (code : Code) (c : Core) : Type 0 where
  pub shapes : Shapes
  pub valid : IsValid (program_of code) shapes
  pub fits : Fits (program_of code) shapes (state_of c)
  pub room : HasRoom c

-- ---- what an operation asks of its operands and of the program

pub record AsksCall (routines : List Routine) (c : Core) (q links : ℕ) : Type 0 where
  pub callee : Routine
  pub is : slice_get routines q ≡ Some callee
  pub params : callee.params ≤ c.sp
  pub small : IsSmall callee
  pub linked : (e : ℕ) → callee.outer ≡ Some e
      → (n : ℕ) × (number_out c.frames.items links (length c.frames.items) c.link ≡ Some n)

pub record AsksReturn (p : Program) (c : Core) : Type 0 where
  pub nested : (f : Frame) → innermost c.frames.items ≡ Some f → Nests f c.heap
  pub origin : c.at < length p.origins
  pub bodies : AreBodies p

abbrev pub Asks : Program → Core → Op → Type 0
Asks p c (Local links o) =
    (o < 2 ^ 32) × (b : ℕ) × (base_out c.frames.items links c.base c.link ≡ Some b) × (b ≤ c.top)
Asks p c (New n) = n < 2 ^ 32
Asks p c (Call q links) = AsksCall p.routines c q links
Asks p c (CallVar n r) = (q : ℕ) (callee : Routine) → slice_get p.routines q ≡ Some callee → IsSmall callee
Asks p c Return = AsksReturn p c
Asks p c (OpenCopy o size) = c.base + o + 1 < c.top
Asks p c op = Unit {0}

pub record Able (p : Program) (c : Core) (op : Op) : Type 0 where
  pub can : CanDo c (takes op)
  pub frames : length c.frames.items * 4 + 4 ≤ length c.cells.items
  pub asks : Asks p c op
