-- What a state that is ready has for its next operation, and that the state behind it is ready.
use Rattle.std.proofs.Common.{◌≡◌, ℕ, zero, suc, ◌+◌, ◌-◌, ◌*◌, ◌<◌, ◌≤◌, ◌^◌, Bool, true, false, List, [], ◌∷◌, length, take, Option, Some, None, refl, sym, ap, subst, ◌∙◌, arith, get_or}
use Rattle.std.specs.Prelude.{slice_get, Result, Ok, Err, IfOk, OnErr}
use Rattle.stack_machine.specs.declared.op.Service.{Service}
use Rattle.stack_machine.specs.declared.run.Failure.{Failure}
use Rattle.stack_machine.specs.Stepping.{Serves, IsFramed}
use Rattle.std.proofs.lemmas.List.{length-take-le}
use Rattle.stack_machine.specs.declared.op.Op.{Op}
use Rattle.stack_machine.specs.declared.op.Op.TheVariants.{Push, Local, Load, Store, Move, Dup, Offset, Index, IndexOpen, Check, Nil, Add, Sub, Mul, Div, Mod, Neg, Abs, Not, Eq, Ne, Lt, Le, Gt, Ge, Union, Diff, Inter, SymDiff, Subset, Superset, In, Bit, Span, Jump, JumpFalse, AndJump, OrJump, More, Call, CallService, CallVar, Return, Trap, New, OpenCopy, Halt, Cap}
use Rattle.stack_machine.specs.declared.code.Code.{Code}
use Rattle.stack_machine.specs.declared.code.Routine.{Routine}
use Rattle.stack_machine.specs.declared.core_state.Core.{Core}
use Rattle.stack_machine.specs.declared.core_state.Frame.{Frame}
use Rattle.stack_machine.specs.declared.next.Next.{Next as CodeNext}
use Rattle.stack_machine.specs.declared.next.Next.TheVariants as code_next
use Rattle.stack_machine.specs.State.{State, Program, state_of, program_of}
use Rattle.stack_machine.specs.InOut.{Got}
use Rattle.stack_machine.specs.Step as step
use Rattle.stack_machine.specs.Step.{Next, takes, innermost, number_out, does, served}
use Rattle.stack_machine.specs.Able.{HasRoom, Comes}
use Rattle.stack_machine.specs.Ready.{Shapes, Leads, LinksTo, IsFine, IsValid, Wait, Fits, GoesOn, Nests, Ready, Asks, Able}
use Rattle.stack_machine.proofs.Links.{within}
use Rattle.stack_machine.proofs.Keeps.{some_is, depth, lowest, bases, walk, walk_base, own_high}
use Rattle.stack_machine.proofs.Steps.{takes_le, next_op, step_is, going}

-- the numbers of a state that is ready
record Counted (code : Code) (c : Core) (r : Ready code c) : Type 0 where
  sp : c.sp ≡ r.fits.low + r.fits.at.height
  space : c.sp < length c.stack.items
  frames : length c.frames.items * 4 + 4 ≤ length c.cells.items
  at : c.at < length code.ops.items

counted : (code : Code) (c : Core) (r : Ready code c) → Counted code c r
counted code c r =
    let p = program_of code in
    let len : length (take c.sp c.stack.items) ≡ c.sp = length-take-le c.sp c.stack.items r.room.within in
    let counts = r.fits.at.counts in
    let high = own_high p r.shapes r.valid (state_of c) r.fits in
    let under = r.fits.at.under in
    let room = r.fits.at.room in
    let top = r.room.top in
    let heap = r.room.heap in
    let stack = r.room.stack in
    let deep = depth p r.shapes c.frames.items (length c.frames.items) r.fits.low c.base r.fits.own.result r.fits.wait in
    let here = within r.shapes c.at (r.fits.at.proc, r.fits.at.height) r.fits.at.here in
    let long = r.valid.long in
    record { sp = omega arith; space = omega arith; frames = omega arith; at = omega arith }

pub at_within : (code : Code) (c : Core) → Ready code c → c.at < length code.ops.items
at_within code c r = (counted code c r).at

-- the cell of Done is there
pub done_there : (code : Code) (c : Core) → (r : Ready code c) → code.has_in_out ≡ true → 1 < length c.cells.items
done_there code c r there =
    let p = program_of code in
    let low = lowest p r.shapes c.frames.items (length c.frames.items) r.fits.low c.base r.fits.own.result r.fits.wait in
    let first = r.valid.done there in
    let base = r.room.base in
    let top = r.room.top in
    let heap = r.room.heap in
    omega (arith, low, first, base, top, heap)

pub origin_within : (code : Code) (c : Core) → Ready code c → c.at < length code.origins.items
origin_within code c r = let n = (counted code c r).at in let o = r.valid.origins in omega (arith, n, o)

last_frame : (p : Program) (shapes : Shapes) (xs : List Frame) (low base result : ℕ) → Wait p shapes xs (length xs) low base result → (f : Frame) → innermost xs ≡ Some f → (f.base ≤ f.top) × (f.top ≤ base)
last_frame p shapes [] low base result w f e = absurd cc
last_frame p shapes (x ∷ xs) low base result w f e =
    let is : w.0 ≡ f = some_is w.0 f (sym w.3 ∙ e) in
    let room = w.5.room in
    subst (λ (g : Frame). (g.base ≤ g.top) × (g.top ≤ base)) is (omega arith, w.4)

innermost_top : (p : Program) (shapes : Shapes) (s : State) (f : Fits p shapes s) → s.base ≤ s.top → s.top ≤ s.heap → (g : Frame) → innermost s.frames ≡ Some g → Nests g s.heap
innermost_top p shapes s f base top g e =
    let t = last_frame p shapes s.frames f.low s.base f.own.result f.wait g e in
    let u = t.1 in
    record { base = t.0; top = omega (arith, u, base, top) }

linked_number : (code : Code) (c : Core) (r : Ready code c) (l e : ℕ) → LinksTo (program_of code).routines l r.fits.at.proc (Some e) → (n : ℕ) × (number_out c.frames.items l (length c.frames.items) c.link ≡ Some n)
linked_number code c r l e to =
    let w = walk (program_of code) r.shapes c.frames.items r.fits.links l (length c.frames.items) r.fits.at.proc c.link e r.fits.link to in
    (w.0, w.1)

asks_of : (code : Code) (c : Core) (r : Ready code c) (op : Op) → IsFine (program_of code) r.shapes c.at r.fits.at.proc r.fits.at.height op → Asks (program_of code) c op
asks_of code c r (Push v) g = tt
asks_of code c r (Local l o) g =
    let f = r.fits in
    let s = state_of c in
    let w = walk_base (program_of code) r.shapes s.frames s.base f.links (λ d x is. bases (program_of code) r.shapes s.frames (length s.frames) f.low s.base f.own.result f.wait d x (within s.frames d x is) is) l (length s.frames) f.at.proc s.base s.link g.1.owner (omega arith) f.link g.1.linked in
    let le = w.2 in
    let base = r.room.base in
    (g.1.small, w.0, w.1, omega (arith, le, base))
asks_of code c r Load g = tt
asks_of code c r Store g = tt
asks_of code c r (Move n) g = tt
asks_of code c r Dup g = tt
asks_of code c r (Offset n) g = tt
asks_of code c r (Index low n size) g = tt
asks_of code c r (IndexOpen size) g = tt
asks_of code c r (Check low high) g = tt
asks_of code c r Nil g = tt
asks_of code c r (Add kind) g = tt
asks_of code c r (Sub kind) g = tt
asks_of code c r (Mul kind) g = tt
asks_of code c r (Div kind) g = tt
asks_of code c r (Mod kind) g = tt
asks_of code c r Neg g = tt
asks_of code c r Abs g = tt
asks_of code c r Not g = tt
asks_of code c r Eq g = tt
asks_of code c r Ne g = tt
asks_of code c r Lt g = tt
asks_of code c r Le g = tt
asks_of code c r Gt g = tt
asks_of code c r Ge g = tt
asks_of code c r Union g = tt
asks_of code c r Diff g = tt
asks_of code c r Inter g = tt
asks_of code c r SymDiff g = tt
asks_of code c r Subset g = tt
asks_of code c r Superset g = tt
asks_of code c r In g = tt
asks_of code c r Bit g = tt
asks_of code c r Span g = tt
asks_of code c r (Jump to) g = tt
asks_of code c r (JumpFalse to) g = tt
asks_of code c r (AndJump to) g = tt
asks_of code c r (OrJump to) g = tt
asks_of code c r (More n) g = tt
asks_of code c r (Call q l) g =
    let n = (counted code c r).sp in
    let params = g.params in
    record {
      callee = g.callee;
      is = g.is;
      params = omega arith;
      small = r.valid.small q g.callee g.is;
      linked = λ e outer. linked_number code c r l e (subst (LinksTo (program_of code).routines l r.fits.at.proc) outer g.linked);
    }
asks_of code c r (CallService v) g = tt
asks_of code c r (CallVar n result) g = λ q callee is. r.valid.small q callee is
asks_of code c r Return g = record {
  nested = λ f e. innermost_top (program_of code) r.shapes (state_of c) r.fits r.room.base r.room.top f e;
  origin = let n = (counted code c r).at in let o = r.valid.origins in omega (arith, n, o);
  bodies = λ m k is. (let b = r.valid.bodies m k is in (b.0, b.1, r.valid.small k b.0 b.1));
}
asks_of code c r (Trap t) g = tt
asks_of code c r (New n) g = g.1
asks_of code c r (OpenCopy o size) g =
    let w = g.1.within in
    let e : g.1.own ≡ r.fits.own = some_is g.1.own r.fits.own (sym g.1.is ∙ r.fits.at.own_is) in
    let within_own : o + 1 < r.fits.own.locals = subst (λ (q : Routine). o + 1 < q.locals) e w in
    let room = r.fits.at.room in
    omega (arith, within_own, room)
asks_of code c r Halt g = tt
asks_of code c r Cap g = tt

pub able : (code : Code) (c : Core) (op : Op) → Ready code c → slice_get code.ops.items c.at ≡ Some op → Able (program_of code) c op
able code c op r is =
    let p = program_of code in
    let fine = r.valid.each c.at r.fits.at.proc r.fits.at.height op is r.fits.at.here in
    let n = counted code c r in
    let takes_fits = takes_le p r.shapes c.at r.fits.at.proc r.fits.at.height op fine in
    let sp = n.sp in
    let at = n.at in
    let short = r.valid.short in
    record { can = record { there = omega arith; space = n.space; room = r.room; behind = omega arith }; frames = n.frames; asks = asks_of code c r op fine }

pub step_of : (code : Code) (c : Core) (op : Op) (got : Got) → Ready code c → slice_get code.ops.items c.at ≡ Some op → step.step (program_of code) got (state_of c) ≡ does (program_of code) got op (state_of c)
step_of code c op got r is = step_is (program_of code) r.shapes (state_of c) op got r.valid r.fits is

ready_by : (code : Code) (c d : Core) (r : Ready code c) (next : CodeNext) (n : Next) → GoesOn (program_of code) r.shapes n → Comes next n (state_of c) (state_of d) → HasRoom d → Ready code d
ready_by code c d r code_next.Goes n on comes room = record { shapes = r.shapes; valid = r.valid; fits = subst (GoesOn (program_of code) r.shapes) comes on; room = room }
ready_by code c d r code_next.Halts n on comes room = record { shapes = r.shapes; valid = r.valid; fits = subst (Fits (program_of code) r.shapes) (sym comes.1) r.fits; room = room }
ready_by code c d r (code_next.Traps t) n on comes room = record { shapes = r.shapes; valid = r.valid; fits = subst (Fits (program_of code) r.shapes) (sym comes.1) r.fits; room = room }
ready_by code c d r (code_next.NoFrame at) n on comes room = record { shapes = r.shapes; valid = r.valid; fits = subst (Fits (program_of code) r.shapes) (sym comes.1) r.fits; room = room }

pub ready_after : (code : Code) (c d : Core) (op : Op) (got : Got) (next : CodeNext) → Ready code c → slice_get code.ops.items c.at ≡ Some op → Comes next (does (program_of code) got op (state_of c)) (state_of c) (state_of d) → HasRoom d → Ready code d
ready_after code c d op got next r is comes room =
    ready_by code c d r next (step.step (program_of code) got (state_of c)) (going (program_of code) r.shapes (state_of c) got r.valid r.fits)
    (subst (λ (n : Next). Comes next n (state_of c) (state_of d)) (sym (step_of code c op got r is)) comes) room

-- a procedure of InOut is called, or it failed and nothing has changed
pub ready_result : (code : Code) (c d : Core) (op : Op) (r : Result CodeNext Failure) (v : Service) (n : ℕ) → (ready : Ready code c) → slice_get code.ops.items c.at ≡ Some op → Serves (program_of code) op (state_of c) v n
    → IfOk r (λ next. (got : Got) × Comes next (served v n got (state_of c)) (state_of c) (state_of d)) → OnErr r (state_of d ≡ state_of c) → HasRoom d → Ready code d
ready_result code c d op (Ok next) v n ready is serves comes same room =
    ready_after code c d op comes.0 next ready is (subst (λ (x : Next). Comes next x (state_of c) (state_of d)) (sym (serves.does_so comes.0)) comes.1) room
ready_result code c d op (Err e) v n ready is serves comes same room =
    record { shapes = ready.shapes; valid = ready.valid; fits = subst (Fits (program_of code) ready.shapes) (sym same) ready.fits; room = room }

-- a body that finds no room has its place
framed_by : (code : Code) (shapes : Shapes) (s s' : State) (next : CodeNext) (n : Next) → length code.origins.items ≡ length code.ops.items → GoesOn (program_of code) shapes n → Comes next n s s' → IsFramed next (length code.origins.items)
framed_by code shapes s s' code_next.Goes n len on comes = tt
framed_by code shapes s s' code_next.Halts n len on comes = tt
framed_by code shapes s s' (code_next.Traps c) n len on comes = tt
framed_by code shapes s s' (code_next.NoFrame at) n len on comes = let lt = subst (GoesOn (program_of code) shapes) comes.0 on in omega (arith, lt, len)

pub framed : (code : Code) (c d : Core) (op : Op) (got : Got) (next : CodeNext) → Ready code c → slice_get code.ops.items c.at ≡ Some op → Comes next (does (program_of code) got op (state_of c)) (state_of c) (state_of d) → IsFramed next (length code.origins.items)
framed code c d op got next r is comes =
    framed_by code r.shapes (state_of c) (state_of d) next (step.step (program_of code) got (state_of c)) r.valid.origins (going (program_of code) r.shapes (state_of c) got r.valid r.fits)
    (subst (λ (n : Next). Comes next n (state_of c) (state_of d)) (sym (step_of code c op got r is)) comes)

pub framed_result : (code : Code) (c d : Core) (op : Op) (r : Result CodeNext Failure) (v : Service) (n : ℕ) → Ready code c → slice_get code.ops.items c.at ≡ Some op → Serves (program_of code) op (state_of c) v n
    → IfOk r (λ next. (got : Got) × Comes next (served v n got (state_of c)) (state_of c) (state_of d)) → IfOk r (λ next. IsFramed next (length code.origins.items))
framed_result code c d op (Ok next) v n ready is serves comes =
    framed code c d op comes.0 next ready is (subst (λ (x : Next). Comes next x (state_of c) (state_of d)) (sym (serves.does_so comes.0)) comes.1)
framed_result code c d op (Err e) v n ready is serves comes = tt
