-- Steps of valid code.
use Rattle.std.proofs.Common.{◌≡◌, ℕ, zero, suc, ◌<◌, ◌≤◌, false, ltb, List, [], ◌∷◌, length, Option, Some, refl, sym, ap, subst, ◌∙◌, arith}
use Rattle.std.specs.Prelude.{slice_get}
use Rattle.std.proofs.lemmas.Bool.{le-ltb}
use Rattle.stack_machine.specs.declared.op.Op.{Op}
use Rattle.stack_machine.specs.declared.op.Op.TheVariants.{Push, Local, Load, Store, Move, Dup, Offset, Index, IndexOpen, Check, Nil, Add, Sub, Mul, Div, Mod, Neg, Abs, Not, Eq, Ne, Lt, Le, Gt, Ge, Union, Diff, Inter, SymDiff, Subset, Superset, In, Bit, Span, Jump, JumpFalse, AndJump, OrJump, More, Call, CallService, CallVar, Return, Trap, New, OpenCopy, Halt, Cap}
use Rattle.stack_machine.specs.State.{State, Program}
use Rattle.stack_machine.specs.InOut.{Got}
use Rattle.stack_machine.specs.Step as step
use Rattle.stack_machine.specs.Step.{takes, does, act}
use Rattle.stack_machine.specs.Ready.{Shapes, IsFine, IsValid, Fits, GoesOn}
use Rattle.stack_machine.proofs.Links.{within}
use Rattle.stack_machine.proofs.Keeps.{keeps}

pub takes_le : (c : Program) (shapes : Shapes) (k p h : ℕ) (op : Op) → IsFine c shapes k p h op → takes op ≤ h
takes_le c shapes k p h (Push v) g = omega arith
takes_le c shapes k p h (Local l o) g = omega arith
takes_le c shapes k p h Load g = g.0
takes_le c shapes k p h Store g = g.0
takes_le c shapes k p h (Move n) g = g.0
takes_le c shapes k p h Dup g = g.0
takes_le c shapes k p h (Offset n) g = g.0
takes_le c shapes k p h (Index low n size) g = g.0
takes_le c shapes k p h (IndexOpen size) g = g.0
takes_le c shapes k p h (Check low high) g = g.0
takes_le c shapes k p h Nil g = g.0
takes_le c shapes k p h (Add kind) g = g.0
takes_le c shapes k p h (Sub kind) g = g.0
takes_le c shapes k p h (Mul kind) g = g.0
takes_le c shapes k p h (Div kind) g = g.0
takes_le c shapes k p h (Mod kind) g = g.0
takes_le c shapes k p h Neg g = g.0
takes_le c shapes k p h Abs g = g.0
takes_le c shapes k p h Not g = g.0
takes_le c shapes k p h Eq g = g.0
takes_le c shapes k p h Ne g = g.0
takes_le c shapes k p h Lt g = g.0
takes_le c shapes k p h Le g = g.0
takes_le c shapes k p h Gt g = g.0
takes_le c shapes k p h Ge g = g.0
takes_le c shapes k p h Union g = g.0
takes_le c shapes k p h Diff g = g.0
takes_le c shapes k p h Inter g = g.0
takes_le c shapes k p h SymDiff g = g.0
takes_le c shapes k p h Subset g = g.0
takes_le c shapes k p h Superset g = g.0
takes_le c shapes k p h In g = g.0
takes_le c shapes k p h Bit g = g.0
takes_le c shapes k p h Span g = g.0
takes_le c shapes k p h (Jump to) g = omega arith
takes_le c shapes k p h (JumpFalse to) g = g.0.0
takes_le c shapes k p h (AndJump to) g = g.0.0
takes_le c shapes k p h (OrJump to) g = g.0.0
takes_le c shapes k p h (More n) g = g.0
takes_le c shapes k p h (Call q l) g = omega arith
takes_le c shapes k p h (CallService v) g = g.0.0
takes_le c shapes k p h (CallVar n r) g = g.0
takes_le c shapes k p h Return g = omega arith
takes_le c shapes k p h (Trap t) g = omega arith
takes_le c shapes k p h (New n) g = g.0.0
takes_le c shapes k p h (OpenCopy o size) g = omega arith
takes_le c shapes k p h Halt g = omega arith
takes_le c shapes k p h Cap g = g.0

-- there is an operation at a place that has a shape
op_at : (ops : List Op) (k : ℕ) → k < length ops → (op : Op) × (slice_get ops k ≡ Some op)
op_at [] k lt = absurd (omega arith)
op_at (x ∷ ops) zero lt = (x, refl)
op_at (x ∷ ops) (suc k) lt = op_at ops k (omega arith)

pub next_op : (c : Program) (shapes : Shapes) (s : State) → IsValid c shapes → Fits c shapes s → (op : Op) × (slice_get c.ops s.at ≡ Some op)
next_op c shapes s valid f =
    let here = within shapes s.at (f.at.proc, f.at.height) f.at.here in
    let long = valid.long in
    op_at c.ops s.at (omega (arith, here, long))

-- an operation in valid code finds its operands
pub step_is : (c : Program) (shapes : Shapes) (s : State) (op : Op) (got : Got) → IsValid c shapes → Fits c shapes s → slice_get c.ops s.at ≡ Some op → step.step c got s ≡ does c got op s
unfolding step.step
step_is c shapes s op got valid f is =
    let fine = valid.each s.at f.at.proc f.at.height op is f.at.here in
    let takes_fits = takes_le c shapes s.at f.at.proc f.at.height op fine in
    let counts = f.at.counts in
    let test : ltb (length s.operands) (takes op) ≡ false = le-ltb _ _ (omega arith) in
    ap (λ (o : Option Op). act c got o s) is ∙ rw test refl

pub going : (c : Program) (shapes : Shapes) (s : State) (got : Got) → IsValid c shapes → Fits c shapes s → GoesOn c shapes (step.step c got s)
going c shapes s got valid f =
    let o = next_op c shapes s valid f in
    subst (GoesOn c shapes) (sym (step_is c shapes s o.0 got valid f o.1)) (keeps c shapes valid s f o.0 got (valid.each s.at f.at.proc f.at.height o.0 o.1 f.at.here)).by
