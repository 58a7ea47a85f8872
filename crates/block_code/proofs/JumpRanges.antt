-- Each jump of code that sits where it may is no longer than the code.
use Rattle.std.specs.Prelude.{◌≡◌, refl, ℕ, suc, ◌+◌, ◌-◌, ◌≤◌, ◌<◌, ◌^◌, pos, negsuc, List, [], ◌∷◌, None, FitsSigned}
use Rattle.std.specs.Int.{w32}
use Rattle.std.specs.List.{AllByRecursion}
use Rattle.std.proofs.Common.{arith, inl, inr}
use Rattle.code_form.specs.Bytes.{size}
use Rattle.code_form.specs.Heights.{Step, after_step}
use Rattle.code_form.specs.Instructions.{IsInstr}
use Rattle.code_form.specs.Valid.{jump_of}
use Rattle.code_form.specs.declared.instr.Instr.{Instr}
use Rattle.code_form.specs.declared.instr.Instr.TheVariants.{AndJump, Jump, JumpFalse, OrJump}
use Rattle.block_code.specs.Parts.{steps_size}
use Rattle.block_code.specs.FlowHeights.{Behind, Has, passed}
use Rattle.block_code.specs.Places.{OthersInRange, instrs_of}
use Rattle.block_code.proofs.Points.{Inside, Sits, Targets, nearer}

within : (j h k : ℕ) (ss : List Step) → Inside j h ss k → j ≤ steps_size ss
within j h k [] r = absurd r
within j h k (s ∷ ss) (inl r) = go j (size s.instr) (steps_size ss) r.0
  where
    go : (j x y : ℕ) → j ≡ 0 → j ≤ x + y
    go j x y e = omega (arith, e)
within j h k (s ∷ ss) (inr r) = go j (size s.instr) (steps_size ss) r.0 (within (j - size s.instr) (after_step h s) k ss r.1)
  where
    go : (j x y : ℕ) → x ≤ j → j - x ≤ y → j ≤ x + y
    go j x y e f = omega (arith, e, f)

-- no place behind is farther away than this
abbrev Near : ℕ → Behind → Type 0
Near n b = (d k : ℕ) → Has d k b → d ≤ n

near-on : (n h : ℕ) (s : Step) (b : Behind) → Near n b → Near (n + size s.instr) (passed b h s)
near-on n h s b f = λ d k r. go d k (nearer (size s.instr) d k ((0, h) ∷ b) r)
  where
    first : (n x d : ℕ) → x ≤ d → 0 ≡ d - x → d ≤ n + x
    first n x d e f = omega (arith, e, f)

    later : (n x d : ℕ) → x ≤ d → d - x ≤ n → d ≤ n + x
    later n x d e f = omega (arith, e, f)

    go : (d k : ℕ) → (size s.instr ≤ d) × Has (d - size s.instr) k ((0, h) ∷ b) → d ≤ n + size s.instr
    go d k (e, inl r) = first n (size s.instr) d e r.0
    go d k (e, inr r) = later n (size s.instr) d e (f (d - size s.instr) k r)

forward : (j x n total : ℕ) → j ≤ x → n + x ≤ total → total < 2 ^ 31 → FitsSigned w32 (pos j)
forward j x n total e f g = record { sfits = omega (arith, e, f, g) }

backward : (j x n total : ℕ) → suc j ≤ n → n + x ≤ total → total < 2 ^ 31 → FitsSigned w32 (negsuc j)
backward j x n total e f g = record { sfits = omega (arith, e, f, g) }

fits : (i : Instr) (b : Behind) (h after n total : ℕ) (ss : List Step) → Targets b h (jump_of i) after ss → Near n b → n + steps_size ss ≤ total → total < 2 ^ 31
    → (jump_of i ≡ None → IsInstr i) → IsInstr i
fits (Jump (pos j)) b h after n total ss r f e l g = (forward j (steps_size ss) n total (within j after (h - 0) ss r.1) e l, tt)
fits (Jump (negsuc j)) b h after n total ss r f e l g = (backward j (steps_size ss) n total (f (suc j) (h - 0) r.1) e l, tt)
fits (JumpFalse (pos j)) b h after n total ss r f e l g = (forward j (steps_size ss) n total (within j after (h - 1) ss r.1) e l, tt)
fits (JumpFalse (negsuc j)) b h after n total ss r f e l g = (backward j (steps_size ss) n total (f (suc j) (h - 1) r.1) e l, tt)
fits (AndJump (pos j)) b h after n total ss r f e l g = (forward j (steps_size ss) n total (within j after (h - 0) ss r.1) e l, tt)
fits (AndJump (negsuc j)) b h after n total ss r f e l g = (backward j (steps_size ss) n total (f (suc j) (h - 0) r.1) e l, tt)
fits (OrJump (pos j)) b h after n total ss r f e l g = (forward j (steps_size ss) n total (within j after (h - 0) ss r.1) e l, tt)
fits (OrJump (negsuc j)) b h after n total ss r f e l g = (backward j (steps_size ss) n total (f (suc j) (h - 0) r.1) e l, tt)
fits i b h after n total ss r f e l g = g refl

all-fit : (b : Behind) (h n total : ℕ) (ss : List Step) → Sits b h ss → Near n b → n + steps_size ss ≤ total → total < 2 ^ 31 → OthersInRange ss
    → AllByRecursion IsInstr (instrs_of ss)
all-fit b h n total [] s f e l g = tt
all-fit b h n total (x ∷ ss) s f e l g =
    let m : ℕ = n + size x.instr in
    let f' : Near m (passed b h x) = near-on n h x b f in
    let e' : m + steps_size ss ≤ total = go n (size x.instr) (steps_size ss) total e in
    (fits x.instr (passed b h x) h (after_step h x) m total ss s.1 f' e' l g.0, all-fit (passed b h x) (after_step h x) m total ss s.2 f' e' l g.1)
  where
    go : (n x y total : ℕ) → n + (x + y) ≤ total → (n + x) + y ≤ total
    go n x y total e = omega (arith, e)

-- so each jump is in its range, where the code is short enough
pub in_range : (ss : List Step) → Sits [] 0 ss → steps_size ss < 2 ^ 31 → OthersInRange ss → AllByRecursion IsInstr (instrs_of ss)
in_range ss s l g = all-fit [] 0 0 (steps_size ss) ss s (λ d k r. absurd r) (start (steps_size ss)) l g
  where
    start : (x : ℕ) → 0 + x ≤ x
    start x = omega arith
