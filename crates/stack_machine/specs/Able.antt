-- What the code's state has room for, and what its step answers.
use Rattle.std.specs.Prelude.{◌≡◌, ◌≤◌, ◌<◌, ◌+◌, ◌*◌, ◌^◌, ℕ, length, vec_capacity}
use Rattle.stack_machine.specs.declared.core_state.Core.{Core}
use Rattle.stack_machine.specs.declared.next.Next.{Next as CodeNext}
use Rattle.stack_machine.specs.declared.next.Next.TheVariants as code
use Rattle.stack_machine.specs.State.{State}
use Rattle.stack_machine.specs.Step.{Next, Goes, Halts, Traps, NoFrame}

pub record HasRoom (c : Core) : Type 0 where
  pub small : length c.cells.items < 2 ^ 32
  pub stack : length c.stack.items ≡ length c.cells.items
  pub within : c.sp ≤ length c.stack.items
  pub heap : c.heap ≤ length c.cells.items
  pub top : c.top ≤ c.heap
  pub base : c.base ≤ c.top
  pub frames : length c.cells.items ≤ 4 * vec_capacity c.frames

-- n operands are there, and room for one more, and the place behind has a number
pub record CanDo (c : Core) (n : ℕ) : Type 0 where
  pub there : n ≤ c.sp
  pub space : c.sp < length c.stack.items
  pub room : HasRoom c
  pub behind : c.at + 1 < 2 ^ 63

-- what the code's step answers
abbrev pub Comes : CodeNext → Next → State → State → Type 0
Comes code.Goes next old new = next ≡ Goes new
Comes code.Halts next old new = (next ≡ Halts) × (new ≡ old)
Comes (code.Traps c) next old new = (next ≡ Traps c) × (new ≡ old)
Comes (code.NoFrame at) next old new = (next ≡ NoFrame at) × (new ≡ old)
