-- The state of a machine, and the code of a program, as plain data.
use Rattle.std.specs.Prelude.{ℕ, ℤ, Bool, List, Option, take}
use Rattle.stack_machine.specs.declared.core_state.Frame.{Frame}
use Rattle.stack_machine.specs.declared.core_state.Core.{Core}
use Rattle.stack_machine.specs.declared.op.Op.{Op}
use Rattle.stack_machine.specs.declared.code.Routine.{Routine}
use Rattle.stack_machine.specs.declared.code.Origin.{Origin}
use Rattle.stack_machine.specs.declared.code.Code.{Code}

-- The place of the next operation; the frame's first cell and the cell behind it; the frame to which its static link
-- leads; the lowest cell that NEW has taken; the operands, the topmost last; all cells; the frames of the callers, the
-- innermost last; and the byte after a number that was read, which comes first in the next reading.
pub record State : Type 0 where
  pub at : ℕ
  pub base : ℕ
  pub top : ℕ
  pub link : ℕ
  pub heap : ℕ
  pub operands : List ℤ
  pub cells : List ℤ
  pub frames : List Frame
  pub kept : Option ℕ

-- The operations of a program and where they come from; its procedures, and among them the bodies of its modules in
-- running order; the first cell of the first frame; and whether InOut is imported.
pub record Program : Type 0 where
  pub ops : List Op
  pub origins : List Origin
  pub routines : List Routine
  pub bodies : List ℕ
  pub frames_at : ℕ
  pub has_in_out : Bool

-- what the code keeps
abbrev pub state_of : Core → State
state_of c =
    record {
      at = c.at;
      base = c.base;
      top = c.top;
      link = c.link;
      heap = c.heap;
      operands = take c.sp c.stack.items;
      cells = c.cells.items;
      frames = c.frames.items;
      kept = c.kept;
    }

abbrev pub program_of : Code → Program
program_of c =
    record {
      ops = c.ops.items;
      origins = c.origins.items;
      routines = c.routines.items;
      bodies = c.bodies.items;
      frames_at = c.frames_at;
      has_in_out = c.has_in_out;
    }
