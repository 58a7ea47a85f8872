use Rattle.std.proofs.Common.{◌≡◌, arith, ap, ◌∙◌, length}
use Rattle.stack_machine.proofs.Starting.{first_length}
use Rattle.stack_machine.proofs.start.blank.Goals as goal

pub returns-clause-room : goal.returns-clause-room
returns-clause-room c =
    let cells : length c.in_ok-cells.cells.items ≡ c.args.size = ap length c.in_ok-cells.ensures ∙ first_length c.args.objects.now c.args.size c.requires.room in
    let stack = c.in_ok-stack.ensures in
    let small = c.requires.small in
    let frames = c.requires.layout.frames in
    let room = c.requires.room in
    let exact = c.in_ok-frames.ensures.exact in
    record {
      small = omega (arith, cells, small);
      stack = omega (arith, cells, stack);
      within = omega arith;
      heap = omega (arith, cells);
      top = omega (arith, frames, room);
      base = omega arith;
      frames = omega (arith, cells, exact);
    }
