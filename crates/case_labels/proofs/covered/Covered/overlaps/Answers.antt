use Rattle.std.proofs.Common.{w64}
use Rattle.std.proofs.lemmas.Int.{to_z-of_z}
use Rattle.case_labels.proofs.Coverings.{overlapped}
use Rattle.case_labels.proofs.covered.Covered.overlaps.Goals as goal

pub returns : goal.returns
returns c = overlapped c.args.low c.args.high (to_z-of_z w64 c.args.low c.ranges.low) (to_z-of_z w64 c.args.high c.ranges.high) c.self.invariant c.reaches.ensures c.self.view_is
