use Rattle.std.proofs.Common.{◌≡◌, ℕ, List, map, subst}
use Rattle.std.specs.Bool.{Decides}
use Rattle.object_file.specs.Views.{heading_of}
use Rattle.object_file.proofs.Meeting.{same-Decides}
use Rattle.object_file.proofs.program.are_in_out.Goals as goal

pub returns : goal.returns
returns c =
    subst (λ (ys : List (ℕ × ℕ)). Decides c.eq.result (map heading_of c.args.headings.now ≡ map heading_of ys)) c.as_slice.ensures
    (same-Decides c.args.headings.now c.as_slice.result.now c.eq.result c.eq.ensures)
