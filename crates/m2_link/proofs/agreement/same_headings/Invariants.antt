use Rattle.std.proofs.Common.{◌≡◌, length, map, drop}
use Rattle.object_file.specs.Programs.{given_headings}
use Rattle.object_file.specs.Views.{heading_of}
use Rattle.m2_link.specs.Refusals.{same_headings}
use Rattle.m2_link.proofs.agreement.same_headings.Given as goal

abbrev pub invariant-loop-k : goal.invariant-loop-k
invariant-loop-k l = record {
  same : same_headings (given_headings l.exports) (map heading_of l.headings) ≡ same_headings (given_headings (drop l.k l.exports)) (map heading_of (drop l.k l.headings));
  lengths : length l.exports ≡ length l.headings;
}
