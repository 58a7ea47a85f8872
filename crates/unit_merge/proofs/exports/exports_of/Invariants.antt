use Rattle.std.proofs.Common.{◌≡◌, map, take}
use Rattle.unit_merge.specs.Objects.{export_in}
use Rattle.unit_merge.proofs.exports.exports_of.Given as goal

abbrev pub invariant-loop-heading : goal.invariant-loop-heading
invariant-loop-heading l = l.exports.items ≡ map (export_in l.headings) (take l.heading-index l.own)
