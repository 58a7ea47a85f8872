use Rattle.std.proofs.Common.{◌≡◌, ◌-◌, []}
use Rattle.object_file.specs.Fields.{many_at}
use Rattle.object_file.specs.Reading.{export_at}
use Rattle.object_file.proofs.reading.exports_of.Given as goal

abbrev pub invariant-loop : goal.invariant-loop
invariant-loop l = many_at export_at (l.count - l.counter) l.exports l.bytes.now ≡ many_at export_at l.count [] l.fn.bytes.now
