use Rattle.std.proofs.Common.{◌≡◌, ◌-◌, []}
use Rattle.object_file.specs.Fields.{many_at}
use Rattle.object_file.specs.Reading.{import_at}
use Rattle.object_file.proofs.reading.imports_of.Given as goal

abbrev pub invariant-loop : goal.invariant-loop
invariant-loop l = many_at (import_at l.version) (l.count - l.counter) l.imports l.bytes.now ≡ many_at (import_at l.version) l.count [] l.fn.bytes.now
