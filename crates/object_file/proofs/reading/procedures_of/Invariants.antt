use Rattle.std.proofs.Common.{◌≡◌, ◌-◌, map, [], vec_len}
use Rattle.object_file.specs.Views.{procedure_of}
use Rattle.object_file.specs.Fields.{many_at}
use Rattle.object_file.specs.Reading.{procedure_at}
use Rattle.object_file.proofs.reading.procedures_of.Given as goal

abbrev pub invariant-loop : goal.invariant-loop
invariant-loop l = record { so_many : vec_len l.procedures ≡ l.counter; the_rest : many_at (procedure_at l.exports) (l.count - l.counter) (map procedure_of l.procedures.items) l.bytes.now ≡ many_at (procedure_at l.exports) l.count [] l.fn.bytes.now }
