use Rattle.std.proofs.Common.{◌≡◌, ◌-◌, map, [], vec_len}
use Rattle.object_file.specs.Views.{heading_of}
use Rattle.object_file.specs.Fields.{many_at}
use Rattle.object_file.specs.Reading.{heading_at}
use Rattle.object_file.proofs.reading.headings_of.Given as goal

abbrev pub invariant-loop : goal.invariant-loop
invariant-loop l = record { so_many : vec_len l.headings ≡ l.counter; the_rest : many_at heading_at (l.count - l.counter) (map heading_of l.headings.items) l.bytes.now ≡ many_at heading_at l.count [] l.fn.bytes.now }
