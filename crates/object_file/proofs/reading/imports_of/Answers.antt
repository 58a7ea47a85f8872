use Rattle.std.proofs.Common.{sym, ◌∙◌}
use Rattle.std.proofs.lemmas.Result.{err_from_is_err_and}
use Rattle.object_file.specs.Views.{keyed_of}
use Rattle.object_file.specs.Reading.{import_at}
use Rattle.object_file.proofs.Counting.{goes_on, stops_at, is_done}
use Rattle.object_file.proofs.reading.imports_of.Goals as goal

pub returns-in_err-one : goal.returns-in_err-one
returns-in_err-one c =
    let p = err_from_is_err_and c.from_residual.result c.from_residual.ensures.1 in
    rw (p.1, p.2, ← c.loop.invariant) (stops_at (import_at c.args.version) c.in_err-one.field-0.0 c.loop.imports c.args.count c.loop.counter c.loop.bytes.now c.loop-test.true c.in_err-one.ensures)

pub loop-preserved : goal.loop-preserved
loop-preserved c =
    rw c.in_ok-imports.ensures (sym (goes_on (import_at c.args.version) c.loop.imports c.args.count c.loop.counter c.loop.bytes.now (keyed_of c.in_ok-one.one) c.import.new.bytes.now c.loop-test.true c.in_ok-one.ensures) ∙ c.loop.invariant)

pub returns : goal.returns
returns c = rw c.into_notes.ensures (sym c.loop.invariant ∙ is_done (import_at c.args.version) c.loop.imports c.args.count c.loop.counter c.loop.bytes.now c.loop-test.false)
