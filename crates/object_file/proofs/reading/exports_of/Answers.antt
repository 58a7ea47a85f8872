use Rattle.std.proofs.Common.{sym, ◌∙◌}
use Rattle.std.proofs.lemmas.Result.{err_from_is_err_and}
use Rattle.object_file.specs.Reading.{export_at}
use Rattle.object_file.proofs.Counting.{goes_on, stops_at, is_done}
use Rattle.object_file.proofs.reading.exports_of.Goals as goal

pub returns-in_err-one : goal.returns-in_err-one
unfolding export_at
returns-in_err-one c =
    let p = err_from_is_err_and c.from_residual.result c.from_residual.ensures.1 in
    rw (p.1, p.2, ← c.loop.invariant) (stops_at export_at c.in_err-one.field-0.0 c.loop.exports c.args.count c.loop.counter c.loop.bytes.now c.loop-test.true c.in_err-one.ensures)

pub loop-preserved : goal.loop-preserved
unfolding export_at
loop-preserved c =
    rw c.in_ok-exports.ensures (sym (goes_on export_at c.loop.exports c.args.count c.loop.counter c.loop.bytes.now c.in_ok-one.one c.export.new.bytes.now c.loop-test.true c.in_ok-one.ensures) ∙ c.loop.invariant)

pub returns : goal.returns
returns c = sym c.loop.invariant ∙ is_done export_at c.loop.exports c.args.count c.loop.counter c.loop.bytes.now c.loop-test.false
