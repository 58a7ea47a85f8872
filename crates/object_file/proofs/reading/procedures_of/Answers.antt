use Rattle.std.proofs.Common.{◌≡◌, ◌++◌, ◌∷◌, [], map, rules, sym, ◌∙◌}
use Rattle.std.proofs.lemmas.Result.{err_from_is_err_and}
use Rattle.std.proofs.lemmas.List.{map_push}
use Rattle.object_file.specs.Views.{procedure_of}
use Rattle.object_file.specs.Reading.{procedure_at}
use Rattle.object_file.proofs.Counting.{goes_on, stops_at, is_done}
use Rattle.object_file.proofs.reading.procedures_of.Goals as goal

pub returns-in_err-one : goal.returns-in_err-one
returns-in_err-one c =
    let p = err_from_is_err_and c.from_residual.result c.from_residual.ensures.1 in
    rw (p.1, p.2, ← c.loop.invariant.the_rest) (stops_at (procedure_at c.args.exports.now) c.in_err-one.field-0.0 (map procedure_of c.loop.procedures.items) c.args.count c.loop.counter c.loop.bytes.now c.loop-test.true (rw c.deref.ensures.value at c.in_err-one.ensures))

pub loop-preserved : goal.loop-preserved
loop-preserved c =
    let n = c.in_ok-one.one in
    let e : map procedure_of c.push.new.self.items ≡ map procedure_of c.loop.procedures.items ++ (procedure_of n) ∷ [] = rw c.in_ok-push.ensures.items (map_push procedure_of c.loop.procedures.items n) in
    record { so_many = search rules; the_rest = rw e (sym (goes_on (procedure_at c.args.exports.now) (map procedure_of c.loop.procedures.items) c.args.count c.loop.counter c.loop.bytes.now (procedure_of n) c.procedure.new.bytes.now c.loop-test.true (rw c.deref.ensures.value at c.in_ok-one.ensures)) ∙ c.loop.invariant.the_rest) }

pub returns : goal.returns
returns c = sym c.loop.invariant.the_rest ∙ is_done (procedure_at c.args.exports.now) (map procedure_of c.loop.procedures.items) c.args.count c.loop.counter c.loop.bytes.now c.loop-test.false
