use Rattle.std.proofs.Common.{◌≡◌, ◌++◌, ◌∷◌, [], map, rules, sym, ◌∙◌}
use Rattle.std.proofs.lemmas.Result.{err_from_is_err_and}
use Rattle.std.proofs.lemmas.List.{map_push}
use Rattle.object_file.specs.Views.{heading_of}
use Rattle.object_file.specs.Reading.{heading_at}
use Rattle.object_file.proofs.Counting.{goes_on, stops_at, is_done}
use Rattle.object_file.proofs.reading.headings_of.Goals as goal

pub returns-in_err-one : goal.returns-in_err-one
unfolding heading_at
returns-in_err-one c =
    let p = err_from_is_err_and c.from_residual.result c.from_residual.ensures.1 in
    rw (p.1, p.2, ← c.loop.invariant.the_rest) (stops_at heading_at c.in_err-one.field-0.0 (map heading_of c.loop.headings.items) c.args.count c.loop.counter c.loop.bytes.now c.loop-test.true c.in_err-one.ensures)

pub loop-preserved : goal.loop-preserved
unfolding heading_at
loop-preserved c =
    let n = c.in_ok-one.one in
    let e : map heading_of c.push.new.self.items ≡ map heading_of c.loop.headings.items ++ (heading_of n) ∷ [] = rw c.in_ok-push.ensures.items (map_push heading_of c.loop.headings.items n) in
    record { so_many = search rules; the_rest = rw e (sym (goes_on heading_at (map heading_of c.loop.headings.items) c.args.count c.loop.counter c.loop.bytes.now (heading_of n) c.heading.new.bytes.now c.loop-test.true c.in_ok-one.ensures) ∙ c.loop.invariant.the_rest) }

pub returns : goal.returns
returns c = sym c.loop.invariant.the_rest ∙ is_done heading_at (map heading_of c.loop.headings.items) c.args.count c.loop.counter c.loop.bytes.now c.loop-test.false
