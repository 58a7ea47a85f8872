use Rattle.std.proofs.Common.{◌<◌, ◌≤◌, length, refl, arith}
use Rattle.std.specs.Int.{w128}
use Rattle.std.proofs.lemmas.Int.{to_z-of_z}
use Rattle.object_file.specs.Views.{procedure_of, world_in}
use Rattle.object_file.proofs.Finding.{found_first, found_on, survey_ends}
use Rattle.object_file.proofs.Walking.{walk_first, walk_on, walk_stops}
use Rattle.object_file.proofs.survey.survey_of.Goals as goal

pub loop-point-init : goal.loop-point-init
loop-point-init c =
    let w = world_in c.args.parts.now in
    let p = procedure_of c.args.own.now in
    let m = c.first-place in
    record {
      walk = walk_first w p c.new-marks.result.items _ m.result.at m.result.height c.new-marks.ensures.items refl m.ensures.at m.ensures.height;
      found = found_first w c.args.k p _ m.result.at m.result.height refl refl refl m.ensures.at m.ensures.height;
    }

pub loop-point-preserved : goal.loop-point-preserved
loop-point-preserved c =
    let w = world_in c.args.parts.now in
    let p = procedure_of c.args.own.now in
    let m = c.loop-point.place in
    let h = to_z-of_z w128 c.greater-highest.result (record { sfits = c.greater-highest.type_inv }) in
    let here = c.in-Some.ensures.found in
    rw (h, c.greater-highest.ensures, c.behind-place.ensures.at, c.behind-place.ensures.height)
    (record {
      walk = walk_on w p c.loop-point.marks.items c.add_mark.new.marks.items _ m c.in-Some.point c.loop-point.invariant.walk here c.in_ok-add_mark.ensures;
      found = found_on w c.args.k p c.loop-point.found c.with-found.result m c.in-Some.point c.loop-point.invariant.found here c.with-found.ensures.wrong c.with-found.ensures.low c.with-found.ensures.jump;
    })

pub returns-then-place-len : goal.returns-then-place-len
returns-then-place-len c =
    let lt : c.loop-point.place.at < length c.args.own.now.code.items = omega (arith, c.if-place-len.true, c.len.ensures) in
    (walk_stops (world_in c.args.parts.now) (procedure_of c.args.own.now) _ _ c.loop-point.place.at _ c.loop-point.invariant.walk lt c.in_default.ensures.none, refl)

pub returns : goal.returns
returns c =
    let le : length c.args.own.now.code.items ≤ c.loop-point.place.at = omega (arith, c.if-place-len.false, c.len.ensures) in
    survey_ends (world_in c.args.parts.now) c.args.k (procedure_of c.args.own.now) _ c.loop-point.place c.loop-point.invariant.walk c.loop-point.invariant.found le c.in_default.ensures.none c.place_of-jumps.ensures
