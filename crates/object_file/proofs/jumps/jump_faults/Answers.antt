use Rattle.object_file.specs.Firsts.{is_landing, is_landing_level}
use Rattle.object_file.specs.Views.{procedure_of, world_in}
use Rattle.object_file.proofs.Finding.{first_on, first_ends}
use Rattle.object_file.proofs.jumps.jump_faults.Goals as goal

pub loop-point-init : goal.loop-point-init
loop-point-init c =
    let from = c.requires.from in
    record { within = from.within; nowhere = from.lands; uneven = from.level }

pub loop-point-preserved : goal.loop-point-preserved
loop-point-preserved c =
    let w = world_in c.args.parts.now in
    let p = procedure_of c.args.own.now in
    let m = c.loop-point.place in
    let here = c.in-Some.ensures.found in
    let i = c.loop-point.invariant in
    rw (c.with-faults.ensures.nowhere, c.with-faults.ensures.uneven, c.behind-place.ensures.at, c.behind-place.ensures.height)
    (record {
      within = here.within;
      nowhere = first_on w p is_landing c.loop-point.faults.nowhere c.lands-lands.result m.at m.height c.in-Some.point i.nowhere here c.lands-lands.ensures;
      uneven = first_on w p is_landing_level c.loop-point.faults.uneven c.lands_level-level.result m.at m.height c.in-Some.point i.uneven here c.lands_level-level.ensures;
    })

pub returns : goal.returns
returns c =
    let w = world_in c.args.parts.now in
    let p = procedure_of c.args.own.now in
    let m = c.loop-point.place in
    let none = c.in_default.ensures.none in
    record {
      nowhere = first_ends w p is_landing c.loop-point.faults.nowhere m.at m.height c.loop-point.invariant.nowhere none;
      uneven = first_ends w p is_landing_level c.loop-point.faults.uneven m.at m.height c.loop-point.invariant.uneven none;
    }
