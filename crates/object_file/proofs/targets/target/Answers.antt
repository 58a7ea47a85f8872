use Rattle.std.proofs.Common.{◌<◌, ◌∙◌, ◌^◌, ap, arith}
use Rattle.std.specs.Int.{w32}
use Rattle.std.specs.Prelude.{pos, ◌+ℤ◌}
use Rattle.std.proofs.lemmas.Int.{to_z-of_z}
use Rattle.code_form.specs.Valid.{points, callees_of}
use Rattle.object_file.specs.Views.{procedure_of, world_in}
use Rattle.object_file.proofs.Walking.{nowhere, place_within}
use Rattle.object_file.proofs.targets.target.Goals as goal

pub returns-in_default : goal.returns-in_default
returns-in_default c = λ is a.
    let w = world_in c.args.parts.now in
    let p = procedure_of c.args.own.now in
    let d = to_z-of_z w32 c.args.distance c.ranges.distance in
    nowhere (points (callees_of w p) 0 (pos 0) is) (pos c.args.end +ℤ c.args.distance) (λ k q e same.
    let fits : q.at < 2 ^ 64 = omega (arith, place_within w p is k q a e, c.args.own.now.code.small) in
    c.in_default.ensures.none q.at fits (ap (λ z. pos c.args.end +ℤ z) d ∙ same))
