use Rattle.std.proofs.Common.{◌∙◌, sym, Some, None}
use Rattle.std.specs.Int.{w32}
use Rattle.std.specs.Prelude.{pos, ◌-ℤ◌}
use Rattle.std.proofs.lemmas.Int.{to_z-of_z}
use Rattle.code_form.specs.Valid.{points, callees_of, same_height}
use Rattle.object_file.specs.Views.{procedure_of, world_in}
use Rattle.object_file.proofs.Judging.{lands_by}
use Rattle.object_file.proofs.levels.lands_level.Goals as goal

pub returns-in-Some-target : goal.returns-in-Some-target
returns-in-Some-target c = λ is a.
    let w = world_in c.args.parts.now in
    let p = procedure_of c.args.own.now in
    let j = c.in-Some.ensures in
    let d = to_z-of_z w32 c.in-Some.distance j.fits in
    c.agree.ensures ∙ lands_by (points (callees_of w p) 0 (pos 0) is) c.args.point.now (λ h gone. same_height (c.args.point.now.height -ℤ pos gone) h) c.in-Some.distance c.in-Some.gone (Some c.in-Some-target.other.height) (sym j.jump) (rw d at (c.in-Some-target.ensures is a))

pub returns-in-None-target : goal.returns-in-None-target
returns-in-None-target c = λ is a.
    let w = world_in c.args.parts.now in
    let p = procedure_of c.args.own.now in
    let j = c.in-Some.ensures in
    let d = to_z-of_z w32 c.in-Some.distance j.fits in
    lands_by (points (callees_of w p) 0 (pos 0) is) c.args.point.now (λ h gone. same_height (c.args.point.now.height -ℤ pos gone) h) c.in-Some.distance c.in-Some.gone None (sym j.jump) (rw d at (c.in-None-target.ensures is a))
