use Rattle.std.proofs.Common.{◌∙◌, sym, true}
use Rattle.std.specs.Int.{w32}
use Rattle.std.specs.Prelude.{pos}
use Rattle.std.specs.Option.{option_map}
use Rattle.std.proofs.lemmas.Int.{to_z-of_z}
use Rattle.code_form.specs.Valid.{points, callees_of}
use Rattle.object_file.specs.Views.{procedure_of, world_in}
use Rattle.object_file.proofs.Judging.{lands_by, there}
use Rattle.object_file.proofs.levels.lands.Goals as goal

pub returns-in-Some : goal.returns-in-Some
returns-in-Some c = λ is a.
    let w = world_in c.args.parts.now in
    let p = procedure_of c.args.own.now in
    let j = c.in-Some.ensures in
    let d = to_z-of_z w32 c.in-Some.distance j.fits in
    c.is_some.ensures ∙ there c.target.result
    ∙ lands_by (points (callees_of w p) 0 (pos 0) is) c.args.point.now (λ h gone. true) c.in-Some.distance c.in-Some.field-0-1 (option_map (λ m. m.height) c.target.result) (sym j.jump) (rw d at (c.target.ensures is a))
