use Rattle.std.specs.Prelude.{Bool, ◌&&◌, is_none}
use Rattle.std.proofs.Common.{ap, ◌∙◌}
use Rattle.type_rules.specs.Forms.{parameters_from}
use Rattle.type_rules.specs.Scenes.{scene_of}
use Rattle.type_rules.proofs.Procedures.{none_left}
use Rattle.type_rules.proofs.headings.is_bare.Goals as goal

pub returns-clause-told : goal.returns-clause-told
returns-clause-told g c made in_hand told =
    let scene = scene_of (g.S.Scopes.state c.args.scopes.now).frame made c.args.around.now in
    let form = c.args.form in
    c.is_nothing.ensures
    ∙ ap (λ (b : Bool). b && is_none form.result)
    (none_left scene form.of c.in-Known.value (parameters_from scene form.of form.first) (c.in-Known.ensures.told made in_hand told))
