use Rattle.std.proofs.Common.{◌≡◌, ◌+◌, ℕ, List, IfOk, ap, ◌∙◌, sym, subst}
use Rattle.code_form.specs.Modules.{Procedure}
use Rattle.object_file.specs.Contents.{Contents}
use Rattle.object_file.specs.Views.{procedure_of}
use Rattle.stack_machine.specs.Loading.{data_in}
use Rattle.stack_machine.specs.Sites.{at_object}
use Rattle.stack_machine.proofs.Growing.{ok_map, few_of, sound_of, object_is, same_object}
use Rattle.stack_machine.proofs.loading.add_object.Goals as goal

pub add_procedures-requires-clause-few : goal.add_procedures-requires-clause-few
add_procedures-requires-clause-few c =
    let os = c.args.scene.now.objects.now in
    let e = object_is os c.args.m c.index-scene-m.result c.requires.within c.index-scene-m.is in
    few_of os c.args.m c.procedures.result.now c.requires.program c.requires.within (c.procedures.ensures ∙ ap (λ (o : Contents). o.procedures) (sym c.index-scene-m.is ∙ e))

pub add_procedures-requires-clause-sound : goal.add_procedures-requires-clause-sound
add_procedures-requires-clause-sound c =
    let os = c.args.scene.now.objects.now in
    let e = object_is os c.args.m c.index-scene-m.result c.requires.within c.index-scene-m.is in
    sound_of os c.args.m c.procedures.result.now c.requires.program c.requires.within (c.procedures.ensures ∙ ap (λ (o : Contents). o.procedures) (sym c.index-scene-m.is ∙ e))

pub returns-clause-grows : goal.returns-clause-grows
returns-clause-grows c =
    let os = c.args.scene.now.objects.now in
    let e = object_is os c.args.m c.index-scene-m.result c.requires.within c.index-scene-m.is in
    ok_map c.add_procedures.result c.add_procedures.ensures.grows
    (λ g. same_object os c.args.m c.args.text _ (at_object os c.args.m) _ c.args.listing.now c.add_procedures.new.listing (sym c.index-scene-m.is ∙ e) (c.procedures.ensures ∙ ap (λ (o : Contents). o.procedures) (sym c.index-scene-m.is ∙ e)) g)

pub returns-clause-text : goal.returns-clause-text
returns-clause-text c =
    let os = c.args.scene.now.objects.now in
    let e = object_is os c.args.m c.index-scene-m.result c.requires.within c.index-scene-m.is in
    subst (λ (ps : List Procedure). IfOk c.add_procedures.result (λ t. t ≡ c.args.text + data_in ps)) (c.procedures.ensures ∙ ap (λ (o : Contents). o.procedures) (sym c.index-scene-m.is ∙ e)) c.add_procedures.ensures.text
