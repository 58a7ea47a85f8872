use Rattle.std.specs.Prelude.{None, option_map}
use Rattle.std.proofs.Common.{◌∙◌, ap, sym}
use Rattle.m2_base.specs.Statics.Lookup.{entry_in}
use Rattle.type_rules.specs.Scenes.{scene_of}
use Rattle.decl_sem.proofs.HiddenNames.{entry_by_layout, hidden_none, hidden_some, own_entry}
use Rattle.decl_sem.proofs.brought.is_hidden.Goals as goal

pub returns-in_default-clause-told : goal.returns-in_default-clause-told
returns-in_default-clause-told g c hand in_hand told same =
    let scene = scene_of (g.S.Scopes.state c.args.scopes.now).frame hand c.args.site.now.around.now in
    hidden_none scene c.args.place (entry_in scene.tables scene.block.scope c.args.name)
    (entry_by_layout c.args.name c.requires.making c.requires.named hand same told ∙ ap (option_map (own_entry scene)) (sym c.in_default.ensures))

pub returns-clause-told : goal.returns-clause-told
returns-clause-told g c hand in_hand told same =
    let scene = scene_of (g.S.Scopes.state c.args.scopes.now).frame hand c.args.site.now.around.now in
    hidden_some scene c.args.place c.in-Known.value c.in-Some.ordinal (entry_in scene.tables scene.block.scope c.args.name) c.differ.result
    (entry_by_layout c.args.name c.requires.making c.requires.named hand same told ∙ ap (option_map (own_entry scene)) (sym c.in-Some.ensures))
    (c.in-Known.ensures.told hand in_hand told same) c.differ.ensures
