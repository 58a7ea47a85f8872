use Rattle.std.proofs.Common.{◌∙◌, ap, sym}
use Rattle.m2_base.specs.Statics.Types.{kind_of, stands_for}
use Rattle.type_rules.specs.Scenes.{scene_of}
use Rattle.const_eval.specs.Structures.{set_row_by}
use Rattle.const_eval.proofs.structures.set_row.Goals as goal

pub returns-in-DontKnowYet-clause-reads : goal.returns-in-DontKnowYet-clause-reads
returns-in-DontKnowYet-clause-reads g c = c.in-DontKnowYet.ensures.reads

pub returns-in-DontKnowYet-clause-waits : goal.returns-in-DontKnowYet-clause-waits
returns-in-DontKnowYet-clause-waits g c = c.in-DontKnowYet.ensures.waits

pub returns-in-DontKnowYet-clause-told : goal.returns-in-DontKnowYet-clause-told
returns-in-DontKnowYet-clause-told g c made in_hand told = tt

pub returns-in-DontKnowYet-clause-there : goal.returns-in-DontKnowYet-clause-there
returns-in-DontKnowYet-clause-there g c = tt

pub returns-in_default-Set-clause-reads : goal.returns-in_default-Set-clause-reads
returns-in_default-Set-clause-reads g c = c.in-Known.ensures.reads

pub returns-in_default-Set-clause-waits : goal.returns-in_default-Set-clause-waits
returns-in_default-Set-clause-waits g c = tt

pub returns-in_default-Set-clause-stops : goal.returns-in_default-Set-clause-stops
returns-in_default-Set-clause-stops g c = tt

pub returns-in-DontKnowYet-clause-stops : goal.returns-in-DontKnowYet-clause-stops
returns-in-DontKnowYet-clause-stops g c = c.in-DontKnowYet.ensures.stops

pub stand-requires : goal.stand-requires
stand-requires g c = record { suits = c.requires.suits; there = c.requires.there }

pub returns-in_default-Set-clause-told : goal.returns-in_default-Set-clause-told
returns-in_default-Set-clause-told g c made in_hand told =
    let scene = scene_of (g.S.Scopes.state c.args.scopes.now).frame made c.args.around.now in
    ap (set_row_by c.in-Known.value.0) (sym c.in_default-Set.is-1) ∙ ap (λ p. set_row_by p c.in-Known.value.1) (c.in-Known.ensures.told made in_hand told)
    ∙ ap (set_row_by (stands_for scene c.args.of)) (c.in-Known.ensures.kind made in_hand told)
