use Rattle.std.proofs.Common.{◌∙◌, ap}
use Rattle.m2_base.specs.Statics.Types.{kind_of, stands_for}
use Rattle.type_rules.specs.Scenes.{scene_of}
use Rattle.const_eval.specs.Structures.{base_by}
use Rattle.const_eval.proofs.SetRows.{set_base_is}
use Rattle.const_eval.proofs.TypesThere.{standard_there}
use Rattle.const_eval.proofs.sets.set_base.Goals as goal

pub returns-in-Some-clause-told : goal.returns-in-Some-clause-told
returns-in-Some-clause-told g c made in_hand told =
    let scene = scene_of (g.S.Scopes.state c.args.scopes.now).frame made c.args.site.now.around.now in
    ap base_by ((rw c.in-Some.is at c.in-Known.ensures.told) made in_hand told) ∙ set_base_is (stands_for scene c.args.of) (kind_of scene c.args.of)

pub returns-in-None-clause-told : goal.returns-in-None-clause-told
returns-in-None-clause-told g c made in_hand told =
    let scene = scene_of (g.S.Scopes.state c.args.scopes.now).frame made c.args.site.now.around.now in
    ap base_by ((rw c.in-None.is at c.in-Known.ensures.told) made in_hand told) ∙ set_base_is (stands_for scene c.args.of) (kind_of scene c.args.of)

pub returns-in-DontKnowYet-clause-reads : goal.returns-in-DontKnowYet-clause-reads
returns-in-DontKnowYet-clause-reads g c = c.in-DontKnowYet.ensures.reads

pub returns-in-DontKnowYet-clause-waits : goal.returns-in-DontKnowYet-clause-waits
returns-in-DontKnowYet-clause-waits g c = c.in-DontKnowYet.ensures.waits

pub returns-in-DontKnowYet-clause-told : goal.returns-in-DontKnowYet-clause-told
returns-in-DontKnowYet-clause-told g c made in_hand told = tt

pub returns-in-DontKnowYet-clause-there : goal.returns-in-DontKnowYet-clause-there
returns-in-DontKnowYet-clause-there g c = tt

pub returns-in-None-clause-reads : goal.returns-in-None-clause-reads
returns-in-None-clause-reads g c = c.in-Known.ensures.reads

pub returns-in-None-clause-waits : goal.returns-in-None-clause-waits
returns-in-None-clause-waits g c = tt

pub returns-in-None-clause-stops : goal.returns-in-None-clause-stops
returns-in-None-clause-stops g c = tt

pub returns-in-Some-clause-reads : goal.returns-in-Some-clause-reads
returns-in-Some-clause-reads g c = c.in-Known.ensures.reads

pub returns-in-Some-clause-waits : goal.returns-in-Some-clause-waits
returns-in-Some-clause-waits g c = tt

pub returns-in-Some-clause-stops : goal.returns-in-Some-clause-stops
returns-in-Some-clause-stops g c = tt

pub returns-in-DontKnowYet-clause-stops : goal.returns-in-DontKnowYet-clause-stops
returns-in-DontKnowYet-clause-stops g c = c.in-DontKnowYet.ensures.stops

pub returns-in-None-clause-there : goal.returns-in-None-clause-there
returns-in-None-clause-there g c = standard_there c.requires.suits.around 10

pub returns-in-Some-clause-there : goal.returns-in-Some-clause-there
returns-in-Some-clause-there g c = (rw c.in-Some.is at c.in-Known.ensures.there).1

pub set_row-requires : goal.set_row-requires
set_row-requires g c = record { suits = c.requires.suits.around; there = c.requires.of }
