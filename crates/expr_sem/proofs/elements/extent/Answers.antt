use Rattle.std.proofs.Common.{◌≡◌}
use Rattle.m2_base.specs.Statics.Types.{size_of as spec_size}
use Rattle.type_rules.specs.Scenes.{scene_of}
use Rattle.type_rules.proofs.Compatibles.{told_later}
use Rattle.type_rules.proofs.Later.{IsThere_read, Suits_read}
use Rattle.type_rules.proofs.Reading.{Reads-trans, Waits_read}
use Rattle.expr_sem.proofs.elements.extent.Goals as goal

pub range_of-requires-clause-suits : goal.range_of-requires-clause-suits
range_of-requires-clause-suits g c = c.requires.suits

pub range_of-requires-clause-there : goal.range_of-requires-clause-there
range_of-requires-clause-there g c = c.requires.index

pub returns-in-DontKnowYet-clause-reads : goal.returns-in-DontKnowYet-clause-reads
returns-in-DontKnowYet-clause-reads g c = c.in-DontKnowYet.ensures.reads

pub returns-in-DontKnowYet-clause-waits : goal.returns-in-DontKnowYet-clause-waits
returns-in-DontKnowYet-clause-waits g c = c.in-DontKnowYet.ensures.waits

pub returns-in-DontKnowYet-clause-ends : goal.returns-in-DontKnowYet-clause-ends
returns-in-DontKnowYet-clause-ends g c made in_hand told = tt

pub returns-in-DontKnowYet-clause-size : goal.returns-in-DontKnowYet-clause-size
returns-in-DontKnowYet-clause-size g c made in_hand told = tt

pub returns-in-DontKnowYet-clause-values : goal.returns-in-DontKnowYet-clause-values
returns-in-DontKnowYet-clause-values g c = tt

pub cells_of-requires-clause-suits : goal.cells_of-requires-clause-suits
cells_of-requires-clause-suits g c = Suits_read c.in-Known.ensures.reads c.requires.suits

pub cells_of-requires-clause-of : goal.cells_of-requires-clause-of
cells_of-requires-clause-of g c = IsThere_read c.in-Known.ensures.reads c.requires.of

pub returns-in-DontKnowYet-cells_of-clause-reads : goal.returns-in-DontKnowYet-cells_of-clause-reads
returns-in-DontKnowYet-cells_of-clause-reads g c = Reads-trans c.in-Known.ensures.reads c.in-DontKnowYet-cells_of.ensures.reads

pub returns-in-DontKnowYet-cells_of-clause-waits : goal.returns-in-DontKnowYet-cells_of-clause-waits
returns-in-DontKnowYet-cells_of-clause-waits g c = Waits_read c.in-Known.ensures.reads c.in-DontKnowYet-cells_of.ensures.waits

pub returns-in-DontKnowYet-cells_of-clause-ends : goal.returns-in-DontKnowYet-cells_of-clause-ends
returns-in-DontKnowYet-cells_of-clause-ends g c made in_hand told = tt

pub returns-in-DontKnowYet-cells_of-clause-size : goal.returns-in-DontKnowYet-cells_of-clause-size
returns-in-DontKnowYet-cells_of-clause-size g c made in_hand told = tt

pub returns-in-DontKnowYet-cells_of-clause-values : goal.returns-in-DontKnowYet-cells_of-clause-values
returns-in-DontKnowYet-cells_of-clause-values g c = tt

pub returns-clause-reads : goal.returns-clause-reads
returns-clause-reads g c = Reads-trans c.in-Known.ensures.reads c.in-Known-cells_of.ensures.reads

pub returns-clause-waits : goal.returns-clause-waits
returns-clause-waits g c = tt

pub returns-clause-ends : goal.returns-clause-ends
returns-clause-ends g c = c.in-Known.ensures.told

pub returns-clause-values : goal.returns-clause-values
returns-clause-values g c = c.in-Known.ensures.values

pub returns-clause-size : goal.returns-clause-size
returns-clause-size g c =
    let f = (g.S.Scopes.state c.args.scopes.now).frame in
    let a = c.args.around.now in
    told_later f _ (λ e rows. c.in-Known-cells_of.value ≡ spec_size (scene_of e rows a) c.args.of) c.in-Known.ensures.reads.keeps.frame c.in-Known-cells_of.ensures.told
