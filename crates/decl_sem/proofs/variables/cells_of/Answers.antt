use Rattle.std.specs.Prelude.{◌-◌}
use Rattle.std.proofs.Common.{◌∙◌}
use Rattle.decl_sem.proofs.SizesInHand.{numbers_in_hand, size_entered, size_found, there_before}
use Rattle.decl_sem.proofs.variables.cells_of.Goals as goal

pub cells_in-requires : goal.cells_in-requires
cells_in-requires g c = numbers_in_hand (c.args.of.ordinal - c.args.made.now.first) c.in-Some.row c.requires.making c.in-Some.ensures.found.1

pub size_of-requires-clause-there : goal.size_of-requires-clause-there
size_of-requires-clause-there g c = there_before c.args.of c.requires.making c.requires.of (c.row_in_hand.ensures.before c.in-None.is)

pub returns-in-Some-clause-told : goal.returns-in-Some-clause-told
returns-in-Some-clause-told g c hand in_hand told same more types =
    c.cells_in.ensures.is ∙ size_found c.args.of c.in-Some.row c.requires.making c.in-Some.ensures.own c.in-Some.ensures.found.0 c.in-Some.ensures.found.1 hand in_hand told same more types

pub returns-in-None-clause-told : goal.returns-in-None-clause-told
returns-in-None-clause-told g c = size_entered c.args.of c.size_of.result c.requires.making c.size_of.ensures.told
