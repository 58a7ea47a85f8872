use Rattle.unit_outcome.proofs.Coming.{comes_only, comes_to}
use Rattle.unit_outcome.proofs.outcomes.outcome.Goals as goal

pub merge-requires : goal.merge-requires
merge-requires c =
    let texts = c.args.texts.now in
    let whole = c.requires.whole in
    let fronts = c.gathered_units_are_whole.ensures.fronts texts whole in
    c.outputs_can_be_merged.ensures texts whole.front c.args.outputs.items c.main-main.ensures.unit (c.gathered_units_are_whole.ensures.whole texts whole.front whole fronts) c.requires.outputs

pub returns-clause-outcome : goal.returns-clause-outcome
returns-clause-outcome c =
    comes_to c.merge.result c.args.texts.now c.args.outputs.items c.merging_gives_the_outcome.ensures c.main-main.ensures.unit c.requires.whole c.requires.outputs c.merge.ensures

pub returns-clause-only : goal.returns-clause-only
returns-clause-only c =
    let u = c.args.texts.now in
    comes_only c.merge.result u c.whole_units_have_one_outcome.ensures c.main-main.ensures.unit c.requires.whole
    (comes_to c.merge.result u c.args.outputs.items c.merging_gives_the_outcome.ensures c.main-main.ensures.unit c.requires.whole c.requires.outputs c.merge.ensures)
