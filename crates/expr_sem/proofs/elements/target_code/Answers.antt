use Rattle.expr_sem.proofs.Sequencing.{joined_same, made_after, part_later}
use Rattle.expr_sem.proofs.elements.target_code.Goals as goal

pub returns : goal.returns
returns c =
    let loaded = c.in_ok-loaded.ensures in
    made_after c.then.result loaded.grows c.then.ensures.made (joined_same (part_later loaded.grows c.args.code c.requires.there) loaded.made.part_is)
