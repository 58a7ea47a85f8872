use Rattle.stmt_sem.proofs.FlowsMade.{made_as, then_both}
use Rattle.stmt_sem.proofs.flow_parts.for_made.Goals as goal

pub returns : goal.returns
returns c =
    let ns = c.args.fragments.now.nodes.items in
    let begun = c.in_ok-start.ensures in
    let counted = c.in_ok-counted.ensures in
    made_as ns c.behind.result (c.behind.ensures ns begun.there counted.there) (λ t. then_both (begun.flow_is t) (counted.flow_is t))
