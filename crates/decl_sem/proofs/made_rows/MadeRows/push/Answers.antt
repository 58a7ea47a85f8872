use Rattle.decl_sem.proofs.MadeFields.{index_more}
use Rattle.decl_sem.proofs.made_rows.MadeRows.push.Goals as goal

pub invariant_of-self-in-Ok : goal.invariant_of-self-in-Ok
invariant_of-self-in-Ok c own name =
    index_more c.self.inside.list.items c.args.row own name _ _ (c.in-Ok.ensures.updates.0 (own, name)) (c.self.invariant own name) (c.requires own name) c.in-Some.is c.in_ok-push.ensures.items
