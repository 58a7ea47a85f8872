use denote.Param.Send.{sendable}
use Rattle.tree_sending.proofs.Crossing.{tree-sync}
use Rattle.tree_sending.proofs.shares_tree.Goals as goal

pub shared-requires-sync-T : goal.shared-requires-sync-T
shared-requires-sync-T c κs = search (sendable, tree-sync)
