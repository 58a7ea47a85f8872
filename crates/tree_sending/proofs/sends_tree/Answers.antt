use denote.Param.Send.{sendable}
use Rattle.tree_sending.proofs.Crossing.{tree-send}
use Rattle.tree_sending.proofs.sends_tree.Goals as goal

pub sent-requires-send-T : goal.sent-requires-send-T
sent-requires-send-T c κs = search (sendable, tree-send)
