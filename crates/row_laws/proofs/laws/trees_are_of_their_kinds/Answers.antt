use Rattle.row_laws.proofs.TreesOf.{tree_of_kind}
use Rattle.row_laws.proofs.laws.trees_are_of_their_kinds.Goals as goal

pub returns : goal.returns
returns c = tree_of_kind
