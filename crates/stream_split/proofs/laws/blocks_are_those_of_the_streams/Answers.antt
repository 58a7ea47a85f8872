use Rattle.stream_split.proofs.BlocksAgree.{blocks_agree}
use Rattle.stream_split.proofs.ReadUnits.{trees_read}
use Rattle.stream_split.proofs.laws.blocks_are_those_of_the_streams.Goals as goal

pub returns : goal.returns
returns c = record { blocks = λ t u h. (blocks_agree t u h).blocks; trees = λ t u h. (blocks_agree t u h).same_trees; read = trees_read }
