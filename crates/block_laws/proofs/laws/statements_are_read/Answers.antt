use Rattle.m2_base.proofs.ReadTrees.{statements_are_read}
use Rattle.block_laws.proofs.laws.statements_are_read.Goals as goal

pub returns : goal.returns
returns c = statements_are_read
