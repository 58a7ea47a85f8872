use Rattle.m2_base.proofs.TypeLaws.{range-whole}
use Rattle.m2_base.proofs.static_laws.ranges_are_whole.Goals as goal

pub returns : goal.returns
returns c = range-whole
