use Rattle.m2_parse.proofs.FrontLaws.{one_front}
use Rattle.m2_parse.proofs.laws.text_has_one_front.Goals as goal

pub returns : goal.returns
returns c = one_front
