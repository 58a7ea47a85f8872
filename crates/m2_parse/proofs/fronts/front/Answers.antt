use Rattle.m2_parse.proofs.FrontLaws.{returns_front}
use Rattle.m2_parse.proofs.LeadingLaws.{returns_front_of}
use Rattle.m2_parse.proofs.fronts.front.Goals as goal

pub returns : goal.returns
returns c =
    returns_front_of c.args.definition c.args.tokens.now c.read_front.result
    (rw (c.leading.ensures.leads) at (returns_front c.args.definition c.leading.result.now c.read_front.result c.read_front.ensures))
