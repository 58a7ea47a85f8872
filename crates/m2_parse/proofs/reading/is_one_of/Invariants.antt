use Rattle.std.proofs.Common.{◌≡◌, map, drop}
use Rattle.m2_base.specs.KindNumbers.{kind_number}
use Rattle.ll_grammar.specs.LookAhead.{member}
use Rattle.m2_parse.proofs.reading.is_one_of.Given as goal

abbrev pub invariant-loop-other : goal.invariant-loop-other
invariant-loop-other l =
    member (kind_number l.kind) (map kind_number l.kinds) ≡ member (kind_number l.kind) (map kind_number (drop l.other-index l.kinds))
