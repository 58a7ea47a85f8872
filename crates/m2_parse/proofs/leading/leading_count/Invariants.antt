use Rattle.std.proofs.Common.{◌≡◌, ◌+◌, drop}
use Rattle.m2_parse.specs.Leading.{leading_count}
use Rattle.m2_parse.proofs.leading.leading_count.Given as goal

abbrev pub invariant-loop-token : goal.invariant-loop-token
invariant-loop-token l = (l.count + leading_count (drop l.token-index l.tokens) ≡ leading_count l.tokens) × (l.count ≡ l.token-index)
