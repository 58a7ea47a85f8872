use Rattle.std.proofs.Common.{◌≡◌, [], fold, map, take}
use Rattle.definition_keys.specs.Keys.{with_name}
use Rattle.definition_keys.proofs.keys.firsts.Given as goal

abbrev pub invariant-loop-one : goal.invariant-loop-one
invariant-loop-one l = l.modules.keys ≡ fold with_name [] (map (λ i. i.name) (take l.one-index l.named))
