use Rattle.std.proofs.Common.{◌≡◌, ◌++◌, take}
use Rattle.std.specs.List.{flat_map}
use Rattle.definition_keys.specs.Keys.{key_in}
use Rattle.definition_keys.proofs.keys.push_keys.Given as goal

abbrev pub invariant-loop-name : goal.invariant-loop-name
invariant-loop-name l = l.message.items ≡ l.initial.message.items ++ flat_map (key_in l.keys) (take l.name-index l.modules)
