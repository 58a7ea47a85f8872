use Rattle.std.proofs.Common.{◌≡◌, drop}
use Rattle.definition_keys.specs.Keys.{key_in}
use Rattle.definition_keys.proofs.keys.push_key.Given as goal

abbrev pub invariant-loop-key : goal.invariant-loop-key
invariant-loop-key l = record {
  same : l.message.items ≡ l.initial.message.items;
  rest : key_in (drop l.key-index l.keys) l.name ≡ key_in l.keys l.name;
}
