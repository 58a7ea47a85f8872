use Rattle.std.proofs.Common.{◌≡◌, drop}
use Rattle.m2_base.specs.Units.{Front, TextOf}
use Rattle.stream_split.specs.Fronts.{AreFronts}
use Rattle.definition_keys.specs.Keys.{keys_from, ordered_texts, unit_keys}
use Rattle.definition_keys.proofs.keys.unit_keys.Given as goal

abbrev pub invariant-loop-k : goal.invariant-loop-k
invariant-loop-k l = (front : TextOf → Front) → AreFronts front l.texts → keys_from l.texts.names front l.keys.items (drop l.k-index (ordered_texts l.texts)) ≡ unit_keys front l.texts
