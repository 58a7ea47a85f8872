use Rattle.std.proofs.Common.{◌≡◌, take, true}
use Rattle.m2_parse.specs.Fitting.{names_fit}
use Rattle.definition_keys.specs.KeyBytes.{text_bytes}
use Rattle.definition_keys.proofs.bytes.text_bytes_of.Given as goal

abbrev pub invariant-loop-token : goal.invariant-loop-token
invariant-loop-token l = record {
  told : l.bytes.items ≡ text_bytes l.names (take l.token-index l.tokens);
  fits : names_fit (take l.token-index l.tokens) ≡ true;
}
