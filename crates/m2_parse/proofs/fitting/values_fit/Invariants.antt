use Rattle.std.proofs.Common.{◌≡◌, drop}
use Rattle.m2_parse.specs.Fitting.{all_fit}
use Rattle.m2_parse.proofs.fitting.values_fit.Given as goal

abbrev pub invariant-loop-token : goal.invariant-loop-token
invariant-loop-token l = all_fit l.tokens ≡ all_fit (drop l.token-index l.tokens)
