use Rattle.std.proofs.Common.{◌≡◌, drop}
use Rattle.m2_parse.specs.Fitting.{names_fit}
use Rattle.m2_parse.proofs.fitting.names_fit.Given as goal

abbrev pub invariant-loop-token : goal.invariant-loop-token
invariant-loop-token l = names_fit l.tokens ≡ names_fit (drop l.token-index l.tokens)
