use Rattle.std.proofs.Common.{◌≡◌, ◌==◌, drop}
use Rattle.std.specs.Prelude.{find}
use Rattle.m2_base.specs.Diagnostics.{code_of}
use Rattle.m2_base.proofs.diagnostic.find.Given as goal

abbrev pub invariant-loop-diagnostic : goal.invariant-loop-diagnostic
invariant-loop-diagnostic l = find (λ d. code_of d == l.code) l.diagnostics ≡ find (λ d. code_of d == l.code) (drop l.diagnostic-index l.diagnostics)
