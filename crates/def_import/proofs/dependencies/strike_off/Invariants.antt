use Rattle.std.proofs.Common.{vec_len}
use Rattle.def_import.specs.Dependencies.{IsStruck}
use Rattle.def_import.proofs.dependencies.strike_off.Given as goal

abbrev pub invariant-loop-text : goal.invariant-loop-text
invariant-loop-text l = IsStruck l.taken l.initial.needs.items l.needs.items

abbrev pub decreases-loop-text : goal.decreases-loop-text
decreases-loop-text l = vec_len l.needs
