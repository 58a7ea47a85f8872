-- the texts so far have their numbers
use Rattle.std.proofs.Common.{map, take}
use Rattle.m2_base.specs.Names.{AreNumbersOf}
use Rattle.m2_base.proofs.names.numbers_of.Given as goal

abbrev pub invariant-loop-number : goal.invariant-loop-number
invariant-loop-number l = AreNumbersOf (λ text. text.items) l.numbers (map (λ text. text.items) (take l.number l.texts))
