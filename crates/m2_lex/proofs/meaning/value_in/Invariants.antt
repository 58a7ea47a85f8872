use Rattle.std.proofs.Common.{◌≤◌, ◌≡◌, take}
use Rattle.m2_base.specs.Meanings.{value_in}
use Rattle.m2_lex.proofs.meaning.value_in.Given as goal

abbrev pub invariant-loop-digit : goal.invariant-loop-digit
invariant-loop-digit l = (l.value ≡ value_in l.base (take l.digit-index l.digits)) × (l.value ≤ 4294967295)
