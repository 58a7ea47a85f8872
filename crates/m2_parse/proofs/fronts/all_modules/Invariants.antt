use Rattle.std.proofs.Common.{◌≡◌, ◌-◌, ◌++◌, length}
use Rattle.m2_parse.specs.Fronts.{modules_at}
use Rattle.m2_parse.proofs.fronts.all_modules.Given as goal

abbrev pub invariant-loop : goal.invariant-loop
invariant-loop l = l.items.items ++ modules_at (l.end - l.counter) l.tokens.list.now ≡ modules_at (length l.fn.tokens.list.now) l.fn.tokens.list.now
