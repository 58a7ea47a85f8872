use Rattle.std.proofs.Common.{◌≡◌, ◌++◌, take, map}
use Rattle.stack_machine.specs.Sites.{spot_of}
use Rattle.stack_machine.proofs.loading.push_origins.Given as goal

abbrev pub invariant-loop-placed : goal.invariant-loop-placed
invariant-loop-placed l = l.origins.items ≡ l.fn.origins.items ++ map (λ s. record { «module» = l.m; procedure = l.procedure; offset = s.at }) (map spot_of (take l.placed-index l.all))
