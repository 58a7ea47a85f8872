use Rattle.std.proofs.Common.{sym, subst, ◌≡◌, ◌≢◌, ◌<◌, ◌^◌, ℕ, to_z, of_z, w32}
use Rattle.std.specs.Prelude.{ℤ, pos, ◌+ℤ◌}
use Rattle.std.proofs.lemmas.Int.{to_z-of_z}
use Rattle.stack_machine.proofs.Placing.{nowhere}
use Rattle.stack_machine.proofs.decoding.landing.Goals as goal

pub returns-in-None-clause-is : goal.returns-in-None-clause-is
returns-in-None-clause-is c =
    let back : to_z w32 (of_z w32 c.args.distance) ≡ c.args.distance = to_z-of_z w32 c.args.distance c.ranges.distance in
    sym (nowhere c.args.all.now (pos c.args.end +ℤ c.args.distance) (subst (λ (z : ℤ). (n : ℕ) → n < 2 ^ 64 → pos c.args.end +ℤ z ≢ pos n) back c.in-None.ensures.none))
