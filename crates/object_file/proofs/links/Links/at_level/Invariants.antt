use Rattle.std.proofs.Common.{ℕ, ◌≡◌, ◌≤◌, ◌-◌, get_or, Some}
use Rattle.code_form.specs.Valid.{linked as spec_linked}
use Rattle.object_file.specs.Views.{world_in}
use Rattle.object_file.proofs.links.Links.at_level.Given as goal

abbrev pub invariant-loop-from : goal.invariant-loop-from
invariant-loop-from l =
    let level_of : ℕ → ℕ = λ k. get_or l.self.levels.items k 0 in
    record {
      within : l.level ≤ level_of l.from;
      below : level_of l.from ≤ level_of l.k;
      leads : spec_linked (world_in l.parts) (level_of l.k - level_of l.from) l.k ≡ Some l.from;
    }

abbrev pub decreases-loop-from : goal.decreases-loop-from
decreases-loop-from l = get_or l.self.levels.items l.from 0
