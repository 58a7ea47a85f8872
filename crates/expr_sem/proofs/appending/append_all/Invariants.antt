use Rattle.std.proofs.Common.{◌≡◌}
use Rattle.m2_base.specs.Lists.{Each}
use Rattle.expr_sem.specs.Fragments.{IsIn, part}
use Rattle.expr_sem.specs.Pieces.{Begins}
use Rattle.expr_sem.specs.Stacks.{ends_as, remaining, stack_weight}
use Rattle.expr_sem.proofs.appending.append_all.Given as goal

abbrev pub invariant-loop-next : goal.invariant-loop-next
invariant-loop-next l = record {
  begins : Begins l.fn.piece l.piece;
  there : Each (λ f. IsIn l.fragments.nodes.items f) l.rest.items;
  same : ends_as l.piece l.withs (remaining l.fragments.nodes.items l.rest.items) ≡ ends_as l.fn.piece l.withs (part l.fragments.nodes.items l.fn.fragment);
}

abbrev pub decreases-loop-next : goal.decreases-loop-next
decreases-loop-next l = stack_weight l.rest.items
