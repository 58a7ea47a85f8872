use Rattle.std.proofs.Common.{ap, subst, sym}
use Rattle.stmt_sem.specs.FlowTrees.{IsTurnsOver, Measures, turns_in}
use Rattle.stmt_sem.specs.declared.flows.Turns.{Turns}
use Rattle.stmt_sem.proofs.flows.Flow.counted.Goals as goal

pub returns : goal.returns
returns c =
    let ns = c.args.fragments.now.nodes.items in
    let same = c.in_ok-turns.ensures.ok in
    record {
      there = (subst (λ (y : Turns). IsTurnsOver ns y) (sym same) c.requires.turns, subst (λ (y : Turns). Measures (turns_in ns y) c.in_ok-size.size) (sym same) c.in_ok-size.ensures);
      flow_is = λ t. ap (λ (y : Turns). turns_in ns y t) same;
    }
