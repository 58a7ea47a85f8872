use Rattle.std.proofs.Common.{◌≡◌, ◌∙◌, ◌++◌, ◌∷◌, [], List, ap, subst, sym}
use Rattle.m2_base.specs.Lists.{Each}
use Rattle.stmt_sem.specs.FlowTrees.{IsOver}
use Rattle.stmt_sem.specs.declared.flows.Flow.{Flow}
use Rattle.stmt_sem.proofs.FlowsMade.{made_as, two_flows}
use Rattle.stmt_sem.proofs.flow_parts.behind.Goals as goal

pub returns : goal.returns
returns c ns first second =
    let x = c.args.first in
    let y = c.args.second in
    let both : c.push-2.new.self.items ≡ x ∷ y ∷ [] = c.in_ok-push-2.ensures.items ∙ ap (λ (l : List Flow). l ++ y ∷ []) (c.in_ok-push.ensures.items ∙ ap (λ (l : List Flow). l ++ x ∷ []) c.new-both.ensures.items) in
    made_as ns c.block.result (c.block.ensures ns (subst (λ (l : List Flow). Each (IsOver ns) l) (sym both) (first, (second, tt)))) (λ t. two_flows ns x y c.push-2.new.self.items t both)
