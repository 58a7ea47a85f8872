use Rattle.std.proofs.Common.{[], ◌+◌, ◌*◌, Ok, take}
use denote.Param.Weighed.{most}
use Rattle.m2_base.specs.Views.{case_arm_view, if_arm_view, statement_view}
use Rattle.m2_base.specs.declared.replies.Ask.TheVariants.{Known}
use Rattle.m2_base.specs.declared.trees.statements.CaseArm.{size-CaseArm}
use Rattle.m2_base.specs.declared.trees.statements.IfArm.{size-IfArm}
use Rattle.m2_base.specs.declared.trees.statements.Statement.{size-Statement}
use Rattle.const_eval.proofs.Folding.{folded}
use Rattle.stmt_sem.specs.Stands.{stand_in}
use Rattle.stmt_sem.specs.Stated.{AreArms, AreFlows, arms_in, block_in}
use Rattle.block_code.specs.Statements.{arm_flow, case_flow, statement_flow}
use Rattle.stmt_sem.specs.Walkers.{Keeps, Walks}
use Rattle.stmt_sem.proofs.CaseLists.{AreSoFar, so_far_in}
use Rattle.stmt_sem.proofs.Flowed.{step}
use Rattle.stmt_sem.proofs.StatementFolds.{behind_arm, behind_case, behind_flow}
use Rattle.stmt_sem.proofs.StatementReads.{greater, rest_size}
use Rattle.stmt_sem.proofs.walker.Walker.+statements.Given as goal

abbrev pub decreases-statement : goal.decreases-statement
decreases-statement g l = 8 * size-Statement l.of.now

abbrev pub decreases-statements : goal.decreases-statements
decreases-statements g l = 8 * most size-Statement l.body.now + 2

abbrev pub decreases-otherwise : goal.decreases-otherwise
decreases-otherwise g l = 8 * most size-Statement l.body.now + 3

abbrev pub decreases-if_arms_made : goal.decreases-if_arms_made
decreases-if_arms_made g l = 8 * most size-IfArm l.arms.now + 1

abbrev pub decreases-if_statement : goal.decreases-if_statement
decreases-if_statement g l = 8 * greater (most size-IfArm l.arms.now) (most size-Statement l.other.now) + 4

abbrev pub decreases-loop_statement : goal.decreases-loop_statement
decreases-loop_statement g l = 8 * most size-Statement l.body.now + 3

abbrev pub decreases-case_arm : goal.decreases-case_arm
decreases-case_arm g l = 8 * size-CaseArm l.arm.now

abbrev pub decreases-case_arms_made : goal.decreases-case_arms_made
decreases-case_arms_made g l = 8 * most size-CaseArm l.arms.now + 1

abbrev pub decreases-case_else : goal.decreases-case_else
decreases-case_else g l = 8 * rest_size l.other.now + 3

abbrev pub decreases-case_statement : goal.decreases-case_statement
decreases-case_statement g l = 8 * greater (most size-CaseArm l.arms.now) (rest_size l.other.now) + 5

abbrev pub decreases-while_statement : goal.decreases-while_statement
decreases-while_statement g l = 8 * most size-Statement l.body.now + 3

abbrev pub decreases-repeat_statement : goal.decreases-repeat_statement
decreases-repeat_statement g l = 8 * most size-Statement l.body.now + 3

abbrev pub decreases-for_statement : goal.decreases-for_statement
decreases-for_statement g l = 8 * most size-Statement l.body.now + 3

abbrev pub decreases-in_record : goal.decreases-in_record
decreases-in_record g l = 8 * most size-Statement l.body.now + 3

abbrev pub decreases-with_statement : goal.decreases-with_statement
decreases-with_statement g l = 8 * most size-Statement l.body.now + 5

-- what the items so far give
abbrev pub invariant-statements-loop-of : goal.invariant-statements-loop-of
invariant-statements-loop-of g l =
    Keeps l.fn.self l.self
    × Walks g.S.Scopes.state l.fn.self l.self l.stand (Ok (Known l.made)) AreFlows block_in
    (λ s. folded (step (λ k o i. statement_flow (stand_in k l.stand) (statement_view i)) behind_flow s.context) (λ rest. rest) (take l.of-index l.body))

abbrev pub invariant-if_arms_made-loop-arm : goal.invariant-if_arms_made-loop-arm
invariant-if_arms_made-loop-arm g l =
    Keeps l.fn.self l.self
    × Walks g.S.Scopes.state l.fn.self l.self l.stand (Ok (Known l.made)) AreArms arms_in
    (λ s. folded (step (λ k o i. arm_flow (stand_in k l.stand) (if_arm_view i)) behind_arm s.context) (λ other. other) (take l.arm-index l.arms))

abbrev pub invariant-case_arms_made-loop-arm : goal.invariant-case_arms_made-loop-arm
invariant-case_arms_made-loop-arm g l =
    Keeps l.fn.self l.self
    × Walks g.S.Scopes.state l.fn.self l.self l.stand (Ok (Known (l.made, l.covered))) AreSoFar so_far_in
    (λ s. folded (step (λ k o i. case_flow (stand_in k l.stand) l.of o.covered (case_arm_view i)) behind_case s.context) (record { flow = λ t other. other; covered = [] }) (take l.arm-index l.arms))
