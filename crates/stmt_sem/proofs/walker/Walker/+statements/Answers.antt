use Rattle.std.proofs.Common.{◌∙◌, ◌≡◌, ◌++◌, ◌∷◌, [], ℕ, ℤ, List, None, Ok, Err, Option, Some, ap, map, of_z, refl, rules, subst, sym, to_z, w64}
use Rattle.std.proofs.Math.Path.{fun_ext}
use Rattle.std.specs.Prelude.{option_map}
use Rattle.std.specs.declared.alloc.Global.{Global}
use Rattle.std.specs.declared.vec.Vec.{Vec}
use denote.Param.Weighed.{most}
use Rattle.m2_base.specs.Gives.{Gives, and_then, gives}
use Rattle.m2_base.specs.Statics.CaseLabels.{labels_of}
use Rattle.m2_base.specs.Statics.Contexts.{Context}
use Rattle.m2_base.specs.Statics.Operands.{operand_type}
use Rattle.m2_base.specs.Trees.{Expr, case_arms, expr_at, if_arms, labels, statements}
use Rattle.m2_base.specs.Views.{case_arm_view, case_else_seen, designator_view, expr_view, if_arm_view, label_view, statement_view, stmt_form_view}
use Rattle.m2_base.specs.declared.replies.Ask.TheVariants.{DontKnowYet, Known}
use Rattle.m2_base.specs.declared.rows.Place.{Place}
use Rattle.m2_base.specs.declared.trees.statements.CaseArm.{CaseArm, out-CaseArm, size-CaseArm}
use Rattle.m2_base.specs.declared.trees.statements.IfArm.{out-IfArm, size-IfArm}
use Rattle.m2_base.specs.declared.trees.statements.Statement.{Statement, size-Statement}
use Rattle.m2_base.proofs.Seen.{assign_seen, case_arm_seen, case_seen, empty_seen, exit_seen, for_seen, if_arm_seen, if_seen, invoke_seen, loop_seen, repeat_seen, return_seen, while_seen, with_seen}
use Rattle.m2_base.proofs.Kept.{Works-trans}
use Rattle.const_eval.proofs.Folding.{folded}
use Rattle.const_eval.proofs.Sizes.{item_small}
use Rattle.const_eval.proofs.TypesThere.{type_there}
use Rattle.block_code.specs.Coded as coded
use Rattle.expr_sem.specs.Codings.{coded_in, with_types}
use Rattle.block_code.specs.Expressions.{value}
use Rattle.expr_sem.specs.Fragments.{part}
use Rattle.stmt_sem.specs.Flowings.{IsFlow}
use Rattle.stmt_sem.specs.FlowTrees.{IsOver, flow_in}
use Rattle.stmt_sem.specs.declared.flows.Flow.{Flow}
use Rattle.block_code.specs.Counting.{bound_value, control_variable, or_one}
use Rattle.block_code.specs.Flows as flow
use Rattle.block_code.specs.Flows.{for_ever, in_with, nothing, until_true, while_true, with_cell}
use Rattle.stmt_sem.specs.Stands.{stand_in}
use Rattle.stmt_sem.specs.Stated.{AreArms, AreFlows, IsArm, IsOther, arm_in, arms_in, block_in, other_in}
use Rattle.stmt_sem.specs.StatementParts.{case_of, otherwise, record_of, selector, statements_onto, stored_before, with_body}
use Rattle.block_code.specs.Statements.{Arm, arm_before, arm_flow, arm_of, arms_flow, by_of, case_flow, cases_flow, else_flow, else_of, flow_of, flow_or_nothing, for_flow, in_loop, statement_flow, test}
use Rattle.stmt_sem.specs.Walkers.{Walks}
use Rattle.stmt_sem.specs.declared.flows.Arm.{Arm as ArmMade}
use Rattle.stmt_sem.specs.declared.flows.Code.TheVariants.{Fixed, Labels}
use Rattle.stmt_sem.proofs.CaseLists.{AreSoFar, arm_given, cases_more, none_so_far, of_labels, so_far_in}
use Rattle.expr_sem.proofs.Operating.{coded_later as coded_kept, stays_coded}
use Rattle.expr_sem.proofs.Sequencing.{Grows-refl, Grows-trans, in_later}
use Rattle.stmt_sem.proofs.FlowLists.{arms_kept, arms_more, arms_there, block_more, block_onto, block_there}
use Rattle.stmt_sem.proofs.Flowed.{by_answer, described, flowing_after, made_after, made_after_both, of_coding, one_more, sound_after, stand_after, stands_after, step, suits_after, unknown, unknown_after, unmade, unmade_after, value_after, value_after_both, value_alone, whole}
use Rattle.stmt_sem.proofs.FlowsBehind.{full_behind, stands_for, unknown_behind, unmade_behind}
use Rattle.stmt_sem.proofs.FlowsLater.{over_later}
use Rattle.stmt_sem.proofs.StatementFolds.{arms_folded, behind_arm, behind_case, behind_flow, cases_folded, onto_folded, statements_given}
use Rattle.stmt_sem.proofs.StatementGiven.{arm_same, bad_with, case_given, case_same, choice_same, for_given, good_with, if_given, no_else, some_else, statement_given, until_same, while_same, with_given, with_same}
use Rattle.stmt_sem.proofs.StatementReads.{case_arm_read, case_arm_smaller, case_smaller, else_smaller, first_lower, for_smaller, form_read, if_arm_read, if_arm_smaller, if_smaller, item_lower, item_part_lower, loop_smaller, lower, part_lower, parts_lower, read_case_arm, read_if_arm, read_statement, repeat_smaller, rest_size, rest_smaller, same_lower, second_lower, while_smaller, with_smaller}
use Rattle.stmt_sem.proofs.Walked.{full_by, full_by_both, more_open, no_arms_in, no_arms_there, none_in, none_there, there_after, wanted_first}
use Rattle.stmt_sem.proofs.Walkers.{Keeps-refl, Keeps-trans}
use Rattle.stmt_sem.proofs.walker.Walker.+statements.Goals as goal

pub statements-loop-of-init : goal.statements-loop-of-init
statements-loop-of-init g t c = (
  Keeps-refl c.args.self.now,
  (value_alone (g.S.Scopes.state c.args.self.now.scopes.now) c.args.self.now.notes.now c.args.self.now.fragments.now.nodes.items c.args.stand.now.site.now c.new-made.result AreFlows block_in (λ k. λ rest. rest) (none_there c.args.self.now.fragments.now.nodes.items c.new-made.result c.new-made.ensures.items) (λ k cell. none_in c.args.self.now.fragments.now.nodes.items c.new-made.result c.new-made.ensures.items cell)),
)

pub statements-statement-requires : goal.statements-statement-requires
statements-statement-requires g t c κs within =
    ((let small = item_small size-Statement c.args.body.now c.loop-of.of-index c.of-item.result c.loop-of-test.true c.of-item.is in item_lower _ _ 1 t small c.decreases), (within, (stand_after c.loop-of.invariant.1 c.args.stand.now c.requires.stand, (sound_after c.loop-of.invariant.1 c.requires.sound, (read_statement c.args.stand.now.site.now.texts.now.names statement_view c.args.body.now c.loop-of.of-index c.of-item.result c.loop-of-test.true c.of-item.is c.requires.read)))))

pub statements-loop-of-preserved : goal.statements-loop-of-preserved
statements-loop-of-preserved g t c = (
  Keeps-trans c.loop-of.invariant.0 c.statement.ensures.keeps,
  (let one = (rw c.in-Known.is at c.in-Ok.ensures.walks) in
      let pushed : c.push.new.self.items ≡ c.loop-of.made.items ++ c.in-Known.value ∷ [] = c.in_ok-push.ensures.items in
      one_more (λ k o i. statement_flow (stand_in k c.args.stand.now) (statement_view i)) behind_flow (λ rest. rest) c.args.body.now c.loop-of.of-index c.push.new.self c.of-item.result c.loop-of-test.true c.of-item.is c.loop-of.invariant.1 one
      (block_there one.grows c.loop-of.made c.push.new.self c.in-Known.value pushed c.loop-of.invariant.1.there one.there) (block_more one.grows c.loop-of.made c.push.new.self c.in-Known.value pushed c.loop-of.invariant.1.there)),
)

pub statements-returns-in-DontKnowYet-clause-walks : goal.statements-returns-in-DontKnowYet-clause-walks
statements-returns-in-DontKnowYet-clause-walks g t c = unknown_after c.loop-of.invariant.1 (rw c.in-DontKnowYet.is at c.in-Ok.ensures.walks)

pub statements-returns-in-Err-clause-walks : goal.statements-returns-in-Err-clause-walks
statements-returns-in-Err-clause-walks g t c = unmade_after c.loop-of.invariant.1 c.in-Err.ensures.walks _

pub statements-returns-in_err-push-clause-walks : goal.statements-returns-in_err-push-clause-walks
statements-returns-in_err-push-clause-walks g t c = full_by_both c.from_residual.result c.from_residual.ensures.0 c.loop-of.invariant.1 (rw c.in-Known.is at c.in-Ok.ensures.walks)

pub statements-returns-clause-walks : goal.statements-returns-clause-walks
statements-returns-clause-walks g t c =
    let onto = λ (k : Context). statements_onto (stand_in k c.args.stand.now) (λ rest. rest) (statements (map statement_view c.args.body.now)) in
    let all = whole (λ k o i. statement_flow (stand_in k c.args.stand.now) (statement_view i)) behind_flow (λ rest. rest) c.args.body.now c.loop-of.of-index onto c.loop-of-test.false c.loop-of.invariant.1 (λ k. onto_folded (stand_in k c.args.stand.now) statement_view (λ rest. rest) c.args.body.now) in
    by_answer c.block.result c.answered.result c.answered.ensures
    (described _ (made_after onto (λ b. b nothing) c.block.result all (c.block.ensures c.loop-of.self.fragments.now.nodes.items all.there) (λ u same cell. block_onto _ c.loop-of.made.items cell ∙ ap (λ (b : flow.Flow → flow.Flow). b nothing) (same cell)))
    (λ k. statements_given (stand_in k c.args.stand.now) (statements (map statement_view c.args.body.now))))

pub otherwise-statements-requires : goal.otherwise-statements-requires
otherwise-statements-requires g t c κs within = (lower (most size-Statement c.args.body.now) 2 0 t c.decreases, (within, (c.requires.stand, (c.requires.sound, (c.requires.read)))))

pub otherwise-returns-then-is_empty-clause-walks : goal.otherwise-returns-then-is_empty-clause-walks
otherwise-returns-then-is_empty-clause-walks g t c =
    described _ (value_alone (g.S.Scopes.state c.args.self.now.scopes.now) c.args.self.now.notes.now c.args.self.now.fragments.now.nodes.items c.args.stand.now.site.now None IsOther other_in (λ k. None) tt (λ k cell. refl)) (λ k. no_else (stand_in k c.args.stand.now) statement_view c.args.body.now (sym c.is_empty.ensures ∙ c.if-is_empty.true))

pub otherwise-returns-in-DontKnowYet-clause-walks : goal.otherwise-returns-in-DontKnowYet-clause-walks
otherwise-returns-in-DontKnowYet-clause-walks g t c = unknown (rw c.in-DontKnowYet.is at c.in-Ok.ensures.walks)

pub otherwise-returns-in-Err-clause-walks : goal.otherwise-returns-in-Err-clause-walks
otherwise-returns-in-Err-clause-walks g t c = unmade c.in-Err.ensures.walks _

pub otherwise-returns-in_err-held-clause-walks : goal.otherwise-returns-in_err-held-clause-walks
otherwise-returns-in_err-held-clause-walks g t c = full_by c.from_residual.result c.from_residual.ensures.0 (rw c.in-Known.is at c.in-Ok.ensures.walks)

pub otherwise-returns-clause-walks : goal.otherwise-returns-clause-walks
otherwise-returns-clause-walks g t c =
    let ns = c.statements.new.self.fragments.now.nodes.items in
    let one = rw c.in-Known.is at c.in-Ok.ensures.walks in
    let held = c.in_ok-held.ensures.ok in
    value_after (λ k. flow_of (stand_in k c.args.stand.now) (statements (map statement_view c.args.body.now))) (λ f. else_of (statements (map statement_view c.args.body.now)) f) (Some c.in_ok-held.held) one (Grows-refl ns)
    (subst (λ (x : Flow). IsOver ns x) (sym held) one.there)
    (λ u same cell. ap (λ (x : Flow). Some (flow_in ns x cell)) held ∙ ap (λ (f : flow.Flow). Some f) (same cell) ∙ some_else statement_view c.args.body.now u (sym c.is_empty.ensures ∙ c.if-is_empty.false))

pub if_arms_made-loop-arm-init : goal.if_arms_made-loop-arm-init
if_arms_made-loop-arm-init g t c = (
  Keeps-refl c.args.self.now,
  (value_alone (g.S.Scopes.state c.args.self.now.scopes.now) c.args.self.now.notes.now c.args.self.now.fragments.now.nodes.items c.args.stand.now.site.now c.new-made.result AreArms arms_in (λ k. λ other. other) (no_arms_there (g.S.Scopes.state c.args.self.now.scopes.now).frame c.args.self.now.fragments.now.nodes.items c.new-made.result c.new-made.ensures.items) (λ k cell. no_arms_in c.args.self.now.fragments.now.nodes.items c.new-made.result c.new-made.ensures.items cell)),
)

pub if_arms_made-test-requires-clause-stand : goal.if_arms_made-test-requires-clause-stand
if_arms_made-test-requires-clause-stand g t c = stand_after c.loop-arm.invariant.1 c.args.stand.now c.requires.stand

pub if_arms_made-test-requires-clause-e : goal.if_arms_made-test-requires-clause-e
if_arms_made-test-requires-clause-e g t c =
    let names = c.args.stand.now.site.now.texts.now.names in
    (if_arm_read names c.arm-item.result (read_if_arm names if_arm_view c.args.arms.now c.loop-arm.arm-index c.arm-item.result c.loop-arm-test.true c.arm-item.is c.requires.read)).0

pub if_arms_made-statements-requires : goal.if_arms_made-statements-requires
if_arms_made-statements-requires g t c κs within =
    let x = c.arm-item.result in
    let names = c.args.stand.now.site.now.texts.now.names in
    let before = c.loop-arm.invariant.1 in
    let one = of_coding _ (rw c.in-Known.is at c.in-Ok.ensures.codes) in
    let read = read_if_arm names if_arm_view c.args.arms.now c.loop-arm.arm-index x c.loop-arm-test.true c.arm-item.is c.requires.read in
    let small = item_small size-IfArm c.args.arms.now c.loop-arm.arm-index x c.loop-arm-test.true c.arm-item.is in
    let less = if_arm_smaller x in
    let same = ap (most size-Statement) c.deref.ensures.value in
    (item_part_lower _ _ _ _ 2 1 5 t same less small refl c.decreases, (within, (stand_after one c.args.stand.now (stand_after before c.args.stand.now c.requires.stand), (sound_after one (sound_after before c.requires.sound), rw c.deref.ensures.value (if_arm_read names x read).1))))

pub if_arms_made-loop-arm-preserved : goal.if_arms_made-loop-arm-preserved
if_arms_made-loop-arm-preserved g t c =
    let x = c.arm-item.result in
    let s = c.args.stand.now in
    let f = (g.S.Scopes.state c.args.self.now.scopes.now).frame in
    let arm : ArmMade = record { test = Fixed c.in-Known.value; body = c.in-Known-asked.value } in
    let holds = of_coding _ (rw c.in-Known.is at c.in-Ok.ensures.codes) in
    let body = rw c.deref.ensures.value at (rw c.in-Known-asked.is at c.in-Ok-statements.ensures.walks) in
    let one : Walks g.S.Scopes.state c.loop-arm.self c.statements.new.self s (Ok (Known arm)) IsArm arm_in (λ e. arm_flow e (if_arm_view x)) =
    described _ (value_after_both (λ k. test (stand_in k s) (expr_view (out-IfArm x).test)) (λ p k. flow_of (stand_in k s) (statements (map statement_view (out-IfArm x).body.items))) (λ p b. arm_before p b) arm holds body (Grows-refl c.statements.new.self.fragments.now.nodes.items) (in_later body.grows c.in-Known.value holds.there, body.there)
    (λ u m a b cell. arm_same body.grows c.in-Known.value c.in-Known-asked.value holds.there u m a b cell))
    (λ k. ap (arm_flow (stand_in k s)) (sym (if_arm_seen x))) in
    let pushed : c.push.new.self.items ≡ c.loop-arm.made.items ++ arm ∷ [] = c.in_ok-push.ensures.items in (
      Keeps-trans (Keeps-trans c.loop-arm.invariant.0 c.test.ensures.keeps) c.statements.ensures.keeps,
      one_more (λ k o i. arm_flow (stand_in k s) (if_arm_view i)) behind_arm (λ other. other) c.args.arms.now c.loop-arm.arm-index c.push.new.self x c.loop-arm-test.true c.arm-item.is c.loop-arm.invariant.1 one
          (arms_there one.grows f c.loop-arm.made c.push.new.self arm pushed c.loop-arm.invariant.1.there one.there) (arms_more one.grows f c.loop-arm.made c.push.new.self arm pushed c.loop-arm.invariant.1.there),
    )

pub if_arms_made-returns-in-DontKnowYet-clause-walks : goal.if_arms_made-returns-in-DontKnowYet-clause-walks
if_arms_made-returns-in-DontKnowYet-clause-walks g t c = unknown_after c.loop-arm.invariant.1 (of_coding _ (rw c.in-DontKnowYet.is at c.in-Ok.ensures.codes))

pub if_arms_made-returns-in-DontKnowYet-asked-clause-walks : goal.if_arms_made-returns-in-DontKnowYet-asked-clause-walks
if_arms_made-returns-in-DontKnowYet-asked-clause-walks g t c =
    let before = c.loop-arm.invariant.1 in
    let one = of_coding _ (rw c.in-Known.is at c.in-Ok.ensures.codes) in
    unknown_behind (Works-trans before.works one.works) (Grows-trans before.grows one.grows) (rw c.in-DontKnowYet-asked.is at c.in-Ok-statements.ensures.walks)

pub if_arms_made-returns-in-Err-clause-walks : goal.if_arms_made-returns-in-Err-clause-walks
if_arms_made-returns-in-Err-clause-walks g t c = unmade_after c.loop-arm.invariant.1 (of_coding _ c.in-Err.ensures.codes) _

pub if_arms_made-returns-in-Err-statements-clause-walks : goal.if_arms_made-returns-in-Err-statements-clause-walks
if_arms_made-returns-in-Err-statements-clause-walks g t c =
    let before = c.loop-arm.invariant.1 in
    let one = of_coding _ (rw c.in-Known.is at c.in-Ok.ensures.codes) in
    unmade_behind (Works-trans before.works one.works) (Grows-trans before.grows one.grows) c.in-Err-statements.ensures.walks _

pub if_arms_made-returns-in_err-push-clause-walks : goal.if_arms_made-returns-in_err-push-clause-walks
if_arms_made-returns-in_err-push-clause-walks g t c =
    let before = c.loop-arm.invariant.1 in
    let one = of_coding _ (rw c.in-Known.is at c.in-Ok.ensures.codes) in
    let two = rw c.in-Known-asked.is at c.in-Ok-statements.ensures.walks in
    full_behind c.from_residual.result c.from_residual.ensures.0 (Works-trans before.works (Works-trans one.works two.works)) (Grows-trans before.grows (Grows-trans one.grows two.grows))

pub if_arms_made-returns-clause-walks : goal.if_arms_made-returns-clause-walks
if_arms_made-returns-clause-walks g t c =
    whole (λ k o i. arm_flow (stand_in k c.args.stand.now) (if_arm_view i)) behind_arm (λ other. other) c.args.arms.now c.loop-arm.arm-index (λ k. arms_flow (stand_in k c.args.stand.now) (if_arms (map if_arm_view c.args.arms.now))) c.loop-arm-test.false c.loop-arm.invariant.1 (λ k. arms_folded (stand_in k c.args.stand.now) if_arm_view c.args.arms.now)

pub if_statement-if_arms_made-requires : goal.if_statement-if_arms_made-requires
if_statement-if_arms_made-requires g t c κs within = (first_lower (most size-IfArm c.args.arms.now) (most size-Statement c.args.other.now) 1 2 t c.decreases, (within, (c.requires.stand, (c.requires.sound, (c.requires.arms)))))

pub if_statement-returns-in-DontKnowYet-clause-walks : goal.if_statement-returns-in-DontKnowYet-clause-walks
if_statement-returns-in-DontKnowYet-clause-walks g t c = unknown (rw c.in-DontKnowYet.is at c.in-Ok.ensures.walks)

pub if_statement-returns-in-Err-clause-walks : goal.if_statement-returns-in-Err-clause-walks
if_statement-returns-in-Err-clause-walks g t c = unmade c.in-Err.ensures.walks _

pub if_statement-otherwise-requires : goal.if_statement-otherwise-requires
if_statement-otherwise-requires g t c κs within =
    (second_lower (most size-IfArm c.args.arms.now) (most size-Statement c.args.other.now) 3 0 t c.decreases, (within, (stand_after (rw c.in-Known.is at c.in-Ok.ensures.walks) c.args.stand.now c.requires.stand, (sound_after (rw c.in-Known.is at c.in-Ok.ensures.walks) c.requires.sound, (c.requires.other)))))

pub if_statement-returns-in-DontKnowYet-asked-clause-walks : goal.if_statement-returns-in-DontKnowYet-asked-clause-walks
if_statement-returns-in-DontKnowYet-asked-clause-walks g t c = unknown_after (rw c.in-Known.is at c.in-Ok.ensures.walks) (rw c.in-DontKnowYet-asked.is at c.in-Ok-otherwise.ensures.walks)

pub if_statement-returns-in-Err-otherwise-clause-walks : goal.if_statement-returns-in-Err-otherwise-clause-walks
if_statement-returns-in-Err-otherwise-clause-walks g t c = unmade_after (rw c.in-Known.is at c.in-Ok.ensures.walks) c.in-Err-otherwise.ensures.walks _

pub if_statement-choice-requires-clause-sound : goal.if_statement-choice-requires-clause-sound
if_statement-choice-requires-clause-sound g t c = sound_after (rw c.in-Known-asked.is at c.in-Ok-otherwise.ensures.walks) (sound_after (rw c.in-Known.is at c.in-Ok.ensures.walks) c.requires.sound)

pub if_statement-choice-requires-clause-arms : goal.if_statement-choice-requires-clause-arms
if_statement-choice-requires-clause-arms g t c =
    arms_kept (rw c.in-Known-asked.is at c.in-Ok-otherwise.ensures.walks).grows (g.S.Scopes.state c.args.self.now.scopes.now).frame c.in-Known.value (rw c.in-Known.is at c.in-Ok.ensures.walks).there

pub if_statement-choice-requires-clause-other : goal.if_statement-choice-requires-clause-other
if_statement-choice-requires-clause-other g t c = (rw c.in-Known-asked.is at c.in-Ok-otherwise.ensures.walks).there

pub if_statement-returns-clause-walks : goal.if_statement-returns-clause-walks
if_statement-returns-clause-walks g t c =
    let one = (rw c.in-Known.is at c.in-Ok.ensures.walks) in
    let two = (rw c.in-Known-asked.is at c.in-Ok-otherwise.ensures.walks) in
    by_answer c.choice.result c.answered.result c.answered.ensures
    (described _ (made_after_both (λ k. arms_flow (stand_in k c.args.stand.now) (if_arms (map if_arm_view c.args.arms.now))) (λ before k. otherwise (stand_in k c.args.stand.now) (statements (map statement_view c.args.other.now))) (λ before other. flow_or_nothing (before other)) c.choice.result one two c.choice.ensures (choice_same two.grows (g.S.Scopes.state c.args.self.now.scopes.now).frame c.in-Known.value c.in-Known-asked.value one.there))
    (λ k. if_given (stand_in k c.args.stand.now) (if_arms (map if_arm_view c.args.arms.now)) (statements (map statement_view c.args.other.now))))

pub loop_statement-statements-requires : goal.loop_statement-statements-requires
loop_statement-statements-requires g t c κs within =
    (lower (most size-Statement c.args.body.now) 2 0 t c.decreases, (within, (record { suits = c.requires.stand.suits; item = c.requires.stand.item; result = c.requires.stand.result; withs = c.requires.stand.withs }, (c.requires.sound, (c.requires.read)))))

pub loop_statement-returns-in-DontKnowYet-clause-walks : goal.loop_statement-returns-in-DontKnowYet-clause-walks
loop_statement-returns-in-DontKnowYet-clause-walks g t c = unknown (rw c.in-DontKnowYet.is at c.in-Ok.ensures.walks)

pub loop_statement-returns-in-Err-clause-walks : goal.loop_statement-returns-in-Err-clause-walks
loop_statement-returns-in-Err-clause-walks g t c = unmade c.in-Err.ensures.walks _

pub loop_statement-returns-clause-walks : goal.loop_statement-returns-clause-walks
loop_statement-returns-clause-walks g t c =
    by_answer c.for_ever.result c.answered.result c.answered.ensures
    (made_after (λ k. flow_of (in_loop (stand_in k c.args.stand.now)) (statements (map statement_view c.args.body.now))) (λ b. for_ever b) c.for_ever.result (rw c.in-Known.is at c.in-Ok.ensures.walks) (c.for_ever.ensures c.statements.new.self.fragments.now.nodes.items (rw c.in-Known.is at c.in-Ok.ensures.walks).there) (λ u same cell. ap for_ever (same cell)))

pub case_arm-case_labels-requires-clause-read : goal.case_arm-case_labels-requires-clause-read
case_arm-case_labels-requires-clause-read g t c = rw c.deref.ensures.value (case_arm_read c.args.stand.now.site.now.texts.now.names c.args.arm.now c.requires.read).0

pub case_arm-returns-in-DontKnowYet-clause-walks : goal.case_arm-returns-in-DontKnowYet-clause-walks
case_arm-returns-in-DontKnowYet-clause-walks g t c = unknown (of_labels c.args.self.now.fragments.now.nodes.items (Ok (DontKnowYet c.in-DontKnowYet.head)) (rw c.in-DontKnowYet.is at c.in-Ok.ensures))

pub case_arm-returns-in-Err-clause-walks : goal.case_arm-returns-in-Err-clause-walks
case_arm-returns-in-Err-clause-walks g t c = unmade (of_labels c.args.self.now.fragments.now.nodes.items (Err c.in-Err.memory) c.in-Err.ensures) _

pub case_arm-statements-requires : goal.case_arm-statements-requires
case_arm-statements-requires g t c κs within =
    ((let small = case_arm_smaller c.args.arm.now in let same0 = ap (most size-Statement) c.deref-2.ensures.value in part_lower _ _ _ 2 5 t same0 small refl c.decreases), (within, (stand_after (of_labels c.args.self.now.fragments.now.nodes.items (Ok (Known c.in-Known.value)) (rw c.in-Known.is at c.in-Ok.ensures)) c.args.stand.now c.requires.stand, (sound_after (of_labels c.args.self.now.fragments.now.nodes.items (Ok (Known c.in-Known.value)) (rw c.in-Known.is at c.in-Ok.ensures)) c.requires.sound, (rw c.deref-2.ensures.value (case_arm_read c.args.stand.now.site.now.texts.now.names c.args.arm.now c.requires.read).1)))))

pub case_arm-returns-in-DontKnowYet-asked-clause-walks : goal.case_arm-returns-in-DontKnowYet-asked-clause-walks
case_arm-returns-in-DontKnowYet-asked-clause-walks g t c =
    unknown_after (of_labels c.args.self.now.fragments.now.nodes.items (Ok (Known c.in-Known.value)) (rw c.in-Known.is at c.in-Ok.ensures)) (rw c.in-DontKnowYet-asked.is at c.in-Ok-statements.ensures.walks)

pub case_arm-returns-in-Err-statements-clause-walks : goal.case_arm-returns-in-Err-statements-clause-walks
case_arm-returns-in-Err-statements-clause-walks g t c = unmade_after (of_labels c.args.self.now.fragments.now.nodes.items (Ok (Known c.in-Known.value)) (rw c.in-Known.is at c.in-Ok.ensures)) c.in-Err-statements.ensures.walks _

pub case_arm-returns-clause-walks : goal.case_arm-returns-clause-walks
case_arm-returns-clause-walks g t c =
    let one = (rw c.deref.ensures.value at (of_labels c.args.self.now.fragments.now.nodes.items (Ok (Known c.in-Known.value)) (rw c.in-Known.is at c.in-Ok.ensures))) in
    let two = (rw c.deref-2.ensures.value at (rw c.in-Known-asked.is at c.in-Ok-statements.ensures.walks)) in
    let v = c.in-Known.value in
    let body = c.in-Known-asked.value in
    described _ (value_after_both (λ k. labels_of k c.args.of c.args.covered (labels (map label_view (out-CaseArm c.args.arm.now).labels.items))) (λ l k. flow_of (stand_in k c.args.stand.now) (statements (map statement_view (out-CaseArm c.args.arm.now).body.items))) (λ l b. arm_of l b) (record { arm = record { test = Labels v.tests; body = body }; covered = v.covered }) one two (Grows-refl c.statements.new.self.fragments.now.nodes.items) (tt, two.there)
    (λ u m a b cell. arm_given c.statements.new.self.fragments.now.nodes.items v body u m (a 0) b cell))
    (λ k. ap (case_flow (stand_in k c.args.stand.now) c.args.of c.args.covered) (sym (case_arm_seen c.args.arm.now)))

pub case_arms_made-loop-arm-init : goal.case_arms_made-loop-arm-init
case_arms_made-loop-arm-init g t c = (
  Keeps-refl c.args.self.now,
  (value_alone (g.S.Scopes.state c.args.self.now.scopes.now) c.args.self.now.notes.now c.args.self.now.fragments.now.nodes.items c.args.stand.now.site.now (c.new-made.result, c.new-covered.result) AreSoFar so_far_in (λ k. (record { flow = λ t other. other; covered = [] })) (no_arms_there (g.S.Scopes.state c.args.self.now.scopes.now).frame c.args.self.now.fragments.now.nodes.items c.new-made.result c.new-made.ensures.items) (λ k cell. none_so_far c.args.self.now.fragments.now.nodes.items c.new-made.result c.new-covered.result c.new-made.ensures.items c.new-covered.ensures cell)),
)

pub case_arms_made-case_arm-requires : goal.case_arms_made-case_arm-requires
case_arms_made-case_arm-requires g t c κs within =
    ((let small = item_small size-CaseArm c.args.arms.now c.loop-arm.arm-index c.arm-item.result c.loop-arm-test.true c.arm-item.is in item_lower _ _ 0 t small c.decreases), (within, (stand_after c.loop-arm.invariant.1 c.args.stand.now c.requires.stand, (sound_after c.loop-arm.invariant.1 c.requires.sound, (there_after c.loop-arm.invariant.1 c.args.of c.requires.of, (read_case_arm c.args.stand.now.site.now.texts.now.names case_arm_view c.args.arms.now c.loop-arm.arm-index c.arm-item.result c.loop-arm-test.true c.arm-item.is c.requires.arms))))))

pub case_arms_made-loop-arm-preserved : goal.case_arms_made-loop-arm-preserved
case_arms_made-loop-arm-preserved g t c = (
  Keeps-trans c.loop-arm.invariant.0 c.case_arm.ensures.keeps,
  (let one = (rw c.in-Known.is at c.in-Ok.ensures.walks) in
      let x = c.in-Known.value in
      let pushed : c.push.new.self.items ≡ c.loop-arm.made.items ++ x.arm ∷ [] = c.in_ok-push.ensures.items in
      let f = (g.S.Scopes.state c.args.self.now.scopes.now).frame in
      one_more (λ k o i. case_flow (stand_in k c.args.stand.now) c.args.of o.covered (case_arm_view i)) behind_case (record { flow = λ t other. other; covered = [] }) c.args.arms.now c.loop-arm.arm-index (c.push.new.self, x.covered) c.arm-item.result c.loop-arm-test.true c.arm-item.is c.loop-arm.invariant.1 one
      (arms_there one.grows f c.loop-arm.made c.push.new.self x.arm pushed c.loop-arm.invariant.1.there one.there) (cases_more one.grows f c.loop-arm.made c.push.new.self c.loop-arm.covered x pushed c.loop-arm.invariant.1.there)),
)

pub case_arms_made-returns-in-DontKnowYet-clause-walks : goal.case_arms_made-returns-in-DontKnowYet-clause-walks
case_arms_made-returns-in-DontKnowYet-clause-walks g t c = unknown_after c.loop-arm.invariant.1 (rw c.in-DontKnowYet.is at c.in-Ok.ensures.walks)

pub case_arms_made-returns-in-Err-clause-walks : goal.case_arms_made-returns-in-Err-clause-walks
case_arms_made-returns-in-Err-clause-walks g t c = unmade_after c.loop-arm.invariant.1 c.in-Err.ensures.walks _

pub case_arms_made-returns-in_err-push-clause-walks : goal.case_arms_made-returns-in_err-push-clause-walks
case_arms_made-returns-in_err-push-clause-walks g t c = full_by_both c.from_residual.result c.from_residual.ensures.0 c.loop-arm.invariant.1 (rw c.in-Known.is at c.in-Ok.ensures.walks)

pub case_arms_made-returns-clause-walks : goal.case_arms_made-returns-clause-walks
case_arms_made-returns-clause-walks g t c =
    let h : Context → Arm → CaseArm → Gives Arm = (λ k o i. case_flow (stand_in k c.args.stand.now) c.args.of o.covered (case_arm_view i)) in
    let first : Arm = (record { flow = λ t other. other; covered = [] }) in
    described _ (value_after (λ k. folded (step h behind_case k) first c.args.arms.now) (λ b. b.flow) c.loop-arm.made (whole h behind_case first c.args.arms.now c.loop-arm.arm-index (λ k. folded (step h behind_case k) first c.args.arms.now) c.loop-arm-test.false c.loop-arm.invariant.1 (λ k. refl)) (Grows-refl c.loop-arm.self.fragments.now.nodes.items) c.loop-arm.invariant.1.there (λ u same cell. ap (λ (a : Arm). a.flow) (same cell)))
    (λ k. cases_folded (stand_in k c.args.stand.now) case_arm_view c.args.of c.args.arms.now)

pub case_else-returns-in-None-clause-walks : goal.case_else-returns-in-None-clause-walks
case_else-returns-in-None-clause-walks g t c =
    described _ (c.no_case_else.ensures (g.S.Scopes.state c.args.self.now.scopes.now) c.args.self.now.notes.now c.args.stand.now.site.now) (λ k. ap (λ (o : Option (Vec Statement Global)). else_flow (stand_in k c.args.stand.now) (case_else_seen o)) (sym c.in-None.is))

pub case_else-statements-requires : goal.case_else-statements-requires
case_else-statements-requires g t c κs within =
    ((let same = ap (most size-Statement) c.deref.ensures.value in let rest = ap rest_size c.in-Some.is in same_lower _ _ _ 2 0 t same rest c.decreases), (within, (c.requires.stand, (c.requires.sound, (rw c.deref.ensures.value (rw (ap case_else_seen c.in-Some.is) at c.requires.other))))))

pub case_else-returns-in-Some-clause-walks : goal.case_else-returns-in-Some-clause-walks
case_else-returns-in-Some-clause-walks g t c =
    described _ (rw c.deref.ensures.value at c.statements.ensures.walks) (λ k. ap (λ (o : Option (Vec Statement Global)). else_flow (stand_in k c.args.stand.now) (case_else_seen o)) (sym c.in-Some.is))

pub case_statement-returns-in-DontKnowYet-clause-walks : goal.case_statement-returns-in-DontKnowYet-clause-walks
case_statement-returns-in-DontKnowYet-clause-walks g t c = unknown (of_coding _ (rw c.in-DontKnowYet.is at c.in-Ok.ensures.codes))

pub case_statement-returns-in-Err-clause-walks : goal.case_statement-returns-in-Err-clause-walks
case_statement-returns-in-Err-clause-walks g t c = unmade (of_coding _ c.in-Err.ensures.codes) _

pub case_statement-case_arms_made-requires : goal.case_statement-case_arms_made-requires
case_statement-case_arms_made-requires g t c κs within =
    let one = of_coding _ (rw c.in-Known.is at c.in-Ok.ensures.codes) in
    (first_lower (most size-CaseArm c.args.arms.now) (rest_size c.args.other.now) 1 3 t c.decreases, (within, (stand_after one c.args.stand.now c.requires.stand, (sound_after one c.requires.sound, ((stands_after one).1, c.requires.arms)))))

pub case_statement-returns-in-DontKnowYet-asked-clause-walks : goal.case_statement-returns-in-DontKnowYet-asked-clause-walks
case_statement-returns-in-DontKnowYet-asked-clause-walks g t c = unknown_after (of_coding _ (rw c.in-Known.is at c.in-Ok.ensures.codes)) (rw c.in-DontKnowYet-asked.is at c.in-Ok-case_arms_made.ensures.walks)

pub case_statement-returns-in-Err-case_arms_made-clause-walks : goal.case_statement-returns-in-Err-case_arms_made-clause-walks
case_statement-returns-in-Err-case_arms_made-clause-walks g t c = unmade_after (of_coding _ (rw c.in-Known.is at c.in-Ok.ensures.codes)) c.in-Err-case_arms_made.ensures.walks _

pub case_statement-case_else-requires : goal.case_statement-case_else-requires
case_statement-case_else-requires g t c κs within =
    let one = of_coding _ (rw c.in-Known.is at c.in-Ok.ensures.codes) in
    let two = rw c.in-Known-asked.is at c.in-Ok-case_arms_made.ensures.walks in
    (second_lower (most size-CaseArm c.args.arms.now) (rest_size c.args.other.now) 3 1 t c.decreases, (within, (stand_after two c.args.stand.now (stand_after one c.args.stand.now c.requires.stand), (sound_after two (sound_after one c.requires.sound), c.requires.other))))

pub case_statement-returns-in-DontKnowYet-asked-2-clause-walks : goal.case_statement-returns-in-DontKnowYet-asked-2-clause-walks
case_statement-returns-in-DontKnowYet-asked-2-clause-walks g t c =
    let one = of_coding _ (rw c.in-Known.is at c.in-Ok.ensures.codes) in
    let two = rw c.in-Known-asked.is at c.in-Ok-case_arms_made.ensures.walks in
    unknown_behind (Works-trans one.works two.works) (Grows-trans one.grows two.grows) (rw c.in-DontKnowYet-asked-2.is at c.in-Ok-case_else.ensures.walks)

pub case_statement-returns-in-Err-case_else-clause-walks : goal.case_statement-returns-in-Err-case_else-clause-walks
case_statement-returns-in-Err-case_else-clause-walks g t c =
    let one = of_coding _ (rw c.in-Known.is at c.in-Ok.ensures.codes) in
    let two = rw c.in-Known-asked.is at c.in-Ok-case_arms_made.ensures.walks in
    unmade_behind (Works-trans one.works two.works) (Grows-trans one.grows two.grows) c.in-Err-case_else.ensures.walks _

pub case_statement-case_made-requires-clause-sound : goal.case_statement-case_made-requires-clause-sound
case_statement-case_made-requires-clause-sound g t c =
    let one = of_coding _ (rw c.in-Known.is at c.in-Ok.ensures.codes) in
    let two = rw c.in-Known-asked.is at c.in-Ok-case_arms_made.ensures.walks in
    let three = rw c.in-Known-asked-2.is at c.in-Ok-case_else.ensures.walks in
    sound_after three (sound_after two (sound_after one c.requires.sound))

pub case_statement-case_made-requires-clause-value : goal.case_statement-case_made-requires-clause-value
case_statement-case_made-requires-clause-value g t c =
    let one = of_coding _ (rw c.in-Known.is at c.in-Ok.ensures.codes) in
    let two = rw c.in-Known-asked.is at c.in-Ok-case_arms_made.ensures.walks in
    let three = rw c.in-Known-asked-2.is at c.in-Ok-case_else.ensures.walks in
    in_later (Grows-trans two.grows three.grows) c.in-Known.value.value one.there.0

pub case_statement-case_made-requires-clause-arms : goal.case_statement-case_made-requires-clause-arms
case_statement-case_made-requires-clause-arms g t c =
    let two = rw c.in-Known-asked.is at c.in-Ok-case_arms_made.ensures.walks in
    let three = rw c.in-Known-asked-2.is at c.in-Ok-case_else.ensures.walks in
    arms_kept three.grows (g.S.Scopes.state c.selector.new.self.scopes.now).frame c.in-Known-asked.value two.there

pub case_statement-case_made-requires-clause-other : goal.case_statement-case_made-requires-clause-other
case_statement-case_made-requires-clause-other g t c = (rw c.in-Known-asked-2.is at c.in-Ok-case_else.ensures.walks).there

pub case_statement-returns-clause-walks : goal.case_statement-returns-clause-walks
case_statement-returns-clause-walks g t c =
    let one = of_coding _ (rw c.in-Known.is at c.in-Ok.ensures.codes) in
    let two = rw c.in-Known-asked.is at c.in-Ok-case_arms_made.ensures.walks in
    let three = rw c.in-Known-asked-2.is at c.in-Ok-case_else.ensures.walks in
    let s = c.args.stand.now in
    let x = c.in-Known.value in
    let f = (g.S.Scopes.state c.selector.new.self.scopes.now).frame in
    let value = part c.selector.new.self.fragments.now.nodes.items x.value in
    let arms = case_arms (map case_arm_view c.args.arms.now) in
    let other = case_else_seen c.args.other.now in
    described _ (flowing_after (λ k. selector (stand_in k s) (expr_view c.args.value.now)) (λ y k. case_of (stand_in k s) y.0 y.1 arms other) c.answered.result one
    (by_answer c.case_made.result c.answered.result c.answered.ensures
    (made_after_both (λ k. cases_flow (stand_in k s) x.of [] arms) (λ before k. else_flow (stand_in k s) other) (λ before rest. stored_before value (λ n. before n rest)) c.case_made.result two three c.case_made.ensures
    (λ u m a b cell. case_same three.grows two.grows x.value one.there.0 f c.in-Known-asked.value c.in-Known-asked-2.value two.there u m a b))))
    (λ k. case_given (stand_in k s) (expr_view c.args.value.now) arms other)

pub while_statement-returns-in-DontKnowYet-clause-walks : goal.while_statement-returns-in-DontKnowYet-clause-walks
while_statement-returns-in-DontKnowYet-clause-walks g t c = unknown (of_coding _ (rw c.in-DontKnowYet.is at c.in-Ok.ensures.codes))

pub while_statement-returns-in-Err-clause-walks : goal.while_statement-returns-in-Err-clause-walks
while_statement-returns-in-Err-clause-walks g t c = unmade (of_coding _ c.in-Err.ensures.codes) _

pub while_statement-statements-requires : goal.while_statement-statements-requires
while_statement-statements-requires g t c κs within =
    (lower (most size-Statement c.args.body.now) 2 0 t c.decreases, (within, (stand_after (of_coding _ (rw c.in-Known.is at c.in-Ok.ensures.codes)) c.args.stand.now c.requires.stand, (sound_after (of_coding _ (rw c.in-Known.is at c.in-Ok.ensures.codes)) c.requires.sound, (c.requires.read)))))

pub while_statement-returns-in-DontKnowYet-asked-clause-walks : goal.while_statement-returns-in-DontKnowYet-asked-clause-walks
while_statement-returns-in-DontKnowYet-asked-clause-walks g t c =
    unknown_after (of_coding _ (rw c.in-Known.is at c.in-Ok.ensures.codes)) (rw c.in-DontKnowYet-asked.is at c.in-Ok-statements.ensures.walks)

pub while_statement-returns-in-Err-statements-clause-walks : goal.while_statement-returns-in-Err-statements-clause-walks
while_statement-returns-in-Err-statements-clause-walks g t c = unmade_after (of_coding _ (rw c.in-Known.is at c.in-Ok.ensures.codes)) c.in-Err-statements.ensures.walks _

pub while_statement-while_true-requires-clause-sound : goal.while_statement-while_true-requires-clause-sound
while_statement-while_true-requires-clause-sound g t c = sound_after (rw c.in-Known-asked.is at c.in-Ok-statements.ensures.walks) (sound_after (of_coding _ (rw c.in-Known.is at c.in-Ok.ensures.codes)) c.requires.sound)

pub while_statement-while_true-requires-clause-test : goal.while_statement-while_true-requires-clause-test
while_statement-while_true-requires-clause-test g t c =
    in_later (rw c.in-Known-asked.is at c.in-Ok-statements.ensures.walks).grows c.in-Known.value (of_coding _ (rw c.in-Known.is at c.in-Ok.ensures.codes)).there

pub while_statement-while_true-requires-clause-body : goal.while_statement-while_true-requires-clause-body
while_statement-while_true-requires-clause-body g t c = (rw c.in-Known-asked.is at c.in-Ok-statements.ensures.walks).there

pub while_statement-returns-clause-walks : goal.while_statement-returns-clause-walks
while_statement-returns-clause-walks g t c =
    let one = (of_coding _ (rw c.in-Known.is at c.in-Ok.ensures.codes)) in
    let two = (rw c.in-Known-asked.is at c.in-Ok-statements.ensures.walks) in
    by_answer c.while_true.result c.answered.result c.answered.ensures
    (made_after_both (λ k. test (stand_in k c.args.stand.now) (expr_view c.args.holds.now)) (λ p k. flow_of (stand_in k c.args.stand.now) (statements (map statement_view c.args.body.now))) (λ p b. while_true p b) c.while_true.result one two c.while_true.ensures (while_same two.grows c.in-Known.value c.in-Known-asked.value one.there))

pub repeat_statement-statements-requires : goal.repeat_statement-statements-requires
repeat_statement-statements-requires g t c κs within = (lower (most size-Statement c.args.body.now) 2 0 t c.decreases, (within, (c.requires.stand, (c.requires.sound, (c.requires.read)))))

pub repeat_statement-returns-in-DontKnowYet-clause-walks : goal.repeat_statement-returns-in-DontKnowYet-clause-walks
repeat_statement-returns-in-DontKnowYet-clause-walks g t c = unknown (rw c.in-DontKnowYet.is at c.in-Ok.ensures.walks)

pub repeat_statement-returns-in-Err-clause-walks : goal.repeat_statement-returns-in-Err-clause-walks
repeat_statement-returns-in-Err-clause-walks g t c = unmade c.in-Err.ensures.walks _

pub repeat_statement-test-requires-clause-stand : goal.repeat_statement-test-requires-clause-stand
repeat_statement-test-requires-clause-stand g t c = stand_after (rw c.in-Known.is at c.in-Ok.ensures.walks) c.args.stand.now c.requires.stand

pub repeat_statement-returns-in-DontKnowYet-asked-clause-walks : goal.repeat_statement-returns-in-DontKnowYet-asked-clause-walks
repeat_statement-returns-in-DontKnowYet-asked-clause-walks g t c =
    unknown_after (rw c.in-Known.is at c.in-Ok.ensures.walks) (of_coding _ (rw c.in-DontKnowYet-asked.is at c.in-Ok-test.ensures.codes))

pub repeat_statement-returns-in-Err-test-clause-walks : goal.repeat_statement-returns-in-Err-test-clause-walks
repeat_statement-returns-in-Err-test-clause-walks g t c = unmade_after (rw c.in-Known.is at c.in-Ok.ensures.walks) (of_coding _ c.in-Err-test.ensures.codes) _

pub repeat_statement-until_true-requires-clause-sound : goal.repeat_statement-until_true-requires-clause-sound
repeat_statement-until_true-requires-clause-sound g t c = sound_after (of_coding _ (rw c.in-Known-asked.is at c.in-Ok-test.ensures.codes)) (sound_after (rw c.in-Known.is at c.in-Ok.ensures.walks) c.requires.sound)

pub repeat_statement-until_true-requires-clause-body : goal.repeat_statement-until_true-requires-clause-body
repeat_statement-until_true-requires-clause-body g t c =
    over_later (of_coding _ (rw c.in-Known-asked.is at c.in-Ok-test.ensures.codes)).grows c.in-Known.value (rw c.in-Known.is at c.in-Ok.ensures.walks).there

pub repeat_statement-until_true-requires-clause-test : goal.repeat_statement-until_true-requires-clause-test
repeat_statement-until_true-requires-clause-test g t c = (of_coding _ (rw c.in-Known-asked.is at c.in-Ok-test.ensures.codes)).there

pub repeat_statement-returns-clause-walks : goal.repeat_statement-returns-clause-walks
repeat_statement-returns-clause-walks g t c =
    let one = (rw c.in-Known.is at c.in-Ok.ensures.walks) in
    let two = (of_coding _ (rw c.in-Known-asked.is at c.in-Ok-test.ensures.codes)) in
    let after = c.test.new.self.fragments.now.nodes.items in
    by_answer c.until_true.result c.answered.result c.answered.ensures
    (made_after_both (λ k. flow_of (stand_in k c.args.stand.now) (statements (map statement_view c.args.body.now))) (λ b k. test (stand_in k c.args.stand.now) (expr_view c.args.holds.now)) (λ b p. until_true b p) c.until_true.result one two c.until_true.ensures (until_same after two.grows c.in-Known-asked.value c.in-Known.value one.there))

pub for_statement-returns-in-DontKnowYet-clause-walks : goal.for_statement-returns-in-DontKnowYet-clause-walks
for_statement-returns-in-DontKnowYet-clause-walks g t c = unknown (of_coding _ (rw c.in-DontKnowYet.is at c.in-Ok.ensures.codes))

pub for_statement-returns-in-Err-clause-walks : goal.for_statement-returns-in-Err-clause-walks
for_statement-returns-in-Err-clause-walks g t c = unmade (of_coding _ c.in-Err.ensures.codes) _

pub for_statement-check_bound-requires-clause-stand : goal.for_statement-check_bound-requires-clause-stand
for_statement-check_bound-requires-clause-stand g t c = stand_after (of_coding _ (rw c.in-Known.is at c.in-Ok.ensures.codes)) c.args.stand.now c.requires.stand

pub for_statement-check_bound-requires-clause-x : goal.for_statement-check_bound-requires-clause-x
for_statement-check_bound-requires-clause-x g t c = stands_after (of_coding _ (rw c.in-Known.is at c.in-Ok.ensures.codes))

pub for_statement-returns-in-DontKnowYet-asked-clause-walks : goal.for_statement-returns-in-DontKnowYet-asked-clause-walks
for_statement-returns-in-DontKnowYet-asked-clause-walks g t c =
    let one = of_coding _ (rw c.in-Known.is at c.in-Ok.ensures.codes) in
    unknown_after one (of_coding _ (rw c.in-DontKnowYet-asked.is at c.in-Ok-check_bound.ensures.codes))

pub for_statement-returns-in-Err-check_bound-clause-walks : goal.for_statement-returns-in-Err-check_bound-clause-walks
for_statement-returns-in-Err-check_bound-clause-walks g t c =
    let one = of_coding _ (rw c.in-Known.is at c.in-Ok.ensures.codes) in
    unmade_after one (of_coding _ c.in-Err-check_bound.ensures.codes) _

pub for_statement-check_bound-requires-2-clause-stand : goal.for_statement-check_bound-requires-2-clause-stand
for_statement-check_bound-requires-2-clause-stand g t c =
    let one = of_coding _ (rw c.in-Known.is at c.in-Ok.ensures.codes) in
    let two = of_coding _ (rw c.in-Known-asked.is at c.in-Ok-check_bound.ensures.codes) in
    stand_after two c.args.stand.now (stand_after one c.args.stand.now c.requires.stand)

pub for_statement-check_bound-requires-2-clause-x : goal.for_statement-check_bound-requires-2-clause-x
for_statement-check_bound-requires-2-clause-x g t c =
    let one = of_coding _ (rw c.in-Known.is at c.in-Ok.ensures.codes) in
    let two = of_coding _ (rw c.in-Known-asked.is at c.in-Ok-check_bound.ensures.codes) in
    stays_coded two.works.keeps.frame two.grows c.in-Known.value (stands_after one)

pub for_statement-returns-in-DontKnowYet-asked-2-clause-walks : goal.for_statement-returns-in-DontKnowYet-asked-2-clause-walks
for_statement-returns-in-DontKnowYet-asked-2-clause-walks g t c =
    let one = of_coding _ (rw c.in-Known.is at c.in-Ok.ensures.codes) in
    let two = of_coding _ (rw c.in-Known-asked.is at c.in-Ok-check_bound.ensures.codes) in
    unknown_behind (Works-trans one.works two.works) (Grows-trans one.grows two.grows) (of_coding _ (rw c.in-DontKnowYet-asked-2.is at c.in-Ok-check_bound-2.ensures.codes))

pub for_statement-returns-in-Err-check_bound-2-clause-walks : goal.for_statement-returns-in-Err-check_bound-2-clause-walks
for_statement-returns-in-Err-check_bound-2-clause-walks g t c =
    let one = of_coding _ (rw c.in-Known.is at c.in-Ok.ensures.codes) in
    let two = of_coding _ (rw c.in-Known-asked.is at c.in-Ok-check_bound.ensures.codes) in
    unmade_behind (Works-trans one.works two.works) (Grows-trans one.grows two.grows) (of_coding _ c.in-Err-check_bound-2.ensures.codes) _

pub for_statement-check_step-requires-clause-suits : goal.for_statement-check_step-requires-clause-suits
for_statement-check_step-requires-clause-suits g t c =
    let one = of_coding _ (rw c.in-Known.is at c.in-Ok.ensures.codes) in
    let two = of_coding _ (rw c.in-Known-asked.is at c.in-Ok-check_bound.ensures.codes) in
    let three = of_coding _ (rw c.in-Known-asked-2.is at c.in-Ok-check_bound-2.ensures.codes) in
    suits_after three (suits_after two (suits_after one c.requires.stand.suits))

pub for_statement-returns-in-DontKnowYet-asked-3-clause-walks : goal.for_statement-returns-in-DontKnowYet-asked-3-clause-walks
for_statement-returns-in-DontKnowYet-asked-3-clause-walks g t c =
    let one = of_coding _ (rw c.in-Known.is at c.in-Ok.ensures.codes) in
    let two = of_coding _ (rw c.in-Known-asked.is at c.in-Ok-check_bound.ensures.codes) in
    let three = of_coding _ (rw c.in-Known-asked-2.is at c.in-Ok-check_bound-2.ensures.codes) in
    unknown_behind (Works-trans one.works (Works-trans two.works three.works)) (Grows-trans one.grows (Grows-trans two.grows three.grows)) (of_coding _ (rw c.in-DontKnowYet-asked-3.is at c.in-Ok-check_step.ensures c.args.stand.now c.check_bound-2.new.self.fragments.now.nodes.items))

pub for_statement-returns-in-Err-check_step-clause-walks : goal.for_statement-returns-in-Err-check_step-clause-walks
for_statement-returns-in-Err-check_step-clause-walks g t c =
    let one = of_coding _ (rw c.in-Known.is at c.in-Ok.ensures.codes) in
    let two = of_coding _ (rw c.in-Known-asked.is at c.in-Ok-check_bound.ensures.codes) in
    let three = of_coding _ (rw c.in-Known-asked-2.is at c.in-Ok-check_bound-2.ensures.codes) in
    unmade_behind (Works-trans one.works (Works-trans two.works three.works)) (Grows-trans one.grows (Grows-trans two.grows three.grows)) (of_coding _ (c.in-Err-check_step.ensures c.args.stand.now c.check_bound-2.new.self.fragments.now.nodes.items)) _

pub for_statement-statements-requires : goal.for_statement-statements-requires
for_statement-statements-requires g t c κs within =
    let one = of_coding _ (rw c.in-Known.is at c.in-Ok.ensures.codes) in
    let two = of_coding _ (rw c.in-Known-asked.is at c.in-Ok-check_bound.ensures.codes) in
    let three = of_coding _ (rw c.in-Known-asked-2.is at c.in-Ok-check_bound-2.ensures.codes) in
    let four = of_coding _ (rw c.in-Known-asked-3.is at c.in-Ok-check_step.ensures c.args.stand.now c.check_bound-2.new.self.fragments.now.nodes.items) in
    (lower (most size-Statement c.args.body.now) 2 0 t c.decreases, (within, (stand_after four c.args.stand.now (stand_after three c.args.stand.now (stand_after two c.args.stand.now (stand_after one c.args.stand.now c.requires.stand))), (sound_after four (sound_after three (sound_after two (sound_after one c.requires.sound))), (c.requires.read)))))

pub for_statement-returns-in-DontKnowYet-asked-4-clause-walks : goal.for_statement-returns-in-DontKnowYet-asked-4-clause-walks
for_statement-returns-in-DontKnowYet-asked-4-clause-walks g t c =
    let one = of_coding _ (rw c.in-Known.is at c.in-Ok.ensures.codes) in
    let two = of_coding _ (rw c.in-Known-asked.is at c.in-Ok-check_bound.ensures.codes) in
    let three = of_coding _ (rw c.in-Known-asked-2.is at c.in-Ok-check_bound-2.ensures.codes) in
    let four = of_coding _ (rw c.in-Known-asked-3.is at c.in-Ok-check_step.ensures c.args.stand.now c.check_bound-2.new.self.fragments.now.nodes.items) in
    unknown_behind (Works-trans one.works (Works-trans two.works (Works-trans three.works four.works))) (Grows-trans one.grows (Grows-trans two.grows (Grows-trans three.grows four.grows))) (rw c.in-DontKnowYet-asked-4.is at c.in-Ok-statements.ensures.walks)

pub for_statement-returns-in-Err-statements-clause-walks : goal.for_statement-returns-in-Err-statements-clause-walks
for_statement-returns-in-Err-statements-clause-walks g t c =
    let one = of_coding _ (rw c.in-Known.is at c.in-Ok.ensures.codes) in
    let two = of_coding _ (rw c.in-Known-asked.is at c.in-Ok-check_bound.ensures.codes) in
    let three = of_coding _ (rw c.in-Known-asked-2.is at c.in-Ok-check_bound-2.ensures.codes) in
    let four = of_coding _ (rw c.in-Known-asked-3.is at c.in-Ok-check_step.ensures c.args.stand.now c.check_bound-2.new.self.fragments.now.nodes.items) in
    unmade_behind (Works-trans one.works (Works-trans two.works (Works-trans three.works four.works))) (Grows-trans one.grows (Grows-trans two.grows (Grows-trans three.grows four.grows))) c.in-Err-statements.ensures.walks _

pub for_statement-emit_for-requires-clause-suits : goal.for_statement-emit_for-requires-clause-suits
for_statement-emit_for-requires-clause-suits g t c =
    let one = of_coding _ (rw c.in-Known.is at c.in-Ok.ensures.codes) in
    let two = of_coding _ (rw c.in-Known-asked.is at c.in-Ok-check_bound.ensures.codes) in
    let three = of_coding _ (rw c.in-Known-asked-2.is at c.in-Ok-check_bound-2.ensures.codes) in
    let four = of_coding _ (rw c.in-Known-asked-3.is at c.in-Ok-check_step.ensures c.args.stand.now c.check_bound-2.new.self.fragments.now.nodes.items) in
    let five = rw c.in-Known-asked-4.is at c.in-Ok-statements.ensures.walks in
    suits_after five (suits_after four (suits_after three (suits_after two (suits_after one c.requires.stand.suits))))

pub for_statement-emit_for-requires-clause-sound : goal.for_statement-emit_for-requires-clause-sound
for_statement-emit_for-requires-clause-sound g t c =
    let one = of_coding _ (rw c.in-Known.is at c.in-Ok.ensures.codes) in
    let two = of_coding _ (rw c.in-Known-asked.is at c.in-Ok-check_bound.ensures.codes) in
    let three = of_coding _ (rw c.in-Known-asked-2.is at c.in-Ok-check_bound-2.ensures.codes) in
    let four = of_coding _ (rw c.in-Known-asked-3.is at c.in-Ok-check_step.ensures c.args.stand.now c.check_bound-2.new.self.fragments.now.nodes.items) in
    let five = rw c.in-Known-asked-4.is at c.in-Ok-statements.ensures.walks in
    sound_after five (sound_after four (sound_after three (sound_after two (sound_after one c.requires.sound))))

pub for_statement-emit_for-requires-clause-variable : goal.for_statement-emit_for-requires-clause-variable
for_statement-emit_for-requires-clause-variable g t c =
    let one = of_coding _ (rw c.in-Known.is at c.in-Ok.ensures.codes) in
    let two = of_coding _ (rw c.in-Known-asked.is at c.in-Ok-check_bound.ensures.codes) in
    let three = of_coding _ (rw c.in-Known-asked-2.is at c.in-Ok-check_bound-2.ensures.codes) in
    let four = of_coding _ (rw c.in-Known-asked-3.is at c.in-Ok-check_step.ensures c.args.stand.now c.check_bound-2.new.self.fragments.now.nodes.items) in
    let five = rw c.in-Known-asked-4.is at c.in-Ok-statements.ensures.walks in
    stays_coded five.works.keeps.frame five.grows c.in-Known.value (stays_coded four.works.keeps.frame four.grows c.in-Known.value (stays_coded three.works.keeps.frame three.grows c.in-Known.value (stays_coded two.works.keeps.frame two.grows c.in-Known.value (stands_after one))))

pub for_statement-emit_for-requires-clause-first : goal.for_statement-emit_for-requires-clause-first
for_statement-emit_for-requires-clause-first g t c =
    let two = of_coding _ (rw c.in-Known-asked.is at c.in-Ok-check_bound.ensures.codes) in
    let three = of_coding _ (rw c.in-Known-asked-2.is at c.in-Ok-check_bound-2.ensures.codes) in
    let four = of_coding _ (rw c.in-Known-asked-3.is at c.in-Ok-check_step.ensures c.args.stand.now c.check_bound-2.new.self.fragments.now.nodes.items) in
    let five = rw c.in-Known-asked-4.is at c.in-Ok-statements.ensures.walks in
    stays_coded five.works.keeps.frame five.grows c.in-Known-asked.value (stays_coded four.works.keeps.frame four.grows c.in-Known-asked.value (stays_coded three.works.keeps.frame three.grows c.in-Known-asked.value (stands_after two)))

pub for_statement-emit_for-requires-clause-last : goal.for_statement-emit_for-requires-clause-last
for_statement-emit_for-requires-clause-last g t c =
    let three = of_coding _ (rw c.in-Known-asked-2.is at c.in-Ok-check_bound-2.ensures.codes) in
    let four = of_coding _ (rw c.in-Known-asked-3.is at c.in-Ok-check_step.ensures c.args.stand.now c.check_bound-2.new.self.fragments.now.nodes.items) in
    let five = rw c.in-Known-asked-4.is at c.in-Ok-statements.ensures.walks in
    stays_coded five.works.keeps.frame five.grows c.in-Known-asked-2.value (stays_coded four.works.keeps.frame four.grows c.in-Known-asked-2.value (stands_after three))

pub for_statement-emit_for-requires-clause-body : goal.for_statement-emit_for-requires-clause-body
for_statement-emit_for-requires-clause-body g t c = (rw c.in-Known-asked-4.is at c.in-Ok-statements.ensures.walks).there

pub for_statement-returns-clause-walks : goal.for_statement-returns-clause-walks
for_statement-returns-clause-walks g t c =
    let s = c.args.stand.now in
    let h = c.args.limits.now in
    let ws = with_types s.withs.now in
    let first = expr_view h.first.now in
    let last = expr_view h.last.now in
    let by = option_map expr_view h.by.now in
    let body = statements (map statement_view c.args.body.now) in
    let one = of_coding _ (rw c.in-Known.is at c.in-Ok.ensures.codes) in
    let two = of_coding _ (rw c.in-Known-asked.is at c.in-Ok-check_bound.ensures.codes) in
    let three = of_coding _ (rw c.in-Known-asked-2.is at c.in-Ok-check_bound-2.ensures.codes) in
    let four = of_coding _ (rw c.in-Known-asked-3.is at c.in-Ok-check_step.ensures c.args.stand.now c.check_bound-2.new.self.fragments.now.nodes.items) in
    let five = rw c.in-Known-asked-4.is at c.in-Ok-statements.ensures.walks in
    let n1 = c.control_variable.new.self.fragments.now.nodes.items in
    let n2 = c.check_bound.new.self.fragments.now.nodes.items in
    let n3 = c.check_bound-2.new.self.fragments.now.nodes.items in
    let ms = c.statements.new.self.fragments.now.nodes.items in
    let v = c.in-Known.value in
    let x = coded_in n1 v in
    let low = coded_in n2 c.in-Known-asked.value in
    let high = coded_in n3 c.in-Known-asked-2.value in
    let step = c.in-Known-asked-3.value in
    let same : to_z w64 (of_z w64 step) ≡ step = search rules in
    let bound = λ (k : Context) (z : coded.Coded) (e : Expr). and_then (value k ws e) (bound_value k z (expr_at e)) in
    let stepped = λ (k : Context). and_then (by_of (stand_in k s) by) (λ n. gives (or_one n)) in
    let turned = λ (k : Context) (z from upto : coded.Coded) (n : ℤ). and_then (flow_of (stand_in k s) body) (λ b. gives (for_flow k z from upto n b)) in
    let r = c.emit_for.result in
    let f = flow_in c.statements.new.self.fragments.now.nodes.items c.in-Known-asked-4.value 0 in
    let v1 = stands_after one in
    let v3 = stays_coded three.works.keeps.frame three.grows v (stays_coded two.works.keeps.frame two.grows v v1) in
    let low2 = stands_after two in
    let low3 = stays_coded three.works.keeps.frame three.grows c.in-Known-asked.value low2 in
    described r (flowing_after (λ k. control_variable k ws c.args.name) (λ z k. and_then (bound k z first) (λ from. and_then (bound k z last) (λ upto. and_then (stepped k) (turned k z from upto)))) r one
    (flowing_after (λ k. bound k x first) (λ from k. and_then (bound k x last) (λ upto. and_then (stepped k) (turned k x from upto))) r two
    (flowing_after (λ k. bound k x last) (λ upto k. and_then (stepped k) (turned k x low upto)) r
    (described _ three (λ k. ap (λ (z : coded.Coded). bound k z last) (coded_kept two.grows v v1)))
    (flowing_after stepped (λ n k. turned k x low high n) r four
    (flowing_after (λ k. flow_of (stand_in k s) body) (λ b k. gives (for_flow k x low high step b)) r five
    (described r (c.emit_for.ensures c.statements.new.self.notes.now f (stands_for five))
    (λ k. ap (λ (n : ℤ). gives (for_flow k (coded_in ms v) (coded_in ms c.in-Known-asked.value) (coded_in ms c.in-Known-asked-2.value) n f)) same
    ∙ ap (λ (z : coded.Coded). gives (for_flow k z (coded_in ms c.in-Known-asked.value) (coded_in ms c.in-Known-asked-2.value) step f)) (coded_kept five.grows v v3 ∙ coded_kept three.grows v (stays_coded two.works.keeps.frame two.grows v v1) ∙ coded_kept two.grows v v1)
    ∙ ap (λ (z : coded.Coded). gives (for_flow k x z (coded_in ms c.in-Known-asked-2.value) step f)) (coded_kept five.grows c.in-Known-asked.value low3 ∙ coded_kept three.grows c.in-Known-asked.value low2)
    ∙ ap (λ (z : coded.Coded). gives (for_flow k x low z step f)) (coded_kept five.grows c.in-Known-asked-2.value (stands_after three)))))))))
    (λ k. for_given (stand_in k s) c.args.name first last by body)

pub in_record-returns-in_err-withs-clause-walks : goal.in_record-returns-in_err-withs-clause-walks
in_record-returns-in_err-withs-clause-walks g t c = wanted_first (g.S.Scopes.state c.args.self.now.scopes.now) c.args.self.now.notes.now c.args.self.now.fragments.now.nodes.items c.args.stand.now.site.now c.from_residual.result c.from_residual.ensures.0

pub in_record-statements-requires : goal.in_record-statements-requires
in_record-statements-requires g t c κs within =
    (lower (most size-Statement c.args.body.now) 2 0 t c.decreases, (within, (record { suits = c.requires.stand.suits; item = c.requires.stand.item; result = c.requires.stand.result; withs = rw c.deref.ensures.value (more_open (g.S.Scopes.state c.args.self.now.scopes.now).frame c.args.stand.now.withs.now c.in_ok-withs.withs.items (operand_type c.args.x.operand) (rw c.operand_type.ensures at c.in_ok-withs.ensures) (type_there c.requires.stand.suits.around c.args.x.operand c.requires.x.operand) c.requires.stand.withs) }, (c.requires.sound, (c.requires.read)))))

pub in_record-returns-in-DontKnowYet-clause-walks : goal.in_record-returns-in-DontKnowYet-clause-walks
in_record-returns-in-DontKnowYet-clause-walks g t c = unknown (rw c.in-DontKnowYet.is at c.in-Ok.ensures.walks)

pub in_record-returns-in-Err-clause-walks : goal.in_record-returns-in-Err-clause-walks
in_record-returns-in-Err-clause-walks g t c = unmade c.in-Err.ensures.walks _

pub in_record-with_made-requires-clause-sound : goal.in_record-with_made-requires-clause-sound
in_record-with_made-requires-clause-sound g t c = sound_after (rw c.in-Known.is at c.in-Ok.ensures.walks) c.requires.sound

pub in_record-with_made-requires-clause-address : goal.in_record-with_made-requires-clause-address
in_record-with_made-requires-clause-address g t c = in_later (rw c.in-Known.is at c.in-Ok.ensures.walks).grows c.args.x.code c.requires.x.code

pub in_record-with_made-requires-clause-body : goal.in_record-with_made-requires-clause-body
in_record-with_made-requires-clause-body g t c = (rw c.in-Known.is at c.in-Ok.ensures.walks).there

pub in_record-returns-clause-walks : goal.in_record-returns-clause-walks
in_record-returns-clause-walks g t c =
    let code = coded_in c.args.self.now.fragments.now.nodes.items c.args.x in
    let one = described _ (rw c.in-Known.is at c.in-Ok.ensures.walks) (λ k. ap (λ (ws : List Place). flow_of (record { context = k; result = c.args.stand.now.result; withs = ws; looped = c.args.stand.now.looped }) (statements (map statement_view c.args.body.now))) (ap with_types c.deref.ensures.value ∙ (rw c.operand_type.ensures at c.in_ok-withs.ensures))) in
    by_answer c.with_made.result c.answered.result c.answered.ensures
    (described _ (made_after (λ k. flow_of (record (stand_in k c.args.stand.now) { withs = operand_type c.args.x.operand ∷ with_types c.args.stand.now.withs.now }) (statements (map statement_view c.args.body.now))) (λ b. stored_before code.code (λ n. in_with n b)) c.with_made.result one c.with_made.ensures (λ u same cell. with_same one.grows c.args.x.code c.in-Known.value c.requires.x.code u same))
    (λ k. good_with (stand_in k c.args.stand.now) code (statements (map statement_view c.args.body.now)) c.requires.good))

pub with_statement-returns-in-DontKnowYet-clause-walks : goal.with_statement-returns-in-DontKnowYet-clause-walks
with_statement-returns-in-DontKnowYet-clause-walks g t c = unknown (of_coding _ (rw c.in-DontKnowYet.is at c.in-Ok.ensures.codes))

pub with_statement-returns-in-Err-clause-walks : goal.with_statement-returns-in-Err-clause-walks
with_statement-returns-in-Err-clause-walks g t c = unmade (of_coding _ c.in-Err.ensures.codes) _

pub with_statement-statements-requires : goal.with_statement-statements-requires
with_statement-statements-requires g t c κs within =
    let one = of_coding _ (rw c.in-Known.is at c.in-Ok.ensures.codes) in
    (lower (most size-Statement c.args.body.now) 2 2 t c.decreases, (within, (stand_after one c.args.stand.now c.requires.stand, (sound_after one c.requires.sound, c.requires.read))))

pub with_statement-returns-in-DontKnowYet-asked-clause-walks : goal.with_statement-returns-in-DontKnowYet-asked-clause-walks
with_statement-returns-in-DontKnowYet-asked-clause-walks g t c =
    unknown_after (of_coding _ (rw c.in-Known.is at c.in-Ok.ensures.codes)) (rw c.in-DontKnowYet-asked.is at c.in-Ok-statements.ensures.walks)

pub with_statement-returns-in-Err-statements-clause-walks : goal.with_statement-returns-in-Err-statements-clause-walks
with_statement-returns-in-Err-statements-clause-walks g t c = unmade_after (of_coding _ (rw c.in-Known.is at c.in-Ok.ensures.codes)) c.in-Err-statements.ensures.walks _

pub with_statement-returns-then-is_bad-clause-walks : goal.with_statement-returns-then-is_bad-clause-walks
with_statement-returns-then-is_bad-clause-walks g t c =
    let one = of_coding _ (rw c.in-Known.is at c.in-Ok.ensures.codes) in
    let two = rw c.in-Known-asked.is at c.in-Ok-statements.ensures.walks in
    let s = c.args.stand.now in
    let of = designator_view c.args.of.now in
    let body = statements (map statement_view c.args.body.now) in
    let x = coded_in c.record_of.new.self.fragments.now.nodes.items c.in-Known.value in
    described _ (flowing_after (λ k. record_of (stand_in k s) of) (λ y k. with_body (stand_in k s) y body) c.answered.result one
    (by_answer c.with_cell.result c.answered.result c.answered.ensures
    (described _ (made_after (λ k. flow_of (stand_in k s) body) (λ b. with_cell (λ n. b)) c.with_cell.result two (c.with_cell.ensures c.statements.new.self.fragments.now.nodes.items two.there) (λ u same cell. ap (λ (h : ℕ → flow.Flow). with_cell h) (fun_ext same)))
    (λ k. bad_with (stand_in k s) x body (sym c.is_bad.ensures ∙ c.if-is_bad.true)))))
    (λ k. with_given (stand_in k s) of body)

pub with_statement-in_record-requires : goal.with_statement-in_record-requires
with_statement-in_record-requires g t c κs within =
    let one = of_coding _ (rw c.in-Known.is at c.in-Ok.ensures.codes) in
    (lower (most size-Statement c.args.body.now) 3 1 t c.decreases, (within, (stand_after one c.args.stand.now c.requires.stand, (sound_after one c.requires.sound, (stands_after one, (sym c.is_bad.ensures ∙ c.if-is_bad.false, c.requires.read))))))

pub with_statement-returns-clause-walks : goal.with_statement-returns-clause-walks
with_statement-returns-clause-walks g t c =
    described _ (flowing_after (λ k. record_of (stand_in k c.args.stand.now) (designator_view c.args.of.now)) (λ x k. with_body (stand_in k c.args.stand.now) x (statements (map statement_view c.args.body.now))) c.in_record.result (of_coding _ (rw c.in-Known.is at c.in-Ok.ensures.codes)) c.in_record.ensures.walks)
    (λ k. with_given (stand_in k c.args.stand.now) (designator_view c.args.of.now) (statements (map statement_view c.args.body.now)))

pub statement-assign_statement-requires-clause-to : goal.statement-assign_statement-requires-clause-to
statement-assign_statement-requires-clause-to g t c =
    (form_read c.args.stand.now.site.now.texts.now.names c.args.of.now _ (ap stmt_form_view c.in-Assign.is ∙ assign_seen c.in-Assign.to c.in-Assign.value) c.requires.read).0

pub statement-assign_statement-requires-clause-value : goal.statement-assign_statement-requires-clause-value
statement-assign_statement-requires-clause-value g t c =
    (form_read c.args.stand.now.site.now.texts.now.names c.args.of.now _ (ap stmt_form_view c.in-Assign.is ∙ assign_seen c.in-Assign.to c.in-Assign.value) c.requires.read).1

pub statement-returns-in-Assign-clause-walks : goal.statement-returns-in-Assign-clause-walks
statement-returns-in-Assign-clause-walks g t c =
    described _ c.assign_statement.ensures.walks (λ k. statement_given (stand_in k c.args.stand.now) c.args.of.now _ (ap stmt_form_view c.in-Assign.is ∙ assign_seen c.in-Assign.to c.in-Assign.value))

pub statement-called_statement-requires-clause-to : goal.statement-called_statement-requires-clause-to
statement-called_statement-requires-clause-to g t c =
    (form_read c.args.stand.now.site.now.texts.now.names c.args.of.now _ (ap stmt_form_view c.in-Call.is ∙ invoke_seen c.in-Call.to c.in-Call.args) c.requires.read).0

pub statement-called_statement-requires-clause-args : goal.statement-called_statement-requires-clause-args
statement-called_statement-requires-clause-args g t c =
    rw c.deref.ensures.value (form_read c.args.stand.now.site.now.texts.now.names c.args.of.now _ (ap stmt_form_view c.in-Call.is ∙ invoke_seen c.in-Call.to c.in-Call.args) c.requires.read).1

pub statement-returns-in-Call-clause-walks : goal.statement-returns-in-Call-clause-walks
statement-returns-in-Call-clause-walks g t c =
    described _ (rw c.deref.ensures.value at c.called_statement.ensures.walks) (λ k. statement_given (stand_in k c.args.stand.now) c.args.of.now _ (ap stmt_form_view c.in-Call.is ∙ invoke_seen c.in-Call.to c.in-Call.args))

pub statement-if_statement-requires : goal.statement-if_statement-requires
statement-if_statement-requires g t c κs within =
    let read = form_read c.args.stand.now.site.now.texts.now.names c.args.of.now _ (ap stmt_form_view c.in-If.is ∙ if_seen c.in-If.arms c.in-If.other) c.requires.read in
    ((let small = if_smaller c.args.of.now c.in-If.arms c.in-If.other c.in-If.is in let less = else_smaller c.args.of.now c.in-If.arms c.in-If.other c.in-If.is in let same = ap (most size-IfArm) c.deref-in-If.ensures.value in let alike = ap (most size-Statement) c.deref-in-If-2.ensures.value in parts_lower _ _ _ _ _ 4 3 t same alike small less refl c.decreases), (within, (c.requires.stand, (c.requires.sound, (rw c.deref-in-If.ensures.value read.0, (rw c.deref-in-If-2.ensures.value read.1))))))

pub statement-returns-in-If-clause-walks : goal.statement-returns-in-If-clause-walks
statement-returns-in-If-clause-walks g t c =
    described _ (rw c.deref-in-If-2.ensures.value at (rw c.deref-in-If.ensures.value at c.if_statement.ensures.walks)) (λ k. statement_given (stand_in k c.args.stand.now) c.args.of.now _ (ap stmt_form_view c.in-If.is ∙ if_seen c.in-If.arms c.in-If.other))

pub statement-loop_statement-requires : goal.statement-loop_statement-requires
statement-loop_statement-requires g t c κs within =
    ((let small = loop_smaller c.args.of.now c.in-Loop.body c.in-Loop.is in let same0 = ap (most size-Statement) c.deref-in-Loop.ensures.value in part_lower _ _ _ 3 4 t same0 small refl c.decreases), (within, (c.requires.stand, (c.requires.sound, (rw c.deref-in-Loop.ensures.value (form_read c.args.stand.now.site.now.texts.now.names c.args.of.now _ (ap stmt_form_view c.in-Loop.is ∙ loop_seen c.in-Loop.body) c.requires.read))))))

pub statement-returns-in-Loop-clause-walks : goal.statement-returns-in-Loop-clause-walks
statement-returns-in-Loop-clause-walks g t c =
    described _ (rw c.deref-in-Loop.ensures.value at c.loop_statement.ensures.walks) (λ k. statement_given (stand_in k c.args.stand.now) c.args.of.now _ (ap stmt_form_view c.in-Loop.is ∙ loop_seen c.in-Loop.body))

pub statement-returns-in-Exit-clause-walks : goal.statement-returns-in-Exit-clause-walks
statement-returns-in-Exit-clause-walks g t c =
    described _ (c.exit_statement.ensures (g.S.Scopes.state c.args.self.now.scopes.now) c.args.self.now.fragments.now.nodes.items) (λ k. statement_given (stand_in k c.args.stand.now) c.args.of.now _ (ap stmt_form_view c.in-Exit.is ∙ exit_seen))

pub statement-case_statement-requires : goal.statement-case_statement-requires
statement-case_statement-requires g t c κs within =
    let read = form_read c.args.stand.now.site.now.texts.now.names c.args.of.now _ (ap stmt_form_view c.in-Case.is ∙ case_seen c.in-Case.value c.in-Case.arms c.in-Case.other) c.requires.read in
    ((let small = case_smaller c.args.of.now c.in-Case.value c.in-Case.arms c.in-Case.other c.in-Case.is in let less = rest_smaller c.args.of.now c.in-Case.value c.in-Case.arms c.in-Case.other c.in-Case.is in let same = ap (most size-CaseArm) c.deref-in-Case.ensures.value in parts_lower _ _ _ _ _ 5 2 t same refl small less refl c.decreases), (within, (c.requires.stand, (c.requires.sound, (read.0, (rw c.deref-in-Case.ensures.value read.1, (read.2)))))))

pub statement-returns-in-Case-clause-walks : goal.statement-returns-in-Case-clause-walks
statement-returns-in-Case-clause-walks g t c =
    described _ (rw c.deref-in-Case.ensures.value at c.case_statement.ensures.walks) (λ k. statement_given (stand_in k c.args.stand.now) c.args.of.now _ (ap stmt_form_view c.in-Case.is ∙ case_seen c.in-Case.value c.in-Case.arms c.in-Case.other))

pub statement-while_statement-requires : goal.statement-while_statement-requires
statement-while_statement-requires g t c κs within =
    let read = form_read c.args.stand.now.site.now.texts.now.names c.args.of.now _ (ap stmt_form_view c.in-While.is ∙ while_seen c.in-While.test c.in-While.body) c.requires.read in
    ((let small = while_smaller c.args.of.now c.in-While.test c.in-While.body c.in-While.is in let same0 = ap (most size-Statement) c.deref-in-While.ensures.value in part_lower _ _ _ 3 4 t same0 small refl c.decreases), (within, (c.requires.stand, (c.requires.sound, (read.0, (rw c.deref-in-While.ensures.value read.1))))))

pub statement-returns-in-While-clause-walks : goal.statement-returns-in-While-clause-walks
statement-returns-in-While-clause-walks g t c =
    described _ (rw c.deref-in-While.ensures.value at c.while_statement.ensures.walks) (λ k. statement_given (stand_in k c.args.stand.now) c.args.of.now _ (ap stmt_form_view c.in-While.is ∙ while_seen c.in-While.test c.in-While.body))

pub statement-repeat_statement-requires : goal.statement-repeat_statement-requires
statement-repeat_statement-requires g t c κs within =
    let read = form_read c.args.stand.now.site.now.texts.now.names c.args.of.now _ (ap stmt_form_view c.in-Repeat.is ∙ repeat_seen c.in-Repeat.body c.in-Repeat.test) c.requires.read in
    ((let small = repeat_smaller c.args.of.now c.in-Repeat.body c.in-Repeat.test c.in-Repeat.is in let same0 = ap (most size-Statement) c.deref-in-Repeat.ensures.value in part_lower _ _ _ 3 4 t same0 small refl c.decreases), (within, (c.requires.stand, (c.requires.sound, (rw c.deref-in-Repeat.ensures.value read.0, (read.1))))))

pub statement-returns-in-Repeat-clause-walks : goal.statement-returns-in-Repeat-clause-walks
statement-returns-in-Repeat-clause-walks g t c =
    described _ (rw c.deref-in-Repeat.ensures.value at c.repeat_statement.ensures.walks) (λ k. statement_given (stand_in k c.args.stand.now) c.args.of.now _ (ap stmt_form_view c.in-Repeat.is ∙ repeat_seen c.in-Repeat.body c.in-Repeat.test))

pub statement-for_statement-requires : goal.statement-for_statement-requires
statement-for_statement-requires g t c κs within =
    let read = form_read c.args.stand.now.site.now.texts.now.names c.args.of.now _ (ap stmt_form_view c.in-For.is ∙ for_seen c.in-For.name c.in-For.first c.in-For.last c.in-For.by c.in-For.body) c.requires.read in
    ((let small = for_smaller c.args.of.now c.in-For.name c.in-For.first c.in-For.last c.in-For.by c.in-For.body c.in-For.is in let same0 = ap (most size-Statement) c.deref-in-For.ensures.value in part_lower _ _ _ 3 4 t same0 small refl c.decreases), (within, (c.requires.stand, (c.requires.sound, (read.0, (read.1, (read.2, (read.3, (rw c.deref-in-For.ensures.value read.4)))))))))

pub statement-returns-in-For-clause-walks : goal.statement-returns-in-For-clause-walks
statement-returns-in-For-clause-walks g t c =
    described _ (rw c.deref-in-For.ensures.value at c.for_statement.ensures.walks) (λ k. statement_given (stand_in k c.args.stand.now) c.args.of.now _ (ap stmt_form_view c.in-For.is ∙ for_seen c.in-For.name c.in-For.first c.in-For.last c.in-For.by c.in-For.body))

pub statement-with_statement-requires : goal.statement-with_statement-requires
statement-with_statement-requires g t c κs within =
    let read = form_read c.args.stand.now.site.now.texts.now.names c.args.of.now _ (ap stmt_form_view c.in-With.is ∙ with_seen c.in-With.of c.in-With.body) c.requires.read in
    ((let small = with_smaller c.args.of.now c.in-With.of c.in-With.body c.in-With.is in let same0 = ap (most size-Statement) c.deref-in-With.ensures.value in part_lower _ _ _ 5 2 t same0 small refl c.decreases), (within, (c.requires.stand, (c.requires.sound, (read.0, (rw c.deref-in-With.ensures.value read.1))))))

pub statement-returns-in-With-clause-walks : goal.statement-returns-in-With-clause-walks
statement-returns-in-With-clause-walks g t c =
    described _ (rw c.deref-in-With.ensures.value at c.with_statement.ensures.walks) (λ k. statement_given (stand_in k c.args.stand.now) c.args.of.now _ (ap stmt_form_view c.in-With.is ∙ with_seen c.in-With.of c.in-With.body))

pub statement-return_statement-requires-clause-value : goal.statement-return_statement-requires-clause-value
statement-return_statement-requires-clause-value g t c = (form_read c.args.stand.now.site.now.texts.now.names c.args.of.now _ (ap stmt_form_view c.in-Return.is ∙ return_seen c.in-Return.value) c.requires.read)

pub statement-returns-in-Return-clause-walks : goal.statement-returns-in-Return-clause-walks
statement-returns-in-Return-clause-walks g t c =
    described _ c.return_statement.ensures.walks (λ k. statement_given (stand_in k c.args.stand.now) c.args.of.now _ (ap stmt_form_view c.in-Return.is ∙ return_seen c.in-Return.value))

pub statement-returns-in-Empty-clause-walks : goal.statement-returns-in-Empty-clause-walks
statement-returns-in-Empty-clause-walks g t c =
    described _ (value_alone (g.S.Scopes.state c.args.self.now.scopes.now) c.args.self.now.notes.now c.args.self.now.fragments.now.nodes.items c.args.stand.now.site.now c.nothing.result IsFlow flow_in (λ k. nothing) (c.nothing.ensures c.args.self.now.fragments.now.nodes.items).there (λ k cell. (c.nothing.ensures c.args.self.now.fragments.now.nodes.items).flow_is cell)) (λ k. statement_given (stand_in k c.args.stand.now) c.args.of.now _ (ap stmt_form_view c.in-Empty.is ∙ empty_seen))

pub statements-returns-in-DontKnowYet-clause-keeps : goal.statements-returns-in-DontKnowYet-clause-keeps
statements-returns-in-DontKnowYet-clause-keeps g t c = Keeps-trans c.loop-of.invariant.0 c.statement.ensures.keeps

pub statements-returns-in-Err-clause-keeps : goal.statements-returns-in-Err-clause-keeps
statements-returns-in-Err-clause-keeps g t c = Keeps-trans c.loop-of.invariant.0 c.statement.ensures.keeps

pub statements-returns-in_err-push-clause-keeps : goal.statements-returns-in_err-push-clause-keeps
statements-returns-in_err-push-clause-keeps g t c = Keeps-trans c.loop-of.invariant.0 c.statement.ensures.keeps

pub statements-returns-clause-keeps : goal.statements-returns-clause-keeps
statements-returns-clause-keeps g t c = c.loop-of.invariant.0

pub otherwise-returns-then-is_empty-clause-keeps : goal.otherwise-returns-then-is_empty-clause-keeps
otherwise-returns-then-is_empty-clause-keeps g t c = Keeps-refl c.args.self.now

pub otherwise-returns-in-DontKnowYet-clause-keeps : goal.otherwise-returns-in-DontKnowYet-clause-keeps
otherwise-returns-in-DontKnowYet-clause-keeps g t c = c.statements.ensures.keeps

pub otherwise-returns-in-Err-clause-keeps : goal.otherwise-returns-in-Err-clause-keeps
otherwise-returns-in-Err-clause-keeps g t c = c.statements.ensures.keeps

pub otherwise-returns-in_err-held-clause-keeps : goal.otherwise-returns-in_err-held-clause-keeps
otherwise-returns-in_err-held-clause-keeps g t c = c.statements.ensures.keeps

pub otherwise-returns-clause-keeps : goal.otherwise-returns-clause-keeps
otherwise-returns-clause-keeps g t c = c.statements.ensures.keeps

pub if_arms_made-returns-in-DontKnowYet-clause-keeps : goal.if_arms_made-returns-in-DontKnowYet-clause-keeps
if_arms_made-returns-in-DontKnowYet-clause-keeps g t c = Keeps-trans c.loop-arm.invariant.0 c.test.ensures.keeps

pub if_arms_made-returns-in-Err-clause-keeps : goal.if_arms_made-returns-in-Err-clause-keeps
if_arms_made-returns-in-Err-clause-keeps g t c = Keeps-trans c.loop-arm.invariant.0 c.test.ensures.keeps

pub if_arms_made-returns-in-DontKnowYet-asked-clause-keeps : goal.if_arms_made-returns-in-DontKnowYet-asked-clause-keeps
if_arms_made-returns-in-DontKnowYet-asked-clause-keeps g t c = Keeps-trans (Keeps-trans c.loop-arm.invariant.0 c.test.ensures.keeps) c.statements.ensures.keeps

pub if_arms_made-returns-in-Err-statements-clause-keeps : goal.if_arms_made-returns-in-Err-statements-clause-keeps
if_arms_made-returns-in-Err-statements-clause-keeps g t c = Keeps-trans (Keeps-trans c.loop-arm.invariant.0 c.test.ensures.keeps) c.statements.ensures.keeps

pub if_arms_made-returns-in_err-push-clause-keeps : goal.if_arms_made-returns-in_err-push-clause-keeps
if_arms_made-returns-in_err-push-clause-keeps g t c = Keeps-trans (Keeps-trans c.loop-arm.invariant.0 c.test.ensures.keeps) c.statements.ensures.keeps

pub if_arms_made-returns-clause-keeps : goal.if_arms_made-returns-clause-keeps
if_arms_made-returns-clause-keeps g t c = c.loop-arm.invariant.0

pub if_statement-returns-in-DontKnowYet-clause-keeps : goal.if_statement-returns-in-DontKnowYet-clause-keeps
if_statement-returns-in-DontKnowYet-clause-keeps g t c = c.if_arms_made.ensures.keeps

pub if_statement-returns-in-Err-clause-keeps : goal.if_statement-returns-in-Err-clause-keeps
if_statement-returns-in-Err-clause-keeps g t c = c.if_arms_made.ensures.keeps

pub if_statement-returns-in-DontKnowYet-asked-clause-keeps : goal.if_statement-returns-in-DontKnowYet-asked-clause-keeps
if_statement-returns-in-DontKnowYet-asked-clause-keeps g t c = Keeps-trans c.if_arms_made.ensures.keeps c.otherwise.ensures.keeps

pub if_statement-returns-in-Err-otherwise-clause-keeps : goal.if_statement-returns-in-Err-otherwise-clause-keeps
if_statement-returns-in-Err-otherwise-clause-keeps g t c = Keeps-trans c.if_arms_made.ensures.keeps c.otherwise.ensures.keeps

pub if_statement-returns-clause-keeps : goal.if_statement-returns-clause-keeps
if_statement-returns-clause-keeps g t c = Keeps-trans c.if_arms_made.ensures.keeps c.otherwise.ensures.keeps

pub loop_statement-returns-in-DontKnowYet-clause-keeps : goal.loop_statement-returns-in-DontKnowYet-clause-keeps
loop_statement-returns-in-DontKnowYet-clause-keeps g t c = c.statements.ensures.keeps

pub loop_statement-returns-in-Err-clause-keeps : goal.loop_statement-returns-in-Err-clause-keeps
loop_statement-returns-in-Err-clause-keeps g t c = c.statements.ensures.keeps

pub loop_statement-returns-clause-keeps : goal.loop_statement-returns-clause-keeps
loop_statement-returns-clause-keeps g t c = c.statements.ensures.keeps

pub case_arms_made-returns-in-DontKnowYet-clause-keeps : goal.case_arms_made-returns-in-DontKnowYet-clause-keeps
case_arms_made-returns-in-DontKnowYet-clause-keeps g t c = Keeps-trans c.loop-arm.invariant.0 c.case_arm.ensures.keeps

pub case_arms_made-returns-in-Err-clause-keeps : goal.case_arms_made-returns-in-Err-clause-keeps
case_arms_made-returns-in-Err-clause-keeps g t c = Keeps-trans c.loop-arm.invariant.0 c.case_arm.ensures.keeps

pub case_arms_made-returns-in_err-push-clause-keeps : goal.case_arms_made-returns-in_err-push-clause-keeps
case_arms_made-returns-in_err-push-clause-keeps g t c = Keeps-trans c.loop-arm.invariant.0 c.case_arm.ensures.keeps

pub case_arms_made-returns-clause-keeps : goal.case_arms_made-returns-clause-keeps
case_arms_made-returns-clause-keeps g t c = c.loop-arm.invariant.0

pub case_else-returns-in-Some-clause-keeps : goal.case_else-returns-in-Some-clause-keeps
case_else-returns-in-Some-clause-keeps g t c = c.statements.ensures.keeps

pub case_statement-returns-in-DontKnowYet-clause-keeps : goal.case_statement-returns-in-DontKnowYet-clause-keeps
case_statement-returns-in-DontKnowYet-clause-keeps g t c = c.selector.ensures.keeps

pub case_statement-returns-in-Err-clause-keeps : goal.case_statement-returns-in-Err-clause-keeps
case_statement-returns-in-Err-clause-keeps g t c = c.selector.ensures.keeps

pub case_statement-returns-in-DontKnowYet-asked-clause-keeps : goal.case_statement-returns-in-DontKnowYet-asked-clause-keeps
case_statement-returns-in-DontKnowYet-asked-clause-keeps g t c = Keeps-trans c.selector.ensures.keeps c.case_arms_made.ensures.keeps

pub case_statement-returns-in-Err-case_arms_made-clause-keeps : goal.case_statement-returns-in-Err-case_arms_made-clause-keeps
case_statement-returns-in-Err-case_arms_made-clause-keeps g t c = Keeps-trans c.selector.ensures.keeps c.case_arms_made.ensures.keeps

pub case_statement-returns-in-DontKnowYet-asked-2-clause-keeps : goal.case_statement-returns-in-DontKnowYet-asked-2-clause-keeps
case_statement-returns-in-DontKnowYet-asked-2-clause-keeps g t c = Keeps-trans (Keeps-trans c.selector.ensures.keeps c.case_arms_made.ensures.keeps) c.case_else.ensures.keeps

pub case_statement-returns-in-Err-case_else-clause-keeps : goal.case_statement-returns-in-Err-case_else-clause-keeps
case_statement-returns-in-Err-case_else-clause-keeps g t c = Keeps-trans (Keeps-trans c.selector.ensures.keeps c.case_arms_made.ensures.keeps) c.case_else.ensures.keeps

pub case_statement-returns-clause-keeps : goal.case_statement-returns-clause-keeps
case_statement-returns-clause-keeps g t c = Keeps-trans (Keeps-trans c.selector.ensures.keeps c.case_arms_made.ensures.keeps) c.case_else.ensures.keeps

pub while_statement-returns-in-DontKnowYet-clause-keeps : goal.while_statement-returns-in-DontKnowYet-clause-keeps
while_statement-returns-in-DontKnowYet-clause-keeps g t c = c.test.ensures.keeps

pub while_statement-returns-in-Err-clause-keeps : goal.while_statement-returns-in-Err-clause-keeps
while_statement-returns-in-Err-clause-keeps g t c = c.test.ensures.keeps

pub while_statement-returns-in-DontKnowYet-asked-clause-keeps : goal.while_statement-returns-in-DontKnowYet-asked-clause-keeps
while_statement-returns-in-DontKnowYet-asked-clause-keeps g t c = Keeps-trans c.test.ensures.keeps c.statements.ensures.keeps

pub while_statement-returns-in-Err-statements-clause-keeps : goal.while_statement-returns-in-Err-statements-clause-keeps
while_statement-returns-in-Err-statements-clause-keeps g t c = Keeps-trans c.test.ensures.keeps c.statements.ensures.keeps

pub while_statement-returns-clause-keeps : goal.while_statement-returns-clause-keeps
while_statement-returns-clause-keeps g t c = Keeps-trans c.test.ensures.keeps c.statements.ensures.keeps

pub repeat_statement-returns-in-DontKnowYet-clause-keeps : goal.repeat_statement-returns-in-DontKnowYet-clause-keeps
repeat_statement-returns-in-DontKnowYet-clause-keeps g t c = c.statements.ensures.keeps

pub repeat_statement-returns-in-Err-clause-keeps : goal.repeat_statement-returns-in-Err-clause-keeps
repeat_statement-returns-in-Err-clause-keeps g t c = c.statements.ensures.keeps

pub repeat_statement-returns-in-DontKnowYet-asked-clause-keeps : goal.repeat_statement-returns-in-DontKnowYet-asked-clause-keeps
repeat_statement-returns-in-DontKnowYet-asked-clause-keeps g t c = Keeps-trans c.statements.ensures.keeps c.test.ensures.keeps

pub repeat_statement-returns-in-Err-test-clause-keeps : goal.repeat_statement-returns-in-Err-test-clause-keeps
repeat_statement-returns-in-Err-test-clause-keeps g t c = Keeps-trans c.statements.ensures.keeps c.test.ensures.keeps

pub repeat_statement-returns-clause-keeps : goal.repeat_statement-returns-clause-keeps
repeat_statement-returns-clause-keeps g t c = Keeps-trans c.statements.ensures.keeps c.test.ensures.keeps

pub for_statement-returns-in-DontKnowYet-clause-keeps : goal.for_statement-returns-in-DontKnowYet-clause-keeps
for_statement-returns-in-DontKnowYet-clause-keeps g t c = c.control_variable.ensures.keeps

pub for_statement-returns-in-Err-clause-keeps : goal.for_statement-returns-in-Err-clause-keeps
for_statement-returns-in-Err-clause-keeps g t c = c.control_variable.ensures.keeps

pub for_statement-returns-in-DontKnowYet-asked-clause-keeps : goal.for_statement-returns-in-DontKnowYet-asked-clause-keeps
for_statement-returns-in-DontKnowYet-asked-clause-keeps g t c = Keeps-trans c.control_variable.ensures.keeps c.check_bound.ensures.keeps

pub for_statement-returns-in-Err-check_bound-clause-keeps : goal.for_statement-returns-in-Err-check_bound-clause-keeps
for_statement-returns-in-Err-check_bound-clause-keeps g t c = Keeps-trans c.control_variable.ensures.keeps c.check_bound.ensures.keeps

pub for_statement-returns-in-DontKnowYet-asked-2-clause-keeps : goal.for_statement-returns-in-DontKnowYet-asked-2-clause-keeps
for_statement-returns-in-DontKnowYet-asked-2-clause-keeps g t c = Keeps-trans (Keeps-trans c.control_variable.ensures.keeps c.check_bound.ensures.keeps) c.check_bound-2.ensures.keeps

pub for_statement-returns-in-Err-check_bound-2-clause-keeps : goal.for_statement-returns-in-Err-check_bound-2-clause-keeps
for_statement-returns-in-Err-check_bound-2-clause-keeps g t c = Keeps-trans (Keeps-trans c.control_variable.ensures.keeps c.check_bound.ensures.keeps) c.check_bound-2.ensures.keeps

pub in_record-returns-in_err-withs-clause-keeps : goal.in_record-returns-in_err-withs-clause-keeps
in_record-returns-in_err-withs-clause-keeps g t c = Keeps-refl c.args.self.now

pub in_record-returns-in-DontKnowYet-clause-keeps : goal.in_record-returns-in-DontKnowYet-clause-keeps
in_record-returns-in-DontKnowYet-clause-keeps g t c = c.statements.ensures.keeps

pub in_record-returns-in-Err-clause-keeps : goal.in_record-returns-in-Err-clause-keeps
in_record-returns-in-Err-clause-keeps g t c = c.statements.ensures.keeps

pub in_record-returns-clause-keeps : goal.in_record-returns-clause-keeps
in_record-returns-clause-keeps g t c = c.statements.ensures.keeps

pub with_statement-returns-in-DontKnowYet-clause-keeps : goal.with_statement-returns-in-DontKnowYet-clause-keeps
with_statement-returns-in-DontKnowYet-clause-keeps g t c = c.record_of.ensures.keeps

pub with_statement-returns-in-Err-clause-keeps : goal.with_statement-returns-in-Err-clause-keeps
with_statement-returns-in-Err-clause-keeps g t c = c.record_of.ensures.keeps

pub with_statement-returns-in-DontKnowYet-asked-clause-keeps : goal.with_statement-returns-in-DontKnowYet-asked-clause-keeps
with_statement-returns-in-DontKnowYet-asked-clause-keeps g t c = Keeps-trans c.record_of.ensures.keeps c.statements.ensures.keeps

pub with_statement-returns-in-Err-statements-clause-keeps : goal.with_statement-returns-in-Err-statements-clause-keeps
with_statement-returns-in-Err-statements-clause-keeps g t c = Keeps-trans c.record_of.ensures.keeps c.statements.ensures.keeps

pub with_statement-returns-then-is_bad-clause-keeps : goal.with_statement-returns-then-is_bad-clause-keeps
with_statement-returns-then-is_bad-clause-keeps g t c = Keeps-trans c.record_of.ensures.keeps c.statements.ensures.keeps

pub with_statement-returns-clause-keeps : goal.with_statement-returns-clause-keeps
with_statement-returns-clause-keeps g t c = Keeps-trans c.record_of.ensures.keeps c.in_record.ensures.keeps

pub statement-returns-in-Assign-clause-keeps : goal.statement-returns-in-Assign-clause-keeps
statement-returns-in-Assign-clause-keeps g t c = c.assign_statement.ensures.keeps

pub statement-returns-in-Call-clause-keeps : goal.statement-returns-in-Call-clause-keeps
statement-returns-in-Call-clause-keeps g t c = c.called_statement.ensures.keeps

pub statement-returns-in-If-clause-keeps : goal.statement-returns-in-If-clause-keeps
statement-returns-in-If-clause-keeps g t c = c.if_statement.ensures.keeps

pub statement-returns-in-Loop-clause-keeps : goal.statement-returns-in-Loop-clause-keeps
statement-returns-in-Loop-clause-keeps g t c = c.loop_statement.ensures.keeps

pub statement-returns-in-Case-clause-keeps : goal.statement-returns-in-Case-clause-keeps
statement-returns-in-Case-clause-keeps g t c = c.case_statement.ensures.keeps

pub statement-returns-in-While-clause-keeps : goal.statement-returns-in-While-clause-keeps
statement-returns-in-While-clause-keeps g t c = c.while_statement.ensures.keeps

pub statement-returns-in-Repeat-clause-keeps : goal.statement-returns-in-Repeat-clause-keeps
statement-returns-in-Repeat-clause-keeps g t c = c.repeat_statement.ensures.keeps

pub statement-returns-in-For-clause-keeps : goal.statement-returns-in-For-clause-keeps
statement-returns-in-For-clause-keeps g t c = c.for_statement.ensures.keeps

pub statement-returns-in-With-clause-keeps : goal.statement-returns-in-With-clause-keeps
statement-returns-in-With-clause-keeps g t c = c.with_statement.ensures.keeps

pub statement-returns-in-Return-clause-keeps : goal.statement-returns-in-Return-clause-keeps
statement-returns-in-Return-clause-keeps g t c = c.return_statement.ensures.keeps

pub statement-returns-in-Empty-clause-keeps : goal.statement-returns-in-Empty-clause-keeps
statement-returns-in-Empty-clause-keeps g t c = Keeps-refl c.args.self.now
