use Rattle.std.proofs.Common.{◌≡◌, ◌∙◌, ◌++◌, ◌∷◌, [], ◌+◌, ◌-◌, ℕ, ℤ, FitsSigned, List, Option, ap, arith, negsuc, pos, refl, rules, subst, sym, w32}
use Rattle.std.proofs.lemmas.Int.{to_z-of_z}
use Rattle.std.proofs.lemmas.List.{at_drop_all}
use Rattle.std.specs.declared.alloc.Global.{Global}
use Rattle.std.specs.declared.boxed.Box.{Box}
use denote.Param.Weighed.{most}
use Rattle.const_eval.proofs.Sizes.{item_small}
use Rattle.expr_sem.specs.Stacks.{ends_as}
use Rattle.std.specs.Prelude.{OnOk, drop}
use Rattle.code_form.specs.declared.instr.Instr.TheVariants.{Jump, JumpFalse}
use Rattle.expr_sem.specs.Fragments.{part}
use Rattle.block_code.specs.Parts.{plain, ◌⨟◌}
use Rattle.expr_sem.specs.Pieces.{Appended, spot_of}
use Rattle.expr_sem.specs.declared.pieces.With.{With}
use Rattle.expr_sem.proofs.PieceParts.{Begins-refl, Begins-trans, then_on}
use Rattle.stmt_sem.specs.FlowTrees.{IsArmOver, IsFormOver, IsOver, choice_among, code_by, flow_in, form_in, other_among}
use Rattle.block_code.specs.Statements.{flow_or_nothing}
use Rattle.stmt_sem.specs.declared.flows.Arm.{Arm, size-Arm}
use Rattle.stmt_sem.specs.declared.flows.Flow.{Flow, size-Flow}
use Rattle.stmt_sem.specs.declared.flows.FlowForm.TheVariants.{Block, Choice}
use Rattle.stmt_sem.proofs.FlowDepths.{arms_smaller, entries_smaller}
use Rattle.stmt_sem.specs.FlowSizes.{arms_bytes, block_bytes, code_bytes, fragment_bytes, somewhere}
use Rattle.block_code.specs.Flows.{Flow as FlowOf, part_at}
use Rattle.stmt_sem.specs.declared.flows.FlowForm.{FlowForm}
use Rattle.stmt_sem.proofs.FlowRows.{arms_of_choice, block_is, choice_is, entries_over, other_of_choice}
use Rattle.stmt_sem.proofs.FlowsAppended.{all_appended, arm_appended, arm_at, behind_body, behind_entry, counted_on, each_at, entry_appended, entry_bytes, first_arm, for_ever_on, in_with_on, last_arm, rest_appended, until_on, while_on, with_cell_on}
use Rattle.stmt_sem.proofs.flow_appending.Appender.+flows.Goals as goal

pub append_while-returns-clause-ok : goal.append_while-returns-clause-ok
append_while-returns-clause-ok t c =
    let ns = c.args.self.now.fragments.now.nodes.items in
    let ws = c.args.self.now.withs.now in
    let m = c.size.result in
    let n = c.args.body.now.size in
    let over : FitsSigned w32 c.in_ok-forward.field-0 = search rules in
    let back : FitsSigned w32 c.in_ok-backward.field-0 = search rules in
    let five = c.jump_size-jump.ensures in
    let behind = c.in_ok-behind.ensures ∙ ap (λ (i : ℕ). n + i) five in
    while_on c.push_instr-2.result c.push_instr-2.new.piece c.args.out _ m n _ _ (part ns c.args.test) (flow_in ns c.args.body.now c.args.self.now.cell)
    (c.size.ensures c.requires.sound) (c.requires.body.1 c.args.self.now.cell) (c.in_ok-sum.ensures ∙ ap (λ (i : ℕ). c.args.out + i) five)
    (to_z-of_z w32 c.in_ok-forward.field-0 over ∙ c.in_ok-forward.ensures ∙ ap pos behind)
    (to_z-of_z w32 c.in_ok-backward.field-0 back ∙ c.in_ok-backward.ensures ∙ ap (λ (i : ℕ). negsuc (i + 4)) (c.in_ok-all.ensures ∙ ap (λ (i : ℕ). m + i) behind))
    c.in_ok-append_all.ensures.ok (c.in_ok-push_instr.ensures.ok ws) c.in_ok-append_inner.ensures.ok (c.push_instr-2.ensures.ok ws)

pub append_with_cell-returns-clause-ok : goal.append_with_cell-returns-clause-ok
append_with_cell-returns-clause-ok t c =
    with_cell_on c.append_inner.result c.args.piece.now c.append_inner.new.piece c.args.self.now.withs.now c.args.out c.capped_sum-piece.result (flow_in c.args.self.now.fragments.now.nodes.items c.args.body.now) c.capped_sum-piece.ensures c.append_inner.ensures.ok

pub append_for_ever-returns-clause-ok : goal.append_for_ever-returns-clause-ok
append_for_ever-returns-clause-ok t c out =
    let back : FitsSigned w32 c.in_ok-backward.field-0 = search rules in
    let f = flow_in c.args.self.now.fragments.now.nodes.items c.args.body.now c.args.self.now.cell in
    let inner = subst (λ (i : ℕ). Appended c.args.piece.now c.append_inner.new.piece c.args.self.now.withs.now (part_at i f)) c.jump_size.ensures c.in_ok-append_inner.ensures.ok in
    for_ever_on c.push_instr.result c.push_instr.new.piece out c.args.body.now.size _ f (c.requires.there.1 c.args.self.now.cell)
    (to_z-of_z w32 c.in_ok-backward.field-0 back ∙ c.in_ok-backward.ensures) inner (c.push_instr.ensures.ok c.args.self.now.withs.now)

pub append_form-returns-in-WhileTrue-clause-ok : goal.append_form-returns-in-WhileTrue-clause-ok
append_form-returns-in-WhileTrue-clause-ok t c =
    subst (λ (g : FlowForm). OnOk c.append_while.result (Appended c.args.piece.now c.append_while.new.piece c.args.self.now.withs.now (part_at c.args.out (form_in c.args.self.now.fragments.now.nodes.items g c.args.self.now.cell)))) (sym c.in-WhileTrue.is) (rw c.deref-in-WhileTrue.ensures at c.append_while.ensures.ok)

pub append_form-returns-in-ForEver-clause-ok : goal.append_form-returns-in-ForEver-clause-ok
append_form-returns-in-ForEver-clause-ok t c =
    subst (λ (g : FlowForm). OnOk c.append_for_ever.result (Appended c.args.piece.now c.append_for_ever.new.piece c.args.self.now.withs.now (part_at c.args.out (form_in c.args.self.now.fragments.now.nodes.items g c.args.self.now.cell)))) (sym c.in-ForEver.is) (rw c.deref-in-ForEver.ensures at (c.append_for_ever.ensures.ok c.args.out))

pub append_form-returns-in-Counted-clause-ok : goal.append_form-returns-in-Counted-clause-ok
append_form-returns-in-Counted-clause-ok t c =
    subst (λ (g : FlowForm). OnOk c.append_counted.result (Appended c.args.piece.now c.append_counted.new.piece c.args.self.now.withs.now (part_at c.args.out (form_in c.args.self.now.fragments.now.nodes.items g c.args.self.now.cell)))) (sym c.in-Counted.is) (rw c.deref-in-Counted.ensures at c.append_counted.ensures.ok)

pub append_form-append_block-requires : goal.append_form-append_block-requires
append_form-append_block-requires t c =
    let ns = c.args.self.now.fragments.now.nodes.items in
    let small = entries_smaller c.args.form.now c.in-Block.entries c.in-Block.is in
    let same = ap (most size-Flow) c.deref.ensures.value in
    let over : IsFormOver ns (Block c.in-Block.entries) = rw c.in-Block.is at c.requires.there in
    (first_of (search rules, omega (arith, small, same, c.decreases)), (c.requires.sound, rw c.deref.ensures.value (entries_over ns c.in-Block.entries over)))

pub append_form-append_arms-requires : goal.append_form-append_arms-requires
append_form-append_arms-requires t c =
    let ns = c.args.self.now.fragments.now.nodes.items in
    let arms = c.in-Choice.arms in
    let other = c.in-Choice.other in
    let small = arms_smaller c.args.form.now arms other c.in-Choice.is in
    let same = ap (most size-Arm) c.deref-in-Choice.ensures.value in
    let over : IsFormOver ns (Choice arms other) = rw c.in-Choice.is at c.requires.there in
    (first_of (search rules, omega (arith, small, same, c.decreases)), (c.requires.sound, (rw c.deref-in-Choice.ensures.value (arms_of_choice ns arms other over), other_of_choice ns arms other over)))

pub append_form-returns-in-Some-clause-ok : goal.append_form-returns-in-Some-clause-ok
append_form-returns-in-Some-clause-ok t c =
    let ns = c.args.self.now.fragments.now.nodes.items in
    let ws = c.args.self.now.withs.now in
    let cell = c.args.self.now.cell in
    let r = c.append_inner.result in
    let e = c.append_inner.new.piece in
    let before = c.in_ok-append_arms-in-Choice.ensures.ok in
    let inner : OnOk r (Appended c.append_arms.new.piece e ws (part_at c.args.out (flow_or_nothing (other_among ns c.in-Choice.other cell)))) =
    subst (λ (o : Option (Box Flow Global)). OnOk r (Appended c.append_arms.new.piece e ws (part_at c.args.out (flow_or_nothing (other_among ns o cell))))) (sym c.in-Some.is) (rw c.deref-in-Some.ensures at c.append_inner.ensures.ok) in
    subst (λ (g : FlowForm). OnOk r (Appended c.args.piece.now e ws (part_at c.args.out (form_in ns g cell)))) (sym c.in-Choice.is)
    (subst (λ (f : FlowOf). OnOk r (Appended c.args.piece.now e ws (part_at c.args.out f))) (sym (choice_is ns c.in-Choice.arms c.in-Choice.other cell))
    (rest_appended r c.args.piece.now c.append_arms.new.piece e ws (part_at c.args.out (flow_or_nothing (other_among ns c.in-Choice.other cell))) (part_at c.args.out (choice_among ns c.in-Choice.arms.items c.in-Choice.other cell)) (rw c.deref-in-Choice.ensures.value at before) inner))

pub append_form-returns-in-None-clause-ok : goal.append_form-returns-in-None-clause-ok
append_form-returns-in-None-clause-ok t c =
    let ns = c.args.self.now.fragments.now.nodes.items in
    let ws = c.args.self.now.withs.now in
    let cell = c.args.self.now.cell in
    let e = c.append_arms.new.piece in
    let before = c.in_ok-append_arms-in-Choice.ensures.ok in
    subst (λ (g : FlowForm). Appended c.args.piece.now e ws (part_at c.args.out (form_in ns g cell))) (sym c.in-Choice.is)
    (subst (λ (f : FlowOf). Appended c.args.piece.now e ws (part_at c.args.out f)) (sym (choice_is ns c.in-Choice.arms c.in-Choice.other cell))
    (all_appended (part_at c.args.out (flow_or_nothing (other_among ns c.in-Choice.other cell))) (part_at c.args.out (choice_among ns c.in-Choice.arms.items c.in-Choice.other cell)) (rw c.deref-in-Choice.ensures.value at before)
    (ap (λ (o : Option (Box Flow Global)). part_at c.args.out (flow_or_nothing (other_among ns o cell))) c.in-None.is)))

pub append_form-returns-in-Block-clause-ok : goal.append_form-returns-in-Block-clause-ok
append_form-returns-in-Block-clause-ok t c =
    let ns = c.args.self.now.fragments.now.nodes.items in
    subst (λ (g : FlowForm). OnOk c.append_block.result (Appended c.args.piece.now c.append_block.new.piece c.args.self.now.withs.now (part_at c.args.out (form_in ns g c.args.self.now.cell)))) (sym c.in-Block.is)
    (subst (λ (f : FlowOf). OnOk c.append_block.result (Appended c.args.piece.now c.append_block.new.piece c.args.self.now.withs.now (part_at c.args.out f))) (sym (block_is ns c.in-Block.entries c.args.self.now.cell))
    (rw c.deref.ensures.value at c.append_block.ensures.ok))

pub append_arms-loop-arm-preserved : goal.append_arms-loop-arm-preserved
append_arms-loop-arm-preserved t c =
    let ns = c.args.self.now.fragments.now.nodes.items in
    let arms = c.args.arms.now in
    let i = c.loop-arm.arm-index in
    let x = c.arm-item.result in
    let k = c.loop-arm.invariant.left.0 in
    let a = c.loop-arm.invariant.left.1 in
    let b = arm_at ns arms i x c.loop-arm-test.true c.arm-item.is in
    let size = c.in_ok-size.ensures in
    let d = c.saturating_sub-left.ensures in
    let now : c.saturating_sub-left.result ≡ arms_bytes ns (drop (i + 1) arms) + k = omega (arith, a, b, size, d) in
    record {
      begins = Begins-trans c.loop-arm.invariant.begins c.in_ok-append_arm.ensures.begins;
      left = (k, now, c.loop-arm.invariant.left.2);
      same = arm_appended c.args.piece.now c.loop-arm.piece c.append_arm.new.piece c.args.self.now.withs.now ns c.requires.sound arms c.requires.arms i x c.loop-arm-test.true c.arm-item.is c.args.other.now c.args.out c.saturating_sub-left.result k c.args.self.now.cell now c.loop-arm.invariant.left.2 c.loop-arm.invariant.same c.in_ok-append_arm.ensures.ok;
    }

pub append_block-loop-entry-init : goal.append_block-loop-entry-init
append_block-loop-entry-init t c =
    record {
      begins = Begins-refl c.args.piece.now;
      behind = c.in_ok-behind.ensures ∙ ap (λ (i : ℕ). c.args.out + i) c.in_ok-block_size.ensures;
      same = refl;
    }

pub append_block-append_inner-requires : goal.append_block-append_inner-requires
append_block-append_inner-requires t c =
    let xs = c.args.entries.now in
    let small = item_small size-Flow xs c.loop-entry.entry-index c.entry-item.result c.loop-entry-test.true c.entry-item.is in
    (first_of (search rules, omega (arith, small, c.decreases)), (c.requires.sound, each_at (IsOver c.args.self.now.fragments.now.nodes.items) xs c.loop-entry.entry-index c.entry-item.result c.loop-entry-test.true c.entry-item.is c.requires.there))

pub append_block-loop-entry-preserved : goal.append_block-loop-entry-preserved
append_block-loop-entry-preserved t c =
    let ns = c.args.self.now.fragments.now.nodes.items in
    let xs = c.args.entries.now in
    let i = c.loop-entry.entry-index in
    let x = c.entry-item.result in
    let is = c.entry-item.is in
    let behind = behind_entry c.loop-entry.behind c.args.out (block_bytes (drop i xs)) x.size (block_bytes (drop (i + 1) xs)) x.size c.saturating_sub-behind.result
    c.loop-entry.invariant.behind (entry_bytes xs i x c.loop-entry-test.true is) refl c.saturating_sub-behind.ensures in
    record {
      begins = Begins-trans c.loop-entry.invariant.begins c.in_ok-append_inner.ensures.begins;
      behind = behind;
      same = entry_appended c.args.piece.now c.loop-entry.piece c.append_inner.new.piece c.args.self.now.withs.now ns xs c.requires.there i x c.loop-entry-test.true is c.args.out c.saturating_sub-behind.result c.args.self.now.cell behind c.loop-entry.invariant.same c.in_ok-append_inner.ensures.ok;
    }

pub append_arms-append_arm-requires : goal.append_arms-append_arm-requires
append_arms-append_arm-requires t c =
    let xs = c.args.arms.now in
    let small = item_small size-Arm xs c.loop-arm.arm-index c.arm-item.result c.loop-arm-test.true c.arm-item.is in
    (first_of (search rules, omega (arith, small, c.decreases)), (c.requires.sound, each_at (IsArmOver c.args.self.now.fragments.now.nodes.items) xs c.loop-arm.arm-index c.arm-item.result c.loop-arm-test.true c.arm-item.is c.requires.arms))

pub append_arms-loop-arm-init : goal.append_arms-loop-arm-init
append_arms-loop-arm-init t c =
    let k = c.in_ok-other_size.field-0 in
    record {
      begins = Begins-refl c.args.piece.now;
      left = (k, c.in_ok-left.ensures ∙ ap (λ (i : ℕ). i + k) c.in_ok-arms_size.ensures, c.in_ok-other_size.ensures c.args.self.now.fragments.now.nodes.items c.requires.other);
      same = refl;
    }

pub append_arms-returns-clause-ok : goal.append_arms-returns-clause-ok
append_arms-returns-clause-ok t c =
    sym (at_drop_all (λ (l : List Arm). ends_as c.loop-arm.piece c.args.self.now.withs.now (part_at c.args.out (choice_among c.args.self.now.fragments.now.nodes.items l c.args.other.now c.args.self.now.cell))) c.args.arms.now c.loop-arm.arm-index c.loop-arm-test.false)
    ∙ c.loop-arm.invariant.same

pub append_arms-returns-clause-begins : goal.append_arms-returns-clause-begins
append_arms-returns-clause-begins t c = c.loop-arm.invariant.begins

pub append_arms-returns-in_err-size-clause-begins : goal.append_arms-returns-in_err-size-clause-begins
append_arms-returns-in_err-size-clause-begins t c = c.loop-arm.invariant.begins

pub append_counted-returns-clause-ok : goal.append_counted-returns-clause-ok
append_counted-returns-clause-ok t c =
    let ns = c.args.self.now.fragments.now.nodes.items in
    let ws = c.args.self.now.withs.now in
    let x = c.args.turns.now in
    let n = x.body.size in
    let k = code_bytes ns x.again in
    let s = fragment_bytes ns x.step in
    let again = c.in_ok-size.ensures in
    let step = c.size-2.ensures c.requires.sound in
    let over : FitsSigned w32 c.in_ok-forward.field-0 = search rules in
    let behind = behind_body c.in_ok-behind.behind c.in_ok-codes.codes k s c.in_ok-size.field-0 c.size-2.result (c.in_ok-behind.ensures ∙ ap (λ (j : ℕ). c.in_ok-codes.codes + (j + j)) c.jump_size-jump.ensures) c.in_ok-codes.ensures (again 0 somewhere) (step somewhere) in
    counted_on c.append_again.result c.append_again.new.piece c.args.out _ n k s _ (code_by ns x.first c.args.self.now.cell) (flow_in ns x.body c.args.self.now.cell) (code_by ns x.again c.args.self.now.cell) (part ns x.step)
    (c.requires.there.1.1 c.args.self.now.cell) (λ at. again c.args.self.now.cell at ∙ sym (again 0 somewhere)) (λ at. step at ∙ sym (step somewhere))
    (c.in_ok-sum-2.ensures ∙ ap (λ (i : ℕ). c.args.out + i) behind)
    (to_z-of_z w32 c.in_ok-forward.field-0 over ∙ c.in_ok-forward.ensures ∙ ap pos (c.in_ok-sum.ensures ∙ ap (λ (i : ℕ). n + i) behind))
    c.in_ok-append_code.ensures.ok (c.in_ok-push_instr.ensures.ok ws) c.in_ok-append_inner.ensures.ok c.append_again.ensures.ok

pub append_until-returns-clause-ok : goal.append_until-returns-clause-ok
append_until-returns-clause-ok t c =
    let ns = c.args.self.now.fragments.now.nodes.items in
    let m = c.args.body.now.size in
    let n = c.size-test_size.result in
    let back : FitsSigned w32 c.in_ok-backward.field-0 = search rules in
    until_on c.push_instr.result c.push_instr.new.piece c.args.out _ m n _ (flow_in ns c.args.body.now c.args.self.now.cell) (part ns c.args.test)
    (c.requires.body.1 c.args.self.now.cell) (c.size-test_size.ensures c.requires.sound) (c.in_ok-behind.ensures ∙ ap (λ (i : ℕ). c.args.out + i) (c.in_ok-sum.ensures ∙ ap (λ (i : ℕ). n + i) c.jump_size.ensures))
    (to_z-of_z w32 c.in_ok-backward.field-0 back ∙ c.in_ok-backward.ensures ∙ ap (λ (i : ℕ). negsuc (i + 4)) c.in_ok-all.ensures)
    c.in_ok-append_inner.ensures.ok c.in_ok-append_all.ensures.ok (c.push_instr.ensures.ok c.args.self.now.withs.now)

pub append_form-returns-in_ok-forward-in-Exit-clause-ok : goal.append_form-returns-in_ok-forward-in-Exit-clause-ok
append_form-returns-in_ok-forward-in-Exit-clause-ok t c =
    let r = c.push_instr.result in
    let a = c.args.piece.now in
    let e = c.push_instr.new.piece in
    let ws = c.args.self.now.withs.now in
    let over : FitsSigned w32 c.in_ok-forward-in-Exit.field-0 = search rules in
    subst (λ (g : FlowForm). OnOk r (Appended a e ws (part_at c.args.out (form_in c.args.self.now.fragments.now.nodes.items g c.args.self.now.cell)))) (sym c.in-Exit.is)
    (subst (λ (i : ℤ). OnOk r (Appended a e ws (plain (Jump i ∷ [])))) (to_z-of_z w32 c.in_ok-forward-in-Exit.field-0 over ∙ c.in_ok-forward-in-Exit.ensures) (c.push_instr.ensures.ok ws))

pub append_in_with-returns-clause-ok : goal.append_in_with-returns-clause-ok
append_in_with-returns-clause-ok t c =
    let ws = c.args.self.now.withs.now in
    let w : With = record { of = record { scope = 0; ordinal = 0 }; cell = c.args.self.now.cell } in
    in_with_on c.append_inner.result c.args.piece.now c.append_inner.new.piece w ws c.deref.result.now c.args.out (flow_in c.args.self.now.fragments.now.nodes.items c.args.body.now c.args.self.now.cell)
    (c.deref.ensures.value ∙ c.in_ok-extend_from_slice.ensures.items ∙ ap (λ (l : List With). l ++ ws) (c.in_ok-push.ensures.items ∙ ap (λ (l : List With). l ++ w ∷ []) c.new-inner.ensures.items))
    c.append_inner.ensures.ok

pub append_while-returns-in_err-behind-clause-begins : goal.append_while-returns-in_err-behind-clause-begins
append_while-returns-in_err-behind-clause-begins t c = Begins-refl c.args.piece.now

pub append_while-returns-in_err-all-clause-begins : goal.append_while-returns-in_err-all-clause-begins
append_while-returns-in_err-all-clause-begins t c = Begins-refl c.args.piece.now

pub append_while-returns-in_err-append_all-clause-begins : goal.append_while-returns-in_err-append_all-clause-begins
append_while-returns-in_err-append_all-clause-begins t c = c.append_all.ensures.begins

pub append_while-returns-in_err-forward-clause-begins : goal.append_while-returns-in_err-forward-clause-begins
append_while-returns-in_err-forward-clause-begins t c = c.append_all.ensures.begins

pub append_while-returns-in_err-push_instr-clause-begins : goal.append_while-returns-in_err-push_instr-clause-begins
append_while-returns-in_err-push_instr-clause-begins t c = Begins-trans c.append_all.ensures.begins c.push_instr.ensures.begins

pub append_while-returns-in_err-sum-clause-begins : goal.append_while-returns-in_err-sum-clause-begins
append_while-returns-in_err-sum-clause-begins t c = Begins-trans c.append_all.ensures.begins c.push_instr.ensures.begins

pub append_while-returns-in_err-append_inner-clause-begins : goal.append_while-returns-in_err-append_inner-clause-begins
append_while-returns-in_err-append_inner-clause-begins t c = Begins-trans (Begins-trans c.append_all.ensures.begins c.push_instr.ensures.begins) c.append_inner.ensures.begins

pub append_while-returns-in_err-backward-clause-begins : goal.append_while-returns-in_err-backward-clause-begins
append_while-returns-in_err-backward-clause-begins t c = Begins-trans (Begins-trans c.append_all.ensures.begins c.push_instr.ensures.begins) c.append_inner.ensures.begins

pub append_while-returns-clause-begins : goal.append_while-returns-clause-begins
append_while-returns-clause-begins t c = Begins-trans (Begins-trans (Begins-trans c.append_all.ensures.begins c.push_instr.ensures.begins) c.append_inner.ensures.begins) c.push_instr-2.ensures.begins

pub append_until-returns-in_err-sum-clause-begins : goal.append_until-returns-in_err-sum-clause-begins
append_until-returns-in_err-sum-clause-begins t c = Begins-refl c.args.piece.now

pub append_until-returns-in_err-behind-clause-begins : goal.append_until-returns-in_err-behind-clause-begins
append_until-returns-in_err-behind-clause-begins t c = Begins-refl c.args.piece.now

pub append_until-returns-in_err-append_inner-clause-begins : goal.append_until-returns-in_err-append_inner-clause-begins
append_until-returns-in_err-append_inner-clause-begins t c = c.append_inner.ensures.begins

pub append_until-returns-in_err-append_all-clause-begins : goal.append_until-returns-in_err-append_all-clause-begins
append_until-returns-in_err-append_all-clause-begins t c = Begins-trans c.append_inner.ensures.begins c.append_all.ensures.begins

pub append_until-returns-in_err-all-clause-begins : goal.append_until-returns-in_err-all-clause-begins
append_until-returns-in_err-all-clause-begins t c = Begins-trans c.append_inner.ensures.begins c.append_all.ensures.begins

pub append_until-returns-in_err-backward-clause-begins : goal.append_until-returns-in_err-backward-clause-begins
append_until-returns-in_err-backward-clause-begins t c = Begins-trans c.append_inner.ensures.begins c.append_all.ensures.begins

pub append_until-returns-clause-begins : goal.append_until-returns-clause-begins
append_until-returns-clause-begins t c = Begins-trans (Begins-trans c.append_inner.ensures.begins c.append_all.ensures.begins) c.push_instr.ensures.begins

pub append_for_ever-returns-in_err-append_inner-clause-begins : goal.append_for_ever-returns-in_err-append_inner-clause-begins
append_for_ever-returns-in_err-append_inner-clause-begins t c = c.append_inner.ensures.begins

pub append_for_ever-returns-in_err-backward-clause-begins : goal.append_for_ever-returns-in_err-backward-clause-begins
append_for_ever-returns-in_err-backward-clause-begins t c = c.append_inner.ensures.begins

pub append_for_ever-returns-clause-begins : goal.append_for_ever-returns-clause-begins
append_for_ever-returns-clause-begins t c = Begins-trans c.append_inner.ensures.begins c.push_instr.ensures.begins

pub append_counted-returns-in_err-size-clause-begins : goal.append_counted-returns-in_err-size-clause-begins
append_counted-returns-in_err-size-clause-begins t c = Begins-refl c.args.piece.now

pub append_counted-returns-in_err-codes-clause-begins : goal.append_counted-returns-in_err-codes-clause-begins
append_counted-returns-in_err-codes-clause-begins t c = Begins-refl c.args.piece.now

pub append_counted-returns-in_err-behind-clause-begins : goal.append_counted-returns-in_err-behind-clause-begins
append_counted-returns-in_err-behind-clause-begins t c = Begins-refl c.args.piece.now

pub append_counted-returns-in_err-append_code-clause-begins : goal.append_counted-returns-in_err-append_code-clause-begins
append_counted-returns-in_err-append_code-clause-begins t c = c.append_code.ensures.begins

pub append_counted-returns-in_err-sum-clause-begins : goal.append_counted-returns-in_err-sum-clause-begins
append_counted-returns-in_err-sum-clause-begins t c = c.append_code.ensures.begins

pub append_counted-returns-in_err-forward-clause-begins : goal.append_counted-returns-in_err-forward-clause-begins
append_counted-returns-in_err-forward-clause-begins t c = c.append_code.ensures.begins

pub append_counted-returns-in_err-push_instr-clause-begins : goal.append_counted-returns-in_err-push_instr-clause-begins
append_counted-returns-in_err-push_instr-clause-begins t c = Begins-trans c.append_code.ensures.begins c.push_instr.ensures.begins

pub append_counted-returns-in_err-sum-2-clause-begins : goal.append_counted-returns-in_err-sum-2-clause-begins
append_counted-returns-in_err-sum-2-clause-begins t c = Begins-trans c.append_code.ensures.begins c.push_instr.ensures.begins

pub append_counted-returns-in_err-append_inner-clause-begins : goal.append_counted-returns-in_err-append_inner-clause-begins
append_counted-returns-in_err-append_inner-clause-begins t c = Begins-trans (Begins-trans c.append_code.ensures.begins c.push_instr.ensures.begins) c.append_inner.ensures.begins

pub append_counted-returns-clause-begins : goal.append_counted-returns-clause-begins
append_counted-returns-clause-begins t c = Begins-trans (Begins-trans (Begins-trans c.append_code.ensures.begins c.push_instr.ensures.begins) c.append_inner.ensures.begins) c.append_again.ensures.begins

pub append_block-returns-in_err-append_inner-clause-begins : goal.append_block-returns-in_err-append_inner-clause-begins
append_block-returns-in_err-append_inner-clause-begins t c = Begins-trans c.loop-entry.invariant.begins c.append_inner.ensures.begins

pub append_block-returns-in_err-block_size-clause-begins : goal.append_block-returns-in_err-block_size-clause-begins
append_block-returns-in_err-block_size-clause-begins t c = Begins-refl c.args.piece.now

pub append_block-returns-in_err-behind-clause-begins : goal.append_block-returns-in_err-behind-clause-begins
append_block-returns-in_err-behind-clause-begins t c = Begins-refl c.args.piece.now

pub append_arms-returns-in_err-arms_size-clause-begins : goal.append_arms-returns-in_err-arms_size-clause-begins
append_arms-returns-in_err-arms_size-clause-begins t c = Begins-refl c.args.piece.now

pub append_arms-returns-in_err-other_size-clause-begins : goal.append_arms-returns-in_err-other_size-clause-begins
append_arms-returns-in_err-other_size-clause-begins t c = Begins-refl c.args.piece.now

pub append_arms-returns-in_err-left-clause-begins : goal.append_arms-returns-in_err-left-clause-begins
append_arms-returns-in_err-left-clause-begins t c = Begins-refl c.args.piece.now

pub append_arms-returns-in_err-append_arm-clause-begins : goal.append_arms-returns-in_err-append_arm-clause-begins
append_arms-returns-in_err-append_arm-clause-begins t c = Begins-trans c.loop-arm.invariant.begins c.append_arm.ensures.begins

pub append_form-returns-in_err-forward-in-Exit-clause-begins : goal.append_form-returns-in_err-forward-in-Exit-clause-begins
append_form-returns-in_err-forward-in-Exit-clause-begins t c = Begins-refl c.args.piece.now

pub append_in_with-returns-in_err-push-clause-begins : goal.append_in_with-returns-in_err-push-clause-begins
append_in_with-returns-in_err-push-clause-begins t c = Begins-refl c.args.piece.now

pub append_in_with-returns-in_err-extend_from_slice-clause-begins : goal.append_in_with-returns-in_err-extend_from_slice-clause-begins
append_in_with-returns-in_err-extend_from_slice-clause-begins t c = Begins-refl c.args.piece.now

pub append_form-returns-in-Nothing-clause-begins : goal.append_form-returns-in-Nothing-clause-begins
append_form-returns-in-Nothing-clause-begins t c = Begins-refl c.args.piece.now

pub append_arm-returns-then-left-eq0-clause-ok : goal.append_arm-returns-then-left-eq0-clause-ok
append_arm-returns-then-left-eq0-clause-ok t c =
    let ns = c.args.self.now.fragments.now.nodes.items in
    let ws = c.args.self.now.withs.now in
    let body = c.args.arm.now.body in
    let f = flow_in ns body c.args.self.now.cell in
    let rest = part_at c.args.out f in
    let over : FitsSigned w32 c.in_ok-forward.field-0 = search rules in
    last_arm c.append_inner.result c.append_inner.new.piece c.args.out c.args.left body.size (code_by ns c.args.arm.now.test c.args.self.now.cell) f
    (c.requires.there.1.1 c.args.self.now.cell) (grind (arith, c.if-left-eq0.true)) c.in_ok-append_code.ensures.ok
    (then_on c.append_inner.result c.append_inner.new.piece rest (plain (JumpFalse (pos body.size) ∷ []) ⨟ rest) (c.in_ok-push_instr.ensures.ok ws)
    (ap (λ (i : ℤ). (plain (JumpFalse i ∷ []) ⨟ rest) (spot_of c.append_code.new.piece ws)) (to_z-of_z w32 c.in_ok-forward.field-0 over ∙ c.in_ok-forward.ensures))
    c.append_inner.ensures.ok)

pub append_arm-returns-clause-ok : goal.append_arm-returns-clause-ok
append_arm-returns-clause-ok t c =
    let ns = c.args.self.now.fragments.now.nodes.items in
    let ws = c.args.self.now.withs.now in
    let body = c.args.arm.now.body in
    let left = c.args.left in
    let f = flow_in ns body c.args.self.now.cell in
    let r = c.push_instr-3.result in
    let e = c.push_instr-3.new.piece in
    let last = plain (Jump (pos (left - 5)) ∷ []) in
    let rest = part_at (c.args.out + left) f ⨟ last in
    let over : FitsSigned w32 c.in_ok-forward-2.field-0 = search rules in
    let past : FitsSigned w32 c.in_ok-forward-3.field-0 = search rules in
    let five = c.jump_size-jump.ensures in
    first_arm r e c.args.out left body.size (code_by ns c.args.arm.now.test c.args.self.now.cell) f
    (c.requires.there.1.1 c.args.self.now.cell) (grind (arith, c.if-left-eq0.false)) c.in_ok-append_code.ensures.ok
    (then_on r e rest (plain (JumpFalse (pos (body.size + 5)) ∷ []) ⨟ rest) (c.in_ok-push_instr-2.ensures.ok ws)
    (ap (λ (i : ℤ). (plain (JumpFalse i ∷ []) ⨟ rest) (spot_of c.append_code.new.piece ws)) (to_z-of_z w32 c.in_ok-forward-2.field-0 over ∙ c.in_ok-forward-2.ensures ∙ ap pos (c.in_ok-size.ensures ∙ ap (λ (i : ℕ). body.size + i) five)))
    (then_on r e last rest c.in_ok-append_inner.ensures.ok (ap (λ (i : ℕ). (part_at i f ⨟ last) (spot_of c.push_instr-2.new.piece ws)) c.in_ok-sum.ensures)
    (subst (λ (i : ℤ). OnOk r (Appended c.append_inner-2.new.piece e ws (plain (Jump i ∷ [])))) (to_z-of_z w32 c.in_ok-forward-3.field-0 past ∙ c.in_ok-forward-3.ensures ∙ ap pos (c.saturating_sub.ensures ∙ ap (λ (i : ℕ). left - i) five)) (c.push_instr-3.ensures.ok ws))))

pub append_arm-returns-in_err-push_instr-clause-begins : goal.append_arm-returns-in_err-push_instr-clause-begins
append_arm-returns-in_err-push_instr-clause-begins t c = Begins-trans c.in_ok-append_code.ensures.begins c.in_err-push_instr.ensures.begins

pub append_arm-returns-then-left-eq0-clause-begins : goal.append_arm-returns-then-left-eq0-clause-begins
append_arm-returns-then-left-eq0-clause-begins t c = Begins-trans (Begins-trans c.in_ok-append_code.ensures.begins c.in_ok-push_instr.ensures.begins) c.append_inner.ensures.begins

pub append_arm-returns-in_err-push_instr-2-clause-begins : goal.append_arm-returns-in_err-push_instr-2-clause-begins
append_arm-returns-in_err-push_instr-2-clause-begins t c = Begins-trans c.in_ok-append_code.ensures.begins c.in_err-push_instr-2.ensures.begins

pub append_arm-returns-in_err-sum-clause-begins : goal.append_arm-returns-in_err-sum-clause-begins
append_arm-returns-in_err-sum-clause-begins t c = Begins-trans c.in_ok-append_code.ensures.begins c.in_ok-push_instr-2.ensures.begins

pub append_arm-returns-in_err-append_inner-clause-begins : goal.append_arm-returns-in_err-append_inner-clause-begins
append_arm-returns-in_err-append_inner-clause-begins t c = Begins-trans (Begins-trans c.in_ok-append_code.ensures.begins c.in_ok-push_instr-2.ensures.begins) c.in_err-append_inner.ensures.begins

pub append_arm-returns-in_err-forward-3-clause-begins : goal.append_arm-returns-in_err-forward-3-clause-begins
append_arm-returns-in_err-forward-3-clause-begins t c = Begins-trans (Begins-trans c.in_ok-append_code.ensures.begins c.in_ok-push_instr-2.ensures.begins) c.in_ok-append_inner.ensures.begins

pub append_arm-returns-clause-begins : goal.append_arm-returns-clause-begins
append_arm-returns-clause-begins t c = Begins-trans (Begins-trans (Begins-trans c.in_ok-append_code.ensures.begins c.in_ok-push_instr-2.ensures.begins) c.in_ok-append_inner.ensures.begins) c.push_instr-3.ensures.begins

pub append_form-returns-in-Some-clause-begins : goal.append_form-returns-in-Some-clause-begins
append_form-returns-in-Some-clause-begins t c = Begins-trans c.in_ok-append_arms-in-Choice.ensures.begins c.append_inner.ensures.begins

pub append_arms-size-requires-clause-there : goal.append_arms-size-requires-clause-there
append_arms-size-requires-clause-there t c = each_at (IsArmOver c.args.self.now.fragments.now.nodes.items) c.args.arms.now c.loop-arm.arm-index c.arm-item.result c.loop-arm-test.true c.arm-item.is c.requires.arms
