use Rattle.std.proofs.Common.{◌≡◌, ◌∙◌, FitsSigned, List, None, ap, map, pos, refl, rules, subst, sym, w32}
use Rattle.std.specs.Prelude.{get_or}
use Rattle.std.proofs.lemmas.Int.{to_z-of_z}
use Rattle.std.proofs.lemmas.List.{at_drop_all, get_or_default}
use Rattle.case_labels.specs.Seen.{test_seen}
use Rattle.case_labels.specs.declared.tests.LabelTest.{LabelTest}
use Rattle.block_code.specs.Parts.{none}
use Rattle.expr_sem.specs.Pieces.{Appended}
use Rattle.expr_sem.specs.Stacks.{ends_as}
use Rattle.expr_sem.proofs.PieceParts.{Begins-refl, Begins-trans, append_then}
use Rattle.block_code.specs.Cases.{labels_code, more_labels_code}
use Rattle.stmt_sem.proofs.FlowsAppended.{all_appended, label_appended}
use Rattle.stmt_sem.proofs.code_appending.push_labels.Goals as goal

pub loop-label-init : goal.loop-label-init
loop-label-init c = record { begins = Begins-refl c.push_label.new.piece; same = λ ws. refl }

pub loop-label-preserved : goal.loop-label-preserved
loop-label-preserved c =
    let ls = c.in-Some.rest.now in
    let i = c.loop-label.label-index in
    let other : LabelTest = record { low = pos 0; high = None } in
    let x : LabelTest = get_or ls i other in
    let over : FitsSigned w32 c.in_ok-forward.field-0 = search rules in
    let distance = to_z-of_z w32 c.in_ok-forward.field-0 over ∙ c.in_ok-forward.ensures ∙ ap pos c.label_size.ensures.bytes in
    record {
      begins = Begins-trans (Begins-trans c.loop-label.invariant.begins c.in_ok-push_instr.ensures.begins) c.in_ok-push_label-2.ensures.begins;
      same = λ ws. label_appended c.push_label.new.piece c.loop-label.piece c.push_instr-in-loop-label.new.piece c.push_label-in-loop-label.new.piece ws ls i x c.loop-label-test.true (get_or_default ls i other x c.loop-label-test.true) c.args.cell _ distance
          (c.loop-label.invariant.same ws) (c.in_ok-push_instr.ensures.ok ws) (c.in_ok-push_label-2.ensures.ok ws);
    }

pub returns-clause-ok : goal.returns-clause-ok
returns-clause-ok c ws =
    let t = c.args.cell in
    let first = c.in-Some.first.now in
    let rest = c.in-Some.rest.now in
    let a = c.push_label.new.piece in
    let b = c.loop-label.piece in
    let more = more_labels_code t (map test_seen rest) in
    let whole : ends_as b ws none ≡ ends_as a ws more = sym (at_drop_all (λ (l : List LabelTest). ends_as b ws (more_labels_code t (map test_seen l))) rest c.loop-label.label-index c.loop-label-test.false) ∙ c.loop-label.invariant.same ws in
    subst (λ (ls : List LabelTest). Appended c.args.piece.now b ws (labels_code t (map test_seen ls))) (sym c.in-Some.ensures.cases.0)
    (append_then (c.in_ok-push_label.ensures.ok ws) (all_appended none more whole refl))

pub returns-in_err-forward-clause-begins : goal.returns-in_err-forward-clause-begins
returns-in_err-forward-clause-begins c = Begins-trans c.in_ok-push_label.ensures.begins c.loop-label.invariant.begins

pub returns-in_err-push_instr-clause-begins : goal.returns-in_err-push_instr-clause-begins
returns-in_err-push_instr-clause-begins c = Begins-trans (Begins-trans c.in_ok-push_label.ensures.begins c.loop-label.invariant.begins) c.in_err-push_instr.ensures.begins

pub returns-in_err-push_label-2-clause-begins : goal.returns-in_err-push_label-2-clause-begins
returns-in_err-push_label-2-clause-begins c = Begins-trans (Begins-trans (Begins-trans c.in_ok-push_label.ensures.begins c.loop-label.invariant.begins) c.in_ok-push_instr.ensures.begins) c.in_err-push_label-2.ensures.begins

pub returns-clause-begins : goal.returns-clause-begins
returns-clause-begins c = Begins-trans c.in_ok-push_label.ensures.begins c.loop-label.invariant.begins
