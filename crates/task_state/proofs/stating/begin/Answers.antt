use Rattle.std.proofs.Common.{◌≡◌, None, refl, sym, ap, ◌∙◌, map}
use Rattle.m2_base.specs.Copies.{copy_view}
use Rattle.m2_base.proofs.Kept.{Turns-keeps}
use Rattle.task_state.specs.Collecting.{Collected}
use Rattle.task_state.specs.declared.stages.Stating.{Stating}
use Rattle.task_state.proofs.Stepping.{complete_still, stating_begun, stating_still, suits_statements}
use Rattle.task_state.proofs.stating.begin.Goals as goal

pub close_check-requires-clause-suits : goal.close_check-requires-clause-suits
close_check-requires-clause-suits g c =
    let far = c.requires.complete in
    suits_statements (g.S.Scopes.state c.args.scopes.now) _ c.args.block.now c.args.collected.now (record { texts = refl; around = refl; layout = ap (λ (x : Collected). x.layout) c.collected.view_is; item_is = refl }) far.in_hand far.closed far.declared far.all

pub returns-in-Ok-DontKnowYet-clause-turns : goal.returns-in-Ok-DontKnowYet-clause-turns
returns-in-Ok-DontKnowYet-clause-turns g c = Turns-keeps c.close_check.ensures.reads.keeps

pub returns-in-Ok-DontKnowYet-clause-complete : goal.returns-in-Ok-DontKnowYet-clause-complete
returns-in-Ok-DontKnowYet-clause-complete g c = complete_still c.args.block.now c.args.collected.now c.close_check.ensures.reads.keeps c.requires.complete

pub returns-in-Ok-DontKnowYet-clause-stops : goal.returns-in-Ok-DontKnowYet-clause-stops
returns-in-Ok-DontKnowYet-clause-stops g c = rw c.in-Ok-DontKnowYet.field-0-is at c.in-Ok-DontKnowYet.ensures.waits

pub returns-in-Err-clause-turns : goal.returns-in-Err-clause-turns
returns-in-Err-clause-turns g c = Turns-keeps c.close_check.ensures.reads.keeps

pub returns-in-Err-clause-complete : goal.returns-in-Err-clause-complete
returns-in-Err-clause-complete g c = complete_still c.args.block.now c.args.collected.now c.close_check.ensures.reads.keeps c.requires.complete

pub returns-in-Err-begin-clause-turns : goal.returns-in-Err-begin-clause-turns
returns-in-Err-begin-clause-turns g c = Turns-keeps c.close_check.ensures.reads.keeps

pub returns-in-Err-begin-clause-complete : goal.returns-in-Err-begin-clause-complete
returns-in-Err-begin-clause-complete g c = complete_still c.args.block.now c.args.collected.now c.close_check.ensures.reads.keeps c.requires.complete

pub returns-clause-turns : goal.returns-clause-turns
returns-clause-turns g c = Turns-keeps c.close_check.ensures.reads.keeps

pub returns-clause-complete : goal.returns-clause-complete
returns-clause-complete g c = complete_still c.args.block.now c.args.collected.now c.close_check.ensures.reads.keeps c.requires.complete

pub returns-clause-begun : goal.returns-clause-begun
returns-clause-begun g c =
    let bl = c.args.block.now in
    let m = c.args.collected.now in
    let same = c.collected.view_is in
    let copies : map copy_view c.deref.result.now ≡ m.copies = ap (map copy_view) c.deref.ensures.value ∙ ap (λ (x : Collected). x.copies) same in
    let stating : Stating = record { closing = c.in-Ok-Known.notes.diags; body = c.in-Ok.value } in
    stating_still bl m stating
    (stating_begun (g.S.Scopes.state c.args.scopes.now) (record { texts = c.args.block.now.texts; around = c.args.block.now.around; layout = record { ref_ptr = c.args.collected.ref_ptr; now = c.collected.inside.layout }; item = None }) bl m stating (record { texts = refl; around = refl; layout = ap (λ (x : Collected). x.layout) c.collected.view_is; item_is = refl }) c.requires.complete c.in-Ok.ensures.none (rw c.in-Ok-Known.field-0-is at c.in-Ok-Known.ensures.told)
    (λ k e cell prologue. c.in-Ok.ensures.begun k e (cell ∙ sym (ap (λ (x : Collected). x.cell) same)) (prologue ∙ sym copies)))
    stating c.close_check.ensures.reads.keeps refl refl
