use Rattle.std.proofs.Common.{None, refl, ap, ◌∙◌}
use Rattle.m2_base.specs.Views.{stream_view}
use Rattle.m2_base.proofs.Kept.{Turns-keeps}
use Rattle.task_state.specs.Collecting.{Collected, returned}
use Rattle.task_state.proofs.Stepping.{returned_is, returned_there, statements_read, stating_next, stating_still, suits_statements}
use Rattle.task_state.proofs.stating.state_next.Goals as goal

pub add-requires-clause-suits : goal.add-requires-clause-suits
add-requires-clause-suits g c =
    let far = c.requires.far in
    suits_statements (g.S.Scopes.state c.args.scopes.now) _ c.args.block.now c.args.collected.now (record { texts = refl; around = refl; layout = ap (λ (m : Collected). m.layout) c.collected.view_is; item_is = refl }) far.in_hand far.closed far.declared far.all

pub add-requires-clause-read : goal.add-requires-clause-read
add-requires-clause-read g c = statements_read (g.S.Scopes.state c.args.scopes.now).frame.setting (record { texts = c.args.block.now.texts; around = c.args.block.now.around; layout = record { ref_ptr = c.args.collected.ref_ptr; now = c.collected.inside.layout }; item = None }) c.args.block.now c.args.collected.now (record { texts = refl; around = refl; layout = ap (λ (m : Collected). m.layout) c.collected.view_is; item_is = refl }) c.requires.far.in_hand

pub add-requires-clause-returns : goal.add-requires-clause-returns
add-requires-clause-returns g c =
    let far = c.requires.far in
    returned_is (g.S.Scopes.state c.args.scopes.now) (record { texts = c.args.block.now.texts; around = c.args.block.now.around; layout = record { ref_ptr = c.args.collected.ref_ptr; now = c.collected.inside.layout }; item = None }) c.args.block.now c.args.collected.now (record { texts = refl; around = refl; layout = ap (λ (m : Collected). m.layout) c.collected.view_is; item_is = refl }) far.in_hand far.declared far.closed far.all c.result_of-returns.result
    (c.result_of-returns.ensures ∙ ap (λ (m : Collected). returned (stream_view c.args.block.now.tree.now).heading m.returns) c.collected.view_is)

pub add-requires-clause-there : goal.add-requires-clause-there
add-requires-clause-there g c =
    let far = c.requires.far in
    returned_there (g.S.Scopes.state c.args.scopes.now) c.args.block.now c.args.collected.now far.in_hand far.declared c.result_of-returns.result
    (c.result_of-returns.ensures ∙ ap (λ (m : Collected). returned (stream_view c.args.block.now.tree.now).heading m.returns) c.collected.view_is)

pub returns-in-Ok-Known-clause-turns : goal.returns-in-Ok-Known-clause-turns
returns-in-Ok-Known-clause-turns g c = Turns-keeps c.add.ensures.keeps

pub returns-in-Ok-Known-clause-far : goal.returns-in-Ok-Known-clause-far
returns-in-Ok-Known-clause-far g c =
    stating_next c.args.block.now c.args.collected.now c.args.stating.now c.requires.far _ (record { texts = refl; around = refl; layout = ap (λ (m : Collected). m.layout) c.collected.view_is; item_is = refl }) (record { closing = c.args.stating.now.closing; body = c.add.new.self }) c.requires.more refl
    (rw c.in-Ok-Known.field-0-is at c.in-Ok-Known.ensures)

pub returns-in-Ok-DontKnowYet-clause-turns : goal.returns-in-Ok-DontKnowYet-clause-turns
returns-in-Ok-DontKnowYet-clause-turns g c = Turns-keeps c.add.ensures.keeps

pub returns-in-Ok-DontKnowYet-clause-far : goal.returns-in-Ok-DontKnowYet-clause-far
returns-in-Ok-DontKnowYet-clause-far g c =
    let p = rw c.in-Ok-DontKnowYet.field-0-is at c.in-Ok-DontKnowYet.ensures in
    stating_still c.args.block.now c.args.collected.now c.args.stating.now c.requires.far (record { closing = c.args.stating.now.closing; body = c.add.new.self }) p.keeps refl p.same

pub returns-in-Ok-DontKnowYet-clause-stops : goal.returns-in-Ok-DontKnowYet-clause-stops
returns-in-Ok-DontKnowYet-clause-stops g c = let p = rw c.in-Ok-DontKnowYet.field-0-is at c.in-Ok-DontKnowYet.ensures in p.waits

pub returns-in-Err-clause-turns : goal.returns-in-Err-clause-turns
returns-in-Err-clause-turns g c = Turns-keeps c.add.ensures.keeps

pub returns-in-Err-clause-far : goal.returns-in-Err-clause-far
returns-in-Err-clause-far g c =
    let p = c.in-Err.ensures in
    stating_still c.args.block.now c.args.collected.now c.args.stating.now c.requires.far (record { closing = c.args.stating.now.closing; body = c.add.new.self }) p.keeps refl p.same
