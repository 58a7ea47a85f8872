use Rattle.std.proofs.Common.{refl, sym, ap, subst}
use Rattle.decl_sem.specs.Items.{item_view}
use Rattle.m2_base.specs.States.{State, Turns}
use Rattle.m2_base.proofs.Kept.{Turns-entered, Turns-keeps, Turns-trans}
use Rattle.task_state.specs.Collecting.{Collected}
use Rattle.task_state.proofs.Stepping.{added_by, at_item_by, declaring_kept, declaring_still, enters_by, taken_by}
use Rattle.task_state.proofs.declaring.declare_next.Goals as goal

pub declare-requires : goal.declare-requires
declare-requires g c =
    at_item_by (g.S.Scopes.state c.args.scopes.now) _ c.args.block.now c.args.collected.now _ (item_view c.args.item.now) c.collected.view_is
    (record { texts = refl; around = refl; layout = refl; item_is = refl }) c.requires.far c.requires.here

pub same-collected : goal.same-collected
same-collected g c = refl

pub take-requires-clause-enters : goal.take-requires-clause-enters
take-requires-clause-enters g c =
    enters_by (g.S.Scopes.state c.args.scopes.now) _ c.args.block.now c.args.collected.now _ (item_view c.args.item.now) c.collected.view_is
    (record { texts = refl; around = refl; layout = refl; item_is = refl }) c.requires.far c.requires.here
    (g.S.Scopes.state c.declare.new.scopes) c.in-Ok-Known.declared (rw c.in-Ok-Known.field-0-is at c.in-Ok-Known.ensures)

pub take-requires-clause-adds : goal.take-requires-clause-adds
take-requires-clause-adds g c =
    added_by (g.S.Scopes.state c.args.scopes.now) _ c.args.block.now c.args.collected.now _ (item_view c.args.item.now) c.collected.view_is
    (record { texts = refl; around = refl; layout = refl; item_is = refl }) c.requires.far c.requires.here
    (g.S.Scopes.state c.declare.new.scopes) c.in-Ok-Known.declared (rw c.in-Ok-Known.field-0-is at c.in-Ok-Known.ensures)

pub returns-in-Ok-clause-turns : goal.returns-in-Ok-clause-turns
returns-in-Ok-clause-turns g c = Turns-trans (Turns-keeps c.declare.ensures.keeps) (Turns-entered c.in-Ok.ensures.entered)

pub returns-in-Ok-clause-far : goal.returns-in-Ok-clause-far
returns-in-Ok-clause-far g c =
    taken_by (g.S.Scopes.state c.args.scopes.now) _ c.args.block.now c.args.collected.now _ (item_view c.args.item.now) c.collected.view_is
    (record { texts = refl; around = refl; layout = refl; item_is = refl }) c.requires.far c.requires.here
    (g.S.Scopes.state c.declare.new.scopes) c.in-Ok-Known.declared (rw c.in-Ok-Known.field-0-is at c.in-Ok-Known.ensures)
    (g.S.Scopes.state c.take.new.scopes) c.take.new.collected c.in-Ok.ensures.entered c.in-Ok.ensures.added

pub returns-in-Ok-clause-next : goal.returns-in-Ok-clause-next
returns-in-Ok-clause-next g c = ap (λ (m : Collected). m.count) c.in-Ok.ensures.added

pub returns-in-Ok-Known-clause-turns : goal.returns-in-Ok-Known-clause-turns
returns-in-Ok-Known-clause-turns g c =
    subst (λ (z : State). Turns (g.S.Scopes.state c.args.scopes.now) z) (sym c.in-Err-take.ensures.same) (Turns-keeps c.declare.ensures.keeps)

pub returns-in-Ok-Known-clause-far : goal.returns-in-Ok-Known-clause-far
returns-in-Ok-Known-clause-far g c =
    declaring_kept (g.S.Scopes.state c.args.scopes.now) (g.S.Scopes.state c.declare.new.scopes) (g.S.Scopes.state c.take.new.scopes) c.args.block.now c.args.collected.now c.take.new.collected
    c.declare.ensures.looks c.declare.ensures.keeps c.in-Err-take.ensures.same c.in-Err-take.ensures.kept c.requires.far

pub same-collected-in-Ok-DontKnowYet : goal.same-collected-in-Ok-DontKnowYet
same-collected-in-Ok-DontKnowYet g c = refl

pub returns-in-Ok-DontKnowYet-clause-turns : goal.returns-in-Ok-DontKnowYet-clause-turns
returns-in-Ok-DontKnowYet-clause-turns g c = Turns-keeps c.declare.ensures.keeps

pub returns-in-Ok-DontKnowYet-clause-far : goal.returns-in-Ok-DontKnowYet-clause-far
returns-in-Ok-DontKnowYet-clause-far g c = declaring_still c.args.block.now c.args.collected.now c.declare.ensures.keeps c.requires.far

pub returns-in-Ok-DontKnowYet-clause-stops : goal.returns-in-Ok-DontKnowYet-clause-stops
returns-in-Ok-DontKnowYet-clause-stops g c = rw c.in-Ok-DontKnowYet.field-0-is at c.in-Ok-DontKnowYet.ensures.waits

pub same-collected-in-Err : goal.same-collected-in-Err
same-collected-in-Err g c = refl

pub returns-clause-turns : goal.returns-clause-turns
returns-clause-turns g c = Turns-keeps c.declare.ensures.keeps

pub returns-clause-far : goal.returns-clause-far
returns-clause-far g c = declaring_still c.args.block.now c.args.collected.now c.declare.ensures.keeps c.requires.far
