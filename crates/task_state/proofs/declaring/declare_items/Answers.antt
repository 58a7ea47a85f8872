use Rattle.std.proofs.Common.{refl, ap}
use Rattle.m2_base.specs.Statics.Items.{items_of}
use Rattle.m2_base.specs.Views.{stream_view}
use Rattle.decl_sem.specs.Items.{item_view}
use Rattle.m2_base.proofs.Kept.{Turns-refl, Turns-trans}
use Rattle.task_state.specs.Collecting.{Collected}
use Rattle.task_state.proofs.ItemsHere.{all_there, fewer_left, item_here, where_none}
use Rattle.task_state.proofs.Turning.{stop_later}
use Rattle.task_state.proofs.declaring.declare_items.Goals as goal

pub returns-in-Err-clause-turns : goal.returns-in-Err-clause-turns
returns-in-Err-clause-turns g c = Turns-refl (g.S.Scopes.state c.args.scopes.now)

pub returns-in-Err-clause-far : goal.returns-in-Err-clause-far
returns-in-Err-clause-far g c = c.requires.far

pub items-init : goal.items-init
items-init g c = record { turns = Turns-refl (g.S.Scopes.state c.args.scopes.now); far = c.requires.far }

pub same-collected : goal.same-collected
same-collected g c = refl

pub declare_next-requires-clause-far : goal.declare_next-requires-clause-far
declare_next-requires-clause-far g c = c.items.invariant.far

pub declare_next-requires-clause-here : goal.declare_next-requires-clause-here
declare_next-requires-clause-here g c =
    item_here c.deref.result.now c.in-Ok.value.items (items_of (stream_view c.args.block.now.tree.now)) c.collected.inside.count c.items.collected.count c.in-Some.item.now c.deref.ensures.value c.in-Ok.ensures
    (ap (λ (m : Collected). m.count) c.collected.view_is) c.in-Some.ensures.there

pub items-smaller : goal.items-smaller
items-smaller g c =
    fewer_left (items_of (stream_view c.args.block.now.tree.now)) c.items.collected.count c.declare_next.new.collected.count (item_view c.in-Some.item.now)
    (item_here c.deref.result.now c.in-Ok.value.items (items_of (stream_view c.args.block.now.tree.now)) c.collected.inside.count c.items.collected.count c.in-Some.item.now c.deref.ensures.value c.in-Ok.ensures
    (ap (λ (m : Collected). m.count) c.collected.view_is) c.in-Some.ensures.there)
    c.in-Ok-declare_next.ensures.next

pub items-preserved : goal.items-preserved
items-preserved g c = record { turns = Turns-trans c.items.invariant.turns c.declare_next.ensures.turns; far = c.declare_next.ensures.far }

pub returns-in-Err-declare_next-clause-turns : goal.returns-in-Err-declare_next-clause-turns
returns-in-Err-declare_next-clause-turns g c = Turns-trans c.items.invariant.turns c.declare_next.ensures.turns

pub returns-in-Err-declare_next-clause-far : goal.returns-in-Err-declare_next-clause-far
returns-in-Err-declare_next-clause-far g c = c.declare_next.ensures.far

pub returns-in-Err-declare_next-clause-stops : goal.returns-in-Err-declare_next-clause-stops
returns-in-Err-declare_next-clause-stops g c =
    stop_later (Unit {0}) (Unit {0}) (g.S.Scopes.state c.args.scopes.now) (g.S.Scopes.state c.items.scopes) (g.S.Scopes.state c.declare_next.new.scopes) c.in-Err-declare_next.stop c.items.invariant.turns c.in-Err-declare_next.ensures.stops

pub same-collected-in_default : goal.same-collected-in_default
same-collected-in_default g c = refl

pub returns-clause-turns : goal.returns-clause-turns
returns-clause-turns g c = c.items.invariant.turns

pub returns-clause-far : goal.returns-clause-far
returns-clause-far g c = c.items.invariant.far

pub returns-clause-all : goal.returns-clause-all
returns-clause-all g c =
    all_there c.deref.result.now c.in-Ok.value.items (items_of (stream_view c.args.block.now.tree.now)) c.collected.inside.count c.items.collected.count c.deref.ensures.value c.in-Ok.ensures
    (ap (λ (m : Collected). m.count) c.collected.view_is) (where_none c.item_at.result _ c.in_default.is c.item_at.ensures.past) c.items.invariant.far.declared.within
