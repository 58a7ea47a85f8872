use Rattle.std.proofs.Common.{◌≡◌, ◌∙◌, ◌≤◌, Some, sym, ap, subst, arith}
use Rattle.std.specs.Prelude.{Option, slice_get}
use Rattle.stack_machine.specs.Able.{Comes}
use Rattle.stack_machine.specs.declared.code.Routine.{Routine}
use Rattle.stack_machine.specs.Ready.{IsSmall}
use Rattle.stack_machine.specs.State.{state_of, program_of}
use Rattle.stack_machine.specs.Step.{Next, called_at, called_with, does}
use Rattle.stack_machine.proofs.Callees.{found}
use Rattle.stack_machine.proofs.Cells.{asked_link}
use Rattle.stack_machine.proofs.Links.{within}
use Rattle.stack_machine.proofs.act.call_routine.Goals as goal

pub index-p-requires : goal.index-p-requires
index-p-requires c =
    let lt = within c.args.code.now.routines.items c.args.k c.requires.asks.callee c.requires.asks.is in
    let len = c.args.code.now.routines.ok.0 in
    omega (arith, lt, len)

pub link_to-link-requires-clause-linked : goal.link_to-link-requires-clause-linked
link_to-link-requires-clause-linked c =
    let same = found c.args.code.now.routines.items c.args.k c.requires.asks.callee c.index-p.result.now c.requires.asks.is c.index-p.ensures in
    asked_link c.args.core.now c.args.h c.index-p.result.now.outer (λ e is. c.requires.asks.linked e (ap (λ (p : Routine). p.outer) same ∙ is))

pub call-requires-clause-able : goal.call-requires-clause-able
call-requires-clause-able c =
    let same = found c.args.code.now.routines.items c.args.k c.requires.asks.callee c.index-p.result.now c.requires.asks.is c.index-p.ensures in
    record {
      there = subst (λ (p : Routine). p.params ≤ c.args.core.now.sp) same c.requires.asks.params;
      space = c.requires.able.space;
      room = c.requires.able.room;
      behind = c.requires.able.behind;
    }

pub call-requires-clause-small : goal.call-requires-clause-small
call-requires-clause-small c =
    let same = found c.args.code.now.routines.items c.args.k c.requires.asks.callee c.index-p.result.now c.requires.asks.is c.index-p.ensures in
    subst IsSmall same c.requires.asks.small

pub returns-clause-comes : goal.returns-clause-comes
unfolding does
returns-clause-comes c = λ got.
    let s = state_of c.args.core.now in
    let p = c.index-p.result.now in
    let same = found c.args.code.now.routines.items c.args.k c.requires.asks.callee p c.requires.asks.is c.index-p.ensures in
    let is : slice_get c.args.code.now.routines.items c.args.k ≡ Some p = c.requires.asks.is ∙ ap Some same in
    subst (λ (next : Next). Comes c.call.result next s (state_of c.call.new.core))
    (sym (ap (λ (o : Option Routine). called_at o c.args.h s) is ∙ ap (called_with p s) c.link_to-link.ensures))
    c.call.ensures.comes
