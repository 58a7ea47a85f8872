use Rattle.std.proofs.Common.{◌≡◌, Some, None, Option, ap, sym, ◌∙◌, subst, rules, ℕ, []}
use Rattle.std.specs.Prelude.{slice_get}
use Rattle.std.proofs.lemmas.Option.{slice_get-get_or}
use Rattle.std.proofs.lemmas.Result.{on_err_weaker}
use Rattle.stack_machine.specs.InOut.{Got}
use Rattle.stack_machine.specs.State.{state_of, program_of}
use Rattle.stack_machine.specs.Able.{CanDo}
use Rattle.stack_machine.specs.Step.{nothing}
use Rattle.stack_machine.specs.Runs.{asked_by}
use Rattle.stack_machine.proofs.Readiness.{at_within, able, done_there, step_of, ready_after, ready_result, framed, framed_result}
use Rattle.stack_machine.proofs.Serving.{stepped_alone, ok_stepped, broken_served, in_out_there}
use Rattle.stack_machine.proofs.run.one_step.Goals as goal

pub asked_for-requires-clause-there : goal.asked_for-requires-clause-there
asked_for-requires-clause-there g c =
    let is = slice_get-get_or c.args.code.now.ops.items c.args.core.now.at c.index-op.result.now (at_within c.args.code.now c.args.core.now c.requires.ready) ∙ ap Some (sym c.index-op.ensures) in
    (able c.args.code.now c.args.core.now c.index-op.result.now c.requires.ready is).can.there

pub act-requires-clause-able : goal.act-requires-clause-able
act-requires-clause-able g c =
    let is = slice_get-get_or c.args.code.now.ops.items c.args.core.now.at c.index-op.result.now (at_within c.args.code.now c.args.core.now c.requires.ready) ∙ ap Some (sym c.index-op.ensures) in
    able c.args.code.now c.args.core.now c.index-op.result.now c.requires.ready is

pub act-requires-clause-asked : goal.act-requires-clause-asked
act-requires-clause-asked g c = search rules

pub call_service-requires-clause-able : goal.call_service-requires-clause-able
call_service-requires-clause-able g c =
    let is = slice_get-get_or c.args.code.now.ops.items c.args.core.now.at c.index-op.result.now (at_within c.args.code.now c.args.core.now c.requires.ready) ∙ ap Some (sym c.index-op.ensures) in
    subst (λ (n : ℕ). CanDo c.args.core.now n) (sym c.in-Some.ensures.serves.takes_so) (able c.args.code.now c.args.core.now c.index-op.result.now c.requires.ready is).can

pub call_service-requires-clause-some : goal.call_service-requires-clause-some
call_service-requires-clause-some g c = c.in-Some.ensures.serves.params

pub call_service-requires-clause-done : goal.call_service-requires-clause-done
call_service-requires-clause-done g c =
    let is = slice_get-get_or c.args.code.now.ops.items c.args.core.now.at c.index-op.result.now (at_within c.args.code.now c.args.core.now c.requires.ready) ∙ ap Some (sym c.index-op.ensures) in
    let r = c.requires.ready in
    let p = program_of c.args.code.now in
    let s = state_of c.args.core.now in
    done_there c.args.code.now c.args.core.now r
    (in_out_there p r.shapes s.at r.fits.at.proc r.fits.at.height c.index-op.result.now s c.in-Some.asked.service (r.valid.each s.at r.fits.at.proc r.fits.at.height c.index-op.result.now is r.fits.at.here) (sym c.in-Some.ensures.service))

pub returns-in-None-clause-ready : goal.returns-in-None-clause-ready
returns-in-None-clause-ready g c =
    let is = slice_get-get_or c.args.code.now.ops.items c.args.core.now.at c.index-op.result.now (at_within c.args.code.now c.args.core.now c.requires.ready) ∙ ap Some (sym c.index-op.ensures) in
    ready_after c.args.code.now c.args.core.now c.act.new.core c.index-op.result.now nothing c.act.result c.requires.ready is (c.act.ensures.comes nothing) c.act.ensures.room

pub returns-in-None-clause-framed : goal.returns-in-None-clause-framed
returns-in-None-clause-framed g c =
    let is = slice_get-get_or c.args.code.now.ops.items c.args.core.now.at c.index-op.result.now (at_within c.args.code.now c.args.core.now c.requires.ready) ∙ ap Some (sym c.index-op.ensures) in
    framed c.args.code.now c.args.core.now c.act.new.core c.index-op.result.now nothing c.act.result c.requires.ready is (c.act.ensures.comes nothing)

pub returns-in-None-clause-told : goal.returns-in-None-clause-told
returns-in-None-clause-told g c =
    let is = slice_get-get_or c.args.code.now.ops.items c.args.core.now.at c.index-op.result.now (at_within c.args.code.now c.args.core.now c.requires.ready) ∙ ap Some (sym c.index-op.ensures) in
    let asks : None ≡ asked_by (program_of c.args.code.now) (Some c.index-op.result.now) (state_of c.args.core.now) = search rules in
    stepped_alone (program_of c.args.code.now) c.index-op.result.now (state_of c.args.core.now) (state_of c.act.new.core) c.act.result (g.K.Source.left c.args.keys.now) (g.P.Sink.written c.args.print.now) is asks
    (λ got. step_of c.args.code.now c.args.core.now c.index-op.result.now got c.requires.ready is) c.act.ensures.comes

pub returns-in-Some-clause-ready : goal.returns-in-Some-clause-ready
returns-in-Some-clause-ready g c =
    let is = slice_get-get_or c.args.code.now.ops.items c.args.core.now.at c.index-op.result.now (at_within c.args.code.now c.args.core.now c.requires.ready) ∙ ap Some (sym c.index-op.ensures) in
    ready_result c.args.code.now c.args.core.now c.call_service.new.core c.index-op.result.now c.call_service.result c.in-Some.asked.service c.in-Some.asked.operands c.requires.ready is c.in-Some.ensures.serves c.call_service.ensures.comes c.call_service.ensures.same c.call_service.ensures.room

pub returns-in-Some-clause-framed : goal.returns-in-Some-clause-framed
returns-in-Some-clause-framed g c =
    let is = slice_get-get_or c.args.code.now.ops.items c.args.core.now.at c.index-op.result.now (at_within c.args.code.now c.args.core.now c.requires.ready) ∙ ap Some (sym c.index-op.ensures) in
    framed_result c.args.code.now c.args.core.now c.call_service.new.core c.index-op.result.now c.call_service.result c.in-Some.asked.service c.in-Some.asked.operands c.requires.ready is c.in-Some.ensures.serves c.call_service.ensures.comes

pub returns-in-Some-clause-told : goal.returns-in-Some-clause-told
returns-in-Some-clause-told g c =
    let is = slice_get-get_or c.args.code.now.ops.items c.args.core.now.at c.index-op.result.now (at_within c.args.code.now c.args.core.now c.requires.ready) ∙ ap Some (sym c.index-op.ensures) in
    ok_stepped (program_of c.args.code.now) c.index-op.result.now (state_of c.args.core.now) (state_of c.call_service.new.core) c.call_service.result c.in-Some.asked.service c.in-Some.asked.operands (g.K.Source.left c.args.keys.now) (g.K.Source.left c.call_service.new.keys) (g.P.Sink.written c.args.print.now) (g.P.Sink.written c.call_service.new.print)
    is c.in-Some.ensures.service (λ got. step_of c.args.code.now c.args.core.now c.index-op.result.now got c.requires.ready is) c.in-Some.ensures.serves c.call_service.ensures.told

pub returns-in-Some-clause-broken : goal.returns-in-Some-clause-broken
returns-in-Some-clause-broken g c =
    let is = slice_get-get_or c.args.code.now.ops.items c.args.core.now.at c.index-op.result.now (at_within c.args.code.now c.args.core.now c.requires.ready) ∙ ap Some (sym c.index-op.ensures) in
    on_err_weaker c.call_service.result
    (broken_served (program_of c.args.code.now) c.index-op.result.now (state_of c.args.core.now) c.in-Some.asked.service (g.K.Source.left c.args.keys.now) (g.K.Source.left c.call_service.new.keys) (g.P.Sink.written c.args.print.now) (g.P.Sink.written c.call_service.new.print) is c.in-Some.ensures.service)
    c.call_service.ensures.broken
