use Rattle.std.proofs.Common.{◌∙◌, Option, ap, map, option_map, sym}
use Rattle.code_form.specs.declared.instr.Instr.{Instr}
use Rattle.type_rules.specs.Scenes.{block_of}
use Rattle.expr_sem.specs.ArgumentCodes.{parameter_view}
use Rattle.expr_sem.specs.Callees.{target_called}
use Rattle.block_code.specs.Calls.{procedure_call}
use Rattle.block_code.specs.Parts.{none}
use Rattle.expr_sem.specs.Targets.{target_view}
use Rattle.expr_sem.specs.declared.procedure_names.Target.{Target as NamedTarget}
use Rattle.m2_base.specs.Statics.Contexts.{Scene}
use Rattle.expr_sem.proofs.calls.procedure_callable.Goals as goal

pub returns-in-Some-clause-told : goal.returns-in-Some-clause-told
returns-in-Some-clause-told c tables nodes =
    let ps = map parameter_view c.args.signature.params.items in
    let r = c.args.signature.result in
    let scene : Scene = record { block = block_of c.args.around.now; tables = tables } in
    ap (λ (i : Instr). procedure_call ps none i r 0) (c.call_instr.ensures tables) ∙ ap (λ (t : Option NamedTarget). target_called scene ps r (option_map target_view t)) (sym c.in-Some.is)
