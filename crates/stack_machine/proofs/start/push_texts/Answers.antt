use Rattle.std.proofs.Common.{ℕ, List, ◌++◌, map, pos, ap, ◌∙◌, refl}
use Rattle.m2_base.specs.declared.outputs.ProcCode.{ProcCode}
use Rattle.object_file.specs.Views.{procedure_of}
use Rattle.stack_machine.specs.Loading.{data_cells}
use Rattle.stack_machine.proofs.Pushing.{not_ok, part_all, part_more}
use Rattle.stack_machine.proofs.start.push_texts.Goals as goal

pub returns-in_err-push_bytes : goal.returns-in_err-push_bytes
returns-in_err-push_bytes c = not_ok c.from_residual.result _ c.from_residual.ensures.0

pub loop-procedure-preserved : goal.loop-procedure-preserved
loop-procedure-preserved c =
    part_more (λ (ps : List ProcCode). data_cells (map procedure_of ps)) c.args.procedures.now c.loop-procedure.procedure-index c.procedure-item.result c.loop-procedure.cells.items c.push_bytes.new.cells.items (map pos c.procedure-item.result.bytes.items) _ c.loop-procedure-test.true c.procedure-item.is refl c.loop-procedure.invariant
    (c.in_ok-push_bytes.ensures ∙ ap (λ (bytes : List ℕ). c.loop-procedure.cells.items ++ map pos bytes) c.deref.ensures.value)

pub returns : goal.returns
returns c = part_all (λ (ps : List ProcCode). data_cells (map procedure_of ps)) c.args.procedures.now c.loop-procedure.procedure-index c.loop-procedure.cells.items _ refl c.loop-procedure-test.false c.loop-procedure.invariant
