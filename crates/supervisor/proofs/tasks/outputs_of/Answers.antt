use Rattle.std.proofs.Common.{subst, sym, List, ◌++◌, ◌∷◌, []}
use Rattle.std.specs.List.{AllZip}
use Rattle.std.proofs.lemmas.Slice.Zip.{all_zipped_more}
use Rattle.m2_base.specs.declared.outputs.Output.{Output}
use Rattle.supervisor.specs.Stands.{Leaves}
use Rattle.supervisor.proofs.tasks.outputs_of.Goals as goal

pub loop-task-preserved : goal.loop-task-preserved
loop-task-preserved c =
    subst (λ (os : List Output). AllZip Leaves (c.loop-task.yielded ++ c.in-Some.task ∷ []) os) (sym c.in_ok-push.ensures.items)
    (all_zipped_more Leaves c.loop-task.yielded c.loop-task.outputs.items c.in-Some.task c.finished.result c.loop-task.invariant c.finished.ensures.left)
