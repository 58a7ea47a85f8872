-- Flows that others are made of are less deep.
use Rattle.std.proofs.Common.{◌≡◌, ◌<◌, Option, arith}
use Rattle.std.specs.declared.alloc.Global.{Global}
use Rattle.std.specs.declared.boxed.Box.{Box}
use Rattle.std.specs.declared.vec.Vec.{Vec}
use denote.Param.Weighed.{most}
use Rattle.stmt_sem.specs.declared.flows.Arm.{Arm, size-Arm}
use Rattle.stmt_sem.specs.declared.flows.Flow.{Flow, size-Flow}
use Rattle.stmt_sem.specs.declared.flows.FlowForm.{FlowForm, size-FlowForm}
use Rattle.stmt_sem.specs.declared.flows.FlowForm.TheVariants.{Block, Choice}
use Rattle.stmt_sem.specs.declared.flows.FlowForm.TheViews.{sized-Block, sized-Choice}

pub entries_smaller : (form : FlowForm) (xs : Vec Flow Global) → form ≡ Block xs → most size-Flow xs.items < size-FlowForm form
entries_smaller form xs e = grind (arith, sized-Block)

pub arms_smaller : (form : FlowForm) (arms : Vec Arm Global) (other : Option (Box Flow Global)) → form ≡ Choice arms other → most size-Arm arms.items < size-FlowForm form
arms_smaller form arms other e = grind (arith, sized-Choice)
