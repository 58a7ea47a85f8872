-- The job of a stream may be sent to another thread: its task may, the parts of that, its tree among them, and its handle, and
-- so may a box with both.
use denote.RattleType.{RattleType}
use denote.Ref.{NamedLft}
use denote.Param.Send.{IsSend, sendable}
use denote.Param.SendFields.{as_row_send, declared_send, variants_send}
use denote.Struct.Field.{bool-field, u32-field, u64-field}
use Rattle.std.proofs.Crossing.{Box-send, Vec-send}
use Rattle.std.proofs.option.Option.TheSendSync as option
use Rattle.m2_base.specs.contracts.token.Token as Token
use Rattle.m2_base.proofs.trees.declarations.StreamKind.TheSendSync as kind
use Rattle.task_state.specs.contracts.stages.Begun as Begun
use Rattle.task_state.specs.contracts.stages.Stage as Stage
use Rattle.task_state.specs.contracts.stages.Stating as Stating
use Rattle.task_state.specs.contracts.task.Task as Task
use Rattle.m2_base.proofs.token.Token.TheSendSync as token
use Rattle.m2_base.proofs.sites.Around.TheSendSync as around
use Rattle.m2_base.proofs.outputs.Output.TheSendSync as output
use Rattle.task_state.proofs.collecting.Collected.TheSendSync as collected
use Rattle.task_state.proofs.stages.Stating.TheSendSync as stating
use Rattle.tree_sending.proofs.Crossing.{tree-send}
use Rattle.unit_workers.proofs.handles.TableScopes.TheSendSync as scopes
use Rattle.unit_workers.specs.contracts.jobs.JobParts as JobParts
use Rattle.unit_workers.specs.contracts.jobs.StreamJob as StreamJob
use Rattle.unit_workers.specs.declared.handles.OfTable.{Ghosts}

u32-send : IsSend u32-field.row
u32-send = search sendable

u64-send : IsSend u64-field.row
u64-send = search sendable

bool-send : IsSend bool-field.row
bool-send = search sendable

begun-send : IsSend Begun.the_row
begun-send =
    declared_send Begun.the_type
    (tree-send, (collected.the_send, (as_row_send bool-field bool-send, (as_row_send bool-field bool-send, (option.the_send Stating.the_row stating.the_send, tt)))))

stage-send : IsSend Stage.the_row
stage-send = variants_send Stage.enum ((Vec-send Token.the_row token.the_send, tt), ((begun-send, tt), ((output.the_send, tt), tt)))

task-send : IsSend Task.the_row
task-send =
    declared_send Task.the_type
    (as_row_send u32-field u32-send, (as_row_send u32-field u32-send, (kind.the_send, (around.the_send, (stage-send, (as_row_send u64-field u64-send, tt))))))

parts-send : (κ : NamedLft) (J : RattleType) (of : Ghosts J.Denot) → IsSend (JobParts.the_row κ J of)
parts-send κ J of = declared_send (JobParts.the_type κ J of) (task-send, (scopes.the_send κ J of, tt))

pub job-send : (κ : NamedLft) (J : RattleType) (of : Ghosts J.Denot) → IsSend (StreamJob.the_row κ J of)
job-send κ J of = declared_send (StreamJob.the_type κ J of) (Box-send (JobParts.the_row κ J of) (parts-send κ J of), tt)
