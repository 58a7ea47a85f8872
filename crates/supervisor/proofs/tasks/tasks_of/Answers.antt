use Rattle.std.specs.List.{AllZip}
use Rattle.std.proofs.Common.{Global, Vec}
use Rattle.stream_split.specs.Streams.{streams_of}
use Rattle.task_state.specs.declared.task.Task.{Task}
use Rattle.unit_tasks.specs.Starts.{AreNew, StartsIn}
use Rattle.unit_tasks.proofs.Starting.{if_ok, starts}
use Rattle.supervisor.specs.Stands.{IsStand, first_scopes}
use Rattle.supervisor.proofs.Starting.{first_stand}
use Rattle.supervisor.proofs.tasks.tasks_of.Goals as goal

pub returns-clause-stand : goal.returns-clause-stand
returns-clause-stand c =
    if_ok (λ (tasks : Vec Task Global). AreNew c.args.streams.items c.in_ok-arounds.arounds.items tasks.items) (λ (tasks : Vec Task Global). IsStand c.args.texts.now (first_scopes c.args.texts.now) tasks.items) c.new_tasks.result
    (λ tasks new. first_stand c.args.texts.now c.main-main.ensures.unit c.requires.unit c.args.streams.items c.in_ok-arounds.arounds.items tasks.items c.requires.streams c.in_ok-arounds.ensures new) c.new_tasks.ensures

pub returns-clause-start : goal.returns-clause-start
returns-clause-start c =
    if_ok (λ (tasks : Vec Task Global). AreNew c.args.streams.items c.in_ok-arounds.arounds.items tasks.items) (λ (tasks : Vec Task Global). AllZip (StartsIn c.args.texts.now) (streams_of c.args.texts.now) tasks.items) c.new_tasks.result
    (λ tasks new. starts c.args.texts.now c.main-main.ensures.unit c.requires.unit c.args.streams.items c.in_ok-arounds.arounds.items tasks.items c.requires.streams c.in_ok-arounds.ensures new) c.new_tasks.ensures
