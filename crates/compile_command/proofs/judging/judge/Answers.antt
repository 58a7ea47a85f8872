use Rattle.std.proofs.Common.{Err, ap}
use Rattle.module_outcome.specs.Decisions.{has_wrong_imports}
use Rattle.module_outcome.specs.Verdicts.{decision_of}
use Rattle.module_outcome.proofs.Deciding.{fault_decides, whole_decides, whole_named}
use Rattle.compile_command.proofs.judging.judge.Goals as goal

pub returns-in_ok-judge_unit-in-Ok-Whole-clause-decides : goal.returns-in_ok-judge_unit-in-Ok-Whole-clause-decides
returns-in_ok-judge_unit-in-Ok-Whole-clause-decides g c =
    let done = c.in_ok-judge_unit-in-Ok-Whole in
    whole_decides (g.H.Shelf.holds c.args.shelf.now) c.args.name.now c.in-Ok-Whole.field-0 c.in-Ok-Whole.ensures.gathered c.in-Ok-Whole.texts (decision_of done.field-0) c.in-Ok-Whole.field-0-is done.ensures.unit done.ensures.decides

pub returns-in_ok-judge_unit-in-Ok-Whole-clause-named : goal.returns-in_ok-judge_unit-in-Ok-Whole-clause-named
returns-in_ok-judge_unit-in-Ok-Whole-clause-named g c =
    let done = c.in_ok-judge_unit-in-Ok-Whole in
    whole_named (g.H.Shelf.holds c.args.shelf.now) c.args.name.now c.in-Ok-Whole.field-0 c.in-Ok-Whole.ensures.gathered c.in-Ok-Whole.texts (decision_of done.field-0) c.in-Ok-Whole.field-0-is done.ensures.named

pub returns-in-Ok-Wrong-clause-decides : goal.returns-in-Ok-Wrong-clause-decides
returns-in-Ok-Wrong-clause-decides g c =
    has_wrong_imports c.in-Ok-Wrong.texts c.in-Ok-Wrong.wrongs.items (rw c.in-Ok-Wrong.field-0-is at c.in-Ok-Wrong.ensures.gathered) (rw c.in-Ok-Wrong.field-0-is at c.in-Ok-Wrong.ensures.told)

pub returns-in-Err-clause-decides : goal.returns-in-Err-clause-decides
returns-in-Err-clause-decides g c =
    fault_decides (g.H.Shelf.holds c.args.shelf.now) c.args.name.now c.in-Err.fault (λ e. c.in-Err.ensures.no_text (ap Err e)) (λ limit e. c.in-Err.ensures.limits limit (ap Err e)) c.judge_fault.result c.judge_fault.ensures.told
