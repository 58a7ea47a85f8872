use Rattle.std.proofs.Common.{ap, option_map}
use Rattle.m2_base.specs.Views.{expr_view}
use Rattle.block_code.specs.Flows.{straight}
use Rattle.stmt_sem.specs.Stands.{stand_in}
use Rattle.block_code.specs.Statements.{return_of}
use Rattle.stmt_sem.proofs.Flowed.{by_answer, made_after, of_coding, unknown, unmade}
use Rattle.stmt_sem.proofs.walker.Walker.return_statement.Goals as goal

pub returns-in-DontKnowYet-clause-walks : goal.returns-in-DontKnowYet-clause-walks
returns-in-DontKnowYet-clause-walks g c = unknown (of_coding _ (rw c.in-DontKnowYet.is at c.in-Ok.ensures.codes))

pub returns-in-Err-clause-walks : goal.returns-in-Err-clause-walks
returns-in-Err-clause-walks g c = unmade (of_coding _ c.in-Err.ensures.codes) _

pub straight-requires-clause-sound : goal.straight-requires-clause-sound
straight-requires-clause-sound g c = (rw c.in-Known.is at c.in-Ok.ensures.codes).grows.sound c.requires.sound

pub straight-requires-clause-there : goal.straight-requires-clause-there
straight-requires-clause-there g c = (rw c.in-Known.is at c.in-Ok.ensures.codes).there

pub returns-clause-walks : goal.returns-clause-walks
returns-clause-walks g c =
    let s = c.args.stand.now in
    let one = of_coding _ (rw c.in-Known.is at c.in-Ok.ensures.codes) in
    by_answer c.straight.result c.answered.result c.answered.ensures
    (made_after (λ k. return_of (stand_in k s) c.args.at (option_map expr_view c.args.value.now)) (λ p. straight p) c.straight.result one c.straight.ensures (λ p same cell. ap straight (same cell)))

pub returns-in-DontKnowYet-clause-keeps : goal.returns-in-DontKnowYet-clause-keeps
returns-in-DontKnowYet-clause-keeps g c = c.returned.ensures.keeps

pub returns-in-Err-clause-keeps : goal.returns-in-Err-clause-keeps
returns-in-Err-clause-keeps g c = c.returned.ensures.keeps

pub returns-clause-keeps : goal.returns-clause-keeps
returns-clause-keeps g c = c.returned.ensures.keeps
