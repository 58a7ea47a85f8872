use Rattle.std.proofs.Common.{◌∙◌, ℕ, ap, sym}
use Rattle.m2_base.specs.Gives.{and_then, gives}
use Rattle.m2_base.specs.Trees.{expr_at}
use Rattle.m2_base.specs.Views.{designator_view, expr_view}
use Rattle.const_eval.proofs.ReadParts.{at_seen}
use Rattle.block_code.specs.Coded as code
use Rattle.expr_sem.specs.Codings.{coded_in, with_types}
use Rattle.block_code.specs.Expressions.{value}
use Rattle.expr_sem.proofs.Onwards.{coded_after}
use Rattle.expr_sem.proofs.Operating.{coded_later}
use Rattle.expr_sem.proofs.Sequencing.{Grows-trans}
use Rattle.expr_sem.proofs.Walking.{stands_after}
use Rattle.block_code.specs.Assignments.{assignment}
use Rattle.block_code.specs.Flows.{straight}
use Rattle.stmt_sem.specs.Stands.{stand_in}
use Rattle.stmt_sem.specs.Stated.{answer_of}
use Rattle.block_code.specs.Statements.{variable}
use Rattle.stmt_sem.proofs.Flowed.{by_answer, described, flowing_after, made_after, of_coding, sound_after, unknown, unknown_after, unmade, unmade_after}
use Rattle.stmt_sem.proofs.FlowsBehind.{stand_on, unknown_behind, unmade_behind}
use Rattle.m2_base.proofs.Kept.{Works-trans}
use Rattle.stmt_sem.proofs.Walkers.{Keeps-trans}
use Rattle.stmt_sem.proofs.walker.Walker.assign_statement.Goals as goal

pub returns-in-DontKnowYet-clause-walks : goal.returns-in-DontKnowYet-clause-walks
returns-in-DontKnowYet-clause-walks g c = unknown (of_coding _ (rw c.in-DontKnowYet.is at c.in-Ok.ensures.codes))

pub returns-in-Err-clause-walks : goal.returns-in-Err-clause-walks
returns-in-Err-clause-walks g c = unmade (of_coding _ c.in-Err.ensures.codes) _

pub value_of-requires-clause-stand : goal.value_of-requires-clause-stand
value_of-requires-clause-stand g c = stand_on (rw c.in-Known.is at c.in-Ok.ensures.codes) c.args.stand.now c.requires.stand

pub returns-in-DontKnowYet-asked-clause-walks : goal.returns-in-DontKnowYet-asked-clause-walks
returns-in-DontKnowYet-asked-clause-walks g c =
    let one = of_coding _ (rw c.in-Known.is at c.in-Ok.ensures.codes) in
    unknown_after one (of_coding _ (rw c.in-DontKnowYet-asked.is at c.in-Ok-value_of.ensures.codes))

pub returns-in-Err-value_of-clause-walks : goal.returns-in-Err-value_of-clause-walks
returns-in-Err-value_of-clause-walks g c =
    let one = of_coding _ (rw c.in-Known.is at c.in-Ok.ensures.codes) in
    unmade_after one (of_coding _ c.in-Err-value_of.ensures.codes) _

pub assignment-requires-clause-stand : goal.assignment-requires-clause-stand
assignment-requires-clause-stand g c =
    stand_on (rw c.in-Known-asked.is at c.in-Ok-value_of.ensures.codes) c.args.stand.now (stand_on (rw c.in-Known.is at c.in-Ok.ensures.codes) c.args.stand.now c.requires.stand)

pub assignment-requires-clause-to : goal.assignment-requires-clause-to
assignment-requires-clause-to g c = coded_after (rw c.in-Known-asked.is at c.in-Ok-value_of.ensures.codes) c.in-Known.value (stands_after (rw c.in-Known.is at c.in-Ok.ensures.codes))

pub assignment-requires-clause-x : goal.assignment-requires-clause-x
assignment-requires-clause-x g c = stands_after (rw c.in-Known-asked.is at c.in-Ok-value_of.ensures.codes)

pub returns-in-DontKnowYet-asked-2-clause-walks : goal.returns-in-DontKnowYet-asked-2-clause-walks
returns-in-DontKnowYet-asked-2-clause-walks g c =
    let one = of_coding _ (rw c.in-Known.is at c.in-Ok.ensures.codes) in
    let two = of_coding _ (rw c.in-Known-asked.is at c.in-Ok-value_of.ensures.codes) in
    unknown_behind (Works-trans one.works two.works) (Grows-trans one.grows two.grows) (of_coding _ (rw c.in-DontKnowYet-asked-2.is at c.in-Ok-assignment.ensures.codes))

pub returns-in-Err-assignment-clause-walks : goal.returns-in-Err-assignment-clause-walks
returns-in-Err-assignment-clause-walks g c =
    let one = of_coding _ (rw c.in-Known.is at c.in-Ok.ensures.codes) in
    let two = of_coding _ (rw c.in-Known-asked.is at c.in-Ok-value_of.ensures.codes) in
    unmade_behind (Works-trans one.works two.works) (Grows-trans one.grows two.grows) (of_coding _ c.in-Err-assignment.ensures.codes) _

pub straight-requires-clause-sound : goal.straight-requires-clause-sound
straight-requires-clause-sound g c =
    let one = of_coding _ (rw c.in-Known.is at c.in-Ok.ensures.codes) in
    let two = of_coding _ (rw c.in-Known-asked.is at c.in-Ok-value_of.ensures.codes) in
    let three = of_coding _ (rw c.in-Known-asked-2.is at c.in-Ok-assignment.ensures.codes) in
    sound_after three (sound_after two (sound_after one c.requires.sound))

pub straight-requires-clause-there : goal.straight-requires-clause-there
straight-requires-clause-there g c = (rw c.in-Known-asked-2.is at c.in-Ok-assignment.ensures.codes).there

pub returns-clause-walks : goal.returns-clause-walks
returns-clause-walks g c =
    let s = c.args.stand.now in
    let d = designator_view c.args.to.now in
    let e = c.args.value.now in
    let at = expr_at (expr_view e) in
    let ws = with_types s.withs.now in
    let to = coded_in c.variable.new.self.fragments.now.nodes.items c.in-Known.value in
    let x = coded_in c.value_of.new.self.fragments.now.nodes.items c.in-Known-asked.value in
    let first = rw c.in-Known.is at c.in-Ok.ensures.codes in
    let second = rw c.in-Known-asked.is at c.in-Ok-value_of.ensures.codes in
    let one = of_coding _ first in
    let two = of_coding _ second in
    let three = described _ (of_coding _ (rw c.in-Known-asked-2.is at c.in-Ok-assignment.ensures.codes))
    (λ k. ap (λ (u : code.Coded). assignment k u e.at x) (coded_later second.grows c.in-Known.value first.there) ∙ ap (λ (n : ℕ). assignment k to n x) (sym (at_seen e))) in
    let r = answer_of c.straight.result in
    by_answer c.straight.result c.answered.result c.answered.ensures
    (flowing_after (λ k. variable (stand_in k s) d) (λ u k. and_then (value k ws (expr_view e)) (λ v. and_then (assignment k u at v) (λ p. gives (straight p)))) r one
    (flowing_after (λ k. value k ws (expr_view e)) (λ v k. and_then (assignment k to at v) (λ p. gives (straight p))) r two
    (made_after (λ k. assignment k to at x) (λ p. straight p) c.straight.result three c.straight.ensures (λ p same cell. ap straight (same cell)))))

pub returns-in-DontKnowYet-clause-keeps : goal.returns-in-DontKnowYet-clause-keeps
returns-in-DontKnowYet-clause-keeps g c = c.variable.ensures.keeps

pub returns-in-Err-clause-keeps : goal.returns-in-Err-clause-keeps
returns-in-Err-clause-keeps g c = c.variable.ensures.keeps

pub returns-in-DontKnowYet-asked-clause-keeps : goal.returns-in-DontKnowYet-asked-clause-keeps
returns-in-DontKnowYet-asked-clause-keeps g c = Keeps-trans c.variable.ensures.keeps c.value_of.ensures.keeps

pub returns-in-Err-value_of-clause-keeps : goal.returns-in-Err-value_of-clause-keeps
returns-in-Err-value_of-clause-keeps g c = Keeps-trans c.variable.ensures.keeps c.value_of.ensures.keeps

pub returns-in-DontKnowYet-asked-2-clause-keeps : goal.returns-in-DontKnowYet-asked-2-clause-keeps
returns-in-DontKnowYet-asked-2-clause-keeps g c = Keeps-trans (Keeps-trans c.variable.ensures.keeps c.value_of.ensures.keeps) c.assignment.ensures.keeps

pub returns-in-Err-assignment-clause-keeps : goal.returns-in-Err-assignment-clause-keeps
returns-in-Err-assignment-clause-keeps g c = Keeps-trans (Keeps-trans c.variable.ensures.keeps c.value_of.ensures.keeps) c.assignment.ensures.keeps

pub returns-clause-keeps : goal.returns-clause-keeps
returns-clause-keeps g c = Keeps-trans (Keeps-trans c.variable.ensures.keeps c.value_of.ensures.keeps) c.assignment.ensures.keeps
