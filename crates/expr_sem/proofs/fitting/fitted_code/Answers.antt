use Rattle.std.proofs.Common.{ap, subst, sym}
use Rattle.m2_base.specs.Gives.{gives}
use Rattle.m2_base.specs.States.{Frame}
use Rattle.const_eval.specs.Sites.{IsOperand}
use Rattle.type_rules.specs.Scenes.{IsThere}
use Rattle.type_rules.specs.Sites.{SuitsSite}
use Rattle.block_code.specs.Coded.{value_code as spec_value_code}
use Rattle.expr_sem.specs.Codings.{coded_in}
use Rattle.block_code.specs.Fitting.{fit_of as spec_fit_of}
use Rattle.expr_sem.specs.Fragments.{part}
use Rattle.block_code.specs.Parts.{Part, ◌⨟◌}
use Rattle.expr_sem.proofs.Making.{made_told}
use Rattle.expr_sem.proofs.Operating.{coding_after, unknown, unknown_after, unmade, unmade_after}
use Rattle.expr_sem.proofs.Quiet.{no_notes}
use Rattle.expr_sem.proofs.Sequencing.{part_later}
use Rattle.type_rules.proofs.Reading.{Reads-refl}
use Rattle.expr_sem.proofs.fitting.fitted_code.Goals as goal

pub returns-in-DontKnowYet : goal.returns-in-DontKnowYet
returns-in-DontKnowYet g c n = unknown (rw c.in-DontKnowYet.is at c.in-Ok.ensures n)

pub returns-in-Err : goal.returns-in-Err
returns-in-Err g c n = unmade (c.in-Err.ensures n) c.in-Err.memory

pub fit_of-requires-clause-suits : goal.fit_of-requires-clause-suits
fit_of-requires-clause-suits g c =
    subst (λ (f : Frame). SuitsSite f c.args.site.now) (sym (c.in-Ok.ensures (no_notes c.args.fragments.now)).works.keeps.frame) c.requires.suits

pub fit_of-requires-clause-to : goal.fit_of-requires-clause-to
fit_of-requires-clause-to g c =
    subst (λ (f : Frame). IsThere f c.args.to) (sym (c.in-Ok.ensures (no_notes c.args.fragments.now)).works.keeps.frame) c.requires.to

pub fit_of-requires-clause-operand : goal.fit_of-requires-clause-operand
fit_of-requires-clause-operand g c =
    subst (λ (f : Frame). IsOperand f c.args.x.operand) (sym (c.in-Ok.ensures (no_notes c.args.fragments.now)).works.keeps.frame) c.requires.x.operand

pub returns-in-DontKnowYet-asked : goal.returns-in-DontKnowYet-asked
returns-in-DontKnowYet-asked g c n = unknown_after (c.in-Ok.ensures n) (rw c.in-DontKnowYet-asked.is at c.in-Ok-fit_of.ensures n)

pub returns-in-Err-fit_of : goal.returns-in-Err-fit_of
returns-in-Err-fit_of g c n = unmade_after (c.in-Ok.ensures n) (c.in-Err-fit_of.ensures n) c.in-Err-fit_of.memory

pub returns : goal.returns
returns g c n =
    let ns = c.args.fragments.now.nodes.items in
    let x = coded_in ns c.args.x in
    let first = rw c.in-Known.is at c.in-Ok.ensures n in
    let second = rw c.in-Known-asked.is at c.in-Ok-fit_of.ensures n in
    let last = made_told {s = c.args.site.now} n c.then.result c.answered.result (λ k. part c.value_code.new.fragments.nodes.items c.in-Known.value ⨟ part c.fit_of.new.fragments.nodes.items c.in-Known-asked.value) c.answered.ensures
    (Reads-refl (g.S.Scopes.state c.fit_of.new.scopes)) c.then.ensures.made
    (λ made in_hand told. ap (λ (p : Part). p ⨟ part c.fit_of.new.fragments.nodes.items c.in-Known-asked.value) (part_later second.grows c.in-Known.value first.there)) in
    coding_after (λ k. gives (spec_value_code k x)) (λ p k. gives (p ⨟ spec_fit_of k.scene c.args.to c.args.x.operand)) c.answered.result first
    (coding_after (λ k. gives (spec_fit_of k.scene c.args.to c.args.x.operand)) (λ q k. gives (part c.value_code.new.fragments.nodes.items c.in-Known.value ⨟ q)) c.answered.result second last)
