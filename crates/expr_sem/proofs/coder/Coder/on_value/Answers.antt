use Rattle.std.proofs.Common.{Ok}
use Rattle.m2_base.specs.Gives.{gives}
use Rattle.m2_base.specs.States.{Frame}
use Rattle.m2_base.specs.declared.replies.Ask.TheVariants.{Known}
use Rattle.const_eval.specs.Sites.{IsOperand}
use Rattle.expr_sem.specs.Codings.{coded_in}
use Rattle.block_code.specs.Operators.{made}
use Rattle.expr_sem.specs.ValueFunctions.{IsRuleHere, code_of, rule_of, under}
use Rattle.block_code.specs.Values.{as_value}
use Rattle.expr_sem.proofs.Following.{by_coding, followed_by, then_unknown, then_wanted}
use Rattle.expr_sem.proofs.Onwards.{coded_after, holds_after, suits_after, with_grown}
use Rattle.expr_sem.proofs.Operating.{coding_after, of_analysed, unknown, unmade}
use Rattle.expr_sem.proofs.Sequencing.{Grows-refl}
use Rattle.expr_sem.proofs.coder.Coder.on_value.Goals as goal

pub returns-in-DontKnowYet-clause-codes : goal.returns-in-DontKnowYet-clause-codes
returns-in-DontKnowYet-clause-codes g c = unknown (rw c.in-DontKnowYet.is at c.in-Ok.ensures (g.S.Scopes.state c.args.self.now.scopes.now) c.args.self.now.fragments.now.nodes.items c.requires.x)

pub returns-in-Err-clause-codes : goal.returns-in-Err-clause-codes
returns-in-Err-clause-codes g c = unmade (c.in-Err.ensures (g.S.Scopes.state c.args.self.now.scopes.now) c.args.self.now.fragments.now.nodes.items c.requires.x) _

pub rule_noted-requires-clause-x : goal.rule_noted-requires-clause-x
rule_noted-requires-clause-x g c = (rw c.in-Known.is at c.in-Ok.ensures (g.S.Scopes.state c.args.self.now.scopes.now) c.args.self.now.fragments.now.nodes.items c.requires.x).there.operand

pub returns-in-DontKnowYet-asked-clause-codes : goal.returns-in-DontKnowYet-asked-clause-codes
returns-in-DontKnowYet-asked-clause-codes g c =
    let ns = c.args.self.now.fragments.now.nodes.items in
    then_unknown (by_coding (c.in-Ok.ensures (g.S.Scopes.state c.args.self.now.scopes.now) ns c.requires.x)) (of_analysed ns _ (rw c.in-DontKnowYet-asked.is at c.in-Ok-rule_noted.ensures))

pub returns-in-Err-rule_noted-clause-codes : goal.returns-in-Err-rule_noted-clause-codes
returns-in-Err-rule_noted-clause-codes g c =
    let ns = c.args.self.now.fragments.now.nodes.items in
    then_wanted (by_coding (c.in-Ok.ensures (g.S.Scopes.state c.args.self.now.scopes.now) ns c.requires.x)) (of_analysed ns _ c.in-Err-rule_noted.ensures) _

pub rule_code-requires-clause-suits : goal.rule_code-requires-clause-suits
rule_code-requires-clause-suits g c = suits_after (of_analysed c.args.self.now.fragments.now.nodes.items _ c.in-Ok-rule_noted.ensures) c.requires.suits

pub rule_code-requires-clause-rule : goal.rule_code-requires-clause-rule
rule_code-requires-clause-rule g c = holds_after (of_analysed c.args.self.now.fragments.now.nodes.items _ c.in-Ok-rule_noted.ensures) (λ (f : Frame). IsRuleHere f c.args.rule) c.requires.rule

pub rule_code-requires-clause-v : goal.rule_code-requires-clause-v
rule_code-requires-clause-v g c =
    let ns = c.args.self.now.fragments.now.nodes.items in
    coded_after (of_analysed ns _ c.in-Ok-rule_noted.ensures) c.in-Known.value (rw c.in-Known.is at c.in-Ok.ensures (g.S.Scopes.state c.args.self.now.scopes.now) ns c.requires.x).there

pub returns-in-DontKnowYet-asked-2-clause-codes : goal.returns-in-DontKnowYet-asked-2-clause-codes
returns-in-DontKnowYet-asked-2-clause-codes g c =
    let ns = c.args.self.now.fragments.now.nodes.items in
    then_unknown (followed_by (by_coding (c.in-Ok.ensures (g.S.Scopes.state c.args.self.now.scopes.now) ns c.requires.x)) (by_coding (of_analysed ns _ c.in-Ok-rule_noted.ensures))) (rw c.in-DontKnowYet-asked-2.is at c.in-Ok-rule_code.ensures c.rule_noted.new.notes)

pub returns-in-Err-rule_code-clause-codes : goal.returns-in-Err-rule_code-clause-codes
returns-in-Err-rule_code-clause-codes g c =
    let ns = c.args.self.now.fragments.now.nodes.items in
    then_wanted (followed_by (by_coding (c.in-Ok.ensures (g.S.Scopes.state c.args.self.now.scopes.now) ns c.requires.x)) (by_coding (of_analysed ns _ c.in-Ok-rule_noted.ensures))) (c.in-Err-rule_code.ensures c.rule_noted.new.notes) _

pub returns-clause-codes : goal.returns-clause-codes
returns-clause-codes g c =
    let ns = c.args.self.now.fragments.now.nodes.items in
    let ms = c.rule_code.new.fragments.nodes.items in
    let v = coded_in ns c.in-Known.value in
    let r = c.in-Known-asked.value in
    let one = rw c.in-Known.is at c.in-Ok.ensures (g.S.Scopes.state c.args.self.now.scopes.now) ns c.requires.x in
    let analysed = rw c.in-Known-asked.is at c.in-Ok-rule_noted.ensures in
    let two = of_analysed ns _ analysed in
    let three = rw c.in-Known-asked-2.is at c.in-Ok-rule_code.ensures c.rule_noted.new.notes in
    coding_after (λ k. as_value k c.args.at (coded_in ns c.args.x)) (λ u k. under k c.args.rule c.args.at u) (Ok (Known c.made.result)) one
    (coding_after (λ k. rule_of k c.args.rule c.args.at v.operand) (λ r k. gives (made r (code_of k c.args.rule v))) (Ok (Known c.made.result)) two
    (with_grown (λ p k. made r p) c.made.result three (Grows-refl ms) (c.made.ensures.there _ ms (holds_after two (λ (f : Frame). IsOperand f r) analysed.there) three.there) (λ k. c.made.ensures.told ms)))
