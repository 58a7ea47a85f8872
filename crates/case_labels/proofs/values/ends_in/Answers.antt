use Rattle.std.proofs.Common.{ap, sym, refl, ◌∙◌, Ok}
use Rattle.std.specs.Prelude.{option_map}
use Rattle.std.specs.Option.{IfSome}
use Rattle.m2_base.proofs.Seen.{label_seen}
use Rattle.m2_base.specs.Gives.{and_then, gives}
use Rattle.m2_base.specs.States.{Frame}
use Rattle.m2_base.specs.Statics.Constants.{constant_of}
use Rattle.m2_base.specs.Trees.{label_with}
use Rattle.m2_base.specs.Views.{expr_view}
use Rattle.m2_base.specs.declared.replies.Ask.TheVariants.{Known}
use Rattle.m2_base.specs.declared.trees.expressions.Label.{out-Label}
use Rattle.const_eval.specs.Sites.{IsOperand}
use Rattle.const_eval.proofs.Analysing.{and_after, described, value_everywhere}
use Rattle.const_eval.proofs.ReadParts.{high_read, label_read, low_read}
use Rattle.const_eval.proofs.Sequences.{failed_after, stands_after, stays_after, waiting_after}
use Rattle.case_labels.specs.Labels.{ends_in}
use Rattle.case_labels.proofs.CoveringLabels.{MayEnd, operand_end}
use Rattle.case_labels.proofs.values.ends_in.Goals as goal

pub constant-requires-clause-read : goal.constant-requires-clause-read
constant-requires-clause-read g c =
    low_read c.args.site.now.texts.now.names (expr_view (out-Label c.args.label.now).low) (option_map expr_view (out-Label c.args.label.now).high) (label_read c.args.site.now.texts.now.names c.args.label.now c.requires.read)

pub constant-requires-in-Some-clause-read : goal.constant-requires-in-Some-clause-read
constant-requires-in-Some-clause-read g c =
    high_read c.args.site.now.texts.now.names (expr_view (out-Label c.args.label.now).low) (expr_view c.in-Some.high) (rw (ap (option_map expr_view) c.in-Some.is) at (label_read c.args.site.now.texts.now.names c.args.label.now c.requires.read))

pub returns-in-DontKnowYet-asked : goal.returns-in-DontKnowYet-asked
returns-in-DontKnowYet-asked g c = waiting_after (rw c.in-Known.is at c.in-Ok.ensures.analysed) (rw c.in-DontKnowYet-asked.is at c.in-Ok-constant.ensures.analysed)

pub returns-in-Err-constant : goal.returns-in-Err-constant
returns-in-Err-constant g c = failed_after (rw c.in-Known.is at c.in-Ok.ensures.analysed) c.in-Err-constant.ensures.analysed _

pub returns-in-Known-asked : goal.returns-in-Known-asked
returns-in-Known-asked g c =
    let b = g.S.Scopes.state c.constant-in-Some.new.scopes in
    let v = c.in-Known.value in
    let w = c.in-Known-asked.value in
    let low = expr_view (out-Label c.args.label.now).low in
    let high = expr_view c.in-Some.high in
    let one = rw c.in-Known.is at c.in-Ok.ensures.analysed in
    let two = rw c.in-Known-asked.is at c.in-Ok-constant.ensures.analysed in
    let first = stays_after (λ (f : Frame). IfSome v (λ x. IsOperand f x)) two (operand_end _ v (stands_after one)) in
    let last = value_everywhere b c.constant-in-Some.new.notes c.args.site.now (v, w) MayEnd (λ k. gives (v, w)) (first, operand_end b.frame w (stands_after two)) (λ k. refl) in
    described (Ok (Known (v, w)))
    (and_after (λ k. constant_of k low) (λ x k. and_then (constant_of k high) (λ y. gives (x, y))) (Ok (Known (v, w))) one
    (and_after (λ k. constant_of k high) (λ y k. gives (v, y)) (Ok (Known (v, w))) two last))
    (λ k. ap (ends_in k) (sym (label_seen c.args.label.now ∙ ap (λ h. label_with low (option_map expr_view h)) c.in-Some.is)))

pub returns-in-None : goal.returns-in-None
returns-in-None g c =
    let b = g.S.Scopes.state c.constant.new.scopes in
    let v = c.in-Known.value in
    let low = expr_view (out-Label c.args.label.now).low in
    let one = rw c.in-Known.is at c.in-Ok.ensures.analysed in
    let stands = operand_end b.frame v (stands_after one) in
    let last = value_everywhere b c.constant.new.notes c.args.site.now (v, v) MayEnd (λ k. gives (v, v)) (stands, stands) (λ k. refl) in
    described (Ok (Known (v, v))) (and_after (λ k. constant_of k low) (λ x k. gives (x, x)) (Ok (Known (v, v))) one last)
    (λ k. ap (ends_in k) (sym (label_seen c.args.label.now ∙ ap (λ h. label_with low (option_map expr_view h)) c.in-None.is)))
