use Rattle.std.proofs.Common.{[], List, Ok, ap, map, true}
use Rattle.m2_base.specs.Gives.{and_then, gives}
use Rattle.m2_base.specs.States.{Frame}
use Rattle.m2_base.specs.Statics.CaseLabels.{case_labels, joined, labels_of}
use Rattle.m2_base.specs.Trees.{labels}
use Rattle.m2_base.specs.Views.{label_view}
use Rattle.m2_base.specs.declared.replies.Ask.TheVariants.{Known}
use Rattle.type_rules.specs.Scenes.{IsThere}
use Rattle.type_rules.specs.Sites.{SuitsSite}
use Rattle.const_eval.proofs.Analysing.{and_after, described, value_everywhere}
use Rattle.const_eval.proofs.ReadParts.{read_label}
use Rattle.const_eval.proofs.Sequences.{failed_after, one_more, stays_after, waiting_after, whole}
use Rattle.case_labels.specs.Labels.{covered_by, ends_in, is_ranged, label_at, values_in}
use Rattle.case_labels.specs.Seen.{AreAny, labels_seen, test_seen}
use Rattle.case_labels.specs.declared.tests.LabelTest.{LabelTest}
use Rattle.case_labels.proofs.CoveringLabels.{label_joined, labels_folded, with_label}
use Rattle.case_labels.proofs.labels.case_labels.Goals as goal

pub loop-label-init : goal.loop-label-init
loop-label-init g c =
    value_everywhere (g.S.Scopes.state c.args.scopes.now) c.args.notes.now c.args.site.now (case_labels true (map test_seen c.new.result.items) c.args.coverage.covered) AreAny (λ k. gives (case_labels true [] c.args.coverage.covered)) tt
    (λ k. ap (λ (tests : List LabelTest). gives (case_labels true (map test_seen tests) c.args.coverage.covered)) c.new.ensures.items)

pub label_values-requires-clause-suits : goal.label_values-requires-clause-suits
label_values-requires-clause-suits g c = stays_after (λ (f : Frame). SuitsSite f c.args.site.now) c.loop-label.invariant c.requires.suits

pub label_values-requires-clause-of : goal.label_values-requires-clause-of
label_values-requires-clause-of g c = stays_after (λ (f : Frame). IsThere f c.args.coverage.of) c.loop-label.invariant c.requires.of

pub label_values-requires-clause-read : goal.label_values-requires-clause-read
label_values-requires-clause-read g c =
    read_label c.args.site.now.texts.now.names label_view c.args.labels.now c.loop-label.label-index c.label-item.result c.loop-label-test.true c.label-item.is c.requires.read

pub loop-label-preserved : goal.loop-label-preserved
loop-label-preserved g c =
    let l = label_view c.label-item.result in
    let before = labels_seen c.loop-label.found in
    let answer = Ok (Known (labels_seen c.in-Ok-with_label.value)) in
    let one = and_after (λ k. and_then (ends_in k l) (λ ends. gives (values_in k c.args.coverage.of ends))) (λ values k. and_then (covered_by k (label_at l) (is_ranged l) before.covered values) (λ one. gives (joined before one))) answer
    (rw c.in-Known.is at c.in-Ok.ensures) (c.in-Ok-with_label.ensures (g.S.Scopes.state c.label_values.new.scopes)) in
    one_more (λ k labels i. with_label k c.args.coverage.of labels (label_view i)) (case_labels true [] c.args.coverage.covered) c.args.labels.now c.loop-label.label-index c.label-item.result c.loop-label-test.true c.label-item.is c.loop-label.invariant
    (described answer one (λ k. label_joined k c.args.coverage.of before l))

pub returns-in-DontKnowYet : goal.returns-in-DontKnowYet
returns-in-DontKnowYet g c = waiting_after c.loop-label.invariant (rw c.in-DontKnowYet.is at c.in-Ok.ensures)

pub returns-in-Err : goal.returns-in-Err
returns-in-Err g c = failed_after c.loop-label.invariant c.in-Err.ensures _

pub returns-in-Err-with_label : goal.returns-in-Err-with_label
returns-in-Err-with_label g c =
    let l = label_view c.label-item.result in
    let before = labels_seen c.loop-label.found in
    failed_after c.loop-label.invariant
    (and_after (λ k. and_then (ends_in k l) (λ ends. gives (values_in k c.args.coverage.of ends))) (λ values k. and_then (covered_by k (label_at l) (is_ranged l) before.covered values) (λ one. gives (joined before one))) _
    (rw c.in-Known.is at c.in-Ok.ensures) (c.in-Err-with_label.ensures (g.S.Scopes.state c.label_values.new.scopes))) _

pub returns : goal.returns
returns g c =
    whole (λ k labels i. with_label k c.args.coverage.of labels (label_view i)) (case_labels true [] c.args.coverage.covered) c.args.labels.now c.loop-label.label-index
    (λ k. labels_of k c.args.coverage.of c.args.coverage.covered (labels (map label_view c.args.labels.now))) c.loop-label-test.false c.loop-label.invariant (λ k. labels_folded k label_view c.args.coverage.of c.args.coverage.covered c.args.labels.now)
