use Rattle.std.proofs.Common.{Ok, ap}
use Rattle.m2_base.specs.Gives.{gives}
use Rattle.m2_base.specs.Statics.CaseLabels.{CaseLabels, joined}
use Rattle.m2_base.specs.Views.{label_view}
use Rattle.m2_base.specs.declared.replies.Ask.TheVariants.{Known}
use Rattle.const_eval.proofs.Analysing.{and_after, failed, value_everywhere}
use Rattle.case_labels.specs.Labels.{covered_by, is_ranged, label_at, one_seen}
use Rattle.case_labels.specs.Seen.{AreAny, labels_seen}
use Rattle.case_labels.proofs.labels.with_label.Goals as goal

pub returns-in-Err : goal.returns-in-Err
returns-in-Err c a = failed (c.in-Err.ensures a) _

pub returns-in-Err-joined : goal.returns-in-Err-joined
returns-in-Err-joined c a = record { works = (c.in-Ok.ensures a).works; waits = tt; told = λ made in_hand told of_site. tt; there = tt }

pub returns : goal.returns
returns c a =
    let l = label_view c.args.label.now in
    let labels = labels_seen c.args.labels in
    let more = labels_seen c.in-Ok-joined.value in
    let last = value_everywhere a c.cover.new.notes c.args.site.now more AreAny (λ k. gives (joined labels (one_seen c.in-Ok.value))) tt
    (λ k. ap (λ (l : CaseLabels). gives l) (c.in-Ok-joined.ensures c.args.labels.covered)) in
    and_after (λ k. covered_by k (label_at l) (is_ranged l) c.args.labels.covered c.args.values) (λ one k. gives (joined labels one)) (Ok (Known more)) (c.in-Ok.ensures a) last
