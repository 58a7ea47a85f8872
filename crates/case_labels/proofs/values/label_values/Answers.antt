use Rattle.std.proofs.Common.{Ok}
use Rattle.m2_base.specs.Gives.{gives}
use Rattle.m2_base.specs.States.{Frame}
use Rattle.m2_base.specs.Views.{label_view}
use Rattle.m2_base.specs.declared.replies.Ask.TheVariants.{Known}
use Rattle.type_rules.specs.Scenes.{IsThere}
use Rattle.type_rules.specs.Sites.{SuitsSite}
use Rattle.const_eval.proofs.Analysing.{and_after}
use Rattle.const_eval.proofs.Sequences.{stands_after, stays_after, waiting_after}
use Rattle.case_labels.specs.Labels.{ends_in, values_in}
use Rattle.case_labels.proofs.CoveringLabels.{asked_values, asked_waits}
use Rattle.case_labels.proofs.values.label_values.Goals as goal

pub values_in-requires-clause-suits : goal.values_in-requires-clause-suits
values_in-requires-clause-suits g c = stays_after (λ (f : Frame). SuitsSite f c.args.site.now) (rw c.in-Known.is at c.in-Ok.ensures) c.requires.suits

pub values_in-requires-clause-of : goal.values_in-requires-clause-of
values_in-requires-clause-of g c = stays_after (λ (f : Frame). IsThere f c.args.of) (rw c.in-Known.is at c.in-Ok.ensures) c.requires.of

pub values_in-requires-clause-low : goal.values_in-requires-clause-low
values_in-requires-clause-low g c = (stands_after (rw c.in-Known.is at c.in-Ok.ensures)).0

pub values_in-requires-clause-high : goal.values_in-requires-clause-high
values_in-requires-clause-high g c = (stands_after (rw c.in-Known.is at c.in-Ok.ensures)).1

pub returns : goal.returns
returns g c =
    let last = asked_values c.ends_in.new.notes c.args.site.now c.values_in.result (λ k. values_in k c.args.of c.in-Known.value) c.in-Known-values_in.is c.values_in.ensures.reads c.values_in.ensures.told in
    and_after (λ k. ends_in k (label_view c.args.label.now)) (λ ends k. gives (values_in k c.args.of ends)) (Ok (Known c.in-Known-values_in.value)) (rw c.in-Known.is at c.in-Ok.ensures) last

pub returns-in-DontKnowYet-values_in : goal.returns-in-DontKnowYet-values_in
returns-in-DontKnowYet-values_in g c =
    waiting_after (rw c.in-Known.is at c.in-Ok.ensures)
    (asked_waits c.ends_in.new.notes c.args.site.now c.values_in.result (λ k. values_in k c.args.of c.in-Known.value) c.in-DontKnowYet-values_in.is c.values_in.ensures.reads c.values_in.ensures.waits)
