use Rattle.std.proofs.Common.{Ok, [], take, true}
use Rattle.m2_base.specs.Statics.CaseLabels.{case_labels}
use Rattle.m2_base.specs.Views.{label_view}
use Rattle.m2_base.specs.declared.replies.Ask.TheVariants.{Known}
use Rattle.const_eval.specs.Analyses.{Analysed}
use Rattle.const_eval.proofs.Folding.{folded}
use Rattle.case_labels.specs.Seen.{AreAny, labels_seen}
use Rattle.case_labels.proofs.CoveringLabels.{with_label}
use Rattle.case_labels.proofs.labels.case_labels.Given as goal

abbrev pub invariant-loop-label : goal.invariant-loop-label
invariant-loop-label g l =
    Analysed (g.S.Scopes.state l.fn.scopes) (g.S.Scopes.state l.scopes) l.fn.notes l.notes l.site (Ok (Known (labels_seen l.found))) AreAny (λ k. folded (λ labels label. with_label k l.of labels (label_view label)) (case_labels true [] l.fn.coverage.covered) (take l.label-index l.labels))
