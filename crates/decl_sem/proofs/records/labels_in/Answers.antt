use Rattle.std.proofs.Common.{Err, Ok, map, refl}
use Rattle.m2_base.specs.Statics.CaseLabels.{labels_of}
use Rattle.m2_base.specs.Trees.{labels}
use Rattle.m2_base.specs.Views.{label_view}
use Rattle.m2_base.specs.declared.replies.Ask.TheVariants.{DontKnowYet, Known}
use Rattle.const_eval.proofs.Analysing.{failed, waiting}
use Rattle.decl_sem.proofs.CoveredLabels.{covered_alone, labels_covered}
use Rattle.decl_sem.proofs.records.labels_in.Goals as goal

pub returns-in-Err : goal.returns-in-Err
returns-in-Err g c =
    labels_covered (λ k. labels_of k c.args.coverage.of c.args.coverage.covered (labels (map label_view c.args.labels.now))) (Err c.in-Err.memory) c.requires.making refl refl (failed c.in-Err.ensures c.in-Err.memory)

pub returns-in-DontKnowYet : goal.returns-in-DontKnowYet
returns-in-DontKnowYet g c =
    labels_covered (λ k. labels_of k c.args.coverage.of c.args.coverage.covered (labels (map label_view c.args.labels.now))) (Ok (DontKnowYet c.in-DontKnowYet.head)) c.requires.making refl refl (waiting (rw c.in-DontKnowYet.is at c.in-Ok.ensures))

pub returns : goal.returns
returns g c =
    labels_covered (λ k. labels_of k c.args.coverage.of c.args.coverage.covered (labels (map label_view c.args.labels.now))) (Ok (Known c.in-Known.value.covered)) c.requires.making refl refl (covered_alone (rw c.in-Known.is at c.in-Ok.ensures))
