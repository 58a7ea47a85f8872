use Rattle.std.specs.Prelude.{[], false}
use Rattle.std.proofs.Common.{◌≡◌, ◌∙◌, ℕ, Bool, ap, of_z, rules, sym, to_z, w64}
use Rattle.m2_base.specs.Statics.CaseLabels.{CaseLabels, case_labels, cover}
use Rattle.m2_base.specs.Statics.Contexts.{refuse}
use Rattle.m2_base.specs.Statics.Diagnostics.{wrong_label}
use Rattle.m2_base.specs.Statics.Ranges.{range}
use Rattle.m2_base.specs.Views.{label_view}
use Rattle.const_eval.proofs.Analysing.{described, value_everywhere}
use Rattle.case_labels.specs.Labels.{covered_by, is_ranged, label_at, one_seen, test_of}
use Rattle.case_labels.specs.Seen.{AreAny, known_as, test_seen}
use Rattle.case_labels.proofs.CoveringLabels.{label_at_seen, ranged_seen, values_cover}
use Rattle.case_labels.proofs.Refusing.{refused, unnoted}
use Rattle.case_labels.proofs.labels.cover.Goals as goal

pub returns-in-Nothing : goal.returns-in-Nothing
returns-in-Nothing c a =
    let l = label_view c.args.label.now in
    value_everywhere a c.args.notes.now c.args.site.now (case_labels false [] c.args.covered) AreAny (λ k. covered_by k (label_at l) (is_ranged l) c.args.covered c.args.values) tt
    (λ k. ap (covered_by k (label_at l) (is_ranged l) c.args.covered) (sym c.in-Nothing.is))

pub returns-in-Err : goal.returns-in-Err
returns-in-Err c a =
    let l = label_view c.args.label.now in
    unnoted a c.args.notes.now c.refuse.new.notes c.args.site.now c.in-Err.memory AreAny (λ k. covered_by k (label_at l) (is_ranged l) c.args.covered c.args.values) c.refuse.ensures.answers c.refuse.ensures.diags

pub returns-in-Ok : goal.returns-in-Ok
returns-in-Ok c a =
    let l = label_view c.args.label.now in
    let none = case_labels false [] c.args.covered in
    described _ (refused a c.args.notes.now c.refuse.new.notes c.args.site.now _ 58 none AreAny tt c.in-Ok.ensures.noted c.refuse.ensures.answers c.refuse.ensures.diags)
    (λ k. ap (λ (at : ℕ). refuse k at wrong_label none) (label_at_seen c.args.label.now) ∙ ap (covered_by k (label_at l) (is_ranged l) c.args.covered) (sym c.in-Wrong.is))

pub returns-in-Values : goal.returns-in-Values
returns-in-Values c a =
    let l = label_view c.args.label.now in
    let low : to_z w64 (of_z w64 c.in-Values.low) ≡ c.in-Values.low = search rules in
    let high : to_z w64 (of_z w64 c.in-Values.high) ≡ c.in-Values.high = search rules in
    described {T = CaseLabels} (known_as one_seen c.cover_range.result) (c.cover_range.ensures a)
    (λ k. ap (λ (at : ℕ). cover k at (test_seen c.test_of.result) (range (to_z w64 (of_z w64 c.in-Values.low)) (to_z w64 (of_z w64 c.in-Values.high))) c.args.covered) (label_at_seen c.args.label.now)
    ∙ values_cover k (label_at l) (is_ranged l) c.args.covered c.in-Values.low c.in-Values.high low high low high
    (c.test_of.ensures ∙ ap (λ (b : Bool). test_of b (to_z w64 (of_z w64 c.in-Values.low)) (to_z w64 (of_z w64 c.in-Values.high))) (c.is_some-ranged.ensures ∙ ranged_seen c.args.label.now))
    ∙ ap (covered_by k (label_at l) (is_ranged l) c.args.covered) (sym c.in-Values.is))
