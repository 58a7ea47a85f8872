use Rattle.std.specs.List.{list_any}
use Rattle.std.specs.Prelude.{Bool, int_le, true, false, [], ◌∷◌, if◌then◌else◌}
use Rattle.std.proofs.Common.{◌≡◌, ◌∙◌, ℤ, ap, of_z, rules, sym, to_z, w64}
use Rattle.m2_base.specs.Gives.{gives}
use Rattle.m2_base.specs.Statics.CaseLabels.{case_labels, overlaps, cover}
use Rattle.m2_base.specs.Statics.Contexts.{refuse}
use Rattle.m2_base.specs.Statics.Diagnostics.{wrong_label}
use Rattle.m2_base.specs.Statics.Ranges.{range}
use Rattle.const_eval.proofs.Analysing.{value_everywhere}
use Rattle.case_labels.specs.Seen.{AreAny, test_seen}
use Rattle.case_labels.proofs.labels.cover_range.Goals as goal

pub cover_some-requires : goal.cover_some-requires
cover_some-requires c =
    let low : to_z w64 (of_z w64 c.args.label.low) ≡ c.args.label.low = search rules in
    let high : to_z w64 (of_z w64 c.args.label.high) ≡ c.args.label.high = search rules in
    sym (ap (λ (v : ℤ). int_le v (to_z w64 (of_z w64 c.args.label.high))) low ∙ ap (λ (w : ℤ). int_le c.args.label.low w) high) ∙ sym c.has_values.ensures ∙ c.if-has_values.true

pub returns-then-has_values : goal.returns-then-has_values
returns-then-has_values c a = c.cover_some.ensures a

pub returns-else-has_values : goal.returns-else-has_values
returns-else-has_values c a =
    let low : to_z w64 (of_z w64 c.args.label.low) ≡ c.args.label.low = search rules in
    let high : to_z w64 (of_z w64 c.args.label.high) ≡ c.args.label.high = search rules in
    let r = range c.args.label.low c.args.label.high in
    let t = test_seen c.args.label.test in
    value_everywhere a c.args.notes.now c.args.site.now (case_labels true (t ∷ []) c.args.covered) AreAny (λ k. cover k c.args.label.at t r c.args.covered) tt
    (λ k. ap (λ (b : Bool). if b then (if list_any (overlaps r) c.args.covered then refuse k c.args.label.at wrong_label (case_labels false [] (r ∷ c.args.covered)) else gives (case_labels true (t ∷ []) (r ∷ c.args.covered))) else gives (case_labels true (t ∷ []) c.args.covered))
    (sym c.if-has_values.false ∙ c.has_values.ensures ∙ ap (λ (v : ℤ). int_le v (to_z w64 (of_z w64 c.args.label.high))) low ∙ ap (λ (w : ℤ). int_le c.args.label.low w) high))
