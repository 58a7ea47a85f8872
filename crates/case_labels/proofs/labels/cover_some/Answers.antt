use Rattle.m2_base.proofs.Kept.{IsPrefixOf-refl}
use Rattle.std.proofs.Common.{◌≡◌, of_z, refl, rules, to_z, w64}
use Rattle.m2_base.specs.Statics.CaseLabels.{cover}
use Rattle.m2_base.specs.Statics.Ranges.{range}
use Rattle.case_labels.specs.Seen.{AreAny, test_seen}
use Rattle.case_labels.proofs.CoveringLabels.{some_covered, test_kept}
use Rattle.case_labels.proofs.Refusing.{unnoted}
use Rattle.case_labels.proofs.labels.cover_some.Goals as goal

pub returns-in-Err : goal.returns-in-Err
returns-in-Err c a =
    unnoted a c.args.notes.now c.args.notes.now c.args.site.now c.in-Err.memory AreAny (λ k. cover k c.args.label.at (test_seen c.args.label.test) (range c.args.label.low c.args.label.high) c.args.covered) refl (IsPrefixOf-refl c.args.notes.now.diags.items)

pub returns-in-Err-refuse_if : goal.returns-in-Err-refuse_if
returns-in-Err-refuse_if c a =
    unnoted a c.args.notes.now c.refuse_if.new.notes c.args.site.now c.in-Err-refuse_if.memory AreAny (λ k. cover k c.args.label.at (test_seen c.args.label.test) (range c.args.label.low c.args.label.high) c.args.covered) c.refuse_if.ensures.answers c.refuse_if.ensures.diags

pub returns : goal.returns
returns c a =
    let low : to_z w64 (of_z w64 c.args.label.low) ≡ c.args.label.low = search rules in
    let high : to_z w64 (of_z w64 c.args.label.high) ≡ c.args.label.high = search rules in
    some_covered a c.args.notes.now c.args.site.now c.args.label.at (test_seen c.args.label.test) c.args.covered c.in-Ok.value c.args.label.low c.args.label.high c.overlaps-twice.result low high c.requires c.overlaps-twice.ensures c.in-Ok.ensures
    (test_kept c.overlaps-twice.result c.args.label.test c.test_unless.ensures) c.in-Ok-refuse_if.ensures.noted c.refuse_if.ensures.diags c.refuse_if.ensures.answers
