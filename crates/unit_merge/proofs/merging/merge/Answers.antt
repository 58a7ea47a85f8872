use Rattle.std.proofs.Common.{ap, subst, ◌∙◌, sym, ◌≡◌, length, true, false, List, None}
use Rattle.m2_base.specs.Units.{IsUnit, UnitTexts}
use Rattle.m2_base.specs.declared.outputs.Output.{Output}
use Rattle.unit_merge.specs.Earliest.{AreOf, earliest}
use Rattle.unit_merge.specs.Outcome.{first_too_deep, outcome_of_faults, refusals}
use Rattle.unit_merge.specs.Outputs.{output_diags, told_by}
use Rattle.unit_merge.specs.TextFaults.{AreFaults}
use Rattle.unit_merge.proofs.Merges.{deep_is, refused_is, none_at_all, noted_is, none_noted, object_is}
use Rattle.unit_merge.proofs.Parts.{vec_empty, vec_long}
use Rattle.unit_merge.proofs.TextFaults.{faults_are, told_low}
use Rattle.unit_merge.proofs.merging.merge.Goals as goal

pub text_faults-requires : goal.text_faults-requires
text_faults-requires c =
    let u = c.args.texts.now in
    let unit : IsUnit u = subst IsUnit c.texts.view_is c.texts.invariant in
    let n : c.len.result ≡ length u.list = c.len.ensures ∙ vec_long c.texts.inside.list ∙ ap (λ (x : UnitTexts). length x.list) c.texts.view_is in
    subst (λ k. AreOf k (told_by c.deref.result.now)) (sym n)
    (subst (λ (os : List Output). AreOf (length u.list) (told_by os)) (sym c.deref.ensures.value) (told_low u unit c.args.outputs.items c.requires.each))

pub returns-in-Some : goal.returns-in-Some
returns-in-Some c = λ front fronts.
    let u = c.args.texts.now in
    let outputs = c.args.outputs.items in
    let faults = c.in_ok-faults.faults.items in
    let unit : IsUnit u = subst IsUnit c.texts.view_is c.texts.invariant in
    let n : c.len.result ≡ length u.list = c.len.ensures ∙ vec_long c.texts.inside.list ∙ ap (λ (x : UnitTexts). length x.list) c.texts.view_is in
    let same : faults ≡ earliest (length u.list) (told_by outputs) = c.in_ok-faults.ensures ∙ (λ i. earliest (n i) (told_by (c.deref.ensures.value i))) in
    let are : AreFaults u faults = subst (AreFaults u) (sym same) (faults_are u unit outputs c.requires.each c.requires.all) in
    let found = c.first_too_deep.ensures ∙ ap first_too_deep c.deref-2.ensures.value in
    deep_is front u outputs faults c.first_too_deep.result (c.in-Some.text, c.in-Some.at) are found c.in-Some.is

pub returns-then-not-is_empty : goal.returns-then-not-is_empty
returns-then-not-is_empty c = λ front fronts.
    let u = c.args.texts.now in
    let outputs = c.args.outputs.items in
    let faults = c.in_ok-faults.faults.items in
    let unit : IsUnit u = subst IsUnit c.texts.view_is c.texts.invariant in
    let n : c.len.result ≡ length u.list = c.len.ensures ∙ vec_long c.texts.inside.list ∙ ap (λ (x : UnitTexts). length x.list) c.texts.view_is in
    let same : faults ≡ earliest (length u.list) (told_by outputs) = c.in_ok-faults.ensures ∙ (λ i. earliest (n i) (told_by (c.deref.ensures.value i))) in
    let are : AreFaults u faults = subst (AreFaults u) (sym same) (faults_are u unit outputs c.requires.each c.requires.all) in
    let found = c.first_too_deep.ensures ∙ ap first_too_deep c.deref-2.ensures.value in
    let refused : c.in_ok-refused.refused.items ≡ refusals faults = c.in_ok-refused.ensures ∙ ap refusals c.deref-3.ensures.value in
    refused_is front u outputs faults c.first_too_deep.result c.in_ok-refused.refused.items are found c.in_default.is refused (vec_empty c.in_ok-refused.refused c.is_empty.result false c.is_empty.ensures c.if-not-is_empty.true)

pub returns-then-not-is_empty-2 : goal.returns-then-not-is_empty-2
returns-then-not-is_empty-2 c = λ front fronts.
    let u = c.args.texts.now in
    let outputs = c.args.outputs.items in
    let faults = c.in_ok-faults.faults.items in
    let unit : IsUnit u = subst IsUnit c.texts.view_is c.texts.invariant in
    let n : c.len.result ≡ length u.list = c.len.ensures ∙ vec_long c.texts.inside.list ∙ ap (λ (x : UnitTexts). length x.list) c.texts.view_is in
    let same : faults ≡ earliest (length u.list) (told_by outputs) = c.in_ok-faults.ensures ∙ (λ i. earliest (n i) (told_by (c.deref.ensures.value i))) in
    let are : AreFaults u faults = subst (AreFaults u) (sym same) (faults_are u unit outputs c.requires.each c.requires.all) in
    let found = c.first_too_deep.ensures ∙ ap first_too_deep c.deref-2.ensures.value in
    let refused : c.in_ok-refused.refused.items ≡ refusals faults = c.in_ok-refused.ensures ∙ ap refusals c.deref-3.ensures.value in
    let none : outcome_of_faults faults ≡ None = none_at_all faults c.first_too_deep.result c.in_ok-refused.refused.items found c.in_default.is refused (vec_empty c.in_ok-refused.refused c.is_empty.result true c.is_empty.ensures c.if-not-is_empty.false) in
    let noted : c.in_ok-diags.diags.items ≡ output_diags outputs = c.in_ok-diags.ensures ∙ ap output_diags c.deref-4.ensures.value in
    noted_is front u outputs faults c.in_ok-diags.diags.items are none noted (vec_empty c.in_ok-diags.diags c.is_empty-2.result false c.is_empty-2.ensures c.if-not-is_empty-2.true)

pub unit_object-requires-clause-faultless : goal.unit_object-requires-clause-faultless
unit_object-requires-clause-faultless c =
    let u = c.args.texts.now in
    let outputs = c.args.outputs.items in
    let faults = c.in_ok-faults.faults.items in
    let unit : IsUnit u = subst IsUnit c.texts.view_is c.texts.invariant in
    let n : c.len.result ≡ length u.list = c.len.ensures ∙ vec_long c.texts.inside.list ∙ ap (λ (x : UnitTexts). length x.list) c.texts.view_is in
    let same : faults ≡ earliest (length u.list) (told_by outputs) = c.in_ok-faults.ensures ∙ (λ i. earliest (n i) (told_by (c.deref.ensures.value i))) in
    let are : AreFaults u faults = subst (AreFaults u) (sym same) (faults_are u unit outputs c.requires.each c.requires.all) in
    let found = c.first_too_deep.ensures ∙ ap first_too_deep c.deref-2.ensures.value in
    let refused : c.in_ok-refused.refused.items ≡ refusals faults = c.in_ok-refused.ensures ∙ ap refusals c.deref-3.ensures.value in
    let none : outcome_of_faults faults ≡ None = none_at_all faults c.first_too_deep.result c.in_ok-refused.refused.items found c.in_default.is refused (vec_empty c.in_ok-refused.refused c.is_empty.result true c.is_empty.ensures c.if-not-is_empty.false) in
    (faults, are, none)

pub returns : goal.returns
returns c = λ front fronts.
    let u = c.args.texts.now in
    let outputs = c.args.outputs.items in
    let faults = c.in_ok-faults.faults.items in
    let unit : IsUnit u = subst IsUnit c.texts.view_is c.texts.invariant in
    let n : c.len.result ≡ length u.list = c.len.ensures ∙ vec_long c.texts.inside.list ∙ ap (λ (x : UnitTexts). length x.list) c.texts.view_is in
    let same : faults ≡ earliest (length u.list) (told_by outputs) = c.in_ok-faults.ensures ∙ (λ i. earliest (n i) (told_by (c.deref.ensures.value i))) in
    let are : AreFaults u faults = subst (AreFaults u) (sym same) (faults_are u unit outputs c.requires.each c.requires.all) in
    let found = c.first_too_deep.ensures ∙ ap first_too_deep c.deref-2.ensures.value in
    let refused : c.in_ok-refused.refused.items ≡ refusals faults = c.in_ok-refused.ensures ∙ ap refusals c.deref-3.ensures.value in
    let none : outcome_of_faults faults ≡ None = none_at_all faults c.first_too_deep.result c.in_ok-refused.refused.items found c.in_default.is refused (vec_empty c.in_ok-refused.refused c.is_empty.result true c.is_empty.ensures c.if-not-is_empty.false) in
    let noted : c.in_ok-diags.diags.items ≡ output_diags outputs = c.in_ok-diags.ensures ∙ ap output_diags c.deref-4.ensures.value in
    let empty = none_noted outputs c.in_ok-diags.diags.items noted (vec_empty c.in_ok-diags.diags c.is_empty-2.result true c.is_empty-2.ensures c.if-not-is_empty-2.false) in
    object_is front u outputs faults c.in_ok-unit_object.field-0 are none empty (c.in_ok-unit_object.ensures front fronts)
