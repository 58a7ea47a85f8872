use Rattle.std.proofs.Common.{◌≡◌, ◌∙◌, Some, None, ap, rules, sym}
use Rattle.std.specs.Prelude.{option_map}
use Rattle.m2_link.specs.Refusals.{first_missing, first_differing}
use Rattle.m2_link.proofs.Accepted.{refuses_differing, refuses_missing, refuses_nothing}
use Rattle.m2_link.proofs.linking.check_imports.Goals as goal

pub returns-in-Some-clause-refused : goal.returns-in-Some-clause-refused
returns-in-Some-clause-refused c =
    let name : c.in_ok-to_vec.field-0.items ≡ c.in-Some.name.now = search rules in
    refuses_missing c.args.objects.now c.in_ok-to_vec.field-0.items c.requires.differ (sym c.first_missing.ensures ∙ ap (option_map _) c.in-Some.is ∙ ap Some (sym name))

pub returns-in_ok-to_vec-in-Some-first_differing-clause-refused : goal.returns-in_ok-to_vec-in-Some-first_differing-clause-refused
returns-in_ok-to_vec-in-Some-first_differing-clause-refused c =
    let name : c.in_ok-to_vec-in-Some-first_differing.field-0.items ≡ c.in-Some-first_differing.name.now = search rules in
    let none : first_missing c.args.objects.now ≡ None = sym c.first_missing.ensures ∙ ap (option_map _) c.in_default.is in
    refuses_differing c.args.objects.now c.in_ok-to_vec-in-Some-first_differing.field-0.items c.requires.differ none (sym c.first_differing.ensures ∙ ap (option_map _) c.in-Some-first_differing.is ∙ ap Some (sym name))

pub returns-in-None-clause-accepted : goal.returns-in-None-clause-accepted
returns-in-None-clause-accepted c =
    let none : first_missing c.args.objects.now ≡ None = sym c.first_missing.ensures ∙ ap (option_map _) c.in_default.is in
    let same : first_differing c.args.objects.now ≡ None = sym c.first_differing.ensures ∙ ap (option_map _) c.in-None.is in
    refuses_nothing c.args.objects.now c.requires.differ none same
