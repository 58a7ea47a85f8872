use Rattle.std.proofs.Common.{ap, ◌∙◌, sym, ◌≡◌, ◌+◌, List, ℕ, option_map, Some}
use Rattle.m2_base.specs.Finished.{scope_in}
use Rattle.m2_base.specs.Units.{UnitTexts}
use Rattle.unit_merge.proofs.object.own_place.Goals as goal

pub returns-in-Some : goal.returns-in-Some
returns-in-Some c =
    let u = c.args.texts.now in
    let order : c.deref.result.now ≡ u.order = c.deref.ensures.value ∙ ap (λ (x : UnitTexts). x.order) c.texts.view_is in
    let own : u.own ≡ Some c.in-Some.own = sym (ap (λ (x : UnitTexts). x.own) c.texts.view_is) ∙ c.in-Some.is in
    ap (option_map (λ n. n + 1)) c.place_in.ensures ∙ ap (λ (o : List ℕ). scope_in o (Some c.in-Some.own)) order ∙ ap (scope_in u.order) (sym own)
