use Rattle.std.proofs.Common.{◌≡◌, rules, ◌+◌, Some, None, ap, ◌∙◌, position, ◌==◌}
use Rattle.stream_split.proofs.Climbs.{own_is}
use Rattle.stream_split.proofs.surroundings.own_scope.Goals as goal

pub returns-in-None-place_of : goal.returns-in-None-place_of
returns-in-None-place_of c =
    let own : c.args.texts.now.own ≡ Some c.in-Some.own = search rules in
    let order : c.as_slice.result.now ≡ c.args.texts.now.order = search rules in
    let place : None ≡ position (λ x. x == c.in-Some.own) c.as_slice.result.now = search rules in
    own_is c.args.texts.now c.as_slice.result.now c.in-Some.own None own order place

pub returns-in-Some-number_of : goal.returns-in-Some-number_of
returns-in-Some-number_of c =
    let own : c.args.texts.now.own ≡ Some c.in-Some.own = search rules in
    let order : c.as_slice.result.now ≡ c.args.texts.now.order = search rules in
    let place : Some c.in-Some-place_of.index ≡ position (λ x. x == c.in-Some.own) c.as_slice.result.now = search rules in
    let scope : c.in-Some-number_of.scope ≡ c.in-Some-place_of.index + 1 = search rules in
    ap Some scope ∙ own_is c.args.texts.now c.as_slice.result.now c.in-Some.own (Some c.in-Some-place_of.index) own order place
