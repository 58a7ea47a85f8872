use Rattle.std.proofs.Common.{◌^◌, ◌<◌, ◌∙◌, sym, subst}
use Rattle.m2_base.specs.declared.rows.Place.{Place}
use Rattle.m2_base.specs.declared.rows.RowMeaning.{RowMeaning}
use Rattle.type_rules.specs.Scenes.{IsSaid, IsStood, IsThere, scene_of}
use Rattle.decl_sem.proofs.Held.{held_row, held_said, held_stands, unheld_there, here_behind, known_stood}
use Rattle.decl_sem.proofs.standing.stand_in.Goals as goal

pub held_meaning-meaning-requires-clause-first : goal.held_meaning-meaning-requires-clause-first
held_meaning-meaning-requires-clause-first g c = (held_row c.requires.making c.requires.there (sym c.is_held.ensures ∙ c.if-is_held.true)).0

pub held_meaning-meaning-requires-clause-within : goal.held_meaning-meaning-requires-clause-within
held_meaning-meaning-requires-clause-within g c = (held_row c.requires.making c.requires.there (sym c.is_held.ensures ∙ c.if-is_held.true)).1

pub held_meaning-meaning-requires-clause-small : goal.held_meaning-meaning-requires-clause-small
held_meaning-meaning-requires-clause-small g c = (held_said c.requires.making c.requires.there (sym c.is_held.ensures ∙ c.if-is_held.true)).small

pub stand-requires-clause-there : goal.stand-requires-clause-there
stand-requires-clause-there g c = unheld_there c.requires.making c.requires.there (sym c.is_held.ensures ∙ c.if-is_held.false)

pub returns-then-is_held-clause-told : goal.returns-then-is_held-clause-told
returns-then-is_held-clause-told g c hand in_hand told same =
    let f = (g.S.Scopes.state c.args.scopes.now).frame in
    subst (λ (m : RowMeaning). IsStood (scene_of f hand c.args.site.now.around.now) c.args.of (c.args.of, m)) (sym c.held_meaning-meaning.ensures)
    (held_stands c.requires.making c.requires.there (sym c.is_held.ensures ∙ c.if-is_held.true) hand same told)

pub returns-then-is_held-clause-said : goal.returns-then-is_held-clause-said
returns-then-is_held-clause-said g c =
    let f = (g.S.Scopes.state c.args.scopes.now).frame in
    subst (λ (m : RowMeaning). IsSaid f c.args.of m) (sym c.held_meaning-meaning.ensures) (held_said c.requires.making c.requires.there (sym c.is_held.ensures ∙ c.if-is_held.true))

pub returns-clause-told : goal.returns-clause-told
returns-clause-told g c hand in_hand told same =
    let f = (g.S.Scopes.state c.args.scopes.now).frame in
    known_stood (scene_of f hand c.args.site.now.around.now) c.args.of c.in-Known.value c.small_place-place.result c.small_place-place.ensures.same
    (c.in-Known.ensures.told hand in_hand told) (c.in-Known.ensures.kind hand in_hand told)

pub returns-clause-there : goal.returns-clause-there
returns-clause-there g c =
    let f = (g.S.Scopes.state c.args.scopes.now).frame in
    here_behind c.requires.making (subst (λ (p : Place). p.ordinal < 2 ^ 32) (sym c.small_place-place.ensures.same) c.small_place-place.ensures.small) (subst (λ (p : Place). IsThere f p) (sym c.small_place-place.ensures.same) c.in-Known.ensures.there)

pub returns-clause-said : goal.returns-clause-said
returns-clause-said g c =
    let f = (g.S.Scopes.state c.args.scopes.now).frame in
    subst (λ (p : Place). IsSaid f p c.in-Known.value.1) (sym c.small_place-place.ensures.same) c.in-Known.ensures.said
