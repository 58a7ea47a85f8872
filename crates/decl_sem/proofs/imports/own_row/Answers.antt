use Rattle.std.specs.Prelude.{◌≡◌, is_some, Ok, Some}
use Rattle.std.proofs.Common.{◌∙◌, ap, subst, sym}
use Rattle.m2_base.specs.Statics.ImportRows.{alias_by, alias_row, place_or_broken}
use Rattle.m2_base.specs.declared.replies.Ask.TheVariants.{Known}
use Rattle.m2_base.specs.Statics.Makes.{makes_named}
use Rattle.m2_base.specs.declared.rows.Place.{Place}
use Rattle.m2_base.specs.declared.rows.RowMeaning.TheVariants.{Alias}
use Rattle.type_rules.specs.Sites.{context_of}
use Rattle.decl_sem.specs.Making.{next_ordinal}
use Rattle.decl_sem.specs.Pieces.{IsBehind}
use Rattle.decl_sem.proofs.ImportedNames.{alias_meaning, target_behind}
use Rattle.decl_sem.proofs.Pieces.{described, failed}
use Rattle.decl_sem.proofs.imports.own_row.Goals as goal

pub again_row-requires-clause-brought : goal.again_row-requires-clause-brought
again_row-requires-clause-brought g c = ap (λ o. is_some o) (sym c.brought.ensures ∙ c.in-Some.is)

pub again_row-requires-clause-target : goal.again_row-requires-clause-target
again_row-requires-clause-target g c =
    let f = (g.S.Scopes.state c.args.scopes.now).frame in
    let same : c.small_place-target.result ≡ place_or_broken c.args.entry = c.small_place-target.ensures.same ∙ c.place_or_broken.ensures in
    subst (λ (p : Place). IsBehind f (next_ordinal c.args.made.now) p) (sym same)
    (target_behind c.args.entry c.requires.making (rw c.place_or_broken.ensures at c.small_place-target.ensures.small) c.requires.row)

pub returns-in-Some : goal.returns-in-Some
returns-in-Some g c =
    let a = g.S.Scopes.state c.args.scopes.now in
    let same : c.small_place-target.result ≡ place_or_broken c.args.entry = c.small_place-target.ensures.same ∙ c.place_or_broken.ensures in
    described c.again_row.result (λ k. alias_row k c.args.name (place_or_broken c.args.entry)) c.again_row.ensures
    (λ hand in_hand told so. let k = context_of a.frame hand c.args.site.now in
    ap (λ (p : Place). alias_by k c.args.name p (Some c.in-Some.field-0)) same ∙ ap (alias_by k c.args.name (place_or_broken c.args.entry)) (sym c.in-Some.is ∙ c.brought.ensures))

pub name_row-requires-clause-meaning : goal.name_row-requires-clause-meaning
name_row-requires-clause-meaning g c = alias_meaning c.args.entry c.small_place-target.result (c.small_place-target.ensures.same ∙ c.place_or_broken.ensures) c.requires.making (rw c.small_place-target.ensures.same c.small_place-target.ensures.small) c.requires.row

pub returns-in-Ok : goal.returns-in-Ok
returns-in-Ok g c =
    let a = g.S.Scopes.state c.args.scopes.now in
    let same : c.small_place-target.result ≡ place_or_broken c.args.entry = c.small_place-target.ensures.same ∙ c.place_or_broken.ensures in
    described (Ok (Known c.in-Ok.value)) (λ k. alias_row k c.args.name (place_or_broken c.args.entry)) c.in-Ok.ensures
    (λ hand in_hand told so. let k = context_of a.frame hand c.args.site.now in
    ap (λ (p : Place). makes_named k c.args.name.name c.args.name.at (Alias p)) same ∙ ap (alias_by k c.args.name (place_or_broken c.args.entry)) (sym c.in-None.is ∙ c.brought.ensures))

pub returns-in-Err : goal.returns-in-Err
returns-in-Err g c = failed c.in-Err.ensures c.in-Err.memory
