use Rattle.std.proofs.Common.{◌∙◌, ◌<◌, Ok, Err, ap, length, refl, subst, sym}
use Rattle.m2_base.specs.Statics.Targets.{layout_target}
use Rattle.m2_base.specs.declared.replies.Ask.TheVariants.{Known}
use Rattle.m2_base.specs.declared.rows.Place.{Place}
use Rattle.const_eval.proofs.Analysing.{described, value_alone}
use Rattle.type_rules.specs.Sites.{context_of}
use Rattle.decl_sem.specs.Targets.{IsTarget, laid_target_of}
use Rattle.decl_sem.specs.declared.targets.Laid.TheVariants.{Alias, TypeName}
use Rattle.decl_sem.proofs.TargetNames.{described_here, own_there}
use Rattle.decl_sem.proofs.targets.layout_target.Goals as goal

pub returns-in-TypeName : goal.returns-in-TypeName
returns-in-TypeName g c =
    let a = g.S.Scopes.state c.args.scopes.now in
    let p = c.own_place-place.result in
    value_alone a c.args.notes.now c.args.site.now p IsTarget (λ k. layout_target k c.args.at c.args.named)
    (c.own_place-place.ensures.target a.frame c.requires.suits.around)
    (λ made. let k = context_of a.frame made c.args.site.now in
    ap (λ (q : Place). laid_target_of k c.args.at q TypeName) c.own_place-place.ensures.place ∙ sym (c.in-TypeName.ensures.target k c.args.at c.args.named refl))

pub alias_target-requires-clause-there : goal.alias_target-requires-clause-there
alias_target-requires-clause-there g c =
    let place = c.own_place-place.ensures.place in
    own_there c.own_place-place.result c.requires.suits.around (ap (λ (p : Place). p.scope) place)
    (subst (λ (p : Place). p.ordinal < length (g.S.Scopes.state c.args.scopes.now).frame.entered) (sym place) (c.requires.entered c.in-Alias.ensures.alias))

pub returns-in-Alias : goal.returns-in-Alias
returns-in-Alias g c =
    let a = g.S.Scopes.state c.args.scopes.now in
    described_here c.alias_target.result c.alias_target.ensures
    (λ made. let k = context_of a.frame made c.args.site.now in
    ap (λ (q : Place). laid_target_of k c.args.at q Alias) c.own_place-place.ensures.place ∙ sym (c.in-Alias.ensures.target k c.args.at c.args.named refl))

pub returns-in-Err : goal.returns-in-Err
returns-in-Err g c =
    let a = g.S.Scopes.state c.args.scopes.now in
    described (Err c.in-Err.memory) (c.in-Err.ensures a c.requires.suits) (λ k. sym (c.in-Other.ensures.target k c.args.at c.args.named refl))

pub returns-in-Ok : goal.returns-in-Ok
returns-in-Ok g c =
    let a = g.S.Scopes.state c.args.scopes.now in
    described (Ok (Known c.in-Ok.value)) (c.in-Ok.ensures a c.requires.suits) (λ k. sym (c.in-Other.ensures.target k c.args.at c.args.named refl))
