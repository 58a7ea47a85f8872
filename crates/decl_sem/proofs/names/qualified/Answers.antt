use Rattle.std.proofs.Common.{◌∙◌, ap, sym, subst, Option, None, Some}
use Rattle.std.specs.Option.{IfSome}
use Rattle.m2_base.specs.Statics.Lookup.{Entry}
use Rattle.m2_base.specs.Statics.TypeNames.{qualified}
use Rattle.m2_base.specs.declared.trees.Ident.{Ident}
use Rattle.type_rules.specs.Scenes.{IsRowOf}
use Rattle.type_rules.specs.Sites.{context_of}
use Rattle.const_eval.proofs.Analysing.{described, value_alone}
use Rattle.decl_sem.proofs.names.qualified.Goals as goal

pub returns-in_default : goal.returns-in_default
returns-in_default g c =
    let a = g.S.Scopes.state c.args.scopes.now in
    value_alone a c.args.notes.now c.args.site.now None (λ f (found : Option Entry). IfSome found (λ e. IsRowOf f e.0 e.1)) (λ k. qualified k c.args.at c.args.second c.args.first) tt
    (λ made. ap (qualified (context_of a.frame made c.args.site.now) c.args.at c.args.second) (sym c.in_default.is))

pub returns-in_default-second : goal.returns-in_default-second
returns-in_default-second g c =
    let a = g.S.Scopes.state c.args.scopes.now in
    value_alone a c.args.notes.now c.args.site.now (Some c.in-Some.outer) (λ f (found : Option Entry). IfSome found (λ e. IsRowOf f e.0 e.1)) (λ k. qualified k c.args.at c.args.second c.args.first)
    (subst (λ (o : Option Entry). IfSome o (λ e. IsRowOf a.frame e.0 e.1)) c.in-Some.is c.requires.row)
    (λ made. let k = context_of a.frame made c.args.site.now in
    ap (λ (o : Option Ident). qualified k c.args.at o (Some c.in-Some.outer)) (sym c.in_default-second.is) ∙ ap (qualified k c.args.at c.args.second) (sym c.in-Some.is))

pub returns : goal.returns
returns g c =
    described c.member_of.result c.member_of.ensures
    (λ k. ap (λ (o : Option Ident). qualified k c.args.at o (Some c.in-Some.outer)) (sym c.in-Some-second.is) ∙ ap (qualified k c.args.at c.args.second) (sym c.in-Some.is))
