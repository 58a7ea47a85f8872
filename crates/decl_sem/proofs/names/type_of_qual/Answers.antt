use Rattle.std.proofs.Common.{Ok, Err, Option, subst, sym}
use Rattle.std.specs.Option.{IfSome}
use Rattle.m2_base.specs.States.{Frame}
use Rattle.m2_base.specs.Statics.Lookup.{Entry}
use Rattle.m2_base.specs.Statics.TypeNames.{entry_of_qual, type_of_entry}
use Rattle.m2_base.specs.declared.replies.Ask.TheVariants.{Known}
use Rattle.type_rules.specs.Scenes.{IsRowOf}
use Rattle.type_rules.specs.Sites.{SuitsSite}
use Rattle.const_eval.proofs.Analysing.{and_after}
use Rattle.decl_sem.proofs.Uses.{first_known}
use Rattle.decl_sem.proofs.names.type_of_qual.Goals as goal

pub returns-in-Err-type_of_entry : goal.returns-in-Err-type_of_entry
returns-in-Err-type_of_entry g c =
    let q = c.args.qual in
    let b = g.S.Scopes.state c.entry_of_qual.new.scopes in
    let first = first_known (g.S.Scopes.state c.args.scopes.now) b c.args.notes.now c.entry_of_qual.new.notes c.args.site.now (λ f (found : Option Entry). IfSome found (λ e. IsRowOf f e.0 e.1)) (λ k. entry_of_qual k q) c.in-Ok.is c.in-Known.is c.entry_of_qual.ensures in
    let same = first.works.keeps.frame in
    and_after (λ k. entry_of_qual k q) (λ e k. type_of_entry k q.first.at e) (Err c.in-Err-type_of_entry.memory) first
    (c.in-Err-type_of_entry.ensures b (subst (λ (f : Frame). SuitsSite f c.args.site.now) (sym same) c.requires.suits) (subst (λ (f : Frame). IfSome c.in-Known.value (λ e. IsRowOf f e.0 e.1)) (sym same) first.there))

pub returns : goal.returns
returns g c =
    let q = c.args.qual in
    let b = g.S.Scopes.state c.entry_of_qual.new.scopes in
    let first = first_known (g.S.Scopes.state c.args.scopes.now) b c.args.notes.now c.entry_of_qual.new.notes c.args.site.now (λ f (found : Option Entry). IfSome found (λ e. IsRowOf f e.0 e.1)) (λ k. entry_of_qual k q) c.in-Ok.is c.in-Known.is c.entry_of_qual.ensures in
    let same = first.works.keeps.frame in
    and_after (λ k. entry_of_qual k q) (λ e k. type_of_entry k q.first.at e) (Ok (Known c.in-Ok-type_of_entry.value)) first
    (c.in-Ok-type_of_entry.ensures b (subst (λ (f : Frame). SuitsSite f c.args.site.now) (sym same) c.requires.suits) (subst (λ (f : Frame). IfSome c.in-Known.value (λ e. IsRowOf f e.0 e.1)) (sym same) first.there))
