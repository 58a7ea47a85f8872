use Rattle.std.proofs.Common.{◌∙◌, ap, sym, subst, length, arith, Option, None, Some}
use Rattle.std.specs.Option.{IfSome}
use Rattle.m2_base.specs.Rows.{Fits, row_meaning}
use Rattle.m2_base.specs.Statics.Lookup.{Entry}
use Rattle.m2_base.specs.Statics.TypeNames.{member_of}
use Rattle.m2_base.specs.Statics.Uses.{use_of}
use Rattle.m2_base.specs.declared.rows.RowMeaning.{RowMeaning}
use Rattle.type_rules.specs.Scenes.{IsRowOf}
use Rattle.type_rules.specs.Sites.{context_of}
use Rattle.const_eval.specs.Analyses.{Analysed}
use Rattle.const_eval.proofs.Analysing.{described, value_alone}
use Rattle.decl_sem.proofs.Uses.{refused, unnoted}
use Rattle.decl_sem.proofs.names.member_of.Goals as goal

pub use_name-requires-clause-within : goal.use_name-requires-clause-within
use_name-requires-clause-within g c =
    let f = (g.S.Scopes.state c.args.scopes.now).frame in
    let below = c.in-Scope.ensures.scope (length f.setting.texts.names) c.args.outer.0
    (subst (λ (m : RowMeaning). Fits (length f.setting.texts.names) c.args.outer.0 m) (sym c.read_row.ensures) c.requires.row.said.fits) in
    let h = c.requires.row.there.scope in
    omega arith

pub returns-in-Err : goal.returns-in-Err
returns-in-Err g c =
    unnoted (g.S.Scopes.state c.args.scopes.now) c.args.notes.now c.refuse.new.notes c.args.site.now c.in-Err.memory (λ f (found : Option Entry). IfSome found (λ e. IsRowOf f e.0 e.1)) _ c.refuse.ensures.answers c.refuse.ensures.diags

pub returns-in-Wrong : goal.returns-in-Wrong
returns-in-Wrong g c =
    let a = g.S.Scopes.state c.args.scopes.now in
    value_alone a c.args.notes.now c.args.site.now None (λ f (found : Option Entry). IfSome found (λ e. IsRowOf f e.0 e.1)) (λ k. member_of k c.args.at c.args.member (row_meaning c.args.outer.1)) tt
    (λ made. let k = context_of a.frame made c.args.site.now in
    sym (c.in-Wrong.ensures.told k c.args.at c.args.member) ∙ ap (member_of k c.args.at c.args.member) c.read_row.ensures)

pub returns-in-Ok : goal.returns-in-Ok
returns-in-Ok g c =
    let a = g.S.Scopes.state c.args.scopes.now in
    described _ (refused {T = Option Entry} a c.args.notes.now c.refuse.new.notes c.args.site.now c.args.at 45 None (λ f (found : Option Entry). IfSome found (λ e. IsRowOf f e.0 e.1)) tt c.in-Ok.ensures.noted c.refuse.ensures.answers c.refuse.ensures.diags)
    (λ k. sym (c.in-NoModule.ensures.told k c.args.at c.args.member) ∙ ap (member_of k c.args.at c.args.member) c.read_row.ensures)

pub returns-in-Scope : goal.returns-in-Scope
returns-in-Scope g c =
    let a = g.S.Scopes.state c.args.scopes.now in
    let p : Analysed {T = Option Entry} a (g.S.Scopes.state c.use_name.new.scopes) c.args.notes.now c.use_name.new.notes c.args.site.now c.use_name.result (λ f found. IfSome found (λ e. IsRowOf f e.0 e.1))
    (λ k. use_of k (Some c.in-Scope.scope) c.args.member.name c.args.member.at) =
    record { works = c.use_name.ensures.works; waits = c.use_name.ensures.waits; told = c.use_name.ensures.told; there = c.use_name.ensures.row } in
    described c.use_name.result p
    (λ k. sym (c.in-Scope.ensures.told k c.args.at c.args.member) ∙ ap (member_of k c.args.at c.args.member) c.read_row.ensures)
