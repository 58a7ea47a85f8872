use Rattle.std.proofs.Common.{◌≡◌, ◌∙◌, ◌<◌, ◌^◌, rules, subst, sym}
use Rattle.decl_sem.proofs.ImportedScopes.{scope_told}
use Rattle.decl_sem.proofs.imports.module_scope.Goals as goal

pub scope_in-requires-clause-small : goal.scope_in-requires-clause-small
scope_in-requires-clause-small c =
    let same : c.deref.result.now ≡ c.args.texts.now.order = search rules in
    subst (λ n. n < 2 ^ 32) (sym (scope_told c.args.texts.now c.args.name c.deref.result.now same)) c.requires.small

pub returns : goal.returns
returns c =
    let same : c.deref.result.now ≡ c.args.texts.now.order = search rules in
    c.scope_in.ensures ∙ scope_told c.args.texts.now c.args.name c.deref.result.now same
