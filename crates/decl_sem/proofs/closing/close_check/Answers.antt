use Rattle.std.specs.Prelude.{◌≡◌, List, ◌++◌}
use Rattle.std.proofs.Common.{ap, refl, ◌∙◌}
use Rattle.m2_base.specs.Statics.Closing.{own_diags}
use Rattle.m2_base.specs.Views.{stream_view}
use Rattle.m2_base.specs.declared.notes.Diag.{Diag}
use Rattle.type_rules.specs.Sites.{context_of}
use Rattle.decl_sem.proofs.OwnRows.{known_told}
use Rattle.decl_sem.proofs.closing.close_check.Goals as goal

pub returns-clause-told : goal.returns-clause-told
returns-clause-told g c made in_hand told =
    let f = (g.S.Scopes.state c.args.scopes.now).frame in
    let s = c.args.site.now in
    let tree = stream_view c.args.stream.now in
    let first = c.in_ok-notes.notes.diags.items in
    let all = c.check_definition.new.notes.diags.items in
    known_told c.check_definition.result c.in-Ok.asked c.in-Known.value f f
    (λ h made v. all ≡ first ++ own_diags (context_of h made s) tree s.around.now.own) c.in-Ok.is c.in-Known.is refl c.check_definition.ensures.told made in_hand told
    ∙ ap (λ (ds : List Diag). ds ++ own_diags (context_of f made s) tree s.around.now.own) (c.in_ok-notes.ensures.told (context_of f made s) refl)
