use Rattle.std.proofs.Common.{refl}
use Rattle.m2_base.specs.Statics.Closing.{all_implemented}
use Rattle.m2_base.specs.Tables.{rows_at}
use Rattle.type_rules.specs.Scenes.{rows_of, scene_of}
use Rattle.type_rules.specs.Sites.{context_of}
use Rattle.decl_sem.specs.Closing.{AreChecked}
use Rattle.decl_sem.proofs.OwnRows.{diags_missing, known_told}
use Rattle.decl_sem.proofs.closing.check_own.Goals as goal

pub returns-then-missing-clause-told : goal.returns-then-missing-clause-told
returns-then-missing-clause-told g c made in_hand told =
    let f = (g.S.Scopes.state c.args.scopes.now).frame in
    let s = c.args.site.now in
    let own = c.args.own in
    let before = c.args.notes.now.diags.items in
    let mid = c.check_rows.new.notes.diags.items in
    diags_missing (context_of f made s) c.args.name (all_implemented (scene_of f made s.around.now) own 0 (rows_at (rows_of f made) own)) before mid c.refuse.new.self.diags.items c.in-Known.value c.if-missing.true
    (known_told c.check_rows.result c.in-Ok.asked c.in-Known.value f f
    (λ h made v. AreChecked (context_of h made s) (all_implemented (scene_of h made s.around.now) own 0 (rows_at (rows_of h made) own)) before mid v)
    c.in-Ok.is c.in-Known.is refl c.check_rows.ensures.told made in_hand told)
    c.in_ok-refuse.ensures.noted
