use Rattle.std.specs.Prelude.{◌≡◌, ◌||◌, is_some}
use Rattle.std.proofs.Common.{ap, ◌∙◌}
use Rattle.m2_base.specs.Rows.{is_same_place}
use Rattle.m2_base.specs.Standard.{broken}
use Rattle.m2_base.specs.Statics.Closing.{implements_opaque as spec_opaque}
use Rattle.m2_base.specs.Statics.Types.{is_broken, kind_of, range_by, stands_for}
use Rattle.m2_base.specs.declared.rows.Place.{Place}
use Rattle.m2_base.specs.declared.rows.RowMeaning.{RowMeaning}
use Rattle.type_rules.specs.Scenes.{scene_of}
use Rattle.type_rules.proofs.Compatibles.{told_later}
use Rattle.type_rules.proofs.Later.{Suits_read}
use Rattle.type_rules.proofs.Reading.{Reads-trans, Waits_read}
use Rattle.decl_sem.proofs.OwnRows.{other_opaque}
use Rattle.decl_sem.proofs.implementing.implements_opaque.Goals as goal

pub stand-requires-clause-suits : goal.stand-requires-clause-suits
stand-requires-clause-suits g c = Suits_read c.in-Known.ensures.reads c.requires.suits

pub returns-in-DontKnowYet-stand-clause-reads : goal.returns-in-DontKnowYet-stand-clause-reads
returns-in-DontKnowYet-stand-clause-reads g c = Reads-trans c.in-Known.ensures.reads c.in-DontKnowYet-stand.ensures.reads

pub returns-in-DontKnowYet-stand-clause-waits : goal.returns-in-DontKnowYet-stand-clause-waits
returns-in-DontKnowYet-stand-clause-waits g c = Waits_read c.in-Known.ensures.reads c.in-DontKnowYet-stand.ensures.waits

pub returns-in-Known-stand-clause-reads : goal.returns-in-Known-stand-clause-reads
returns-in-Known-stand-clause-reads g c = Reads-trans c.in-Known.ensures.reads c.in-Known-stand.ensures.reads

pub returns-in-Known-stand-clause-told : goal.returns-in-Known-stand-clause-told
returns-in-Known-stand-clause-told g c made in_hand told =
    let f = (g.S.Scopes.state c.args.scopes.now).frame in
    let mid = (g.S.Scopes.state c.meaning_at.new.scopes).frame in
    let a = c.args.around.now in
    let t = c.args.of in
    let scene = scene_of f made a in
    let stood = c.in-Known-stand.value in
    let same = c.meaning_at.ensures.reads.keeps.frame in
    c.is_scalar.ensures
    ∙ ap (λ (p : Place). is_same_place p broken || is_some (range_by stood.1)) (told_later f mid (λ h rows. stood.0 ≡ stands_for (scene_of h rows a) t) same c.in-Known-stand.ensures.told made in_hand told)
    ∙ ap (λ (m : RowMeaning). is_broken scene t || is_some (range_by m)) (told_later f mid (λ h rows. stood.1 ≡ kind_of (scene_of h rows a) t) same c.in-Known-stand.ensures.kind made in_hand told)
    ∙ other_opaque scene t c.in-Known.value c.in_default.not-Opaque c.in_default.not-Set c.in_default.not-Pointer
    ∙ ap (spec_opaque scene t) (c.in-Known.ensures.told made in_hand told)
