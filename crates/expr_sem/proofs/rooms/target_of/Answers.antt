use Rattle.std.proofs.Common.{◌≡◌, ◌∙◌, ap, refl, subst, sym}
use Rattle.m2_base.specs.Standard.{broken}
use Rattle.m2_base.specs.States.{Frame}
use Rattle.m2_base.specs.Statics.Contexts.{Scene}
use Rattle.m2_base.specs.Statics.TypeParts.{named_target, target_by, target_of}
use Rattle.m2_base.specs.Statics.Types.{meaning_at}
use Rattle.m2_base.specs.declared.rows.Place.{Place}
use Rattle.m2_base.specs.declared.rows.RowMeaning.{RowMeaning}
use Rattle.m2_base.specs.declared.rows.RowMeaning.TheVariants.{Pointer}
use Rattle.const_eval.proofs.TypesThere.{standard_there}
use Rattle.type_rules.specs.Asks.{WhereKnown}
use Rattle.type_rules.specs.Scenes.{IsThere, scene_of}
use Rattle.type_rules.proofs.Compatibles.{told_as}
use Rattle.type_rules.proofs.Later.{Suits_read, Waits_asked}
use Rattle.type_rules.proofs.Reading.{Reads-trans}
use Rattle.expr_sem.proofs.rooms.target_of.Goals as goal

no_target : (scene : Scene) (m : RowMeaning) → ((p : Place) → m ≡ Pointer p → ⊥) → broken ≡ target_by scene m
no_target scene (Pointer p) h = absurd (h p refl)
no_target scene m h = refl

pub stand-requires-clause-suits : goal.stand-requires-clause-suits
stand-requires-clause-suits g c = c.requires.suits

pub stand-requires-clause-there : goal.stand-requires-clause-there
stand-requires-clause-there g c = c.requires.of

pub returns-in-DontKnowYet-clause-reads : goal.returns-in-DontKnowYet-clause-reads
returns-in-DontKnowYet-clause-reads g c = c.in-DontKnowYet.ensures.reads

pub returns-in-DontKnowYet-clause-waits : goal.returns-in-DontKnowYet-clause-waits
returns-in-DontKnowYet-clause-waits g c = c.in-DontKnowYet.ensures.waits

pub target_named-requires-clause-suits : goal.target_named-requires-clause-suits
target_named-requires-clause-suits g c = Suits_read c.in-Known.ensures.reads c.requires.suits

pub returns-in-Pointer-clause-reads : goal.returns-in-Pointer-clause-reads
returns-in-Pointer-clause-reads g c = Reads-trans c.in-Known.ensures.reads c.target_named.ensures.reads

pub returns-in-Pointer-clause-waits : goal.returns-in-Pointer-clause-waits
returns-in-Pointer-clause-waits g c = Waits_asked c.target_named.result (g.S.Scopes.state c.target_named.new.scopes) c.in-Known.ensures.reads c.target_named.ensures.waits

pub returns-in-Pointer-clause-told : goal.returns-in-Pointer-clause-told
returns-in-Pointer-clause-told g c =
    let f = (g.S.Scopes.state c.args.scopes.now).frame in
    let a = c.args.around.now in
    let to = c.in-Pointer.to in
    told_as c.target_named.result f (g.S.Scopes.state c.stand.new.scopes).frame (λ e made. named_target to (meaning_at (scene_of e made a) to)) (λ made. target_of (scene_of f made a) c.args.of) c.in-Known.ensures.reads.keeps.frame c.target_named.ensures.told
    (λ made in_hand told. ap (target_by (scene_of f made a)) (sym c.in-Pointer.is ∙ c.in-Known.ensures.kind made in_hand told))

pub returns-in-Pointer-clause-there : goal.returns-in-Pointer-clause-there
returns-in-Pointer-clause-there g c =
    subst (λ (f : Frame). WhereKnown c.target_named.result (λ t. IsThere f t)) c.in-Known.ensures.reads.keeps.frame c.target_named.ensures.there

pub returns-in_default-clause-reads : goal.returns-in_default-clause-reads
returns-in_default-clause-reads g c = c.in-Known.ensures.reads

pub returns-in_default-clause-told : goal.returns-in_default-clause-told
returns-in_default-clause-told g c made in_hand told =
    let scene = scene_of (g.S.Scopes.state c.args.scopes.now).frame made c.args.around.now in
    no_target scene c.in-Known.value.1 c.in_default.not-Pointer ∙ ap (target_by scene) (c.in-Known.ensures.kind made in_hand told)

pub returns-in_default-clause-there : goal.returns-in_default-clause-there
returns-in_default-clause-there g c = standard_there c.requires.suits 10

pub returns-in_default-clause-waits : goal.returns-in_default-clause-waits
returns-in_default-clause-waits g c = tt
