use Rattle.m2_base.specs.Statics.SameForm.{is_same_parameter_type}
use Rattle.type_rules.specs.Forms.{same_by as spec_same_by}
use Rattle.type_rules.specs.Scenes.{scene_of}
use Rattle.type_rules.proofs.Compatibles.{told_as}
use Rattle.type_rules.proofs.Procedures.{stood_same}
use Rattle.type_rules.proofs.Later.{Suits_read, Waits_asked}
use Rattle.type_rules.proofs.Reading.{Reads-trans}
use Rattle.type_rules.proofs.forms.same_parameter.Goals as goal

pub same_by-requires-clause-suits : goal.same_by-requires-clause-suits
same_by-requires-clause-suits g c = Suits_read c.in-Known.ensures.reads c.requires.suits

pub returns-clause-reads : goal.returns-clause-reads
returns-clause-reads g c = Reads-trans c.in-Known.ensures.reads c.same_by.ensures.reads

pub returns-clause-waits : goal.returns-clause-waits
returns-clause-waits g c = Waits_asked c.same_by.result (g.S.Scopes.state c.same_by.new.scopes) c.in-Known.ensures.reads c.same_by.ensures.waits

pub returns-clause-told : goal.returns-clause-told
returns-clause-told g c =
    let f = (g.S.Scopes.state c.args.scopes.now).frame in
    told_as c.same_by.result f (g.S.Scopes.state c.stand_both.new.scopes).frame (λ h made. spec_same_by (scene_of h made c.args.around.now) c.in-Known.value.0 c.in-Known.value.1)
    (λ made. is_same_parameter_type (scene_of f made c.args.around.now) c.args.x c.args.y) c.in-Known.ensures.reads.keeps.frame c.same_by.ensures.told
    (λ made in_hand told. stood_same (scene_of f made c.args.around.now) c.args.x c.args.y c.in-Known.value.0 c.in-Known.value.1 (c.in-Known.ensures.left made in_hand told) (c.in-Known.ensures.right made in_hand told))
