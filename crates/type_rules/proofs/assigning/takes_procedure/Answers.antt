use Rattle.std.proofs.Common.{◌∙◌, sym}
use Rattle.m2_base.specs.Statics.Assignable.{takes_procedure as spec_takes_procedure}
use Rattle.type_rules.specs.Forms.{same_forms}
use Rattle.type_rules.specs.Scenes.{scene_of}
use Rattle.type_rules.proofs.Compatibles.{told_as}
use Rattle.type_rules.proofs.Procedures.{forms_same, none_of, none_to}
use Rattle.type_rules.proofs.Later.{Suits_read, Waits_asked}
use Rattle.type_rules.proofs.Reading.{Reads-trans}
use Rattle.type_rules.proofs.assigning.takes_procedure.Goals as goal

pub same_form-requires-clause-suits : goal.same_form-requires-clause-suits
same_form-requires-clause-suits g c = Suits_read c.in-Known.ensures.reads c.requires.suits

pub returns-clause-reads : goal.returns-clause-reads
returns-clause-reads g c = Reads-trans c.in-Known.ensures.reads c.same_form.ensures.reads

pub returns-clause-waits : goal.returns-clause-waits
returns-clause-waits g c = Waits_asked c.same_form.result (g.S.Scopes.state c.same_form.new.scopes) c.in-Known.ensures.reads c.same_form.ensures.waits

pub returns-in_default-clause-told : goal.returns-in_default-clause-told
returns-in_default-clause-told g c made in_hand told =
    none_to (scene_of (g.S.Scopes.state c.args.scopes.now).frame made c.args.around.now) c.args.to c.args.of (sym (c.in-Known.ensures.left made in_hand told) ∙ c.in_default.is)

pub returns-in_default-right-clause-told : goal.returns-in_default-right-clause-told
returns-in_default-right-clause-told g c made in_hand told =
    none_of (scene_of (g.S.Scopes.state c.args.scopes.now).frame made c.args.around.now) c.args.to c.args.of (sym (c.in-Known.ensures.right made in_hand told) ∙ c.in_default-right.is)

pub returns-clause-told : goal.returns-clause-told
returns-clause-told g c =
    let f = (g.S.Scopes.state c.args.scopes.now).frame in
    told_as c.same_form.result f (g.S.Scopes.state c.forms_of.new.scopes).frame (λ h made. same_forms (scene_of h made c.args.around.now) c.in-Some.left c.in-Some-right.right)
    (λ made. spec_takes_procedure (scene_of f made c.args.around.now) c.args.to c.args.of) c.in-Known.ensures.reads.keeps.frame c.same_form.ensures.told
    (λ made in_hand told. forms_same (scene_of f made c.args.around.now) c.args.to c.args.of c.in-Some.left c.in-Some-right.right (sym (c.in-Known.ensures.left made in_hand told) ∙ c.in-Some.is) (sym (c.in-Known.ensures.right made in_hand told) ∙ c.in-Some-right.is))
