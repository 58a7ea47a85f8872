use Rattle.std.proofs.Common.{◌∙◌, sym}
use Rattle.m2_base.specs.Statics.SameForm.{is_same_form}
use Rattle.type_rules.specs.Forms.{is_bare, same_forms}
use Rattle.type_rules.specs.Scenes.{scene_of}
use Rattle.type_rules.proofs.Compatibles.{told_as}
use Rattle.type_rules.proofs.Procedures.{both_same, left_bare, none_same, right_bare}
use Rattle.type_rules.proofs.Later.{Suits_read, Waits_asked, IsFormHere_read}
use Rattle.type_rules.proofs.Reading.{Reads-trans}
use Rattle.type_rules.proofs.headings.has_same_form.Goals as goal

pub returns-in-Some-Some-clause-reads : goal.returns-in-Some-Some-clause-reads
returns-in-Some-Some-clause-reads g c = Reads-trans c.in-Known.ensures.reads c.same_form.ensures.reads

pub returns-in-Some-Some-clause-waits : goal.returns-in-Some-Some-clause-waits
returns-in-Some-Some-clause-waits g c = Waits_asked c.same_form.result (g.S.Scopes.state c.same_form.new.scopes) c.in-Known.ensures.reads c.same_form.ensures.waits

pub returns-in-Some-None-clause-reads : goal.returns-in-Some-None-clause-reads
returns-in-Some-None-clause-reads g c = Reads-trans c.in-Known.ensures.reads c.is_bare.ensures.reads

pub returns-in-Some-None-clause-waits : goal.returns-in-Some-None-clause-waits
returns-in-Some-None-clause-waits g c = Waits_asked c.is_bare.result (g.S.Scopes.state c.is_bare.new.scopes) c.in-Known.ensures.reads c.is_bare.ensures.waits

pub returns-in-None-Some-clause-reads : goal.returns-in-None-Some-clause-reads
returns-in-None-Some-clause-reads g c = Reads-trans c.in-Known.ensures.reads c.is_bare-in-None-Some.ensures.reads

pub returns-in-None-Some-clause-waits : goal.returns-in-None-Some-clause-waits
returns-in-None-Some-clause-waits g c = Waits_asked c.is_bare-in-None-Some.result (g.S.Scopes.state c.is_bare-in-None-Some.new.scopes) c.in-Known.ensures.reads c.is_bare-in-None-Some.ensures.waits

pub returns-in-Some-Some-clause-told : goal.returns-in-Some-Some-clause-told
returns-in-Some-Some-clause-told g c =
    let f = (g.S.Scopes.state c.args.scopes.now).frame in
    let x = c.in-Some-Some.left in
    let y = c.in-Some-Some.right in
    told_as c.same_form.result f (g.S.Scopes.state c.forms_of.new.scopes).frame (λ h made. same_forms (scene_of h made c.args.around.now) x y)
    (λ made. is_same_form (scene_of f made c.args.around.now) c.args.x c.args.y) c.in-Known.ensures.reads.keeps.frame c.same_form.ensures.told
    (λ made in_hand told. both_same (scene_of f made c.args.around.now) c.args.x c.args.y x y
    (sym (c.in-Known.ensures.left made in_hand told) ∙ c.in-Some-Some.is-0) (sym (c.in-Known.ensures.right made in_hand told) ∙ c.in-Some-Some.is-1))

pub returns-in-Some-None-clause-told : goal.returns-in-Some-None-clause-told
returns-in-Some-None-clause-told g c =
    let f = (g.S.Scopes.state c.args.scopes.now).frame in
    let x = c.in-Some-None.left in
    told_as c.is_bare.result f (g.S.Scopes.state c.forms_of.new.scopes).frame (λ h made. is_bare (scene_of h made c.args.around.now) x)
    (λ made. is_same_form (scene_of f made c.args.around.now) c.args.x c.args.y) c.in-Known.ensures.reads.keeps.frame c.is_bare.ensures.told
    (λ made in_hand told. left_bare (scene_of f made c.args.around.now) c.args.x c.args.y x
    (sym (c.in-Known.ensures.left made in_hand told) ∙ c.in-Some-None.is-0) (sym (c.in-Known.ensures.right made in_hand told) ∙ c.in-Some-None.is-1))

pub returns-in-None-Some-clause-told : goal.returns-in-None-Some-clause-told
returns-in-None-Some-clause-told g c =
    let f = (g.S.Scopes.state c.args.scopes.now).frame in
    let y = c.in-None-Some.right in
    told_as c.is_bare-in-None-Some.result f (g.S.Scopes.state c.forms_of.new.scopes).frame (λ h made. is_bare (scene_of h made c.args.around.now) y)
    (λ made. is_same_form (scene_of f made c.args.around.now) c.args.x c.args.y) c.in-Known.ensures.reads.keeps.frame c.is_bare-in-None-Some.ensures.told
    (λ made in_hand told. right_bare (scene_of f made c.args.around.now) c.args.x c.args.y y
    (sym (c.in-Known.ensures.left made in_hand told) ∙ c.in-None-Some.is-0) (sym (c.in-Known.ensures.right made in_hand told) ∙ c.in-None-Some.is-1))

pub forms_of-requires : goal.forms_of-requires
forms_of-requires g c = record { suits = c.requires.suits; x = c.requires.x; y = c.requires.y }

pub returns-in-DontKnowYet : goal.returns-in-DontKnowYet
returns-in-DontKnowYet g c =
    record {
      reads = c.in-DontKnowYet.ensures.reads;
      waits = c.in-DontKnowYet.ensures.waits;
      told = λ made in_hand told. tt;
    }

pub returns-in-None-None : goal.returns-in-None-None
returns-in-None-None g c =
    record {
      reads = c.in-Known.ensures.reads;
      waits = tt;
      told = λ made in_hand told. none_same (scene_of (g.S.Scopes.state c.args.scopes.now).frame made c.args.around.now) c.args.x c.args.y
          (sym (c.in-Known.ensures.left made in_hand told) ∙ c.in-None-None.is-0) (sym (c.in-Known.ensures.right made in_hand told) ∙ c.in-None-None.is-1);
    }

pub same_form-requires : goal.same_form-requires
same_form-requires g c =
    record { suits = Suits_read c.in-Known.ensures.reads c.requires.suits; x = IsFormHere_read c.in-Known.ensures.reads (rw c.in-Some-Some.is-0 at c.in-Known.ensures.here.0); y = IsFormHere_read c.in-Known.ensures.reads (rw c.in-Some-Some.is-1 at c.in-Known.ensures.here.1) }

pub is_bare-requires : goal.is_bare-requires
is_bare-requires g c =
    record { suits = Suits_read c.in-Known.ensures.reads c.requires.suits; form = IsFormHere_read c.in-Known.ensures.reads (rw c.in-Some-None.is-0 at c.in-Known.ensures.here.0) }

pub is_bare-requires-in-None-Some : goal.is_bare-requires-in-None-Some
is_bare-requires-in-None-Some g c =
    record { suits = Suits_read c.in-Known.ensures.reads c.requires.suits; form = IsFormHere_read c.in-Known.ensures.reads (rw c.in-None-Some.is-1 at c.in-Known.ensures.here.1) }
