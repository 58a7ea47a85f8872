use Rattle.std.proofs.Common.{◌∙◌, Some, ap, refl, sym}
use Rattle.m2_base.specs.Statics.SameForm.{is_same_part, is_same_result}
use Rattle.type_rules.specs.Scenes.{scene_of}
use Rattle.type_rules.proofs.Compatibles.{told_as}
use Rattle.type_rules.proofs.Reading.{Reads-refl}
use Rattle.type_rules.proofs.forms.same_result.Goals as goal

pub same_part-requires : goal.same_part-requires
same_part-requires g c = record { suits = c.requires.suits; x = rw c.in-Some-Some.is-0 at c.requires.x; y = rw c.in-Some-Some.is-1 at c.requires.y }

pub returns-in-Some-Some : goal.returns-in-Some-Some
returns-in-Some-Some g c =
    record {
      reads = c.same_part.ensures.reads;
      waits = c.same_part.ensures.waits;
      told = (let f = (g.S.Scopes.state c.args.scopes.now).frame in
          let x = c.in-Some-Some.left in
          let y = c.in-Some-Some.right in
          told_as c.same_part.result f f (λ h made. is_same_part (scene_of h made c.args.around.now) x y) (λ made. is_same_result (scene_of f made c.args.around.now) c.args.x c.args.y) refl c.same_part.ensures.told
          (λ made in_hand told. let scene = scene_of f made c.args.around.now in
          sym (ap (λ o. is_same_result scene o c.args.y) c.in-Some-Some.is-0 ∙ ap (is_same_result scene (Some x)) c.in-Some-Some.is-1)));
    }

pub returns-in-None-None-clause-reads : goal.returns-in-None-None-clause-reads
returns-in-None-None-clause-reads g c = Reads-refl _

pub returns-in-None-None-clause-waits : goal.returns-in-None-None-clause-waits
returns-in-None-None-clause-waits g c = tt

pub returns-in_default-clause-reads : goal.returns-in_default-clause-reads
returns-in_default-clause-reads g c = Reads-refl _

pub returns-in_default-clause-waits : goal.returns-in_default-clause-waits
returns-in_default-clause-waits g c = tt

pub returns-in_default-2-clause-reads : goal.returns-in_default-2-clause-reads
returns-in_default-2-clause-reads g c = Reads-refl _

pub returns-in_default-2-clause-waits : goal.returns-in_default-2-clause-waits
returns-in_default-2-clause-waits g c = tt
