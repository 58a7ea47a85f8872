use Rattle.std.proofs.Common.{◌≡◌, ◌∙◌, ap, arith, refl, sym}
use Rattle.m2_base.specs.Statics.SameForm.{are_same_parameters}
use Rattle.type_rules.specs.Forms.{compared, parameters_from}
use Rattle.type_rules.specs.Scenes.{scene_of}
use Rattle.type_rules.proofs.Compatibles.{told_later}
use Rattle.type_rules.proofs.Later.{IsThere_read, Suits_read}
use Rattle.type_rules.proofs.Reading.{Reads-refl, Reads-trans, Waits_read}
use Rattle.type_rules.proofs.forms.same_parameters.Goals as goal

pub parameters-init : goal.parameters-init
parameters-init g c = record { reads = Reads-refl _; within = c.requires.x.first; left = λ made in_hand told. refl }

pub compare_next-requires : goal.compare_next-requires
compare_next-requires g c =
    let reads = c.parameters.invariant.reads in
    record { suits = Suits_read reads c.requires.suits; x = IsThere_read reads c.requires.x.of; y = IsThere_read reads c.requires.y.of }

pub returns-in-DontKnowYet : goal.returns-in-DontKnowYet
returns-in-DontKnowYet g c =
    record {
      reads = Reads-trans c.parameters.invariant.reads c.in-DontKnowYet.ensures.reads;
      waits = Waits_read c.parameters.invariant.reads c.in-DontKnowYet.ensures.waits;
      told = λ made in_hand told. tt;
    }

pub parameters-smaller : goal.parameters-smaller
parameters-smaller g c =
    let later = (rw c.in-Next.is at c.in-Known.ensures.later) in
    let first = later.0 in
    let second = later.1 in
    omega (arith, first, second)

pub returns-in-Ended : goal.returns-in-Ended
returns-in-Ended g c =
    let f = (g.S.Scopes.state c.args.scopes.now).frame in
    let i = c.parameters.invariant in
    let a = c.args.around.now in
    let step = c.in-Known.value in
    record {
      reads = Reads-trans i.reads c.in-Known.ensures.reads;
      waits = tt;
      told = λ made in_hand told. sym (i.left made in_hand told
          ∙ told_later f _ (λ h rows. are_same_parameters (scene_of h rows a) (parameters_from (scene_of h rows a) c.args.x.of c.parameters.left) (parameters_from (scene_of h rows a) c.args.y.of c.parameters.right)
          ≡ compared (scene_of h rows a) c.args.x.of c.args.y.of step) i.reads.keeps.frame c.in-Known.ensures.told made in_hand told
          ∙ ap (compared (scene_of f made a) c.args.x.of c.args.y.of) c.in-Ended.is);
    }

pub parameters-preserved : goal.parameters-preserved
parameters-preserved g c =
    let f = (g.S.Scopes.state c.args.scopes.now).frame in
    let i = c.parameters.invariant in
    let a = c.args.around.now in
    let step = c.in-Known.value in
    let later = (rw c.in-Next.is at c.in-Known.ensures.later) in
    record {
      reads = Reads-trans i.reads c.in-Known.ensures.reads;
      within = later.1;
      left = λ made in_hand told. i.left made in_hand told
          ∙ told_later f _ (λ h rows. are_same_parameters (scene_of h rows a) (parameters_from (scene_of h rows a) c.args.x.of c.parameters.left) (parameters_from (scene_of h rows a) c.args.y.of c.parameters.right)
          ≡ compared (scene_of h rows a) c.args.x.of c.args.y.of step) i.reads.keeps.frame c.in-Known.ensures.told made in_hand told
          ∙ ap (compared (scene_of f made a) c.args.x.of c.args.y.of) c.in-Next.is;
    }
