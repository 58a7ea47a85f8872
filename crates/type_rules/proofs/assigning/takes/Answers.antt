use Rattle.std.proofs.Common.{sym, ap, refl}
use Rattle.m2_base.specs.Statics.Assignable.{takes as spec_takes, takes_procedure as spec_takes_procedure}
use Rattle.type_rules.specs.Assigning.{takes_closed as spec_takes_closed, takes_text as spec_takes_text}
use Rattle.type_rules.specs.Scenes.{scene_of}
use Rattle.type_rules.proofs.Compatibles.{told_as}
use Rattle.type_rules.proofs.Procedures.{takes_default}
use Rattle.type_rules.proofs.assigning.takes.Goals as goal

pub returns-in_default : goal.returns-in_default
returns-in_default g c =
    let f = (g.S.Scopes.state c.args.scopes.now).frame in
    record {
      reads = c.takes_closed.ensures.reads;
      waits = c.takes_closed.ensures.waits;
      told = told_as c.takes_closed.result f f (λ h made. spec_takes_closed (scene_of h made c.args.around.now) c.args.to c.args.operand.now)
          (λ made. spec_takes (scene_of f made c.args.around.now) c.args.to c.args.operand.now) refl c.takes_closed.ensures.told
          (λ made in_hand told. takes_default (scene_of f made c.args.around.now) c.args.to c.args.operand.now c.in_default.not-Procedure c.in_default.not-StringConstant);
    }

pub takes_text-requires : goal.takes_text-requires
takes_text-requires g c = record { suits = c.requires.suits; to = c.requires.to }

pub returns-in-Procedure : goal.returns-in-Procedure
returns-in-Procedure g c =
    record {
      reads = c.takes_procedure.ensures.reads;
      waits = c.takes_procedure.ensures.waits;
      told = (let f = (g.S.Scopes.state c.args.scopes.now).frame in
          told_as c.takes_procedure.result f f (λ h made. spec_takes_procedure (scene_of h made c.args.around.now) c.args.to c.in-Procedure.of)
          (λ made. spec_takes (scene_of f made c.args.around.now) c.args.to c.args.operand.now) refl c.takes_procedure.ensures.told
          (λ made in_hand told. ap (spec_takes (scene_of f made c.args.around.now) c.args.to) (sym c.in-Procedure.is)));
    }

pub returns-in-StringConstant : goal.returns-in-StringConstant
returns-in-StringConstant g c =
    record {
      reads = c.takes_text.ensures.reads;
      waits = c.takes_text.ensures.waits;
      told = (let f = (g.S.Scopes.state c.args.scopes.now).frame in
          told_as c.takes_text.result f f (λ h made. spec_takes_text (scene_of h made c.args.around.now) c.args.to c.in-StringConstant.length)
          (λ made. spec_takes (scene_of f made c.args.around.now) c.args.to c.args.operand.now) refl c.takes_text.ensures.told
          (λ made in_hand told. ap (spec_takes (scene_of f made c.args.around.now) c.args.to) (sym c.in-StringConstant.is)));
    }

pub takes_procedure-requires-clause-suits : goal.takes_procedure-requires-clause-suits
takes_procedure-requires-clause-suits g c = c.requires.suits

pub takes_procedure-requires-clause-to : goal.takes_procedure-requires-clause-to
takes_procedure-requires-clause-to g c = c.requires.to
