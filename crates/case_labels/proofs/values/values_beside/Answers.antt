use Rattle.std.proofs.Common.{◌∙◌}
use Rattle.type_rules.specs.Sites.{context_of}
use Rattle.type_rules.proofs.Later.{IsThere_read}
use Rattle.type_rules.proofs.Reading.{Reads-trans, Waits_read}
use Rattle.const_eval.proofs.Elements.{pair}
use Rattle.const_eval.proofs.Judging.{told_first}
use Rattle.case_labels.proofs.CoveringLabels.{beside_given}
use Rattle.const_eval.proofs.Later.{IsOperand_read, SuitsSite_read}
use Rattle.case_labels.proofs.values.values_beside.Goals as goal

pub compatible_pair-requires : goal.compatible_pair-requires
compatible_pair-requires g c = record { suits = c.requires.suits; x = c.requires.x; y = c.requires.of }

pub compatible_pair-requires-2 : goal.compatible_pair-requires-2
compatible_pair-requires-2 g c =
    record { suits = SuitsSite_read c.in-Known.ensures.reads c.requires.suits; x = IsOperand_read c.args.y c.in-Known.ensures.reads c.requires.y; y = IsThere_read c.in-Known.ensures.reads c.requires.of }

pub values_by-requires : goal.values_by-requires
values_by-requires g c = tt

pub returns-in-DontKnowYet : goal.returns-in-DontKnowYet
returns-in-DontKnowYet g c =
    record {
      reads = c.in-DontKnowYet.ensures.reads;
      waits = c.in-DontKnowYet.ensures.waits;
      told = λ made in_hand told. tt;
    }

pub returns-in-DontKnowYet-compatible_pair : goal.returns-in-DontKnowYet-compatible_pair
returns-in-DontKnowYet-compatible_pair g c =
    record {
      reads = Reads-trans c.in-Known.ensures.reads c.in-DontKnowYet-compatible_pair.ensures.reads;
      waits = Waits_read c.in-Known.ensures.reads c.in-DontKnowYet-compatible_pair.ensures.waits;
      told = λ made in_hand told. tt;
    }

pub returns : goal.returns
returns g c =
    record {
      reads = Reads-trans c.in-Known.ensures.reads c.in-Known-compatible_pair.ensures.reads;
      waits = tt;
      told = λ made in_hand told. (let f = (g.S.Scopes.state c.args.scopes.now).frame in
          let s = c.args.site.now in
          c.values_by.ensures
          ∙ beside_given (context_of f made s) c.args.of c.args.x c.args.y c.in-Known.value c.in-Known-compatible_pair.value (c.in-Known.ensures.told made in_hand told)
          (told_first _ f _ (λ h rows. pair (context_of h rows s) c.args.y c.args.of) c.in-Known.ensures.reads.keeps.frame c.in-Known-compatible_pair.ensures.told made in_hand told));
    }
