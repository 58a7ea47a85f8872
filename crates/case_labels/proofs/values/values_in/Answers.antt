use Rattle.std.proofs.Common.{◌≡◌, ◌∙◌, sym}
use Rattle.type_rules.proofs.Compatibles.{told_later}
use Rattle.type_rules.specs.Asks.{WhereKnown}
use Rattle.type_rules.specs.Sites.{context_of}
use Rattle.type_rules.proofs.Later.{IsThere_read, Waits_asked}
use Rattle.type_rules.proofs.Reading.{Reads-refl, Reads-trans}
use Rattle.case_labels.specs.Labels.{values_beside}
use Rattle.case_labels.proofs.CoveringLabels.{told_as, values_some, values_broken, values_no_high, values_no_low}
use Rattle.const_eval.proofs.Later.{IsOperand_read, SuitsSite_read}
use Rattle.case_labels.proofs.values.values_in.Goals as goal

pub is_broken-requires : goal.is_broken-requires
is_broken-requires g c = record { suits = c.requires.suits.around; there = c.requires.of }

pub values_beside-requires : goal.values_beside-requires
values_beside-requires g c =
    record { suits = SuitsSite_read c.in-Known.ensures.reads c.requires.suits; of = IsThere_read c.in-Known.ensures.reads c.requires.of; x = IsOperand_read c.in-Some.low c.in-Known.ensures.reads (rw c.in-Some.is at c.requires.low); y = IsOperand_read c.in-Some-1₀.high c.in-Known.ensures.reads (rw c.in-Some-1₀.is at c.requires.high) }

pub returns-in-DontKnowYet : goal.returns-in-DontKnowYet
returns-in-DontKnowYet g c =
    record {
      reads = c.in-DontKnowYet.ensures.reads;
      waits = c.in-DontKnowYet.ensures.waits;
      told = λ made in_hand told. tt;
    }

pub returns : goal.returns
returns g c =
    record {
      reads = Reads-trans c.in-Known.ensures.reads c.values_beside.ensures.reads;
      waits = Waits_asked c.values_beside.result (g.S.Scopes.state c.values_beside.new.scopes) c.in-Known.ensures.reads c.values_beside.ensures.waits;
      told = λ made in_hand told. (let f = (g.S.Scopes.state c.args.scopes.now).frame in
          let s = c.args.site.now in
          told_as c.values_beside.result
          (told_later f _ (λ h rows. WhereKnown c.values_beside.result (λ values. values ≡ values_beside (context_of h rows s) c.args.of c.in-Some.low c.in-Some-1₀.high)) c.in-Known.ensures.reads.keeps.frame c.values_beside.ensures.told made in_hand told)
          (values_some (context_of f made s) c.args.of c.args.ends c.in-Some.low c.in-Some-1₀.high c.in-Some.is c.in-Some-1₀.is (sym (c.in-Known.ensures.told made in_hand told) ∙ c.if-value.false)));
    }

pub returns-then-value : goal.returns-then-value
returns-then-value g c =
    record {
      reads = c.in-Known.ensures.reads;
      waits = tt;
      told = λ made in_hand told. values_broken (context_of (g.S.Scopes.state c.args.scopes.now).frame made c.args.site.now) c.args.of c.args.ends c.in-Some.low c.in-Some-1₀.high c.in-Some.is c.in-Some-1₀.is (sym (c.in-Known.ensures.told made in_hand told) ∙ c.if-value.true);
    }

pub returns-in_default : goal.returns-in_default
returns-in_default g c =
    record {
      reads = Reads-refl _;
      waits = tt;
      told = λ made in_hand told. values_no_low (context_of (g.S.Scopes.state c.args.scopes.now).frame made c.args.site.now) c.args.of c.args.ends c.in_default.is;
    }

pub returns-in_default-1₀ : goal.returns-in_default-1₀
returns-in_default-1₀ g c =
    record {
      reads = Reads-refl _;
      waits = tt;
      told = λ made in_hand told. values_no_high (context_of (g.S.Scopes.state c.args.scopes.now).frame made c.args.site.now) c.args.of c.args.ends c.in-Some.low c.in-Some.is c.in_default-1₀.is;
    }
