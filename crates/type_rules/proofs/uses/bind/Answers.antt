use Rattle.std.proofs.Common.{ap, Some}
use Rattle.type_rules.proofs.Outcomes.{failed_known, failed_ok, failed_waits, on_error}
use Rattle.type_rules.proofs.Reading.{Reads-refl}
use Rattle.type_rules.proofs.uses.bind.Goals as goal

pub follow-requires : goal.follow-requires
follow-requires g c = record { suits = c.requires.suits; row = c.requires.row }

pub returns-in_err-answer : goal.returns-in_err-answer
returns-in_err-answer g c =
    let r = c.from_residual.result in
    let is = c.from_residual.ensures.0 in
    record {
      reads = Reads-refl _;
      noted = failed_ok r _ is;
      kept = on_error r _ c.in_err-answer.ensures.kept;
      diags = c.answer.ensures.diags;
      waits = failed_waits r _ is;
      told = λ made in_hand told. failed_known r _ is;
      row = failed_known r _ is;
      upto = failed_known r _ is;
      of = failed_waits r _ is;
    }

pub returns-in-Known : goal.returns-in-Known
returns-in-Known g c =
    let e = c.in-Known.ensures in
    record {
      reads = e.reads;
      noted = c.in_ok-answer.ensures.noted;
      kept = tt;
      diags = c.answer.ensures.diags;
      waits = tt;
      told = λ made in_hand told. ap Some (e.told made in_hand told);
      row = e.row;
      upto = e.upto;
      of = tt;
    }

pub returns-in-DontKnowYet : goal.returns-in-DontKnowYet
returns-in-DontKnowYet g c =
    let e = c.in-DontKnowYet.ensures in
    record {
      reads = e.reads;
      noted = c.in_ok-answer.ensures.noted;
      kept = tt;
      diags = c.answer.ensures.diags;
      waits = e.waits;
      told = λ made in_hand told. tt;
      row = tt;
      upto = tt;
      of = e.of;
    }
