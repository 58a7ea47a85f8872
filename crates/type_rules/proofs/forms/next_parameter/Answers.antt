use Rattle.std.proofs.Common.{refl, arith, ◌∙◌, ap}
use Rattle.std.specs.Prelude.{filter_map}
use Rattle.m2_base.specs.Statics.TypeParts.{parameter_of}
use Rattle.m2_base.specs.Tables.{rows_at}
use Rattle.type_rules.specs.Scenes.{rows_of}
use Rattle.type_rules.proofs.Reading.{Reads-trans, Reads-refl, Waits_read}
use Rattle.type_rules.proofs.Walks.{read_before, parameter_found, parameter_passed, between_none}
use Rattle.type_rules.proofs.Later.{Suits_read, IsThere_earlier, IsThere_read}
use Rattle.type_rules.proofs.forms.next_parameter.Goals as goal

pub returns-in-Some-clause-told : goal.returns-in-Some-clause-told
returns-in-Some-clause-told g c =
    parameter_found (g.S.Scopes.state c.args.scopes.now).frame c.args.around.now c.args.of c.args.start c.loop-ordinal.ordinal c.in-Known.value c.parameter_of.result c.in-Some.typ c.in-Some.by_ref
    (read_before _ _ c.args.of c.loop-ordinal.ordinal c.in-Known.value c.loop-ordinal.invariant.reads.keeps.frame c.in-Known.ensures.told)
    c.loop-ordinal-test.true c.in-Some.is c.parameter_of.ensures c.loop-ordinal.invariant.left

pub loop-ordinal-preserved : goal.loop-ordinal-preserved
loop-ordinal-preserved g c =
    record {
      reads = Reads-trans c.loop-ordinal.invariant.reads c.row_at.ensures.reads;
      left = parameter_passed (g.S.Scopes.state c.args.scopes.now).frame c.args.around.now c.args.of c.args.start c.loop-ordinal.ordinal c.in-Known.value c.parameter_of.result
          (read_before _ _ c.args.of c.loop-ordinal.ordinal c.in-Known.value c.loop-ordinal.invariant.reads.keeps.frame c.in-Known.ensures.told)
          c.loop-ordinal-test.true c.in_default.is c.parameter_of.ensures c.loop-ordinal.invariant.left;
    }

pub returns-in-Some-clause-reads : goal.returns-in-Some-clause-reads
returns-in-Some-clause-reads g c = Reads-trans c.loop-ordinal.invariant.reads c.in-Known.ensures.reads

pub loop-ordinal-init : goal.loop-ordinal-init
loop-ordinal-init g c = record { reads = Reads-refl _; left = λ made in_hand told. refl }

pub row_at-requires : goal.row_at-requires
row_at-requires g c =
    record { suits = Suits_read c.loop-ordinal.invariant.reads c.requires.suits; there = IsThere_read c.loop-ordinal.invariant.reads (IsThere_earlier _ c.args.of c.loop-ordinal.ordinal c.requires.there c.loop-ordinal-test.true) }

pub parameter_of-requires : goal.parameter_of-requires
parameter_of-requires g c = c.in-Known.ensures.row.said.small

pub returns-in-DontKnowYet : goal.returns-in-DontKnowYet
returns-in-DontKnowYet g c =
    record {
      reads = Reads-trans c.loop-ordinal.invariant.reads c.in-DontKnowYet.ensures.reads;
      waits = Waits_read c.loop-ordinal.invariant.reads c.in-DontKnowYet.ensures.waits;
      told = λ made in_hand told. tt;
      goes_on = tt;
      stops = (c.in-DontKnowYet.ensures.of, (let upto = c.in-DontKnowYet.ensures.stops in let below = c.loop-ordinal-test.true in omega (arith, upto, below)));
    }

pub returns-in-Some-clause-waits : goal.returns-in-Some-clause-waits
returns-in-Some-clause-waits g c = tt

pub returns-in-Some-clause-stops : goal.returns-in-Some-clause-stops
returns-in-Some-clause-stops g c = tt

pub loop-ordinal-smaller : goal.loop-ordinal-smaller
loop-ordinal-smaller g c = let below = c.loop-ordinal-test.true in omega (arith, below)

pub returns : goal.returns
returns g c =
    record {
      reads = c.loop-ordinal.invariant.reads;
      waits = tt;
      told = λ made in_hand told. c.loop-ordinal.invariant.left made in_hand told
          ∙ ap (filter_map (parameter_of c.args.of.ordinal)) (between_none (rows_at (rows_of (g.S.Scopes.state c.args.scopes.now).frame made) c.args.of.scope) c.loop-ordinal.ordinal c.args.of.ordinal c.loop-ordinal-test.false);
      goes_on = tt;
      stops = tt;
    }
