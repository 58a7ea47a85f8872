use Rattle.std.proofs.Common.{◌∙◌, sym, refl, ap, arith}
use Rattle.std.specs.Prelude.{find}
use Rattle.m2_base.specs.Statics.TypeParts.{is_field}
use Rattle.m2_base.specs.Tables.{rows_at}
use Rattle.type_rules.specs.Scenes.{rows_of}
use Rattle.type_rules.proofs.Reading.{Reads-trans, Reads-refl, Waits_read}
use Rattle.type_rules.proofs.Walks.{read_before, field_found, field_passed, between_none}
use Rattle.type_rules.proofs.Later.{Suits_read, IsRowOf_before, IsThere_earlier, IsThere_read}
use Rattle.type_rules.proofs.members.walk_to_field.Goals as goal

pub returns-then-is_field-clause-told : goal.returns-then-is_field-clause-told
returns-then-is_field-clause-told g c =
    field_found (g.S.Scopes.state c.args.scopes.now).frame c.args.around.now c.args.of c.args.first c.args.name c.loop-ordinal.ordinal c.in-Known.value
    (read_before _ _ c.args.of c.loop-ordinal.ordinal c.in-Known.value c.loop-ordinal.invariant.reads.keeps.frame c.in-Known.ensures.told)
    c.loop-ordinal-test.true (sym c.is_field.ensures ∙ c.if-is_field.true) c.loop-ordinal.invariant.left

pub loop-ordinal-preserved : goal.loop-ordinal-preserved
loop-ordinal-preserved g c =
    record {
      reads = Reads-trans c.loop-ordinal.invariant.reads c.row_at.ensures.reads;
      left = field_passed (g.S.Scopes.state c.args.scopes.now).frame c.args.around.now c.args.of c.args.first c.args.name c.loop-ordinal.ordinal c.in-Known.value
          (read_before _ _ c.args.of c.loop-ordinal.ordinal c.in-Known.value c.loop-ordinal.invariant.reads.keeps.frame c.in-Known.ensures.told)
          c.loop-ordinal-test.true (sym c.is_field.ensures ∙ c.if-is_field.false) c.loop-ordinal.invariant.left;
    }

pub is_field-requires : goal.is_field-requires
is_field-requires g c = c.in-Known.ensures.row.said.small

pub loop-ordinal-init : goal.loop-ordinal-init
loop-ordinal-init g c = record { reads = Reads-refl _; left = λ made in_hand told. refl }

pub row_at-requires : goal.row_at-requires
row_at-requires g c =
    record { suits = Suits_read c.loop-ordinal.invariant.reads c.requires.suits; there = IsThere_read c.loop-ordinal.invariant.reads (IsThere_earlier _ c.args.of c.loop-ordinal.ordinal c.requires.there c.loop-ordinal-test.true) }

pub returns-in-DontKnowYet : goal.returns-in-DontKnowYet
returns-in-DontKnowYet g c =
    record {
      reads = Reads-trans c.loop-ordinal.invariant.reads c.in-DontKnowYet.ensures.reads;
      waits = Waits_read c.loop-ordinal.invariant.reads c.in-DontKnowYet.ensures.waits;
      told = λ made in_hand told. tt;
      here = tt;
      typed = tt;
    }

pub returns-then-is_field-clause-reads : goal.returns-then-is_field-clause-reads
returns-then-is_field-clause-reads g c = Reads-trans c.loop-ordinal.invariant.reads c.in-Known.ensures.reads

pub returns-then-is_field-clause-waits : goal.returns-then-is_field-clause-waits
returns-then-is_field-clause-waits g c = tt

pub returns-then-is_field-clause-here : goal.returns-then-is_field-clause-here
returns-then-is_field-clause-here g c = record { place = _; row = IsRowOf_before c.loop-ordinal.invariant.reads c.in-Known.ensures.row }

pub loop-ordinal-smaller : goal.loop-ordinal-smaller
loop-ordinal-smaller g c = let below = c.loop-ordinal-test.true in omega (arith, below)

pub returns : goal.returns
returns g c =
    record {
      reads = c.loop-ordinal.invariant.reads;
      waits = tt;
      told = λ made in_hand told. sym (ap (find (is_field c.args.of.ordinal c.args.name)) (between_none (rows_at (rows_of (g.S.Scopes.state c.args.scopes.now).frame made) c.args.of.scope) c.loop-ordinal.ordinal c.args.of.ordinal c.loop-ordinal-test.false))
          ∙ c.loop-ordinal.invariant.left made in_hand told;
      here = tt;
      typed = tt;
    }
