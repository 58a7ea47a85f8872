use Rattle.std.proofs.Common.{subst, ◌∙◌, ap, sym}
use Rattle.std.specs.Option.{IfSome}
use Rattle.std.specs.Prelude.{find}
use Rattle.m2_base.specs.Rows.{row_meaning}
use Rattle.m2_base.specs.States.{Frame}
use Rattle.m2_base.specs.Statics.Types.{stands_for as spec_stands}
use Rattle.m2_base.specs.Statics.TypeParts.{field_by, field_of as spec_field, is_field, rows_between}
use Rattle.m2_base.specs.declared.rows.RowMeaning.TheVariants.{Record}
use Rattle.type_rules.specs.Asks.{WhereKnown}
use Rattle.type_rules.specs.Members.{IsFieldThere}
use Rattle.type_rules.specs.Scenes.{IsHere, scene_of}
use Rattle.type_rules.proofs.Later.{Suits_read, Waits_asked, IsThere_read}
use Rattle.type_rules.proofs.Reading.{Reads-trans}
use Rattle.type_rules.proofs.Otherwise.{other_field}
use Rattle.type_rules.proofs.Compatibles.{told_as}
use Rattle.type_rules.proofs.members.field_of.Goals as goal

pub field_among-requires-clause-suits : goal.field_among-requires-clause-suits
field_among-requires-clause-suits g c = Suits_read c.in-Known.ensures.reads c.requires.suits

pub stand-requires : goal.stand-requires
stand-requires g c = record { suits = c.requires.suits; there = c.requires.there }

pub returns-in-DontKnowYet : goal.returns-in-DontKnowYet
returns-in-DontKnowYet g c =
    record {
      reads = c.in-DontKnowYet.ensures.reads;
      waits = c.in-DontKnowYet.ensures.waits;
      told = λ made in_hand told. tt;
      here = tt;
      typed = tt;
    }

pub field_among-requires-clause-there : goal.field_among-requires-clause-there
field_among-requires-clause-there g c = IsThere_read c.in-Known.ensures.reads c.in-Known.ensures.there

pub returns-in_default : goal.returns-in_default
returns-in_default g c =
    record {
      reads = c.in-Known.ensures.reads;
      waits = tt;
      told = λ made in_hand told. other_field (scene_of (g.S.Scopes.state c.args.scopes.now).frame made c.args.around.now) (spec_stands (scene_of (g.S.Scopes.state c.args.scopes.now).frame made c.args.around.now) c.args.of) c.args.name c.in-Known.value.1 c.in_default.not-Record ∙ ap (field_by (scene_of (g.S.Scopes.state c.args.scopes.now).frame made c.args.around.now) (spec_stands (scene_of (g.S.Scopes.state c.args.scopes.now).frame made c.args.around.now) c.args.of) c.args.name) (c.in-Known.ensures.kind made in_hand told);
      here = tt;
      typed = tt;
    }

pub returns-in-Record : goal.returns-in-Record
returns-in-Record g c =
    record {
      reads = Reads-trans c.in-Known.ensures.reads c.field_among.ensures.reads;
      waits = Waits_asked c.field_among.result (g.S.Scopes.state c.field_among.new.scopes) c.in-Known.ensures.reads c.field_among.ensures.waits;
      told = (let f = (g.S.Scopes.state c.args.scopes.now).frame in
          let stood = c.in-Known.value.0 in
          let first = c.in-Record.first in
          told_as c.field_among.result f (g.S.Scopes.state c.stand.new.scopes).frame
          (λ h made. find (is_field stood.ordinal c.args.name) (rows_between (scene_of h made c.args.around.now) stood.scope first stood.ordinal))
          (λ made. spec_field (scene_of f made c.args.around.now) c.args.of c.args.name) c.in-Known.ensures.reads.keeps.frame c.field_among.ensures.told
          (λ made in_hand told. let scene = scene_of f made c.args.around.now in
          ap (λ p. field_by scene p c.args.name (Record first c.in-Record.field-1)) (c.in-Known.ensures.told made in_hand told)
          ∙ ap (field_by scene (spec_stands scene c.args.of) c.args.name) (sym c.in-Record.is ∙ c.in-Known.ensures.kind made in_hand told)));
      here = subst (λ (f : Frame). WhereKnown c.field_among.result (λ row. IfSome row (IsHere f))) c.in-Known.ensures.reads.keeps.frame c.field_among.ensures.here;
      typed = subst (λ (f : Frame). WhereKnown c.field_among.result (λ row. IfSome row (λ r. IsFieldThere f (row_meaning r)))) c.in-Known.ensures.reads.keeps.frame c.field_among.ensures.typed;
    }
