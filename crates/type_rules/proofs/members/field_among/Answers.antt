use Rattle.std.proofs.Common.{◌≡◌, subst, arith}
use Rattle.std.specs.Prelude.{find}
use Rattle.std.specs.Option.{IfSome}
use Rattle.m2_base.specs.Finished.{IsFinished}
use Rattle.m2_base.specs.Scopes.{Selected}
use Rattle.m2_base.specs.States.{Frame}
use Rattle.m2_base.specs.Statics.TypeParts.{is_field, rows_between}
use Rattle.m2_base.specs.declared.replies.Ask.TheVariants.{Known}
use Rattle.m2_base.specs.Rows.{row_meaning}
use Rattle.type_rules.specs.Asks.{WhereKnown}
use Rattle.type_rules.specs.Scenes.{AreInHand, Hand, scene_of, IsHere}
use Rattle.type_rules.specs.Members.{IsFieldThere}
use Rattle.type_rules.proofs.Fields.{found_here, selected_none, selected_some}
use Rattle.type_rules.proofs.Reading.{Reads-kept, Reads-trans}
use Rattle.type_rules.proofs.Later.{Waits_asked}
use Rattle.type_rules.proofs.Outcomes.{Suits_kept}
use Rattle.type_rules.proofs.members.field_among.Goals as goal

pub returns : goal.returns
returns g c =
    let old = g.S.Scopes.state c.args.scopes.now in
    let new = g.S.Scopes.state c.select.new.self in
    let selected = subst (λ value. Selected old new c.args.of c.args.name (Known value)) c.in-Some.is c.in-Known.ensures in
    let here = found_here old new c.args.around.now c.args.of c.args.name _ c.requires.suits c.requires.there (omega arith) (omega arith) selected in
    record {
      reads = Reads-kept c.select.ensures.keeps;
      waits = tt;
      told = λ made in_hand told. selected_some old new c.args.around.now c.args.of c.args.name made c.requires.suits c.requires.there in_hand told c.args.first _ selected c.if-ordinal-first.false;
      here = here.0;
      typed = here.1;
    }

pub select-requires : goal.select-requires
select-requires g c =
    let there = c.requires.there.scope in
    let exist = c.requires.suits.exist in
    omega (arith, there, exist)

pub walk_to_field-requires-clause-suits : goal.walk_to_field-requires-clause-suits
walk_to_field-requires-clause-suits g c = Suits_kept c.select.ensures.keeps c.requires.suits

pub returns-then-ordinal-first : goal.returns-then-ordinal-first
returns-then-ordinal-first g c =
    record {
      reads = Reads-trans (Reads-kept c.select.ensures.keeps) c.walk_to_field.ensures.reads;
      waits = Waits_asked c.walk_to_field.result (g.S.Scopes.state c.walk_to_field.new.scopes) (Reads-kept c.select.ensures.keeps) c.walk_to_field.ensures.waits;
      told = subst
          (λ (f : Frame). (made : Hand) → AreInHand f made → IsFinished f.setting.texts made.finished
          → WhereKnown c.walk_to_field.result (λ row. row ≡ find (is_field c.args.of.ordinal c.args.name) (rows_between (scene_of f made c.args.around.now) c.args.of.scope c.args.first c.args.of.ordinal)))
          c.select.ensures.keeps.frame c.walk_to_field.ensures.told;
      here = subst (λ (f : Frame). WhereKnown c.walk_to_field.result (λ row. IfSome row (IsHere f))) c.select.ensures.keeps.frame c.walk_to_field.ensures.here;
      typed = subst (λ (f : Frame). WhereKnown c.walk_to_field.result (λ row. IfSome row (λ r. IsFieldThere f (row_meaning r)))) c.select.ensures.keeps.frame c.walk_to_field.ensures.typed;
    }

pub returns-in_default : goal.returns-in_default
returns-in_default g c =
    record {
      reads = Reads-kept c.select.ensures.keeps;
      waits = tt;
      told = λ made in_hand told. selected_none _ _ c.args.around.now c.args.of c.args.name made c.requires.suits c.requires.there in_hand told c.args.first
          (subst (λ value. Selected (g.S.Scopes.state c.args.scopes.now) (g.S.Scopes.state c.select.new.self) c.args.of c.args.name (Known value)) c.in_default.is c.in-Known.ensures);
      here = tt;
      typed = tt;
    }
