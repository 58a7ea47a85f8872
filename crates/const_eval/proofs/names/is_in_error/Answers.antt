use Rattle.std.proofs.Common.{◌≡◌, ◌∙◌, Bool, false, ap, refl, subst, sym}
use Rattle.std.specs.Prelude.{◌||◌}
use Rattle.m2_base.specs.States.{Frame}
use Rattle.m2_base.specs.Statics.NamedOperands.{is_open_of_broken}
use Rattle.m2_base.specs.Statics.Contexts.{Scene}
use Rattle.m2_base.specs.Statics.Types.{is_broken, kind_of}
use Rattle.m2_base.specs.declared.rows.Place.{Place}
use Rattle.m2_base.specs.declared.rows.RowMeaning.{RowMeaning}
use Rattle.m2_base.specs.declared.rows.RowMeaning.TheVariants.{OpenArray}
use Rattle.type_rules.specs.Asks.{WhereKnown}
use Rattle.type_rules.specs.Scenes.{Hand, scene_of}
use Rattle.type_rules.proofs.Compatibles.{told_later}
use Rattle.type_rules.proofs.Later.{IsThere_read, Suits_read, Waits_asked}
use Rattle.type_rules.proofs.Reading.{Reads-trans, Waits_read}
use Rattle.const_eval.proofs.Judging.{told_first}
use Rattle.const_eval.proofs.names.is_in_error.Goals as goal

not_open : (scene : Scene) (m : RowMeaning) → ((element : Place) → m ≡ OpenArray element → ⊥) → false ≡ is_open_of_broken scene m
not_open scene (OpenArray element) other = absurd (other element refl)
not_open scene m other = refl

pub stand-requires-clause-suits : goal.stand-requires-clause-suits
stand-requires-clause-suits g c = Suits_read c.in-Known.ensures.reads c.requires.suits

pub stand-requires-clause-there : goal.stand-requires-clause-there
stand-requires-clause-there g c = IsThere_read c.in-Known.ensures.reads c.requires.there

pub returns-in-OpenArray-clause-reads : goal.returns-in-OpenArray-clause-reads
returns-in-OpenArray-clause-reads g c = Reads-trans (Reads-trans c.in-Known.ensures.reads c.in-Known-stand.ensures.reads) c.is_broken-in-OpenArray.ensures.reads

pub returns-in-OpenArray-clause-waits : goal.returns-in-OpenArray-clause-waits
returns-in-OpenArray-clause-waits g c =
    Waits_asked c.is_broken-in-OpenArray.result (g.S.Scopes.state c.is_broken-in-OpenArray.new.scopes) (Reads-trans c.in-Known.ensures.reads c.in-Known-stand.ensures.reads) c.is_broken-in-OpenArray.ensures.waits

pub returns-in-OpenArray-clause-told : goal.returns-in-OpenArray-clause-told
returns-in-OpenArray-clause-told g c made in_hand told =
    let f = (g.S.Scopes.state c.args.scopes.now).frame in
    let around = c.args.around.now in
    let scene = scene_of f made around in
    let both = Reads-trans c.in-Known.ensures.reads c.in-Known-stand.ensures.reads in
    let kind = told_first _ f _ (λ h rows. kind_of (scene_of h rows around) c.args.of) c.in-Known.ensures.reads.keeps.frame c.in-Known-stand.ensures.kind made in_hand told in
    subst (λ (b : Bool). WhereKnown c.is_broken-in-OpenArray.result (λ holds. holds ≡ b))
    (ap (is_open_of_broken scene) (sym c.in-OpenArray.is ∙ kind)
    ∙ ap (λ b. b || is_open_of_broken scene (kind_of scene c.args.of)) (sym c.if-value.false ∙ c.in-Known.ensures.told made in_hand told))
    (told_later f _ (λ (h : Frame) (rows : Hand). WhereKnown c.is_broken-in-OpenArray.result (λ holds. holds ≡ is_broken (scene_of h rows around) c.in-OpenArray.element)) both.keeps.frame c.is_broken-in-OpenArray.ensures.told made in_hand told)

pub is_broken-requires : goal.is_broken-requires
is_broken-requires g c = record { suits = c.requires.suits; there = c.requires.there }

pub returns-in-DontKnowYet : goal.returns-in-DontKnowYet
returns-in-DontKnowYet g c =
    record {
      reads = c.in-DontKnowYet.ensures.reads;
      waits = c.in-DontKnowYet.ensures.waits;
      told = λ made in_hand told. tt;
    }

pub returns-in-DontKnowYet-stand : goal.returns-in-DontKnowYet-stand
returns-in-DontKnowYet-stand g c =
    record {
      reads = Reads-trans c.in-Known.ensures.reads c.in-DontKnowYet-stand.ensures.reads;
      waits = Waits_read c.in-Known.ensures.reads c.in-DontKnowYet-stand.ensures.waits;
      told = λ made in_hand told. tt;
    }

pub is_broken-requires-in-OpenArray-clause-suits : goal.is_broken-requires-in-OpenArray-clause-suits
is_broken-requires-in-OpenArray-clause-suits g c = Suits_read (Reads-trans c.in-Known.ensures.reads c.in-Known-stand.ensures.reads) c.requires.suits

pub returns-then-value : goal.returns-then-value
returns-then-value g c =
    record {
      reads = c.in-Known.ensures.reads;
      waits = tt;
      told = λ made in_hand told. (let scene = scene_of (g.S.Scopes.state c.args.scopes.now).frame made c.args.around.now in
          ap (λ b. b || is_open_of_broken scene (kind_of scene c.args.of)) (sym c.if-value.true ∙ c.in-Known.ensures.told made in_hand told));
    }

pub returns-in_default : goal.returns-in_default
returns-in_default g c =
    record {
      reads = Reads-trans c.in-Known.ensures.reads c.in-Known-stand.ensures.reads;
      waits = tt;
      told = λ made in_hand told. (let f = (g.S.Scopes.state c.args.scopes.now).frame in
          let around = c.args.around.now in
          let scene = scene_of f made around in
          let kind = told_first _ f _ (λ h rows. kind_of (scene_of h rows around) c.args.of) c.in-Known.ensures.reads.keeps.frame c.in-Known-stand.ensures.kind made in_hand told in
          not_open scene _ c.in_default.not-OpenArray
          ∙ ap (is_open_of_broken scene) kind
          ∙ ap (λ b. b || is_open_of_broken scene (kind_of scene c.args.of)) (sym c.if-value.false ∙ c.in-Known.ensures.told made in_hand told));
    }
