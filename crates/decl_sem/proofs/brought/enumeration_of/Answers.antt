use Rattle.std.specs.Prelude.{length}
use Rattle.std.proofs.Common.{arith, ◌∙◌, ap, sym}
use Rattle.m2_base.specs.Statics.ImportedConstants.{members_by, members_of}
use Rattle.type_rules.specs.Scenes.{scene_of}
use Rattle.type_rules.proofs.Reading.{Reads-refl}
use Rattle.decl_sem.specs.FoundConstants.{members_of_named}
use Rattle.decl_sem.proofs.OtherMeanings.{no_constants}
use Rattle.decl_sem.proofs.brought.enumeration_of.Goals as goal

pub meaning_at-requires-clause-there : goal.meaning_at-requires-clause-there
meaning_at-requires-clause-there g c =
    let f = (g.S.Scopes.state c.args.scopes.now).frame in
    let row = rw c.in-Some.is at c.requires.row in
    c.in-Some-named_type.ensures.there f c.args.site.now.around.now (length f.setting.texts.names) c.requires.suits.around row.there row.said.fits

pub named_type-requires : goal.named_type-requires
named_type-requires g c = record { small = (rw c.in-Some.is at c.requires.row).said.small }

pub meaning_at-requires-clause-suits : goal.meaning_at-requires-clause-suits
meaning_at-requires-clause-suits g c = c.requires.suits.around

pub returns-in_default : goal.returns-in_default
returns-in_default g c =
    record {
      reads = Reads-refl _;
      waits = tt;
      before = tt;
      told = λ made in_hand told.
          let scene = scene_of (g.S.Scopes.state c.args.scopes.now).frame made c.args.site.now.around.now in
          ap (members_of scene) c.in_default.is;
    }

pub returns-in_default-named_type : goal.returns-in_default-named_type
returns-in_default-named_type g c =
    record {
      reads = Reads-refl _;
      waits = tt;
      before = tt;
      told = λ made in_hand told.
          let scene = scene_of (g.S.Scopes.state c.args.scopes.now).frame made c.args.site.now.around.now in
          ap (members_of scene) c.in-Some.is ∙ c.named_type.ensures.told scene ∙ ap (members_of_named scene) c.in_default-named_type.is;
    }

pub returns-in-DontKnowYet : goal.returns-in-DontKnowYet
returns-in-DontKnowYet g c = record { reads = c.in-DontKnowYet.ensures.reads; waits = c.in-DontKnowYet.ensures.waits; before = tt; told = λ _ _ _. tt }

pub returns-in-Enum : goal.returns-in-Enum
returns-in-Enum g c =
    let f = (g.S.Scopes.state c.args.scopes.now).frame in
    let row = rw c.in-Some.is at c.requires.row in
    let below = rw c.in-Some.is at c.requires.before in
    let upto = c.in-Some-named_type.ensures.upto (length f.setting.texts.names) row.said.fits in
    record {
      reads = c.in-Known.ensures.reads;
      waits = tt;
      before = omega (arith, below, upto);
      told = λ made in_hand told.
          let scene = scene_of f made c.args.site.now.around.now in
          ap (members_of scene) c.in-Some.is ∙ c.in-Some-named_type.ensures.told scene
          ∙ ap (members_by scene.tables c.in-Some-named_type.of) (sym (c.in-Known.ensures.told made in_hand told) ∙ c.in-Enum.is);
    }

pub returns-in_default-2 : goal.returns-in_default-2
returns-in_default-2 g c =
    record {
      reads = c.in-Known.ensures.reads;
      waits = tt;
      before = tt;
      told = λ made in_hand told.
          let scene = scene_of (g.S.Scopes.state c.args.scopes.now).frame made c.args.site.now.around.now in
          let of = c.in-Some-named_type.of in
          ap (members_of scene) c.in-Some.is ∙ c.in-Some-named_type.ensures.told scene
          ∙ ap (members_by scene.tables of) (sym (c.in-Known.ensures.told made in_hand told))
          ∙ no_constants scene.tables of c.in-Known.value c.in_default-2.not-Enum;
    }
