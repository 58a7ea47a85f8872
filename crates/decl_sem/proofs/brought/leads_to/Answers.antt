use Rattle.std.proofs.Common.{◌∙◌, ap, sym}
use Rattle.m2_base.specs.Rows.{at_place}
use Rattle.m2_base.specs.Statics.Lookup.{entry_at, Entry}
use Rattle.m2_base.specs.Statics.Uses.{followed_by}
use Rattle.m2_base.specs.declared.rows.RowMeaning.{RowMeaning}
use Rattle.type_rules.specs.Scenes.{scene_of}
use Rattle.decl_sem.proofs.OtherMeanings.{no_alias}
use Rattle.decl_sem.proofs.brought.leads_to.Goals as goal

pub meaning_in-requires-clause-making : goal.meaning_in-requires-clause-making
meaning_in-requires-clause-making g c = c.requires.making

pub returns-in-DontKnowYet : goal.returns-in-DontKnowYet
returns-in-DontKnowYet g c = record { reads = c.in-DontKnowYet.ensures.reads; waits = c.in-DontKnowYet.ensures.waits; told = λ _ _ _ _. tt }

pub returns-in-Alias : goal.returns-in-Alias
returns-in-Alias g c =
    record {
      reads = c.in-Known.ensures.reads;
      waits = tt;
      told = λ made in_hand told same.
          let scene = scene_of (g.S.Scopes.state c.args.scopes.now).frame made c.args.site.now.around.now in
          let e = entry_at scene (at_place c.args.site.now.around.now.scope c.args.ordinal) in
          sym (ap (λ (m : RowMeaning). (followed_by scene e m).0) (sym (c.in-Known.ensures.told made in_hand told same) ∙ c.in-Alias.is));
    }

pub returns-in_default : goal.returns-in_default
returns-in_default g c =
    record {
      reads = c.in-Known.ensures.reads;
      waits = tt;
      told = λ made in_hand told same.
          let scene = scene_of (g.S.Scopes.state c.args.scopes.now).frame made c.args.site.now.around.now in
          let e = entry_at scene (at_place c.args.site.now.around.now.scope c.args.ordinal) in
          ap (λ (x : Entry). x.0) (no_alias scene e c.in-Known.value c.in_default.not-Alias)
          ∙ ap (λ (m : RowMeaning). (followed_by scene e m).0) (c.in-Known.ensures.told made in_hand told same);
    }
