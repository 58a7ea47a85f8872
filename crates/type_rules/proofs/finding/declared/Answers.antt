use Rattle.std.proofs.Common.{ap, sym, ◌∙◌, ◌<◌, ◌^◌, Fits, w32, rules}
use Rattle.m2_base.specs.Statics.Types.{named_or}
use Rattle.type_rules.specs.Scenes.{scene_of}
use Rattle.type_rules.proofs.Searches.{can_search, found_in, absent_in, type_unknown, waits_at, Reads-searched, found_row, last_searched, stops_search}
use Rattle.type_rules.proofs.finding.declared.Goals as goal

pub search-requires : goal.search-requires
search-requires g c =
    can_search _ c.args.around.now _ _ c.requires.suits c.requires.suits.home c.requires.named

pub returns-in-Found : goal.returns-in-Found
returns-in-Found g c =
    record {
      reads = Reads-searched c.search.ensures;
      waits = tt;
      told = λ made in_hand told t. ap (named_or (scene_of (g.S.Scopes.state c.args.scopes.now).frame made c.args.around.now) t)
          (sym (found_in _ _ _ _ _ made c.requires.suits in_hand told _ _ _ c.requires.suits.home c.in-Found.ensures));
      row = (let s : Fits w32 c.in-Found.place.scope = search rules in
          let o : Fits w32 c.in-Found.place.ordinal = search rules in
          let small : (c.in-Found.place.scope < 2 ^ 32) × (c.in-Found.place.ordinal < 2 ^ 32) = (s.fits, o.fits) in
          found_row _ _ _ _ _ _ _ _ c.requires.suits (c.requires.suits.home, tt) small.0 small.1 c.in-Found.ensures);
      found = last_searched _ _ 0 c.args.name _ _ _ c.in-Found.ensures;
      stops = tt;
    }

pub returns-in-Absent : goal.returns-in-Absent
returns-in-Absent g c =
    record {
      reads = Reads-searched c.search.ensures;
      waits = tt;
      told = λ made in_hand told t. ap (named_or (scene_of (g.S.Scopes.state c.args.scopes.now).frame made c.args.around.now) t)
          (sym (absent_in _ _ _ _ _ made c.requires.suits in_hand told _ c.requires.suits.home c.in-Absent.ensures));
      row = tt;
      found = tt;
      stops = tt;
    }

pub returns-in-DontKnowYet : goal.returns-in-DontKnowYet
returns-in-DontKnowYet g c =
    record {
      reads = Reads-searched c.search.ensures;
      waits = tt;
      told = λ made in_hand told t. type_unknown _ _ _ _ _ _ made _ c.requires.suits in_hand c.in-DontKnowYet.ensures (c.if-head-around.true ∙ c.requires.suits.fills) told
          (scene_of (g.S.Scopes.state c.args.scopes.now).frame made c.args.around.now) t;
      row = tt;
      found = tt;
      stops = tt;
    }

pub returns-in-DontKnowYet-2 : goal.returns-in-DontKnowYet-2
returns-in-DontKnowYet-2 g c =
    record {
      reads = Reads-searched c.search.ensures;
      waits = waits_at _ _ _ _ _ _ (c.requires.suits.home, tt) (λ e. c.if-head-around.false (e ∙ sym c.requires.suits.fills)) c.in-DontKnowYet.ensures;
      told = λ made in_hand told. tt;
      row = tt;
      found = tt;
      stops = stops_search _ _ _ _ _ c.in-DontKnowYet.ensures;
    }
