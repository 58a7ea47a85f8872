use Rattle.std.proofs.Common.{sym, ◌<◌, ◌^◌, Fits, w32, rules}
use Rattle.type_rules.proofs.Searches.{can_search, found_in, absent_in, never_own, waits_at, Reads-searched, found_row, stops_search}
use Rattle.type_rules.proofs.finding.entry_of_module.Goals as goal

pub search-requires : goal.search-requires
search-requires g c =
    can_search _ c.args.around.now _ _ c.requires.suits c.requires.suits.home c.requires.named

pub returns-in-Found : goal.returns-in-Found
returns-in-Found g c =
    record {
      reads = Reads-searched c.search.ensures;
      waits = tt;
      told = λ made in_hand told. sym (found_in _ _ _ _ _ made c.requires.suits in_hand told _ _ _ c.requires.suits.home c.in-Found.ensures);
      row = (let s : Fits w32 c.in-Found.place.scope = search rules in
          let o : Fits w32 c.in-Found.place.ordinal = search rules in
          let small : (c.in-Found.place.scope < 2 ^ 32) × (c.in-Found.place.ordinal < 2 ^ 32) = (s.fits, o.fits) in
          found_row _ _ _ _ _ _ _ _ c.requires.suits (c.requires.suits.home, tt) small.0 small.1 c.in-Found.ensures);
      stops = tt;
    }

pub returns-in-Absent : goal.returns-in-Absent
returns-in-Absent g c =
    record {
      reads = Reads-searched c.search.ensures;
      waits = tt;
      told = λ made in_hand told. sym (absent_in _ _ _ _ _ made c.requires.suits in_hand told _ c.requires.suits.home c.in-Absent.ensures);
      row = tt;
      stops = tt;
    }

pub returns-in-DontKnowYet : goal.returns-in-DontKnowYet
returns-in-DontKnowYet g c =
    record {
      reads = Reads-searched c.search.ensures;
      waits = waits_at _ _ _ _ _ _ (c.requires.suits.home, tt) (never_own c.requires.complete c.in-DontKnowYet.ensures) c.in-DontKnowYet.ensures;
      told = λ made in_hand told. tt;
      row = tt;
      stops = stops_search _ _ _ _ _ c.in-DontKnowYet.ensures;
    }
