use Rattle.std.proofs.Common.{sym, ◌∙◌, ◌<◌, ◌^◌, Fits, w32, rules}
use Rattle.type_rules.proofs.Searches.{can_look, found_on, absent_on, unknown_on, waits_at, found_row, Looked-found, Looked-none, Looked-waits, last_look}
use Rattle.type_rules.proofs.looking.look_up.Goals as goal

pub search-requires : goal.search-requires
search-requires g c = can_look _ c.args.around.now c.args.name _ c.requires.suits c.requires.chain c.requires.named

pub returns-in-Found-clause-looked : goal.returns-in-Found-clause-looked
returns-in-Found-clause-looked g c = Looked-found _ _ _ _ _ _ _ c.in-Found.ensures

pub returns-in-Found-clause-told : goal.returns-in-Found-clause-told
returns-in-Found-clause-told g c made in_hand told lacks = sym (found_on _ _ _ _ _ _ made c.requires.suits c.requires.chain in_hand told _ _ c.in-Found.ensures)

pub returns-in-Found-clause-row : goal.returns-in-Found-clause-row
returns-in-Found-clause-row g c =
    let s : Fits w32 c.in-Found.place.scope = search rules in
    let o : Fits w32 c.in-Found.place.ordinal = search rules in
    let small : (c.in-Found.place.scope < 2 ^ 32) × (c.in-Found.place.ordinal < 2 ^ 32) = (s.fits, o.fits) in
    found_row _ _ _ _ _ _ _ _ c.requires.suits c.requires.chain.inner small.0 small.1 c.in-Found.ensures

pub returns-in-Absent-clause-looked : goal.returns-in-Absent-clause-looked
returns-in-Absent-clause-looked g c = Looked-none _ _ _ _ _ _ c.in-Absent.ensures

pub returns-in-Absent-clause-told : goal.returns-in-Absent-clause-told
returns-in-Absent-clause-told g c made in_hand told lacks = sym (absent_on _ _ _ _ _ _ made c.requires.suits c.requires.chain in_hand told c.in-Absent.ensures)

pub returns-in-DontKnowYet-clause-looked : goal.returns-in-DontKnowYet-clause-looked
returns-in-DontKnowYet-clause-looked g c = Looked-none _ _ _ _ _ _ c.in-DontKnowYet.ensures

pub returns-in-DontKnowYet-clause-told : goal.returns-in-DontKnowYet-clause-told
returns-in-DontKnowYet-clause-told g c made in_hand told lacks =
    sym (unknown_on _ _ _ _ _ _ made c.requires.suits c.requires.chain in_hand told _ c.in-DontKnowYet.ensures (c.if-head-around.true ∙ c.requires.suits.fills) lacks)

pub returns-in-DontKnowYet-2-clause-looked : goal.returns-in-DontKnowYet-2-clause-looked
returns-in-DontKnowYet-2-clause-looked g c = Looked-waits _ _ _ _ _ _ c.in-DontKnowYet.ensures

pub returns-in-DontKnowYet-2-clause-waits : goal.returns-in-DontKnowYet-2-clause-waits
returns-in-DontKnowYet-2-clause-waits g c =
    waits_at _ _ _ _ _ _ c.requires.chain.inner (λ e. c.if-head-around.false (e ∙ sym c.requires.suits.fills)) c.in-DontKnowYet.ensures

pub returns-in-DontKnowYet-2-clause-asked : goal.returns-in-DontKnowYet-2-clause-asked
returns-in-DontKnowYet-2-clause-asked g c = last_look _ _ _ _ _ _ c.in-DontKnowYet.ensures
