use Rattle.std.proofs.Common.{◌∙◌, sym}
use Rattle.decl_sem.proofs.Held.{held_row, held_said, meaning_is, unheld_there}
use Rattle.decl_sem.proofs.standing.meaning_in.Goals as goal

pub held_meaning-requires-clause-first : goal.held_meaning-requires-clause-first
held_meaning-requires-clause-first g c = (held_row c.requires.making c.requires.there (sym c.is_held.ensures ∙ c.if-is_held.true)).0

pub held_meaning-requires-clause-within : goal.held_meaning-requires-clause-within
held_meaning-requires-clause-within g c = (held_row c.requires.making c.requires.there (sym c.is_held.ensures ∙ c.if-is_held.true)).1

pub held_meaning-requires-clause-small : goal.held_meaning-requires-clause-small
held_meaning-requires-clause-small g c = (held_said c.requires.making c.requires.there (sym c.is_held.ensures ∙ c.if-is_held.true)).small

pub meaning_at-requires-clause-there : goal.meaning_at-requires-clause-there
meaning_at-requires-clause-there g c = unheld_there c.requires.making c.requires.there (sym c.is_held.ensures ∙ c.if-is_held.false)

pub returns-then-is_held-clause-told : goal.returns-then-is_held-clause-told
returns-then-is_held-clause-told g c hand in_hand told same =
    c.held_meaning.ensures ∙ sym (meaning_is c.requires.making c.requires.there (sym c.is_held.ensures ∙ c.if-is_held.true) hand same told)

pub returns-clause-told : goal.returns-clause-told
returns-clause-told g c hand in_hand told same = c.meaning_at.ensures.told hand in_hand told
