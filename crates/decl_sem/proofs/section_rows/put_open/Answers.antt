use Rattle.decl_sem.specs.Pieces.{IsBehind}
use Rattle.decl_sem.proofs.OneRows.{before_next, small_scope}
use Rattle.decl_sem.proofs.Pieces.{value_alone}
use Rattle.decl_sem.proofs.section_rows.put_open.Goals as goal

pub plain_row-requires-clause-making : goal.plain_row-requires-clause-making
plain_row-requires-clause-making g c = rw c.if-is_open.true at c.requires.making

pub plain_row-requires-clause-meaning : goal.plain_row-requires-clause-meaning
plain_row-requires-clause-meaning g c = record { small = c.requires.of.small; scopes = small_scope c.requires.making c.requires.of; fits = before_next c.requires.of; filled = tt; owned = tt }

pub returns-then-is_open : goal.returns-then-is_open
returns-then-is_open g c = rw c.if-is_open.true c.plain_row.ensures

pub returns-else-is_open : goal.returns-else-is_open
returns-else-is_open g c = rw c.if-is_open.false (value_alone (g.S.Scopes.state c.args.scopes.now) c.args.made.now c.args.site.now c.args.of IsBehind c.requires.of)
