use Rattle.decl_sem.proofs.OneRows.{room_for_row}
use Rattle.decl_sem.proofs.putting.plain_row.Goals as goal

pub put_plain-requires-clause-room : goal.put_plain-requires-clause-room
put_plain-requires-clause-room g c = room_for_row c.requires.making

pub returns : goal.returns
returns g c = c.put_plain.ensures.piece (g.S.Scopes.state c.args._scopes.now) c.requires.making c.requires.meaning
