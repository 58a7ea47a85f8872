use Rattle.std.specs.Prelude.{◌<◌, length}
use Rattle.std.proofs.Common.{subst}
use Rattle.m2_base.specs.Units.{UnitTexts}
use Rattle.decl_sem.proofs.OneRows.{room_for_row}
use Rattle.decl_sem.proofs.putting.name_row.Goals as goal

pub put_named-requires-clause-room : goal.put_named-requires-clause-room
put_named-requires-clause-room g c = room_for_row c.requires.making

pub returns : goal.returns
returns g c =
    c.put_named.ensures.piece (g.S.Scopes.state c.args._scopes.now) c.requires.making c.requires.read.some
    (subst (λ (u : UnitTexts). c.args.ident.name < length u.names) c.requires.making.suits.texts c.requires.read.known) c.requires.meaning
