use Rattle.std.proofs.Common.{sym}
use Rattle.decl_sem.proofs.FoundConstants.{found_added, found_hidden}
use Rattle.decl_sem.proofs.brought.take_member.Goals as goal

pub returns-in_default-clause-found : goal.returns-in_default-clause-found
returns-in_default-clause-found g c all rest found =
    found_added c.requires.making c.args.member c.requires.member all rest c.args.found.now found (sym c.in_default.ensures) c.add.new.self
    c.in-Ok.ensures.given c.in-Ok.ensures.items c.in-Ok.ensures.names c.in-Ok.ensures.hidden

pub returns-clause-found : goal.returns-clause-found
returns-clause-found g c all rest found =
    found_hidden c.requires.making c.args.member c.requires.member all rest c.args.found.now found c.hide.new.self c.in-Some.ordinal c.in-Known.value c.differ.result
    (sym c.in-Some.ensures) c.in-Known.ensures.told c.differ.ensures c.hide.ensures.members c.hide.ensures.names c.hide.ensures.hidden
