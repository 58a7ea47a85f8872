use Rattle.std.proofs.Common.{◌∙◌, sym}
use Rattle.program_load.proofs.NamedOnce.{known_so}
use Rattle.program_load.proofs.naming.name_module.Goals as goal

pub returns-clause-known : goal.returns-clause-known
returns-clause-known c =
    known_so c.args.known.now c.insert.new.self c.args.names.now.items c.push.new.self.items c.in_ok-text.text c.in_ok-text-2.text c.requires c.in_ok-insert.ensures.updates
    (c.in_ok-text.ensures.ok ∙ sym c.in_ok-text-2.ensures.ok) c.in_ok-push.ensures.items
