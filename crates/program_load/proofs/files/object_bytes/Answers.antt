use Rattle.std.proofs.Common.{◌∙◌}
use Rattle.program_load.proofs.Fronts.{read_of}
use Rattle.program_load.proofs.files.object_bytes.Goals as goal

pub returns-clause-found : goal.returns-clause-found
returns-clause-found g c =
    read_of (g.H.Shelf.holds c.args.shelf.now) c.args.name.now c.deref.result.now c.in_ok-found.found (c.deref.ensures ∙ c.in_ok-file.ensures) c.in_ok-found.ensures.found c.in_ok-found.ensures.most
