use Rattle.def_import.proofs.ReadFiles.{read_of}
use Rattle.def_import.proofs.files.read_file.Goals as goal

pub returns-clause-found : goal.returns-clause-found
returns-clause-found g c = read_of (g.H.Shelf.holds c.args.shelf.now) c.args.file.now c.in_ok-found.found c.in_ok-found.ensures.found c.in_ok-found.ensures.most
