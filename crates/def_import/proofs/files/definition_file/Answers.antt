use Rattle.def_import.proofs.FileNames.{identifier_text}
use Rattle.def_import.proofs.files.definition_file.Goals as goal

pub unreachable-requires : goal.unreachable-requires
unreachable-requires c = c.in-Err.ensures.cases.0 (identifier_text c.args.name.now c.requires)
