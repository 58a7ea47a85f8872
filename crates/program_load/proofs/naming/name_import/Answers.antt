use Rattle.std.proofs.Common.{IsUtf8, subst, sym}
use Rattle.program_load.proofs.ImportNames.{identifier_text}
use Rattle.program_load.proofs.naming.name_import.Goals as goal

pub unreachable-requires : goal.unreachable-requires
unreachable-requires c = c.in-Err.ensures.cases.0 (subst IsUtf8 (sym c.deref.ensures.value) (identifier_text c.args.note.now.name.items c.requires.identifier))
