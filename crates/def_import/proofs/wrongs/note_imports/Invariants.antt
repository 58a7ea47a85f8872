use Rattle.std.proofs.Common.{◌≡◌, ◌++◌, take}
use Rattle.def_import.specs.Wrongs.{missing_imports}
use Rattle.def_import.proofs.wrongs.note_imports.Given as goal

abbrev pub invariant-loop-import : goal.invariant-loop-import
invariant-loop-import l = l.wrongs.items ≡ l.initial.wrongs.items ++ missing_imports l.progress l.text (take l.import-index l.imports)
