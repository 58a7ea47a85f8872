use Rattle.std.proofs.Common.{◌≡◌, take}
use Rattle.def_import.specs.Closure.{names_of}
use Rattle.def_import.specs.Dependencies.{texts_of_modules}
use Rattle.def_import.proofs.dependencies.needs_of.Given as goal

abbrev pub invariant-loop-import : goal.invariant-loop-import
invariant-loop-import l = l.needs.items ≡ texts_of_modules l.progress (names_of (take l.import-index l.found.front.imports))
