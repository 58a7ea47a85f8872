use Rattle.std.proofs.Common.{◌≡◌, take}
use Rattle.def_import.specs.Wrongs.{wrongs_from}
use Rattle.def_import.proofs.wrongs.wrongs_of.Given as goal

abbrev pub invariant-loop-text : goal.invariant-loop-text
invariant-loop-text l = l.wrongs.items ≡ wrongs_from l.progress l.order 0 (take l.text l.progress.found)
