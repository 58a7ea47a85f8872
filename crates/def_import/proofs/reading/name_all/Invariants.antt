use Rattle.std.proofs.Common.{◌≡◌, ◌<◌, length, take}
use Rattle.def_import.specs.Closure.{names_of, with_modules}
use Rattle.def_import.proofs.reading.name_all.Given as goal

abbrev pub invariant-loop-one : goal.invariant-loop-one
invariant-loop-one l = record { named : l.modules.keys ≡ with_modules l.initial.modules.keys (names_of (take l.one-index l.named)); few : length l.modules.keys < 257 }
