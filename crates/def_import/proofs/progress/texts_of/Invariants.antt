use Rattle.std.proofs.Common.{◌≡◌, map}
use Rattle.def_import.proofs.progress.texts_of.Given as goal

abbrev pub invariant-loop-one : goal.invariant-loop-one
invariant-loop-one l = l.texts.items ≡ map (λ f. f.text) l.yielded
