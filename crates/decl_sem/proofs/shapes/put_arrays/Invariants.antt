use Rattle.std.proofs.Common.{◌≡◌, ◌++◌, take}
use Rattle.decl_sem.specs.Shapes.{arrays_of}
use Rattle.decl_sem.proofs.shapes.put_arrays.Given as goal

abbrev pub invariant-loop-inner : goal.invariant-loop-inner
invariant-loop-inner l = l.shapes ≡ l.fn.shapes ++ arrays_of l.at (take l._inner-index l.index)
