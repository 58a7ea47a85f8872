use Rattle.std.proofs.Common.{◌≡◌, ◌++◌, map, take}
use Rattle.m2_base.specs.Statics.Shapes.{named}
use Rattle.decl_sem.proofs.shapes.put_names.Given as goal

abbrev pub invariant-loop-name : goal.invariant-loop-name
invariant-loop-name l = l.shapes ≡ l.fn.shapes ++ map (named l.kind) (take l.name-index l.names)
