use Rattle.std.proofs.Common.{◌≡◌, ◌++◌, map, take}
use Rattle.m2_base.specs.Statics.Shapes.{nameless}
use Rattle.decl_sem.proofs.shapes.put_for_names.Given as goal

abbrev pub invariant-loop-name : goal.invariant-loop-name
invariant-loop-name l = l.shapes ≡ l.fn.shapes ++ map (λ i. nameless l.kind i.at) (take l.name-index l.names)
