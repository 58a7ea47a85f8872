use Rattle.std.proofs.Common.{map, drop}
use Rattle.m2_base.specs.Statics.Items.{import_item}
use Rattle.decl_sem.proofs.ManyItems.{IsOnTheWay}
use Rattle.decl_sem.proofs.layouts.Progress.add_names.Given as goal

abbrev pub invariant-loop-name : goal.invariant-loop-name
invariant-loop-name l = IsOnTheWay l.fn.self l.self (map (import_item l.from) l.names) (map (import_item l.from) (drop l.name-index l.names))
