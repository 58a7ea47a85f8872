use Rattle.std.proofs.Common.{◌≡◌, ◌++◌, map, drop}
use Rattle.m2_base.specs.Statics.Items.{import_item}
use Rattle.decl_sem.specs.Items.{item_view}
use Rattle.task_state.proofs.items.add_names.Given as goal

-- the items so far with those that are left are all
abbrev pub invariant-loop-name : goal.invariant-loop-name
invariant-loop-name l = map item_view l.items.items ++ map (import_item l.from) (drop l.name-index l.names) ≡ map item_view l.fn.items.items ++ map (import_item l.from) l.names
