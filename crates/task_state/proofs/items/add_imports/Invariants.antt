use Rattle.std.proofs.Common.{◌≡◌, ◌++◌, map, drop}
use Rattle.std.specs.Prelude.{flat_map}
use Rattle.m2_base.specs.Statics.Items.{import_items}
use Rattle.m2_base.specs.Views.{import_view}
use Rattle.decl_sem.specs.Items.{item_view}
use Rattle.task_state.proofs.items.add_imports.Given as goal

-- the items so far with those that are left are all
abbrev pub invariant-loop-import : goal.invariant-loop-import
invariant-loop-import l = map item_view l.items.items ++ flat_map import_items (map import_view (drop l.import-index l.imports)) ≡ map item_view l.fn.items.items ++ flat_map import_items (map import_view l.imports)
