use Rattle.std.proofs.Common.{map, drop}
use Rattle.std.specs.Prelude.{flat_map}
use Rattle.m2_base.specs.Statics.Items.{import_items}
use Rattle.m2_base.specs.Views.{import_view}
use Rattle.decl_sem.proofs.ManyItems.{IsOnTheWay}
use Rattle.decl_sem.proofs.layouts.Progress.add_imports.Given as goal

abbrev pub invariant-loop-import : goal.invariant-loop-import
invariant-loop-import l = IsOnTheWay l.fn.self l.self (flat_map import_items (map import_view l.imports)) (flat_map import_items (map import_view (drop l.import-index l.imports)))
