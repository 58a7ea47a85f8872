use Rattle.std.proofs.Common.{map, drop}
use Rattle.m2_base.specs.Statics.Items.{decl_item}
use Rattle.m2_base.specs.Views.{decl_view}
use Rattle.decl_sem.proofs.ManyItems.{IsOnTheWay}
use Rattle.decl_sem.proofs.layouts.Progress.add_declarations.Given as goal

abbrev pub invariant-loop-declaration : goal.invariant-loop-declaration
invariant-loop-declaration l = IsOnTheWay l.fn.self l.self (map decl_item (map decl_view l.declarations)) (map decl_item (map decl_view (drop l.declaration-index l.declarations)))
