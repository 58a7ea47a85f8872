use Rattle.std.proofs.Common.{◌≡◌, ◌++◌, map, drop}
use Rattle.m2_base.specs.Statics.Items.{decl_item}
use Rattle.m2_base.specs.Views.{decl_view}
use Rattle.decl_sem.specs.Items.{item_view}
use Rattle.task_state.proofs.items.add_declarations.Given as goal

-- the items so far with those that are left are all
abbrev pub invariant-loop-declaration : goal.invariant-loop-declaration
invariant-loop-declaration l = map item_view l.items.items ++ map decl_item (map decl_view (drop l.declaration-index l.declarations)) ≡ map item_view l.fn.items.items ++ map decl_item (map decl_view l.declarations)
