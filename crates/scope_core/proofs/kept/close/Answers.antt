use Rattle.std.proofs.Common.{sym, ap, ◌∙◌}
use Rattle.scope_core.specs.Kept.{marked}
use Rattle.scope_core.proofs.KeptTables.{at_kept, set_kept, rooms_same}
use Rattle.scope_core.proofs.kept.close.Goals as goal

pub returns-clause-tables : goal.returns-clause-tables
returns-clause-tables c =
    set_kept c.args.kept.now c.args.scope _ _ (c.close.ensures.table ∙ ap marked (sym (at_kept c.args.kept.now c.args.scope c.index-kept-scope.result c.requires)))

pub returns-clause-rooms : goal.returns-clause-rooms
returns-clause-rooms c = rooms_same c.args.kept.now c.args.scope _ c.index-kept-scope.result c.requires (sym c.close.ensures.room)
