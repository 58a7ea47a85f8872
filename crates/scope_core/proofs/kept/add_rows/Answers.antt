use Rattle.std.proofs.lemmas.Result.{on_ok_weaker, on_err_weaker}
use Rattle.scope_core.proofs.KeptTables.{add_kept, rooms_grow, set_kept_same}
use Rattle.scope_core.proofs.kept.add_rows.Goals as goal

pub returns-clause-ok : goal.returns-clause-ok
returns-clause-ok c =
    on_ok_weaker c.add.result (add_kept c.args.kept.now c.args.scope c.add.new.self c.index-kept-scope.result c.args.rows.now c.requires.inside) c.add.ensures.ok

pub returns-clause-err : goal.returns-clause-err
returns-clause-err c =
    on_err_weaker c.add.result (set_kept_same c.args.kept.now c.args.scope c.add.new.self c.index-kept-scope.result c.requires.inside) c.add.ensures.err

pub returns-clause-rooms : goal.returns-clause-rooms
returns-clause-rooms c = rooms_grow c.args.kept.now c.args.scope _ c.index-kept-scope.result c.requires.inside c.add.ensures.room
