use Rattle.std.proofs.lemmas.Result.{IfOk-from_err}
use Rattle.def_import.proofs.Noting.{missing_more}
use Rattle.def_import.proofs.wrongs.note_imports.Goals as goal

pub loop-import-preserved : goal.loop-import-preserved
loop-import-preserved c =
    missing_more c.args.progress.now c.args.text c.args.imports.now c.loop-import.import-index (record { name = 0; at = 0 }) c.args.wrongs.now.items c.loop-import.wrongs.items c.note_missing.new.wrongs.items
    c.loop-import-test.true c.loop-import.invariant c.in_ok-note_missing.ensures

pub returns-in_err-note_missing : goal.returns-in_err-note_missing
returns-in_err-note_missing c = IfOk-from_err c.from_residual.result _ c.from_residual.ensures.0
