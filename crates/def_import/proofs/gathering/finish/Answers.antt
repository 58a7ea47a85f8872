use Rattle.std.proofs.lemmas.Result.{IfOk-from_err}
use Rattle.def_import.proofs.gathering.finish.Goals as goal

pub returns-in_err-order : goal.returns-in_err-order
returns-in_err-order c = record { unit = IfOk-from_err c.from_residual.result _ c.from_residual.ensures.0; wrongs = IfOk-from_err c.from_residual.result _ c.from_residual.ensures.0; told = IfOk-from_err c.from_residual.result _ c.from_residual.ensures.0 }

pub returns-in_err-wrongs : goal.returns-in_err-wrongs
returns-in_err-wrongs c = record { unit = IfOk-from_err c.from_residual-in_err-wrongs.result _ c.from_residual-in_err-wrongs.ensures.0; wrongs = IfOk-from_err c.from_residual-in_err-wrongs.result _ c.from_residual-in_err-wrongs.ensures.0; told = IfOk-from_err c.from_residual-in_err-wrongs.result _ c.from_residual-in_err-wrongs.ensures.0 }

pub returns-in_err-texts : goal.returns-in_err-texts
returns-in_err-texts c = record { unit = IfOk-from_err c.from_residual-in_err-texts.result _ c.from_residual-in_err-texts.ensures.0; wrongs = IfOk-from_err c.from_residual-in_err-texts.result _ c.from_residual-in_err-texts.ensures.0; told = IfOk-from_err c.from_residual-in_err-texts.result _ c.from_residual-in_err-texts.ensures.0 }
