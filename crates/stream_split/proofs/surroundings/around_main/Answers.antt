use Rattle.std.proofs.lemmas.Result.{IfOk-from_err}
use Rattle.stream_split.proofs.surroundings.around_main.Goals as goal

pub returns-in_err-own : goal.returns-in_err-own
returns-in_err-own c = IfOk-from_err c.from_residual.result _ c.from_residual.ensures.0

pub returns-in_err-chain : goal.returns-in_err-chain
returns-in_err-chain c = IfOk-from_err c.from_residual-in_err-chain.result _ c.from_residual-in_err-chain.ensures.0

pub returns-in_err-scopes : goal.returns-in_err-scopes
returns-in_err-scopes c = IfOk-from_err c.from_residual-in_err-scopes.result _ c.from_residual-in_err-scopes.ensures.0

pub returns-in_default : goal.returns-in_default
returns-in_default c = tt
