use Rattle.std.proofs.lemmas.Result.{err_from_is_err_and}
use Rattle.def_import.proofs.Naming.{either_too_many}
use Rattle.def_import.proofs.reading.name_modules.Goals as goal

pub returns-in_err-name_own-clause-too_many : goal.returns-in_err-name_own-clause-too_many
returns-in_err-name_own-clause-too_many c =
    let p = err_from_is_err_and c.from_residual.result c.from_residual.ensures.1 in
    rw (p.1, p.2) (λ h. either_too_many 257 c.args.modules.now.keys c.args.found.now.front (c.in_err-name_own.ensures.too_many h))
