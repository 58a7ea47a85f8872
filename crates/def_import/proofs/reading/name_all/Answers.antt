use Rattle.std.proofs.lemmas.Result.{err_from_is_err_and}
use Rattle.def_import.proofs.Naming.{too_many}
use Rattle.def_import.proofs.reading.name_all.Goals as goal

pub returns-in_err-name_module-clause-too_many : goal.returns-in_err-name_module-clause-too_many
returns-in_err-name_module-clause-too_many c =
    let p = err_from_is_err_and c.from_residual.result c.from_residual.ensures.1 in
    rw (p.1, p.2) (λ h. too_many 257 c.args.modules.now.keys c.args.named.now c.loop-one.modules.keys c.loop-one.one-index (record { name = 0; at = 0 }) c.loop-one-test.true c.loop-one.invariant.named (c.in_err-name_module.ensures.too_many h))
