use Rattle.std.proofs.Common.{◌∙◌, arith}
use Rattle.module_outcome.proofs.Sizes.{code_held, code_within}
use Rattle.module_outcome.proofs.counting.sizes_of.Goals as goal

pub code_bytes-requires : goal.code_bytes-requires
code_bytes-requires c =
    let within = code_within c.args.object.now c.procedures.result.now c.in_ok-bytes.bytes.items c.procedures.ensures c.in_ok-bytes.ensures.bytes in
    omega (arith, within, c.len.ensures, c.in_ok-bytes.bytes.ok.0)

pub returns-clause-code : goal.returns-clause-code
returns-clause-code c = c.code_bytes.ensures ∙ code_held c.args.object.now c.procedures.result.now c.procedures.ensures
