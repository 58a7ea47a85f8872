use Rattle.std.proofs.Common.{◌∷◌, []}
use Rattle.block_code.specs.Parts.{plain}
use Rattle.expr_sem.proofs.Sequencing.{then_rest}
use Rattle.expr_sem.proofs.chains.pair.Goals as goal

pub instr_behind-requires : goal.instr_behind-requires
instr_behind-requires c = c.in_ok-first.ensures.made.made.there

pub returns : goal.returns
returns c = then_rest c.instr_behind.result (plain (c.args.second ∷ [])) c.in_ok-first.ensures.made c.instr_behind.ensures
