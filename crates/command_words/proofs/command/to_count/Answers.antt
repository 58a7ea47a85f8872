use Rattle.std.proofs.Common.{◌≡◌, Some, refl, rules}
use Rattle.std.specs.Prelude.{codes}
use Rattle.command_words.specs.Operands.{procedures_in}
use Rattle.command_words.specs.Words.{given_of}
use Rattle.command_words.proofs.Making.{makes_big}
use Rattle.command_words.proofs.command.to_count.Goals as goal

pub returns : goal.returns
returns c =
    let named : (given_of c.args.given).operand ≡ Some c.in_ok-operand.operand.now = search rules in
    let counted : procedures_in c.in_ok-operand.operand.now ≡ Some c.in_ok-procedures.procedures = search rules in
    makes_big (codes "big") (given_of c.args.given) c.in_ok-operand.operand.now named c.in_ok-procedures.procedures c.unwrap_or-workers.result counted refl (search rules) (search rules) c.unwrap_or-workers.ensures
