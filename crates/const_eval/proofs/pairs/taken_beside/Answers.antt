use Rattle.std.proofs.Common.{◌∙◌, sym}
use Rattle.const_eval.proofs.Besides.{taken_by}
use Rattle.const_eval.proofs.pairs.taken_beside.Goals as goal

pub returns-then-is_beside_char-clause-told : goal.returns-then-is_beside_char-clause-told
returns-then-is_beside_char-clause-told c k names e =
    c.as_char.ensures.told k.source names ∙ taken_by k.source k.scene c.args.x c.args.y.now _ (sym c.if-is_beside_char.true ∙ c.is_beside_char.ensures k e)

pub returns-else-is_beside_char-clause-told : goal.returns-else-is_beside_char-clause-told
returns-else-is_beside_char-clause-told c k names e = taken_by k.source k.scene c.args.x c.args.y.now _ (sym c.if-is_beside_char.false ∙ c.is_beside_char.ensures k e)
