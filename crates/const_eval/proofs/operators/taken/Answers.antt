use Rattle.std.proofs.Common.{◌∙◌, ap, sym}
use Rattle.m2_base.specs.Statics.Operations.{base_type}
use Rattle.const_eval.proofs.Besides.{char_taken, taken_by}
use Rattle.const_eval.proofs.Standard.{char_base}
use Rattle.const_eval.proofs.operators.taken.Goals as goal

pub returns-then-is_beside_char-clause-based : goal.returns-then-is_beside_char-clause-based
returns-then-is_beside_char-clause-based c k names there left right =
    let beside = sym c.if-is_beside_char.true ∙ c.is_beside_char.ensures k right in
    char_taken k c.args.x.operand c.args.y.now (char_base k there) beside
    ∙ ap (base_type k) (sym (c.as_char.ensures.told k.source names ∙ taken_by k.source k.scene c.args.x.operand c.args.y.now _ beside))

pub is_beside_char-requires : goal.is_beside_char-requires
is_beside_char-requires c = tt
