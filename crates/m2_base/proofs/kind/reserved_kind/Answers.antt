use Rattle.std.proofs.Common.{◌<◌, ◌∙◌, length, refl, rules}
use Rattle.m2_base.proofs.ReservedWords.{kind_in-span}
use Rattle.m2_base.proofs.kind.reserved_kind.Goals as goal

pub returns : goal.returns
returns c =
    let some : 0 < length c.args.word.now = search rules in
    c.kind_in.ensures ∙ kind_in-span _ c.args.word.now c.span_of-start.result.0 c.span_of-start.result.1 refl some c.span_of-start.ensures
