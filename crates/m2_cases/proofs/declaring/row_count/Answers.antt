use Rattle.std.proofs.Common.{◌∙◌, ap, sym}
use Rattle.m2_base.specs.Statics.Layouts.{Layout}
use Rattle.m2_cases.proofs.Declarations.{last_first}
use Rattle.m2_cases.proofs.declaring.row_count.Goals as goal

pub returns-in-Some-clause-count : goal.returns-in-Some-clause-count
returns-in-Some-clause-count c tree is =
    last_first tree c.firsts.result.now c.in-Some.count.now (c.firsts.ensures ∙ ap (λ (l : Layout). l.firsts) is) (sym c.in-Some.ensures.value)
