use Rattle.unit_outcome.proofs.Fronts.{gathered_whole}
use Rattle.unit_outcome.proofs.laws.whole_units_have_one_outcome.Goals as goal

pub returns : goal.returns
returns c = λ texts these those unit whole this that.
    let are = whole.no_others in
    c.unit_has_one_outcome.ensures texts whole.front these those unit (gathered_whole texts whole.front whole are) (this whole.front are) (that whole.front are)
