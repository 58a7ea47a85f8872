use Rattle.std.specs.Prelude.{refl}
use Rattle.unit_merge.specs.Outcome.{diagnostics}
use Rattle.unit_outcome.proofs.OutcomeStands.{outcome_stands}
use Rattle.unit_outcome.proofs.laws.diagnostics_stand_in_their_texts.Goals as goal

pub returns : goal.returns
returns c = λ texts diags unit whole comes. outcome_stands whole.front texts (diagnostics diags) diags unit (comes whole.front whole.no_others) refl
