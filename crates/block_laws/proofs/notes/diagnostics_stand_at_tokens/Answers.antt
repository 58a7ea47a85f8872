use Rattle.m2_base.specs.Statics.StandingTrees.{IsBelow}
use Rattle.m2_base.proofs.StandingNotes.{places}
use Rattle.block_laws.proofs.StandingFlows.{statements_at}
use Rattle.block_laws.proofs.notes.diagnostics_stand_at_tokens.Goals as goal

pub returns : goal.returns
returns c = λ n s ss h. places (statements_at (IsBelow n) ss s h)
