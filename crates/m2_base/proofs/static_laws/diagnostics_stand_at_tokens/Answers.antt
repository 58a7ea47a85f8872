use Rattle.m2_base.proofs.StandingItems.{item_noted, lone_noted, unit_noted}
use Rattle.m2_base.proofs.StandingStreams.{streams_stand}
use Rattle.m2_base.proofs.static_laws.diagnostics_stand_at_tokens.Goals as goal

pub returns-clause-read : goal.returns-clause-read
returns-clause-read c = streams_stand

pub returns-clause-noted : goal.returns-clause-noted
returns-clause-noted c = item_noted

pub returns-clause-units : goal.returns-clause-units
returns-clause-units c = unit_noted

pub returns-clause-lone : goal.returns-clause-lone
returns-clause-lone c = lone_noted
