use Rattle.std.proofs.Common.{refl}
use Rattle.def_import.specs.Outcomes.{too_long, too_many_texts, too_many_tokens, too_many_unit_tokens}
use Rattle.compile_command.proofs.telling.tell_fault.Goals as goal

pub returns-in-TooLong-clause-limit : goal.returns-in-TooLong-clause-limit
returns-in-TooLong-clause-limit c = (too_long, c.in-TooLong.is, refl)

pub returns-in-TooManyTexts-clause-limit : goal.returns-in-TooManyTexts-clause-limit
returns-in-TooManyTexts-clause-limit c = (too_many_texts, c.in-TooManyTexts.is, refl)

pub returns-in-TooManyTokens-clause-limit : goal.returns-in-TooManyTokens-clause-limit
returns-in-TooManyTokens-clause-limit c = (too_many_tokens, c.in-TooManyTokens.is, refl)

pub returns-in-TooManyUnitTokens-clause-limit : goal.returns-in-TooManyUnitTokens-clause-limit
returns-in-TooManyUnitTokens-clause-limit c = (too_many_unit_tokens, c.in-TooManyUnitTokens.is, refl)
