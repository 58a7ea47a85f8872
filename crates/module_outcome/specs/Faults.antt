-- What the faults of gathering say of a module: what is decided of it, or nothing.
use Rattle.std.specs.Prelude.{Option, Some, None}
use Rattle.def_import.specs.declared.faults.GatherFault.{GatherFault}
use Rattle.def_import.specs.declared.faults.GatherFault.TheVariants.{Memory, NoText, ReadFault, TooLong, TooManyTexts}
use Rattle.def_import.specs.declared.faults.GatherFault.TheVariants.{TooManyTokens, TooManyUnitTokens}
use Rattle.module_outcome.specs.Verdicts.{Decision, limited, no_text}
use Rattle.module_outcome.specs.declared.limit.Limit.TheVariants.{TextBytes, Texts, Tokens, UnitTokens}

abbrev pub told : GatherFault → Option Decision
told NoText = Some no_text
told TooLong = Some (limited TextBytes)
told TooManyTexts = Some (limited Texts)
told TooManyTokens = Some (limited Tokens)
told TooManyUnitTokens = Some (limited UnitTokens)
told ReadFault = None
told Memory = None
