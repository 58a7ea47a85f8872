-- The faults of the code, and what they say.
use Rattle.m2_io.specs.declared.shelf.ShelfError.TheVariants as shelf
use Rattle.m2_io.specs.declared.shelf.ShelfError.{ShelfError}
use Rattle.m2_lex.specs.declared.lexer.LexFault.TheVariants as lex
use Rattle.m2_lex.specs.declared.lexer.LexFault.{LexFault}
use Rattle.def_import.specs.declared.faults.GatherFault.TheVariants.{NoText, ReadFault, Memory}
use Rattle.def_import.specs.declared.faults.GatherFault.TheVariants.{TooLong, TooManyTexts, TooManyTokens}
use Rattle.def_import.specs.declared.faults.GatherFault.TheVariants.{TooManyUnitTokens}
use Rattle.def_import.specs.declared.faults.GatherFault.{GatherFault}
use Rattle.def_import.specs.Outcomes.{Limit, too_long, too_many_tokens, too_many_unit_tokens, too_many_texts}

abbrev pub fault_of_shelf : ShelfError → GatherFault
fault_of_shelf shelf.Failed = ReadFault
fault_of_shelf shelf.Memory = Memory

abbrev pub fault_of_lex : LexFault → GatherFault
fault_of_lex lex.TooManyTokens = TooManyTokens
fault_of_lex lex.Memory = Memory

-- how the code says that a limit is passed
abbrev pub fault_of : Limit → GatherFault
fault_of too_long = TooLong
fault_of too_many_tokens = TooManyTokens
fault_of too_many_unit_tokens = TooManyUnitTokens
fault_of too_many_texts = TooManyTexts

-- a fault that reading a text may have
abbrev pub IsTextFault : GatherFault → Type 0
IsTextFault TooLong = Unit {0}
IsTextFault TooManyTokens = Unit {0}
IsTextFault TooManyUnitTokens = Unit {0}
IsTextFault TooManyTexts = Unit {0}
IsTextFault Memory = Unit {0}
IsTextFault other = ⊥

-- a fault of the shelf, or want of memory
abbrev pub IsShelfFault : GatherFault → Type 0
IsShelfFault ReadFault = Unit {0}
IsShelfFault Memory = Unit {0}
IsShelfFault other = ⊥

-- a fault that naming modules may have
abbrev pub IsNamingFault : GatherFault → Type 0
IsNamingFault TooManyTexts = Unit {0}
IsNamingFault Memory = Unit {0}
IsNamingFault other = ⊥

-- a fault that asking for a module may have
abbrev pub IsAskFault : GatherFault → Type 0
IsAskFault NoText = ⊥
IsAskFault other = Unit {0}
