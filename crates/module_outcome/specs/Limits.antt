-- The limits that a module can pass, and what is said of each.
use Rattle.std.specs.Prelude.{ℕ, List, codes}
use Rattle.m2_base.specs.Statics.BlockLimits.{BlockLimit, too_deep_procedure, too_many_procedures}
use Rattle.def_import.specs.Outcomes as gathering
use Rattle.def_import.specs.Outcomes.{too_long, too_many_texts, too_many_tokens, too_many_unit_tokens}
use Rattle.module_outcome.specs.declared.limit.Limit.{Limit}
use Rattle.module_outcome.specs.declared.limit.Limit.TheVariants.{Nesting, Procedures, StaticLevel, TextBytes, Texts}
use Rattle.module_outcome.specs.declared.limit.Limit.TheVariants.{Tokens, UnitTokens}

abbrev pub limit_text : Limit → List ℕ
limit_text TextBytes = codes "limit text bytes 1048576"
limit_text Tokens = codes "limit tokens 1048576"
limit_text UnitTokens = codes "limit unit tokens 4194304"
limit_text Texts = codes "limit texts 256"
limit_text Procedures = codes "limit procedures 16384"
limit_text StaticLevel = codes "limit static level 16"
limit_text Nesting = codes "limit nesting 100"

-- a limit of the texts that are gathered
abbrev pub of_texts : gathering.Limit → Limit
of_texts too_long = TextBytes
of_texts too_many_tokens = Tokens
of_texts too_many_unit_tokens = UnitTokens
of_texts too_many_texts = Texts

-- a limit on the procedures of a main text
abbrev pub of_procedures : BlockLimit → Limit
of_procedures (too_many_procedures at) = Procedures
of_procedures (too_deep_procedure at) = StaticLevel
