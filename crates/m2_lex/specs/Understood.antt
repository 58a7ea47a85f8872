-- The code's meanings, as those of the definitions.
use Rattle.m2_base.specs.Diagnostics.{code_of}
use Rattle.m2_base.specs.Meanings.{Meaning as Stands, blank, name, number, character, string, fixed, bad}
use Rattle.m2_lex.specs.declared.meaning.Meaning.{Meaning}
use Rattle.m2_lex.specs.declared.meaning.Meaning.TheVariants.{Blank, Name, Number, Character, String as StringOf}
use Rattle.m2_lex.specs.declared.meaning.Meaning.TheVariants.{Fixed, Bad}

abbrev pub stands_for : Meaning → Stands
stands_for Blank = blank
stands_for (Name text) = name text.now
stands_for (Number value) = number value
stands_for (Character value) = character value
stands_for (StringOf bytes) = string bytes.now
stands_for (Fixed kind) = fixed kind
stands_for (Bad fault) = bad (code_of fault)
