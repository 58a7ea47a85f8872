-- Readers of names.
use Rattle.std.specs.Prelude.{List, Ok, Option, Some, None, if◌then◌else◌}
use Rattle.m2_base.specs.declared.kind.TokenKind.TheVariants.{Identifier, Period, Comma}
use Rattle.m2_base.specs.KindNumbers.{kind_number}
use Rattle.m2_base.specs.Grammar.{number_of_token}
use Rattle.m2_base.specs.declared.trees.Ident.{Ident}
use Rattle.m2_base.specs.declared.trees.Qual.{Qual}
use Rattle.m2_base.specs.ExpressionsOf.{ident_of_token}
use Rattle.ll_grammar.specs.Readers.{◌>>=◌, listed, itself}
use Rattle.m2_parse.specs.Reading.{Read, next_is, expect}

unfoldable pub ident_at : Read Ident
ident_at ts = do
  t ← expect Identifier ts
  Ok (ident_of_token t.0, t.1)

-- Idents = ident {"," ident}
abbrev pub idents_at : Read (List Ident)
idents_at ts = listed number_of_token (kind_number Comma) ident_at itself ts

-- Qual = ident ["." ident]
unfoldable pub second_at : Read (Option Ident)
second_at ts =
    if next_is Period ts then (do
      p ← expect Period ts
      i ← ident_at p.1
      Ok (Some i.0, i.1)) else Ok (None, ts)

unfoldable pub qual_at : Read Qual
qual_at ts = do
  i ← ident_at ts
  s ← second_at i.1
  Ok (record { first = i.0; second = s.0 }, s.1)
