-- The code's places in a text, as those of the definitions.
use Rattle.m2_base.specs.Positions.{Position as Place}
use Rattle.m2_lex.specs.declared.position.Position.{Position}

abbrev pub place_of : Position → Place
place_of p = record { line = p.line; column = p.column }
