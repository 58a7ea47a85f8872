-- Places in a text as lines and columns, both counted from 1. A line ends at byte 10.
use Rattle.std.specs.Prelude.{ℕ, ◌+◌, ◌==◌, if◌then◌else◌, List, fold}

pub record Position : Type 0 where
  pub line : ℕ
  pub column : ℕ

abbrev pub first_position : Position
first_position = record { line = 1; column = 1 }

abbrev pub after_byte : Position → ℕ → Position
after_byte p byte =
    if byte == 10 then record { line = p.line + 1; column = 1 } else record { line = p.line; column = p.column + 1 }

-- the place behind these bytes
abbrev pub after_bytes : Position → List ℕ → Position
after_bytes p bytes = fold after_byte p bytes
