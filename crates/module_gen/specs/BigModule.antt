-- The text of the module Big of so many procedures. Each adds `w` to `v`; the body calls one after another. `w` is
-- declared behind the procedures that use it.
use Rattle.std.specs.Prelude.{ℕ, List, [], ◌∷◌, ◌++◌, codes, decimal, map}
use Rattle.std.specs.List.{flat_map, range_with_len}

-- the numbers of the procedures
abbrev pub numbers : (n : ℕ) → List ℕ
numbers n = range_with_len 1 n

-- the heading of the procedure of a number, and its body
abbrev pub procedure_lines : (number : ℕ) → List (List ℕ)
procedure_lines number =
    (codes "PROCEDURE p" ++ decimal number ++ codes ";")
    ∷ (codes "BEGIN v := v + w END p" ++ decimal number ++ codes ";")
    ∷ []

-- a call of that procedure
abbrev pub call_line : (number : ℕ) → List ℕ
call_line number = codes "p" ++ decimal number ++ codes ";"

-- the lines before the procedures, between them and the calls, and behind the calls
abbrev pub opening : List (List ℕ)
opening = codes "MODULE Big;" ∷ codes "VAR v: INTEGER;" ∷ []

abbrev pub between : List (List ℕ)
between = codes "VAR w: INTEGER;" ∷ codes "BEGIN" ∷ []

abbrev pub closing : List (List ℕ)
closing = codes "END Big." ∷ []

-- the lines of the module
abbrev pub lines_of : (n : ℕ) → List (List ℕ)
lines_of n = opening ++ flat_map procedure_lines (numbers n) ++ between ++ map call_line (numbers n) ++ closing

-- each line ends with byte 10
abbrev pub ended : (line : List ℕ) → List ℕ
ended line = line ++ 10 ∷ []

abbrev pub procedure_text : (number : ℕ) → List ℕ
procedure_text number = flat_map ended (procedure_lines number)

abbrev pub call_text : (number : ℕ) → List ℕ
call_text number = ended (call_line number)

-- the text of the module
abbrev pub text_of : (n : ℕ) → List ℕ
text_of n = flat_map ended (lines_of n)
