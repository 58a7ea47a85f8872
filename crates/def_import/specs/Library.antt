-- The library module's definition. Its text is always this one.
use Rattle.std.specs.Prelude.{ℕ, List, [], ◌∷◌, ◌++◌, codes}

-- the number of its name in every unit
abbrev pub library_name : ℕ
library_name = 27

abbrev line : List ℕ → List ℕ
line text = text ++ 10 ∷ []

-- the text of InOut.def, line by line
unfoldable pub library_text : List ℕ
library_text =
    line (codes "DEFINITION MODULE InOut;")
    ++ line (codes "CONST EOL = 12C;")
    ++ line (codes "VAR Done: BOOLEAN;")
    ++ line (codes "PROCEDURE Read(VAR ch: CHAR);")
    ++ line (codes "PROCEDURE ReadInt(VAR x: INTEGER);")
    ++ line (codes "PROCEDURE ReadCard(VAR x: CARDINAL);")
    ++ line (codes "PROCEDURE Write(ch: CHAR);")
    ++ line (codes "PROCEDURE WriteString(s: ARRAY OF CHAR);")
    ++ line (codes "PROCEDURE WriteLn;")
    ++ line (codes "PROCEDURE WriteInt(x: INTEGER; n: CARDINAL);")
    ++ line (codes "PROCEDURE WriteCard(x, n: CARDINAL);")
    ++ line (codes "END InOut.")
