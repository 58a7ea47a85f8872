-- The key of the library module's definition: the digest of its tokens. A token is one byte for its kind, behind which
-- a name has its length and its bytes, and a character its eight bytes, the lowest first.
use Rattle.std.specs.Prelude.{ℕ, List, [], ◌∷◌, ◌++◌, codes}
use Rattle.std.specs.Int.{w64, to_le_bytes}
use Rattle.sha2.specs.Sha256.{sha256}
use Rattle.object_file.specs.Contents.{with_length}

abbrev name : List ℕ → List ℕ
name text = 1 ∷ with_length text

abbrev character : ℕ → List ℕ
character n = 3 ∷ to_le_bytes w64 n

-- `;` (57), `:` (69), `,` (56), `(` (58), `)` (70), VAR (47) and PROCEDURE (37)
abbrev of_type : List ℕ → List ℕ
of_type t = 69 ∷ name t

abbrev variable_parameter : List ℕ → List ℕ → List ℕ
variable_parameter x t = 58 ∷ 47 ∷ name x ++ of_type t ++ 70 ∷ []

-- a procedure with its parameters
abbrev procedure : List ℕ → List ℕ → List ℕ
procedure p parameters = 37 ∷ name p ++ parameters ++ 57 ∷ []

-- the tokens of InOut.def, declaration by declaration: DEFINITION (16) MODULE (32), CONST (15), `=` (62),
-- ARRAY (11) OF (34), END (21), `.` (55)
unfoldable pub key_bytes : List ℕ
key_bytes =
    16 ∷ 32 ∷ name (codes "InOut") ++ 57 ∷ []
    ++ 15 ∷ name (codes "EOL") ++ 62 ∷ character 10 ++ 57 ∷ []
    ++ 47 ∷ name (codes "Done") ++ of_type (codes "BOOLEAN") ++ 57 ∷ []
    ++ procedure (codes "Read") (variable_parameter (codes "ch") (codes "CHAR"))
    ++ procedure (codes "ReadInt") (variable_parameter (codes "x") (codes "INTEGER"))
    ++ procedure (codes "ReadCard") (variable_parameter (codes "x") (codes "CARDINAL"))
    ++ procedure (codes "Write") (58 ∷ name (codes "ch") ++ of_type (codes "CHAR") ++ 70 ∷ [])
    ++ procedure (codes "WriteString") (58 ∷ name (codes "s") ++ 69 ∷ 11 ∷ 34 ∷ name (codes "CHAR") ++ 70 ∷ [])
    ++ procedure (codes "WriteLn") []
    ++ procedure (codes "WriteInt") (58 ∷ name (codes "x") ++ of_type (codes "INTEGER") ++ 57 ∷ name (codes "n")
    ++ of_type (codes "CARDINAL") ++ 70 ∷ [])
    ++ procedure (codes "WriteCard")
    (58 ∷ name (codes "x") ++ 56 ∷ name (codes "n") ++ of_type (codes "CARDINAL") ++ 70 ∷ [])
    ++ 21 ∷ name (codes "InOut") ++ 55 ∷ []

unfoldable pub in_out_key : List ℕ
in_out_key = sha256 key_bytes
