-- The listing of diagnostics: a line FILE:LINE:COLUMN: CODE TEXT for each, by the place of its token.
use Rattle.std.specs.Prelude.{ℕ, Bool, List, [], ◌++◌, Option, Some, None, if◌then◌else◌, slice_get, slice_index_or}
use Rattle.std.specs.Prelude.{codes, decimal}
use Rattle.std.specs.List.{flat_map}
use Rattle.m2_base.specs.Units.{TextOf, UnitTexts}
use Rattle.m2_base.specs.declared.notes.Diag.{Diag}
use Rattle.m2_base.specs.declared.token.Token.{Token}
use Rattle.m2_base.specs.Diagnostics.{text_of_code}

abbrev pub place_text : (file : List ℕ) (line column : ℕ) → List ℕ
place_text file line column = file ++ codes ":" ++ decimal line ++ codes ":" ++ decimal column ++ codes ": "

abbrev pub code_text : (code : ℕ) → List ℕ
code_text code = decimal code ++ codes " " ++ text_of_code code ++ codes "\n"

-- each diagnostic of a text is at one of its tokens
abbrev pub line_at : (file : List ℕ) → Option Token → (code : ℕ) → List ℕ
line_at file None code = []
line_at file (Some token) code = place_text file token.line token.column ++ code_text code

abbrev pub listing : (file : List ℕ) → List Token → List Diag → List ℕ
listing file tokens diags = flat_map (λ diag. line_at file (slice_get tokens diag.at) diag.code) diags

-- ** Several texts

-- the name of a text's file: NAME.def of a definition module, NAME.mod of the main text
abbrev pub file_of : (names : List (List ℕ)) → TextOf → List ℕ
file_of names t = slice_index_or names t.name [] ++ (if t.definition then codes ".def" else codes ".mod")

-- the line of a diagnostic of this text
abbrev pub line_in : (names : List (List ℕ)) → Option TextOf → Diag → List ℕ
line_in names None diag = []
line_in names (Some t) diag = line_at (file_of names t) (slice_get t.tokens diag.at) diag.code

-- each diagnostic is of a text of the unit
abbrev pub unit_listing : UnitTexts → List Diag → List ℕ
unit_listing u diags = flat_map (λ diag. line_in u.names (slice_get u.list diag.text) diag) diags
