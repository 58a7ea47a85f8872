-- Diagnostics in the order in which they are listed: by text, then by token, then by code, each once.
use Rattle.std.specs.Prelude.{Bool, nat_lt, ◌==◌, ◌&&◌, if◌then◌else◌, List, [], ◌∷◌}
use Rattle.m2_base.specs.declared.notes.Diag.{Diag}

-- one is listed before the other
abbrev pub comes_before : Diag → Diag → Bool
comes_before d e =
    if d.text == e.text then (if d.at == e.at then nat_lt d.code e.code else nat_lt d.at e.at)
    else nat_lt d.text e.text

-- of one text, at one token, with one code
abbrev pub is_same : Diag → Diag → Bool
is_same d e = d.text == e.text && (d.at == e.at && d.code == e.code)

-- a diagnostic among those in order, each once
abbrev pub with_diag : Diag → List Diag → List Diag
with_diag d [] = d ∷ []
with_diag d (e ∷ es) = if comes_before d e then d ∷ e ∷ es else if is_same d e then e ∷ es else e ∷ with_diag d es

-- diagnostics in order, each once
abbrev pub in_order : List Diag → List Diag
in_order [] = []
in_order (d ∷ ds) = with_diag d (in_order ds)
