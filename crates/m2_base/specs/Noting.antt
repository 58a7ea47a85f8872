-- What a diagnostic adds to notes.
use Rattle.std.specs.Prelude.{◌≡◌, ℕ, [], ◌∷◌, ◌++◌}
use Rattle.m2_base.specs.declared.notes.Notes.{Notes}

-- one diagnostic has been noted
abbrev pub IsRefused : Notes → Notes → (text at code : ℕ) → Type 0
IsRefused before after text at code =
    after.diags.items ≡ before.diags.items ++ record { text = text; at = at; code = code } ∷ []
