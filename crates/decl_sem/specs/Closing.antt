-- What is checked when the scope of a block is complete, as the code has it.
use Rattle.std.specs.Prelude.{◌≡◌, ℕ, Bool, List, [], ◌∷◌, ◌++◌}
use Rattle.m2_base.specs.Statics.Closing.{Implemented, all_implemented, differing, has_missing}
use Rattle.m2_base.specs.Statics.Contexts.{Context}
use Rattle.m2_base.specs.declared.notes.Diag.{Diag}
use Rattle.m2_base.specs.declared.rows.Place.{Place}
use Rattle.m2_base.specs.declared.rows.Row.{Row}

-- the headings that differ are noted behind earlier diagnostics, and it is known whether something is missing
pub record AreChecked (c : Context) (all : List Implemented) (before after : List Diag) (missing : Bool) : Type 0 where
  pub noted : after ≡ before ++ differing c all
  pub missing_is : missing ≡ has_missing all

-- how the row at a place of the definition is implemented; a nameless one promises nothing
abbrev pub row_implemented : Context → Place → Row → List Implemented
row_implemented c p r = all_implemented c.scene p.scope p.ordinal (r ∷ [])
