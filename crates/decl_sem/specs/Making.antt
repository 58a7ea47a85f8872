-- The item in hand: what is made of it so far, and what a part of it makes.
use Rattle.std.specs.Prelude.{◌≡◌, ℕ, ◌+◌, ◌<◌, false, not, is_some, if◌then◌else◌, List, [], ◌∷◌, ◌++◌, length}
use Rattle.m2_base.specs.Standard.{is_standard}
use Rattle.m2_base.specs.Statics.Contexts.{Context, Layout}
use Rattle.m2_base.specs.Statics.Diagnostics.{declared_twice, standard_declared}
use Rattle.m2_base.specs.Statics.Lookup.{first_entry}
use Rattle.m2_base.specs.Statics.Makes.{Makes, own_rows}
use Rattle.m2_base.specs.Tables.{first_named}
use Rattle.m2_base.specs.declared.notes.Diag.{Diag}
use Rattle.m2_base.specs.declared.sites.Site.{Site}
use Rattle.decl_sem.specs.LaidRows.{is_of}
use Rattle.decl_sem.specs.declared.making.Made.{Made}

-- a diagnostic of a text
abbrev pub diag_in : (text at code : ℕ) → Diag
diag_in text at code = record { text = text; at = at; code = code }

-- what is noted of the name that the row with this ordinal declares: it is a standard one, or an earlier row has it
abbrev pub name_refusals : (text : ℕ) → Layout → (ordinal name at : ℕ) → List Diag
name_refusals text l o name at =
    if is_standard name then diag_in text at standard_declared ∷ [] else
    if is_of o (first_entry l name) then [] else diag_in text at declared_twice ∷ []

-- the ordinal of the next row
abbrev pub next_ordinal : Made → ℕ
next_ordinal made = made.first + length made.rows.items

-- The context is that of the site, and its own rows are as many as those of the items before with those in hand.
pub record IsInHand (c : Context) (s : Site) (made : Made) : Type 0 where
  pub scope : c.scene.block.scope ≡ s.around.now.scope
  pub exists : c.scene.block.scope < length c.scene.tables
  pub text : c.scene.block.text ≡ s.around.now.text
  pub layout : c.layout ≡ s.layout.now
  pub count : length (own_rows c) ≡ next_ordinal made

-- One of the rows so far has the name of the next row exactly where the layout has it at an earlier ordinal.
abbrev pub IsNext : Context → (name : ℕ) → Type 0
IsNext c name =
    is_standard name ≡ false
    → is_some (first_named name (own_rows c) 0) ≡ not (is_of (length (own_rows c)) (first_entry c.layout name))

-- The value is the definition's, and the rows and the notes have grown by what it makes.
pub record MakesAll {T : Type 0} (before after : Made) (given : Makes T) (value : T) : Type 0 where
  pub value_is : value ≡ given.value
  pub rows : after.rows.items ≡ before.rows.items ++ given.rows
  pub diags : after.notes.diags.items ≡ before.notes.diags.items ++ given.diags
  pub answers : after.notes.answers.items ≡ before.notes.answers.items ++ given.answers
