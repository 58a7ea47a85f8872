-- What an item gives beside its rows: the next free cell, what its procedure's body copies first, the type of the
-- result that its own heading binds, a note of its heading, and the names that an import brings.
use Rattle.std.specs.Prelude.{ℕ, List, [], ◌∷◌, ◌++◌, Option, Some, None}
use Rattle.m2_base.specs.Rows.{Place}
use Rattle.m2_base.specs.declared.outputs.HeadingNote.{HeadingNote}
use Rattle.m2_base.specs.declared.sites.Named.{Named}

-- What a procedure's body copies first: a structured value parameter, whose address is in a cell, into cells of its
-- own; or an open array by value, whose address is in a cell.
pub data ParamCopy : Type 0 where
  own_copy : (own cell size : ℕ) → ParamCopy
  open_copy : (cell elem_size : ℕ) → ParamCopy

-- what an item gives beside its rows
pub record Effect : Type 0 where
  pub cell : ℕ
  pub prologue : List ParamCopy
  pub result : Option Place
  pub heading : Option HeadingNote
  pub brought : List Named

-- the next free cell, and nothing else
abbrev pub only_cell : ℕ → Effect
only_cell n = record { cell = n; prologue = []; result = None; heading = None; brought = [] }

-- the next free cell, and the names that an import brings
abbrev pub bringing : (cell : ℕ) → List Named → Effect
bringing n brought = record { cell = n; prologue = []; result = None; heading = None; brought = brought }

-- what the items of a block give beside their rows; what is brought, of each item
pub record BlockEffects : Type 0 where
  pub cell : ℕ
  pub prologue : List ParamCopy
  pub headings : List HeadingNote
  pub brought : List (List Named)

-- of no item: the next free cell
abbrev pub no_effects : (cell : ℕ) → BlockEffects
no_effects cell = record { cell = cell; prologue = []; headings = []; brought = [] }

-- the note of a heading, if there is one
abbrev pub heading_list : Option HeadingNote → List HeadingNote
heading_list None = []
heading_list (Some h) = h ∷ []

-- what an item gives, with what the items after it give
abbrev pub joined_effects : Effect → BlockEffects → BlockEffects
joined_effects e es =
    record {
      cell = es.cell;
      prologue = e.prologue ++ es.prologue;
      headings = heading_list e.heading ++ es.headings;
      brought = e.brought ∷ es.brought;
    }
