-- What an item declares, whatever it is.
use Rattle.std.specs.Prelude.{[], ℕ, None}
use Rattle.m2_base.specs.Statics.Contexts.{Context}
use Rattle.m2_base.specs.Statics.Effects.{Effect, bringing, only_cell}
use Rattle.m2_base.specs.Statics.HeadingRows.{heading_rows}
use Rattle.m2_base.specs.Statics.ImportRows.{import_rows}
use Rattle.m2_base.specs.Statics.Items.{Item, const_item, heading_item, import_item, proc_item, type_item, vars_item}
use Rattle.m2_base.specs.Statics.Makes.{Makes, make_then, makes}
use Rattle.m2_base.specs.Statics.NameRows.{const_rows, type_name_rows, vars_rows}
use Rattle.m2_base.specs.Statics.ProcedureRows.{proc_rows}
use Rattle.m2_base.specs.Trees.{StreamKind}

-- What an item declares, in a block of this kind, its variables placed from this cell on. The context has the rows of
-- the items before, and the item's number.
abbrev pub declare : Context → StreamKind → Item → (cell : ℕ) → Makes Effect
declare c kind (heading_item h) cell = heading_rows c h
declare c kind (import_item from i) cell = make_then c (import_rows c from i) (λ d b. makes (bringing cell b))
declare c kind (const_item i value) cell = make_then c (const_rows c i value) (λ d p. makes (only_cell cell))
declare c kind (type_item i typ) cell = make_then c (type_name_rows c i typ) (λ d p. makes (only_cell cell))
declare c kind (vars_item names typ) cell = make_then c (vars_rows c names typ cell) (λ d next. makes (only_cell next))
declare c kind (proc_item h stream) cell =
    make_then c (proc_rows c kind h stream) (λ d note.
    makes (record { cell = cell; prologue = []; result = None; heading = note; brought = [] }))
