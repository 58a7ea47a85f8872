-- The variables of parameters in the procedure's own scope, one form of parameter after another.
use Rattle.std.specs.Prelude.{ℕ, ◌+◌, ◌≤◌, Bool, if◌then◌else◌, [], ◌∷◌, ◌++◌, Option, None}
use Rattle.m2_base.specs.States.{Frame}
use Rattle.m2_base.specs.Statics.Cells.{capped, most_cells}
use Rattle.m2_base.specs.Statics.Contexts.{Context}
use Rattle.m2_base.specs.Statics.Effects.{Effect, open_copy, own_copy}
use Rattle.m2_base.specs.Statics.HeadingRows.{Placing, parameter_rows, placing}
use Rattle.m2_base.specs.Statics.Makes.{Makes, make_then, makes, makes_named, only_gives}
use Rattle.m2_base.specs.Statics.ProcedureTypes.{open_array_row, result_type}
use Rattle.m2_base.specs.Trees.{Section}
use Rattle.m2_base.specs.declared.rows.Mode.{Mode}
use Rattle.m2_base.specs.declared.rows.Mode.TheVariants.{ByAddress, Open, Plain}
use Rattle.m2_base.specs.declared.rows.Place.{Place}
use Rattle.m2_base.specs.declared.rows.RowMeaning.TheVariants.{Var}
use Rattle.m2_base.specs.declared.trees.Ident.{Ident}
use Rattle.m2_base.specs.declared.trees.Qual.{Qual}

-- the cell of the next parameter and the next free cell are cells, or one behind the last
pub record AreCells (p : Placing) : Type 0 where
  pub cell : p.cell ≤ most_cells + 1
  pub own : p.own ≤ most_cells + 1

-- the next parameter may be there
abbrev pub IsPlaced : Frame → (next : ℕ) → Placing → Type 0
IsPlaced f next p = AreCells p

-- behind a parameter that arrives in so many cells
abbrev pub after_cells : (count : ℕ) → Placing → Placing
after_cells n p = placing (capped (p.cell + n)) p.own p.copies

-- behind an open array by value, whose elements have this size
abbrev pub after_open : (size : ℕ) → Placing → Placing
after_open n p = placing (capped (p.cell + 2)) p.own (p.copies ++ open_copy p.cell n ∷ [])

-- behind a structured value of this size
abbrev pub after_own : (size : ℕ) → Placing → Placing
after_own n p = placing (capped (p.cell + 1)) (capped (p.own + n)) (p.copies ++ own_copy p.own p.cell n ∷ [])

-- a parameter's variable in this cell, before the next parameter
abbrev pub placed_row : Ident → Place → Mode → (cell : ℕ) → (next : Placing) → Context → Makes Placing
placed_row i t m cell next c = make_then c (makes_named c i.name i.at (Var t m cell)) (λ d p. makes next)

-- a VAR parameter: an open array in two cells, any other by its address
abbrev pub ref_row : (is_open : Bool) → Ident → Place → Placing → Context → Makes Placing
ref_row is_open i t p c =
    if is_open then placed_row i t Open p.cell (after_cells 2 p) c
    else placed_row i t ByAddress p.cell (after_cells 1 p) c

-- an open array by value, whose elements have this size
abbrev pub open_row : (size : ℕ) → Ident → Place → Placing → Context → Makes Placing
open_row n i t p c = placed_row i t Open p.cell (after_open n p) c

-- a structured value of this size, in cells of its own
abbrev pub own_row : (size : ℕ) → Ident → Place → Placing → Context → Makes Placing
own_row n i t p c = placed_row i t Plain p.own (after_own n p) c

-- a value of a type of this size: a structured one has cells of its own, any other is in its cell
abbrev pub value_row : (structured : Bool) → (size : ℕ) → Ident → Place → Placing → Context → Makes Placing
value_row structured n i t p c =
    if structured then own_row n i t p c else placed_row i t Plain p.cell (after_cells 1 p) c

-- the parameters of a section after the name of their type
abbrev pub section_given : Section → (elem : Place) → Placing → Context → Makes Placing
section_given s elem p c =
    make_then c (open_array_row c s.of.first.at s.is_open elem) (λ d t. parameter_rows d s elem t p s.names)

-- the result of a heading after its parameters, and what the heading gives
abbrev pub heading_effect : Option Qual → Placing → Context → Makes Effect
heading_effect q p c =
    make_then c (only_gives (result_type c q)) (λ d r.
    makes (record { cell = p.own; prologue = p.copies; result = r; heading = None; brought = [] }))
