-- The rows of a procedure's heading in its own scope, and where its parameters are.
use Rattle.std.specs.Prelude.{Bool, List, None, [], false, true, ℕ, ◌+◌, if◌then◌else◌, ◌∷◌, ◌++◌}
use Rattle.m2_base.specs.Rows.{ByAddress, Open, Place, Plain, Var}
use Rattle.m2_base.specs.Statics.Cells.{capped}
use Rattle.m2_base.specs.Statics.Contexts.{Context}
use Rattle.m2_base.specs.Statics.Effects.{Effect, ParamCopy, open_copy, own_copy}
use Rattle.m2_base.specs.Statics.Makes.{Makes, make_then, makes, makes_named, only_gives}
use Rattle.m2_base.specs.Statics.ProcedureRows.{parameter_cells}
use Rattle.m2_base.specs.Statics.ProcedureTypes.{is_structured, open_array_row, result_type}
use Rattle.m2_base.specs.Statics.TypeNames.{type_of_qual}
use Rattle.m2_base.specs.Statics.Types.{size_of}
use Rattle.m2_base.specs.Trees.{Heading, Ident, Section}

-- the next cell that a parameter arrives in, the next free cell after all of them, and what the prologue copies
pub record Placing : Type 0 where
  pub cell : ℕ
  pub own : ℕ
  pub copies : List ParamCopy

-- where the next parameter is, where the cells after all parameters go on, and what is copied
abbrev pub placing : (cell own : ℕ) → List ParamCopy → Placing
placing cell own copies = record { cell = cell; own = own; copies = copies }

-- an open array by value is copied
abbrev pub open_copies : (by_ref : Bool) → (cell elem_size : ℕ) → List ParamCopy
open_copies true cell n = []
open_copies false cell n = open_copy cell n ∷ []

-- a parameter's variable, by how it comes: an open array in two cells, a VAR parameter by its address, a structured
-- value with cells of its own, any other value in its cell
abbrev pub parameter_row : Context → Section → (elem t : Place) → Placing → Ident → Makes Placing
parameter_row c s elem t f i =
    if s.is_open then
    make_then c (makes_named c i.name i.at (Var t Open f.cell)) (λ d p.
    makes (placing (capped (f.cell + 2)) f.own (f.copies ++ open_copies s.by_ref f.cell (size_of c.scene elem)))) else
    if s.by_ref then
    make_then c (makes_named c i.name i.at (Var t ByAddress f.cell))
    (λ d p. makes (placing (capped (f.cell + 1)) f.own f.copies)) else
    if is_structured c t then
    make_then c (makes_named c i.name i.at (Var t Plain f.own)) (λ d p.
    makes (placing (capped (f.cell + 1)) (capped (f.own + size_of c.scene t))
    (f.copies ++ own_copy f.own f.cell (size_of c.scene t) ∷ [])))
    else make_then c (makes_named c i.name i.at (Var t Plain f.cell))
    (λ d p. makes (placing (capped (f.cell + 1)) f.own f.copies))

-- the variables of parameters of one type
abbrev pub parameter_rows : Context → Section → (elem t : Place) → Placing → List Ident → Makes Placing
parameter_rows c s elem t f [] = makes f
parameter_rows c s elem t f (i ∷ names) =
    make_then c (parameter_row c s elem t f i) (λ d g. parameter_rows d s elem t g names)

-- the open array of a section, where it has one, and the variables of its parameters
abbrev pub own_section_rows : Context → Placing → Section → Makes Placing
own_section_rows c f s =
    make_then c (only_gives (type_of_qual c s.of)) (λ d elem.
    make_then d (open_array_row d s.of.first.at s.is_open elem) (λ e t.
    parameter_rows e s elem t f s.names))

-- all sections
abbrev pub own_sections_rows : Context → Placing → List Section → Makes Placing
own_sections_rows c f [] = makes f
own_sections_rows c f (s ∷ sections) =
    make_then c (own_section_rows c f s) (λ d g. own_sections_rows d g sections)

-- the heading of the block itself
abbrev pub heading_rows : Context → Heading → Makes Effect
heading_rows c h =
    make_then c (own_sections_rows c (placing 0 (capped (parameter_cells h.sections)) []) h.sections) (λ d f.
    make_then d (only_gives (result_type d h.result)) (λ e r.
    makes (record { cell = f.own; prologue = f.copies; result = r; heading = None; brought = [] })))
