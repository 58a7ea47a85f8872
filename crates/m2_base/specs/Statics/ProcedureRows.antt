-- The rows of a procedure's heading in the scope round it.
use Rattle.std.specs.Prelude.{Bool, List, None, Option, Some, [], false, filter, length, true, ℕ, ◌+◌, if◌then◌else◌}
use Rattle.std.specs.Prelude.{◌∷◌, ◌-◌, ◌*◌}
use Rattle.m2_base.specs.Rows.{Param, Place, Proc, ProcType, Row, RowMeaning, row_meaning}
use Rattle.m2_base.specs.Statics.Contexts.{Context}
use Rattle.m2_base.specs.Statics.Makes.{Makes, make_then, makes, makes_named, makes_row, next_place, only_gives}
use Rattle.m2_base.specs.Statics.Makes.{own_rows}
use Rattle.m2_base.specs.Statics.ProcedureTypes.{parameter_type, result_type}
use Rattle.m2_base.specs.Statics.Shapes.{section_shapes}
use Rattle.m2_base.specs.Trees.{Definition, Heading, Ident, Procedure, Qual, Section, StreamKind}
use Rattle.m2_base.specs.declared.outputs.HeadingNote.{HeadingNote}

-- parameters of one type, of the ProcType row with this ordinal
abbrev pub param_rows : Context → (own : ℕ) → (by_ref : Bool) → Place → List Ident → Makes (Unit {0})
param_rows c own by_ref t [] = makes tt
param_rows c own by_ref t (i ∷ names) =
    make_then c (makes_row c i.at (Param t by_ref own)) (λ d p. param_rows d own by_ref t names)

-- the parameters of a procedure whose ProcType row has this ordinal
abbrev pub section_rows : Context → (own : ℕ) → List Section → Makes (Unit {0})
section_rows c own [] = makes tt
section_rows c own (s ∷ sections) =
    make_then c (parameter_type c s.is_open s.of) (λ d t.
    make_then d (param_rows d own s.by_ref t s.names) (λ e done.
    section_rows e own sections))

-- the number of parameters
abbrev pub parameter_count : List Section → ℕ
parameter_count [] = 0
parameter_count (s ∷ sections) = length s.names + parameter_count sections

-- an open array takes two cells, every other parameter one
abbrev pub section_cells : Section → ℕ
section_cells s = if s.is_open then 2 * length s.names else length s.names

-- the cells in which the parameters arrive
abbrev pub parameter_cells : List Section → ℕ
parameter_cells [] = 0
parameter_cells (s ∷ sections) = section_cells s + parameter_cells sections

-- the number of rows of the sections
abbrev pub sections_length : List Section → ℕ
sections_length [] = 0
sections_length (s ∷ sections) = length (section_shapes s) + sections_length sections

-- the meaning of a procedure's row
abbrev pub is_proc_meaning : RowMeaning → Bool
is_proc_meaning (Proc t k s) = true
is_proc_meaning other = false

-- the row is a procedure's
abbrev pub is_proc : Row → Bool
is_proc r = is_proc_meaning (row_meaning r)

-- in a definition a heading is numbered by the headings before it; elsewhere a procedure's number is its scope less
-- the module's
abbrev pub proc_number : Context → StreamKind → (stream : ℕ) → ℕ
proc_number c Definition stream = length (filter is_proc (own_rows c))
proc_number c kind stream = stream - c.scene.block.home

-- the scope of a procedure; a heading in a definition has none
abbrev pub proc_scope : StreamKind → (stream : ℕ) → ℕ
proc_scope Definition stream = 0
proc_scope kind stream = stream

-- cells of the result
abbrev pub result_cells : Option Qual → ℕ
result_cells None = 0
result_cells (Some q) = 1

-- definitions and modules note the headings of their procedures
abbrev pub heading_note : StreamKind → Heading → (number : ℕ) → Option HeadingNote
heading_note Procedure h number = None
heading_note kind h number =
    Some (record
    { name = h.name.name; number = number; params = parameter_cells h.sections; result = result_cells h.result })

-- open arrays and parameters, the procedure's type, and the procedure
abbrev pub proc_rows : Context → StreamKind → Heading → (stream : ℕ) → Makes (Option HeadingNote)
proc_rows c kind h stream =
    let first = (next_place c).ordinal in
    let number = proc_number c kind stream in
    make_then c (section_rows c (first + sections_length h.sections) h.sections) (λ d done.
    make_then d (only_gives (result_type d h.result)) (λ e r.
    make_then e (makes_row e h.name.at (ProcType r (parameter_count h.sections) first)) (λ f t.
    make_then f (makes_named f h.name.name h.name.at (Proc t number (proc_scope kind stream))) (λ g p.
    makes (heading_note kind h number)))))
