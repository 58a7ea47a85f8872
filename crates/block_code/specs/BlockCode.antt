-- The code of a block, the diagnostics of its statements and of its size, and the answers of its uses, over the
-- finished scopes.
use Rattle.std.specs.Prelude.{ℕ, ◌+◌, ◌-◌, ◌==◌, ◌||◌, false, nat_lt, if◌then◌else◌, List, [], ◌∷◌, ◌++◌, map}
use Rattle.std.specs.Prelude.{slice_index, Option, Some, None}
use Rattle.m2_base.specs.Gives.{Gives}
use Rattle.m2_base.specs.declared.rows.Place.{Place}
use Rattle.m2_base.specs.declared.rows.Row.{Row}
use Rattle.m2_base.specs.declared.notes.Answer.{Answer}
use Rattle.m2_base.specs.declared.notes.Diag.{Diag}
use Rattle.m2_base.specs.declared.trees.Ident.{Ident}
use Rattle.m2_base.specs.Statics.BlockRows.{declare_block}
use Rattle.m2_base.specs.Statics.Blocks.{BlockTree}
use Rattle.m2_base.specs.Statics.Cells.{capped, most_cells}
use Rattle.m2_base.specs.Statics.Closing.{block_name, closing_diags}
use Rattle.m2_base.specs.Statics.Contexts.{Block, Context, Source, diag, no_layout}
use Rattle.m2_base.specs.Statics.Diagnostics.{too_many_cells}
use Rattle.m2_base.specs.Statics.Effects.{BlockEffects, ParamCopy, open_copy, own_copy}
use Rattle.m2_base.specs.Statics.Layouts.{layout_of}
use Rattle.m2_base.specs.Statics.ProcedureRows.{parameter_cells, result_cells}
use Rattle.m2_base.specs.Statics.ProcedureTypes.{result_type}
use Rattle.m2_base.specs.Statics.UnitNotes.{complete_context}
use Rattle.m2_base.specs.Trees.{Heading, Stream}
use Rattle.m2_base.specs.declared.trees.declarations.StreamKind.{StreamKind}
use Rattle.m2_base.specs.declared.trees.declarations.StreamKind.TheVariants.{Main, Definition, Procedure}
use Rattle.code_form.specs.Bytes.{code_bytes}
use Rattle.code_form.specs.Heights.{greatest}
use Rattle.code_form.specs.declared.instr.Instr.TheVariants.{Load, Local, Move, OpenCopy, Trap}
use Rattle.block_code.specs.Parts.{Part, Spot, none, plain, ◌⨟◌}
use Rattle.block_code.specs.Flows.{Flow, Run, straight, ◌⨾◌}
use Rattle.block_code.specs.Returns.{return_code}
use Rattle.block_code.specs.Statements.{Stand, flow_of}

-- The code of a procedure: the one that directly encloses it (0: none), the cells of its parameters, its result (0 or
-- 1), its cells, its greatest height, its data and its code. Procedure 0 is the module's body, whose cells are its
-- temporary cells.
pub record ProcedureCode : Type 0 where
  pub outer : ℕ
  pub params : ℕ
  pub result : ℕ
  pub locals : ℕ
  pub high : ℕ
  pub bytes : List ℕ
  pub code : List ℕ

-- ---- where the statements of a block stand

-- the result that a heading binds where it stands
abbrev pub bound_result : Context → Option Heading → Option Place
bound_result c None = None
bound_result c (Some h) = (result_type c h.result).value

-- The result of a block's procedure, as its heading binds it. The heading is the block's first item, so that a name
-- which the block itself declares, as a parameter or in its declarations, stands for nothing there,
-- and the result is in error.
abbrev pub result_by : Context → Stream → Option Place
result_by c tree = bound_result (record c { layout = layout_of tree; item = Some 0 }) tree.heading

-- where statements stand: all rows of the own scope count, so that no layout is asked
abbrev pub in_statements : Context → Context
in_statements c = record c { layout = no_layout; item = None }

-- in the statements of a block all rows count
abbrev pub stand_of : Context → BlockTree → Stand
stand_of c b = record { context = c; result = result_by c b.tree; withs = []; looped = false }

-- the statements of a block
abbrev pub body_of : Context → BlockTree → Gives Flow
body_of c b = flow_of (stand_of c b) b.tree.body

-- ---- the code

-- a structured value parameter is copied into its own cells; an open array by value is copied
abbrev pub copy_code : ParamCopy → Part
copy_code (own_copy own cell size) = plain (Local 0 own ∷ Local 0 cell ∷ Load ∷ Move size ∷ [])
copy_code (open_copy cell elem_size) = plain (OpenCopy cell elem_size ∷ [])

-- what is copied first
abbrev pub prologue : List ParamCopy → Part
prologue [] = none
prologue (c ∷ cs) = copy_code c ⨟ prologue cs

-- a body ends with Return; a function that comes to its end traps
abbrev pub ending : Option Heading → Part
ending None = return_code
ending (Some h) = if result_cells h.result == 0 then return_code else plain (Trap 7 ∷ [])

-- the first temporary cell: in a procedure after its parameters and variables, in a module's body 0
abbrev pub first_cell : StreamKind → (cell : ℕ) → ℕ
first_cell Procedure cell = cell
first_cell kind cell = 0

-- where the code of a block begins
abbrev pub first_spot : StreamKind → BlockEffects → Spot
first_spot kind e = record { cell = first_cell kind e.cell; byte = 0; withs = [] }

-- what the block's prologue, statements and end make
abbrev pub run_of : BlockTree → BlockEffects → Flow → Run
run_of b e body = (straight (prologue e.prologue) ⨾ body ⨾ straight (ending b.tree.heading)) (first_spot b.tree.kind e)

-- the cells of the parameters
abbrev pub params_of : Option Heading → ℕ
params_of None = 0
params_of (Some h) = parameter_cells h.sections

-- the cells of the result
abbrev pub results_of : Option Heading → ℕ
results_of None = 0
results_of (Some h) = result_cells h.result

-- procedures are numbered from the module's scope on; one of module level has no outer procedure
abbrev pub outer_of : Block → ℕ
outer_of b = if b.level == 0 then 0 else slice_index b.chain 1 - b.home

-- a block's code, from what it made
abbrev pub code_of_run : BlockTree → Run → ProcedureCode
code_of_run b r =
    let code = r.code 0 in
    record {
      outer = outer_of b.block;
      params = params_of b.tree.heading;
      result = results_of b.tree.heading;
      locals = r.next.cell;
      high = greatest 0 code;
      bytes = r.bytes;
      code = code_bytes (map (λ s. s.instr) code);
    }

-- The code of a block. `before` are the finished scopes before it, `all` all of them.
abbrev pub block_code : Source → (before all : List (List Row)) → BlockTree → ProcedureCode
block_code source before all b =
    code_of_run b
    (run_of b (declare_block source before b).value (body_of (complete_context source all b.block) b).value)

-- ---- diagnostics and answers

-- the cells that a block's variables and temporary cells take; a module's temporary cells are its body's
abbrev pub cells_with : StreamKind → (own : ℕ) → Run → ℕ
cells_with Main own r = capped (own + r.next.cell)
cells_with kind own r = r.next.cell

-- too many cells, or too many bytes of data, are refused at the block's name
abbrev pub too_many_at : Context → Option Ident → List Diag
too_many_at c None = []
too_many_at c (Some i) = diag c i.at too_many_cells ∷ []

-- the diagnostic of a block's size: of so many cells and so many bytes
abbrev pub size_by : Context → BlockTree → (cells bytes : ℕ) → List Diag
size_by c b cells bytes =
    if nat_lt most_cells cells || nat_lt most_cells bytes then too_many_at c (block_name b.tree) else []

-- the diagnostic of a block's size; a definition module has no code
abbrev pub size_diags : Context → BlockTree → StreamKind → BlockEffects → Run → List Diag
size_diags c b Definition e r = size_by c b e.cell 0
size_diags c b kind e r = size_by c b (cells_with kind e.cell r) r.next.byte

-- all diagnostics of a block: of its declarations, of the complete block, of its statements, and of its size
abbrev pub block_diags : Source → (before all : List (List Row)) → BlockTree → List Diag
block_diags source before all b =
    let c = complete_context source all b.block in
    let d = declare_block source before b in
    let body = body_of c b in
    d.diags ++ closing_diags c b.tree ++ body.diags ++ size_diags c b b.tree.kind d.value (run_of b d.value body.value)

-- the answers of a block's uses, in text order; those of its heading are among them
abbrev pub block_answers : Source → (before all : List (List Row)) → BlockTree → List Answer
block_answers source before all b =
    (declare_block source before b).answers ++ (body_of (complete_context source all b.block) b).answers
