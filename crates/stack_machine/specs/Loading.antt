-- From the objects of a program, in running order, to the operations that are executed.
use Rattle.std.specs.Prelude.{◌≡◌, ℕ, zero, suc, ◌+◌, ◌-◌, ◌==◌, Bool, false, ◌||◌, if◌then◌else◌, ℤ, pos, ◌+ℤ◌, List}
use Rattle.std.specs.Prelude.{[], ◌∷◌, ◌++◌, length, map, replicate, slice_get, codes, Option, Some, None, unwrap_or}
use Rattle.std.specs.Str.{bytes_eq}
use Rattle.std.specs.List.{slice_index_or}
use Rattle.code_form.specs.declared.instr.Instr.TheVariants as instr
use Rattle.code_form.specs.declared.instr.Instr.{Instr}
use Rattle.code_form.specs.Bytes.{size}
use Rattle.code_form.specs.Modules.{Import, Procedure}
use Rattle.code_form.specs.Valid.{AreInstrs, same_place}
use Rattle.object_file.specs.Contents.{Contents, Export, definitions_of}
use Rattle.stack_machine.specs.declared.op.Op.{Op}
use Rattle.stack_machine.specs.declared.op.Op.TheVariants as op
use Rattle.stack_machine.specs.declared.op.Kind.{Kind}
use Rattle.stack_machine.specs.declared.op.Kind.TheVariants as kinds
use Rattle.stack_machine.specs.declared.op.Service.{Service}
use Rattle.stack_machine.specs.declared.trap.Trap.{Trap}
use Rattle.stack_machine.specs.declared.trap.Trap.TheVariants as traps
use Rattle.stack_machine.specs.declared.code.Routine.{Routine}
use Rattle.stack_machine.specs.declared.code.Origin.{Origin}
use Rattle.stack_machine.specs.declared.owners.Owner.{Owner}
use Rattle.stack_machine.specs.declared.owners.Owner.TheVariants as owners
use Rattle.stack_machine.specs.InOut.{services}
use Rattle.stack_machine.specs.State.{State, Program}
use Rattle.stack_machine.specs.Step.{Next, next_body}

-- ---- where cells are: NIL's, Done where InOut is imported, the objects' variables, all data, and then the frames

abbrev pub is_in_out : List ℕ → Bool
is_in_out name = bytes_eq name (codes "InOut")

abbrev pub import_in_out : List Import → Bool
import_in_out [] = false
import_in_out (i ∷ is) = is_in_out i.name || import_in_out is

abbrev pub imports_in_out : List Contents → Bool
imports_in_out [] = false
imports_in_out (o ∷ os) = import_in_out (definitions_of o) || imports_in_out os

abbrev pub cells_of : List Contents → ℕ
cells_of [] = 0
cells_of (o ∷ os) = o.cells + cells_of os

abbrev pub data_in : List Procedure → ℕ
data_in [] = 0
data_in (p ∷ ps) = length p.bytes + data_in ps

abbrev pub data_of : List Contents → ℕ
data_of [] = 0
data_of (o ∷ os) = data_in o.procedures + data_of os

-- the cell behind NIL's and Done
abbrev pub first_cell : List Contents → ℕ
first_cell os = if imports_in_out os then 2 else 1

-- the first variable of each object, where those of all begin in a cell
abbrev pub variables_from : (at : ℕ) → List Contents → List ℕ
variables_from at [] = []
variables_from at (o ∷ os) = at ∷ variables_from (at + o.cells) os

abbrev pub variables_of : List Contents → List ℕ
variables_of os = variables_from (first_cell os) os

-- the first cell of all data, and the first of all frames
abbrev pub data_at : List Contents → ℕ
data_at os = first_cell os + cells_of os

abbrev pub frames_of : List Contents → ℕ
frames_of os = data_at os + data_of os

-- ---- procedures, numbered through all objects

abbrev pub count_of : List Contents → ℕ
count_of [] = 0
count_of (o ∷ os) = length o.procedures + count_of os

-- the number of each object's body, where those of all begin with a number
abbrev pub bodies_from : (n : ℕ) → List Contents → List ℕ
bodies_from n [] = []
bodies_from n (o ∷ os) = n ∷ bodies_from (n + length o.procedures) os

abbrev pub bodies_of : List Contents → List ℕ
bodies_of os = bodies_from 0 os

-- the number of procedure k of object m
abbrev pub number_of : List Contents → (m k : ℕ) → ℕ
number_of os m k = slice_index_or (bodies_of os) m 0 + k

-- ---- a procedure's instructions and where they stand in its code

pub record Spot : Type 0 where
  pub at : ℕ
  pub instr : Instr

abbrev pub spots : (at : ℕ) → List Instr → List Spot
spots at [] = []
spots at (i ∷ is) = record { at = at; instr = i } ∷ spots (at + size i) is

-- the number of the instruction at a place
abbrev pub instr_at : List Spot → ℤ → ℕ
instr_at [] to = 0
instr_at (s ∷ ss) to = if same_place to s.at then 0 else suc (instr_at ss to)

-- A procedure of the program: the number of its object, that object, its number in it, the first cell of its data, and
-- its instructions.
pub record Block : Type 0 where
  pub «module» : ℕ
  pub object : Contents
  pub number : ℕ
  pub text : ℕ
  pub procedure : Procedure
  pub instrs : List Instr

pub record IsBlock (m : ℕ) (o : Contents) (k text : ℕ) (p : Procedure) (b : Block) : Type 0 where
  pub module_is : b.«module» ≡ m
  pub object_is : b.object ≡ o
  pub number_is : b.number ≡ k
  pub text_is : b.text ≡ text
  pub procedure_is : b.procedure ≡ p
  pub instrs : AreInstrs p.code b.instrs

-- the procedures of object m, the first of which has number k and its data in a cell
abbrev pub AreBlocksOf : (m : ℕ) → Contents → (k text : ℕ) → List Procedure → List Block → Type 0
AreBlocksOf m o k text [] bs = bs ≡ []
AreBlocksOf m o k text (p ∷ ps) bs =
    (b : Block) × (rest : List Block) × (bs ≡ b ∷ rest) × IsBlock m o k text p b
    × AreBlocksOf m o (suc k) (text + length p.bytes) ps rest

-- the procedures of objects, the first of which has number m and its data in a cell
abbrev pub AreBlocks : (m text : ℕ) → List Contents → List Block → Type 0
AreBlocks m text [] bs = bs ≡ []
AreBlocks m text (o ∷ os) bs =
    (own : List Block) × (rest : List Block) × (bs ≡ own ++ rest) × AreBlocksOf m o 0 text o.procedures own
    × AreBlocks (suc m) (text + data_in o.procedures) os rest

-- what each block gives, from its first place on, one after another
abbrev pub flat : {A : Type 0} → ((start number : ℕ) → Block → List A) → (start number : ℕ) → List Block → List A
flat f start number [] = []
flat f start number (b ∷ bs) = f start number b ++ flat f (start + length b.instrs) (suc number) bs

-- ---- what imports name

-- the number of the object with a name
abbrev pub object_at : List Contents → List ℕ → ℕ
object_at [] name = 0
object_at (o ∷ os) name = if bytes_eq o.name name then 0 else suc (object_at os name)

abbrev pub owner_of : List Contents → Import → Owner
owner_of os i = if is_in_out i.name then owners.InOut else owners.Object (object_at os i.name)

abbrev pub owners_of : List Contents → Contents → List Owner
owners_of os o = map (λ i. owner_of os i) (definitions_of o)

-- the owner of what an instruction names by i: its own object, or that of import i - 1
abbrev pub owner_named : (m : ℕ) → List Owner → (i : ℕ) → Owner
owner_named m os zero = owners.Object m
owner_named m os (suc i) = unwrap_or (slice_get os i) owners.InOut

abbrev pub exported_or : Option Export → ℕ
exported_or None = 0
exported_or (Some e) = e.0

abbrev pub exported_in : Option Contents → (k : ℕ) → ℕ
exported_in None k = 0
exported_in (Some o) k = exported_or (slice_get o.exports k)

-- the procedure of an object's heading k
abbrev pub heading_of : List Contents → (x k : ℕ) → ℕ
heading_of os x k = number_of os x (exported_in (slice_get os x) k)

-- a cell
abbrev pub cell_of : List Contents → Owner → (o : ℕ) → ℕ
cell_of os owners.InOut o = 1 + o
cell_of os (owners.Object x) o = slice_index_or (variables_of os) x 0 + o

-- A heading as a value: the procedures of all objects are numbered from 1, and InOut's follow.
abbrev pub heading_value : List Contents → Owner → (k : ℕ) → ℕ
heading_value os owners.InOut k = 1 + count_of os + k
heading_value os (owners.Object x) k = 1 + heading_of os x k

-- a procedure as a value
abbrev pub value_of : List Contents → (m : ℕ) → List Owner → (i k : ℕ) → ℕ
value_of os m named zero k = 1 + number_of os m k
value_of os m named (suc i) k = heading_value os (owner_named m named (suc i)) k

abbrev pub service_of : Option Service → Op
service_of None = op.Halt
service_of (Some v) = op.CallService v

-- a call of a heading
abbrev pub call_of : List Contents → Owner → (k : ℕ) → Op
call_of os owners.InOut k = service_of (slice_get services k)
call_of os (owners.Object x) k = op.Call (heading_of os x k) 0

-- ---- the operation of an instruction

abbrev pub kind_of : ℕ → Kind
kind_of zero = kinds.Integer
kind_of (suc n) = kinds.Cardinal

abbrev pub trap_of : ℕ → Trap
trap_of c = if c == 7 then traps.Result else traps.Case

-- Where an instruction stands: the number of its object, who has what that object's imports name, the first cell of
-- its procedure's data, the first place of its procedure, and that procedure's instructions.
pub record Site : Type 0 where
  pub «module» : ℕ
  pub named : List Owner
  pub text : ℕ
  pub start : ℕ
  pub all : List Spot

-- where an instruction jumps to
abbrev pub target_of : Site → Spot → ℤ → ℕ
target_of t s j = t.start + instr_at t.all (pos (s.at + size s.instr) +ℤ j)

-- The operation of an instruction: names are found, jumps have their targets, all else stays.
abbrev pub op_by : List Contents → Site → Spot → Instr → Op
op_by os t s (instr.Push v) = op.Push v
op_by os t s (instr.Local h o) = op.Local h o
op_by os t s (instr.Global i o) = op.Push (pos (cell_of os (owner_named t.«module» t.named i) o))
op_by os t s (instr.Str o) = op.Push (pos (t.text + o))
op_by os t s instr.Load = op.Load
op_by os t s instr.Store = op.Store
op_by os t s (instr.Move n) = op.Move n
op_by os t s instr.Dup = op.Dup
op_by os t s (instr.Offset n) = op.Offset n
op_by os t s (instr.Index low n size) = op.Index low n size
op_by os t s (instr.IndexOpen size) = op.IndexOpen size
op_by os t s (instr.Check low high) = op.Check low high
op_by os t s instr.Nil = op.Nil
op_by os t s (instr.Add b) = op.Add (kind_of b)
op_by os t s (instr.Sub b) = op.Sub (kind_of b)
op_by os t s (instr.Mul b) = op.Mul (kind_of b)
op_by os t s (instr.Div b) = op.Div (kind_of b)
op_by os t s (instr.Mod b) = op.Mod (kind_of b)
op_by os t s instr.Neg = op.Neg
op_by os t s instr.Abs = op.Abs
op_by os t s instr.Not = op.Not
op_by os t s instr.Eq = op.Eq
op_by os t s instr.Ne = op.Ne
op_by os t s instr.Lt = op.Lt
op_by os t s instr.Le = op.Le
op_by os t s instr.Gt = op.Gt
op_by os t s instr.Ge = op.Ge
op_by os t s instr.Union = op.Union
op_by os t s instr.Diff = op.Diff
op_by os t s instr.Inter = op.Inter
op_by os t s instr.SymDiff = op.SymDiff
op_by os t s instr.Subset = op.Subset
op_by os t s instr.Superset = op.Superset
op_by os t s instr.In = op.In
op_by os t s instr.Bit = op.Bit
op_by os t s instr.Span = op.Span
op_by os t s (instr.Jump j) = op.Jump (target_of t s j)
op_by os t s (instr.JumpFalse j) = op.JumpFalse (target_of t s j)
op_by os t s (instr.AndJump j) = op.AndJump (target_of t s j)
op_by os t s (instr.OrJump j) = op.OrJump (target_of t s j)
op_by os t s (instr.More c) = op.More c
op_by os t s (instr.Call k h) = op.Call (number_of os t.«module» k) h
op_by os t s (instr.CallX i k) = call_of os (owner_named t.«module» t.named i) k
op_by os t s (instr.CallVar n r) = op.CallVar n r
op_by os t s (instr.Proc i k) = op.Push (pos (value_of os t.«module» t.named i k))
op_by os t s instr.Return = op.Return
op_by os t s (instr.Trap c) = op.Trap (trap_of c)
op_by os t s (instr.New n) = op.New n
op_by os t s (instr.OpenCopy o size) = op.OpenCopy o size
op_by os t s instr.Halt = op.Halt
op_by os t s instr.Cap = op.Cap

-- ---- the code

abbrev pub site_of : List Contents → (start : ℕ) → Block → Site
site_of os start b = record {
  «module» = b.«module»;
  named = owners_of os b.object;
  text = b.text;
  start = start;
  all = spots 0 b.instrs;
}

abbrev pub block_ops : List Contents → (start number : ℕ) → Block → List Op
block_ops os start number b = map (λ s. op_by os (site_of os start b) s s.instr) (spots 0 b.instrs)

abbrev pub block_origins : (start number : ℕ) → Block → List Origin
block_origins start number b =
    map (λ s. record { «module» = b.«module»; procedure = b.number; offset = s.at }) (spots 0 b.instrs)

abbrev pub routine_of : List Contents → (start : ℕ) → Block → Routine
routine_of os start b =
    record {
      entry = start;
      params = b.procedure.params;
      result = b.procedure.result;
      locals = b.procedure.locals;
      high = b.procedure.high;
      outer = if b.procedure.outer == 0 then None else Some (number_of os b.«module» b.procedure.outer);
    }

abbrev pub routines_from : List Contents → (start : ℕ) → List Block → List Routine
routines_from os start [] = []
routines_from os start (b ∷ bs) = routine_of os start b ∷ routines_from os (start + length b.instrs) bs

-- the code of objects in running order
pub record IsLoaded (os : List Contents) (p : Program) : Type 0 where
  pub blocks : List Block
  pub are : AreBlocks 0 (data_at os) os blocks
  pub ops : p.ops ≡ flat (block_ops os) 0 0 blocks
  pub origins : p.origins ≡ flat block_origins 0 0 blocks
  pub routines : p.routines ≡ routines_from os 0 blocks
  pub bodies : p.bodies ≡ bodies_of os
  pub frames_at : p.frames_at ≡ frames_of os
  pub has_in_out : p.has_in_out ≡ imports_in_out os

-- ---- the first state

abbrev pub data_cells : List Procedure → List ℤ
data_cells [] = []
data_cells (p ∷ ps) = map pos p.bytes ++ data_cells ps

abbrev pub all_data : List Contents → List ℤ
all_data [] = []
all_data (o ∷ os) = data_cells o.procedures ++ all_data os

-- so many cells, all 0 but those of the data
abbrev pub first_cells : List Contents → (size : ℕ) → List ℤ
first_cells os size = (replicate (data_at os) (pos 0) ++ all_data os) ++ replicate (size - frames_of os) (pos 0)

-- before the first body has begun
abbrev pub blank : List Contents → (size : ℕ) → State
blank os size =
    record {
      at = 0;
      base = frames_of os;
      top = frames_of os;
      link = 0;
      heap = size;
      operands = [];
      cells = first_cells os size;
      frames = [];
      kept = None;
    }

-- The first body begins: what is run from, or want of memory for its frame.
abbrev pub begun : List Contents → Program → (size : ℕ) → Next
begun os p size = next_body p (slice_get p.bodies 0) (blank os size)
