-- Flows as trees: the code of statements that each stands for, among the fragments made so far. What a flow stands for
-- is known once it is told the temporary cell of the statement that it is a part of; the flow of a whole statement is
-- the same for every cell.
use Rattle.std.specs.Prelude.{◌≡◌, ℕ, List, [], ◌∷◌, map, Option, Some, None, Result, Ok, Err}
use Rattle.std.specs.declared.alloc.Global.{Global}
use Rattle.std.specs.declared.boxed.Box.{Box}
use Rattle.m2_base.specs.declared.memory.Memory.{Memory}
use Rattle.code_form.specs.declared.instr.Instr.TheVariants.{Load, Local, Store}
use Rattle.expr_sem.specs.Fragments.{IsIn, part}
use Rattle.block_code.specs.Parts.{Part, Spot, plain, steps_size, ◌⨟◌}
use Rattle.expr_sem.specs.declared.fragments.Node.{Node}
use Rattle.block_code.specs.Cases.{labels_code}
use Rattle.block_code.specs.Flows as flow
use Rattle.block_code.specs.Flows.{counted, exit, for_ever, in_with, nothing, straight, until_true, while_true}
use Rattle.block_code.specs.Flows.{with_cell, ◌⨾◌}
use Rattle.block_code.specs.Statements.{arm_before, flow_or_nothing}
use Rattle.stmt_sem.specs.declared.flows.Arm.{Arm}
use Rattle.stmt_sem.specs.declared.flows.Code.{Code}
use Rattle.stmt_sem.specs.declared.flows.Code.TheVariants.{Fixed, Stored, Compared, Labels}
use Rattle.stmt_sem.specs.declared.flows.Flow.{Flow}
use Rattle.stmt_sem.specs.declared.flows.Turns.{Turns}
use Rattle.stmt_sem.specs.declared.flows.FlowForm.{FlowForm, Nothing, Straight, Block', Exit, Choice', WhileTrue'}
use Rattle.stmt_sem.specs.declared.flows.FlowForm.{UntilTrue', ForEver', Counted', WithCell', InWith', Row_of-Flow}
use Rattle.stmt_sem.specs.declared.flows.FlowForm.{end_of-Flow, more_of-Flow, Row_of-Arm, end_of-Arm, more_of-Arm}
use Rattle.stmt_sem.specs.declared.flows.FlowForm.{Held-FlowForm-Choice-1, None', Some'}
use Rattle.case_labels.specs.Seen.{test_seen}

-- a statement's own code, by the cell of the statement
abbrev pub code_by : List Node → Code → (cell : ℕ) → Part
code_by ns (Fixed f) t = part ns f
code_by ns (Stored f) t = plain (Local 0 t ∷ []) ⨟ part ns f ⨟ plain (Store ∷ [])
code_by ns (Compared f i) t = part ns f ⨟ plain (Load ∷ Local 0 t ∷ Load ∷ i ∷ [])
code_by ns (Labels ls) t = labels_code t (map test_seen ls.items)

-- what a statement's code is, by the cell of the statement
abbrev pub CellFlow : Type 0
CellFlow = (cell : ℕ) → flow.Flow

-- ---- what flows stand for

abbrev mutual
  -- what is made so
  pub form_in : List Node → FlowForm → (cell : ℕ) → flow.Flow
  form_in ns Nothing t = nothing
  form_in ns (Straight c) t = straight (code_by ns c t)
  form_in ns (Block' p xs) t = row_in ns xs t
  form_in ns Exit t = exit
  form_in ns (Choice' p arms other) t = flow_or_nothing (arm_row_in ns arms t (held_in ns other t))
  form_in ns (WhileTrue' c p x n) t = while_true (part ns c) (form_in ns x t)
  form_in ns (UntilTrue' p x n c) t = until_true (form_in ns x t) (part ns c)
  form_in ns (ForEver' p x n) t = for_ever (form_in ns x t)
  form_in ns (Counted' p first x n again step) t =
      counted (code_by ns first t) (form_in ns x t) (code_by ns again t) (part ns step)
  form_in ns (WithCell' p x n) t = with_cell (λ u. form_in ns x u)
  form_in ns (InWith' p x n) t = in_with t (form_in ns x t)

  -- one after another
  pub row_in : {k : _} → List Node → Row_of-Flow k → (cell : ℕ) → flow.Flow
  row_in ns end_of-Flow t = nothing
  row_in ns (more_of-Flow x n xs) t = form_in ns x t ⨾ row_in ns xs t

  -- what arms make before what follows them, if anything does
  pub arm_row_in : {k : _} → List Node → Row_of-Arm k → (cell : ℕ) → Option flow.Flow → Option flow.Flow
  arm_row_in ns end_of-Arm t other = other
  arm_row_in ns (more_of-Arm c x n arms) t other =
      arm_before (code_by ns c t) (form_in ns x t) (arm_row_in ns arms t other)

  -- what stands where no arm is taken
  pub held_in : List Node → Held-FlowForm-Choice-1 → (cell : ℕ) → Option flow.Flow
  held_in ns None' t = None
  held_in ns (Some' p x n) t = Some (form_in ns x t)

-- a flow
abbrev pub flow_in : List Node → Flow → CellFlow
flow_in ns x t = form_in ns x.form t

-- flows one after another
abbrev pub block_among : List Node → List Flow → CellFlow
block_among ns [] t = nothing
block_among ns (x ∷ xs) t = flow_in ns x t ⨾ block_among ns xs t

-- what arms make before what follows them, if anything does
abbrev pub arms_among : List Node → List Arm → (cell : ℕ) → Option flow.Flow → Option flow.Flow
arms_among ns [] t other = other
arms_among ns (a ∷ others) t other =
    arm_before (code_by ns a.test t) (flow_in ns a.body t) (arms_among ns others t other)

-- what stands where no arm is taken
abbrev pub other_among : List Node → Option (Box Flow Global) → (cell : ℕ) → Option flow.Flow
other_among ns None t = None
other_among ns (Some x) t = Some (flow_in ns x.value t)

-- the first arm whose test holds, else what stands where none does
abbrev pub choice_among : List Node → List Arm → Option (Box Flow Global) → CellFlow
choice_among ns arms other t = flow_or_nothing (arms_among ns arms t (other_among ns other t))

-- the same where something does
abbrev pub arms_or : List Node → List Arm → CellFlow → CellFlow
arms_or ns arms other t = flow_or_nothing (arms_among ns arms t (Some (other t)))

-- a loop that counts
abbrev pub turns_in : List Node → Turns → CellFlow
turns_in ns x t = counted (code_by ns x.first t) (flow_in ns x.body t) (code_by ns x.again t) (part ns x.step)

-- ---- which flows are right

-- so many bytes of code, wherever it stands
abbrev pub Measures : CellFlow → ℕ → Type 0
Measures f n = (cell : ℕ) → flow.HasSize (f cell) n

-- so many bytes of a statement's own code, wherever it stands
abbrev pub MeasuresPart : ((cell : ℕ) → Part) → ℕ → Type 0
MeasuresPart p n = (cell : ℕ) (at : Spot) → steps_size (p cell at).code ≡ n

-- code of a statement's own is made of these fragments
abbrev pub IsCodeOf : List Node → Code → Type 0
IsCodeOf ns (Fixed f) = IsIn ns f
IsCodeOf ns (Stored f) = IsIn ns f
IsCodeOf ns (Compared f i) = IsIn ns f
IsCodeOf ns (Labels ls) = Unit {0}

abbrev mutual
  -- a form is made of these fragments, and the size of each flow in it is the length of its code
  pub IsFormOver : List Node → FlowForm → Type 0
  IsFormOver ns Nothing = Unit {0}
  IsFormOver ns (Straight c) = IsCodeOf ns c
  IsFormOver ns (Block' p xs) = AreRowOver ns xs
  IsFormOver ns Exit = Unit {0}
  IsFormOver ns (Choice' p arms other) = AreArmRowOver ns arms × IsHeldOver ns other
  IsFormOver ns (WhileTrue' c p x n) = IsIn ns c × (IsFormOver ns x × Measures (form_in ns x) n)
  IsFormOver ns (UntilTrue' p x n c) = (IsFormOver ns x × Measures (form_in ns x) n) × IsIn ns c
  IsFormOver ns (ForEver' p x n) = IsFormOver ns x × Measures (form_in ns x) n
  IsFormOver ns (Counted' p first x n again step) =
      IsCodeOf ns first × (IsFormOver ns x × Measures (form_in ns x) n) × IsCodeOf ns again × IsIn ns step
  IsFormOver ns (WithCell' p x n) = IsFormOver ns x × Measures (form_in ns x) n
  IsFormOver ns (InWith' p x n) = IsFormOver ns x × Measures (form_in ns x) n

  -- so are flows
  pub AreRowOver : {k : _} → List Node → Row_of-Flow k → Type 0
  AreRowOver ns end_of-Flow = Unit {0}
  AreRowOver ns (more_of-Flow x n xs) = (IsFormOver ns x × Measures (form_in ns x) n) × AreRowOver ns xs

  -- arms
  pub AreArmRowOver : {k : _} → List Node → Row_of-Arm k → Type 0
  AreArmRowOver ns end_of-Arm = Unit {0}
  AreArmRowOver ns (more_of-Arm c x n arms) =
      (IsCodeOf ns c × (IsFormOver ns x × Measures (form_in ns x) n)) × AreArmRowOver ns arms

  -- and what may be missing
  pub IsHeldOver : List Node → Held-FlowForm-Choice-1 → Type 0
  IsHeldOver ns None' = Unit {0}
  IsHeldOver ns (Some' p x n) = IsFormOver ns x × Measures (form_in ns x) n

-- a flow is made of these fragments, and its size is the length of its code
abbrev pub IsOver : List Node → Flow → Type 0
IsOver ns x = IsFormOver ns x.form × Measures (form_in ns x.form) x.size

-- so is one that may be missing
abbrev pub IsOverIfAny : List Node → Option (Box Flow Global) → Type 0
IsOverIfAny ns None = Unit {0}
IsOverIfAny ns (Some x) = IsOver ns x.value

-- so is an arm
abbrev pub IsArmOver : List Node → Arm → Type 0
IsArmOver ns a = IsCodeOf ns a.test × IsOver ns a.body

-- and a loop that counts
abbrev pub IsTurnsOver : List Node → Turns → Type 0
IsTurnsOver ns x = IsCodeOf ns x.first × IsOver ns x.body × IsCodeOf ns x.again × IsIn ns x.step

-- the flow is made of these and stands for this code
pub record IsFlowOf (ns : List Node) (x : Flow) (f : CellFlow) : Type 0 where
  pub there : IsOver ns x
  pub flow_is : (cell : ℕ) → flow_in ns x cell ≡ f cell

-- it was made, or memory was wanted
abbrev pub MadeBy : List Node → Result Flow Memory → CellFlow → Type 0
MadeBy ns (Ok x) f = IsFlowOf ns x f
MadeBy ns (Err m) f = Unit {0}
