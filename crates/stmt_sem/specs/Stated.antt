-- What the walk over the trees has in hand, as the definitions see it.
use Rattle.std.specs.Prelude.{ℕ, List, [], ◌∷◌, Option, Some, Result, Ok, Err}
use Rattle.m2_base.specs.Lists.{Each}
use Rattle.m2_base.specs.States.{Frame}
use Rattle.m2_base.specs.declared.memory.Memory.{Memory}
use Rattle.m2_base.specs.declared.replies.Ask.{Ask}
use Rattle.m2_base.specs.declared.replies.Ask.TheVariants.{Known}
use Rattle.std.specs.declared.vec.Vec.{Vec}
use Rattle.std.specs.declared.alloc.Global.{Global}
use Rattle.std.specs.declared.boxed.Box.{Box}
use Rattle.expr_sem.specs.declared.fragments.Node.{Node}
use Rattle.stmt_sem.specs.FlowTrees.{IsArmOver, IsOver, IsOverIfAny, arms_among, code_by, flow_in, other_among}
use Rattle.block_code.specs.Flows as flow
use Rattle.block_code.specs.Flows.{◌⨾◌}
use Rattle.block_code.specs.Statements as statements
use Rattle.block_code.specs.Statements.{arm_before, flow_or_nothing}
use Rattle.stmt_sem.specs.declared.flows.Arm.{Arm}
use Rattle.stmt_sem.specs.declared.flows.Flow.{Flow}
use Rattle.stmt_sem.specs.declared.statements.OneCase.{OneCase}

-- a flow that was made, as a known answer
abbrev pub answer_of : Result Flow Memory → Result (Ask Flow) Memory
answer_of (Ok f) = Ok (Known f)
answer_of (Err m) = Err m

-- ---- statements one after another

-- what they make before what follows them
abbrev pub onto : List Node → List Flow → (cell : ℕ) → flow.Flow → flow.Flow
onto ns [] t rest = rest
onto ns (x ∷ xs) t rest = flow_in ns x t ⨾ onto ns xs t rest

abbrev pub block_in : List Node → Vec Flow Global → (cell : ℕ) → flow.Flow → flow.Flow
block_in ns xs t rest = onto ns xs.items t rest

abbrev pub AreFlows : Frame → List Node → Vec Flow Global → Type 0
AreFlows f ns xs = Each (IsOver ns) xs.items

-- ---- an arm of an IF, and arms

abbrev pub arm_in : List Node → Arm → (cell : ℕ) → Option flow.Flow → Option flow.Flow
arm_in ns a t other = arm_before (code_by ns a.test t) (flow_in ns a.body t) other

abbrev pub IsArm : Frame → List Node → Arm → Type 0
IsArm f ns a = IsArmOver ns a

abbrev pub arms_in : List Node → Vec Arm Global → (cell : ℕ) → Option flow.Flow → Option flow.Flow
arms_in ns made t other = arms_among ns made.items t other

abbrev pub AreArms : Frame → List Node → Vec Arm Global → Type 0
AreArms f ns made = Each (IsArm f ns) made.items

-- ---- a flow that stands or doesn't

abbrev pub other_in : List Node → Option (Box Flow Global) → (cell : ℕ) → Option flow.Flow
other_in ns other t = other_among ns other t

abbrev pub IsOther : Frame → List Node → Option (Box Flow Global) → Type 0
IsOther f ns other = IsOverIfAny ns other

-- ---- an arm of a CASE, and arms, before what stands where no label holds

abbrev pub case_in : List Node → OneCase → (cell : ℕ) → statements.Arm
case_in ns x u = record { flow = λ t others. flow_or_nothing (arm_in ns x.arm t (Some others)); covered = x.covered }

abbrev pub IsCase : Frame → List Node → OneCase → Type 0
IsCase f ns x = IsArm f ns x.arm

abbrev pub cases_in : List Node → Vec Arm Global → (cell : ℕ) → (cell : ℕ) → flow.Flow → flow.Flow
cases_in ns made u t others = flow_or_nothing (arms_in ns made t (Some others))
