-- How many bytes of code tests of labels, blocks and arms have, entry by entry.
use Rattle.std.specs.Prelude.{ℕ, ◌+◌, List, [], ◌∷◌}
use Rattle.block_code.specs.Parts.{Spot, steps_size}
use Rattle.expr_sem.specs.Fragments.{part}
use Rattle.expr_sem.specs.declared.fragments.Fragment.{Fragment}
use Rattle.expr_sem.specs.declared.fragments.Node.{Node}
use Rattle.block_code.specs.Cases.{label_code}
use Rattle.case_labels.specs.Seen.{test_seen}
use Rattle.stmt_sem.specs.FlowTrees.{code_by}
use Rattle.block_code.specs.Flows.{jump_size}
use Rattle.stmt_sem.specs.declared.flows.Arm.{Arm}
use Rattle.stmt_sem.specs.declared.flows.Code.{Code}
use Rattle.stmt_sem.specs.declared.flows.Flow.{Flow}
use Rattle.case_labels.specs.declared.tests.LabelTest.{LabelTest}

-- a spot, where it doesn't matter which
abbrev pub somewhere : Spot
somewhere = record { cell = 0; byte = 0; withs = [] }

-- a label's test
abbrev pub label_bytes : LabelTest → ℕ
label_bytes l = steps_size (label_code 0 (test_seen l) somewhere).code

-- labels' tests, each with a jump
abbrev pub labels_bytes : List LabelTest → ℕ
labels_bytes [] = 0
labels_bytes (l ∷ ls) = label_bytes l + jump_size + labels_bytes ls

-- flows one after another
abbrev pub block_bytes : List Flow → ℕ
block_bytes [] = 0
block_bytes (x ∷ xs) = x.size + block_bytes xs

-- a statement's own code
abbrev pub code_bytes : List Node → Code → ℕ
code_bytes ns c = steps_size (code_by ns c 0 somewhere).code

-- a fragment
abbrev pub fragment_bytes : List Node → Fragment → ℕ
fragment_bytes ns f = steps_size (part ns f somewhere).code

-- an arm, with a jump past its body and one past what follows it
abbrev pub arm_bytes : List Node → Arm → ℕ
arm_bytes ns a = code_bytes ns a.test + jump_size + a.body.size + jump_size

-- arms one after another
abbrev pub arms_bytes : List Node → List Arm → ℕ
arms_bytes ns [] = 0
arms_bytes ns (a ∷ others) = arm_bytes ns a + arms_bytes ns others
