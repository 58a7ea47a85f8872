-- Arms of a CASE one after another, as the walk collects them, and the values that they cover.
use Rattle.std.proofs.Math.Path.{fun_ext}
use Rattle.std.proofs.Common.{◌≡◌, ◌∙◌, ◌++◌, ◌∷◌, [], ℕ, List, Some, Result, Ok, Err, ap, map}
use Rattle.std.specs.declared.vec.Vec.{Vec}
use Rattle.std.specs.declared.alloc.Global.{Global}
use Rattle.m2_base.specs.Gives.{Gives}
use Rattle.m2_base.specs.Lists.{Each}
use Rattle.m2_base.specs.States.{Frame, State}
use Rattle.m2_base.specs.Statics.CaseLabels as plain
use Rattle.m2_base.specs.Statics.Contexts.{Context}
use Rattle.m2_base.specs.Statics.Ranges.{Range}
use Rattle.m2_base.specs.declared.memory.Memory.{Memory}
use Rattle.m2_base.specs.declared.notes.Notes.{Notes}
use Rattle.m2_base.specs.declared.replies.Ask.{Ask}
use Rattle.m2_base.specs.declared.replies.Ask.TheVariants.{DontKnowYet, Known}
use Rattle.m2_base.specs.declared.sites.Site.{Site}
use Rattle.const_eval.specs.Analyses.{Analysed}
use Rattle.case_labels.specs.Seen.{AreAny, answer_as, labels_seen, test_seen}
use Rattle.case_labels.specs.declared.labels.CaseLabels.{CaseLabels}
use Rattle.block_code.specs.Cases.{labels_code}
use Rattle.expr_sem.specs.Fragments.{Grows}
use Rattle.expr_sem.specs.declared.fragments.Node.{Node}
use Rattle.expr_sem.proofs.Sequencing.{Grows-refl}
use Rattle.stmt_sem.specs.FlowTrees.{arms_among, flow_in}
use Rattle.stmt_sem.specs.Flowings.{Flowing}
use Rattle.block_code.specs.Flows as flow
use Rattle.block_code.specs.Flows.{choose}
use Rattle.stmt_sem.specs.Stated.{AreArms, IsArm, case_in, cases_in}
use Rattle.block_code.specs.Statements as statements
use Rattle.block_code.specs.Statements.{arm_of, flow_or_nothing}
use Rattle.stmt_sem.specs.declared.flows.Arm.{Arm}
use Rattle.stmt_sem.specs.declared.flows.Code.TheVariants.{Labels}
use Rattle.stmt_sem.specs.declared.flows.Flow.{Flow}
use Rattle.stmt_sem.specs.declared.statements.OneCase.{OneCase}
use Rattle.stmt_sem.proofs.FlowLists.{arms_same}
use Rattle.stmt_sem.proofs.StatementFolds.{behind_case}

-- ---- the labels of an arm

abbrev pub labels_in : List Node → CaseLabels → (cell : ℕ) → plain.CaseLabels
labels_in ns x cell = labels_seen x

abbrev pub AreLabels : Frame → List Node → CaseLabels → Type 0
AreLabels f ns x = Unit {0}

-- labels make no code yet
pub of_labels : {a b : State} {x y : Notes} {s : Site} {g : Context → Gives plain.CaseLabels} (ns : List Node) (answer : Result (Ask CaseLabels) Memory)
    → Analysed a b x y s (answer_as labels_seen answer) AreAny g → Flowing a b x y ns ns s answer AreLabels labels_in g
of_labels ns (Ok (Known v)) p =
    record { works = p.works; waits = tt; grows = Grows-refl ns; told = λ made in_hand told of_site cell. p.told made in_hand told of_site; there = tt }
of_labels ns (Ok (DontKnowYet h)) p = record { works = p.works; waits = p.waits; grows = Grows-refl ns; told = λ made in_hand told of_site. tt; there = tt }
of_labels ns (Err m) p = record { works = p.works; waits = tt; grows = Grows-refl ns; told = λ made in_hand told of_site. tt; there = tt }

-- an arm of its labels and its body
pub arm_given : (ns : List Node) (v : CaseLabels) (body : Flow) (u : plain.CaseLabels) (m : flow.Flow) → labels_seen v ≡ u → ((cell : ℕ) → flow_in ns body cell ≡ m)
    → (cell : ℕ) → case_in ns (record { arm = record { test = Labels v.tests; body = body }; covered = v.covered }) cell ≡ arm_of u m
arm_given ns v body u m eu em cell =
    ap (λ (k : ℕ → flow.Flow → flow.Flow). record { flow = k; covered = v.covered }) (fun_ext (λ t. fun_ext (λ others. ap (λ (b : flow.Flow). choose (labels_code t (map test_seen v.tests.items)) b others) (em t))))
    ∙ ap (λ (l : plain.CaseLabels). arm_of l m) eu

-- ---- arms so far

abbrev pub so_far_in : List Node → Vec Arm Global × List Range → (cell : ℕ) → statements.Arm
so_far_in ns x u = record { flow = λ t others. cases_in ns x.0 u t others; covered = x.1 }

abbrev pub AreSoFar : Frame → List Node → Vec Arm Global × List Range → Type 0
AreSoFar f ns x = AreArms f ns x.0

-- none yet
pub none_so_far : (ns : List Node) (made : Vec Arm Global) (covered : List Range) → made.items ≡ [] → covered ≡ [] → (cell : ℕ) → so_far_in ns (made, covered) cell ≡ record { flow = λ t other. other; covered = [] }
none_so_far ns made covered e n cell =
    ap (λ (xs : List Arm). record { flow = λ (t : ℕ) (others : flow.Flow). flow_or_nothing (arms_among ns xs t (Some others)); covered = covered }) e
    ∙ ap (λ (rs : List Range). record { flow = λ (t : ℕ) (other : flow.Flow). other; covered = rs }) n

-- one more
pub cases_more : {from to : List Node} → Grows from to → (f : Frame) (made more : Vec Arm Global) (covered : List Range) (x : OneCase) → more.items ≡ made.items ++ x.arm ∷ [] → Each (IsArm f from) made.items
    → (u m : statements.Arm) → ((cell : ℕ) → so_far_in from (made, covered) cell ≡ u) → ((cell : ℕ) → case_in to x cell ≡ m) → (cell : ℕ) → so_far_in to (more, x.covered) cell ≡ behind_case u m
cases_more {from} {to} g f made more covered x e h u m eu em cell =
    ap (λ (k : ℕ → flow.Flow → flow.Flow). record { flow = k; covered = x.covered }) (fun_ext (λ t. fun_ext (λ others. ap flow_or_nothing (arms_same g f made more x.arm e h t (Some others)))))
    ∙ ap (λ (b : statements.Arm). behind_case b (case_in to x cell)) (eu cell)
    ∙ ap (λ (a : statements.Arm). behind_case u a) (em cell)
