-- The labels of an arm, as the code looks at them.
use Rattle.std.specs.Prelude.{ℕ, ℤ, Bool, true, false, List, [], ◌∷◌, Option, Some, None, if◌then◌else◌, ◌&&◌}
use Rattle.std.specs.Prelude.{option_map}
use Rattle.m2_base.specs.Gives.{Gives, and_then, gives}
use Rattle.m2_base.specs.States.{Frame}
use Rattle.m2_base.specs.Statics.CaseLabels.{CaseLabels, LabelTest, case_labels, cover, taken_label}
use Rattle.m2_base.specs.Statics.Compatible.{is_compatible}
use Rattle.m2_base.specs.Statics.Constants.{constant_of}
use Rattle.m2_base.specs.Statics.Contexts.{Context, refuse}
use Rattle.m2_base.specs.Statics.Diagnostics.{wrong_label}
use Rattle.m2_base.specs.Statics.Operands.{constant_of_operand}
use Rattle.m2_base.specs.Statics.Ranges.{Range, range}
use Rattle.m2_base.specs.Statics.Types.{is_broken}
use Rattle.m2_base.specs.Trees.{Label, expr_at, one_label, range_label}
use Rattle.m2_base.specs.declared.notes.Diag.{Diag}
use Rattle.m2_base.specs.declared.operands.Operand.{Operand}
use Rattle.m2_base.specs.declared.operands.Operand.TheVariants.{Computed}
use Rattle.m2_base.specs.declared.rows.Place.{Place}
use Rattle.case_labels.specs.Seen.{test_seen}
use Rattle.case_labels.specs.declared.labels.OneLabel.{OneLabel}
use Rattle.case_labels.specs.declared.values.LabelValues.{LabelValues}
use Rattle.case_labels.specs.declared.values.LabelValues.TheVariants.{Nothing, Values, Wrong}

-- any value may stand
abbrev pub IsAny : {T : Type 0} → Frame → T → Type 0
IsAny f v = Unit {0}

-- the constants of a label: both ends of a range, or one value twice
abbrev pub ends_in : Context → Label → Gives (Option Operand × Option Operand)
ends_in c (one_label e) = and_then (constant_of c e) (λ x. gives (x, x))
ends_in c (range_label low high) =
    and_then (constant_of c low) (λ x. and_then (constant_of c high) (λ y. gives (x, y)))

-- the first token of a label
abbrev pub label_at : Label → ℕ
label_at (one_label e) = expr_at e
label_at (range_label low high) = expr_at low

-- the values from one constant to another, where both are values
abbrev pub values_of : Option ℤ → Option ℤ → LabelValues
values_of (Some v) (Some w) = Values v w
values_of x y = Nothing

-- the ends of a label beside the type, where both are compatible with it
abbrev pub values_by : Option (Operand × Operand) → Option (Operand × Operand) → LabelValues
values_by (Some p) (Some q) = values_of (constant_of_operand p.0) (constant_of_operand q.0)
values_by x y = Wrong

-- what constant ends stand for beside a type that isn't in error
abbrev pub values_beside : Context → Place → Operand → Operand → LabelValues
values_beside c t x y =
    if is_compatible c.scene x (Computed t) && is_compatible c.scene y (Computed t) then
    values_of (constant_of_operand (taken_label c t x)) (constant_of_operand (taken_label c t y))
    else Wrong

-- what a label with these ends stands for
abbrev pub values_in : Context → Place → Option Operand × Option Operand → LabelValues
values_in c t (Some x, Some y) = if is_broken c.scene t then Nothing else values_beside c t x y
values_in c t other = Nothing

-- what is noted of a label that is wrong
abbrev pub label_fault : (text at : ℕ) → Diag
label_fault text at = record { text = text; at = at; code = wrong_label }

-- the test of a label that is a range or not
abbrev pub test_of : (ranged : Bool) → (low high : ℤ) → LabelTest
test_of ranged low high = record { low = low; high = if ranged then Some high else None }

-- a label with the ranges that are covered with it; one that has no test isn't right
abbrev pub one_label_of : Option LabelTest → List Range → CaseLabels
one_label_of None covered = case_labels false [] covered
one_label_of (Some test) covered = case_labels true (test ∷ []) covered

-- the same, of the value that the code has
abbrev pub one_seen : OneLabel → CaseLabels
one_seen x = one_label_of (option_map test_seen x.test) x.covered

-- a label by what it stands for
abbrev pub covered_by : Context → (at : ℕ) → (ranged : Bool) → List Range → LabelValues → Gives CaseLabels
covered_by c at ranged covered Nothing = gives (case_labels false [] covered)
covered_by c at ranged covered Wrong = refuse c at wrong_label (case_labels false [] covered)
covered_by c at ranged covered (Values low high) = cover c at (test_of ranged low high) (range low high) covered

-- whether a label is a range
abbrev pub is_ranged : Label → Bool
is_ranged (one_label e) = false
is_ranged (range_label low high) = true
