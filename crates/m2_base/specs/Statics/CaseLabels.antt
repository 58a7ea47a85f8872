-- Labels: the values that an arm of a CASE, or a variant of a record, stands for.
use Rattle.std.specs.List.{list_any}
use Rattle.std.specs.Prelude.{Bool, List, None, Option, Some, [], false, int_le, true, ℕ, ℤ, if◌then◌else◌, ◌∷◌, ◌++◌}
use Rattle.std.specs.Prelude.{◌&&◌}
use Rattle.m2_base.specs.Gives.{Gives, and_then, gives}
use Rattle.m2_base.specs.Rows.{Place}
use Rattle.m2_base.specs.Statics.Compatible.{is_compatible, taken_beside}
use Rattle.m2_base.specs.Statics.Constants.{constant_of}
use Rattle.m2_base.specs.Statics.Contexts.{Context, refuse}
use Rattle.m2_base.specs.Statics.Diagnostics.{wrong_label}
use Rattle.m2_base.specs.Statics.Operands.{constant_of_operand}
use Rattle.m2_base.specs.Statics.Ranges.{Range, range}
use Rattle.m2_base.specs.Statics.Types.{is_broken}
use Rattle.m2_base.specs.Trees.{Label, Labels, expr_at, more_labels, no_labels, one_label, range_label}
use Rattle.m2_base.specs.declared.operands.Operand.TheVariants.{Computed}
use Rattle.m2_base.specs.declared.operands.Operand.{Operand}

-- a label's test: one value or a range
pub record LabelTest : Type 0 where
  pub low : ℤ
  pub high : Option ℤ

-- the labels of one arm: whether all are right, their tests, and the values that are covered with them
pub record CaseLabels : Type 0 where
  pub good : Bool
  pub tests : List LabelTest
  pub covered : List Range

-- whether the labels are right, their tests, and what is covered with them
abbrev pub case_labels : Bool → List LabelTest → List Range → CaseLabels
case_labels good tests covered = record { good = good; tests = tests; covered = covered }

-- two ranges have a value in common
abbrev pub overlaps : Range → Range → Bool
overlaps r s = int_le r.low s.high && int_le s.low r.high

-- values, none where low is above high, that aren't covered yet
abbrev pub cover : Context → (at : ℕ) → LabelTest → Range → List Range → Gives CaseLabels
cover c at test r covered =
    if int_le r.low r.high then
    (if list_any (overlaps r) covered then refuse c at wrong_label (case_labels false [] (r ∷ covered))
    else gives (case_labels true (test ∷ []) (r ∷ covered)))
    else gives (case_labels true (test ∷ []) covered)

-- a label as it is taken beside the type: a string of one character beside a CHAR is a CHAR
abbrev pub taken_label : Context → Place → Operand → Operand
taken_label c t o = taken_beside c.source c.scene o (Computed t)

-- a label of one value
abbrev pub one_test : Context → (at : ℕ) → Option ℤ → List Range → Gives CaseLabels
one_test c at (Some v) covered = cover c at (record { low = v; high = None }) (range v v) covered
one_test c at None covered = gives (case_labels false [] covered)

-- a label of a range
abbrev pub range_test : Context → (at : ℕ) → Option ℤ → Option ℤ → List Range → Gives CaseLabels
range_test c at (Some v) (Some w) covered = cover c at (record { low = v; high = Some w }) (range v w) covered
range_test c at x y covered = gives (case_labels false [] covered)

-- a label must be compatible with the type; labels of a type in error are looked at for their own sake
abbrev pub one_taken : Context → (at : ℕ) → Place → List Range → Option Operand → Gives CaseLabels
one_taken c at t covered None = gives (case_labels false [] covered)
one_taken c at t covered (Some x) =
    if is_broken c.scene t then gives (case_labels false [] covered) else
    if is_compatible c.scene x (Computed t) then one_test c at (constant_of_operand (taken_label c t x)) covered
    else refuse c at wrong_label (case_labels false [] covered)

-- both parts of a range must be compatible with the type
abbrev pub range_taken : Context → (at : ℕ) → Place → List Range → Option Operand → Option Operand → Gives CaseLabels
range_taken c at t covered (Some x) (Some y) =
    if is_broken c.scene t then gives (case_labels false [] covered) else
    if is_compatible c.scene x (Computed t) && is_compatible c.scene y (Computed t) then
    range_test c at (constant_of_operand (taken_label c t x)) (constant_of_operand (taken_label c t y)) covered
    else refuse c at wrong_label (case_labels false [] covered)
range_taken c at t covered x y = gives (case_labels false [] covered)

-- a label, where earlier ones cover these values
abbrev pub label_of : Context → Place → List Range → Label → Gives CaseLabels
label_of c t covered (one_label e) = and_then (constant_of c e) (one_taken c (expr_at e) t covered)
label_of c t covered (range_label low high) =
    and_then (constant_of c low) (λ x.
    and_then (constant_of c high) (λ y.
    range_taken c (expr_at low) t covered x y))

-- labels with those after them
abbrev pub joined : CaseLabels → CaseLabels → CaseLabels
joined l ls = case_labels (l.good && ls.good) (l.tests ++ ls.tests) ls.covered

-- The labels of one arm, where earlier arms cover these values. Each is a constant compatible with the type, and none
-- is covered twice; one that isn't right is refused at its first token.
abbrev pub labels_of : Context → (typ : Place) → (covered : List Range) → Labels → Gives CaseLabels
labels_of c t covered no_labels = gives (case_labels true [] covered)
labels_of c t covered (more_labels l ls) =
    and_then (label_of c t covered l) (λ first.
    and_then (labels_of c t first.covered ls) (λ rest.
    gives (joined first rest)))
