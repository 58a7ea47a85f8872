use Rattle.std.proofs.Common.{◌≡◌, List, drop, map}
use Rattle.expr_sem.specs.Pieces.{Begins}
use Rattle.expr_sem.specs.Stacks.{ends_as}
use Rattle.expr_sem.specs.declared.pieces.With.{With}
use Rattle.block_code.specs.Cases.{more_labels_code}
use Rattle.case_labels.specs.Seen.{test_seen}
use Rattle.stmt_sem.proofs.code_appending.push_labels.Given as goal

-- with the tests that are left, the piece is as if all were appended
abbrev pub invariant-loop-label : goal.invariant-loop-label
invariant-loop-label l = record {
  begins : Begins l.initial.piece l.piece;
  same : (ws : List With) → ends_as l.piece ws (more_labels_code l.cell (map test_seen (drop l.label-index l.rest))) ≡ ends_as l.initial.piece ws (more_labels_code l.cell (map test_seen l.rest));
}
