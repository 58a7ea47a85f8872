use Rattle.std.proofs.Common.{◌≡◌, [], drop, map}
use Rattle.m2_base.specs.Copies.{copy_view}
use Rattle.expr_sem.specs.Stacks.{ends_as}
use Rattle.block_code.specs.BlockCode.{prologue}
use Rattle.stmt_sem.proofs.block_pieces.begun.Given as goal

-- with the copies that are left, the piece is as if all were appended
abbrev pub invariant-loop-copy : goal.invariant-loop-copy
invariant-loop-copy l = ends_as l.piece [] (prologue (map copy_view (drop l.copy-index l.copies))) ≡ ends_as l.initial.piece [] (prologue (map copy_view l.copies))
