use Rattle.std.proofs.Common.{◌≡◌, ℕ, ◌+◌, drop}
use Rattle.expr_sem.specs.Pieces.{Begins}
use Rattle.expr_sem.specs.Stacks.{ends_as}
use Rattle.stmt_sem.specs.FlowTrees.{block_among, choice_among, other_among}
use Rattle.stmt_sem.specs.FlowPieces.{Over}
use Rattle.stmt_sem.specs.FlowSizes.{arms_bytes, block_bytes}
use Rattle.block_code.specs.Flows.{part_at}
use Rattle.stmt_sem.proofs.flow_appending.Appender.+flows.Given as goal

-- the bytes behind the entries so far, and with the entries that are left the piece is as if all were appended
abbrev pub invariant-append_block-loop-entry : goal.invariant-append_block-loop-entry
invariant-append_block-loop-entry l =
    let ns = l.self.fragments.now.nodes.items in
    record {
      begins : Begins l.fn.piece l.piece;
      behind : l.behind ≡ l.out + block_bytes (drop l.entry-index l.entries);
      same : ends_as l.piece l.self.withs.now (part_at l.out (block_among ns (drop l.entry-index l.entries) l.self.cell)) ≡ ends_as l.fn.piece l.self.withs.now (part_at l.out (block_among ns l.entries l.self.cell));
    }

-- the bytes of the arms that are left and of what stands where none is taken, and with them the piece is as if all were appended
abbrev pub invariant-append_arms-loop-arm : goal.invariant-append_arms-loop-arm
invariant-append_arms-loop-arm l =
    let ns = l.self.fragments.now.nodes.items in
    record {
      begins : Begins l.fn.piece l.piece;
      left : (k : ℕ) × (l.left ≡ arms_bytes ns (drop l.arm-index l.arms) + k) × ((t : ℕ) → Over (other_among ns l.other t) k);
      same : ends_as l.piece l.self.withs.now (part_at l.out (choice_among ns (drop l.arm-index l.arms) l.other l.self.cell)) ≡ ends_as l.fn.piece l.self.withs.now (part_at l.out (choice_among ns l.arms l.other l.self.cell));
    }
