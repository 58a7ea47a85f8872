use Rattle.std.proofs.Common.{◌∙◌, not, Bool, ap, sym, if◌then◌else◌}
use Rattle.expr_sem.specs.Codings.{coded_in}
use Rattle.expr_sem.specs.Fragments.{part}
use Rattle.block_code.specs.Counting.{for_more, for_test}
use Rattle.stmt_sem.specs.FlowTrees.{flow_in}
use Rattle.block_code.specs.Flows.{counted}
use Rattle.stmt_sem.proofs.counting.emit_turns.Goals as goal

pub returns-then-is_bad : goal.returns-then-is_bad
returns-then-is_bad c =
    let ns = c.args.fragments.now.nodes.items in
    let x = coded_in ns c.args.x in
    record {
      there = c.requires.body;
      flow_is = λ t. ap (λ (b : Bool). if not b then counted (for_test t x c.args.by) (flow_in ns c.args.body t) (for_more t x c.args.by) (part ns c.args.step) else flow_in ns c.args.body t) (sym c.if-is_bad.true ∙ c.is_bad.ensures);
    }
