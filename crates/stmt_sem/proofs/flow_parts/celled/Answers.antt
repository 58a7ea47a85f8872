use Rattle.std.proofs.Common.{◌∙◌, ap}
use Rattle.std.proofs.Math.Path.{fun_ext}
use Rattle.stmt_sem.specs.FlowTrees.{CellFlow, flow_in}
use Rattle.block_code.specs.Flows.{Flow, with_cell, ◌⨾◌}
use Rattle.stmt_sem.proofs.FlowsMade.{made_as}
use Rattle.stmt_sem.proofs.flow_parts.celled.Goals as goal

pub returns : goal.returns
returns c =
    let ns = c.args.fragments.now.nodes.items in
    let first = c.in_ok-first.ensures in
    let both = c.in_ok-both.ensures ns first.there c.requires.rest in
    made_as ns c.with_cell.result (c.with_cell.ensures ns both.there)
    (λ u. ap (λ (f : CellFlow). with_cell f) (fun_ext (λ t. both.flow_is t ∙ ap (λ (f : Flow). f ⨾ flow_in ns c.args.rest t) (first.flow_is t))))
