use Rattle.std.proofs.Common.{[], ◌∷◌, ◌∙◌, ap}
use Rattle.std.proofs.Math.Path.{fun_ext}
use Rattle.code_form.specs.declared.instr.Instr.TheVariants.{Local, Store}
use Rattle.expr_sem.specs.Fragments.{part}
use Rattle.block_code.specs.Parts.{plain, ◌⨟◌}
use Rattle.stmt_sem.specs.FlowTrees.{CellFlow, arms_or, flow_in}
use Rattle.block_code.specs.Flows.{Flow, straight, with_cell, ◌⨾◌}
use Rattle.stmt_sem.specs.declared.flows.Flow.{Flow as FlowOf}
use Rattle.stmt_sem.proofs.FlowsMade.{made_as}
use Rattle.stmt_sem.proofs.flow_parts.case_made.Goals as goal

pub returns : goal.returns
returns c =
    let ns = c.args.fragments.now.nodes.items in
    let choice = c.in_ok-choice.ensures in
    made_as ns c.celled.result c.celled.ensures
    (λ u. ap (λ (f : CellFlow). with_cell f)
    (fun_ext (λ t. ap (λ (f : Flow). straight (plain (Local 0 t ∷ []) ⨟ part ns c.args.value ⨟ plain (Store ∷ [])) ⨾ f)
    (choice.flow_is t ∙ ap (λ (x : FlowOf). arms_or ns c.args.arms.items (flow_in ns x) t) c.in_ok-other.ensures.ok))))
