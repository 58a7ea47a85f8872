use Rattle.m2_base.specs.Statics.BlockRows.{declare_block}
use Rattle.m2_base.specs.Statics.UnitNotes.{complete_context}
use Rattle.block_code.specs.BlockCode.{body_of, stand_of}
use Rattle.block_code.proofs.StatementLaw.{all-flows, run-stands}
use Rattle.block_code.proofs.statements.heights_are_right.Goals as goal

pub returns-clause-statements : goal.returns-clause-statements
returns-clause-statements c = all-flows

pub returns-clause-blocks : goal.returns-clause-blocks
returns-clause-blocks c = λ source before all b.
    let k = complete_context source all b.block in
    run-stands b (declare_block source before b).value (body_of k b).value (all-flows (stand_of k b) b.tree.body)
