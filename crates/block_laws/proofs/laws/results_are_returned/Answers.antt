use Rattle.std.specs.Prelude.{[], ◌∷◌, Option, Some}
use Rattle.std.proofs.Common.{ap, sym, ◌∙◌}
use Rattle.m2_base.specs.Standard.{standard_rows}
use Rattle.m2_base.specs.Statics.Blocks.{blocks_of}
use Rattle.m2_base.specs.Statics.Layouts.{layout_of}
use Rattle.m2_base.specs.Statics.UnitNotes.{complete_context}
use Rattle.m2_base.specs.Statics.UnitRows.{unit_rows}
use Rattle.m2_base.specs.Trees.{Heading}
use Rattle.block_code.specs.BlockCode.{bound_result}
use Rattle.row_laws.specs.Results.{BindsItsResult}
use Rattle.row_laws.proofs.Units.{each_block_then, unit_results}
use Rattle.block_laws.specs.Results.{ReturnsItsResult}
use Rattle.block_laws.proofs.laws.results_are_returned.Goals as goal

pub returns : goal.returns
returns c names u is =
    each_block_then (BindsItsResult u) (ReturnsItsResult u) u.source (blocks_of u) (standard_rows ∷ [])
    (λ before b bound behind h cell there.
    bound behind h cell
    ∙ sym (ap (λ (o : Option Heading). bound_result (record (complete_context u.source (unit_rows u) b.block) { layout = layout_of b.tree; item = Some 0 }) o) there))
    (unit_results names u is)
