use Rattle.std.proofs.Common.{ap, ◌∙◌, arith, ◌≡◌, List, Option, None, length, replicate, take}
use Rattle.std.proofs.lemmas.List.{length-replicate}
use Rattle.m2_base.specs.declared.outputs.StreamFault.{StreamFault}
use Rattle.unit_merge.specs.Outputs.{told_by}
use Rattle.unit_merge.proofs.Earliest.{fold_length}
use Rattle.unit_merge.proofs.Parts.{told_low}
use Rattle.unit_merge.proofs.faults.text_faults.Goals as goal

pub note-requires : goal.note-requires
note-requires c =
    let low = told_low c.args.count c.args.outputs.now c.loop-output.output-index c.output-item.result c.in-Some.fault c.requires c.loop-output-test.true c.output-item.is c.in-Some.is in
    let first : List (Option StreamFault) = replicate c.args.count None in
    let long : length c.deref_mut.result.now ≡ c.args.count =
    ap length c.deref_mut.ensures.value ∙ ap length c.loop-output.invariant ∙ fold_length (told_by (take c.loop-output.output-index c.args.outputs.now)) first ∙ length-replicate c.args.count None in
    omega (arith, low, long)
