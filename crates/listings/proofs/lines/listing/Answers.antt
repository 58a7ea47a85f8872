use Rattle.std.proofs.Common.{◌∙◌, ap}
use Rattle.std.specs.List.{flat_map, slice_get}
use Rattle.std.proofs.lemmas.List.{take_all}
use Rattle.std.proofs.lemmas.Result.{IfOk-from_err}
use Rattle.m2_base.specs.declared.notes.Diag.{Diag}
use Rattle.listings.specs.Listing.{line_at}
use Rattle.listings.proofs.EachLine.{one_more}
use Rattle.listings.proofs.lines.listing.Goals as goal

pub loop-diag-preserved : goal.loop-diag-preserved
loop-diag-preserved c =
    one_more (λ (diag : Diag). line_at c.args.file.now (slice_get c.args.tokens.now diag.at) diag.code) c.args.diags.now c.loop-diag.diag-index _ c.loop-diag.listing.items _
    c.loop-diag-test.true (rw c.as_bytes.ensures.value at c.in_ok-push_line.ensures) c.loop-diag.invariant

pub returns : goal.returns
returns c =
    c.loop-diag.invariant ∙ ap (flat_map (λ (diag : Diag). line_at c.args.file.now (slice_get c.args.tokens.now diag.at) diag.code)) (take_all c.loop-diag.diag-index c.args.diags.now c.loop-diag-test.false)

pub returns-in_err-push_line : goal.returns-in_err-push_line
returns-in_err-push_line c = IfOk-from_err c.from_residual.result _ c.from_residual.ensures.0
