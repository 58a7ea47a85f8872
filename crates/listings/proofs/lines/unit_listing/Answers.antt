use Rattle.std.proofs.Common.{◌∙◌, ap}
use Rattle.std.specs.List.{flat_map, slice_get}
use Rattle.std.proofs.lemmas.List.{take_all}
use Rattle.std.proofs.lemmas.Result.{IfOk-from_err}
use Rattle.m2_base.specs.declared.notes.Diag.{Diag}
use Rattle.listings.specs.Listing.{line_in}
use Rattle.listings.proofs.EachLine.{one_more}
use Rattle.listings.proofs.lines.unit_listing.Goals as goal

pub loop-diag-preserved : goal.loop-diag-preserved
loop-diag-preserved c =
    let u = c.args.texts.now in
    one_more (λ (diag : Diag). line_in u.names (slice_get u.list diag.text) diag) c.args.diags.now c.loop-diag.diag-index _ c.loop-diag.listing.items _
    c.loop-diag-test.true (c.in_ok-push_unit_line.ensures) c.loop-diag.invariant

pub returns : goal.returns
returns c =
    let u = c.args.texts.now in
    c.loop-diag.invariant ∙ ap (flat_map (λ (diag : Diag). line_in u.names (slice_get u.list diag.text) diag)) (take_all c.loop-diag.diag-index c.args.diags.now c.loop-diag-test.false)

pub returns-in_err-push_unit_line : goal.returns-in_err-push_unit_line
returns-in_err-push_unit_line c = IfOk-from_err c.from_residual.result _ c.from_residual.ensures.0
