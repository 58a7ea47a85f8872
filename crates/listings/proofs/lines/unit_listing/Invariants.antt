use Rattle.std.proofs.Common.{◌≡◌, take}
use Rattle.listings.specs.Listing.{unit_listing}
use Rattle.listings.proofs.lines.unit_listing.Given as goal

abbrev pub invariant-loop-diag : goal.invariant-loop-diag
invariant-loop-diag l = l.listing.items ≡ unit_listing l.texts (take l.diag-index l.diags)
