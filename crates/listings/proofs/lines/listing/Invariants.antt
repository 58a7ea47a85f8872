use Rattle.std.proofs.Common.{◌≡◌, take}
use Rattle.listings.specs.Listing.{listing}
use Rattle.listings.proofs.lines.listing.Given as goal

abbrev pub invariant-loop-diag : goal.invariant-loop-diag
invariant-loop-diag l = l.listing.items ≡ listing l.file l.tokens (take l.diag-index l.diags)
