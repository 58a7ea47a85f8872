use Rattle.std.proofs.Common.{◌∙◌}
use Rattle.m2_cases.proofs.Samples.{site_full}
use Rattle.m2_cases.proofs.declaring.close.Goals as goal

pub close_check-requires-clause-suits : goal.close_check-requires-clause-suits
close_check-requires-clause-suits c =
    site_full c.requires.block.sample c.requires.full (record { texts = c.site-site.ensures.texts; around = c.site-site.ensures.around ∙ c.requires.block.around })
