use Rattle.std.proofs.Common.{◌-◌, Some, ◌∙◌, ap, sym}
use Rattle.m2_base.proofs.StandardLaws.{named_row, standard_scopes}
use Rattle.m2_base.proofs.standard.standard_row.Goals as goal

pub write_row-requires : goal.write_row-requires
write_row-requires c = standard_scopes (c.args.name - 1)

pub returns : goal.returns
returns c = named_row c.args.name _ c.requires ∙ ap Some (sym c.write_row.ensures)
