use Rattle.std.proofs.Common.{◌∙◌}
use Rattle.m2_base.proofs.KindTables.{kind_in-map}
use Rattle.m2_base.proofs.kind.kind_in.Goals as goal

pub returns : goal.returns
returns c = c.find_kind.ensures ∙ kind_in-map c.args.spelling.now c.args.table.now
