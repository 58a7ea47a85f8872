use Rattle.std.proofs.Common.{sym, ◌∙◌}
use Rattle.m2_base.proofs.KeyLaws.{first_named-keyed}
use Rattle.scope_core.proofs.kept.Kept.first_named.Goals as goal

pub returns : goal.returns
returns c = c.first_keyed.ensures ∙ sym (first_named-keyed c.args.name c.requires c.args.self.now.table.rows 0)
