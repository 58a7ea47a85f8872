use Rattle.std.proofs.Common.{◌∙◌}
use Rattle.decl_sem.proofs.MadeFields.{field_written}
use Rattle.decl_sem.proofs.making.make_again.Goals as goal

pub put_row-requires-clause-field : goal.put_row-requires-clause-field
put_row-requires-clause-field c own name = field_written own name c.args.meaning c.write_row.ensures ∙ c.field_key-field.ensures own name
