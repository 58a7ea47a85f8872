use Rattle.std.proofs.Common.{◌∙◌}
use Rattle.type_rules.proofs.Counting.{row_past, row_read}
use Rattle.type_rules.proofs.rows.row_at.Goals as goal

pub returns-in-Known-Some-clause-told : goal.returns-in-Known-Some-clause-told
returns-in-Known-Some-clause-told g c made in_hand told =
    row_read _ _ c.args.around.now c.args.place made c.requires.suits c.requires.there in_hand c.in-Known-Some.row (rw c.in-Known-Some.field-0-is at c.in-Known-Some.ensures) told

pub returns-in-Known-None-clause-told : goal.returns-in-Known-None-clause-told
returns-in-Known-None-clause-told g c made in_hand told =
    c.write_row.ensures
    ∙ row_past _ _ c.args.around.now c.args.place made c.requires.suits c.requires.there in_hand (rw c.in-Known-None.field-0-is at c.in-Known-None.ensures) told
