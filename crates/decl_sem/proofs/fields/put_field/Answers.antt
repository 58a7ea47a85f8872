use Rattle.std.specs.Prelude.{[]}
use Rattle.m2_base.specs.Statics.Fields.{field_row}
use Rattle.decl_sem.proofs.FieldNames.{field_unnoted, one_field, second_noted}
use Rattle.decl_sem.proofs.Pieces.{making_front}
use Rattle.decl_sem.proofs.fields.put_field.Goals as goal

pub returns-in-Err : goal.returns-in-Err
returns-in-Err g c =
    field_unnoted (g.S.Scopes.state c.args.scopes.now) c.args.made.now c.args.site.now c.in-Err.memory (λ k. field_row k c.args.own c.args.name c.args.of c.args.offset) c.note_second.ensures.answers c.note_second.ensures.diags

pub returns : goal.returns
returns g c =
    one_field c.note_second.new.notes _ c.args.own c.args.name c.args.of c.args.offset c.requires.making
    (second_noted (g.S.Scopes.state c.args.scopes.now) c.args.made.now c.args.site.now c.args.own c.args.name c.has_field-second.result c.requires.behind (making_front [] _ c.requires.making)
    c.has_field-second.ensures
    c.in-Ok.ensures.noted c.note_second.ensures.diags c.note_second.ensures.answers)
    c.plain_row.ensures
