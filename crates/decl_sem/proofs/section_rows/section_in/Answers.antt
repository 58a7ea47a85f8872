use Rattle.std.specs.Prelude.{◌≡◌, Ok, Err}
use Rattle.std.proofs.Common.{rules}
use Rattle.m2_base.specs.declared.replies.Ask.TheVariants.{Known}
use Rattle.m2_base.specs.Statics.Shapes.{open_shapes}
use Rattle.decl_sem.proofs.ParameterLists as parameters
use Rattle.decl_sem.proofs.Pieces.{making_front, waiting}
use Rattle.decl_sem.proofs.SectionLists.{names_making, section_piece, type_stands}
use Rattle.decl_sem.proofs.section_rows.section_in.Goals as goal

pub parameter_type-requires-clause-making : goal.parameter_type-requires-clause-making
parameter_type-requires-clause-making g c = making_front (open_shapes c.args.section.now.is_open c.args.section.now.of) (parameters.shapes c.args.section.now.names.items) c.requires.making

pub put_parameters-requires-clause-making : goal.put_parameters-requires-clause-making
put_parameters-requires-clause-making g c =
    let same : c.deref.result.now ≡ c.args.section.now.names.items = search rules in
    names_making c.args.section.now c.deref.result.now same c.requires.making (rw c.in-Ok-Known.field-0-is at c.in-Ok-Known.ensures)

pub put_parameters-requires-clause-of : goal.put_parameters-requires-clause-of
put_parameters-requires-clause-of g c = type_stands (rw c.in-Ok-Known.field-0-is at c.in-Ok-Known.ensures)

pub returns-in-Ok : goal.returns-in-Ok
returns-in-Ok g c =
    let same : c.deref.result.now ≡ c.args.section.now.names.items = search rules in
    section_piece c.args.own c.args.section.now c.deref.result.now (Ok (Known c.in-Ok.done)) same c.requires.making (rw c.in-Ok-Known.field-0-is at c.in-Ok-Known.ensures) c.in-Ok.ensures

pub returns-in-Err-put_parameters : goal.returns-in-Err-put_parameters
returns-in-Err-put_parameters g c =
    let same : c.deref.result.now ≡ c.args.section.now.names.items = search rules in
    section_piece c.args.own c.args.section.now c.deref.result.now (Err c.in-Err-put_parameters.memory) same c.requires.making (rw c.in-Ok-Known.field-0-is at c.in-Ok-Known.ensures) c.in-Err-put_parameters.ensures

pub returns-in-Ok-DontKnowYet : goal.returns-in-Ok-DontKnowYet
returns-in-Ok-DontKnowYet g c = waiting (rw c.in-Ok-DontKnowYet.field-0-is at c.in-Ok-DontKnowYet.ensures)
