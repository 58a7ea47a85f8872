use Rattle.std.specs.Prelude.{◌≡◌, [], Err}
use Rattle.std.proofs.Common.{rules}
use Rattle.m2_base.specs.Statics.Shapes.{open_shapes, own_section_shapes}
use Rattle.m2_base.specs.Views.{section_view}
use Rattle.decl_sem.proofs.Asking.{first_made}
use Rattle.decl_sem.proofs.OwnHeadings.{names_making, section_piece, section_whole}
use Rattle.decl_sem.proofs.OwnParameterLists.{behind_on}
use Rattle.decl_sem.proofs.Pieces.{failed, making_front, making_on}
use Rattle.decl_sem.proofs.SectionLists.{type_stands}
use Rattle.decl_sem.proofs.VariableLists as variables
use Rattle.decl_sem.proofs.own_headings.section_in.Goals as goal

pub name_in-requires-clause-making : goal.name_in-requires-clause-making
name_in-requires-clause-making g c = making_front [] (own_section_shapes (section_view c.args.section.now)) c.requires.making

pub put_open-requires-clause-making : goal.put_open-requires-clause-making
put_open-requires-clause-making g c =
    let elem = first_made c.in-Ok.is c.in-Known.is c.name_in.ensures in
    let making = making_on {ss = []} {ts = own_section_shapes (section_view c.args.section.now)} tt c.requires.making elem in
    making_front (open_shapes c.args.section.now.is_open c.args.section.now.of) (variables.shapes c.args.section.now.names.items)
    making

pub put_open-requires-clause-of : goal.put_open-requires-clause-of
put_open-requires-clause-of g c =
    let elem = first_made c.in-Ok.is c.in-Known.is c.name_in.ensures in
    type_stands elem

pub parameters_in-requires-clause-making : goal.parameters_in-requires-clause-making
parameters_in-requires-clause-making g c =
    let elem = first_made c.in-Ok.is c.in-Known.is c.name_in.ensures in
    let making = making_on {ss = []} {ts = own_section_shapes (section_view c.args.section.now)} tt c.requires.making elem in
    let same : c.deref.result.now ≡ c.args.section.now.names.items = search rules in
    names_making c.args.section.now c.in-Known.value c.deref.result.now same
    making c.in-Ok-put_open.ensures

pub parameters_in-requires-clause-elem : goal.parameters_in-requires-clause-elem
parameters_in-requires-clause-elem g c =
    let elem = first_made c.in-Ok.is c.in-Known.is c.name_in.ensures in
    behind_on c.in-Known.value c.in-Ok-put_open.ensures (type_stands elem)

pub parameters_in-requires-clause-of : goal.parameters_in-requires-clause-of
parameters_in-requires-clause-of g c = type_stands c.in-Ok-put_open.ensures

pub returns-in-Err-put_open : goal.returns-in-Err-put_open
returns-in-Err-put_open g c =
    let elem = first_made c.in-Ok.is c.in-Known.is c.name_in.ensures in
    section_whole c.args.section.now c.args.from (Err c.in-Err-put_open.memory) c.requires.making elem
    (failed c.in-Err-put_open.ensures c.in-Err-put_open.memory)

pub returns : goal.returns
returns g c =
    let elem = first_made c.in-Ok.is c.in-Known.is c.name_in.ensures in
    let making = making_on {ss = []} {ts = own_section_shapes (section_view c.args.section.now)} tt c.requires.making elem in
    let same : c.deref.result.now ≡ c.args.section.now.names.items = search rules in
    section_whole c.args.section.now c.args.from c.parameters_in.result c.requires.making elem
    (section_piece c.args.section.now c.in-Known.value c.deref.result.now same
    making c.in-Ok-put_open.ensures
    c.args.from c.parameters_in.result c.parameters_in.ensures)
