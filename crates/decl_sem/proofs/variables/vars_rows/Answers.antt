use Rattle.std.specs.Prelude.{[], map, Ok, Err}
use Rattle.m2_base.specs.Rows.{var_kind}
use Rattle.m2_base.specs.Statics.NameRows.{var_rows}
use Rattle.m2_base.specs.Statics.Shapes.{named, type_shapes}
use Rattle.m2_base.specs.Statics.TypeRows.{type_rows}
use Rattle.m2_base.specs.Views.{type_view}
use Rattle.m2_base.specs.declared.replies.Ask.TheVariants.{DontKnowYet, Known}
use Rattle.decl_sem.proofs.Asking.{asked_waits, behind_read, first_made, making_read}
use Rattle.decl_sem.proofs.NoTypeNames.{types_name_none}
use Rattle.decl_sem.proofs.Pieces.{making_front, making_on, then_after}
use Rattle.decl_sem.proofs.SectionLists.{type_stands}
use Rattle.decl_sem.proofs.VariableLists.{of_this_size}
use Rattle.decl_sem.proofs.variables.vars_rows.Goals as goal

pub type_in-requires-clause-making : goal.type_in-requires-clause-making
type_in-requires-clause-making g c = making_front (type_shapes (type_view c.args.typ.now)) (map (named var_kind) c.args.names.now) c.requires.making

pub cells_of-requires-clause-making : goal.cells_of-requires-clause-making
cells_of-requires-clause-making g c =
    let of = first_made c.in-Ok.is c.in-Known.is c.type_in.ensures in
    let making = making_on {ts = map (named var_kind) c.args.names.now} (types_name_none (type_view c.args.typ.now)) c.requires.making of in
    making_front [] (map (named var_kind) c.args.names.now) making

pub cells_of-requires-clause-of : goal.cells_of-requires-clause-of
cells_of-requires-clause-of g c =
    let of = first_made c.in-Ok.is c.in-Known.is c.type_in.ensures in
    type_stands of

pub put_variables-requires-clause-making : goal.put_variables-requires-clause-making
put_variables-requires-clause-making g c =
    let of = first_made c.in-Ok.is c.in-Known.is c.type_in.ensures in
    let making = making_on {ts = map (named var_kind) c.args.names.now} (types_name_none (type_view c.args.typ.now)) c.requires.making of in
    making_read c.cells_of.ensures.reads making

pub put_variables-requires-clause-of : goal.put_variables-requires-clause-of
put_variables-requires-clause-of g c =
    let of = first_made c.in-Ok.is c.in-Known.is c.type_in.ensures in
    behind_read c.cells_of.ensures.reads (type_stands of)

pub returns-in-DontKnowYet-cells_of : goal.returns-in-DontKnowYet-cells_of
returns-in-DontKnowYet-cells_of g c =
    let of = first_made c.in-Ok.is c.in-Known.is c.type_in.ensures in
    then_after (λ d. type_rows d (type_view c.args.typ.now)) (λ t d. var_rows d t c.args.cell c.args.names.now) (Ok (DontKnowYet c.in-DontKnowYet-cells_of.head))
    (types_name_none (type_view c.args.typ.now)) c.requires.making of
    (asked_waits c.in-DontKnowYet-cells_of.head c.cells_of.ensures.reads c.in-DontKnowYet-cells_of.ensures.waits)

pub returns-in-Err-put_variables : goal.returns-in-Err-put_variables
returns-in-Err-put_variables g c =
    let of = first_made c.in-Ok.is c.in-Known.is c.type_in.ensures in
    let making = making_on {ts = map (named var_kind) c.args.names.now} (types_name_none (type_view c.args.typ.now)) c.requires.making of in
    then_after (λ d. type_rows d (type_view c.args.typ.now)) (λ t d. var_rows d t c.args.cell c.args.names.now) (Err c.in-Err-put_variables.memory)
    (types_name_none (type_view c.args.typ.now)) c.requires.making of
    (of_this_size c.in-Known.value c.args.cell c.args.names.now c.in-Known-cells_of.value (Err c.in-Err-put_variables.memory) making c.cells_of.ensures.reads c.in-Known-cells_of.ensures.told c.in-Err-put_variables.ensures)

pub returns : goal.returns
returns g c =
    let of = first_made c.in-Ok.is c.in-Known.is c.type_in.ensures in
    let making = making_on {ts = map (named var_kind) c.args.names.now} (types_name_none (type_view c.args.typ.now)) c.requires.making of in
    then_after (λ d. type_rows d (type_view c.args.typ.now)) (λ t d. var_rows d t c.args.cell c.args.names.now) (Ok (Known c.in-Ok-put_variables.value))
    (types_name_none (type_view c.args.typ.now)) c.requires.making of
    (of_this_size c.in-Known.value c.args.cell c.args.names.now c.in-Known-cells_of.value (Ok (Known c.in-Ok-put_variables.value)) making c.cells_of.ensures.reads c.in-Known-cells_of.ensures.told c.in-Ok-put_variables.ensures)
