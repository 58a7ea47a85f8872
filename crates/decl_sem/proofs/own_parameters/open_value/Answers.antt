use Rattle.std.specs.Prelude.{[], ◌∷◌, Ok, Err}
use Rattle.m2_base.specs.Rows.{var_kind}
use Rattle.m2_base.specs.Statics.Shapes.{named}
use Rattle.m2_base.specs.declared.rows.Mode.TheVariants.{Open}
use Rattle.m2_base.specs.declared.replies.Ask.TheVariants.{Known}
use Rattle.decl_sem.proofs.Asking.{behind_read, making_read}
use Rattle.decl_sem.proofs.OwnParameters.{open_after, open_asked, placed_as, same_cells}
use Rattle.decl_sem.proofs.Pieces.{making_front}
use Rattle.decl_sem.proofs.TypeForms.{unmade}
use Rattle.decl_sem.proofs.own_parameters.open_value.Goals as goal

pub stand_in-requires-clause-making : goal.stand_in-requires-clause-making
stand_in-requires-clause-making g c = making_front [] (named var_kind c.args.name ∷ []) c.requires.making

pub put_parameter-requires-clause-making : goal.put_parameter-requires-clause-making
put_parameter-requires-clause-making g c = making_read c.stand_in.ensures.reads c.requires.making

pub put_parameter-requires-clause-of : goal.put_parameter-requires-clause-of
put_parameter-requires-clause-of g c = behind_read c.stand_in.ensures.reads c.requires.of

pub put_parameter-requires-clause-cells : goal.put_parameter-requires-clause-cells
put_parameter-requires-clause-cells g c = same_cells c.in-Ok.ensures (open_after c.cells_by-size.result c.args.from c.requires.cells)

pub returns-in-Err : goal.returns-in-Err
returns-in-Err g c =
    open_asked c.args.name c.args.of c.args.from (Err c.in-Err.memory) c.stand_in.result c.args.elem c.cells_by-size.result c.requires.making c.stand_in.ensures.reads c.stand_in.ensures.waits c.stand_in.ensures.told c.in-Known.is c.cells_by-size.ensures
    (unmade _ _ _ _ _ _ _)

pub returns-in-Err-put_parameter : goal.returns-in-Err-put_parameter
returns-in-Err-put_parameter g c =
    open_asked c.args.name c.args.of c.args.from (Err c.in-Err-put_parameter.memory) c.stand_in.result c.args.elem c.cells_by-size.result c.requires.making c.stand_in.ensures.reads c.stand_in.ensures.waits c.stand_in.ensures.told c.in-Known.is c.cells_by-size.ensures
    (placed_as c.args.name c.args.of Open _ c.cell-cell.ensures c.in-Ok.ensures c.in-Err-put_parameter.ensures)

pub returns : goal.returns
returns g c =
    open_asked c.args.name c.args.of c.args.from (Ok (Known c.in-Ok-put_parameter.value)) c.stand_in.result c.args.elem c.cells_by-size.result c.requires.making c.stand_in.ensures.reads c.stand_in.ensures.waits c.stand_in.ensures.told c.in-Known.is c.cells_by-size.ensures
    (placed_as c.args.name c.args.of Open _ c.cell-cell.ensures c.in-Ok.ensures c.in-Ok-put_parameter.ensures)
