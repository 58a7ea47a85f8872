use Rattle.std.specs.Prelude.{[], ◌∷◌, Ok, Err}
use Rattle.m2_base.specs.Rows.{var_kind}
use Rattle.m2_base.specs.Statics.Shapes.{named}
use Rattle.m2_base.specs.declared.replies.Ask.TheVariants.{Known}
use Rattle.decl_sem.proofs.Asking.{behind_read, making_read}
use Rattle.decl_sem.proofs.OwnParameters.{value_asked}
use Rattle.decl_sem.proofs.Pieces.{making_front}
use Rattle.decl_sem.proofs.own_parameters.value_in.Goals as goal

pub stand_in-requires-clause-making : goal.stand_in-requires-clause-making
stand_in-requires-clause-making g c = making_front [] (named var_kind c.args.name ∷ []) c.requires.making

pub put_value-requires-clause-making : goal.put_value-requires-clause-making
put_value-requires-clause-making g c = making_read c.stand_in.ensures.reads c.requires.making

pub put_value-requires-clause-of : goal.put_value-requires-clause-of
put_value-requires-clause-of g c = behind_read c.stand_in.ensures.reads c.requires.of

pub returns-in-Ok : goal.returns-in-Ok
returns-in-Ok g c =
    value_asked c.args.name c.args.of c.args.from (Ok (Known c.in-Ok.next)) c.stand_in.result c.is_structured-structured.result c.cells_by-size.result c.requires.making c.stand_in.ensures.reads c.stand_in.ensures.waits c.stand_in.ensures.told c.in-Known.is c.is_structured-structured.ensures c.cells_by-size.ensures c.in-Ok.ensures

pub returns-in-Err : goal.returns-in-Err
returns-in-Err g c =
    value_asked c.args.name c.args.of c.args.from (Err c.in-Err.memory) c.stand_in.result c.is_structured-structured.result c.cells_by-size.result c.requires.making c.stand_in.ensures.reads c.stand_in.ensures.waits c.stand_in.ensures.told c.in-Known.is c.is_structured-structured.ensures c.cells_by-size.ensures c.in-Err.ensures
