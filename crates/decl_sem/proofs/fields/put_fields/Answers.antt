use Rattle.std.specs.Prelude.{[], Ok, Err}
use Rattle.m2_base.specs.declared.replies.Ask.TheVariants.{Known}
use Rattle.decl_sem.proofs.FieldLists.{fields_of_size, shapes}
use Rattle.decl_sem.proofs.Pieces.{making_front}
use Rattle.decl_sem.proofs.fields.put_fields.Goals as goal

pub cells_of-requires-clause-making : goal.cells_of-requires-clause-making
cells_of-requires-clause-making g c = making_front [] (shapes c.args.names.now) c.requires.making

pub returns-in-Ok : goal.returns-in-Ok
returns-in-Ok g c = fields_of_size c.args.own c.args.of c.args.offset c.args.names.now c.in-Known.size (Ok (Known c.in-Ok.next)) c.requires.making c.cells_of.ensures.reads c.in-Known.ensures.told c.in-Ok.ensures

pub returns-in-Err : goal.returns-in-Err
returns-in-Err g c = fields_of_size c.args.own c.args.of c.args.offset c.args.names.now c.in-Known.size (Err c.in-Err.memory) c.requires.making c.cells_of.ensures.reads c.in-Known.ensures.told c.in-Err.ensures
