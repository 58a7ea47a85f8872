use Rattle.std.proofs.Common.{Ok, Err}
use Rattle.m2_base.specs.declared.replies.Ask.TheVariants.{Known}
use Rattle.decl_sem.specs.Stood.{may_be_index}
use Rattle.decl_sem.proofs.ArrayCells.{of_some_row}
use Rattle.decl_sem.proofs.Asking.{behind_read, checked, making_read}
use Rattle.decl_sem.proofs.arrays.checked_index.Goals as goal

pub may_be_index-keep-requires : goal.may_be_index-keep-requires
may_be_index-keep-requires g c = of_some_row c.in-Known.ensures.said

pub returns-in-Err : goal.returns-in-Err
returns-in-Err g c =
    checked may_be_index c.args.at c.args.of (Err c.in-Err.memory) c.stand_in.result c.may_be_index-keep.result c.requires.making c.stand_in.ensures.reads c.stand_in.ensures.waits c.stand_in.ensures.told c.in-Known.is c.may_be_index-keep.ensures
    (c.in-Err.ensures (g.S.Scopes.state c.stand_in.new.scopes) (making_read c.stand_in.ensures.reads c.requires.making) (behind_read c.stand_in.ensures.reads c.requires.there))

pub returns : goal.returns
returns g c =
    checked may_be_index c.args.at c.args.of (Ok (Known c.in-Ok.value)) c.stand_in.result c.may_be_index-keep.result c.requires.making c.stand_in.ensures.reads c.stand_in.ensures.waits c.stand_in.ensures.told c.in-Known.is c.may_be_index-keep.ensures
    (c.in-Ok.ensures (g.S.Scopes.state c.stand_in.new.scopes) (making_read c.stand_in.ensures.reads c.requires.making) (behind_read c.stand_in.ensures.reads c.requires.there))
