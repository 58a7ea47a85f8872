use Rattle.std.specs.Prelude.{[], ◌∷◌, Ok, Err}
use Rattle.m2_base.specs.Rows.{alias_kind}
use Rattle.m2_base.specs.Statics.Shapes.{named}
use Rattle.m2_base.specs.declared.replies.Ask.TheVariants.{Known}
use Rattle.decl_sem.proofs.AgainNames.{again_after}
use Rattle.decl_sem.proofs.Asking.{behind_read, making_read}
use Rattle.decl_sem.proofs.BroughtRows.{again_piece}
use Rattle.decl_sem.proofs.Pieces.{making_front}
use Rattle.decl_sem.proofs.imports.again_row.Goals as goal

pub is_again-requires-clause-making : goal.is_again-requires-clause-making
is_again-requires-clause-making g c = making_front [] (named alias_kind c.args.name ∷ []) c.requires.making

pub returns-in-Err : goal.returns-in-Err
returns-in-Err g c =
    again_after c.args.name c.args.target c.in-Known.value (Err c.in-Err.memory) c.in-Known.ensures.reads c.in-Known.ensures.told
    (again_piece c.args.name c.args.target c.in-Known.value (Err c.in-Err.memory) tt tt tt c.make_again.ensures.answers c.make_again.ensures.diags c.make_again.ensures.first
    (g.S.Scopes.state c.is_again.new.scopes) (making_read c.in-Known.ensures.reads c.requires.making) c.requires.brought (behind_read c.in-Known.ensures.reads c.requires.target))

pub returns : goal.returns
returns g c =
    again_after c.args.name c.args.target c.in-Known.value (Ok (Known c.in-Ok.value)) c.in-Known.ensures.reads c.in-Known.ensures.told
    (again_piece c.args.name c.args.target c.in-Known.value (Ok c.in-Ok.value) c.in-Ok.ensures.made c.in-Ok.ensures.rows c.in-Ok.ensures.place c.make_again.ensures.answers c.make_again.ensures.diags c.make_again.ensures.first
    (g.S.Scopes.state c.is_again.new.scopes) (making_read c.in-Known.ensures.reads c.requires.making) c.requires.brought (behind_read c.in-Known.ensures.reads c.requires.target))
