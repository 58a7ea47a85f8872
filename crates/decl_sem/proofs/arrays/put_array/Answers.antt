use Rattle.std.proofs.Common.{refl, [], ◌∷◌, Ok, Err}
use Rattle.m2_base.specs.Rows.{array_kind}
use Rattle.m2_base.specs.Statics.Shapes.{nameless}
use Rattle.m2_base.specs.declared.replies.Ask.TheVariants.{Known}
use Rattle.decl_sem.proofs.ArrayCells.{array_failed, array_made, array_meaning, cells_asked}
use Rattle.decl_sem.proofs.Asking.{behind_read, first_made, making_read}
use Rattle.decl_sem.proofs.Pieces.{making_front, making_on, not_a_type, waiting}
use Rattle.decl_sem.proofs.arrays.put_array.Goals as goal

pub array_cells-requires-clause-making : goal.array_cells-requires-clause-making
array_cells-requires-clause-making g c = making_front [] (nameless array_kind c.args.at ∷ []) c.requires.making

pub returns-in-Err : goal.returns-in-Err
returns-in-Err g c =
    let here = making_read c.array_cells.ensures.reads c.requires.making in
    let first = first_made refl c.in-Known.is (cells_asked c.args.made.now c.args.site.now c.args.index c.args.of c.array_cells.result c.array_cells.ensures.reads c.array_cells.ensures.waits c.array_cells.ensures.told) in
    array_failed c.args.at c.args.index c.args.of c.in-Known.value c.requires.making first here c.in-Err.memory
    (c.in-Err.ensures.piece (g.S.Scopes.state c.array_cells.new.scopes) here (array_meaning c.in-Known.value c.in-Known.ensures.some c.in-Known.ensures.few here (behind_read c.array_cells.ensures.reads c.requires.index) (behind_read c.array_cells.ensures.reads c.requires.of)))

pub returns-in-Err-fit : goal.returns-in-Err-fit
returns-in-Err-fit g c =
    let b = g.S.Scopes.state c.array_cells.new.scopes in
    let here = making_read c.array_cells.ensures.reads c.requires.making in
    let first = first_made refl c.in-Known.is (cells_asked c.args.made.now c.args.site.now c.args.index c.args.of c.array_cells.result c.array_cells.ensures.reads c.array_cells.ensures.waits c.array_cells.ensures.told) in
    let p = c.in-Ok.ensures.piece b here (array_meaning c.in-Known.value c.in-Known.ensures.some c.in-Known.ensures.few here (behind_read c.array_cells.ensures.reads c.requires.index) (behind_read c.array_cells.ensures.reads c.requires.of)) in
    array_made c.args.at c.args.index c.args.of c.in-Known.value c.requires.making first here (Err c.in-Err-fit.memory) p
    (c.in-Err-fit.ensures b (making_on (not_a_type (nameless array_kind c.args.at) refl) here p) p.there)

pub returns : goal.returns
returns g c =
    let b = g.S.Scopes.state c.array_cells.new.scopes in
    let here = making_read c.array_cells.ensures.reads c.requires.making in
    let first = first_made refl c.in-Known.is (cells_asked c.args.made.now c.args.site.now c.args.index c.args.of c.array_cells.result c.array_cells.ensures.reads c.array_cells.ensures.waits c.array_cells.ensures.told) in
    let p = c.in-Ok.ensures.piece b here (array_meaning c.in-Known.value c.in-Known.ensures.some c.in-Known.ensures.few here (behind_read c.array_cells.ensures.reads c.requires.index) (behind_read c.array_cells.ensures.reads c.requires.of)) in
    array_made c.args.at c.args.index c.args.of c.in-Known.value c.requires.making first here (Ok (Known c.in-Ok-fit.value)) p
    (c.in-Ok-fit.ensures b (making_on (not_a_type (nameless array_kind c.args.at) refl) here p) p.there)

pub returns-in-DontKnowYet : goal.returns-in-DontKnowYet
returns-in-DontKnowYet g c =
    waiting (rw c.in-DontKnowYet.is at (cells_asked c.args.made.now c.args.site.now c.args.index c.args.of c.array_cells.result c.array_cells.ensures.reads c.array_cells.ensures.waits c.array_cells.ensures.told))
