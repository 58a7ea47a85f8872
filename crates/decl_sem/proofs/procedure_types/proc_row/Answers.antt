use Rattle.std.proofs.Common.{[], ◌∷◌, Ok, Err, sym, subst}
use Rattle.m2_base.specs.Rows.{proc_type_kind}
use Rattle.m2_base.specs.States.{Frame}
use Rattle.m2_base.specs.Statics.Makes.{makes_row, only_gives}
use Rattle.m2_base.specs.Statics.ProcedureTypes.{result_type}
use Rattle.m2_base.specs.Statics.Shapes.{nameless}
use Rattle.m2_base.specs.declared.replies.Ask.TheVariants.{Known}
use Rattle.m2_base.specs.declared.rows.RowMeaning.TheVariants.{ProcType}
use Rattle.decl_sem.specs.Making.{next_ordinal}
use Rattle.decl_sem.specs.Pieces.{IsOptionBehind}
use Rattle.decl_sem.proofs.Asking.{first_made}
use Rattle.decl_sem.proofs.OneRows.{room_for_row}
use Rattle.decl_sem.proofs.Pieces.{making_front, making_on, then_after}
use Rattle.decl_sem.proofs.ProcTypes.{first_before_same, proc_meaning, result_small}
use Rattle.decl_sem.proofs.procedure_types.proc_row.Goals as goal

pub result_in-requires-clause-making : goal.result_in-requires-clause-making
result_in-requires-clause-making g c = making_front [] (nameless proc_type_kind c.args.at ∷ []) c.requires.making

pub put_plain-requires-clause-room : goal.put_plain-requires-clause-room
put_plain-requires-clause-room g c = room_for_row (making_on {ss = []} tt c.requires.making (first_made c.in-Ok.is c.in-Known.is c.result_in.ensures))

pub put_plain-requires-clause-scopes : goal.put_plain-requires-clause-scopes
put_plain-requires-clause-scopes g c = result_small (next_ordinal c.result_in.new.made) c.in-Known.value c.args.count c.args.first c.requires.making (first_made c.in-Ok.is c.in-Known.is c.result_in.ensures).there

pub returns-in-Err-put_plain : goal.returns-in-Err-put_plain
returns-in-Err-put_plain g c =
    let p = first_made c.in-Ok.is c.in-Known.is c.result_in.ensures in
    let making = making_on {ss = []} tt c.requires.making p in
    let behind = subst (λ (f : Frame). IsOptionBehind f (next_ordinal c.result_in.new.made) c.in-Known.value) (sym p.works.keeps.frame) p.there in
    then_after (λ d. only_gives (result_type d c.args.qual)) (λ r e. makes_row e c.args.at (ProcType r c.args.count c.args.first)) (Err c.in-Err-put_plain.memory) tt c.requires.making p
    (c.in-Err-put_plain.ensures.piece (g.S.Scopes.state c.result_in.new.scopes) making (proc_meaning c.in-Known.value c.args.count c.args.first c.ranges.count.fits (first_before_same c.requires.first p) making behind))

pub returns : goal.returns
returns g c =
    let p = first_made c.in-Ok.is c.in-Known.is c.result_in.ensures in
    let making = making_on {ss = []} tt c.requires.making p in
    let behind = subst (λ (f : Frame). IsOptionBehind f (next_ordinal c.result_in.new.made) c.in-Known.value) (sym p.works.keeps.frame) p.there in
    then_after (λ d. only_gives (result_type d c.args.qual)) (λ r e. makes_row e c.args.at (ProcType r c.args.count c.args.first)) (Ok (Known c.in-Ok-put_plain.value)) tt c.requires.making p
    (c.in-Ok-put_plain.ensures.piece (g.S.Scopes.state c.result_in.new.scopes) making (proc_meaning c.in-Known.value c.args.count c.args.first c.ranges.count.fits (first_before_same c.requires.first p) making behind))
