use Rattle.std.specs.Prelude.{[], ◌∷◌, Ok, Err}
use Rattle.m2_base.specs.Rows.{proc_kind, proc_type_kind}
use Rattle.m2_base.specs.Statics.Shapes.{named, nameless}
use Rattle.m2_base.specs.declared.replies.Ask.TheVariants.{Known}
use Rattle.decl_sem.proofs.Asking.{first_made}
use Rattle.decl_sem.proofs.HeadingRows.{proc_meaning, type_none, typed_piece}
use Rattle.decl_sem.proofs.Pieces.{making_front, making_on}
use Rattle.decl_sem.proofs.SectionLists.{type_stands}
use Rattle.decl_sem.proofs.procedures.typed_proc.Goals as goal

pub proc_row-requires-clause-making : goal.proc_row-requires-clause-making
proc_row-requires-clause-making g c = making_front (nameless proc_type_kind c.args.heading.now.name.at ∷ []) (named proc_kind c.args.heading.now.name ∷ []) c.requires.making

pub name_row-requires-clause-making : goal.name_row-requires-clause-making
name_row-requires-clause-making g c =
    making_on {ss = nameless proc_type_kind c.args.heading.now.name.at ∷ []} {ts = named proc_kind c.args.heading.now.name ∷ []} (type_none c.args.heading.now.name.at) c.requires.making (first_made c.in-Ok.is c.in-Known.is c.proc_row.ensures)

pub name_row-requires-clause-meaning : goal.name_row-requires-clause-meaning
name_row-requires-clause-meaning g c =
    proc_meaning c.in-Known.value c.args.number c.args.scope c.ranges.number.fits c.ranges.scope.fits
    (making_on {ss = nameless proc_type_kind c.args.heading.now.name.at ∷ []} {ts = named proc_kind c.args.heading.now.name ∷ []} (type_none c.args.heading.now.name.at) c.requires.making (first_made c.in-Ok.is c.in-Known.is c.proc_row.ensures))
    (type_stands (first_made c.in-Ok.is c.in-Known.is c.proc_row.ensures))

pub returns : goal.returns
returns g c =
    typed_piece c.args.first c.args.count c.args.number c.args.scope c.args.heading.now.name c.args.heading.now.result (Ok (Known c.in-Ok-name_row.value)) c.requires.making (first_made c.in-Ok.is c.in-Known.is c.proc_row.ensures) c.in-Ok-name_row.ensures

pub returns-in-Err-name_row : goal.returns-in-Err-name_row
returns-in-Err-name_row g c =
    typed_piece c.args.first c.args.count c.args.number c.args.scope c.args.heading.now.name c.args.heading.now.result (Err c.in-Err-name_row.memory) c.requires.making (first_made c.in-Ok.is c.in-Known.is c.proc_row.ensures) c.in-Err-name_row.ensures
