use Rattle.std.proofs.Common.{[], ◌∷◌, arith}
use Rattle.m2_base.specs.Rows.{proc_type_kind}
use Rattle.m2_base.specs.Statics.Shapes.{nameless}
use Rattle.decl_sem.proofs.Asking.{first_made}
use Rattle.decl_sem.proofs.OneRows.{room_before_row}
use Rattle.decl_sem.proofs.Parameters.{formals_shapes}
use Rattle.decl_sem.proofs.Pieces.{making_front, making_on}
use Rattle.decl_sem.proofs.ProcTypes.{few_formals, first_before, proc_made, room_for_own}
use Rattle.decl_sem.proofs.TypeForms.{formals_no_types}
use Rattle.decl_sem.proofs.procedure_types.proc_in.Goals as goal

pub next_row-first-requires : goal.next_row-first-requires
next_row-first-requires g c = room_before_row (formals_shapes c.args.formals.now) (nameless proc_type_kind c.args.at) c.requires.making

pub own_after-own-requires : goal.own_after-own-requires
own_after-own-requires g c = room_for_own c.args.at c.args.formals.now c.requires.making c.next_row-first.ensures

pub formals_in-requires-clause-making : goal.formals_in-requires-clause-making
formals_in-requires-clause-making g c = making_front (formals_shapes c.args.formals.now) (nameless proc_type_kind c.args.at ∷ []) c.requires.making

pub proc_row-requires-clause-making : goal.proc_row-requires-clause-making
proc_row-requires-clause-making g c = making_on (formals_no_types c.args.formals.now) c.requires.making (first_made c.in-Ok.is c.in-Known.is c.formals_in.ensures)

pub proc_row-requires-clause-first : goal.proc_row-requires-clause-first
proc_row-requires-clause-first g c = first_before c.next_row-first.ensures (first_made c.in-Ok.is c.in-Known.is c.formals_in.ensures)

pub returns : goal.returns
returns g c =
    proc_made c.args.at c.next_row-first.result c.own_after-own.result c.args.formals.now c.args.qual c.proc_row.result c.requires.making c.next_row-first.ensures c.own_after-own.ensures
    (first_made c.in-Ok.is c.in-Known.is c.formals_in.ensures) c.proc_row.ensures

pub overflow_cast-count : goal.overflow_cast-count
overflow_cast-count g c = omega (arith, few_formals c.args.at c.args.formals.now c.requires.making)
