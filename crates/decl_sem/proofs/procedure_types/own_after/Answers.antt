use Rattle.std.proofs.Common.{◌≡◌, ◌+◌, length, arith, ap, refl}
use Rattle.decl_sem.proofs.ProcTypes.{length_none, own_step}
use Rattle.m2_base.specs.Statics.ProcedureTypes.{formals_length}
use Rattle.std.proofs.Common.{drop}
use Rattle.std.specs.Prelude.{ℕ}
use Rattle.decl_sem.proofs.procedure_types.own_after.Goals as goal

pub loop-formal-preserved : goal.loop-formal-preserved
loop-formal-preserved c =
    own_step c.loop-formal.own (c.loop-formal.own + c.rows_of_formal-own.result) c.rows_of_formal-own.result c.args.first (formals_length c.args.formals.now) c.args.formals.now c.loop-formal.formal-index _
    c.loop-formal-test.true c.loop-formal.invariant c.rows_of_formal-own.ensures refl

pub returns : goal.returns
returns c =
    let all : c.loop-formal.formal-index ≡ length c.args.formals.now = let h = c.loop-formal-test.false in let e = c.loop-formal.auto.formal-index-end in omega arith in
    let i = c.loop-formal.invariant in
    let e = ap (λ (k : ℕ). formals_length (drop k c.args.formals.now)) all in
    let z = length_none c.args.formals.now in
    omega arith
