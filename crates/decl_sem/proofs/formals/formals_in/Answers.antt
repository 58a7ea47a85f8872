use Rattle.std.proofs.Common.{◌≡◌, length, subst, arith}
use Rattle.decl_sem.proofs.Asking.{first_made}
use Rattle.decl_sem.proofs.Parameters.{FormalsGo, all_formals, formals_failed, formals_waiting, next_making, one_more_formal, read_formal}
use Rattle.decl_sem.proofs.Pieces.{goes_start}
use Rattle.decl_sem.proofs.formals.formals_in.Goals as goal

pub loop-formal-init : goal.loop-formal-init
loop-formal-init g c = goes_start c.requires.making

pub formal_in-requires-clause-making : goal.formal_in-requires-clause-making
formal_in-requires-clause-making g c = next_making c.args.own c.args.formals.now c.loop-formal.formal-index _ c.loop-formal-test.true c.loop-formal.invariant

pub formal_in-requires-clause-read : goal.formal_in-requires-clause-read
formal_in-requires-clause-read g c = read_formal c.args.formals.now c.loop-formal.formal-index _ c.loop-formal-test.true c.requires.read

pub returns-in-Err : goal.returns-in-Err
returns-in-Err g c = formals_failed c.args.own c.args.formals.now c.loop-formal.formal-index _ c.loop-formal-test.true c.in-Err.memory c.loop-formal.invariant c.in-Err.ensures

pub returns-in-DontKnowYet : goal.returns-in-DontKnowYet
returns-in-DontKnowYet g c = formals_waiting c.args.own c.args.formals.now c.loop-formal.formal-index _ c.loop-formal-test.true c.loop-formal.invariant (rw c.in-DontKnowYet.is at c.in-Ok.ensures)

pub loop-formal-preserved : goal.loop-formal-preserved
loop-formal-preserved g c = one_more_formal c.args.own c.args.formals.now c.loop-formal.formal-index _ c.loop-formal-test.true c.loop-formal.invariant (first_made c.in-Ok.is c.in-Known.is c.formal_in.ensures)

pub returns : goal.returns
returns g c =
    let all : c.loop-formal.formal-index ≡ length c.args.formals.now = let h = c.loop-formal-test.false in let e = c.loop-formal.auto.formal-index-end in omega arith in
    all_formals c.args.own c.args.formals.now (subst (λ k. FormalsGo (g.S.Scopes.state c.args.scopes.now) (g.S.Scopes.state c.loop-formal.scopes) c.args.made.now c.loop-formal.made c.args.site.now c.args.own c.args.formals.now k) all c.loop-formal.invariant)
