use Rattle.std.proofs.Common.{◌≡◌, length, arith, subst, to_z, w64}
use Rattle.std.proofs.lemmas.Int.{to_z_pos}
use Rattle.decl_sem.proofs.Constants.{HasConstants, all_constants, constants_failed, one_more_constant}
use Rattle.decl_sem.proofs.enumerations.make_constants.Goals as goal

pub returns-in-Err : goal.returns-in-Err
returns-in-Err c a making read own =
    constants_failed {after = c.put_named.new.made} c.loop-value.value _ c.loop-value-test.true c.loop-value.invariant (let r = c.requires.room in let h = c.loop-value-test.true in omega arith) (to_z w64 c.loop-value.value) (to_z_pos w64 c.loop-value.value (let r = c.requires.room in let h = c.loop-value-test.true in omega arith)) c.in-Err.memory
    (λ b m n k h. c.in-Err.ensures.piece b m n k h) a making read own

pub loop-value-preserved : goal.loop-value-preserved
loop-value-preserved c =
    one_more_constant {after = c.put_named.new.made} c.loop-value.value _ c.loop-value-test.true c.loop-value.invariant (let r = c.requires.room in let h = c.loop-value-test.true in omega arith) (to_z w64 c.loop-value.value) (to_z_pos w64 c.loop-value.value (let r = c.requires.room in let h = c.loop-value-test.true in omega arith)) {p = c.in-Ok.value} c.in-Ok.ensures.count
    (λ b m n k h. c.in-Ok.ensures.piece b m n k h)

pub returns : goal.returns
returns c a making read own =
    let all : c.loop-value.value ≡ length c.args.names.now = let h = c.loop-value-test.false in let e = c.loop-value.auto.value-end in omega arith in
    all_constants (subst (λ k. HasConstants c.args.site.now c.args.made.now c.loop-value.made c.args.of c.args.names.now k) all c.loop-value.invariant) a making read own
