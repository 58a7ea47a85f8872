use Rattle.std.proofs.Common.{arith, sym, refl, subst, List}
use Rattle.object_file.proofs.Listings.{place_is}
use Rattle.stack_machine.specs.Loading.{Spot}
use Rattle.stack_machine.specs.Sites.{Ascend}
use Rattle.stack_machine.proofs.Placing.{stuck, goes, over, spots_ascend}
use Rattle.stack_machine.proofs.decoding.instrs.Goals as goal

pub unreachable-requires : goal.unreachable-requires
unreachable-requires c =
    let i = c.loop-at.invariant in
    stuck c.args.code.now i.0 c.loop-at.at c.loop-at.all.items i.2 c.loop-at-test.true c.in_default.ensures.none

pub invariant_of-push : goal.invariant_of-push
invariant_of-push c = record {
  ends = place_is _ _ _ _ (c.in-Some.ensures.again _ _ c.in-Some.ensures.found);
  short = (let le = c.in-Some.ensures.after.1 in let short = c.requires.short in omega (arith, le, short));
}

pub loop-at-preserved : goal.loop-at-preserved
loop-at-preserved c =
    let i = c.loop-at.invariant in
    let d = c.in-Some.ensures in
    (i.0, i.1, goes c.args.code.now i.0 c.loop-at.at c.in-Some.end c.loop-at.all.items c.push.new.self.items c.in-Some.instr _ i.2 c.loop-at-test.true d.after.1 d.again c.in_ok-push.ensures.items refl)

pub returns-clause-are : goal.returns-clause-are
returns-clause-are c =
    let i = c.loop-at.invariant in
    (i.0, i.1, over c.args.code.now i.0 c.loop-at.at c.loop-at.all.items i.2 c.loop-at-test.false)

pub returns-clause-ascend : goal.returns-clause-ascend
returns-clause-ascend c =
    let i = c.loop-at.invariant in
    subst Ascend (sym (over c.args.code.now i.0 c.loop-at.at c.loop-at.all.items i.2 c.loop-at-test.false)) (spots_ascend 0 i.0)
