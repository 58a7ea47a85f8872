use Rattle.std.proofs.Common.{◌≡◌, ◌≢◌, ◌<◌, ◌≤◌, arith, sym, subst, ◌∙◌, map, length}
use Rattle.stack_machine.specs.declared.placed.Placed.{Placed}
use Rattle.stack_machine.specs.Sites.{spot_of}
use Rattle.stack_machine.proofs.Placing.{all_below, all_above, spot_there, first_is, none_is, missed, none_behind, spots_len}
use Rattle.stack_machine.proofs.decoding.find.Goals as goal
use Rattle.stack_machine.proofs.decoding.find.Goals.{else-low-all-via-then-low-all+else-all-low, else-low-all-via-else-low-all}

pub loop-low-preserved-then-all-middle : goal.loop-low-preserved-then-all-middle
loop-low-preserved-then-all-middle c =
    let i = c.loop-low.invariant in
    let within = i.within in
    let test = c.loop-low-test.true in
    let all = map spot_of c.args.all.now in
    record {
      ordered = omega (arith, test);
      within = within;
      below = all_below all c.requires _ (spot_of c.index-all-middle.result) c.args.to (spot_there c.args.all.now _ c.index-all-middle.result (omega (arith, within, test)) c.index-all-middle.is) (subst (λ (p : Placed). p.at < c.args.to) (sym c.index-all-middle.is) c.if-all-middle.true);
      above = i.above;
    }

pub loop-low-preserved : goal.loop-low-preserved
loop-low-preserved c =
    let i = c.loop-low.invariant in
    let within = i.within in
    let test = c.loop-low-test.true in
    let all = map spot_of c.args.all.now in
    record {
      ordered = omega (arith, test);
      within = omega (arith, within, test);
      below = i.below;
      above = all_above all c.requires _ (spot_of c.index-all-middle.result) c.args.to (spot_there c.args.all.now _ c.index-all-middle.result (omega (arith, within, test)) c.index-all-middle.is) (subst (λ (p : Placed). c.args.to ≤ p.at) (sym c.index-all-middle.is) c.if-all-middle.false);
    }

pub returns-then-all-low-clause-is : goal.returns-then-all-low-clause-is
returns-then-all-low-clause-is c =
    let p = c.index-all-low.result in
    sym (first_is (map spot_of c.args.all.now) c.args.to c.loop-low.low (spot_of p) (spot_there c.args.all.now c.loop-low.low p c.if-low-all.true c.index-all-low.is) (subst (λ (x : Placed). x.at ≡ c.args.to) (sym c.index-all-low.is) c.if-all-low.true) c.loop-low.invariant.below)

pub returns-else-low-all-clause-is : goal.returns-else-low-all-clause-is
returns-else-low-all-clause-is c =
    let i = c.loop-low.invariant in
    let all = map spot_of c.args.all.now in
    elim c.else-low-all.branch [
      | else-low-all-via-then-low-all+else-all-low w ↦ (
          let p = w.index-all-low.result in
          let there = spot_there c.args.all.now c.loop-low.low p w.if-low-all.true w.index-all-low.is in
          sym (none_is all c.args.to (missed all c.requires c.loop-low.low c.args.to i.below (spot_of p) there (i.above c.loop-low.low (spot_of p) c.loop-low-test.false there) (subst (λ (x : Placed). x.at ≢ c.args.to) (sym w.index-all-low.is) w.if-all-low.false)) ∙ spots_len c.args.all.now))
      | else-low-all-via-else-low-all w ↦ (
          let le = w.if-low-all.false in
          sym (none_is all c.args.to (none_behind all c.loop-low.low c.args.to (omega (arith, le, spots_len c.args.all.now)) i.below) ∙ spots_len c.args.all.now))
    ]
