use Rattle.std.proofs.Common.{nat_eq, arith}
use Rattle.std.specs.HashMap.{get, spare}
use Rattle.m2_base.proofs.BroughtLaws.{all_indexed, none_yet, one_further}
use Rattle.m2_base.proofs.brought.index_all.Goals as goal

pub loop-named-init : goal.loop-named-init
loop-named-init c = none_yet (get nat_eq c.args.index.now) c.args.brought.now (spare c.args.index.now) c.requires.room

pub index_one-requires : goal.index_one-requires
index_one-requires c = record { room = omega (arith, c.loop-named.invariant.room, c.loop-named-test.true) }

pub loop-named-preserved : goal.loop-named-preserved
loop-named-preserved c =
    one_further (get nat_eq c.args.index.now) (get nat_eq c.loop-named.index) (get nat_eq c.index_one.new.index) c.args.brought.now c.loop-named.named-index
    (spare c.loop-named.index) (spare c.index_one.new.index) _ c.loop-named.invariant c.loop-named-test.true c.index_one.ensures.room c.index_one.ensures.first

pub returns : goal.returns
returns c =
    all_indexed (get nat_eq c.args.index.now) (get nat_eq c.loop-named.index) c.args.brought.now c.loop-named.named-index (spare c.loop-named.index)
    c.loop-named-test.false c.loop-named.invariant
