use Rattle.std.proofs.Common.{◌<◌, refl, arith, drop, length}
use Rattle.def_import.specs.Dependencies.{first_free, items_of}
use Rattle.def_import.proofs.Ordering.{is_free_at, none_struck, not_free_at, one_struck}
use Rattle.def_import.proofs.dependencies.first_free.Goals as goal

pub loop-text-init : goal.loop-text-init
loop-text-init c = record { struck = none_struck c.args.taken.now (items_of c.args.all.now); none = refl }

pub returns-then-is_free-clause-free : goal.returns-then-is_free-clause-free
returns-then-is_free-clause-free c =
    let within : c.loop-text.text < length c.loop-text.all = omega (arith, c.loop-text-test.true, c.loop-text.auto.all) in
    is_free_at c.args.taken.now (first_free c.args.taken.now 1 (drop 1 (items_of c.args.all.now))) c.loop-text.all c.loop-text.text c.index-all-text.result c.is_free.result within c.loop-text.invariant.none c.is_free.ensures.free c.if-is_free.true

pub returns-then-is_free-clause-struck : goal.returns-then-is_free-clause-struck
returns-then-is_free-clause-struck c =
    let within : c.loop-text.text < length c.loop-text.all = omega (arith, c.loop-text-test.true, c.loop-text.auto.all) in
    one_struck c.args.taken.now (items_of c.args.all.now) c.loop-text.all c.loop-text.text c.index-all-text.result c.is_free.new.needs within c.loop-text.invariant.struck
    c.is_free.ensures.struck

pub loop-text-preserved : goal.loop-text-preserved
loop-text-preserved c =
    let within : c.loop-text.text < length c.loop-text.all = omega (arith, c.loop-text-test.true, c.loop-text.auto.all) in
    record {
      struck =
          one_struck c.args.taken.now (items_of c.args.all.now) c.loop-text.all c.loop-text.text c.index-all-text.result c.is_free.new.needs within
          c.loop-text.invariant.struck c.is_free.ensures.struck;
      none =
          not_free_at c.args.taken.now (first_free c.args.taken.now 1 (drop 1 (items_of c.args.all.now))) c.loop-text.all c.loop-text.text c.index-all-text.result c.is_free.new.needs c.is_free.result within
          c.loop-text.invariant.none c.is_free.ensures.free c.if-is_free.false;
    }
