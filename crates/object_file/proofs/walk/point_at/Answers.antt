use Rattle.std.proofs.Common.{arith}
use Rattle.std.proofs.lemmas.Int.{ints}
use Rattle.object_file.proofs.Listings.{place_is}
use Rattle.object_file.proofs.walk.point_at.Goals as goal

pub invariant_of-result : goal.invariant_of-result
invariant_of-result c =
    let d = c.in_ok-instr.ensures in
    record {
      ends = place_is _ _ _ _ (d.again _ _ d.found);
      forward = d.after.0;
      short = omega (arith, d.after.1, c.args.own.now.code.small);
      low = omega (arith, ints, c.args.place.low);
      high = omega (arith, ints, c.args.place.high);
    }
