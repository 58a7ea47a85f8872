use Rattle.std.proofs.Common.{◌≡◌, length, drop, sym, ap, ◌∙◌, arith, Ok, ltb, false}
use Rattle.std.proofs.lemmas.Bool.{le-ltb}
use Rattle.object_file.specs.Fields.{exact_at}
use Rattle.object_file.proofs.Matching.{same_byte, other_byte, all_same}
use Rattle.object_file.proofs.fields.exact.Goals as goal

pub returns-then-bytes-i : goal.returns-then-bytes-i
unfolding exact_at
returns-then-bytes-i c =
    let long : ltb (length c.args.bytes.now.now) (length c.args.expected.now) ≡ false = le-ltb _ _ (omega arith) in
    rw long (sym c.loop-i.invariant ∙ other_byte c.args.expected.now c.args.bytes.now.now c.loop-i.i (omega arith) (omega arith) c.if-bytes-i.true)

pub loop-i-preserved : goal.loop-i-preserved
loop-i-preserved c = sym (same_byte c.args.expected.now c.args.bytes.now.now c.loop-i.i (omega arith) (omega arith) c.if-bytes-i.false) ∙ c.loop-i.invariant

pub returns : goal.returns
unfolding exact_at
returns c =
    let long : ltb (length c.args.bytes.now.now) (length c.args.expected.now) ≡ false = le-ltb _ _ (omega arith) in
    let n : c.loop-i.i ≡ length c.args.expected.now = omega arith in
    rw long (sym c.loop-i.invariant ∙ all_same c.args.expected.now (drop c.loop-i.i c.args.bytes.now.now) c.loop-i.i (omega arith) ∙ ap (λ k. Ok (drop k c.args.bytes.now.now)) n ∙ ap Ok (sym c.split_at.ensures.back))
