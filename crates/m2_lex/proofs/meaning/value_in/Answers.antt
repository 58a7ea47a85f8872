use Rattle.std.proofs.Common.{◌≡◌, ◌∙◌, sym, ℕ, ◌+◌, ◌*◌, ap, arith, take, get_or}
use Rattle.std.proofs.lemmas.List.{take_all}
use Rattle.std.proofs.lemmas.List.Sums.{fold_more}
use Rattle.m2_base.specs.Meanings.{value_in, digit_value}
use Rattle.m2_lex.proofs.Digits.{value_in-take}
use Rattle.m2_lex.proofs.meaning.value_in.Goals as goal

pub returns-then-value-gt-MOST : goal.returns-then-value-gt-MOST
returns-then-value-gt-MOST c =
    let digits = c.args.digits.now in
    let base = c.args.base in
    let n = c.loop-digit.digit-index in
    let more : value_in base (take (n + 1) digits) ≡ value_in base (take n digits) * base + digit_value (get_or digits n 0) = fold_more (λ (v d : ℕ). v * base + digit_value d) 0 digits n 0 c.loop-digit-test.true in
    let so_far = value_in-take base digits (n + 1) c.requires.some in
    omega (arith, so_far, more, ap (λ (v : ℕ). v * base) c.loop-digit.invariant.0)

pub loop-digit-preserved : goal.loop-digit-preserved
loop-digit-preserved c =
    let digits = c.args.digits.now in
    let base = c.args.base in
    let n = c.loop-digit.digit-index in
    let more : value_in base (take (n + 1) digits) ≡ value_in base (take n digits) * base + digit_value (get_or digits n 0) = fold_more (λ (v d : ℕ). v * base + digit_value d) 0 digits n 0 c.loop-digit-test.true in (
      ap (λ (v : ℕ). v * base + c.from.result) c.loop-digit.invariant.0
          ∙ ap (λ (d : ℕ). value_in base (take n digits) * base + d) (c.from.ensures ∙ c.digit_value.ensures) ∙ sym more,
      c.if-value-gt-MOST.false,
    )

pub returns : goal.returns
returns c = (c.loop-digit.invariant.0 ∙ ap (value_in c.args.base) (take_all c.loop-digit.digit-index c.args.digits.now c.loop-digit-test.false), c.loop-digit.invariant.1)
