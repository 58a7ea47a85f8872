use Rattle.std.proofs.Common.{◌∙◌, ◌<◌, ◌^◌, ℤ, bit_or, ap, rules, subst, sym, w64}
use Rattle.std.proofs.lemmas.Int.{to_z-of_z}
use Rattle.m2_base.specs.Rows.{natural}
use Rattle.m2_base.specs.Statics.Operands.{worse}
use Rattle.m2_base.specs.declared.operands.Operand.{Operand}
use Rattle.m2_base.specs.declared.operands.Operand.TheVariants.{Constant}
use Rattle.const_eval.specs.Sites.{IsOperand}
use Rattle.const_eval.proofs.Bits.{bits_fit, bits_kept, bits_told, high_none, low_none, set_none, worse_there}
use Rattle.const_eval.proofs.set_bits.with_elements.Goals as goal
use Rattle.const_eval.proofs.set_bits.with_elements.Goals.{in_default-via-in-Constant+in-Constant+in_default, in_default-via-in-Constant+in_default, in_default-via-in_default}

pub returns-in_default-clause-told : goal.returns-in_default-clause-told
returns-in_default-clause-told c =
    c.worse-in_default.ensures ∙ ap (λ v. worse c.args.set v) c.worse.ensures
    ∙ elim c.in_default.branch [
      | in_default-via-in-Constant+in-Constant+in_default w ↦ high_none c.args.set c.args.low c.args.high w.in_default.not-Constant-2
      | in_default-via-in-Constant+in_default w ↦ low_none c.args.set c.args.low c.args.high w.in_default.not-Constant-1
      | in_default-via-in_default w ↦ set_none c.args.set c.args.low c.args.high w.in_default.not-Constant-0
    ]

pub returns-in_default-clause-there : goal.returns-in_default-clause-there
returns-in_default-clause-there c = λ f h. subst (λ (o : Operand). IsOperand f o) (sym c.worse-in_default.ensures) (worse_there f c.args.set c.worse.result)

pub returns-in-Constant-Constant-Constant-clause-told : goal.returns-in-Constant-Constant-Constant-clause-told
returns-in-Constant-Constant-Constant-clause-told c =
    let of = c.in-Constant-Constant-Constant in
    rw of.is-0 (rw of.is-1 (rw of.is-2
    (ap (λ (v : ℤ). Constant of.of v)
    (bits_told of.bits of.low of.high c.natural-in-Constant-Constant-Constant-2.result c.natural.result c.natural-in-Constant-Constant-Constant.result c.span-range.result
    (c.natural-in-Constant-Constant-Constant-2.ensures ∙ ap natural (to_z-of_z w64 of.bits (search rules))) (c.natural.ensures ∙ ap natural (to_z-of_z w64 of.low (search rules)))
    (c.natural-in-Constant-Constant-Constant.ensures ∙ ap natural (to_z-of_z w64 of.high (search rules))) c.span-range.ensures (rw of.is-0 at c.requires)))))

pub returns-in-Constant-Constant-Constant-clause-there : goal.returns-in-Constant-Constant-Constant-clause-there
returns-in-Constant-Constant-Constant-clause-there c = λ f h.
    let of = c.in-Constant-Constant-Constant in (
      (rw of.is-0 at h).0,
      bits_kept of.bits of.low of.high c.natural-in-Constant-Constant-Constant-2.result c.natural.result c.natural-in-Constant-Constant-Constant.result c.span-range.result
          (c.natural-in-Constant-Constant-Constant-2.ensures ∙ ap natural (to_z-of_z w64 of.bits (search rules))) (c.natural.ensures ∙ ap natural (to_z-of_z w64 of.low (search rules)))
          (c.natural-in-Constant-Constant-Constant.ensures ∙ ap natural (to_z-of_z w64 of.high (search rules))) c.span-range.ensures (rw of.is-0 at c.requires),
    )

pub overflow_cast-result : goal.overflow_cast-result
overflow_cast-result c =
    let of = c.in-Constant-Constant-Constant in
    let small : bit_or c.natural-in-Constant-Constant-Constant-2.result c.span-range.result < 2 ^ 32 =
    bits_fit of.bits c.natural-in-Constant-Constant-Constant-2.result c.natural.result c.natural-in-Constant-Constant-Constant.result c.span-range.result (c.natural-in-Constant-Constant-Constant-2.ensures ∙ ap natural (to_z-of_z w64 of.bits (search rules))) c.span-range.ensures (rw of.is-0 at c.requires) in
    search rules
