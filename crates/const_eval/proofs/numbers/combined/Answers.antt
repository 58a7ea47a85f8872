use Rattle.std.proofs.Common.{◌∙◌, ℤ, Option, rules, subst, sym, w64}
use Rattle.std.proofs.lemmas.Int.{to_z-of_z}
use Rattle.m2_base.specs.Lists.{WhereKept}
use Rattle.m2_base.specs.Rows.{IsValue}
use Rattle.m2_base.proofs.SoundOperands.{fold_value}
use Rattle.const_eval.proofs.numbers.combined.Goals as goal

pub returns-in-Some-clause-there : goal.returns-in-Some-clause-there
returns-in-Some-clause-there c = λ f h. (
  h,
  subst IsValue (sym (to_z-of_z w64 c.in-Some.value (search rules)))
      (subst (λ (o : Option ℤ). WhereKept o IsValue) (sym c.fold.ensures ∙ c.in-Some.is) (fold_value c.args.kind c.args.operator.operator _ _)),
)

pub constant_value-requires : goal.constant_value-requires
constant_value-requires c = tt

pub constant_value-requires-2 : goal.constant_value-requires-2
constant_value-requires-2 c = tt

pub is_bad-requires : goal.is_bad-requires
is_bad-requires c = tt

pub is_bad-requires-else-is_bad : goal.is_bad-requires-else-is_bad
is_bad-requires-else-is_bad c = tt

pub fold-requires : goal.fold-requires
fold-requires c = tt

pub returns-in-None-clause-there : goal.returns-in-None-clause-there
returns-in-None-clause-there c f of = tt

pub returns-in_default-clause-there : goal.returns-in_default-clause-there
returns-in_default-clause-there c f of = of

pub returns-in_default-2-clause-there : goal.returns-in_default-2-clause-there
returns-in_default-2-clause-there c f of = of

pub returns-then-is_bad-clause-there : goal.returns-then-is_bad-clause-there
returns-then-is_bad-clause-there c f of = tt
