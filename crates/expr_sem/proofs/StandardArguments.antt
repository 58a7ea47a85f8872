-- The arguments of a standard procedure, by how many there are.
use Rattle.std.proofs.Common.{◌≡◌, ◌∙◌, [], ◌∷◌, ◌<◌, ◌≤◌, List, length, map, ap, arith, refl}
use Rattle.std.specs.Prelude.{get_or}
use Rattle.m2_base.specs.Gives.{and_then, gives}
use Rattle.m2_base.specs.Statics.Contexts.{Context}
use Rattle.m2_base.specs.Trees.{Expr, expr_at, exprs}
use Rattle.m2_base.specs.declared.builtins.Builtin.{Builtin}
use Rattle.m2_base.specs.declared.rows.Place.{Place}
use Rattle.const_eval.proofs.Analysing.{and_then_assoc}
use Rattle.expr_sem.specs.ExpressionParts.{first_argument, second_argument}
use Rattle.block_code.specs.Expressions.{expression, standard}
use Rattle.block_code.specs.StandardProcedures.{first_of_two, of_no_argument, of_one_argument}

module _ {X : Type 0} (c : Context) (withs : List Place) (f : Builtin) (view : X → Expr) where
  pub none_given : (xs : List X) → length xs < 1 → gives (of_no_argument f) ≡ standard c withs f (exprs (map view xs))
  none_given [] h = refl
  none_given (x ∷ xs) h = absurd (omega (arith, h))

  pub one_argument_given : (xs : List X) (e : X) → length xs ≡ 1 → e ≡ get_or xs 0 e → and_then (expression c withs (view e)) (λ x. of_one_argument c f (expr_at (view e)) x) ≡ standard c withs f (exprs (map view xs))
  one_argument_given [] e h same = absurd (omega (arith, h))
  one_argument_given (x ∷ []) e h same = ap (λ (u : X). and_then (expression c withs (view u)) (λ x. of_one_argument c f (expr_at (view u)) x)) same
  one_argument_given (x ∷ y ∷ xs) e h same = absurd (omega (arith, h))

  pub two_arguments_given : (xs : List X) (e d : X) → 2 ≤ length xs → e ≡ get_or xs 0 e → d ≡ get_or xs 1 d
      → and_then (first_argument c withs f (view e)) (λ v. second_argument c withs f (expr_at (view e)) v (view d)) ≡ standard c withs f (exprs (map view xs))
  two_arguments_given [] e d h one two = absurd (omega (arith, h))
  two_arguments_given (x ∷ []) e d h one two = absurd (omega (arith, h))
  two_arguments_given (x ∷ y ∷ xs) e d h one two =
      ap (λ (u : X). and_then (first_argument c withs f (view u)) (λ v. second_argument c withs f (expr_at (view u)) v (view d))) one
      ∙ ap (λ (u : X). and_then (first_argument c withs f (view x)) (λ v. second_argument c withs f (expr_at (view x)) v (view u))) two
      ∙ and_then_assoc (expression c withs (view x)) (λ o. first_of_two c f (expr_at (view x)) o) (λ v. second_argument c withs f (expr_at (view x)) v (view y))
