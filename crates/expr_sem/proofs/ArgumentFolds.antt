-- Arguments one behind another in a loop are those that the definition takes from the last one on.
use Rattle.std.proofs.Common.{◌≡◌, ◌∙◌, [], ◌∷◌, suc, List, Option, Some, None, length, map, ap, refl, sym, append-nil, append_assoc}
use Rattle.m2_base.specs.Gives.{Gives, and_then, gives}
use Rattle.m2_base.specs.Statics.Contexts.{Context}
use Rattle.m2_base.specs.Statics.TypeParts.{Parameter}
use Rattle.m2_base.specs.Trees.{Expr, expr_at, exprs}
use Rattle.m2_base.specs.declared.rows.Place.{Place}
use Rattle.const_eval.proofs.Analysing.{and_then_assoc}
use Rattle.const_eval.proofs.Folding.{and_then_gives, and_then_same, folded}
use Rattle.block_code.specs.Arguments.{after_argument, argument}
use Rattle.expr_sem.specs.ExpressionParts.{all_passed, behind_first, next_passed}
use Rattle.block_code.specs.Expressions.{count_of_exprs, expression, passed}
use Rattle.block_code.specs.Parts.{Part, none, ◌⨟◌}

-- ** Parts in a row

then_none : (p : Part) → (p ⨟ none) ≡ p
then_none p = λ i at.
    record {
      code = append-nil (p at).code i;
      bytes = append-nil (p at).bytes i;
      next = (p at).next;
    }

then_assoc : (p q r : Part) → ((p ⨟ q) ⨟ r) ≡ (p ⨟ (q ⨟ r))
then_assoc p q r = λ i at.
    let m = (p at).next in
    let n = (q m).next in
    record {
      code = append_assoc (p at).code (q m).code (r n).code i;
      bytes = append_assoc (p at).bytes (q m).bytes (r n).bytes i;
      next = (r n).next;
    }

after_none : (code : Option Part) → code ≡ after_argument code (Some none)
after_none None = refl
after_none (Some p) = ap (λ (q : Part). Some q) (sym (then_none p))

after_missing : (code : Option Part) → None ≡ after_argument code None
after_missing None = refl
after_missing (Some p) = refl

after_after : (a b c : Option Part) → after_argument (after_argument a b) c ≡ after_argument a (after_argument b c)
after_after None b c = refl
after_after (Some p) None c = refl
after_after (Some p) (Some q) None = refl
after_after (Some p) (Some q) (Some r) = ap (λ (s : Part). Some s) (then_assoc p q r)

none_before : (code : Option Part) → after_argument (Some none) code ≡ code
none_before None = refl
none_before (Some p) = refl

-- ** Arguments

-- the parameters that are left, and the code of the arguments so far, after one further argument
abbrev pub argument_step : Context → (withs : List Place) → List Parameter × Option Part → Expr → Gives (List Parameter × Option Part)
argument_step c withs so_far e = and_then (next_passed c withs so_far.0 so_far.1 e) (λ code. gives (behind_first so_far.0, code))

module _ {X : Type 0} (c : Context) (withs : List Place) (view : X → Expr) where
  none_left : (es : List X) → folded (λ o e. argument_step c withs o (view e)) ([], None) es ≡ gives ([], None)
  none_left [] = refl
  none_left (e ∷ es) = none_left es

  passed_from : (ps : List Parameter) (code : Option Part) (es : List X)
      → and_then (folded (λ o e. argument_step c withs o (view e)) (ps, code) es) (λ o. gives (all_passed o.0 o.1)) ≡ and_then (passed c withs ps (exprs (map view es))) (λ rest. gives (after_argument code rest))
  passed_from [] code [] = ap (λ (o : Option Part). gives o) (after_none code)
  passed_from (p ∷ ps) code [] = ap (λ (o : Option Part). gives o) (after_missing code)
  passed_from [] code (e ∷ es) =
      ap (λ (g : Gives (List Parameter × Option Part)). and_then g (λ o. gives (all_passed o.0 o.1))) (none_left es) ∙ ap (λ (o : Option Part). gives o) (after_missing code)
  passed_from (p ∷ ps) code (e ∷ es) =
      let given = expression c withs (view e) in
      let checked = argument c p (expr_at (view e)) given.value in
      let rest = λ (o : List Parameter × Option Part). folded (λ o e. argument_step c withs o (view e)) o es in
      let end = λ (o : List Parameter × Option Part). gives (all_passed o.0 o.1) in
      let next = λ (a : Option Part). gives (after_argument code a) in
      let others = passed c withs ps (exprs (map view es)) in
      let made = λ (a : Option Part). and_then others (λ b. gives (after_argument a b)) in
      let last = λ (o : Option Part). gives (after_argument code o) in
      and_then_assoc (argument_step c withs (p ∷ ps, code) (view e)) rest end
      ∙ and_then_assoc (and_then given (λ x. and_then (argument c p (expr_at (view e)) x) next)) (λ a. gives (ps, a)) (λ o. and_then (rest o) end)
      ∙ and_then_assoc given (λ x. and_then (argument c p (expr_at (view e)) x) next) (λ a. and_then (rest (ps, a)) end)
      ∙ and_then_same given (λ x. and_then (and_then (argument c p (expr_at (view e)) x) next) (λ a. and_then (rest (ps, a)) end)) (λ x. and_then (and_then (argument c p (expr_at (view e)) x) made) last)
      (and_then_assoc checked next (λ a. and_then (rest (ps, a)) end)
      ∙ and_then_same checked (λ a. and_then (rest (ps, after_argument code a)) end) (λ a. and_then (made a) last)
      (passed_from ps (after_argument code checked.value) es
      ∙ and_then_same others (λ b. gives (after_argument (after_argument code checked.value) b)) (λ b. gives (after_argument code (after_argument checked.value b))) (ap (λ (o : Option Part). gives o) (after_after code checked.value others.value))
      ∙ sym (and_then_assoc others (λ b. gives (after_argument checked.value b)) last))
      ∙ sym (and_then_assoc checked made last))
      ∙ sym (and_then_assoc given (λ x. and_then (argument c p (expr_at (view e)) x) made) last)

  -- the code of all arguments
  pub passed_whole : (ps : List Parameter) (es : List X) → and_then (folded (λ o e. argument_step c withs o (view e)) (ps, Some none) es) (λ o. gives (all_passed o.0 o.1)) ≡ passed c withs ps (exprs (map view es))
  passed_whole ps es =
      let others = passed c withs ps (exprs (map view es)) in
      passed_from ps (Some none) es
      ∙ and_then_same others (λ rest. gives (after_argument (Some none) rest)) (λ rest. gives rest) (ap (λ (o : Option Part). gives o) (none_before others.value))
      ∙ and_then_gives others

-- the number of arguments
pub count_given : {X : Type 0} (view : X → Expr) (es : List X) → length es ≡ count_of_exprs (exprs (map view es))
count_given view [] = refl
count_given view (e ∷ es) = ap suc (count_given view es)
