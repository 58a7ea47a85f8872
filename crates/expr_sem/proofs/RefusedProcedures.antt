-- Standard procedures: where one notes a diagnostic, what it gives is in error, and so is what it makes of an argument in error.
use Rattle.std.specs.Prelude.{refl, ℕ, Bool, is_some, ◌||◌}
use Rattle.std.proofs.Common.{◌∙◌, ap}
use Rattle.m2_base.specs.Gives.{Gives, and_then, gives}
use Rattle.m2_base.specs.Standard.{cardinal, character}
use Rattle.m2_base.specs.Statics.Contexts.{Context}
use Rattle.m2_base.specs.Statics.Functions.{abs_of, cap_of, chr_of, max_of, min_of, odd_of, ord_of, size_value, val_of}
use Rattle.m2_base.specs.Statics.Operands.{is_bad, operand_type}
use Rattle.m2_base.specs.Statics.Operations.{is_set_kind}
use Rattle.m2_base.specs.Statics.Sets.{set_base}
use Rattle.m2_base.specs.Statics.Types.{kind_of, range_of}
use Rattle.m2_base.specs.declared.builtins.Builtin.TheVariants.{Abs, Cap, Chr, Dec, Dispose, Excl, High, Inc, Incl, Max, Min, New, Odd, Ord, Size, Val}
use Rattle.m2_base.specs.declared.builtins.Builtin.{Builtin}
use Rattle.m2_base.specs.declared.operands.Operand.TheVariants.{InError, NotConstant, Variable}
use Rattle.m2_base.specs.declared.operands.Operand.{Operand}
use Rattle.m2_base.specs.declared.rows.Place.{Place}
use Rattle.m2_base.specs.declared.rows.RowMeaning.TheVariants.{Array, OpenArray}
use Rattle.m2_base.specs.declared.rows.RowMeaning.{RowMeaning}
use Rattle.const_eval.proofs.RefusedSteps.{BrokenIsThere, IsError, QuietOr, of-error, of-second, quiet, quiet-if, quiet-then, tests, wrong}
use Rattle.const_eval.proofs.RefusedOperands.{abs-quiet, cap-quiet, chr-quiet, max-error, max-quiet, min-error, min-quiet, odd-quiet, ord-quiet, size-quiet, val-error, val-quiet, val-untyped}
use Rattle.expr_sem.proofs.RefusedValues.{Erred, QuietCoded, as_value-error, as_value-quiet, in_range-quiet, made-error, made-quiet, of-erred}
use Rattle.block_code.specs.Coded.{Coded, bare, in_error}
use Rattle.block_code.specs.Fitting.{fitted_code}
use Rattle.block_code.specs.Operators.{made}
use Rattle.block_code.specs.Parts.{Part}
use Rattle.block_code.specs.StandardFunctions.{abs_code, as_variable, as_variable_by, cap_code, function_of_one, high_of, high_of_variable, named_type, odd_code, on_value, size_code, value_of_type}
use Rattle.block_code.specs.StandardProcedures.{beside, disposed, element_of_base, first_of_two, included, is_pointer_type, new_room, number_of_type, of_one_argument, of_two_arguments, one, ordinal_variable, pointer_variable, set_member, set_variable, step_number, step_type, stepped, variable_argument, variable_where}
use Rattle.block_code.specs.Values.{as_value}

module _ (c : Context) where
  -- ---- variables as arguments

  as_variable_by-quiet : (at : ℕ) (x : Coded) (o : Operand) → QuietCoded (as_variable_by c at x o)
  as_variable_by-quiet at x (Variable t) = quiet refl
  as_variable_by-quiet at x InError = quiet refl
  as_variable_by-quiet at x NotConstant = quiet refl
  as_variable_by-quiet at x o = wrong refl

  as_variable-quiet : (at : ℕ) (x : Coded) → QuietCoded (as_variable c at x)
  as_variable-quiet at x = as_variable_by-quiet at x x.operand

  as_variable-error : (at : ℕ) (x : Coded) → Erred x → Erred (as_variable c at x).value
  as_variable-error at x e = of-erred (λ y. Erred (as_variable c at y).value) x e (λ code high. refl)

  variable_where-quiet : (at : ℕ) (test : Place → Bool) (x : Coded) → QuietCoded (variable_where c at test x)
  variable_where-quiet at test x = search tests

  variable_where-error : (at : ℕ) (test : Place → Bool) (x : Coded) → Erred x → Erred (variable_where c at test x).value
  variable_where-error at test x e = of-erred (λ y. Erred (variable_where c at test y).value) x e (λ code high. refl)

  argument-quiet : (at : ℕ) (test : Place → Bool) (x : Coded) → QuietCoded (variable_argument c at test x)
  argument-quiet at test x =
      let v : Gives Coded = as_variable c at x in
      quiet-then Erred Erred v (variable_where c at test) (as_variable-quiet at x) (variable_where-error at test v.value) (variable_where-quiet at test v.value)

  argument-error : (at : ℕ) (test : Place → Bool) (x : Coded) → Erred x → Erred (variable_argument c at test x).value
  argument-error at test x e = variable_where-error at test (as_variable c at x).value (as_variable-error at x e)

  -- ---- functions of one argument

  module _ (at : ℕ) (x : Coded) (rule : Operand → Gives Operand) (code : Coded → Part) (kept : IsError (rule InError).value) where
    by_rule-error : (v : Coded) → Erred v → Erred (made (rule v.operand).value (code v))
    by_rule-error v e = made-error c (rule v.operand).value (λ r. code v) (ap (λ o. (rule o).value) e ∙ kept)

    on_value-quiet : ((o : Operand) → QuietOr IsError (rule o)) → QuietCoded (on_value c at x rule code)
    on_value-quiet q =
        let v : Gives Coded = as_value c at x in
        quiet-then Erred Erred v (λ y. and_then (rule y.operand) (λ r. gives (made r (code y)))) (as_value-quiet c at x) (by_rule-error v.value)
        (made-quiet c (rule v.value.operand) (λ r. code v.value) (q v.value.operand))

    on_value-error : Erred x → Erred (on_value c at x rule code).value
    on_value-error e = by_rule-error (as_value c at x).value (as_value-error c at x e)

  high_of-quiet : (at : ℕ) (x : Coded) (m : RowMeaning) → QuietCoded (high_of c at x m)
  high_of-quiet at x (Array i t s) = search tests
  high_of-quiet at x (OpenArray t) = quiet refl
  high_of-quiet at x m = wrong refl

  high_of_variable-quiet : (at : ℕ) (x : Coded) → QuietCoded (high_of_variable c at x)
  high_of_variable-quiet at x = search (tests, high_of-quiet)

  high_of_variable-error : (at : ℕ) (x : Coded) → Erred x → Erred (high_of_variable c at x).value
  high_of_variable-error at x e = of-erred (λ y. Erred (high_of_variable c at y).value) x e (λ code high. refl)

  function-quiet : BrokenIsThere c → (f : Builtin) (at : ℕ) (x : Coded) → QuietCoded (function_of_one c f at x)
  function-quiet h Abs at x = on_value-quiet at x (abs_of c at) (abs_code c) refl (abs-quiet c at)
  function-quiet h Cap at x = on_value-quiet at x (cap_of c at) (cap_code c) refl (cap-quiet c at)
  function-quiet h Chr at x = on_value-quiet at x (chr_of c at) (fitted_code c character) refl (chr-quiet c at)
  function-quiet h Odd at x = on_value-quiet at x (odd_of c at) (odd_code c) refl (odd-quiet c at)
  function-quiet h Ord at x = on_value-quiet at x (ord_of c at) (fitted_code c cardinal) refl (ord-quiet c at)
  function-quiet h Min at x =
      quiet-then IsError Erred (min_of c at x.operand) (λ r. gives (bare r)) (min-quiet c h at x.operand) (λ e. e) (quiet refl)
  function-quiet h Max at x =
      quiet-then IsError Erred (max_of c at x.operand) (λ r. gives (bare r)) (max-quiet c h at x.operand) (λ e. e) (quiet refl)
  function-quiet h Size at x = made-quiet c (size_value c at x.operand) (λ r. size_code c x) (size-quiet c at x.operand)
  function-quiet h High at x =
      let v : Gives Coded = as_variable c at x in
      quiet-then Erred Erred v (high_of_variable c at) (as_variable-quiet at x) (high_of_variable-error at v.value) (high_of_variable-quiet at v.value)
  function-quiet h f at x = quiet refl

  function-error : BrokenIsThere c → (f : Builtin) (at : ℕ) (x : Coded) → Erred x → Erred (function_of_one c f at x).value
  function-error h Abs at x e = on_value-error at x (abs_of c at) (abs_code c) refl e
  function-error h Cap at x e = on_value-error at x (cap_of c at) (cap_code c) refl e
  function-error h Chr at x e = on_value-error at x (chr_of c at) (fitted_code c character) refl e
  function-error h Odd at x e = on_value-error at x (odd_of c at) (odd_code c) refl e
  function-error h Ord at x e = on_value-error at x (ord_of c at) (fitted_code c cardinal) refl e
  function-error h Min at x e = of-error (λ o. IsError (min_of c at o).value) x.operand e (min-error c h at)
  function-error h Max at x e = of-error (λ o. IsError (max_of c at o).value) x.operand e (max-error c h at)
  function-error h Size at x e = of-erred (λ y. Erred (function_of_one c Size at y).value) x e (λ code high. refl)
  function-error h High at x e = high_of_variable-error at (as_variable c at x).value (as_variable-error at x e)
  function-error h f at x e = refl

  -- ---- VAL

  val_of_type-quiet : BrokenIsThere c → (t_at : ℕ) (t : Coded) (at : ℕ) (x : Coded) → QuietCoded (value_of_type c t_at t at x)
  val_of_type-quiet h t_at t at x =
      on_value-quiet at x (val_of c t_at t.operand at) (fitted_code c (named_type t.operand)) (val-error c t_at t.operand at) (val-quiet c h t_at t.operand at)

  val_of_type-error : (t_at : ℕ) (t : Coded) (at : ℕ) (x : Coded) → Erred x → Erred (value_of_type c t_at t at x).value
  val_of_type-error t_at t at x e =
      on_value-error at x (val_of c t_at t.operand at) (fitted_code c (named_type t.operand)) (val-error c t_at t.operand at) e

  val_of_type-untyped : BrokenIsThere c → (t_at : ℕ) (t : Coded) (at : ℕ) (x : Coded) → Erred t → Erred (value_of_type c t_at t at x).value
  val_of_type-untyped h t_at t at x e =
      let v : Coded = (as_value c at x).value in
      made-error c (val_of c t_at t.operand at v.operand).value (λ r. fitted_code c (named_type t.operand) v)
      (of-error (λ o. IsError (val_of c t_at o at v.operand).value) t.operand e (val-untyped c h t_at at v.operand))

  -- ---- INC, DEC, INCL and EXCL

  number-quiet : (at : ℕ) (want : Place) (n : Coded) → QuietCoded (number_of_type c at want n)
  number-quiet at want n = search (tests, in_range-quiet)

  base_element-quiet : (at : ℕ) (base : Place) (v : Coded) → QuietCoded (element_of_base c at base v)
  base_element-quiet at base v = search (tests, in_range-quiet)

  beside-second : (x : Coded) (rule : Coded → Gives Coded) (v : Coded) → Erred v → Erred (beside x rule v).value
  beside-second x rule v e = of-second (λ (g : Gives Coded). Erred g.value) (is_bad x.operand) v.operand (gives in_error) (rule v) e refl

  module _ (x : Coded) (at : ℕ) (n : Coded) (rule : Coded → Gives Coded) where
    beside-quiet : ((v : Coded) → QuietCoded (rule v)) → QuietCoded (and_then (as_value c at n) (beside x rule))
    beside-quiet q =
        let v : Gives Coded = as_value c at n in
        quiet-then Erred Erred v (beside x rule) (as_value-quiet c at n) (beside-second x rule v.value)
        (quiet-if Erred (is_bad x.operand || is_bad v.value.operand) (gives in_error) (rule v.value) (quiet refl) (q v.value))

    beside-error : Erred n → Erred (and_then (as_value c at n) (beside x rule)).value
    beside-error e = beside-second x rule (as_value c at n).value (as_value-error c at n e)

  step-quiet : (x : Coded) (at : ℕ) (n : Coded) → QuietCoded (step_number c x at n)
  step-quiet x at n =
      let want : Place = step_type c.scene (operand_type x.operand) in
      beside-quiet x at n (number_of_type c at want) (number-quiet at want)

  member-quiet : (x : Coded) (at : ℕ) (n : Coded) → QuietCoded (set_member c x at n)
  member-quiet x at n =
      let base : Place = set_base c (operand_type x.operand) in
      beside-quiet x at n (element_of_base c at base) (base_element-quiet at base)

  stepped-first : (f : Builtin) (x n : Coded) → Erred x → Erred (stepped c f x n)
  stepped-first f x n e = of-erred (λ y. Erred (stepped c f y n)) x e (λ code high. refl)

  stepped-second : (f : Builtin) (x n : Coded) → Erred n → Erred (stepped c f x n)
  stepped-second f x n e = of-second Erred (is_bad x.operand) n.operand in_error _ e refl

  included-first : (f : Builtin) (x n : Coded) → Erred x → Erred (included c f x n)
  included-first f x n e = of-erred (λ y. Erred (included c f y n)) x e (λ code high. refl)

  included-second : (f : Builtin) (x n : Coded) → Erred n → Erred (included c f x n)
  included-second f x n e = of-second Erred (is_bad x.operand) n.operand in_error _ e refl

  ordinal-quiet : (at : ℕ) (x : Coded) → QuietCoded (ordinal_variable c at x)
  ordinal-quiet at x = argument-quiet at (λ t. is_some (range_of c.scene t)) x

  ordinal-error : (at : ℕ) (x : Coded) → Erred x → Erred (ordinal_variable c at x).value
  ordinal-error at x e = argument-error at (λ t. is_some (range_of c.scene t)) x e

  set-quiet : (at : ℕ) (x : Coded) → QuietCoded (set_variable c at x)
  set-quiet at x = argument-quiet at (λ t. is_set_kind (kind_of c.scene t)) x

  set-error : (at : ℕ) (x : Coded) → Erred x → Erred (set_variable c at x).value
  set-error at x e = argument-error at (λ t. is_set_kind (kind_of c.scene t)) x e

  pointer-quiet : (at : ℕ) (x : Coded) → QuietCoded (pointer_variable c at x)
  pointer-quiet at x = argument-quiet at (λ t. is_pointer_type (kind_of c.scene t)) x

  pointer-error : (at : ℕ) (x : Coded) → Erred x → Erred (pointer_variable c at x).value
  pointer-error at x e = argument-error at (λ t. is_pointer_type (kind_of c.scene t)) x e

  new-error : (x : Coded) → Erred x → Erred (new_room c x)
  new-error x e = of-erred (λ y. Erred (new_room c y)) x e (λ code high. refl)

  dispose-error : (x : Coded) → Erred x → Erred (disposed x)
  dispose-error x e = of-erred (λ y. Erred (disposed y)) x e (λ code high. refl)

  -- ---- by the number of arguments

  -- a value alone is made of what a rule gives
  then-quiet : (g : Gives Coded) (f : Coded → Coded) → QuietCoded g → (Erred g.value → Erred (f g.value)) → QuietCoded (and_then g (λ v. gives (f v)))
  then-quiet g f q kept = quiet-then Erred Erred g (λ v. gives (f v)) q kept (quiet refl)

  pub one_argument-quiet : BrokenIsThere c → (f : Builtin) (at : ℕ) (x : Coded) → QuietCoded (of_one_argument c f at x)
  one_argument-quiet h Inc at x =
      then-quiet (ordinal_variable c at x) (λ v. stepped c Inc v one) (ordinal-quiet at x) (stepped-first Inc (ordinal_variable c at x).value one)
  one_argument-quiet h Dec at x =
      then-quiet (ordinal_variable c at x) (λ v. stepped c Dec v one) (ordinal-quiet at x) (stepped-first Dec (ordinal_variable c at x).value one)
  one_argument-quiet h New at x = then-quiet (pointer_variable c at x) (new_room c) (pointer-quiet at x) (new-error (pointer_variable c at x).value)
  one_argument-quiet h Dispose at x = then-quiet (pointer_variable c at x) disposed (pointer-quiet at x) (dispose-error (pointer_variable c at x).value)
  one_argument-quiet h f at x = function-quiet h f at x

  pub one_argument-error : BrokenIsThere c → (f : Builtin) (at : ℕ) (x : Coded) → Erred x → Erred (of_one_argument c f at x).value
  one_argument-error h Inc at x e = stepped-first Inc (ordinal_variable c at x).value one (ordinal-error at x e)
  one_argument-error h Dec at x e = stepped-first Dec (ordinal_variable c at x).value one (ordinal-error at x e)
  one_argument-error h New at x e = new-error (pointer_variable c at x).value (pointer-error at x e)
  one_argument-error h Dispose at x e = dispose-error (pointer_variable c at x).value (pointer-error at x e)
  one_argument-error h f at x e = function-error h f at x e

  pub first-quiet : (f : Builtin) (at : ℕ) (x : Coded) → QuietCoded (first_of_two c f at x)
  first-quiet Inc at x = ordinal-quiet at x
  first-quiet Dec at x = ordinal-quiet at x
  first-quiet Incl at x = set-quiet at x
  first-quiet Excl at x = set-quiet at x
  first-quiet f at x = quiet refl

  pub first-error : (f : Builtin) (at : ℕ) (x : Coded) → Erred x → Erred (first_of_two c f at x).value
  first-error Inc at x e = ordinal-error at x e
  first-error Dec at x e = ordinal-error at x e
  first-error Incl at x e = set-error at x e
  first-error Excl at x e = set-error at x e
  first-error f at x e = e

  pub two_arguments-quiet : BrokenIsThere c → (f : Builtin) (x_at : ℕ) (x : Coded) (at : ℕ) (y : Coded) → QuietCoded (of_two_arguments c f x_at x at y)
  two_arguments-quiet h Inc x_at x at y = then-quiet (step_number c x at y) (stepped c Inc x) (step-quiet x at y) (stepped-second Inc x (step_number c x at y).value)
  two_arguments-quiet h Dec x_at x at y = then-quiet (step_number c x at y) (stepped c Dec x) (step-quiet x at y) (stepped-second Dec x (step_number c x at y).value)
  two_arguments-quiet h Incl x_at x at y = then-quiet (set_member c x at y) (included c Incl x) (member-quiet x at y) (included-second Incl x (set_member c x at y).value)
  two_arguments-quiet h Excl x_at x at y = then-quiet (set_member c x at y) (included c Excl x) (member-quiet x at y) (included-second Excl x (set_member c x at y).value)
  two_arguments-quiet h Val x_at x at y = val_of_type-quiet h x_at x at y
  two_arguments-quiet h f x_at x at y = quiet refl

  pub two_arguments-first : BrokenIsThere c → (f : Builtin) (x_at : ℕ) (x : Coded) (at : ℕ) (y : Coded) → Erred x
      → Erred (of_two_arguments c f x_at x at y).value
  two_arguments-first h Inc x_at x at y e = stepped-first Inc x (step_number c x at y).value e
  two_arguments-first h Dec x_at x at y e = stepped-first Dec x (step_number c x at y).value e
  two_arguments-first h Incl x_at x at y e = included-first Incl x (set_member c x at y).value e
  two_arguments-first h Excl x_at x at y e = included-first Excl x (set_member c x at y).value e
  two_arguments-first h Val x_at x at y e = val_of_type-untyped h x_at x at y e
  two_arguments-first h f x_at x at y e = refl

  step-error : (x : Coded) (at : ℕ) (n : Coded) → Erred n → Erred (step_number c x at n).value
  step-error x at n e = beside-error x at n (number_of_type c at (step_type c.scene (operand_type x.operand))) e

  member-error : (x : Coded) (at : ℕ) (n : Coded) → Erred n → Erred (set_member c x at n).value
  member-error x at n e = beside-error x at n (element_of_base c at (set_base c (operand_type x.operand))) e

  pub two_arguments-second : (f : Builtin) (x_at : ℕ) (x : Coded) (at : ℕ) (y : Coded) → Erred y → Erred (of_two_arguments c f x_at x at y).value
  two_arguments-second Inc x_at x at y e = stepped-second Inc x (step_number c x at y).value (step-error x at y e)
  two_arguments-second Dec x_at x at y e = stepped-second Dec x (step_number c x at y).value (step-error x at y e)
  two_arguments-second Incl x_at x at y e = included-second Incl x (set_member c x at y).value (member-error x at y e)
  two_arguments-second Excl x_at x at y e = included-second Excl x (set_member c x at y).value (member-error x at y e)
  two_arguments-second Val x_at x at y e = val_of_type-error x_at x at y e
  two_arguments-second f x_at x at y e = refl
