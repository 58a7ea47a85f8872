-- The diagnostics of standard procedures stand at their arguments' tokens.
use Rattle.std.specs.Prelude.{ℕ, ◌||◌, Bool, is_some}
use Rattle.m2_base.specs.Gives.{Gives}
use Rattle.m2_base.specs.declared.rows.Place.{Place}
use Rattle.m2_base.specs.declared.rows.RowMeaning.{RowMeaning}
use Rattle.m2_base.specs.declared.rows.RowMeaning.TheVariants.{Array, OpenArray}
use Rattle.m2_base.specs.Standard.{character, cardinal}
use Rattle.m2_base.specs.Statics.Assignable.{taken_into}
use Rattle.m2_base.specs.Statics.Compatible.{is_compatible}
use Rattle.m2_base.specs.Statics.Contexts.{Context}
use Rattle.m2_base.specs.Statics.Functions.{abs_of, cap_of, chr_of, odd_of, ord_of, val_of}
use Rattle.m2_base.specs.Statics.Operands.{is_bad, operand_type}
use Rattle.m2_base.specs.Statics.Operations.{is_set_kind}
use Rattle.m2_base.specs.Statics.Sets.{set_base}
use Rattle.m2_base.specs.Statics.Types.{is_broken, kind_of, range_of}
use Rattle.m2_base.specs.declared.builtins.Builtin.{Builtin}
use Rattle.m2_base.specs.declared.builtins.Builtin.TheVariants.{Abs, Cap, Chr, Dec, Dispose, Excl, High, Inc, Incl, Max, Min, New, Odd, Ord, Size, Val}
use Rattle.m2_base.specs.declared.operands.Operand.{Operand}
use Rattle.m2_base.specs.declared.operands.Operand.TheVariants.{Computed, InError, NotConstant, Variable}
use Rattle.m2_base.proofs.StandingNotes.{GivesAt, gives_either, join, none, one}
use Rattle.m2_base.proofs.StandingOperations.{abs_at, cap_at, chr_at, max_at, min_at, odd_at, ord_at, size_at, val_at}
use Rattle.block_code.specs.Coded.{Coded, taken}
use Rattle.block_code.specs.Fitting.{fitted_code}
use Rattle.block_code.specs.Parts.{Part}
use Rattle.block_code.specs.StandardFunctions.{abs_code, as_variable, as_variable_by, cap_code, function_of_one, high_of, high_of_variable, named_type, odd_code, on_value, value_of_type}
use Rattle.block_code.specs.StandardProcedures.{beside, element_of_base, first_of_two, is_pointer_type, is_step, number_of_type, of_one_argument, of_two_arguments, ordinal_variable, pointer_variable, set_member, set_variable, step_number, step_type, variable_argument, variable_where}
use Rattle.block_code.specs.Values.{as_value}
use Rattle.block_laws.proofs.StandingOperands.{as_value_at, in_range_at}

module _ (Here : ℕ → Type 0) where
  -- ** Variables

  as_variable_by_at : (c : Context) (at : ℕ) (x : Coded) (o : Operand) → Here at → GivesAt Here c (as_variable_by c at x o)
  as_variable_by_at c at x (Variable t) h = none
  as_variable_by_at c at x InError h = none
  as_variable_by_at c at x NotConstant h = none
  as_variable_by_at c at x o h = one h

  pub as_variable_at : (c : Context) (at : ℕ) (x : Coded) → Here at → GivesAt Here c (as_variable c at x)
  as_variable_at c at x h = as_variable_by_at c at x x.operand h

  where_at : (c : Context) (at : ℕ) (test : Place → Bool) (x : Coded) → Here at → GivesAt Here c (variable_where c at test x)
  where_at c at test x h = gives_either (is_bad x.operand || test (operand_type x.operand)) _ _ none (one h)

  variable_argument_at : (c : Context) (at : ℕ) (test : Place → Bool) (x : Coded) → Here at → GivesAt Here c (variable_argument c at test x)
  variable_argument_at c at test x h = join (as_variable_at c at x h) (where_at c at test (as_variable c at x).value h)

  ordinal_at : (c : Context) (at : ℕ) (x : Coded) → Here at → GivesAt Here c (ordinal_variable c at x)
  ordinal_at c at x h = variable_argument_at c at (λ t. is_some (range_of c.scene t)) x h

  set_at : (c : Context) (at : ℕ) (x : Coded) → Here at → GivesAt Here c (set_variable c at x)
  set_at c at x h = variable_argument_at c at (λ t. is_set_kind (kind_of c.scene t)) x h

  pointer_at : (c : Context) (at : ℕ) (x : Coded) → Here at → GivesAt Here c (pointer_variable c at x)
  pointer_at c at x h = variable_argument_at c at (λ t. is_pointer_type (kind_of c.scene t)) x h

  -- ** Functions

  high_of_at : (c : Context) (at : ℕ) (x : Coded) (m : RowMeaning) → Here at → GivesAt Here c (high_of c at x m)
  high_of_at c at x (Array i t s) h = gives_either (is_broken c.scene i) _ _ none none
  high_of_at c at x (OpenArray t) h = none
  high_of_at c at x m h = one h

  high_at : (c : Context) (at : ℕ) (x : Coded) → Here at → GivesAt Here c (high_of_variable c at x)
  high_at c at x h = gives_either (is_bad x.operand) _ _ none (high_of_at c at x (kind_of c.scene (operand_type x.operand)) h)

  on_value_at : (c : Context) (at : ℕ) (x : Coded) (rule : Operand → Gives Operand) (code : Coded → Part) → Here at → ((o : Operand) → GivesAt Here c (rule o)) → GivesAt Here c (on_value c at x rule code)
  on_value_at c at x rule code h k = join (as_value_at Here c at x h) (join (k (as_value c at x).value.operand) none)

  function_at : (c : Context) (f : Builtin) (at : ℕ) (x : Coded) → Here at → GivesAt Here c (function_of_one c f at x)
  function_at c Abs at x h = on_value_at c at x (abs_of c at) (abs_code c) h (λ o. abs_at Here c at o h)
  function_at c Cap at x h = on_value_at c at x (cap_of c at) (cap_code c) h (λ o. cap_at Here c at o h)
  function_at c Chr at x h = on_value_at c at x (chr_of c at) (fitted_code c character) h (λ o. chr_at Here c at o h)
  function_at c Odd at x h = on_value_at c at x (odd_of c at) (odd_code c) h (λ o. odd_at Here c at o h)
  function_at c Ord at x h = on_value_at c at x (ord_of c at) (fitted_code c cardinal) h (λ o. ord_at Here c at o h)
  function_at c Min at x h = join (min_at Here c at x.operand h) none
  function_at c Max at x h = join (max_at Here c at x.operand h) none
  function_at c Size at x h = join (size_at Here c at x.operand h) none
  function_at c High at x h = join (as_variable_at c at x h) (high_at c at (as_variable c at x).value h)
  function_at c f at x h = none

  value_of_type_at : (c : Context) (t_at : ℕ) (t : Coded) (at : ℕ) (x : Coded) → Here t_at → Here at → GivesAt Here c (value_of_type c t_at t at x)
  value_of_type_at c t_at t at x h k =
      on_value_at c at x (val_of c t_at t.operand at) (fitted_code c (named_type t.operand)) k (λ o. val_at Here c t_at t.operand at o h k)

  -- ** Values beside a variable

  number_at : (c : Context) (at : ℕ) (want : Place) (x : Coded) → Here at → GivesAt Here c (number_of_type c at want x)
  number_at c at want x h = gives_either (is_step c.scene want x.operand) _ _ (in_range_at Here c at want x h) (one h)

  beside_at : (c : Context) (x : Coded) (rule : Coded → Gives Coded) (v : Coded) → GivesAt Here c (rule v) → GivesAt Here c (beside x rule v)
  beside_at c x rule v h = gives_either (is_bad x.operand || is_bad v.operand) _ _ none h

  step_number_at : (c : Context) (x : Coded) (at : ℕ) (y : Coded) → Here at → GivesAt Here c (step_number c x at y)
  step_number_at c x at y h =
      let want = step_type c.scene (operand_type x.operand) in
      let v = (as_value c at y).value in
      join (as_value_at Here c at y h) (beside_at c x (number_of_type c at want) v (number_at c at want v h))

  of_base_at : (c : Context) (at : ℕ) (base : Place) (v : Coded) → Here at → GivesAt Here c (element_of_base c at base v)
  of_base_at c at base v h =
      gives_either (is_broken c.scene base) _ _ none
      (gives_either (is_compatible c.scene v.operand (Computed base)) _ _
      (in_range_at Here c at base (taken (taken_into c.source c.scene base v.operand) v) h) (one h))

  member_at : (c : Context) (x : Coded) (at : ℕ) (y : Coded) → Here at → GivesAt Here c (set_member c x at y)
  member_at c x at y h =
      let base = set_base c (operand_type x.operand) in
      let v = (as_value c at y).value in
      join (as_value_at Here c at y h) (beside_at c x (element_of_base c at base) v (of_base_at c at base v h))

  -- ** By the number of arguments

  pub one_argument_at : (c : Context) (f : Builtin) (at : ℕ) (x : Coded) → Here at → GivesAt Here c (of_one_argument c f at x)
  one_argument_at c Inc at x h = join (ordinal_at c at x h) none
  one_argument_at c Dec at x h = join (ordinal_at c at x h) none
  one_argument_at c New at x h = join (pointer_at c at x h) none
  one_argument_at c Dispose at x h = join (pointer_at c at x h) none
  one_argument_at c f at x h = function_at c f at x h

  pub first_of_two_at : (c : Context) (f : Builtin) (at : ℕ) (x : Coded) → Here at → GivesAt Here c (first_of_two c f at x)
  first_of_two_at c Inc at x h = ordinal_at c at x h
  first_of_two_at c Dec at x h = ordinal_at c at x h
  first_of_two_at c Incl at x h = set_at c at x h
  first_of_two_at c Excl at x h = set_at c at x h
  first_of_two_at c f at x h = none

  pub two_arguments_at : (c : Context) (f : Builtin) (x_at : ℕ) (x : Coded) (at : ℕ) (y : Coded) → Here x_at → Here at → GivesAt Here c (of_two_arguments c f x_at x at y)
  two_arguments_at c Inc x_at x at y h k = join (step_number_at c x at y k) none
  two_arguments_at c Dec x_at x at y h k = join (step_number_at c x at y k) none
  two_arguments_at c Incl x_at x at y h k = join (member_at c x at y k) none
  two_arguments_at c Excl x_at x at y h k = join (member_at c x at y k) none
  two_arguments_at c Val x_at x at y h k = value_of_type_at c x_at x at y h k
  two_arguments_at c f x_at x at y h k = none
