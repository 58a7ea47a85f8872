-- What operators, functions, standard procedures and sets make of right parts is right.
use Rattle.std.specs.Prelude.{◌≡◌, refl, ℕ, ◌<◌, ◌≤◌, ◌==◌, ◌||◌, Bool, true, false, is_some, ℤ, pos, negsuc, ◌-ℤ◌, List, [], ◌∷◌, length, map, Option, Some, None}
use Rattle.std.proofs.Common.{arith}
use Rattle.code_form.specs.Heights.{Step}
use Rattle.code_form.specs.Instructions.{IsInstr}
use Rattle.code_form.specs.Valid.{jump_of}
use Rattle.code_form.specs.declared.instr.Instr.{Instr}
use Rattle.code_form.specs.declared.instr.Instr.TheVariants.{Add, AndJump, Bit, Check, Diff, Div as Quotient, Dup, Eq, Ge, Gt, Inter, Le, Load, Lt, Mod as Remainder, Mul, Ne, Neg, OrJump, Push, Span, Store, Sub, Subset, Superset, SymDiff, Union, Abs as Magnitude, Cap as Capital, Halt as Stop, In as Member, New as Room, Not as Negation}
use Rattle.block_code.specs.Coded.{Coded, bare, characters, coded, in_error, is_structured, no_high, taken, value_by, value_code, with_char}
use Rattle.block_code.specs.Fitting.{check_of, fit_of, fitted_code, reaches_beyond}
use Rattle.block_code.specs.Operators.{made, one_coded, one_instr, operation_code, scalar_instr, set_instr, side_of, two_coded, two_instr}
use Rattle.block_code.specs.Parts.{Part, none, plain, plain_step, skip, text, ◌⨟◌}
use Rattle.block_code.specs.ProcedureNames.{Target, procedure_code, target_of_procedure}
use Rattle.block_code.specs.SetElements.{Elements, add_element, add_range, element_as, element_coded, set_by}
use Rattle.block_code.specs.StandardFunctions.{abs_code, as_variable, as_variable_by, cap_code, function_of_one, high_code, high_of, high_of_range, high_of_variable, magnitude, named_type, odd_code, on_value, size_code, value_of_type}
use Rattle.block_code.specs.StandardProcedures.{counting_range, disposed, element_of_base, first_of_two, included, is_pointer_type, is_step, member_instrs, new_room, no_value, number_of_type, of_no_argument, of_one_argument, of_two_arguments, one, ordinal_variable, pointer_variable, set_member, step_instr, step_instrs, step_number, step_type, stepped, update, variable_argument}
use Rattle.block_code.specs.Values.{as_value, as_value_by, assigned_to, in_range, in_range_by, is_passed_over}
use Rattle.m2_base.proofs.SoundOperands.{AreValues, natural-value}
use Rattle.m2_base.proofs.SoundTypes.{either}
use Rattle.m2_base.specs.Gives.{Gives, gives}
use Rattle.m2_base.specs.Lists.{Each, WhereKept}
use Rattle.m2_base.specs.Rows.{IsValue, is_same_place}
use Rattle.m2_base.specs.declared.rows.RowMeaning.TheVariants.{Array, OpenArray}
use Rattle.m2_base.specs.declared.rows.Place.{Place}
use Rattle.m2_base.specs.declared.rows.RowMeaning.{RowMeaning}
use Rattle.m2_base.specs.Standard.{broken, cardinal, character, integer}
use Rattle.m2_base.specs.Statics.Assignable.{is_assignable, taken_into}
use Rattle.m2_base.specs.Statics.Cells.{most_cells}
use Rattle.m2_base.specs.Statics.Compatible.{is_compatible}
use Rattle.m2_base.specs.Statics.Contexts.{Context, Scene, level_of, refuse}
use Rattle.m2_base.specs.Statics.Diagnostics.{not_a_procedure_value, out_of_range, wrong_argument}
use Rattle.m2_base.specs.Statics.FormedRows.{IsSoundText}
use Rattle.m2_base.specs.Statics.Functions.{abs_of, cap_of, chr_of, max_of, min_of, odd_of, ord_of, size_value, val_of}
use Rattle.m2_base.specs.Statics.Operands.{is_bad, operand_type}
use Rattle.m2_base.specs.Statics.Operations.{apply_one, is_set_kind, operate}
use Rattle.m2_base.specs.Statics.Ranges.{Range, count_to, is_within}
use Rattle.m2_base.specs.Statics.Sets.{element_of, set_base}
use Rattle.m2_base.specs.Statics.TypeParts.{target_of}
use Rattle.m2_base.specs.Statics.Types.{base_of, is_broken, kind_of, range_of, size_of, stands_for}
use Rattle.m2_base.specs.declared.trees.operators.Operator.{Operator}
use Rattle.m2_base.specs.declared.builtins.Builtin.{Builtin}
use Rattle.m2_base.specs.declared.builtins.Builtin.TheVariants.{Abs, Cap, Chr, Dec, Dispose, Excl, Halt, High, Inc, Incl, Max, Min, New, Odd, Ord, Size, Val}
use Rattle.m2_base.specs.declared.operands.Operand.{Operand}
use Rattle.m2_base.specs.declared.operands.Operand.TheVariants.{Computed, Constant, InError, ModuleName, NamedType, Procedure, StandardProcedure, StringConstant, Variable}
use Rattle.m2_base.specs.declared.trees.operators.Operator.TheVariants.{Plus, Minus, Times, Slash, Div, Mod, And, Or, Not, Equal, Unequal, Less, Greater, LessEqual, GreaterEqual}
use Rattle.row_laws.specs.RowRanges.{HasOperands, IsIndexRange, RowsInRange}
use Rattle.block_laws.specs.Sight.{Sees, value_instr}
use Rattle.block_laws.proofs.Values.{HasValues, IsProcedure, kind_operands, range_values, size_is}
use Rattle.block_laws.proofs.Results.{abs-values, apply-values, beside-values, cap-values, char-values, chr-values, element-values, max-values, min-values, odd-values, operate-values, ord-values, size-values, val-values, with_elements-values}
use Rattle.block_laws.proofs.Parts.{Leaves, Right, names_nothing, none-right, one-right, skip-right, steps-right, text-right, then-right}
use Rattle.row_laws.proofs.Choices.{either_by}

-- what is known where a block's code is made
pub record Setting (q : Step → Type 0) (seen : ℕ → Type 0) (cells bytes : ℕ) (c : Context) : Type 0 where
  pub rows : RowsInRange c.scene
  pub texts : IsSoundText c.source
  pub sees : Sees seen c.scene
  pub leaves : Leaves q seen cells bytes c.scene

-- something of this operand with this code
abbrev pub put : Operand → Part → Part → Coded
put o code high = record { operand = o; code = code; high = high }

-- a procedure that may be a value
abbrev pub IsProcedureValue : (seen : ℕ → Type 0) → Scene → ℕ → Place → ℕ → ℕ → Type 0
IsProcedureValue seen scene name t k s = IsProcedure seen scene name t k s × ((level_of scene.block t.scope == 0) ≡ true)

module _ (q : Step → Type 0) (seen : ℕ → Type 0) (cells bytes : ℕ) (c : Context) (n from : ℕ) (set : Setting q seen cells bytes c) where
  abbrev R : Part → Type 0
  R p = Right q cells bytes n from p

  abbrev pub IsNamed : Operand → Type 0
  IsNamed o = HasValues seen (IsProcedure seen c.scene) o

  abbrev pub IsWorth : Operand → Type 0
  IsWorth o = HasValues seen (IsProcedureValue seen c.scene) o

  -- what stands for something, and for a value
  abbrev pub X : Coded → Type 0
  X x = IsNamed x.operand × (R x.code × R x.high)

  abbrev pub W : Coded → Type 0
  W x = IsWorth x.operand × (R x.code × R x.high)

  abbrev XG : Gives Coded → Type 0
  XG g = X g.value

  abbrev WG : Gives Coded → Type 0
  WG g = W g.value

  -- ** Parts

  pub thn : (a b : Part) → R a → R b → R (a ⨟ b)
  thn a b f g = then-right q cells bytes n from a b f g

  pub ok : (i : Instr) → names_nothing i ≡ true → (jump_of i ≡ None → IsInstr i) → q (plain_step i)
  ok i e f = set.leaves.others i e f

  pub all : (is : List Instr) → Each q (map plain_step is) → R (plain is)
  all is h = steps-right q cells bytes n from (map plain_step is) h

  pub single : (i : Instr) → names_nothing i ≡ true → (jump_of i ≡ None → IsInstr i) → R (plain (i ∷ []))
  single i e f = one-right q cells bytes n from i (ok i e f)

  pub nothing-right : R none
  nothing-right = none-right q cells bytes n from

  pub push : (v : ℤ) → IsValue v → q (plain_step (Push v))
  push v h = ok (Push v) refl (λ e. (h, tt))

  pub string-right : (cs : List ℕ) → R (text cs)
  string-right cs = text-right q cells bytes n from cs (λ b k h. set.leaves.characters b (length cs) k h)

  pub high-none : R no_high
  high-none = all (Push (pos 0) ∷ []) (push (pos 0) (natural-value 0 (omega arith)), tt)

  pub bare-x : (o : Operand) → IsNamed o → X (bare o)
  bare-x o h = (h, (nothing-right, high-none))

  pub bare-w : (o : Operand) → IsWorth o → W (bare o)
  bare-w o h = (h, (nothing-right, high-none))

  pub error-x : X in_error
  error-x = bare-x InError tt

  pub error-w : W in_error
  error-w = bare-w InError tt

  pub computed-x : (t : Place) (p : Part) → R p → X (coded (Computed t) p)
  computed-x t p f = (tt, (f, high-none))

  pub computed-w : (t : Place) (p : Part) → R p → W (coded (Computed t) p)
  computed-w t p f = (tt, (f, high-none))

  weaker : (o : Operand) → IsWorth o → IsNamed o
  weaker (Procedure name t k s) h = h.0
  weaker (Constant t v) h = h
  weaker (StringConstant m l) h = h
  weaker (ModuleName s) h = h
  weaker o h = tt

  pub worth-x : (x : Coded) → W x → X x
  worth-x x h = (weaker x.operand h.0, h.1)

  -- ** Values

  value_go : (at : ℕ) (o : Operand) (code high : Part) → IsNamed o → R code → R high → WG (as_value_by c at (put o code high) o)
  value_go at (NamedType t) code high h f g = error-w
  value_go at (ModuleName s) code high h f g = error-w
  value_go at (StandardProcedure k) code high h f g = error-w
  value_go at (Procedure name t k s) code high h f g =
      either_by WG (level_of c.scene.block t.scope == 0) (gives (put (Procedure name t k s) code high)) (refuse c at not_a_procedure_value in_error)
      (λ e. ((h, e), (f, g))) (λ e. error-w)
  value_go at (Constant t v) code high h f g = (h, (f, g))
  value_go at (StringConstant m l) code high h f g = (h, (f, g))
  value_go at o code high h f g = (tt, (f, g))

  pub as_value-w : (at : ℕ) (x : Coded) → X x → WG (as_value c at x)
  as_value-w at x g = value_go at x.operand x.code x.high g.0 g.1.0 g.1.1

  procedure_go : (p : Option Target) → q (plain_step (value_instr c.scene p)) → R (procedure_code c.scene p)
  procedure_go None h = one-right q cells bytes n from (value_instr c.scene None) h
  procedure_go (Some p) h = one-right q cells bytes n from (value_instr c.scene (Some p)) h

  code_go : (code : Part) (o : Operand) → IsWorth o → R code → R (value_by c code o)
  code_go code (Constant t v) h f = all (Push v ∷ []) (push v h, tt)
  code_go code (StringConstant name k) h f = string-right (characters c.source name)
  code_go code (Variable t) h f =
      either R (is_structured c.scene t) code (code ⨟ plain (Load ∷ [])) f (thn code (plain (Load ∷ [])) f (single Load refl (λ e. tt)))
  code_go code (Procedure name t k s) h f =
      procedure_go (target_of_procedure c.scene name t k) (set.leaves.procedure name t k s h.0 h.1)
  code_go code o h f = f

  pub value-right : (x : Coded) → W x → R (value_code c x)
  value-right x g = code_go x.code x.operand g.0 g.1.0

  check_each : (from' : Option Range) (to : Option Range) → WhereKept to AreValues → Each q (map plain_step (check_of from' to))
  check_each from' None h = tt
  check_each from' (Some r) h =
      either (λ is. Each q (map plain_step is)) (reaches_beyond from' r) (Check r.low r.high ∷ []) [] (ok (Check r.low r.high) refl (λ e. (h.0, (h.1, tt))), tt) tt

  fit-right : (to : Place) (o : Operand) → R (fit_of c.scene to o)
  fit-right to (Variable t) = all (check_of (range_of c.scene t) (range_of c.scene to)) (check_each (range_of c.scene t) (range_of c.scene to) (range_values c set.rows to))
  fit-right to (Computed t) = all (check_of (range_of c.scene t) (range_of c.scene to)) (check_each (range_of c.scene t) (range_of c.scene to) (range_values c set.rows to))
  fit-right to o = nothing-right

  pub fitted-right : (to : Place) (x : Coded) → W x → R (fitted_code c to x)
  fitted-right to x g = thn (value_code c x) (fit_of c.scene to x.operand) (value-right x g) (fit-right to x.operand)

  range_go : (at : ℕ) (r : Option Range) (x : Coded) (o : Operand) → W x → WG (in_range_by c at r x o)
  range_go at r x (Constant t v) g = either WG (is_within r v) (gives x) (refuse c at out_of_range in_error) g error-w
  range_go at r x o g = g

  in_range-w : (at : ℕ) (to : Place) (x : Coded) → W x → WG (in_range c at to x)
  in_range-w at to x g = range_go at (range_of c.scene to) x x.operand g

  pub taken-w : (to : Place) (x : Coded) → W x → W (taken (taken_into c.source c.scene to x.operand) x)
  taken-w to x g = (beside-values seen (IsProcedureValue seen c.scene) c set.texts x.operand (Computed to) g.0, g.1)

  pub assigned-w : (to : Place) (at code : ℕ) (x : Coded) → W x → WG (assigned_to c to at code x)
  assigned-w to at code x g =
      let y : Coded = taken (taken_into c.source c.scene to x.operand) x in
      either WG (is_passed_over c.scene to x.operand) (gives in_error) _ error-w
      (either WG (is_assignable c.scene to x.operand) (in_range c at to y) (refuse c at code in_error) (in_range-w at to y (taken-w to x g)) error-w)

  pub made-w : (r : Operand) (p : Part) → IsWorth r → R p → W (made r p)
  made-w (Computed t) p h f = computed-w t p f
  made-w (Constant t v) p h f = bare-w (Constant t v) h
  made-w o p h f = error-w

  -- ** Operators

  one_each : (op : Operator) → Each q (map plain_step (one_instr op))
  one_each Not = (ok Negation refl (λ e. tt), tt)
  one_each Minus = (ok Neg refl (λ e. tt), tt)
  one_each op = tt

  pub one_coded-w : (op : Operator) (op_at : ℕ) (x : Coded) → W x → WG (one_coded c op op_at x)
  one_coded-w op op_at x g =
      made-w (apply_one c op op_at x.operand).value (value_code c x ⨟ plain (one_instr op)) (apply-values seen (IsProcedureValue seen c.scene) c op op_at x.operand g.0)
      (thn (value_code c x) (plain (one_instr op)) (value-right x g) (all (one_instr op) (one_each op)))

  set_step : (op : Operator) → q (plain_step (set_instr op))
  set_step Plus = ok Union refl (λ e. tt)
  set_step Minus = ok Diff refl (λ e. tt)
  set_step Times = ok Inter refl (λ e. tt)
  set_step Slash = ok SymDiff refl (λ e. tt)
  set_step LessEqual = ok Subset refl (λ e. tt)
  set_step GreaterEqual = ok Superset refl (λ e. tt)
  set_step Equal = ok Eq refl (λ e. tt)
  set_step Unequal = ok Ne refl (λ e. tt)
  set_step op = ok Member refl (λ e. tt)

  pub side-small : (t : Place) → side_of c.scene t < 2
  side-small t = either (λ b. b < 2) (is_same_place (base_of c.scene t) integer) 0 1 (omega arith) (omega arith)

  scalar_step : (b : ℕ) (op : Operator) → b < 2 → q (plain_step (scalar_instr b op))
  scalar_step b Plus h = ok (Add b) refl (λ e. (h, tt))
  scalar_step b Minus h = ok (Sub b) refl (λ e. (h, tt))
  scalar_step b Times h = ok (Mul b) refl (λ e. (h, tt))
  scalar_step b Div h = ok (Quotient b) refl (λ e. (h, tt))
  scalar_step b Mod h = ok (Remainder b) refl (λ e. (h, tt))
  scalar_step b Unequal h = ok Ne refl (λ e. tt)
  scalar_step b Less h = ok Lt refl (λ e. tt)
  scalar_step b LessEqual h = ok Le refl (λ e. tt)
  scalar_step b Greater h = ok Gt refl (λ e. tt)
  scalar_step b GreaterEqual h = ok Ge refl (λ e. tt)
  scalar_step b op h = ok Eq refl (λ e. tt)

  two_step : (op : Operator) (r t : Place) → q (plain_step (two_instr c.scene op r t))
  two_step op r t =
      either (λ i. q (plain_step i)) (is_set_kind (kind_of c.scene t)) (set_instr op) (scalar_instr (side_of c.scene r) op) (set_step op) (scalar_step (side_of c.scene r) op (side-small r))

  operation-right : (op : Operator) (r t : Place) (x y : Part) → R x → R y → R (operation_code c.scene op r t x y)
  operation-right And r t x y f g = thn x (skip AndJump y) f (skip-right q cells bytes n from AndJump y (λ k. ok (AndJump (pos k)) refl (λ e. absurd cc)) g)
  operation-right Or r t x y f g = thn x (skip OrJump y) f (skip-right q cells bytes n from OrJump y (λ k. ok (OrJump (pos k)) refl (λ e. absurd cc)) g)
  operation-right op r t x y f g =
      thn x (y ⨟ plain (two_instr c.scene op r t ∷ [])) f (thn y (plain (two_instr c.scene op r t ∷ [])) g (all (two_instr c.scene op r t ∷ []) (two_step op r t, tt)))

  with_char-w : (x : Coded) → W x → W (with_char c x)
  with_char-w x g = (char-values seen (IsProcedureValue seen c.scene) c set.texts x.operand g.0, g.1)

  pub two_coded-w : (op : Operator) (op_at x_at : ℕ) (x : Coded) (y_at : ℕ) (y : Coded) → W x → W y → WG (two_coded c op op_at x_at x y_at y)
  two_coded-w op op_at x_at x y_at y g h =
      let r : Operand = (operate c op op_at x.operand x_at y.operand y_at).value in
      let v : Part = value_code c (with_char c x) in
      let w : Part = value_code c (with_char c y) in
      made-w r (operation_code c.scene op (operand_type r) (operand_type y.operand) v w)
      (operate-values seen (IsProcedureValue seen c.scene) c op op_at x.operand x_at y.operand y_at)
      (operation-right op (operand_type r) (operand_type y.operand) v w (value-right (with_char c x) (with_char-w x g)) (value-right (with_char c y) (with_char-w y h)))

  -- ** Sets

  abbrev pub E : Elements → Type 0
  E es = IsWorth es.set × R es.code

  element_go : (x : Coded) (o : Operand) → IsWorth o → W x → W (element_as x o)
  element_go x InError h g = error-w
  element_go x (Constant t v) h g = (h, g.1)
  element_go x (StringConstant m l) h g = (h, g.1)
  element_go x (Procedure name t k s) h g = (h, g.1)
  element_go x (ModuleName s) h g = (h, g.1)
  element_go x o h g = (tt, g.1)

  pub element-w : (base : Place) (at : ℕ) (x : Coded) → W x → WG (element_coded c base at x)
  element-w base at x g =
      element_go x (element_of c base at x.operand).value (element-values seen (IsProcedureValue seen c.scene) c set.texts base at x.operand g.0) g

  union_each : Each q (map plain_step (Bit ∷ Union ∷ []))
  union_each = (ok Bit refl (λ e. tt), (ok Union refl (λ e. tt), tt))

  pub add_element-e : (es : Elements) (x : Coded) → E es → W x → E (add_element c es x)
  add_element-e es x f g = (
    with_elements-values seen (IsProcedureValue seen c.scene) es.set x.operand x.operand f.0,
    thn es.code (value_code c x ⨟ plain (Bit ∷ Union ∷ [])) f.1
        (thn (value_code c x) (plain (Bit ∷ Union ∷ [])) (value-right x g) (all (Bit ∷ Union ∷ []) union_each)),
  )

  pub add_range-e : (es : Elements) (x y : Coded) → E es → W x → W y → E (add_range c es x y)
  add_range-e es x y f g h = (
    with_elements-values seen (IsProcedureValue seen c.scene) es.set x.operand y.operand f.0,
    thn es.code (value_code c x ⨟ value_code c y ⨟ plain (Span ∷ Union ∷ [])) f.1
        (thn (value_code c x) (value_code c y ⨟ plain (Span ∷ Union ∷ [])) (value-right x g)
        (thn (value_code c y) (plain (Span ∷ Union ∷ [])) (value-right y h) (all (Span ∷ Union ∷ []) (ok Span refl (λ e. tt), (ok Union refl (λ e. tt), tt))))),
  )

  pub set_go : (t : Place) (code : Part) (o : Operand) → IsWorth o → R code → W (set_by t code o)
  set_go t code (Constant u s) h f = bare-w (Constant t s) h
  set_go t code InError h f = error-w
  set_go t code o h f =
      computed-w t (plain (Push (pos 0) ∷ []) ⨟ code) (thn (plain (Push (pos 0) ∷ [])) code high-none f)

  -- ** Standard functions

  variable_go : (at : ℕ) (x : Coded) (o : Operand) → X x → XG (as_variable_by c at x o)
  variable_go at x (Variable t) g = g
  variable_go at x o g = error-x

  pub variable-x : (at : ℕ) (x : Coded) → X x → XG (as_variable c at x)
  variable-x at x g = variable_go at x x.operand g

  pub where-x : (at : ℕ) (test : Place → Bool) (x : Coded) → X x → XG (variable_argument c at test x)
  where-x at test x g =
      let v : Coded = (as_variable c at x).value in
      either XG (is_bad v.operand || test (operand_type v.operand)) (gives v) (refuse c at wrong_argument in_error) (variable-x at x g) error-x

  on_value-w : (at : ℕ) (x : Coded) (rule : Operand → Gives Operand) (code : Coded → Part) → X x → ((o : Operand) → IsWorth o → IsWorth (rule o).value)
      → ((v : Coded) → W v → R (code v)) → WG (on_value c at x rule code)
  on_value-w at x rule code g r f =
      let v : Coded = (as_value c at x).value in
      let w : W v = as_value-w at x g in
      made-w (rule v.operand).value (code v) (r v.operand w.0) (f v w)

  behind-right : (is : List Instr) (v : Coded) → W v → Each q (map plain_step is) → R (value_code c v ⨟ plain is)
  behind-right is v g e = thn (value_code c v) (plain is) (value-right v g) (all is e)

  count-value : (z : ℤ) → 1 ≤ count_to z → count_to z ≤ most_cells → IsValue z
  count-value (pos k) h e = natural-value k (omega (arith, e))
  count-value (negsuc k) h e = absurd (omega (arith, h))

  high-value : (r : Option Range) → IsIndexRange r → IsValue (high_of_range r)
  high-value None h = natural-value 0 (omega arith)
  high-value (Some r) h = count-value (r.high -ℤ r.low) h.0 h.1

  -- an array's index type isn't in error
  abbrev pub IsWhole : RowMeaning → Type 0
  IsWhole (Array i t s) = is_broken c.scene i ≡ false
  IsWhole m = Unit {0}

  pub high_code-right : (x : Coded) (m : RowMeaning) → HasOperands c.scene m → IsWhole m → R x.high → R (high_code c.scene x m)
  high_code-right x (Array i t s) h b g =
      all (Push (high_of_range (range_of c.scene i)) ∷ []) (push _ (high-value (range_of c.scene i) (h.2 b)), tt)
  high_code-right x m h b g = g

  high_kind : (at : ℕ) (x : Coded) (m : RowMeaning) → HasOperands c.scene m → X x → WG (high_of c at x m)
  high_kind at x (Array i t s) h g =
      either_by WG (is_broken c.scene i) (gives in_error) (gives (coded (Computed cardinal) (high_code c.scene x (Array i t s)))) (λ e. error-w)
      (λ e. computed-w cardinal (high_code c.scene x (Array i t s))
      (all (Push (high_of_range (range_of c.scene i)) ∷ []) (push _ (high-value (range_of c.scene i) (h.2 e)), tt)))
  high_kind at x (OpenArray t) h g = computed-w cardinal x.high g.1.1
  high_kind at x m h g = error-w

  pub kind-has : (t : Place) → HasOperands c.scene (kind_of c.scene t)
  kind-has t = kind_operands c.scene set.rows (stands_for c.scene t)

  high-w : (at : ℕ) (x : Coded) → X x → WG (high_of_variable c at x)
  high-w at x g =
      either WG (is_bad x.operand) (gives in_error) (high_of c at x (kind_of c.scene (operand_type x.operand))) error-w
      (high_kind at x (kind_of c.scene (operand_type x.operand)) (kind-has (operand_type x.operand)) g)

  abbrev PV : ℕ → Place → ℕ → ℕ → Type 0
  PV name t k s = IsProcedureValue seen c.scene name t k s

  function-w : (f : Builtin) (at : ℕ) (x : Coded) → X x → WG (function_of_one c f at x)
  function-w Abs at x g =
      on_value-w at x (abs_of c at) (abs_code c) g (λ o h. abs-values seen PV c set.texts at o h)
      (λ v h. behind-right (magnitude c.scene (operand_type v.operand)) v h
      (either (λ is. Each q (map plain_step is)) (is_same_place (base_of c.scene (operand_type v.operand)) integer) (Magnitude ∷ []) [] (ok Magnitude refl (λ e. tt), tt) tt))
  function-w Cap at x g =
      on_value-w at x (cap_of c at) (cap_code c) g (λ o h. cap-values seen PV c set.texts at o h) (λ v h. behind-right (Capital ∷ []) v h (ok Capital refl (λ e. tt), tt))
  function-w Chr at x g = on_value-w at x (chr_of c at) (fitted_code c character) g (λ o h. chr-values seen PV c set.texts at o h) (fitted-right character)
  function-w Odd at x g =
      on_value-w at x (odd_of c at) (odd_code c) g (λ o h. odd-values seen PV c set.texts at o) (λ v h.
      behind-right (Push (pos 2) ∷ Remainder (side_of c.scene (operand_type v.operand)) ∷ Push (pos 1) ∷ Eq ∷ []) v h
      (push (pos 2) (natural-value 2 (omega arith)), (ok (Remainder (side_of c.scene (operand_type v.operand))) refl (λ e. (side-small (operand_type v.operand), tt)), (push (pos 1) (natural-value 1 (omega arith)), (ok Eq refl (λ e. tt), tt)))))
  function-w Ord at x g = on_value-w at x (ord_of c at) (fitted_code c cardinal) g (λ o h. ord-values seen PV c set.texts at o h) (fitted-right cardinal)
  function-w Min at x g = bare-w (min_of c at x.operand).value (min-values seen PV c set.texts set.rows at x.operand)
  function-w Max at x g = bare-w (max_of c at x.operand).value (max-values seen PV c set.texts set.rows at x.operand)
  function-w Size at x g =
      made-w (size_value c at x.operand).value (size_code c x) (size-values seen PV c set.texts set.rows at x.operand)
      (all (Push (pos (size_of c.scene (operand_type x.operand))) ∷ []) (push _ (natural-value _ ((size_is c set.rows (operand_type x.operand)).1)), tt))
  function-w High at x g = high-w at (as_variable c at x).value (variable-x at x g)
  function-w f at x g = error-w

  -- ** Standard procedures

  update-x : (x : Coded) (p : Part) (is : List Instr) → X x → R p → Each q (map plain_step is) → X (update x p is)
  update-x x p is g f h =
      computed-x broken (x.code ⨟ plain (Dup ∷ Load ∷ []) ⨟ p ⨟ plain is ⨟ plain (Store ∷ []))
      (thn x.code (plain (Dup ∷ Load ∷ []) ⨟ p ⨟ plain is ⨟ plain (Store ∷ [])) g.1.0
      (thn (plain (Dup ∷ Load ∷ [])) (p ⨟ plain is ⨟ plain (Store ∷ [])) (all (Dup ∷ Load ∷ []) (ok Dup refl (λ e. tt), (ok Load refl (λ e. tt), tt)))
      (thn p (plain is ⨟ plain (Store ∷ [])) f (thn (plain is) (plain (Store ∷ [])) (all is h) (single Store refl (λ e. tt))))))

  step_ok : (f : Builtin) (b : ℕ) → b < 2 → q (plain_step (step_instr f b))
  step_ok Inc b h = ok (Add b) refl (λ e. (h, tt))
  step_ok f b h = ok (Sub b) refl (λ e. (h, tt))

  stepped-x : (f : Builtin) (x y : Coded) → X x → W y → X (stepped c f x y)
  stepped-x f x y g h =
      let t : Place = operand_type x.operand in
      either X (is_bad x.operand || is_bad y.operand) in_error (update x (value_code c y) (step_instrs c.scene f t)) error-x
      (update-x x (value_code c y) (step_instrs c.scene f t) g (value-right y h)
      (step_ok f (side_of c.scene t) (side-small t), check_each (Some (counting_range (side_of c.scene t))) (range_of c.scene t) (range_values c set.rows t)))

  member_each : (f : Builtin) → Each q (map plain_step (member_instrs f))
  member_each Incl = union_each
  member_each f = (ok Bit refl (λ e. tt), (ok Diff refl (λ e. tt), tt))

  included-x : (f : Builtin) (x y : Coded) → X x → W y → X (included c f x y)
  included-x f x y g h =
      let t : Place = set_base c (operand_type x.operand) in
      either X (is_bad x.operand || is_bad y.operand) in_error (update x (fitted_code c t y) (member_instrs f)) error-x
      (update-x x (fitted_code c t y) (member_instrs f) g (fitted-right t y h) (member_each f))

  step-w : (x : Coded) (at : ℕ) (y : Coded) → X y → WG (step_number c x at y)
  step-w x at y h =
      let v : Coded = (as_value c at y).value in
      let w : Place = step_type c.scene (operand_type x.operand) in
      either WG (is_bad x.operand || is_bad v.operand) (gives in_error) (number_of_type c at w v) error-w
      (either WG (is_step c.scene w v.operand) (in_range c at w v) (refuse c at wrong_argument in_error) (in_range-w at w v (as_value-w at y h)) error-w)

  set_member-w : (x : Coded) (at : ℕ) (y : Coded) → X y → WG (set_member c x at y)
  set_member-w x at y h =
      let v : Coded = (as_value c at y).value in
      let base : Place = set_base c (operand_type x.operand) in
      let o : Operand = taken_into c.source c.scene base v.operand in
      either WG (is_bad x.operand || is_bad v.operand) (gives in_error) (element_of_base c at base v) error-w
      (either WG (is_broken c.scene base) (gives in_error) _ error-w
      (either WG (is_compatible c.scene v.operand (Computed base)) (in_range c at base (taken o v)) (refuse c at wrong_argument in_error)
      (in_range-w at base (taken o v) (taken-w base v (as_value-w at y h))) error-w))

  short_behind : (x : Coded) (is : List Instr) → X x → Each q (map plain_step is) → X (coded no_value (x.code ⨟ plain is))
  short_behind x is g e = computed-x broken (x.code ⨟ plain is) (thn x.code (plain is) g.1.0 (all is e))

  new-x : (x : Coded) → X x → X (new_room c x)
  new-x x g =
      let t : Place = target_of c.scene (operand_type x.operand) in
      either X (is_bad x.operand || is_broken c.scene t) in_error (coded no_value (x.code ⨟ plain (Room (size_of c.scene t) ∷ []))) error-x
      (short_behind x (Room (size_of c.scene t) ∷ []) g (ok (Room (size_of c.scene t)) refl (λ e. (size_is c set.rows t, tt)), tt))

  disposed-x : (x : Coded) → X x → X (disposed x)
  disposed-x x g =
      either X (is_bad x.operand) in_error (coded no_value (x.code ⨟ plain (Push (pos 0) ∷ Store ∷ []))) error-x
      (short_behind x (Push (pos 0) ∷ Store ∷ []) g (push (pos 0) (natural-value 0 (omega arith)), (ok Store refl (λ e. tt), tt)))

  pub no_argument-x : (f : Builtin) → X (of_no_argument f)
  no_argument-x Halt = computed-x broken (plain (Stop ∷ [])) (single Stop refl (λ e. tt))
  no_argument-x f = error-x

  one-w : W one
  one-w = bare-w one.operand (natural-value 1 (omega arith))

  pub one_argument-x : (f : Builtin) (at : ℕ) (x : Coded) → X x → XG (of_one_argument c f at x)
  one_argument-x Inc at x g = stepped-x Inc (ordinal_variable c at x).value one (where-x at (λ t. is_some (range_of c.scene t)) x g) one-w
  one_argument-x Dec at x g = stepped-x Dec (ordinal_variable c at x).value one (where-x at (λ t. is_some (range_of c.scene t)) x g) one-w
  one_argument-x New at x g = new-x (pointer_variable c at x).value (where-x at (λ t. is_pointer_type (kind_of c.scene t)) x g)
  one_argument-x Dispose at x g = disposed-x (pointer_variable c at x).value (where-x at (λ t. is_pointer_type (kind_of c.scene t)) x g)
  one_argument-x f at x g = worth-x (function_of_one c f at x).value (function-w f at x g)

  pub first-x : (f : Builtin) (at : ℕ) (x : Coded) → X x → XG (first_of_two c f at x)
  first-x Inc at x g = where-x at (λ t. is_some (range_of c.scene t)) x g
  first-x Dec at x g = where-x at (λ t. is_some (range_of c.scene t)) x g
  first-x Incl at x g = where-x at (λ t. is_set_kind (kind_of c.scene t)) x g
  first-x Excl at x g = where-x at (λ t. is_set_kind (kind_of c.scene t)) x g
  first-x f at x g = g

  pub two_arguments-x : (f : Builtin) (x_at : ℕ) (x : Coded) (at : ℕ) (y : Coded) → X x → X y → XG (of_two_arguments c f x_at x at y)
  two_arguments-x Inc x_at x at y g h = stepped-x Inc x (step_number c x at y).value g (step-w x at y h)
  two_arguments-x Dec x_at x at y g h = stepped-x Dec x (step_number c x at y).value g (step-w x at y h)
  two_arguments-x Incl x_at x at y g h = included-x Incl x (set_member c x at y).value g (set_member-w x at y h)
  two_arguments-x Excl x_at x at y g h = included-x Excl x (set_member c x at y).value g (set_member-w x at y h)
  two_arguments-x Val x_at x at y g h =
      worth-x (value_of_type c x_at x at y).value (on_value-w at y (val_of c x_at x.operand at) (fitted_code c (named_type x.operand)) h
      (λ o k. val-values seen PV c set.texts x_at x.operand at o k) (fitted-right (named_type x.operand)))
  two_arguments-x f x_at x at y g h = error-x
