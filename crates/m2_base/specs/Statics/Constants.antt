-- Constant expressions: literals, constants' names, sets, operators on constants, and the standard functions of
-- constants. What is in error stays in error; what is no constant is refused once, at the whole expression's first
-- token, and only where nothing else in it was refused.
use Rattle.std.specs.Prelude.{List, None, Option, Some, [], pos, ℕ, ◌∷◌}
use Rattle.m2_base.specs.Gives.{Gives, and_then, gives}
use Rattle.m2_base.specs.Rows.{Place}
use Rattle.m2_base.specs.Standard.{bitset, character, whole}
use Rattle.m2_base.specs.Statics.Builtins.{builtin_of}
use Rattle.m2_base.specs.Statics.Contexts.{Context, refuse}
use Rattle.m2_base.specs.Statics.Diagnostics.{not_a_constant, not_a_variable, wrong_count}
use Rattle.m2_base.specs.Statics.Functions.{abs_of, cap_of, chr_of, max_of, min_of, odd_of, ord_of, size_value, val_of}
use Rattle.m2_base.specs.Statics.NamedOperands.{operand_of_use}
use Rattle.m2_base.specs.Statics.Operands.{string_length}
use Rattle.m2_base.specs.Statics.Operations.{apply_one, operate}
use Rattle.m2_base.specs.Statics.Sets.{element_of, no_elements, set_base, set_type_of, with_elements}
use Rattle.m2_base.specs.Statics.Uses.{use_of}
use Rattle.m2_base.specs.Trees.{Designator, Expr, ExprForm, Exprs, Ident, Label, Labels, Next, Nexts, Selector}
use Rattle.m2_base.specs.Trees.{Selectors, call_form, char_form, deref_selector, designator, designator_at, expr}
use Rattle.m2_base.specs.Trees.{expr_at, field_selector, index_selector, many_form, more_exprs, more_labels}
use Rattle.m2_base.specs.Trees.{more_nexts, more_selectors, name_form, next, no_exprs, no_labels, no_nexts}
use Rattle.m2_base.specs.Trees.{no_selectors, number_form, one_form, one_label, range_label, set_form, string_form}
use Rattle.m2_base.specs.Trees.{typed_set_form}
use Rattle.m2_base.specs.declared.builtins.Builtin.TheVariants.{Abs, Cap, Chr, Dec, Dispose, Excl, Halt, High, Inc}
use Rattle.m2_base.specs.declared.builtins.Builtin.TheVariants.{Incl, Max, Min, New, Odd, Ord, Size, Val}
use Rattle.m2_base.specs.declared.builtins.Builtin.{Builtin}
use Rattle.m2_base.specs.declared.operands.Operand.TheVariants.{Constant, InError, ModuleName, NamedType, NotConstant}
use Rattle.m2_base.specs.declared.operands.Operand.TheVariants.{Procedure, StandardProcedure, StringConstant, Variable}
use Rattle.m2_base.specs.declared.operands.Operand.{Operand}

-- a variable is no constant
abbrev pub in_constant : Operand → Operand
in_constant (Variable t) = NotConstant
in_constant o = o

-- where a value is wanted, a type or a module alone is refused, and a procedure is no constant
abbrev pub value_wanted : Context → (at : ℕ) → Operand → Gives Operand
value_wanted c at (NamedType t) = refuse c at not_a_variable InError
value_wanted c at (ModuleName s) = refuse c at not_a_variable InError
value_wanted c at (StandardProcedure n) = gives NotConstant
value_wanted c at (Procedure n t k s) = gives NotConstant
value_wanted c at o = gives o

-- a selector on what isn't a module: a type is refused at the first token, anything else is no constant
abbrev pub selected : Context → (at : ℕ) → Operand → Gives Operand
selected c at (NamedType t) = refuse c at not_a_variable InError
selected c at (ModuleName s) = refuse c at not_a_variable InError
selected c at InError = gives InError
selected c at other = gives NotConstant

-- broken where the part is
abbrev pub spoilt_by : Operand → Operand → Operand
spoilt_by InError o = InError
spoilt_by part o = o

-- what a name stands for in a constant expression
abbrev pub name_operand : Context → (within : Option ℕ) → Ident → Gives Operand
name_operand c within i = and_then (use_of c within i.name i.at) (λ e. gives (in_constant (operand_of_use c.scene e)))

-- A selector `.` on a module is the name in that module.
abbrev pub field_operand : Context → (at : ℕ) → Operand → Ident → Gives Operand
field_operand c at (ModuleName s) i = name_operand c (Some s) i
field_operand c at o i = selected c at o

-- an argument: its first token, and what it stands for
pub record Argument : Type 0 where
  pub at : ℕ
  pub operand : Operand

-- no constant, but broken where an argument is
abbrev pub no_constant : List Argument → Operand
no_constant [] = NotConstant
no_constant (a ∷ args) = spoilt_by a.operand (no_constant args)

-- an argument where a value is wanted
abbrev pub value_argument : Context → Argument → Gives Operand
value_argument c a = value_wanted c a.at a.operand

-- The standard functions of constants; other standard procedures, and HIGH, give no constant.
abbrev pub builtin_call : Context → (at : ℕ) → Builtin → List Argument → Gives Operand
builtin_call c at Abs (a ∷ []) = and_then (value_argument c a) (abs_of c a.at)
builtin_call c at Cap (a ∷ []) = and_then (value_argument c a) (cap_of c a.at)
builtin_call c at Chr (a ∷ []) = and_then (value_argument c a) (chr_of c a.at)
builtin_call c at Odd (a ∷ []) = and_then (value_argument c a) (odd_of c a.at)
builtin_call c at Ord (a ∷ []) = and_then (value_argument c a) (ord_of c a.at)
builtin_call c at Val (t ∷ a ∷ []) = and_then (value_argument c a) (val_of c t.at t.operand a.at)
builtin_call c at Min (a ∷ []) = min_of c a.at a.operand
builtin_call c at Max (a ∷ []) = max_of c a.at a.operand
builtin_call c at Size (a ∷ []) = size_value c a.at a.operand
builtin_call c at Dec args = gives (no_constant args)
builtin_call c at Dispose args = gives (no_constant args)
builtin_call c at Excl args = gives (no_constant args)
builtin_call c at Halt args = gives (no_constant args)
builtin_call c at High args = gives (no_constant args)
builtin_call c at Inc args = gives (no_constant args)
builtin_call c at Incl args = gives (no_constant args)
builtin_call c at New args = gives (no_constant args)
builtin_call c at function args = refuse c at wrong_count InError

-- a call; of anything but a standard function it is no constant
abbrev pub call_of : Context → (at : ℕ) → Operand → List Argument → Gives Operand
call_of c at (StandardProcedure n) args = builtin_call c at (builtin_of n) args
call_of c at (ModuleName s) args = refuse c at not_a_variable InError
call_of c at InError args = gives InError
call_of c at other args = gives (no_constant args)

abbrev mutual
  -- what an expression stands for
  pub operand_in : Context → Expr → Gives Operand
  operand_in c (expr at form) = form_in c at form

  -- what each form of expression stands for; a set without a type is a BITSET
  pub form_in : Context → (at : ℕ) → ExprForm → Gives Operand
  form_in c at (number_form n) = gives (Constant whole (pos n))
  form_in c at (char_form n) = gives (Constant character (pos n))
  form_in c at (string_form n) = gives (StringConstant n (string_length c.source n))
  form_in c at (set_form items) = elements_in c (set_base c bitset) (no_elements c bitset) items
  form_in c at (typed_set_form d items) =
      and_then (designator_in c d) (λ o.
      and_then (set_type_of c (designator_at d) o) (λ t.
      elements_in c (set_base c t) (no_elements c t) items))
  form_in c at (name_form d) = designator_in c d
  form_in c at (call_form d args) =
      and_then (designator_in c d) (λ o.
      and_then (arguments_in c args) (λ xs.
      call_of c (designator_at d) o xs))
  form_in c at (one_form op op_at e) =
      and_then (operand_in c e) (λ o.
      and_then (value_wanted c (expr_at e) o) (λ x.
      apply_one c op op_at x))
  form_in c at (many_form first rest) =
      and_then (operand_in c first) (λ o.
      and_then (value_wanted c (expr_at first) o) (λ x.
      many_in c at x rest))

  -- each prefix is an operand by itself
  pub many_in : Context → (at : ℕ) → Operand → Nexts → Gives Operand
  many_in c at x no_nexts = gives x
  many_in c at x (more_nexts n ns) = and_then (next_in c at x n) (λ y. many_in c at y ns)

  -- an operator and the operand behind it, after the operand before it
  pub next_in : Context → (at : ℕ) → Operand → Next → Gives Operand
  next_in c at x (next op op_at right) =
      and_then (operand_in c right) (λ o.
      and_then (value_wanted c (expr_at right) o) (λ y.
      operate c op op_at x at y (expr_at right)))

  -- a set with further elements
  pub elements_in : Context → (base : Place) → Operand → Labels → Gives Operand
  elements_in c base bits no_labels = gives bits
  elements_in c base bits (more_labels l ls) = and_then (element_in c base bits l) (λ b. elements_in c base b ls)

  -- a set with one further element, or with those of a range
  pub element_in : Context → (base : Place) → Operand → Label → Gives Operand
  element_in c base bits (one_label e) =
      and_then (operand_in c e) (λ o.
      and_then (value_wanted c (expr_at e) o) (λ v.
      and_then (element_of c base (expr_at e) v) (λ x.
      gives (with_elements bits x x))))
  element_in c base bits (range_label low high) =
      and_then (operand_in c low) (λ o.
      and_then (value_wanted c (expr_at low) o) (λ v.
      and_then (element_of c base (expr_at low) v) (λ x.
      and_then (operand_in c high) (λ p.
      and_then (value_wanted c (expr_at high) p) (λ w.
      and_then (element_of c base (expr_at high) w) (λ y.
      gives (with_elements bits x y)))))))

  -- what a designator stands for
  pub designator_in : Context → Designator → Gives Operand
  designator_in c (designator first rest) = and_then (name_operand c None first) (λ o. selectors_in c first.at o rest)

  -- what the selectors select, one after another
  pub selectors_in : Context → (at : ℕ) → Operand → Selectors → Gives Operand
  selectors_in c at o no_selectors = gives o
  selectors_in c at o (more_selectors s ss) = and_then (selector_in c at o s) (λ p. selectors_in c at p ss)

  -- what a selector selects
  pub selector_in : Context → (at : ℕ) → Operand → Selector → Gives Operand
  selector_in c at o (field_selector i dot) = field_operand c at o i
  selector_in c at o (index_selector es bracket) = indices_in c at o es
  selector_in c at o (deref_selector caret) = selected c at o

  -- index expressions are looked at for their own sake
  pub indices_in : Context → (at : ℕ) → Operand → Exprs → Gives Operand
  indices_in c at o no_exprs = gives o
  indices_in c at o (more_exprs e es) =
      and_then (operand_in c e) (λ i.
      and_then (value_wanted c (expr_at e) i) (λ v.
      and_then (selected c at o) (λ p.
      indices_in c at (spoilt_by v p) es)))

  -- the arguments of a call, each by its first token and what it stands for
  pub arguments_in : Context → Exprs → Gives (List Argument)
  arguments_in c no_exprs = gives []
  arguments_in c (more_exprs e es) =
      and_then (operand_in c e) (λ o.
      and_then (arguments_in c es) (λ args.
      gives (record { at = expr_at e; operand = o } ∷ args)))

-- the constant; what is in error gives nothing more; anything else is no constant
abbrev pub constant_or_refused : Context → (at : ℕ) → Operand → Gives (Option Operand)
constant_or_refused c at (Constant t v) = gives (Some (Constant t v))
constant_or_refused c at (StringConstant n len) = gives (Some (StringConstant n len))
constant_or_refused c at InError = gives None
constant_or_refused c at other = refuse c at not_a_constant None

-- the constant that an expression stands for
abbrev pub constant_of : Context → Expr → Gives (Option Operand)
constant_of c e =
    and_then (operand_in c e) (λ o.
    and_then (value_wanted c (expr_at e) o) (λ v.
    constant_or_refused c (expr_at e) v))
