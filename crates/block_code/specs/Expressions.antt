-- What expressions and designators stand for, and their code, by recursion on the trees. What is noted comes in text
-- order, and so do the temporary cells and the data that the code takes.
use Rattle.std.specs.Prelude.{ℕ, suc, true, false, pos, List, [], ◌∷◌, Option, Some, None}
use Rattle.m2_base.specs.Gives.{Gives, gives, and_then}
use Rattle.m2_base.specs.declared.rows.Place.{Place}
use Rattle.m2_base.specs.Standard.{bitset, character, whole}
use Rattle.m2_base.specs.Statics.Contexts.{Context}
use Rattle.m2_base.specs.Statics.Operands.{string_length}
use Rattle.m2_base.specs.Statics.Sets.{set_base, set_type_of}
use Rattle.m2_base.specs.Statics.TypeParts.{Parameter}
use Rattle.m2_base.specs.Trees.{Designator, Expr, ExprForm, Exprs, Label, Labels, Next, Nexts, Selector, Selectors}
use Rattle.m2_base.specs.Trees.{call_form, char_form, deref_selector, designator, designator_at, expr, expr_at}
use Rattle.m2_base.specs.Trees.{field_selector, index_selector, many_form, more_exprs, more_labels, more_nexts}
use Rattle.m2_base.specs.Trees.{more_selectors, name_form, next, no_exprs, no_labels, no_nexts, no_selectors}
use Rattle.m2_base.specs.Trees.{number_form, one_form, one_label, range_label, set_form, string_form, typed_set_form}
use Rattle.m2_base.specs.declared.builtins.Builtin.{Builtin}
use Rattle.m2_base.specs.declared.operands.Operand.TheVariants.{Constant, StringConstant}
use Rattle.block_code.specs.Arguments.{after_argument, argument}
use Rattle.block_code.specs.Calls.{Called, call_coded, called, lacking_call, no_call, procedure_call, standard_call}
use Rattle.block_code.specs.Coded.{Coded, bare, in_error}
use Rattle.block_code.specs.Elements.{select_element, select_target}
use Rattle.block_code.specs.Operators.{one_coded, two_coded}
use Rattle.block_code.specs.Parts.{Part, none}
use Rattle.block_code.specs.RecordFields.{name_coded, select_field}
use Rattle.block_code.specs.SetElements.{Elements, add_element, add_range, element_coded, no_elements_yet, set_coded}
use Rattle.block_code.specs.StandardProcedures.{first_of_two, of_no_argument, of_one_argument, of_two_arguments}
use Rattle.block_code.specs.Values.{as_value}

infixl 10 ◌>>=◌
-- one after another
abbrev pub ◌>>=◌ : {A B : Type 0} → Gives A → (A → Gives B) → Gives B
a >>= f = and_then a f

-- the number of arguments
abbrev pub count_of_exprs : Exprs → ℕ
count_of_exprs no_exprs = 0
count_of_exprs (more_exprs e es) = suc (count_of_exprs es)

-- What a call gives: as its standard procedure, with its arguments beside its parameters, or with its arguments looked
-- at alone. That of a procedure which the module lacks is in error, once its arguments are there.
abbrev pub by_called : Context → Called → (Builtin → Gives Coded) → (List Parameter → Gives (Option Part))
    → Gives Coded → Gives Coded
by_called c (standard_call f) standard passed looked = standard f
by_called c (procedure_call ps before i result more) standard passed looked =
    and_then (passed ps) (λ args. gives (call_coded c.scene ps before i result more args))
by_called c (lacking_call ps) standard passed looked = and_then (passed ps) (λ args. gives in_error)
by_called c no_call standard passed looked = looked

abbrev mutual
  -- an expression; `withs` has the record types of the open WITHs, the innermost first
  pub expression : Context → (withs : List Place) → Expr → Gives Coded
  expression c withs (expr at form) = form_coded c withs form

  -- what each form of expression stands for; a set without a type is a BITSET
  pub form_coded : Context → (withs : List Place) → ExprForm → Gives Coded
  form_coded c withs (number_form n) = gives (bare (Constant whole (pos n)))
  form_coded c withs (char_form n) = gives (bare (Constant character (pos n)))
  form_coded c withs (string_form name) = gives (bare (StringConstant name (string_length c.source name)))
  form_coded c withs (set_form items) = do
    es ← elements c withs (set_base c bitset) (no_elements_yet c bitset) items
    gives (set_coded bitset es)
  form_coded c withs (typed_set_form d items) = do
    x ← designated c withs d
    t ← set_type_of c (designator_at d) x.operand
    es ← elements c withs (set_base c t) (no_elements_yet c t) items
    gives (set_coded t es)
  form_coded c withs (name_form d) = designated c withs d
  form_coded c withs (call_form d args) = do
    x ← designated c withs d
    what ← called c true (designator_at d) (count_of_exprs args) x
    by_called c what (λ f. standard c withs f args) (λ ps. passed c withs ps args) (looked_at c withs args)
  form_coded c withs (one_form op op_at e) = do
    x ← expression c withs e
    v ← as_value c (expr_at e) x
    one_coded c op op_at v
  form_coded c withs (many_form first rest) = do
    x ← expression c withs first
    v ← as_value c (expr_at first) x
    continued c withs (expr_at first) v rest

  -- the operators that follow an operand, from the left; each prefix is an operand by itself
  pub continued : Context → (withs : List Place) → (x_at : ℕ) → Coded → Nexts → Gives Coded
  continued c withs x_at x no_nexts = gives x
  continued c withs x_at x (more_nexts n ns) = do
    r ← followed c withs x_at x n
    continued c withs x_at r ns

  -- an operator and the operand behind it, after the operand before it
  pub followed : Context → (withs : List Place) → (x_at : ℕ) → Coded → Next → Gives Coded
  followed c withs x_at x (next op op_at right) = do
    y ← expression c withs right
    v ← as_value c (expr_at right) y
    two_coded c op op_at x_at x (expr_at right) v

  -- the elements of a set, after those that came before
  pub elements : Context → (withs : List Place) → (base : Place) → Elements → Labels → Gives Elements
  elements c withs base es no_labels = gives es
  elements c withs base es (more_labels l ls) = do
    more ← element c withs base es l
    elements c withs base more ls

  -- one further element, or those of a range
  pub element : Context → (withs : List Place) → (base : Place) → Elements → Label → Gives Elements
  element c withs base es (one_label e) = do
    x ← expression c withs e
    v ← as_value c (expr_at e) x
    o ← element_coded c base (expr_at e) v
    gives (add_element c es o)
  element c withs base es (range_label low high) = do
    x ← expression c withs low
    v ← as_value c (expr_at low) x
    o ← element_coded c base (expr_at low) v
    y ← expression c withs high
    w ← as_value c (expr_at high) y
    p ← element_coded c base (expr_at high) w
    gives (add_range c es o p)

  -- arguments beside their parameters
  pub passed : Context → (withs : List Place) → List Parameter → Exprs → Gives (Option Part)
  passed c withs [] no_exprs = gives (Some none)
  passed c withs (p ∷ ps) no_exprs = gives None
  passed c withs [] (more_exprs e es) = gives None
  passed c withs (p ∷ ps) (more_exprs e es) = do
    x ← expression c withs e
    a ← argument c p (expr_at e) x
    others ← passed c withs ps es
    gives (after_argument a others)

  -- arguments of what isn't called, for their own diagnostics
  pub looked_at : Context → (withs : List Place) → Exprs → Gives Coded
  looked_at c withs no_exprs = gives in_error
  looked_at c withs (more_exprs e es) = do
    x ← expression c withs e
    looked_at c withs es

  -- a standard procedure with as many arguments as it takes
  pub standard : Context → (withs : List Place) → Builtin → Exprs → Gives Coded
  standard c withs f no_exprs = gives (of_no_argument f)
  standard c withs f (more_exprs e no_exprs) = do
    x ← expression c withs e
    of_one_argument c f (expr_at e) x
  standard c withs f (more_exprs e (more_exprs e' others)) = do
    x ← expression c withs e
    v ← first_of_two c f (expr_at e) x
    y ← expression c withs e'
    of_two_arguments c f (expr_at e) v (expr_at e') y

  -- a designator: a name, then its selectors
  pub designated : Context → (withs : List Place) → Designator → Gives Coded
  designated c withs (designator i rest) = do
    x ← name_coded c withs i
    selected c withs i.at x rest

  -- what the selectors select, one after another; `first` is the designator's first token
  pub selected : Context → (withs : List Place) → (first : ℕ) → Coded → Selectors → Gives Coded
  selected c withs first x no_selectors = gives x
  selected c withs first x (more_selectors s ss) = do
    y ← selector c withs first x s
    selected c withs first y ss

  -- what a selector selects
  pub selector : Context → (withs : List Place) → (first : ℕ) → Coded → Selector → Gives Coded
  selector c withs first x (field_selector i at) = select_field c first at i x
  selector c withs first x (index_selector es at) = indexed c withs first at x es
  selector c withs first x (deref_selector at) = select_target c first at x

  -- the indices between one pair of brackets, that of the outermost array first
  pub indexed : Context → (withs : List Place) → (first at : ℕ) → Coded → Exprs → Gives Coded
  indexed c withs first at x no_exprs = gives x
  indexed c withs first at x (more_exprs e es) = do
    i ← expression c withs e
    v ← as_value c (expr_at e) i
    y ← select_element c first at (expr_at e) v x
    indexed c withs first at y es

-- an expression where a value is wanted
abbrev pub value : Context → (withs : List Place) → Expr → Gives Coded
value c withs e = and_then (expression c withs e) (as_value c (expr_at e))

-- a call as a statement
abbrev pub call_alone : Context → (withs : List Place) → Designator → Exprs → Gives Coded
call_alone c withs d args =
    and_then (designated c withs d) (λ x.
    and_then (called c false (designator_at d) (count_of_exprs args) x) (λ what.
    by_called c what (λ f. standard c withs f args) (λ ps. passed c withs ps args) (looked_at c withs args)))
