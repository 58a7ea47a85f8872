-- Parts of expressions, as the walk over the trees goes through them.
use Rattle.std.specs.Prelude.{ℕ, Bool, List, [], ◌∷◌, Option, None}
use Rattle.m2_base.specs.Gives.{Gives, and_then, gives}
use Rattle.m2_base.specs.States.{Frame}
use Rattle.m2_base.specs.Statics.Contexts.{Context}
use Rattle.m2_base.specs.Statics.Sets.{set_base, set_type_of}
use Rattle.m2_base.specs.Trees.{Designator, Expr, Exprs, Labels, designator_at, expr_at}
use Rattle.m2_base.specs.Statics.TypeParts.{Parameter}
use Rattle.m2_base.specs.declared.builtins.Builtin.{Builtin}
use Rattle.m2_base.specs.declared.rows.Place.{Place}
use Rattle.type_rules.specs.Scenes.{IsThere}
use Rattle.block_code.specs.Arguments.{after_argument, argument}
use Rattle.block_code.specs.Calls.{Called, called}
use Rattle.block_code.specs.Coded.{Coded}
use Rattle.block_code.specs.Elements.{select_element}
use Rattle.block_code.specs.Expressions.{by_called, count_of_exprs, designated, elements, expression, looked_at, passed}
use Rattle.block_code.specs.Expressions.{standard, value}
use Rattle.block_code.specs.Parts.{Part}
use Rattle.block_code.specs.SetElements.{Elements, add_range, element_coded, no_elements_yet, set_coded}
use Rattle.block_code.specs.StandardProcedures.{first_of_two, of_two_arguments}
use Rattle.expr_sem.specs.declared.fragments.Node.{Node}

-- a type that can be asked for
abbrev pub IsPlace : Frame → List Node → Place → Type 0
IsPlace f ns t = IsThere f t

abbrev pub place_in : List Node → Place → Place
place_in ns t = t

-- the type before the brackets of a set
abbrev pub type_before : Context → (withs : List Place) → Designator → Gives Place
type_before c withs d = and_then (designated c withs d) (λ x. set_type_of c (designator_at d) x.operand)

-- a set of this type with these elements
abbrev pub set_of : Context → (withs : List Place) → Place → Labels → Gives Coded
set_of c withs t items =
    and_then (elements c withs (set_base c t) (no_elements_yet c t) items) (λ es. gives (set_coded t es))

-- an expression as it is taken into a set
abbrev pub member : Context → (withs : List Place) → (base : Place) → Expr → Gives Coded
member c withs base e = and_then (value c withs e) (element_coded c base (expr_at e))

-- the elements from a low one to this
abbrev pub range_to : Context → (withs : List Place) → (base : Place) → Elements → (low : Coded) → Expr
    → Gives Elements
range_to c withs base es low high = and_then (member c withs base high) (λ p. gives (add_range c es low p))

-- what one index selects
abbrev pub index : Context → (withs : List Place) → (first at : ℕ) → Coded → Expr → Gives Coded
index c withs first at x e = and_then (value c withs e) (λ v. select_element c first at (expr_at e) v x)

-- the parameters behind the first
abbrev pub behind_first : {A : Type 0} → List A → List A
behind_first [] = []
behind_first (p ∷ ps) = ps

-- the code of the arguments so far and of a further one, beside the first of these parameters
abbrev pub next_passed : Context → (withs : List Place) → List Parameter → Option Part → Expr → Gives (Option Part)
next_passed c withs [] code e = gives None
next_passed c withs (p ∷ ps) code e =
    and_then (expression c withs e) (λ x. and_then (argument c p (expr_at e) x) (λ a. gives (after_argument code a)))

-- the code of the arguments, where none is missing for these parameters
abbrev pub all_passed : List Parameter → Option Part → Option Part
all_passed [] code = code
all_passed (p ∷ ps) code = None

-- the first of two arguments of a standard procedure
abbrev pub first_argument : Context → (withs : List Place) → Builtin → Expr → Gives Coded
first_argument c withs f e = and_then (expression c withs e) (first_of_two c f (expr_at e))

-- what is called, with these arguments
abbrev pub called_as : Context → (withs : List Place) → Exprs → Called → Gives Coded
called_as c withs args what =
    by_called c what (λ f. standard c withs f args) (λ ps. passed c withs ps args) (looked_at c withs args)

-- something with these arguments; `is_wanted` tells whether the call stands where a value is wanted
abbrev pub called_with : Context → (withs : List Place) → (is_wanted : Bool) → (at : ℕ) → Coded → Exprs → Gives Coded
called_with c withs is_wanted at x args =
    and_then (called c is_wanted at (count_of_exprs args) x) (λ what. called_as c withs args what)

-- a standard procedure, whose first argument is there, with its second
abbrev pub second_argument : Context → (withs : List Place) → Builtin → (first_at : ℕ) → Coded → Expr → Gives Coded
second_argument c withs f first_at v e =
    and_then (expression c withs e) (λ y. of_two_arguments c f first_at v (expr_at e) y)
