-- Parts of constant expressions, as the analysis goes through them.
use Rattle.std.specs.Prelude.{ℕ, ◌||◌, List, map}
use Rattle.m2_base.specs.Gives.{Gives, and_then, gives}
use Rattle.m2_base.specs.Statics.Constants as constants
use Rattle.m2_base.specs.Statics.Constants.{call_of, operand_in, selected, spoilt_by, value_wanted}
use Rattle.m2_base.specs.Statics.Contexts.{Context}
use Rattle.m2_base.specs.Statics.Sets.{element_of}
use Rattle.m2_base.specs.Trees.{Expr, Exprs, expr_at}
use Rattle.m2_base.specs.declared.operands.Operand.{Operand}
use Rattle.m2_base.specs.declared.rows.Place.{Place}
use Rattle.const_eval.specs.Calls.{is_in_error, is_spoilt, shape_of, with_argument}
use Rattle.const_eval.specs.declared.arguments.Arguments.{Arguments}
use Rattle.const_eval.specs.declared.operands.Argument.{Argument}

-- an expression where a value is wanted
abbrev pub value_in : Context → Expr → Gives Operand
value_in c e = and_then (operand_in c e) (λ o. value_wanted c (expr_at e) o)

-- an expression as it is taken into a set
abbrev pub member_in : Context → (base : Place) → Expr → Gives Operand
member_in c base e = and_then (value_in c e) (λ v. element_of c base (expr_at e) v)

-- an operand with an index, which spoils it where it is in error
abbrev pub with_index : Context → (at : ℕ) → Operand → (index : Operand) → Gives Operand
with_index c at o index = and_then (selected c at o) (λ p. gives (spoilt_by index p))

-- an operand with an index expression
abbrev pub index_in : Context → (at : ℕ) → Operand → Expr → Gives Operand
index_in c at o e = and_then (value_in c e) (λ v. with_index c at o v)

-- an argument, as the code sees it
abbrev pub coded : constants.Argument → Argument
coded a = record { at = a.at; operand = a.operand }

-- arguments summed up
abbrev pub summed : List constants.Argument → Arguments
summed list = record { shape = shape_of (map coded list); spoilt = is_spoilt (map coded list) }

-- arguments and a further one
abbrev pub with_more : Arguments → Argument → Arguments
with_more args a = record { shape = with_argument args.shape a; spoilt = args.spoilt || is_in_error a.operand }

-- the arguments of a call, summed up
abbrev pub arguments_in : Context → Exprs → Gives Arguments
arguments_in c es = and_then (constants.arguments_in c es) (λ list. gives (summed list))

-- a call of an operand
abbrev pub called_in : Context → (at : ℕ) → Operand → Exprs → Gives Operand
called_in c at to es = and_then (constants.arguments_in c es) (λ list. call_of c at to list)
