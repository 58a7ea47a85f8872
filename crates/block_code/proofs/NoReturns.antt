-- No code of an expression or a designator returns, and what each of its steps takes and leaves is the table's unless it calls:
-- by the same cases as its length.
use Rattle.std.specs.Prelude.{◌≡◌, refl, ℕ, zero, suc, ◌+◌, ◌-◌, ◌==◌, ◌&&◌, ◌||◌, not, Bool, true, false, if◌then◌else◌, is_some, pos, List, [], ◌∷◌, ◌++◌, length, map, min, slice_index, Option, Some, None}
use Rattle.std.proofs.Common.{ap, ◌∙◌}
use Rattle.code_form.specs.Heights.{Step, step_among, step_by}
use Rattle.code_form.specs.Instructions.{line_of}
use Rattle.code_form.specs.declared.effect.Effect.{Effect}
use Rattle.code_form.specs.declared.effect.Effect.TheVariants.{Changes, CallsOwn, CallsImport, GivesResult}
use Rattle.code_form.specs.declared.instr.Instr.{Instr}
use Rattle.code_form.specs.declared.instr.Instr.TheVariants.{Push, Local, Global, Load, Store, Move, Dup, Offset, Index, IndexOpen, Check, Nil, Eq, Union, Diff, Bit, Span, AndJump, OrJump, Call, CallX, Proc as ProcValue, Return, New as Room, Halt as Stop, Mod as Remainder, Abs as Magnitude, Cap as Capital}
use Rattle.block_code.proofs.ValueHeights.{both_ways}
use Rattle.block_code.specs.Arguments.{address_by, after_argument, alike, argument, array_argument, by_address, by_mode, by_value, checked_mode, is_variable, open_argument, open_element, string_copy, value_argument_by}
use Rattle.block_code.specs.Calls.{Called, allowed, allowed_by_type, call_code, call_coded, called, called_by, cells_of_all, is_same_truth, lacking_call, links_to, no_call, of_target, of_variable, procedure_call, standard_call, result_cells}
use Rattle.block_code.specs.Coded.{Coded, bare, characters, coded, in_error, is_structured, no_high, taken, value_by, value_code, with_char}
use Rattle.block_code.specs.Elements.{element_of_array, element_of_open, index_instr, of_array, of_pointer, select_element, select_element_by, select_target_by}
use Rattle.block_code.specs.Expressions.{by_called, call_alone, continued, count_of_exprs, designated, element, elements, expression, followed, form_coded, indexed, looked_at, passed, selected, selector, standard, value}
use Rattle.block_code.specs.Fitting.{check_of, fit_of, fitted_code, reaches_beyond}
use Rattle.block_code.specs.Heights.{needs_callee}
use Rattle.block_code.specs.Operators.{made, one_coded, one_instr, operation_code, scalar_instr, set_instr, side_of, two_coded, two_instr}
use Rattle.block_code.specs.Parts.{Part, Spot, call, no_callees, none, plain, plain_step, skip, text, with_record, ◌⨟◌}
use Rattle.block_code.specs.ProcedureNames.{Target, import_number, import_of_target, is_foreign, is_own, procedure_code, target_of_procedure}
use Rattle.block_code.specs.RecordFields.{field_by, field_or, field_or_use, found_field, name_coded, of_record, offset_code, select_field_by, with_field}
use Rattle.block_code.specs.SetElements.{Elements, add_element, add_range, element_as, element_coded, no_elements_yet, set_by}
use Rattle.block_code.specs.StandardFunctions.{abs_code, as_variable, as_variable_by, cap_code, function_of_one, high_code, high_of, high_of_range, high_of_variable, magnitude, named_type, odd_code, on_value, size_code}
use Rattle.block_code.specs.StandardProcedures.{counting_range, disposed, element_of_base, first_of_two, included, is_function, is_pointer_type, is_step, member_instrs, new_room, no_value, number_of_type, of_no_argument, of_one_argument, of_two_arguments, one, ordinal_variable, pointer_variable, set_member, step_instr, step_instrs, step_number, step_type, stepped, takes_count, update, variable_argument}
use Rattle.block_code.specs.Values.{as_value, as_value_by, assigned_to, in_range, in_range_by, is_passed_over}
use Rattle.block_code.specs.Variables.{cell_instr, entry_coded, high_of_mode, through, with_address}
use Rattle.m2_base.specs.Gives.{Gives, and_then, gives}
use Rattle.m2_base.specs.Rows.{is_same_place, row_meaning}
use Rattle.m2_base.specs.Standard.{bitset, cardinal, character, integer}
use Rattle.m2_base.specs.Statics.Assignable.{is_assignable, is_open_array, is_procedure_type, taken_into}
use Rattle.m2_base.specs.Statics.Builtins.{builtin_of}
use Rattle.m2_base.specs.Statics.Cells.{capped}
use Rattle.m2_base.specs.Statics.Compatible.{is_compatible}
use Rattle.m2_base.specs.Statics.Contexts.{Block, Context, Scene, level_of, refuse}
use Rattle.m2_base.specs.Statics.Diagnostics.{not_a_procedure, not_a_variable, not_assignable, out_of_range, wrong_argument, wrong_count}
use Rattle.m2_base.specs.Statics.Functions.{abs_of, cap_of, chr_of, max_of, min_of, odd_of, ord_of, size_value, val_of}
use Rattle.m2_base.specs.Statics.Lookup.{Entry}
use Rattle.m2_base.specs.Statics.NamedOperands.{is_in_error, operand_of}
use Rattle.m2_base.specs.Statics.Operands.{is_bad, operand_type}
use Rattle.m2_base.specs.Statics.Operations.{apply_one, is_set_kind, operate}
use Rattle.m2_base.specs.Statics.Ranges.{Range, count_of, is_within}
use Rattle.m2_base.specs.Statics.Sets.{element_of, set_base, set_type_of}
use Rattle.m2_base.specs.Statics.TypeParts.{Parameter, field_of, parameters, result_of_type, target_of}
use Rattle.m2_base.specs.Statics.Types.{base_of, is_broken, is_same, kind_of, range_of, size_of}
use Rattle.m2_base.specs.Statics.Uses.{use_of}
use Rattle.m2_base.specs.Trees.{Designator, Expr, ExprForm, Exprs, Label, Labels, Next, Nexts, Selector, Selectors, call_form, char_form, deref_selector, designator, designator_at, expr, expr_at, field_selector, index_selector, many_form, more_exprs, more_labels, more_nexts, more_selectors, name_form, next, no_exprs, no_labels, no_nexts, no_selectors, number_form, one_form, one_label, range_label, set_form, string_form, typed_set_form}
use Rattle.m2_base.specs.declared.builtins.Builtin.{Builtin}
use Rattle.m2_base.specs.declared.builtins.Builtin.TheVariants.{Abs, Cap, Chr, Dec, Dispose, Excl, Halt, High, Inc, Incl, Max, Min, New, Odd, Ord, Size, Val}
use Rattle.m2_base.specs.declared.operands.Operand.{Operand}
use Rattle.m2_base.specs.declared.operands.Operand.TheVariants.{Computed, Constant, InError, ModuleName, NamedType, Procedure, StandardProcedure, StringConstant, Variable}
use Rattle.m2_base.specs.declared.rows.Mode.{Mode}
use Rattle.m2_base.specs.declared.rows.Mode.TheVariants.{Plain, ByAddress, Open}
use Rattle.m2_base.specs.declared.rows.Place.{Place}
use Rattle.m2_base.specs.declared.rows.Row.{Row}
use Rattle.m2_base.specs.declared.rows.RowMeaning.{RowMeaning}
use Rattle.m2_base.specs.declared.rows.RowMeaning.TheVariants.{Array, Field, OpenArray, Pointer, Record, Var}
use Rattle.m2_base.specs.declared.trees.Ident.{Ident}
use Rattle.m2_base.specs.declared.trees.operators.Operator.{Operator}
use Rattle.m2_base.specs.declared.trees.operators.Operator.TheVariants.{Plus, Minus, Times, Slash, Div, Mod, And, Or, Not, Equal, Unequal, Less, Greater, LessEqual, GreaterEqual}

-- ---- parts

abbrev pub goes_on : Instr → Bool
goes_on Return = false
goes_on i = true

-- none of the steps returns
abbrev pub go_on : List Step → Bool
go_on [] = true
go_on (s ∷ ss) = goes_on s.instr && go_on ss

-- what the step takes and leaves is the table's, unless it asks the callees
abbrev pub IsOwn : Step → Type 0
IsOwn s = needs_callee s.instr ≡ false → step_among no_callees s.instr ≡ s

abbrev pub Tame : List Step → Type 0
Tame [] = Unit {0}
Tame (s ∷ ss) = ((goes_on s.instr ≡ true) × IsOwn s) × Tame ss

abbrev pub Stays : Part → Type 0
Stays p = (at : Spot) → Tame (p at).code

tame-append : (a b : List Step) → Tame a → Tame b → Tame (a ++ b)
tame-append [] b e f = f
tame-append (s ∷ ss) b e f = (e.0, tame-append ss b e.1 f)

pub none-stays : Stays none
none-stays = λ at. tt

same_instr : (i : Instr) → (plain_step i).instr ≡ i
same_instr i = go (line_of i).effect
  where
    go : (e : Effect) → (step_by no_callees i e).instr ≡ i
    go (Changes takes leaves) = refl
    go (CallsOwn p) = refl
    go (CallsImport m k) = refl
    go GivesResult = refl

plain-tame : (is : List Instr) → go_on (map plain_step is) ≡ true → Tame (map plain_step is)
plain-tame [] e = tt
plain-tame (i ∷ is) e =
    let p = parts (goes_on (plain_step i).instr) (go_on (map plain_step is)) e in
    ((p.0, λ n. ap (step_among no_callees) (same_instr i)), plain-tame is p.1)
  where
    parts : (a b : Bool) → (a && b) ≡ true → (a ≡ true) × (b ≡ true)
    parts true true e = (refl, refl)
    parts true false e = absurd cc
    parts false b e = absurd cc

pub plain-stays : (is : List Instr) → go_on (map plain_step is) ≡ true → Stays (plain is)
plain-stays is e = λ at. plain-tame is e

pub text-stays : (cs : List ℕ) → Stays (text cs)
text-stays cs = λ at. ((refl, λ n. refl), tt)

pub then-stays : (p q : Part) → Stays p → Stays q → Stays (p ⨟ q)
then-stays p q f g = λ at. tame-append (p at).code (q (p at).next).code (f at) (g (p at).next)

pub skip_and-stays : (p : Part) → Stays p → Stays (skip AndJump p)
skip_and-stays p f = λ at. ((refl, λ n. refl), f at)

pub skip_or-stays : (p : Part) → Stays p → Stays (skip OrJump p)
skip_or-stays p f = λ at. ((refl, λ n. refl), f at)

one_more : (b : Bool) → b ≡ true → (b && true) ≡ true
one_more true e = refl
one_more false e = absurd cc

-- an instruction alone
alone : (i : Instr) → goes_on i ≡ true → (goes_on (plain_step i).instr && true) ≡ true
alone i e = one_more (goes_on (plain_step i).instr) (ap goes_on (same_instr i) ∙ e)

-- what an instruction of a call takes and leaves is the table's, unless it asks the callees
abbrev IsCall : Instr → (takes leaves : ℕ) → Type 0
IsCall i takes leaves = (goes_on i ≡ true) × IsOwn (record { instr = i; takes = takes; leaves = leaves })

call-stays : (i : Instr) (takes leaves : ℕ) → IsCall i takes leaves → Stays (call i takes leaves)
call-stays i takes leaves e = λ at. (e, tt)

-- what stands for something, with what an open array's length needs
abbrev pub Quiet : Coded → Type 0
Quiet x = Stays x.code × Stays x.high

high-none : Stays no_high
high-none = plain-stays (Push (pos 0) ∷ []) refl

coded-quiet : (o : Operand) (p : Part) → Stays p → Quiet (coded o p)
coded-quiet o p f = (f, high-none)

bare-quiet : (o : Operand) → Quiet (bare o)
bare-quiet o = (none-stays, high-none)

pub error-quiet : Quiet in_error
error-quiet = bare-quiet InError

-- ---- values

value_go : (c : Context) (at : ℕ) (x : Coded) (o : Operand) → Quiet x → Quiet (as_value_by c at x o).value
value_go c at x (NamedType t) g = error-quiet
value_go c at x (ModuleName s) g = error-quiet
value_go c at x (StandardProcedure k) g = error-quiet
value_go c at x (Procedure name t k s) g =
    both_ways (λ r. Quiet r.value) (level_of c.scene.block t.scope == 0) (gives x) (refuse c at 66 in_error) g error-quiet
value_go c at x o g = g

pub as_value-quiet : (c : Context) (at : ℕ) (x : Coded) → Quiet x → Quiet (as_value c at x).value
as_value-quiet c at x g = value_go c at x x.operand g

procedure-stays : (scene : Scene) (p : Option Target) → Stays (procedure_code scene p)
procedure-stays scene None = plain-stays (ProcValue 0 0 ∷ []) refl
procedure-stays scene (Some p) = plain-stays (ProcValue (import_of_target scene.block p) p.number ∷ []) refl

code_go : (c : Context) (code : Part) (o : Operand) → Stays code → Stays (value_by c code o)
code_go c code (Constant t v) f = plain-stays (Push v ∷ []) refl
code_go c code (StringConstant name k) f = text-stays (characters c.source name)
code_go c code (Variable t) f =
    both_ways Stays (is_structured c.scene t) code (code ⨟ plain (Load ∷ [])) f (then-stays code (plain (Load ∷ [])) f (plain-stays (Load ∷ []) refl))
code_go c code (Procedure name t k s) f = procedure-stays c.scene (target_of_procedure c.scene name t k)
code_go c code o f = f

pub value-stays : (c : Context) (x : Coded) → Quiet x → Stays (value_code c x)
value-stays c x g = code_go c x.code x.operand g.0

check-stays : (is : Instr) (from to : Option Range) → goes_on is ≡ true → Stays (plain (is ∷ check_of from to))
check-stays i from None e = plain-stays (i ∷ []) (alone i e)
check-stays i from (Some r) e =
    both_ways (λ is. Stays (plain (i ∷ is))) (reaches_beyond from r) (Check r.low r.high ∷ []) [] (plain-stays (i ∷ Check r.low r.high ∷ []) (alone i e)) (plain-stays (i ∷ []) (alone i e))

range-stays : (from to : Option Range) → Stays (plain (check_of from to))
range-stays from None = plain-stays [] refl
range-stays from (Some r) =
    both_ways (λ is. Stays (plain is)) (reaches_beyond from r) (Check r.low r.high ∷ []) [] (plain-stays (Check r.low r.high ∷ []) refl) (plain-stays [] refl)

fit-stays : (scene : Scene) (to : Place) (o : Operand) → Stays (fit_of scene to o)
fit-stays scene to (Variable t) = range-stays (range_of scene t) (range_of scene to)
fit-stays scene to (Computed t) = range-stays (range_of scene t) (range_of scene to)
fit-stays scene to o = none-stays

pub fitted-stays : (c : Context) (to : Place) (x : Coded) → Quiet x → Stays (fitted_code c to x)
fitted-stays c to x g = then-stays (value_code c x) (fit_of c.scene to x.operand) (value-stays c x g) (fit-stays c.scene to x.operand)

range_go : (c : Context) (at : ℕ) (r : Option Range) (x : Coded) (o : Operand) → Quiet x → Quiet (in_range_by c at r x o).value
range_go c at r x (Constant t v) g = both_ways (λ y. Quiet y.value) (is_within r v) (gives x) (refuse c at out_of_range in_error) g error-quiet
range_go c at r x o g = g

in_range-quiet : (c : Context) (at : ℕ) (to : Place) (x : Coded) → Quiet x → Quiet (in_range c at to x).value
in_range-quiet c at to x g = range_go c at (range_of c.scene to) x x.operand g

pub assigned-quiet : (c : Context) (to : Place) (at code : ℕ) (x : Coded) → Quiet x → Quiet (assigned_to c to at code x).value
assigned-quiet c to at code x g =
    both_ways (λ r. Quiet r.value) (is_passed_over c.scene to x.operand) (gives in_error)
    (if is_assignable c.scene to x.operand then in_range c at to (taken (taken_into c.source c.scene to x.operand) x) else refuse c at code in_error) error-quiet
    (both_ways (λ r. Quiet r.value) (is_assignable c.scene to x.operand) (in_range c at to (taken (taken_into c.source c.scene to x.operand) x))
    (refuse c at code in_error) (in_range-quiet c at to (taken (taken_into c.source c.scene to x.operand) x) g) error-quiet)

made-quiet : (r : Operand) (p : Part) → Stays p → Quiet (made r p)
made-quiet (Computed t) p f = coded-quiet (Computed t) p f
made-quiet (Constant t v) p f = bare-quiet (Constant t v)
made-quiet o p f = error-quiet

-- ---- operators

one_instr-stays : (op : Operator) → Stays (plain (one_instr op))
one_instr-stays Not = plain-stays (one_instr Not) refl
one_instr-stays Minus = plain-stays (one_instr Minus) refl
one_instr-stays op = plain-stays [] refl

one_coded-quiet : (c : Context) (op : Operator) (op_at : ℕ) (x : Coded) → Quiet x → Quiet (one_coded c op op_at x).value
one_coded-quiet c op op_at x g =
    made-quiet (apply_one c op op_at x.operand).value (value_code c x ⨟ plain (one_instr op))
    (then-stays (value_code c x) (plain (one_instr op)) (value-stays c x g) (one_instr-stays op))

set_instr-on : (op : Operator) → goes_on (set_instr op) ≡ true
set_instr-on Plus = refl
set_instr-on Minus = refl
set_instr-on Times = refl
set_instr-on Slash = refl
set_instr-on LessEqual = refl
set_instr-on GreaterEqual = refl
set_instr-on Equal = refl
set_instr-on Unequal = refl
set_instr-on op = refl

scalar_instr-on : (b : ℕ) (op : Operator) → goes_on (scalar_instr b op) ≡ true
scalar_instr-on b Plus = refl
scalar_instr-on b Minus = refl
scalar_instr-on b Times = refl
scalar_instr-on b Div = refl
scalar_instr-on b Mod = refl
scalar_instr-on b Unequal = refl
scalar_instr-on b Less = refl
scalar_instr-on b LessEqual = refl
scalar_instr-on b Greater = refl
scalar_instr-on b GreaterEqual = refl
scalar_instr-on b op = refl

two_instr-stays : (scene : Scene) (op : Operator) (r t : Place) → Stays (plain (two_instr scene op r t ∷ []))
two_instr-stays scene op r t = plain-stays (two_instr scene op r t ∷ []) (alone (two_instr scene op r t)
    (both_ways (λ i. goes_on i ≡ true) (is_set_kind (kind_of scene t)) (set_instr op) (scalar_instr (side_of scene r) op) (set_instr-on op) (scalar_instr-on (side_of scene r) op)))

operation-stays : (scene : Scene) (op : Operator) (r t : Place) (x y : Part) → Stays x → Stays y → Stays (operation_code scene op r t x y)
operation-stays scene And r t x y f g = then-stays x (skip AndJump y) f (skip_and-stays y g)
operation-stays scene Or r t x y f g = then-stays x (skip OrJump y) f (skip_or-stays y g)
operation-stays scene op r t x y f g =
    then-stays x (y ⨟ plain (two_instr scene op r t ∷ [])) f (then-stays y (plain (two_instr scene op r t ∷ [])) g (two_instr-stays scene op r t))

two_coded-quiet : (c : Context) (op : Operator) (op_at x_at : ℕ) (x : Coded) (y_at : ℕ) (y : Coded) → Quiet x → Quiet y → Quiet (two_coded c op op_at x_at x y_at y).value
two_coded-quiet c op op_at x_at x y_at y g h =
    let r : Operand = (operate c op op_at x.operand x_at y.operand y_at).value in
    let v : Part = value_code c (with_char c x) in
    let w : Part = value_code c (with_char c y) in
    made-quiet r (operation_code c.scene op (operand_type r) (operand_type y.operand) v w)
    (operation-stays c.scene op (operand_type r) (operand_type y.operand) v w (value-stays c (with_char c x) g) (value-stays c (with_char c y) h))

-- ---- sets

element_go : (x : Coded) (o : Operand) → Quiet x → Quiet (element_as x o)
element_go x InError g = error-quiet
element_go x o g = g

element-quiet : (c : Context) (base : Place) (at : ℕ) (x : Coded) → Quiet x → Quiet (element_coded c base at x).value
element-quiet c base at x g = element_go x (element_of c base at x.operand).value g

add_element-stays : (c : Context) (es : Elements) (x : Coded) → Stays es.code → Quiet x → Stays (add_element c es x).code
add_element-stays c es x f g =
    then-stays es.code (value_code c x ⨟ plain (Bit ∷ Union ∷ [])) f
    (then-stays (value_code c x) (plain (Bit ∷ Union ∷ [])) (value-stays c x g) (plain-stays (Bit ∷ Union ∷ []) refl))

add_range-stays : (c : Context) (es : Elements) (x y : Coded) → Stays es.code → Quiet x → Quiet y → Stays (add_range c es x y).code
add_range-stays c es x y f g h =
    then-stays es.code (value_code c x ⨟ value_code c y ⨟ plain (Span ∷ Union ∷ [])) f
    (then-stays (value_code c x) (value_code c y ⨟ plain (Span ∷ Union ∷ [])) (value-stays c x g)
    (then-stays (value_code c y) (plain (Span ∷ Union ∷ [])) (value-stays c y h) (plain-stays (Span ∷ Union ∷ []) refl)))

set_go : (t : Place) (code : Part) (o : Operand) → Stays code → Quiet (set_by t code o)
set_go t code (Constant u s) f = bare-quiet (Constant t s)
set_go t code InError f = error-quiet
set_go t code o f =
    coded-quiet (Computed t) (plain (Push (pos 0) ∷ []) ⨟ code) (then-stays (plain (Push (pos 0) ∷ [])) code (plain-stays (Push (pos 0) ∷ []) refl) f)

-- ---- standard functions

variable_go : (c : Context) (at : ℕ) (x : Coded) (o : Operand) → Quiet x → Quiet (as_variable_by c at x o).value
variable_go c at x (Variable t) g = g
variable_go c at x o g = error-quiet

pub variable-quiet : (c : Context) (at : ℕ) (x : Coded) → Quiet x → Quiet (as_variable c at x).value
variable-quiet c at x g = variable_go c at x x.operand g

where-quiet : (c : Context) (at : ℕ) (test : Place → Bool) (x : Coded) → Quiet x → Quiet (variable_argument c at test x).value
where-quiet c at test x g =
    let v : Coded = (as_variable c at x).value in
    both_ways (λ r. Quiet r.value) (is_bad v.operand || test (operand_type v.operand)) (gives v) (refuse c at wrong_argument in_error)
    (variable-quiet c at x g) error-quiet

on_value-quiet : (c : Context) (at : ℕ) (x : Coded) (rule : Operand → Gives Operand) (code : Coded → Part) → Quiet x → ((v : Coded) → Quiet v → Stays (code v))
    → Quiet (on_value c at x rule code).value
on_value-quiet c at x rule code g f =
    let v : Coded = (as_value c at x).value in made-quiet (rule v.operand).value (code v) (f v (as_value-quiet c at x g))

behind-stays : (c : Context) (is : List Instr) (v : Coded) → Quiet v → go_on (map plain_step is) ≡ true → Stays (value_code c v ⨟ plain is)
behind-stays c is v g e = then-stays (value_code c v) (plain is) (value-stays c v g) (plain-stays is e)

magnitude-on : (scene : Scene) (t : Place) → go_on (map plain_step (magnitude scene t)) ≡ true
magnitude-on scene t = both_ways (λ is. go_on (map plain_step is) ≡ true) (is_same_place (base_of scene t) integer) (Magnitude ∷ []) [] refl refl

high_code-stays : (scene : Scene) (x : Coded) (m : RowMeaning) → Stays x.high → Stays (high_code scene x m)
high_code-stays scene x (Array i t s) h = plain-stays (Push (high_of_range (range_of scene i)) ∷ []) refl
high_code-stays scene x m h = h

high_kind : (c : Context) (at : ℕ) (x : Coded) (m : RowMeaning) → Quiet x → Quiet (high_of c at x m).value
high_kind c at x (Array i t s) g =
    both_ways (λ r. Quiet r.value) (is_broken c.scene i) (gives in_error) (gives (coded (Computed cardinal) (high_code c.scene x (Array i t s)))) error-quiet
    (coded-quiet (Computed cardinal) (high_code c.scene x (Array i t s)) (high_code-stays c.scene x (Array i t s) g.1))
high_kind c at x (OpenArray t) g = coded-quiet (Computed cardinal) x.high g.1
high_kind c at x m g = error-quiet

high-quiet : (c : Context) (at : ℕ) (x : Coded) → Quiet x → Quiet (high_of_variable c at x).value
high-quiet c at x g =
    both_ways (λ r. Quiet r.value) (is_bad x.operand) (gives in_error) (high_of c at x (kind_of c.scene (operand_type x.operand))) error-quiet
    (high_kind c at x (kind_of c.scene (operand_type x.operand)) g)

function-quiet : (c : Context) (f : Builtin) (at : ℕ) (x : Coded) → Quiet x → Quiet (function_of_one c f at x).value
function-quiet c Abs at x g =
    on_value-quiet c at x (abs_of c at) (abs_code c) g (λ v h. behind-stays c (magnitude c.scene (operand_type v.operand)) v h (magnitude-on c.scene (operand_type v.operand)))
function-quiet c Cap at x g = on_value-quiet c at x (cap_of c at) (cap_code c) g (λ v h. behind-stays c (Capital ∷ []) v h refl)
function-quiet c Chr at x g = on_value-quiet c at x (chr_of c at) (fitted_code c character) g (fitted-stays c character)
function-quiet c Odd at x g =
    on_value-quiet c at x (odd_of c at) (odd_code c) g (λ v h.
    behind-stays c (Push (pos 2) ∷ Remainder (side_of c.scene (operand_type v.operand)) ∷ Push (pos 1) ∷ Eq ∷ []) v h refl)
function-quiet c Ord at x g = on_value-quiet c at x (ord_of c at) (fitted_code c cardinal) g (fitted-stays c cardinal)
function-quiet c Min at x g = bare-quiet (min_of c at x.operand).value
function-quiet c Max at x g = bare-quiet (max_of c at x.operand).value
function-quiet c Size at x g = made-quiet (size_value c at x.operand).value (size_code c x) (plain-stays (Push (pos (size_of c.scene (operand_type x.operand))) ∷ []) refl)
function-quiet c High at x g = high-quiet c at (as_variable c at x).value (variable-quiet c at x g)
function-quiet c f at x g = error-quiet

-- ---- standard procedures

update-quiet : (x : Coded) (p : Part) (is : List Instr) → Quiet x → Stays p → Stays (plain is) → Quiet (update x p is)
update-quiet x p is g f h =
    coded-quiet no_value (x.code ⨟ plain (Dup ∷ Load ∷ []) ⨟ p ⨟ plain is ⨟ plain (Store ∷ []))
    (then-stays x.code (plain (Dup ∷ Load ∷ []) ⨟ p ⨟ plain is ⨟ plain (Store ∷ [])) g.0
    (then-stays (plain (Dup ∷ Load ∷ [])) (p ⨟ plain is ⨟ plain (Store ∷ [])) (plain-stays (Dup ∷ Load ∷ []) refl)
    (then-stays p (plain is ⨟ plain (Store ∷ [])) f (then-stays (plain is) (plain (Store ∷ [])) h (plain-stays (Store ∷ []) refl)))))

step_instr-on : (f : Builtin) (b : ℕ) → goes_on (step_instr f b) ≡ true
step_instr-on Inc b = refl
step_instr-on f b = refl

stepped-quiet : (c : Context) (f : Builtin) (x y : Coded) → Quiet x → Quiet y → Quiet (stepped c f x y)
stepped-quiet c f x y g h =
    let t : Place = operand_type x.operand in
    both_ways Quiet (is_bad x.operand || is_bad y.operand) in_error (update x (value_code c y) (step_instrs c.scene f t)) error-quiet
    (update-quiet x (value_code c y) (step_instrs c.scene f t) g (value-stays c y h)
    (check-stays (step_instr f (side_of c.scene t)) (Some (counting_range (side_of c.scene t))) (range_of c.scene t) (step_instr-on f (side_of c.scene t))))

member-stays : (f : Builtin) → Stays (plain (member_instrs f))
member-stays Incl = plain-stays (Bit ∷ Union ∷ []) refl
member-stays f = plain-stays (Bit ∷ Diff ∷ []) refl

included-quiet : (c : Context) (f : Builtin) (x y : Coded) → Quiet x → Quiet y → Quiet (included c f x y)
included-quiet c f x y g h =
    let t : Place = set_base c (operand_type x.operand) in
    both_ways Quiet (is_bad x.operand || is_bad y.operand) in_error (update x (fitted_code c t y) (member_instrs f)) error-quiet
    (update-quiet x (fitted_code c t y) (member_instrs f) g (fitted-stays c t y h) (member-stays f))

step-quiet : (c : Context) (x : Coded) (at : ℕ) (y : Coded) → Quiet y → Quiet (step_number c x at y).value
step-quiet c x at y h =
    let v : Coded = (as_value c at y).value in
    let w : Place = step_type c.scene (operand_type x.operand) in
    both_ways (λ r. Quiet r.value) (is_bad x.operand || is_bad v.operand) (gives in_error) (number_of_type c at w v) error-quiet
    (both_ways (λ r. Quiet r.value) (is_step c.scene w v.operand) (in_range c at w v) (refuse c at wrong_argument in_error)
    (in_range-quiet c at w v (as_value-quiet c at y h)) error-quiet)

set_member-quiet : (c : Context) (x : Coded) (at : ℕ) (y : Coded) → Quiet y → Quiet (set_member c x at y).value
set_member-quiet c x at y h =
    let v : Coded = (as_value c at y).value in
    let base : Place = set_base c (operand_type x.operand) in
    let o : Operand = taken_into c.source c.scene base v.operand in
    both_ways (λ r. Quiet r.value) (is_bad x.operand || is_bad v.operand) (gives in_error) (element_of_base c at base v) error-quiet
    (both_ways (λ r. Quiet r.value) (is_broken c.scene base) (gives in_error)
    (if is_compatible c.scene v.operand (Computed base) then in_range c at base (taken o v) else refuse c at wrong_argument in_error) error-quiet
    (both_ways (λ r. Quiet r.value) (is_compatible c.scene v.operand (Computed base)) (in_range c at base (taken o v)) (refuse c at wrong_argument in_error)
    (in_range-quiet c at base (taken o v) (as_value-quiet c at y h)) error-quiet))

short_behind : (x : Coded) (is : List Instr) → Quiet x → go_on (map plain_step is) ≡ true → Quiet (coded no_value (x.code ⨟ plain is))
short_behind x is g e = coded-quiet no_value (x.code ⨟ plain is) (then-stays x.code (plain is) g.0 (plain-stays is e))

new-quiet : (c : Context) (x : Coded) → Quiet x → Quiet (new_room c x)
new-quiet c x g =
    let t : Place = target_of c.scene (operand_type x.operand) in
    both_ways Quiet (is_bad x.operand || is_broken c.scene t) in_error (coded no_value (x.code ⨟ plain (Room (size_of c.scene t) ∷ []))) error-quiet
    (short_behind x (Room (size_of c.scene t) ∷ []) g refl)

disposed-quiet : (x : Coded) → Quiet x → Quiet (disposed x)
disposed-quiet x g =
    both_ways Quiet (is_bad x.operand) in_error (coded no_value (x.code ⨟ plain (Push (pos 0) ∷ Store ∷ []))) error-quiet
    (short_behind x (Push (pos 0) ∷ Store ∷ []) g refl)

no_argument-quiet : (f : Builtin) → Quiet (of_no_argument f)
no_argument-quiet Halt = coded-quiet no_value (plain (Stop ∷ [])) (plain-stays (Stop ∷ []) refl)
no_argument-quiet f = error-quiet

one-quiet : Quiet one
one-quiet = bare-quiet one.operand

one_argument-quiet : (c : Context) (f : Builtin) (at : ℕ) (x : Coded) → Quiet x → Quiet (of_one_argument c f at x).value
one_argument-quiet c Inc at x g =
    stepped-quiet c Inc (ordinal_variable c at x).value one (where-quiet c at (λ t. is_some (range_of c.scene t)) x g) one-quiet
one_argument-quiet c Dec at x g =
    stepped-quiet c Dec (ordinal_variable c at x).value one (where-quiet c at (λ t. is_some (range_of c.scene t)) x g) one-quiet
one_argument-quiet c New at x g = new-quiet c (pointer_variable c at x).value (where-quiet c at (λ t. is_pointer_type (kind_of c.scene t)) x g)
one_argument-quiet c Dispose at x g = disposed-quiet (pointer_variable c at x).value (where-quiet c at (λ t. is_pointer_type (kind_of c.scene t)) x g)
one_argument-quiet c f at x g = function-quiet c f at x g

first-quiet : (c : Context) (f : Builtin) (at : ℕ) (x : Coded) → Quiet x → Quiet (first_of_two c f at x).value
first-quiet c Inc at x g = where-quiet c at (λ t. is_some (range_of c.scene t)) x g
first-quiet c Dec at x g = where-quiet c at (λ t. is_some (range_of c.scene t)) x g
first-quiet c Incl at x g = where-quiet c at (λ t. is_set_kind (kind_of c.scene t)) x g
first-quiet c Excl at x g = where-quiet c at (λ t. is_set_kind (kind_of c.scene t)) x g
first-quiet c f at x g = g

two_arguments-quiet : (c : Context) (f : Builtin) (x_at : ℕ) (x : Coded) (at : ℕ) (y : Coded) → Quiet x → Quiet y → Quiet (of_two_arguments c f x_at x at y).value
two_arguments-quiet c Inc x_at x at y g h = stepped-quiet c Inc x (step_number c x at y).value g (step-quiet c x at y h)
two_arguments-quiet c Dec x_at x at y g h = stepped-quiet c Dec x (step_number c x at y).value g (step-quiet c x at y h)
two_arguments-quiet c Incl x_at x at y g h = included-quiet c Incl x (set_member c x at y).value g (set_member-quiet c x at y h)
two_arguments-quiet c Excl x_at x at y g h = included-quiet c Excl x (set_member c x at y).value g (set_member-quiet c x at y h)
two_arguments-quiet c Val x_at x at y g h =
    on_value-quiet c at y (val_of c x_at x.operand at) (fitted_code c (named_type x.operand)) h (fitted-stays c (named_type x.operand))
two_arguments-quiet c f x_at x at y g h = error-quiet

-- ---- designators

cell-on : (b : Block) (s o : ℕ) → goes_on (cell_instr b s o) ≡ true
cell-on b s o =
    both_ways (λ i. goes_on i ≡ true) (is_own b s) (Global 0 o) (if level_of b s == 0 then Global (import_number b s) o else Local (b.level - level_of b s) o) refl
    (both_ways (λ i. goes_on i ≡ true) (level_of b s == 0) (Global (import_number b s) o) (Local (b.level - level_of b s) o) refl refl)

address-stays : (b : Block) (s o : ℕ) (m : Mode) → Stays (plain (cell_instr b s o ∷ through m))
address-stays b s o Plain = plain-stays (cell_instr b s o ∷ []) (alone (cell_instr b s o) (cell-on b s o))
address-stays b s o ByAddress = plain-stays (cell_instr b s o ∷ Load ∷ []) (alone (cell_instr b s o) (cell-on b s o))
address-stays b s o Open = plain-stays (cell_instr b s o ∷ Load ∷ []) (alone (cell_instr b s o) (cell-on b s o))

high-stays : (b : Block) (s o : ℕ) (m : Mode) → Stays (high_of_mode b s o m)
high-stays b s o Open = plain-stays (cell_instr b s (o + 1) ∷ Load ∷ []) (alone (cell_instr b s (o + 1)) (cell-on b s (o + 1)))
high-stays b s o m = high-none

row_go : (b : Block) (s : ℕ) (m : RowMeaning) (x : Operand) → Quiet (with_address b s m x)
row_go b s (Var t mode o) (Variable u) = (address-stays b s o mode, high-stays b s o mode)
row_go b s (Var t mode o) x = bare-quiet x
row_go b s m x = bare-quiet x

pub entry-quiet : (c : Context) (e : Option Entry) → Quiet (entry_coded c e)
entry-quiet c None = error-quiet
entry-quiet c (Some e) = row_go c.scene.block e.0.scope (row_meaning e.1) (operand_of c.scene e)

offset-stays : (o : ℕ) → Stays (offset_code o)
offset-stays zero = none-stays
offset-stays (suc o) = plain-stays (Offset (suc o) ∷ []) refl

field-quiet : (scene : Scene) (code : Part) (m : RowMeaning) → Stays code → Quiet (field_by scene code m)
field-quiet scene code (Field t o r i) f =
    both_ways Quiet (is_broken scene t) in_error (coded (Variable t) (code ⨟ offset_code o)) error-quiet
    (coded-quiet (Variable t) (code ⨟ offset_code o) (then-stays code (offset_code o) f (offset-stays o)))
field-quiet scene code m f = error-quiet

abbrev QuietIfThere : Option Coded → Type 0
QuietIfThere None = Unit {0}
QuietIfThere (Some x) = Quiet x

field_or-quiet : (scene : Scene) (k : ℕ) (f : Option Row) (outer : Option Coded) → QuietIfThere outer → QuietIfThere (field_or scene k f outer)
field_or-quiet scene k None outer g = g
field_or-quiet scene k (Some f) outer g = field-quiet scene (with_record k) (row_meaning f) (λ at. plain-stays (Local 0 (slice_index at.withs k) ∷ Load ∷ []) refl at)

with_field-quiet : (scene : Scene) (k : ℕ) (withs : List Place) (name : ℕ) → QuietIfThere (with_field scene k withs name)
with_field-quiet scene k [] name = tt
with_field-quiet scene k (t ∷ ts) name =
    field_or-quiet scene k (field_of scene t name) (with_field scene (suc k) ts name) (with_field-quiet scene (suc k) ts name)

use-quiet : (c : Context) (i : Ident) (x : Option Coded) → QuietIfThere x → Quiet (field_or_use c i x).value
use-quiet c i None g = entry-quiet c (use_of c None i.name i.at).value
use-quiet c i (Some x) g = g

name-quiet : (c : Context) (withs : List Place) (i : Ident) → Quiet (name_coded c withs i).value
name-quiet c withs i = use-quiet c i (with_field c.scene 0 withs i.name) (with_field-quiet c.scene 0 withs i.name)

found-quiet : (c : Context) (code : Part) (i : Ident) (f : Option Row) → Stays code → Quiet (found_field c code i f).value
found-quiet c code i None g = error-quiet
found-quiet c code i (Some f) g = field-quiet c.scene code (row_meaning f) g

of_record-quiet : (c : Context) (at : ℕ) (code : Part) (i : Ident) (t : Place) (m : RowMeaning) → Stays code → Quiet (of_record c at code i t m).value
of_record-quiet c at code i t (Record f s) g = found-quiet c code i (field_of c.scene t i.name) g
of_record-quiet c at code i t m g = error-quiet

field_go : (c : Context) (first at : ℕ) (i : Ident) (code : Part) (o : Operand) → Stays code → Quiet (select_field_by c first at i code o).value
field_go c first at i code (ModuleName s) g = entry-quiet c (use_of c (Some s) i.name i.at).value
field_go c first at i code (Variable t) g = of_record-quiet c at code i t (kind_of c.scene t) g
field_go c first at i code o g = error-quiet

pointer-quiet : (c : Context) (at : ℕ) (code : Part) (t : Place) (m : RowMeaning) → Stays code → Quiet (of_pointer c at code t m).value
pointer-quiet c at code t (Pointer p) g =
    both_ways (λ r. Quiet r.value) (is_broken c.scene (target_of c.scene t)) (gives in_error)
    (gives (coded (Variable (target_of c.scene t)) (code ⨟ plain (Load ∷ Nil ∷ [])))) error-quiet
    (coded-quiet (Variable (target_of c.scene t)) (code ⨟ plain (Load ∷ Nil ∷ [])) (then-stays code (plain (Load ∷ Nil ∷ [])) g (plain-stays (Load ∷ Nil ∷ []) refl)))
pointer-quiet c at code t m g = error-quiet

target_go : (c : Context) (first at : ℕ) (code : Part) (o : Operand) → Stays code → Quiet (select_target_by c first at code o).value
target_go c first at code (Variable t) g = pointer-quiet c at code t (kind_of c.scene t) g
target_go c first at code o g = error-quiet

index-stays : (r : Option Range) (s : ℕ) → Stays (plain (index_instr r s ∷ []))
index-stays None s = plain-stays (Index (pos 0) 0 s ∷ []) refl
index-stays (Some r) s = plain-stays (Index r.low (count_of r) s ∷ []) refl

array_element-quiet : (c : Context) (x : Coded) (index elem : Place) (i : Coded) → Quiet x → Quiet i → Quiet (element_of_array c x index elem i).value
array_element-quiet c x index elem i g h =
    let p : Part = plain (index_instr (range_of c.scene index) (size_of c.scene elem) ∷ []) in
    both_ways (λ r. Quiet r.value) (is_bad i.operand || is_broken c.scene elem) (gives in_error) (gives (coded (Variable elem) (x.code ⨟ value_code c i ⨟ p))) error-quiet
    (coded-quiet (Variable elem) (x.code ⨟ value_code c i ⨟ p)
    (then-stays x.code (value_code c i ⨟ p) g.0 (then-stays (value_code c i) p (value-stays c i h) (index-stays (range_of c.scene index) (size_of c.scene elem)))))

open_element-quiet : (c : Context) (x : Coded) (elem : Place) (i : Coded) → Quiet x → Quiet i → Quiet (element_of_open c x elem i).value
open_element-quiet c x elem i g h =
    let p : Part = plain (IndexOpen (size_of c.scene elem) ∷ []) in
    both_ways (λ r. Quiet r.value) (is_bad i.operand || is_broken c.scene elem) (gives in_error)
    (gives (coded (Variable elem) (x.code ⨟ x.high ⨟ value_code c i ⨟ p))) error-quiet
    (coded-quiet (Variable elem) (x.code ⨟ x.high ⨟ value_code c i ⨟ p)
    (then-stays x.code (x.high ⨟ value_code c i ⨟ p) g.0
    (then-stays x.high (value_code c i ⨟ p) g.1 (then-stays (value_code c i) p (value-stays c i h) (plain-stays (IndexOpen (size_of c.scene elem) ∷ []) refl)))))

array-quiet : (c : Context) (at : ℕ) (x : Coded) (i_at : ℕ) (i : Coded) (m : RowMeaning) → Quiet x → Quiet i → Quiet (of_array c at x i_at i m).value
array-quiet c at x i_at i (Array index elem s) g h =
    array_element-quiet c x index elem (assigned_to c index i_at not_assignable i).value g (assigned-quiet c index i_at not_assignable i h)
array-quiet c at x i_at i (OpenArray elem) g h =
    open_element-quiet c x elem (assigned_to c cardinal i_at not_assignable i).value g (assigned-quiet c cardinal i_at not_assignable i h)
array-quiet c at x i_at i m g h = error-quiet

select_go : (c : Context) (first at i_at : ℕ) (i x : Coded) (o : Operand) → Quiet x → Quiet i → Quiet (select_element_by c first at i_at i x o).value
select_go c first at i_at i x (Variable t) g h = array-quiet c at x i_at i (kind_of c.scene t) g h
select_go c first at i_at i x o g h = error-quiet

-- ---- arguments and calls

abbrev StaysIfThere : Option Part → Type 0
StaysIfThere None = Unit {0}
StaysIfThere (Some p) = Stays p

copy-stays : (n : ℕ) (cs : List ℕ) → Stays (string_copy n cs)
copy-stays n cs = λ at.
    let tail : Part = plain (Move (min (length cs + 1) n) ∷ Local 0 at.cell ∷ []) in
    then-stays (plain (Local 0 at.cell ∷ [])) (text cs ⨟ tail) (plain-stays (Local 0 at.cell ∷ []) refl)
    (then-stays (text cs) tail (text-stays cs) (plain-stays (Move (min (length cs + 1) n) ∷ Local 0 at.cell ∷ []) refl))
    (record at { cell = capped (at.cell + n) })

argument_go : (c : Context) (t : Place) (x : Coded) (o : Operand) → Quiet x → StaysIfThere (value_argument_by c t x o)
argument_go c t x InError g = tt
argument_go c t x (StringConstant name l) g = copy-stays (size_of c.scene t) (characters c.source name)
argument_go c t x o g = fitted-stays c t x g

address_go : (c : Context) (t : Place) (at : ℕ) (code : Part) (o : Operand) → Stays code → StaysIfThere (address_by c t at code o).value
address_go c t at code (Variable u) g =
    both_ways (λ r. StaysIfThere r.value) (is_same c.scene t u) (gives (Some code)) (refuse c at wrong_argument None) g tt
address_go c t at code o g = tt

alike-stays : (c : Context) (want : Place) (at : ℕ) (x : Coded) (m : RowMeaning) (elem : Place) → Quiet x → StaysIfThere (alike c want at x m elem).value
alike-stays c want at x m elem g =
    both_ways (λ r. StaysIfThere r.value) (is_broken c.scene elem) (gives None)
    (if is_same c.scene elem want then gives (Some (x.code ⨟ high_code c.scene x m)) else refuse c at wrong_argument None) tt
    (both_ways (λ r. StaysIfThere r.value) (is_same c.scene elem want) (gives (Some (x.code ⨟ high_code c.scene x m))) (refuse c at wrong_argument None)
    (then-stays x.code (high_code c.scene x m) g.0 (high_code-stays c.scene x m g.1)) tt)

array_argument-stays : (c : Context) (want : Place) (at : ℕ) (x : Coded) (m : RowMeaning) → Quiet x → StaysIfThere (array_argument c want at x m).value
array_argument-stays c want at x (Array i t s) g =
    both_ways (λ r. StaysIfThere r.value) (is_broken c.scene i) (gives None) (alike c want at x (Array i t s) t) tt (alike-stays c want at x (Array i t s) t g)
array_argument-stays c want at x (OpenArray t) g = alike-stays c want at x (OpenArray t) t g
array_argument-stays c want at x m g = tt

open_go : (c : Context) (want : Place) (at : ℕ) (x : Coded) (o : Operand) → Quiet x → StaysIfThere (open_argument c want at x o).value
open_go c want at x (StringConstant name l) g =
    both_ways (λ r. StaysIfThere r.value) (is_same c.scene want character) (gives (Some (text (characters c.source name) ⨟ plain (Push (pos (l - 1)) ∷ []))))
    (refuse c at wrong_argument None) (then-stays (text (characters c.source name)) (plain (Push (pos (l - 1)) ∷ [])) (text-stays (characters c.source name)) (plain-stays (Push (pos (l - 1)) ∷ []) refl)) tt
open_go c want at x (Variable u) g = array_argument-stays c want at x (kind_of c.scene u) g
open_go c want at x o g = tt

by_value-stays : (c : Context) (t : Place) (at : ℕ) (x : Coded) → Quiet x → StaysIfThere (by_value c t at x).value
by_value-stays c t at x g =
    let v : Coded = (assigned_to c t at not_assignable x).value in argument_go c t v v.operand (assigned-quiet c t at not_assignable x g)

mode-stays : (c : Context) (p : Parameter) (at : ℕ) (x : Coded) → Quiet x → StaysIfThere (by_mode c p at x).value
mode-stays c p at x g =
    both_ways (λ r. StaysIfThere r.value) (is_open_array c.scene p.typ) (open_argument c (open_element (kind_of c.scene p.typ)) at x x.operand)
    (if p.by_ref then by_address c p.typ at x else by_value c p.typ at x) (open_go c (open_element (kind_of c.scene p.typ)) at x x.operand g)
    (both_ways (λ r. StaysIfThere r.value) p.by_ref (by_address c p.typ at x) (by_value c p.typ at x) (address_go c p.typ at x.code x.operand g.0)
    (by_value-stays c p.typ at x g))

checked-stays : (c : Context) (p : Parameter) (at : ℕ) (x : Coded) → Quiet x → StaysIfThere (checked_mode c p at x).value
checked-stays c p at x g =
    both_ways (λ r. StaysIfThere r.value) (is_bad x.operand || is_in_error c.scene p.typ) (gives None)
    (if p.by_ref && not (is_variable x.operand) then refuse c at not_a_variable None else by_mode c p at x) tt
    (both_ways (λ r. StaysIfThere r.value) (p.by_ref && not (is_variable x.operand)) (refuse c at not_a_variable None) (by_mode c p at x) tt
    (mode-stays c p at x g))

argument-stays : (c : Context) (p : Parameter) (at : ℕ) (x : Coded) → Quiet x → StaysIfThere (argument c p at x).value
argument-stays c p at x g =
    both_ways (λ r. StaysIfThere r.value) p.by_ref (checked_mode c p at x) (and_then (as_value c at x) (checked_mode c p at)) (checked-stays c p at x g)
    (checked-stays c p at (as_value c at x).value (as_value-quiet c at x g))

after-stays : (a b : Option Part) → StaysIfThere a → StaysIfThere b → StaysIfThere (after_argument a b)
after-stays (Some a) (Some b) f g = then-stays a b f g
after-stays (Some a) None f g = tt
after-stays None b f g = tt

abbrev QuietCall : Scene → Called → Type 0
QuietCall scene (standard_call f) = Unit {0}
QuietCall scene (procedure_call ps before i result more) = Stays before × IsCall i (cells_of_all scene ps + more) (result_cells result)
QuietCall scene (lacking_call ps) = Unit {0}
QuietCall scene no_call = Unit {0}

allowed-quiet : (c : Context) (at : ℕ) (wanted found count : Bool) (what : Called) → QuietCall c.scene what → QuietCall c.scene (allowed c at wanted found count what).value
allowed-quiet c at wanted found count what g =
    both_ways (λ r. QuietCall c.scene r.value) (not (is_same_truth wanted found)) (refuse c at not_a_procedure no_call)
    (if not count then refuse c at wrong_count no_call else gives what) tt
    (both_ways (λ r. QuietCall c.scene r.value) (not count) (refuse c at wrong_count no_call) (gives what) tt g)

by_type-quiet : (c : Context) (at : ℕ) (wanted : Bool) (count : ℕ) (t : Place) (what : Called) → QuietCall c.scene what → QuietCall c.scene (allowed_by_type c at wanted count t what).value
by_type-quiet c at wanted count t what g = allowed-quiet c at wanted (is_some (result_of_type c.scene t)) (count == length (parameters c.scene t)) what g

target-quiet : (scene : Scene) (t : Place) (p : Option Target) → QuietCall scene (of_target scene t p)
target-quiet scene t None = tt
target-quiet scene t (Some p) = (
  none-stays,
  both_ways (λ i. IsCall i (cells_of_all scene (parameters scene t) + 0) (result_cells (result_of_type scene t))) (is_foreign scene.block p)
      (CallX (import_of_target scene.block p) p.number) (Call p.number (links_to scene.block p.typ.scope)) (refl, λ e. absurd cc) (refl, λ e. absurd cc),
)

called_go : (c : Context) (wanted : Bool) (at count : ℕ) (code : Part) (o : Operand) → Stays code → QuietCall c.scene (called_by c wanted at count code o).value
called_go c wanted at count code (StandardProcedure k) g =
    allowed-quiet c at wanted (is_function (builtin_of k)) (takes_count (builtin_of k) count) (standard_call (builtin_of k)) tt
called_go c wanted at count code (Procedure name t k s) g =
    by_type-quiet c at wanted count t (of_target c.scene t (target_of_procedure c.scene name t k)) (target-quiet c.scene t (target_of_procedure c.scene name t k))
called_go c wanted at count code (Variable t) g =
    both_ways (λ r. QuietCall c.scene r.value) (is_procedure_type c.scene t) (allowed_by_type c at wanted count t (of_variable c.scene t code)) (refuse c at not_a_procedure no_call)
    (by_type-quiet c at wanted count t (of_variable c.scene t code) (then-stays code (plain (Load ∷ [])) g (plain-stays (Load ∷ []) refl), (refl, λ e. refl))) tt
called_go c wanted at count code (ModuleName s) g = tt
called_go c wanted at count code InError g = tt
called_go c wanted at count code o g = tt

called-quiet : (c : Context) (wanted : Bool) (at count : ℕ) (x : Coded) → Quiet x → QuietCall c.scene (called c wanted at count x).value
called-quiet c wanted at count x g = called_go c wanted at count x.code x.operand g.0

code-stays : (before args : Part) (i : Instr) (takes leaves : ℕ) → Stays before → IsCall i takes leaves → Stays args → Stays (before ⨟ args ⨟ call i takes leaves)
code-stays before args i takes leaves f e g =
    then-stays before (args ⨟ call i takes leaves) f (then-stays args (call i takes leaves) g (call-stays i takes leaves e))

call_go : (scene : Scene) (ps : List Parameter) (before : Part) (i : Instr) (result : Option Place) (more : ℕ) (args : Option Part) → Stays before → IsCall i (cells_of_all scene ps + more) (result_cells result)
    → StaysIfThere args → Quiet (call_coded scene ps before i result more args)
call_go scene ps before i result more None f e g = error-quiet
call_go scene ps before i None more (Some args) f e g =
    coded-quiet no_value (call_code scene ps before i None more args) (code-stays before args i (cells_of_all scene ps + more) 0 f e g)
call_go scene ps before i (Some t) more (Some args) f e g =
    both_ways Quiet (is_broken scene t) in_error (coded (Computed t) (call_code scene ps before i (Some t) more args)) error-quiet
    (coded-quiet (Computed t) (call_code scene ps before i (Some t) more args) (code-stays before args i (cells_of_all scene ps + more) 1 f e g))

by_called-quiet : (c : Context) (what : Called) (standard : Builtin → Gives Coded) (passed : List Parameter → Gives (Option Part)) (looked : Gives Coded) → QuietCall c.scene what
    → ((f : Builtin) → Quiet (standard f).value) → ((ps : List Parameter) → StaysIfThere (passed ps).value) → Quiet looked.value → Quiet (by_called c what standard passed looked).value
by_called-quiet c (standard_call f) standard passed looked g s p e = s f
by_called-quiet c (procedure_call ps before i result more) standard passed looked g s p e = call_go c.scene ps before i result more (passed ps).value g.0 g.1 (p ps)
by_called-quiet c (lacking_call ps) standard passed looked g s p e = error-quiet
by_called-quiet c no_call standard passed looked g s p e = e

-- ---- the induction

mutual
  pub expression-quiet : (c : Context) (withs : List Place) (e : Expr) → Quiet (expression c withs e).value
  expression-quiet c withs (expr at form) = form-quiet c withs form

  pub form-quiet : (c : Context) (withs : List Place) (f : ExprForm) → Quiet (form_coded c withs f).value
  form-quiet c withs (number_form n) = bare-quiet (form_coded c withs (number_form n)).value.operand
  form-quiet c withs (char_form n) = bare-quiet (form_coded c withs (char_form n)).value.operand
  form-quiet c withs (string_form n) = bare-quiet (form_coded c withs (string_form n)).value.operand
  form-quiet c withs (set_form items) =
      let es : Elements = (elements c withs (set_base c bitset) (no_elements_yet c bitset) items).value in
      set_go bitset es.code es.set (elements-stay c withs (set_base c bitset) (no_elements_yet c bitset) items none-stays)
  form-quiet c withs (typed_set_form d items) =
      let t : Place = (set_type_of c (designator_at d) (designated c withs d).value.operand).value in
      let es : Elements = (elements c withs (set_base c t) (no_elements_yet c t) items).value in
      set_go t es.code es.set (elements-stay c withs (set_base c t) (no_elements_yet c t) items none-stays)
  form-quiet c withs (name_form d) = designated-quiet c withs d
  form-quiet c withs (call_form d args) =
      by_called-quiet c (called c true (designator_at d) (count_of_exprs args) (designated c withs d).value).value
      (λ f. standard c withs f args) (λ ps. passed c withs ps args) (looked_at c withs args)
      (called-quiet c true (designator_at d) (count_of_exprs args) (designated c withs d).value (designated-quiet c withs d))
      (λ f. standard-quiet c withs f args) (λ ps. passed-stays c withs ps args) (looked-quiet c withs args)
  form-quiet c withs (one_form op op_at e) =
      one_coded-quiet c op op_at (as_value c (expr_at e) (expression c withs e).value).value
      (as_value-quiet c (expr_at e) (expression c withs e).value (expression-quiet c withs e))
  form-quiet c withs (many_form e rest) =
      continued-quiet c withs (expr_at e) (as_value c (expr_at e) (expression c withs e).value).value rest
      (as_value-quiet c (expr_at e) (expression c withs e).value (expression-quiet c withs e))

  pub continued-quiet : (c : Context) (withs : List Place) (x_at : ℕ) (x : Coded) (ns : Nexts) → Quiet x → Quiet (continued c withs x_at x ns).value
  continued-quiet c withs x_at x no_nexts g = g
  continued-quiet c withs x_at x (more_nexts n ns) g = continued-quiet c withs x_at (followed c withs x_at x n).value ns (followed-quiet c withs x_at x n g)

  pub followed-quiet : (c : Context) (withs : List Place) (x_at : ℕ) (x : Coded) (n : Next) → Quiet x → Quiet (followed c withs x_at x n).value
  followed-quiet c withs x_at x (next op op_at e) g =
      two_coded-quiet c op op_at x_at x (expr_at e) (as_value c (expr_at e) (expression c withs e).value).value g
      (as_value-quiet c (expr_at e) (expression c withs e).value (expression-quiet c withs e))

  pub elements-stay : (c : Context) (withs : List Place) (base : Place) (es : Elements) (ls : Labels) → Stays es.code → Stays (elements c withs base es ls).value.code
  elements-stay c withs base es no_labels f = f
  elements-stay c withs base es (more_labels l ls) f = elements-stay c withs base (element c withs base es l).value ls (label-stays c withs base es l f)

  pub label-stays : (c : Context) (withs : List Place) (base : Place) (es : Elements) (l : Label) → Stays es.code → Stays (element c withs base es l).value.code
  label-stays c withs base es (one_label e) f =
      let v : Coded = (as_value c (expr_at e) (expression c withs e).value).value in
      add_element-stays c es (element_coded c base (expr_at e) v).value f
      (element-quiet c base (expr_at e) v (as_value-quiet c (expr_at e) (expression c withs e).value (expression-quiet c withs e)))
  label-stays c withs base es (range_label low high) f =
      let v : Coded = (as_value c (expr_at low) (expression c withs low).value).value in
      let w : Coded = (as_value c (expr_at high) (expression c withs high).value).value in
      add_range-stays c es (element_coded c base (expr_at low) v).value (element_coded c base (expr_at high) w).value f
      (element-quiet c base (expr_at low) v (as_value-quiet c (expr_at low) (expression c withs low).value (expression-quiet c withs low)))
      (element-quiet c base (expr_at high) w (as_value-quiet c (expr_at high) (expression c withs high).value (expression-quiet c withs high)))

  pub passed-stays : (c : Context) (withs : List Place) (ps : List Parameter) (es : Exprs) → StaysIfThere (passed c withs ps es).value
  passed-stays c withs [] no_exprs = none-stays
  passed-stays c withs (p ∷ ps) no_exprs = tt
  passed-stays c withs [] (more_exprs e es) = tt
  passed-stays c withs (p ∷ ps) (more_exprs e es) =
      after-stays (argument c p (expr_at e) (expression c withs e).value).value (passed c withs ps es).value
      (argument-stays c p (expr_at e) (expression c withs e).value (expression-quiet c withs e)) (passed-stays c withs ps es)

  pub looked-quiet : (c : Context) (withs : List Place) (es : Exprs) → Quiet (looked_at c withs es).value
  looked-quiet c withs no_exprs = error-quiet
  looked-quiet c withs (more_exprs e es) = looked-quiet c withs es

  pub standard-quiet : (c : Context) (withs : List Place) (f : Builtin) (es : Exprs) → Quiet (standard c withs f es).value
  standard-quiet c withs f no_exprs = no_argument-quiet f
  standard-quiet c withs f (more_exprs a no_exprs) = one_argument-quiet c f (expr_at a) (expression c withs a).value (expression-quiet c withs a)
  standard-quiet c withs f (more_exprs a (more_exprs b others)) =
      two_arguments-quiet c f (expr_at a) (first_of_two c f (expr_at a) (expression c withs a).value).value (expr_at b) (expression c withs b).value
      (first-quiet c f (expr_at a) (expression c withs a).value (expression-quiet c withs a)) (expression-quiet c withs b)

  pub designated-quiet : (c : Context) (withs : List Place) (d : Designator) → Quiet (designated c withs d).value
  designated-quiet c withs (designator i rest) = selected-quiet c withs i.at (name_coded c withs i).value rest (name-quiet c withs i)

  pub selected-quiet : (c : Context) (withs : List Place) (first : ℕ) (x : Coded) (ss : Selectors) → Quiet x → Quiet (selected c withs first x ss).value
  selected-quiet c withs first x no_selectors g = g
  selected-quiet c withs first x (more_selectors s ss) g = selected-quiet c withs first (selector c withs first x s).value ss (selector-quiet c withs first x s g)

  pub selector-quiet : (c : Context) (withs : List Place) (first : ℕ) (x : Coded) (s : Selector) → Quiet x → Quiet (selector c withs first x s).value
  selector-quiet c withs first x (field_selector i at) g = field_go c first at i x.code x.operand g.0
  selector-quiet c withs first x (index_selector es at) g = indexed-quiet c withs first at x es g
  selector-quiet c withs first x (deref_selector at) g = target_go c first at x.code x.operand g.0

  pub indexed-quiet : (c : Context) (withs : List Place) (first at : ℕ) (x : Coded) (es : Exprs) → Quiet x → Quiet (indexed c withs first at x es).value
  indexed-quiet c withs first at x no_exprs g = g
  indexed-quiet c withs first at x (more_exprs e es) g =
      let v : Coded = (as_value c (expr_at e) (expression c withs e).value).value in
      indexed-quiet c withs first at (select_element c first at (expr_at e) v x).value es
      (select_go c first at (expr_at e) v x x.operand g (as_value-quiet c (expr_at e) (expression c withs e).value (expression-quiet c withs e)))

-- where a value is wanted
pub value-quiet : (c : Context) (withs : List Place) (e : Expr) → Quiet (value c withs e).value
value-quiet c withs e = as_value-quiet c (expr_at e) (expression c withs e).value (expression-quiet c withs e)

-- a call as a statement
pub call_alone-quiet : (c : Context) (withs : List Place) (d : Designator) (args : Exprs) → Quiet (call_alone c withs d args).value
call_alone-quiet c withs d args =
    by_called-quiet c (called c false (designator_at d) (count_of_exprs args) (designated c withs d).value).value
    (λ f. standard c withs f args) (λ ps. passed c withs ps args) (looked_at c withs args)
    (called-quiet c false (designator_at d) (count_of_exprs args) (designated c withs d).value (designated-quiet c withs d))
    (λ f. standard-quiet c withs f args) (λ ps. passed-stays c withs ps args) (looked-quiet c withs args)
