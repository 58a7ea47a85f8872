-- The heights of fitted values, of standard functions and of assigned values, by those of their operands.
use Rattle.std.specs.Prelude.{◌≡◌, refl, ℕ, true, false, if◌then◌else◌, ℤ, pos, List, [], ◌∷◌, Option, Some, None}
use Rattle.m2_base.specs.declared.rows.RowMeaning.TheVariants.{Array, OpenArray}
use Rattle.m2_base.specs.declared.builtins.Builtin.TheVariants.{Abs, Cap, Chr, Dec, Dispose, Excl, Halt, High, Inc, Incl, Max, Min, New, Odd, Ord, Size, Val}
use Rattle.code_form.specs.declared.instr.Instr.TheVariants.{Push, Check, Eq, Mod as Remainder, Abs as Magnitude, Cap as Capital}
use Rattle.block_code.proofs.Moves.{Moves-then, Moves-none, plain-moves}
use Rattle.block_code.proofs.ValueHeights.{with_operand, GoodAs, Good, Valued, as_value-good, value-moves, made-good, both_ways, taken_go}
use Rattle.code_form.specs.declared.instr.Instr.{Instr}
use Rattle.block_code.specs.Coded.{Coded, bare, coded, in_error, taken, value_code}
use Rattle.block_code.specs.Fitting.{check_of, fit_check, fitted_code, reaches_beyond}
use Rattle.block_code.specs.Heights.{Moves}
use Rattle.block_code.specs.Operators.{made, side_of}
use Rattle.block_code.specs.Parts.{Part, none, plain, ◌⨟◌}
use Rattle.block_code.specs.StandardFunctions.{as_variable, function_of_one, high_code, high_of, high_of_range, high_of_variable, magnitude, named_type, on_value, value_of_type}
use Rattle.block_code.specs.StandardProcedures.{is_function, of_no_argument, of_one_argument, of_two_arguments}
use Rattle.block_code.specs.Values.{as_value, assigned_to, in_range, in_range_by, is_passed_over}
use Rattle.m2_base.specs.Gives.{Gives, gives}
use Rattle.m2_base.specs.Rows.{is_same_place}
use Rattle.m2_base.specs.Standard.{cardinal, character, integer}
use Rattle.m2_base.specs.Statics.Assignable.{is_assignable, taken_into}
use Rattle.m2_base.specs.Statics.Contexts.{Context, Scene, refuse}
use Rattle.m2_base.specs.Statics.Diagnostics.{out_of_range}
use Rattle.m2_base.specs.Statics.Functions.{abs_of, cap_of, chr_of, end_value, odd_of, ord_of, ordinal_type_argument, size_value, val_of}
use Rattle.m2_base.specs.Statics.Operands.{is_bad, operand_type}
use Rattle.m2_base.specs.Statics.Ranges.{Range, is_within}
use Rattle.m2_base.specs.Statics.Types.{base_of, is_broken, kind_of, range_of, size_of}
use Rattle.m2_base.specs.declared.builtins.Builtin.{Builtin}
use Rattle.m2_base.specs.declared.operands.Operand.{Operand}
use Rattle.m2_base.specs.declared.operands.Operand.TheVariants.{Computed, Constant, InError, NotConstant, Variable}
use Rattle.m2_base.specs.declared.rows.Place.{Place}
use Rattle.m2_base.specs.declared.rows.RowMeaning.{RowMeaning}

-- ---- fitted values

pub check_list : (from : Option Range) (to : Option Range) → Moves 1 (plain (check_of from to)) 1
check_list from None = plain-moves [] 1 1 refl
check_list from (Some r) =
    both_ways (λ is. Moves 1 (plain is) 1) (reaches_beyond from r) (Check r.low r.high ∷ []) []
    (plain-moves (Check r.low r.high ∷ []) 1 1 refl) (plain-moves [] 1 1 refl)

fit-moves : (scene : Scene) (from to : Place) → Moves 1 (fit_check scene from to) 1
fit-moves scene from to = check_list (range_of scene from) (range_of scene to)

fitted_go : (c : Context) (to : Place) (o : Operand) (code high : Part) → Valued c.scene (with_operand o code high) → is_bad o ≡ false
    → Moves 0 (fitted_code c to (with_operand o code high)) 1
fitted_go c to (Variable t) code high v b =
    Moves-then (value_code c (with_operand (Variable t) code high)) (fit_check c.scene t to) 0 1 1
    (value-moves c (with_operand (Variable t) code high) v refl) (fit-moves c.scene t to)
fitted_go c to (Computed t) code high v b =
    Moves-then (value_code c (with_operand (Computed t) code high)) (fit_check c.scene t to) 0 1 1
    (value-moves c (with_operand (Computed t) code high) v refl) (fit-moves c.scene t to)
fitted_go c to o code high v b =
    Moves-then (value_code c (with_operand o code high)) none 0 1 1 (value-moves c (with_operand o code high) v b) (Moves-none 1)

-- a fitted value is a value
pub fitted-moves : (c : Context) (to : Place) (x : Coded) → Valued c.scene x → is_bad x.operand ≡ false → Moves 0 (fitted_code c to x) 1
fitted-moves c to x v b = fitted_go c to x.operand x.code x.high v b

-- ---- functions

on_value_go : (c : Context) (rule : Operand → Gives Operand) (code_of : Coded → Part) (o : Operand) (code high : Part)
    → Valued c.scene (with_operand o code high)
    → ((p : Part) → Good c.scene (made (rule InError).value p))
    → ((v : Coded) → Valued c.scene v → is_bad v.operand ≡ false → Moves 0 (code_of v) 1)
    → Good c.scene (made (rule o).value (code_of (with_operand o code high)))
on_value_go c rule code_of InError code high v b m = b (code_of (with_operand InError code high))
on_value_go c rule code_of NotConstant code high v b m = absurd v.0
on_value_go c rule code_of o code high v b m =
    made-good c.scene (rule o).value (code_of (with_operand o code high)) (m (with_operand o code high) v refl)

on_value-good : (c : Context) (at : ℕ) (x : Coded) (rule : Operand → Gives Operand) (code_of : Coded → Part) → Good c.scene x
    → ((p : Part) → Good c.scene (made (rule InError).value p))
    → ((v : Coded) → Valued c.scene v → is_bad v.operand ≡ false → Moves 0 (code_of v) 1)
    → Good c.scene (on_value c at x rule code_of).value
on_value-good c at x rule code_of g b m =
    let v : Coded = (as_value c at x).value in
    on_value_go c rule code_of v.operand v.code v.high (as_value-good c at x g) b m

then-plain : (c : Context) (is : List Instr) (v : Coded) → Valued c.scene v → is_bad v.operand ≡ false → Moves 1 (plain is) 1
    → Moves 0 (value_code c v ⨟ plain is) 1
then-plain c is v w b m = Moves-then (value_code c v) (plain is) 0 1 1 (value-moves c v w b) m

magnitude-moves : (scene : Scene) (t : Place) → Moves 1 (plain (magnitude scene t)) 1
magnitude-moves scene t =
    both_ways (λ is. Moves 1 (plain is) 1) (is_same_place (base_of scene t) integer) (Magnitude ∷ []) [] (plain-moves (Magnitude ∷ []) 1 1 refl) (plain-moves [] 1 1 refl)

end-good : (c : Context) (t : Place) (end : Range → ℤ) (r : Option Range) → Good c.scene (bare (end_value c t end r))
end-good c t end None = refl
end-good c t end (Some r) = tt

variable_go : (c : Context) (at : ℕ) (o : Operand) (code high : Part) → GoodAs c.scene code high o
    → Good c.scene (as_variable c at (with_operand o code high)).value
variable_go c at (Variable t) code high g = g
variable_go c at NotConstant code high g = refl
variable_go c at o code high g = refl

pub as_variable-good : (c : Context) (at : ℕ) (x : Coded) → Good c.scene x → Good c.scene (as_variable c at x).value
as_variable-good c at x g = variable_go c at x.operand x.code x.high g

high_kind : (c : Context) (at : ℕ) (x : Coded) (m : RowMeaning) → Moves 0 x.high 1 → Good c.scene (high_of c at x m).value
high_kind c at x (Array i t s) h =
    both_ways (λ r. Good c.scene r.value) (is_broken c.scene i) (gives in_error)
    (gives (coded (Computed cardinal) (high_code c.scene x (Array i t s)))) refl
    (plain-moves (Push (high_of_range (range_of c.scene i)) ∷ []) 0 1 refl)
high_kind c at x (OpenArray t) h = h
high_kind c at x m h = refl

high_go : (c : Context) (at : ℕ) (o : Operand) (code high : Part) → GoodAs c.scene code high o
    → Good c.scene (high_of_variable c at (as_variable c at (with_operand o code high)).value).value
high_go c at (Variable t) code high g = high_kind c at (with_operand (Variable t) code high) (kind_of c.scene t) g.1
high_go c at NotConstant code high g = absurd g
high_go c at o code high g = refl

pub function-good : (c : Context) (f : Builtin) (at : ℕ) (x : Coded) → Good c.scene x → Good c.scene (function_of_one c f at x).value
function-good c Abs at x g =
    on_value-good c at x (abs_of c at) (λ v. value_code c v ⨟ plain (magnitude c.scene (operand_type v.operand))) g (λ p. refl)
    (λ v w b. then-plain c (magnitude c.scene (operand_type v.operand)) v w b (magnitude-moves c.scene (operand_type v.operand)))
function-good c Cap at x g =
    on_value-good c at x (cap_of c at) (λ v. value_code c v ⨟ plain (Capital ∷ [])) g (λ p. refl)
    (λ v w b. then-plain c (Capital ∷ []) v w b (plain-moves (Capital ∷ []) 1 1 refl))
function-good c Chr at x g =
    on_value-good c at x (chr_of c at) (λ v. fitted_code c character v) g (λ p. refl) (λ v w b. fitted-moves c character v w b)
function-good c Odd at x g =
    on_value-good c at x (odd_of c at)
    (λ v. value_code c v ⨟ plain (Push (pos 2) ∷ Remainder (side_of c.scene (operand_type v.operand)) ∷ Push (pos 1) ∷ Eq ∷ [])) g (λ p. refl)
    (λ v w b. then-plain c (Push (pos 2) ∷ Remainder (side_of c.scene (operand_type v.operand)) ∷ Push (pos 1) ∷ Eq ∷ []) v w b
    (plain-moves (Push (pos 2) ∷ Remainder (side_of c.scene (operand_type v.operand)) ∷ Push (pos 1) ∷ Eq ∷ []) 1 1 refl))
function-good c Ord at x g =
    on_value-good c at x (ord_of c at) (λ v. fitted_code c cardinal v) g (λ p. refl) (λ v w b. fitted-moves c cardinal v w b)
function-good c Min at x g =
    end-good c (ordinal_type_argument c at x.operand).value (λ r. r.low) (range_of c.scene (ordinal_type_argument c at x.operand).value)
function-good c Max at x g =
    end-good c (ordinal_type_argument c at x.operand).value (λ r. r.high) (range_of c.scene (ordinal_type_argument c at x.operand).value)
function-good c Size at x g =
    made-good c.scene (size_value c at x.operand).value (plain (Push (pos (size_of c.scene (operand_type x.operand))) ∷ []))
    (plain-moves (Push (pos (size_of c.scene (operand_type x.operand))) ∷ []) 0 1 refl)
function-good c High at x g = high_go c at x.operand x.code x.high g
function-good c f at x g = refl

val_broken : (c : Context) (t_at : ℕ) (t : Operand) (at : ℕ) (p : Part) → Good c.scene (made (val_of c t_at t at InError).value p)
val_broken c t_at t at p =
    both_ways (λ r. Good c.scene (made r.value p)) (is_broken c.scene (ordinal_type_argument c t_at t).value) (gives InError) (gives InError) refl refl

pub of_two-good : (c : Context) (t_at : ℕ) (t : Coded) (at : ℕ) (x : Coded) → Good c.scene x → Good c.scene (value_of_type c t_at t at x).value
of_two-good c t_at t at x g =
    on_value-good c at x (val_of c t_at t.operand at) (λ v. fitted_code c (named_type t.operand) v) g (val_broken c t_at t.operand at)
    (λ v w b. fitted-moves c (named_type t.operand) v w b)

-- the standard functions, by the number of their arguments
pub no_argument-good : (c : Context) (f : Builtin) → is_function f ≡ true → Good c.scene (of_no_argument f)
no_argument-good c Halt e = absurd cc
no_argument-good c f e = refl

pub one_argument-good : (c : Context) (f : Builtin) (at : ℕ) (x : Coded) → is_function f ≡ true → Good c.scene x
    → Good c.scene (of_one_argument c f at x).value
one_argument-good c Inc at x e g = absurd cc
one_argument-good c Dec at x e g = absurd cc
one_argument-good c New at x e g = absurd cc
one_argument-good c Dispose at x e g = absurd cc
one_argument-good c f at x e g = function-good c f at x g

pub two_arguments-good : (c : Context) (f : Builtin) (x_at : ℕ) (x : Coded) (at : ℕ) (y : Coded) → is_function f ≡ true → Good c.scene y
    → Good c.scene (of_two_arguments c f x_at x at y).value
two_arguments-good c Inc x_at x at y e g = absurd cc
two_arguments-good c Dec x_at x at y e g = absurd cc
two_arguments-good c Incl x_at x at y e g = absurd cc
two_arguments-good c Excl x_at x at y e g = absurd cc
two_arguments-good c Val x_at x at y e g = of_two-good c x_at x at y g
two_arguments-good c f x_at x at y e g = refl

-- ---- assigned values

pub range_go : (c : Context) (at : ℕ) (r : Option Range) (o : Operand) (code high : Part) → Valued c.scene (with_operand o code high)
    → Valued c.scene (in_range_by c at r (with_operand o code high) o).value
range_go c at r (Constant t v) code high w =
    both_ways (λ x. Valued c.scene x.value) (is_within r v)
    (gives (with_operand (Constant t v) code high)) (refuse c at out_of_range in_error) (tt, tt) (refl, tt)
range_go c at r o code high w = w

pub assigned-good : (c : Context) (to : Place) (at code : ℕ) (x : Coded) → Valued c.scene x → Valued c.scene (assigned_to c to at code x).value
assigned-good c to at code x v =
    both_ways P (is_passed_over c.scene to x.operand)
    (gives in_error)
    (if is_assignable c.scene to x.operand
    then in_range c at to (taken (taken_into c.source c.scene to x.operand) x)
    else refuse c at code in_error)
    (refl, tt)
    (both_ways P (is_assignable c.scene to x.operand)
    (in_range c at to (taken (taken_into c.source c.scene to x.operand) x)) (refuse c at code in_error)
    (range_go c at (range_of c.scene to) (taken_into c.source c.scene to x.operand) x.code x.high
    (taken_go c x.operand (Computed to) x.code x.high v))
    (refl, tt))
  where
    P : Gives Coded → Type 0
    P r = Valued c.scene r.value
