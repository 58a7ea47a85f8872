-- The heights of calls as statements: they leave nothing.
use Rattle.std.specs.Prelude.{◌≡◌, refl, ℕ, ◌+◌, Bool, true, false, ◌||◌, if◌then◌else◌, List, [], ◌∷◌, Option, Some, None, pos, is_some}
use Rattle.std.proofs.Common.{zero-add}
use Rattle.m2_base.specs.declared.builtins.Builtin.TheVariants.{Dec, Dispose, Excl, Halt, Inc, Incl, New, Val}
use Rattle.code_form.specs.declared.instr.Instr.TheVariants.{Push, Load, Store, Dup, Check, Add, Sub, Bit, Union, Diff, New as Room, Halt as Stop}
use Rattle.block_code.proofs.Moves.{Moves-then, Moves-raise, plain-moves, call-moves}
use Rattle.block_code.proofs.ValueHeights.{with_operand, GoodAs, Good, Valued, as_value-good, value-moves, both_ways, taken_go}
use Rattle.block_code.proofs.Functions.{fitted-moves, range_go}
use Rattle.block_code.proofs.Passing.{Moves-at, Passes, GoodCall, called-good, unless_true}
use Rattle.block_code.proofs.Law.{expression-good, passed-good, designated-good}
use Rattle.code_form.specs.Valid.{jump_of}
use Rattle.code_form.specs.declared.instr.Instr.{Instr}
use Rattle.block_code.specs.Calls.{Called, call_coded, called, cells_of_all, lacking_call, no_call, procedure_call, standard_call}
use Rattle.block_code.specs.Coded.{Coded, coded, in_error, taken, value_code}
use Rattle.block_code.specs.Expressions.{by_called, call_alone, count_of_exprs, designated, expression, looked_at, passed, standard}
use Rattle.block_code.specs.Fitting.{check_of, fitted_code, reaches_beyond}
use Rattle.block_code.specs.Heights.{Moves}
use Rattle.block_code.specs.Operators.{side_of}
use Rattle.block_code.specs.Parts.{Part, call, plain, ◌⨟◌}
use Rattle.block_code.specs.StandardFunctions.{as_variable}
use Rattle.block_code.specs.StandardProcedures.{counting_range, disposed, element_of_base, first_of_two, included, is_function, is_pointer_type, is_step, member_instrs, new_room, no_value, number_of_type, of_no_argument, of_one_argument, of_two_arguments, one, ordinal_variable, pointer_variable, set_member, set_variable, step_instrs, step_number, step_type, stepped, update}
use Rattle.block_code.specs.Values.{as_value, in_range}
use Rattle.m2_base.specs.Gives.{Gives, gives}
use Rattle.m2_base.specs.Statics.Assignable.{taken_into}
use Rattle.m2_base.specs.Statics.Compatible.{is_compatible}
use Rattle.m2_base.specs.Statics.Contexts.{Context, Scene, refuse}
use Rattle.m2_base.specs.Statics.Diagnostics.{wrong_argument}
use Rattle.m2_base.specs.Statics.Operands.{is_bad, operand_type}
use Rattle.m2_base.specs.Statics.Operations.{is_set_kind}
use Rattle.m2_base.specs.Statics.Ranges.{Range}
use Rattle.m2_base.specs.Statics.Sets.{set_base}
use Rattle.m2_base.specs.Statics.TypeParts.{Parameter, target_of}
use Rattle.m2_base.specs.Statics.Types.{is_broken, kind_of, range_of, size_of}
use Rattle.m2_base.specs.Trees.{Designator, Exprs, designator_at, expr_at, more_exprs, no_exprs}
use Rattle.m2_base.specs.declared.builtins.Builtin.{Builtin}
use Rattle.m2_base.specs.declared.operands.Operand.{Operand}
use Rattle.m2_base.specs.declared.operands.Operand.TheVariants.{Computed, InError, NotConstant, Variable}
use Rattle.m2_base.specs.declared.rows.Place.{Place}

-- a call as a statement leaves the height as it was
abbrev pub Proper : Coded → Type 0
Proper x = is_bad x.operand ≡ false → Moves 0 x.code 0

-- a variable: it is in error, or its code is its address
abbrev pub Addressed : Coded → Type 0
Addressed x = is_bad x.operand ≡ false → Moves 0 x.code 1

variable_go : (c : Context) (at : ℕ) (o : Operand) (code high : Part) → GoodAs c.scene code high o → Addressed (as_variable c at (with_operand o code high)).value
variable_go c at (Variable t) code high g = λ b. g.0
variable_go c at NotConstant code high g = absurd g
variable_go c at InError code high g = λ b. absurd cc
variable_go c at o code high g = λ b. absurd cc

pub variable-addressed : (c : Context) (at : ℕ) (x : Coded) → Good c.scene x → Addressed (as_variable c at x).value
variable-addressed c at x g = variable_go c at x.operand x.code x.high g

pub error-addressed : Addressed in_error
error-addressed = λ b. absurd cc

update-moves : (x : Coded) (n : Part) (is : List Instr) → Moves 0 x.code 1 → Moves 0 n 1 → Moves 3 (plain is) 2 → Proper (update x n is)
update-moves x n is f g h = λ b.
    Moves-then x.code (plain (Dup ∷ Load ∷ []) ⨟ n ⨟ plain is ⨟ plain (Store ∷ [])) 0 1 0 f
    (Moves-then (plain (Dup ∷ Load ∷ [])) (n ⨟ plain is ⨟ plain (Store ∷ [])) 1 2 0 (plain-moves (Dup ∷ Load ∷ []) 1 2 refl)
    (Moves-then n (plain is ⨟ plain (Store ∷ [])) 2 3 0 (Moves-raise n 0 1 2 g)
    (Moves-then (plain is) (plain (Store ∷ [])) 3 2 0 h (plain-moves (Store ∷ []) 2 0 refl))))

checked_add : (b : ℕ) (from to : Option Range) → Moves 3 (plain (Add b ∷ check_of from to)) 2
checked_add b from None = plain-moves (Add b ∷ []) 3 2 refl
checked_add b from (Some r) =
    both_ways (λ is. Moves 3 (plain (Add b ∷ is)) 2) (reaches_beyond from r) (Check r.low r.high ∷ []) []
    (plain-moves (Add b ∷ Check r.low r.high ∷ []) 3 2 refl) (plain-moves (Add b ∷ []) 3 2 refl)

checked_sub : (b : ℕ) (from to : Option Range) → Moves 3 (plain (Sub b ∷ check_of from to)) 2
checked_sub b from None = plain-moves (Sub b ∷ []) 3 2 refl
checked_sub b from (Some r) =
    both_ways (λ is. Moves 3 (plain (Sub b ∷ is)) 2) (reaches_beyond from r) (Check r.low r.high ∷ []) []
    (plain-moves (Sub b ∷ Check r.low r.high ∷ []) 3 2 refl) (plain-moves (Sub b ∷ []) 3 2 refl)

-- neither is in error, or the whole is
either_way : {A : Type 0} (P : A → Type 0) (s t : Bool) (a b : A) → P a → (s ≡ false → t ≡ false → P b) → P (if s || t then a else b)
either_way P true t a b p q = p
either_way P false true a b p q = p
either_way P false false a b p q = q refl refl

inc-proper : (c : Context) (x n : Coded) → Addressed x → Valued c.scene n → Proper (stepped c Inc x n)
inc-proper c x n f v =
    either_way Proper (is_bad x.operand) (is_bad n.operand) in_error (update x (value_code c n) (step_instrs c.scene Inc (operand_type x.operand))) (λ b. absurd cc) (λ a b.
    update-moves x (value_code c n) (Add (side_of c.scene (operand_type x.operand)) ∷ check_of (Some (counting_range (side_of c.scene (operand_type x.operand)))) (range_of c.scene (operand_type x.operand)))
    (f a) (value-moves c n v b) (checked_add (side_of c.scene (operand_type x.operand)) (Some (counting_range (side_of c.scene (operand_type x.operand)))) (range_of c.scene (operand_type x.operand))))

dec-proper : (c : Context) (x n : Coded) → Addressed x → Valued c.scene n → Proper (stepped c Dec x n)
dec-proper c x n f v =
    either_way Proper (is_bad x.operand) (is_bad n.operand) in_error (update x (value_code c n) (step_instrs c.scene Dec (operand_type x.operand))) (λ b. absurd cc) (λ a b.
    update-moves x (value_code c n) (Sub (side_of c.scene (operand_type x.operand)) ∷ check_of (Some (counting_range (side_of c.scene (operand_type x.operand)))) (range_of c.scene (operand_type x.operand)))
    (f a) (value-moves c n v b) (checked_sub (side_of c.scene (operand_type x.operand)) (Some (counting_range (side_of c.scene (operand_type x.operand)))) (range_of c.scene (operand_type x.operand))))

incl-proper : (c : Context) (x e : Coded) → Addressed x → Valued c.scene e → Proper (included c Incl x e)
incl-proper c x e f v =
    either_way Proper (is_bad x.operand) (is_bad e.operand) in_error (update x (fitted_code c (set_base c (operand_type x.operand)) e) (member_instrs Incl)) (λ b. absurd cc) (λ a b.
    update-moves x (fitted_code c (set_base c (operand_type x.operand)) e) (Bit ∷ Union ∷ [])
    (f a) (fitted-moves c (set_base c (operand_type x.operand)) e v b) (plain-moves (Bit ∷ Union ∷ []) 3 2 refl))

excl-proper : (c : Context) (x e : Coded) → Addressed x → Valued c.scene e → Proper (included c Excl x e)
excl-proper c x e f v =
    either_way Proper (is_bad x.operand) (is_bad e.operand) in_error (update x (fitted_code c (set_base c (operand_type x.operand)) e) (member_instrs Excl)) (λ b. absurd cc) (λ a b.
    update-moves x (fitted_code c (set_base c (operand_type x.operand)) e) (Bit ∷ Diff ∷ [])
    (f a) (fitted-moves c (set_base c (operand_type x.operand)) e v b) (plain-moves (Bit ∷ Diff ∷ []) 3 2 refl))

kept-addressed : (c : Context) (at : ℕ) (x : Coded) (t : Bool) → Addressed x → Addressed (if t then gives x else refuse c at wrong_argument in_error).value
kept-addressed c at x t f = both_ways (λ r. Addressed r.value) t (gives x) (refuse c at wrong_argument in_error) f error-addressed

ordinal-addressed : (c : Context) (at : ℕ) (x : Coded) → Good c.scene x → Addressed (ordinal_variable c at x).value
ordinal-addressed c at x g =
    let v : Coded = (as_variable c at x).value in
    kept-addressed c at v (is_bad v.operand || is_some (range_of c.scene (operand_type v.operand))) (variable-addressed c at x g)

set-addressed : (c : Context) (at : ℕ) (x : Coded) → Good c.scene x → Addressed (set_variable c at x).value
set-addressed c at x g =
    let v : Coded = (as_variable c at x).value in
    kept-addressed c at v (is_bad v.operand || is_set_kind (kind_of c.scene (operand_type v.operand))) (variable-addressed c at x g)

pointer-addressed : (c : Context) (at : ℕ) (x : Coded) → Good c.scene x → Addressed (pointer_variable c at x).value
pointer-addressed c at x g =
    let v : Coded = (as_variable c at x).value in
    kept-addressed c at v (is_bad v.operand || is_pointer_type (kind_of c.scene (operand_type v.operand))) (variable-addressed c at x g)

step-valued : (c : Context) (x : Coded) (at : ℕ) (n : Coded) → Good c.scene n → Valued c.scene (step_number c x at n).value
step-valued c x at n g =
    let v : Coded = (as_value c at n).value in
    let w : Place = step_type c.scene (operand_type x.operand) in
    both_ways (λ r. Valued c.scene r.value) (is_bad x.operand || is_bad v.operand) (gives in_error)
    (number_of_type c at w v) (refl, tt)
    (both_ways (λ r. Valued c.scene r.value) (is_step c.scene w v.operand) (in_range c at w v) (refuse c at wrong_argument in_error)
    (range_go c at (range_of c.scene w) v.operand v.code v.high (as_value-good c at n g)) (refl, tt))

member-valued : (c : Context) (x : Coded) (at : ℕ) (e : Coded) → Good c.scene e → Valued c.scene (set_member c x at e).value
member-valued c x at e g =
    let v : Coded = (as_value c at e).value in
    let base : Place = set_base c (operand_type x.operand) in
    both_ways P (is_bad x.operand || is_bad v.operand) (gives in_error) (element_of_base c at base v) (refl, tt)
    (both_ways P (is_broken c.scene base) (gives in_error)
    (if is_compatible c.scene v.operand (Computed base)
    then in_range c at base (taken (taken_into c.source c.scene base v.operand) v)
    else refuse c at wrong_argument in_error) (refl, tt)
    (both_ways P (is_compatible c.scene v.operand (Computed base))
    (in_range c at base (taken (taken_into c.source c.scene base v.operand) v)) (refuse c at wrong_argument in_error)
    (range_go c at (range_of c.scene base) (taken_into c.source c.scene base v.operand) v.code v.high
    (taken_go c v.operand (Computed base) v.code v.high (as_value-good c at e g))) (refl, tt)))
  where
    P : Gives Coded → Type 0
    P r = Valued c.scene r.value

new-proper : (c : Context) (x : Coded) → Addressed x → Proper (new_room c x)
new-proper c x f =
    either_way Proper (is_bad x.operand) (is_broken c.scene (target_of c.scene (operand_type x.operand))) in_error
    (coded no_value (x.code ⨟ plain (Room (size_of c.scene (target_of c.scene (operand_type x.operand))) ∷ []))) (λ b. absurd cc)
    (λ a b d. Moves-then x.code (plain (Room (size_of c.scene (target_of c.scene (operand_type x.operand))) ∷ [])) 0 1 0 (f a)
    (plain-moves (Room (size_of c.scene (target_of c.scene (operand_type x.operand))) ∷ []) 1 0 refl))

dispose-proper : (x : Coded) → Addressed x → Proper (disposed x)
dispose-proper x f =
    unless_true Proper (is_bad x.operand) in_error (coded no_value (x.code ⨟ plain (Push (pos 0) ∷ Store ∷ []))) (λ b. absurd cc)
    (λ a b. Moves-then x.code (plain (Push (pos 0) ∷ Store ∷ [])) 0 1 0 (f a) (plain-moves (Push (pos 0) ∷ Store ∷ []) 1 0 refl))

none-proper : (f : Builtin) → is_function f ≡ false → Proper (of_no_argument f)
none-proper Halt e = λ b. plain-moves (Stop ∷ []) 0 0 refl
none-proper f e = λ b. absurd cc

one-proper : (c : Context) (f : Builtin) (at : ℕ) (x : Coded) → is_function f ≡ false → Good c.scene x → Proper (of_one_argument c f at x).value
one-proper c Inc at x e g = inc-proper c (ordinal_variable c at x).value one (ordinal-addressed c at x g) (tt, tt)
one-proper c Dec at x e g = dec-proper c (ordinal_variable c at x).value one (ordinal-addressed c at x g) (tt, tt)
one-proper c New at x e g = new-proper c (pointer_variable c at x).value (pointer-addressed c at x g)
one-proper c Dispose at x e g = dispose-proper (pointer_variable c at x).value (pointer-addressed c at x g)
one-proper c Incl at x e g = λ b. absurd cc
one-proper c Excl at x e g = λ b. absurd cc
one-proper c Halt at x e g = λ b. absurd cc
one-proper c f at x e g = absurd cc

two-proper : (c : Context) (f : Builtin) (x_at : ℕ) (x : Coded) (at : ℕ) (y : Coded) → is_function f ≡ false → Good c.scene x → Good c.scene y
    → Proper (of_two_arguments c f x_at (first_of_two c f x_at x).value at y).value
two-proper c Inc x_at x at y e g h =
    inc-proper c (ordinal_variable c x_at x).value (step_number c (ordinal_variable c x_at x).value at y).value (ordinal-addressed c x_at x g)
    (step-valued c (ordinal_variable c x_at x).value at y h)
two-proper c Dec x_at x at y e g h =
    dec-proper c (ordinal_variable c x_at x).value (step_number c (ordinal_variable c x_at x).value at y).value (ordinal-addressed c x_at x g)
    (step-valued c (ordinal_variable c x_at x).value at y h)
two-proper c Incl x_at x at y e g h =
    incl-proper c (set_variable c x_at x).value (set_member c (set_variable c x_at x).value at y).value (set-addressed c x_at x g)
    (member-valued c (set_variable c x_at x).value at y h)
two-proper c Excl x_at x at y e g h =
    excl-proper c (set_variable c x_at x).value (set_member c (set_variable c x_at x).value at y).value (set-addressed c x_at x g)
    (member-valued c (set_variable c x_at x).value at y h)
two-proper c Val x_at x at y e g h = absurd cc
two-proper c f x_at x at y e g h = λ b. absurd cc

standard-proper : (c : Context) (withs : List Place) (f : Builtin) (es : Exprs) → is_function f ≡ false → Proper (standard c withs f es).value
standard-proper c withs f no_exprs e = none-proper f e
standard-proper c withs f (more_exprs a no_exprs) e = one-proper c f (expr_at a) (expression c withs a).value e (expression-good c withs a)
standard-proper c withs f (more_exprs a (more_exprs b others)) e =
    two-proper c f (expr_at a) (expression c withs a).value (expr_at b) (expression c withs b).value e (expression-good c withs a) (expression-good c withs b)

call-proper : (scene : Scene) (ps : List Parameter) (before : Part) (i : Instr) (result : Option Place) (more : ℕ) (args : Option Part)
    → is_some result ≡ false → Moves 0 before more → jump_of i ≡ None → Passes (cells_of_all scene ps) args → Proper (call_coded scene ps before i result more args)
call-proper scene ps before i result more None e g j p = λ b. absurd cc
call-proper scene ps before i (Some t) more (Some args) e g j p = absurd cc
call-proper scene ps before i None more (Some args) e g j p = λ b.
    Moves-then before (args ⨟ call i (cells_of_all scene ps + more) 0) 0 more 0 g
    (Moves-then args (call i (cells_of_all scene ps + more) 0) more (cells_of_all scene ps + more) 0
    (Moves-at args (0 + more) more (cells_of_all scene ps + more) (cells_of_all scene ps + more) (zero-add more) refl
    (Moves-raise args 0 (cells_of_all scene ps) more p))
    (call-moves i (cells_of_all scene ps + more) 0 j))

looked-proper : (c : Context) (withs : List Place) (es : Exprs) → Proper (looked_at c withs es).value
looked-proper c withs no_exprs = λ b. absurd cc
looked-proper c withs (more_exprs e es) = looked-proper c withs es

by_called-proper : (c : Context) (withs : List Place) (args : Exprs) (call : Called) → GoodCall false call
    → Proper (by_called c call (λ f. standard c withs f args) (λ ps. passed c withs ps args) (looked_at c withs args)).value
by_called-proper c withs args (standard_call f) g = standard-proper c withs f args g
by_called-proper c withs args (procedure_call ps before i result more) g =
    call-proper c.scene ps before i result more (passed c withs ps args).value g.0 g.1 g.2 (passed-good c withs ps args)
by_called-proper c withs args (lacking_call ps) g = λ b. absurd cc
by_called-proper c withs args no_call g = looked-proper c withs args

-- a call as a statement
pub call_alone-proper : (c : Context) (withs : List Place) (d : Designator) (args : Exprs) → Proper (call_alone c withs d args).value
call_alone-proper c withs d args =
    by_called-proper c withs args (called c false (designator_at d) (count_of_exprs args) (designated c withs d).value).value
    (called-good c false (designator_at d) (count_of_exprs args) (designated c withs d).value (designated-good c withs d))
