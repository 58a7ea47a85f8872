-- How long the code of standard functions and procedures is, by that of their arguments.
use Rattle.std.specs.Prelude.{◌≡◌, refl, ℕ, ◌+◌, ◌*◌, ◌≤◌, ◌||◌, nat_le, Bool, true, if◌then◌else◌, is_some, pos, List, [], ◌∷◌, Option, Some}
use Rattle.std.proofs.Common.{arith}
use Rattle.std.proofs.lemmas.Bool.{leb-true}
use Rattle.code_form.specs.declared.instr.Instr.{Instr}
use Rattle.code_form.specs.declared.instr.Instr.TheVariants.{Push, Load, Store, Dup, Add, Sub, Check, Union, Diff, Bit, Eq, New as Room, Halt as Stop, Mod as Remainder, Abs as Magnitude, Cap as Capital}
use Rattle.block_code.proofs.Lengths.{Spares, plain-short, short-then, spares-before, spares-behind, spares-less, spares-short, spares-then}
use Rattle.block_code.proofs.ValueHeights.{both_ways}
use Rattle.block_code.proofs.ValueLengths.{Roomy, Sized, as_value-roomy, bare-roomy, check_behind-short, coded-sized, error-roomy, fitted-spares, in_range-roomy, made-sized, sized-less, taken-roomy, value-spares}
use Rattle.block_code.specs.Coded.{Coded, coded, in_error, taken, value_code}
use Rattle.block_code.specs.Fitting.{check_of, fitted_code}
use Rattle.block_code.specs.Lengths.{IsShort}
use Rattle.block_code.specs.Operators.{side_of}
use Rattle.block_code.specs.Parts.{Part, plain, ◌⨟◌}
use Rattle.block_code.specs.StandardFunctions.{abs_code, as_variable, as_variable_by, cap_code, function_of_one, high_code, high_of, high_of_range, high_of_variable, magnitude, named_type, odd_code, on_value, size_code, value_of_type}
use Rattle.block_code.specs.StandardProcedures.{counting_range, disposed, element_of_base, first_of_two, included, is_pointer_type, is_step, member_instrs, new_room, no_value, number_of_type, of_no_argument, of_one_argument, of_two_arguments, one, ordinal_variable, pointer_variable, set_member, step_instr, step_instrs, step_number, step_type, stepped, update, variable_argument}
use Rattle.block_code.specs.Values.{as_value, in_range}
use Rattle.m2_base.specs.Gives.{Gives, gives}
use Rattle.m2_base.specs.Rows.{is_same_place}
use Rattle.m2_base.specs.Standard.{cardinal, character, integer}
use Rattle.m2_base.specs.Statics.Assignable.{taken_into}
use Rattle.m2_base.specs.Statics.Compatible.{is_compatible}
use Rattle.m2_base.specs.Statics.Contexts.{Context, Scene, refuse}
use Rattle.m2_base.specs.Statics.Diagnostics.{wrong_argument}
use Rattle.m2_base.specs.Statics.Functions.{abs_of, cap_of, chr_of, max_of, min_of, odd_of, ord_of, size_value, val_of}
use Rattle.m2_base.specs.Statics.Operands.{is_bad, operand_type}
use Rattle.m2_base.specs.Statics.Operations.{is_set_kind}
use Rattle.m2_base.specs.Statics.Ranges.{Range}
use Rattle.m2_base.specs.Statics.Sets.{set_base}
use Rattle.m2_base.specs.Statics.TypeParts.{target_of}
use Rattle.m2_base.specs.Statics.Types.{base_of, is_broken, kind_of, range_of, size_of}
use Rattle.m2_base.specs.declared.builtins.Builtin.{Builtin}
use Rattle.m2_base.specs.declared.builtins.Builtin.TheVariants.{Abs, Cap, Chr, Dec, Dispose, Excl, Halt, High, Inc, Incl, Max, Min, New, Odd, Ord, Size, Val}
use Rattle.m2_base.specs.declared.operands.Operand.{Operand}
use Rattle.m2_base.specs.declared.operands.Operand.TheVariants.{Computed, Variable}
use Rattle.m2_base.specs.declared.rows.Place.{Place}
use Rattle.m2_base.specs.declared.rows.RowMeaning.{RowMeaning}
use Rattle.m2_base.specs.declared.rows.RowMeaning.TheVariants.{Array, OpenArray}

-- ---- variables

variable_go : (c : Context) (at n : ℕ) (x : Coded) (o : Operand) → Roomy n x → Roomy n (as_variable_by c at x o).value
variable_go c at n x (Variable t) g = g
variable_go c at n x o g = error-roomy n g.some

pub variable-roomy : (c : Context) (at n : ℕ) (x : Coded) → Roomy n x → Roomy n (as_variable c at x).value
variable-roomy c at n x g = variable_go c at n x x.operand g

where-roomy : (c : Context) (at n : ℕ) (test : Place → Bool) (x : Coded) → Roomy n x → Roomy n (variable_argument c at test x).value
where-roomy c at n test x g =
    let v : Coded = (as_variable c at x).value in
    let h : Roomy n v = variable-roomy c at n x g in
    both_ways (λ r. Roomy n r.value) (is_bad v.operand || test (operand_type v.operand)) (gives v) (refuse c at wrong_argument in_error)
    h (error-roomy n h.some)

-- ---- functions

further : (n s : ℕ) → 32 ≤ s + 64 → 32 + 64 * n ≤ s + 64 * (n + 1)
further n s e = omega (arith, e)

at_least : (n k : ℕ) → 1 ≤ n → 1 ≤ n + k
at_least n k l = omega (arith, l)

-- a function's token more
after-one : (s n : ℕ) (x : Coded) → nat_le 32 (s + 64) ≡ true → Sized s n x → Roomy (n + 1) x
after-one s n x e g = sized-less x s 32 n (n + 1) (further n s (leb-true 32 (s + 64) e)) (at_least n 1 g.some) g

value_go : (c : Context) (at n s : ℕ) (x : Coded) (rule : Operand → Gives Operand) (code : Coded → Part) → nat_le s 32 ≡ true → Roomy n x
    → ((v : Coded) → Roomy n v → Spares s n (code v)) → Sized s n (on_value c at x rule code).value
value_go c at n s x rule code e g f =
    let v : Coded = (as_value c at x).value in
    let h : Roomy n v = as_value-roomy c at n x g in
    made-sized s n (rule v.operand).value (code v) e h.some (f v h)

magnitude-short : (scene : Scene) (t : Place) → IsShort 1 (plain (magnitude scene t))
magnitude-short scene t =
    both_ways (λ is. IsShort 1 (plain is)) (is_same_place (base_of scene t) integer) (Magnitude ∷ []) []
    (plain-short (Magnitude ∷ []) 1 refl) (plain-short [] 1 refl)

pub high_code-short : (scene : Scene) (x : Coded) (m : RowMeaning) → IsShort 10 x.high → IsShort 10 (high_code scene x m)
high_code-short scene x (Array i t s) h = plain-short (Push (high_of_range (range_of scene i)) ∷ []) 10 refl
high_code-short scene x m h = h

high_kind : (c : Context) (at n : ℕ) (x : Coded) (m : RowMeaning) → Roomy n x → Roomy n (high_of c at x m).value
high_kind c at n x (Array i t s) g =
    both_ways (λ r. Roomy n r.value) (is_broken c.scene i) (gives in_error) (gives (coded (Computed cardinal) (high_code c.scene x (Array i t s))))
    (error-roomy n g.some)
    (coded-sized 32 n (Computed cardinal) (high_code c.scene x (Array i t s)) g.some
    (spares-short (high_code c.scene x (Array i t s)) 10 32 n refl g.some (high_code-short c.scene x (Array i t s) g.high)))
high_kind c at n x (OpenArray t) g =
    coded-sized 32 n (Computed cardinal) x.high g.some (spares-short x.high 10 32 n refl g.some g.high)
high_kind c at n x m g = error-roomy n g.some

high-roomy : (c : Context) (at n : ℕ) (x : Coded) → Roomy n x → Roomy n (high_of_variable c at x).value
high-roomy c at n x g =
    both_ways (λ r. Roomy n r.value) (is_bad x.operand) (gives in_error) (high_of c at x (kind_of c.scene (operand_type x.operand)))
    (error-roomy n g.some) (high_kind c at n x (kind_of c.scene (operand_type x.operand)) g)

function-roomy : (c : Context) (f : Builtin) (at n : ℕ) (x : Coded) → Roomy n x → Roomy (n + 1) (function_of_one c f at x).value
function-roomy c Abs at n x g =
    after-one 22 n (function_of_one c Abs at x).value refl (value_go c at n 22 x (abs_of c at) (abs_code c) refl g (λ v h.
    spares-behind (value_code c v) (plain (magnitude c.scene (operand_type v.operand))) 23 1 22 n refl (value-spares c n v h)
    (magnitude-short c.scene (operand_type v.operand))))
function-roomy c Cap at n x g =
    after-one 22 n (function_of_one c Cap at x).value refl (value_go c at n 22 x (cap_of c at) (cap_code c) refl g (λ v h.
    spares-behind (value_code c v) (plain (Capital ∷ [])) 23 1 22 n refl (value-spares c n v h) (plain-short (Capital ∷ []) 1 refl)))
function-roomy c Chr at n x g =
    after-one 6 n (function_of_one c Chr at x).value refl (value_go c at n 6 x (chr_of c at) (fitted_code c character) refl g (fitted-spares c character n))
function-roomy c Odd at n x g =
    after-one 2 n (function_of_one c Odd at x).value refl (value_go c at n 2 x (odd_of c at) (odd_code c) refl g (λ v h.
    spares-behind (value_code c v) (plain (Push (pos 2) ∷ Remainder (side_of c.scene (operand_type v.operand)) ∷ Push (pos 1) ∷ Eq ∷ []))
    23 21 2 n refl (value-spares c n v h)
    (plain-short (Push (pos 2) ∷ Remainder (side_of c.scene (operand_type v.operand)) ∷ Push (pos 1) ∷ Eq ∷ []) 21 refl)))
function-roomy c Ord at n x g =
    after-one 6 n (function_of_one c Ord at x).value refl (value_go c at n 6 x (ord_of c at) (fitted_code c cardinal) refl g (fitted-spares c cardinal n))
function-roomy c Min at n x g = bare-roomy (n + 1) (min_of c at x.operand).value (at_least n 1 g.some)
function-roomy c Max at n x g = bare-roomy (n + 1) (max_of c at x.operand).value (at_least n 1 g.some)
function-roomy c Size at n x g =
    made-sized 32 (n + 1) (size_value c at x.operand).value (size_code c x) refl (at_least n 1 g.some)
    (spares-short (size_code c x) 9 32 (n + 1) refl (at_least n 1 g.some) (plain-short (Push (pos (size_of c.scene (operand_type x.operand))) ∷ []) 9 refl))
function-roomy c High at n x g =
    after-one 32 n (function_of_one c High at x).value refl (high-roomy c at n (as_variable c at x).value (variable-roomy c at n x g))
function-roomy c f at n x g = error-roomy (n + 1) (at_least n 1 g.some)

-- ---- procedures

step_instr-short : (f : Builtin) (b : ℕ) (from to : Option Range) → IsShort 19 (plain (step_instr f b ∷ check_of from to))
step_instr-short Inc b from to =
    check_behind-short (Add b) 19 from to (λ low high. plain-short (Add b ∷ Check low.low high.high ∷ []) 19 refl) (plain-short (Add b ∷ []) 19 refl)
step_instr-short f b from to =
    check_behind-short (Sub b) 19 from to (λ low high. plain-short (Sub b ∷ Check low.low high.high ∷ []) 19 refl) (plain-short (Sub b ∷ []) 19 refl)

same : (n k : ℕ) → 32 + 64 * (n + k) ≤ 33 + 64 * (n + k)
same n k = omega arith

-- a variable that is changed by a part which has so much to spare
update-roomy : (n k r j : ℕ) (x : Coded) (p : Part) (is : List Instr) → nat_le (3 + (j + 1)) r ≡ true → Roomy n x → Spares r k p
    → IsShort j (plain is) → Roomy (n + k) (update x p is)
update-roomy n k r j x p is e g f h =
    let tail : Part = plain is ⨟ plain (Store ∷ []) in
    let code : Part = x.code ⨟ plain (Dup ∷ Load ∷ []) ⨟ p ⨟ tail in
    coded-sized 32 (n + k) no_value code (at_least n k g.some)
    (spares-less code 33 32 (n + k) (n + k) (same n k)
    (spares-then x.code (plain (Dup ∷ Load ∷ []) ⨟ p ⨟ tail) 32 1 n k g.code
    (spares-before (plain (Dup ∷ Load ∷ [])) (p ⨟ tail) 2 3 1 k refl (plain-short (Dup ∷ Load ∷ []) 2 refl)
    (spares-behind p tail r (j + 1) 3 k e f (short-then (plain is) (plain (Store ∷ [])) j 1 h (plain-short (Store ∷ []) 1 refl))))))

stepped-roomy : (c : Context) (f : Builtin) (n k : ℕ) (x y : Coded) → Roomy n x → Roomy k y → Roomy (n + k) (stepped c f x y)
stepped-roomy c f n k x y g h =
    both_ways (Roomy (n + k)) (is_bad x.operand || is_bad y.operand) in_error
    (update x (value_code c y) (step_instrs c.scene f (operand_type x.operand))) (error-roomy (n + k) (at_least n k g.some))
    (update-roomy n k 23 19 x (value_code c y) (step_instrs c.scene f (operand_type x.operand)) refl g (value-spares c k y h)
    (step_instr-short f (side_of c.scene (operand_type x.operand)) (Some (counting_range (side_of c.scene (operand_type x.operand))))
    (range_of c.scene (operand_type x.operand))))

member-short : (f : Builtin) → IsShort 2 (plain (member_instrs f))
member-short Incl = plain-short (Bit ∷ Union ∷ []) 2 refl
member-short f = plain-short (Bit ∷ Diff ∷ []) 2 refl

included-roomy : (c : Context) (f : Builtin) (n k : ℕ) (x y : Coded) → Roomy n x → Roomy k y → Roomy (n + k) (included c f x y)
included-roomy c f n k x y g h =
    both_ways (Roomy (n + k)) (is_bad x.operand || is_bad y.operand) in_error
    (update x (fitted_code c (set_base c (operand_type x.operand)) y) (member_instrs f)) (error-roomy (n + k) (at_least n k g.some))
    (update-roomy n k 6 2 x (fitted_code c (set_base c (operand_type x.operand)) y) (member_instrs f) refl g
    (fitted-spares c (set_base c (operand_type x.operand)) k y h) (member-short f))

step-roomy : (c : Context) (x : Coded) (at k : ℕ) (y : Coded) → Roomy k y → Roomy k (step_number c x at y).value
step-roomy c x at k y h =
    let v : Coded = (as_value c at y).value in
    let w : Place = step_type c.scene (operand_type x.operand) in
    let g : Roomy k v = as_value-roomy c at k y h in
    both_ways (λ r. Roomy k r.value) (is_bad x.operand || is_bad v.operand) (gives in_error) (number_of_type c at w v) (error-roomy k h.some)
    (both_ways (λ r. Roomy k r.value) (is_step c.scene w v.operand) (in_range c at w v) (refuse c at wrong_argument in_error)
    (in_range-roomy c at k w v g) (error-roomy k h.some))

set_member-roomy : (c : Context) (x : Coded) (at k : ℕ) (y : Coded) → Roomy k y → Roomy k (set_member c x at y).value
set_member-roomy c x at k y h =
    let v : Coded = (as_value c at y).value in
    let base : Place = set_base c (operand_type x.operand) in
    let o : Operand = taken_into c.source c.scene base v.operand in
    let g : Roomy k v = as_value-roomy c at k y h in
    both_ways (λ r. Roomy k r.value) (is_bad x.operand || is_bad v.operand) (gives in_error) (element_of_base c at base v) (error-roomy k h.some)
    (both_ways (λ r. Roomy k r.value) (is_broken c.scene base) (gives in_error)
    (if is_compatible c.scene v.operand (Computed base) then in_range c at base (taken o v) else refuse c at wrong_argument in_error) (error-roomy k h.some)
    (both_ways (λ r. Roomy k r.value) (is_compatible c.scene v.operand (Computed base)) (in_range c at base (taken o v))
    (refuse c at wrong_argument in_error) (in_range-roomy c at k base (taken o v) (taken-roomy k o v g)) (error-roomy k h.some)))

-- a variable whose address something short takes
short_behind : (n k s : ℕ) (x : Coded) (is : List Instr) → nat_le (s + k) 32 ≡ true → nat_le 32 (s + 64) ≡ true → Roomy n x → IsShort k (plain is)
    → Roomy (n + 1) (coded no_value (x.code ⨟ plain is))
short_behind n k s x is e d g h =
    after-one s n (coded no_value (x.code ⨟ plain is)) d
    (coded-sized s n no_value (x.code ⨟ plain is) g.some (spares-behind x.code (plain is) 32 k s n e g.code h))

new-roomy : (c : Context) (n : ℕ) (x : Coded) → Roomy n x → Roomy (n + 1) (new_room c x)
new-roomy c n x g =
    let t : Place = target_of c.scene (operand_type x.operand) in
    both_ways (Roomy (n + 1)) (is_bad x.operand || is_broken c.scene t) in_error (coded no_value (x.code ⨟ plain (Room (size_of c.scene t) ∷ [])))
    (error-roomy (n + 1) (at_least n 1 g.some))
    (short_behind n 5 27 x (Room (size_of c.scene t) ∷ []) refl refl g (plain-short (Room (size_of c.scene t) ∷ []) 5 refl))

disposed-roomy : (n : ℕ) (x : Coded) → Roomy n x → Roomy (n + 1) (disposed x)
disposed-roomy n x g =
    both_ways (Roomy (n + 1)) (is_bad x.operand) in_error (coded no_value (x.code ⨟ plain (Push (pos 0) ∷ Store ∷ [])))
    (error-roomy (n + 1) (at_least n 1 g.some))
    (short_behind n 10 22 x (Push (pos 0) ∷ Store ∷ []) refl refl g (plain-short (Push (pos 0) ∷ Store ∷ []) 10 refl))

-- ---- by the number of arguments

pub no_argument-roomy : (f : Builtin) → Roomy 1 (of_no_argument f)
no_argument-roomy Halt =
    coded-sized 32 1 no_value (plain (Stop ∷ [])) (omega arith) (spares-short (plain (Stop ∷ [])) 1 32 1 refl (omega arith) (plain-short (Stop ∷ []) 1 refl))
no_argument-roomy f = error-roomy 1 (omega arith)

one-roomy : Roomy 1 one
one-roomy = bare-roomy 1 one.operand (omega arith)

pub one_argument-roomy : (c : Context) (f : Builtin) (at n : ℕ) (x : Coded) → Roomy n x → Roomy (n + 1) (of_one_argument c f at x).value
one_argument-roomy c Inc at n x g =
    let v : Coded = (ordinal_variable c at x).value in
    stepped-roomy c Inc n 1 v one (where-roomy c at n (λ t. is_some (range_of c.scene t)) x g) one-roomy
one_argument-roomy c Dec at n x g =
    let v : Coded = (ordinal_variable c at x).value in
    stepped-roomy c Dec n 1 v one (where-roomy c at n (λ t. is_some (range_of c.scene t)) x g) one-roomy
one_argument-roomy c New at n x g =
    new-roomy c n (pointer_variable c at x).value (where-roomy c at n (λ t. is_pointer_type (kind_of c.scene t)) x g)
one_argument-roomy c Dispose at n x g =
    disposed-roomy n (pointer_variable c at x).value (where-roomy c at n (λ t. is_pointer_type (kind_of c.scene t)) x g)
one_argument-roomy c f at n x g = function-roomy c f at n x g

pub first-roomy : (c : Context) (f : Builtin) (at n : ℕ) (x : Coded) → Roomy n x → Roomy n (first_of_two c f at x).value
first-roomy c Inc at n x g = where-roomy c at n (λ t. is_some (range_of c.scene t)) x g
first-roomy c Dec at n x g = where-roomy c at n (λ t. is_some (range_of c.scene t)) x g
first-roomy c Incl at n x g = where-roomy c at n (λ t. is_set_kind (kind_of c.scene t)) x g
first-roomy c Excl at n x g = where-roomy c at n (λ t. is_set_kind (kind_of c.scene t)) x g
first-roomy c f at n x g = g

fitted_more : (n k : ℕ) → 1 ≤ n → 32 + 64 * k ≤ 6 + 64 * (n + k)
fitted_more n k l = omega (arith, l)

pub two_arguments-roomy : (c : Context) (f : Builtin) (x_at n : ℕ) (x : Coded) (at k : ℕ) (y : Coded) → Roomy n x → Roomy k y
    → Roomy (n + k) (of_two_arguments c f x_at x at y).value
two_arguments-roomy c Inc x_at n x at k y g h = stepped-roomy c Inc n k x (step_number c x at y).value g (step-roomy c x at k y h)
two_arguments-roomy c Dec x_at n x at k y g h = stepped-roomy c Dec n k x (step_number c x at y).value g (step-roomy c x at k y h)
two_arguments-roomy c Incl x_at n x at k y g h = included-roomy c Incl n k x (set_member c x at y).value g (set_member-roomy c x at k y h)
two_arguments-roomy c Excl x_at n x at k y g h = included-roomy c Excl n k x (set_member c x at y).value g (set_member-roomy c x at k y h)
two_arguments-roomy c Val x_at n x at k y g h =
    sized-less (value_of_type c x_at x at y).value 6 32 k (n + k) (fitted_more n k g.some) (at_least n k g.some)
    (value_go c at k 6 y (val_of c x_at x.operand at) (fitted_code c (named_type x.operand)) refl h (fitted-spares c (named_type x.operand) k))
two_arguments-roomy c f x_at n x at k y g h = error-roomy (n + k) (at_least n k g.some)
