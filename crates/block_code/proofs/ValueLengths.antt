-- How long the code of values, operators, sets and standard functions is, by that of their operands.
use Rattle.std.specs.Prelude.{◌≡◌, refl, ℕ, ◌+◌, ◌*◌, ◌≤◌, ◌==◌, nat_le, Bool, true, if◌then◌else◌, pos, [], ◌∷◌, Option, Some, None}
use Rattle.std.proofs.Common.{arith}
use Rattle.std.proofs.lemmas.Bool.{leb-true}
use Rattle.code_form.specs.declared.instr.Instr.{Instr}
use Rattle.code_form.specs.declared.instr.Instr.TheVariants.{AndJump, OrJump, Push, Load, Bit, Union, Span, Check, Proc as ProcValue}
use Rattle.block_code.proofs.Lengths.{Spares, none-short, plain-short, skip_and-spares, skip_or-spares, spares-before, spares-behind, spares-less, spares-short, spares-then, text-short}
use Rattle.block_code.proofs.ValueHeights.{both_ways}
use Rattle.block_code.specs.Coded.{Coded, bare, characters, coded, in_error, is_structured, no_high, taken, value_by, value_code, with_char}
use Rattle.block_code.specs.Fitting.{check_of, fit_of, fitted_code, reaches_beyond}
use Rattle.block_code.specs.Lengths.{IsShort}
use Rattle.block_code.specs.Operators.{made, one_coded, one_instr, operation_code, scalar_instr, set_instr, side_of, two_coded, two_instr}
use Rattle.block_code.specs.Parts.{Part, none, plain, skip, ◌⨟◌}
use Rattle.block_code.specs.ProcedureNames.{Target, import_of_target, procedure_code, target_of_procedure}
use Rattle.block_code.specs.SetElements.{element_as, Elements, add_element, add_range, element_coded, set_by, set_coded}
use Rattle.block_code.specs.Values.{as_value, as_value_by, assigned_to, in_range, in_range_by, is_passed_over}
use Rattle.m2_base.specs.Gives.{Gives, gives}
use Rattle.m2_base.specs.Statics.Assignable.{is_assignable, taken_into}
use Rattle.m2_base.specs.Statics.Contexts.{Context, Scene, level_of, refuse}
use Rattle.m2_base.specs.Statics.Diagnostics.{out_of_range}
use Rattle.m2_base.specs.Statics.Operands.{operand_type}
use Rattle.m2_base.specs.Statics.Operations.{apply_one, is_set_kind, operate}
use Rattle.m2_base.specs.Statics.Ranges.{Range, is_within}
use Rattle.m2_base.specs.Statics.Sets.{element_of}
use Rattle.m2_base.specs.Statics.Types.{kind_of, range_of}
use Rattle.m2_base.specs.declared.operands.Operand.{Operand}
use Rattle.m2_base.specs.declared.operands.Operand.TheVariants.{Computed, Constant, InError, ModuleName, NamedType, Procedure, StandardProcedure, StringConstant, Variable}
use Rattle.m2_base.specs.declared.rows.Place.{Place}
use Rattle.m2_base.specs.declared.trees.operators.Operator.{Operator}
use Rattle.m2_base.specs.declared.trees.operators.Operator.TheVariants.{Plus, Minus, Times, Slash, Div, Mod, And, Or, Not, Equal, Unequal, Less, Greater, LessEqual, GreaterEqual, In}

-- What is made of so many tokens: its code leaves this many of their bytes. What an open array's length needs is short.
pub record Sized (s n : ℕ) (x : Coded) : Type 0 where
  pub some : 1 ≤ n
  pub code : Spares s n x.code
  pub high : IsShort 10 x.high

-- as an expression leaves them
abbrev pub Roomy : ℕ → Coded → Type 0
Roomy n x = Sized 32 n x

no_high-short : IsShort 10 no_high
no_high-short = plain-short (Push (pos 0) ∷ []) 10 refl

pub coded-sized : (s n : ℕ) (o : Operand) (code : Part) → 1 ≤ n → Spares s n code → Sized s n (coded o code)
coded-sized s n o code l f = record { some = l; code = f; high = no_high-short }

pub bare-roomy : (n : ℕ) (o : Operand) → 1 ≤ n → Roomy n (bare o)
bare-roomy n o l = coded-sized 32 n o none l (spares-short none 0 32 n refl l (none-short 0))

pub error-roomy : (n : ℕ) → 1 ≤ n → Roomy n in_error
error-roomy n l = bare-roomy n InError l

pub sized-less : (x : Coded) (s t m n : ℕ) → t + 64 * m ≤ s + 64 * n → 1 ≤ n → Sized s m x → Sized t n x
sized-less x s t m n e l g = record { some = l; code = spares-less x.code s t m n e g.code; high = g.high }

at_least : (m n : ℕ) → m ≤ n → 1 ≤ m → 1 ≤ n
at_least m n e l = omega (arith, e, l)

spread : (m n : ℕ) → m ≤ n → 32 + 64 * m ≤ 32 + 64 * n
spread m n e = omega (arith, e)

-- more tokens
pub roomy-more : (x : Coded) (m n : ℕ) → m ≤ n → Roomy m x → Roomy n x
roomy-more x m n e g = sized-less x 32 32 m n (spread m n e) (at_least m n e g.some) g

-- ---- values

-- where a test holds, it, or else what is in error
pub kept : (n : ℕ) (x : Coded) (t : Bool) (a b : Gives Coded) → Roomy n a.value → Roomy n b.value → Roomy n (if t then a else b).value
kept n x t a b f g = both_ways (λ r. Roomy n r.value) t a b f g

value_go : (c : Context) (at n : ℕ) (x : Coded) (o : Operand) → Roomy n x → Roomy n (as_value_by c at x o).value
value_go c at n x (NamedType t) g = error-roomy n g.some
value_go c at n x (ModuleName s) g = error-roomy n g.some
value_go c at n x (StandardProcedure k) g = error-roomy n g.some
value_go c at n x (Procedure name t k s) g =
    both_ways (λ r. Roomy n r.value) (level_of c.scene.block t.scope == 0) (gives x) (refuse c at 66 in_error) g (error-roomy n g.some)
value_go c at n x o g = g

pub as_value-roomy : (c : Context) (at n : ℕ) (x : Coded) → Roomy n x → Roomy n (as_value c at x).value
as_value-roomy c at n x g = value_go c at n x x.operand g

procedure-short : (scene : Scene) (p : Option Target) → IsShort 9 (procedure_code scene p)
procedure-short scene None = plain-short (ProcValue 0 0 ∷ []) 9 refl
procedure-short scene (Some p) = plain-short (ProcValue (import_of_target scene.block p) p.number ∷ []) 9 refl

less : (n s t : ℕ) → t ≤ s → t + 64 * n ≤ s + 64 * n
less n s t e = omega (arith, e)

code_go : (c : Context) (n : ℕ) (code : Part) (o : Operand) → 1 ≤ n → Spares 32 n code → Spares 23 n (value_by c code o)
code_go c n code (Constant t v) l f = spares-short (plain (Push v ∷ [])) 9 23 n refl l (plain-short (Push v ∷ []) 9 refl)
code_go c n code (StringConstant name k) l f =
    spares-short (value_by c code (StringConstant name k)) 5 23 n refl l (text-short (characters c.source name))
code_go c n code (Variable t) l f =
    both_ways (Spares 23 n) (is_structured c.scene t) code (code ⨟ plain (Load ∷ [])) (spares-less code 32 23 n n (less n 32 23 (omega arith)) f)
    (spares-behind code (plain (Load ∷ [])) 32 1 23 n refl f (plain-short (Load ∷ []) 1 refl))
code_go c n code (Procedure name t k s) l f =
    spares-short (value_by c code (Procedure name t k s)) 9 23 n refl l (procedure-short c.scene (target_of_procedure c.scene name t k))
code_go c n code o l f = spares-less code 32 23 n n (less n 32 23 (omega arith)) f

pub value-spares : (c : Context) (n : ℕ) (x : Coded) → Roomy n x → Spares 23 n (value_code c x)
value-spares c n x g = code_go c n x.code x.operand g.some g.code

-- ---- fitted values

check-short : (from to : Option Range) → IsShort 17 (plain (check_of from to))
check-short from None = plain-short [] 17 refl
check-short from (Some r) =
    both_ways (λ is. IsShort 17 (plain is)) (reaches_beyond from r) (Check r.low r.high ∷ []) []
    (plain-short (Check r.low r.high ∷ []) 17 refl) (plain-short [] 17 refl)

pub check_behind-short : (i : Instr) (k : ℕ) (from to : Option Range)
    → ((low high : Range) → IsShort k (plain (i ∷ Check low.low high.high ∷ []))) → IsShort k (plain (i ∷ [])) → IsShort k (plain (i ∷ check_of from to))
check_behind-short i k from None f g = g
check_behind-short i k from (Some r) f g = both_ways (λ is. IsShort k (plain (i ∷ is))) (reaches_beyond from r) (Check r.low r.high ∷ []) [] (f r r) g

fit-short : (scene : Scene) (to : Place) (o : Operand) → IsShort 17 (fit_of scene to o)
fit-short scene to (Variable t) = check-short (range_of scene t) (range_of scene to)
fit-short scene to (Computed t) = check-short (range_of scene t) (range_of scene to)
fit-short scene to o = none-short 17

pub fitted-spares : (c : Context) (to : Place) (n : ℕ) (x : Coded) → Roomy n x → Spares 6 n (fitted_code c to x)
fitted-spares c to n x g =
    spares-behind (value_code c x) (fit_of c.scene to x.operand) 23 17 6 n refl (value-spares c n x g) (fit-short c.scene to x.operand)

-- ---- assigned values

range_go : (c : Context) (at n : ℕ) (r : Option Range) (x : Coded) (o : Operand) → Roomy n x → Roomy n (in_range_by c at r x o).value
range_go c at n r x (Constant t v) g =
    both_ways (λ y. Roomy n y.value) (is_within r v) (gives x) (refuse c at out_of_range in_error) g (error-roomy n g.some)
range_go c at n r x o g = g

pub in_range-roomy : (c : Context) (at n : ℕ) (to : Place) (x : Coded) → Roomy n x → Roomy n (in_range c at to x).value
in_range-roomy c at n to x g = range_go c at n (range_of c.scene to) x x.operand g

-- the same code for another operand
pub taken-roomy : (n : ℕ) (o : Operand) (x : Coded) → Roomy n x → Roomy n (taken o x)
taken-roomy n o x g = record { some = g.some; code = g.code; high = g.high }

pub assigned-roomy : (c : Context) (to : Place) (at code n : ℕ) (x : Coded) → Roomy n x → Roomy n (assigned_to c to at code x).value
assigned-roomy c to at code n x g =
    both_ways (λ r. Roomy n r.value) (is_passed_over c.scene to x.operand) (gives in_error)
    (if is_assignable c.scene to x.operand then in_range c at to (taken (taken_into c.source c.scene to x.operand) x) else refuse c at code in_error)
    (error-roomy n g.some)
    (both_ways (λ r. Roomy n r.value) (is_assignable c.scene to x.operand)
    (in_range c at to (taken (taken_into c.source c.scene to x.operand) x)) (refuse c at code in_error)
    (in_range-roomy c at n to (taken (taken_into c.source c.scene to x.operand) x) (taken-roomy n (taken_into c.source c.scene to x.operand) x g))
    (error-roomy n g.some))

-- ---- results

pub made-sized : (s n : ℕ) (r : Operand) (code : Part) → nat_le s 32 ≡ true → 1 ≤ n → Spares s n code → Sized s n (made r code)
made-sized s n r code e l f = go r
  where
    empty : (o : Operand) → Sized s n (bare o)
    empty o = coded-sized s n o none l (spares-less none 32 s n n (less n 32 s (leb-true s 32 e)) (spares-short none 0 32 n refl l (none-short 0)))

    go : (o : Operand) → Sized s n (made o code)
    go (Computed t) = coded-sized s n (Computed t) code l f
    go (Constant t v) = empty (Constant t v)
    go o = empty InError

-- ---- operators

one_instr-short : (op : Operator) → IsShort 1 (plain (one_instr op))
one_instr-short Not = plain-short (one_instr Not) 1 refl
one_instr-short Minus = plain-short (one_instr Minus) 1 refl
one_instr-short op = plain-short [] 1 refl

further : (n s : ℕ) → 32 ≤ s + 64 → 32 + 64 * n ≤ s + 64 * (1 + n)
further n s e = omega (arith, e)

positive : (n : ℕ) → 1 ≤ 1 + n
positive n = omega arith

-- a sign or NOT
pub one_coded-roomy : (c : Context) (op : Operator) (op_at n : ℕ) (x : Coded) → Roomy n x → Roomy (1 + n) (one_coded c op op_at x).value
one_coded-roomy c op op_at n x g =
    let r : Operand = (apply_one c op op_at x.operand).value in
    let code : Part = value_code c x ⨟ plain (one_instr op) in
    sized-less (made r code) 22 32 n (1 + n) (further n 22 (omega arith)) (positive n)
    (made-sized 22 n r code refl g.some
    (spares-behind (value_code c x) (plain (one_instr op)) 23 1 22 n refl (value-spares c n x g) (one_instr-short op)))

set_instr-short : (op : Operator) → IsShort 5 (plain (set_instr op ∷ []))
set_instr-short Plus = plain-short (set_instr Plus ∷ []) 5 refl
set_instr-short Minus = plain-short (set_instr Minus ∷ []) 5 refl
set_instr-short Times = plain-short (set_instr Times ∷ []) 5 refl
set_instr-short Slash = plain-short (set_instr Slash ∷ []) 5 refl
set_instr-short LessEqual = plain-short (set_instr LessEqual ∷ []) 5 refl
set_instr-short GreaterEqual = plain-short (set_instr GreaterEqual ∷ []) 5 refl
set_instr-short Equal = plain-short (set_instr Equal ∷ []) 5 refl
set_instr-short Unequal = plain-short (set_instr Unequal ∷ []) 5 refl
set_instr-short op = plain-short (set_instr In ∷ []) 5 refl

scalar_instr-short : (b : ℕ) (op : Operator) → IsShort 5 (plain (scalar_instr b op ∷ []))
scalar_instr-short b Plus = plain-short (scalar_instr b Plus ∷ []) 5 refl
scalar_instr-short b Minus = plain-short (scalar_instr b Minus ∷ []) 5 refl
scalar_instr-short b Times = plain-short (scalar_instr b Times ∷ []) 5 refl
scalar_instr-short b Div = plain-short (scalar_instr b Div ∷ []) 5 refl
scalar_instr-short b Mod = plain-short (scalar_instr b Mod ∷ []) 5 refl
scalar_instr-short b Unequal = plain-short (scalar_instr b Unequal ∷ []) 5 refl
scalar_instr-short b Less = plain-short (scalar_instr b Less ∷ []) 5 refl
scalar_instr-short b LessEqual = plain-short (scalar_instr b LessEqual ∷ []) 5 refl
scalar_instr-short b Greater = plain-short (scalar_instr b Greater ∷ []) 5 refl
scalar_instr-short b GreaterEqual = plain-short (scalar_instr b GreaterEqual ∷ []) 5 refl
scalar_instr-short b op = plain-short (scalar_instr b Equal ∷ []) 5 refl

two_instr-short : (scene : Scene) (op : Operator) (r t : Place) → IsShort 5 (plain (two_instr scene op r t ∷ []))
two_instr-short scene op r t =
    both_ways (λ i. IsShort 5 (plain (i ∷ []))) (is_set_kind (kind_of scene t)) (set_instr op) (scalar_instr (side_of scene r) op)
    (set_instr-short op) (scalar_instr-short (side_of scene r) op)

operation-spares : (scene : Scene) (op : Operator) (r t : Place) (m n : ℕ) (x y : Part) → Spares 23 m x → Spares 23 n y
    → Spares 41 (m + n) (operation_code scene op r t x y)
operation-spares scene And r t m n x y f g = spares-then x (skip AndJump y) 23 18 m n f (skip_and-spares y 18 n g)
operation-spares scene Or r t m n x y f g = spares-then x (skip OrJump y) 23 18 m n f (skip_or-spares y 18 n g)
operation-spares scene op r t m n x y f g =
    spares-then x (y ⨟ plain (two_instr scene op r t ∷ [])) 23 18 m n f
    (spares-behind y (plain (two_instr scene op r t ∷ [])) 23 5 18 n refl g (two_instr-short scene op r t))

together : (m n : ℕ) → 32 + 64 * (m + n) ≤ 41 + 64 * (m + n)
together m n = omega arith

either : (m n : ℕ) → 1 ≤ m → 1 ≤ m + n
either m n l = omega (arith, l)

-- an operator on two values
pub two_coded-roomy : (c : Context) (op : Operator) (op_at x_at m : ℕ) (x : Coded) (y_at n : ℕ) (y : Coded) → Roomy m x → Roomy n y
    → Roomy (m + n) (two_coded c op op_at x_at x y_at y).value
two_coded-roomy c op op_at x_at m x y_at n y g h =
    let r : Operand = (operate c op op_at x.operand x_at y.operand y_at).value in
    let code : Part = operation_code c.scene op (operand_type r) (operand_type y.operand) (value_code c (with_char c x)) (value_code c (with_char c y)) in
    made-sized 32 (m + n) r code refl (either m n g.some)
    (spares-less code 41 32 (m + n) (m + n) (together m n)
    (operation-spares c.scene op (operand_type r) (operand_type y.operand) m n (value_code c (with_char c x)) (value_code c (with_char c y))
    (value-spares c m (with_char c x) (taken-roomy m (with_char c x).operand x g)) (value-spares c n (with_char c y) (taken-roomy n (with_char c y).operand y h))))

-- ---- sets

element_go : (n : ℕ) (x : Coded) (o : Operand) → Roomy n x → Roomy n (element_as x o)
element_go n x InError g = error-roomy n g.some
element_go n x o g = taken-roomy n o x g

pub element-roomy : (c : Context) (base : Place) (at n : ℕ) (x : Coded) → Roomy n x → Roomy n (element_coded c base at x).value
element-roomy c base at n x g = element_go n x (element_of c base at x.operand).value g

-- the elements of so many tokens
abbrev pub SizedSet : ℕ → Elements → Type 0
SizedSet n es = Spares 0 n es.code

one_more : (n k : ℕ) → 0 + 64 * (n + k) ≤ 21 + 64 * (n + (k + 1))
one_more n k = omega arith

pub add_element-sized : (c : Context) (n k : ℕ) (es : Elements) (x : Coded) → SizedSet n es → Roomy k x → SizedSet (n + (k + 1)) (add_element c es x)
add_element-sized c n k es x f g =
    spares-less (add_element c es x).code 21 0 (n + k) (n + (k + 1)) (one_more n k)
    (spares-then es.code (value_code c x ⨟ plain (Bit ∷ Union ∷ [])) 0 21 n k f
    (spares-behind (value_code c x) (plain (Bit ∷ Union ∷ [])) 23 2 21 k refl (value-spares c k x g) (plain-short (Bit ∷ Union ∷ []) 2 refl)))

two_more : (n k m : ℕ) → 0 + 64 * (n + (k + m)) ≤ 44 + 64 * (n + (k + 1 + m + 1))
two_more n k m = omega arith

pub add_range-sized : (c : Context) (n k m : ℕ) (es : Elements) (x y : Coded) → SizedSet n es → Roomy k x → Roomy m y
    → SizedSet (n + (k + 1 + m + 1)) (add_range c es x y)
add_range-sized c n k m es x y f g h =
    spares-less (add_range c es x y).code 44 0 (n + (k + m)) (n + (k + 1 + m + 1)) (two_more n k m)
    (spares-then es.code (value_code c x ⨟ value_code c y ⨟ plain (Span ∷ Union ∷ [])) 0 44 n (k + m) f
    (spares-then (value_code c x) (value_code c y ⨟ plain (Span ∷ Union ∷ [])) 23 21 k m (value-spares c k x g)
    (spares-behind (value_code c y) (plain (Span ∷ Union ∷ [])) 23 2 21 m refl (value-spares c m y h) (plain-short (Span ∷ Union ∷ []) 2 refl))))

opened : (n : ℕ) → 41 + 64 * n ≤ 0 + 64 * (1 + n)
opened n = omega arith

set_go : (t : Place) (n : ℕ) (code : Part) (o : Operand) → Spares 0 n code → Roomy (1 + n) (set_by t code o)
set_go t n code (Constant u s) f = bare-roomy (1 + n) (Constant t s) (positive n)
set_go t n code InError f = error-roomy (1 + n) (positive n)
set_go t n code o f =
    coded-sized 32 (1 + n) (Computed t) (plain (Push (pos 0) ∷ []) ⨟ code) (positive n)
    (spares-before (plain (Push (pos 0) ∷ [])) code 9 41 32 (1 + n) refl (plain-short (Push (pos 0) ∷ []) 9 refl)
    (spares-less code 0 41 n (1 + n) (opened n) f))

pub set-roomy : (t : Place) (n : ℕ) (es : Elements) → SizedSet n es → Roomy (1 + n) (set_coded t es)
set-roomy t n es f = set_go t n es.code es.set f
