-- The heights of values, operators and sets, by those of their operands: a value's code leaves one operand.
use Rattle.std.specs.Prelude.{◌≡◌, refl, ℕ, ◌==◌, Bool, true, false, not, ◌&&◌, ◌||◌, if◌then◌else◌, pos, [], ◌∷◌, Option, Some, None, ◌⊎◌}
use Rattle.std.proofs.Common.{sym, ◌∙◌, ap, subst, inl, inr}
use Rattle.m2_base.specs.declared.trees.operators.Operator.TheVariants.{Plus, Minus, Times, Slash, Div, Mod, And, Or, Not, Equal, Unequal, Less, Greater, LessEqual, GreaterEqual, In}
use Rattle.code_form.specs.declared.instr.Instr.TheVariants.{AndJump, OrJump, Push, Load, Bit, Union, Span, Proc as ProcValue}
use Rattle.block_code.proofs.Moves.{Moves-then, Moves-raise, plain-moves, text-moves, skip-and, skip-or}
use Rattle.block_code.specs.Coded.{Coded, in_error, is_structured, taken, value_code, with_char}
use Rattle.block_code.specs.Heights.{Moves}
use Rattle.block_code.specs.Operators.{made, one_coded, one_instr, operation_code, scalar_instr, set_instr, side_of, two_coded, two_instr}
use Rattle.block_code.specs.Parts.{Part, none, plain, skip, ◌⨟◌}
use Rattle.block_code.specs.ProcedureNames.{Target, import_of_target, procedure_code, target_of_procedure}
use Rattle.block_code.specs.SetElements.{element_as, Elements, add_element, add_range, element_coded, set_coded}
use Rattle.block_code.specs.Values.{as_value}
use Rattle.m2_base.specs.Gives.{Gives, gives}
use Rattle.m2_base.specs.Statics.Compatible.{is_beside_char, is_compatible, taken_beside}
use Rattle.m2_base.specs.Statics.Contexts.{Context, Scene, level_of, refuse, spelling}
use Rattle.m2_base.specs.Statics.Diagnostics.{not_assignable, out_of_range}
use Rattle.m2_base.specs.Statics.Operands.{as_char, char_or_same, characters_of, is_bad, is_procedure, operand_type, worse}
use Rattle.m2_base.specs.Statics.Operations.{apply_one, apply_one_by, is_set_kind, operate, operate_by, wrong}
use Rattle.m2_base.specs.Statics.Ranges.{is_within}
use Rattle.m2_base.specs.Statics.Sets.{checked_element, with_elements}
use Rattle.m2_base.specs.Statics.Types.{is_broken, kind_of, range_of}
use Rattle.m2_base.specs.declared.operands.Operand.{Operand}
use Rattle.m2_base.specs.declared.operands.Operand.TheVariants.{Computed, Constant, InError, ModuleName, NamedType, NotConstant, Procedure, StandardProcedure, StringConstant, Variable}
use Rattle.m2_base.specs.declared.rows.Place.{Place}
use Rattle.m2_base.specs.declared.trees.operators.Operator.{Operator}

abbrev pub with_operand : Operand → Part → Part → Coded
with_operand o code high = record { operand = o; code = code; high = high }

-- what is known of an operand's code
abbrev pub GoodAs : Scene → Part → Part → Operand → Type 0
GoodAs scene code high (Computed t) = Moves 0 code 1
GoodAs scene code high (Variable t) = Moves 0 code 1 × Moves 0 high 1
GoodAs scene code high NotConstant = ⊥
GoodAs scene code high InError = code ≡ none
GoodAs scene code high other = Unit {0}

abbrev pub Good : Scene → Coded → Type 0
Good scene x = GoodAs scene x.code x.high x.operand

-- what may stand where a value is wanted
abbrev pub Wanted : Operand → Type 0
Wanted (NamedType t) = ⊥
Wanted (StandardProcedure n) = ⊥
Wanted (ModuleName s) = ⊥
Wanted other = Unit {0}

abbrev pub Valued : Scene → Coded → Type 0
Valued scene x = Good scene x × Wanted x.operand

as_value_go : (c : Context) (at : ℕ) (o : Operand) (code high : Part) → GoodAs c.scene code high o
    → Valued c.scene (as_value c at (with_operand o code high)).value
as_value_go c at (Constant t v) code high g = (tt, tt)
as_value_go c at (StringConstant n l) code high g = (tt, tt)
as_value_go c at (Computed t) code high g = (g, tt)
as_value_go c at (Variable t) code high g = (g, tt)
as_value_go c at (NamedType t) code high g = (refl, tt)
as_value_go c at (Procedure n t k s) code high g = go (level_of c.scene.block t.scope == 0)
  where
    go : (b : Bool) → Valued c.scene (if b then gives (with_operand (Procedure n t k s) code high) else refuse c at 66 in_error).value
    go true = (g, tt)
    go false = (refl, tt)
as_value_go c at (StandardProcedure n) code high g = (refl, tt)
as_value_go c at (ModuleName s) code high g = (refl, tt)
as_value_go c at NotConstant code high g = absurd g
as_value_go c at InError code high g = (g, tt)

pub as_value-good : (c : Context) (at : ℕ) (x : Coded) → Good c.scene x → Valued c.scene (as_value c at x).value
as_value-good c at x g = as_value_go c at x.operand x.code x.high g

proc_moves : (scene : Scene) (p : Option Target) → Moves 0 (procedure_code scene p) 1
proc_moves scene None = plain-moves (ProcValue 0 0 ∷ []) 0 1 refl
proc_moves scene (Some p) = plain-moves (ProcValue (import_of_target scene.block p) p.number ∷ []) 0 1 refl

loaded : (code : Part) (b : Bool) → Moves 0 code 1 → Moves 0 (if b then code else (code ⨟ plain (Load ∷ []))) 1
loaded code true g = g
loaded code false g = Moves-then code (plain (Load ∷ [])) 0 1 1 g (plain-moves (Load ∷ []) 1 1 refl)

value_go : (c : Context) (o : Operand) (code high : Part) → GoodAs c.scene code high o → Wanted o → is_bad o ≡ false
    → Moves 0 (value_code c (with_operand o code high)) 1
value_go c (Constant t v) code high g w b = plain-moves (Push v ∷ []) 0 1 refl
value_go c (StringConstant n l) code high g w b = text-moves (characters_of (spelling c.source n))
value_go c (Computed t) code high g w b = g
value_go c (Variable t) code high g w b = loaded code (is_structured c.scene t) g.0
value_go c (NamedType t) code high g w b = absurd w
value_go c (Procedure n t k s) code high g w b = proc_moves c.scene (target_of_procedure c.scene n t k)
value_go c (StandardProcedure n) code high g w b = absurd w
value_go c (ModuleName s) code high g w b = absurd w
value_go c NotConstant code high g w b = absurd g
value_go c InError code high g w b = absurd cc

-- a value's code leaves the value
pub value-moves : (c : Context) (x : Coded) → Valued c.scene x → is_bad x.operand ≡ false → Moves 0 (value_code c x) 1
value-moves c x v b = value_go c x.operand x.code x.high v.0 v.1 b

-- a result has the code that made it
pub made-good : (scene : Scene) (r : Operand) (code : Part) → Moves 0 code 1 → Good scene (made r code)
made-good scene (Computed t) code g = g
made-good scene (Constant t v) code g = tt
made-good scene (StringConstant n l) code g = refl
made-good scene (Variable t) code g = refl
made-good scene (NamedType t) code g = refl
made-good scene (Procedure n t k s) code g = refl
made-good scene (StandardProcedure n) code g = refl
made-good scene (ModuleName s) code g = refl
made-good scene NotConstant code g = refl
made-good scene InError code g = refl

-- in error, apart from what only constant expressions have
abbrev pub is_in_error_operand : Operand → Bool
is_in_error_operand InError = true
is_in_error_operand other = false

-- ---- operators

one_instr-moves : (op : Operator) → Moves 1 (plain (one_instr op)) 1
one_instr-moves Not = plain-moves (one_instr Not) 1 1 refl
one_instr-moves Minus = plain-moves (one_instr Minus) 1 1 refl
one_instr-moves Plus = plain-moves (one_instr Plus) 1 1 refl
one_instr-moves Times = plain-moves (one_instr Times) 1 1 refl
one_instr-moves Slash = plain-moves (one_instr Slash) 1 1 refl
one_instr-moves Div = plain-moves (one_instr Div) 1 1 refl
one_instr-moves Mod = plain-moves (one_instr Mod) 1 1 refl
one_instr-moves And = plain-moves (one_instr And) 1 1 refl
one_instr-moves Or = plain-moves (one_instr Or) 1 1 refl
one_instr-moves Equal = plain-moves (one_instr Equal) 1 1 refl
one_instr-moves Unequal = plain-moves (one_instr Unequal) 1 1 refl
one_instr-moves Less = plain-moves (one_instr Less) 1 1 refl
one_instr-moves Greater = plain-moves (one_instr Greater) 1 1 refl
one_instr-moves LessEqual = plain-moves (one_instr LessEqual) 1 1 refl
one_instr-moves GreaterEqual = plain-moves (one_instr GreaterEqual) 1 1 refl
one_instr-moves In = plain-moves (one_instr In) 1 1 refl

-- either operand is bad, or both have their code
pub either_bad : (o : Operand) → (is_bad o ≡ true) ⊎ (is_bad o ≡ false)
either_bad o = go (is_bad o) refl
  where
    go : (b : Bool) → is_bad o ≡ b → (is_bad o ≡ true) ⊎ (is_bad o ≡ false)
    go true e = inl e
    go false e = inr e

made_bad : (scene : Scene) (r : Operand) (code : Part) → is_bad r ≡ true → Good scene (made r code)
made_bad scene (Computed t) code b = absurd cc
made_bad scene (Constant t v) code b = tt
made_bad scene (StringConstant n l) code b = refl
made_bad scene (Variable t) code b = refl
made_bad scene (NamedType t) code b = refl
made_bad scene (Procedure n t k s) code b = refl
made_bad scene (StandardProcedure n) code b = refl
made_bad scene (ModuleName s) code b = refl
made_bad scene NotConstant code b = refl
made_bad scene InError code b = refl

-- a sign or NOT
pub one_coded-good : (c : Context) (op : Operator) (op_at : ℕ) (x : Coded) → Valued c.scene x → Good c.scene (one_coded c op op_at x).value
one_coded-good c op op_at x v = go (either_bad x.operand)
  where
    go : (is_bad x.operand ≡ true) ⊎ (is_bad x.operand ≡ false) → Good c.scene (one_coded c op op_at x).value
    go (inl b) =
        let P : Bool → Type 0 = λ t. Good c.scene (made (if t then gives x.operand else apply_one_by c op op_at x.operand).value (value_code c x ⨟ plain (one_instr op))) in
        subst P (sym b) (made_bad c.scene x.operand (value_code c x ⨟ plain (one_instr op)) b)
    go (inr b) =
        made-good c.scene (apply_one c op op_at x.operand).value (value_code c x ⨟ plain (one_instr op))
        (Moves-then (value_code c x) (plain (one_instr op)) 0 1 1 (value-moves c x v b) (one_instr-moves op))

set_instr-moves : (op : Operator) → Moves 2 (plain (set_instr op ∷ [])) 1
set_instr-moves Plus = plain-moves (set_instr Plus ∷ []) 2 1 refl
set_instr-moves Minus = plain-moves (set_instr Minus ∷ []) 2 1 refl
set_instr-moves Times = plain-moves (set_instr Times ∷ []) 2 1 refl
set_instr-moves Slash = plain-moves (set_instr Slash ∷ []) 2 1 refl
set_instr-moves LessEqual = plain-moves (set_instr LessEqual ∷ []) 2 1 refl
set_instr-moves GreaterEqual = plain-moves (set_instr GreaterEqual ∷ []) 2 1 refl
set_instr-moves Equal = plain-moves (set_instr Equal ∷ []) 2 1 refl
set_instr-moves Unequal = plain-moves (set_instr Unequal ∷ []) 2 1 refl
set_instr-moves Div = plain-moves (set_instr Div ∷ []) 2 1 refl
set_instr-moves Mod = plain-moves (set_instr Mod ∷ []) 2 1 refl
set_instr-moves And = plain-moves (set_instr And ∷ []) 2 1 refl
set_instr-moves Or = plain-moves (set_instr Or ∷ []) 2 1 refl
set_instr-moves Not = plain-moves (set_instr Not ∷ []) 2 1 refl
set_instr-moves Less = plain-moves (set_instr Less ∷ []) 2 1 refl
set_instr-moves Greater = plain-moves (set_instr Greater ∷ []) 2 1 refl
set_instr-moves In = plain-moves (set_instr In ∷ []) 2 1 refl

scalar_instr-moves : (b : ℕ) (op : Operator) → Moves 2 (plain (scalar_instr b op ∷ [])) 1
scalar_instr-moves b Plus = plain-moves (scalar_instr b Plus ∷ []) 2 1 refl
scalar_instr-moves b Minus = plain-moves (scalar_instr b Minus ∷ []) 2 1 refl
scalar_instr-moves b Times = plain-moves (scalar_instr b Times ∷ []) 2 1 refl
scalar_instr-moves b Slash = plain-moves (scalar_instr b Slash ∷ []) 2 1 refl
scalar_instr-moves b LessEqual = plain-moves (scalar_instr b LessEqual ∷ []) 2 1 refl
scalar_instr-moves b GreaterEqual = plain-moves (scalar_instr b GreaterEqual ∷ []) 2 1 refl
scalar_instr-moves b Equal = plain-moves (scalar_instr b Equal ∷ []) 2 1 refl
scalar_instr-moves b Unequal = plain-moves (scalar_instr b Unequal ∷ []) 2 1 refl
scalar_instr-moves b Div = plain-moves (scalar_instr b Div ∷ []) 2 1 refl
scalar_instr-moves b Mod = plain-moves (scalar_instr b Mod ∷ []) 2 1 refl
scalar_instr-moves b And = plain-moves (scalar_instr b And ∷ []) 2 1 refl
scalar_instr-moves b Or = plain-moves (scalar_instr b Or ∷ []) 2 1 refl
scalar_instr-moves b Not = plain-moves (scalar_instr b Not ∷ []) 2 1 refl
scalar_instr-moves b Less = plain-moves (scalar_instr b Less ∷ []) 2 1 refl
scalar_instr-moves b Greater = plain-moves (scalar_instr b Greater ∷ []) 2 1 refl
scalar_instr-moves b In = plain-moves (scalar_instr b In ∷ []) 2 1 refl

two_instr-moves : (scene : Scene) (op : Operator) (r t : Place) → Moves 2 (plain (two_instr scene op r t ∷ [])) 1
two_instr-moves scene op r t = go (is_set_kind (kind_of scene t))
  where
    go : (b : Bool) → Moves 2 (plain ((if b then set_instr op else scalar_instr (side_of scene r) op) ∷ [])) 1
    go true = set_instr-moves op
    go false = scalar_instr-moves (side_of scene r) op

binary : (scene : Scene) (op : Operator) (r t : Place) (x y : Part) → Moves 0 x 1 → Moves 0 y 1
    → Moves 0 (x ⨟ y ⨟ plain (two_instr scene op r t ∷ [])) 1
binary scene op r t x y f g =
    Moves-then x (y ⨟ plain (two_instr scene op r t ∷ [])) 0 1 1 f
    (Moves-then y (plain (two_instr scene op r t ∷ [])) 1 2 1 (Moves-raise y 0 1 1 g) (two_instr-moves scene op r t))

operation-moves : (scene : Scene) (op : Operator) (r t : Place) (x y : Part) → Moves 0 x 1 → Moves 0 y 1
    → Moves 0 (operation_code scene op r t x y) 1
operation-moves scene And r t x y f g = Moves-then x (skip AndJump y) 0 1 1 f (skip-and y g)
operation-moves scene Or r t x y f g = Moves-then x (skip OrJump y) 0 1 1 f (skip-or y g)
operation-moves scene Plus r t x y f g = binary scene Plus r t x y f g
operation-moves scene Minus r t x y f g = binary scene Minus r t x y f g
operation-moves scene Times r t x y f g = binary scene Times r t x y f g
operation-moves scene Slash r t x y f g = binary scene Slash r t x y f g
operation-moves scene Div r t x y f g = binary scene Div r t x y f g
operation-moves scene Mod r t x y f g = binary scene Mod r t x y f g
operation-moves scene Not r t x y f g = binary scene Not r t x y f g
operation-moves scene Equal r t x y f g = binary scene Equal r t x y f g
operation-moves scene Unequal r t x y f g = binary scene Unequal r t x y f g
operation-moves scene Less r t x y f g = binary scene Less r t x y f g
operation-moves scene Greater r t x y f g = binary scene Greater r t x y f g
operation-moves scene LessEqual r t x y f g = binary scene LessEqual r t x y f g
operation-moves scene GreaterEqual r t x y f g = binary scene GreaterEqual r t x y f g
operation-moves scene In r t x y f g = binary scene In r t x y f g

with_char_go : (c : Context) (o : Operand) (code high : Part) → GoodAs c.scene code high o → Wanted o
    → Valued c.scene (with_char c (with_operand o code high))
with_char_go c (Constant t v) code high g w = (tt, tt)
with_char_go c (StringConstant n l) code high g w = go (l == 1)
  where
    go : (b : Bool) → Valued c.scene (taken (if b then as_char c.source (StringConstant n l) else StringConstant n l) (with_operand (StringConstant n l) code high))
    go true = (tt, tt)
    go false = (tt, tt)
with_char_go c (Computed t) code high g w = (g, tt)
with_char_go c (Variable t) code high g w = (g, tt)
with_char_go c (NamedType t) code high g w = absurd w
with_char_go c (Procedure n t k s) code high g w = (tt, tt)
with_char_go c (StandardProcedure n) code high g w = absurd w
with_char_go c (ModuleName s) code high g w = absurd w
with_char_go c NotConstant code high g w = absurd g
with_char_go c InError code high g w = (g, tt)

with_char_bad : (c : Context) (o : Operand) → is_bad o ≡ false → is_bad (char_or_same c.source o) ≡ false
with_char_bad c (StringConstant n l) b = go (l == 1)
  where
    go : (t : Bool) → is_bad (if t then as_char c.source (StringConstant n l) else StringConstant n l) ≡ false
    go true = refl
    go false = refl
with_char_bad c (Constant t v) b = refl
with_char_bad c (Computed t) b = refl
with_char_bad c (Variable t) b = refl
with_char_bad c (NamedType t) b = refl
with_char_bad c (Procedure n t k s) b = refl
with_char_bad c (StandardProcedure n) b = refl
with_char_bad c (ModuleName s) b = refl
with_char_bad c NotConstant b = absurd cc
with_char_bad c InError b = absurd cc

char-moves : (c : Context) (x : Coded) → Valued c.scene x → is_bad x.operand ≡ false → Moves 0 (value_code c (with_char c x)) 1
char-moves c x v b =
    value-moves c (with_char c x) (with_char_go c x.operand x.code x.high v.0 v.1) (with_char_bad c x.operand b)

-- the worse of two operands is no value
made_worse : (scene : Scene) (o p : Operand) (code : Part) → Good scene (made (worse o p) code)
made_worse scene InError p code = refl
made_worse scene o InError code = refl
made_worse scene o p code = refl

-- where a test holds, what is made is made of the first
when_true : (scene : Scene) (b : Bool) (w r : Gives Operand) (code : Operand → Part) → b ≡ true
    → Good scene (made w.value (code w.value)) → Good scene (made (if b then w else r).value (code (if b then w else r).value))
when_true scene b w r code e g =
    let P : Bool → Type 0 = λ t. Good scene (made (if t then w else r).value (code (if t then w else r).value)) in
    subst P (sym e) g

or-true : (a : Bool) → (a || true) ≡ true
or-true true = refl
or-true false = refl

-- an operator on two values
pub two_coded-good : (c : Context) (op : Operator) (op_at x_at : ℕ) (x : Coded) (y_at : ℕ) (y : Coded) → Valued c.scene x → Valued c.scene y
    → Good c.scene (two_coded c op op_at x_at x y_at y).value
two_coded-good c op op_at x_at x y_at y v w = go (either_bad x.operand) (either_bad y.operand)
  where
    code : Operand → Part
    code r = operation_code c.scene op (operand_type r) (operand_type y.operand)
        (value_code c (with_char c x)) (value_code c (with_char c y))

    bad : (is_bad x.operand || is_bad y.operand) ≡ true → Good c.scene (two_coded c op op_at x_at x y_at y).value
    bad e = when_true c.scene (is_bad x.operand || is_bad y.operand) (gives (worse x.operand y.operand))
        (if is_procedure x.operand || is_procedure y.operand then wrong c op_at else operate_by c op op_at x.operand x_at y.operand y_at)
        code e (made_worse c.scene x.operand y.operand (code (worse x.operand y.operand)))

    go : (is_bad x.operand ≡ true) ⊎ (is_bad x.operand ≡ false) → (is_bad y.operand ≡ true) ⊎ (is_bad y.operand ≡ false)
        → Good c.scene (two_coded c op op_at x_at x y_at y).value
    go (inr a) (inr b) =
        let r : Operand = (operate c op op_at x.operand x_at y.operand y_at).value in
        made-good c.scene r (code r)
        (operation-moves c.scene op (operand_type r) (operand_type y.operand)
        (value_code c (with_char c x)) (value_code c (with_char c y)) (char-moves c x v a) (char-moves c y w b))
    go (inl a) other = bad (ap (λ t. t || is_bad y.operand) a)
    go (inr a) (inl b) = bad (ap (λ t. is_bad x.operand || t) b ∙ or-true (is_bad x.operand))

-- ---- sets

-- what holds of both holds of the one that a test takes
pub both_ways : {A : Type 0} (P : A → Type 0) (t : Bool) (a b : A) → P a → P b → P (if t then a else b)
both_ways P true a b p q = p
both_ways P false a b p q = q

pub as_char_go : (c : Context) (o : Operand) (code high : Part) → Valued c.scene (with_operand o code high) → Valued c.scene (with_operand (as_char c.source o) code high)
as_char_go c (StringConstant n l) code high v = (tt, tt)
as_char_go c o code high v = v

element_go : (c : Context) (x : Coded) (o : Operand) → Valued c.scene (with_operand o x.code x.high) → Valued c.scene (element_as x o)
element_go c x InError v = (refl, tt)
element_go c x o v = v

checked_go : (c : Context) (base : Place) (at : ℕ) (x : Coded) (o : Operand) → Valued c.scene (with_operand o x.code x.high)
    → Valued c.scene (element_as x (checked_element c base at o).value)
checked_go c base at x (Constant t v) g =
    both_ways (λ r. Valued c.scene (element_as x r.value)) (is_within (range_of c.scene base) v) (gives (Constant t v))
    (refuse c at out_of_range InError) (tt, tt) (refl, tt)
checked_go c base at x o g = element_go c x o g

pub taken_go : (c : Context) (o p : Operand) (code high : Part) → Valued c.scene (with_operand o code high)
    → Valued c.scene (with_operand (taken_beside c.source c.scene o p) code high)
taken_go c o p code high v =
    both_ways (λ r. Valued c.scene (with_operand r code high)) (is_beside_char c.scene o p) (as_char c.source o) o (as_char_go c o code high v) v

-- an element, as it is taken
pub element-good : (c : Context) (base : Place) (at : ℕ) (x : Coded) → Valued c.scene x → Valued c.scene (element_coded c base at x).value
element-good c base at x v =
    both_ways P (is_bad x.operand) (gives x.operand)
    (if is_broken c.scene base then gives InError else
    (if not (is_procedure x.operand) && is_compatible c.scene x.operand (Computed base) then
    checked_element c base at (taken_beside c.source c.scene x.operand (Computed base))
    else refuse c at not_assignable InError))
    (element_go c x x.operand v)
    (both_ways P (is_broken c.scene base) (gives InError)
    (if not (is_procedure x.operand) && is_compatible c.scene x.operand (Computed base) then
    checked_element c base at (taken_beside c.source c.scene x.operand (Computed base))
    else refuse c at not_assignable InError)
    (refl, tt)
    (both_ways P (not (is_procedure x.operand) && is_compatible c.scene x.operand (Computed base))
    (checked_element c base at (taken_beside c.source c.scene x.operand (Computed base)))
    (refuse c at not_assignable InError)
    (checked_go c base at x (taken_beside c.source c.scene x.operand (Computed base))
    (taken_go c x.operand (Computed base) x.code x.high v))
    (refl, tt)))
  where
    P : Gives Operand → Type 0
    P r = Valued c.scene (element_as x r.value)

-- what isn't broken has its code
not_bad : (scene : Scene) (o : Operand) (code high : Part) → GoodAs scene code high o → is_in_error_operand o ≡ false → is_bad o ≡ false
not_bad scene InError code high g b = absurd cc
not_bad scene NotConstant code high g b = absurd g
not_bad scene o code high g b = refl

unbroken-moves : (c : Context) (x : Coded) → Valued c.scene x → is_in_error_operand x.operand ≡ false → Moves 0 (value_code c x) 1
unbroken-moves c x v b = value-moves c x v (not_bad c.scene x.operand x.code x.high v.0 b)

-- where one is broken, so is the set
with_broken_low : (b h : Operand) → is_in_error_operand (with_elements b InError h) ≡ true
with_broken_low InError h = refl
with_broken_low (Constant t v) h = refl
with_broken_low b h = refl

with_broken_high : (b l : Operand) → is_in_error_operand (with_elements b l InError) ≡ true
with_broken_high (Constant t v) (Constant u w) = refl
with_broken_high (Constant t v) InError = refl
with_broken_high (Constant t v) l = refl
with_broken_high InError l = refl
with_broken_high b InError = refl
with_broken_high b l = refl

unbroken : (o : Operand) (b : Operand → Operand) → is_in_error_operand (b InError) ≡ true → is_in_error_operand (b o) ≡ false → is_in_error_operand o ≡ false
unbroken InError b e f = absurd cc
unbroken o b e f = refl

-- what is known of the elements so far: their code turns a set into a set
abbrev pub GoodSet : Elements → Type 0
GoodSet es = is_in_error_operand es.set ≡ false → Moves 1 es.code 1

pub add_element-good : (c : Context) (es : Elements) (x : Coded) → GoodSet es → Valued c.scene x → GoodSet (add_element c es x)
add_element-good c es x g v = λ e.
    let low : is_in_error_operand x.operand ≡ false = unbroken x.operand (λ l. with_elements es.set l x.operand) (with_broken_low es.set x.operand) e in
    Moves-then es.code (value_code c x ⨟ plain (Bit ∷ Union ∷ [])) 1 1 1
    (g (unbroken es.set (λ b. with_elements b x.operand x.operand) refl e))
    (Moves-then (value_code c x) (plain (Bit ∷ Union ∷ [])) 1 2 1
    (Moves-raise (value_code c x) 0 1 1 (unbroken-moves c x v low)) (plain-moves (Bit ∷ Union ∷ []) 2 1 refl))

pub add_range-good : (c : Context) (es : Elements) (x y : Coded) → GoodSet es → Valued c.scene x → Valued c.scene y → GoodSet (add_range c es x y)
add_range-good c es x y g v w = λ e.
    Moves-then es.code (value_code c x ⨟ value_code c y ⨟ plain (Span ∷ Union ∷ [])) 1 1 1
    (g (unbroken es.set (λ b. with_elements b x.operand y.operand) refl e))
    (Moves-then (value_code c x) (value_code c y ⨟ plain (Span ∷ Union ∷ [])) 1 2 1
    (Moves-raise (value_code c x) 0 1 1
    (unbroken-moves c x v (unbroken x.operand (λ l. with_elements es.set l y.operand) (with_broken_low es.set y.operand) e)))
    (Moves-then (value_code c y) (plain (Span ∷ Union ∷ [])) 2 3 1
    (Moves-raise (value_code c y) 0 1 2
    (unbroken-moves c y w (unbroken y.operand (λ h. with_elements es.set x.operand h) (with_broken_high es.set x.operand) e)))
    (plain-moves (Span ∷ Union ∷ []) 3 1 refl)))

set_go : (scene : Scene) (t : Place) (o : Operand) (code : Part) → (is_in_error_operand o ≡ false → Moves 1 code 1)
    → Good scene (set_coded t (record { set = o; code = code }))
set_go scene t (Constant u s) code g = tt
set_go scene t InError code g = refl
set_go scene t o code g = Moves-then (plain (Push (pos 0) ∷ [])) code 0 1 1 (plain-moves (Push (pos 0) ∷ []) 0 1 refl) (g refl)

pub set-good : (scene : Scene) (t : Place) (es : Elements) → GoodSet es → Good scene (set_coded t es)
set-good scene t es g = set_go scene t es.set es.code g

-- a result may stand where a value is wanted
pub made-wanted : (r : Operand) (code : Part) → Wanted (made r code).operand
made-wanted (Computed t) code = tt
made-wanted (Constant t v) code = tt
made-wanted r code = tt

pub two_coded-valued : (c : Context) (op : Operator) (op_at x_at : ℕ) (x : Coded) (y_at : ℕ) (y : Coded) → Valued c.scene x → Valued c.scene y
    → Valued c.scene (two_coded c op op_at x_at x y_at y).value
two_coded-valued c op op_at x_at x y_at y v w =
    let r : Operand = (operate c op op_at x.operand x_at y.operand y_at).value in (
      two_coded-good c op op_at x_at x y_at y v w,
      made-wanted r (operation_code c.scene op (operand_type r) (operand_type y.operand)
          (value_code c (with_char c x)) (value_code c (with_char c y))),
    )
