-- Two operands beside each other.
use Rattle.std.proofs.Common.{◌≡◌, ◌∙◌, ℕ, Bool, true, false, [], ◌∷◌, Some, None, refl, sym, ap, if◌then◌else◌, ℤ}
use Rattle.std.specs.Prelude.{◌&&◌}
use Rattle.std.proofs.lemmas.Bool.{false≢true, true≢false}
use Rattle.m2_base.specs.Gives.{Gives, gives}
use Rattle.m2_base.specs.Rows.{is_same_place}
use Rattle.m2_base.specs.Standard.{character, whole}
use Rattle.m2_base.specs.Statics.Compatible.{is_beside_char, is_integer_or_cardinal, taken_beside}
use Rattle.m2_base.specs.Statics.Contexts.{Context, Scene, Source, diag, refuse}
use Rattle.m2_base.specs.Statics.Diagnostics.{out_of_range}
use Rattle.m2_base.specs.Statics.Operands.{as_char}
use Rattle.m2_base.specs.Statics.Operations.{as_number, base_type}
use Rattle.m2_base.specs.Statics.Ranges.{is_within}
use Rattle.m2_base.specs.Statics.Types.{base_of, range_of}
use Rattle.m2_base.specs.declared.operands.Operand.{Operand}
use Rattle.m2_base.specs.declared.operands.Operand.TheVariants.{Constant, InError, StringConstant}
use Rattle.m2_base.specs.declared.notes.Diag.{Diag}
use Rattle.m2_base.specs.declared.rows.Place.{Place}
use Rattle.m2_base.specs.Statics.NamedOperands.{operand_by}
use Rattle.m2_base.specs.declared.rows.Mode.{Mode}
use Rattle.m2_base.specs.declared.rows.RowMeaning.{RowMeaning}
use Rattle.m2_base.specs.declared.rows.RowMeaning.TheVariants.{Const, Module, Proc, Standard, TypeName, Var}
use Rattle.const_eval.specs.Numbers.{takes_base}

-- an operand as it is taken, by the test
pub taken_by : (source : Source) (scene : Scene) (x y : Operand) (b : Bool) → b ≡ is_beside_char scene x y → (if b then as_char source x else x) ≡ taken_beside source scene x y
taken_by source scene x y b e = ap (λ t. if t then as_char source x else x) e

-- a string that is taken as a CHAR has that type
pub char_taken : (c : Context) (x y : Operand) → base_of c.scene character ≡ character → true ≡ is_beside_char c.scene x y → character ≡ base_type c (taken_beside c.source c.scene x y)
char_taken c (StringConstant n l) y base e = sym base ∙ ap (base_type c) (taken_by c.source c.scene (StringConstant n l) y true e)
char_taken c x y base e = absurd (true≢false e)

-- what stands under a condition that holds
pub some_where : {T : Type 0} (b : Bool) (p q : T) → b ≡ true → p ≡ q → Some p ≡ (if b then Some q else None)
some_where b p q holds same = ap (λ v. Some v) same ∙ sym (ap (λ t. if t then Some q else None) holds)

-- and under one that doesn't
pub none_where : {T : Type 0} (b : Bool) (q : T) → b ≡ false → None ≡ (if b then Some q else None)
none_where b q fails = sym (ap (λ t. if t then Some q else None) fails)

pub pair_of : {A B : Type 0} (a b : A) (c d : B) → a ≡ b → c ≡ d → ◌≡◌ {A = A × B} (a, c) (b, d)
pair_of {A} {B} a b c d e h = ap (λ (u : A). let p : A × B = (u, c) in p) e ∙ ap (λ (u : B). let p : A × B = (b, u) in p) h

-- an operand that isn't a whole constant beside INTEGER or CARDINAL stays
pub number_stays : (c : Context) (at : ℕ) (t : Place) (x : Operand) → takes_base x t ≡ false → gives x ≡ as_number c at t x
number_stays c at t (Constant u v) h = sym (ap (λ b. if b then (if is_within (range_of c.scene t) v then gives (Constant t v) else refuse c at out_of_range InError) else gives (Constant u v)) h)
number_stays c at t x h = refl

-- ** Whole constants beside INTEGER or CARDINAL

pub takes_number : (x : Operand) (t : Place) → takes_base x t ≡ true → is_integer_or_cardinal t ≡ true
takes_number (Constant u v) t e = go (is_same_place u whole) e
  where
    go : (b : Bool) → (b && is_integer_or_cardinal t) ≡ true → is_integer_or_cardinal t ≡ true
    go true e = e
    go false e = absurd (false≢true e)
takes_number x t e = absurd (false≢true e)

nothing_is : (d : Diag) → [] ≡ d ∷ [] → ⊥
nothing_is d e = absurd (cc)

-- what takes another's base has it
pub number_taken : (c : Context) (at : ℕ) (t : Place) (x y : Operand) → (is_integer_or_cardinal t ≡ true → base_of c.scene t ≡ t) → takes_base x t ≡ true → gives y ≡ as_number c at t x → t ≡ base_type c y
number_taken c at t (Constant u v) y base takes e =
    go (is_within (range_of c.scene t) v)
    (e ∙ ap (λ b. if b then (if is_within (range_of c.scene t) v then gives (Constant t v) else refuse c at out_of_range InError) else gives (Constant u v)) takes)
  where
    go : (b : Bool) → gives y ≡ (if b then gives (Constant t v) else refuse c at out_of_range InError) → t ≡ base_type c y
    go true e = sym (base (takes_number (Constant u v) t takes)) ∙ ap (base_type c) (sym (ap (λ (g : Gives Operand). g.value) e))
    go false e = absurd (nothing_is (diag c at out_of_range) (ap (λ (g : Gives Operand). g.diags) e))
number_taken c at t x y base takes e = absurd (false≢true takes)

-- what doesn't keeps its own
pub number_kept : (c : Context) (at : ℕ) (t : Place) (x y : Operand) → takes_base x t ≡ false → gives y ≡ as_number c at t x → x ≡ y
number_kept c at t x y stays e = ap (λ (g : Gives Operand). g.value) (number_stays c at t x stays ∙ sym e)

-- a row that no expression can name
pub other_row : (scene : Scene) (name : ℕ) (m : RowMeaning) → ((t : Place) (v : ℤ) (l : ℕ) → m ≡ Const t v l → ⊥) → ((t : Place) → m ≡ TypeName t → ⊥) → ((t : Place) (mode : Mode) (o : ℕ) → m ≡ Var t mode o → ⊥)
    → ((t : Place) (n s : ℕ) → m ≡ Proc t n s → ⊥) → ((s : ℕ) → m ≡ Module s → ⊥) → ((n : ℕ) → m ≡ Standard n → ⊥) → InError ≡ operand_by scene name m
other_row scene name (Const t v l) a b c d e f = absurd (a t v l refl)
other_row scene name (TypeName t) a b c d e f = absurd (b t refl)
other_row scene name (Var t mode o) a b c d e f = absurd (c t mode o refl)
other_row scene name (Proc t n s) a b c d e f = absurd (d t n s refl)
other_row scene name (Module s) a b c d e f = absurd (e s refl)
other_row scene name (Standard n) a b c d e f = absurd (f n refl)
other_row scene name m a b c d e f = refl
