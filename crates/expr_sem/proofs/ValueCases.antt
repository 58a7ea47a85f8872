-- The code of a value and the check behind it, by what the operand is.
use Rattle.std.proofs.Common.{◌≡◌, ◌∙◌, ◌≢◌, arith, ◌==◌, ℕ, ℤ, Bool, true, false, if◌then◌else◌, List, [], ◌∷◌, length, Result, Ok, Err, Option, ap, sym, refl}
use Rattle.std.specs.Result.{IfOk}
use Rattle.std.proofs.lemmas.Bool.{eq-eqb, eqb-true, true≢false}
use Rattle.m2_base.specs.Gives.{gives}
use Rattle.m2_base.specs.Statics.Contexts.{Context, level_of, refuse}
use Rattle.m2_base.specs.Statics.Diagnostics.{not_a_procedure_value, out_of_range}
use Rattle.m2_base.specs.Statics.Operands.{characters_of}
use Rattle.m2_base.specs.declared.memory.Memory.{Memory}
use Rattle.m2_base.specs.declared.operands.Operand.{Operand}
use Rattle.m2_base.specs.declared.operands.Operand.TheVariants.{Computed, Constant, ModuleName, NamedType, Procedure, StandardProcedure, StringConstant, Variable}
use Rattle.m2_base.specs.declared.rows.Place.{Place}
use Rattle.m2_base.specs.Statics.Ranges.{Range, is_within}
use Rattle.m2_base.specs.Statics.Assignable.{is_assignable, taken_into}
use Rattle.block_code.specs.Coded.{Coded, in_error, taken, value_by}
use Rattle.block_code.specs.Fitting.{fit_of}
use Rattle.block_code.specs.Parts.{Part, none}
use Rattle.block_code.specs.Values.{as_value_by, assigned_to, in_range, in_range_by, is_passed_over}
use Rattle.expr_sem.specs.Takings.{taken_as, taking}
use Rattle.expr_sem.specs.declared.takings.Taking.{Taking}
use Rattle.expr_sem.specs.declared.takings.Taking.TheVariants.{PassedOver, Refused, Taken}

-- ** Characters

pub characters_none : (bytes : List ℕ) → (length bytes == 0) ≡ true → 0 ∷ [] ≡ characters_of bytes
characters_none [] h = refl
characters_none (b ∷ bytes) h = absurd (let e = eqb-true (length (b ∷ bytes)) 0 h in omega (arith, e))

pub characters_some : (bytes : List ℕ) → (length bytes == 0) ≡ false → bytes ≡ characters_of bytes
characters_some [] h = absurd (true≢false (sym (eq-eqb 0 0 refl) ∙ h))
characters_some (b ∷ bytes) h = refl

pub copied_as : {T : Type 0} (items : T → List ℕ) (r : Result T Memory) {bytes want : List ℕ} → IfOk r (λ v. items v ≡ bytes) → bytes ≡ want → IfOk r (λ v. items v ≡ want)
copied_as items (Ok v) h e = h ∙ e
copied_as items (Err m) h e = tt

-- ** What needs nothing

pub other_value : (c : Context) (code : Part) (o : Operand) → ((t : Place) (v : _) → o ≡ Constant t v → ⊥) → ((n l : ℕ) → o ≡ StringConstant n l → ⊥) → ((t : Place) → o ≡ Variable t → ⊥)
    → ((n : ℕ) (t : Place) (k s : ℕ) → o ≡ Procedure n t k s → ⊥) → code ≡ value_by c code o
other_value c code (Constant t v) a b d e = absurd (a t v refl)
other_value c code (StringConstant n l) a b d e = absurd (b n l refl)
other_value c code (Variable t) a b d e = absurd (d t refl)
other_value c code (Procedure n t k s) a b d e = absurd (e n t k s refl)
other_value c code o a b d e = refl

pub other_fit : (c : Context) (to : Place) (o : Operand) → ((t : Place) → o ≡ Computed t → ⊥) → ((t : Place) → o ≡ Variable t → ⊥) → none ≡ fit_of c.scene to o
other_fit c to (Computed t) a b = absurd (a t refl)
other_fit c to (Variable t) a b = absurd (b t refl)
other_fit c to o a b = refl

-- ** A value that is wanted

pub other_wanted : (c : Context) (at : ℕ) (x : Coded) (o : Operand) → ((t : Place) → o ≡ NamedType t → ⊥) → ((n : ℕ) (t : Place) (k s : ℕ) → o ≡ Procedure n t k s → ⊥) → ((n : ℕ) → o ≡ StandardProcedure n → ⊥)
    → ((s : ℕ) → o ≡ ModuleName s → ⊥) → gives x ≡ as_value_by c at x o
other_wanted c at x (NamedType t) a b d e = absurd (a t refl)
other_wanted c at x (Procedure n t k s) a b d e = absurd (b n t k s refl)
other_wanted c at x (StandardProcedure n) a b d e = absurd (d n refl)
other_wanted c at x (ModuleName s) a b d e = absurd (e s refl)
other_wanted c at x o a b d e = refl

pub of_module : (c : Context) (at : ℕ) (x : Coded) (n : ℕ) (t : Place) (k s : ℕ) → level_of c.scene.block t.scope ≡ 0 → gives x ≡ as_value_by c at x (Procedure n t k s)
of_module c at x n t k s h =
    ap (λ b. if b then gives x else refuse c at not_a_procedure_value in_error) (sym (eq-eqb (level_of c.scene.block t.scope) 0 h))

not_zero : (n : ℕ) → n ≢ 0 → (n == 0) ≡ false
not_zero n h = go (n == 0) refl
  where
    go : (b : Bool) → (n == 0) ≡ b → (n == 0) ≡ false
    go true e = absurd (h (eqb-true n 0 e))
    go false e = e

pub of_procedure : (c : Context) (at : ℕ) (x : Coded) (n : ℕ) (t : Place) (k s : ℕ) → level_of c.scene.block t.scope ≢ 0 → refuse c at not_a_procedure_value in_error ≡ as_value_by c at x (Procedure n t k s)
of_procedure c at x n t k s h =
    ap (λ b. if b then gives x else refuse c at not_a_procedure_value in_error) (sym (not_zero (level_of c.scene.block t.scope) h))

-- ** A value in a range

pub range_passed : (c : Context) (at : ℕ) (r : Option Range) (x : Coded) (o : Operand) → ((t : Place) (v : ℤ) → o ≡ Constant t v → ⊥) → gives x ≡ in_range_by c at r x o
range_passed c at r x (Constant t v) a = absurd (a t v refl)
range_passed c at r x o a = refl

pub range_kept : (c : Context) (at : ℕ) (r : Option Range) (x : Coded) (t : Place) (v : ℤ) → is_within r v ≡ true → gives x ≡ in_range_by c at r x (Constant t v)
range_kept c at r x t v h = ap (λ b. if b then gives x else refuse c at out_of_range in_error) (sym h)

pub range_left : (c : Context) (at : ℕ) (r : Option Range) (x : Coded) (t : Place) (v : ℤ) → is_within r v ≡ false → refuse c at out_of_range in_error ≡ in_range_by c at r x (Constant t v)
range_left c at r x t v h = ap (λ b. if b then gives x else refuse c at out_of_range in_error) (sym h)

-- ** A value that is taken

pub taken_is : (c : Context) (to : Place) (at code : ℕ) (x : Coded) (t : Taking) → t ≡ taking c to x.operand → taken_as c to at code x t ≡ assigned_to c to at code x
taken_is c to at code x t e = ap (taken_as c to at code x) e ∙ go (is_passed_over c.scene to x.operand) (is_assignable c.scene to x.operand)
  where
    go : (p a : Bool) → taken_as c to at code x (if p then PassedOver else (if a then Taken (taken_into c.source c.scene to x.operand) else Refused))
        ≡ (if p then gives in_error else (if a then in_range c at to (taken (taken_into c.source c.scene to x.operand) x) else refuse c at code in_error))
    go true a = refl
    go false true = refl
    go false false = refl
