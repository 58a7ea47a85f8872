-- HIGH by the meaning of a type, and the standard functions that are none of one argument.
use Rattle.std.proofs.Common.{◌≡◌, ◌∙◌, ℕ, length, ap, sym, subst, refl, arith}
use Rattle.m2_base.specs.Gives.{gives}
use Rattle.m2_base.specs.Rows.{Fits}
use Rattle.m2_base.specs.Standard.{cardinal}
use Rattle.m2_base.specs.States.{Frame}
use Rattle.m2_base.specs.Statics.Contexts.{Context, Scene, refuse}
use Rattle.m2_base.specs.Statics.Diagnostics.{not_a_variable, wrong_argument}
use Rattle.m2_base.specs.declared.builtins.Builtin.{Builtin}
use Rattle.m2_base.specs.declared.builtins.Builtin.TheVariants.{Abs, Cap, Chr, High, Max, Min, Odd, Ord, Size}
use Rattle.m2_base.specs.declared.operands.Operand.{Operand}
use Rattle.m2_base.specs.declared.operands.Operand.TheVariants.{Computed, InError, NotConstant, Variable}
use Rattle.m2_base.specs.declared.rows.Place.{Place}
use Rattle.m2_base.specs.declared.rows.RowMeaning.{RowMeaning}
use Rattle.m2_base.specs.declared.rows.RowMeaning.TheVariants.{Array, OpenArray}
use Rattle.type_rules.specs.Scenes.{IsThere}
use Rattle.block_code.specs.Coded.{Coded, coded, in_error}
use Rattle.expr_sem.specs.Kinds.{IsKindHere}
use Rattle.block_code.specs.StandardFunctions.{as_variable_by, function_of_one, high_code, high_of}

-- the index type of an array can be asked for
pub index_there : {f : Frame} (m : RowMeaning) (i t : Place) (s : ℕ) → m ≡ Array i t s → IsKindHere f m → IsThere f i
index_there {f} m i t s e k =
    let fits = (subst (λ (n : RowMeaning). Fits (length f.setting.texts.names) k.place n) e k.said.fits).0 in
    let bound = k.ordinal in
    let scope = k.there.scope in
    record {
      scope = omega (arith, fits, bound, scope);
      entered = λ same open_yet.
          let here : k.place.scope ≡ f.setting.fills = omega (arith, fits, bound, scope, same) in
          let entered = k.there.entered here open_yet in
          omega (arith, fits, here, same, entered);
    }

-- what is no array of fixed length
pub not_fixed : (scene : Scene) (x : Coded) (m : RowMeaning) → ((i t : Place) (s : ℕ) → m ≡ Array i t s → ⊥) → gives x.high ≡ gives (high_code scene x m)
not_fixed scene x (Array i t s) h = absurd (h i t s refl)
not_fixed scene x m h = refl

pub open_high : (c : Context) (at : ℕ) (x : Coded) (m : RowMeaning) (t : Place) → m ≡ OpenArray t → gives (coded (Computed cardinal) (high_code c.scene x m)) ≡ high_of c at x m
open_high c at x m t e = ap (λ (n : RowMeaning). gives (coded (Computed cardinal) (high_code c.scene x n))) e ∙ ap (λ (n : RowMeaning). high_of c at x n) (sym e)

pub no_high_of : (c : Context) (at : ℕ) (x : Coded) (m : RowMeaning) → ((i t : Place) (s : ℕ) → m ≡ Array i t s → ⊥) → ((t : Place) → m ≡ OpenArray t → ⊥) → refuse c at wrong_argument in_error ≡ high_of c at x m
no_high_of c at x (Array i t s) h k = absurd (h i t s refl)
no_high_of c at x (OpenArray t) h k = absurd (k t refl)
no_high_of c at x m h k = refl

-- what is no variable, and not in error
pub no_variable : (c : Context) (at : ℕ) (x : Coded) (o : Operand) → ((t : Place) → o ≡ Variable t → ⊥) → (o ≡ InError → ⊥) → (o ≡ NotConstant → ⊥) → refuse c at not_a_variable in_error ≡ as_variable_by c at x o
no_variable c at x (Variable t) v e n = absurd (v t refl)
no_variable c at x InError v e n = absurd (e refl)
no_variable c at x NotConstant v e n = absurd (n refl)
no_variable c at x o v e n = refl

pub no_function : (c : Context) (f : Builtin) (at : ℕ) (x : Coded) → (f ≡ Abs → ⊥) → (f ≡ Cap → ⊥) → (f ≡ Chr → ⊥) → (f ≡ Odd → ⊥) → (f ≡ Ord → ⊥) → (f ≡ Min → ⊥) → (f ≡ Max → ⊥) → (f ≡ Size → ⊥) → (f ≡ High → ⊥)
    → gives in_error ≡ function_of_one c f at x
no_function c Abs at x h1 h2 h3 h4 h5 h6 h7 h8 h9 = absurd (h1 refl)
no_function c Cap at x h1 h2 h3 h4 h5 h6 h7 h8 h9 = absurd (h2 refl)
no_function c Chr at x h1 h2 h3 h4 h5 h6 h7 h8 h9 = absurd (h3 refl)
no_function c Odd at x h1 h2 h3 h4 h5 h6 h7 h8 h9 = absurd (h4 refl)
no_function c Ord at x h1 h2 h3 h4 h5 h6 h7 h8 h9 = absurd (h5 refl)
no_function c Min at x h1 h2 h3 h4 h5 h6 h7 h8 h9 = absurd (h6 refl)
no_function c Max at x h1 h2 h3 h4 h5 h6 h7 h8 h9 = absurd (h7 refl)
no_function c Size at x h1 h2 h3 h4 h5 h6 h7 h8 h9 = absurd (h8 refl)
no_function c High at x h1 h2 h3 h4 h5 h6 h7 h8 h9 = absurd (h9 refl)
no_function c f at x h1 h2 h3 h4 h5 h6 h7 h8 h9 = refl
