-- What holds of a value unless a diagnostic was noted or a used row has a part in error, and how it goes on from one definition to the
-- next.
use Rattle.std.specs.Prelude.{◌≡◌, Bool, true, false, if◌then◌else◌, List, [], ◌∷◌, ◌++◌}
use Rattle.std.proofs.Common.{refl}
use Rattle.m2_base.specs.Gives.{Gives, and_then, gives, gives_answer, gives_with}
use Rattle.m2_base.specs.Lists.{Each}
use Rattle.m2_base.specs.Statics.Contexts.{Scene}
use Rattle.m2_base.specs.declared.notes.Answer.{Answer}
use Rattle.m2_base.specs.declared.notes.Diag.{Diag}
use Rattle.const_eval.specs.Causes.{IsWholeUse}

-- the value has this property, unless a diagnostic was noted or a used row has a part in error
pub record UnlessSpoilt (scene : Scene) {A : Type 0} (P : A → Type 0) (g : Gives A) : Type 0 where
  pub holds : g.diags ≡ [] → Each (IsWholeUse scene) g.answers → P g.value

pub given : {scene : Scene} {A : Type 0} {P : A → Type 0} {x : A} → P x → UnlessSpoilt scene P (gives x)
given h = record { holds = λ e w. h }

pub answered : {scene : Scene} {A : Type 0} {P : A → Type 0} {a : Answer} {x : A} → (IsWholeUse scene a → P x) → UnlessSpoilt scene P (gives_answer a x)
answered h = record { holds = λ e w. h w.0 }

pub noted : {scene : Scene} {A : Type 0} {P : A → Type 0} {d : Diag} {x : A} → UnlessSpoilt scene P (gives_with d x)
noted = record { holds = λ e w. absurd cc }

-- of two lists that have nothing together neither has anything
first_empty : {A : Type 0} (xs ys : List A) → xs ++ ys ≡ [] → xs ≡ []
first_empty [] ys e = refl
first_empty (x ∷ xs) ys e = absurd cc

second_empty : {A : Type 0} (xs ys : List A) → xs ++ ys ≡ [] → ys ≡ []
second_empty [] ys e = e
second_empty (x ∷ xs) ys e = absurd cc

-- what holds of each of two lists together
pub each_first : {A : Type 0} (P : A → Type 0) (xs ys : List A) → Each P (xs ++ ys) → Each P xs
each_first P [] ys h = tt
each_first P (x ∷ xs) ys h = (h.0, each_first P xs ys h.1)

pub each_second : {A : Type 0} (P : A → Type 0) (xs ys : List A) → Each P (xs ++ ys) → Each P ys
each_second P [] ys h = h
each_second P (x ∷ xs) ys h = each_second P xs ys h.1

-- one after another
pub in_turn : {scene : Scene} {A B : Type 0} {P : A → Type 0} {Q : B → Type 0} {a : Gives A} {f : A → Gives B}
    → UnlessSpoilt scene P a → ((x : A) → P x → UnlessSpoilt scene Q (f x)) → UnlessSpoilt scene Q (and_then a f)
in_turn {scene = scene} {a = a} {f = f} h k =
    record {
      holds = λ e w. (k a.value (h.holds (first_empty a.diags (f a.value).diags e) (each_first (IsWholeUse scene) a.answers (f a.value).answers w))).holds
          (second_empty a.diags (f a.value).diags e) (each_second (IsWholeUse scene) a.answers (f a.value).answers w);
    }

-- of two values one, by a test that is known then
pub by_test : {scene : Scene} {A : Type 0} {P : A → Type 0} (b : Bool) {x y : Gives A} → (b ≡ true → UnlessSpoilt scene P x) → (b ≡ false → UnlessSpoilt scene P y)
    → UnlessSpoilt scene P (if b then x else y)
by_test true h k = h refl
by_test false h k = k refl

-- the second, where the test is known to fail
pub otherwise : {scene : Scene} {A : Type 0} {P : A → Type 0} (b : Bool) (x : Gives A) {y : Gives A} → b ≡ false → UnlessSpoilt scene P y → UnlessSpoilt scene P (if b then x else y)
otherwise true x e h = absurd cc
otherwise false x e h = h

-- what follows is weaker
pub weaker : {scene : Scene} {A : Type 0} {P Q : A → Type 0} {g : Gives A} → ((x : A) → P x → Q x) → UnlessSpoilt scene P g → UnlessSpoilt scene Q g
weaker {g = g} k h = record { holds = λ e w. k g.value (h.holds e w) }
