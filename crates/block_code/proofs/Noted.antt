-- What holds of a value unless a diagnostic was noted, and how it goes on from one definition to the next.
use Rattle.std.specs.Prelude.{◌≡◌, Bool, true, false, if◌then◌else◌, List, [], ◌∷◌, ◌++◌}
use Rattle.std.proofs.Common.{refl}
use Rattle.m2_base.specs.Gives.{Gives, and_then, gives, gives_answer, gives_with}
use Rattle.m2_base.specs.declared.notes.Answer.{Answer}
use Rattle.m2_base.specs.declared.notes.Diag.{Diag}

-- the value has this property, unless a diagnostic was noted
pub record UnlessNoted {A : Type 0} (P : A → Type 0) (g : Gives A) : Type 0 where
  pub holds : g.diags ≡ [] → P g.value

pub given : {A : Type 0} {P : A → Type 0} {x : A} → P x → UnlessNoted P (gives x)
given h = record { holds = λ e. h }

pub answered : {A : Type 0} {P : A → Type 0} {a : Answer} {x : A} → P x → UnlessNoted P (gives_answer a x)
answered h = record { holds = λ e. h }

pub noted : {A : Type 0} {P : A → Type 0} {d : Diag} {x : A} → UnlessNoted P (gives_with d x)
noted = record { holds = λ e. absurd cc }

-- of two lists that have nothing together neither has anything
first_empty : {A : Type 0} (xs ys : List A) → xs ++ ys ≡ [] → xs ≡ []
first_empty [] ys e = refl
first_empty (x ∷ xs) ys e = absurd cc

second_empty : {A : Type 0} (xs ys : List A) → xs ++ ys ≡ [] → ys ≡ []
second_empty [] ys e = e
second_empty (x ∷ xs) ys e = absurd cc

-- one after another
pub in_turn : {A B : Type 0} {P : A → Type 0} {Q : B → Type 0} {a : Gives A} {f : A → Gives B}
    → UnlessNoted P a → ((x : A) → P x → UnlessNoted Q (f x)) → UnlessNoted Q (and_then a f)
in_turn {a = a} {f = f} h k =
    record {
      holds = λ e. (k a.value (h.holds (first_empty a.diags (f a.value).diags e))).holds (second_empty a.diags (f a.value).diags e);
    }

-- what is made of a value
pub and_gives : {A B : Type 0} {P : A → Type 0} {Q : B → Type 0} {a : Gives A} (f : A → B) → UnlessNoted P a → ((x : A) → P x → Q (f x))
    → UnlessNoted Q (and_then a (λ x. gives (f x)))
and_gives {a = a} f h k = record { holds = λ e. k a.value (h.holds (first_empty a.diags [] e)) }

-- of two values one, by a test that is known then
pub by_test : {A : Type 0} {P : A → Type 0} (b : Bool) {x y : Gives A} → (b ≡ true → UnlessNoted P x) → (b ≡ false → UnlessNoted P y)
    → UnlessNoted P (if b then x else y)
by_test true h k = h refl
by_test false h k = k refl

-- the second, where the test is known to fail
pub otherwise : {A : Type 0} {P : A → Type 0} (b : Bool) (x : Gives A) {y : Gives A} → b ≡ false → UnlessNoted P y → UnlessNoted P (if b then x else y)
otherwise true x e h = absurd cc
otherwise false x e h = h

-- what follows is weaker
pub weaker : {A : Type 0} {P Q : A → Type 0} {g : Gives A} → ((x : A) → P x → Q x) → UnlessNoted P g → UnlessNoted Q g
weaker {g = g} k h = record { holds = λ e. k g.value (h.holds e) }
