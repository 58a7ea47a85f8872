-- Facts of what a shelf holds, where it tells.
use Rattle.std.proofs.Common.{◌≡◌, Option, Some, None, refl, subst, IfSome}

pub told : {A : Type 0} (o : Option A) {P : A → Type 0} → ((x : A) → o ≡ Some x → P x) → IfSome o P
told None h = tt
told (Some x) h = h x refl

pub tells : {A : Type 0} (o : Option A) (x : A) (P : A → Type 0) → IfSome o P → o ≡ Some x → P x
tells o x P h e = subst (λ o. IfSome o P) e h

pub told_all : {A : Type 0} (o : Option A) (P : A → Type 0) → ((x : A) → P x) → IfSome o P
told_all None P h = tt
told_all (Some x) P h = h x

pub map_told : {A : Type 0} (o : Option A) (P Q : A → Type 0) → ((x : A) → P x → Q x) → IfSome o P → IfSome o Q
map_told None P Q h p = tt
map_told (Some x) P Q h p = h x p

pub some_same : {X : Type 0} (x y : X) → Some x ≡ Some y → x ≡ y
some_same x y p = cc
