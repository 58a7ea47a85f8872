-- One of many.
use Rattle.std.proofs.Common.{◌≡◌, ℕ, zero, suc, ◌<◌, List, [], ◌∷◌, length, get_or, map, sym, subst, arith}
use Rattle.std.specs.List.{AllByRecursion}

pub one_of_all : {A B : Type 0} (P : B → Type 0) (f : A → B) (xs : List A) (i : ℕ) (x : A) → AllByRecursion P (map f xs) → i < length xs → x ≡ get_or xs i x → P (f x)
one_of_all P f [] i x all lt is = absurd (omega arith)
one_of_all P f (y ∷ xs) zero x all lt is = subst (λ z. P (f z)) (sym is) all.0
one_of_all P f (y ∷ xs) (suc i) x all lt is = one_of_all P f xs i x all.1 (omega arith) is
