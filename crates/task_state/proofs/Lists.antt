-- Lists, and the answers that looks show.
use Rattle.std.specs.Prelude.{◌≡◌, ℕ, zero, suc, ◌<◌, ◌≤◌, List, [], ◌∷◌, ◌++◌, Option, Some, None, drop, length, slice_get, take, unwrap_or}
use Rattle.std.proofs.Common.{refl, sym, ap, subst, arith}
use Rattle.m2_base.specs.Lists.{Each, Grows, WhereKept}
use Rattle.m2_base.specs.States.{IsAmong, Look}
use Rattle.m2_base.specs.declared.notes.Answer.{Answer}
use Rattle.m2_base.proofs.EachLaws.{each_append, each_front, each_then}
use Rattle.m2_base.proofs.Kept.{IsAmong_left, IsAmong_right}

-- an item of a list, with those before and behind it
pub record Splits {A : Type 0} (xs : List A) (n : ℕ) (x : A) : Type 0 where
  pub all : xs ≡ take n xs ++ x ∷ drop (suc n) xs
  pub count : length (take n xs) ≡ n
  pub next : take (suc n) xs ≡ take n xs ++ x ∷ []
  pub within : n < length xs

pub some_is : {A : Type 0} (x y : A) → Some x ≡ Some y → x ≡ y
some_is x y e = ap (λ o. unwrap_or o x) e

pub splits : {A : Type 0} (xs : List A) (n : ℕ) (x : A) → slice_get xs n ≡ Some x → Splits xs n x
splits [] n x e = absurd (cc)
splits (y ∷ xs) zero x e =
    let same = some_is y x e in
    record { all = ap (λ z. z ∷ xs) same; count = refl; next = ap (λ z. z ∷ []) same; within = omega arith }
splits (y ∷ xs) (suc n) x e =
    let rest = splits xs n x e in
    let more = rest.within in
    record { all = ap (λ z. y ∷ z) rest.all; count = ap suc rest.count; next = ap (λ z. y ∷ z) rest.next; within = omega (arith, more) }

pub each_at : {A : Type 0} (P : A → Type 0) (xs : List A) (n : ℕ) (x : A) → Each P xs → slice_get xs n ≡ Some x → P x
each_at P [] n x h e = absurd (cc)
each_at P (y ∷ xs) zero x h e = subst P (some_is y x e) h.0
each_at P (y ∷ xs) (suc n) x h e = each_at P xs n x h.1 e

-- there is no item behind the last
pub none_left : {A : Type 0} (xs : List A) (n : ℕ) → slice_get xs n ≡ None → n ≤ length xs → n ≡ length xs
none_left [] zero e h = refl
none_left [] (suc n) e h = absurd (omega (arith, h))
none_left (x ∷ xs) zero e h = absurd (cc)
none_left (x ∷ xs) (suc n) e h = ap suc (none_left xs n e (omega (arith, h)))

-- what is known of answers stays, and the new ones are known
pub shown_more : (o o' : Option (List Look)) (more : List Look) (xs ys : List Answer) → Grows o more o' → WhereKept o (λ l. Each (IsAmong l) xs) → Each (IsAmong more) ys → WhereKept o' (λ l. Each (IsAmong l) (xs ++ ys))
shown_more None None more xs ys g old new = tt
shown_more None (Some b) more xs ys g old new = absurd g
shown_more (Some a) None more xs ys g old new = absurd g
shown_more (Some a) (Some b) more xs ys g old new =
    subst (λ l. Each (IsAmong l) (xs ++ ys)) (sym g)
    (each_append (IsAmong (a ++ more)) xs ys
    (each_then (IsAmong a) (IsAmong (a ++ more)) xs (λ r. IsAmong_left a more r) old)
    (each_then (IsAmong more) (IsAmong (a ++ more)) ys (λ r. IsAmong_right a more r) new))

pub shown_still : (o o' : Option (List Look)) (more : List Look) (xs : List Answer) → Grows o more o' → WhereKept o (λ l. Each (IsAmong l) xs) → WhereKept o' (λ l. Each (IsAmong l) xs)
shown_still None None more xs g old = tt
shown_still None (Some b) more xs g old = absurd g
shown_still (Some a) None more xs g old = absurd g
shown_still (Some a) (Some b) more xs g old =
    subst (λ l. Each (IsAmong l) xs) (sym g) (each_then (IsAmong a) (IsAmong (a ++ more)) xs (λ r. IsAmong_left a more r) old)

pub shown_front : (o : Option (List Look)) (xs ys : List Answer) → WhereKept o (λ l. Each (IsAmong l) (xs ++ ys)) → WhereKept o (λ l. Each (IsAmong l) xs)
shown_front None xs ys h = tt
shown_front (Some a) xs ys h = each_front (IsAmong a) xs ys h
