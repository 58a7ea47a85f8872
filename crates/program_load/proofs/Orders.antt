-- Objects have one running order.
use Rattle.std.proofs.Common.{◌≡◌, ℕ, Bool, true, false, List, [], ◌∷◌, ◌++◌, Option, Some, length, replicate, slice_get, refl, sym, ◌∙◌, ap, subst}
use Rattle.std.specs.List.{slice_set}
use Rattle.object_file.specs.Contents.{Contents, definitions_of}
use Rattle.object_file.specs.Running.{Walks, enters, objects_of, over, passes, picked}
use Rattle.m2_link.specs.Refusals.{AreLinkedTo}

some_one : {A : Type 0} (x y : A) → Some x ≡ Some y → x ≡ y
some_one x y e = cc

marked : (o : Option Bool) → o ≡ Some true → o ≡ Some false → ⊥
marked o e f = let h : Some true ≡ Some false = sym e ∙ f in cc

record Same (after after' : List Bool) (order order' : List ℕ) : Type 0 where
  marks : after ≡ after'
  orders : order ≡ order'

one_walk : (os : List Contents) (marks : List Bool) (ks : List ℕ) (after : List Bool) (order : List ℕ) → Walks os marks ks after order → (after' : List Bool) (order' : List ℕ) → Walks os marks ks after' order' → Same after after' order order'
one_walk os _ _ _ _ (over marks) _ _ (over _) = record { marks = refl; orders = refl }
one_walk os _ _ _ _ (passes marks k ks after order e w) after' order' (passes _ _ _ _ _ f v) = one_walk os marks ks after order w after' order' v
one_walk os _ _ _ _ (passes marks k ks after order e w) _ _ (enters _ _ _ o mid after' first others f g v u) = absurd (marked (slice_get marks k) e f)
one_walk os _ _ _ _ (enters marks k ks o mid after first others f g v u) after' order' (passes _ _ _ _ _ e w) = absurd (marked (slice_get marks k) e f)
one_walk os _ _ _ _ (enters marks k ks o mid after first others f g v u) _ _ (enters _ _ _ o' mid' after' first' others' f' g' v' u') =
    let same : o' ≡ o = some_one o' o (sym g' ∙ g) in
    let a = one_walk os (slice_set marks k true) (objects_of os (definitions_of o)) mid first v mid' first' (subst (λ (x : Contents). Walks os (slice_set marks k true) (objects_of os (definitions_of x)) mid' first') same v') in
    let b = one_walk os mid ks after others u after' others' (subst (λ (m : List Bool). Walks os m ks after' others') (sym a.marks) u') in
    record { marks = b.marks; orders = ap (λ (x : List ℕ). x ++ k ∷ others) a.orders ∙ ap (λ (x : List ℕ). first' ++ k ∷ x) b.orders }

pub one_program : (os program other : List Contents) → AreLinkedTo os program → AreLinkedTo os other → program ≡ other
one_program os program other a b =
    let same = one_walk os (replicate (length os) false) (0 ∷ []) a.runs.0 a.order a.runs.1 b.runs.0 b.order b.runs.1 in
    a.program_is ∙ ap (picked os) same.orders ∙ sym b.program_is
