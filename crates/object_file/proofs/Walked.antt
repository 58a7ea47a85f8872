-- What a walk over objects comes to: it goes to each object once, and where it goes it goes on to the objects of the imports.
use Rattle.std.proofs.Common.{◌≡◌, ◌≢◌, ◌⊎◌, inl, inr, ℕ, zero, suc, ◌+◌, ◌<◌, ◌≤◌, Bool, true, false, List, [], ◌∷◌, ◌++◌, length, Option, Some, None, refl, sym, ap, subst, ◌∙◌, arith}
use Rattle.std.proofs.lemmas.Bool.{false≢true}
use Rattle.std.specs.Prelude.{slice_get, slice_set, replicate}
use Rattle.std.specs.List.{AllByRecursion}
use Rattle.std.proofs.lemmas.List.{length-append}
use Rattle.object_file.specs.Contents.{Contents, definitions_of}
use Rattle.object_file.specs.Picking.{AllDifferent}
use Rattle.object_file.specs.Running.{Walks, over, passes, enters, objects_of}

-- ---- the members of a list

abbrev pub Has : List ℕ → ℕ → Type 0
Has [] x = ⊥
Has (y ∷ ys) x = (x ≡ y) ⊎ Has ys x

pub has_left : (xs ys : List ℕ) (x : ℕ) → Has xs x → Has (xs ++ ys) x
has_left [] ys x h = absurd h
has_left (z ∷ xs) ys x (inl e) = inl e
has_left (z ∷ xs) ys x (inr h) = inr (has_left xs ys x h)

pub has_right : (xs ys : List ℕ) (x : ℕ) → Has ys x → Has (xs ++ ys) x
has_right [] ys x h = h
has_right (z ∷ xs) ys x h = inr (has_right xs ys x h)

has_parts : (xs ys : List ℕ) (x : ℕ) → Has (xs ++ ys) x → Has xs x ⊎ Has ys x
has_parts [] ys x h = inr h
has_parts (z ∷ xs) ys x (inl e) = inl (inl e)
has_parts (z ∷ xs) ys x (inr h) = on (has_parts xs ys x h) where
  on : Has xs x ⊎ Has ys x → Has (z ∷ xs) x ⊎ Has ys x
  on (inl k) = inl (inr k)
  on (inr k) = inr k

all_not : (x : ℕ) (ys : List ℕ) → (Has ys x → ⊥) → AllByRecursion (λ j. x ≢ j) ys
all_not x [] h = tt
all_not x (y ∷ ys) h = ((λ e. h (inl e)), all_not x ys (λ k. h (inr k)))

pub not_has : (x : ℕ) (ys : List ℕ) → AllByRecursion (λ j. x ≢ j) ys → Has ys x → ⊥
not_has x [] a h = absurd h
not_has x (y ∷ ys) a (inl e) = a.0 e
not_has x (y ∷ ys) a (inr h) = not_has x ys a.1 h

differ_append : (xs ys : List ℕ) → AllDifferent xs → AllDifferent ys → ((j : ℕ) → Has xs j → Has ys j → ⊥) → AllDifferent (xs ++ ys)
differ_append [] ys a b apart = b
differ_append (x ∷ xs) ys a b apart =
    (all_not x (xs ++ ys) (λ h. here (has_parts xs ys x h)), differ_append xs ys a.1 b (λ j h k. apart j (inr h) k))
  where
    here : Has xs x ⊎ Has ys x → ⊥
    here (inl h) = not_has x xs a.0 h
    here (inr h) = apart x (inl refl) h

-- ---- marks

abbrev pub falses : List Bool → ℕ
falses [] = 0
falses (true ∷ marks) = falses marks
falses (false ∷ marks) = suc (falses marks)

set_there : (marks : List Bool) (k j : ℕ) → slice_get marks j ≡ Some true → slice_get (slice_set marks k true) j ≡ Some true
set_there [] k j e = e
set_there (m ∷ marks) zero zero e = refl
set_there (m ∷ marks) zero (suc j) e = e
set_there (m ∷ marks) (suc k) zero e = e
set_there (m ∷ marks) (suc k) (suc j) e = set_there marks k j e

set_here : (marks : List Bool) (k : ℕ) (b : Bool) → slice_get marks k ≡ Some b → slice_get (slice_set marks k true) k ≡ Some true
set_here [] k b e = absurd cc
set_here (m ∷ marks) zero b e = refl
set_here (m ∷ marks) (suc k) b e = set_here marks k b e

set_false : (marks : List Bool) (k j : ℕ) → slice_get (slice_set marks k true) j ≡ Some false → slice_get marks j ≡ Some false
set_false [] k j e = e
set_false (m ∷ marks) zero zero e = absurd cc
set_false (m ∷ marks) zero (suc j) e = e
set_false (m ∷ marks) (suc k) zero e = e
set_false (m ∷ marks) (suc k) (suc j) e = set_false marks k j e

set_true : (marks : List Bool) (k j : ℕ) → slice_get (slice_set marks k true) j ≡ Some true → (j ≡ k) ⊎ (slice_get marks j ≡ Some true)
set_true [] k j e = inr e
set_true (m ∷ marks) zero zero e = inl refl
set_true (m ∷ marks) zero (suc j) e = inr e
set_true (m ∷ marks) (suc k) zero e = inr e
set_true (m ∷ marks) (suc k) (suc j) e = on (set_true marks k j e) where
  on : (j ≡ k) ⊎ (slice_get marks j ≡ Some true) → (suc j ≡ suc k) ⊎ (slice_get marks j ≡ Some true)
  on (inl h) = inl (ap suc h)
  on (inr h) = inr h

set_less : (marks : List Bool) (k : ℕ) → slice_get marks k ≡ Some false → falses (slice_set marks k true) + 1 ≡ falses marks
set_less [] k e = absurd cc
set_less (true ∷ marks) zero e = absurd cc
set_less (false ∷ marks) zero e = omega arith
set_less (true ∷ marks) (suc k) e = set_less marks k e
set_less (false ∷ marks) (suc k) e = let h = set_less marks k e in omega (arith, h)

pub never : (o : Option Bool) → o ≡ Some true → o ≡ Some false → ⊥
never o t f = false≢true (same (sym f ∙ t)) where
  same : ◌≡◌ {A = Option Bool} (Some false) (Some true) → false ≡ true
  same e = cc

pub all_false : (n : ℕ) → falses (replicate n false) ≡ n
all_false zero = refl
all_false (suc n) = ap suc (all_false n)

pub none_true : (n j : ℕ) → slice_get (replicate n false) j ≡ Some true → ⊥
none_true zero j e = absurd cc
none_true (suc n) zero e = absurd cc
none_true (suc n) (suc j) e = none_true n j e

-- ---- a walk

pub record Walked (os : List Contents) (marks : List Bool) (ks : List ℕ) (after : List Bool) (order : List ℕ) : Type 0 where
  pub grows : (j : ℕ) → slice_get marks j ≡ Some true → slice_get after j ≡ Some true
  pub stays : (j : ℕ) → slice_get after j ≡ Some false → slice_get marks j ≡ Some false
  pub reached : (j : ℕ) → Has ks j → slice_get after j ≡ Some true
  pub fresh : (j : ℕ) → Has order j → (slice_get marks j ≡ Some false) × (slice_get after j ≡ Some true)
  pub left : (j : ℕ) → slice_get after j ≡ Some true → (slice_get marks j ≡ Some true) ⊎ Has order j
  pub differ : AllDifferent order
  pub closed : (j : ℕ) → Has order j → (o : Contents) × (slice_get os j ≡ Some o) × ((t : ℕ) → Has (objects_of os (definitions_of o)) t → slice_get after t ≡ Some true)
  pub few : length order + falses after ≡ falses marks

pub walked : (os : List Contents) (marks : List Bool) (ks : List ℕ) (after : List Bool) (order : List ℕ) → Walks os marks ks after order → Walked os marks ks after order
walked os marks ks after order (over m) = record {
  grows = λ j e. e;
  stays = λ j e. e;
  reached = λ j h. absurd h;
  fresh = λ j h. absurd h;
  left = λ j e. inl e;
  differ = tt;
  closed = λ j h. absurd h;
  few = omega arith;
}
walked os marks ks after order (passes m k js a r mark w) =
    let h = walked os m js a r w in
    record {
      grows = h.grows;
      stays = h.stays;
      reached = λ j x. on j x h;
      fresh = h.fresh;
      left = h.left;
      differ = h.differ;
      closed = h.closed;
      few = h.few;
    }
  where
    on : (j : ℕ) → Has (k ∷ js) j → Walked os m js a r → slice_get a j ≡ Some true
    on j (inl e) h = h.grows j (subst (λ (n : ℕ). slice_get m n ≡ Some true) (sym e) mark)
    on j (inr x) h = h.reached j x
walked os marks ks after order (enters m k js o mid a first others mark there inner rest) = whole (walked os (slice_set m k true) (objects_of os (definitions_of o)) mid first inner) (walked os mid js a others rest) where
  whole : Walked os (slice_set m k true) (objects_of os (definitions_of o)) mid first → Walked os mid js a others → Walked os m (k ∷ js) a (first ++ k ∷ others)
  whole h g = record {
    grows = λ j e. g.grows j (h.grows j (set_there m k j e));
    stays = λ j e. set_false m k j (h.stays j (g.stays j e));
    reached = reached;
    fresh = λ j x. fresh j (has_parts first (k ∷ others) j x);
    left = λ j e. left j (g.left j e);
    differ = differ_append first (k ∷ others) h.differ (all_not k others (λ x. never (slice_get mid k) mid_k (g.fresh k x).0), g.differ) apart;
    closed = λ j x. closed j (has_parts first (k ∷ others) j x);
    few = (let a = h.few in let b = g.few in let c = set_less m k mark in let n = length-append first (k ∷ others) in omega (arith, a, b, c, n));
  }
    where
      mid_k : slice_get mid k ≡ Some true
      mid_k = h.grows k (set_here m k false mark)

      reached : (j : ℕ) → Has (k ∷ js) j → slice_get a j ≡ Some true
      reached j (inl e) = subst (λ (n : ℕ). slice_get a n ≡ Some true) (sym e) (g.grows k mid_k)
      reached j (inr x) = g.reached j x

      fresh : (j : ℕ) → Has first j ⊎ Has (k ∷ others) j → (slice_get m j ≡ Some false) × (slice_get a j ≡ Some true)
      fresh j (inl x) = let f = h.fresh j x in (set_false m k j f.0, g.grows j f.1)
      fresh j (inr (inl e)) = (subst (λ (n : ℕ). slice_get m n ≡ Some false) (sym e) mark, subst (λ (n : ℕ). slice_get a n ≡ Some true) (sym e) (g.grows k mid_k))
      fresh j (inr (inr x)) = let f = g.fresh j x in (set_false m k j (h.stays j f.0), f.1)

      before : (j : ℕ) → (slice_get (slice_set m k true) j ≡ Some true) ⊎ Has first j → (slice_get m j ≡ Some true) ⊎ Has (first ++ k ∷ others) j
      before j (inr x) = inr (has_left first (k ∷ others) j x)
      before j (inl e) = on (set_true m k j e) where
        on : (j ≡ k) ⊎ (slice_get m j ≡ Some true) → (slice_get m j ≡ Some true) ⊎ Has (first ++ k ∷ others) j
        on (inl same) = inr (has_right first (k ∷ others) j (inl same))
        on (inr is) = inl is

      left : (j : ℕ) → (slice_get mid j ≡ Some true) ⊎ Has others j → (slice_get m j ≡ Some true) ⊎ Has (first ++ k ∷ others) j
      left j (inr x) = inr (has_right first (k ∷ others) j (inr x))
      left j (inl e) = before j (h.left j e)

      apart : (j : ℕ) → Has first j → Has (k ∷ others) j → ⊥
      apart j x (inl e) = never (slice_get (slice_set m k true) k) (set_here m k false mark) (subst (λ (n : ℕ). slice_get (slice_set m k true) n ≡ Some false) e (h.fresh j x).0)
      apart j x (inr y) = never (slice_get mid j) (h.fresh j x).1 (g.fresh j y).0

      closed : (j : ℕ) → Has first j ⊎ Has (k ∷ others) j → (p : Contents) × (slice_get os j ≡ Some p) × ((t : ℕ) → Has (objects_of os (definitions_of p)) t → slice_get a t ≡ Some true)
      closed j (inl x) = let c = h.closed j x in (c.0, c.1, λ t y. g.grows t (c.2 t y))
      closed j (inr (inl e)) = (o, subst (λ (n : ℕ). slice_get os n ≡ Some o) (sym e) there, λ t y. g.grows t (h.reached t y))
      closed j (inr (inr x)) = g.closed j x
