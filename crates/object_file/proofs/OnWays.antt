-- What is left of a walk, from step to step.
use Rattle.std.proofs.Common.{◌≡◌, ◌≢◌, ◌⊎◌, inl, inr, ℕ, zero, suc, ◌+◌, ◌-◌, ◌<◌, ◌≤◌, Bool, true, false, List, [], ◌∷◌, ◌++◌, length, drop, Option, Some, None, refl, sym, ap, subst, ◌∙◌, arith, append_assoc, append-nil}
use Rattle.std.specs.Prelude.{slice_get, slice_set, replicate, reverse, Result, Ok, Err, OnOk}
use Rattle.std.specs.List.{AllByRecursion}
use Rattle.std.proofs.lemmas.List.{reverse-append, length-set}
use Rattle.std.specs.Option.{option_to_list}
use Rattle.code_form.specs.Modules.{Import}
use Rattle.object_file.specs.Contents.{Contents, definitions_of}
use Rattle.object_file.specs.Running.{Walks, over, passes, enters, object_of, objects_of, IsRunningOrder}
use Rattle.object_file.specs.Ways.{Enters, was_there, is_new, imports_in, followed, imports_from, Leaves, IsOn, to_enter, frame_steps, to_leave, steps_left, Steps}
use Rattle.object_file.specs.declared.running.Frame.{Frame}
use Rattle.object_file.specs.declared.running.Walk.{Walk}

-- ---- lists

pub next_there : {A : Type 0} (xs : List A) (k : ℕ) (x : A) → slice_get xs k ≡ Some x → drop k xs ≡ x ∷ drop (k + 1) xs
next_there [] k x e = absurd cc
next_there (y ∷ ys) zero x e = ap (λ z. z ∷ ys) (one y x e) where
  one : {A : Type 0} (y x : A) → ◌≡◌ {A = Option A} (Some y) (Some x) → y ≡ x
  one y x e = cc
next_there (y ∷ ys) (suc k) x e =
    let n : suc k + 1 ≡ suc (k + 1) = omega arith in
    next_there ys k x e ∙ ap (λ (m : ℕ). x ∷ drop m (y ∷ ys)) (sym n)

pub none_there : {A : Type 0} (xs : List A) (k : ℕ) → slice_get xs k ≡ None → drop k xs ≡ []
none_there [] zero e = refl
none_there [] (suc k) e = refl
none_there (y ∷ ys) zero e = absurd cc
none_there (y ∷ ys) (suc k) e = none_there ys k e

top_first : (fs : List Frame) (f : Frame) → reverse (fs ++ f ∷ []) ≡ f ∷ reverse fs
top_first fs f = reverse-append fs (f ∷ [])

all_more : {A : Type 0} (P : A → Type 0) (xs : List A) (x : A) → AllByRecursion P xs → P x → AllByRecursion P (xs ++ x ∷ [])
all_more P [] x h p = (p, tt)
all_more P (y ∷ ys) x h p = (h.0, all_more P ys x h.1 p)

pub all_front : {A : Type 0} (P : A → Type 0) (xs ys : List A) → AllByRecursion P (xs ++ ys) → AllByRecursion P xs × AllByRecursion P ys
all_front P [] ys h = (tt, h)
all_front P (x ∷ xs) ys h = let r = all_front P xs ys h.1 in ((h.0, r.0), r.1)

-- ---- how many steps are left

leave_more : (os : List Contents) (fs : List Frame) (f : Frame) → to_leave os (fs ++ f ∷ []) ≡ to_leave os fs + frame_steps os f
leave_more os [] f = omega arith
leave_more os (g ∷ fs) f = let h = leave_more os fs f in omega (arith, h)

enter_less : (os : List Contents) (marks : List Bool) (k : ℕ) (o : Contents) → slice_get os k ≡ Some o → slice_get marks k ≡ Some false
    → to_enter os (slice_set marks k true) + (length (definitions_of o) + 2) ≡ to_enter os marks
enter_less [] marks k o e f = absurd cc
enter_less (p ∷ os) [] k o e f = absurd cc
enter_less (p ∷ os) (true ∷ marks) zero o e f = absurd cc
enter_less (p ∷ os) (false ∷ marks) zero o e f = let same = ap (λ (x : Contents). length (definitions_of x)) (one p o e) in omega (arith, same) where
  one : (p o : Contents) → ◌≡◌ {A = Option Contents} (Some p) (Some o) → p ≡ o
  one p o e = cc
enter_less (p ∷ os) (true ∷ marks) (suc k) o e f = enter_less os marks k o e f
enter_less (p ∷ os) (false ∷ marks) (suc k) o e f = let h = enter_less os marks k o e f in omega (arith, h)

-- ---- what is left

pub leaving : (os : List Contents) (f : Frame) (fs : List Frame) (marks after : List Bool) (rest : List ℕ) → imports_from os f ≡ [] → Leaves os fs marks after rest → Leaves os (f ∷ fs) marks after (f.object ∷ rest)
leaving os f fs marks after rest none h = (marks, [], rest, subst (λ (is : List Import). Walks os marks (objects_of os is) marks []) (sym none) (over marks), h, refl)

-- the imports behind the next one are those of this frame
abbrev Follows : List Contents → Frame → Frame → Import → Type 0
Follows os f g i = (imports_from os f ≡ i ∷ imports_from os g) × (g.object ≡ f.object)

skipping : (os : List Contents) (f g : Frame) (fs : List Frame) (i : Import) (marks after : List Bool) (rest : List ℕ) → Follows os f g i → object_of os i ≡ None → Leaves os (g ∷ fs) marks after rest → Leaves os (f ∷ fs) marks after rest
skipping os f g fs i marks after rest n none h =
    let same : objects_of os (imports_from os g) ≡ objects_of os (imports_from os f) = ap (λ (x : Option ℕ). option_to_list x ++ objects_of os (imports_from os g)) (sym none) ∙ ap (objects_of os) (sym n.0) in
    (h.0, h.1, h.2, subst (λ (ks : List ℕ). Walks os marks ks h.0 h.1) same h.3, h.4, h.5 ∙ ap (λ (k : ℕ). h.1 ++ k ∷ h.2) n.1)

passing : (os : List Contents) (f g : Frame) (fs : List Frame) (i : Import) (k : ℕ) (marks after : List Bool) (rest : List ℕ) → Follows os f g i → object_of os i ≡ Some k → slice_get marks k ≡ Some true → Leaves os (g ∷ fs) marks after rest → Leaves os (f ∷ fs) marks after rest
passing os f g fs i k marks after rest n some mark h =
    let same : k ∷ objects_of os (imports_from os g) ≡ objects_of os (imports_from os f) = ap (λ (x : Option ℕ). option_to_list x ++ objects_of os (imports_from os g)) (sym some) ∙ ap (objects_of os) (sym n.0) in
    (h.0, h.1, h.2, subst (λ (ks : List ℕ). Walks os marks ks h.0 h.1) same (passes marks k (objects_of os (imports_from os g)) h.0 h.1 mark h.3), h.4, h.5 ∙ ap (λ (k : ℕ). h.1 ++ k ∷ h.2) n.1)

entering : (os : List Contents) (f g : Frame) (fs : List Frame) (i : Import) (k : ℕ) (o : Contents) (marks after : List Bool) (rest : List ℕ) → Follows os f g i → object_of os i ≡ Some k → slice_get marks k ≡ Some false → slice_get os k ≡ Some o
    → Leaves os (record { object = k; next = 0 } ∷ g ∷ fs) (slice_set marks k true) after rest → Leaves os (f ∷ fs) marks after rest
entering os f g fs i k o marks after rest n some mark there h =
    let l = h.4 in
    let same : k ∷ objects_of os (imports_from os g) ≡ objects_of os (imports_from os f) = ap (λ (x : Option ℕ). option_to_list x ++ objects_of os (imports_from os g)) (sym some) ∙ ap (objects_of os) (sym n.0) in
    let inner : Walks os (slice_set marks k true) (objects_of os (definitions_of o)) h.0 h.1 = subst (λ (x : Option Contents). Walks os (slice_set marks k true) (objects_of os (imports_in x)) h.0 h.1) there h.3 in (
      l.0,
      h.1 ++ k ∷ l.1,
      l.2,
      subst (λ (ks : List ℕ). Walks os marks ks l.0 (h.1 ++ k ∷ l.1)) same (enters marks k (objects_of os (imports_from os g)) o h.0 l.0 h.1 l.1 mark there inner l.3),
      l.4,
      h.5 ∙ ap (λ (r : List ℕ). h.1 ++ k ∷ r) (l.5 ∙ ap (λ (j : ℕ). l.1 ++ j ∷ l.2) n.1) ∙ sym (append_assoc h.1 (k ∷ l.1) (f.object ∷ l.2)),
    )

-- ---- one step

abbrev pub next_of : Frame → Frame
next_of f = record { object = f.object; next = f.next + 1 }

follows : (os : List Contents) (f : Frame) (i : Import) → followed os f ≡ Some i → Follows os f (next_of f) i
follows os f i e = (next_there (imports_in (slice_get os f.object)) f.next i e, refl)

fewer_imports : (os : List Contents) (f : Frame) (i : Import) → followed os f ≡ Some i → frame_steps os f ≡ frame_steps os (next_of f) + 1
fewer_imports os f i e = let h = ap length (follows os f i e).0 in omega (arith, h)

abbrev Led : List Contents → Frame → Walk → Walk → Type 0
Led os f w v = (after : List Bool) (rest : List ℕ) → Leaves os (reverse v.way.items) v.marks.items after rest
    → (r : List ℕ) × Leaves os (f ∷ reverse w.way.items) w.marks.items after r × (w.order.items ++ r ≡ v.order.items ++ rest)

-- an object is left
pub left_step : (os : List Contents) (f : Frame) (w v : Walk) → IsOn os w → followed os f ≡ None → v.marks.items ≡ w.marks.items → v.way.items ≡ w.way.items → v.order.items ≡ w.order.items ++ f.object ∷ [] → Steps os f w v
left_step os f w v on none marks way order =
    let sizes = ap (to_enter os) marks in
    let steps = ap (to_leave os) way in
    record {
      on = record { marks = ap length marks ∙ on.marks; way = subst (AllByRecursion (λ f. f.object < length os)) (sym way) on.way };
      fewer = omega (arith, sizes, steps);
      leads = led;
    }
  where
    led : Led os f w v
    led after rest h = (
      f.object ∷ rest,
      leaving os f (reverse w.way.items) w.marks.items after rest (none_there (imports_in (slice_get os f.object)) f.next none)
          (subst (λ (fs : List Frame). Leaves os (reverse fs) w.marks.items after rest) way (subst (λ (m : List Bool). Leaves os (reverse v.way.items) m after rest) marks h)),
      sym (ap (λ (o : List ℕ). o ++ rest) order ∙ append_assoc w.order.items (f.object ∷ []) rest),
    )

-- an import is followed that leads to no object
pub skip_step : (os : List Contents) (f : Frame) (w v : Walk) (i : Import) → IsOn os w → f.object < length os → followed os f ≡ Some i → object_of os i ≡ None → v.marks.items ≡ w.marks.items → v.way.items ≡ w.way.items ++ next_of f ∷ [] → v.order.items ≡ w.order.items → Steps os f w v
skip_step os f w v i on lt some none marks way order =
    let sizes = ap (to_enter os) marks in
    let steps = ap (to_leave os) way ∙ leave_more os w.way.items (next_of f) in
    let less = fewer_imports os f i some in
    record {
      on = record { marks = ap length marks ∙ on.marks; way = subst (AllByRecursion (λ f. f.object < length os)) (sym way) (all_more (λ f. f.object < length os) w.way.items (next_of f) on.way lt) };
      fewer = omega (arith, sizes, steps, less);
      leads = led;
    }
  where
    led : Led os f w v
    led after rest h = (
      rest,
      skipping os f (next_of f) (reverse w.way.items) i w.marks.items after rest (follows os f i some) none
          (subst (λ (fs : List Frame). Leaves os fs w.marks.items after rest) (ap reverse way ∙ top_first w.way.items (next_of f)) (subst (λ (m : List Bool). Leaves os (reverse v.way.items) m after rest) marks h)),
      ap (λ (o : List ℕ). o ++ rest) (sym order),
    )

-- an import is followed to an object
pub enter_step : (os : List Contents) (f : Frame) (w u v : Walk) (i : Import) (k : ℕ) (o : Contents) → IsOn os w → f.object < length os → followed os f ≡ Some i → object_of os i ≡ Some k → k < length os → slice_get os k ≡ Some o
    → u.marks.items ≡ w.marks.items → u.way.items ≡ w.way.items ++ next_of f ∷ [] → u.order.items ≡ w.order.items → Enters k u v → Steps os f w v
enter_step os f w u v i k o on lt some leads_to within there marks way order (was_there mark m y r) =
    let sizes = ap (to_enter os) (m ∙ marks) in
    let steps = ap (to_leave os) (y ∙ way) ∙ leave_more os w.way.items (next_of f) in
    let less = fewer_imports os f i some in
    record {
      on = record { marks = ap length (m ∙ marks) ∙ on.marks; way = subst (AllByRecursion (λ f. f.object < length os)) (sym (y ∙ way)) (all_more (λ f. f.object < length os) w.way.items (next_of f) on.way lt) };
      fewer = omega (arith, sizes, steps, less);
      leads = led;
    }
  where
    led : Led os f w v
    led after rest h = (
      rest,
      passing os f (next_of f) (reverse w.way.items) i k w.marks.items after rest (follows os f i some) leads_to (ap (λ (b : List Bool). slice_get b k) (sym marks) ∙ mark)
          (subst (λ (fs : List Frame). Leaves os fs w.marks.items after rest) (ap reverse (y ∙ way) ∙ top_first w.way.items (next_of f)) (subst (λ (b : List Bool). Leaves os (reverse v.way.items) b after rest) (m ∙ marks) h)),
      ap (λ (l : List ℕ). l ++ rest) (sym (r ∙ order)),
    )
enter_step os f w u v i k o on lt some leads_to within there marks way order (is_new mark m y r) =
    let not : slice_get w.marks.items k ≡ Some false = ap (λ (b : List Bool). slice_get b k) (sym marks) ∙ mark in
    let marks_are : v.marks.items ≡ slice_set w.marks.items k true = m ∙ ap (λ (b : List Bool). slice_set b k true) marks in
    let way_is : v.way.items ≡ (w.way.items ++ next_of f ∷ []) ++ new ∷ [] = y ∙ ap (λ (fs : List Frame). fs ++ new ∷ []) way in
    let sizes = ap (to_enter os) marks_are in
    let entered = enter_less os w.marks.items k o there not in
    let steps = ap (to_leave os) way_is ∙ leave_more os (w.way.items ++ next_of f ∷ []) new ∙ ap (λ (n : ℕ). n + frame_steps os new) (leave_more os w.way.items (next_of f)) in
    let all : frame_steps os new ≡ length (definitions_of o) + 1 = ap (λ (x : Option Contents). length (imports_in x) + 1) there in
    let less = fewer_imports os f i some in
    record {
      on = record {
        marks = ap length marks_are ∙ length-set w.marks.items k true ∙ on.marks;
        way = subst (AllByRecursion (λ f. f.object < length os)) (sym way_is)
            (all_more (λ f. f.object < length os) (w.way.items ++ next_of f ∷ []) new (all_more (λ f. f.object < length os) w.way.items (next_of f) on.way lt) within);
      };
      fewer = omega (arith, sizes, entered, steps, all, less);
      leads = led;
    }
  where
    new : Frame
    new = record { object = k; next = 0 }

    way_top : reverse ((w.way.items ++ next_of f ∷ []) ++ new ∷ []) ≡ new ∷ next_of f ∷ reverse w.way.items
    way_top = top_first (w.way.items ++ next_of f ∷ []) new ∙ ap (λ (fs : List Frame). new ∷ fs) (top_first w.way.items (next_of f))

    led : Led os f w v
    led after rest h = (
      rest,
      entering os f (next_of f) (reverse w.way.items) i k o w.marks.items after rest (follows os f i some) leads_to (ap (λ (b : List Bool). slice_get b k) (sym marks) ∙ mark) there
          (subst (λ (fs : List Frame). Leaves os fs (slice_set w.marks.items k true) after rest) (ap reverse (y ∙ ap (λ (fs : List Frame). fs ++ new ∷ []) way) ∙ way_top)
          (subst (λ (b : List Bool). Leaves os (reverse v.way.items) b after rest) (m ∙ ap (λ (b : List Bool). slice_set b k true) marks) h)),
      ap (λ (l : List ℕ). l ++ rest) (sym (r ∙ order)),
    )

-- ---- the walk

-- it goes on as the running order does
pub record IsUnderWay (os : List Contents) (w : Walk) : Type 0 where
  pub on : IsOn os w
  pub leads : (after : List Bool) (rest : List ℕ) → Leaves os (reverse w.way.items) w.marks.items after rest → Walks os (replicate (length os) false) (0 ∷ []) after (w.order.items ++ rest)

first_there : (os : List Contents) → 0 < length os → (o : Contents) × (slice_get os 0 ≡ Some o)
first_there [] lt = absurd (omega (arith, lt))
first_there (o ∷ os) lt = (o, refl)

marks_of : (n : ℕ) → length (replicate n false) ≡ n
marks_of zero = refl
marks_of (suc n) = ap suc (marks_of n)

-- a walk that came to the first object
pub under_way : (os : List Contents) (w v : Walk) → 0 < length os → w.marks.items ≡ replicate (length os) false → w.way.items ≡ [] → w.order.items ≡ [] → Enters 0 w v → IsUnderWay os v
under_way os w v lt marks way order (was_there mark m y r) = absurd (none (length os) (subst (λ (b : List Bool). slice_get b 0 ≡ Some true) marks mark)) where
  none : (n : ℕ) → slice_get (replicate n false) 0 ≡ Some true → ⊥
  none zero e = absurd cc
  none (suc n) e = absurd cc
under_way os w v lt marks way order (is_new mark m y r) =
    let first = first_there os lt in
    let not : slice_get (replicate (length os) false) 0 ≡ Some false = ap (λ (b : List Bool). slice_get b 0) (sym marks) ∙ mark in
    let marks_are : v.marks.items ≡ slice_set (replicate (length os) false) 0 true = m ∙ ap (λ (b : List Bool). slice_set b 0 true) marks in
    let way_is : v.way.items ≡ record { object = 0; next = 0 } ∷ [] = y ∙ ap (λ (fs : List Frame). fs ++ record { object = 0; next = 0 } ∷ []) way in
    let order_is : v.order.items ≡ [] = r ∙ order in
    record {
      on = record {
        marks = ap length marks_are ∙ length-set (replicate (length os) false) 0 true ∙ marks_of (length os);
        way = subst (AllByRecursion (λ (f : Frame). f.object < length os)) (sym way_is) (lt, tt);
      };
      leads = λ after rest h. led first.0 first.1 not after rest (subst (λ (fs : List Frame). Leaves os (reverse fs) (slice_set (replicate (length os) false) 0 true) after rest) way_is (subst (λ (b : List Bool). Leaves os (reverse v.way.items) b after rest) marks_are h)) order_is;
    }
  where
    led : (o : Contents) → slice_get os 0 ≡ Some o → slice_get (replicate (length os) false) 0 ≡ Some false → (after : List Bool) (rest : List ℕ)
        → Leaves os (record { object = 0; next = 0 } ∷ []) (slice_set (replicate (length os) false) 0 true) after rest → v.order.items ≡ [] → Walks os (replicate (length os) false) (0 ∷ []) after (v.order.items ++ rest)
    led o there not after rest h none =
        let inner : Walks os (slice_set (replicate (length os) false) 0 true) (objects_of os (definitions_of o)) h.0 h.1 = subst (λ (x : Option Contents). Walks os (slice_set (replicate (length os) false) 0 true) (objects_of os (imports_in x)) h.0 h.1) there h.3 in
        let last = h.4 in
        let same : h.1 ++ 0 ∷ [] ≡ v.order.items ++ rest = ap (λ (r : List ℕ). h.1 ++ 0 ∷ r) (sym last.1) ∙ sym h.5 ∙ ap (λ (r : List ℕ). r ++ rest) (sym none) in
        subst (λ (r : List ℕ). Walks os (replicate (length os) false) (0 ∷ []) after r) same
        (enters (replicate (length os) false) 0 [] o h.0 after h.1 [] not there inner (subst (λ (b : List Bool). Walks os h.0 [] b []) (sym last.0) (over h.0)))

-- a step further
pub goes_on : (os : List Contents) (w p v : Walk) (f : Frame) → w.way.items ≡ p.way.items ++ f ∷ [] → p.marks.items ≡ w.marks.items → p.order.items ≡ w.order.items → IsUnderWay os w → Steps os f p v → IsUnderWay os v
goes_on os w p v f way marks order u s = record { on = s.on; leads = led } where
  led : (after : List Bool) (rest : List ℕ) → Leaves os (reverse v.way.items) v.marks.items after rest → Walks os (replicate (length os) false) (0 ∷ []) after (v.order.items ++ rest)
  led after rest h =
      let l = s.leads after rest h in
      let back : Leaves os (reverse w.way.items) w.marks.items after l.0 = subst (λ (fs : List Frame). Leaves os fs w.marks.items after l.0) (sym (ap reverse way ∙ top_first p.way.items f)) (subst (λ (b : List Bool). Leaves os (f ∷ reverse p.way.items) b after l.0) marks l.1) in
      subst (λ (r : List ℕ). Walks os (replicate (length os) false) (0 ∷ []) after r) (ap (λ (r : List ℕ). r ++ l.0) (sym order) ∙ l.2) (u.leads after l.0 back)

pub on_popped : (os : List Contents) (w p : Walk) (f : Frame) → w.way.items ≡ p.way.items ++ f ∷ [] → p.marks.items ≡ w.marks.items → IsOn os w → IsOn os p × (f.object < length os)
on_popped os w p f way marks on =
    let all = all_front (λ (f : Frame). f.object < length os) p.way.items (f ∷ []) (subst (AllByRecursion (λ (f : Frame). f.object < length os)) way on.way) in
    (record { marks = ap length marks ∙ on.marks; way = all.0 }, all.1.0)

pub fewer_left : (os : List Contents) (w p v : Walk) (f : Frame) → w.way.items ≡ p.way.items ++ f ∷ [] → p.marks.items ≡ w.marks.items → Steps os f p v → steps_left os v < steps_left os w
fewer_left os w p v f way marks s =
    let less = s.fewer in
    let sizes = ap (to_enter os) marks in
    let steps = ap (to_leave os) way ∙ leave_more os p.way.items f in
    omega (arith, less, sizes, steps)

-- the way is over
pub arrived : (os : List Contents) (w : Walk) → IsUnderWay os w → w.way.items ≡ [] → IsRunningOrder os w.order.items
arrived os w u none = (
  w.marks.items,
  subst (λ (r : List ℕ). Walks os (replicate (length os) false) (0 ∷ []) w.marks.items r) (append-nil w.order.items)
      (u.leads w.marks.items [] (subst (λ (fs : List Frame). Leaves os (reverse fs) w.marks.items w.marks.items []) (sym none) (refl, refl))),
)

pub on_ok : {T E : Type 0} (r : Result T E) {P Q : Type 0} → OnOk r P → (P → Q) → OnOk r Q
on_ok (Ok x) h f = f h
on_ok (Err e) h f = h
