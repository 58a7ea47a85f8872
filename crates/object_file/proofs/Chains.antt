-- Static links one after another, and the links that are known at once.
use Rattle.std.proofs.Common.{◌≡◌, ◌≢◌, ℕ, zero, suc, ◌+◌, ◌-◌, ◌<◌, ◌≤◌, Bool, true, false, cond, eqb, List, [], ◌∷◌, ◌++◌, length, get_or, Some, None, Option, Result, Ok, Err, refl, sym, ap, subst, ◌∙◌, ◌⊎◌, inl, inr, arith}
use Rattle.std.specs.Prelude.{OnOk}
use Rattle.std.proofs.lemmas.Bool.{ne_eqb, cases_lt}
use Rattle.std.proofs.lemmas.Option.{slice_get_past}
use Rattle.std.proofs.lemmas.Bool.Decides.{eqb_tells}
use Rattle.std.proofs.lemmas.List.{get_or_append_left, get_or_past, length-append}
use Rattle.std.proofs.Math.Seq.{get_or-append_seam}
use Rattle.code_form.specs.Modules.{World, Procedure}
use Rattle.code_form.specs.Valid.{outer_or, outer_of, linked}
use Rattle.object_file.specs.declared.links.Links.{Links}
use Rattle.object_file.specs.Links.{OutersBelow, AreLinks, AreLinksOf, IsNearer, IsJump}

none_some : {A : Type 0} {x : A} → None ≡ Some x → ⊥
none_some e = absurd cc

some_same : (k m : ℕ) → Some k ≡ Some m → k ≡ m
some_same k m e = cc

-- so many links, then so many more
pub linked_plus : (w : World) (a b k m : ℕ) → linked w a k ≡ Some m → linked w (a + b) k ≡ linked w b m
unfolding linked
linked_plus w zero b k m e = let n : 0 + b ≡ b = omega arith in ap (λ (h : ℕ). linked w h k) n ∙ ap (linked w b) (some_same k m e)
linked_plus w (suc a) b k m e = let n : suc a + b ≡ suc (a + b) = omega arith in ap (λ (h : ℕ). linked w h k) n ∙ chosen (eqb (outer_of w k) 0) e (linked_plus w a b (outer_of w k) m) where
  chosen : (t : Bool) → cond t None (linked w a (outer_of w k)) ≡ Some m → (linked w a (outer_of w k) ≡ Some m → linked w (a + b) (outer_of w k) ≡ linked w b m) → cond t None (linked w (a + b) (outer_of w k)) ≡ linked w b m
  chosen true e h = absurd (none_some e)
  chosen false e h = h e

pub one_link : (w : World) (k : ℕ) → outer_of w k ≢ 0 → linked w 1 k ≡ Some (outer_of w k)
unfolding linked
one_link w k some = rw (ne_eqb (outer_of w k) 0 some) refl

-- no link leads out of the top
pub too_many : (w : World) (levels : List ℕ) → ((k : ℕ) → outer_of w k ≢ 0 → get_or levels k 0 ≡ suc (get_or levels (outer_of w k) 0)) → (h k : ℕ) → get_or levels k 0 < h → linked w h k ≡ None
unfolding linked
too_many w levels deeper zero k lt = absurd (omega arith)
too_many w levels deeper (suc h) k lt = chosen (eqb_tells (outer_of w k) 0) (too_many w levels deeper h (outer_of w k)) where
  chosen : ((eqb (outer_of w k) 0 ≡ true) × (outer_of w k ≡ 0)) ⊎ ((eqb (outer_of w k) 0 ≡ false) × (outer_of w k ≢ 0)) → (get_or levels (outer_of w k) 0 < h → linked w h (outer_of w k) ≡ None) → cond (eqb (outer_of w k) 0) None (linked w h (outer_of w k)) ≡ None
  chosen (inl t) rec = rw t.0 refl
  chosen (inr t) rec = rw t.0 (rec (let d = deeper k t.1 in omega (arith, d, lt)))

-- from one to another, and from there on
pub linked_on : (w : World) (a b c k m n : ℕ) → c ≡ a + b → linked w a k ≡ Some m → linked w b m ≡ Some n → linked w c k ≡ Some n
linked_on w a b c k m n is first second = ap (λ (h : ℕ). linked w h k) is ∙ linked_plus w a b k m first ∙ second

-- ---- one procedure more

seam : (xs : List ℕ) (x : ℕ) → get_or (xs ++ x ∷ []) (length xs) 0 ≡ x
seam xs x = get_or-append_seam xs x [] 0

left : (xs : List ℕ) (x k : ℕ) → k < length xs → get_or (xs ++ x ∷ []) k 0 ≡ get_or xs k 0
left xs x k lt = get_or_append_left xs (x ∷ []) 0 k lt

one_more : (xs : List ℕ) (x : ℕ) → length (xs ++ x ∷ []) ≡ length xs + 1
one_more xs x = length-append xs (x ∷ [])

past : (xs : List ℕ) (k : ℕ) → length xs ≤ k → get_or xs k 0 ≡ 0
past xs k le = get_or_past xs k 0 le

-- a place is before the last, the last, or behind it
data Where (n k : ℕ) : Type 0 where
  before : k < n → Where n k
  last : k ≡ n → Where n k
  behind : n + 1 ≤ k → Where n k

where_is : (n k : ℕ) → Where n k
where_is n k = elim (cases_lt k n) [
  | inl lt ↦ before lt
  | inr le ↦ elim (cases_lt n k) [
    | inl lt ↦ behind (omega arith)
    | inr le' ↦ last (omega arith)
  ]
]

-- what is to hold of the procedure more
record Fits (w : World) (levels : List ℕ) (k level jump jump_level : ℕ) : Type 0 where
  low : level ≤ k
  top : outer_of w k ≡ 0 → level ≡ 0
  deeper : outer_of w k ≢ 0 → level ≡ suc (get_or levels (outer_of w k) 0)
  known : jump ≤ k
  jump_is : get_or (levels ++ level ∷ []) jump 0 ≡ jump_level
  near : jump_level ≤ level
  further : outer_of w k ≢ 0 → jump_level < level
  leads : linked w (level - jump_level) k ≡ Some jump

more : (w : World) (levels jumps : List ℕ) (k level jump jump_level : ℕ) → OutersBelow w → k ≡ length levels → AreLinks w levels jumps → Fits w levels k level jump jump_level → AreLinks w (levels ++ level ∷ []) (jumps ++ jump ∷ [])
more w levels jumps k level jump jump_level below next a f = record {
  many = one_more jumps jump ∙ ap (λ (n : ℕ). n + 1) a.many ∙ sym (one_more levels level);
  low = λ i. at_low i (where_is (length levels) i);
  top = λ i none. at_top i none (where_is (length levels) i);
  deeper = λ i lt some. at_deeper i lt some (where_is (length levels) i);
  known = λ i lt. at_known i lt (where_is (length levels) i);
  near = λ i lt. at_near i lt (where_is (length levels) i);
  further = λ i lt some. at_further i lt some (where_is (length levels) i);
  leads = λ i lt. at_leads i lt (where_is (length levels) i);
}
  where
    levels' : List ℕ
    levels' = levels ++ level ∷ []

    jumps' : List ℕ
    jumps' = jumps ++ jump ∷ []

    now : (i : ℕ) → i ≡ length levels → get_or levels' i 0 ≡ level
    now i e = rw e (seam levels level)

    now_jump : (i : ℕ) → i ≡ length levels → get_or jumps' i 0 ≡ jump
    now_jump i e = rw (e ∙ sym a.many) (seam jumps jump)

    old : (i : ℕ) → i < length levels → get_or levels' i 0 ≡ get_or levels i 0
    old i lt = left levels level i lt

    old_jump : (i : ℕ) → i < length levels → get_or jumps' i 0 ≡ get_or jumps i 0
    old_jump i lt = left jumps jump i (let m = a.many in omega (arith, lt, m))

    old_far : (i : ℕ) → i < length levels → get_or levels' (get_or jumps' i 0) 0 ≡ get_or levels (get_or jumps i 0) 0
    old_far i lt = ap (λ (j : ℕ). get_or levels' j 0) (old_jump i lt) ∙ old (get_or jumps i 0) (let m = a.known i lt in omega (arith, lt, m))

    now_far : (i : ℕ) → i ≡ length levels → get_or levels' (get_or jumps' i 0) 0 ≡ jump_level
    now_far i e = ap (λ (j : ℕ). get_or levels' j 0) (now_jump i e) ∙ f.jump_is

    beyond : {P : Type 0} (i : ℕ) → i < length levels' → length levels + 1 ≤ i → P
    beyond i lt le = absurd (let n = one_more levels level in omega (arith, lt, le, n))

    at_low : (i : ℕ) → Where (length levels) i → get_or levels' i 0 ≤ i
    at_low i (before lt) = rw (old i lt) (a.low i)
    at_low i (last e) = rw (now i e) (let l = f.low in omega (arith, l, e, next))
    at_low i (behind le) = rw (past levels' i (let n = one_more levels level in omega (arith, le, n))) (omega arith)

    at_top : (i : ℕ) → outer_of w i ≡ 0 → Where (length levels) i → get_or levels' i 0 ≡ 0
    at_top i none (before lt) = old i lt ∙ a.top i none
    at_top i none (last e) = now i e ∙ f.top (subst (λ (n : ℕ). outer_of w n ≡ 0) (e ∙ sym next) none)
    at_top i none (behind le) = past levels' i (let n = one_more levels level in omega (arith, le, n))

    at_deeper : (i : ℕ) → i < length levels' → outer_of w i ≢ 0 → Where (length levels) i → get_or levels' i 0 ≡ suc (get_or levels' (outer_of w i) 0)
    at_deeper i lt some (before l) = old i l ∙ a.deeper i l some ∙ ap suc (sym (old (outer_of w i) (let b = below i some in omega (arith, b, l))))
    at_deeper i lt some (last e) =
        let some' = subst (λ (n : ℕ). outer_of w n ≢ 0) (e ∙ sym next) some in
        now i e ∙ f.deeper some' ∙ ap (λ (n : ℕ). suc (get_or levels (outer_of w n) 0)) (next ∙ sym e) ∙ ap suc (sym (old (outer_of w i) (let b = below i some in omega (arith, b, e))))
    at_deeper i lt some (behind le) = beyond i lt le

    at_known : (i : ℕ) → i < length levels' → Where (length levels) i → get_or jumps' i 0 ≤ i
    at_known i lt (before l) = rw (old_jump i l) (a.known i l)
    at_known i lt (last e) = rw (now_jump i e) (let l = f.known in omega (arith, l, e, next))
    at_known i lt (behind le) = beyond i lt le

    at_near : (i : ℕ) → i < length levels' → Where (length levels) i → get_or levels' (get_or jumps' i 0) 0 ≤ get_or levels' i 0
    at_near i lt (before l) = rw (old_far i l, old i l) (a.near i l)
    at_near i lt (last e) = rw (now_far i e, now i e) f.near
    at_near i lt (behind le) = beyond i lt le

    at_further : (i : ℕ) → i < length levels' → outer_of w i ≢ 0 → Where (length levels) i → get_or levels' (get_or jumps' i 0) 0 < get_or levels' i 0
    at_further i lt some (before l) = rw (old_far i l, old i l) (a.further i l some)
    at_further i lt some (last e) = rw (now_far i e, now i e) (f.further (subst (λ (n : ℕ). outer_of w n ≢ 0) (e ∙ sym next) some))
    at_further i lt some (behind le) = beyond i lt le

    at_leads : (i : ℕ) → i < length levels' → Where (length levels) i → linked w (get_or levels' i 0 - get_or levels' (get_or jumps' i 0) 0) i ≡ Some (get_or jumps' i 0)
    at_leads i lt (before l) =
        ap (λ (h : ℕ). linked w (h - get_or levels' (get_or jumps' i 0) 0) i) (old i l)
        ∙ ap (λ (h : ℕ). linked w (get_or levels i 0 - h) i) (old_far i l) ∙ a.leads i l ∙ ap (λ (j : ℕ). Some j) (sym (old_jump i l))
    at_leads i lt (last e) =
        ap (λ (h : ℕ). linked w (h - get_or levels' (get_or jumps' i 0) 0) i) (now i e)
        ∙ ap (λ (h : ℕ). linked w (level - h) i) (now_far i e)
        ∙ ap (λ (n : ℕ). linked w (level - jump_level) n) (e ∙ sym next) ∙ f.leads ∙ ap (λ (j : ℕ). Some j) (sym (now_jump i e))
    at_leads i lt (behind le) = beyond i lt le

-- one of the top
pub more_top : (w : World) (levels jumps : List ℕ) (k : ℕ) → OutersBelow w → k ≡ length levels → AreLinks w levels jumps → outer_of w k ≡ 0 → AreLinks w (levels ++ 0 ∷ []) (jumps ++ k ∷ [])
unfolding linked
more_top w levels jumps k below next a none =
    more w levels jumps k 0 k 0 below next a (record {
      low = omega arith;
      top = λ e. refl;
      deeper = λ some. absurd (some none);
      known = omega arith;
      jump_is = rw next (seam levels 0);
      near = omega arith;
      further = λ some. absurd (some none);
      leads = refl;
    })

-- one with an outer procedure
pub more_inner : (w : World) (levels jumps : List ℕ) (k outer jump : ℕ) → OutersBelow w → k ≡ length levels → AreLinks w levels jumps → outer ≡ outer_of w k → outer ≢ 0 → IsJump w levels k outer jump
    → AreLinks w (levels ++ (get_or levels outer 0 + 1) ∷ []) (jumps ++ jump ∷ [])
more_inner w levels jumps k outer jump below next a is some j =
    let level = get_or levels outer 0 + 1 in
    let level_is : suc (get_or levels outer 0) ≡ level = omega arith in
    let some' : outer_of w k ≢ 0 = subst (λ (n : ℕ). n ≢ 0) is some in
    more w levels jumps k level jump (get_or levels jump 0) below next a (record {
      low = (let l = a.low outer in let b = below k some' in omega (arith, l, b, is));
      top = λ e. absurd (some' e);
      deeper = λ s. sym level_is ∙ ap (λ (n : ℕ). suc (get_or levels n 0)) is;
      known = (let b = j.known in omega (arith, b, next));
      jump_is = left levels level jump j.known;
      near = (let b = j.near in omega (arith, b));
      further = λ s. let b = j.near in omega (arith, b);
      leads = ap (λ (h : ℕ). linked w (h - get_or levels jump 0) k) (sym level_is) ∙ j.leads;
    })

-- the outer procedure
pub jump_outer : (w : World) (levels jumps : List ℕ) (k outer : ℕ) → AreLinks w levels jumps → outer ≡ outer_of w k → outer ≢ 0 → outer < length levels → IsJump w levels k outer outer
jump_outer w levels jumps k outer a is some lt = record {
  known = lt;
  near = omega arith;
  leads =
      ap (λ (h : ℕ). linked w h k) (one (get_or levels outer 0))
      ∙ one_link w k (subst (λ (n : ℕ). n ≢ 0) is some) ∙ ap (λ (n : ℕ). Some n) (sym is);
}
  where
    one : (n : ℕ) → suc n - n ≡ 1
    one n = omega arith

-- two jumps of the outer procedure
pub jump_twice : (w : World) (levels jumps : List ℕ) (k outer j n : ℕ) → AreLinks w levels jumps → outer ≡ outer_of w k → outer ≢ 0 → outer < length levels → j ≡ get_or jumps outer 0 → n ≡ get_or jumps j 0 → IsJump w levels k outer n
jump_twice w levels jumps k outer j n a is some lt j_is n_is =
    let kj = a.known outer lt in
    let jl : j < length levels = omega (arith, kj, lt, j_is) in
    let kn = a.known j jl in
    let first : linked w (get_or levels outer 0 - get_or levels j 0) outer ≡ Some j =
    ap (λ (x : ℕ). linked w (get_or levels outer 0 - get_or levels x 0) outer) j_is ∙ a.leads outer lt ∙ ap (λ (x : ℕ). Some x) (sym j_is) in
    let second : linked w (get_or levels j 0 - get_or levels n 0) j ≡ Some n =
    ap (λ (x : ℕ). linked w (get_or levels j 0 - get_or levels x 0) j) n_is ∙ a.leads j jl ∙ ap (λ (x : ℕ). Some x) (sym n_is) in
    let near1 : get_or levels j 0 ≤ get_or levels outer 0 = subst (λ (x : ℕ). get_or levels x 0 ≤ get_or levels outer 0) (sym j_is) (a.near outer lt) in
    let near2 : get_or levels n 0 ≤ get_or levels j 0 = subst (λ (x : ℕ). get_or levels x 0 ≤ get_or levels j 0) (sym n_is) (a.near j jl) in
    let link : linked w 1 k ≡ Some outer = one_link w k (subst (λ (x : ℕ). x ≢ 0) is some) ∙ ap (λ (x : ℕ). Some x) (sym is) in
    record {
      known = omega (arith, kn, n_is, jl);
      near = omega (arith, near1, near2);
      leads =
          linked_on w 1 (get_or levels outer 0 - get_or levels n 0) (suc (get_or levels outer 0) - get_or levels n 0) k outer n (omega (arith, near1, near2)) link
          (linked_on w (get_or levels outer 0 - get_or levels j 0) (get_or levels j 0 - get_or levels n 0) (get_or levels outer 0 - get_or levels n 0) outer j n (omega (arith, near1, near2)) first second);
    }

-- ---- the links of all procedures

-- a procedure that isn't there has no outer one
not_there : (w : World) (k : ℕ) → length w.procedures ≤ k → outer_of w k ≡ 0
not_there w k le = ap (λ (o : Option Procedure). outer_or 0 o) (slice_get_past w.procedures k le)

there : (w : World) (n k : ℕ) → n ≡ length w.procedures → outer_of w k ≢ 0 → k < n
there w n k e some = elim (cases_lt k n) [
  | inl lt ↦ lt
  | inr le ↦ absurd (some (not_there w k (omega (arith, le, e))))
]

-- the outer procedure, where the level of the jump is too far out
pub near_outer : (w : World) (l : Links) (from level outer : ℕ) → AreLinksOf w l → level < get_or l.levels.items from 0 → outer ≡ outer_of w from → IsNearer w l.levels.items from level outer
near_outer w l from level outer a lt is = chosen (eqb_tells (outer_of w from) 0) where
  chosen : ((eqb (outer_of w from) 0 ≡ true) × (outer_of w from ≡ 0)) ⊎ ((eqb (outer_of w from) 0 ≡ false) × (outer_of w from ≢ 0)) → IsNearer w l.levels.items from level outer
  chosen (inl t) = absurd (let z = a.links.top from t.1 in omega (arith, z, lt))
  chosen (inr t) =
      let deeper : get_or l.levels.items from 0 ≡ suc (get_or l.levels.items outer 0) =
      a.links.deeper from (there w (length l.levels.items) from a.all t.1) t.1 ∙ ap (λ (n : ℕ). suc (get_or l.levels.items n 0)) (sym is) in
      record {
        within = omega (arith, deeper, lt);
        further = omega (arith, deeper);
        leads =
            ap (λ (h : ℕ). linked w h from) (omega (arith, deeper)) ∙ one_link w from t.1 ∙ ap (λ (n : ℕ). Some n) (sym is);
      }

-- the jump, where it isn't too far out
pub near_jump : (w : World) (l : Links) (from level jump : ℕ) → AreLinksOf w l → level < get_or l.levels.items from 0 → jump ≡ get_or l.jumps.items from 0 → level ≤ get_or l.levels.items jump 0 → IsNearer w l.levels.items from level jump
near_jump w l from level jump a lt is le = chosen (eqb_tells (outer_of w from) 0) where
  chosen : ((eqb (outer_of w from) 0 ≡ true) × (outer_of w from ≡ 0)) ⊎ ((eqb (outer_of w from) 0 ≡ false) × (outer_of w from ≢ 0)) → IsNearer w l.levels.items from level jump
  chosen (inl t) = absurd (let z = a.links.top from t.1 in omega (arith, z, lt))
  chosen (inr t) =
      let inside = there w (length l.levels.items) from a.all t.1 in
      record {
        within = le;
        further = subst (λ (j : ℕ). get_or l.levels.items j 0 < get_or l.levels.items from 0) (sym is) (a.links.further from inside t.1);
        leads = subst (λ (j : ℕ). linked w (get_or l.levels.items from 0 - get_or l.levels.items j 0) from ≡ Some j) (sym is) (a.links.leads from inside);
      }

-- more links than the level
pub no_link : (w : World) (l : Links) (h k : ℕ) → AreLinksOf w l → get_or l.levels.items k 0 < h → linked w h k ≡ None
no_link w l h k a lt = too_many w l.levels.items (λ i some. a.links.deeper i (there w (length l.levels.items) i a.all some) some) h k lt

-- ---- for the code

pub on_ok : {T E P Q R : Type 0} (r : Result T E) → OnOk r P → OnOk r Q → (P → Q → R) → OnOk r R
on_ok (Ok x) p q h = h p q
on_ok (Err e) p q h = tt

pub same_links : (w : World) (l l' j j' : List ℕ) → l ≡ l' → j ≡ j' → AreLinks w l' j' → AreLinks w l j
same_links w l l' j j' e d a = rw (e, d) a

-- the walk begins
pub starts : (w : World) (n k : ℕ) → linked w (n - n) k ≡ Some k
unfolding linked
starts w n k = let z : n - n ≡ 0 = omega arith in ap (λ (h : ℕ). linked w h k) z

-- the walk goes on
pub goes_on : (w : World) (levels : List ℕ) (k from level to : ℕ) → get_or levels from 0 ≤ get_or levels k 0 → linked w (get_or levels k 0 - get_or levels from 0) k ≡ Some from → IsNearer w levels from level to
    → linked w (get_or levels k 0 - get_or levels to 0) k ≡ Some to
goes_on w levels k from level to le leads n =
    linked_on w (get_or levels k 0 - get_or levels from 0) (get_or levels from 0 - get_or levels to 0) (get_or levels k 0 - get_or levels to 0) k from to (let f = n.further in omega (arith, le, f)) leads n.leads

pub no_links : (w : World) → AreLinks w [] []
no_links w = record {
  many = refl;
  low = λ k. omega arith;
  top = λ k e. refl;
  deeper = λ k lt some. absurd (omega (arith, lt));
  known = λ k lt. absurd (omega (arith, lt));
  near = λ k lt. absurd (omega (arith, lt));
  further = λ k lt some. absurd (omega (arith, lt));
  leads = λ k lt. absurd (omega (arith, lt));
}
