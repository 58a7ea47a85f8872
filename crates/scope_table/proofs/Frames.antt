-- What a step keeps of the rule where it touches nothing.
use Rattle.std.proofs.Common.{◌≡◌, ◌≢◌, ℕ, zero, suc, ◌+◌, ◌*◌, ◌/◌, ◌<◌, ◌≤◌, List, [], ◌∷◌, ◌++◌, length, get_or, set, sym, refl, ap, ◌∙◌, subst, ⊎_elim, arith, append_assoc, append-nil, take, length-append}
use Rattle.std.proofs.lemmas.List.{take-append-le}
use mathlib.Core.Logic.{dite}
use mathlib.Core.Option.{some, some-injective, some-ne-none}
use native.Mathlib.Decide.{ℕ_discrete}
use lib.ListN.{get_elem?}
use lib.Seq.{set-get_or}
use Rattle.atomic_table.specs.Table.{State, keeps, stepped}
use Rattle.atomic_table.proofs.Lists.{at_set}
use Rattle.m2_base.specs.declared.rows.Row.{Row}
use Rattle.m2_base.specs.declared.replies.Head.{Head}
use Rattle.scope_table.specs.declared.view.Look.{Look}
use Rattle.m2_base.specs.Lists.{Each}
use Rattle.m2_base.specs.Tables.{first_named, reply_or}
use Rattle.scope_table.specs.declared.view.Shown.{Shown}
use Rattle.scope_table.specs.declared.view.About.{About}
use Rattle.scope_table.specs.declared.view.View.{View}
use Rattle.scope_table.specs.Rows.{rows_at, words_at}
use Rattle.scope_table.specs.Rule.{base, mid, width, scopes, is_odd, table_at, shown_at, Begins, IsBefore, times, rights_to, IsGood, AreFormed, Knows, IsKept, replied, WasShown, IsLawful}
use Rattle.scope_table.proofs.Rows.{length-rows_at, rows_at-same, words_at-same}

abbrev pub St : Type 0
St = State (Unit {0}) View

pub rights_to-set : (j : ℕ) (vs : List View) (i : ℕ) (v w : View) → get_elem? vs i ≡ some v → rights_to j (set vs i w) + times j v.rights ≡ rights_to j vs + times j w.rights
rights_to-set j [] i v w e = absurd (some-ne-none v (sym e))
rights_to-set j (x ∷ xs) zero v w e = let is : times j x.rights ≡ times j v.rights = ap (λ (m : View). times j m.rights) (some-injective x v e) in omega arith
rights_to-set j (x ∷ xs) (suc i) v w e = let r = rights_to-set j xs i v w e in omega arith

pub rights_at : (j : ℕ) (vs : List View) (i : ℕ) (v : View) → get_elem? vs i ≡ some v → times j v.rights ≤ rights_to j vs
rights_at j [] i v e = absurd (some-ne-none v (sym e))
rights_at j (x ∷ xs) zero v e = let is : times j x.rights ≡ times j v.rights = ap (λ (m : View). times j m.rights) (some-injective x v e) in omega arith
rights_at j (x ∷ xs) (suc i) v e = let r = rights_at j xs i v e in omega arith

-- two views have a right together at most as often as all have it
pub rights_two : (j : ℕ) (vs : List View) (i k : ℕ) (v w : View) → i ≢ k → get_elem? vs i ≡ some v → get_elem? vs k ≡ some w → times j v.rights + times j w.rights ≤ rights_to j vs
rights_two j [] i k v w n e f = absurd (some-ne-none v (sym e))
rights_two j (x ∷ xs) zero zero v w n e f = absurd (n refl)
rights_two j (x ∷ xs) zero (suc k) v w n e f = let is : times j x.rights ≡ times j v.rights = ap (λ (m : View). times j m.rights) (some-injective x v e) in let r = rights_at j xs k w f in omega arith
rights_two j (x ∷ xs) (suc i) zero v w n e f = let is : times j x.rights ≡ times j w.rights = ap (λ (m : View). times j m.rights) (some-injective x w f) in let r = rights_at j xs i v e in omega arith
rights_two j (x ∷ xs) (suc i) (suc k) v w n e f = let r = rights_two j xs i k v w (λ h. n (ap suc h)) e f in omega arith

-- a fact of every view, where one has changed
pub each_view : (P : View → Type 0) (vs : List View) (id : ℕ) (w : View) → P w → ((k : ℕ) (d : View) → k ≢ id → get_elem? vs k ≡ some d → P d)
    → (k : ℕ) (d : View) → get_elem? (set vs id w) k ≡ some d → P d
each_view P vs id w mine others k d e = ⊎_elim (λ (t : (k ≡ id) × (w ≡ d)). subst P t.1 mine) (λ (t : (k ≢ id) × (get_elem? vs k ≡ some d)). others k d t.0 t.1) (at_set vs id k w d e)

-- A step that writes nothing new: only the view of its seat changes, which keeps its rights
pub view_step : (a : About) (s : St) (i id : ℕ) (c : List (ℕ × Unit {0})) (v w : View) → IsKept a s → get_elem? s.views id ≡ some v → ((j : ℕ) → times j w.rights ≡ times j v.rights) → Knows a s.words w
    → IsKept a (stepped s i (get_or s.words i 0) id c w keeps)
view_step a s i id c v w r at same known =
    subst (λ (ws : List ℕ). IsKept a record { words = ws; homes = s.homes; views = set s.views id w }) (sym (set-get_or s.words i 0)) record {
      laid = r.laid;
      wide = r.wide;
      good = r.good;
      formed = r.formed;
      one = λ j. let e = rights_to-set j s.views id v w at in let o = r.one j in let q = same j in omega arith;
      knows = each_view (Knows a s.words) s.views id w known (λ k d n at'. r.knows k d at');
    }

pub before_refl : (x : Shown) → IsBefore x x
before_refl x = record { rows = ([], append-nil x.rows); cells = λ c h. refl; done = λ h. refl }

pub begins_trans : {A : Type 0} (xs ys zs : List A) → Begins xs ys → Begins ys zs → Begins xs zs
begins_trans xs ys zs p q = (p.0 ++ q.0, sym (append_assoc xs p.0 q.0) ∙ (ap (λ (l : List _). l ++ q.0) p.1 ∙ q.1))

pub before_trans : (x y z : Shown) → IsBefore x y → IsBefore y z → IsBefore x z
before_trans x y z p q = record {
  rows = begins_trans x.rows y.rows z.rows p.rows q.rows;
  cells = λ c h. let e = p.cells c h in q.cells c (λ z. h (sym e ∙ z)) ∙ e;
  done = λ h. let e = p.done h in e ∙ q.done (ap (λ (t : Shown). t.complete) (sym e) ∙ h);
}

-- a table whose parts are as they were
pub same_parts : (a : About) (ws ws' : List ℕ) (k : ℕ) → get_or ws' k 0 ≡ get_or ws k 0 → rows_at ws' (base a k) (get_or ws k 0 / 2) ≡ rows_at ws (base a k) (get_or ws k 0 / 2)
    → words_at ws' (mid a k) (width a k) ≡ words_at ws (mid a k) (width a k) → table_at a ws' k ≡ table_at a ws k
same_parts a ws ws' k h e f = ap (λ (x : ℕ). record { rows = rows_at ws' (base a k) (x / 2); complete = is_odd x; cells = words_at ws' (mid a k) (width a k) }) h
    ∙ (λ i. record { rows = e i; complete = is_odd (get_or ws k 0); cells = f i })

-- A store by the one that fills scope j
pub record Moves (a : About) (ws ws' : List ℕ) (j : ℕ) : Type 0 where
  pub wide : length ws' ≡ length ws
  pub heads : (k : ℕ) → k < scopes a → k ≢ j → get_or ws' k 0 ≡ get_or ws k 0
  pub others : (k p : ℕ) → k < scopes a → k ≢ j → base a k ≤ p → p < base a (suc k) → get_or ws' p 0 ≡ get_or ws p 0
  pub grows : IsBefore (table_at a ws j) (table_at a ws' j)

pub same_table : (a : About) (ws ws' : List ℕ) (j k : ℕ) → Moves a ws ws' j → IsGood a k (table_at a ws k) → k < scopes a → k ≢ j → table_at a ws' k ≡ table_at a ws k
same_table a ws ws' j k m g l n =
    let h = m.heads k l n in let room = g.room in let len = length-rows_at ws (base a k) (get_or ws k 0 / 2) in
    let e : rows_at ws' (base a k) (get_or ws k 0 / 2) ≡ rows_at ws (base a k) (get_or ws k 0 / 2) = rows_at-same ws ws' (base a k) (get_or ws k 0 / 2) (λ p lo hi. m.others k p l n lo (omega arith)) in
    let behind = g.behind in same_parts a ws ws' k h e (words_at-same ws ws' (mid a k) (width a k) (λ p lo hi. m.others k p l n (omega arith) (omega arith)))

-- whatever was a beginning of the tables is one of the new tables
pub seen_moves : (a : About) (ws ws' : List ℕ) (j : ℕ) (S : ℕ → Shown) → Moves a ws ws' j → ((k : ℕ) → k < scopes a → IsGood a k (table_at a ws k)) → ((k : ℕ) → k < scopes a → IsBefore (S k) (table_at a ws k))
    → (k : ℕ) → k < scopes a → IsBefore (S k) (table_at a ws' k)
seen_moves a ws ws' j S m good seen k l = dite (ℕ_discrete k j)
    (λ e. subst (λ (z : ℕ). IsBefore (S z) (table_at a ws' z)) (sym e) (before_trans (S j) (table_at a ws j) (table_at a ws' j) (subst (λ (z : ℕ). IsBefore (S z) (table_at a ws z)) e (seen k l)) m.grows))
    (λ n. subst (λ (t : Shown). IsBefore (S k) t) (sym (same_table a ws ws' j k m (good k l) l n)) (seen k l))

take_begins : (n : ℕ) (xs ys : List Row) → Begins xs ys → n ≤ length xs → take n ys ≡ take n xs
take_begins n xs ys b h = ap (take n) (sym b.1) ∙ take-append-le n xs b.0 h

pub length_begins : (xs ys : List Row) → Begins xs ys → length xs ≤ length ys
length_begins xs ys b = let e = length-append xs b.0 in let f : length (xs ++ b.0) ≡ length ys = ap length b.1 in omega arith

module _ (n : ℕ) (T T' : ℕ → Shown) (grows : (k : ℕ) → k < n → IsBefore (T k) (T' k)) where
  pub replied_grows : (hs : List Head) (x : ℕ) → Each (WasShown n T) hs → replied T' hs x ≡ replied T hs x
  replied_grows [] x w = refl
  replied_grows (h ∷ hs) x w =
      let same : take h.count (T' h.scope).rows ≡ take h.count (T h.scope).rows = take_begins h.count (T h.scope).rows (T' h.scope).rows (grows h.scope w.0.there).rows w.0.count in
      λ i. reply_or h (first_named x (same i) 0) (replied_grows hs x w.1 i)

  pub shown_grows : (hs : List Head) → Each (WasShown n T) hs → Each (WasShown n T') hs
  shown_grows [] w = tt
  shown_grows (h ∷ hs) w = let g = grows h.scope w.0.there in let len = length_begins (T h.scope).rows (T' h.scope).rows g.rows in (
    record {
      there = w.0.there;
      count = let c = w.0.count in omega arith;
      done = λ c. let e = g.done (w.0.done c) in ap (λ (t : Shown). t.complete) (sym e) ∙ w.0.done c;
      all = λ c. let e = g.done (w.0.done c) in ap (λ (t : Shown). length t.rows) (sym e) ∙ w.0.all c;
    },
    shown_grows hs w.1,
  )

  pub lawful_grows : (l : Look) → IsLawful n T l → IsLawful n T' l
  lawful_grows l w = record { shown = shown_grows l.heads w.shown; taken = w.taken; reply = w.reply ∙ sym (replied_grows l.heads l.name w.shown) }

  pub looks_grow : (ls : List Look) → Each (IsLawful n T) ls → Each (IsLawful n T') ls
  looks_grow [] w = tt
  looks_grow (l ∷ ls) w = (lawful_grows l w.0, looks_grow ls w.1)

pub looks_move : (a : About) (ws ws' : List ℕ) (j : ℕ) (ls : List Look) → Moves a ws ws' j → ((k : ℕ) → k < scopes a → IsGood a k (table_at a ws k)) → Each (IsLawful (scopes a) (table_at a ws)) ls → Each (IsLawful (scopes a) (table_at a ws')) ls
looks_move a ws ws' j ls m good w = looks_grow (scopes a) (table_at a ws) (table_at a ws') (λ k l. seen_moves a ws ws' j (table_at a ws) m good (λ q lq. before_refl (table_at a ws q)) k l) ls w

pub others_know : (a : About) (ws ws' : List ℕ) (j : ℕ) (d : View) → Moves a ws ws' j → ((k : ℕ) → k < scopes a → IsGood a k (table_at a ws k)) → times j d.rights ≡ 0 → Knows a ws d → Knows a ws' d
others_know a ws ws' j d m good none_of r = record {
  about = r.about;
  wide = r.wide;
  seen = seen_moves a ws ws' j (shown_at d) m good r.seen;
  looks = looks_move a ws ws' j d.looks m good r.looks;
  fills = λ k has. let f = r.fills k has in let l = f.there in let n : k ≢ j = λ e. let z : times k d.rights ≡ 0 = ap (λ (q : ℕ). times q d.rights) e ∙ none_of in omega arith in let h = m.heads k l n in let behind = (good k l).behind in record {
    there = l;
    same = same_table a ws ws' j k m (good k l) l n ∙ f.same;
    put = λ q lt. let room = f.room in let p = m.others k (base a k + 8 * (get_or ws k 0 / 2) + q) l n (omega arith) (omega arith) in
        ap (λ (x : ℕ). get_or ws' (base a k + 8 * (x / 2) + q) 0) h ∙ (p ∙ f.put q lt);
    room = subst (λ (x : ℕ). base a k + 8 * (x / 2) + length d.put ≤ mid a k) (sym h) f.room;
    cells = f.cells;
  };
}

pub store_step : (a : About) (s : St) (i x id j : ℕ) (c : List (ℕ × Unit {0})) (v w : View) → IsKept a s → get_elem? s.views id ≡ some v → Moves a s.words (set s.words i x) j → 0 < times j v.rights
    → ((k : ℕ) → times k w.rights ≡ times k v.rights) → IsGood a j (table_at a (set s.words i x) j) → AreFormed a j 0 (table_at a (set s.words i x) j).rows → Knows a (set s.words i x) w
    → IsKept a (stepped s i x id c w keeps)
store_step a s i x id j c v w r at m has same good formed known = record {
  laid = r.laid;
  wide = m.wide ∙ r.wide;
  good = λ k l. dite (ℕ_discrete k j) (λ e. subst (λ (z : ℕ). IsGood a z (table_at a (set s.words i x) z)) (sym e) good)
      (λ n. subst (IsGood a k) (sym (same_table a s.words (set s.words i x) j k m (r.good k l) l n)) (r.good k l));
  formed = λ k l. dite (ℕ_discrete k j) (λ e. subst (λ (z : ℕ). AreFormed a z 0 (table_at a (set s.words i x) z).rows) (sym e) formed)
      (λ n. subst (λ (t : Shown). AreFormed a k 0 t.rows) (sym (same_table a s.words (set s.words i x) j k m (r.good k l) l n)) (r.formed k l));
  one = λ k. let e = rights_to-set k s.views id v w at in let o = r.one k in let q = same k in omega arith;
  knows = each_view (Knows a (set s.words i x)) s.views id w known
      (λ k d n at'. let two = rights_two j s.views k id d v n at' at in let o = r.one j in others_know a s.words (set s.words i x) j d m r.good (omega arith) (r.knows k d at'));
}
