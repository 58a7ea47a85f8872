-- Views that are cut in two, and views that are made one.
use Rattle.std.proofs.Common.{◌≡◌, ℕ, zero, suc, ◌+◌, ◌*◌, ◌<◌, ◌≤◌, eqb, List, [], ◌∷◌, ◌++◌, length, take, drop, replicate, get_or, set, sym, refl, ap, ◌∙◌, subst, ⊎_elim, arith, eq-eqb, zero-add, zero-le, true≢false}
use mathlib.Core.Option.{none, some}
use lib.ListN.{get_elem?, length-replicate}
use Rattle.atomic_table.specs.Table.{step, keeps, Allows, Splits, Joins}
use Rattle.atomic_table.proofs.Lists.{at_snoc, set_else}
use Rattle.m2_base.specs.declared.replies.Head.{Head}
use Rattle.scope_table.specs.declared.view.Shown.{Shown}
use Rattle.scope_table.specs.declared.view.Look.{Look}
use Rattle.scope_table.specs.declared.view.About.{About}
use Rattle.scope_table.specs.declared.view.View.{View}
use Rattle.m2_base.specs.Lists.{Each}
use Rattle.scope_table.specs.Rule.{scopes, table_at, nothing, shown_at, IsBefore, weight, times, rights_to, Knows, IsKept, IsLawful}
use Rattle.scope_table.specs.Plays.{Sat, notes, look_noted, first_right, other_rights, note_of, same_view, later_all, told_of, spent, once_each}
use Rattle.scope_table.proofs.Frames.{rights_to-set, rights_at, rights_two, each_view, view_step, looks_grow}
use Rattle.scope_table.proofs.Later.{get_or-later_all, length-later_all, own_stays}

-- A look is noted
each-snoc : {A : Type 0} (P : A → Type 0) (xs : List A) (x : A) → Each P xs → P x → Each P (xs ++ x ∷ [])
each-snoc P [] x h p = (p, tt)
each-snoc P (y ∷ ys) x h p = (h.0, each-snoc P ys x h.1 p)

pub notes_look : (a : About) (slots id : ℕ) (me : Sat) (l : Look) → IsLawful (scopes a) (shown_at me.0) l → Allows (IsKept a) slots id me 0 (λ n. n) (look_noted l (step slots 0 0 0 none) me)
notes_look a slots id me l lawful s r _ at _ = let k = r.knows id me.0 at in let now = looks_grow (scopes a) (shown_at me.0) (table_at a s.words) k.seen (l ∷ []) (lawful, tt) in (
  notes me.0 l,
  keeps,
  tt,
  view_step a s 0 id me.1 me.0 (notes me.0 l) r at (λ j. refl) record { about = k.about; wide = k.wide; seen = k.seen; fills = λ j has. let f = k.fills j has in record { there = f.there; same = f.same; put = f.put; room = f.room; cells = f.cells }; looks = each-snoc (IsLawful (scopes a) (table_at a s.words)) me.0.looks l k.looks now.0 },
  (refl, refl),
)

-- A view is cut in two
rights_to-snoc : (j : ℕ) (vs : List View) (w : View) → rights_to j (vs ++ w ∷ []) ≡ rights_to j vs + times j w.rights
rights_to-snoc j [] w = omega arith
rights_to-snoc j (x ∷ xs) w = let r = rights_to-snoc j xs w in omega arith

pub split_step : (a : About) (id : ℕ) (v left right : View) → ((j : ℕ) → times j left.rights + times j right.rights ≤ times j v.rights) → ((ws : List ℕ) → Knows a ws v → Knows a ws left × Knows a ws right) → Splits (IsKept a) id v left right
split_step a id v left right fewer known s r at = let both = known s.words (r.knows id v at) in record {
  laid = r.laid;
  wide = r.wide;
  good = r.good;
  formed = r.formed;
  one = λ j. let e = rights_to-set j s.views id v left at in let e' = rights_to-snoc j (set s.views id left) right in let o = r.one j in let f = fewer j in omega arith;
  knows = λ k d at'. ⊎_elim (each_view (Knows a s.words) s.views id left both.0 (λ q d n at''. r.knows q d at'') k d) (λ (e : right ≡ d). subst (Knows a s.words) e both.1) (at_snoc (set s.views id left) right d k at');
}

times-cut : (j : ℕ) (rs : List ℕ) → times j (drop 1 rs) + times j (take 1 rs) ≡ times j rs
times-cut j [] = refl
times-cut j (r ∷ rs) = omega arith

module _ (a : About) (ws : List ℕ) (v : View) (known : Knows a ws v) where
  -- a view with fewer rights, nothing put, and looks that are lawful
  pub part_knows : (rs : List ℕ) (loads : List Head) (looks : List Look) → ((j : ℕ) → times j rs ≤ times j v.rights) → ((j : ℕ) → 0 < times j rs → v.put ≡ []) → Each (IsLawful (scopes a) (table_at a ws)) looks
      → Knows a ws (record { about = v.about; rights = rs; seen = v.seen; put = []; loads = loads; looks = looks })
  part_knows rs loads looks fewer clear lawful = record {
    about = known.about;
    wide = known.wide;
    seen = known.seen;
    fills = λ j has. let less = fewer j in let f = known.fills j (omega arith) in let none = ap length (clear j has) in record { there = f.there; same = f.same; put = λ k lt. absurd (omega arith); room = let room = f.room in omega arith; cells = λ c. let o = f.cells c in omega arith };
    looks = lawful;
  }

pub splits_right : (a : About) (id : ℕ) (v : View) → v.put ≡ [] → Splits (IsKept a) id v (other_rights v) (first_right v)
splits_right a id v clear = split_step a id v (other_rights v) (first_right v) (λ j. let e = times-cut j v.rights in omega arith)
    (λ ws k. (part_knows a ws v k (drop 1 v.rights) v.loads v.looks (λ j. let e = times-cut j v.rights in omega arith) (λ j has. clear) k.looks, part_knows a ws v k (take 1 v.rights) [] [] (λ j. let e = times-cut j v.rights in omega arith) (λ j has. clear) tt))

pub splits_note : (a : About) (id : ℕ) (v : View) → Splits (IsKept a) id v (same_view v) (note_of v)
splits_note a id v = split_step a id v v (note_of v) (λ j. omega arith) (λ ws k. (k, part_knows a ws v k [] [] [] (λ j. zero-le) (λ j has. absurd (omega arith)) tt))

-- Two views are made one
told_knows : (a : About) (ws : List ℕ) (v w : View) → Knows a ws v → Knows a ws w → Knows a ws (told_of v w)
told_knows a ws v w k k' = record {
  about = k.about;
  wide = length-later_all v.rights 0 v.seen w.seen ∙ k.wide;
  seen = λ j l. let wide = k.wide in subst (λ (z : ℕ). IsBefore (get_or (later_all v.rights 0 v.seen w.seen) j nothing) (table_at a ws z)) (zero-add j)
      (get_or-later_all (λ z t. IsBefore t (table_at a ws z)) v.rights 0 v.seen w.seen (λ q lq. subst (λ (z : ℕ). IsBefore (shown_at v q) (table_at a ws z)) (sym (zero-add q)) (k.seen q (omega arith)))
      (λ q lq. subst (λ (z : ℕ). IsBefore (shown_at w q) (table_at a ws z)) (sym (zero-add q)) (k'.seen q (omega arith))) j (omega arith));
  fills = λ j has. let f = k.fills j has in record { there = f.there; same = f.same ∙ sym (own_stays v.rights 0 v.seen w.seen j (subst (λ (z : ℕ). 0 < times z v.rights) (sym (zero-add j)) has)); put = f.put; room = f.room; cells = subst (λ (y : Shown). (c : ℕ) → 8 * get_or y.cells c 0 ≤ 8 * length y.rows + length v.put) (sym (own_stays v.rights 0 v.seen w.seen j (subst (λ (z : ℕ). 0 < times z v.rights) (sym (zero-add j)) has))) f.cells };
  looks = k.looks;
}

get_or-nothing : (n j : ℕ) → get_or (replicate n nothing) j nothing ≡ nothing
get_or-nothing zero j = refl
get_or-nothing (suc n) zero = refl
get_or-nothing (suc n) (suc j) = get_or-nothing n j

spent_knows : (a : About) (ws : List ℕ) → Knows a ws (spent a)
spent_knows a ws = record {
  about = refl;
  wide = length-replicate (scopes a) nothing;
  seen = λ j l. subst (λ (t : Shown). IsBefore t (table_at a ws j)) (sym (get_or-nothing (scopes a) j)) record { rows = ((table_at a ws j).rows, refl); cells = λ c h. absurd (h refl); done = λ h. absurd (true≢false (sym h)) };
  fills = λ j has. absurd (omega arith);
  looks = tt;
}

-- two views, of which the second is spent
pub join_step : (a : About) (id other : ℕ) (v w both : View) → ((j : ℕ) → times j both.rights ≤ times j v.rights) → ((ws : List ℕ) → Knows a ws v → Knows a ws w → Knows a ws both) → Joins (IsKept a) id v other w both (spent a)
join_step a id other v w both fewer known s r at apart at' =
    let at'' : get_elem? s.views other ≡ some w = sym (set_else s.views id other both apart) ∙ at' in let k = known s.words (r.knows id v at) (r.knows other w at'') in record {
      laid = r.laid;
      wide = r.wide;
      good = r.good;
      formed = r.formed;
      one = λ j. let e = rights_to-set j s.views id v both at in let e' = rights_to-set j (set s.views id both) other w (spent a) at' in let o = r.one j in let f = fewer j in omega arith;
      knows = each_view (Knows a s.words) (set s.views id both) other (spent a) (spent_knows a s.words) (λ q d n at3. each_view (Knows a s.words) s.views id both k (λ q' d' n' at4. r.knows q' d' at4) q d at3);
    }

pub tells : (a : About) (id other : ℕ) (v w : View) → Joins (IsKept a) id v other w (told_of v w) (spent a)
tells a id other v w = join_step a id other v w (told_of v w) (λ j. omega arith) (λ ws k k'. told_knows a ws v w k k')

pub tells_as : (a b : About) (id other : ℕ) (v w : View) → b ≡ a → Joins (IsKept a) id v other w (told_of v w) (spent b)
tells_as a b id other v w e = subst (λ (c : About). Joins (IsKept a) id v other w (told_of v w) (spent c)) (sym e) (tells a id other v w)

-- there are no two views with a right to one scope
pub never : (a : About) (id other j : ℕ) (v w both gone : View) → 0 < times j v.rights → 0 < times j w.rights → Joins (IsKept a) id v other w both gone
never a id other j v w both gone h h' s r at apart at' =
    let at'' : get_elem? s.views other ≡ some w = sym (set_else s.views id other both apart) ∙ at' in let two = rights_two j s.views id other v w (λ e. apart (sym e)) at at'' in let o = r.one j in absurd (omega arith)

pub tells_once : (a : About) (slots id : ℕ) (me : Sat) → Allows (IsKept a) slots id me 0 (λ n. n) (once_each (step slots 0 0 0 none) me)
tells_once a slots id me s r _ at _ = (
  me.0,
  keeps,
  tt,
  view_step a s 0 id me.1 me.0 me.0 r at (λ j. refl) (r.knows id me.0 at),
  (
    refl,
    λ j e. let o = r.one j in let n = rights_at j s.views id me.0 at in let w : weight (eqb j j) ≡ 1 = ap weight (eq-eqb j j refl) in let two : times j me.0.rights ≡ weight (eqb j j) + (weight (eqb j j) + 0) = ap (times j) e in absurd (omega arith),
  ),
)
