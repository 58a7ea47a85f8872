-- replies that stay
use Rattle.std.proofs.Common.{◌≡◌, ◌≢◌, ℕ, ◌<◌, ◌≤◌, ◌+◌, Bool, true, false, ◌==◌, List, [], ◌∷◌, ◌++◌, Option, Some, None, length, take, refl, sym, ◌∙◌, ap, subst, arith, if◌then◌else◌, get_or-set_same, get_or-set_other, ◌⊎◌, inl, inr, length-append}
use Rattle.std.proofs.lemmas.Bool.{cases_eq, false≢true}
use Rattle.std.proofs.Math.ListN.{set}
use Rattle.m2_base.specs.declared.rows.Row.{Row}
use Rattle.m2_base.specs.declared.rows.Place.{Place}
use Rattle.m2_base.specs.declared.replies.Head.{Head}
use Rattle.m2_base.specs.declared.replies.Reply.{Reply}
use Rattle.m2_base.specs.declared.replies.Reply.TheVariants.{DontKnowYet}
use Rattle.m2_base.specs.Lists.{IsPrefixOf}
use Rattle.m2_base.specs.Tables.{Table, table_at, rows_at, first_named, one_thread, reply_or, found_or, lookup, Settles, reply_of_heads, head_of}
use Rattle.m2_base.proofs.Kept.{IsPrefixOf-refl, IsPrefixOf-trans}
use Rattle.scope_core.specs.declared.event.Event.{Event}
use Rattle.scope_core.specs.declared.event.Event.TheVariants.{Enter, Complete}
use Rattle.scope_core.specs.Heads.{heads_of, heads_after}
use Rattle.scope_core.specs.PlainScopes.{IsBegun}
use Rattle.scope_core.specs.Events.{Stays, IsLawful, IsRun, after, after_all}

-- the first row under a name is the first of more rows, too
first_named-append : (x : ℕ) (xs ys : List Row) (n : ℕ) (hit : ℕ × Row) → first_named x xs n ≡ Some hit → first_named x (xs ++ ys) n ≡ Some hit
first_named-append x [] ys n hit e = absurd (cc)
first_named-append x (r ∷ xs) ys n hit e = go (r.name == x) (first_named-append x xs ys (n + 1) hit) e
  where
    go : (b : Bool) → (first_named x xs (n + 1) ≡ Some hit → first_named x (xs ++ ys) (n + 1) ≡ Some hit) → (if b then Some (n, r) else first_named x xs (n + 1)) ≡ Some hit → (if b then Some (n, r) else first_named x (xs ++ ys) (n + 1)) ≡ Some hit
    go true later e = e
    go false later e = later e

-- a table may become another
pub record IsGrown (t u : Table) : Type 0 where
  pub rows : IsPrefixOf t.rows u.rows
  pub complete : t.complete ≡ true → u ≡ t

pub IsGrown-refl : (t : Table) → IsGrown t t
IsGrown-refl t = record { rows = IsPrefixOf-refl t.rows; complete = λ _. refl }

pub IsGrown-trans : {t u v : Table} → IsGrown t u → IsGrown u v → IsGrown t v
IsGrown-trans {t} {u} {v} p q =
    record { rows = IsPrefixOf-trans p.rows q.rows; complete = λ h. q.complete (ap (λ w. w.complete) (p.complete h) ∙ h) ∙ p.complete h }

prefix_found : (x : ℕ) (xs ys : List Row) (hit : ℕ × Row) → IsPrefixOf xs ys → first_named x xs 0 ≡ Some hit → first_named x ys 0 ≡ Some hit
prefix_found x xs ys hit p e = subst (λ rows. first_named x rows 0 ≡ Some hit) p.joined (first_named-append x xs p.rest 0 hit e)

reply_stays : (s x : ℕ) (t u : Table) (o : Option (ℕ × Row)) (rest rest' : Reply) → IsGrown t u → first_named x t.rows 0 ≡ o → Stays rest rest' → Stays (reply_or (head_of s t) o rest) (reply_or (head_of s u) (first_named x u.rows 0) rest')
reply_stays s x t u (Some hit) rest rest' g e h = rw (prefix_found x t.rows u.rows hit g.rows e) refl
reply_stays s x t u None rest rest' g e h = go t.complete refl
  where
    go : (b : Bool) → t.complete ≡ b → Stays (if b then rest else DontKnowYet (head_of s t)) (reply_or (head_of s u) (first_named x u.rows 0) rest')
    go true done = let same : u ≡ t = g.complete done in rw (same, e, done) h
    go false done = tt

-- what is found or absent stays so in tables that have grown
pub one_thread_stays : (tables later : List Table) (chain : List ℕ) (x : ℕ) → ((s : ℕ) → IsGrown (table_at tables s) (table_at later s)) → Stays (one_thread tables chain x) (one_thread later chain x)
one_thread_stays tables later [] x g = refl
one_thread_stays tables later (s ∷ chain) x g =
    reply_stays s x (table_at tables s) (table_at later s) (first_named x (table_at tables s).rows 0) _ _ (g s) refl (one_thread_stays tables later chain x g)

reply_settles : (s x : ℕ) (t : Table) (rows : List Row) (o : Option (ℕ × Row)) (rest : Reply) (there : Option (Place × Row)) → IsBegun t rows → first_named x t.rows 0 ≡ o → Settles rest there → Settles (reply_or (head_of s t) o rest) (found_or s (first_named x rows 0) there)
reply_settles s x t rows (Some hit) rest there g e h = rw (prefix_found x t.rows rows hit g.first e) refl
reply_settles s x t rows None rest there g e h = go t.complete refl
  where
    go : (b : Bool) → t.complete ≡ b → Settles (if b then rest else DontKnowYet (head_of s t)) (found_or s (first_named x rows 0) there)
    go true done = let none : first_named x rows 0 ≡ None = subst (λ r. first_named x r 0 ≡ None) (g.whole done) e in rw none h
    go false done = tt

-- what is found or absent is so in the finished rows
pub one_thread_settles : (tables : List Table) (finished : List (List Row)) (chain : List ℕ) (x : ℕ) → ((s : ℕ) → IsBegun (table_at tables s) (rows_at finished s)) → Settles (one_thread tables chain x) (lookup finished chain x)
one_thread_settles tables finished [] x g = refl
one_thread_settles tables finished (s ∷ chain) x g =
    reply_settles s x (table_at tables s) (rows_at finished s) (first_named x (table_at tables s).rows 0) _ _ (g s) refl (one_thread_settles tables finished chain x g)

take-prefix : {A : Type 0} (xs ys : List A) → take (length xs) (xs ++ ys) ≡ xs
take-prefix [] [] = refl
take-prefix [] (y ∷ ys) = refl
take-prefix (x ∷ xs) ys = ap (λ t. x ∷ t) (take-prefix xs ys)

-- what a head shows of the finished rows is what its table has
shown_rows : (t : Table) (rows : List Row) → IsBegun t rows → take (length t.rows) rows ≡ t.rows
shown_rows t rows g = subst (λ ys. take (length t.rows) ys ≡ t.rows) g.first.joined (take-prefix t.rows g.first.rest)

lawful_head : (s x : ℕ) (t : Table) (finished : List (List Row)) (o : Option (ℕ × Row)) (rest : Reply) (heads : List Head) → IsBegun t (rows_at finished s) → first_named x t.rows 0 ≡ o → rest ≡ reply_of_heads finished heads x → reply_or (head_of s t) o rest ≡ reply_of_heads finished (head_of s t ∷ heads_after t o heads) x
lawful_head s x t finished (Some hit) rest heads g e h = rw (shown_rows t (rows_at finished s) g, e) refl
lawful_head s x t finished None rest heads g e h = rw (shown_rows t (rows_at finished s) g, e) (go t.complete)
  where
    go : (b : Bool) → (if b then rest else DontKnowYet (head_of s t)) ≡ (if b then reply_of_heads finished (if b then heads else []) x else DontKnowYet (head_of s t))
    go true = h
    go false = refl

-- what one thread answers is what its heads show of the finished rows
pub lawful_heads : (tables : List Table) (finished : List (List Row)) (chain : List ℕ) (x : ℕ) → ((s : ℕ) → IsBegun (table_at tables s) (rows_at finished s)) → one_thread tables chain x ≡ reply_of_heads finished (heads_of tables chain x) x
lawful_heads tables finished [] x g = refl
lawful_heads tables finished (s ∷ chain) x g =
    lawful_head s x (table_at tables s) finished (first_named x (table_at tables s).rows 0) _ (heads_of tables chain x) (g s) refl (lawful_heads tables finished chain x g)

-- one table is changed: each has grown
pub set_grows : (tables : List Table) (s : ℕ) (t : Table) → s < length tables → IsGrown (table_at tables s) t → (k : ℕ) → IsGrown (table_at tables k) (table_at (set tables s t) k)
set_grows tables s t within g k = go (cases_eq k s)
  where
    go : (k ≡ s) ⊎ (k ≢ s) → IsGrown (table_at tables k) (table_at (set tables s t) k)
    go (inl same) = subst (λ j. IsGrown (table_at tables j) (table_at (set tables s t) j)) (sym same) (rw get_or-set_same g)
    go (inr other) = rw get_or-set_other (IsGrown-refl (table_at tables k))

open_grows : (t u : Table) → t.complete ≡ false → IsPrefixOf t.rows u.rows → IsGrown t u
open_grows t u still p = record { rows = p; complete = λ h. absurd (false≢true (sym still ∙ h)) }

pub after_grows : (tables : List Table) (e : Event) → IsLawful tables e → (k : ℕ) → IsGrown (table_at tables k) (table_at (after tables e) k)
after_grows tables (Enter s rows) lawful =
    set_grows tables s _ lawful.0.0 (open_grows (table_at tables s) _ lawful.0.1 (record { rest = rows.items; joined = refl }))
after_grows tables (Complete s) lawful =
    set_grows tables s _ lawful.0 (open_grows (table_at tables s) _ lawful.1 (IsPrefixOf-refl (table_at tables s).rows))

-- a scope has no fewer rows in the end
pub grown_rows : (t u : Table) → IsGrown t u → length t.rows ≤ length u.rows
grown_rows t u g =
    let all : length t.rows + length g.rows.rest ≡ length u.rows = sym (length-append t.rows g.rows.rest) ∙ ap length g.rows.joined in
    omega (arith, all)

pub run_grows : (tables : List Table) (run : List Event) → IsRun tables run → (k : ℕ) → IsGrown (table_at tables k) (table_at (after_all tables run) k)
run_grows tables [] lawful k = IsGrown-refl (table_at tables k)
run_grows tables (e ∷ run) lawful k = IsGrown-trans (after_grows tables e lawful.0 k) (run_grows (after tables e) run lawful.1 k)
