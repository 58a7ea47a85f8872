-- The look of a search is lawful in the tables that it has seen, and in all that they may become.
use Rattle.std.proofs.Common.{◌≡◌, ℕ, zero, suc, ◌≤◌, true, List, [], ◌∷◌, map, length, sym, refl, ap, ◌∙◌, subst, arith, length-append}
use Rattle.m2_base.specs.Lists.{Each}
use Rattle.m2_base.specs.Scopes.{IsTaken, looks_of}
use Rattle.m2_base.specs.Tables.{Table, table_at, head_of, one_thread, rows_at}
use Rattle.m2_base.specs.declared.replies.Head.{Head}
use Rattle.m2_base.specs.declared.replies.Reply.{Reply}
use Rattle.m2_base.specs.declared.rows.Row.{Row}
use Rattle.scope_core.specs.Heads.{heads_of}
use Rattle.scope_core.specs.PlainScopes.{IsBegun}
use Rattle.scope_core.proofs.Settling.{lawful_heads}
use Rattle.dky_search.specs.Seen.{HaveGrown, IsGrown, IsLawful, WasShown}
use Rattle.dky_search.proofs.Told.{each_head, taken}

-- the rows of a scope are those of its table
rows_of_table : (tables : List Table) (s : ℕ) → rows_at (map (λ t. t.rows) tables) s ≡ (table_at tables s).rows
rows_of_table [] s = refl
rows_of_table (t ∷ tables) zero = refl
rows_of_table (t ∷ tables) (suc s) = rows_of_table tables s

-- a table has begun the rows that it may come to have
begun_later : (t u : Table) → IsGrown t u → IsBegun t u.rows
begun_later t u grown = record { first = grown.rows; whole = λ done. ap (λ (w : Table). w.rows) (sym (grown.complete done)) }

-- the head of a table was shown by whatever the table becomes
shown_later : (s : ℕ) (t u : Table) → IsGrown t u → WasShown u (head_of s t)
shown_later s t u grown =
    record {
      count = (let n = length-append t.rows grown.rows.rest in let m : length (t.rows) ≤ length u.rows = subst (λ (rows : List Row). length t.rows ≤ length rows) grown.rows.joined (omega (arith, n)) in m);
      whole = λ done. (ap (λ (w : Table). w.complete) (grown.complete done) ∙ done, ap (λ (w : Table). length w.rows) (grown.complete done));
    }

pub look_lawful : (tables later : List Table) (at : ℕ) (chain : List ℕ) (x : ℕ) (r : Reply) → r ≡ one_thread tables chain x → HaveGrown tables later → Each (IsLawful later) (looks_of at x chain (heads_of tables chain x) r)
look_lawful tables later at [] x r is grown = tt
look_lawful tables later at (s ∷ chain) x r is grown = (
  record {
    shown = each_head (λ h. WasShown (table_at later h.scope) h) tables (λ k. shown_later k (table_at tables k) (table_at later k) (grown k)) (s ∷ chain) x;
    taken = subst (IsTaken (s ∷ chain) (heads_of tables (s ∷ chain) x)) (sym is) (taken tables (s ∷ chain) x);
    reply = is
        ∙ lawful_heads tables (map (λ t. t.rows) later) (s ∷ chain) x (λ k. subst (IsBegun (table_at tables k)) (sym (rows_of_table later k)) (begun_later (table_at tables k) (table_at later k) (grown k)));
  },
  tt,
)
