-- What a seat has seen of the shared tables, in the terms of all scopes.
use Rattle.std.specs.Prelude.{◌≡◌, ℕ, zero, suc, ◌-◌, ◌/◌, ◌≤◌, true, false, List, [], ◌∷◌, Option, None, Some, map}
use Rattle.std.specs.Prelude.{length, slice_get, if◌then◌else◌}
use Rattle.m2_base.specs.Lists.{Each, IsIn, IsPrefixOf}
use Rattle.m2_base.specs.Scopes.{IsTaken}
use Rattle.m2_base.specs.States.{State, Look, Mark}
use Rattle.m2_base.specs.Tables.{Table, Lacks, table_at, head_of, reply_of_heads}
use Rattle.m2_base.specs.declared.replies.Ask.{Ask}
use Rattle.m2_base.specs.declared.replies.Ask.TheVariants.{Known, DontKnowYet as Waiting}
use Rattle.m2_base.specs.declared.replies.Head.{Head}
use Rattle.m2_base.specs.declared.replies.Reply.{Reply}
use Rattle.m2_base.specs.declared.replies.Reply.TheVariants.{Found, Absent, DontKnowYet}
use Rattle.m2_base.specs.declared.rows.Row.{Row}
use Rattle.scope_table.specs.Rule.{scopes, base, mid, texts_in, shown_at}
use Rattle.scope_table.specs.declared.view.About.{About}
use Rattle.scope_table.specs.declared.view.Look.{Look as Noted}
use Rattle.scope_table.specs.declared.view.Shown.{Shown}
use Rattle.scope_table.specs.declared.view.View.{View}

-- ** Tables

abbrev pub table_of : Shown → Table
table_of t = record { rows = t.rows; complete = t.complete }

-- all scopes, as the view has seen them
abbrev pub tables_in : View → List Table
tables_in v = map table_of v.seen

-- a scope may become another: its rows stay and more may follow, and after it is complete nothing changes
pub record IsGrown (t u : Table) : Type 0 where
  pub rows : IsPrefixOf t.rows u.rows
  pub complete : t.complete ≡ true → u ≡ t

-- tables may become others: what a seat has seen may become all tables that come later
abbrev pub HaveGrown : List Table → List Table → Type 0
HaveGrown tables later = (s : ℕ) → IsGrown (table_at tables s) (table_at later s)

-- the scope is complete and has no row of the name
pub record IsWithout (name : ℕ) (t : Table) : Type 0 where
  pub complete : t.complete ≡ true
  pub lacks : Lacks t.rows name

-- What a reply tells of tables: the row that was found is there, an absent name is in none of the scopes, which are
-- complete, and the head at which a search stopped is that of its scope, which isn't complete and lacks the name.
abbrev pub TellsOf : List Table → List ℕ → (name : ℕ) → Reply → Type 0
TellsOf tables chain name (Found p r) =
    IsIn p.scope chain × (r.name ≡ name) × (slice_get (table_at tables p.scope).rows p.ordinal ≡ Some r)
TellsOf tables chain name Absent = Each (λ s. IsWithout name (table_at tables s)) chain
TellsOf tables chain name (DontKnowYet h) =
    IsIn h.scope chain × (h ≡ head_of h.scope (table_at tables h.scope)) × (h.complete ≡ false)
    × Lacks (table_at tables h.scope).rows name

-- what is known of a place that a head of its scope doesn't count
abbrev pub behind : Head → Ask (Option Row)
behind h = if h.complete then Known None else Waiting h

-- The head was shown: its scope has at least so many rows, and these are all where it is complete.
pub record WasShown (t : Table) (h : Head) : Type 0 where
  pub count : h.count ≤ length t.rows
  pub whole : h.complete ≡ true → (t.complete ≡ true) × (length t.rows ≡ h.count)

-- A look is lawful in tables: its heads were shown there, they are those of the chain's first scopes, all but the last
-- are complete, and its reply comes from the last and is what the rows that the heads count answer.
pub record IsLawful (tables : List Table) (l : Look) : Type 0 where
  pub shown : Each (λ h. WasShown (table_at tables h.scope) h) l.heads
  pub taken : IsTaken l.chain l.heads l.reply
  pub reply : l.reply ≡ reply_of_heads (map (λ t. t.rows) tables) l.heads l.name

-- ** What a handle holds, as Scopes

-- how many rows a scope has room for
abbrev pub area : About → ℕ → ℕ
area a j = (mid a j - base a j) / 8

-- of n scopes, from j on
abbrev pub areas_from : About → (j n : ℕ) → List ℕ
areas_from a j zero = []
areas_from a j (suc n) = area a j ∷ areas_from a (suc j) n

abbrev pub areas_in : About → List ℕ
areas_in a = areas_from a 0 (scopes a)

abbrev pub look_of : Noted → Look
look_of l = record { at = l.at; name = l.name; chain = l.chain; heads = l.heads; reply = l.reply }

abbrev pub mark_in : Shown → Mark
mark_in t = record { count = length t.rows; complete = t.complete }

-- A handle on the tables that fills a scope. Of the rows of other scopes it keeps none, and of its searches all.
abbrev pub state_in : About → View → ℕ → State
state_in a v scope =
    record {
      frame = record {
        setting = record { texts = texts_in a; fills = scope; areas = areas_in a; others = None };
        entered = (shown_at v scope).rows;
        closed = (shown_at v scope).complete;
      };
      seen = λ j. mark_in (shown_at v j);
      looks = Some (map look_of v.looks);
    }
