-- When a search may be noted as a look.
use Rattle.std.specs.Prelude.{◌≡◌, ℕ, ◌<◌, List, ◌++◌, Some, length, take, unwrap_or}
use Rattle.m2_base.specs.Lists.{Each}
use Rattle.m2_base.specs.Scopes.{IsTaken}
use Rattle.m2_base.specs.Tables.{first_named}
use Rattle.m2_base.specs.declared.replies.Head.{Head}
use Rattle.m2_base.specs.declared.replies.Reply.{Reply}
use Rattle.m2_base.specs.declared.replies.Reply.TheVariants.{Absent}
use Rattle.scope_core.specs.Flights.{Flown, reply_of, heads_in, found_at}
use Rattle.scope_core.specs.declared.flight.Load.{Load}
use Rattle.scope_table.specs.Rule.{scopes, shown_at, WasShown}
use Rattle.scope_table.specs.declared.view.Look.{Look}
use Rattle.scope_table.specs.declared.view.About.{About}
use Rattle.scope_table.specs.declared.view.View.{View}

-- the look of a search that has its reply, for the token `at`
abbrev pub look_of : ℕ → Flown → Look
look_of at f = record {
  at = at;
  name = f.name;
  chain = f.chain;
  heads = heads_in f.loads;
  reply = unwrap_or (reply_of f.chain f.loads) Absent;
}

-- the head was shown by what the view has seen, and the hit is the first row of the name among those that it counts
pub record IsLoadOf (a : About) (v : View) (name : ℕ) (l : Load) : Type 0 where
  pub shown : WasShown (scopes a) (shown_at v) l.head
  pub hit : l.hit ≡ found_at l.head.scope (first_named name (take l.head.count (shown_at v l.head.scope).rows) 0)

-- The search has its reply, its heads are the last that the view loaded, and its loads are what the view has seen.
pub record CanNote (a : About) (v : View) (f : Flown) : Type 0 where
  pub reply : Reply
  pub has : reply_of f.chain f.loads ≡ Some reply
  pub taken : IsTaken f.chain (heads_in f.loads) reply
  pub some : 0 < length f.loads
  pub before : List Head
  pub last : v.loads ≡ before ++ heads_in f.loads
  pub loads : Each (IsLoadOf a v f.name) f.loads
