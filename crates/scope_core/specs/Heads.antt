-- The heads that a search in tables comes to.
use Rattle.std.specs.Prelude.{ℕ, List, [], ◌∷◌, Option, Some, None, if◌then◌else◌}
use Rattle.m2_base.specs.declared.rows.Row.{Row}
use Rattle.m2_base.specs.Tables.{Table, table_at, head_of, first_named}
use Rattle.m2_base.specs.declared.replies.Head.{Head}

-- the heads that come after a scope's own
abbrev pub heads_after : Table → Option (ℕ × Row) → List Head → List Head
heads_after t (Some hit) heads = []
heads_after t None heads = if t.complete then heads else []

-- the heads that a search comes to
abbrev pub heads_of : List Table → (chain : List ℕ) → (name : ℕ) → List Head
heads_of tables [] name = []
heads_of tables (s ∷ chain) name =
    head_of s (table_at tables s)
    ∷ heads_after (table_at tables s) (first_named name (table_at tables s).rows 0) (heads_of tables chain name)
