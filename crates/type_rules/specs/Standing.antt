-- Why it isn't known yet what a type stands for: of which row, or of which name, the answer is waited for.
use Rattle.std.specs.Prelude.{◌≡◌, ◌⊎◌, ℕ, ◌+◌, ◌<◌, ◌≤◌, [], ◌∷◌, Option, Some, None}
use Rattle.m2_base.specs.Lists.{WhereLast}
use Rattle.m2_base.specs.Rows.{at_place, row_meaning}
use Rattle.m2_base.specs.States.{State}
use Rattle.m2_base.specs.declared.replies.Head.{Head}
use Rattle.m2_base.specs.declared.replies.Reply.TheVariants.{DontKnowYet, Found}
use Rattle.m2_base.specs.declared.rows.Place.{Place}
use Rattle.m2_base.specs.declared.rows.Row.{Row}
use Rattle.m2_base.specs.declared.rows.RowMeaning.{RowMeaning}
use Rattle.m2_base.specs.declared.rows.RowMeaning.TheVariants.{TypeName}
use Rattle.m2_base.specs.declared.sites.Around.{Around}
use Rattle.type_rules.specs.Sites.{IsLookFor}

-- the type that was found, or this one
abbrev pub found_or : Place → Option (Place × RowMeaning) → Place
found_or t None = t
found_or t (Some found) = found.0

-- the head doesn't count the row at this place
abbrev pub IsShortOf : Place → Head → Type 0
IsShortOf p h = (h.scope ≡ p.scope) × (h.count ≤ p.ordinal)

-- the head is of the scope of this place, and doesn't count all rows before it
abbrev pub IsShortBefore : Place → Head → Type 0
IsShortBefore p h = (h.scope ≡ p.scope) × (h.count < p.ordinal)

-- the row is that of a type's name, and the head doesn't count the row of that type
pub record IsShortOfNamed (r : Row) (h : Head) : Type 0 where
  pub named : Place
  pub leads : row_meaning r ≡ TypeName named
  pub short : IsShortOf named h

-- the search for this name in the module's scope alone stopped at this head, and was the last
pub record StopsSearch (new : State) (home name : ℕ) (h : Head) : Type 0 where
  pub on : h.scope ≡ home
  pub asked : WhereLast new.looks (IsLookFor 0 name (home ∷ []) (DontKnowYet h))

-- that search was the last, and found the name of a type whose row the head doesn't count
pub record StopsBehindSearch (new : State) (home name : ℕ) (h : Head) : Type 0 where
  pub place : Place
  pub row : Row
  pub found : WhereLast new.looks (IsLookFor 0 name (home ∷ []) (Found place row))
  pub short : IsShortOfNamed row h

-- what the module declares under this name isn't known at this head
abbrev pub StopsAtName : State → (home name : ℕ) → Head → Type 0
StopsAtName new home name h = StopsSearch new home name h ⊎ StopsBehindSearch new home name h

-- What an opaque type stands for isn't known at this head: it is one of the block's own definition, and the head
-- doesn't count the row behind it, which has its name, or what the module declares under a name isn't known.
pub record StopsAtOpaque (new : State) (a : Around) (t : Place) (h : Head) : Type 0 where
  pub own : a.own ≡ Some t.scope
  pub stops : IsShortOf (at_place t.scope (t.ordinal + 1)) h ⊎ ((name : ℕ) × StopsAtName new a.module name h)

-- what a type stands for isn't known at this head: it doesn't count the type's row, or the type is opaque
abbrev pub StopsAtType : State → Around → Place → Head → Type 0
StopsAtType new a t h = IsShortOf t h ⊎ StopsAtOpaque new a t h

-- what one of two types stands for isn't known
abbrev pub StopsAtEither : State → Around → (t u : Place) → Head → Type 0
StopsAtEither new a t u h = StopsAtType new a t h ⊎ StopsAtType new a u h
