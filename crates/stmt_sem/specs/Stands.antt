-- Where a statement stands in its block, as the definitions see it.
use Rattle.std.specs.Prelude.{◌≡◌, ℕ, List, [], false, Option, None}
use Rattle.std.specs.Option.{IfSome}
use Rattle.m2_base.specs.Lists.{Each}
use Rattle.m2_base.specs.States.{Frame}
use Rattle.m2_base.specs.Statics.Contexts.{Context}
use Rattle.m2_base.specs.declared.rows.Place.{Place}
use Rattle.type_rules.specs.Scenes.{IsThere}
use Rattle.type_rules.specs.Sites.{SuitsSite}
use Rattle.expr_sem.specs.Codings.{with_types}
use Rattle.block_code.specs.Statements as statements
use Rattle.stmt_sem.specs.declared.stands.Stand.{Stand}

-- the same stand in this context
abbrev pub stand_in : Context → Stand → statements.Stand
stand_in c s = record { context = c; result = s.result; withs = with_types s.withs.now; looped = s.looped }

-- a stand at the beginning of a body whose procedure has this result
abbrev pub at_first : Context → Option Place → statements.Stand
at_first c r = record { context = c; result = r; withs = []; looped = false }

-- the names of the texts
abbrev pub names_of : Stand → List (List ℕ)
names_of s = s.site.now.texts.now.names

-- the scopes suit the site, which is in no item; the types of the result and of the records of
-- the open WITHs can be asked for
pub record IsStand (f : Frame) (s : Stand) : Type 0 where
  pub suits : SuitsSite f s.site.now
  pub item : s.site.now.item ≡ None
  pub result : IfSome s.result (λ t. IsThere f t)
  pub withs : Each (λ w. IsThere f w.of) s.withs.now
