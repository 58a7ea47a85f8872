-- What the definition of a declaration gives: its value, the rows that it makes, and beside them the diagnostics and
-- the answers, in text order.
use Rattle.std.specs.Prelude.{List, [], length, slice_set, ℕ, if◌then◌else◌, ◌∷◌, ◌++◌}
use Rattle.m2_base.specs.Gives.{Gives}
use Rattle.m2_base.specs.Rows.{Place, Row, RowMeaning, at_place, row_of}
use Rattle.m2_base.specs.Standard.{is_standard}
use Rattle.m2_base.specs.Statics.Contexts.{Context, Scene, diag}
use Rattle.m2_base.specs.Statics.Diagnostics.{declared_twice, standard_declared}
use Rattle.m2_base.specs.Statics.Lookup.{has_name}
use Rattle.m2_base.specs.Tables.{rows_at}
use Rattle.m2_base.specs.declared.notes.Answer.{Answer}
use Rattle.m2_base.specs.declared.notes.Diag.{Diag}

-- what is made: a value, rows, diagnostics and answers
pub record Makes (T : Type 0) : Type 0 where
  pub value : T
  pub rows : List Row
  pub diags : List Diag
  pub answers : List Answer

-- a value alone
abbrev pub makes : {T : Type 0} → T → Makes T
makes v = record { value = v; rows = []; diags = []; answers = [] }

-- what makes no rows
abbrev pub only_gives : {T : Type 0} → Gives T → Makes T
only_gives g = record { value = g.value; rows = []; diags = g.diags; answers = g.answers }

-- the rows of the block's own scope
abbrev pub own_rows : Context → List Row
own_rows c = rows_at c.scene.tables c.scene.block.scope

-- the place of the next row
abbrev pub next_place : Context → Place
next_place c = at_place c.scene.block.scope (length (own_rows c))

-- the scene where the own scope has these further rows
abbrev pub scene_with : Scene → List Row → Scene
scene_with s rows = record s { tables = slice_set s.tables s.block.scope (rows_at s.tables s.block.scope ++ rows) }

-- the context where these rows are made too
abbrev pub with_rows : Context → List Row → Context
with_rows c rows = record c { scene = scene_with c.scene rows }

-- what f makes of the value, after what a makes, whose rows count for it
abbrev pub make_then : {A B : Type 0} → Context → Makes A → (Context → A → Makes B) → Makes B
make_then c a f =
    let b = f (with_rows c a.rows) a.value in
    record {
      value = b.value;
      rows = a.rows ++ b.rows;
      diags = a.diags ++ b.diags;
      answers = a.answers ++ b.answers;
    }

-- one row, whose place is the value
abbrev pub one_row : Context → Row → List Diag → Makes Place
one_row c r ds = record { value = next_place c; rows = r ∷ []; diags = ds; answers = [] }

-- a row without a name
abbrev pub makes_row : Context → (at : ℕ) → RowMeaning → Makes Place
makes_row c at m = one_row c (row_of 0 at m) []

-- A row with a name. One that declares a standard name, and the second of a name in its scope,
-- is nameless and refused.
abbrev pub makes_named : Context → (name at : ℕ) → RowMeaning → Makes Place
makes_named c name at m =
    if is_standard name then one_row c (row_of 0 at m) (diag c at standard_declared ∷ []) else
    if has_name c.scene.tables c.scene.block.scope name then
    one_row c (row_of 0 at m) (diag c at declared_twice ∷ [])
    else one_row c (row_of name at m) []
