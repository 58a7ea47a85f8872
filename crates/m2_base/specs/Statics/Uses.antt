-- How a name is bound where it is used.
use Rattle.std.specs.Prelude.{Bool, None, Option, Some, drop, nat_lt, ℕ, if◌then◌else◌, ◌==◌, ◌&&◌}
use Rattle.m2_base.specs.Gives.{Gives, and_then, gives, gives_answer}
use Rattle.m2_base.specs.Rows.{Alias, RowMeaning, row_meaning}
use Rattle.m2_base.specs.Standard.{is_standard, standard_place}
use Rattle.m2_base.specs.Statics.Contexts.{Context, Named, Scene, refuse, text_of_scope}
use Rattle.m2_base.specs.Statics.Diagnostics.{not_declared_there, unknown_name, used_before}
use Rattle.m2_base.specs.Statics.Lookup.{Entry, entry_at, entry_in, first_entry}
use Rattle.m2_base.specs.Tables.{lookup}
use Rattle.m2_base.specs.declared.notes.Answer.{Answer}

-- an entry by its row's meaning: an alias is followed to its target, which is none
abbrev pub followed_by : Scene → Entry → RowMeaning → Entry
followed_by scene e (Alias p) = entry_at scene p
followed_by scene e other = e

-- an entry, aliases followed
abbrev pub followed : Scene → Entry → Entry
followed scene e = followed_by scene e (row_meaning e.1)

-- what a lookup found: it is noted as an answer, an alias as itself
abbrev pub answer_of : (name at : ℕ) → Entry → Answer
answer_of name at e = record { at = at; name = name; place = e.0; row = e.1 }

-- a found entry, noted as an answer and followed
abbrev pub bound : Context → (name at : ℕ) → Entry → Gives (Option Entry)
bound c name at e = gives_answer (answer_of name at e) (Some (followed c.scene e))

-- the entry that was found, or this diagnostic
abbrev pub bound_or : Context → (code name at : ℕ) → Option Entry → Gives (Option Entry)
bound_or c code name at None = refuse c at code None
bound_or c code name at (Some e) = bound c name at e

-- the row stands in the same text, after this token
abbrev pub stands_later : Context → ℕ → Entry → Bool
stands_later c at e = (text_of_scope c.source e.0.scope == c.scene.block.text) && nat_lt at e.1.at

-- a name from outside the block, in a declaration: it must stand before in the text
abbrev pub bound_outside : Context → (name at : ℕ) → Option Entry → Gives (Option Entry)
bound_outside c name at None = refuse c at unknown_name None
bound_outside c name at (Some e) =
    if stands_later c at e then
    and_then (gives_answer (answer_of name at e) None) (λ none. refuse c at used_before none)
    else bound c name at e

-- A name in a declaration. One that the block declares must be declared by an earlier item, and is the block's own;
-- one that it doesn't declare is looked up outside.
abbrev pub use_in_item : Context → (item name at : ℕ) → Option Named → Gives (Option Entry)
use_in_item c item name at (Some n) =
    if nat_lt n.item item then bound_or c unknown_name name at (entry_in c.scene.tables c.scene.block.scope name)
    else refuse c at used_before None
use_in_item c item name at None =
    bound_outside c name at (lookup c.scene.tables (drop 1 c.scene.block.chain) name)

-- in a statement every scope of the chain is looked up
abbrev pub use_by_item : Context → (name at : ℕ) → Option ℕ → Gives (Option Entry)
use_by_item c name at (Some item) = use_in_item c item name at (first_entry c.layout name)
use_by_item c name at None = bound_or c unknown_name name at (lookup c.scene.tables c.scene.block.chain name)

-- A name after a module's point, or in a FROM list, is looked up in that module's scope alone. A standard name is
-- its row at once. Any other name goes by the place where it stands. None exactly with a diagnostic.
abbrev pub use_of : Context → (within : Option ℕ) → (name at : ℕ) → Gives (Option Entry)
use_of c (Some s) name at = bound_or c not_declared_there name at (entry_in c.scene.tables s name)
use_of c None name at =
    if is_standard name then gives (Some (entry_at c.scene (standard_place name))) else use_by_item c name at c.item
