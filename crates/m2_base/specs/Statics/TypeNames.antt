-- The type that a name leads to.
use Rattle.std.specs.Prelude.{None, Option, Some, ℕ}
use Rattle.m2_base.specs.Gives.{Gives, and_then, gives}
use Rattle.m2_base.specs.Rows.{Broken, Module, Place, RowMeaning, TypeName, row_meaning}
use Rattle.m2_base.specs.Standard.{broken}
use Rattle.m2_base.specs.Statics.Contexts.{Context, refuse}
use Rattle.m2_base.specs.Statics.Diagnostics.{not_a_type}
use Rattle.m2_base.specs.Statics.Lookup.{Entry}
use Rattle.m2_base.specs.Statics.Uses.{use_of}
use Rattle.m2_base.specs.Trees.{Ident, Qual}

-- a name after a module's point, where a type is value_wanted
abbrev pub member_of : Context → (at : ℕ) → Ident → RowMeaning → Gives (Option Entry)
member_of c at i (Module s) = use_of c (Some s) i.name i.at
member_of c at i Broken = gives None
member_of c at i other = refuse c at not_a_type None

-- the entry of a name, or of the name after its point
abbrev pub qualified : Context → (at : ℕ) → Option Ident → Option Entry → Gives (Option Entry)
qualified c at second None = gives None
qualified c at None (Some e) = gives (Some e)
qualified c at (Some i) (Some e) = member_of c at i (row_meaning e.1)

-- the entry that a type's name, with or without a module before it, is bound to
abbrev pub entry_of_qual : Context → Qual → Gives (Option Entry)
entry_of_qual c q = and_then (use_of c None q.first.name q.first.at) (qualified c q.first.at q.second)

-- the type in a type name's row; what is in error gives no further diagnostic; anything else is no type
abbrev pub type_by : Context → (at : ℕ) → RowMeaning → Gives Place
type_by c at (TypeName t) = gives t
type_by c at Broken = gives broken
type_by c at other = refuse c at not_a_type broken

-- the type that an entry leads to; without one it is in error
abbrev pub type_of_entry : Context → (at : ℕ) → Option Entry → Gives Place
type_of_entry c at None = gives broken
type_of_entry c at (Some e) = type_by c at (row_meaning e.1)

-- the type that a name leads to; a name that is no type's is refused at its first token, and the type is in error
abbrev pub type_of_qual : Context → Qual → Gives Place
type_of_qual c q = and_then (entry_of_qual c q) (type_of_entry c q.first.at)
