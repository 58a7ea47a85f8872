-- What stands for a name where a type is wanted.
use Rattle.std.specs.Prelude.{ℕ, ◌<◌, Option, None, Some}
use Rattle.m2_base.specs.Gives.{Gives, gives}
use Rattle.m2_base.specs.Standard.{broken}
use Rattle.m2_base.specs.Statics.Contexts.{Context, refuse}
use Rattle.m2_base.specs.Statics.Diagnostics.{not_a_type}
use Rattle.m2_base.specs.Statics.Lookup.{Entry}
use Rattle.m2_base.specs.Statics.Uses.{use_of}
use Rattle.m2_base.specs.declared.rows.Place.{Place}
use Rattle.m2_base.specs.declared.trees.Ident.{Ident}
use Rattle.decl_sem.specs.declared.names.Qualifier.{Qualifier}
use Rattle.decl_sem.specs.declared.names.Qualifier.TheVariants.{Scope, Wrong, NoModule}

-- a type, or a name that is none
abbrev pub type_or : Context → (at : ℕ) → Option Place → Gives Place
type_or c at (Some t) = gives t
type_or c at None = refuse c at not_a_type broken

-- a name after the point of a module, of what is in error, or of anything else
abbrev pub member_by : Context → (at : ℕ) → Ident → Qualifier → Gives (Option Entry)
member_by c at i (Scope s) = use_of c (Some s) i.name i.at
member_by c at i Wrong = gives None
member_by c at i NoModule = refuse c at not_a_type None

-- the scope of a module is a smaller one
abbrev pub IsScopeBefore : ℕ → Qualifier → Type 0
IsScopeBefore s (Scope m) = m < s
IsScopeBefore s other = Unit {0}
