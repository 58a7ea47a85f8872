-- NEW of a pointer, by the type that it leads to.
use Rattle.std.specs.Prelude.{ℕ, [], ◌∷◌, if◌then◌else◌}
use Rattle.m2_base.specs.Statics.Contexts.{Scene}
use Rattle.m2_base.specs.Statics.Types.{is_broken, size_of}
use Rattle.m2_base.specs.declared.rows.Place.{Place}
use Rattle.code_form.specs.declared.instr.Instr.TheVariants.{New as Room}
use Rattle.block_code.specs.Coded.{Coded, coded, in_error}
use Rattle.block_code.specs.Parts.{Part, plain, ◌⨟◌}
use Rattle.block_code.specs.StandardProcedures.{no_value}

-- room of this size, for the pointer whose address this code gives
abbrev pub room_at : Part → (size : ℕ) → Coded
room_at p size = coded no_value (p ⨟ plain (Room size ∷ []))

-- room for a variable of this type, unless that is in error
abbrev pub room_of : Scene → Part → Place → Coded
room_of scene p t = if is_broken scene t then in_error else room_at p (size_of scene t)
