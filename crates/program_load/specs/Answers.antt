-- What the faults of the code say.
use Rattle.std.specs.Prelude.{Option, Some, None, string_bytes}
use Rattle.m2_link.specs.Refusals.{key_differs, missing, twice}
use Rattle.m2_link.specs.declared.fault.LinkFault.TheVariants as link
use Rattle.m2_link.specs.declared.fault.LinkFault.{LinkFault}
use Rattle.m2_io.specs.declared.shelf.ShelfError.TheVariants as shelf
use Rattle.m2_io.specs.declared.shelf.ShelfError.{ShelfError}
use Rattle.program_load.specs.Loads.{Failure, broken, limited, no_object, object_bytes, objects, refused}
use Rattle.program_load.specs.declared.fault.LoadFault.TheVariants.{NoObject, Read, TooLong, TooMany, Bad, Refused}
use Rattle.program_load.specs.declared.fault.LoadFault.TheVariants.{Memory}
use Rattle.program_load.specs.declared.fault.LoadFault.{LoadFault}

abbrev pub refusal_told : LinkFault → Option Failure
refusal_told (link.Twice name) = Some (refused (twice name.items))
refusal_told (link.Missing name) = Some (refused (missing name.items))
refusal_told (link.KeyDiffers name) = Some (refused (key_differs name.items))
refusal_told link.Memory = None

-- why there is no program; a fault of the shelf and want of memory say nothing
abbrev pub told : LoadFault → Option Failure
told NoObject = Some no_object
told Read = None
told TooLong = Some (limited object_bytes)
told TooMany = Some (limited objects)
told (Bad name offset code) = Some (broken (string_bytes name) offset code)
told (Refused fault) = refusal_told fault
told Memory = None

abbrev pub fault_of_shelf : ShelfError → LoadFault
fault_of_shelf shelf.Failed = Read
fault_of_shelf shelf.Memory = Memory

-- a fault that a call of the shelf may have
abbrev pub IsShelfFault : LoadFault → Type 0
IsShelfFault Read = Unit {0}
IsShelfFault Memory = Unit {0}
IsShelfFault other = ⊥
