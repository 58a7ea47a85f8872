-- What the parts of reading tell.
use Rattle.std.specs.Prelude.{ℕ, ◌+◌, ◌-◌, List, length, Result, Ok, Err}
use Rattle.code_form.specs.Modules.{Procedure, World}
use Rattle.object_file.specs.declared.fault.Stop.{Stop}
use Rattle.object_file.specs.declared.fault.Stop.TheVariants as stops
use Rattle.object_file.specs.declared.fault.CodeFault.{CodeFault}
use Rattle.object_file.specs.declared.fault.CodeFault.TheVariants as faults
use Rattle.object_file.specs.declared.fault.ObjectFault.{ObjectFault}
use Rattle.object_file.specs.declared.fault.ObjectFault.TheVariants as object_faults
use Rattle.object_file.specs.Contents.{Contents, body_bytes}
use Rattle.object_file.specs.Validity.{IsObject, IsTold, IsBadAt, HaveValidCode, HaveFault}

-- where a code's fault is in the file, if so many bytes follow the procedure
abbrev pub stop_of : CodeFault → Procedure → (behind : ℕ) → Stop
stop_of faults.Memory p behind = stops.Memory
stop_of (faults.InCode at code) p behind = stops.Bad (length p.code - at + behind) code
stop_of faults.OfHigh p behind = stops.Bad (length (body_bytes p) + behind) 8

-- what is told of the code of procedures, the first of which has number k
abbrev pub TellsAll : World → ℕ → List Procedure → Result (Unit {0}) Stop → Type 0
TellsAll w k ps (Ok u) = HaveValidCode w k ps
TellsAll w k ps (Err stops.Memory) = Unit {0}
TellsAll w k ps (Err (stops.Bad left code)) = HaveFault w k ps (record { left = left; code = code })

-- what is told of bytes, where a value says these contents
abbrev pub TellsBytes : {X : Type 0} → (X → Contents) → List ℕ → Result X Stop → Type 0
TellsBytes view bytes (Ok x) = IsObject bytes (view x)
TellsBytes view bytes (Err stops.Memory) = Unit {0}
TellsBytes view bytes (Err (stops.Bad left code)) = IsTold bytes (record { left = left; code = code })

-- a fault that is told comes where the bytes are no object, at the first broken place
abbrev pub IsFaultOf : List ℕ → ObjectFault → Type 0
IsFaultOf bytes object_faults.Memory = Unit {0}
IsFaultOf bytes (object_faults.BadObject offset code) = IsBadAt bytes offset code
