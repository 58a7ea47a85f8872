-- Which bytes are an object, and what is told of bytes that are none.
use Rattle.std.specs.Prelude.{◌≡◌, ℕ, suc, ◌+◌, ◌-◌, List, [], ◌∷◌, length, flat_map, ◌⊎◌}
use Rattle.code_form.specs.Modules.{Procedure, World}
use Rattle.code_form.specs.Valid.{Fault, in_code, of_high, IsValidCode, IsFault}
use Rattle.object_file.specs.Contents.{Contents, body_bytes, procedure_bytes, object_bytes, world_of}
use Rattle.object_file.specs.Formats.{Bad, Spells, IsBad}
use Rattle.object_file.specs.ObjectFormat.{format_near}

-- each procedure has valid code; the first of these has number k
abbrev pub HaveValidCode : World → ℕ → List Procedure → Type 0
HaveValidCode w k [] = Unit {0}
HaveValidCode w k (p ∷ ps) = IsValidCode w k p × HaveValidCode w (suc k) ps

-- the place of a fault in the file, where these procedures follow the one that has it
abbrev pub bad_of : Procedure → List Procedure → Fault → Bad
bad_of p others (in_code at c) =
    record { left = length p.code - at + length (flat_map procedure_bytes others); code = c }
bad_of p others of_high = record { left = length (body_bytes p) + length (flat_map procedure_bytes others); code = 8 }

-- the first fault of the first procedure whose code has one
abbrev pub HaveFault : World → ℕ → List Procedure → Bad → Type 0
HaveFault w k [] bad = ⊥
HaveFault w k (p ∷ ps) bad =
    ((f : Fault) × IsFault w k p f × (bad ≡ bad_of p ps f))
    ⊎ (IsValidCode w k p × HaveFault w (suc k) ps bad)

-- the bytes are this object: they are its fields, each valid, and the code of its procedures is
pub record IsObject (bytes : List ℕ) (o : Contents) : Type 0 where
  pub fields : Spells (format_near bytes) bytes o []
  pub code : HaveValidCode (world_of o) 0 o.procedures

-- a valid object: what its own bytes say
abbrev pub IsValid : Contents → Type 0
IsValid o = IsObject (object_bytes o) o

-- What is told of bytes that are no object: first of the fields from the front and of what follows them, and only then
-- of the code, procedure by procedure.
pub data IsTold (bytes : List ℕ) (bad : Bad) : Type 0 where
  of_fields : IsBad (format_near bytes) bytes bad → IsTold bytes bad
  of_code : (o : Contents) → Spells (format_near bytes) bytes o [] → HaveFault (world_of o) 0 o.procedures bad
      → IsTold bytes bad

-- the same by the place from the front
pub record IsBadAt (bytes : List ℕ) (offset code : ℕ) : Type 0 where
  pub left : ℕ
  pub place : offset + left ≡ length bytes
  pub told : IsTold bytes (record { left = left; code = code })
