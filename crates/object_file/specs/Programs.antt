-- Which objects are a program.
use Rattle.std.specs.Prelude.{◌≡◌, ◌≢◌, ◌<◌, ◌-◌, ◌^◌, ℕ, List, [], ◌∷◌, length, map, codes, slice_get, None, Some}
use Rattle.std.specs.List.{AllByRecursion}
use Rattle.code_form.specs.Heights.{Callee}
use Rattle.code_form.specs.Modules.{Import}
use Rattle.object_file.specs.Contents.{Export, Contents, definitions_of}
use Rattle.object_file.specs.Naming.{name_again}
use Rattle.object_file.specs.Validity.{IsValid}

abbrev heading : (params result : ℕ) → Callee
heading params result = record { params = params; result = result }

-- The module that each machine has: its name, its cell Done, and its headings Read, ReadInt, ReadCard, Write,
-- WriteString, WriteLn, WriteInt and WriteCard.
abbrev pub in_out : Import
in_out =
    record {
      name = codes "InOut";
      cells = 1;
      headings = heading 1 0 ∷ heading 1 0 ∷ heading 1 0 ∷ heading 1 0 ∷ heading 2 0 ∷ heading 0 0 ∷ heading 2 0
          ∷ heading 2 0 ∷ [];
    }

-- an import that no other object need meet: that of InOut as it is, or one of no cells and no headings
pub data IsApart (i : Import) : Type 0 where
  built_in : i ≡ in_out → IsApart i
  empty : i.name ≢ in_out.name → i.cells ≡ 0 → i.headings ≡ [] → IsApart i

-- an object that needs no other
abbrev pub IsAlone : Contents → Type 0
IsAlone o = AllByRecursion IsApart (definitions_of o)

-- the headings that an object gives to others
abbrev pub given_headings : List Export → List Callee
given_headings exports = map (λ e. heading e.1 e.2) exports

-- an import that needs no other object, or for which there is one that gives these cells and headings
pub data IsMet (os : List Contents) (i : Import) : Type 0 where
  apart : IsApart i → IsMet os i
  by : (k : ℕ) (o : Contents) → slice_get os k ≡ Some o → i.name ≢ in_out.name → o.name ≡ i.name
      → o.own_cells ≡ i.cells → given_headings o.exports ≡ i.headings → IsMet os i

abbrev pub AllDiffer : List (List ℕ) → Type 0
AllDiffer [] = Unit {0}
AllDiffer (n ∷ ns) = AllByRecursion (λ m. n ≢ m) ns × AllDiffer ns

-- valid objects with different names, among which all imports are met
pub record IsProgram (os : List Contents) : Type 0 where
  pub some : 0 < length os
  pub few : length os < 2 ^ 32 - 1
  pub valid : AllByRecursion IsValid os
  pub names_differ : AllDiffer (map (λ o. o.name) os)
  pub met : AllByRecursion (λ o. AllByRecursion (IsMet os) (definitions_of o)) os

-- Objects of which a program can be made: there is a first one, their names differ, and all imports are met.
pub record AreLinked (os : List Contents) : Type 0 where
  pub some : 0 < length os
  pub few : length os < 2 ^ 32 - 1
  pub names_differ : name_again os ≡ None
  pub met : AllByRecursion (λ o. AllByRecursion (IsMet os) (definitions_of o)) os
