-- What an object's parts name is what their contents name.
use Rattle.std.proofs.Common.{◌≡◌, List, [], ◌∷◌, map, refl, ap}
use Rattle.code_form.specs.Modules.{Import}
use Rattle.object_file.specs.declared.parts.ImportNote.{ImportNote}
use Rattle.object_file.specs.declared.parts.Parts.{Parts}
use Rattle.object_file.specs.Contents.{KeyedImport, world_of}
use Rattle.object_file.specs.Views.{import_of, keyed_of, procedure_of, contents_of, world_in}

pub same_definitions : (ns : List ImportNote) → map (λ (i : KeyedImport). i.definition) (map keyed_of ns) ≡ map import_of ns
same_definitions [] = refl
same_definitions (n ∷ ns) = ap (λ (is : List Import). import_of n ∷ is) (same_definitions ns)

pub same_world : (p : Parts) → world_of (contents_of p) ≡ world_in p
same_world p =
    ap (λ (is : List Import). record { cells = p.cells; imports = is; procedures = map procedure_of p.procedures.items }) (same_definitions p.imports.items)
