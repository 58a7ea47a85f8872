use Rattle.std.proofs.Common.{◌≡◌, rules, ◌∙◌, List, [], ◌∷◌, map, refl, ap}
use Rattle.object_file.specs.declared.parts.ImportNote.{ImportNote}
use Rattle.object_file.specs.Views.{import_of, keyed_of}
use Rattle.object_file.proofs.object.Object.imports.Goals as goal

told : (notes : List ImportNote) → map import_of notes ≡ map (λ i. i.definition) (map keyed_of notes)
told [] = refl
told (n ∷ notes) = ap (λ is. import_of n ∷ is) (told notes)

pub returns-clause-definitions : goal.returns-clause-definitions
returns-clause-definitions c =
    let imports : map keyed_of c.deref.result.now ≡ c.args.self.now.imports = search rules in
    told c.deref.result.now ∙ ap (map (λ i. i.definition)) imports
