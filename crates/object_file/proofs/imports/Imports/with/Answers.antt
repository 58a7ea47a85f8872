use Rattle.std.proofs.Common.{◌≡◌, ◌∷◌, ◌++◌, [], map, ◌∙◌}
use Rattle.std.proofs.lemmas.List.{map_push}
use Rattle.object_file.specs.Views.{keyed_of}
use Rattle.object_file.proofs.Inserting.{AreNames-more}
use Rattle.object_file.proofs.imports.Imports.with.Goals as goal

pub invariant_of-result : goal.invariant_of-result
invariant_of-result c =
    let k = c.in_ok-name.name in
    let old = c.self.inside.notes.items in
    let note = c.args.note in
    let imports : map keyed_of c.push.new.self.items ≡ map keyed_of old ++ keyed_of note ∷ [] = rw c.in_ok-push.ensures.items (map_push keyed_of old note) in
    let named = c.in_ok-name.ensures.items ∙ c.deref.ensures.value in
    rw (c.in_ok-insert.ensures.keys, imports) (AreNames-more c.self.inside.names.keys (map keyed_of old) k (keyed_of note) c.self.invariant named)
