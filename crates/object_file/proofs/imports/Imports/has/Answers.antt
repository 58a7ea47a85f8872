use Rattle.std.proofs.Common.{◌∙◌, ap}
use Rattle.std.specs.List.{list_any}
use Rattle.std.specs.Str.{bytes_eq}
use Rattle.object_file.specs.Contents.{KeyedImport}
use Rattle.object_file.proofs.imports.Imports.has.Goals as goal

pub returns : goal.returns
returns c = c.contains.ensures ∙ c.self.invariant c.args.name.now ∙ ap (list_any (λ (i : KeyedImport). bytes_eq c.args.name.now i.definition.name)) c.self.view_is
