use Rattle.std.proofs.Common.{ap, ◌∙◌, arith, length, map}
use Rattle.std.proofs.lemmas.List.{length-map}
use Rattle.object_file.specs.Views.{keyed_of}
use Rattle.unit_merge.specs.Objects.{imports_from}
use Rattle.unit_merge.proofs.Parts.{imports_long, none_removed, place_low, removed}
use Rattle.unit_merge.proofs.imports.other_imports.Goals.{in-Some, in_default}
use Rattle.unit_merge.proofs.imports.other_imports.Goals as goal

pub remove-requires : goal.remove-requires
remove-requires c =
    let low = place_low c.args.keys.now c.args.own c.in-Some.place c.requires.own c.in-Some.is in
    let many = length-map c.in_ok-imports.imports.items keyed_of in
    let same = ap length c.in_ok-imports.ensures.imports in
    let long = imports_long c.args.names.now c.args.keys.now c.args.outputs.now c.requires.long in
    omega (arith, low, many, same, long)

pub returns-clause-imports : goal.returns-clause-imports
returns-clause-imports c =
    elim c.match-own.branch [
      | in-Some w ↦ ap (λ (v : _). map keyed_of v.items) w.imports-is
          ∙ removed c.args.own w.in-Some.place c.in_ok-imports.imports.items w.remove.new.self.items (imports_from c.args.names.now c.args.keys.now c.args.outputs.now) w.in-Some.is c.in_ok-imports.ensures.imports w.remove.ensures.by_index.2
      | in_default w ↦ ap (λ (v : _). map keyed_of v.items) w.imports-is
          ∙ none_removed c.args.own c.in_ok-imports.imports.items (imports_from c.args.names.now c.args.keys.now c.args.outputs.now) w.in_default.is c.in_ok-imports.ensures.imports
    ]
