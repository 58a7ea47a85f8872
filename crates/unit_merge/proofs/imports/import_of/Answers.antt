use Rattle.std.proofs.Common.{rules, ap, ◌∙◌, refl, ◌≡◌, map}
use Rattle.object_file.specs.Views.{heading_of}
use Rattle.object_file.specs.declared.parts.ImportNote.{ImportNote}
use Rattle.unit_merge.specs.Objects.{callee_of}
use Rattle.unit_merge.proofs.Keys.{its_number}
use Rattle.unit_merge.proofs.Parts.{import_is}
use Rattle.unit_merge.proofs.imports.import_of.Goals as goal

pub returns-in_err-to_vec-clause-number : goal.returns-in_err-to_vec-clause-number
returns-in_err-to_vec-clause-number c = its_number c.args.names.now c.args.key.now.0 c.bytes-name.result.now c.bytes-name.ensures.text c.bytes-name.ensures.number

pub returns-in_err-to_vec-2-clause-number : goal.returns-in_err-to_vec-2-clause-number
returns-in_err-to_vec-2-clause-number c = its_number c.args.names.now c.args.key.now.0 c.bytes-name.result.now c.bytes-name.ensures.text c.bytes-name.ensures.number

pub returns-in_err-headings_of-clause-number : goal.returns-in_err-headings_of-clause-number
returns-in_err-headings_of-clause-number c = its_number c.args.names.now c.args.key.now.0 c.bytes-name.result.now c.bytes-name.ensures.text c.bytes-name.ensures.number

pub returns-clause-import : goal.returns-clause-import
returns-clause-import c =
    let note : ImportNote = record { name = c.in_ok-to_vec.field-0; key = c.in_ok-to_vec-2.field-0; cells = c.args.output.now.cells; headings = c.in_ok-headings_of.field-0 } in
    let name : c.in_ok-to_vec.field-0.items ≡ c.bytes-name.result.now = search rules in
    let key : c.in_ok-to_vec-2.field-0.items ≡ c.args.key.now.1 = search rules in
    let headings : map heading_of c.in_ok-headings_of.field-0.items ≡ map callee_of c.args.output.now.headings.items = c.in_ok-headings_of.ensures ∙ ap (map callee_of) c.deref.ensures.value in
    import_is c.args.names.now c.args.key.now c.args.output.now c.bytes-name.result.now note c.bytes-name.ensures.text name key refl headings

pub returns-clause-number : goal.returns-clause-number
returns-clause-number c = its_number c.args.names.now c.args.key.now.0 c.bytes-name.result.now c.bytes-name.ensures.text c.bytes-name.ensures.number
