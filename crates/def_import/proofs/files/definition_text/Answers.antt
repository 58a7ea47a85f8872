use Rattle.std.proofs.Common.{◌≡◌, eq-eqb, rules, ◌∙◌}
use Rattle.def_import.specs.declared.library.TheConstants.{LIBRARY_TEXT}
use Rattle.def_import.proofs.ReadFiles.{library_read, module_reads, module_spelled, not_equal}
use Rattle.def_import.proofs.files.definition_text.Goals as goal

-- src/files.rt:84:9
pub returns-then-name-eq-LIBRARY_NAME-clause-found :
    goal.returns-then-name-eq-LIBRARY_NAME-clause-found
returns-then-name-eq-LIBRARY_NAME-clause-found g c =
    let is : c.in_ok-text.text.items ≡ LIBRARY_TEXT.now = search rules in
    library_read (g.H.Shelf.holds c.args.shelf.now) c.args.names.now c.args.name c.in_ok-text.text.items (eq-eqb c.args.name 27 c.if-name-eq-LIBRARY_NAME.true) is

-- src/files.rt:86:16
pub definition_file-requires : goal.definition_file-requires
definition_file-requires g c = module_spelled c.args.names.now c.args.name c.bytes.result.now c.bytes.ensures.text c.requires.spelled

-- src/files.rt:68:1
pub returns-clause-found : goal.returns-clause-found
returns-clause-found g c =
    module_reads (g.H.Shelf.holds c.args.shelf.now) c.args.names.now c.args.name c.bytes.result.now c.deref.result.now c.read_file.result (not_equal c.args.name 27 c.if-name-eq-LIBRARY_NAME.false)
    c.bytes.ensures.text (c.deref.ensures ∙ c.in_ok-file.ensures) c.read_file.ensures.found
