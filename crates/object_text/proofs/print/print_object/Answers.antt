use Rattle.std.proofs.Common.{◌≡◌, ◌∙◌, List, ℕ, Option, ap, map, subst, sym}
use Rattle.m2_io.specs.Written.{with_bytes, WritesPart}
use Rattle.code_form.specs.Modules.{Import, Procedure}
use Rattle.object_file.specs.Contents.{Export}
use Rattle.object_text.specs.Text.{import_lines, export_lines, AreLines}
use Rattle.object_text.proofs.Lines.{lines_of}
use Rattle.object_text.proofs.Shown.{err_on, on_err, on_ok}
use Rattle.object_text.proofs.Whole.{all_printed, of_exports, of_imports, of_module, of_procedures}
use Rattle.object_text.proofs.print.print_object.Goals as goal

pub returns-in_err-print_module-clause-part : goal.returns-in_err-print_module-clause-part
returns-in_err-print_module-clause-part g c =
    let o = c.args.object.now in
    let ls = lines_of o c.validity.ensures in
    on_err c.from_residual.result (of_module o ls.0 ls.1 (g.P.Sink.written c.args.print.now) (g.P.Sink.written c.print_module.new.print) c.in_err-print_module.ensures.part)

pub returns-in_err-print_imports-clause-part : goal.returns-in_err-print_imports-clause-part
returns-in_err-print_imports-clause-part g c =
    let o = c.args.object.now in
    let ls = lines_of o c.validity.ensures in
    on_err c.from_residual-in_err-print_imports.result
    (of_imports o ls.0 ls.1 (g.P.Sink.written c.args.print.now) (g.P.Sink.written c.print_module.new.print) (g.P.Sink.written c.print_imports.new.print) c.in_ok-print_module.ensures.ok
    (subst (λ (is : List Import). WritesPart (g.P.Sink.written c.print_module.new.print) (import_lines is) (g.P.Sink.written c.print_imports.new.print)) c.imports.ensures.definitions c.in_err-print_imports.ensures.part))

pub returns-in_err-print_exports-clause-part : goal.returns-in_err-print_exports-clause-part
returns-in_err-print_exports-clause-part g c =
    let o = c.args.object.now in
    let ls = lines_of o c.validity.ensures in
    on_err c.from_residual-in_err-print_exports.result
    (of_exports o ls.0 ls.1 (g.P.Sink.written c.args.print.now) (g.P.Sink.written c.print_module.new.print) (g.P.Sink.written c.print_imports.new.print) (g.P.Sink.written c.print_exports.new.print) c.in_ok-print_module.ensures.ok
    (c.in_ok-print_imports.ensures.ok ∙ ap (λ (is : List Import). with_bytes (g.P.Sink.written c.print_module.new.print) (import_lines is)) c.imports.ensures.definitions)
    (subst (λ (es : List Export). WritesPart (g.P.Sink.written c.print_imports.new.print) (export_lines 0 es) (g.P.Sink.written c.print_exports.new.print)) c.exports.ensures c.in_err-print_exports.ensures.part))

pub print_procedures-requires : goal.print_procedures-requires
print_procedures-requires g c =
    let ls = lines_of c.args.object.now c.validity.ensures in
    (ls.0, subst (λ (ps : List Procedure). AreLines 0 ps ls.0) (sym c.procedures.ensures) ls.1)

pub returns-clause-ok : goal.returns-clause-ok
returns-clause-ok g c =
    let o = c.args.object.now in
    let ls = lines_of o c.validity.ensures in
    on_ok c.print_procedures.result c.print_procedures.ensures.ok (λ h.
    all_printed o ls.0 ls.1 (g.P.Sink.written c.args.print.now) (g.P.Sink.written c.print_module.new.print) (g.P.Sink.written c.print_imports.new.print) (g.P.Sink.written c.print_exports.new.print) (g.P.Sink.written c.print_procedures.new.print)
    c.in_ok-print_module.ensures.ok
    (c.in_ok-print_imports.ensures.ok ∙ ap (λ (is : List Import). with_bytes (g.P.Sink.written c.print_module.new.print) (import_lines is)) c.imports.ensures.definitions)
    (c.in_ok-print_exports.ensures.ok ∙ ap (λ (es : List Export). with_bytes (g.P.Sink.written c.print_imports.new.print) (export_lines 0 es)) c.exports.ensures)
    (h ls.0 (subst (λ (ps : List Procedure). AreLines 0 ps ls.0) (sym c.procedures.ensures) ls.1)))

pub returns-clause-part : goal.returns-clause-part
returns-clause-part g c =
    let o = c.args.object.now in
    let ls = lines_of o c.validity.ensures in
    err_on c.print_procedures.result c.print_procedures.ensures.part (λ h.
    of_procedures o ls.0 ls.1 (g.P.Sink.written c.args.print.now) (g.P.Sink.written c.print_module.new.print) (g.P.Sink.written c.print_imports.new.print) (g.P.Sink.written c.print_exports.new.print) (g.P.Sink.written c.print_procedures.new.print)
    c.in_ok-print_module.ensures.ok
    (c.in_ok-print_imports.ensures.ok ∙ ap (λ (is : List Import). with_bytes (g.P.Sink.written c.print_module.new.print) (import_lines is)) c.imports.ensures.definitions)
    (c.in_ok-print_exports.ensures.ok ∙ ap (λ (es : List Export). with_bytes (g.P.Sink.written c.print_imports.new.print) (export_lines 0 es)) c.exports.ensures)
    (h ls.0 (subst (λ (ps : List Procedure). AreLines 0 ps ls.0) (sym c.procedures.ensures) ls.1)))
