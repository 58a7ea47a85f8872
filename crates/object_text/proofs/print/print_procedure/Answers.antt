use Rattle.std.proofs.Common.{◌≡◌, ◌∙◌, List, ℕ, ap, subst, sym}
use Rattle.m2_io.specs.Written.{with_bytes, WritesPart}
use Rattle.code_form.specs.Valid.{AreInstrs}
use Rattle.object_file.specs.Views.{procedure_of}
use Rattle.object_text.specs.Text.{instr_lines, procedure_line}
use Rattle.object_text.proofs.Shown.{err_on, on_err, on_ok, part_first, then_all, then_part}
use Rattle.object_text.proofs.print.print_procedure.Goals as goal

pub returns-in_err-write_all-clause-part : goal.returns-in_err-write_all-clause-part
returns-in_err-write_all-clause-part g c =
    let line = procedure_line c.args.k (procedure_of c.args.own.now) in
    let piece : c.deref.result.now ≡ line = c.deref.ensures.value ∙ c.in_ok-procedure_line.ensures in
    on_err c.from_residual-in_err-write_all.result (λ is a.
    part_first (g.P.Sink.written c.args.print.now) (g.P.Sink.written c.write_all.new.sink) line (instr_lines 0 is)
    (subst (λ (b : List ℕ). WritesPart (g.P.Sink.written c.args.print.now) b (g.P.Sink.written c.write_all.new.sink)) piece c.in_err-write_all.ensures.err))

pub returns-clause-ok : goal.returns-clause-ok
returns-clause-ok g c =
    let line = procedure_line c.args.k (procedure_of c.args.own.now) in
    let piece : c.deref.result.now ≡ line = c.deref.ensures.value ∙ c.in_ok-procedure_line.ensures in
    on_ok c.print_instrs.result c.print_instrs.ensures.ok (λ h is a.
    then_all (g.P.Sink.written c.args.print.now) (g.P.Sink.written c.write_all.new.sink) (g.P.Sink.written c.print_instrs.new.print) line (instr_lines 0 is)
    (c.in_ok-write_all.ensures.ok ∙ ap (with_bytes (g.P.Sink.written c.args.print.now)) piece)
    (h is (subst (λ (b : List ℕ). AreInstrs b is) (sym c.deref-2.ensures.value) a)))

pub returns-clause-part : goal.returns-clause-part
returns-clause-part g c =
    let line = procedure_line c.args.k (procedure_of c.args.own.now) in
    let piece : c.deref.result.now ≡ line = c.deref.ensures.value ∙ c.in_ok-procedure_line.ensures in
    err_on c.print_instrs.result c.print_instrs.ensures.part (λ h is a.
    then_part (g.P.Sink.written c.args.print.now) (g.P.Sink.written c.write_all.new.sink) (g.P.Sink.written c.print_instrs.new.print) line (instr_lines 0 is)
    (c.in_ok-write_all.ensures.ok ∙ ap (with_bytes (g.P.Sink.written c.args.print.now)) piece)
    (h is (subst (λ (b : List ℕ). AreInstrs b is) (sym c.deref-2.ensures.value) a)))
