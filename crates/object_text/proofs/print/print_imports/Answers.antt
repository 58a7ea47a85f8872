use Rattle.std.proofs.Common.{◌≡◌, ◌∙◌, ◌++◌, ◌+◌, List, ℕ, ap, arith, drop, map, sym}
use Rattle.object_file.specs.Views.{import_of}
use Rattle.object_text.specs.Text.{import_line, import_lines}
use Rattle.object_text.proofs.Lines.{next_import}
use Rattle.object_text.proofs.Shown.{on_err, shown_more, shown_part, shown_so_far}
use Rattle.object_text.proofs.print.print_imports.Goals as goal

pub returns-in_err-import_line-clause-part : goal.returns-in_err-import_line-clause-part
returns-in_err-import_line-clause-part g c =
    on_err c.from_residual.result (shown_so_far (g.P.Sink.written c.args.print.now) (g.P.Sink.written c.loop-note.print) (import_lines (map import_of c.args.notes.now)) (import_lines (map import_of (drop c.loop-note.note-index c.args.notes.now))) c.loop-note.invariant.shown)

pub returns-in_err-write_all-clause-part : goal.returns-in_err-write_all-clause-part
returns-in_err-write_all-clause-part g c =
    let notes = c.args.notes.now in
    let i = c.loop-note.note-index in
    let after = import_lines (map import_of (drop (i + 1) notes)) in
    let piece : c.deref.result.now ≡ import_line (import_of c.note-item.result) = c.deref.ensures.value ∙ c.in_ok-import_line.ensures in
    on_err c.from_residual-in_err-write_all.result
    (shown_part (g.P.Sink.written c.args.print.now) (g.P.Sink.written c.loop-note.print) (g.P.Sink.written c.write_all.new.sink) (import_lines (map import_of notes)) (import_lines (map import_of (drop i notes))) c.deref.result.now after
    c.loop-note.invariant.shown (next_import notes i c.note-item.result c.loop-note-test.true c.note-item.is ∙ ap (λ (b : List ℕ). b ++ after) (sym piece)) c.in_err-write_all.ensures.err)

pub loop-note-preserved : goal.loop-note-preserved
loop-note-preserved g c =
    let notes = c.args.notes.now in
    let i = c.loop-note.note-index in
    let after = import_lines (map import_of (drop (i + 1) notes)) in
    let piece : c.deref.result.now ≡ import_line (import_of c.note-item.result) = c.deref.ensures.value ∙ c.in_ok-import_line.ensures in
    record {
      shown =
          shown_more (g.P.Sink.written c.args.print.now) (g.P.Sink.written c.loop-note.print) (g.P.Sink.written c.write_all.new.sink) (import_lines (map import_of notes)) (import_lines (map import_of (drop i notes))) c.deref.result.now after
          c.loop-note.invariant.shown (next_import notes i c.note-item.result c.loop-note-test.true c.note-item.is ∙ ap (λ (b : List ℕ). b ++ after) (sym piece)) c.in_ok-write_all.ensures.ok;
      later = (let a = c.loop-note.invariant.later in let b = c.write_all.ensures.later in omega (arith, a, b));
    }
