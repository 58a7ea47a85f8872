use Rattle.std.proofs.Common.{◌≡◌, ◌∙◌, ◌++◌, List, ℕ, ap, arith, sym}
use Rattle.object_text.specs.Text.{instr_line, instr_lines}
use Rattle.object_text.proofs.Lines.{next_instr, no_stop, over_instrs}
use Rattle.object_text.proofs.Shown.{on_err, shown_all, shown_more, shown_part, shown_so_far}
use Rattle.object_text.proofs.print.print_instrs.Goals as goal

pub unreachable-requires : goal.unreachable-requires
unreachable-requires g c =
    let r = c.loop-at.invariant.shown c.requires.0 c.requires.1 in
    no_stop c.args.code.now c.loop-at.at r.0 r.1 c.loop-at-test.true c.in_default.ensures.none

pub returns-in_err-instr_line-clause-part : goal.returns-in_err-instr_line-clause-part
returns-in_err-instr_line-clause-part g c =
    on_err c.from_residual.result (λ is a. let r = c.loop-at.invariant.shown is a in
    shown_so_far (g.P.Sink.written c.args.print.now) (g.P.Sink.written c.loop-at.print) (instr_lines 0 is) (instr_lines c.loop-at.at r.0) r.2)

pub returns-in_err-write_all-clause-part : goal.returns-in_err-write_all-clause-part
returns-in_err-write_all-clause-part g c =
    let piece : c.deref.result.now ≡ instr_line c.loop-at.at c.in-Some.instr = c.deref.ensures.value ∙ c.in_ok-instr_line.ensures in
    on_err c.from_residual-in_err-write_all.result (λ is a. let r = c.loop-at.invariant.shown is a in
    let n = next_instr c.args.code.now c.loop-at.at c.in-Some.end c.in-Some.instr r.0 r.1 c.loop-at-test.true c.in-Some.ensures.again in
    shown_part (g.P.Sink.written c.args.print.now) (g.P.Sink.written c.loop-at.print) (g.P.Sink.written c.write_all.new.sink) (instr_lines 0 is) (instr_lines c.loop-at.at r.0) c.deref.result.now (instr_lines c.in-Some.end n.behind)
    r.2 (n.lines_are ∙ ap (λ (b : List ℕ). b ++ instr_lines c.in-Some.end n.behind) (sym piece)) c.in_err-write_all.ensures.err)

pub loop-at-preserved : goal.loop-at-preserved
loop-at-preserved g c =
    let piece : c.deref.result.now ≡ instr_line c.loop-at.at c.in-Some.instr = c.deref.ensures.value ∙ c.in_ok-instr_line.ensures in
    record {
      within = c.in-Some.ensures.after.1;
      shown = λ is a.
          let r = c.loop-at.invariant.shown is a in
          let n = next_instr c.args.code.now c.loop-at.at c.in-Some.end c.in-Some.instr r.0 r.1 c.loop-at-test.true c.in-Some.ensures.again in (
            n.behind,
            n.instrs,
            shown_more (g.P.Sink.written c.args.print.now) (g.P.Sink.written c.loop-at.print) (g.P.Sink.written c.write_all.new.sink) (instr_lines 0 is) (instr_lines c.loop-at.at r.0) c.deref.result.now (instr_lines c.in-Some.end n.behind)
                r.2 (n.lines_are ∙ ap (λ (b : List ℕ). b ++ instr_lines c.in-Some.end n.behind) (sym piece)) c.in_ok-write_all.ensures.ok,
          );
      later = (let a = c.loop-at.invariant.later in let b = c.write_all.ensures.later in omega (arith, a, b));
    }

pub returns-clause-ok : goal.returns-clause-ok
returns-clause-ok g c = λ is a. let r = c.loop-at.invariant.shown is a in
    shown_all (g.P.Sink.written c.args.print.now) (g.P.Sink.written c.loop-at.print) (instr_lines 0 is) (instr_lines c.loop-at.at r.0) r.2 (over_instrs c.args.code.now c.loop-at.at r.0 r.1 c.loop-at-test.false)
