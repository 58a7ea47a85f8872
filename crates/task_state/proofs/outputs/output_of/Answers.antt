use Rattle.std.proofs.Common.{◌≡◌, ◌∙◌, ◌++◌, None, refl, ap}
use Rattle.m2_base.specs.declared.outputs.Output.{Output}
use Rattle.stmt_sem.specs.declared.top_statements.Stated.{Stated}
use Rattle.task_state.specs.Collecting.{Collected}
use Rattle.task_state.proofs.WholeOutputs.{IsJoined, left_is, left_shown}
use Rattle.task_state.proofs.outputs.output_of.Goals as goal

pub returns : goal.returns
returns c st far =
    let bl = c.args.block.now in
    let m = c.args.collected.now in
    let x = c.args.stating in
    let whole : Stated = c.in_ok-piece.field-0 in
    let output : Output =
    record {
      stream = c.args.block.now.around.now.scope;
      fault = None;
      diags = c.in_ok-diags.diags;
      answers = c.in_ok-answers.answers;
      code = c.in_ok-code.code;
      cells = c.collected.inside.before.cell;
      headings = c.in_ok-headings.headings;
    } in
    let same = c.collected.view_is in
    let diags : c.deref.result.now ≡ m.diags = c.deref.ensures.value ∙ ap (λ (z : Collected). z.diags) same in
    let answers : c.deref-4.result.now ≡ m.answers = c.deref-4.ensures.value ∙ ap (λ (z : Collected). z.answers) same in
    let parts : IsJoined m x whole output =
    record {
      diags = c.in_ok-diags.ensures ∙ (λ k. diags k ++ c.deref-2.ensures.value k ++ c.deref-3.ensures.value k);
      answers = c.in_ok-answers.ensures ∙ (λ k. answers k ++ c.deref-5.ensures.value k);
      cells = ap (λ (z : Collected). z.cell) same;
      headings = c.in_ok-headings.ensures ∙ c.deref-6.ensures.value ∙ ap (λ (z : Collected). z.headings) same;
    } in
    record {
      stream = refl;
      sound = refl;
      told = λ tables finished. left_is st bl m x far c.requires tables finished whole c.in_ok-piece.ensures.whole output parts c.in_ok-code.ensures;
      shown = left_shown st bl m x whole output far c.in_ok-piece.ensures.answers parts;
    }
