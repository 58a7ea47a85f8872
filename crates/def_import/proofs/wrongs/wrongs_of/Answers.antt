use Rattle.std.proofs.lemmas.Result.{IfOk-from_err}
use Rattle.std.proofs.Common.{◌≡◌, ◌<◌, List, ap, arith, get_or, length, ◌++◌, ◌∙◌}
use Rattle.def_import.specs.Closure.{Found}
use Rattle.def_import.specs.Wrongs.{wrongs_in}
use Rattle.def_import.proofs.Noting.{wrongs_more}
use Rattle.def_import.proofs.wrongs.wrongs_of.Goals as goal

pub loop-text-preserved : goal.loop-text-preserved
loop-text-preserved c =
    let p = c.args.progress.now in
    let order = c.args.order.now in
    let within : c.loop-text.text < length p.found = omega (arith, c.loop-text-test.true, ap length c.texts-found-items.ensures.texts) in
    let one : c.found-item.result ≡ get_or p.found c.loop-text.text c.found-item.result =
    c.found-item.is ∙ ap (λ (all : List Found). get_or all c.loop-text.text c.found-item.result) c.texts-found-items.ensures.texts in
    wrongs_more p order p.found c.loop-text.text c.found-item.result c.loop-text.wrongs.items c.note_text.new.wrongs.items within c.loop-text.invariant
    (c.in_ok-note_text.ensures ∙ ap (λ f. c.loop-text.wrongs.items ++ wrongs_in p order c.loop-text.text f) one)

pub returns-in_err-note_text : goal.returns-in_err-note_text
returns-in_err-note_text c = IfOk-from_err c.from_residual.result _ c.from_residual.ensures.0
