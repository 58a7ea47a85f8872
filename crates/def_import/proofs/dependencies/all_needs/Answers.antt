use Rattle.std.proofs.lemmas.Result.{IfOk-from_err}
use Rattle.std.proofs.Common.{◌≡◌, ◌<◌, ◌∙◌, List, ap, arith, get_or, length}
use Rattle.def_import.specs.Closure.{Found}
use Rattle.def_import.specs.Dependencies.{needs_of}
use Rattle.def_import.proofs.Ordering.{more_needs}
use Rattle.def_import.proofs.dependencies.all_needs.Goals as goal

pub returns-in_err-needs : goal.returns-in_err-needs
returns-in_err-needs c = record { needs = IfOk-from_err c.from_residual.result _ c.from_residual.ensures.0; few = IfOk-from_err c.from_residual.result _ c.from_residual.ensures.0 }

pub returns-in_err-push : goal.returns-in_err-push
returns-in_err-push c = record { needs = IfOk-from_err c.from_residual-in_err-push.result _ c.from_residual-in_err-push.ensures.0; few = IfOk-from_err c.from_residual-in_err-push.result _ c.from_residual-in_err-push.ensures.0 }

pub loop-found-preserved : goal.loop-found-preserved
loop-found-preserved c =
    let p = c.args.progress.now in
    let i = c.loop-found.found-index in
    let within : i < length p.found = omega (arith, c.loop-found-test.true, ap length c.texts-found-items.ensures.texts) in
    let one : c.found-item.result ≡ get_or p.found i c.found-item.result =
    c.found-item.is ∙ ap (λ (all : List Found). get_or all i c.found-item.result) c.texts-found-items.ensures.texts in
    more_needs p p.found i c.found-item.result c.loop-found.all.items c.push.new.self.items c.in_ok-needs.needs within c.loop-found.invariant c.in_ok-push.ensures.items
    (c.in_ok-needs.ensures ∙ ap (needs_of p) one)
