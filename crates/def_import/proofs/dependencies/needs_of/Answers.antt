use Rattle.std.proofs.lemmas.Result.{IfOk-from_err}
use Rattle.std.proofs.Common.{◌≡◌, ◌<◌, List, ap, sym, ◌∙◌, ◌++◌, subst, arith, get_or, take, length}
use Rattle.m2_base.specs.declared.trees.Ident.{Ident}
use Rattle.def_import.specs.Closure.{names_of, text_of_module}
use Rattle.def_import.specs.Dependencies.{one_number, texts_of_modules}
use Rattle.def_import.proofs.Ordering.{needs_more}
use Rattle.def_import.proofs.dependencies.needs_of.Goals as goal

pub loop-import-preserved : goal.loop-import-preserved
loop-import-preserved c =
    let p = c.args.progress.now in
    let imports = c.args.found.now.front.imports in
    let i = c.loop-import.import-index in
    let within : i < length imports = omega (arith, c.loop-import-test.true, ap length c.imports-import-items.ensures) in
    let text : c.text_of_module.result ≡ text_of_module p (get_or imports i (record { name = 0; at = 0 })).name =
    subst (λ (is : List Ident). c.text_of_module.result ≡ text_of_module p (get_or is i (record { name = 0; at = 0 })).name) c.imports-import-items.ensures c.text_of_module.ensures in
    c.in_ok-add_need.ensures ∙ ap (λ n. n ++ one_number c.text_of_module.result) c.loop-import.invariant
    ∙ ap (λ o. texts_of_modules p (names_of (take i imports)) ++ one_number o) text ∙ sym (needs_more p imports i (record { name = 0; at = 0 }) within)

pub returns-in_err-add_need : goal.returns-in_err-add_need
returns-in_err-add_need c = IfOk-from_err c.from_residual.result _ c.from_residual.ensures.0
