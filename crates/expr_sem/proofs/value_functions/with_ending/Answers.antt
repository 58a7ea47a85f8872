use Rattle.std.proofs.Common.{Ok, ap, sym}
use Rattle.expr_sem.specs.Fragments.{part}
use Rattle.block_code.specs.Parts.{plain, ◌⨟◌}
use Rattle.expr_sem.specs.ValueFunctions.{instrs_of}
use Rattle.expr_sem.specs.declared.value_functions.Ending.{Ending}
use Rattle.expr_sem.proofs.Selecting.{made_full}
use Rattle.expr_sem.proofs.Sequencing.{Grows-refl, Grows-trans, behind, joined_both, made_after}
use Rattle.expr_sem.proofs.value_functions.with_ending.Goals as goal

pub returns-in_err-is_one-in-Oddness : goal.returns-in_err-is_one-in-Oddness
returns-in_err-is_one-in-Oddness c = made_full c.from_residual-in_err-is_one-in-Oddness.result c.from_residual-in_err-is_one-in-Oddness.ensures.0 c.in_err-is_one-in-Oddness.ensures c.in_ok-remainder-in-Oddness.ensures.grows

pub returns-in_err-test-in-Oddness : goal.returns-in_err-test-in-Oddness
returns-in_err-test-in-Oddness c =
    made_full c.from_residual-in_err-test-in-Oddness.result c.from_residual-in_err-test-in-Oddness.ensures.0 c.in_err-test-in-Oddness.ensures.made (Grows-trans c.in_ok-remainder-in-Oddness.ensures.grows c.in_ok-is_one-in-Oddness.ensures.grows)

pub returns-in_ok-test-in-Oddness : goal.returns-in_ok-test-in-Oddness
returns-in_ok-test-in-Oddness c =
    let ns = c.args.fragments.now.nodes.items in
    let test = joined_both c.in_ok-remainder-in-Oddness.remainder c.in_ok-is_one-in-Oddness.is_one (Ok c.in_ok-test-in-Oddness.test) c.in_ok-remainder-in-Oddness.ensures c.in_ok-is_one-in-Oddness.ensures c.in_ok-test-in-Oddness.ensures.made in
    made_after c.then-in-Oddness-2.result (Grows-refl ns) (behind c.then-in-Oddness-2.result c.args.value c.requires.value test c.then-in-Oddness-2.ensures.made)
    (ap (λ (e : Ending). part ns c.args.value ⨟ plain (instrs_of e)) (sym c.in-Oddness.is))
