use Rattle.std.proofs.Common.{◌∙◌, Ok, ap, sym, refl}
use Rattle.m2_base.specs.Gives.{gives}
use Rattle.m2_base.specs.Statics.Contexts.{Context}
use Rattle.m2_base.specs.declared.replies.Ask.TheVariants.{Known}
use Rattle.expr_sem.specs.Codings.{IsFragment, coded_in}
use Rattle.expr_sem.specs.Fragments.{part}
use Rattle.block_code.specs.Parts.{Part, none}
use Rattle.expr_sem.specs.declared.fragments.Fragment.TheVariants.{Nothing}
use Rattle.expr_sem.proofs.Operating.{described, value_alone}
use Rattle.block_code.specs.Assignments.{store_code}
use Rattle.stmt_sem.proofs.LoopCases.{first_bad, none_bad, second_bad}
use Rattle.stmt_sem.proofs.counting.emit_first.Goals as goal
use Rattle.stmt_sem.proofs.counting.emit_first.Goals.{then-is_bad-via-then-is_bad, then-is_bad-via-else-is_bad+then-is_bad-2}

pub returns-then-is_bad : goal.returns-then-is_bad
returns-then-is_bad g c notes =
    let ns = c.args.fragments.now.nodes.items in
    let stored = λ (k : Context). store_code k (coded_in ns c.args.x) (coded_in ns c.args.first) in
    described (Ok (Known Nothing)) (value_alone _ notes ns c.args.site.now Nothing IsFragment part (λ k. none) tt (λ k. refl))
    (λ k. ap (λ (p : Part). gives p) (elim c.then-is_bad.branch [
      | then-is_bad-via-then-is_bad w ↦ first_bad (stored k) none _ _ (sym w.if-is_bad.true ∙ c.is_bad.ensures)
      | then-is_bad-via-else-is_bad+then-is_bad-2 w ↦ second_bad (stored k) none _ _ (sym w.if-is_bad.false ∙ c.is_bad.ensures) (sym w.if-is_bad-2.true ∙ w.is_bad-else-is_bad.ensures)
    ]))

pub returns : goal.returns
returns g c notes =
    let ns = c.args.fragments.now.nodes.items in
    described c.store_code.result (c.store_code.ensures notes)
    (λ k. ap (λ (p : Part). gives p) (none_bad (store_code k (coded_in ns c.args.x) (coded_in ns c.args.first)) none _ _ (sym c.if-is_bad.false ∙ c.is_bad.ensures) (sym c.if-is_bad-2.false ∙ c.is_bad-else-is_bad.ensures)))
