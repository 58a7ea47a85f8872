use Rattle.std.proofs.Common.{◌∙◌, Bool, ap, sym, refl, if◌then◌else◌}
use Rattle.m2_base.specs.Gives.{gives}
use Rattle.block_code.specs.Coded.{value_code}
use Rattle.expr_sem.specs.Codings.{coded_in}
use Rattle.expr_sem.proofs.Making.{made_alone}
use Rattle.expr_sem.proofs.Operating.{described}
use Rattle.block_code.specs.Tests.{false_code}
use Rattle.stmt_sem.proofs.cases.selector_value.Goals as goal

pub returns-then-is_bad : goal.returns-then-is_bad
returns-then-is_bad g c notes =
    described c.answered.result (made_alone notes c.false_code.result c.answered.result (λ k. false_code) c.answered.ensures c.false_code.ensures (λ made. refl))
    (λ k. ap (λ (b : Bool). gives (if b then false_code else value_code k (coded_in c.args.fragments.now.nodes.items c.args.x))) (sym c.if-is_bad.true ∙ c.is_bad.ensures))

pub returns : goal.returns
returns g c notes =
    described c.value_code.result (c.value_code.ensures notes)
    (λ k. ap (λ (b : Bool). gives (if b then false_code else value_code k (coded_in c.args.fragments.now.nodes.items c.args.x))) (sym c.if-is_bad.false ∙ c.is_bad.ensures))
