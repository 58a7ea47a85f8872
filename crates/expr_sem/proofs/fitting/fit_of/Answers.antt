use Rattle.std.proofs.Common.{ap, sym}
use Rattle.m2_base.specs.Gives.{gives}
use Rattle.block_code.specs.Fitting.{fit_of as spec_fit_of}
use Rattle.expr_sem.specs.declared.fragments.Fragment.TheVariants.{Nothing}
use Rattle.type_rules.specs.Sites.{context_of}
use Rattle.type_rules.proofs.Reading.{Reads-refl}
use Rattle.expr_sem.proofs.Making.{there_told}
use Rattle.expr_sem.proofs.Operating.{described}
use Rattle.expr_sem.proofs.ValueCases.{other_fit}
use Rattle.expr_sem.proofs.fitting.fit_of.Goals as goal

pub returns-in-Variable : goal.returns-in-Variable
returns-in-Variable g c n = described c.fit_check.result (c.fit_check.ensures n) (λ k. ap (λ o. gives (spec_fit_of k.scene c.args.to o)) (sym c.in-Variable.is))

pub returns-in-Computed : goal.returns-in-Computed
returns-in-Computed g c n = described c.fit_check-in-Computed.result (c.fit_check-in-Computed.ensures n) (λ k. ap (λ o. gives (spec_fit_of k.scene c.args.to o)) (sym c.in-Computed.is))

pub returns-in_default : goal.returns-in_default
returns-in_default g c n =
    let state = g.S.Scopes.state c.args.scopes.now in
    there_told n Nothing (λ k. spec_fit_of k.scene c.args.to c.args.operand) (Reads-refl state) tt
    (λ made in_hand told. other_fit (context_of state.frame made c.args.site.now) c.args.to c.args.operand c.in_default.not-Computed c.in_default.not-Variable)
