use Rattle.std.proofs.Common.{◌∙◌, Bool, Ok, ap, sym, refl, if◌then◌else◌}
use Rattle.m2_base.specs.Gives.{gives}
use Rattle.m2_base.specs.declared.replies.Ask.TheVariants.{Known}
use Rattle.code_form.specs.declared.instr.Instr.TheVariants.{Return}
use Rattle.expr_sem.specs.Codings.{IsFragment, coded_in}
use Rattle.block_code.specs.Fitting.{fitted_code}
use Rattle.expr_sem.specs.Fragments.{part}
use Rattle.block_code.specs.Parts.{Part, call, none, ◌⨟◌}
use Rattle.expr_sem.specs.declared.fragments.Fragment.TheVariants.{Nothing}
use Rattle.expr_sem.proofs.Following.{by_coding, then_full}
use Rattle.expr_sem.proofs.Making.{made_alone}
use Rattle.expr_sem.proofs.Operating.{coding_after, described, unknown, unmade, value_alone}
use Rattle.expr_sem.proofs.Sequencing.{behind}
use Rattle.stmt_sem.proofs.returns.returned.Goals as goal

pub returns-then-is_bad : goal.returns-then-is_bad
returns-then-is_bad g c notes =
    described (Ok (Known Nothing)) (value_alone _ notes c.args.fragments.now.nodes.items c.args.site.now Nothing IsFragment part (λ k. none) tt (λ k. refl))
    (λ k. ap (λ (b : Bool). gives (if b then none else (fitted_code k c.args.of (coded_in c.args.fragments.now.nodes.items c.args.x) ⨟ call Return 1 0))) (sym c.if-is_bad.true ∙ c.is_bad.ensures))

pub returns-in-DontKnowYet : goal.returns-in-DontKnowYet
returns-in-DontKnowYet g c notes = unknown (rw c.in-DontKnowYet.is at c.in-Ok.ensures notes)

pub returns-in-Err : goal.returns-in-Err
returns-in-Err g c notes = unmade (c.in-Err.ensures notes) _

pub returns-in_err-last : goal.returns-in_err-last
returns-in_err-last g c notes = then_full c.from_residual.result c.from_residual.ensures.0 (by_coding (c.in-Ok.ensures notes)) c.in_err-last.ensures.made

pub returns : goal.returns
returns g c notes =
    let ms = c.fitted_code.new.fragments.nodes.items in
    let x = coded_in c.args.fragments.now.nodes.items c.args.x in
    let one = rw c.in-Known.is at c.in-Ok.ensures notes in
    described c.answered.result
    (coding_after (λ k. gives (fitted_code k c.args.of x)) (λ (p : Part) k. gives (p ⨟ call Return 1 0)) c.answered.result one
    (made_alone notes c.then.result c.answered.result (λ k. part ms c.in-Known.value ⨟ call Return 1 0) c.answered.ensures (behind c.then.result c.in-Known.value one.there c.in_ok-last.ensures.made c.then.ensures.made) (λ made. refl)))
    (λ k. ap (λ (b : Bool). gives (if b then none else (fitted_code k c.args.of x ⨟ call Return 1 0))) (sym c.if-is_bad.false ∙ c.is_bad.ensures))
