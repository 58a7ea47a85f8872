use Rattle.m2_base.specs.Diagnostics.{code_of}
use Rattle.m2_base.specs.Statics.Contexts.{refuse}
use Rattle.block_code.specs.Coded.{in_error}
use Rattle.expr_sem.specs.Codings.{IsCoded, coded_in}
use Rattle.expr_sem.proofs.Refusing.{not_noted, refused_here}
use Rattle.expr_sem.proofs.refusals.refused.Goals as goal

pub returns-in_err-refuse : goal.returns-in_err-refuse
returns-in_err-refuse c = λ state nodes.
    not_noted state c.args.notes.now c.refuse.new.self nodes c.args.site.now IsCoded coded_in (λ k. refuse k c.args.at (code_of c.args.refusal) in_error) c.from_residual.result c.from_residual.ensures.0 c.in_err-refuse.ensures.answers c.in_err-refuse.ensures.kept

pub returns : goal.returns
returns c = λ state nodes.
    refused_here state c.args.notes.now c.refuse.new.self nodes c.args.site.now c.in_error.result IsCoded coded_in c.args.at (code_of c.args.refusal) in_error c.in_ok-refuse.ensures.answers c.in_ok-refuse.ensures.noted (c.in_error.ensures.there state.frame nodes) (c.in_error.ensures.told nodes)
