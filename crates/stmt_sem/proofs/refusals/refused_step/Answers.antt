use Rattle.std.proofs.Common.{pos, refl}
use Rattle.m2_base.specs.Statics.Contexts.{refuse}
use Rattle.expr_sem.proofs.Refusing.{not_noted, refused_here}
use Rattle.stmt_sem.specs.Plain.{IsStep, itself}
use Rattle.m2_base.specs.Diagnostics.{code_of}
use Rattle.stmt_sem.proofs.refusals.refused_step.Goals as goal

pub returns-in_err-noted : goal.returns-in_err-noted
returns-in_err-noted c = λ state nodes.
    not_noted state c.args.notes.now c.noted.new.notes nodes c.args.site.now IsStep itself (λ k. refuse k c.args.at (code_of c.args.refusal) (pos 1)) c.from_residual.result c.from_residual.ensures.0 c.in_err-noted.ensures.answers c.in_err-noted.ensures.kept

pub returns : goal.returns
returns c = λ state nodes.
    refused_here state c.args.notes.now c.noted.new.notes nodes c.args.site.now (pos 1) IsStep itself c.args.at (code_of c.args.refusal) (pos 1) c.in_ok-noted.ensures.answers c.in_ok-noted.ensures.noted tt refl
