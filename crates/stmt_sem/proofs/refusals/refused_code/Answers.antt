use Rattle.std.proofs.Common.{refl}
use Rattle.m2_base.specs.Statics.Contexts.{refuse}
use Rattle.expr_sem.specs.Codings.{IsFragment}
use Rattle.expr_sem.specs.Fragments.{part}
use Rattle.block_code.specs.Parts.{none}
use Rattle.expr_sem.specs.declared.fragments.Fragment.TheVariants.{Nothing}
use Rattle.expr_sem.proofs.Refusing.{not_noted, refused_here}
use Rattle.m2_base.specs.Diagnostics.{code_of}
use Rattle.stmt_sem.proofs.refusals.refused_code.Goals as goal

pub returns-in_err-noted : goal.returns-in_err-noted
returns-in_err-noted c = λ state nodes.
    not_noted state c.args.notes.now c.noted.new.notes nodes c.args.site.now IsFragment part (λ k. refuse k c.args.at (code_of c.args.refusal) none) c.from_residual.result c.from_residual.ensures.0 c.in_err-noted.ensures.answers c.in_err-noted.ensures.kept

pub returns : goal.returns
returns c = λ state nodes.
    refused_here state c.args.notes.now c.noted.new.notes nodes c.args.site.now Nothing IsFragment part c.args.at (code_of c.args.refusal) none c.in_ok-noted.ensures.answers c.in_ok-noted.ensures.noted tt refl
