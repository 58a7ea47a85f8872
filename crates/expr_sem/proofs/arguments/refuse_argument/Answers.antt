use Rattle.std.proofs.Common.{None, Ok, refl}
use Rattle.m2_base.specs.Gives.{gives}
use Rattle.m2_base.specs.Statics.Contexts.{refuse}
use Rattle.m2_base.specs.declared.replies.Ask.TheVariants.{Known}
use Rattle.expr_sem.specs.ArgumentCodes.{IsArgument, argument_in}
use Rattle.block_code.specs.Coded.{in_error}
use Rattle.m2_base.specs.Diagnostics.{code_of}
use Rattle.expr_sem.proofs.Operating.{coding_after, unknown, unmade, value_alone}
use Rattle.expr_sem.proofs.arguments.refuse_argument.Goals as goal

pub returns-in-DontKnowYet : goal.returns-in-DontKnowYet
returns-in-DontKnowYet c state nodes = unknown (rw c.in-DontKnowYet.is at c.in-Ok.ensures state nodes)

pub returns-in-Err : goal.returns-in-Err
returns-in-Err c state nodes = unmade (c.in-Err.ensures state nodes) c.in-Err.memory

pub returns : goal.returns
returns c state nodes =
    coding_after (λ k. refuse k c.args.at (code_of c.args.refusal) in_error) (λ v k. gives None) (Ok (Known None)) (rw c.in-Known.is at c.in-Ok.ensures state nodes)
    (value_alone state c.refused.new.notes nodes c.args.site.now None IsArgument argument_in (λ k. None) tt (λ k. refl))
