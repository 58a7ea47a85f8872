use Rattle.m2_base.specs.Standard.{broken}
use Rattle.m2_base.specs.Statics.Contexts.{refuse}
use Rattle.m2_base.specs.Statics.Diagnostics.{not_a_type}
use Rattle.decl_sem.specs.Targets.{IsTarget}
use Rattle.decl_sem.proofs.TargetNames.{broken_target}
use Rattle.decl_sem.proofs.Uses.{refused, unnoted}
use Rattle.decl_sem.proofs.targets.refused_target.Goals as goal

pub returns-in-Err : goal.returns-in-Err
returns-in-Err c a suits = unnoted a c.args.notes.now c.refuse.new.notes c.args.site.now c.in-Err.memory IsTarget (λ k. refuse k c.args.at not_a_type broken) c.refuse.ensures.answers c.refuse.ensures.diags

pub returns : goal.returns
returns c a suits = refused a c.args.notes.now c.refuse.new.notes c.args.site.now c.args.at not_a_type broken IsTarget (broken_target a.frame) c.in-Ok.ensures.noted c.refuse.ensures.answers c.refuse.ensures.diags
