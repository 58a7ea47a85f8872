use Rattle.std.proofs.Common.{Bool, ap, sym, if◌then◌else◌}
use Rattle.m2_base.specs.Gives.{gives}
use Rattle.m2_base.specs.Statics.Contexts.{refuse}
use Rattle.m2_base.specs.Statics.Diagnostics.{exit_outside_loop}
use Rattle.stmt_sem.specs.FlowTrees.{flow_in}
use Rattle.stmt_sem.specs.Flowings.{IsFlow}
use Rattle.block_code.specs.Flows.{exit, nothing}
use Rattle.stmt_sem.proofs.Flowed.{described, value_alone}
use Rattle.stmt_sem.proofs.SimpleGiven.{not_noted, refused_flow}
use Rattle.stmt_sem.proofs.simple_statements.exit_statement.Goals as goal

pub returns-then-stand : goal.returns-then-stand
returns-then-stand c state nodes =
    let made = c.exit.ensures nodes in
    described _ (value_alone state c.args.notes.now nodes c.args.stand.now.site.now c.exit.result IsFlow flow_in (λ k. exit) made.there (λ k cell. made.flow_is cell))
    (λ k. ap (λ (b : Bool). if b then gives exit else refuse k c.args.at exit_outside_loop nothing) (sym c.if-stand.true))

pub returns-in_err-noted : goal.returns-in_err-noted
returns-in_err-noted c state nodes =
    not_noted state c.args.notes.now c.noted.new.notes nodes c.args.stand.now.site.now c.from_residual.result c.from_residual.ensures.0 c.in_err-noted.ensures.answers c.in_err-noted.ensures.kept

pub returns : goal.returns
returns c state nodes =
    described _ (refused_flow state c.args.notes.now c.noted.new.notes nodes c.args.stand.now.site.now c.args.at exit_outside_loop c.nothing.result (c.nothing.ensures nodes) c.in_ok-noted.ensures.answers c.in_ok-noted.ensures.noted)
    (λ k. ap (λ (b : Bool). if b then gives exit else refuse k c.args.at exit_outside_loop nothing) (sym c.if-stand.false))
