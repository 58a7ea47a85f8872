use Rattle.std.proofs.Common.{◌∙◌, Ok, ap, refl, sym}
use Rattle.m2_base.specs.Statics.Builtins.{builtin_of}
use Rattle.m2_base.specs.declared.replies.Ask.TheVariants.{Known}
use Rattle.expr_sem.specs.Callees.{IsCallable, called_in}
use Rattle.block_code.specs.Calls.{called_by, no_call}
use Rattle.expr_sem.specs.Fragments.{part}
use Rattle.expr_sem.specs.declared.calls.Callable.TheVariants.{Nothing}
use Rattle.expr_sem.proofs.CallCases.{other_called, standard_allowed}
use Rattle.expr_sem.proofs.Operating.{described, value_alone}
use Rattle.expr_sem.proofs.coder.Coder.called.Goals as goal

pub returns-in-StandardProcedure-clause-codes : goal.returns-in-StandardProcedure-clause-codes
returns-in-StandardProcedure-clause-codes g c =
    let ns = c.args.self.now.fragments.now.nodes.items in
    described c.allowed.result (c.allowed.ensures (g.S.Scopes.state c.args.self.now.scopes.now) ns tt)
    (λ k. standard_allowed k c.args.at c.args.is_wanted c.args.count c.standard_procedure-f.result (builtin_of c.in-StandardProcedure.name) c.is_function.result c.takes_count.result c.is_function.ensures c.takes_count.ensures c.standard_procedure-f.ensures
    ∙ ap (called_by k c.args.is_wanted c.args.at c.args.count (part ns c.args.x.code)) (sym c.in-StandardProcedure.is))

pub returns-in-Procedure-clause-codes : goal.returns-in-Procedure-clause-codes
returns-in-Procedure-clause-codes g c =
    let ns = c.args.self.now.fragments.now.nodes.items in
    described c.called_procedure.result (c.called_procedure.ensures.codes) (λ k. ap (called_by k c.args.is_wanted c.args.at c.args.count (part ns c.args.x.code)) (sym c.in-Procedure.is))

pub returns-in-Variable-clause-codes : goal.returns-in-Variable-clause-codes
returns-in-Variable-clause-codes g c =
    let ns = c.args.self.now.fragments.now.nodes.items in
    described c.called_variable.result c.called_variable.ensures.codes (λ k. ap (called_by k c.args.is_wanted c.args.at c.args.count (part ns c.args.x.code)) (sym c.in-Variable.is))

pub returns-in-ModuleName-clause-codes : goal.returns-in-ModuleName-clause-codes
returns-in-ModuleName-clause-codes g c =
    let ns = c.args.self.now.fragments.now.nodes.items in
    described c.refused_call.result (c.refused_call.ensures (g.S.Scopes.state c.args.self.now.scopes.now) ns) (λ k. ap (called_by k c.args.is_wanted c.args.at c.args.count (part ns c.args.x.code)) (sym c.in-ModuleName.is))

pub returns-in-InError-clause-codes : goal.returns-in-InError-clause-codes
returns-in-InError-clause-codes g c =
    let ns = c.args.self.now.fragments.now.nodes.items in
    described (Ok (Known Nothing)) (value_alone (g.S.Scopes.state c.args.self.now.scopes.now) c.args.self.now.notes.now ns c.args.self.now.site.now Nothing IsCallable called_in (λ k. no_call) tt (λ k. refl))
    (λ k. ap (called_by k c.args.is_wanted c.args.at c.args.count (part ns c.args.x.code)) (sym c.in-InError.is))

pub returns-in_default-clause-codes : goal.returns-in_default-clause-codes
returns-in_default-clause-codes g c =
    let ns = c.args.self.now.fragments.now.nodes.items in
    let other = c.in_default in
    described c.refused_call-in_default.result (c.refused_call-in_default.ensures (g.S.Scopes.state c.args.self.now.scopes.now) ns)
    (λ k. other_called k c.args.is_wanted c.args.at c.args.count (part ns c.args.x.code) c.args.x.operand other.not-StandardProcedure other.not-Procedure other.not-Variable other.not-ModuleName other.not-InError)
