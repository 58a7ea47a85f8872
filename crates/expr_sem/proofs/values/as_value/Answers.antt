use Rattle.std.proofs.Common.{◌∙◌, Ok, ap, refl, sym}
use Rattle.m2_base.specs.declared.replies.Ask.TheVariants.{Known}
use Rattle.expr_sem.specs.Codings.{IsCoded, coded_in}
use Rattle.block_code.specs.Values.{as_value_by}
use Rattle.type_rules.specs.Sites.{context_of}
use Rattle.expr_sem.proofs.Operating.{described, described_there, value_alone}
use Rattle.expr_sem.proofs.ValueCases.{of_module, of_procedure, other_wanted}
use Rattle.expr_sem.proofs.values.as_value.Goals as goal

pub returns-in-NamedType : goal.returns-in-NamedType
returns-in-NamedType c state nodes h =
    described c.refused.result (c.refused.ensures state nodes) (λ k. ap (as_value_by k c.args.at (coded_in nodes c.args.x)) (sym c.in-NamedType.is))

pub returns-in-ModuleName : goal.returns-in-ModuleName
returns-in-ModuleName c state nodes h =
    described c.refused-in-ModuleName.result (c.refused-in-ModuleName.ensures state nodes) (λ k. ap (as_value_by k c.args.at (coded_in nodes c.args.x)) (sym c.in-ModuleName.is))

pub returns-in-StandardProcedure : goal.returns-in-StandardProcedure
returns-in-StandardProcedure c state nodes h =
    described c.refused-in-StandardProcedure.result (c.refused-in-StandardProcedure.ensures state nodes) (λ k. ap (as_value_by k c.args.at (coded_in nodes c.args.x)) (sym c.in-StandardProcedure.is))

pub returns-then-level_of-eq0 : goal.returns-then-level_of-eq0
returns-then-level_of-eq0 c state nodes h =
    described_there (Ok (Known c.args.x)) (value_alone state c.args.notes.now nodes c.args.site.now c.args.x IsCoded coded_in (λ k. coded_in nodes c.args.x) h (λ k. refl))
    (λ made. let k = context_of state.frame made c.args.site.now in
    of_module k c.args.at (coded_in nodes c.args.x) c.in-Procedure.field-0 c.in-Procedure.of c.in-Procedure.field-2 c.in-Procedure.field-3 (sym c.level_of.ensures ∙ c.if-level_of-eq0.true) ∙ ap (as_value_by k c.args.at (coded_in nodes c.args.x)) (sym c.in-Procedure.is))

pub returns-else-level_of-eq0 : goal.returns-else-level_of-eq0
returns-else-level_of-eq0 c state nodes h =
    described_there c.refused-else-level_of-eq0.result (c.refused-else-level_of-eq0.ensures state nodes)
    (λ made. let k = context_of state.frame made c.args.site.now in
    of_procedure k c.args.at (coded_in nodes c.args.x) c.in-Procedure.field-0 c.in-Procedure.of c.in-Procedure.field-2 c.in-Procedure.field-3 (λ e. c.if-level_of-eq0.false (c.level_of.ensures ∙ e)) ∙ ap (as_value_by k c.args.at (coded_in nodes c.args.x)) (sym c.in-Procedure.is))

pub returns-in_default : goal.returns-in_default
returns-in_default c state nodes h =
    described (Ok (Known c.args.x)) (value_alone state c.args.notes.now nodes c.args.site.now c.args.x IsCoded coded_in (λ k. coded_in nodes c.args.x) h (λ k. refl))
    (λ k. other_wanted k c.args.at (coded_in nodes c.args.x) c.args.x.operand c.in_default.not-NamedType c.in_default.not-Procedure c.in_default.not-StandardProcedure c.in_default.not-ModuleName)
