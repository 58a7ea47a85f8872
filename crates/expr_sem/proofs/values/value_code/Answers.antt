use Rattle.std.proofs.Common.{◌≡◌, ◌∙◌, ◌∷◌, [], ap, if◌then◌else◌, of_z, refl, rules, sym, to_z, w64}
use Rattle.m2_base.specs.Gives.{gives}
use Rattle.block_code.specs.Coded.{value_by, value_code as spec_value_code}
use Rattle.expr_sem.specs.Codings.{coded_in}
use Rattle.code_form.specs.declared.instr.Instr.TheVariants.{Load, Push}
use Rattle.expr_sem.specs.Fragments.{part}
use Rattle.block_code.specs.Parts.{plain, ◌⨟◌}
use Rattle.type_rules.specs.Sites.{context_of}
use Rattle.type_rules.proofs.Reading.{Reads-refl}
use Rattle.expr_sem.proofs.Making.{made_alone, made_told, there_told, question_waits}
use Rattle.expr_sem.proofs.Operating.{described}
use Rattle.expr_sem.proofs.ValueCases.{other_value}
use Rattle.m2_base.specs.Finished.{source_of}
use Rattle.expr_sem.proofs.values.value_code.Goals as goal

pub returns-in-Constant : goal.returns-in-Constant
returns-in-Constant g c n =
    let ns = c.args.fragments.now.nodes.items in
    let value : to_z w64 (of_z w64 c.in-Constant.value) ≡ c.in-Constant.value = search rules in
    made_alone n c.one.result c.answered.result (λ k. spec_value_code k (coded_in ns c.args.x)) c.answered.ensures c.one.ensures.made
    (λ made. ap (λ v. plain (Push v ∷ [])) value ∙ ap (value_by (context_of (g.S.Scopes.state c.args.scopes.now).frame made c.args.site.now) (part ns c.args.x.code)) (sym c.in-Constant.is))

pub returns-in-StringConstant : goal.returns-in-StringConstant
returns-in-StringConstant g c n =
    let ns = c.args.fragments.now.nodes.items in
    made_alone n c.string_value.result c.answered-in-StringConstant.result (λ k. spec_value_code k (coded_in ns c.args.x)) c.answered-in-StringConstant.ensures
    (c.string_value.ensures (source_of c.args.site.now.texts.now) refl)
    (λ made. ap (value_by (context_of (g.S.Scopes.state c.args.scopes.now).frame made c.args.site.now) (part ns c.args.x.code)) (sym c.in-StringConstant.is))

pub returns-then-value : goal.returns-then-value
returns-then-value g c n =
    let state = g.S.Scopes.state c.args.scopes.now in
    let p = part c.args.fragments.now.nodes.items c.args.x.code in
    there_told n c.args.x.code (λ k. spec_value_code k (coded_in c.args.fragments.now.nodes.items c.args.x)) c.in-Known.ensures.reads c.requires.x.code
    (λ made in_hand told. ap (λ b. if b then p else (p ⨟ plain (Load ∷ []))) (sym c.if-value.true ∙ c.in-Known.ensures.told made in_hand told)
    ∙ ap (value_by (context_of state.frame made c.args.site.now) p) (sym c.in-Variable.is))

pub returns-else-value : goal.returns-else-value
returns-else-value g c n =
    let state = g.S.Scopes.state c.args.scopes.now in
    let p = part c.args.fragments.now.nodes.items c.args.x.code in
    made_told n c.instr_behind.result c.answered-else-value.result (λ k. spec_value_code k (coded_in c.args.fragments.now.nodes.items c.args.x)) c.answered-else-value.ensures c.in-Known.ensures.reads c.instr_behind.ensures
    (λ made in_hand told. ap (λ b. if b then p else (p ⨟ plain (Load ∷ []))) (sym c.if-value.false ∙ c.in-Known.ensures.told made in_hand told)
    ∙ ap (value_by (context_of state.frame made c.args.site.now) p) (sym c.in-Variable.is))

pub returns-in-Procedure : goal.returns-in-Procedure
returns-in-Procedure g c n =
    described c.procedure_code.result (c.procedure_code.ensures n) (λ k. ap (λ o. gives (value_by k (part c.args.fragments.now.nodes.items c.args.x.code) o)) (sym c.in-Procedure.is))

pub returns-in_default : goal.returns-in_default
returns-in_default g c n =
    let ns = c.args.fragments.now.nodes.items in
    let state = g.S.Scopes.state c.args.scopes.now in
    there_told n c.args.x.code (λ k. spec_value_code k (coded_in ns c.args.x)) (Reads-refl state) c.requires.x.code
    (λ made in_hand told. other_value (context_of state.frame made c.args.site.now) (part ns c.args.x.code) c.args.x.operand
    (λ t v. c.in_default.not-Constant t v) (λ m l. c.in_default.not-StringConstant m l) (λ t. c.in_default.not-Variable t) (λ m t k s. c.in_default.not-Procedure m t k s))

pub returns-in-DontKnowYet : goal.returns-in-DontKnowYet
returns-in-DontKnowYet g c n = question_waits n _ c.is_structured.ensures.reads c.in-DontKnowYet.ensures.waits
