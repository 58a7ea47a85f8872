use Rattle.std.proofs.Common.{◌∙◌, ap, subst, sym}
use Rattle.m2_base.specs.Rows.{row_meaning}
use Rattle.m2_base.specs.Statics.Contexts.{Context}
use Rattle.m2_base.specs.Statics.TypeParts.{field_of}
use Rattle.m2_base.specs.declared.operands.Operand.{Operand}
use Rattle.const_eval.specs.Sites.{IsOperand}
use Rattle.type_rules.proofs.Later.{IsThere_read, Suits_read}
use Rattle.type_rules.proofs.Reading.{Reads-trans, Waits_read}
use Rattle.type_rules.specs.Sites.{context_of}
use Rattle.expr_sem.specs.Fragments.{part}
use Rattle.block_code.specs.RecordFields.{found_field, of_record, select_field_by}
use Rattle.expr_sem.specs.Selections.{IsField}
use Rattle.expr_sem.proofs.Making.{after_question, question_waits}
use Rattle.expr_sem.proofs.Operating.{described}
use Rattle.expr_sem.proofs.Selecting.{error_alone, no_field, no_record, stays_read}
use Rattle.const_eval.proofs.Later.{SuitsSite_read}
use Rattle.expr_sem.proofs.coder.Coder.select_field.Goals as goal

pub returns-in-ModuleName-clause-codes : goal.returns-in-ModuleName-clause-codes
returns-in-ModuleName-clause-codes g c =
    described c.name_used.result c.name_used.ensures.codes (λ k. ap (λ o. select_field_by k c.args.first c.args.at c.args.ident (part c.args.self.now.fragments.now.nodes.items c.args.x.code) o) (sym c.in-ModuleName.is))

pub returns-in-DontKnowYet-clause-codes : goal.returns-in-DontKnowYet-clause-codes
returns-in-DontKnowYet-clause-codes g c = question_waits _ _ c.stand.ensures.reads c.in-DontKnowYet.ensures.waits

pub returns-in_default-meaning-clause-codes : goal.returns-in_default-meaning-clause-codes
returns-in_default-meaning-clause-codes g c =
    after_question c.refused.result c.stand.ensures.reads (c.refused.ensures (g.S.Scopes.state c.stand.new.scopes) _)
    (λ made in_hand told. no_record (context_of (g.S.Scopes.state c.args.self.now.scopes.now).frame made c.args.self.now.site.now) c.args.at (part c.args.self.now.fragments.now.nodes.items c.args.x.code) c.args.ident c.in-Variable.of c.in-Known.value.1 c.in_default-meaning.not-Record
    ∙ ap (λ m. of_record (context_of (g.S.Scopes.state c.args.self.now.scopes.now).frame made c.args.self.now.site.now) c.args.at (part c.args.self.now.fragments.now.nodes.items c.args.x.code) c.args.ident c.in-Variable.of m) (c.in-Known.ensures.kind made in_hand told) ∙ ap (λ o. select_field_by (context_of (g.S.Scopes.state c.args.self.now.scopes.now).frame made c.args.self.now.site.now) c.args.first c.args.at c.args.ident (part c.args.self.now.fragments.now.nodes.items c.args.x.code) o) (sym c.in-Variable.is))

pub field_of-requires-clause-suits : goal.field_of-requires-clause-suits
field_of-requires-clause-suits g c = Suits_read c.in-Known.ensures.reads c.requires.suits.around

pub field_of-requires-clause-there : goal.field_of-requires-clause-there
field_of-requires-clause-there g c = IsThere_read c.in-Known.ensures.reads (subst (λ (o : Operand). IsOperand (g.S.Scopes.state c.args.self.now.scopes.now).frame o) c.in-Variable.is c.requires.x.operand)

pub returns-in-DontKnowYet-field_of-clause-codes : goal.returns-in-DontKnowYet-field_of-clause-codes
returns-in-DontKnowYet-field_of-clause-codes g c =
    question_waits _ _ (Reads-trans c.in-Known.ensures.reads c.in-DontKnowYet-field_of.ensures.reads) (Waits_read c.in-Known.ensures.reads c.in-DontKnowYet-field_of.ensures.waits)

pub field_coded-requires-clause-field : goal.field_coded-requires-clause-field
field_coded-requires-clause-field g c =
    stays_read (λ f. IsField f (row_meaning c.in-Some.field)) c.field_of.ensures.reads (record { small = (rw c.in-Some.is at c.in-Known-field_of.ensures.here).row.said.small; there = (rw c.in-Some.is at c.in-Known-field_of.ensures.typed) })

pub returns-in-Some-clause-codes : goal.returns-in-Some-clause-codes
returns-in-Some-clause-codes g c =
    let p = part c.args.self.now.fragments.now.nodes.items c.args.x.code in
    let site = c.args.self.now.site.now in
    after_question {g = λ (k : Context). found_field k p c.args.ident (field_of k.scene c.in-Variable.of c.args.ident.name)} c.field_coded.result c.in-Known.ensures.reads
    (after_question c.field_coded.result c.in-Known-field_of.ensures.reads (c.field_coded.ensures.codes)
    (λ made in_hand told. ap (λ r. found_field (context_of (g.S.Scopes.state c.stand.new.scopes).frame made site) p c.args.ident r) (sym c.in-Some.is ∙ c.in-Known-field_of.ensures.told made in_hand told)))
    (λ made in_hand told. ap (λ m. of_record (context_of (g.S.Scopes.state c.args.self.now.scopes.now).frame made site) c.args.at p c.args.ident c.in-Variable.of m) (sym c.in-Record.is ∙ c.in-Known.ensures.kind made in_hand told) ∙ ap (λ o. select_field_by (context_of (g.S.Scopes.state c.args.self.now.scopes.now).frame made c.args.self.now.site.now) c.args.first c.args.at c.args.ident (part c.args.self.now.fragments.now.nodes.items c.args.x.code) o) (sym c.in-Variable.is))

pub returns-in-None-clause-codes : goal.returns-in-None-clause-codes
returns-in-None-clause-codes g c =
    let p = part c.args.self.now.fragments.now.nodes.items c.args.x.code in
    let site = c.args.self.now.site.now in
    after_question {g = λ (k : Context). found_field k p c.args.ident (field_of k.scene c.in-Variable.of c.args.ident.name)} c.refused-in-None.result c.in-Known.ensures.reads
    (after_question c.refused-in-None.result c.in-Known-field_of.ensures.reads (c.refused-in-None.ensures (g.S.Scopes.state c.field_of.new.scopes) _)
    (λ made in_hand told. ap (λ r. found_field (context_of (g.S.Scopes.state c.stand.new.scopes).frame made site) p c.args.ident r) (sym c.in-None.is ∙ c.in-Known-field_of.ensures.told made in_hand told)))
    (λ made in_hand told. ap (λ m. of_record (context_of (g.S.Scopes.state c.args.self.now.scopes.now).frame made site) c.args.at p c.args.ident c.in-Variable.of m) (sym c.in-Record.is ∙ c.in-Known.ensures.kind made in_hand told) ∙ ap (λ o. select_field_by (context_of (g.S.Scopes.state c.args.self.now.scopes.now).frame made c.args.self.now.site.now) c.args.first c.args.at c.args.ident (part c.args.self.now.fragments.now.nodes.items c.args.x.code) o) (sym c.in-Variable.is))

pub returns-in-InError-clause-codes : goal.returns-in-InError-clause-codes
returns-in-InError-clause-codes g c =
    error_alone _ _ _ _ c.in_error.result _ c.in_error.ensures.told c.in_error.ensures.there
    (λ k. ap (λ o. select_field_by k c.args.first c.args.at c.args.ident (part c.args.self.now.fragments.now.nodes.items c.args.x.code) o) (sym c.in-InError.is))

pub returns-in-NotConstant-clause-codes : goal.returns-in-NotConstant-clause-codes
returns-in-NotConstant-clause-codes g c =
    error_alone _ _ _ _ c.in_error-in-NotConstant.result _ c.in_error-in-NotConstant.ensures.told c.in_error-in-NotConstant.ensures.there
    (λ k. ap (λ o. select_field_by k c.args.first c.args.at c.args.ident (part c.args.self.now.fragments.now.nodes.items c.args.x.code) o) (sym c.in-NotConstant.is))

pub returns-in_default-clause-codes : goal.returns-in_default-clause-codes
returns-in_default-clause-codes g c =
    described c.refused-in_default.result (c.refused-in_default.ensures (g.S.Scopes.state c.args.self.now.scopes.now) _)
    (λ k. no_field k c.args.first c.args.at c.args.ident (part c.args.self.now.fragments.now.nodes.items c.args.x.code) c.args.x.operand c.in_default.not-ModuleName c.in_default.not-Variable c.in_default.not-InError c.in_default.not-NotConstant)

pub field_coded-requires-clause-suits : goal.field_coded-requires-clause-suits
field_coded-requires-clause-suits g c = SuitsSite_read (Reads-trans c.stand.ensures.reads c.field_of.ensures.reads) c.requires.suits
