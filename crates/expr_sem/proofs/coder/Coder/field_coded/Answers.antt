use Rattle.std.proofs.Common.{◌∙◌, Ok, ap, sym, subst, refl, if◌then◌else◌}
use Rattle.m2_base.specs.Gives.{gives}
use Rattle.m2_base.specs.declared.operands.Operand.TheVariants.{Variable}
use Rattle.m2_base.specs.declared.replies.Ask.TheVariants.{Known}
use Rattle.type_rules.specs.Members.{IsFieldThere}
use Rattle.type_rules.specs.Scenes.{IsThere}
use Rattle.type_rules.specs.Sites.{context_of}
use Rattle.block_code.specs.Coded.{coded, in_error}
use Rattle.expr_sem.specs.Fragments.{part}
use Rattle.block_code.specs.Parts.{◌⨟◌}
use Rattle.block_code.specs.RecordFields.{field_by, offset_code}
use Rattle.expr_sem.proofs.Making.{after_question, question_waits}
use Rattle.expr_sem.proofs.Selecting.{error_alone, not_field, stays_read}
use Rattle.expr_sem.proofs.coder.Coder.field_coded.Goals as goal

pub returns-in_default-clause-codes : goal.returns-in_default-clause-codes
returns-in_default-clause-codes g c =
    let notes = c.args.self.now.notes.now in
    let p = part c.args.self.now.fragments.now.nodes.items c.args.code in
    error_alone _ notes _ _ c.in_error.result _ c.in_error.ensures.told c.in_error.ensures.there
    (λ k. ap (λ x. gives x) (not_field k.scene p c.read_row.result c.in_default.not-Field) ∙ ap (λ m. gives (field_by k.scene p m)) c.read_row.ensures)

pub is_broken-requires-clause-there : goal.is_broken-requires-clause-there
is_broken-requires-clause-there g c =
    subst (λ m. IsFieldThere (g.S.Scopes.state c.args.self.now.scopes.now).frame m) (sym c.read_row.ensures ∙ c.in-Field.is) c.requires.field.there

pub returns-in-DontKnowYet-clause-codes : goal.returns-in-DontKnowYet-clause-codes
returns-in-DontKnowYet-clause-codes g c = question_waits c.args.self.now.notes.now _ c.is_broken.ensures.reads c.in-DontKnowYet.ensures.waits

pub returns-then-value-clause-codes : goal.returns-then-value-clause-codes
returns-then-value-clause-codes g c =
    let notes = c.args.self.now.notes.now in
    let p = part c.args.self.now.fragments.now.nodes.items c.args.code in
    let t = c.in-Field.of in
    after_question (Ok (Known c.in_error-then-value.result)) c.is_broken.ensures.reads
    (error_alone _ notes _ _ c.in_error-then-value.result (λ k. gives in_error) c.in_error-then-value.ensures.told c.in_error-then-value.ensures.there (λ k. refl))
    (λ made in_hand told. let k = context_of (g.S.Scopes.state c.args.self.now.scopes.now).frame made c.args.self.now.site.now in
    ap (λ b. gives (if b then in_error else coded (Variable t) (p ⨟ offset_code c.in-Field.offset))) (sym c.if-value.true ∙ c.in-Known.ensures.told made in_hand told)
    ∙ ap (λ m. gives (field_by k.scene p m)) (sym c.in-Field.is ∙ c.read_row.ensures))

pub returns-clause-codes : goal.returns-clause-codes
returns-clause-codes g c =
    let notes = c.args.self.now.notes.now in
    let p = part c.args.self.now.fragments.now.nodes.items c.args.code in
    let t = c.in-Field.of in
    let there = subst (λ m. IsFieldThere (g.S.Scopes.state c.args.self.now.scopes.now).frame m) (sym c.read_row.ensures ∙ c.in-Field.is) c.requires.field.there in
    after_question c.answered_as.result c.is_broken.ensures.reads
    (c.answered_as.ensures (g.S.Scopes.state c.is_broken.new.scopes) notes c.args.self.now.site.now _ _ _ (stays_read (λ e. IsThere e t) c.is_broken.ensures.reads there) c.code_behind.ensures)
    (λ made in_hand told. let k = context_of (g.S.Scopes.state c.args.self.now.scopes.now).frame made c.args.self.now.site.now in
    ap (λ b. gives (if b then in_error else coded (Variable t) (p ⨟ offset_code c.in-Field.offset))) (sym c.if-value.false ∙ c.in-Known.ensures.told made in_hand told)
    ∙ ap (λ m. gives (field_by k.scene p m)) (sym c.in-Field.is ∙ c.read_row.ensures))
