use Rattle.std.proofs.Common.{◌∙◌, ℕ, Some, None, ap, sym, refl}
use Rattle.m2_base.specs.Gives.{gives}
use Rattle.m2_base.specs.Statics.Contexts.{Context}
use Rattle.type_rules.specs.Sites.{context_of}
use Rattle.expr_sem.specs.Codings.{with_types}
use Rattle.block_code.specs.Parts.{with_record}
use Rattle.block_code.specs.RecordFields.{field_coded, name_coded as spec_name}
use Rattle.expr_sem.proofs.Making.{after_question, question_failed, question_waits}
use Rattle.expr_sem.proofs.Operating.{described}
use Rattle.expr_sem.proofs.Selecting.{grown, grown_wanted, name_given}
use Rattle.const_eval.proofs.Later.{SuitsSite_read}
use Rattle.expr_sem.proofs.coder.Coder.name_coded.Goals as goal

pub returns-in-DontKnowYet-clause-codes : goal.returns-in-DontKnowYet-clause-codes
returns-in-DontKnowYet-clause-codes g c = question_waits _ _ c.field_of_withs.ensures.reads c.in-DontKnowYet.ensures.waits

pub returns-in_default-clause-codes : goal.returns-in_default-clause-codes
returns-in_default-clause-codes g c = question_failed c.args.self.now.notes.now _ c.field_of_withs.ensures.reads _

pub field_coded-requires-clause-code : goal.field_coded-requires-clause-code
field_coded-requires-clause-code g c = c.in-Ok-with_record.ensures.made.made.there

pub returns-in-Ok-with_record-clause-codes : goal.returns-in-Ok-with_record-clause-codes
returns-in-Ok-with_record-clause-codes g c =
    let made = c.in-Ok-with_record.ensures.made in
    after_question c.field_coded.result c.field_of_withs.ensures.reads
    (described c.field_coded.result (grown made.grows (c.field_coded.ensures.codes)) (λ k. ap (λ p. gives (field_coded k.scene p c.in-Some.field)) made.made.part_is))
    (λ rows in_hand told. let k = context_of (g.S.Scopes.state c.args.self.now.scopes.now).frame rows c.args.self.now.site.now in
    ap (λ (n : ℕ). gives (field_coded k.scene (with_record n) c.in-Some.field)) c.in-Ok.ensures.1
    ∙ name_given k c.args.ident (with_types c.args.self.now.withs.now) (Some (c.in-Some.number, c.in-Some.field)) (sym c.in-Some.is ∙ c.in-Known.ensures.told rows in_hand told))

pub returns-in-Err-clause-codes : goal.returns-in-Err-clause-codes
returns-in-Err-clause-codes g c =
    after_question {g = λ (k : Context). spec_name k (with_types c.args.self.now.withs.now) c.args.ident} _ c.field_of_withs.ensures.reads (grown_wanted _ c.args.self.now.notes.now _ c.in-Err.ensures.made.grows _) (λ rows in_hand told. refl)

pub returns-in-None-clause-codes : goal.returns-in-None-clause-codes
returns-in-None-clause-codes g c =
    after_question c.name_used.result c.field_of_withs.ensures.reads c.name_used.ensures.codes
    (λ made in_hand told. name_given (context_of (g.S.Scopes.state c.args.self.now.scopes.now).frame made c.args.self.now.site.now) c.args.ident (with_types c.args.self.now.withs.now) None (sym c.in-None.is ∙ c.in-Known.ensures.told made in_hand told))

pub field_coded-requires-clause-suits : goal.field_coded-requires-clause-suits
field_coded-requires-clause-suits g c = SuitsSite_read c.field_of_withs.ensures.reads c.requires.suits

pub name_used-requires-clause-suits : goal.name_used-requires-clause-suits
name_used-requires-clause-suits g c = SuitsSite_read c.field_of_withs.ensures.reads c.requires.suits
