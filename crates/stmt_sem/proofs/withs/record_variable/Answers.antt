use Rattle.std.proofs.Common.{◌≡◌, ◌∙◌, ◌||◌, ℕ, Bool, false, ap, sym, subst, refl, if◌then◌else◌}
use Rattle.m2_base.specs.Gives.{gives}
use Rattle.m2_base.specs.States.{Frame}
use Rattle.m2_base.specs.Statics.Contexts.{refuse}
use Rattle.m2_base.specs.Statics.Diagnostics.{not_a_record}
use Rattle.m2_base.specs.Statics.Operands.{operand_type}
use Rattle.m2_base.specs.Statics.Types.{kind_of}
use Rattle.m2_base.specs.declared.rows.RowMeaning.{RowMeaning}
use Rattle.m2_base.specs.declared.rows.RowMeaning.TheVariants.{Record}
use Rattle.m2_base.specs.declared.rows.Place.{Place}
use Rattle.const_eval.proofs.TypesThere.{type_there}
use Rattle.type_rules.specs.Scenes.{IsThere}
use Rattle.type_rules.specs.Sites.{context_of}
use Rattle.block_code.specs.Coded.{in_error}
use Rattle.expr_sem.specs.Codings.{IsCoded, coded_in}
use Rattle.expr_sem.proofs.Making.{after_question, question_waits}
use Rattle.expr_sem.proofs.Operating.{described, value_alone}
use Rattle.expr_sem.proofs.Selecting.{stays_read}
use Rattle.block_code.specs.Withs.{is_record}
use Rattle.stmt_sem.proofs.withs.record_variable.Goals as goal

pub returns-then-is_bad : goal.returns-then-is_bad
returns-then-is_bad g c nodes h =
    described _ (value_alone _ c.args.notes.now nodes c.args.site.now c.args.x IsCoded coded_in (λ k. coded_in nodes c.args.x) h (λ k. refl))
    (λ k. ap (λ (b : Bool). if b || is_record (kind_of k.scene (operand_type c.args.x.operand)) then gives (coded_in nodes c.args.x) else refuse k c.args.at not_a_record in_error) (sym c.if-is_bad.true ∙ c.is_bad.ensures))

pub stand-requires-clause-there : goal.stand-requires-clause-there
stand-requires-clause-there g c =
    subst (λ (t : Place). IsThere (g.S.Scopes.state c.args.scopes.now).frame t) (sym c.operand_type.ensures) (type_there c.requires.suits.around c.args.x.operand c.requires.x)

pub returns-in-DontKnowYet : goal.returns-in-DontKnowYet
returns-in-DontKnowYet g c nodes h = question_waits _ nodes c.stand.ensures.reads c.in-DontKnowYet.ensures.waits

pub returns-in-Record : goal.returns-in-Record
returns-in-Record g c nodes h =
    after_question _ c.in-Known.ensures.reads
    (value_alone (g.S.Scopes.state c.stand.new.scopes) c.args.notes.now nodes c.args.site.now c.args.x IsCoded coded_in (λ k. coded_in nodes c.args.x)
    (stays_read (λ (f : Frame). IsCoded f nodes c.args.x) c.in-Known.ensures.reads h) (λ k. refl))
    (λ made in_hand told. let k = context_of (g.S.Scopes.state c.args.scopes.now).frame made c.args.site.now in
    ap (λ (b : Bool). if b then gives (coded_in nodes c.args.x) else refuse k c.args.at not_a_record in_error)
    (ap is_record (sym c.in-Record.is) ∙ ap is_record (c.in-Known.ensures.kind made in_hand told) ∙ ap (λ (t : Place). is_record (kind_of k.scene t)) c.operand_type.ensures
    ∙ ap (λ (b : Bool). b || is_record (kind_of k.scene (operand_type c.args.x.operand))) (sym c.if-is_bad.false ∙ c.is_bad.ensures)))

not_record : (m : RowMeaning) → ((f s : ℕ) → m ≡ Record f s → ⊥) → false ≡ is_record m
not_record (Record f s) h = absurd (h f s refl)
not_record m h = refl

pub returns-in_default : goal.returns-in_default
returns-in_default g c nodes h =
    after_question c.refused.result c.in-Known.ensures.reads (c.refused.ensures (g.S.Scopes.state c.stand.new.scopes) nodes)
    (λ made in_hand told. let k = context_of (g.S.Scopes.state c.args.scopes.now).frame made c.args.site.now in
    ap (λ (b : Bool). if b then gives (coded_in nodes c.args.x) else refuse k c.args.at not_a_record in_error)
    (not_record _ c.in_default.not-Record ∙ ap is_record (c.in-Known.ensures.kind made in_hand told) ∙ ap (λ (t : Place). is_record (kind_of k.scene t)) c.operand_type.ensures
    ∙ ap (λ (b : Bool). b || is_record (kind_of k.scene (operand_type c.args.x.operand))) (sym c.if-is_bad.false ∙ c.is_bad.ensures)))
