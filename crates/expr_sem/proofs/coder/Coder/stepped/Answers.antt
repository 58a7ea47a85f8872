use Rattle.std.proofs.Common.{◌∙◌, Bool, List, ap, sym, subst, if◌then◌else◌}
use Rattle.m2_base.specs.Gives.{gives}
use Rattle.m2_base.specs.Standard.{broken}
use Rattle.m2_base.specs.States.{Frame}
use Rattle.m2_base.specs.Statics.Operands.{operand_type}
use Rattle.m2_base.specs.declared.rows.Place.{Place}
use Rattle.code_form.specs.declared.instr.Instr.{Instr}
use Rattle.const_eval.proofs.TypesThere.{standard_there, type_there}
use Rattle.type_rules.specs.Scenes.{IsThere}
use Rattle.block_code.specs.Coded.{coded, in_error, value_code}
use Rattle.expr_sem.specs.Codings.{coded_in}
use Rattle.expr_sem.specs.Fragments.{part}
use Rattle.block_code.specs.Parts.{Part}
use Rattle.block_code.specs.StandardProcedures.{no_value, step_instrs, update}
use Rattle.expr_sem.specs.Updates.{updated_by}
use Rattle.expr_sem.proofs.Following.{by_coding, then_waits}
use Rattle.expr_sem.proofs.Making.{after_question}
use Rattle.expr_sem.proofs.Onwards.{holds_after, in_after, suits_after}
use Rattle.expr_sem.proofs.Operating.{coding_after, described, unknown, unmade}
use Rattle.expr_sem.proofs.Quiet.{no_notes}
use Rattle.expr_sem.proofs.Selecting.{error_alone, stays_read}
use Rattle.expr_sem.proofs.Sequencing.{part_later}
use Rattle.expr_sem.proofs.coder.Coder.stepped.Goals as goal

pub returns-then-either_bad-clause-codes : goal.returns-then-either_bad-clause-codes
returns-then-either_bad-clause-codes g c =
    let notes = c.args.self.now.notes.now in
    let ns = c.args.self.now.fragments.now.nodes.items in
    error_alone _ notes _ _ c.in_error.result _ c.in_error.ensures.told c.in_error.ensures.there
    (λ k. ap (λ (b : Bool). gives (if b then in_error else update (coded_in ns c.args.x) (value_code k (coded_in ns c.args.n)) (step_instrs k.scene c.args.f (operand_type c.args.x.operand)))) (sym c.if-either_bad.true ∙ c.either_bad.ensures))

pub returns-in-DontKnowYet-clause-codes : goal.returns-in-DontKnowYet-clause-codes
returns-in-DontKnowYet-clause-codes g c = let notes = c.args.self.now.notes.now in unknown (rw c.in-DontKnowYet.is at c.in-Ok.ensures notes)

pub returns-in-Err-clause-codes : goal.returns-in-Err-clause-codes
returns-in-Err-clause-codes g c = let notes = c.args.self.now.notes.now in unmade (c.in-Err.ensures notes) _

pub step_change-requires-clause-suits : goal.step_change-requires-clause-suits
step_change-requires-clause-suits g c = suits_after (c.value_code.ensures (no_notes c.args.self.now.fragments.now)) c.requires.suits

pub step_change-requires-clause-of : goal.step_change-requires-clause-of
step_change-requires-clause-of g c =
    holds_after (c.value_code.ensures (no_notes c.args.self.now.fragments.now)) (λ (f : Frame). IsThere f c.operand_type-of.result)
    (subst (λ (t : Place). IsThere (g.S.Scopes.state c.args.self.now.scopes.now).frame t) (sym c.operand_type-of.ensures) (type_there c.requires.suits.around c.args.x.operand c.requires.x.operand))

pub returns-in-DontKnowYet-step_change-clause-codes : goal.returns-in-DontKnowYet-step_change-clause-codes
returns-in-DontKnowYet-step_change-clause-codes g c =
    let notes = c.args.self.now.notes.now in
    then_waits (by_coding (c.value_code.ensures notes)) c.step_change.ensures.reads c.in-DontKnowYet-step_change.ensures.waits

pub updated-requires-clause-variable : goal.updated-requires-clause-variable
updated-requires-clause-variable g c = in_after (c.value_code.ensures (no_notes c.args.self.now.fragments.now)) c.args.x.code c.requires.x.code

pub updated-requires-clause-number : goal.updated-requires-clause-number
updated-requires-clause-number g c = (rw c.in-Known.is at c.in-Ok.ensures (no_notes c.args.self.now.fragments.now)).there

pub returns-clause-codes : goal.returns-clause-codes
returns-clause-codes g c =
    let notes = c.args.self.now.notes.now in
    let ns = c.args.self.now.fragments.now.nodes.items in
    let ms = c.value_code.new.fragments.nodes.items in
    let f = c.args.f in
    let of = operand_type c.args.x.operand in
    let r = c.answered_as.result in
    let one = rw c.in-Known.is at c.in-Ok.ensures notes in
    let reads = c.in-Known-step_change.ensures.reads in
    let there = stays_read (λ (f : Frame). IsThere f broken) reads (standard_there (suits_after one c.requires.suits).around 10) in
    described r
    (coding_after (λ k. gives (value_code k (coded_in ns c.args.n))) (λ (p : Part) k. gives (update (coded_in ns c.args.x) p (step_instrs k.scene f of))) r one
    (described r
    (after_question {h = λ k. gives (coded no_value (updated_by (part ms c.args.x.code) (part ms c.in-Known.value) (step_instrs k.scene f c.operand_type-of.result)))} r reads
    (c.answered_as.ensures (g.S.Scopes.state c.step_change.new.scopes) notes c.args.self.now.site.now _ _ _ there c.updated.ensures)
    (λ rows in_hand told. ap (λ (is : List Instr). gives (coded no_value (updated_by (part ms c.args.x.code) (part ms c.in-Known.value) is))) (c.in-Known-step_change.ensures.told rows in_hand told)))
    (λ k. ap (λ (t : Place). gives (coded no_value (updated_by (part ms c.args.x.code) (part ms c.in-Known.value) (step_instrs k.scene f t)))) c.operand_type-of.ensures
    ∙ ap (λ (v : Part). gives (coded no_value (updated_by v (part ms c.in-Known.value) (step_instrs k.scene f of)))) (part_later one.grows c.args.x.code c.requires.x.code))))
    (λ k. ap (λ (b : Bool). gives (if b then in_error else update (coded_in ns c.args.x) (value_code k (coded_in ns c.args.n)) (step_instrs k.scene f of))) (sym c.if-either_bad.false ∙ c.either_bad.ensures))
