use Rattle.std.proofs.Common.{◌≡◌, ◌∙◌, ◌∷◌, [], Bool, List, Ok, ap, refl, sym, subst, if◌then◌else◌}
use Rattle.m2_base.specs.Gives.{gives}
use Rattle.m2_base.specs.Standard.{broken}
use Rattle.m2_base.specs.States.{Frame}
use Rattle.m2_base.specs.Statics.Operands.{operand_type}
use Rattle.m2_base.specs.Statics.Sets.{set_base}
use Rattle.m2_base.specs.declared.replies.Ask.TheVariants.{Known}
use Rattle.m2_base.specs.declared.rows.Place.{Place}
use Rattle.m2_base.specs.declared.builtins.Builtin.{Builtin}
use Rattle.m2_base.specs.declared.builtins.Builtin.TheVariants.{Incl}
use Rattle.code_form.specs.declared.instr.Instr.{Instr}
use Rattle.code_form.specs.declared.instr.Instr.TheVariants.{Bit, Diff}
use Rattle.const_eval.proofs.TypesThere.{standard_there, type_there}
use Rattle.type_rules.specs.Scenes.{IsThere}
use Rattle.type_rules.specs.Sites.{SuitsSite, context_of}
use Rattle.block_code.specs.Coded.{coded, in_error}
use Rattle.expr_sem.specs.Codings.{IsCoded, coded_in}
use Rattle.block_code.specs.Fitting.{fitted_code}
use Rattle.expr_sem.specs.Fragments.{part}
use Rattle.block_code.specs.Parts.{Part}
use Rattle.block_code.specs.StandardProcedures.{included, member_instrs, no_value, set_member, update}
use Rattle.expr_sem.specs.Updates.{updated_by}
use Rattle.expr_sem.proofs.Following.{by_coding, by_question, followed_by, then_unknown, then_waits, then_wanted}
use Rattle.expr_sem.proofs.Making.{after_question}
use Rattle.expr_sem.proofs.Onwards.{coded_after, holds_after, in_after, suits_after}
use Rattle.expr_sem.proofs.Operating.{coding_after, described, unknown, unmade}
use Rattle.expr_sem.proofs.Quiet.{no_notes}
use Rattle.expr_sem.proofs.Selecting.{error_alone, stays_read}
use Rattle.expr_sem.proofs.Sequencing.{part_later}
use Rattle.expr_sem.proofs.coder.Coder.included.Goals as goal
use Rattle.expr_sem.proofs.coder.Coder.included.Goals.{in-Incl, in_default}

not_included : (f : Builtin) → (f ≡ Incl → ⊥) → (Bit ∷ Diff ∷ []) ≡ member_instrs f
not_included Incl h = absurd (h refl)
not_included f h = refl

pub set_member-requires-clause-x : goal.set_member-requires-clause-x
set_member-requires-clause-x g c = c.requires.x.operand

pub set_member-requires-clause-e : goal.set_member-requires-clause-e
set_member-requires-clause-e g c = (c.args.self.now.fragments.now.nodes.items, c.requires.e)

pub returns-in-DontKnowYet-clause-codes : goal.returns-in-DontKnowYet-clause-codes
returns-in-DontKnowYet-clause-codes g c = unknown (rw c.in-DontKnowYet.is at c.in-Ok.ensures c.args.self.now.fragments.now.nodes.items c.requires.e)

pub returns-in-Err-clause-codes : goal.returns-in-Err-clause-codes
returns-in-Err-clause-codes g c = unmade (c.in-Err.ensures c.args.self.now.fragments.now.nodes.items c.requires.e) _

pub returns-then-either_bad-clause-codes : goal.returns-then-either_bad-clause-codes
returns-then-either_bad-clause-codes g c =
    let ns = c.args.self.now.fragments.now.nodes.items in
    let first = rw c.in-Known.is at c.in-Ok.ensures ns c.requires.e in
    coding_after (λ k. set_member k (coded_in ns c.args.x) c.args.e.at (coded_in ns c.args.e.coded)) (λ v k. gives (included k c.args.f (coded_in ns c.args.x) v)) (Ok (Known c.in_error.result)) first
    (error_alone _ c.set_member.new.notes _ _ c.in_error.result _ c.in_error.ensures.told c.in_error.ensures.there
    (λ k. ap (λ (b : Bool). gives (if b then in_error else update (coded_in ns c.args.x) (fitted_code k (set_base k (operand_type c.args.x.operand)) (coded_in ns c.in-Known.value)) (member_instrs c.args.f))) (sym c.if-either_bad.true ∙ c.either_bad.ensures)))

pub set_base-requires-clause-suits : goal.set_base-requires-clause-suits
set_base-requires-clause-suits g c = suits_after (c.in-Ok.ensures c.args.self.now.fragments.now.nodes.items c.requires.e) c.requires.suits

pub set_base-requires-clause-of : goal.set_base-requires-clause-of
set_base-requires-clause-of g c =
    holds_after (c.in-Ok.ensures c.args.self.now.fragments.now.nodes.items c.requires.e) (λ (f : Frame). IsThere f c.operand_type.result)
    (subst (λ (t : Place). IsThere (g.S.Scopes.state c.args.self.now.scopes.now).frame t) (sym c.operand_type.ensures) (type_there c.requires.suits.around c.args.x.operand c.requires.x.operand))

pub returns-in-DontKnowYet-set_base-clause-codes : goal.returns-in-DontKnowYet-set_base-clause-codes
returns-in-DontKnowYet-set_base-clause-codes g c =
    then_waits (by_coding (c.in-Ok.ensures c.args.self.now.fragments.now.nodes.items c.requires.e)) c.set_base.ensures.reads c.in-DontKnowYet-set_base.ensures.waits

pub fitted_code-requires-clause-suits : goal.fitted_code-requires-clause-suits
fitted_code-requires-clause-suits g c =
    stays_read (λ (f : Frame). SuitsSite f c.args.self.now.site.now) c.in-Known-set_base.ensures.reads (suits_after (c.in-Ok.ensures c.args.self.now.fragments.now.nodes.items c.requires.e) c.requires.suits)

pub fitted_code-requires-clause-x : goal.fitted_code-requires-clause-x
fitted_code-requires-clause-x g c =
    let ns = c.args.self.now.fragments.now.nodes.items in
    let first = rw c.in-Known.is at c.in-Ok.ensures ns c.requires.e in
    stays_read (λ (f : Frame). IsCoded f ns c.in-Known.value) c.in-Known-set_base.ensures.reads (coded_after first c.in-Known.value first.there)

pub returns-in-DontKnowYet-asked-clause-codes : goal.returns-in-DontKnowYet-asked-clause-codes
returns-in-DontKnowYet-asked-clause-codes g c =
    let notes = c.set_member.new.notes in
    let ns = c.args.self.now.fragments.now.nodes.items in
    then_unknown (followed_by (by_coding (c.in-Ok.ensures ns c.requires.e)) (by_question notes ns c.in-Known-set_base.ensures.reads)) (rw c.in-DontKnowYet-asked.is at c.in-Ok-fitted_code.ensures notes)

pub returns-in-Err-fitted_code-clause-codes : goal.returns-in-Err-fitted_code-clause-codes
returns-in-Err-fitted_code-clause-codes g c =
    let notes = c.set_member.new.notes in
    let ns = c.args.self.now.fragments.now.nodes.items in
    then_wanted (followed_by (by_coding (c.in-Ok.ensures ns c.requires.e)) (by_question notes ns c.in-Known-set_base.ensures.reads)) (c.in-Err-fitted_code.ensures notes) _

pub updated-requires-clause-variable : goal.updated-requires-clause-variable
updated-requires-clause-variable g c = in_after (rw c.in-Known-asked.is at c.in-Ok-fitted_code.ensures (no_notes c.args.self.now.fragments.now)) c.args.x.code c.requires.x.code

pub updated-requires-clause-number : goal.updated-requires-clause-number
updated-requires-clause-number g c = (rw c.in-Known-asked.is at c.in-Ok-fitted_code.ensures (no_notes c.args.self.now.fragments.now)).there

pub returns-clause-codes : goal.returns-clause-codes
returns-clause-codes g c =
    let notes = c.set_member.new.notes in
    let ns = c.args.self.now.fragments.now.nodes.items in
    let ms = c.fitted_code.new.fragments.nodes.items in
    let r = c.answered_as.result in
    let first = rw c.in-Known.is at c.in-Ok.ensures ns c.requires.e in
    let reads = c.in-Known-set_base.ensures.reads in
    let suits = stays_read (λ (f : Frame). SuitsSite f c.args.self.now.site.now) reads (suits_after first c.requires.suits) in
    let one = rw c.in-Known-asked.is at c.in-Ok-fitted_code.ensures notes in
    let there = holds_after one (λ (f : Frame). IsThere f broken) (standard_there suits.around 10) in
    let changes : (Bit ∷ c.match-f.second ∷ []) ≡ member_instrs c.args.f = elim c.match-f.branch [
      | in-Incl w ↦ ap (λ (i : Instr). Bit ∷ i ∷ []) w.second-is ∙ ap member_instrs (sym w.in-Incl.is)
      | in_default w ↦ ap (λ (i : Instr). Bit ∷ i ∷ []) w.second-is ∙ not_included c.args.f w.in_default.not-Incl
    ] in
    coding_after (λ k. set_member k (coded_in ns c.args.x) c.args.e.at (coded_in ns c.args.e.coded)) (λ v k. gives (included k c.args.f (coded_in ns c.args.x) v)) r first
    (described r
    (after_question {h = λ k. gives (update (coded_in ns c.args.x) (fitted_code k (set_base k (operand_type c.args.x.operand)) (coded_in ns c.in-Known.value)) (member_instrs c.args.f))} r reads
    (coding_after (λ k. gives (fitted_code k c.in-Known-set_base.value (coded_in ns c.in-Known.value))) (λ p k. gives (update (coded_in ns c.args.x) p (member_instrs c.args.f))) r one
    (described r (c.answered_as.ensures (g.S.Scopes.state c.fitted_code.new.scopes) notes c.args.self.now.site.now _ _ _ there c.updated.ensures)
    (λ k. ap (λ (p : Part). gives (coded no_value (updated_by p (part ms c.in-Known-asked.value) (Bit ∷ c.match-f.second ∷ [])))) (part_later one.grows c.args.x.code c.requires.x.code)
    ∙ ap (λ (is : List Instr). gives (coded no_value (updated_by (part ns c.args.x.code) (part ms c.in-Known-asked.value) is))) changes)))
    (λ made in_hand told. let k = context_of (g.S.Scopes.state c.set_member.new.scopes).frame made c.args.self.now.site.now in
    ap (λ (t : Place). gives (update (coded_in ns c.args.x) (fitted_code k t (coded_in ns c.in-Known.value)) (member_instrs c.args.f)))
    (c.in-Known-set_base.ensures.told made in_hand told ∙ ap (λ (t : Place). set_base k t) c.operand_type.ensures)))
    (λ k. ap (λ (b : Bool). gives (if b then in_error else update (coded_in ns c.args.x) (fitted_code k (set_base k (operand_type c.args.x.operand)) (coded_in ns c.in-Known.value)) (member_instrs c.args.f))) (sym c.if-either_bad.false ∙ c.either_bad.ensures)))
