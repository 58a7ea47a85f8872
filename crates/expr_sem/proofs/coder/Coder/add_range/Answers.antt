use Rattle.std.proofs.Common.{◌∙◌, ◌∷◌, [], Ok, ap, refl}
use Rattle.code_form.specs.declared.instr.Instr.TheVariants.{Span, Union}
use Rattle.m2_base.specs.States.{Frame}
use Rattle.m2_base.specs.Statics.Sets.{with_elements}
use Rattle.const_eval.specs.Sites.{IsOperand}
use Rattle.m2_base.specs.declared.operands.Operand.{Operand}
use Rattle.m2_base.specs.declared.replies.Ask.TheVariants.{Known}
use Rattle.block_code.specs.Coded.{Coded, value_code}
use Rattle.expr_sem.specs.Codings.{coded_in}
use Rattle.expr_sem.specs.Fragments.{part}
use Rattle.block_code.specs.Parts.{Part, plain, ◌⨟◌}
use Rattle.expr_sem.specs.SetCodings.{AreElements, elements_in}
use Rattle.block_code.specs.SetElements.{Elements}
use Rattle.m2_base.specs.Gives.{gives}
use Rattle.expr_sem.specs.declared.set_elements.Elements.{Elements as Made}
use Rattle.expr_sem.proofs.Following.{after_values, by_coding, followed_by, then_full, then_unknown, then_wanted}
use Rattle.expr_sem.proofs.Onwards.{coded_after, holds_after, in_after, suits_after}
use Rattle.expr_sem.proofs.Operating.{coded_later, described, unknown, unmade, value_grown}
use Rattle.expr_sem.proofs.Quiet.{no_notes}
use Rattle.expr_sem.proofs.Sequencing.{Grows-trans, behind, made_after, part_later}
use Rattle.expr_sem.proofs.coder.Coder.add_range.Goals as goal

pub returns-in-DontKnowYet-clause-codes : goal.returns-in-DontKnowYet-clause-codes
returns-in-DontKnowYet-clause-codes g c = let notes = c.args.self.now.notes.now in unknown (rw c.in-DontKnowYet.is at c.in-Ok.ensures notes)

pub returns-in-Err-clause-codes : goal.returns-in-Err-clause-codes
returns-in-Err-clause-codes g c = let notes = c.args.self.now.notes.now in unmade (c.in-Err.ensures notes) _

pub value_code-requires-2-clause-suits : goal.value_code-requires-2-clause-suits
value_code-requires-2-clause-suits g c = suits_after (rw c.in-Known.is at c.in-Ok.ensures (no_notes c.args.self.now.fragments.now)) c.requires.suits

pub value_code-requires-2-clause-x : goal.value_code-requires-2-clause-x
value_code-requires-2-clause-x g c = coded_after (rw c.in-Known.is at c.in-Ok.ensures (no_notes c.args.self.now.fragments.now)) c.args.y c.requires.y

pub returns-in-DontKnowYet-asked-clause-codes : goal.returns-in-DontKnowYet-asked-clause-codes
returns-in-DontKnowYet-asked-clause-codes g c =
    let notes = c.args.self.now.notes.now in
    then_unknown (by_coding (c.in-Ok.ensures notes)) (rw c.in-DontKnowYet-asked.is at c.in-Ok-value_code.ensures notes)

pub returns-in-Err-value_code-clause-codes : goal.returns-in-Err-value_code-clause-codes
returns-in-Err-value_code-clause-codes g c =
    let notes = c.args.self.now.notes.now in
    then_wanted (by_coding (c.in-Ok.ensures notes)) (c.in-Err-value_code.ensures notes) _

pub joined-requires-clause-x : goal.joined-requires-clause-x
joined-requires-clause-x g c =
    let notes = no_notes c.args.self.now.fragments.now in
    in_after (rw c.in-Known-asked.is at c.in-Ok-value_code.ensures notes) c.in-Known.value (rw c.in-Known.is at c.in-Ok.ensures notes).there

pub joined-requires-clause-y : goal.joined-requires-clause-y
joined-requires-clause-y g c = (rw c.in-Known-asked.is at c.in-Ok-value_code.ensures (no_notes c.args.self.now.fragments.now)).there

pub returns-in_err-span-clause-codes : goal.returns-in_err-span-clause-codes
returns-in_err-span-clause-codes g c =
    let notes = c.args.self.now.notes.now in
    then_full c.from_residual.result c.from_residual.ensures.0 (followed_by (by_coding (c.in-Ok.ensures notes)) (by_coding (c.in-Ok-value_code.ensures notes))) c.in_err-span.ensures

pub returns-in_err-code-clause-codes : goal.returns-in_err-code-clause-codes
returns-in_err-code-clause-codes g c =
    let notes = c.args.self.now.notes.now in
    then_full c.from_residual-in_err-code.result c.from_residual-in_err-code.ensures.0 (followed_by (by_coding (c.in-Ok.ensures notes)) (by_coding (c.in-Ok-value_code.ensures notes)))
    (made_after _ c.in_ok-span.ensures.grows c.in_err-code.ensures.made refl)

abbrev made_by : Operand → Part → Elements
made_by o p = record { set = o; code = p }

pub returns-clause-codes : goal.returns-clause-codes
returns-clause-codes g c =
    let notes = c.args.self.now.notes.now in
    let f = (g.S.Scopes.state c.args.self.now.scopes.now).frame in
    let ns = c.args.self.now.fragments.now.nodes.items in
    let last = c.value_code-2.new.fragments.nodes.items in
    let low = c.in-Known.value in
    let high = c.in-Known-asked.value in
    let set = with_elements c.args.es.set c.args.x.operand c.args.y.operand in
    let one = rw c.in-Known.is at c.in-Ok.ensures notes in
    let two = rw c.in-Known-asked.is at c.in-Ok-value_code.ensures notes in
    let code = in_after two c.args.es.code (in_after one c.args.es.code c.requires.es.code) in
    let made = behind (Ok c.in_ok-code.code) c.args.es.code code c.in_ok-span.ensures c.in_ok-code.ensures.made in
    let result : Made = record { set = c.with_elements-set.result; code = c.in_ok-code.code } in
    let whole = λ (p q : Part). made_by set (part ns c.args.es.code ⨟ p ⨟ q ⨟ plain (Span ∷ Union ∷ [])) in
    after_values (λ k. value_code k (coded_in ns c.args.x)) (λ k. value_code k (coded_in ns c.args.y)) (λ p q k. whole p q) (Ok (Known result)) one
    (described (Ok (Known high)) two (λ k. ap (λ (x : Coded). gives (value_code k x)) (coded_later one.grows c.args.y c.requires.y)))
    (value_grown (g.S.Scopes.state c.value_code-2.new.scopes) notes c.args.self.now.site.now result AreElements elements_in (λ k. whole (part last low) (part last high)) made.grows
    (record { set = c.with_elements-set.ensures.there _ (holds_after two (λ (f : Frame). IsOperand f c.args.es.set) (holds_after one (λ (f : Frame). IsOperand f c.args.es.set) c.requires.es.set)); code = made.made.there })
    (λ k. ap (λ (o : Operand). made_by o (part c.then.new.self.nodes.items c.in_ok-code.code)) c.with_elements-set.ensures.told
    ∙ ap (made_by set) (made.made.part_is ∙ ap (λ (p : Part). p ⨟ part last low ⨟ part last high ⨟ plain (Span ∷ Union ∷ [])) (part_later (Grows-trans one.grows two.grows) c.args.es.code c.requires.es.code))))
