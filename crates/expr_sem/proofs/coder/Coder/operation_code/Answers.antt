use Rattle.std.proofs.Common.{◌∙◌, ◌∷◌, [], ap, subst, sym}
use Rattle.m2_base.specs.Gives.{gives}
use Rattle.m2_base.specs.States.{Frame}
use Rattle.m2_base.specs.Statics.Operands.{operand_type}
use Rattle.m2_base.specs.declared.rows.Place.{Place}
use Rattle.code_form.specs.declared.instr.Instr.{Instr}
use Rattle.type_rules.specs.Scenes.{IsThere}
use Rattle.type_rules.specs.Sites.{context_of}
use Rattle.const_eval.proofs.TypesThere.{type_there}
use Rattle.block_code.specs.Coded.{value_code, with_char}
use Rattle.expr_sem.specs.Codings.{coded_in}
use Rattle.expr_sem.specs.Fragments.{part}
use Rattle.block_code.specs.Operators.{operation_code, two_instr}
use Rattle.block_code.specs.Parts.{plain, ◌⨟◌}
use Rattle.expr_sem.proofs.Following.{after_values, by_coding, followed_by, holds, still_coded, still_in, still_suits, then_unknown, then_waits, then_wanted}
use Rattle.expr_sem.proofs.Making.{made_alone, made_told}
use Rattle.expr_sem.proofs.Operating.{coded_later, described, unknown, unmade}
use Rattle.expr_sem.proofs.Quiet.{no_notes}
use Rattle.expr_sem.proofs.Without.{instructed_by}
use Rattle.expr_sem.proofs.coder.Coder.operation_code.Goals as goal

pub returns-in-DontKnowYet-clause-codes : goal.returns-in-DontKnowYet-clause-codes
returns-in-DontKnowYet-clause-codes g c = let notes = c.args.self.now.notes.now in unknown (rw c.in-DontKnowYet.is at c.in-Ok.ensures notes)

pub returns-in-Err-clause-codes : goal.returns-in-Err-clause-codes
returns-in-Err-clause-codes g c = let notes = c.args.self.now.notes.now in unmade (c.in-Err.ensures notes) _

pub char_value-requires-2-clause-suits : goal.char_value-requires-2-clause-suits
char_value-requires-2-clause-suits g c = still_suits (by_coding (c.in-Ok.ensures (no_notes c.args.self.now.fragments.now))) c.requires.suits

pub char_value-requires-2-clause-x : goal.char_value-requires-2-clause-x
char_value-requires-2-clause-x g c = still_coded (by_coding (c.in-Ok.ensures (no_notes c.args.self.now.fragments.now))) c.args.y c.requires.y

pub returns-in-DontKnowYet-asked-clause-codes : goal.returns-in-DontKnowYet-asked-clause-codes
returns-in-DontKnowYet-asked-clause-codes g c = let notes = c.args.self.now.notes.now in then_unknown (by_coding (c.in-Ok.ensures notes)) (rw c.in-DontKnowYet-asked.is at c.in-Ok-char_value.ensures notes)

pub returns-in-Err-char_value-clause-codes : goal.returns-in-Err-char_value-clause-codes
returns-in-Err-char_value-clause-codes g c = let notes = c.args.self.now.notes.now in then_wanted (by_coding (c.in-Ok.ensures notes)) (c.in-Err-char_value.ensures notes) _

pub decide-requires-clause-x : goal.decide-requires-clause-x
decide-requires-clause-x g c =
    still_in (by_coding (c.in-Ok-char_value.ensures (no_notes c.args.self.now.fragments.now))) c.in-Known.value (rw c.in-Known.is at c.in-Ok.ensures (no_notes c.args.self.now.fragments.now)).there

pub decide-requires-clause-y : goal.decide-requires-clause-y
decide-requires-clause-y g c = (rw c.in-Known-asked.is at c.in-Ok-char_value.ensures (no_notes c.args.self.now.fragments.now)).there

pub decide-requires-in-Or-clause-x : goal.decide-requires-in-Or-clause-x
decide-requires-in-Or-clause-x g c =
    still_in (by_coding (c.in-Ok-char_value.ensures (no_notes c.args.self.now.fragments.now))) c.in-Known.value (rw c.in-Known.is at c.in-Ok.ensures (no_notes c.args.self.now.fragments.now)).there

pub decide-requires-in-Or-clause-y : goal.decide-requires-in-Or-clause-y
decide-requires-in-Or-clause-y g c = (rw c.in-Known-asked.is at c.in-Ok-char_value.ensures (no_notes c.args.self.now.fragments.now)).there

pub instruction-requires-clause-suits : goal.instruction-requires-clause-suits
instruction-requires-clause-suits g c =
    let n = no_notes c.args.self.now.fragments.now in
    still_suits (followed_by (by_coding (c.in-Ok.ensures n)) (by_coding (c.in-Ok-char_value.ensures n))) c.requires.suits

pub instruction-requires-clause-of : goal.instruction-requires-clause-of
instruction-requires-clause-of g c =
    let n = no_notes c.args.self.now.fragments.now in
    holds (followed_by (by_coding (c.in-Ok.ensures n)) (by_coding (c.in-Ok-char_value.ensures n))) (λ (f : Frame). IsThere f c.args.of) c.requires.of

pub instruction-requires-clause-right : goal.instruction-requires-clause-right
instruction-requires-clause-right g c =
    let n = no_notes c.args.self.now.fragments.now in
    holds (followed_by (by_coding (c.in-Ok.ensures n)) (by_coding (c.in-Ok-char_value.ensures n))) (λ (f : Frame). IsThere f c.operand_type.result)
    (subst (λ (t : Place). IsThere (g.S.Scopes.state c.args.self.now.scopes.now).frame t) (sym c.operand_type.ensures) (type_there c.requires.suits.around c.args.y.operand c.requires.y.operand))

pub returns-in-DontKnowYet-instruction-clause-codes : goal.returns-in-DontKnowYet-instruction-clause-codes
returns-in-DontKnowYet-instruction-clause-codes g c =
    let notes = c.args.self.now.notes.now in
    then_waits (followed_by (by_coding (c.in-Ok.ensures notes)) (by_coding (c.in-Ok-char_value.ensures notes))) c.instruction.ensures.reads c.in-DontKnowYet-instruction.ensures.waits

pub applied-requires-clause-x : goal.applied-requires-clause-x
applied-requires-clause-x g c =
    still_in (by_coding (c.in-Ok-char_value.ensures (no_notes c.args.self.now.fragments.now))) c.in-Known.value (rw c.in-Known.is at c.in-Ok.ensures (no_notes c.args.self.now.fragments.now)).there

pub applied-requires-clause-y : goal.applied-requires-clause-y
applied-requires-clause-y g c = (rw c.in-Known-asked.is at c.in-Ok-char_value.ensures (no_notes c.args.self.now.fragments.now)).there

pub returns-in-And-clause-codes : goal.returns-in-And-clause-codes
returns-in-And-clause-codes g c =
    let notes = c.args.self.now.notes.now in
    let ns = c.args.self.now.fragments.now.nodes.items in
    let ls = c.char_value-2.new.fragments.nodes.items in
    let t = operand_type c.args.y.operand in
    let left = c.in-Known.value in
    let right = c.in-Known-asked.value in
    let first = rw c.in-Known.is at c.in-Ok.ensures notes in
    let second = rw c.in-Known-asked.is at c.in-Ok-char_value.ensures notes in
    after_values (λ k. value_code k (with_char k (coded_in ns c.args.x))) (λ k. value_code k (with_char k (coded_in ns c.args.y))) (λ p q k. operation_code k.scene c.args.op c.args.of t p q) c.answered.result first
    (described _ second (λ k. ap (λ u. gives (value_code k (with_char k u))) (coded_later first.grows c.args.y c.requires.y)))
    (made_alone notes c.decide.result c.answered.result (λ k. operation_code k.scene c.args.op c.args.of t (part ls left) (part ls right)) c.answered.ensures c.decide.ensures
    (λ rows. ap (λ o. operation_code (context_of (g.S.Scopes.state c.char_value-2.new.scopes).frame rows c.args.self.now.site.now).scene o c.args.of t (part ls left) (part ls right)) (sym c.in-And.is)))

pub returns-in-Or-clause-codes : goal.returns-in-Or-clause-codes
returns-in-Or-clause-codes g c =
    let notes = c.args.self.now.notes.now in
    let ns = c.args.self.now.fragments.now.nodes.items in
    let ls = c.char_value-2.new.fragments.nodes.items in
    let t = operand_type c.args.y.operand in
    let left = c.in-Known.value in
    let right = c.in-Known-asked.value in
    let first = rw c.in-Known.is at c.in-Ok.ensures notes in
    let second = rw c.in-Known-asked.is at c.in-Ok-char_value.ensures notes in
    after_values (λ k. value_code k (with_char k (coded_in ns c.args.x))) (λ k. value_code k (with_char k (coded_in ns c.args.y))) (λ p q k. operation_code k.scene c.args.op c.args.of t p q) c.answered-in-Or.result first
    (described _ second (λ k. ap (λ u. gives (value_code k (with_char k u))) (coded_later first.grows c.args.y c.requires.y)))
    (made_alone notes c.decide-in-Or.result c.answered-in-Or.result (λ k. operation_code k.scene c.args.op c.args.of t (part ls left) (part ls right)) c.answered-in-Or.ensures c.decide-in-Or.ensures
    (λ rows. ap (λ o. operation_code (context_of (g.S.Scopes.state c.char_value-2.new.scopes).frame rows c.args.self.now.site.now).scene o c.args.of t (part ls left) (part ls right)) (sym c.in-Or.is)))

pub returns-in-Known-instruction-clause-codes : goal.returns-in-Known-instruction-clause-codes
returns-in-Known-instruction-clause-codes g c =
    let notes = c.args.self.now.notes.now in
    let ns = c.args.self.now.fragments.now.nodes.items in
    let ls = c.char_value-2.new.fragments.nodes.items in
    let t = operand_type c.args.y.operand in
    let left = c.in-Known.value in
    let right = c.in-Known-asked.value in
    let first = rw c.in-Known.is at c.in-Ok.ensures notes in
    let second = rw c.in-Known-asked.is at c.in-Ok-char_value.ensures notes in
    after_values (λ k. value_code k (with_char k (coded_in ns c.args.x))) (λ k. value_code k (with_char k (coded_in ns c.args.y))) (λ p q k. operation_code k.scene c.args.op c.args.of t p q) c.answered-in_default.result first
    (described _ second (λ k. ap (λ u. gives (value_code k (with_char k u))) (coded_later first.grows c.args.y c.requires.y)))
    (made_told notes c.applied.result c.answered-in_default.result (λ k. operation_code k.scene c.args.op c.args.of t (part ls left) (part ls right)) c.answered-in_default.ensures c.instruction.ensures.reads c.applied.ensures
    (λ made in_hand told. let scene = (context_of (g.S.Scopes.state c.char_value-2.new.scopes).frame made c.args.self.now.site.now).scene in
    ap (λ (i : Instr). part ls left ⨟ part ls right ⨟ plain (i ∷ [])) (c.in-Known-instruction.ensures.told made in_hand told ∙ ap (λ (u : Place). two_instr scene c.args.op c.args.of u) c.operand_type.ensures)
    ∙ instructed_by scene c.args.op c.args.of t (part ls left) (part ls right) c.in_default.not-And c.in_default.not-Or))
