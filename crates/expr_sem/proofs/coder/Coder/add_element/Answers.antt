use Rattle.std.proofs.Common.{◌∙◌, ◌∷◌, [], ap}
use Rattle.code_form.specs.declared.instr.Instr.TheVariants.{Bit, Union}
use Rattle.m2_base.specs.Statics.Sets.{with_elements}
use Rattle.m2_base.specs.declared.operands.Operand.{Operand}
use Rattle.expr_sem.specs.Fragments.{part}
use Rattle.block_code.specs.Parts.{Part, plain, ◌⨟◌}
use Rattle.block_code.specs.SetElements.{Elements}
use Rattle.expr_sem.proofs.Onwards.{in_after, with_grown, with_wanted}
use Rattle.expr_sem.proofs.Operating.{unknown, unmade}
use Rattle.expr_sem.proofs.Quiet.{no_notes}
use Rattle.expr_sem.proofs.Sequencing.{part_later}
use Rattle.expr_sem.proofs.coder.Coder.add_element.Goals as goal

pub returns-in-DontKnowYet-clause-codes : goal.returns-in-DontKnowYet-clause-codes
returns-in-DontKnowYet-clause-codes g c = let notes = c.args.self.now.notes.now in unknown (rw c.in-DontKnowYet.is at c.in-Ok.ensures notes)

pub returns-in-Err-clause-codes : goal.returns-in-Err-clause-codes
returns-in-Err-clause-codes g c = let notes = c.args.self.now.notes.now in unmade (c.in-Err.ensures notes) _

pub joined-requires-clause-x : goal.joined-requires-clause-x
joined-requires-clause-x g c = in_after (rw c.in-Known.is at c.in-Ok.ensures (no_notes c.args.self.now.fragments.now)) c.args.es.code c.requires.es.code

pub joined-requires-clause-y : goal.joined-requires-clause-y
joined-requires-clause-y g c = (rw c.in-Known.is at c.in-Ok.ensures (no_notes c.args.self.now.fragments.now)).there

pub returns-in_err-code-clause-codes : goal.returns-in_err-code-clause-codes
returns-in_err-code-clause-codes g c = let notes = c.args.self.now.notes.now in with_wanted c.from_residual.result c.from_residual.ensures.0 (rw c.in-Known.is at c.in-Ok.ensures notes) c.in_err-code.ensures

abbrev made_by : Operand → Part → Elements
made_by o p = record { set = o; code = p }

pub returns-clause-codes : goal.returns-clause-codes
returns-clause-codes g c =
    let ns = c.args.self.now.fragments.now.nodes.items in
    let ms = c.value_code.new.fragments.nodes.items in
    let set = with_elements c.args.es.set c.args.x.operand c.args.x.operand in
    let notes = c.args.self.now.notes.now in
    let one = rw c.in-Known.is at c.in-Ok.ensures notes in
    let made = c.in_ok-code.ensures in
    with_grown (λ p k. made_by set (part ns c.args.es.code ⨟ p ⨟ plain (Bit ∷ Union ∷ []))) (record { set = c.with_elements-set.result; code = c.in_ok-code.code }) one made.grows
    (record { set = c.with_elements-set.ensures.there (g.S.Scopes.state c.args.self.now.scopes.now).frame c.requires.es.set; code = made.made.there })
    (λ k. ap (λ (o : Operand). made_by o (part c.joined.new.fragments.nodes.items c.in_ok-code.code)) c.with_elements-set.ensures.told
    ∙ ap (made_by set) (made.made.part_is ∙ ap (λ (p : Part). p ⨟ part ms c.in-Known.value ⨟ plain (Bit ∷ Union ∷ [])) (part_later one.grows c.args.es.code c.requires.es.code)))
