use Rattle.std.proofs.Common.{◌∙◌, List, Option, ap, sym, subst}
use Rattle.m2_base.specs.Gives.{gives}
use Rattle.m2_base.specs.States.{Frame}
use Rattle.m2_base.specs.Statics.Operands.{operand_type}
use Rattle.m2_base.specs.declared.rows.Place.{Place}
use Rattle.code_form.specs.declared.instr.Instr.{Instr}
use Rattle.const_eval.proofs.TypesThere.{standard_there, type_there}
use Rattle.type_rules.specs.Scenes.{IsThere}
use Rattle.type_rules.specs.Sites.{context_of}
use Rattle.block_code.specs.Coded.{value_code}
use Rattle.expr_sem.specs.Codings.{coded_in}
use Rattle.expr_sem.specs.Fragments.{part}
use Rattle.block_code.specs.Parts.{plain, ◌⨟◌}
use Rattle.expr_sem.specs.ValueFunctions.{code_to, ending}
use Rattle.expr_sem.proofs.Following.{by_coding, then_waits}
use Rattle.expr_sem.proofs.Making.{made_told}
use Rattle.expr_sem.proofs.Onwards.{holds_after, suits_after}
use Rattle.expr_sem.proofs.Operating.{coding_after, described, unknown, unmade}
use Rattle.expr_sem.proofs.Quiet.{no_notes}
use Rattle.expr_sem.proofs.value_functions.rule_code.Goals as goal

pub fitted_code-requires-clause-to : goal.fitted_code-requires-clause-to
fitted_code-requires-clause-to g c =
    c.in-Some.ensures.there (g.S.Scopes.state c.args.scopes.now).frame (standard_there c.requires.suits.around 2) (standard_there c.requires.suits.around 1) (standard_there c.requires.suits.around 10) c.requires.rule

pub returns-in-Some : goal.returns-in-Some
returns-in-Some g c notes =
    described c.fitted_code.result (c.fitted_code.ensures notes)
    (λ k. ap (λ (o : Option Place). gives (code_to k c.args.rule (coded_in c.args.fragments.now.nodes.items c.args.v) o)) (sym c.in-Some.is ∙ c.target_of.ensures.told))

pub returns-in-DontKnowYet : goal.returns-in-DontKnowYet
returns-in-DontKnowYet g c notes = unknown (rw c.in-DontKnowYet.is at c.in-Ok.ensures notes)

pub returns-in-Err : goal.returns-in-Err
returns-in-Err g c notes = unmade (c.in-Err.ensures notes) _

pub ending_of-requires-clause-suits : goal.ending_of-requires-clause-suits
ending_of-requires-clause-suits g c = suits_after (c.value_code.ensures (no_notes c.args.fragments.now)) c.requires.suits

pub ending_of-requires-clause-of : goal.ending_of-requires-clause-of
ending_of-requires-clause-of g c =
    holds_after (c.value_code.ensures (no_notes c.args.fragments.now)) (λ (f : Frame). IsThere f c.operand_type-of.result)
    (subst (λ (t : Place). IsThere (g.S.Scopes.state c.args.scopes.now).frame t) (sym c.operand_type-of.ensures) (type_there c.requires.suits.around c.args.v.operand c.requires.v.operand))

pub returns-in-DontKnowYet-ending_of : goal.returns-in-DontKnowYet-ending_of
returns-in-DontKnowYet-ending_of g c notes =
    then_waits (by_coding (c.value_code.ensures notes)) c.ending_of.ensures.reads c.in-DontKnowYet-ending_of.ensures.waits

pub with_ending-requires : goal.with_ending-requires
with_ending-requires g c = record { value = (rw c.in-Known.is at c.in-Ok.ensures (no_notes c.args.fragments.now)).there }

pub returns-in-Known-ending_of : goal.returns-in-Known-ending_of
returns-in-Known-ending_of g c notes =
    let ns = c.args.fragments.now.nodes.items in
    let p = part c.value_code.new.fragments.nodes.items c.in-Known.value in
    described c.answered.result
    (coding_after (λ k. gives (value_code k (coded_in ns c.args.v))) (λ p k. gives (p ⨟ plain (ending k.scene (operand_type c.args.v.operand) c.args.rule))) c.answered.result (rw c.in-Known.is at c.in-Ok.ensures notes)
    (made_told notes c.with_ending.result c.answered.result (λ k. p ⨟ plain (ending k.scene (operand_type c.args.v.operand) c.args.rule)) c.answered.ensures c.in-Known-ending_of.ensures.reads c.with_ending.ensures
    (λ made in_hand told. ap (λ (is : List Instr). p ⨟ plain is) (c.in-Known-ending_of.ensures.told made in_hand told)
    ∙ ap (λ (t : Place). p ⨟ plain (ending (context_of (g.S.Scopes.state c.value_code.new.scopes).frame made c.args.site.now).scene t c.args.rule)) c.operand_type-of.ensures)))
    (λ k. ap (λ (o : Option Place). gives (code_to k c.args.rule (coded_in ns c.args.v) o)) (sym c.in-None.is ∙ c.target_of.ensures.told))
