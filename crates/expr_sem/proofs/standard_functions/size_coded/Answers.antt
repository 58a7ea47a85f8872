use Rattle.std.proofs.Common.{◌≡◌, ◌∙◌, ◌∷◌, [], Ok, ap, arith, sym, subst, to_z, w64, ℕ}
use Rattle.std.proofs.lemmas.Int.{ints}
use Rattle.std.specs.Prelude.{pos}
use Rattle.m2_base.specs.Gives.{gives}
use Rattle.m2_base.specs.States.{Frame}
use Rattle.m2_base.specs.declared.replies.Ask.TheVariants.{Known}
use Rattle.m2_base.specs.declared.rows.Place.{Place}
use Rattle.code_form.specs.declared.instr.Instr.TheVariants.{Push}
use Rattle.const_eval.specs.Calls.{of_type}
use Rattle.const_eval.specs.Sites.{IsOperand}
use Rattle.const_eval.specs.declared.calls.TypeFunction.TheVariants.{Size}
use Rattle.const_eval.proofs.TypesThere.{type_there}
use Rattle.type_rules.specs.Scenes.{IsThere}
use Rattle.type_rules.specs.Sites.{context_of}
use Rattle.expr_sem.specs.Codings.{coded_in}
use Rattle.block_code.specs.Operators.{made}
use Rattle.block_code.specs.Parts.{plain}
use Rattle.block_code.specs.StandardFunctions.{size_code}
use Rattle.expr_sem.specs.ValueFunctions.{pushed_size}
use Rattle.expr_sem.proofs.Following.{by_coding, by_question, followed_by, then_full, then_waits}
use Rattle.expr_sem.proofs.Making.{fragment_told}
use Rattle.expr_sem.proofs.Onwards.{holds_after, suits_after, with_grown}
use Rattle.expr_sem.proofs.Operating.{coding_after, of_analysed, unknown, unmade}
use Rattle.expr_sem.proofs.Sequencing.{Grows-refl}
use Rattle.expr_sem.proofs.standard_functions.size_coded.Goals as goal

pub returns-in-DontKnowYet : goal.returns-in-DontKnowYet
returns-in-DontKnowYet g c = unknown (of_analysed _ _ (rw c.in-DontKnowYet.is at c.in-Ok.ensures))

pub returns-in-Err : goal.returns-in-Err
returns-in-Err g c = unmade (of_analysed _ _ c.in-Err.ensures) _

pub size_of-requires-clause-suits : goal.size_of-requires-clause-suits
size_of-requires-clause-suits g c = (suits_after (of_analysed c.args.fragments.now.nodes.items _ c.in-Ok.ensures) c.requires.suits).around

pub size_of-requires-clause-there : goal.size_of-requires-clause-there
size_of-requires-clause-there g c =
    holds_after (of_analysed c.args.fragments.now.nodes.items _ c.in-Ok.ensures) (λ (f : Frame). IsThere f c.operand_type.result)
    (subst (λ (t : Place). IsThere (g.S.Scopes.state c.args.scopes.now).frame t) (sym c.operand_type.ensures) (type_there c.requires.suits.around c.args.x.coded.operand c.requires.x.operand))

pub returns-in-DontKnowYet-size_of : goal.returns-in-DontKnowYet-size_of
returns-in-DontKnowYet-size_of g c =
    then_waits (by_coding (of_analysed c.args.fragments.now.nodes.items _ c.in-Ok.ensures)) c.size_of.ensures.reads c.in-DontKnowYet-size_of.ensures.waits

pub returns-in_err-code : goal.returns-in_err-code
returns-in_err-code g c =
    let ns = c.args.fragments.now.nodes.items in
    then_full c.from_residual.result c.from_residual.ensures.0 (followed_by (by_coding (of_analysed ns _ c.in-Ok.ensures)) (by_question c.of_type_noted.new.notes ns c.in-Known-size_of.ensures.reads)) c.in_err-code.ensures.made

pub returns : goal.returns
returns g c =
    let ns = c.args.fragments.now.nodes.items in
    let ms = c.one.new.self.nodes.items in
    let r = c.in-Known.value in
    let analysed = rw c.in-Known.is at c.in-Ok.ensures in
    let first = of_analysed ns _ analysed in
    let same : to_z w64 c.in-Known-size_of.value ≡ pos c.in-Known-size_of.value = omega (arith, ints, c.in-Known-size_of.ensures.small) in
    coding_after (λ k. of_type k Size c.args.x.at c.args.x.coded.operand) (λ r k. gives (made r (size_code k (coded_in ns c.args.x.coded)))) (Ok (Known c.made.result)) first
    (with_grown (λ p k. made r p) c.made.result
    (fragment_told c.of_type_noted.new.notes c.in_ok-code.code (λ k. size_code k (coded_in ns c.args.x.coded)) c.in-Known-size_of.ensures.reads c.in_ok-code.ensures.made
    (λ rows in_hand told. ap (λ size. plain (Push size ∷ [])) same ∙ ap (λ (n : ℕ). plain (Push (pos n) ∷ [])) (c.in-Known-size_of.ensures.told rows in_hand told)
    ∙ ap (λ (t : Place). pushed_size (context_of (g.S.Scopes.state c.of_type_noted.new.scopes).frame rows c.args.site.now).scene t) c.operand_type.ensures))
    (Grows-refl ms) (c.made.ensures.there _ ms (holds_after first (λ (f : Frame). IsOperand f r) analysed.there) c.in_ok-code.ensures.made.made.there) (λ k. c.made.ensures.told ms))
