use Rattle.std.proofs.Common.{◌≡◌, ◌∙◌, ◌∷◌, [], ap, of_z, refl, rules, sym, to_z, w64}
use Rattle.m2_base.specs.Gives.{gives}
use Rattle.m2_base.specs.declared.rows.RowMeaning.{RowMeaning}
use Rattle.code_form.specs.declared.instr.Instr.TheVariants.{Push}
use Rattle.expr_sem.specs.Codings.{coded_in, high_in}
use Rattle.block_code.specs.Parts.{plain}
use Rattle.block_code.specs.StandardFunctions.{high_code, high_of_range}
use Rattle.expr_sem.specs.ValueFunctions.{pushed_high}
use Rattle.expr_sem.proofs.Highs.{index_there, not_fixed}
use Rattle.expr_sem.proofs.Making.{made_alone, made_told, question_waits}
use Rattle.expr_sem.proofs.Operating.{described}
use Rattle.expr_sem.proofs.standard_functions.high_code.Goals as goal

pub range_of-requires-clause-there : goal.range_of-requires-clause-there
range_of-requires-clause-there g c = index_there c.args.kind c.in-Array.index _ _ c.in-Array.is c.requires.kind

pub returns-in-DontKnowYet : goal.returns-in-DontKnowYet
returns-in-DontKnowYet g c notes = question_waits notes _ c.range_of.ensures.reads c.in-DontKnowYet.ensures.waits

pub returns-in-Known : goal.returns-in-Known
returns-in-Known g c notes =
    let same : to_z w64 (of_z w64 c.high_of_range.result) ≡ c.high_of_range.result = search rules in
    described c.answered.result
    (made_told notes c.one.result c.answered.result (λ k. pushed_high k.scene c.in-Array.index) c.answered.ensures c.in-Known.ensures.reads c.one.ensures.made
    (λ made in_hand told. ap (λ height. plain (Push height ∷ [])) (same ∙ c.high_of_range.ensures) ∙ ap (λ ends. plain (Push (high_of_range ends) ∷ [])) (c.in-Known.ensures.told made in_hand told)))
    (λ k. ap (λ (m : RowMeaning). gives (high_code k.scene (coded_in c.args.fragments.now.nodes.items c.args.x) m)) (sym c.in-Array.is))

pub returns-in_default : goal.returns-in_default
returns-in_default g c notes =
    let ns = c.args.fragments.now.nodes.items in
    described c.answered-in_default.result (made_alone notes c.high_or_none.result c.answered-in_default.result (λ k. high_in ns c.args.x.high) c.answered-in_default.ensures c.high_or_none.ensures (λ rows. refl))
    (λ k. not_fixed k.scene (coded_in ns c.args.x) c.args.kind c.in_default.not-Array)
