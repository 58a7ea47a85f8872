use Rattle.std.proofs.Common.{◌≡◌, ◌∙◌, Option, ap, sym}
use Rattle.std.specs.Prelude.{option_map}
use Rattle.m2_base.specs.Statics.Ranges.{Range, range}
use Rattle.m2_base.specs.Statics.Types.{range_of}
use Rattle.type_rules.proofs.Compatibles.{told_later}
use Rattle.type_rules.proofs.Later.{IsThere_read, Suits_read}
use Rattle.type_rules.proofs.Reading.{Reads-trans, Waits_read}
use Rattle.type_rules.specs.Scenes.{scene_of}
use Rattle.block_code.specs.Fitting.{check_of, fit_check as spec_fit_check}
use Rattle.block_code.specs.Parts.{plain}
use Rattle.expr_sem.specs.RangeChecks.{instrs_if}
use Rattle.expr_sem.specs.declared.fragments.Fragment.TheVariants.{Nothing}
use Rattle.expr_sem.proofs.Making.{made_told, question_waits, there_told}
use Rattle.expr_sem.proofs.fitting.fit_check.Goals as goal

pub returns-in-DontKnowYet : goal.returns-in-DontKnowYet
returns-in-DontKnowYet g c n = question_waits n _ c.in-DontKnowYet.ensures.reads c.in-DontKnowYet.ensures.waits

pub range_of-requires-2-clause-suits : goal.range_of-requires-2-clause-suits
range_of-requires-2-clause-suits g c = Suits_read c.in-Known.ensures.reads c.requires.suits.around

pub range_of-requires-2-clause-there : goal.range_of-requires-2-clause-there
range_of-requires-2-clause-there g c = IsThere_read c.in-Known.ensures.reads c.requires.to

pub returns-in-DontKnowYet-range_of : goal.returns-in-DontKnowYet-range_of
returns-in-DontKnowYet-range_of g c n =
    question_waits n _ (Reads-trans c.in-Known.ensures.reads c.in-DontKnowYet-range_of.ensures.reads) (Waits_read c.in-Known.ensures.reads c.in-DontKnowYet-range_of.ensures.waits)

pub returns-in-Some : goal.returns-in-Some
returns-in-Some g c n =
    let f = (g.S.Scopes.state c.args.scopes.now).frame in
    let a = c.args.site.now.around.now in
    let first = c.in-Known.ensures.told in
    let second = told_later f _ (λ e made. option_map (λ ends. range ends.0 ends.1) c.in-Known-range_of.value ≡ range_of (scene_of e made a) c.args.to) c.in-Known.ensures.reads.keeps.frame c.in-Known-range_of.ensures.told in
    made_told n c.one.result c.answered.result (λ k. spec_fit_check k.scene c.args.from c.args.to) c.answered.ensures
    (Reads-trans c.in-Known.ensures.reads c.in-Known-range_of.ensures.reads) c.one.ensures.made
    (λ made in_hand told. ap plain (ap instrs_if (sym c.in-Some.is) ∙ c.range_check.ensures
    ∙ ap (λ (r : Option Range). check_of r (option_map (λ ends. range ends.0 ends.1) c.in-Known-range_of.value)) (first made in_hand told)
    ∙ ap (λ (r : Option Range). check_of (range_of (scene_of f made a) c.args.from) r) (second made in_hand told)))

pub returns-in-None : goal.returns-in-None
returns-in-None g c n =
    let f = (g.S.Scopes.state c.args.scopes.now).frame in
    let a = c.args.site.now.around.now in
    let first = c.in-Known.ensures.told in
    let second = told_later f _ (λ e made. option_map (λ ends. range ends.0 ends.1) c.in-Known-range_of.value ≡ range_of (scene_of e made a) c.args.to) c.in-Known.ensures.reads.keeps.frame c.in-Known-range_of.ensures.told in
    there_told n Nothing (λ k. spec_fit_check k.scene c.args.from c.args.to) (Reads-trans c.in-Known.ensures.reads c.in-Known-range_of.ensures.reads) tt
    (λ made in_hand told. ap plain (ap instrs_if (sym c.in-None.is) ∙ c.range_check.ensures
    ∙ ap (λ (r : Option Range). check_of r (option_map (λ ends. range ends.0 ends.1) c.in-Known-range_of.value)) (first made in_hand told)
    ∙ ap (λ (r : Option Range). check_of (range_of (scene_of f made a) c.args.from) r) (second made in_hand told)))
