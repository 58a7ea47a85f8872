use Rattle.std.proofs.Common.{◌≡◌, ◌∙◌, Ok, sym, refl}
use Rattle.m2_base.specs.Gives.{gives}
use Rattle.m2_base.specs.Statics.Types.{is_broken}
use Rattle.m2_base.specs.declared.replies.Ask.TheVariants.{Known}
use Rattle.type_rules.specs.Scenes.{IsThere, scene_of}
use Rattle.type_rules.proofs.Compatibles.{told_later}
use Rattle.type_rules.proofs.Reading.{Reads-trans, Waits_read}
use Rattle.block_code.specs.Coded.{in_error}
use Rattle.expr_sem.specs.Fragments.{part}
use Rattle.expr_sem.proofs.Making.{after_question, question_waits}
use Rattle.expr_sem.proofs.Selecting.{error_alone, pointed_broken, pointed_whole, stays_read}
use Rattle.type_rules.proofs.Later.{Suits_read}
use Rattle.expr_sem.proofs.elements.pointed.Goals as goal

pub returns-in-DontKnowYet-is_broken : goal.returns-in-DontKnowYet-is_broken
returns-in-DontKnowYet-is_broken g c notes =
    question_waits notes _ (Reads-trans c.target_named.ensures.reads c.is_broken.ensures.reads) (Waits_read c.target_named.ensures.reads c.in-DontKnowYet-is_broken.ensures.waits)

pub returns-then-value : goal.returns-then-value
returns-then-value g c notes =
    let f = (g.S.Scopes.state c.args.scopes.now).frame in
    let h = (g.S.Scopes.state c.target_named.new.scopes).frame in
    let a = c.args.site.now.around.now in
    let broken = told_later f h (λ e made. c.in-Known-is_broken.value ≡ is_broken (scene_of e made a) c.in-Known.value) c.target_named.ensures.reads.keeps.frame c.in-Known-is_broken.ensures.told in
    after_question (Ok (Known c.in_error.result)) (Reads-trans c.target_named.ensures.reads c.is_broken.ensures.reads)
    (error_alone _ notes _ _ c.in_error.result (λ k. gives in_error) c.in_error.ensures.told c.in_error.ensures.there (λ k. refl))
    (λ made in_hand told. pointed_broken (scene_of f made a) (part c.args.fragments.now.nodes.items c.args.code) c.in-Known.value _ (sym c.if-value.true ∙ broken made in_hand told) (c.in-Known.ensures.told made in_hand told))

pub returns : goal.returns
returns g c notes =
    let f = (g.S.Scopes.state c.args.scopes.now).frame in
    let h = (g.S.Scopes.state c.target_named.new.scopes).frame in
    let a = c.args.site.now.around.now in
    let reads = Reads-trans c.target_named.ensures.reads c.is_broken.ensures.reads in
    let broken = told_later f h (λ e made. c.in-Known-is_broken.value ≡ is_broken (scene_of e made a) c.in-Known.value) c.target_named.ensures.reads.keeps.frame c.in-Known-is_broken.ensures.told in
    after_question c.answered_as.result reads
    (c.answered_as.ensures (g.S.Scopes.state c.is_broken.new.scopes) notes c.args.site.now _ _ _ (stays_read (λ e. IsThere e c.in-Known.value) reads c.in-Known.ensures.there) c.target_code.ensures)
    (λ made in_hand told. pointed_whole (scene_of f made a) (part c.args.fragments.now.nodes.items c.args.code) c.in-Known.value _ (sym c.if-value.false ∙ broken made in_hand told) (c.in-Known.ensures.told made in_hand told))

pub is_broken-requires-clause-suits : goal.is_broken-requires-clause-suits
is_broken-requires-clause-suits g c = Suits_read c.target_named.ensures.reads c.requires.suits.around

pub returns-in-DontKnowYet : goal.returns-in-DontKnowYet
returns-in-DontKnowYet g c notes = question_waits notes _ c.target_named.ensures.reads c.in-DontKnowYet.ensures.waits
