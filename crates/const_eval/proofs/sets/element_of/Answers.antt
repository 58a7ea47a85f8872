use Rattle.std.proofs.Common.{◌∙◌, subst, sym}
use Rattle.m2_base.specs.States.{Frame}
use Rattle.m2_base.specs.Statics.Types.{range_of}
use Rattle.type_rules.specs.Scenes.{scene_of}
use Rattle.type_rules.specs.Sites.{context_of}
use Rattle.type_rules.proofs.Later.{IsThere_read, Suits_read}
use Rattle.type_rules.proofs.Reading.{Reads-trans, Reads-refl, Waits_read}
use Rattle.const_eval.specs.Sites.{IsOperand}
use Rattle.const_eval.proofs.Elements.{pair}
use Rattle.const_eval.proofs.Judging.{told_first}
use Rattle.const_eval.proofs.Later.{IsOperand_read, SuitsSite_read}
use Rattle.const_eval.proofs.SetElements.{element_bad, element_broken, element_procedure, element_taken, taken_none, taken_some}
use Rattle.const_eval.proofs.sets.element_of.Goals as goal

pub compatible_pair-requires-clause-suits : goal.compatible_pair-requires-clause-suits
compatible_pair-requires-clause-suits g c = SuitsSite_read c.in-Known.ensures.reads c.requires.suits

pub compatible_pair-requires-clause-x : goal.compatible_pair-requires-clause-x
compatible_pair-requires-clause-x g c = IsOperand_read c.args.x c.in-Known.ensures.reads c.requires.x

pub compatible_pair-requires-clause-y : goal.compatible_pair-requires-clause-y
compatible_pair-requires-clause-y g c = IsThere_read c.in-Known.ensures.reads c.requires.base

pub returns-then-is_bad-clause-told : goal.returns-then-is_bad-clause-told
returns-then-is_bad-clause-told g c made in_hand told =
    element_bad (context_of (g.S.Scopes.state c.args.scopes.now).frame made c.args.site.now) c.args.base c.args.at c.args.x (sym c.is_bad.ensures ∙ c.if-is_bad.true)

pub returns-then-value-clause-told : goal.returns-then-value-clause-told
returns-then-value-clause-told g c made in_hand told =
    element_broken (context_of (g.S.Scopes.state c.args.scopes.now).frame made c.args.site.now) c.args.base c.args.at c.args.x (sym c.is_bad.ensures ∙ c.if-is_bad.false)
    (sym (c.in-Known.ensures.told made in_hand told) ∙ c.if-value.true)

pub returns-then-is_procedure-clause-told : goal.returns-then-is_procedure-clause-told
returns-then-is_procedure-clause-told g c made in_hand told =
    element_procedure (context_of (g.S.Scopes.state c.args.scopes.now).frame made c.args.site.now) c.args.base c.args.at c.args.x (sym c.is_bad.ensures ∙ c.if-is_bad.false)
    (sym (c.in-Known.ensures.told made in_hand told) ∙ c.if-value.false) (sym c.is_procedure.ensures ∙ c.if-is_procedure.true)

pub returns-in-DontKnowYet-range_of-clause-reads : goal.returns-in-DontKnowYet-range_of-clause-reads
returns-in-DontKnowYet-range_of-clause-reads g c = Reads-trans (Reads-trans c.in-Known.ensures.reads c.in-Known-compatible_pair.ensures.reads) c.in-DontKnowYet-range_of.ensures.reads

pub returns-in-Known-range_of-clause-reads : goal.returns-in-Known-range_of-clause-reads
returns-in-Known-range_of-clause-reads g c = Reads-trans (Reads-trans c.in-Known.ensures.reads c.in-Known-compatible_pair.ensures.reads) c.in-Known-range_of.ensures.reads

pub returns-in-Known-range_of-clause-there : goal.returns-in-Known-range_of-clause-there
returns-in-Known-range_of-clause-there g c =
    c.element_within.ensures.there (g.S.Scopes.state c.args.scopes.now).frame
    (subst (λ (f : Frame). IsOperand f c.in-Some.pair.0) c.in-Known.ensures.reads.keeps.frame (rw c.in-Some.is at c.in-Known-compatible_pair.ensures.there).0)

pub returns-in-Known-range_of-clause-told : goal.returns-in-Known-range_of-clause-told
returns-in-Known-range_of-clause-told g c made in_hand told =
    let f = (g.S.Scopes.state c.args.scopes.now).frame in
    let s = c.args.site.now in
    let now = context_of f made s in
    c.element_within.ensures.told now c.args.base
    (told_first _ f _ (λ h rows. range_of (scene_of h rows s.around.now) c.args.base) (c.in-Known-compatible_pair.ensures.reads.keeps.frame ∙ c.in-Known.ensures.reads.keeps.frame) c.in-Known-range_of.ensures.told made in_hand told)
    ∙ taken_some now c.args.base c.args.at c.args.x c.in-Some.pair
    (told_first _ f _ (λ h rows. pair (context_of h rows s) c.args.x c.args.base) c.in-Known.ensures.reads.keeps.frame (rw c.in-Some.is at c.in-Known-compatible_pair.ensures.told) made in_hand told)
    ∙ element_taken now c.args.base c.args.at c.args.x (sym c.is_bad.ensures ∙ c.if-is_bad.false)
    (sym (c.in-Known.ensures.told made in_hand told) ∙ c.if-value.false) (sym c.is_procedure.ensures ∙ c.if-is_procedure.false)

pub returns-in-None-clause-told : goal.returns-in-None-clause-told
returns-in-None-clause-told g c made in_hand told =
    let f = (g.S.Scopes.state c.args.scopes.now).frame in
    let s = c.args.site.now in
    let now = context_of f made s in
    taken_none now c.args.base c.args.at c.args.x
    (told_first _ f _ (λ h rows. pair (context_of h rows s) c.args.x c.args.base) c.in-Known.ensures.reads.keeps.frame (rw c.in-None.is at c.in-Known-compatible_pair.ensures.told) made in_hand told)
    ∙ element_taken now c.args.base c.args.at c.args.x (sym c.is_bad.ensures ∙ c.if-is_bad.false)
    (sym (c.in-Known.ensures.told made in_hand told) ∙ c.if-value.false) (sym c.is_procedure.ensures ∙ c.if-is_procedure.false)

pub returns-then-is_bad-clause-reads : goal.returns-then-is_bad-clause-reads
returns-then-is_bad-clause-reads g c = Reads-refl _

pub returns-then-is_bad-clause-waits : goal.returns-then-is_bad-clause-waits
returns-then-is_bad-clause-waits g c = tt

pub returns-then-is_bad-clause-there : goal.returns-then-is_bad-clause-there
returns-then-is_bad-clause-there g c = c.requires.x

pub is_broken-requires-clause-suits : goal.is_broken-requires-clause-suits
is_broken-requires-clause-suits g c = c.requires.suits.around

pub is_broken-requires-clause-there : goal.is_broken-requires-clause-there
is_broken-requires-clause-there g c = c.requires.base

pub returns-in-DontKnowYet-clause-reads : goal.returns-in-DontKnowYet-clause-reads
returns-in-DontKnowYet-clause-reads g c = c.in-DontKnowYet.ensures.reads

pub returns-in-DontKnowYet-clause-waits : goal.returns-in-DontKnowYet-clause-waits
returns-in-DontKnowYet-clause-waits g c = c.in-DontKnowYet.ensures.waits

pub returns-in-DontKnowYet-clause-told : goal.returns-in-DontKnowYet-clause-told
returns-in-DontKnowYet-clause-told g c made in_hand told = tt

pub returns-in-DontKnowYet-clause-there : goal.returns-in-DontKnowYet-clause-there
returns-in-DontKnowYet-clause-there g c = tt

pub returns-then-value-clause-reads : goal.returns-then-value-clause-reads
returns-then-value-clause-reads g c = c.in-Known.ensures.reads

pub returns-then-value-clause-waits : goal.returns-then-value-clause-waits
returns-then-value-clause-waits g c = tt

pub returns-then-value-clause-there : goal.returns-then-value-clause-there
returns-then-value-clause-there g c = tt

pub returns-then-is_procedure-clause-reads : goal.returns-then-is_procedure-clause-reads
returns-then-is_procedure-clause-reads g c = c.in-Known.ensures.reads

pub returns-then-is_procedure-clause-waits : goal.returns-then-is_procedure-clause-waits
returns-then-is_procedure-clause-waits g c = tt

pub returns-then-is_procedure-clause-there : goal.returns-then-is_procedure-clause-there
returns-then-is_procedure-clause-there g c = tt

pub returns-in-DontKnowYet-compatible_pair-clause-reads : goal.returns-in-DontKnowYet-compatible_pair-clause-reads
returns-in-DontKnowYet-compatible_pair-clause-reads g c = Reads-trans c.in-Known.ensures.reads c.in-DontKnowYet-compatible_pair.ensures.reads

pub returns-in-DontKnowYet-compatible_pair-clause-waits : goal.returns-in-DontKnowYet-compatible_pair-clause-waits
returns-in-DontKnowYet-compatible_pair-clause-waits g c = Waits_read c.in-Known.ensures.reads c.in-DontKnowYet-compatible_pair.ensures.waits

pub returns-in-DontKnowYet-compatible_pair-clause-told : goal.returns-in-DontKnowYet-compatible_pair-clause-told
returns-in-DontKnowYet-compatible_pair-clause-told g c made in_hand told = tt

pub returns-in-DontKnowYet-compatible_pair-clause-there : goal.returns-in-DontKnowYet-compatible_pair-clause-there
returns-in-DontKnowYet-compatible_pair-clause-there g c = tt

pub range_of-requires-clause-suits : goal.range_of-requires-clause-suits
range_of-requires-clause-suits g c = Suits_read (Reads-trans c.in-Known.ensures.reads c.in-Known-compatible_pair.ensures.reads) c.requires.suits.around

pub range_of-requires-clause-there : goal.range_of-requires-clause-there
range_of-requires-clause-there g c = IsThere_read (Reads-trans c.in-Known.ensures.reads c.in-Known-compatible_pair.ensures.reads) c.requires.base

pub returns-in-DontKnowYet-range_of-clause-waits : goal.returns-in-DontKnowYet-range_of-clause-waits
returns-in-DontKnowYet-range_of-clause-waits g c = Waits_read (Reads-trans c.in-Known.ensures.reads c.in-Known-compatible_pair.ensures.reads) c.in-DontKnowYet-range_of.ensures.waits

pub returns-in-DontKnowYet-range_of-clause-told : goal.returns-in-DontKnowYet-range_of-clause-told
returns-in-DontKnowYet-range_of-clause-told g c made in_hand told = tt

pub returns-in-DontKnowYet-range_of-clause-there : goal.returns-in-DontKnowYet-range_of-clause-there
returns-in-DontKnowYet-range_of-clause-there g c = tt

pub returns-in-Known-range_of-clause-waits : goal.returns-in-Known-range_of-clause-waits
returns-in-Known-range_of-clause-waits g c = tt

pub returns-in-None-clause-reads : goal.returns-in-None-clause-reads
returns-in-None-clause-reads g c = Reads-trans c.in-Known.ensures.reads c.in-Known-compatible_pair.ensures.reads

pub returns-in-None-clause-waits : goal.returns-in-None-clause-waits
returns-in-None-clause-waits g c = tt

pub returns-in-None-clause-there : goal.returns-in-None-clause-there
returns-in-None-clause-there g c = tt

pub element_within-requires : goal.element_within-requires
element_within-requires g c = tt

pub is_bad-requires : goal.is_bad-requires
is_bad-requires g c = tt

pub is_procedure-requires : goal.is_procedure-requires
is_procedure-requires g c = tt
