use Rattle.std.proofs.Common.{refl, subst}
use Rattle.m2_base.specs.declared.operands.Operand.{Operand}
use Rattle.type_rules.specs.Sites.{context_of, source_of}
use Rattle.type_rules.proofs.Compatibles.{told_later}
use Rattle.type_rules.proofs.Reading.{Reads-trans, Waits_read}
use Rattle.const_eval.proofs.Later.{SuitsSite_read}
use Rattle.decl_sem.specs.Bounds.{IsEndOf, IsEnd}
use Rattle.m2_base.specs.States.{Frame}
use Rattle.decl_sem.proofs.subranges.ends_of.Goals as goal

pub end_of-requires-2-clause-suits : goal.end_of-requires-2-clause-suits
end_of-requires-2-clause-suits g c = SuitsSite_read c.in-Known.ensures.reads c.requires.suits

pub returns-in-DontKnowYet-end_of-clause-reads : goal.returns-in-DontKnowYet-end_of-clause-reads
returns-in-DontKnowYet-end_of-clause-reads g c = Reads-trans c.in-Known.ensures.reads c.in-DontKnowYet-end_of.ensures.reads

pub returns-in-DontKnowYet-end_of-clause-waits : goal.returns-in-DontKnowYet-end_of-clause-waits
returns-in-DontKnowYet-end_of-clause-waits g c = Waits_read c.in-Known.ensures.reads c.in-DontKnowYet-end_of.ensures.waits

pub returns-clause-reads : goal.returns-clause-reads
returns-clause-reads g c = Reads-trans c.in-Known.ensures.reads c.in-Known-end_of.ensures.reads

pub returns-clause-low : goal.returns-clause-low
returns-clause-low g c made in_hand told =
    let s = c.args.site.now in
    let k = context_of (g.S.Scopes.state c.args.scopes.now).frame made s in
    subst (λ (o : Operand). IsEndOf k o c.in-Known.value) (c.char_of_string.ensures.told (source_of s.texts.now) refl) (c.in-Known.ensures.told made in_hand told)

pub returns-clause-high : goal.returns-clause-high
returns-clause-high g c made in_hand told =
    let s = c.args.site.now in
    let f = (g.S.Scopes.state c.args.scopes.now).frame in
    let mid = (g.S.Scopes.state c.end_of.new.scopes).frame in
    subst (λ (o : Operand). IsEndOf (context_of f made s) o c.in-Known-end_of.value) (c.char_of_string-2.ensures.told (source_of s.texts.now) refl)
    (told_later f mid (λ h rows. IsEndOf (context_of h rows s) c.char_of_string-2.result c.in-Known-end_of.value) c.in-Known.ensures.reads.keeps.frame c.in-Known-end_of.ensures.told made in_hand told)

pub returns-clause-there : goal.returns-clause-there
returns-clause-there g c =
    (c.in-Known.ensures.there, subst (λ (f : Frame). IsEnd f c.in-Known-end_of.value) c.in-Known.ensures.reads.keeps.frame c.in-Known-end_of.ensures.there)
