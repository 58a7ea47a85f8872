use Rattle.type_rules.proofs.Reading.{Reads-trans, Waits_read}
use Rattle.const_eval.proofs.Later.{IsOperand_read, SuitsSite_read}
use Rattle.m2_base.specs.Statics.Operands.{char_or_same}
use Rattle.type_rules.specs.Sites.{context_of, source_of}
use Rattle.type_rules.proofs.Compatibles.{told_later}
use Rattle.decl_sem.specs.Bounds.{IsEndOf}
use Rattle.decl_sem.proofs.subranges.choice_of.Goals as goal

pub ends_of-requires-clause-suits : goal.ends_of-requires-clause-suits
ends_of-requires-clause-suits g c = SuitsSite_read c.in-Known.ensures.reads c.requires.suits

pub ends_of-requires-clause-low : goal.ends_of-requires-clause-low
ends_of-requires-clause-low g c = IsOperand_read c.args.low c.in-Known.ensures.reads c.requires.low

pub ends_of-requires-clause-high : goal.ends_of-requires-clause-high
ends_of-requires-clause-high g c = IsOperand_read c.args.high c.in-Known.ensures.reads c.requires.high

pub returns-in-DontKnowYet-ends_of-clause-reads : goal.returns-in-DontKnowYet-ends_of-clause-reads
returns-in-DontKnowYet-ends_of-clause-reads g c = Reads-trans c.in-Known.ensures.reads c.in-DontKnowYet-ends_of.ensures.reads

pub returns-in-DontKnowYet-ends_of-clause-waits : goal.returns-in-DontKnowYet-ends_of-clause-waits
returns-in-DontKnowYet-ends_of-clause-waits g c = Waits_read c.in-Known.ensures.reads c.in-DontKnowYet-ends_of.ensures.waits

pub returns-clause-reads : goal.returns-clause-reads
returns-clause-reads g c = Reads-trans c.in-Known.ensures.reads c.in-Known-ends_of.ensures.reads

pub returns-clause-told : goal.returns-clause-told
returns-clause-told g c made in_hand told low_at high_at =
    let f = (g.S.Scopes.state c.args.scopes.now).frame in
    let mid = (g.S.Scopes.state c.base_in.new.scopes).frame in
    let s = c.args.site.now in
    let low = char_or_same (source_of s.texts.now) c.args.low in
    let high = char_or_same (source_of s.texts.now) c.args.high in
    let same = c.base_in.ensures.reads.keeps.frame in
    c.choose.ensures.told (context_of f made s) c.args.base low high low_at high_at (c.in-Known.ensures.told made in_hand told)
    (told_later f mid (λ h rows. IsEndOf (context_of h rows s) low c.in-Known-ends_of.value.0) same c.in-Known-ends_of.ensures.low made in_hand told)
    (told_later f mid (λ h rows. IsEndOf (context_of h rows s) high c.in-Known-ends_of.value.1) same c.in-Known-ends_of.ensures.high made in_hand told)
