use Rattle.type_rules.proofs.Later.{Waits_asked}
use Rattle.type_rules.proofs.Reading.{Reads-trans}
use Rattle.const_eval.proofs.Later.{SuitsSite_read}
use Rattle.std.proofs.Common.{◌≡◌, ◌∙◌, ℕ, ap}
use Rattle.m2_base.specs.declared.replies.Ask.{Ask}
use Rattle.m2_base.specs.declared.replies.Ask.TheVariants.{DontKnowYet, Known}
use Rattle.type_rules.specs.Asks.{WhereKnown}
use Rattle.type_rules.specs.Sites.{context_of}
use Rattle.type_rules.proofs.Compatibles.{told_later}
use Rattle.decl_sem.specs.Bounds.{chosen, given_by, kept}
use Rattle.decl_sem.specs.declared.bounds.Verdict.{Verdict}
use Rattle.decl_sem.proofs.subranges.verdict_of.Goals as goal

pub verdict_on-requires-clause-suits : goal.verdict_on-requires-clause-suits
verdict_on-requires-clause-suits g c = SuitsSite_read c.in-Known.ensures.reads c.requires.suits

pub returns-clause-reads : goal.returns-clause-reads
returns-clause-reads g c = Reads-trans c.in-Known.ensures.reads c.verdict_on.ensures.reads

pub returns-clause-waits : goal.returns-clause-waits
returns-clause-waits g c = Waits_asked c.verdict_on.result (g.S.Scopes.state c.verdict_on.new.scopes) c.in-Known.ensures.reads c.verdict_on.ensures.waits

-- what is known is so in other words
known_then : {T : Type 0} (answer : Ask T) (P Q : T → Type 0) → ((v : T) → P v → Q v) → WhereKnown answer P → WhereKnown answer Q
known_then (Known v) P Q f h = f v h
known_then (DontKnowYet head) P Q f h = tt

pub returns-clause-told : goal.returns-clause-told
returns-clause-told g c made in_hand told =
    let f = (g.S.Scopes.state c.args.scopes.now).frame in
    let mid = (g.S.Scopes.state c.choice_of.new.scopes).frame in
    let s = c.args.site.now in
    known_then c.verdict_on.result (λ (v : Verdict). (low high : ℕ) → given_by (context_of f made s) low high v ≡ kept (chosen (context_of f made s) low high c.in-Known.value)) _
    (λ v h low high. h low high ∙ ap kept (c.in-Known.ensures.told made in_hand told low high))
    (told_later f mid (λ h rows. WhereKnown c.verdict_on.result (λ (v : Verdict). (low high : ℕ) → given_by (context_of h rows s) low high v ≡ kept (chosen (context_of h rows s) low high c.in-Known.value)))
    c.choice_of.ensures.reads.keeps.frame c.verdict_on.ensures.told made in_hand told)
