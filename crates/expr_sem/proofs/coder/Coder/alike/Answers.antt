use Rattle.std.proofs.Common.{◌≡◌, ◌∙◌, None, Ok, Some, ap, refl, sym}
use Rattle.m2_base.specs.Statics.Types.{is_same}
use Rattle.m2_base.specs.declared.replies.Ask.TheVariants.{Known}
use Rattle.type_rules.specs.Scenes.{scene_of}
use Rattle.type_rules.specs.Sites.{context_of}
use Rattle.type_rules.proofs.Compatibles.{told_later}
use Rattle.type_rules.proofs.Reading.{Reads-trans, Waits_read}
use Rattle.expr_sem.specs.Codings.{coded_in}
use Rattle.expr_sem.specs.Fragments.{part}
use Rattle.block_code.specs.Parts.{Part, ◌⨟◌}
use Rattle.expr_sem.proofs.ArgumentCases.{alike_other, alike_same}
use Rattle.expr_sem.proofs.Following.{by_question, then_unknown, then_wanted}
use Rattle.expr_sem.proofs.Making.{after_question, question_waits}
use Rattle.expr_sem.proofs.Sequencing.{part_later}
use Rattle.expr_sem.proofs.coder.Coder.alike.Goals as goal
use Rattle.m2_base.specs.States.{Frame}
use Rattle.type_rules.specs.Scenes.{Hand}
use Rattle.expr_sem.specs.Kinds.{IsKindHere}
use Rattle.type_rules.proofs.Later.{IsThere_read, Suits_read}
use Rattle.const_eval.proofs.Later.{SuitsSite_read}
use Rattle.expr_sem.specs.Codings.{IsCoded}
use Rattle.expr_sem.proofs.ArgumentCases.{alike_broken, none_passed}
use Rattle.m2_base.specs.Gives.{gives}
use Rattle.expr_sem.proofs.Operating.{coding_after}
use Rattle.expr_sem.proofs.Sequencing.{Grows-refl, made_after}
use Rattle.expr_sem.proofs.Selecting.{stays_read}

pub returns-in-DontKnowYet-same-clause-codes : goal.returns-in-DontKnowYet-same-clause-codes
returns-in-DontKnowYet-same-clause-codes g c =
    question_waits _ _ (Reads-trans c.is_broken.ensures.reads c.same.ensures.reads) (Waits_read c.is_broken.ensures.reads c.in-DontKnowYet-same.ensures.waits)

pub returns-in-DontKnowYet-asked-clause-codes : goal.returns-in-DontKnowYet-asked-clause-codes
returns-in-DontKnowYet-asked-clause-codes g c =
    then_unknown (by_question _ _ (Reads-trans c.is_broken.ensures.reads c.same.ensures.reads)) (rw c.in-DontKnowYet-asked.is at c.in-Ok.ensures c.args.self.now.notes.now)

pub returns-in-Err-clause-codes : goal.returns-in-Err-clause-codes
returns-in-Err-clause-codes g c = then_wanted (by_question _ _ (Reads-trans c.is_broken.ensures.reads c.same.ensures.reads)) (c.in-Err.ensures c.args.self.now.notes.now) c.in-Err.memory

pub returns-then-value-2-clause-codes : goal.returns-then-value-2-clause-codes
returns-then-value-2-clause-codes g c =
    let f = (g.S.Scopes.state c.args.self.now.scopes.now).frame in
    let h = (g.S.Scopes.state c.is_broken.new.scopes).frame in
    let ns = c.args.self.now.fragments.now.nodes.items in
    let ms = c.high_code.new.fragments.nodes.items in
    let notes = c.args.self.now.notes.now in
    let first = c.is_broken.ensures.reads in
    let high = rw c.in-Known-asked.is at c.in-Ok.ensures notes in
    let same = told_later f h (λ e made. c.in-Known-same.value ≡ is_same (scene_of e made c.args.self.now.site.now.around.now) c.args.element c.args.want) first.keeps.frame c.in-Known-same.ensures.told in
    let both = made_after c.then.result (Grows-refl ms) c.then.ensures.made (ap (λ (p : Part). p ⨟ part ms c.in-Known-asked.value) (part_later high.grows c.args.x.coded.code c.requires.x.code)) in
    after_question c.passed_as.result (Reads-trans first c.same.ensures.reads)
    (coding_after _ (λ (q : Part) k. gives (Some (part ns c.args.x.coded.code ⨟ q))) c.passed_as.result high (c.passed_as.ensures (g.S.Scopes.state c.high_code.new.scopes) notes c.args.self.now.site.now _ _ _ both))
    (λ made in_hand told. alike_same (context_of f made c.args.self.now.site.now) c.args.want c.args.x.at (coded_in ns c.args.x.coded) c.args.kind c.args.element
    (sym (c.in-Known.ensures.told made in_hand told) ∙ c.if-value.false) (sym (same made in_hand told) ∙ c.if-value-2.true))

pub returns-clause-codes : goal.returns-clause-codes
returns-clause-codes g c =
    let f = (g.S.Scopes.state c.args.self.now.scopes.now).frame in
    let h = (g.S.Scopes.state c.is_broken.new.scopes).frame in
    let ns = c.args.self.now.fragments.now.nodes.items in
    let first = c.is_broken.ensures.reads in
    let same = told_later f h (λ e made. c.in-Known-same.value ≡ is_same (scene_of e made c.args.self.now.site.now.around.now) c.args.element c.args.want) first.keeps.frame c.in-Known-same.ensures.told in
    after_question c.refuse_argument.result (Reads-trans first c.same.ensures.reads) (c.refuse_argument.ensures (g.S.Scopes.state c.same.new.scopes) ns)
    (λ made in_hand told. alike_other (context_of f made c.args.self.now.site.now) c.args.want c.args.x.at (coded_in ns c.args.x.coded) c.args.kind c.args.element
    (sym (c.in-Known.ensures.told made in_hand told) ∙ c.if-value.false) (sym (same made in_hand told) ∙ c.if-value-2.false))

pub is_broken-requires-clause-suits : goal.is_broken-requires-clause-suits
is_broken-requires-clause-suits g c = c.requires.suits.around

pub is_broken-requires-clause-there : goal.is_broken-requires-clause-there
is_broken-requires-clause-there g c = c.requires.element

pub returns-in-DontKnowYet-clause-codes : goal.returns-in-DontKnowYet-clause-codes
returns-in-DontKnowYet-clause-codes g c = question_waits _ _ c.in-DontKnowYet.ensures.reads c.in-DontKnowYet.ensures.waits

pub returns-then-value-clause-codes : goal.returns-then-value-clause-codes
returns-then-value-clause-codes g c =
    let k = λ (made : Hand). context_of (g.S.Scopes.state c.args.self.now.scopes.now).frame made c.args.self.now.site.now in
    let ns = c.args.self.now.fragments.now.nodes.items in
    after_question (Ok (Known None)) c.in-Known.ensures.reads (none_passed _ _ ns _)
    (λ made in_hand told. alike_broken (k made) c.args.want c.args.x.at (coded_in ns c.args.x.coded) c.args.kind c.args.element (sym (c.in-Known.ensures.told made in_hand told) ∙ c.if-value.true))

pub same-requires-clause-suits : goal.same-requires-clause-suits
same-requires-clause-suits g c = Suits_read c.in-Known.ensures.reads c.requires.suits.around

pub same-requires-clause-x : goal.same-requires-clause-x
same-requires-clause-x g c = IsThere_read c.in-Known.ensures.reads c.requires.element

pub same-requires-clause-y : goal.same-requires-clause-y
same-requires-clause-y g c = IsThere_read c.in-Known.ensures.reads c.requires.want

pub high_code-requires-clause-suits : goal.high_code-requires-clause-suits
high_code-requires-clause-suits g c = SuitsSite_read (Reads-trans c.in-Known.ensures.reads c.in-Known-same.ensures.reads) c.requires.suits

pub high_code-requires-clause-x : goal.high_code-requires-clause-x
high_code-requires-clause-x g c = stays_read (λ (e : Frame). IsCoded e c.args.self.now.fragments.now.nodes.items c.args.x.coded) (Reads-trans c.in-Known.ensures.reads c.in-Known-same.ensures.reads) c.requires.x

pub high_code-requires-clause-kind : goal.high_code-requires-clause-kind
high_code-requires-clause-kind g c = stays_read (λ (e : Frame). IsKindHere e c.args.kind) (Reads-trans c.in-Known.ensures.reads c.in-Known-same.ensures.reads) c.requires.kind

pub returns-in-DontKnowYet-clause-keeps : goal.returns-in-DontKnowYet-clause-keeps
returns-in-DontKnowYet-clause-keeps g c = record { site = refl; withs = refl; scopes = refl; fragments = refl; notes = refl }

pub returns-then-value-clause-keeps : goal.returns-then-value-clause-keeps
returns-then-value-clause-keeps g c = record { site = refl; withs = refl; scopes = refl; fragments = refl; notes = refl }

pub returns-in-DontKnowYet-same-clause-keeps : goal.returns-in-DontKnowYet-same-clause-keeps
returns-in-DontKnowYet-same-clause-keeps g c = record { site = refl; withs = refl; scopes = refl; fragments = refl; notes = refl }

pub returns-in-DontKnowYet-asked-clause-keeps : goal.returns-in-DontKnowYet-asked-clause-keeps
returns-in-DontKnowYet-asked-clause-keeps g c = record { site = refl; withs = refl; scopes = refl; fragments = refl; notes = refl }

pub returns-in-Err-clause-keeps : goal.returns-in-Err-clause-keeps
returns-in-Err-clause-keeps g c = record { site = refl; withs = refl; scopes = refl; fragments = refl; notes = refl }

pub returns-then-value-2-clause-keeps : goal.returns-then-value-2-clause-keeps
returns-then-value-2-clause-keeps g c = record { site = refl; withs = refl; scopes = refl; fragments = refl; notes = refl }

pub returns-clause-keeps : goal.returns-clause-keeps
returns-clause-keeps g c = record { site = refl; withs = refl; scopes = refl; fragments = refl; notes = refl }
