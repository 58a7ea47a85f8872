use Rattle.std.proofs.Common.{◌≡◌, ◌∙◌, None, Ok, refl, sym}
use Rattle.m2_base.specs.Statics.Types.{kind_of}
use Rattle.m2_base.specs.declared.replies.Ask.TheVariants.{Known}
use Rattle.type_rules.specs.Scenes.{scene_of}
use Rattle.type_rules.specs.Sites.{context_of}
use Rattle.type_rules.proofs.Compatibles.{told_later}
use Rattle.type_rules.proofs.Later.{IsThere_read, Suits_read}
use Rattle.type_rules.proofs.Reading.{Reads-trans, Waits_read}
use Rattle.const_eval.proofs.Later.{SuitsSite_read}
use Rattle.expr_sem.specs.ArgumentCodes.{parameter_view}
use Rattle.expr_sem.specs.Codings.{coded_in}
use Rattle.expr_sem.proofs.ArgumentCases.{mode_address, mode_bad, mode_broken, mode_open, mode_refused, mode_taken, mode_value, none_passed}
use Rattle.expr_sem.proofs.Following.{by_question, still_coded}
use Rattle.expr_sem.proofs.Making.{after_question, question_waits}
use Rattle.expr_sem.proofs.Operating.{described}
use Rattle.expr_sem.proofs.coder.Coder.pass_argument.Goals as goal

pub is_in_error-requires-clause-suits : goal.is_in_error-requires-clause-suits
is_in_error-requires-clause-suits g c = c.requires.suits.around

pub is_in_error-requires-clause-there : goal.is_in_error-requires-clause-there
is_in_error-requires-clause-there g c = c.requires.p

pub stand-requires-clause-suits : goal.stand-requires-clause-suits
stand-requires-clause-suits g c = Suits_read c.is_in_error.ensures.reads c.requires.suits.around

pub stand-requires-clause-there : goal.stand-requires-clause-there
stand-requires-clause-there g c = IsThere_read c.is_in_error.ensures.reads c.requires.p

pub returns-then-is_bad-clause-keeps : goal.returns-then-is_bad-clause-keeps
returns-then-is_bad-clause-keeps g c = record { site = refl; withs = refl; scopes = refl; fragments = refl; notes = refl }

pub returns-in-DontKnowYet-clause-keeps : goal.returns-in-DontKnowYet-clause-keeps
returns-in-DontKnowYet-clause-keeps g c = record { site = refl; withs = refl; scopes = refl; fragments = refl; notes = refl }

pub returns-then-value-clause-keeps : goal.returns-then-value-clause-keeps
returns-then-value-clause-keeps g c = record { site = refl; withs = refl; scopes = refl; fragments = refl; notes = refl }

pub returns-then-refuses-clause-keeps : goal.returns-then-refuses-clause-keeps
returns-then-refuses-clause-keeps g c = record { site = refl; withs = refl; scopes = refl; fragments = refl; notes = refl }

pub returns-in-DontKnowYet-stand-clause-keeps : goal.returns-in-DontKnowYet-stand-clause-keeps
returns-in-DontKnowYet-stand-clause-keeps g c = record { site = refl; withs = refl; scopes = refl; fragments = refl; notes = refl }

pub open_argument-requires-clause-suits : goal.open_argument-requires-clause-suits
open_argument-requires-clause-suits g c = SuitsSite_read (Reads-trans c.is_in_error.ensures.reads c.stand.ensures.reads) c.requires.suits

pub open_argument-requires-clause-x : goal.open_argument-requires-clause-x
open_argument-requires-clause-x g c =
    still_coded (by_question c.args.self.now.notes.now c.args.self.now.fragments.now.nodes.items (Reads-trans c.is_in_error.ensures.reads c.stand.ensures.reads)) c.args.x.coded c.requires.x

pub by_value-requires-clause-suits : goal.by_value-requires-clause-suits
by_value-requires-clause-suits g c = SuitsSite_read (Reads-trans c.is_in_error.ensures.reads c.stand.ensures.reads) c.requires.suits

pub by_value-requires-clause-x : goal.by_value-requires-clause-x
by_value-requires-clause-x g c =
    still_coded (by_question c.args.self.now.notes.now c.args.self.now.fragments.now.nodes.items (Reads-trans c.is_in_error.ensures.reads c.stand.ensures.reads)) c.args.x.coded c.requires.x

pub returns-in-OpenArray-clause-keeps : goal.returns-in-OpenArray-clause-keeps
returns-in-OpenArray-clause-keeps g c =
    let k = c.open_argument.ensures.keeps in record { site = k.site; withs = k.withs; scopes = k.scopes; fragments = k.fragments; notes = k.notes }

pub returns-else-p-clause-keeps : goal.returns-else-p-clause-keeps
returns-else-p-clause-keeps g c =
    let k = c.by_value.ensures.keeps in record { site = k.site; withs = k.withs; scopes = k.scopes; fragments = k.fragments; notes = k.notes }

pub returns-then-is_bad-clause-codes : goal.returns-then-is_bad-clause-codes
returns-then-is_bad-clause-codes g c =
    let ns = c.args.self.now.fragments.now.nodes.items in
    described (Ok (Known None)) (none_passed (g.S.Scopes.state c.args.self.now.scopes.now) c.args.self.now.notes.now ns c.args.self.now.site.now)
    (λ k. mode_bad k (parameter_view c.args.p) c.args.x.at (coded_in ns c.args.x.coded) (sym c.is_bad.ensures ∙ c.if-is_bad.true))

pub returns-then-value-clause-codes : goal.returns-then-value-clause-codes
returns-then-value-clause-codes g c =
    let ns = c.args.self.now.fragments.now.nodes.items in
    after_question (Ok (Known None)) c.is_in_error.ensures.reads (none_passed (g.S.Scopes.state c.is_in_error.new.scopes) c.args.self.now.notes.now ns c.args.self.now.site.now)
    (λ made in_hand told. mode_broken (context_of (g.S.Scopes.state c.args.self.now.scopes.now).frame made c.args.self.now.site.now) (parameter_view c.args.p) c.args.x.at (coded_in ns c.args.x.coded) (sym (c.in-Known.ensures.told made in_hand told) ∙ c.if-value.true))

pub returns-then-refuses-clause-codes : goal.returns-then-refuses-clause-codes
returns-then-refuses-clause-codes g c =
    let ns = c.args.self.now.fragments.now.nodes.items in
    after_question c.refuse_argument.result c.is_in_error.ensures.reads (c.refuse_argument.ensures (g.S.Scopes.state c.is_in_error.new.scopes) ns)
    (λ made in_hand told. mode_refused (context_of (g.S.Scopes.state c.args.self.now.scopes.now).frame made c.args.self.now.site.now) (parameter_view c.args.p) c.args.x.at (coded_in ns c.args.x.coded)
    (sym c.is_bad.ensures ∙ c.if-is_bad.false) (sym (c.in-Known.ensures.told made in_hand told) ∙ c.if-value.false) (sym c.refuses.ensures ∙ c.if-refuses.true))

pub returns-in-DontKnowYet-stand-clause-codes : goal.returns-in-DontKnowYet-stand-clause-codes
returns-in-DontKnowYet-stand-clause-codes g c =
    question_waits _ _ (Reads-trans c.is_in_error.ensures.reads c.stand.ensures.reads) (Waits_read c.is_in_error.ensures.reads c.in-DontKnowYet-stand.ensures.waits)

pub returns-in-OpenArray-clause-codes : goal.returns-in-OpenArray-clause-codes
returns-in-OpenArray-clause-codes g c =
    let f = (g.S.Scopes.state c.args.self.now.scopes.now).frame in
    let h = (g.S.Scopes.state c.is_in_error.new.scopes).frame in
    let x = coded_in c.args.self.now.fragments.now.nodes.items c.args.x.coded in
    let p = parameter_view c.args.p in
    let first = c.is_in_error.ensures.reads in
    let kind = told_later f h (λ e made. c.in-Known-stand.value.1 ≡ kind_of (scene_of e made c.args.self.now.site.now.around.now) c.args.p.of) first.keeps.frame c.in-Known-stand.ensures.kind in
    after_question c.open_argument.result (Reads-trans first c.stand.ensures.reads) c.open_argument.ensures.codes
    (λ made in_hand told. let k = context_of f made c.args.self.now.site.now in
    mode_open k p c.args.x.at x c.in-OpenArray.element (sym c.in-OpenArray.is ∙ kind made in_hand told)
    ∙ mode_taken k p c.args.x.at x (sym c.is_bad.ensures ∙ c.if-is_bad.false) (sym (c.in-Known.ensures.told made in_hand told) ∙ c.if-value.false) (sym c.refuses.ensures ∙ c.if-refuses.false))

pub by_address-requires-clause-x : goal.by_address-requires-clause-x
by_address-requires-clause-x g c =
    (still_coded (by_question c.args.self.now.notes.now c.args.self.now.fragments.now.nodes.items (Reads-trans c.is_in_error.ensures.reads c.stand.ensures.reads)) c.args.x.coded c.requires.x).operand

pub returns-then-p-clause-codes : goal.returns-then-p-clause-codes
returns-then-p-clause-codes g c =
    let f = (g.S.Scopes.state c.args.self.now.scopes.now).frame in
    let h = (g.S.Scopes.state c.is_in_error.new.scopes).frame in
    let ns = c.args.self.now.fragments.now.nodes.items in
    let x = coded_in ns c.args.x.coded in
    let p = parameter_view c.args.p in
    let first = c.is_in_error.ensures.reads in
    let reads = Reads-trans first c.stand.ensures.reads in
    let kind = told_later f h (λ e made. c.in-Known-stand.value.1 ≡ kind_of (scene_of e made c.args.self.now.site.now.around.now) c.args.p.of) first.keeps.frame c.in-Known-stand.ensures.kind in
    after_question c.by_address.result reads (c.by_address.ensures ns (still_coded (by_question c.args.self.now.notes.now ns reads) c.args.x.coded c.requires.x))
    (λ made in_hand told. let k = context_of f made c.args.self.now.site.now in
    mode_address k p c.args.x.at x c.in-Known-stand.value.1 c.in_default.not-OpenArray (kind made in_hand told) c.if-p.true
    ∙ mode_taken k p c.args.x.at x (sym c.is_bad.ensures ∙ c.if-is_bad.false) (sym (c.in-Known.ensures.told made in_hand told) ∙ c.if-value.false) (sym c.refuses.ensures ∙ c.if-refuses.false))

pub returns-else-p-clause-codes : goal.returns-else-p-clause-codes
returns-else-p-clause-codes g c =
    let f = (g.S.Scopes.state c.args.self.now.scopes.now).frame in
    let h = (g.S.Scopes.state c.is_in_error.new.scopes).frame in
    let x = coded_in c.args.self.now.fragments.now.nodes.items c.args.x.coded in
    let p = parameter_view c.args.p in
    let first = c.is_in_error.ensures.reads in
    let kind = told_later f h (λ e made. c.in-Known-stand.value.1 ≡ kind_of (scene_of e made c.args.self.now.site.now.around.now) c.args.p.of) first.keeps.frame c.in-Known-stand.ensures.kind in
    after_question c.by_value.result (Reads-trans first c.stand.ensures.reads) c.by_value.ensures.codes
    (λ made in_hand told. let k = context_of f made c.args.self.now.site.now in
    mode_value k p c.args.x.at x c.in-Known-stand.value.1 c.in_default.not-OpenArray (kind made in_hand told) c.if-p.false
    ∙ mode_taken k p c.args.x.at x (sym c.is_bad.ensures ∙ c.if-is_bad.false) (sym (c.in-Known.ensures.told made in_hand told) ∙ c.if-value.false) (sym c.refuses.ensures ∙ c.if-refuses.false))

pub by_address-requires-clause-suits : goal.by_address-requires-clause-suits
by_address-requires-clause-suits g c = SuitsSite_read (Reads-trans c.is_in_error.ensures.reads c.stand.ensures.reads) c.requires.suits

pub returns-in-DontKnowYet-clause-codes : goal.returns-in-DontKnowYet-clause-codes
returns-in-DontKnowYet-clause-codes g c = question_waits _ _ c.is_in_error.ensures.reads c.in-DontKnowYet.ensures.waits

pub by_address-requires-clause-of : goal.by_address-requires-clause-of
by_address-requires-clause-of g c = IsThere_read (Reads-trans c.is_in_error.ensures.reads c.stand.ensures.reads) c.requires.p

pub by_value-requires-clause-of : goal.by_value-requires-clause-of
by_value-requires-clause-of g c = IsThere_read (Reads-trans c.is_in_error.ensures.reads c.stand.ensures.reads) c.requires.p
