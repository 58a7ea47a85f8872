use Rattle.std.proofs.Common.{◌≡◌, ◌∙◌, None, Ok, ap, refl, subst, sym}
use Rattle.m2_base.specs.Gives.{gives}
use Rattle.m2_base.specs.Statics.Types.{is_broken as spec_broken}
use Rattle.m2_base.specs.declared.replies.Ask.TheVariants.{Known}
use Rattle.m2_base.specs.declared.rows.RowMeaning.{RowMeaning}
use Rattle.m2_base.specs.declared.rows.RowMeaning.TheVariants.{Array}
use Rattle.m2_base.specs.States.{Frame}
use Rattle.type_rules.specs.Scenes.{scene_of}
use Rattle.type_rules.specs.Sites.{context_of}
use Rattle.type_rules.proofs.Compatibles.{told_later}
use Rattle.type_rules.proofs.Later.{IsThere_read, Suits_read}
use Rattle.type_rules.proofs.Reading.{Reads-trans, Waits_read}
use Rattle.const_eval.proofs.Later.{SuitsSite_read}
use Rattle.block_code.specs.Arguments.{alike, array_argument}
use Rattle.expr_sem.specs.Codings.{coded_in}
use Rattle.expr_sem.specs.Kinds.{IsKindHere}
use Rattle.expr_sem.proofs.ArgumentCases.{chosen, none_passed, other, other_array}
use Rattle.expr_sem.proofs.Following.{by_question, still_coded}
use Rattle.expr_sem.proofs.Making.{after_question, question_waits}
use Rattle.expr_sem.proofs.Selecting.{stays_read}
use Rattle.expr_sem.proofs.coder.Coder.array_argument.Goals as goal

pub stand-requires-clause-suits : goal.stand-requires-clause-suits
stand-requires-clause-suits g c = c.requires.suits.around

pub stand-requires-clause-there : goal.stand-requires-clause-there
stand-requires-clause-there g c = c.requires.of

pub returns-in-DontKnowYet-clause-keeps : goal.returns-in-DontKnowYet-clause-keeps
returns-in-DontKnowYet-clause-keeps g c = record { site = refl; withs = refl; scopes = refl; fragments = refl; notes = refl }

pub is_broken-requires-clause-suits : goal.is_broken-requires-clause-suits
is_broken-requires-clause-suits g c = Suits_read c.stand.ensures.reads c.requires.suits.around

pub returns-in-DontKnowYet-is_broken-clause-keeps : goal.returns-in-DontKnowYet-is_broken-clause-keeps
returns-in-DontKnowYet-is_broken-clause-keeps g c = record { site = refl; withs = refl; scopes = refl; fragments = refl; notes = refl }

pub returns-then-value-clause-keeps : goal.returns-then-value-clause-keeps
returns-then-value-clause-keeps g c = record { site = refl; withs = refl; scopes = refl; fragments = refl; notes = refl }

pub alike-requires-clause-suits : goal.alike-requires-clause-suits
alike-requires-clause-suits g c = SuitsSite_read (Reads-trans c.stand.ensures.reads c.is_broken.ensures.reads) c.requires.suits

pub alike-requires-clause-want : goal.alike-requires-clause-want
alike-requires-clause-want g c = IsThere_read (Reads-trans c.stand.ensures.reads c.is_broken.ensures.reads) c.requires.want

pub alike-requires-clause-x : goal.alike-requires-clause-x
alike-requires-clause-x g c =
    still_coded (by_question c.args.self.now.notes.now c.args.self.now.fragments.now.nodes.items (Reads-trans c.stand.ensures.reads c.is_broken.ensures.reads)) c.args.x.coded c.requires.x

pub alike-requires-in-OpenArray-clause-suits : goal.alike-requires-in-OpenArray-clause-suits
alike-requires-in-OpenArray-clause-suits g c = SuitsSite_read c.stand.ensures.reads c.requires.suits

pub alike-requires-in-OpenArray-clause-want : goal.alike-requires-in-OpenArray-clause-want
alike-requires-in-OpenArray-clause-want g c = IsThere_read c.stand.ensures.reads c.requires.want

pub alike-requires-in-OpenArray-clause-x : goal.alike-requires-in-OpenArray-clause-x
alike-requires-in-OpenArray-clause-x g c =
    still_coded (by_question c.args.self.now.notes.now c.args.self.now.fragments.now.nodes.items c.stand.ensures.reads) c.args.x.coded c.requires.x

pub alike-requires-clause-kind : goal.alike-requires-clause-kind
alike-requires-clause-kind g c =
    subst (λ (m : RowMeaning). IsKindHere (g.S.Scopes.state c.is_broken.new.scopes).frame m) c.in-Array.is
    (stays_read (λ (e : Frame). IsKindHere e c.in-Known.value.1) (Reads-trans c.stand.ensures.reads c.is_broken.ensures.reads) record { place = c.in-Known.value.0; there = c.in-Known.ensures.there; ordinal = c.has_small_ordinal.ensures; said = c.in-Known.ensures.said })

pub alike-requires-in-OpenArray-clause-kind : goal.alike-requires-in-OpenArray-clause-kind
alike-requires-in-OpenArray-clause-kind g c =
    subst (λ (m : RowMeaning). IsKindHere (g.S.Scopes.state c.stand.new.scopes).frame m) c.in-OpenArray.is
    (stays_read (λ (e : Frame). IsKindHere e c.in-Known.value.1) c.stand.ensures.reads record { place = c.in-Known.value.0; there = c.in-Known.ensures.there; ordinal = c.has_small_ordinal.ensures; said = c.in-Known.ensures.said })

pub returns-in_default-clause-keeps : goal.returns-in_default-clause-keeps
returns-in_default-clause-keeps g c = record { site = refl; withs = refl; scopes = refl; fragments = refl; notes = refl }

pub returns-else-value-clause-keeps : goal.returns-else-value-clause-keeps
returns-else-value-clause-keeps g c =
    let k = c.alike.ensures.keeps in record { site = k.site; withs = k.withs; scopes = k.scopes; fragments = k.fragments; notes = k.notes }

pub returns-in-OpenArray-clause-keeps : goal.returns-in-OpenArray-clause-keeps
returns-in-OpenArray-clause-keeps g c =
    let k = c.alike-in-OpenArray.ensures.keeps in record { site = k.site; withs = k.withs; scopes = k.scopes; fragments = k.fragments; notes = k.notes }

pub returns-in-DontKnowYet-is_broken-clause-codes : goal.returns-in-DontKnowYet-is_broken-clause-codes
returns-in-DontKnowYet-is_broken-clause-codes g c =
    question_waits _ _ (Reads-trans c.stand.ensures.reads c.is_broken.ensures.reads) (Waits_read c.stand.ensures.reads c.in-DontKnowYet-is_broken.ensures.waits)

pub returns-then-value-clause-codes : goal.returns-then-value-clause-codes
returns-then-value-clause-codes g c =
    let f = (g.S.Scopes.state c.args.self.now.scopes.now).frame in
    let h = (g.S.Scopes.state c.stand.new.scopes).frame in
    let ns = c.args.self.now.fragments.now.nodes.items in
    let x = coded_in ns c.args.x.coded in
    let first = c.stand.ensures.reads in
    let broken = told_later f h (λ e made. c.in-Known-is_broken.value ≡ spec_broken (scene_of e made c.args.self.now.site.now.around.now) c.in-Array.index) first.keeps.frame c.in-Known-is_broken.ensures.told in
    after_question (Ok (Known None)) (Reads-trans first c.is_broken.ensures.reads) (none_passed (g.S.Scopes.state c.is_broken.new.scopes) c.args.self.now.notes.now ns c.args.self.now.site.now)
    (λ made in_hand told. let k = context_of f made c.args.self.now.site.now in
    chosen (spec_broken k.scene c.in-Array.index) (gives None) (alike k c.args.want c.args.x.at x (Array c.in-Array.index c.in-Array.element c.in-Array.field-2) c.in-Array.element) (sym (broken made in_hand told) ∙ c.if-value.true)
    ∙ ap (array_argument k c.args.want c.args.x.at x) (sym c.in-Array.is ∙ c.in-Known.ensures.kind made in_hand told))

pub returns-else-value-clause-codes : goal.returns-else-value-clause-codes
returns-else-value-clause-codes g c =
    let f = (g.S.Scopes.state c.args.self.now.scopes.now).frame in
    let h = (g.S.Scopes.state c.stand.new.scopes).frame in
    let x = coded_in c.args.self.now.fragments.now.nodes.items c.args.x.coded in
    let first = c.stand.ensures.reads in
    let broken = told_later f h (λ e made. c.in-Known-is_broken.value ≡ spec_broken (scene_of e made c.args.self.now.site.now.around.now) c.in-Array.index) first.keeps.frame c.in-Known-is_broken.ensures.told in
    after_question c.alike.result (Reads-trans first c.is_broken.ensures.reads) c.alike.ensures.codes
    (λ made in_hand told. let k = context_of f made c.args.self.now.site.now in
    other (spec_broken k.scene c.in-Array.index) (gives None) (alike k c.args.want c.args.x.at x (Array c.in-Array.index c.in-Array.element c.in-Array.field-2) c.in-Array.element) (sym (broken made in_hand told) ∙ c.if-value.false)
    ∙ ap (array_argument k c.args.want c.args.x.at x) (sym c.in-Array.is ∙ c.in-Known.ensures.kind made in_hand told))

pub returns-in-OpenArray-clause-codes : goal.returns-in-OpenArray-clause-codes
returns-in-OpenArray-clause-codes g c =
    after_question c.alike-in-OpenArray.result c.stand.ensures.reads c.alike-in-OpenArray.ensures.codes
    (λ made in_hand told. let k = context_of (g.S.Scopes.state c.args.self.now.scopes.now).frame made c.args.self.now.site.now in
    ap (array_argument k c.args.want c.args.x.at (coded_in c.args.self.now.fragments.now.nodes.items c.args.x.coded)) (sym c.in-OpenArray.is ∙ c.in-Known.ensures.kind made in_hand told))

pub returns-in_default-clause-codes : goal.returns-in_default-clause-codes
returns-in_default-clause-codes g c =
    let ns = c.args.self.now.fragments.now.nodes.items in
    let x = coded_in ns c.args.x.coded in
    after_question c.refuse_argument.result c.stand.ensures.reads (c.refuse_argument.ensures (g.S.Scopes.state c.stand.new.scopes) ns)
    (λ made in_hand told. let k = context_of (g.S.Scopes.state c.args.self.now.scopes.now).frame made c.args.self.now.site.now in
    other_array k c.args.want c.args.x.at x c.in-Known.value.1 c.in_default.not-Array c.in_default.not-OpenArray ∙ ap (array_argument k c.args.want c.args.x.at x) (c.in-Known.ensures.kind made in_hand told))

pub returns-in-DontKnowYet-clause-codes : goal.returns-in-DontKnowYet-clause-codes
returns-in-DontKnowYet-clause-codes g c = question_waits _ _ c.stand.ensures.reads c.in-DontKnowYet.ensures.waits
