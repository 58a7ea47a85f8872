use Rattle.std.proofs.Common.{◌∙◌, ◌∷◌, [], Bool, Ok, ap, sym, subst, if◌then◌else◌}
use Rattle.m2_base.specs.Gives.{gives}
use Rattle.m2_base.specs.Standard.{cardinal}
use Rattle.m2_base.specs.States.{Frame}
use Rattle.m2_base.specs.Statics.Operands.{operand_type}
use Rattle.m2_base.specs.Statics.Types.{is_broken, kind_of, range_of}
use Rattle.m2_base.specs.declared.operands.Operand.TheVariants.{Computed}
use Rattle.m2_base.specs.declared.replies.Ask.TheVariants.{Known}
use Rattle.m2_base.specs.declared.rows.Place.{Place}
use Rattle.m2_base.specs.declared.rows.RowMeaning.{RowMeaning}
use Rattle.code_form.specs.declared.instr.Instr.TheVariants.{Push}
use Rattle.const_eval.proofs.TypesThere.{type_there}
use Rattle.type_rules.specs.Scenes.{IsThere}
use Rattle.type_rules.specs.Sites.{SuitsSite, context_of}
use Rattle.block_code.specs.Coded.{coded, in_error}
use Rattle.expr_sem.specs.Codings.{IsCoded, coded_in}
use Rattle.expr_sem.specs.Kinds.{IsKindHere}
use Rattle.block_code.specs.Parts.{plain}
use Rattle.block_code.specs.StandardFunctions.{as_variable, high_of, high_of_range, high_of_variable}
use Rattle.expr_sem.proofs.Following.{by_coding, by_question, followed_by, then_waits}
use Rattle.expr_sem.proofs.Highs.{index_there, no_high_of, open_high}
use Rattle.expr_sem.proofs.Making.{after_question}
use Rattle.expr_sem.proofs.Operating.{coding_after, described, unknown, unmade, value_alone}
use Rattle.expr_sem.proofs.Selecting.{error_alone, stays_read}
use Rattle.expr_sem.proofs.standard_functions.high_coded.Goals as goal

pub returns-in-DontKnowYet : goal.returns-in-DontKnowYet
returns-in-DontKnowYet g c = unknown (rw c.in-DontKnowYet.is at c.in-Ok.ensures (g.S.Scopes.state c.args.scopes.now) c.args.fragments.now.nodes.items c.requires.x)

pub returns-in-Err : goal.returns-in-Err
returns-in-Err g c = unmade (c.in-Err.ensures (g.S.Scopes.state c.args.scopes.now) c.args.fragments.now.nodes.items c.requires.x) _

pub returns-then-is_bad : goal.returns-then-is_bad
returns-then-is_bad g c =
    let ns = c.args.fragments.now.nodes.items in
    let v = coded_in ns c.in-Known.value in
    coding_after (λ k. as_variable k c.args.x.at (coded_in ns c.args.x.coded)) (λ u k. high_of_variable k c.args.x.at u) (Ok (Known c.in_error.result))
    (rw c.in-Known.is at c.in-Ok.ensures (g.S.Scopes.state c.args.scopes.now) ns c.requires.x)
    (error_alone _ _ _ _ c.in_error.result _ c.in_error.ensures.told c.in_error.ensures.there
    (λ k. ap (λ (b : Bool). if b then gives in_error else high_of k c.args.x.at v (kind_of k.scene (operand_type v.operand))) (sym c.if-is_bad.true ∙ c.is_bad.ensures)))

pub stand-requires-clause-there : goal.stand-requires-clause-there
stand-requires-clause-there g c =
    subst (λ (t : Place). IsThere (g.S.Scopes.state c.args.scopes.now).frame t) (sym c.operand_type.ensures)
    (type_there c.requires.suits.around c.in-Known.value.operand (rw c.in-Known.is at c.in-Ok.ensures (g.S.Scopes.state c.args.scopes.now) c.args.fragments.now.nodes.items c.requires.x).there.operand)

pub returns-in-DontKnowYet-stand : goal.returns-in-DontKnowYet-stand
returns-in-DontKnowYet-stand g c =
    then_waits (by_coding (c.in-Ok.ensures (g.S.Scopes.state c.args.scopes.now) c.args.fragments.now.nodes.items c.requires.x)) c.stand.ensures.reads c.in-DontKnowYet-stand.ensures.waits

pub is_broken-requires-clause-suits : goal.is_broken-requires-clause-suits
is_broken-requires-clause-suits g c = (stays_read (λ (f : Frame). SuitsSite f c.args.site.now) c.in-Known-stand.ensures.reads c.requires.suits).around

pub is_broken-requires-clause-there : goal.is_broken-requires-clause-there
is_broken-requires-clause-there g c =
    index_there c.in-Known-stand.value.1 c.in-Array.index _ _ c.in-Array.is (stays_read (λ (f : Frame). IsKindHere f c.in-Known-stand.value.1) c.in-Known-stand.ensures.reads (record { place = c.in-Known-stand.value.0; there = c.in-Known-stand.ensures.there; ordinal = c.has_small_ordinal.ensures; said = c.in-Known-stand.ensures.said }))

pub returns-in-DontKnowYet-is_broken : goal.returns-in-DontKnowYet-is_broken
returns-in-DontKnowYet-is_broken g c =
    let ns = c.args.fragments.now.nodes.items in
    then_waits (followed_by (by_coding (c.in-Ok.ensures (g.S.Scopes.state c.args.scopes.now) ns c.requires.x)) (by_question _ ns c.in-Known-stand.ensures.reads)) c.is_broken.ensures.reads c.in-DontKnowYet-is_broken.ensures.waits

pub returns-then-value : goal.returns-then-value
returns-then-value g c =
    let ns = c.args.fragments.now.nodes.items in
    let v = coded_in ns c.in-Known.value in
    let one = rw c.in-Known.is at c.in-Ok.ensures (g.S.Scopes.state c.args.scopes.now) ns c.requires.x in
    coding_after (λ k. as_variable k c.args.x.at (coded_in ns c.args.x.coded)) (λ u k. high_of_variable k c.args.x.at u) (Ok (Known c.in_error-then-value.result)) one
    (after_question _ c.in-Known-stand.ensures.reads
    (described (Ok (Known c.in_error-then-value.result))
    (after_question {h = λ k. if is_broken k.scene c.in-Array.index then gives in_error else gives (coded (Computed cardinal) (plain (Push (high_of_range (range_of k.scene c.in-Array.index)) ∷ [])))} (Ok (Known c.in_error-then-value.result)) c.in-Known-is_broken.ensures.reads
    (value_alone _ c.as_variable.new.notes ns c.args.site.now c.in_error-then-value.result IsCoded coded_in (λ k. in_error) (c.in_error-then-value.ensures.there _ ns) (λ k. c.in_error-then-value.ensures.told ns))
    (λ made in_hand told. let k = context_of (g.S.Scopes.state c.stand.new.scopes).frame made c.args.site.now in
    ap (λ (b : Bool). if b then gives in_error else gives (coded (Computed cardinal) (plain (Push (high_of_range (range_of k.scene c.in-Array.index)) ∷ [])))) (sym c.if-value.true ∙ c.in-Known-is_broken.ensures.told made in_hand told)))
    (λ k. ap (λ (m : RowMeaning). high_of k c.args.x.at v m) (sym c.in-Array.is)))
    (λ made in_hand told. let k = context_of (g.S.Scopes.state c.args.scopes.now).frame made c.args.site.now in
    ap (high_of k c.args.x.at v) (c.in-Known-stand.ensures.kind made in_hand told ∙ ap (kind_of k.scene) c.operand_type.ensures)
    ∙ ap (λ (b : Bool). if b then gives in_error else high_of k c.args.x.at v (kind_of k.scene (operand_type v.operand))) (sym c.if-is_bad.false ∙ c.is_bad.ensures)))

pub high_computed-requires-clause-suits : goal.high_computed-requires-clause-suits
high_computed-requires-clause-suits g c =
    stays_read (λ (f : Frame). SuitsSite f c.args.site.now) c.in-Known-is_broken.ensures.reads (stays_read (λ (f : Frame). SuitsSite f c.args.site.now) c.in-Known-stand.ensures.reads c.requires.suits)

pub high_computed-requires-clause-x : goal.high_computed-requires-clause-x
high_computed-requires-clause-x g c =
    let ns = c.args.fragments.now.nodes.items in
    let one = rw c.in-Known.is at c.in-Ok.ensures (g.S.Scopes.state c.args.scopes.now) ns c.requires.x in
    stays_read (λ (f : Frame). IsCoded f ns c.in-Known.value) c.in-Known-is_broken.ensures.reads (stays_read (λ (f : Frame). IsCoded f ns c.in-Known.value) c.in-Known-stand.ensures.reads one.there)

pub high_computed-requires-clause-kind : goal.high_computed-requires-clause-kind
high_computed-requires-clause-kind g c =
    subst (λ (m : RowMeaning). IsKindHere (g.S.Scopes.state c.is_broken.new.scopes).frame m) c.in-Array.is (stays_read (λ (f : Frame). IsKindHere f c.in-Known-stand.value.1) c.in-Known-is_broken.ensures.reads (stays_read (λ (f : Frame). IsKindHere f c.in-Known-stand.value.1) c.in-Known-stand.ensures.reads (record { place = c.in-Known-stand.value.0; there = c.in-Known-stand.ensures.there; ordinal = c.has_small_ordinal.ensures; said = c.in-Known-stand.ensures.said })))

pub returns-else-value : goal.returns-else-value
returns-else-value g c =
    let ns = c.args.fragments.now.nodes.items in
    let v = coded_in ns c.in-Known.value in
    let one = rw c.in-Known.is at c.in-Ok.ensures (g.S.Scopes.state c.args.scopes.now) ns c.requires.x in
    coding_after (λ k. as_variable k c.args.x.at (coded_in ns c.args.x.coded)) (λ u k. high_of_variable k c.args.x.at u) c.high_computed.result one
    (after_question c.high_computed.result c.in-Known-stand.ensures.reads
    (described c.high_computed.result
    (after_question {h = λ k. if is_broken k.scene c.in-Array.index then gives in_error else gives (coded (Computed cardinal) (plain (Push (high_of_range (range_of k.scene c.in-Array.index)) ∷ [])))} c.high_computed.result c.in-Known-is_broken.ensures.reads
    (c.high_computed.ensures c.as_variable.new.notes)
    (λ made in_hand told. let k = context_of (g.S.Scopes.state c.stand.new.scopes).frame made c.args.site.now in
    ap (λ (b : Bool). if b then gives in_error else gives (coded (Computed cardinal) (plain (Push (high_of_range (range_of k.scene c.in-Array.index)) ∷ [])))) (sym c.if-value.false ∙ c.in-Known-is_broken.ensures.told made in_hand told)))
    (λ k. ap (λ (m : RowMeaning). high_of k c.args.x.at v m) (sym c.in-Array.is)))
    (λ made in_hand told. let k = context_of (g.S.Scopes.state c.args.scopes.now).frame made c.args.site.now in
    ap (high_of k c.args.x.at v) (c.in-Known-stand.ensures.kind made in_hand told ∙ ap (kind_of k.scene) c.operand_type.ensures)
    ∙ ap (λ (b : Bool). if b then gives in_error else high_of k c.args.x.at v (kind_of k.scene (operand_type v.operand))) (sym c.if-is_bad.false ∙ c.is_bad.ensures)))

pub high_computed-requires-in-OpenArray-clause-suits : goal.high_computed-requires-in-OpenArray-clause-suits
high_computed-requires-in-OpenArray-clause-suits g c = stays_read (λ (f : Frame). SuitsSite f c.args.site.now) c.in-Known-stand.ensures.reads c.requires.suits

pub high_computed-requires-in-OpenArray-clause-x : goal.high_computed-requires-in-OpenArray-clause-x
high_computed-requires-in-OpenArray-clause-x g c =
    let ns = c.args.fragments.now.nodes.items in
    stays_read (λ (f : Frame). IsCoded f ns c.in-Known.value) c.in-Known-stand.ensures.reads (rw c.in-Known.is at c.in-Ok.ensures (g.S.Scopes.state c.args.scopes.now) ns c.requires.x).there

pub high_computed-requires-in-OpenArray-clause-kind : goal.high_computed-requires-in-OpenArray-clause-kind
high_computed-requires-in-OpenArray-clause-kind g c =
    stays_read (λ (f : Frame). IsKindHere f c.in-Known-stand.value.1) c.in-Known-stand.ensures.reads (record { place = c.in-Known-stand.value.0; there = c.in-Known-stand.ensures.there; ordinal = c.has_small_ordinal.ensures; said = c.in-Known-stand.ensures.said })

pub returns-in-OpenArray : goal.returns-in-OpenArray
returns-in-OpenArray g c =
    let ns = c.args.fragments.now.nodes.items in
    let v = coded_in ns c.in-Known.value in
    let one = rw c.in-Known.is at c.in-Ok.ensures (g.S.Scopes.state c.args.scopes.now) ns c.requires.x in
    coding_after (λ k. as_variable k c.args.x.at (coded_in ns c.args.x.coded)) (λ u k. high_of_variable k c.args.x.at u) c.high_computed-in-OpenArray.result one
    (after_question c.high_computed-in-OpenArray.result c.in-Known-stand.ensures.reads
    (described c.high_computed-in-OpenArray.result (c.high_computed-in-OpenArray.ensures c.as_variable.new.notes) (λ k. open_high k c.args.x.at v c.in-Known-stand.value.1 _ c.in-OpenArray.is))
    (λ made in_hand told. let k = context_of (g.S.Scopes.state c.args.scopes.now).frame made c.args.site.now in
    ap (high_of k c.args.x.at v) (c.in-Known-stand.ensures.kind made in_hand told ∙ ap (kind_of k.scene) c.operand_type.ensures)
    ∙ ap (λ (b : Bool). if b then gives in_error else high_of k c.args.x.at v (kind_of k.scene (operand_type v.operand))) (sym c.if-is_bad.false ∙ c.is_bad.ensures)))

pub returns-in_default : goal.returns-in_default
returns-in_default g c =
    let ns = c.args.fragments.now.nodes.items in
    let v = coded_in ns c.in-Known.value in
    let one = rw c.in-Known.is at c.in-Ok.ensures (g.S.Scopes.state c.args.scopes.now) ns c.requires.x in
    coding_after (λ k. as_variable k c.args.x.at (coded_in ns c.args.x.coded)) (λ u k. high_of_variable k c.args.x.at u) c.refused.result one
    (after_question c.refused.result c.in-Known-stand.ensures.reads
    (described c.refused.result (c.refused.ensures (g.S.Scopes.state c.stand.new.scopes) ns) (λ k. no_high_of k c.args.x.at v c.in-Known-stand.value.1 c.in_default.not-Array c.in_default.not-OpenArray))
    (λ made in_hand told. let k = context_of (g.S.Scopes.state c.args.scopes.now).frame made c.args.site.now in
    ap (high_of k c.args.x.at v) (c.in-Known-stand.ensures.kind made in_hand told ∙ ap (kind_of k.scene) c.operand_type.ensures)
    ∙ ap (λ (b : Bool). if b then gives in_error else high_of k c.args.x.at v (kind_of k.scene (operand_type v.operand))) (sym c.if-is_bad.false ∙ c.is_bad.ensures)))
