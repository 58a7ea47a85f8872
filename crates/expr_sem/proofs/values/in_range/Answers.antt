use Rattle.std.proofs.Common.{◌≡◌, ◌∙◌, Ok, ap, false, of_z, option_map, refl, rules, subst, sym, to_z, true, w64}
use Rattle.m2_base.specs.States.{Frame}
use Rattle.m2_base.specs.Statics.Ranges.{is_within, range}
use Rattle.m2_base.specs.declared.replies.Ask.TheVariants.{Known}
use Rattle.expr_sem.specs.Codings.{IsCoded, coded_in}
use Rattle.block_code.specs.Values.{in_range_by}
use Rattle.type_rules.specs.Sites.{context_of}
use Rattle.expr_sem.proofs.Making.{after_question, question_waits}
use Rattle.expr_sem.proofs.Operating.{value_alone}
use Rattle.expr_sem.proofs.ValueCases.{range_kept, range_left, range_passed}
use Rattle.expr_sem.proofs.values.in_range.Goals as goal

pub returns-then-is_within : goal.returns-then-is_within
returns-then-is_within g c nodes h =
    let x = c.args.x.coded in
    let v = coded_in nodes x in
    let reads = c.in-Known.ensures.reads in
    let r = option_map (λ ends. range ends.0 ends.1) c.in-Known.value in
    let value : to_z w64 (of_z w64 c.in-Constant.value) ≡ c.in-Constant.value = search rules in
    let is : is_within r c.in-Constant.value ≡ true = ap (is_within r) (sym value) ∙ sym c.is_within.ensures ∙ c.if-is_within.true in
    after_question (Ok (Known x)) reads
    (value_alone (g.S.Scopes.state c.range_of.new.scopes) c.args.notes.now nodes c.args.site.now x IsCoded coded_in (λ k. v) (subst (λ (e : Frame). IsCoded e nodes x) (sym reads.keeps.frame) h) (λ k. refl))
    (λ made in_hand told. let k = context_of (g.S.Scopes.state c.args.scopes.now).frame made c.args.site.now in
    range_kept k c.args.x.at r v c.in-Constant.field-0 c.in-Constant.value is ∙ ap (in_range_by k c.args.x.at r v) (sym c.in-Constant.is) ∙ ap (λ r. in_range_by k c.args.x.at r v x.operand) (c.in-Known.ensures.told made in_hand told))

pub returns-else-is_within : goal.returns-else-is_within
returns-else-is_within g c nodes h =
    let x = c.args.x.coded in
    let v = coded_in nodes x in
    let r = option_map (λ ends. range ends.0 ends.1) c.in-Known.value in
    let value : to_z w64 (of_z w64 c.in-Constant.value) ≡ c.in-Constant.value = search rules in
    let is : is_within r c.in-Constant.value ≡ false = ap (is_within r) (sym value) ∙ sym c.is_within.ensures ∙ c.if-is_within.false in
    after_question c.refused.result c.in-Known.ensures.reads (c.refused.ensures (g.S.Scopes.state c.range_of.new.scopes) nodes)
    (λ made in_hand told. let k = context_of (g.S.Scopes.state c.args.scopes.now).frame made c.args.site.now in
    range_left k c.args.x.at r v c.in-Constant.field-0 c.in-Constant.value is ∙ ap (in_range_by k c.args.x.at r v) (sym c.in-Constant.is) ∙ ap (λ r. in_range_by k c.args.x.at r v x.operand) (c.in-Known.ensures.told made in_hand told))

pub returns-in_default : goal.returns-in_default
returns-in_default g c nodes h =
    let x = c.args.x.coded in
    let v = coded_in nodes x in
    let reads = c.in-Known.ensures.reads in
    let r = option_map (λ ends. range ends.0 ends.1) c.in-Known.value in
    after_question (Ok (Known x)) reads
    (value_alone (g.S.Scopes.state c.range_of.new.scopes) c.args.notes.now nodes c.args.site.now x IsCoded coded_in (λ k. v) (subst (λ (e : Frame). IsCoded e nodes x) (sym reads.keeps.frame) h) (λ k. refl))
    (λ made in_hand told. let k = context_of (g.S.Scopes.state c.args.scopes.now).frame made c.args.site.now in
    range_passed k c.args.x.at r v x.operand c.in_default.not-Constant ∙ ap (λ r. in_range_by k c.args.x.at r v x.operand) (c.in-Known.ensures.told made in_hand told))

pub returns-in-DontKnowYet : goal.returns-in-DontKnowYet
returns-in-DontKnowYet g c nodes h = question_waits _ nodes c.range_of.ensures.reads c.in-DontKnowYet.ensures.waits
