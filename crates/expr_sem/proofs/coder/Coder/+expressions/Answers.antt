use Rattle.std.proofs.Common.{◌∙◌, ◌≡◌, ℕ, ℤ, None, Ok, Option, Some, ap, arith, length, map, refl, rules, sym, to_z, true, w64}
use denote.Param.Weighed.{most}
use Rattle.std.specs.Prelude.{option_map}
use Rattle.m2_base.specs.Gives.{and_then, gives}
use Rattle.m2_base.specs.Standard.{character, whole as whole_type}
use Rattle.m2_base.specs.Statics.Sets.{element_of, set_base, set_type_of}
use Rattle.m2_base.specs.Trees.{expr_at, exprs, label_with, labels, nexts, selectors}
use Rattle.m2_base.specs.Views.{designator_view, expr_view, label_view, next_view, selector_view}
use Rattle.m2_base.specs.declared.operands.Operand.{Operand}
use Rattle.m2_base.specs.declared.operands.Operand.TheVariants.{Constant}
use Rattle.m2_base.specs.declared.replies.Ask.TheVariants.{Known}
use Rattle.m2_base.specs.declared.trees.expressions.Expr.{size-Expr}
use Rattle.m2_base.specs.declared.trees.expressions.ExprForm.TheVariants.{Set}
use Rattle.m2_base.specs.declared.trees.expressions.Label.{out-Label, size-Label}
use Rattle.m2_base.specs.declared.trees.expressions.Next.{size-Next}
use Rattle.m2_base.specs.declared.trees.expressions.Selector.{size-Selector}
use Rattle.m2_base.proofs.Seen.{call_seen, char_seen, deref_seen, designator_seen, field_seen, index_seen, label_seen, many_seen, name_seen, next_seen, number_seen, one_seen, plain_set_seen, string_seen, typed_set_seen}
use Rattle.type_rules.specs.Scenes.{Hand}
use Rattle.type_rules.specs.Sites.{SuitsSite, context_of}
use Rattle.const_eval.proofs.ReadParts.{at_seen, char_told, char_value, designator_at_seen, designator_read, form_read, high_read, label_read, low_read, next_read, number_told, number_value, read_expr, read_label, read_next, read_selector, selector_read}
use Rattle.const_eval.proofs.Sizes.{arguments_smaller, called_smaller, first_smaller, high_smaller, index_smaller, item_small, low_smaller, name_smaller, next_smaller, nexts_smaller, one_smaller, rest_smaller, set_smaller, set_type_smaller}
use Rattle.const_eval.proofs.TypesThere.{standard_there}
use Rattle.const_eval.proofs.Folding.{folded}
use Rattle.const_eval.proofs.Analysing.{and_then_assoc, noted_type}
use Rattle.const_eval.specs.Sites.{IsOperand}
use Rattle.m2_base.specs.States.{Frame}
use Rattle.expr_sem.proofs.Following.{by_coding, followed_by, then_unknown, then_wanted}
use Rattle.expr_sem.proofs.Without.{taken_as}
use Rattle.expr_sem.specs.ArgumentCodes.{IsArgument, argument_in, parameter_view}
use Rattle.block_code.specs.Arguments.{after_argument, argument}
use Rattle.expr_sem.specs.Callees.{called_in}
use Rattle.block_code.specs.Calls.{call_coded, called}
use Rattle.block_code.specs.Coded.{bare, in_error}
use Rattle.block_code.specs.Coded as code
use Rattle.expr_sem.specs.Codings.{IsCoded, coded_in, with_types}
use Rattle.block_code.specs.Elements.{select_element}
use Rattle.expr_sem.specs.ExpressionParts.{second_argument, all_passed, behind_first, called_as, called_with, index, member, next_passed, range_to, set_of, type_before}
use Rattle.block_code.specs.Expressions.{continued, designated, element, elements, expression, followed, indexed, looked_at, passed, selected, selector, value}
use Rattle.expr_sem.specs.Fragments.{part}
use Rattle.block_code.specs.Parts.{Part, none}
use Rattle.block_code.specs.StandardProcedures.{first_of_two, of_one_argument, of_two_arguments}
use Rattle.expr_sem.specs.declared.calls.Callable.{Callable}
use Rattle.expr_sem.specs.declared.fragments.Fragment.TheVariants.{Nothing}
use Rattle.expr_sem.proofs.ArgumentFolds.{argument_step, count_given, passed_whole}
use Rattle.expr_sem.proofs.Calling.{AreLeft, NoMatter, argument_later, as_error, behind_in, behind_there, callee_after, error_in, first_there, left_in, next_given as parameter_given, none_passed, params_after}
use Rattle.expr_sem.proofs.StandardArguments.{none_given, one_argument_given, two_arguments_given}
use Rattle.expr_sem.proofs.Sequencing.{Grows-trans, part_later}
use Rattle.block_code.specs.Operators.{one_coded, two_coded}
use Rattle.block_code.specs.RecordFields.{name_coded}
use Rattle.expr_sem.specs.SetCodings.{AreElements, elements_in}
use Rattle.block_code.specs.SetElements as sets
use Rattle.block_code.specs.SetElements.{add_element, add_range, element_coded, no_elements_yet, set_coded}
use Rattle.block_code.specs.Values.{as_value}
use Rattle.expr_sem.proofs.ExpressionFolds.{indices_folded, labels_folded, looked_folded, nexts_folded, selectors_folded}
use Rattle.expr_sem.proofs.Onwards.{coded_after, holds_after, suits_after}
use Rattle.expr_sem.proofs.Coders.{Keeps-refl, Keeps-trans}
use Rattle.expr_sem.proofs.Operating.{coded_later, coding_after, described, described_there, of_analysed, unknown, unknown_after, unmade, unmade_after, value_alone}
use Rattle.expr_sem.proofs.PartsGiven.{form_given, many_given, next_given, one_given, one_label_given, range_given, typed_set_given}
use Rattle.expr_sem.proofs.Walking.{elements_after, elements_later, one_more, open_after, stands_after, start_of, started, there_after, whole}
use Rattle.expr_sem.proofs.coder.Coder.+expressions.Goals as goal

pub value_of-expression-requires : goal.value_of-expression-requires
value_of-expression-requires g t c κs within = (search rules, (within, (c.requires.suits, (c.requires.withs, (c.requires.read)))))

pub value_of-returns-in-DontKnowYet-clause-codes : goal.value_of-returns-in-DontKnowYet-clause-codes
value_of-returns-in-DontKnowYet-clause-codes g t c = unknown (rw c.in-DontKnowYet.is at c.in-Ok.ensures.codes)

pub value_of-returns-in-Err-clause-codes : goal.value_of-returns-in-Err-clause-codes
value_of-returns-in-Err-clause-codes g t c = unmade c.in-Err.ensures.codes _

pub value_of-returns-clause-codes : goal.value_of-returns-clause-codes
value_of-returns-clause-codes g t c =
    let one = (rw c.in-Known.is at c.in-Ok.ensures.codes) in
    described c.as_value.result (coding_after (λ k. expression k (with_types c.args.self.now.withs.now) (expr_view c.args.e.now)) (λ o k. as_value k c.args.e.now.at o) c.as_value.result one ((rw c.expression.ensures.keeps.site at (c.as_value.ensures (g.S.Scopes.state c.expression.new.self.scopes.now) c.expression.new.self.fragments.now.nodes.items (stands_after one))))) (λ k. ap (λ (at : ℕ). and_then (expression k (with_types c.args.self.now.withs.now) (expr_view c.args.e.now)) (λ o. as_value k at o)) (sym (at_seen c.args.e.now)))

pub member-value_of-requires : goal.member-value_of-requires
member-value_of-requires g t c κs within = (search rules, (within, (c.requires.suits, (c.requires.withs, (c.requires.read)))))

pub member-returns-in-DontKnowYet-clause-codes : goal.member-returns-in-DontKnowYet-clause-codes
member-returns-in-DontKnowYet-clause-codes g t c = unknown (rw c.in-DontKnowYet.is at c.in-Ok.ensures.codes)

pub member-returns-in-Err-clause-codes : goal.member-returns-in-Err-clause-codes
member-returns-in-Err-clause-codes g t c = unmade c.in-Err.ensures.codes _

pub member-taken-requires-clause-suits : goal.member-taken-requires-clause-suits
member-taken-requires-clause-suits g t c = (rw c.value_of.ensures.keeps.site (suits_after (rw c.in-Known.is at c.in-Ok.ensures.codes) c.requires.suits))

pub member-taken-requires-clause-base : goal.member-taken-requires-clause-base
member-taken-requires-clause-base g t c = there_after (rw c.in-Known.is at c.in-Ok.ensures.codes) c.args.base c.requires.base

pub member-taken-requires-clause-x : goal.member-taken-requires-clause-x
member-taken-requires-clause-x g t c = (stands_after (rw c.in-Known.is at c.in-Ok.ensures.codes)).operand

pub member-returns-in-DontKnowYet-asked-clause-codes : goal.member-returns-in-DontKnowYet-asked-clause-codes
member-returns-in-DontKnowYet-asked-clause-codes g t c = unknown_after (rw c.in-Known.is at c.in-Ok.ensures.codes) (rw c.value_of.ensures.keeps.site at (of_analysed c.value_of.new.self.fragments.now.nodes.items _ (rw c.in-DontKnowYet-asked.is at c.in-Ok-taken.ensures)))

pub member-returns-in-Err-taken-clause-codes : goal.member-returns-in-Err-taken-clause-codes
member-returns-in-Err-taken-clause-codes g t c = unmade_after (rw c.in-Known.is at c.in-Ok.ensures.codes) (rw c.value_of.ensures.keeps.site at (of_analysed c.value_of.new.self.fragments.now.nodes.items _ c.in-Err-taken.ensures)) _

pub member-returns-in-InError-clause-codes : goal.member-returns-in-InError-clause-codes
member-returns-in-InError-clause-codes g t c =
    let e = c.args.e.now in
    let v = coded_in c.value_of.new.self.fragments.now.nodes.items c.in-Known.value in
    let u = c.in-Known-asked.value in
    let state = g.S.Scopes.state c.taken.new.scopes in
    let r = Ok (Known c.in_error.result) in
    described r (coding_after (λ k. value k (with_types c.args.self.now.withs.now) (expr_view e)) (λ v k. element_coded k c.args.base e.at v) r (rw c.in-Known.is at c.in-Ok.ensures.codes)
    (coding_after (λ k. element_of k c.args.base e.at c.in-Known.value.operand) (λ u k. gives (sets.element_as v u)) r (rw c.value_of.ensures.keeps.site at (of_analysed c.value_of.new.self.fragments.now.nodes.items _ (rw c.in-Known-asked.is at c.in-Ok-taken.ensures)))
    (value_alone state c.taken.new.notes c.value_of.new.self.fragments.now.nodes.items c.args.self.now.site.now c.in_error.result IsCoded coded_in (λ k. sets.element_as v u) (c.in_error.ensures.there state.frame c.value_of.new.self.fragments.now.nodes.items) (λ k. c.in_error.ensures.told c.value_of.new.self.fragments.now.nodes.items ∙ ap (sets.element_as v) (sym c.in-InError.is)))))
    (λ k. ap (λ (at : ℕ). and_then (value k (with_types c.args.self.now.withs.now) (expr_view e)) (λ v. element_coded k c.args.base at v)) (sym (at_seen e)))

pub member-returns-in_default-clause-codes : goal.member-returns-in_default-clause-codes
member-returns-in_default-clause-codes g t c =
    let told_first = rw c.in-Known.is at c.in-Ok.ensures.codes in
    let e = c.args.e.now in
    let v = coded_in c.value_of.new.self.fragments.now.nodes.items c.in-Known.value in
    let u = c.in-Known-asked.value in
    let r = Ok (Known c.taken-in_default.result) in
    let first = rw c.in-Known-asked.is at c.in-Ok-taken.ensures in
    let two = of_analysed c.value_of.new.self.fragments.now.nodes.items _ first in
    described r (coding_after (λ k. value k (with_types c.args.self.now.withs.now) (expr_view e)) (λ v k. element_coded k c.args.base e.at v) r told_first
    (coding_after (λ k. element_of k c.args.base e.at c.in-Known.value.operand) (λ u k. gives (sets.element_as v u)) r (rw c.value_of.ensures.keeps.site at two)
    (value_alone (g.S.Scopes.state c.taken.new.scopes) c.taken.new.notes c.value_of.new.self.fragments.now.nodes.items c.args.self.now.site.now c.taken-in_default.result IsCoded coded_in (λ k. sets.element_as v u) (c.taken-in_default.ensures.there _ c.value_of.new.self.fragments.now.nodes.items (holds_after two (λ (f : Frame). IsOperand f u) first.there) (coded_after two c.in-Known.value (stands_after told_first))) (λ k. c.taken-in_default.ensures.told c.value_of.new.self.fragments.now.nodes.items ∙ taken_as v u c.in_default.not-InError))))
    (λ k. ap (λ (at : ℕ). and_then (value k (with_types c.args.self.now.withs.now) (expr_view e)) (λ v. element_coded k c.args.base at v)) (sym (at_seen e)))

pub set_type-designated-requires : goal.set_type-designated-requires
set_type-designated-requires g t c κs within = (search rules, (within, (c.requires.suits, (c.requires.withs, (c.requires.read)))))

pub set_type-returns-in-DontKnowYet-clause-codes : goal.set_type-returns-in-DontKnowYet-clause-codes
set_type-returns-in-DontKnowYet-clause-codes g t c = unknown (rw c.in-DontKnowYet.is at c.in-Ok.ensures.codes)

pub set_type-returns-in-Err-clause-codes : goal.set_type-returns-in-Err-clause-codes
set_type-returns-in-Err-clause-codes g t c = unmade c.in-Err.ensures.codes _

pub set_type-set_type_of-given-requires-clause-suits : goal.set_type-set_type_of-given-requires-clause-suits
set_type-set_type_of-given-requires-clause-suits g t c = rw c.designated.ensures.keeps.site (suits_after (rw c.in-Known.is at c.in-Ok.ensures.codes) c.requires.suits)

pub set_type-set_type_of-given-requires-clause-x : goal.set_type-set_type_of-given-requires-clause-x
set_type-set_type_of-given-requires-clause-x g t c = (stands_after (rw c.in-Known.is at c.in-Ok.ensures.codes)).operand

pub set_type-returns-clause-codes : goal.set_type-returns-clause-codes
set_type-returns-clause-codes g t c =
    let one = (rw c.in-Known.is at c.in-Ok.ensures.codes) in
    let d = c.args.of.now in
    let suits : SuitsSite (g.S.Scopes.state c.designated.new.self.scopes.now).frame c.designated.new.self.site.now = rw c.designated.ensures.keeps.site (suits_after one c.requires.suits) in
    let noted = noted_type c.designated.new.self.notes.now c.note_type.new.notes c.designated.new.self.site.now c.set_type_of-given.result c.note_type.result (λ k. set_type_of k d.first.at c.in-Known.value.operand)
    c.note_type.ensures.answers c.note_type.ensures.diags c.note_type.ensures.waits c.note_type.ensures.there c.note_type.ensures.told
    (standard_there suits.around 10) c.set_type_of-given.ensures.reads c.set_type_of-given.ensures.waits c.set_type_of-given.ensures.told c.set_type_of-given.ensures.there in
    described c.note_type.result (coding_after (λ k. designated k (with_types c.args.self.now.withs.now) (designator_view d)) (λ x k. set_type_of k d.first.at x.operand) c.note_type.result one (rw c.designated.ensures.keeps.site at (of_analysed c.designated.new.self.fragments.now.nodes.items c.note_type.result noted))) (λ k. ap (λ (at : ℕ). and_then (designated k (with_types c.args.self.now.withs.now) (designator_view d)) (λ x. set_type_of k at x.operand)) (sym (designator_at_seen d)))

pub set_of-returns-in-DontKnowYet-clause-codes : goal.set_of-returns-in-DontKnowYet-clause-codes
set_of-returns-in-DontKnowYet-clause-codes g t c = unknown (rw c.in-DontKnowYet.is at (started c.args.self.now.notes.now c.args.self.now.fragments.now.nodes.items c.args.self.now.site.now c.set_start.result c.args.of c.set_start.ensures.reads c.set_start.ensures.waits c.set_start.ensures.based c.set_start.ensures.told c.set_start.ensures.base c.set_start.ensures.elements))

pub set_of-elements-requires : goal.set_of-elements-requires
set_of-elements-requires g t c κs within =
    let told_first = rw c.in-Known.is at (started c.args.self.now.notes.now c.args.self.now.fragments.now.nodes.items c.args.self.now.site.now c.set_start.result c.args.of c.set_start.ensures.reads c.set_start.ensures.waits c.set_start.ensures.based c.set_start.ensures.told c.set_start.ensures.base c.set_start.ensures.elements) in
    (search rules, (within, (suits_after told_first c.requires.suits, (open_after told_first c.args.self.now.withs.now c.requires.withs, ((stands_after told_first).0, ((stands_after told_first).1, (c.requires.read)))))))

pub set_of-returns-in-DontKnowYet-asked-clause-codes : goal.set_of-returns-in-DontKnowYet-asked-clause-codes
set_of-returns-in-DontKnowYet-asked-clause-codes g t c = unknown_after (rw c.in-Known.is at (started c.args.self.now.notes.now c.args.self.now.fragments.now.nodes.items c.args.self.now.site.now c.set_start.result c.args.of c.set_start.ensures.reads c.set_start.ensures.waits c.set_start.ensures.based c.set_start.ensures.told c.set_start.ensures.base c.set_start.ensures.elements)) (rw c.in-DontKnowYet-asked.is at c.in-Ok.ensures.codes)

pub set_of-returns-in-Err-clause-codes : goal.set_of-returns-in-Err-clause-codes
set_of-returns-in-Err-clause-codes g t c = unmade_after (rw c.in-Known.is at (started c.args.self.now.notes.now c.args.self.now.fragments.now.nodes.items c.args.self.now.site.now c.set_start.result c.args.of c.set_start.ensures.reads c.set_start.ensures.waits c.set_start.ensures.based c.set_start.ensures.told c.set_start.ensures.base c.set_start.ensures.elements)) c.in-Err.ensures.codes _

pub set_of-returns-clause-codes : goal.set_of-returns-clause-codes
set_of-returns-clause-codes g t c =
    let first = (rw c.in-Known.is at (started c.args.self.now.notes.now c.args.self.now.fragments.now.nodes.items c.args.self.now.site.now c.set_start.result c.args.of c.set_start.ensures.reads c.set_start.ensures.waits c.set_start.ensures.based c.set_start.ensures.told c.set_start.ensures.base c.set_start.ensures.elements)) in
    let more = (rw c.in-Known-asked.is at c.in-Ok.ensures.codes) in
    coding_after (λ k. gives (start_of (set_base k c.args.of) (no_elements_yet k c.args.of))) (λ start k. and_then (elements k (with_types c.args.self.now.withs.now) start.0 start.1 (labels (map label_view c.args.items.now))) (λ es. gives (set_coded c.args.of es))) c.set_coded.result first (coding_after _ (λ es k. gives (set_coded c.args.of es)) c.set_coded.result more (c.set_coded.ensures (g.S.Scopes.state c.elements.new.self.scopes.now) c.elements.new.self.notes.now c.args.self.now.site.now (there_after more c.args.of (there_after first c.args.of c.requires.of)) (stands_after more)))

pub element-member-requires : goal.element-member-requires
element-member-requires g t c κs within = ((let small = low_smaller c.args.label.now in omega (arith, small, c.decreases)), (within, (c.requires.suits, (c.requires.withs, (c.requires.base, (low_read c.args.self.now.site.now.texts.now.names (expr_view (out-Label c.args.label.now).low) (option_map expr_view (out-Label c.args.label.now).high) (label_read c.args.self.now.site.now.texts.now.names c.args.label.now c.requires.read)))))))

pub element-returns-in-DontKnowYet-clause-codes : goal.element-returns-in-DontKnowYet-clause-codes
element-returns-in-DontKnowYet-clause-codes g t c = unknown (rw c.in-DontKnowYet.is at c.in-Ok.ensures.codes)

pub element-returns-in-Err-clause-codes : goal.element-returns-in-Err-clause-codes
element-returns-in-Err-clause-codes g t c = unmade c.in-Err.ensures.codes _

pub element-add_element-requires-clause-suits : goal.element-add_element-requires-clause-suits
element-add_element-requires-clause-suits g t c = (rw c.member.ensures.keeps.site (suits_after (rw c.in-Known.is at c.in-Ok.ensures.codes) c.requires.suits))

pub element-add_element-requires-clause-es : goal.element-add_element-requires-clause-es
element-add_element-requires-clause-es g t c = elements_after (rw c.in-Known.is at c.in-Ok.ensures.codes) c.args.es c.requires.es

pub element-add_element-requires-clause-x : goal.element-add_element-requires-clause-x
element-add_element-requires-clause-x g t c = stands_after (rw c.in-Known.is at c.in-Ok.ensures.codes)

pub element-returns-in-None-clause-codes : goal.element-returns-in-None-clause-codes
element-returns-in-None-clause-codes g t c =
    let one = (rw c.in-Known.is at c.in-Ok.ensures.codes) in
    let es = elements_in c.args.self.now.fragments.now.nodes.items c.args.es in
    described c.add_element.result (coding_after (λ k. member k (with_types c.args.self.now.withs.now) c.args.base (expr_view (out-Label c.args.label.now).low)) (λ o k. gives (add_element k es o)) c.add_element.result one (described c.add_element.result ((rw c.member.ensures.keeps.site at c.add_element.ensures.codes)) (λ k. ap (λ (u : sets.Elements). gives (add_element k u (coded_in c.member.new.self.fragments.now.nodes.items c.in-Known.value))) (elements_later one.grows c.args.es c.requires.es)))) (λ k. one_label_given k (with_types c.args.self.now.withs.now) c.args.base es (expr_view (out-Label c.args.label.now).low)
    ∙ ap (element k (with_types c.args.self.now.withs.now) c.args.base es) (sym (label_seen c.args.label.now ∙ ap (λ h. label_with (expr_view (out-Label c.args.label.now).low) (option_map expr_view h)) c.in-None.is)))

pub range_to-member-requires : goal.range_to-member-requires
range_to-member-requires g t c κs within = (search rules, (within, (c.requires.suits, (c.requires.withs, (c.requires.base, (c.requires.read))))))

pub range_to-returns-in-DontKnowYet-clause-codes : goal.range_to-returns-in-DontKnowYet-clause-codes
range_to-returns-in-DontKnowYet-clause-codes g t c = unknown (rw c.in-DontKnowYet.is at c.in-Ok.ensures.codes)

pub range_to-returns-in-Err-clause-codes : goal.range_to-returns-in-Err-clause-codes
range_to-returns-in-Err-clause-codes g t c = unmade c.in-Err.ensures.codes _

pub range_to-add_range-requires-clause-suits : goal.range_to-add_range-requires-clause-suits
range_to-add_range-requires-clause-suits g t c = (rw c.member.ensures.keeps.site (suits_after (rw c.in-Known.is at c.in-Ok.ensures.codes) c.requires.suits))

pub range_to-add_range-requires-clause-es : goal.range_to-add_range-requires-clause-es
range_to-add_range-requires-clause-es g t c = elements_after (rw c.in-Known.is at c.in-Ok.ensures.codes) c.args.es c.requires.es

pub range_to-add_range-requires-clause-x : goal.range_to-add_range-requires-clause-x
range_to-add_range-requires-clause-x g t c = coded_after (rw c.in-Known.is at c.in-Ok.ensures.codes) c.args.low c.requires.low

pub range_to-add_range-requires-clause-y : goal.range_to-add_range-requires-clause-y
range_to-add_range-requires-clause-y g t c = stands_after (rw c.in-Known.is at c.in-Ok.ensures.codes)

pub range_to-returns-clause-codes : goal.range_to-returns-clause-codes
range_to-returns-clause-codes g t c =
    let one = (rw c.in-Known.is at c.in-Ok.ensures.codes) in
    let es = elements_in c.args.self.now.fragments.now.nodes.items c.args.es in
    let high = coded_in c.member.new.self.fragments.now.nodes.items c.in-Known.value in
    coding_after (λ k. member k (with_types c.args.self.now.withs.now) c.args.base (expr_view c.args.high.now)) (λ p k. gives (add_range k es (coded_in c.args.self.now.fragments.now.nodes.items c.args.low) p)) c.add_range.result one (described c.add_range.result ((rw c.member.ensures.keeps.site at c.add_range.ensures.codes)) (λ k. ap (λ (u : sets.Elements). gives (add_range k u (coded_in c.member.new.self.fragments.now.nodes.items c.args.low) high)) (elements_later one.grows c.args.es c.requires.es) ∙ ap (λ (l : code.Coded). gives (add_range k es l high)) (coded_later one.grows c.args.low c.requires.low)))

pub element-range_to-requires : goal.element-range_to-requires
element-range_to-requires g t c κs within =
    let told_first = rw c.in-Known.is at c.in-Ok.ensures.codes in
    ((let small = high_smaller c.args.label.now c.in-Some.high c.in-Some.is in omega (arith, small, c.decreases)), (within, ((rw c.member.ensures.keeps.site (suits_after told_first c.requires.suits)), ((rw c.member.ensures.keeps.withs (open_after told_first c.args.self.now.withs.now c.requires.withs)), (there_after told_first c.args.base c.requires.base, (elements_after told_first c.args.es c.requires.es, (stands_after told_first, (rw c.member.ensures.keeps.site (high_read c.args.self.now.site.now.texts.now.names (expr_view (out-Label c.args.label.now).low) (expr_view c.in-Some.high) (rw (ap (option_map expr_view) c.in-Some.is) at (label_read c.args.self.now.site.now.texts.now.names c.args.label.now c.requires.read)))))))))))

pub element-returns-in-Some-clause-codes : goal.element-returns-in-Some-clause-codes
element-returns-in-Some-clause-codes g t c =
    let one = (rw c.in-Known.is at c.in-Ok.ensures.codes) in
    let es = elements_in c.args.self.now.fragments.now.nodes.items c.args.es in
    let high = expr_view c.in-Some.high in
    described c.range_to.result (coding_after (λ k. member k (with_types c.args.self.now.withs.now) c.args.base (expr_view (out-Label c.args.label.now).low)) (λ o k. range_to k (with_types c.args.self.now.withs.now) c.args.base es o high) c.range_to.result one
    (described c.range_to.result (rw c.member.ensures.keeps.withs at (rw c.member.ensures.keeps.site at c.range_to.ensures.codes)) (λ k. ap (λ (u : sets.Elements). range_to k (with_types c.args.self.now.withs.now) c.args.base u (coded_in c.member.new.self.fragments.now.nodes.items c.in-Known.value) high) (elements_later one.grows c.args.es c.requires.es)))) (λ k. range_given k (with_types c.args.self.now.withs.now) c.args.base es (expr_view (out-Label c.args.label.now).low) high
    ∙ ap (element k (with_types c.args.self.now.withs.now) c.args.base es) (sym (label_seen c.args.label.now ∙ ap (λ h. label_with (expr_view (out-Label c.args.label.now).low) (option_map expr_view h)) c.in-Some.is)))

pub called_with-returns-in-DontKnowYet-clause-codes : goal.called_with-returns-in-DontKnowYet-clause-codes
called_with-returns-in-DontKnowYet-clause-codes g t c = unknown (rw c.in-DontKnowYet.is at c.in-Ok.ensures.codes)

pub called_with-returns-in-Err-clause-codes : goal.called_with-returns-in-Err-clause-codes
called_with-returns-in-Err-clause-codes g t c = unmade c.in-Err.ensures.codes _

pub called_with-standard-requires : goal.called_with-standard-requires
called_with-standard-requires g t c κs within =
    let told_first = rw c.in-Known.is at c.in-Ok.ensures.codes in
    (search rules, (within, ((rw c.called.ensures.keeps.site (suits_after told_first c.requires.suits)), ((rw c.called.ensures.keeps.withs (open_after told_first c.args.self.now.withs.now c.requires.withs)), (rw c.called.ensures.keeps.site c.requires.read)))))

pub called_with-returns-in-Standard-clause-codes : goal.called_with-returns-in-Standard-clause-codes
called_with-returns-in-Standard-clause-codes g t c =
    let r = c.standard.result in
    described r (coding_after (λ k. called k c.args.is_wanted c.args.to.at (length c.args.args.now) (coded_in c.args.self.now.fragments.now.nodes.items c.args.to.coded)) (λ what k. called_as k (with_types c.args.self.now.withs.now) (exprs (map expr_view c.args.args.now)) what) r (rw c.in-Known.is at c.in-Ok.ensures.codes) (described r (rw c.called.ensures.keeps.withs at (rw c.called.ensures.keeps.site at c.standard.ensures.codes)) (λ k. ap (λ (w : Callable). called_as k (with_types c.args.self.now.withs.now) (exprs (map expr_view c.args.args.now)) (called_in c.called.new.self.fragments.now.nodes.items w)) (sym c.in-Standard.is))))
    (λ k. ap (λ (n : ℕ). and_then (called k c.args.is_wanted c.args.to.at n (coded_in c.args.self.now.fragments.now.nodes.items c.args.to.coded)) (λ what. called_as k (with_types c.args.self.now.withs.now) (exprs (map expr_view c.args.args.now)) what)) (count_given expr_view c.args.args.now))

pub called_with-passed-requires : goal.called_with-passed-requires
called_with-passed-requires g t c κs within =
    let told_first = rw c.in-Known.is at c.in-Ok.ensures.codes in
    (search rules, (within, ((rw c.called.ensures.keeps.site (suits_after told_first c.requires.suits)), ((rw c.called.ensures.keeps.withs (open_after told_first c.args.self.now.withs.now c.requires.withs)), (rw c.deref.ensures.value (rw c.in-Procedure.is at (stands_after told_first)).params, (rw c.called.ensures.keeps.site c.requires.read))))))

pub called_with-returns-in-DontKnowYet-asked-clause-codes : goal.called_with-returns-in-DontKnowYet-asked-clause-codes
called_with-returns-in-DontKnowYet-asked-clause-codes g t c = unknown_after (rw c.in-Known.is at c.in-Ok.ensures.codes) (rw c.called.ensures.keeps.withs at (rw c.called.ensures.keeps.site at (rw c.in-DontKnowYet-asked.is at c.in-Ok-passed.ensures.codes)))

pub called_with-returns-in-Err-passed-clause-codes : goal.called_with-returns-in-Err-passed-clause-codes
called_with-returns-in-Err-passed-clause-codes g t c = unmade_after (rw c.in-Known.is at c.in-Ok.ensures.codes) (rw c.called.ensures.keeps.withs at (rw c.called.ensures.keeps.site at c.in-Err-passed.ensures.codes)) _

pub called_with-call_coded-requires-clause-suits : goal.called_with-call_coded-requires-clause-suits
called_with-call_coded-requires-clause-suits g t c = rw c.passed.ensures.keeps.site (suits_after (rw c.in-Known-asked.is at c.in-Ok-passed.ensures.codes) (rw c.called.ensures.keeps.site (suits_after (rw c.in-Known.is at c.in-Ok.ensures.codes) c.requires.suits)))

pub called_with-call_coded-requires-clause-callee : goal.called_with-call_coded-requires-clause-callee
called_with-call_coded-requires-clause-callee g t c = callee_after (rw c.in-Known-asked.is at c.in-Ok-passed.ensures.codes) c.in-Procedure.callee (rw c.in-Procedure.is at (stands_after (rw c.in-Known.is at c.in-Ok.ensures.codes)))

pub called_with-call_coded-requires-clause-args : goal.called_with-call_coded-requires-clause-args
called_with-call_coded-requires-clause-args g t c = stands_after (rw c.in-Known-asked.is at c.in-Ok-passed.ensures.codes)

pub called_with-returns-in-Procedure-clause-codes : goal.called_with-returns-in-Procedure-clause-codes
called_with-returns-in-Procedure-clause-codes g t c =
    let told_first = rw c.in-Known.is at c.in-Ok.ensures.codes in
    let r = c.call_coded.result in
    let two = (rw c.deref.ensures.value at (rw c.called.ensures.keeps.withs at (rw c.called.ensures.keeps.site at (rw c.in-Known-asked.is at c.in-Ok-passed.ensures.codes)))) in
    let p = c.in-Procedure.callee in
    described r (coding_after (λ k. called k c.args.is_wanted c.args.to.at (length c.args.args.now) (coded_in c.args.self.now.fragments.now.nodes.items c.args.to.coded)) (λ what k. called_as k (with_types c.args.self.now.withs.now) (exprs (map expr_view c.args.args.now)) what) r told_first (described r (coding_after (λ k. passed k (with_types c.args.self.now.withs.now) (map parameter_view p.params.items) (exprs (map expr_view c.args.args.now))) (λ codes k. gives (call_coded k.scene (map parameter_view p.params.items) (part (c.called.new.self.fragments.now.nodes.items) p.before) p.instr p.result p.more codes)) r two
    (described r (rw c.called.ensures.keeps.site at (rw c.passed.ensures.keeps.site at c.call_coded.ensures.codes)) (λ k. ap (λ (before : Part). gives (call_coded k.scene (map parameter_view p.params.items) before p.instr p.result p.more (argument_in (c.passed.new.self.fragments.now.nodes.items) c.in-Known-asked.value))) (part_later two.grows p.before (rw c.in-Procedure.is at (stands_after told_first)).before)))) (λ k. ap (λ (w : Callable). called_as k (with_types c.args.self.now.withs.now) (exprs (map expr_view c.args.args.now)) (called_in c.called.new.self.fragments.now.nodes.items w)) (sym c.in-Procedure.is))))
    (λ k. ap (λ (n : ℕ). and_then (called k c.args.is_wanted c.args.to.at n (coded_in c.args.self.now.fragments.now.nodes.items c.args.to.coded)) (λ what. called_as k (with_types c.args.self.now.withs.now) (exprs (map expr_view c.args.args.now)) what)) (count_given expr_view c.args.args.now))

pub called_with-passed-requires-in-Lacking : goal.called_with-passed-requires-in-Lacking
called_with-passed-requires-in-Lacking g t c κs within =
    let told_first = rw c.in-Known.is at c.in-Ok.ensures.codes in
    (search rules, (within, ((rw c.called.ensures.keeps.site (suits_after told_first c.requires.suits)), ((rw c.called.ensures.keeps.withs (open_after told_first c.args.self.now.withs.now c.requires.withs)), (rw c.deref-in-Lacking.ensures.value (rw c.in-Lacking.is at (stands_after told_first)), (rw c.called.ensures.keeps.site c.requires.read))))))

pub called_with-returns-in-DontKnowYet-asked-2-clause-codes : goal.called_with-returns-in-DontKnowYet-asked-2-clause-codes
called_with-returns-in-DontKnowYet-asked-2-clause-codes g t c = unknown_after (rw c.in-Known.is at c.in-Ok.ensures.codes) (rw c.called.ensures.keeps.withs at (rw c.called.ensures.keeps.site at (rw c.in-DontKnowYet-asked-2.is at c.in-Ok-passed-2.ensures.codes)))

pub called_with-returns-in-Err-passed-2-clause-codes : goal.called_with-returns-in-Err-passed-2-clause-codes
called_with-returns-in-Err-passed-2-clause-codes g t c = unmade_after (rw c.in-Known.is at c.in-Ok.ensures.codes) (rw c.called.ensures.keeps.withs at (rw c.called.ensures.keeps.site at c.in-Err-passed-2.ensures.codes)) _

pub called_with-returns-in-Lacking-clause-codes : goal.called_with-returns-in-Lacking-clause-codes
called_with-returns-in-Lacking-clause-codes g t c =
    let r = Ok (Known c.in_error.result) in
    let ms = c.passed-in-Lacking.new.self.fragments.now.nodes.items in
    let state = g.S.Scopes.state c.passed-in-Lacking.new.self.scopes.now in
    described r (coding_after (λ k. called k c.args.is_wanted c.args.to.at (length c.args.args.now) (coded_in c.args.self.now.fragments.now.nodes.items c.args.to.coded)) (λ what k. called_as k (with_types c.args.self.now.withs.now) (exprs (map expr_view c.args.args.now)) what) r (rw c.in-Known.is at c.in-Ok.ensures.codes) (described r (coding_after (λ k. passed k (with_types c.args.self.now.withs.now) (map parameter_view c.in-Lacking.params.items) (exprs (map expr_view c.args.args.now))) (λ codes k. gives in_error) r ((rw c.deref-in-Lacking.ensures.value at (rw c.called.ensures.keeps.withs at (rw c.called.ensures.keeps.site at (rw c.in-Known-asked-2.is at c.in-Ok-passed-2.ensures.codes)))))
    (value_alone state c.passed-in-Lacking.new.self.notes.now ms c.args.self.now.site.now c.in_error.result IsCoded coded_in (λ k. in_error) (c.in_error.ensures.there state.frame ms) (λ k. c.in_error.ensures.told ms))) (λ k. ap (λ (w : Callable). called_as k (with_types c.args.self.now.withs.now) (exprs (map expr_view c.args.args.now)) (called_in c.called.new.self.fragments.now.nodes.items w)) (sym c.in-Lacking.is))))
    (λ k. ap (λ (n : ℕ). and_then (called k c.args.is_wanted c.args.to.at n (coded_in c.args.self.now.fragments.now.nodes.items c.args.to.coded)) (λ what. called_as k (with_types c.args.self.now.withs.now) (exprs (map expr_view c.args.args.now)) what)) (count_given expr_view c.args.args.now))

pub called_with-looked_at-requires : goal.called_with-looked_at-requires
called_with-looked_at-requires g t c κs within =
    let told_first = rw c.in-Known.is at c.in-Ok.ensures.codes in
    (search rules, (within, ((rw c.called.ensures.keeps.site (suits_after told_first c.requires.suits)), ((rw c.called.ensures.keeps.withs (open_after told_first c.args.self.now.withs.now c.requires.withs)), (rw c.called.ensures.keeps.site c.requires.read)))))

pub called_with-returns-clause-codes : goal.called_with-returns-clause-codes
called_with-returns-clause-codes g t c =
    let r = c.looked_at.result in
    described r (coding_after (λ k. called k c.args.is_wanted c.args.to.at (length c.args.args.now) (coded_in c.args.self.now.fragments.now.nodes.items c.args.to.coded)) (λ what k. called_as k (with_types c.args.self.now.withs.now) (exprs (map expr_view c.args.args.now)) what) r (rw c.in-Known.is at c.in-Ok.ensures.codes) (described r (rw c.called.ensures.keeps.withs at (rw c.called.ensures.keeps.site at c.looked_at.ensures.codes)) (λ k. ap (λ (w : Callable). called_as k (with_types c.args.self.now.withs.now) (exprs (map expr_view c.args.args.now)) (called_in c.called.new.self.fragments.now.nodes.items w)) (sym c.in-Nothing.is))))
    (λ k. ap (λ (n : ℕ). and_then (called k c.args.is_wanted c.args.to.at n (coded_in c.args.self.now.fragments.now.nodes.items c.args.to.coded)) (λ what. called_as k (with_types c.args.self.now.withs.now) (exprs (map expr_view c.args.args.now)) what)) (count_given expr_view c.args.args.now))

pub designated-name_coded-requires-clause-named : goal.designated-name_coded-requires-clause-named
designated-name_coded-requires-clause-named g t c = (designator_read c.args.self.now.site.now.texts.now.names c.args.of.now c.requires.read).0

pub designated-returns-in-DontKnowYet-clause-codes : goal.designated-returns-in-DontKnowYet-clause-codes
designated-returns-in-DontKnowYet-clause-codes g t c = unknown (rw c.in-DontKnowYet.is at c.in-Ok.ensures.codes)

pub designated-returns-in-Err-clause-codes : goal.designated-returns-in-Err-clause-codes
designated-returns-in-Err-clause-codes g t c = unmade c.in-Err.ensures.codes _

pub designated-loop-selector-init : goal.designated-loop-selector-init
designated-loop-selector-init g t c = (
  c.name_coded.ensures.keeps,
  (value_alone (g.S.Scopes.state c.name_coded.new.self.scopes.now) c.name_coded.new.self.notes.now c.name_coded.new.self.fragments.now.nodes.items c.args.self.now.site.now c.in-Known.value IsCoded coded_in (λ k. (coded_in c.name_coded.new.self.fragments.now.nodes.items c.in-Known.value)) (stands_after (rw c.in-Known.is at c.in-Ok.ensures.codes)) (λ k. refl)),
)

pub designated-select-requires : goal.designated-select-requires
designated-select-requires g t c κs within =
    let told_first = rw c.in-Known.is at c.in-Ok.ensures.codes in
    ((let small = item_small size-Selector c.deref-rest.result.now c.loop-selector.selector-index c.selector-item.result c.loop-selector-test.true c.selector-item.is in let rest = rest_smaller c.args.of.now in let same = ap (most size-Selector) c.deref-rest.ensures.value in omega (arith, small, rest, same, c.decreases)), (within, ((rw c.loop-selector.invariant.0.site (suits_after c.loop-selector.invariant.1 (suits_after told_first c.requires.suits))), ((rw c.loop-selector.invariant.0.withs (open_after c.loop-selector.invariant.1 c.args.self.now.withs.now (open_after told_first c.args.self.now.withs.now c.requires.withs))), (stands_after c.loop-selector.invariant.1, (rw c.loop-selector.invariant.0.site (read_selector c.args.self.now.site.now.texts.now.names selector_view c.deref-rest.result.now c.loop-selector.selector-index c.selector-item.result c.loop-selector-test.true c.selector-item.is (rw c.deref-rest.ensures.value (designator_read c.args.self.now.site.now.texts.now.names c.args.of.now c.requires.read).1))))))))

pub designated-loop-selector-preserved : goal.designated-loop-selector-preserved
designated-loop-selector-preserved g t c = (
  (Keeps-trans c.loop-selector.invariant.0 c.select.ensures.keeps),
  (one_more (λ k o i. selector k (with_types c.args.self.now.withs.now) c.args.of.now.first.at o (selector_view i)) (coded_in c.name_coded.new.self.fragments.now.nodes.items c.in-Known.value) c.deref-rest.result.now c.loop-selector.selector-index c.selector-item.result c.loop-selector-test.true c.selector-item.is c.loop-selector.invariant.1 (rw c.loop-selector.invariant.0.withs at (rw c.loop-selector.invariant.0.site at (rw c.in-Known-asked.is at c.in-Ok-select.ensures.codes)))),
)

pub designated-returns-in-DontKnowYet-asked-clause-codes : goal.designated-returns-in-DontKnowYet-asked-clause-codes
designated-returns-in-DontKnowYet-asked-clause-codes g t c = then_unknown (followed_by (by_coding (rw c.in-Known.is at c.in-Ok.ensures.codes)) (by_coding c.loop-selector.invariant.1)) (rw c.loop-selector.invariant.0.withs at (rw c.loop-selector.invariant.0.site at (rw c.in-DontKnowYet-asked.is at c.in-Ok-select.ensures.codes)))

pub designated-returns-in-Err-select-clause-codes : goal.designated-returns-in-Err-select-clause-codes
designated-returns-in-Err-select-clause-codes g t c = then_wanted (followed_by (by_coding (rw c.in-Known.is at c.in-Ok.ensures.codes)) (by_coding c.loop-selector.invariant.1)) (rw c.loop-selector.invariant.0.withs at (rw c.loop-selector.invariant.0.site at c.in-Err-select.ensures.codes)) _

pub designated-returns-clause-codes : goal.designated-returns-clause-codes
designated-returns-clause-codes g t c =
    let d = c.args.of.now in
    let end = Ok (Known c.loop-selector.x) in
    let all = whole (λ k o i. selector k (with_types c.args.self.now.withs.now) d.first.at o (selector_view i)) (coded_in c.name_coded.new.self.fragments.now.nodes.items c.in-Known.value) c.deref-rest.result.now c.loop-selector.selector-index (λ k. selected k (with_types c.args.self.now.withs.now) d.first.at (coded_in c.name_coded.new.self.fragments.now.nodes.items c.in-Known.value) (selectors (map selector_view c.deref-rest.result.now))) c.loop-selector-test.false c.loop-selector.invariant.1 (λ k. selectors_folded k (with_types c.args.self.now.withs.now) selector_view d.first.at (coded_in c.name_coded.new.self.fragments.now.nodes.items c.in-Known.value) c.deref-rest.result.now) in
    described end (coding_after (λ k. name_coded k (with_types c.args.self.now.withs.now) d.first) (λ x k. selected k (with_types c.args.self.now.withs.now) d.first.at x (selectors (map selector_view d.rest.items))) end (rw c.in-Known.is at c.in-Ok.ensures.codes) (rw c.deref-rest.ensures.value at all)) (λ k. ap (designated k (with_types c.args.self.now.withs.now)) (sym (designator_seen d)))

pub select-select_field-requires-clause-named : goal.select-select_field-requires-clause-named
select-select_field-requires-clause-named g t c = selector_read c.args.self.now.site.now.texts.now.names c.args.selector.now _ (ap selector_view c.in-Field.is ∙ field_seen c.in-Field.ident c.in-Field.at) c.requires.read

pub select-indexed-requires : goal.select-indexed-requires
select-indexed-requires g t c κs within =
    ((let small = index_smaller c.args.selector.now c.in-Index.es c.in-Index.at c.in-Index.is in let same = ap (most size-Expr) c.deref.ensures.value in omega (arith, small, same, c.decreases)), (within, (c.requires.suits, (c.requires.withs, (c.requires.x, (rw c.deref.ensures.value (selector_read c.args.self.now.site.now.texts.now.names c.args.selector.now _ (ap selector_view c.in-Index.is ∙ index_seen c.in-Index.es c.in-Index.at) c.requires.read)))))))

pub select-returns-in-Field-clause-codes : goal.select-returns-in-Field-clause-codes
select-returns-in-Field-clause-codes g t c = described c.select_field.result c.select_field.ensures.codes (λ k. ap (selector k (with_types c.args.self.now.withs.now) c.args.first (coded_in c.args.self.now.fragments.now.nodes.items c.args.x)) (sym (ap selector_view c.in-Field.is ∙ field_seen c.in-Field.ident c.in-Field.at)))

pub select-returns-in-Index-clause-codes : goal.select-returns-in-Index-clause-codes
select-returns-in-Index-clause-codes g t c = described c.indexed.result (rw c.deref.ensures.value at c.indexed.ensures.codes) (λ k. ap (selector k (with_types c.args.self.now.withs.now) c.args.first (coded_in c.args.self.now.fragments.now.nodes.items c.args.x)) (sym (ap selector_view c.in-Index.is ∙ index_seen c.in-Index.es c.in-Index.at)))

pub select-returns-in-Deref-clause-codes : goal.select-returns-in-Deref-clause-codes
select-returns-in-Deref-clause-codes g t c = described c.select_target.result c.select_target.ensures.codes (λ k. ap (selector k (with_types c.args.self.now.withs.now) c.args.first (coded_in c.args.self.now.fragments.now.nodes.items c.args.x)) (sym (ap selector_view c.in-Deref.is ∙ deref_seen c.in-Deref.at)))

pub continued-loop-next-init : goal.continued-loop-next-init
continued-loop-next-init g t c = (
  (Keeps-refl c.args.self.now),
  (value_alone (g.S.Scopes.state c.args.self.now.scopes.now) c.args.self.now.notes.now c.args.self.now.fragments.now.nodes.items c.args.self.now.site.now c.args.left.coded IsCoded coded_in (λ k. coded_in c.args.self.now.fragments.now.nodes.items c.args.left.coded) c.requires.left (λ k. refl)),
)

pub continued-value_of-requires : goal.continued-value_of-requires
continued-value_of-requires g t c κs within =
    ((let small = item_small size-Next c.args.rest.now c.loop-next.next-index c.next-item.result c.loop-next-test.true c.next-item.is in let right = next_smaller c.next-item.result in omega (arith, small, right, c.decreases)), (within, ((rw c.loop-next.invariant.0.site (suits_after c.loop-next.invariant.1 c.requires.suits)), ((rw c.loop-next.invariant.0.withs (open_after c.loop-next.invariant.1 c.args.self.now.withs.now c.requires.withs)), (rw c.loop-next.invariant.0.site (next_read c.args.self.now.site.now.texts.now.names c.next-item.result (read_next c.args.self.now.site.now.texts.now.names next_view c.args.rest.now c.loop-next.next-index c.next-item.result c.loop-next-test.true c.next-item.is c.requires.read)))))))

pub continued-two_coded-requires-clause-suits : goal.continued-two_coded-requires-clause-suits
continued-two_coded-requires-clause-suits g t c = rw c.value_of.ensures.keeps.site (suits_after (rw c.in-Known.is at c.in-Ok.ensures.codes) (rw c.loop-next.invariant.0.site (suits_after c.loop-next.invariant.1 c.requires.suits)))

pub continued-two_coded-requires-clause-x : goal.continued-two_coded-requires-clause-x
continued-two_coded-requires-clause-x g t c = coded_after (rw c.in-Known.is at c.in-Ok.ensures.codes) c.loop-next.x (stands_after c.loop-next.invariant.1)

pub continued-two_coded-requires-clause-y : goal.continued-two_coded-requires-clause-y
continued-two_coded-requires-clause-y g t c = stands_after (rw c.in-Known.is at c.in-Ok.ensures.codes)

pub continued-returns-in-DontKnowYet-asked-clause-codes : goal.continued-returns-in-DontKnowYet-asked-clause-codes
continued-returns-in-DontKnowYet-asked-clause-codes g t c =
    then_unknown (followed_by (by_coding c.loop-next.invariant.1) (by_coding (rw c.loop-next.invariant.0.withs at (rw c.loop-next.invariant.0.site at (rw c.in-Known.is at c.in-Ok.ensures.codes))))) (rw c.loop-next.invariant.0.site at (rw c.value_of.ensures.keeps.site at (rw c.in-DontKnowYet-asked.is at c.in-Ok-two_coded.ensures.codes)))

pub continued-returns-in-Err-two_coded-clause-codes : goal.continued-returns-in-Err-two_coded-clause-codes
continued-returns-in-Err-two_coded-clause-codes g t c =
    then_wanted (followed_by (by_coding c.loop-next.invariant.1) (by_coding (rw c.loop-next.invariant.0.withs at (rw c.loop-next.invariant.0.site at (rw c.in-Known.is at c.in-Ok.ensures.codes))))) (rw c.loop-next.invariant.0.site at (rw c.value_of.ensures.keeps.site at c.in-Err-two_coded.ensures.codes)) _

pub continued-loop-next-preserved : goal.continued-loop-next-preserved
continued-loop-next-preserved g t c =
    let n = c.next-item.result in
    let first = c.args.left.at in
    let left = coded_in c.loop-next.self.fragments.now.nodes.items c.loop-next.x in
    let made = Ok (Known c.in-Known-asked.value) in
    let one = (rw c.loop-next.invariant.0.withs at (rw c.loop-next.invariant.0.site at (rw c.in-Known.is at c.in-Ok.ensures.codes))) in
    let two = (rw c.loop-next.invariant.0.site at (rw c.value_of.ensures.keeps.site at (rw c.in-Known-asked.is at c.in-Ok-two_coded.ensures.codes))) in (
      (Keeps-trans c.loop-next.invariant.0 (Keeps-trans c.value_of.ensures.keeps c.two_coded.ensures.keeps)),
      (one_more (λ k o i. followed k (with_types c.args.self.now.withs.now) first o (next_view i)) (coded_in c.args.self.now.fragments.now.nodes.items c.args.left.coded) c.args.rest.now c.loop-next.next-index c.next-item.result c.loop-next-test.true c.next-item.is c.loop-next.invariant.1
          (described made (coding_after (λ k. value k (with_types c.args.self.now.withs.now) (expr_view n.right)) (λ v k. two_coded k n.op n.op_at first left n.right.at v) made one
          (described made two (λ k. ap (λ (l : code.Coded). two_coded k n.op n.op_at first l n.right.at (coded_in c.value_of.new.self.fragments.now.nodes.items c.in-Known.value)) (coded_later one.grows c.loop-next.x (stands_after c.loop-next.invariant.1)))))
          (λ k. ap (λ (at : ℕ). and_then (value k (with_types c.args.self.now.withs.now) (expr_view n.right)) (λ v. two_coded k n.op n.op_at first left at v)) (sym (at_seen n.right)) ∙ next_given k (with_types c.args.self.now.withs.now) first left n.op n.op_at (expr_view n.right) ∙ ap (followed k (with_types c.args.self.now.withs.now) first left) (sym (next_seen n))))),
    )

pub continued-returns-in-DontKnowYet-clause-codes : goal.continued-returns-in-DontKnowYet-clause-codes
continued-returns-in-DontKnowYet-clause-codes g t c = unknown_after c.loop-next.invariant.1 (rw c.loop-next.invariant.0.withs at (rw c.loop-next.invariant.0.site at (rw c.in-DontKnowYet.is at c.in-Ok.ensures.codes)))

pub continued-returns-in-Err-clause-codes : goal.continued-returns-in-Err-clause-codes
continued-returns-in-Err-clause-codes g t c = unmade_after c.loop-next.invariant.1 (rw c.loop-next.invariant.0.withs at (rw c.loop-next.invariant.0.site at c.in-Err.ensures.codes)) _

pub continued-returns-clause-codes : goal.continued-returns-clause-codes
continued-returns-clause-codes g t c =
    whole (λ k o i. followed k (with_types c.args.self.now.withs.now) c.args.left.at o (next_view i)) (coded_in c.args.self.now.fragments.now.nodes.items c.args.left.coded) c.args.rest.now c.loop-next.next-index (λ k. continued k (with_types c.args.self.now.withs.now) c.args.left.at (coded_in c.args.self.now.fragments.now.nodes.items c.args.left.coded) (nexts (map next_view c.args.rest.now))) c.loop-next-test.false c.loop-next.invariant.1 (λ k. nexts_folded k (with_types c.args.self.now.withs.now) next_view c.args.left.at (coded_in c.args.self.now.fragments.now.nodes.items c.args.left.coded) c.args.rest.now)

pub elements-loop-label-init : goal.elements-loop-label-init
elements-loop-label-init g t c = (
  (Keeps-refl c.args.self.now),
  (value_alone (g.S.Scopes.state c.args.self.now.scopes.now) c.args.self.now.notes.now c.args.self.now.fragments.now.nodes.items c.args.self.now.site.now c.args.es AreElements elements_in (λ k. elements_in c.args.self.now.fragments.now.nodes.items c.args.es) c.requires.es (λ k. refl)),
)

pub elements-element-requires : goal.elements-element-requires
elements-element-requires g t c κs within =
    ((let small = item_small size-Label c.args.items.now c.loop-label.label-index c.label-item.result c.loop-label-test.true c.label-item.is in omega (arith, small, c.decreases)), (within, ((rw c.loop-label.invariant.0.site (suits_after c.loop-label.invariant.1 c.requires.suits)), ((rw c.loop-label.invariant.0.withs (open_after c.loop-label.invariant.1 c.args.self.now.withs.now c.requires.withs)), (there_after c.loop-label.invariant.1 c.args.base c.requires.base, (stands_after c.loop-label.invariant.1, (rw c.loop-label.invariant.0.site (read_label c.args.self.now.site.now.texts.now.names label_view c.args.items.now c.loop-label.label-index c.label-item.result c.loop-label-test.true c.label-item.is c.requires.read))))))))

pub elements-loop-label-preserved : goal.elements-loop-label-preserved
elements-loop-label-preserved g t c = (
  (Keeps-trans c.loop-label.invariant.0 c.element.ensures.keeps),
  (one_more (λ k o i. element k (with_types c.args.self.now.withs.now) c.args.base o (label_view i)) (elements_in c.args.self.now.fragments.now.nodes.items c.args.es) c.args.items.now c.loop-label.label-index c.label-item.result c.loop-label-test.true c.label-item.is c.loop-label.invariant.1 (rw c.loop-label.invariant.0.withs at (rw c.loop-label.invariant.0.site at (rw c.in-Known.is at c.in-Ok.ensures.codes)))),
)

pub elements-returns-in-DontKnowYet-clause-codes : goal.elements-returns-in-DontKnowYet-clause-codes
elements-returns-in-DontKnowYet-clause-codes g t c = unknown_after c.loop-label.invariant.1 (rw c.loop-label.invariant.0.withs at (rw c.loop-label.invariant.0.site at (rw c.in-DontKnowYet.is at c.in-Ok.ensures.codes)))

pub elements-returns-in-Err-clause-codes : goal.elements-returns-in-Err-clause-codes
elements-returns-in-Err-clause-codes g t c = unmade_after c.loop-label.invariant.1 (rw c.loop-label.invariant.0.withs at (rw c.loop-label.invariant.0.site at c.in-Err.ensures.codes)) _

pub elements-returns-clause-codes : goal.elements-returns-clause-codes
elements-returns-clause-codes g t c =
    whole (λ k o i. element k (with_types c.args.self.now.withs.now) c.args.base o (label_view i)) (elements_in c.args.self.now.fragments.now.nodes.items c.args.es) c.args.items.now c.loop-label.label-index (λ k. elements k (with_types c.args.self.now.withs.now) c.args.base (elements_in c.args.self.now.fragments.now.nodes.items c.args.es) (labels (map label_view c.args.items.now))) c.loop-label-test.false c.loop-label.invariant.1 (λ k. labels_folded k (with_types c.args.self.now.withs.now) label_view c.args.base (elements_in c.args.self.now.fragments.now.nodes.items c.args.es) c.args.items.now)

pub indexed-loop-e-init : goal.indexed-loop-e-init
indexed-loop-e-init g t c = (
  (Keeps-refl c.args.self.now),
  (value_alone (g.S.Scopes.state c.args.self.now.scopes.now) c.args.self.now.notes.now c.args.self.now.fragments.now.nodes.items c.args.self.now.site.now c.args.x IsCoded coded_in (λ k. coded_in c.args.self.now.fragments.now.nodes.items c.args.x) c.requires.x (λ k. refl)),
)

pub indexed-value_of-requires : goal.indexed-value_of-requires
indexed-value_of-requires g t c κs within =
    ((let small = item_small size-Expr c.args.es.now c.loop-e.e-index c.e-item.result c.loop-e-test.true c.e-item.is in omega (arith, small, c.decreases)), (within, ((rw c.loop-e.invariant.0.site (suits_after c.loop-e.invariant.1 c.requires.suits)), ((rw c.loop-e.invariant.0.withs (open_after c.loop-e.invariant.1 c.args.self.now.withs.now c.requires.withs)), (rw c.loop-e.invariant.0.site (read_expr c.args.self.now.site.now.texts.now.names expr_view c.args.es.now c.loop-e.e-index c.e-item.result c.loop-e-test.true c.e-item.is c.requires.read))))))

pub indexed-select_element-requires-clause-suits : goal.indexed-select_element-requires-clause-suits
indexed-select_element-requires-clause-suits g t c = rw c.value_of.ensures.keeps.site (suits_after (rw c.in-Known.is at c.in-Ok.ensures.codes) (rw c.loop-e.invariant.0.site (suits_after c.loop-e.invariant.1 c.requires.suits)))

pub indexed-select_element-requires-clause-index : goal.indexed-select_element-requires-clause-index
indexed-select_element-requires-clause-index g t c = stands_after (rw c.in-Known.is at c.in-Ok.ensures.codes)

pub indexed-select_element-requires-clause-x : goal.indexed-select_element-requires-clause-x
indexed-select_element-requires-clause-x g t c = coded_after (rw c.in-Known.is at c.in-Ok.ensures.codes) c.loop-e.y (stands_after c.loop-e.invariant.1)

pub indexed-returns-in-DontKnowYet-asked-clause-codes : goal.indexed-returns-in-DontKnowYet-asked-clause-codes
indexed-returns-in-DontKnowYet-asked-clause-codes g t c =
    then_unknown (followed_by (by_coding c.loop-e.invariant.1) (by_coding (rw c.loop-e.invariant.0.withs at (rw c.loop-e.invariant.0.site at (rw c.in-Known.is at c.in-Ok.ensures.codes))))) (rw c.loop-e.invariant.0.site at (rw c.value_of.ensures.keeps.site at (rw c.in-DontKnowYet-asked.is at c.in-Ok-select_element.ensures.codes)))

pub indexed-returns-in-Err-select_element-clause-codes : goal.indexed-returns-in-Err-select_element-clause-codes
indexed-returns-in-Err-select_element-clause-codes g t c =
    then_wanted (followed_by (by_coding c.loop-e.invariant.1) (by_coding (rw c.loop-e.invariant.0.withs at (rw c.loop-e.invariant.0.site at (rw c.in-Known.is at c.in-Ok.ensures.codes))))) (rw c.loop-e.invariant.0.site at (rw c.value_of.ensures.keeps.site at c.in-Err-select_element.ensures.codes)) _

pub indexed-loop-e-preserved : goal.indexed-loop-e-preserved
indexed-loop-e-preserved g t c =
    let e = c.e-item.result in
    let y = coded_in c.loop-e.self.fragments.now.nodes.items c.loop-e.y in
    let i = coded_in c.value_of.new.self.fragments.now.nodes.items c.in-Known.value in
    let made = Ok (Known c.in-Known-asked.value) in
    let one = (rw c.loop-e.invariant.0.withs at (rw c.loop-e.invariant.0.site at (rw c.in-Known.is at c.in-Ok.ensures.codes))) in
    let two = (rw c.loop-e.invariant.0.site at (rw c.value_of.ensures.keeps.site at (rw c.in-Known-asked.is at c.in-Ok-select_element.ensures.codes))) in (
      (Keeps-trans c.loop-e.invariant.0 (Keeps-trans c.value_of.ensures.keeps c.select_element.ensures.keeps)),
      (one_more (λ k o i. index k (with_types c.args.self.now.withs.now) c.args.first c.args.at o (expr_view i)) (coded_in c.args.self.now.fragments.now.nodes.items c.args.x) c.args.es.now c.loop-e.e-index c.e-item.result c.loop-e-test.true c.e-item.is c.loop-e.invariant.1
          (described made (coding_after (λ k. value k (with_types c.args.self.now.withs.now) (expr_view e)) (λ v k. select_element k c.args.first c.args.at e.at v y) made one
          (described made two (λ k. ap (λ (x : code.Coded). select_element k c.args.first c.args.at e.at i x) (coded_later one.grows c.loop-e.y (stands_after c.loop-e.invariant.1)))))
          (λ k. ap (λ (at : ℕ). and_then (value k (with_types c.args.self.now.withs.now) (expr_view e)) (λ v. select_element k c.args.first c.args.at at v y)) (sym (at_seen e))))),
    )

pub indexed-returns-in-DontKnowYet-clause-codes : goal.indexed-returns-in-DontKnowYet-clause-codes
indexed-returns-in-DontKnowYet-clause-codes g t c = unknown_after c.loop-e.invariant.1 (rw c.loop-e.invariant.0.withs at (rw c.loop-e.invariant.0.site at (rw c.in-DontKnowYet.is at c.in-Ok.ensures.codes)))

pub indexed-returns-in-Err-clause-codes : goal.indexed-returns-in-Err-clause-codes
indexed-returns-in-Err-clause-codes g t c = unmade_after c.loop-e.invariant.1 (rw c.loop-e.invariant.0.withs at (rw c.loop-e.invariant.0.site at c.in-Err.ensures.codes)) _

pub indexed-returns-clause-codes : goal.indexed-returns-clause-codes
indexed-returns-clause-codes g t c =
    whole (λ k o i. index k (with_types c.args.self.now.withs.now) c.args.first c.args.at o (expr_view i)) (coded_in c.args.self.now.fragments.now.nodes.items c.args.x) c.args.es.now c.loop-e.e-index (λ k. indexed k (with_types c.args.self.now.withs.now) c.args.first c.args.at (coded_in c.args.self.now.fragments.now.nodes.items c.args.x) (exprs (map expr_view c.args.es.now))) c.loop-e-test.false c.loop-e.invariant.1 (λ k. indices_folded k (with_types c.args.self.now.withs.now) expr_view c.args.first c.args.at (coded_in c.args.self.now.fragments.now.nodes.items c.args.x) c.args.es.now)

pub expression-string_constant-requires-clause-named : goal.expression-string_constant-requires-clause-named
expression-string_constant-requires-clause-named g t c = (form_read c.args.self.now.site.now.texts.now.names c.args.e.now _ _ c.in-Str.is (string_seen c.in-Str.name) c.requires.read).0

pub expression-string_constant-requires-clause-short : goal.expression-string_constant-requires-clause-short
expression-string_constant-requires-clause-short g t c = (form_read c.args.self.now.site.now.texts.now.names c.args.e.now _ _ c.in-Str.is (string_seen c.in-Str.name) c.requires.read).1

pub expression-returns-in-Number-clause-codes : goal.expression-returns-in-Number-clause-codes
expression-returns-in-Number-clause-codes g t c =
    described (Ok (Known c.bare.result)) (value_alone (g.S.Scopes.state c.args.self.now.scopes.now) c.args.self.now.notes.now c.args.self.now.fragments.now.nodes.items c.args.self.now.site.now c.bare.result IsCoded coded_in (λ k. bare (Constant whole_type (to_z w64 c.in-Number.value))) (c.bare.ensures.there (g.S.Scopes.state c.args.self.now.scopes.now).frame c.args.self.now.fragments.now.nodes.items (standard_there c.requires.suits.around 9, number_value c.in-Number.value (form_read c.args.self.now.site.now.texts.now.names c.args.e.now _ _ c.in-Number.is (number_seen c.in-Number.value) c.requires.read))) (λ k. c.bare.ensures.told c.args.self.now.fragments.now.nodes.items))
    (λ k. ap (λ (n : ℤ). gives (bare (Constant whole_type n))) (number_told c.in-Number.value (form_read c.args.self.now.site.now.texts.now.names c.args.e.now _ _ c.in-Number.is (number_seen c.in-Number.value) c.requires.read)) ∙ form_given k (with_types c.args.self.now.withs.now) c.args.e.now _ _ c.in-Number.is (number_seen c.in-Number.value))

pub expression-returns-in-Char-clause-codes : goal.expression-returns-in-Char-clause-codes
expression-returns-in-Char-clause-codes g t c =
    described (Ok (Known c.bare-in-Char.result)) (value_alone (g.S.Scopes.state c.args.self.now.scopes.now) c.args.self.now.notes.now c.args.self.now.fragments.now.nodes.items c.args.self.now.site.now c.bare-in-Char.result IsCoded coded_in (λ k. bare (Constant character (to_z w64 c.in-Char.value))) (c.bare-in-Char.ensures.there (g.S.Scopes.state c.args.self.now.scopes.now).frame c.args.self.now.fragments.now.nodes.items (standard_there c.requires.suits.around 2, char_value c.in-Char.value (form_read c.args.self.now.site.now.texts.now.names c.args.e.now _ _ c.in-Char.is (char_seen c.in-Char.value) c.requires.read))) (λ k. c.bare-in-Char.ensures.told c.args.self.now.fragments.now.nodes.items))
    (λ k. ap (λ (n : ℤ). gives (bare (Constant character n))) (char_told c.in-Char.value (form_read c.args.self.now.site.now.texts.now.names c.args.e.now _ _ c.in-Char.is (char_seen c.in-Char.value) c.requires.read)) ∙ form_given k (with_types c.args.self.now.withs.now) c.args.e.now _ _ c.in-Char.is (char_seen c.in-Char.value))

pub expression-returns-in-Str-clause-codes : goal.expression-returns-in-Str-clause-codes
expression-returns-in-Str-clause-codes g t c =
    let context = λ (made : Hand). context_of (g.S.Scopes.state c.args.self.now.scopes.now).frame made c.args.self.now.site.now in
    described_there (Ok (Known c.bare-in-Str.result)) (value_alone (g.S.Scopes.state c.args.self.now.scopes.now) c.args.self.now.notes.now c.args.self.now.fragments.now.nodes.items c.args.self.now.site.now c.bare-in-Str.result IsCoded coded_in (λ k. bare c.string_constant.result) (c.bare-in-Str.ensures.there (g.S.Scopes.state c.args.self.now.scopes.now).frame c.args.self.now.fragments.now.nodes.items (c.string_constant.ensures.there (g.S.Scopes.state c.args.self.now.scopes.now).frame c.requires.suits.texts)) (λ k. c.bare-in-Str.ensures.told c.args.self.now.fragments.now.nodes.items))
    (λ made. ap (λ (o : Operand). gives (bare o)) (c.string_constant.ensures.told (context made).source refl) ∙ form_given (context made) (with_types c.args.self.now.withs.now) c.args.e.now _ _ c.in-Str.is (string_seen c.in-Str.name))

pub expression-set_of-requires : goal.expression-set_of-requires
expression-set_of-requires g t c κs within =
    ((let small = set_smaller c.args.e.now c.in-Set.of c.in-Set.items c.in-Set.is in let same = ap (most size-Label) c.deref.ensures.value in omega (arith, small, same, c.decreases)), (within, (c.requires.suits, (c.requires.withs, (standard_there c.requires.suits.around 5, (rw c.deref.ensures.value (form_read c.args.self.now.site.now.texts.now.names c.args.e.now (Set None c.in-Set.items) _ (c.in-Set.is ∙ ap (λ o. Set o c.in-Set.items) c.in-None.is) (plain_set_seen c.in-Set.items) c.requires.read)))))))

pub expression-returns-in-None-clause-codes : goal.expression-returns-in-None-clause-codes
expression-returns-in-None-clause-codes g t c = described c.set_of.result (rw c.deref.ensures.value at c.set_of.ensures.codes) (λ k. form_given k (with_types c.args.self.now.withs.now) c.args.e.now (Set None c.in-Set.items) _ (c.in-Set.is ∙ ap (λ o. Set o c.in-Set.items) c.in-None.is) (plain_set_seen c.in-Set.items))

pub expression-set_type-requires : goal.expression-set_type-requires
expression-set_type-requires g t c κs within =
    ((let small = set_type_smaller c.args.e.now c.in-Set.of c.in-Set.items c.in-Some.name c.in-Set.is c.in-Some.is in omega (arith, small, c.decreases)), (within, (c.requires.suits, (c.requires.withs, ((form_read c.args.self.now.site.now.texts.now.names c.args.e.now (Set (Some c.in-Some.name) c.in-Set.items) _ (c.in-Set.is ∙ ap (λ o. Set o c.in-Set.items) c.in-Some.is) (typed_set_seen c.in-Some.name c.in-Set.items) c.requires.read).0)))))

pub expression-returns-in-DontKnowYet-clause-codes : goal.expression-returns-in-DontKnowYet-clause-codes
expression-returns-in-DontKnowYet-clause-codes g t c = unknown (rw c.in-DontKnowYet.is at c.in-Ok.ensures.codes)

pub expression-returns-in-Err-clause-codes : goal.expression-returns-in-Err-clause-codes
expression-returns-in-Err-clause-codes g t c = unmade c.in-Err.ensures.codes _

pub expression-set_of-requires-in-Some : goal.expression-set_of-requires-in-Some
expression-set_of-requires-in-Some g t c κs within =
    let told_first = rw c.in-Known.is at c.in-Ok.ensures.codes in
    ((let small = set_smaller c.args.e.now c.in-Set.of c.in-Set.items c.in-Set.is in let same = ap (most size-Label) c.deref-in-Some.ensures.value in omega (arith, small, same, c.decreases)), (within, ((rw c.set_type.ensures.keeps.site (suits_after told_first c.requires.suits)), ((rw c.set_type.ensures.keeps.withs (open_after told_first c.args.self.now.withs.now c.requires.withs)), (stands_after told_first, (rw c.set_type.ensures.keeps.site (rw c.deref-in-Some.ensures.value (form_read c.args.self.now.site.now.texts.now.names c.args.e.now (Set (Some c.in-Some.name) c.in-Set.items) _ (c.in-Set.is ∙ ap (λ o. Set o c.in-Set.items) c.in-Some.is) (typed_set_seen c.in-Some.name c.in-Set.items) c.requires.read).1)))))))

pub expression-returns-in-Known-clause-codes : goal.expression-returns-in-Known-clause-codes
expression-returns-in-Known-clause-codes g t c =
    let d = designator_view c.in-Some.name in
    let items = labels (map label_view c.in-Set.items.items) in
    described c.set_of-in-Some.result (coding_after (λ k. type_before k (with_types c.args.self.now.withs.now) d) (λ of k. set_of k (with_types c.args.self.now.withs.now) of items) c.set_of-in-Some.result (rw c.in-Known.is at c.in-Ok.ensures.codes) (rw c.deref-in-Some.ensures.value at (rw c.set_type.ensures.keeps.withs at (rw c.set_type.ensures.keeps.site at c.set_of-in-Some.ensures.codes))))
    (λ k. typed_set_given k (with_types c.args.self.now.withs.now) d items ∙ form_given k (with_types c.args.self.now.withs.now) c.args.e.now (Set (Some c.in-Some.name) c.in-Set.items) _ (c.in-Set.is ∙ ap (λ o. Set o c.in-Set.items) c.in-Some.is) (typed_set_seen c.in-Some.name c.in-Set.items))

pub expression-designated-requires : goal.expression-designated-requires
expression-designated-requires g t c κs within =
    ((let small = name_smaller c.args.e.now c.in-Name.name c.in-Name.is in omega (arith, small, c.decreases)), (within, (c.requires.suits, (c.requires.withs, ((form_read c.args.self.now.site.now.texts.now.names c.args.e.now _ _ c.in-Name.is (name_seen c.in-Name.name) c.requires.read))))))

pub expression-returns-in-Name-clause-codes : goal.expression-returns-in-Name-clause-codes
expression-returns-in-Name-clause-codes g t c = described c.designated.result c.designated.ensures.codes (λ k. form_given k (with_types c.args.self.now.withs.now) c.args.e.now _ _ c.in-Name.is (name_seen c.in-Name.name))

pub expression-value_of-requires : goal.expression-value_of-requires
expression-value_of-requires g t c κs within =
    ((let small = one_smaller c.args.e.now c.in-One.op c.in-One.op_at c.in-One.of c.in-One.is in let same = ap size-Expr c.deref-in-One.ensures in omega (arith, small, same, c.decreases)), (within, (c.requires.suits, (c.requires.withs, (rw c.deref-in-One.ensures (form_read c.args.self.now.site.now.texts.now.names c.args.e.now _ _ c.in-One.is (one_seen c.in-One.op c.in-One.op_at c.in-One.of) c.requires.read))))))

pub expression-returns-in-DontKnowYet-asked-2-clause-codes : goal.expression-returns-in-DontKnowYet-asked-2-clause-codes
expression-returns-in-DontKnowYet-asked-2-clause-codes g t c = unknown (rw c.in-DontKnowYet-asked-2.is at c.in-Ok-value_of.ensures.codes)

pub expression-returns-in-Err-value_of-clause-codes : goal.expression-returns-in-Err-value_of-clause-codes
expression-returns-in-Err-value_of-clause-codes g t c = unmade c.in-Err-value_of.ensures.codes _

pub expression-one_coded-requires-clause-suits : goal.expression-one_coded-requires-clause-suits
expression-one_coded-requires-clause-suits g t c = (rw c.value_of.ensures.keeps.site (suits_after (rw c.in-Known-asked-2.is at c.in-Ok-value_of.ensures.codes) c.requires.suits))

pub expression-one_coded-requires-clause-x : goal.expression-one_coded-requires-clause-x
expression-one_coded-requires-clause-x g t c = stands_after (rw c.in-Known-asked-2.is at c.in-Ok-value_of.ensures.codes)

pub expression-returns-in-Known-asked-2-clause-codes : goal.expression-returns-in-Known-asked-2-clause-codes
expression-returns-in-Known-asked-2-clause-codes g t c =
    described c.one_coded.result (coding_after (λ k. value k (with_types c.args.self.now.withs.now) (expr_view c.in-One.of.value)) (λ x k. one_coded k c.in-One.op c.in-One.op_at x) c.one_coded.result (rw c.deref-in-One.ensures at (rw c.in-Known-asked-2.is at c.in-Ok-value_of.ensures.codes)) (rw c.value_of.ensures.keeps.site at c.one_coded.ensures.codes)) (λ k. one_given k (with_types c.args.self.now.withs.now) c.in-One.op c.in-One.op_at (expr_view c.in-One.of.value) ∙ form_given k (with_types c.args.self.now.withs.now) c.args.e.now _ _ c.in-One.is (one_seen c.in-One.op c.in-One.op_at c.in-One.of))

pub expression-value_of-requires-in-Many : goal.expression-value_of-requires-in-Many
expression-value_of-requires-in-Many g t c κs within =
    ((let small = first_smaller c.args.e.now c.in-Many.first c.in-Many.rest c.in-Many.is in let same = ap size-Expr c.deref-in-Many.ensures in omega (arith, small, same, c.decreases)), (within, (c.requires.suits, (c.requires.withs, (rw c.deref-in-Many.ensures (form_read c.args.self.now.site.now.texts.now.names c.args.e.now _ _ c.in-Many.is (many_seen c.in-Many.first c.in-Many.rest) c.requires.read).0)))))

pub expression-returns-in-DontKnowYet-asked-3-clause-codes : goal.expression-returns-in-DontKnowYet-asked-3-clause-codes
expression-returns-in-DontKnowYet-asked-3-clause-codes g t c = unknown (rw c.in-DontKnowYet-asked-3.is at c.in-Ok-value_of-2.ensures.codes)

pub expression-returns-in-Err-value_of-2-clause-codes : goal.expression-returns-in-Err-value_of-2-clause-codes
expression-returns-in-Err-value_of-2-clause-codes g t c = unmade c.in-Err-value_of-2.ensures.codes _

pub expression-continued-requires : goal.expression-continued-requires
expression-continued-requires g t c κs within =
    let told_first = rw c.in-Known-asked-3.is at c.in-Ok-value_of-2.ensures.codes in
    ((let small = nexts_smaller c.args.e.now c.in-Many.first c.in-Many.rest c.in-Many.is in let same = ap (most size-Next) c.deref-in-Many-3.ensures.value in omega (arith, small, same, c.decreases)), (within, ((rw c.value_of-in-Many.ensures.keeps.site (suits_after told_first c.requires.suits)), ((rw c.value_of-in-Many.ensures.keeps.withs (open_after told_first c.args.self.now.withs.now c.requires.withs)), (stands_after told_first, (rw c.value_of-in-Many.ensures.keeps.site (rw c.deref-in-Many-3.ensures.value (form_read c.args.self.now.site.now.texts.now.names c.args.e.now _ _ c.in-Many.is (many_seen c.in-Many.first c.in-Many.rest) c.requires.read).1)))))))

pub expression-returns-in-Known-asked-3-clause-codes : goal.expression-returns-in-Known-asked-3-clause-codes
expression-returns-in-Known-asked-3-clause-codes g t c =
    let first = c.in-Many.first.value in
    let rest = nexts (map next_view c.in-Many.rest.items) in
    described c.continued.result (coding_after (λ k. value k (with_types c.args.self.now.withs.now) (expr_view first)) (λ x k. continued k (with_types c.args.self.now.withs.now) first.at x rest) c.continued.result (rw c.deref-in-Many.ensures at (rw c.in-Known-asked-3.is at c.in-Ok-value_of-2.ensures.codes)) (rw c.deref-in-Many-2.ensures at (rw c.deref-in-Many-3.ensures.value at (rw c.value_of-in-Many.ensures.keeps.withs at (rw c.value_of-in-Many.ensures.keeps.site at c.continued.ensures.codes)))))
    (λ k. ap (λ (at : ℕ). and_then (value k (with_types c.args.self.now.withs.now) (expr_view first)) (λ x. continued k (with_types c.args.self.now.withs.now) at x rest)) (sym (at_seen first)) ∙ many_given k (with_types c.args.self.now.withs.now) (expr_view first) rest ∙ form_given k (with_types c.args.self.now.withs.now) c.args.e.now _ _ c.in-Many.is (many_seen c.in-Many.first c.in-Many.rest))

pub standard-expression-requires : goal.standard-expression-requires
standard-expression-requires g t c κs within =
    ((let small = item_small size-Expr c.args.args.now 0 c.e-item.result (omega (arith, c.in-len1.len_at_least)) c.e-item.is in omega (arith, small, c.decreases)), (within, (c.requires.suits, (c.requires.withs, (read_expr c.args.self.now.site.now.texts.now.names expr_view c.args.args.now 0 c.e-item.result (omega (arith, c.in-len1.len_at_least)) c.e-item.is c.requires.read)))))

pub standard-returns-in-DontKnowYet-clause-codes : goal.standard-returns-in-DontKnowYet-clause-codes
standard-returns-in-DontKnowYet-clause-codes g t c = unknown (rw c.in-DontKnowYet.is at c.in-Ok.ensures.codes)

pub standard-returns-in-Err-clause-codes : goal.standard-returns-in-Err-clause-codes
standard-returns-in-Err-clause-codes g t c = unmade c.in-Err.ensures.codes _

pub standard-of_one_argument-requires-clause-suits : goal.standard-of_one_argument-requires-clause-suits
standard-of_one_argument-requires-clause-suits g t c = (rw c.expression.ensures.keeps.site (suits_after (rw c.in-Known.is at c.in-Ok.ensures.codes) c.requires.suits))

pub standard-of_one_argument-requires-clause-x : goal.standard-of_one_argument-requires-clause-x
standard-of_one_argument-requires-clause-x g t c = stands_after (rw c.in-Known.is at c.in-Ok.ensures.codes)

pub standard-returns-in-empty-clause-codes : goal.standard-returns-in-empty-clause-codes
standard-returns-in-empty-clause-codes g t c =
    described c.of_no_argument.result (c.of_no_argument.ensures (g.S.Scopes.state c.args.self.now.scopes.now) c.args.self.now.notes.now c.args.self.now.site.now c.requires.suits) (λ k. none_given k (with_types c.args.self.now.withs.now) c.args.f expr_view c.args.args.now (omega (arith, c.in-empty.len_below)))

pub standard-returns-in-Known-clause-codes : goal.standard-returns-in-Known-clause-codes
standard-returns-in-Known-clause-codes g t c =
    let e = c.e-item.result in
    let one : length c.args.args.now ≡ 1 = omega (arith, c.in-len1.len_at_least, c.in-len1.len_below) in
    described c.of_one_argument.result (coding_after (λ k. expression k (with_types c.args.self.now.withs.now) (expr_view e)) (λ x k. of_one_argument k c.args.f e.at x) c.of_one_argument.result (rw c.in-Known.is at c.in-Ok.ensures.codes) (rw c.expression.ensures.keeps.site at c.of_one_argument.ensures.codes)) (λ k. ap (λ (at : ℕ). and_then (expression k (with_types c.args.self.now.withs.now) (expr_view e)) (λ x. of_one_argument k c.args.f at x)) (sym (at_seen e)) ∙ one_argument_given k (with_types c.args.self.now.withs.now) c.args.f expr_view c.args.args.now e one c.e-item.is)

pub standard-expression-requires-in-len2-up : goal.standard-expression-requires-in-len2-up
standard-expression-requires-in-len2-up g t c κs within =
    ((let small = item_small size-Expr c.args.args.now 0 c.e-item-2.result (omega (arith, c.in-len2-up.len_at_least)) c.e-item-2.is in omega (arith, small, c.decreases)), (within, (c.requires.suits, (c.requires.withs, (read_expr c.args.self.now.site.now.texts.now.names expr_view c.args.args.now 0 c.e-item-2.result (omega (arith, c.in-len2-up.len_at_least)) c.e-item-2.is c.requires.read)))))

pub standard-returns-in-DontKnowYet-asked-clause-codes : goal.standard-returns-in-DontKnowYet-asked-clause-codes
standard-returns-in-DontKnowYet-asked-clause-codes g t c = unknown (rw c.in-DontKnowYet-asked.is at c.in-Ok-expression.ensures.codes)

pub standard-returns-in-Err-expression-clause-codes : goal.standard-returns-in-Err-expression-clause-codes
standard-returns-in-Err-expression-clause-codes g t c = unmade c.in-Err-expression.ensures.codes _

pub standard-first_of_two-requires-clause-suits : goal.standard-first_of_two-requires-clause-suits
standard-first_of_two-requires-clause-suits g t c = (rw c.expression-in-len2-up.ensures.keeps.site (suits_after (rw c.in-Known-asked.is at c.in-Ok-expression.ensures.codes) c.requires.suits))

pub standard-first_of_two-requires-clause-x : goal.standard-first_of_two-requires-clause-x
standard-first_of_two-requires-clause-x g t c = stands_after (rw c.in-Known-asked.is at c.in-Ok-expression.ensures.codes)

pub standard-returns-in-DontKnowYet-asked-2-clause-codes : goal.standard-returns-in-DontKnowYet-asked-2-clause-codes
standard-returns-in-DontKnowYet-asked-2-clause-codes g t c = unknown_after (rw c.in-Known-asked.is at c.in-Ok-expression.ensures.codes) (rw c.expression-in-len2-up.ensures.keeps.site at (rw c.in-DontKnowYet-asked-2.is at c.in-Ok-first_of_two.ensures.codes))

pub standard-returns-in-Err-first_of_two-clause-codes : goal.standard-returns-in-Err-first_of_two-clause-codes
standard-returns-in-Err-first_of_two-clause-codes g t c = unmade_after (rw c.in-Known-asked.is at c.in-Ok-expression.ensures.codes) (rw c.expression-in-len2-up.ensures.keeps.site at c.in-Err-first_of_two.ensures.codes) _

pub standard-expression-requires-in-len2-up-2 : goal.standard-expression-requires-in-len2-up-2
standard-expression-requires-in-len2-up-2 g t c κs within =
    let told_next = rw c.in-Known-asked.is at c.in-Ok-expression.ensures.codes in
    let told_first = rw c.in-Known-asked-2.is at c.in-Ok-first_of_two.ensures.codes in
    ((let small = item_small size-Expr c.args.args.now 1 c.other-item.result (omega (arith, c.in-len2-up.len_at_least)) c.other-item.is in omega (arith, small, c.decreases)), (within, ((rw c.first_of_two.ensures.keeps.site (suits_after told_first (rw c.expression-in-len2-up.ensures.keeps.site (suits_after told_next c.requires.suits)))), ((rw c.first_of_two.ensures.keeps.withs (open_after told_first c.expression-in-len2-up.new.self.withs.now (rw c.expression-in-len2-up.ensures.keeps.withs (open_after told_next c.args.self.now.withs.now c.requires.withs)))), (rw c.first_of_two.ensures.keeps.site (rw c.expression-in-len2-up.ensures.keeps.site (read_expr c.args.self.now.site.now.texts.now.names expr_view c.args.args.now 1 c.other-item.result (omega (arith, c.in-len2-up.len_at_least)) c.other-item.is c.requires.read)))))))

pub standard-returns-in-DontKnowYet-asked-3-clause-codes : goal.standard-returns-in-DontKnowYet-asked-3-clause-codes
standard-returns-in-DontKnowYet-asked-3-clause-codes g t c =
    then_unknown (followed_by (by_coding (rw c.in-Known-asked.is at c.in-Ok-expression.ensures.codes)) (by_coding (rw c.expression-in-len2-up.ensures.keeps.site at (rw c.in-Known-asked-2.is at c.in-Ok-first_of_two.ensures.codes)))) (rw c.expression-in-len2-up.ensures.keeps.withs at (rw c.expression-in-len2-up.ensures.keeps.site at (rw c.first_of_two.ensures.keeps.withs at (rw c.first_of_two.ensures.keeps.site at (rw c.in-DontKnowYet-asked-3.is at c.in-Ok-expression-2.ensures.codes)))))

pub standard-returns-in-Err-expression-2-clause-codes : goal.standard-returns-in-Err-expression-2-clause-codes
standard-returns-in-Err-expression-2-clause-codes g t c =
    then_wanted (followed_by (by_coding (rw c.in-Known-asked.is at c.in-Ok-expression.ensures.codes)) (by_coding (rw c.expression-in-len2-up.ensures.keeps.site at (rw c.in-Known-asked-2.is at c.in-Ok-first_of_two.ensures.codes)))) (rw c.expression-in-len2-up.ensures.keeps.withs at (rw c.expression-in-len2-up.ensures.keeps.site at (rw c.first_of_two.ensures.keeps.withs at (rw c.first_of_two.ensures.keeps.site at c.in-Err-expression-2.ensures.codes)))) _

pub standard-of_two_arguments-requires-clause-suits : goal.standard-of_two_arguments-requires-clause-suits
standard-of_two_arguments-requires-clause-suits g t c = rw c.expression-in-len2-up-2.ensures.keeps.site (suits_after (rw c.in-Known-asked-3.is at c.in-Ok-expression-2.ensures.codes) (rw c.first_of_two.ensures.keeps.site (suits_after (rw c.in-Known-asked-2.is at c.in-Ok-first_of_two.ensures.codes) (rw c.expression-in-len2-up.ensures.keeps.site (suits_after (rw c.in-Known-asked.is at c.in-Ok-expression.ensures.codes) c.requires.suits)))))

pub standard-of_two_arguments-requires-clause-x : goal.standard-of_two_arguments-requires-clause-x
standard-of_two_arguments-requires-clause-x g t c = coded_after (rw c.in-Known-asked-3.is at c.in-Ok-expression-2.ensures.codes) c.in-Known-asked-2.value (stands_after (rw c.in-Known-asked-2.is at c.in-Ok-first_of_two.ensures.codes))

pub standard-of_two_arguments-requires-clause-y : goal.standard-of_two_arguments-requires-clause-y
standard-of_two_arguments-requires-clause-y g t c = stands_after (rw c.in-Known-asked-3.is at c.in-Ok-expression-2.ensures.codes)

pub standard-returns-in-Known-asked-3-clause-codes : goal.standard-returns-in-Known-asked-3-clause-codes
standard-returns-in-Known-asked-3-clause-codes g t c =
    let e = c.e-item-2.result in
    let d = c.other-item.result in
    let f = c.args.f in
    let r = c.of_two_arguments.result in
    let two = (rw c.expression-in-len2-up.ensures.keeps.site at (rw c.in-Known-asked-2.is at c.in-Ok-first_of_two.ensures.codes)) in
    let three = (rw c.expression-in-len2-up.ensures.keeps.withs at (rw c.expression-in-len2-up.ensures.keeps.site at (rw c.first_of_two.ensures.keeps.withs at (rw c.first_of_two.ensures.keeps.site at (rw c.in-Known-asked-3.is at c.in-Ok-expression-2.ensures.codes))))) in
    let v = coded_in c.first_of_two.new.self.fragments.now.nodes.items c.in-Known-asked-2.value in
    let y = coded_in c.expression-in-len2-up-2.new.self.fragments.now.nodes.items c.in-Known-asked-3.value in
    described r (coding_after (λ k. expression k (with_types c.args.self.now.withs.now) (expr_view e)) (λ x k. and_then (first_of_two k f e.at x) (λ v. and_then (expression k (with_types c.args.self.now.withs.now) (expr_view d)) (λ y. of_two_arguments k f e.at v d.at y))) r (rw c.in-Known-asked.is at c.in-Ok-expression.ensures.codes)
    (coding_after (λ k. first_of_two k f e.at (coded_in c.expression-in-len2-up.new.self.fragments.now.nodes.items c.in-Known-asked.value)) (λ v k. and_then (expression k (with_types c.args.self.now.withs.now) (expr_view d)) (λ y. of_two_arguments k f e.at v d.at y)) r two
    (coding_after (λ k. expression k (with_types c.args.self.now.withs.now) (expr_view d)) (λ y k. of_two_arguments k f e.at v d.at y) r three
    (described r (rw c.expression-in-len2-up.ensures.keeps.site at (rw c.first_of_two.ensures.keeps.site at (rw c.expression-in-len2-up-2.ensures.keeps.site at c.of_two_arguments.ensures.codes))) (λ k. ap (λ (x : code.Coded). of_two_arguments k f e.at x d.at y) (coded_later three.grows c.in-Known-asked-2.value (stands_after two)))))))
    (λ k. ap (λ (at : ℕ). and_then (expression k (with_types c.args.self.now.withs.now) (expr_view e)) (λ x. and_then (first_of_two k f e.at x) (λ v. and_then (expression k (with_types c.args.self.now.withs.now) (expr_view d)) (λ y. of_two_arguments k f e.at v at y)))) (sym (at_seen d))
    ∙ ap (λ (at : ℕ). and_then (expression k (with_types c.args.self.now.withs.now) (expr_view e)) (λ x. and_then (first_of_two k f at x) (λ v. and_then (expression k (with_types c.args.self.now.withs.now) (expr_view d)) (λ y. of_two_arguments k f at v (expr_at (expr_view d)) y)))) (sym (at_seen e))
    ∙ sym (and_then_assoc (expression k (with_types c.args.self.now.withs.now) (expr_view e)) (λ o. first_of_two k f (expr_at (expr_view e)) o) (λ v. second_argument k (with_types c.args.self.now.withs.now) f (expr_at (expr_view e)) v (expr_view d)))
    ∙ two_arguments_given k (with_types c.args.self.now.withs.now) f expr_view c.args.args.now e d (omega (arith, c.in-len2-up.len_at_least)) c.e-item-2.is c.other-item.is)

pub looked_at-loop-e-init : goal.looked_at-loop-e-init
looked_at-loop-e-init g t c = (
  (Keeps-refl c.args.self.now),
  (value_alone (g.S.Scopes.state c.args.self.now.scopes.now) c.args.self.now.notes.now c.args.self.now.fragments.now.nodes.items c.args.self.now.site.now true NoMatter error_in (λ k. in_error) tt (λ k. refl)),
)

pub looked_at-expression-requires : goal.looked_at-expression-requires
looked_at-expression-requires g t c κs within =
    ((let small = item_small size-Expr c.args.args.now c.loop-e.e-index c.e-item.result c.loop-e-test.true c.e-item.is in omega (arith, small, c.decreases)), (within, ((rw c.loop-e.invariant.0.site (suits_after c.loop-e.invariant.1 c.requires.suits)), ((rw c.loop-e.invariant.0.withs (open_after c.loop-e.invariant.1 c.args.self.now.withs.now c.requires.withs)), (rw c.loop-e.invariant.0.site (read_expr c.args.self.now.site.now.texts.now.names expr_view c.args.args.now c.loop-e.e-index c.e-item.result c.loop-e-test.true c.e-item.is c.requires.read))))))

pub looked_at-loop-e-preserved : goal.looked_at-loop-e-preserved
looked_at-loop-e-preserved g t c = (
  (Keeps-trans c.loop-e.invariant.0 c.expression.ensures.keeps),
  (one_more (λ k o i. and_then (expression k (with_types c.args.self.now.withs.now) (expr_view i)) (λ x. gives o)) in_error c.args.args.now c.loop-e.e-index c.e-item.result c.loop-e-test.true c.e-item.is c.loop-e.invariant.1
      (coding_after (λ k. expression k (with_types c.args.self.now.withs.now) (expr_view c.e-item.result)) (λ x k. gives in_error) (Ok (Known true)) (rw c.loop-e.invariant.0.withs at (rw c.loop-e.invariant.0.site at (rw c.in-Known.is at c.in-Ok.ensures.codes))) (value_alone (g.S.Scopes.state c.expression.new.self.scopes.now) c.expression.new.self.notes.now c.expression.new.self.fragments.now.nodes.items c.args.self.now.site.now true NoMatter error_in (λ k. in_error) tt (λ k. refl)))),
)

pub looked_at-returns-in-DontKnowYet-clause-codes : goal.looked_at-returns-in-DontKnowYet-clause-codes
looked_at-returns-in-DontKnowYet-clause-codes g t c = unknown_after c.loop-e.invariant.1 (rw c.loop-e.invariant.0.withs at (rw c.loop-e.invariant.0.site at (rw c.in-DontKnowYet.is at c.in-Ok.ensures.codes)))

pub looked_at-returns-in-Err-clause-codes : goal.looked_at-returns-in-Err-clause-codes
looked_at-returns-in-Err-clause-codes g t c = unmade_after c.loop-e.invariant.1 (rw c.loop-e.invariant.0.withs at (rw c.loop-e.invariant.0.site at c.in-Err.ensures.codes)) _

pub looked_at-returns-clause-codes : goal.looked_at-returns-clause-codes
looked_at-returns-clause-codes g t c =
    as_error (whole (λ k o i. and_then (expression k (with_types c.args.self.now.withs.now) (expr_view i)) (λ x. gives o)) in_error c.args.args.now c.loop-e.e-index (λ k. looked_at k (with_types c.args.self.now.withs.now) (exprs (map expr_view c.args.args.now))) c.loop-e-test.false c.loop-e.invariant.1 (λ k. looked_folded k (with_types c.args.self.now.withs.now) expr_view c.args.args.now)) c.in_error.result c.in_error.ensures.told c.in_error.ensures.there

pub passed-loop-e-init : goal.passed-loop-e-init
passed-loop-e-init g t c = (
  (Keeps-refl c.args.self.now),
  (value_alone (g.S.Scopes.state c.args.self.now.scopes.now) c.args.self.now.notes.now c.args.self.now.fragments.now.nodes.items c.args.self.now.site.now (c.args.params.now, Some Nothing) AreLeft left_in (λ k. ((map parameter_view c.args.params.now), Some none)) (c.requires.params, tt) (λ k. refl)),
)

pub passed-next_passed-requires : goal.passed-next_passed-requires
passed-next_passed-requires g t c κs within =
    ((let small = item_small size-Expr c.args.args.now c.loop-e.e-index c.e-item.result c.loop-e-test.true c.e-item.is in omega (arith, small, c.decreases)), (within, ((rw c.loop-e.invariant.0.site (suits_after c.loop-e.invariant.1 c.requires.suits)), ((rw c.loop-e.invariant.0.withs (open_after c.loop-e.invariant.1 c.args.self.now.withs.now c.requires.withs)), ((stands_after c.loop-e.invariant.1).0, ((stands_after c.loop-e.invariant.1).1, (rw c.loop-e.invariant.0.site (read_expr c.args.self.now.site.now.texts.now.names expr_view c.args.args.now c.loop-e.e-index c.e-item.result c.loop-e-test.true c.e-item.is c.requires.read))))))))

pub passed-loop-e-preserved : goal.passed-loop-e-preserved
passed-loop-e-preserved g t c = (
  (Keeps-trans c.loop-e.invariant.0 c.next_passed.ensures.keeps),
  (let one = (rw c.loop-e.invariant.0.withs at (rw c.loop-e.invariant.0.site at (rw c.in-Known.is at c.in-Ok.ensures.codes))) in
      let left = c.behind_first-left.result.now in
      one_more (λ k o i. argument_step k (with_types c.args.self.now.withs.now) o (expr_view i)) ((map parameter_view c.args.params.now), Some none) c.args.args.now c.loop-e.e-index c.e-item.result c.loop-e-test.true c.e-item.is c.loop-e.invariant.1 (coding_after (λ k. next_passed k (with_types c.args.self.now.withs.now) (map parameter_view c.loop-e.left.now) (argument_in c.loop-e.self.fragments.now.nodes.items c.loop-e.code) (expr_view c.e-item.result)) (λ code k. gives (behind_first (map parameter_view c.loop-e.left.now), code)) (Ok (Known (left, c.in-Known.value))) one
      (value_alone (g.S.Scopes.state c.next_passed.new.self.scopes.now) c.next_passed.new.self.notes.now c.next_passed.new.self.fragments.now.nodes.items c.args.self.now.site.now (left, c.in-Known.value) AreLeft left_in (λ k. (behind_first (map parameter_view c.loop-e.left.now), argument_in c.next_passed.new.self.fragments.now.nodes.items c.in-Known.value)) (behind_there _ c.loop-e.left.now left c.behind_first-left.ensures (params_after one c.loop-e.left.now (stands_after c.loop-e.invariant.1).0), stands_after one) (λ k. behind_in left c.loop-e.left.now _ c.behind_first-left.ensures)))),
)

pub passed-returns-in-DontKnowYet-clause-codes : goal.passed-returns-in-DontKnowYet-clause-codes
passed-returns-in-DontKnowYet-clause-codes g t c = unknown_after c.loop-e.invariant.1 (rw c.loop-e.invariant.0.withs at (rw c.loop-e.invariant.0.site at (rw c.in-DontKnowYet.is at c.in-Ok.ensures.codes)))

pub passed-returns-in-Err-clause-codes : goal.passed-returns-in-Err-clause-codes
passed-returns-in-Err-clause-codes g t c = unmade_after c.loop-e.invariant.1 (rw c.loop-e.invariant.0.withs at (rw c.loop-e.invariant.0.site at c.in-Err.ensures.codes)) _

pub passed-returns-clause-codes : goal.passed-returns-clause-codes
passed-returns-clause-codes g t c =
    described (Ok (Known c.all_passed.result)) (coding_after (λ k. folded (λ o i. argument_step k (with_types c.args.self.now.withs.now) o (expr_view i)) ((map parameter_view c.args.params.now), Some none) c.args.args.now) (λ o k. gives (all_passed o.0 o.1)) (Ok (Known c.all_passed.result))
    (whole (λ k o i. argument_step k (with_types c.args.self.now.withs.now) o (expr_view i)) ((map parameter_view c.args.params.now), Some none) c.args.args.now c.loop-e.e-index (λ k. folded (λ o i. argument_step k (with_types c.args.self.now.withs.now) o (expr_view i)) ((map parameter_view c.args.params.now), Some none) c.args.args.now) c.loop-e-test.false c.loop-e.invariant.1 (λ k. refl))
    (value_alone (g.S.Scopes.state c.loop-e.self.scopes.now) c.loop-e.self.notes.now c.loop-e.self.fragments.now.nodes.items c.args.self.now.site.now c.all_passed.result IsArgument argument_in (λ k. all_passed (map parameter_view c.loop-e.left.now) (argument_in c.loop-e.self.fragments.now.nodes.items c.loop-e.code))
    (c.all_passed.ensures.there (g.S.Scopes.state c.loop-e.self.scopes.now).frame c.loop-e.self.fragments.now.nodes.items (stands_after c.loop-e.invariant.1).1) (λ k. c.all_passed.ensures.told c.loop-e.self.fragments.now.nodes.items))) (λ k. passed_whole k (with_types c.args.self.now.withs.now) expr_view (map parameter_view c.args.params.now) c.args.args.now)

pub expression-designated-requires-in-Call : goal.expression-designated-requires-in-Call
expression-designated-requires-in-Call g t c κs within =
    ((let small = called_smaller c.args.e.now c.in-Call.to c.in-Call.args c.in-Call.is in omega (arith, small, c.decreases)), (within, (c.requires.suits, (c.requires.withs, ((form_read c.args.self.now.site.now.texts.now.names c.args.e.now _ _ c.in-Call.is (call_seen c.in-Call.to c.in-Call.args) c.requires.read).0)))))

pub expression-returns-in-DontKnowYet-asked-clause-codes : goal.expression-returns-in-DontKnowYet-asked-clause-codes
expression-returns-in-DontKnowYet-asked-clause-codes g t c = unknown (rw c.in-DontKnowYet-asked.is at c.in-Ok-designated.ensures.codes)

pub expression-returns-in-Err-designated-clause-codes : goal.expression-returns-in-Err-designated-clause-codes
expression-returns-in-Err-designated-clause-codes g t c = unmade c.in-Err-designated.ensures.codes _

pub expression-called_with-requires : goal.expression-called_with-requires
expression-called_with-requires g t c κs within =
    let told_first = rw c.in-Known-asked.is at c.in-Ok-designated.ensures.codes in
    ((let small = arguments_smaller c.args.e.now c.in-Call.to c.in-Call.args c.in-Call.is in let same = ap (most size-Expr) c.deref-in-Call.ensures.value in omega (arith, small, same, c.decreases)), (within, ((rw c.designated-in-Call.ensures.keeps.site (suits_after told_first c.requires.suits)), ((rw c.designated-in-Call.ensures.keeps.withs (open_after told_first c.args.self.now.withs.now c.requires.withs)), (stands_after told_first, (rw c.designated-in-Call.ensures.keeps.site (rw c.deref-in-Call.ensures.value (form_read c.args.self.now.site.now.texts.now.names c.args.e.now _ _ c.in-Call.is (call_seen c.in-Call.to c.in-Call.args) c.requires.read).1)))))))

pub expression-returns-in-Known-asked-clause-codes : goal.expression-returns-in-Known-asked-clause-codes
expression-returns-in-Known-asked-clause-codes g t c =
    let d = c.in-Call.to in
    let args = exprs (map expr_view c.in-Call.args.items) in
    described c.called_with.result (coding_after (λ k. designated k (with_types c.args.self.now.withs.now) (designator_view d)) (λ x k. called_with k (with_types c.args.self.now.withs.now) true d.first.at x args) c.called_with.result (rw c.in-Known-asked.is at c.in-Ok-designated.ensures.codes) (rw c.deref-in-Call.ensures.value at (rw c.designated-in-Call.ensures.keeps.withs at (rw c.designated-in-Call.ensures.keeps.site at c.called_with.ensures.codes))))
    (λ k. ap (λ (at : ℕ). and_then (designated k (with_types c.args.self.now.withs.now) (designator_view d)) (λ x. called_with k (with_types c.args.self.now.withs.now) true at x args)) (sym (designator_at_seen d)) ∙ form_given k (with_types c.args.self.now.withs.now) c.args.e.now _ _ c.in-Call.is (call_seen d c.in-Call.args))

pub next_passed-returns-in-None-clause-codes : goal.next_passed-returns-in-None-clause-codes
next_passed-returns-in-None-clause-codes g t c =
    let ns = c.args.self.now.fragments.now.nodes.items in
    described (Ok (Known None)) (value_alone (g.S.Scopes.state c.args.self.now.scopes.now) c.args.self.now.notes.now ns c.args.self.now.site.now None IsArgument argument_in (λ k. None) tt (λ k. refl)) (λ k. none_passed k (with_types c.args.self.now.withs.now) c.args.params.now (argument_in ns c.args.code) (expr_view c.args.e.now) (rw c.in-None.is at c.first.ensures.value))

pub next_passed-expression-requires : goal.next_passed-expression-requires
next_passed-expression-requires g t c κs within = (search rules, (within, (c.requires.suits, (c.requires.withs, (c.requires.read)))))

pub next_passed-returns-in-DontKnowYet-clause-codes : goal.next_passed-returns-in-DontKnowYet-clause-codes
next_passed-returns-in-DontKnowYet-clause-codes g t c = unknown (rw c.in-DontKnowYet.is at c.in-Ok.ensures.codes)

pub next_passed-returns-in-Err-clause-codes : goal.next_passed-returns-in-Err-clause-codes
next_passed-returns-in-Err-clause-codes g t c = unmade c.in-Err.ensures.codes _

pub next_passed-argument-requires-clause-suits : goal.next_passed-argument-requires-clause-suits
next_passed-argument-requires-clause-suits g t c = (rw c.expression.ensures.keeps.site (suits_after (rw c.in-Known.is at c.in-Ok.ensures.codes) c.requires.suits))

pub next_passed-argument-requires-clause-p : goal.next_passed-argument-requires-clause-p
next_passed-argument-requires-clause-p g t c = there_after (rw c.in-Known.is at c.in-Ok.ensures.codes) c.in-Some.p.now.of (first_there _ c.args.params.now c.in-Some.p.now (rw c.in-Some.is at c.first.ensures.value) c.requires.params)

pub next_passed-argument-requires-clause-x : goal.next_passed-argument-requires-clause-x
next_passed-argument-requires-clause-x g t c = stands_after (rw c.in-Known.is at c.in-Ok.ensures.codes)

pub next_passed-returns-in-DontKnowYet-asked-clause-codes : goal.next_passed-returns-in-DontKnowYet-asked-clause-codes
next_passed-returns-in-DontKnowYet-asked-clause-codes g t c = unknown_after (rw c.in-Known.is at c.in-Ok.ensures.codes) (rw c.expression.ensures.keeps.site at (rw c.in-DontKnowYet-asked.is at c.in-Ok-argument.ensures.codes))

pub next_passed-returns-in-Err-argument-clause-codes : goal.next_passed-returns-in-Err-argument-clause-codes
next_passed-returns-in-Err-argument-clause-codes g t c = unmade_after (rw c.in-Known.is at c.in-Ok.ensures.codes) (rw c.expression.ensures.keeps.site at c.in-Err-argument.ensures.codes) _

pub next_passed-returns-in-Known-asked-clause-codes : goal.next_passed-returns-in-Known-asked-clause-codes
next_passed-returns-in-Known-asked-clause-codes g t c =
    let one = (rw c.in-Known.is at c.in-Ok.ensures.codes) in
    let two = (rw c.expression.ensures.keeps.site at (rw c.in-Known-asked.is at c.in-Ok-argument.ensures.codes)) in
    let e = c.args.e.now in
    let p = c.in-Some.p.now in
    let code = argument_in c.args.self.now.fragments.now.nodes.items c.args.code in
    let x = coded_in c.expression.new.self.fragments.now.nodes.items c.in-Known.value in
    described c.joined.result (coding_after (λ k. expression k (with_types c.args.self.now.withs.now) (expr_view e)) (λ x k. and_then (argument k (parameter_view p) e.at x) (λ a. gives (after_argument code a))) c.joined.result one (coding_after (λ k. argument k (parameter_view p) e.at x) (λ a k. gives (after_argument code a)) c.joined.result two
    (described c.joined.result (c.joined.ensures (g.S.Scopes.state c.argument.new.self.scopes.now) c.argument.new.self.notes.now c.args.self.now.site.now) (λ k. ap (λ (o : Option Part). gives (after_argument o (argument_in c.argument.new.self.fragments.now.nodes.items c.in-Known-asked.value))) (argument_later (Grows-trans one.grows two.grows) (g.S.Scopes.state c.args.self.now.scopes.now).frame c.args.code c.requires.code)))))
    (λ k. ap (λ (at : ℕ). and_then (expression k (with_types c.args.self.now.withs.now) (expr_view e)) (λ x. and_then (argument k (parameter_view p) at x) (λ a. gives (after_argument code a)))) (sym (at_seen e)) ∙ parameter_given k (with_types c.args.self.now.withs.now) c.args.params.now p code (expr_view e) (rw c.in-Some.is at c.first.ensures.value))

pub expression-overflow_cast-value : goal.expression-overflow_cast-value
expression-overflow_cast-value g t c = let small = (form_read c.args.self.now.site.now.texts.now.names c.args.e.now _ _ c.in-Number.is (number_seen c.in-Number.value) c.requires.read) in omega (arith, small)

pub expression-overflow_cast-value-in-Char : goal.expression-overflow_cast-value-in-Char
expression-overflow_cast-value-in-Char g t c = let small = (form_read c.args.self.now.site.now.texts.now.names c.args.e.now _ _ c.in-Char.is (char_seen c.in-Char.value) c.requires.read) in omega (arith, small)

-- ** It still works on what it was lent

pub standard-returns-in-Known-clause-keeps : goal.standard-returns-in-Known-clause-keeps
standard-returns-in-Known-clause-keeps g t c = Keeps-trans c.expression.ensures.keeps c.of_one_argument.ensures.keeps

pub standard-returns-in-DontKnowYet-asked-2-clause-keeps : goal.standard-returns-in-DontKnowYet-asked-2-clause-keeps
standard-returns-in-DontKnowYet-asked-2-clause-keeps g t c = Keeps-trans c.expression-in-len2-up.ensures.keeps c.first_of_two.ensures.keeps

pub standard-returns-in-Err-first_of_two-clause-keeps : goal.standard-returns-in-Err-first_of_two-clause-keeps
standard-returns-in-Err-first_of_two-clause-keeps g t c = Keeps-trans c.expression-in-len2-up.ensures.keeps c.first_of_two.ensures.keeps

pub standard-returns-in-DontKnowYet-asked-3-clause-keeps : goal.standard-returns-in-DontKnowYet-asked-3-clause-keeps
standard-returns-in-DontKnowYet-asked-3-clause-keeps g t c = Keeps-trans (Keeps-trans c.expression-in-len2-up.ensures.keeps c.first_of_two.ensures.keeps) c.expression-in-len2-up-2.ensures.keeps

pub standard-returns-in-Err-expression-2-clause-keeps : goal.standard-returns-in-Err-expression-2-clause-keeps
standard-returns-in-Err-expression-2-clause-keeps g t c = Keeps-trans (Keeps-trans c.expression-in-len2-up.ensures.keeps c.first_of_two.ensures.keeps) c.expression-in-len2-up-2.ensures.keeps

pub standard-returns-in-Known-asked-3-clause-keeps : goal.standard-returns-in-Known-asked-3-clause-keeps
standard-returns-in-Known-asked-3-clause-keeps g t c = Keeps-trans (Keeps-trans (Keeps-trans c.expression-in-len2-up.ensures.keeps c.first_of_two.ensures.keeps) c.expression-in-len2-up-2.ensures.keeps) c.of_two_arguments.ensures.keeps

pub expression-returns-in-Known-clause-keeps : goal.expression-returns-in-Known-clause-keeps
expression-returns-in-Known-clause-keeps g t c = Keeps-trans c.set_type.ensures.keeps c.set_of-in-Some.ensures.keeps

pub expression-returns-in-Known-asked-clause-keeps : goal.expression-returns-in-Known-asked-clause-keeps
expression-returns-in-Known-asked-clause-keeps g t c = Keeps-trans c.designated-in-Call.ensures.keeps c.called_with.ensures.keeps

pub expression-returns-in-Known-asked-2-clause-keeps : goal.expression-returns-in-Known-asked-2-clause-keeps
expression-returns-in-Known-asked-2-clause-keeps g t c = Keeps-trans c.value_of.ensures.keeps c.one_coded.ensures.keeps

pub expression-returns-in-Known-asked-3-clause-keeps : goal.expression-returns-in-Known-asked-3-clause-keeps
expression-returns-in-Known-asked-3-clause-keeps g t c = Keeps-trans c.value_of-in-Many.ensures.keeps c.continued.ensures.keeps

pub continued-returns-in-DontKnowYet-clause-keeps : goal.continued-returns-in-DontKnowYet-clause-keeps
continued-returns-in-DontKnowYet-clause-keeps g t c = Keeps-trans c.loop-next.invariant.0 c.value_of.ensures.keeps

pub continued-returns-in-Err-clause-keeps : goal.continued-returns-in-Err-clause-keeps
continued-returns-in-Err-clause-keeps g t c = Keeps-trans c.loop-next.invariant.0 c.value_of.ensures.keeps

pub continued-returns-in-DontKnowYet-asked-clause-keeps : goal.continued-returns-in-DontKnowYet-asked-clause-keeps
continued-returns-in-DontKnowYet-asked-clause-keeps g t c = Keeps-trans (Keeps-trans c.loop-next.invariant.0 c.value_of.ensures.keeps) c.two_coded.ensures.keeps

pub continued-returns-in-Err-two_coded-clause-keeps : goal.continued-returns-in-Err-two_coded-clause-keeps
continued-returns-in-Err-two_coded-clause-keeps g t c = Keeps-trans (Keeps-trans c.loop-next.invariant.0 c.value_of.ensures.keeps) c.two_coded.ensures.keeps

pub indexed-returns-in-DontKnowYet-clause-keeps : goal.indexed-returns-in-DontKnowYet-clause-keeps
indexed-returns-in-DontKnowYet-clause-keeps g t c = Keeps-trans c.loop-e.invariant.0 c.value_of.ensures.keeps

pub indexed-returns-in-Err-clause-keeps : goal.indexed-returns-in-Err-clause-keeps
indexed-returns-in-Err-clause-keeps g t c = Keeps-trans c.loop-e.invariant.0 c.value_of.ensures.keeps

pub indexed-returns-in-DontKnowYet-asked-clause-keeps : goal.indexed-returns-in-DontKnowYet-asked-clause-keeps
indexed-returns-in-DontKnowYet-asked-clause-keeps g t c = Keeps-trans (Keeps-trans c.loop-e.invariant.0 c.value_of.ensures.keeps) c.select_element.ensures.keeps

pub indexed-returns-in-Err-select_element-clause-keeps : goal.indexed-returns-in-Err-select_element-clause-keeps
indexed-returns-in-Err-select_element-clause-keeps g t c = Keeps-trans (Keeps-trans c.loop-e.invariant.0 c.value_of.ensures.keeps) c.select_element.ensures.keeps

pub next_passed-returns-in-DontKnowYet-asked-clause-keeps : goal.next_passed-returns-in-DontKnowYet-asked-clause-keeps
next_passed-returns-in-DontKnowYet-asked-clause-keeps g t c = Keeps-trans c.expression.ensures.keeps c.argument.ensures.keeps

pub next_passed-returns-in-Err-argument-clause-keeps : goal.next_passed-returns-in-Err-argument-clause-keeps
next_passed-returns-in-Err-argument-clause-keeps g t c = Keeps-trans c.expression.ensures.keeps c.argument.ensures.keeps

pub called_with-returns-in-Standard-clause-keeps : goal.called_with-returns-in-Standard-clause-keeps
called_with-returns-in-Standard-clause-keeps g t c = Keeps-trans c.called.ensures.keeps c.standard.ensures.keeps

pub called_with-returns-in-DontKnowYet-asked-clause-keeps : goal.called_with-returns-in-DontKnowYet-asked-clause-keeps
called_with-returns-in-DontKnowYet-asked-clause-keeps g t c = Keeps-trans c.called.ensures.keeps c.passed.ensures.keeps

pub called_with-returns-in-Err-passed-clause-keeps : goal.called_with-returns-in-Err-passed-clause-keeps
called_with-returns-in-Err-passed-clause-keeps g t c = Keeps-trans c.called.ensures.keeps c.passed.ensures.keeps

pub called_with-returns-in-Procedure-clause-keeps : goal.called_with-returns-in-Procedure-clause-keeps
called_with-returns-in-Procedure-clause-keeps g t c = Keeps-trans (Keeps-trans c.called.ensures.keeps c.passed.ensures.keeps) c.call_coded.ensures.keeps

pub called_with-returns-in-DontKnowYet-asked-2-clause-keeps : goal.called_with-returns-in-DontKnowYet-asked-2-clause-keeps
called_with-returns-in-DontKnowYet-asked-2-clause-keeps g t c = Keeps-trans c.called.ensures.keeps c.passed-in-Lacking.ensures.keeps

pub called_with-returns-in-Err-passed-2-clause-keeps : goal.called_with-returns-in-Err-passed-2-clause-keeps
called_with-returns-in-Err-passed-2-clause-keeps g t c = Keeps-trans c.called.ensures.keeps c.passed-in-Lacking.ensures.keeps

pub called_with-returns-in-Lacking-clause-keeps : goal.called_with-returns-in-Lacking-clause-keeps
called_with-returns-in-Lacking-clause-keeps g t c = Keeps-trans c.called.ensures.keeps c.passed-in-Lacking.ensures.keeps

pub called_with-returns-clause-keeps : goal.called_with-returns-clause-keeps
called_with-returns-clause-keeps g t c = Keeps-trans c.called.ensures.keeps c.looked_at.ensures.keeps

pub element-returns-in-None-clause-keeps : goal.element-returns-in-None-clause-keeps
element-returns-in-None-clause-keeps g t c = Keeps-trans c.member.ensures.keeps c.add_element.ensures.keeps

pub element-returns-in-Some-clause-keeps : goal.element-returns-in-Some-clause-keeps
element-returns-in-Some-clause-keeps g t c = Keeps-trans c.member.ensures.keeps c.range_to.ensures.keeps

pub range_to-returns-clause-keeps : goal.range_to-returns-clause-keeps
range_to-returns-clause-keeps g t c = Keeps-trans c.member.ensures.keeps c.add_range.ensures.keeps

pub designated-returns-in-DontKnowYet-asked-clause-keeps : goal.designated-returns-in-DontKnowYet-asked-clause-keeps
designated-returns-in-DontKnowYet-asked-clause-keeps g t c = Keeps-trans c.loop-selector.invariant.0 c.select.ensures.keeps

pub designated-returns-in-Err-select-clause-keeps : goal.designated-returns-in-Err-select-clause-keeps
designated-returns-in-Err-select-clause-keeps g t c = Keeps-trans c.loop-selector.invariant.0 c.select.ensures.keeps

pub elements-returns-in-DontKnowYet-clause-keeps : goal.elements-returns-in-DontKnowYet-clause-keeps
elements-returns-in-DontKnowYet-clause-keeps g t c = Keeps-trans c.loop-label.invariant.0 c.element.ensures.keeps

pub elements-returns-in-Err-clause-keeps : goal.elements-returns-in-Err-clause-keeps
elements-returns-in-Err-clause-keeps g t c = Keeps-trans c.loop-label.invariant.0 c.element.ensures.keeps

pub passed-returns-in-DontKnowYet-clause-keeps : goal.passed-returns-in-DontKnowYet-clause-keeps
passed-returns-in-DontKnowYet-clause-keeps g t c = Keeps-trans c.loop-e.invariant.0 c.next_passed.ensures.keeps

pub passed-returns-in-Err-clause-keeps : goal.passed-returns-in-Err-clause-keeps
passed-returns-in-Err-clause-keeps g t c = Keeps-trans c.loop-e.invariant.0 c.next_passed.ensures.keeps

pub looked_at-returns-in-DontKnowYet-clause-keeps : goal.looked_at-returns-in-DontKnowYet-clause-keeps
looked_at-returns-in-DontKnowYet-clause-keeps g t c = Keeps-trans c.loop-e.invariant.0 c.expression.ensures.keeps

pub looked_at-returns-in-Err-clause-keeps : goal.looked_at-returns-in-Err-clause-keeps
looked_at-returns-in-Err-clause-keeps g t c = Keeps-trans c.loop-e.invariant.0 c.expression.ensures.keeps

pub next_passed-returns-in-Known-asked-clause-keeps : goal.next_passed-returns-in-Known-asked-clause-keeps
next_passed-returns-in-Known-asked-clause-keeps g t c =
    let k = Keeps-trans c.expression.ensures.keeps c.argument.ensures.keeps in record { site = k.site; withs = k.withs; scopes = k.scopes; fragments = k.fragments; notes = k.notes }

pub value_of-returns-in-DontKnowYet-clause-keeps : goal.value_of-returns-in-DontKnowYet-clause-keeps
value_of-returns-in-DontKnowYet-clause-keeps g t c = c.expression.ensures.keeps

pub value_of-returns-in-Err-clause-keeps : goal.value_of-returns-in-Err-clause-keeps
value_of-returns-in-Err-clause-keeps g t c = c.expression.ensures.keeps

pub member-returns-in-DontKnowYet-clause-keeps : goal.member-returns-in-DontKnowYet-clause-keeps
member-returns-in-DontKnowYet-clause-keeps g t c = c.value_of.ensures.keeps

pub member-returns-in-Err-clause-keeps : goal.member-returns-in-Err-clause-keeps
member-returns-in-Err-clause-keeps g t c = c.value_of.ensures.keeps

pub member-returns-in-DontKnowYet-asked-clause-keeps : goal.member-returns-in-DontKnowYet-asked-clause-keeps
member-returns-in-DontKnowYet-asked-clause-keeps g t c = let k = c.value_of.ensures.keeps in record { site = k.site; withs = k.withs; scopes = k.scopes; fragments = k.fragments; notes = k.notes }

pub member-returns-in-Err-taken-clause-keeps : goal.member-returns-in-Err-taken-clause-keeps
member-returns-in-Err-taken-clause-keeps g t c = let k = c.value_of.ensures.keeps in record { site = k.site; withs = k.withs; scopes = k.scopes; fragments = k.fragments; notes = k.notes }

pub member-returns-in-InError-clause-keeps : goal.member-returns-in-InError-clause-keeps
member-returns-in-InError-clause-keeps g t c = let k = c.value_of.ensures.keeps in record { site = k.site; withs = k.withs; scopes = k.scopes; fragments = k.fragments; notes = k.notes }

pub member-returns-in_default-clause-keeps : goal.member-returns-in_default-clause-keeps
member-returns-in_default-clause-keeps g t c = let k = c.value_of.ensures.keeps in record { site = k.site; withs = k.withs; scopes = k.scopes; fragments = k.fragments; notes = k.notes }

pub set_type-returns-in-DontKnowYet-clause-keeps : goal.set_type-returns-in-DontKnowYet-clause-keeps
set_type-returns-in-DontKnowYet-clause-keeps g t c = c.designated.ensures.keeps

pub set_type-returns-in-Err-clause-keeps : goal.set_type-returns-in-Err-clause-keeps
set_type-returns-in-Err-clause-keeps g t c = c.designated.ensures.keeps

pub set_type-returns-clause-keeps : goal.set_type-returns-clause-keeps
set_type-returns-clause-keeps g t c = let k = c.designated.ensures.keeps in record { site = k.site; withs = k.withs; scopes = k.scopes; fragments = k.fragments; notes = k.notes }

pub range_to-returns-in-DontKnowYet-clause-keeps : goal.range_to-returns-in-DontKnowYet-clause-keeps
range_to-returns-in-DontKnowYet-clause-keeps g t c = c.member.ensures.keeps

pub range_to-returns-in-Err-clause-keeps : goal.range_to-returns-in-Err-clause-keeps
range_to-returns-in-Err-clause-keeps g t c = c.member.ensures.keeps

pub element-returns-in-DontKnowYet-clause-keeps : goal.element-returns-in-DontKnowYet-clause-keeps
element-returns-in-DontKnowYet-clause-keeps g t c = c.member.ensures.keeps

pub element-returns-in-Err-clause-keeps : goal.element-returns-in-Err-clause-keeps
element-returns-in-Err-clause-keeps g t c = c.member.ensures.keeps

pub designated-returns-in-DontKnowYet-clause-keeps : goal.designated-returns-in-DontKnowYet-clause-keeps
designated-returns-in-DontKnowYet-clause-keeps g t c = c.name_coded.ensures.keeps

pub designated-returns-in-Err-clause-keeps : goal.designated-returns-in-Err-clause-keeps
designated-returns-in-Err-clause-keeps g t c = c.name_coded.ensures.keeps

pub designated-returns-clause-keeps : goal.designated-returns-clause-keeps
designated-returns-clause-keeps g t c = c.loop-selector.invariant.0

pub continued-returns-clause-keeps : goal.continued-returns-clause-keeps
continued-returns-clause-keeps g t c = c.loop-next.invariant.0

pub elements-returns-clause-keeps : goal.elements-returns-clause-keeps
elements-returns-clause-keeps g t c = c.loop-label.invariant.0

pub indexed-returns-clause-keeps : goal.indexed-returns-clause-keeps
indexed-returns-clause-keeps g t c = c.loop-e.invariant.0

pub looked_at-returns-clause-keeps : goal.looked_at-returns-clause-keeps
looked_at-returns-clause-keeps g t c = c.loop-e.invariant.0

pub passed-returns-clause-keeps : goal.passed-returns-clause-keeps
passed-returns-clause-keeps g t c = c.loop-e.invariant.0

pub next_passed-returns-in-DontKnowYet-clause-keeps : goal.next_passed-returns-in-DontKnowYet-clause-keeps
next_passed-returns-in-DontKnowYet-clause-keeps g t c = c.expression.ensures.keeps

pub next_passed-returns-in-Err-clause-keeps : goal.next_passed-returns-in-Err-clause-keeps
next_passed-returns-in-Err-clause-keeps g t c = c.expression.ensures.keeps

pub next_passed-returns-in-None-clause-keeps : goal.next_passed-returns-in-None-clause-keeps
next_passed-returns-in-None-clause-keeps g t c = Keeps-refl _

pub called_with-returns-in-DontKnowYet-clause-keeps : goal.called_with-returns-in-DontKnowYet-clause-keeps
called_with-returns-in-DontKnowYet-clause-keeps g t c = c.called.ensures.keeps

pub called_with-returns-in-Err-clause-keeps : goal.called_with-returns-in-Err-clause-keeps
called_with-returns-in-Err-clause-keeps g t c = c.called.ensures.keeps

pub select-returns-in-Field-clause-keeps : goal.select-returns-in-Field-clause-keeps
select-returns-in-Field-clause-keeps g t c = c.select_field.ensures.keeps

pub select-returns-in-Deref-clause-keeps : goal.select-returns-in-Deref-clause-keeps
select-returns-in-Deref-clause-keeps g t c = c.select_target.ensures.keeps

pub select-returns-in-Index-clause-keeps : goal.select-returns-in-Index-clause-keeps
select-returns-in-Index-clause-keeps g t c = c.indexed.ensures.keeps

pub standard-returns-in-DontKnowYet-clause-keeps : goal.standard-returns-in-DontKnowYet-clause-keeps
standard-returns-in-DontKnowYet-clause-keeps g t c = c.expression.ensures.keeps

pub standard-returns-in-Err-clause-keeps : goal.standard-returns-in-Err-clause-keeps
standard-returns-in-Err-clause-keeps g t c = c.expression.ensures.keeps

pub standard-returns-in-DontKnowYet-asked-clause-keeps : goal.standard-returns-in-DontKnowYet-asked-clause-keeps
standard-returns-in-DontKnowYet-asked-clause-keeps g t c = c.expression-in-len2-up.ensures.keeps

pub standard-returns-in-Err-expression-clause-keeps : goal.standard-returns-in-Err-expression-clause-keeps
standard-returns-in-Err-expression-clause-keeps g t c = c.expression-in-len2-up.ensures.keeps

pub expression-returns-in-DontKnowYet-clause-keeps : goal.expression-returns-in-DontKnowYet-clause-keeps
expression-returns-in-DontKnowYet-clause-keeps g t c = c.set_type.ensures.keeps

pub expression-returns-in-Err-clause-keeps : goal.expression-returns-in-Err-clause-keeps
expression-returns-in-Err-clause-keeps g t c = c.set_type.ensures.keeps

pub expression-returns-in-DontKnowYet-asked-clause-keeps : goal.expression-returns-in-DontKnowYet-asked-clause-keeps
expression-returns-in-DontKnowYet-asked-clause-keeps g t c = c.designated-in-Call.ensures.keeps

pub expression-returns-in-Err-designated-clause-keeps : goal.expression-returns-in-Err-designated-clause-keeps
expression-returns-in-Err-designated-clause-keeps g t c = c.designated-in-Call.ensures.keeps

pub expression-returns-in-DontKnowYet-asked-2-clause-keeps : goal.expression-returns-in-DontKnowYet-asked-2-clause-keeps
expression-returns-in-DontKnowYet-asked-2-clause-keeps g t c = c.value_of.ensures.keeps

pub expression-returns-in-Err-value_of-clause-keeps : goal.expression-returns-in-Err-value_of-clause-keeps
expression-returns-in-Err-value_of-clause-keeps g t c = c.value_of.ensures.keeps

pub expression-returns-in-DontKnowYet-asked-3-clause-keeps : goal.expression-returns-in-DontKnowYet-asked-3-clause-keeps
expression-returns-in-DontKnowYet-asked-3-clause-keeps g t c = c.value_of-in-Many.ensures.keeps

pub expression-returns-in-Err-value_of-2-clause-keeps : goal.expression-returns-in-Err-value_of-2-clause-keeps
expression-returns-in-Err-value_of-2-clause-keeps g t c = c.value_of-in-Many.ensures.keeps

pub expression-returns-in-Name-clause-keeps : goal.expression-returns-in-Name-clause-keeps
expression-returns-in-Name-clause-keeps g t c = c.designated.ensures.keeps

pub expression-returns-in-None-clause-keeps : goal.expression-returns-in-None-clause-keeps
expression-returns-in-None-clause-keeps g t c = c.set_of.ensures.keeps

pub expression-returns-in-Number-clause-keeps : goal.expression-returns-in-Number-clause-keeps
expression-returns-in-Number-clause-keeps g t c = Keeps-refl _

pub expression-returns-in-Char-clause-keeps : goal.expression-returns-in-Char-clause-keeps
expression-returns-in-Char-clause-keeps g t c = Keeps-refl _

pub expression-returns-in-Str-clause-keeps : goal.expression-returns-in-Str-clause-keeps
expression-returns-in-Str-clause-keeps g t c = Keeps-refl _

pub called_with-called-requires-clause-suits : goal.called_with-called-requires-clause-suits
called_with-called-requires-clause-suits g t c = c.requires.suits

pub called_with-called-requires-clause-x : goal.called_with-called-requires-clause-x
called_with-called-requires-clause-x g t c = c.requires.to

pub designated-name_coded-requires-clause-suits : goal.designated-name_coded-requires-clause-suits
designated-name_coded-requires-clause-suits g t c = c.requires.suits

pub designated-name_coded-requires-clause-withs : goal.designated-name_coded-requires-clause-withs
designated-name_coded-requires-clause-withs g t c = c.requires.withs

pub select-select_field-requires-clause-suits : goal.select-select_field-requires-clause-suits
select-select_field-requires-clause-suits g t c = c.requires.suits

pub select-select_field-requires-clause-x : goal.select-select_field-requires-clause-x
select-select_field-requires-clause-x g t c = c.requires.x

pub select-select_target-requires-clause-suits : goal.select-select_target-requires-clause-suits
select-select_target-requires-clause-suits g t c = c.requires.suits

pub select-select_target-requires-clause-x : goal.select-select_target-requires-clause-x
select-select_target-requires-clause-x g t c = c.requires.x

pub set_of-set_start-requires-clause-suits : goal.set_of-set_start-requires-clause-suits
set_of-set_start-requires-clause-suits g t c = c.requires.suits

pub set_of-set_start-requires-clause-of : goal.set_of-set_start-requires-clause-of
set_of-set_start-requires-clause-of g t c = c.requires.of
