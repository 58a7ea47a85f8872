use Rattle.std.proofs.Common.{◌≡◌, ◌∙◌, [], ℕ, None, Ok, Some, ap, arith, map, refl, rules, sym, to_z, w64}
use denote.Param.Weighed.{most}
use Rattle.std.specs.Prelude.{option_map}
use Rattle.m2_base.specs.Gives.{and_then, gives}
use Rattle.m2_base.specs.Standard.{character, whole as whole_type}
use Rattle.m2_base.specs.States.{Frame}
use Rattle.m2_base.specs.Statics.Constants.{designator_in, element_in, elements_in, field_operand, indices_in, many_in, name_operand, next_in, operand_in, selected, selector_in, selectors_in, spoilt_by, value_wanted}
use Rattle.m2_base.specs.Statics.Contexts.{Context}
use Rattle.m2_base.specs.Statics.Operations.{apply_one, operate}
use Rattle.m2_base.specs.Statics.Sets.{element_of, no_elements, set_base, set_type_of, with_elements}
use Rattle.m2_base.specs.Trees.{designator_at, expr_at, exprs, label_with, labels, nexts, selectors}
use Rattle.m2_base.specs.Views.{designator_view, expr_view, label_view, next_view, selector_view}
use Rattle.m2_base.specs.declared.trees.Ident.{Ident}
use Rattle.m2_base.specs.declared.operands.Operand.{Operand}
use Rattle.m2_base.specs.declared.operands.Operand.TheVariants.{Constant, ModuleName}
use Rattle.m2_base.specs.declared.replies.Ask.TheVariants.{Known}
use Rattle.m2_base.specs.declared.trees.expressions.Expr.{size-Expr}
use Rattle.m2_base.specs.declared.trees.expressions.ExprForm.TheVariants.{Set}
use Rattle.m2_base.specs.declared.trees.expressions.Label.{out-Label, size-Label}
use Rattle.m2_base.specs.declared.trees.expressions.Next.{size-Next}
use Rattle.m2_base.specs.declared.trees.expressions.Selector.{size-Selector}
use Rattle.m2_base.proofs.Seen.{call_seen, char_seen, deref_seen, designator_seen, field_seen, index_seen, label_seen, many_seen, name_seen, next_seen, number_seen, one_seen, plain_set_seen, string_seen, typed_set_seen}
use Rattle.type_rules.specs.Scenes.{Hand, IsThere}
use Rattle.type_rules.specs.Sites.{SuitsSite, context_of}
use Rattle.const_eval.specs.Calls.{call_with}
use Rattle.const_eval.specs.Parts.{arguments_in, called_in, index_in, member_in, summed, value_in, with_index, with_more}
use Rattle.const_eval.specs.Sites.{AreArguments, IsOperand}
use Rattle.const_eval.proofs.Analysing.{and_after, described, failed, noted_type, quiet, value_alone, value_everywhere, waiting}
use Rattle.const_eval.proofs.Folding.{and_then_gives, and_then_same, argument_in, arguments_folded, called_given, elements_folded, folded, indices_folded, many_folded, nothing_summed, selectors_folded}
use Rattle.const_eval.proofs.Found.{found, turned}
use Rattle.const_eval.proofs.PartsGiven.{many_given, next_given, one_given, one_label_given, range_given}
use Rattle.const_eval.proofs.ReadParts.{at_seen, char_told, char_value, designator_at_seen, designator_read, form_given, form_read, high_read, label_read, low_read, next_read, number_told, number_value, read_expr, read_label, read_next, read_selector, selector_read}
use Rattle.const_eval.proofs.Sequences.{failed_after, failed_third, one_more, one_more_after, stands_after, stays_after, waiting_after, waiting_third, whole, whole_after}
use Rattle.const_eval.proofs.Sizes.{arguments_smaller, called_smaller, first_smaller, high_smaller, index_smaller, item_small, low_smaller, name_smaller, next_smaller, nexts_smaller, one_smaller, rest_smaller, set_smaller, set_type_smaller}
use Rattle.const_eval.proofs.TypesThere.{small_constant, standard_there}
use Rattle.const_eval.proofs.expressions.+expressions.Goals as goal

no_module : (c : Context) (at : ℕ) (o : Operand) (i : Ident) → ((s : ℕ) → o ≡ ModuleName s → ⊥) → selected c at o ≡ field_operand c at o i
no_module c at (ModuleName s) i other = absurd (other s refl)
no_module c at o i other = refl

pub value_in-operand_in-requires : goal.value_in-operand_in-requires
value_in-operand_in-requires g t c κs within =
    (search rules, (within, (c.requires.suits, c.requires.read)))

pub value_in-returns-in-DontKnowYet : goal.value_in-returns-in-DontKnowYet
value_in-returns-in-DontKnowYet g t c =
    waiting (found c.in-DontKnowYet.is c.in-Ok.ensures)

pub value_in-returns-in-Err : goal.value_in-returns-in-Err
value_in-returns-in-Err g t c =
    failed c.in-Err.ensures _

pub value_in-returns : goal.value_in-returns
value_in-returns g t c =
    let one = (found c.in-Known.is c.in-Ok.ensures) in
    let two = c.value_noted.ensures (g.S.Scopes.state c.operand_in.new.scopes) (stands_after one) in
    described c.value_noted.result (and_after (λ k. operand_in k (expr_view c.args.e.now)) (λ o k. value_wanted k c.args.e.now.at o) c.value_noted.result one two)
    (λ k. ap (λ (at : ℕ). and_then (operand_in k (expr_view c.args.e.now)) (λ o. value_wanted k at o)) (sym (at_seen c.args.e.now)))

pub member_in-value_in-requires : goal.member_in-value_in-requires
member_in-value_in-requires g t c κs within =
    (search rules, (within, (c.requires.suits, c.requires.read)))

pub member_in-returns-in-DontKnowYet : goal.member_in-returns-in-DontKnowYet
member_in-returns-in-DontKnowYet g t c =
    waiting (found c.in-DontKnowYet.is c.in-Ok.ensures)

pub member_in-returns-in-Err : goal.member_in-returns-in-Err
member_in-returns-in-Err g t c =
    failed c.in-Err.ensures _

pub member_in-taken-requires-clause-suits : goal.member_in-taken-requires-clause-suits
member_in-taken-requires-clause-suits g t c =
    stays_after (λ (f : Frame). SuitsSite f c.args.site.now) (found c.in-Known.is c.in-Ok.ensures) c.requires.suits

pub member_in-taken-requires-clause-base : goal.member_in-taken-requires-clause-base
member_in-taken-requires-clause-base g t c =
    stays_after (λ (f : Frame). IsThere f c.args.base) (found c.in-Known.is c.in-Ok.ensures) c.requires.base

pub member_in-taken-requires-clause-x : goal.member_in-taken-requires-clause-x
member_in-taken-requires-clause-x g t c =
    stands_after (found c.in-Known.is c.in-Ok.ensures)

pub member_in-returns : goal.member_in-returns
member_in-returns g t c =
    described c.taken.result (and_after (λ k. value_in k (expr_view c.args.e.now)) (λ v k. element_of k c.args.base c.args.e.now.at v) c.taken.result (found c.in-Known.is c.in-Ok.ensures) c.taken.ensures)
    (λ k. ap (λ (at : ℕ). and_then (value_in k (expr_view c.args.e.now)) (λ v. element_of k c.args.base at v)) (sym (at_seen c.args.e.now)))

pub designator_in-name_operand-requires-clause-named : goal.designator_in-name_operand-requires-clause-named
designator_in-name_operand-requires-clause-named g t c =
    (designator_read c.args.site.now.texts.now.names c.args.of.now c.requires.read).0

pub designator_in-returns-in-DontKnowYet : goal.designator_in-returns-in-DontKnowYet
designator_in-returns-in-DontKnowYet g t c =
    waiting (found c.in-DontKnowYet.is c.in-Ok.ensures)

pub designator_in-returns-in-Err : goal.designator_in-returns-in-Err
designator_in-returns-in-Err g t c =
    failed c.in-Err.ensures _

pub selector_in-indices_in-requires : goal.selector_in-indices_in-requires
selector_in-indices_in-requires g t c κs within =
    ((let small = index_smaller c.args.selector.now c.in-Index.es c.in-Index.field-1 c.in-Index.is in let same = ap (most size-Expr) c.deref.ensures.value in omega (arith, small, same, c.decreases)), (within, (c.requires.suits, (c.requires.of, (rw c.deref.ensures.value (selector_read c.args.site.now.texts.now.names c.args.selector.now _ (ap selector_view c.in-Index.is ∙ index_seen c.in-Index.es c.in-Index.field-1) c.requires.read))))))

pub selector_in-returns-in-Index : goal.selector_in-returns-in-Index
selector_in-returns-in-Index g t c =
    described c.indices_in.result (rw c.deref.ensures.value at c.indices_in.ensures) (λ k. ap (selector_in k c.args.of.at c.args.of.operand) (sym (ap selector_view c.in-Index.is ∙ index_seen c.in-Index.es c.in-Index.field-1)))

pub element_in-member_in-requires : goal.element_in-member_in-requires
element_in-member_in-requires g t c κs within =
    ((let small = low_smaller c.args.label.now in omega (arith, small, c.decreases)), (within, (c.requires.suits, (c.requires.base, low_read c.args.site.now.texts.now.names (expr_view (out-Label c.args.label.now).low) (option_map expr_view (out-Label c.args.label.now).high) (label_read c.args.site.now.texts.now.names c.args.label.now c.requires.read)))))

pub element_in-returns-in-DontKnowYet : goal.element_in-returns-in-DontKnowYet
element_in-returns-in-DontKnowYet g t c =
    waiting (found c.in-DontKnowYet.is c.in-Ok.ensures)

pub element_in-returns-in-Err : goal.element_in-returns-in-Err
element_in-returns-in-Err g t c =
    failed c.in-Err.ensures _

pub element_in-with_elements-requires : goal.element_in-with_elements-requires
element_in-with_elements-requires g t c =
    small_constant (g.S.Scopes.state c.args.scopes.now).frame c.args.of.set c.requires.set

pub element_in-member_in-requires-in-Some : goal.element_in-member_in-requires-in-Some
element_in-member_in-requires-in-Some g t c κs within =
    let one = (found c.in-Known.is c.in-Ok.ensures) in
    ((let small = high_smaller c.args.label.now c.in-Some.high c.in-Some.is in omega (arith, small, c.decreases)), (within, ((stays_after (λ (f : Frame). SuitsSite f c.args.site.now) one c.requires.suits), ((stays_after (λ (f : Frame). IsThere f c.args.of.base) one c.requires.base), high_read c.args.site.now.texts.now.names (expr_view (out-Label c.args.label.now).low) (expr_view c.in-Some.high) (rw (ap (option_map expr_view) c.in-Some.is) at (label_read c.args.site.now.texts.now.names c.args.label.now c.requires.read))))))

pub element_in-returns-in-None : goal.element_in-returns-in-None
element_in-returns-in-None g t c =
    let one = (found c.in-Known.is c.in-Ok.ensures) in
    let made = value_everywhere (g.S.Scopes.state c.member_in.new.scopes) c.member_in.new.notes c.args.site.now c.with_elements.result IsOperand (λ k. gives (with_elements c.args.of.set c.in-Known.value c.in-Known.value))
    (c.with_elements.ensures.there (g.S.Scopes.state c.member_in.new.scopes).frame (stays_after (λ (f : Frame). IsOperand f c.args.of.set) one c.requires.set)) (λ k. ap (λ o. gives o) c.with_elements.ensures.told) in
    described (Ok (Known c.with_elements.result)) (and_after (λ k. member_in k c.args.of.base (expr_view (out-Label c.args.label.now).low)) (λ x k. gives (with_elements c.args.of.set x x)) (Ok (Known c.with_elements.result)) one made)
    (λ k. one_label_given k c.args.of.base c.args.of.set (expr_view (out-Label c.args.label.now).low)
    ∙ ap (element_in k c.args.of.base c.args.of.set) (sym (label_seen c.args.label.now ∙ ap (λ h. label_with (expr_view (out-Label c.args.label.now).low) (option_map expr_view h)) c.in-None.is)))

pub element_in-returns-in-DontKnowYet-asked : goal.element_in-returns-in-DontKnowYet-asked
element_in-returns-in-DontKnowYet-asked g t c =
    waiting_after (found c.in-Known.is c.in-Ok.ensures) (found c.in-DontKnowYet-asked.is c.in-Ok-member_in.ensures)

pub element_in-returns-in-Err-member_in : goal.element_in-returns-in-Err-member_in
element_in-returns-in-Err-member_in g t c =
    failed_after (found c.in-Known.is c.in-Ok.ensures) c.in-Err-member_in.ensures _

pub element_in-with_elements-requires-in-Some : goal.element_in-with_elements-requires-in-Some
element_in-with_elements-requires-in-Some g t c =
    small_constant (g.S.Scopes.state c.args.scopes.now).frame c.args.of.set c.requires.set

pub element_in-returns-in-Known-asked : goal.element_in-returns-in-Known-asked
element_in-returns-in-Known-asked g t c =
    let one = (found c.in-Known.is c.in-Ok.ensures) in
    let two = (found c.in-Known-asked.is c.in-Ok-member_in.ensures) in
    let made = value_everywhere (g.S.Scopes.state c.member_in-in-Some.new.scopes) c.member_in-in-Some.new.notes c.args.site.now c.with_elements-in-Some.result IsOperand (λ k. gives (with_elements c.args.of.set c.in-Known.value c.in-Known-asked.value))
    (c.with_elements-in-Some.ensures.there (g.S.Scopes.state c.member_in-in-Some.new.scopes).frame (stays_after (λ (f : Frame). IsOperand f c.args.of.set) two (stays_after (λ (f : Frame). IsOperand f c.args.of.set) one c.requires.set))) (λ k. ap (λ o. gives o) c.with_elements-in-Some.ensures.told) in
    let range = and_after (λ k. member_in k c.args.of.base (expr_view c.in-Some.high)) (λ y k. gives (with_elements c.args.of.set c.in-Known.value y)) (Ok (Known c.with_elements-in-Some.result)) two made in
    described (Ok (Known c.with_elements-in-Some.result)) (and_after (λ k. member_in k c.args.of.base (expr_view (out-Label c.args.label.now).low)) (λ x k. and_then (member_in k c.args.of.base (expr_view c.in-Some.high)) (λ y. gives (with_elements c.args.of.set x y))) (Ok (Known c.with_elements-in-Some.result)) one range)
    (λ k. range_given k c.args.of.base c.args.of.set (expr_view (out-Label c.args.label.now).low) (expr_view c.in-Some.high)
    ∙ ap (element_in k c.args.of.base c.args.of.set) (sym (label_seen c.args.label.now ∙ ap (λ h. label_with (expr_view (out-Label c.args.label.now).low) (option_map expr_view h)) c.in-Some.is)))

pub set_in-returns-in-DontKnowYet : goal.set_in-returns-in-DontKnowYet
set_in-returns-in-DontKnowYet g t c =
    waiting (found c.in-DontKnowYet.is (quiet c.args.notes.now c.args.site.now c.set_base.result IsThere (λ k. set_base k c.args.of) c.set_base.ensures.reads c.set_base.ensures.waits c.set_base.ensures.told c.set_base.ensures.there))

pub set_in-no_elements-requires-clause-suits : goal.set_in-no_elements-requires-clause-suits
set_in-no_elements-requires-clause-suits g t c =
    stays_after (λ (f : Frame). SuitsSite f c.args.site.now) (quiet c.args.notes.now c.args.site.now c.set_base.result IsThere (λ k. set_base k c.args.of) c.set_base.ensures.reads c.set_base.ensures.waits c.set_base.ensures.told c.set_base.ensures.there) c.requires.suits

pub set_in-no_elements-requires-clause-of : goal.set_in-no_elements-requires-clause-of
set_in-no_elements-requires-clause-of g t c =
    stays_after (λ (f : Frame). IsThere f c.args.of) (quiet c.args.notes.now c.args.site.now c.set_base.result IsThere (λ k. set_base k c.args.of) c.set_base.ensures.reads c.set_base.ensures.waits c.set_base.ensures.told c.set_base.ensures.there) c.requires.of

pub set_in-returns-in-DontKnowYet-no_elements : goal.set_in-returns-in-DontKnowYet-no_elements
set_in-returns-in-DontKnowYet-no_elements g t c =
    waiting_after (quiet c.args.notes.now c.args.site.now c.set_base.result IsThere (λ k. set_base k c.args.of) c.set_base.ensures.reads c.set_base.ensures.waits c.set_base.ensures.told c.set_base.ensures.there) (found c.in-DontKnowYet-no_elements.is (quiet c.args.notes.now c.args.site.now c.no_elements.result IsOperand (λ k. no_elements k c.args.of) c.no_elements.ensures.reads c.no_elements.ensures.waits c.no_elements.ensures.told c.no_elements.ensures.there))

pub set_in-elements_in-requires : goal.set_in-elements_in-requires
set_in-elements_in-requires g t c κs within =
    (search rules, (within, ((stays_after (λ (f : Frame). SuitsSite f c.args.site.now) (quiet c.args.notes.now c.args.site.now c.no_elements.result IsOperand (λ k. no_elements k c.args.of) c.no_elements.ensures.reads c.no_elements.ensures.waits c.no_elements.ensures.told c.no_elements.ensures.there) (stays_after (λ (f : Frame). SuitsSite f c.args.site.now) (quiet c.args.notes.now c.args.site.now c.set_base.result IsThere (λ k. set_base k c.args.of) c.set_base.ensures.reads c.set_base.ensures.waits c.set_base.ensures.told c.set_base.ensures.there) c.requires.suits)), ((stays_after (λ (f : Frame). IsThere f c.in-Known.base) (quiet c.args.notes.now c.args.site.now c.no_elements.result IsOperand (λ k. no_elements k c.args.of) c.no_elements.ensures.reads c.no_elements.ensures.waits c.no_elements.ensures.told c.no_elements.ensures.there) (stands_after (found c.in-Known.is (quiet c.args.notes.now c.args.site.now c.set_base.result IsThere (λ k. set_base k c.args.of) c.set_base.ensures.reads c.set_base.ensures.waits c.set_base.ensures.told c.set_base.ensures.there)))), ((stands_after (found c.in-Known-no_elements.is (quiet c.args.notes.now c.args.site.now c.no_elements.result IsOperand (λ k. no_elements k c.args.of) c.no_elements.ensures.reads c.no_elements.ensures.waits c.no_elements.ensures.told c.no_elements.ensures.there))), c.requires.read)))))

pub set_in-returns : goal.set_in-returns
set_in-returns g t c =
    and_after (λ k. gives (set_base k c.args.of)) (λ b k. elements_in k b (no_elements k c.args.of) (labels (map label_view c.args.items.now))) c.elements_in.result (found c.in-Known.is (quiet c.args.notes.now c.args.site.now c.set_base.result IsThere (λ k. set_base k c.args.of) c.set_base.ensures.reads c.set_base.ensures.waits c.set_base.ensures.told c.set_base.ensures.there))
    (and_after (λ k. gives (no_elements k c.args.of)) (λ set k. elements_in k c.in-Known.base set (labels (map label_view c.args.items.now))) c.elements_in.result (found c.in-Known-no_elements.is (quiet c.args.notes.now c.args.site.now c.no_elements.result IsOperand (λ k. no_elements k c.args.of) c.no_elements.ensures.reads c.no_elements.ensures.waits c.no_elements.ensures.told c.no_elements.ensures.there)) c.elements_in.ensures)

pub nexts_in-loop-next-init : goal.nexts_in-loop-next-init
nexts_in-loop-next-init g t c =
    value_everywhere (g.S.Scopes.state c.args.scopes.now) c.args.notes.now c.args.site.now c.args.first.operand IsOperand (λ k. gives c.args.first.operand) c.requires.first (λ k. refl)

pub nexts_in-returns : goal.nexts_in-returns
nexts_in-returns g t c =
    whole (λ k o i. next_in k c.args.first.at o (next_view i)) c.args.first.operand c.args.rest.now c.loop-next.next-index (λ k. many_in k c.args.first.at c.args.first.operand (nexts (map next_view c.args.rest.now))) c.loop-next-test.false c.loop-next.invariant (λ k. many_folded k next_view c.args.first.at c.args.first.operand c.args.rest.now)

pub elements_in-loop-label-init : goal.elements_in-loop-label-init
elements_in-loop-label-init g t c =
    value_everywhere (g.S.Scopes.state c.args.scopes.now) c.args.notes.now c.args.site.now c.args.of.set IsOperand (λ k. gives c.args.of.set) c.requires.set (λ k. refl)

pub elements_in-element_in-requires : goal.elements_in-element_in-requires
elements_in-element_in-requires g t c κs within =
    ((let small = item_small size-Label c.args.items.now c.loop-label.label-index c.label-item.result c.loop-label-test.true c.label-item.is in omega (arith, small, c.decreases)), (within, ((stays_after (λ (f : Frame). SuitsSite f c.args.site.now) c.loop-label.invariant c.requires.suits), ((stays_after (λ (f : Frame). IsThere f c.args.of.base) c.loop-label.invariant c.requires.base), (stands_after c.loop-label.invariant, read_label c.args.site.now.texts.now.names label_view c.args.items.now c.loop-label.label-index c.label-item.result c.loop-label-test.true c.label-item.is c.requires.read)))))

pub elements_in-loop-label-preserved : goal.elements_in-loop-label-preserved
elements_in-loop-label-preserved g t c =
    one_more (λ k o i. element_in k c.args.of.base o (label_view i)) c.args.of.set c.args.items.now c.loop-label.label-index c.label-item.result c.loop-label-test.true c.label-item.is c.loop-label.invariant (found c.in-Known.is c.in-Ok.ensures)

pub elements_in-returns-in-DontKnowYet : goal.elements_in-returns-in-DontKnowYet
elements_in-returns-in-DontKnowYet g t c =
    waiting_after c.loop-label.invariant (found c.in-DontKnowYet.is c.in-Ok.ensures)

pub elements_in-returns-in-Err : goal.elements_in-returns-in-Err
elements_in-returns-in-Err g t c =
    failed_after c.loop-label.invariant c.in-Err.ensures _

pub elements_in-returns : goal.elements_in-returns
elements_in-returns g t c =
    whole (λ k o i. element_in k c.args.of.base o (label_view i)) c.args.of.set c.args.items.now c.loop-label.label-index (λ k. elements_in k c.args.of.base c.args.of.set (labels (map label_view c.args.items.now))) c.loop-label-test.false c.loop-label.invariant (λ k. elements_folded k label_view c.args.of.base c.args.of.set c.args.items.now)

pub indices_in-loop-e-init : goal.indices_in-loop-e-init
indices_in-loop-e-init g t c =
    value_everywhere (g.S.Scopes.state c.args.scopes.now) c.args.notes.now c.args.site.now c.args.of.operand IsOperand (λ k. gives c.args.of.operand) c.requires.of (λ k. refl)

pub indices_in-returns : goal.indices_in-returns
indices_in-returns g t c =
    whole (λ k o i. index_in k c.args.of.at o (expr_view i)) c.args.of.operand c.args.es.now c.loop-e.e-index (λ k. indices_in k c.args.of.at c.args.of.operand (exprs (map expr_view c.args.es.now))) c.loop-e-test.false c.loop-e.invariant (λ k. indices_folded k expr_view c.args.of.at c.args.of.operand c.args.es.now)

pub operand_in-overflow_cast-result : goal.operand_in-overflow_cast-result
operand_in-overflow_cast-result g t c =
    let small = form_read c.args.site.now.texts.now.names c.args.e.now _ _ c.in-Number.is (number_seen c.in-Number.value) c.requires.read in omega (arith, small)

pub operand_in-overflow_cast-result-in-Char : goal.operand_in-overflow_cast-result-in-Char
operand_in-overflow_cast-result-in-Char g t c =
    let small = form_read c.args.site.now.texts.now.names c.args.e.now _ _ c.in-Char.is (char_seen c.in-Char.value) c.requires.read in omega (arith, small)

pub operand_in-string_constant-requires-clause-named : goal.operand_in-string_constant-requires-clause-named
operand_in-string_constant-requires-clause-named g t c =
    (form_read c.args.site.now.texts.now.names c.args.e.now _ _ c.in-Str.is (string_seen c.in-Str.name) c.requires.read).0

pub operand_in-string_constant-requires-clause-short : goal.operand_in-string_constant-requires-clause-short
operand_in-string_constant-requires-clause-short g t c =
    (form_read c.args.site.now.texts.now.names c.args.e.now _ _ c.in-Str.is (string_seen c.in-Str.name) c.requires.read).1

pub operand_in-returns-in-Number : goal.operand_in-returns-in-Number
operand_in-returns-in-Number g t c =
    value_everywhere (g.S.Scopes.state c.args.scopes.now) c.args.notes.now c.args.site.now (Constant whole_type (to_z w64 c.in-Number.value)) IsOperand (λ k. operand_in k (expr_view c.args.e.now)) (standard_there c.requires.suits.around 9, number_value c.in-Number.value (form_read c.args.site.now.texts.now.names c.args.e.now _ _ c.in-Number.is (number_seen c.in-Number.value) c.requires.read))
    (λ k. ap (λ v. gives (Constant whole_type v)) (number_told c.in-Number.value (form_read c.args.site.now.texts.now.names c.args.e.now _ _ c.in-Number.is (number_seen c.in-Number.value) c.requires.read)) ∙ form_given k c.args.e.now _ _ c.in-Number.is (number_seen c.in-Number.value))

pub operand_in-returns-in-Char : goal.operand_in-returns-in-Char
operand_in-returns-in-Char g t c =
    value_everywhere (g.S.Scopes.state c.args.scopes.now) c.args.notes.now c.args.site.now (Constant character (to_z w64 c.in-Char.value)) IsOperand (λ k. operand_in k (expr_view c.args.e.now)) (standard_there c.requires.suits.around 2, char_value c.in-Char.value (form_read c.args.site.now.texts.now.names c.args.e.now _ _ c.in-Char.is (char_seen c.in-Char.value) c.requires.read))
    (λ k. ap (λ v. gives (Constant character v)) (char_told c.in-Char.value (form_read c.args.site.now.texts.now.names c.args.e.now _ _ c.in-Char.is (char_seen c.in-Char.value) c.requires.read)) ∙ form_given k c.args.e.now _ _ c.in-Char.is (char_seen c.in-Char.value))

pub operand_in-returns-in-Str : goal.operand_in-returns-in-Str
operand_in-returns-in-Str g t c =
    let context = λ (made : Hand). context_of (g.S.Scopes.state c.args.scopes.now).frame made c.args.site.now in
    value_alone (g.S.Scopes.state c.args.scopes.now) c.args.notes.now c.args.site.now c.string_constant.result IsOperand (λ k. operand_in k (expr_view c.args.e.now)) (c.string_constant.ensures.there (g.S.Scopes.state c.args.scopes.now).frame c.requires.suits.texts)
    (λ made. ap (λ o. gives o) (c.string_constant.ensures.told (context made).source refl) ∙ form_given (context made) c.args.e.now _ _ c.in-Str.is (string_seen c.in-Str.name))

pub operand_in-set_in-requires : goal.operand_in-set_in-requires
operand_in-set_in-requires g t c κs within =
    ((let small = set_smaller c.args.e.now c.in-Set.of c.in-Set.items c.in-Set.is in let same = ap (most size-Label) c.deref.ensures.value in omega (arith, small, same, c.decreases)), (within, (c.requires.suits, (standard_there c.requires.suits.around 5, (rw c.deref.ensures.value (form_read c.args.site.now.texts.now.names c.args.e.now (Set None c.in-Set.items) _ (c.in-Set.is ∙ ap (λ o. Set o c.in-Set.items) c.in-None.is) (plain_set_seen c.in-Set.items) c.requires.read))))))

pub operand_in-returns-in-None : goal.operand_in-returns-in-None
operand_in-returns-in-None g t c =
    described c.set_in.result (rw c.deref.ensures.value at c.set_in.ensures) (λ k. form_given k c.args.e.now (Set None c.in-Set.items) _ (c.in-Set.is ∙ ap (λ o. Set o c.in-Set.items) c.in-None.is) (plain_set_seen c.in-Set.items))

pub operand_in-designator_in-requires : goal.operand_in-designator_in-requires
operand_in-designator_in-requires g t c κs within =
    ((let small = set_type_smaller c.args.e.now c.in-Set.of c.in-Set.items c.in-Some.name c.in-Set.is c.in-Some.is in omega (arith, small, c.decreases)), (within, (c.requires.suits, (form_read c.args.site.now.texts.now.names c.args.e.now (Set (Some c.in-Some.name) c.in-Set.items) _ (c.in-Set.is ∙ ap (λ o. Set o c.in-Set.items) c.in-Some.is) (typed_set_seen c.in-Some.name c.in-Set.items) c.requires.read).0)))

pub operand_in-returns-in-DontKnowYet : goal.operand_in-returns-in-DontKnowYet
operand_in-returns-in-DontKnowYet g t c =
    waiting (found c.in-DontKnowYet.is c.in-Ok.ensures)

pub operand_in-returns-in-Err : goal.operand_in-returns-in-Err
operand_in-returns-in-Err g t c =
    failed c.in-Err.ensures _

pub operand_in-set_type_of-given-requires-clause-suits : goal.operand_in-set_type_of-given-requires-clause-suits
operand_in-set_type_of-given-requires-clause-suits g t c =
    stays_after (λ (f : Frame). SuitsSite f c.args.site.now) (found c.in-Known.is c.in-Ok.ensures) c.requires.suits

pub operand_in-set_type_of-given-requires-clause-x : goal.operand_in-set_type_of-given-requires-clause-x
operand_in-set_type_of-given-requires-clause-x g t c =
    stands_after (found c.in-Known.is c.in-Ok.ensures)

pub operand_in-returns-in-DontKnowYet-asked : goal.operand_in-returns-in-DontKnowYet-asked
operand_in-returns-in-DontKnowYet-asked g t c =
    let noted = described c.note_type.result (noted_type c.designator_in.new.notes c.note_type.new.notes c.args.site.now c.set_type_of-given.result c.note_type.result (λ k. set_type_of k c.in-Some.name.first.at c.in-Known.value)
    c.note_type.ensures.answers c.note_type.ensures.diags c.note_type.ensures.waits c.note_type.ensures.there c.note_type.ensures.told
    (standard_there (stays_after (λ (f : Frame). SuitsSite f c.args.site.now) (found c.in-Known.is c.in-Ok.ensures) c.requires.suits).around 10) c.set_type_of-given.ensures.reads c.set_type_of-given.ensures.waits c.set_type_of-given.ensures.told c.set_type_of-given.ensures.there)
    (λ k. ap (λ (at : ℕ). set_type_of k at c.in-Known.value) (sym (designator_at_seen c.in-Some.name))) in
    waiting_after (found c.in-Known.is c.in-Ok.ensures) (found c.in-DontKnowYet-asked.is (turned c.in-Ok-note_type.is noted))

pub operand_in-returns-in-Err-note_type : goal.operand_in-returns-in-Err-note_type
operand_in-returns-in-Err-note_type g t c =
    let noted = described c.note_type.result (noted_type c.designator_in.new.notes c.note_type.new.notes c.args.site.now c.set_type_of-given.result c.note_type.result (λ k. set_type_of k c.in-Some.name.first.at c.in-Known.value)
    c.note_type.ensures.answers c.note_type.ensures.diags c.note_type.ensures.waits c.note_type.ensures.there c.note_type.ensures.told
    (standard_there (stays_after (λ (f : Frame). SuitsSite f c.args.site.now) (found c.in-Known.is c.in-Ok.ensures) c.requires.suits).around 10) c.set_type_of-given.ensures.reads c.set_type_of-given.ensures.waits c.set_type_of-given.ensures.told c.set_type_of-given.ensures.there)
    (λ k. ap (λ (at : ℕ). set_type_of k at c.in-Known.value) (sym (designator_at_seen c.in-Some.name))) in
    failed_after (found c.in-Known.is c.in-Ok.ensures) (turned c.in-Err-note_type.is noted) _

pub operand_in-set_in-requires-in-Some : goal.operand_in-set_in-requires-in-Some
operand_in-set_in-requires-in-Some g t c κs within =
    let noted = described c.note_type.result (noted_type c.designator_in.new.notes c.note_type.new.notes c.args.site.now c.set_type_of-given.result c.note_type.result (λ k. set_type_of k c.in-Some.name.first.at c.in-Known.value)
    c.note_type.ensures.answers c.note_type.ensures.diags c.note_type.ensures.waits c.note_type.ensures.there c.note_type.ensures.told
    (standard_there (stays_after (λ (f : Frame). SuitsSite f c.args.site.now) (found c.in-Known.is c.in-Ok.ensures) c.requires.suits).around 10) c.set_type_of-given.ensures.reads c.set_type_of-given.ensures.waits c.set_type_of-given.ensures.told c.set_type_of-given.ensures.there)
    (λ k. ap (λ (at : ℕ). set_type_of k at c.in-Known.value) (sym (designator_at_seen c.in-Some.name))) in
    ((let small = set_smaller c.args.e.now c.in-Set.of c.in-Set.items c.in-Set.is in let same = ap (most size-Label) c.deref-in-Some.ensures.value in omega (arith, small, same, c.decreases)), (within, ((stays_after (λ (f : Frame). SuitsSite f c.args.site.now) (found c.in-Known-asked.is (turned c.in-Ok-note_type.is noted)) (stays_after (λ (f : Frame). SuitsSite f c.args.site.now) (found c.in-Known.is c.in-Ok.ensures) c.requires.suits)), (stands_after (found c.in-Known-asked.is (turned c.in-Ok-note_type.is noted)), (rw c.deref-in-Some.ensures.value (form_read c.args.site.now.texts.now.names c.args.e.now (Set (Some c.in-Some.name) c.in-Set.items) _ (c.in-Set.is ∙ ap (λ o. Set o c.in-Set.items) c.in-Some.is) (typed_set_seen c.in-Some.name c.in-Set.items) c.requires.read).1)))))

pub operand_in-returns-in-Known-asked : goal.operand_in-returns-in-Known-asked
operand_in-returns-in-Known-asked g t c =
    let noted = described c.note_type.result (noted_type c.designator_in.new.notes c.note_type.new.notes c.args.site.now c.set_type_of-given.result c.note_type.result (λ k. set_type_of k c.in-Some.name.first.at c.in-Known.value)
    c.note_type.ensures.answers c.note_type.ensures.diags c.note_type.ensures.waits c.note_type.ensures.there c.note_type.ensures.told
    (standard_there (stays_after (λ (f : Frame). SuitsSite f c.args.site.now) (found c.in-Known.is c.in-Ok.ensures) c.requires.suits).around 10) c.set_type_of-given.ensures.reads c.set_type_of-given.ensures.waits c.set_type_of-given.ensures.told c.set_type_of-given.ensures.there)
    (λ k. ap (λ (at : ℕ). set_type_of k at c.in-Known.value) (sym (designator_at_seen c.in-Some.name))) in
    described c.set_in-in-Some.result
    (and_after (λ k. designator_in k (designator_view c.in-Some.name)) (λ o k. and_then (set_type_of k (designator_at (designator_view c.in-Some.name)) o) (λ t. elements_in k (set_base k t) (no_elements k t) (labels (map label_view c.in-Set.items.items)))) c.set_in-in-Some.result (found c.in-Known.is c.in-Ok.ensures)
    (and_after (λ k. set_type_of k (designator_at (designator_view c.in-Some.name)) c.in-Known.value) (λ t k. elements_in k (set_base k t) (no_elements k t) (labels (map label_view c.in-Set.items.items))) c.set_in-in-Some.result (found c.in-Known-asked.is (turned c.in-Ok-note_type.is noted)) (rw c.deref-in-Some.ensures.value at c.set_in-in-Some.ensures)))
    (λ k. form_given k c.args.e.now (Set (Some c.in-Some.name) c.in-Set.items) _ (c.in-Set.is ∙ ap (λ o. Set o c.in-Set.items) c.in-Some.is) (typed_set_seen c.in-Some.name c.in-Set.items))

pub operand_in-designator_in-requires-in-Name : goal.operand_in-designator_in-requires-in-Name
operand_in-designator_in-requires-in-Name g t c κs within =
    ((let small = name_smaller c.args.e.now c.in-Name.name c.in-Name.is in omega (arith, small, c.decreases)), (within, (c.requires.suits, form_read c.args.site.now.texts.now.names c.args.e.now _ _ c.in-Name.is (name_seen c.in-Name.name) c.requires.read)))

pub operand_in-returns-in-Name : goal.operand_in-returns-in-Name
operand_in-returns-in-Name g t c =
    described c.designator_in-in-Name.result c.designator_in-in-Name.ensures (λ k. form_given k c.args.e.now _ _ c.in-Name.is (name_seen c.in-Name.name))

pub operand_in-designator_in-requires-in-Call : goal.operand_in-designator_in-requires-in-Call
operand_in-designator_in-requires-in-Call g t c κs within =
    ((let small = called_smaller c.args.e.now c.in-Call.to c.in-Call.args c.in-Call.is in omega (arith, small, c.decreases)), (within, (c.requires.suits, (form_read c.args.site.now.texts.now.names c.args.e.now _ _ c.in-Call.is (call_seen c.in-Call.to c.in-Call.args) c.requires.read).0)))

pub operand_in-returns-in-DontKnowYet-asked-2 : goal.operand_in-returns-in-DontKnowYet-asked-2
operand_in-returns-in-DontKnowYet-asked-2 g t c =
    waiting (found c.in-DontKnowYet-asked-2.is c.in-Ok-designator_in.ensures)

pub operand_in-returns-in-Err-designator_in : goal.operand_in-returns-in-Err-designator_in
operand_in-returns-in-Err-designator_in g t c =
    failed c.in-Err-designator_in.ensures _

pub operand_in-called_in-requires : goal.operand_in-called_in-requires
operand_in-called_in-requires g t c κs within =
    ((let small = arguments_smaller c.args.e.now c.in-Call.to c.in-Call.args c.in-Call.is in let same = ap (most size-Expr) c.deref-in-Call.ensures.value in omega (arith, small, same, c.decreases)), (within, ((stays_after (λ (f : Frame). SuitsSite f c.args.site.now) (found c.in-Known-asked-2.is c.in-Ok-designator_in.ensures) c.requires.suits), (stands_after (found c.in-Known-asked-2.is c.in-Ok-designator_in.ensures), (rw c.deref-in-Call.ensures.value (form_read c.args.site.now.texts.now.names c.args.e.now _ _ c.in-Call.is (call_seen c.in-Call.to c.in-Call.args) c.requires.read).1)))))

pub operand_in-returns-in-Known-asked-2 : goal.operand_in-returns-in-Known-asked-2
operand_in-returns-in-Known-asked-2 g t c =
    described c.called_in.result (and_after (λ k. designator_in k (designator_view c.in-Call.to)) (λ o k. called_in k c.in-Call.to.first.at o (exprs (map expr_view c.in-Call.args.items))) c.called_in.result (found c.in-Known-asked-2.is c.in-Ok-designator_in.ensures) (rw c.deref-in-Call.ensures.value at c.called_in.ensures))
    (λ k. ap (λ (at : ℕ). and_then (designator_in k (designator_view c.in-Call.to)) (λ o. called_in k at o (exprs (map expr_view c.in-Call.args.items)))) (sym (designator_at_seen c.in-Call.to)) ∙ form_given k c.args.e.now _ _ c.in-Call.is (call_seen c.in-Call.to c.in-Call.args))

pub operand_in-value_in-requires : goal.operand_in-value_in-requires
operand_in-value_in-requires g t c κs within =
    ((let small = one_smaller c.args.e.now c.in-One.op c.in-One.op_at c.in-One.of c.in-One.is in let same = ap size-Expr c.deref-in-One.ensures in omega (arith, small, same, c.decreases)), (within, (c.requires.suits, (rw c.deref-in-One.ensures (form_read c.args.site.now.texts.now.names c.args.e.now _ _ c.in-One.is (one_seen c.in-One.op c.in-One.op_at c.in-One.of) c.requires.read)))))

pub operand_in-returns-in-DontKnowYet-asked-3 : goal.operand_in-returns-in-DontKnowYet-asked-3
operand_in-returns-in-DontKnowYet-asked-3 g t c =
    waiting (found c.in-DontKnowYet-asked-3.is c.in-Ok-value_in.ensures)

pub operand_in-returns-in-Err-value_in : goal.operand_in-returns-in-Err-value_in
operand_in-returns-in-Err-value_in g t c =
    failed c.in-Err-value_in.ensures _

pub operand_in-applied_one-requires-clause-suits : goal.operand_in-applied_one-requires-clause-suits
operand_in-applied_one-requires-clause-suits g t c =
    stays_after (λ (f : Frame). SuitsSite f c.args.site.now) (found c.in-Known-asked-3.is c.in-Ok-value_in.ensures) c.requires.suits

pub operand_in-applied_one-requires-clause-operand : goal.operand_in-applied_one-requires-clause-operand
operand_in-applied_one-requires-clause-operand g t c =
    stands_after (found c.in-Known-asked-3.is c.in-Ok-value_in.ensures)

pub operand_in-returns-in-Known-asked-3 : goal.operand_in-returns-in-Known-asked-3
operand_in-returns-in-Known-asked-3 g t c =
    described c.applied_one.result (and_after (λ k. value_in k (expr_view c.in-One.of.value)) (λ x k. apply_one k c.in-One.op c.in-One.op_at x) c.applied_one.result (rw c.deref-in-One.ensures at (found c.in-Known-asked-3.is c.in-Ok-value_in.ensures)) c.applied_one.ensures)
    (λ k. one_given k c.args.e.now.at c.in-One.op c.in-One.op_at (expr_view c.in-One.of.value) ∙ form_given k c.args.e.now _ _ c.in-One.is (one_seen c.in-One.op c.in-One.op_at c.in-One.of))

pub operand_in-value_in-requires-in-Many : goal.operand_in-value_in-requires-in-Many
operand_in-value_in-requires-in-Many g t c κs within =
    ((let small = first_smaller c.args.e.now c.in-Many.first c.in-Many.rest c.in-Many.is in let same = ap size-Expr c.deref-in-Many.ensures in omega (arith, small, same, c.decreases)), (within, (c.requires.suits, (rw c.deref-in-Many.ensures (form_read c.args.site.now.texts.now.names c.args.e.now _ _ c.in-Many.is (many_seen c.in-Many.first c.in-Many.rest) c.requires.read).0))))

pub operand_in-returns-in-DontKnowYet-asked-4 : goal.operand_in-returns-in-DontKnowYet-asked-4
operand_in-returns-in-DontKnowYet-asked-4 g t c =
    waiting (found c.in-DontKnowYet-asked-4.is c.in-Ok-value_in-2.ensures)

pub operand_in-returns-in-Err-value_in-2 : goal.operand_in-returns-in-Err-value_in-2
operand_in-returns-in-Err-value_in-2 g t c =
    failed c.in-Err-value_in-2.ensures _

pub operand_in-nexts_in-requires : goal.operand_in-nexts_in-requires
operand_in-nexts_in-requires g t c κs within =
    ((let small = nexts_smaller c.args.e.now c.in-Many.first c.in-Many.rest c.in-Many.is in let same = ap (most size-Next) c.deref-in-Many-2.ensures.value in omega (arith, small, same, c.decreases)), (within, ((stays_after (λ (f : Frame). SuitsSite f c.args.site.now) (found c.in-Known-asked-4.is c.in-Ok-value_in-2.ensures) c.requires.suits), (stands_after (found c.in-Known-asked-4.is c.in-Ok-value_in-2.ensures), (rw c.deref-in-Many-2.ensures.value (form_read c.args.site.now.texts.now.names c.args.e.now _ _ c.in-Many.is (many_seen c.in-Many.first c.in-Many.rest) c.requires.read).1)))))

pub operand_in-returns-in-Known-asked-4 : goal.operand_in-returns-in-Known-asked-4
operand_in-returns-in-Known-asked-4 g t c =
    described c.nexts_in.result (and_after (λ k. value_in k (expr_view c.in-Many.first.value)) (λ x k. many_in k c.args.e.now.at x (nexts (map next_view c.in-Many.rest.items))) c.nexts_in.result (rw c.deref-in-Many.ensures at (found c.in-Known-asked-4.is c.in-Ok-value_in-2.ensures)) (rw c.deref-in-Many-2.ensures.value at c.nexts_in.ensures))
    (λ k. many_given k c.args.e.now.at (expr_view c.in-Many.first.value) (nexts (map next_view c.in-Many.rest.items)) ∙ form_given k c.args.e.now _ _ c.in-Many.is (many_seen c.in-Many.first c.in-Many.rest))

pub nexts_in-value_in-requires : goal.nexts_in-value_in-requires
nexts_in-value_in-requires g t c κs within =
    ((let small = next_smaller c.next-item.result in let among = item_small size-Next c.args.rest.now c.loop-next.next-index c.next-item.result c.loop-next-test.true c.next-item.is in omega (arith, small, among, c.decreases)), (within, ((stays_after (λ (f : Frame). SuitsSite f c.args.site.now) c.loop-next.invariant c.requires.suits), next_read c.args.site.now.texts.now.names c.next-item.result (read_next c.args.site.now.texts.now.names next_view c.args.rest.now c.loop-next.next-index c.next-item.result c.loop-next-test.true c.next-item.is c.requires.read))))

pub nexts_in-operated-requires-clause-suits : goal.nexts_in-operated-requires-clause-suits
nexts_in-operated-requires-clause-suits g t c =
    stays_after (λ (f : Frame). SuitsSite f c.args.site.now) (found c.in-Known.is c.in-Ok.ensures) (stays_after (λ (f : Frame). SuitsSite f c.args.site.now) c.loop-next.invariant c.requires.suits)

pub nexts_in-operated-requires-clause-x : goal.nexts_in-operated-requires-clause-x
nexts_in-operated-requires-clause-x g t c =
    stays_after (λ (f : Frame). IsOperand f c.loop-next.operand) (found c.in-Known.is c.in-Ok.ensures) (stands_after c.loop-next.invariant)

pub nexts_in-operated-requires-clause-y : goal.nexts_in-operated-requires-clause-y
nexts_in-operated-requires-clause-y g t c =
    stands_after (found c.in-Known.is c.in-Ok.ensures)

pub nexts_in-returns-in-DontKnowYet : goal.nexts_in-returns-in-DontKnowYet
nexts_in-returns-in-DontKnowYet g t c =
    waiting_after c.loop-next.invariant (found c.in-DontKnowYet.is c.in-Ok.ensures)

pub nexts_in-returns-in-Err : goal.nexts_in-returns-in-Err
nexts_in-returns-in-Err g t c =
    failed_after c.loop-next.invariant c.in-Err.ensures _

pub nexts_in-returns-in-DontKnowYet-asked : goal.nexts_in-returns-in-DontKnowYet-asked
nexts_in-returns-in-DontKnowYet-asked g t c =
    waiting_third c.loop-next.invariant (found c.in-Known.is c.in-Ok.ensures) (found c.in-DontKnowYet-asked.is c.in-Ok-operated.ensures)

pub nexts_in-returns-in-Err-operated : goal.nexts_in-returns-in-Err-operated
nexts_in-returns-in-Err-operated g t c =
    failed_third c.loop-next.invariant (found c.in-Known.is c.in-Ok.ensures) c.in-Err-operated.ensures _

pub nexts_in-loop-next-preserved : goal.nexts_in-loop-next-preserved
nexts_in-loop-next-preserved g t c =
    one_more (λ k o i. next_in k c.args.first.at o (next_view i)) c.args.first.operand c.args.rest.now c.loop-next.next-index c.next-item.result c.loop-next-test.true c.next-item.is c.loop-next.invariant
    (described (Ok (Known c.in-Known-asked.value)) (and_after (λ k. value_in k (expr_view c.next-item.result.right)) (λ y k. operate k c.next-item.result.op c.next-item.result.op_at c.loop-next.operand c.args.first.at y c.next-item.result.right.at) (Ok (Known c.in-Known-asked.value)) (found c.in-Known.is c.in-Ok.ensures) (found c.in-Known-asked.is c.in-Ok-operated.ensures))
    (λ k. ap (λ (at : ℕ). and_then (value_in k (expr_view c.next-item.result.right)) (λ y. operate k c.next-item.result.op c.next-item.result.op_at c.loop-next.operand c.args.first.at y at)) (sym (at_seen c.next-item.result.right))
    ∙ next_given k c.args.first.at c.loop-next.operand c.next-item.result.op c.next-item.result.op_at (expr_view c.next-item.result.right) ∙ ap (next_in k c.args.first.at c.loop-next.operand) (sym (next_seen c.next-item.result))))

pub indices_in-value_in-requires : goal.indices_in-value_in-requires
indices_in-value_in-requires g t c κs within =
    ((let small = item_small size-Expr c.args.es.now c.loop-e.e-index c.e-item.result c.loop-e-test.true c.e-item.is in omega (arith, small, c.decreases)), (within, ((stays_after (λ (f : Frame). SuitsSite f c.args.site.now) c.loop-e.invariant c.requires.suits), read_expr c.args.site.now.texts.now.names expr_view c.args.es.now c.loop-e.e-index c.e-item.result c.loop-e-test.true c.e-item.is c.requires.read)))

pub indices_in-returns-in-DontKnowYet : goal.indices_in-returns-in-DontKnowYet
indices_in-returns-in-DontKnowYet g t c =
    waiting_after c.loop-e.invariant (found c.in-DontKnowYet.is c.in-Ok.ensures)

pub indices_in-returns-in-Err : goal.indices_in-returns-in-Err
indices_in-returns-in-Err g t c =
    failed_after c.loop-e.invariant c.in-Err.ensures _

pub indices_in-returns-in-DontKnowYet-asked : goal.indices_in-returns-in-DontKnowYet-asked
indices_in-returns-in-DontKnowYet-asked g t c =
    waiting_third c.loop-e.invariant (found c.in-Known.is c.in-Ok.ensures) (found c.in-DontKnowYet-asked.is (c.in-Ok-picked.ensures (g.S.Scopes.state c.value_in.new.scopes)))

pub indices_in-returns-in-Err-picked : goal.indices_in-returns-in-Err-picked
indices_in-returns-in-Err-picked g t c =
    failed_third c.loop-e.invariant (found c.in-Known.is c.in-Ok.ensures) (c.in-Err-picked.ensures (g.S.Scopes.state c.value_in.new.scopes)) _

pub indices_in-loop-e-preserved : goal.indices_in-loop-e-preserved
indices_in-loop-e-preserved g t c =
    let two = (found c.in-Known-asked.is (c.in-Ok-picked.ensures (g.S.Scopes.state c.value_in.new.scopes))) in
    let made = value_everywhere (g.S.Scopes.state c.value_in.new.scopes) c.picked.new.notes c.args.site.now c.spoilt_by-operand.result IsOperand (λ k. gives (spoilt_by c.in-Known.value c.in-Known-asked.value))
    (c.spoilt_by-operand.ensures.there (g.S.Scopes.state c.value_in.new.scopes).frame two.there) (λ k. ap (λ o. gives o) c.spoilt_by-operand.ensures.told) in
    one_more (λ k o i. index_in k c.args.of.at o (expr_view i)) c.args.of.operand c.args.es.now c.loop-e.e-index c.e-item.result c.loop-e-test.true c.e-item.is c.loop-e.invariant
    (and_after (λ k. value_in k (expr_view c.e-item.result)) (λ v k. with_index k c.args.of.at c.loop-e.operand v) (Ok (Known c.spoilt_by-operand.result)) (found c.in-Known.is c.in-Ok.ensures)
    (and_after (λ k. selected k c.args.of.at c.loop-e.operand) (λ p k. gives (spoilt_by c.in-Known.value p)) (Ok (Known c.spoilt_by-operand.result)) two made))

pub called_in-loop-e-init : goal.called_in-loop-e-init
called_in-loop-e-init g t c =
    value_everywhere (g.S.Scopes.state c.args.scopes.now) c.args.notes.now c.args.site.now c.new-args.result AreArguments (λ k. gives (summed [])) (c.new-args.ensures.there (g.S.Scopes.state c.args.scopes.now).frame) (λ k. ap (λ args. gives args) (nothing_summed c.new-args.result c.new-args.ensures.summary))

pub called_in-operand_in-requires : goal.called_in-operand_in-requires
called_in-operand_in-requires g t c κs within =
    ((let small = item_small size-Expr c.args.es.now c.loop-e.e-index c.e-item.result c.loop-e-test.true c.e-item.is in omega (arith, small, c.decreases)), (within, ((stays_after (λ (f : Frame). SuitsSite f c.args.site.now) c.loop-e.invariant c.requires.suits), read_expr c.args.site.now.texts.now.names expr_view c.args.es.now c.loop-e.e-index c.e-item.result c.loop-e-test.true c.e-item.is c.requires.read)))

pub called_in-loop-e-preserved : goal.called_in-loop-e-preserved
called_in-loop-e-preserved g t c =
    let one = (found c.in-Known.is c.in-Ok.ensures) in
    let made = value_everywhere (g.S.Scopes.state c.operand_in.new.scopes) c.operand_in.new.notes c.args.site.now c.with-args.result AreArguments (λ k. gives (with_more c.loop-e.args (record { at = expr_at (expr_view c.e-item.result); operand = c.in-Known.value })))
    (c.with-args.ensures.there (g.S.Scopes.state c.operand_in.new.scopes).frame (stays_after (λ (f : Frame). AreArguments f c.loop-e.args) one (stands_after c.loop-e.invariant)) (stands_after one))
    (λ k. ap (λ args. gives args) (c.with-args.ensures.added ∙ ap (λ (at : ℕ). with_more c.loop-e.args (record { at = at; operand = c.in-Known.value })) (sym (at_seen c.e-item.result)))) in
    one_more (λ k args i. argument_in k args (expr_view i)) (summed []) c.args.es.now c.loop-e.e-index c.e-item.result c.loop-e-test.true c.e-item.is c.loop-e.invariant
    (and_after (λ k. operand_in k (expr_view c.e-item.result)) (λ o k. gives (with_more c.loop-e.args (record { at = expr_at (expr_view c.e-item.result); operand = o }))) (Ok (Known c.with-args.result)) one made)

pub called_in-returns-in-DontKnowYet : goal.called_in-returns-in-DontKnowYet
called_in-returns-in-DontKnowYet g t c =
    waiting_after c.loop-e.invariant (found c.in-DontKnowYet.is c.in-Ok.ensures)

pub called_in-returns-in-Err : goal.called_in-returns-in-Err
called_in-returns-in-Err g t c =
    failed_after c.loop-e.invariant c.in-Err.ensures _

pub called_in-call_with-requires-clause-suits : goal.called_in-call_with-requires-clause-suits
called_in-call_with-requires-clause-suits g t c =
    stays_after (λ (f : Frame). SuitsSite f c.args.site.now) c.loop-e.invariant c.requires.suits

pub called_in-call_with-requires-clause-args : goal.called_in-call_with-requires-clause-args
called_in-call_with-requires-clause-args g t c =
    stands_after c.loop-e.invariant

pub called_in-returns : goal.called_in-returns
called_in-returns g t c =
    let all = whole (λ k args i. argument_in k args (expr_view i)) (summed []) c.args.es.now c.loop-e.e-index (λ k. arguments_in k (exprs (map expr_view c.args.es.now))) c.loop-e-test.false c.loop-e.invariant (λ k. arguments_folded k expr_view c.args.es.now) in
    described c.call_with.result (and_after (λ k. arguments_in k (exprs (map expr_view c.args.es.now))) (λ args k. call_with k c.args.to.at c.args.to.operand args) c.call_with.result all c.call_with.ensures)
    (λ k. called_given k c.args.to.at c.args.to.operand (exprs (map expr_view c.args.es.now)))

pub designator_in-loop-selector-init : goal.designator_in-loop-selector-init
designator_in-loop-selector-init g t c =
    described (Ok (Known c.in-Known.value)) (found c.in-Known.is c.in-Ok.ensures) (λ k. sym (and_then_gives (name_operand k None c.args.of.now.first)))

pub designator_in-selector_in-requires : goal.designator_in-selector_in-requires
designator_in-selector_in-requires g t c κs within =
    ((let small = rest_smaller c.args.of.now in let among = item_small size-Selector c.args.of.now.rest.items c.loop-selector.selector-index c.selector-item.result (rw c.deref-selector-items.ensures.value at c.loop-selector-test.true) (rw c.deref-selector-items.ensures.value at c.selector-item.is) in omega (arith, small, among, c.decreases)), (within, ((stays_after (λ (f : Frame). SuitsSite f c.args.site.now) c.loop-selector.invariant c.requires.suits), (stands_after c.loop-selector.invariant, read_selector c.args.site.now.texts.now.names selector_view c.args.of.now.rest.items c.loop-selector.selector-index c.selector-item.result (rw c.deref-selector-items.ensures.value at c.loop-selector-test.true) (rw c.deref-selector-items.ensures.value at c.selector-item.is) (designator_read c.args.site.now.texts.now.names c.args.of.now c.requires.read).1))))

pub designator_in-loop-selector-preserved : goal.designator_in-loop-selector-preserved
designator_in-loop-selector-preserved g t c =
    one_more_after (λ k. name_operand k None c.args.of.now.first) (λ k o i. selector_in k c.args.of.now.first.at o (selector_view i)) c.args.of.now.rest.items c.loop-selector.selector-index c.selector-item.result (rw c.deref-selector-items.ensures.value at c.loop-selector-test.true) (rw c.deref-selector-items.ensures.value at c.selector-item.is) c.loop-selector.invariant (found c.in-Known-asked.is c.in-Ok-selector_in.ensures)

pub designator_in-returns-in-DontKnowYet-asked : goal.designator_in-returns-in-DontKnowYet-asked
designator_in-returns-in-DontKnowYet-asked g t c =
    waiting_after c.loop-selector.invariant (found c.in-DontKnowYet-asked.is c.in-Ok-selector_in.ensures)

pub designator_in-returns-in-Err-selector_in : goal.designator_in-returns-in-Err-selector_in
designator_in-returns-in-Err-selector_in g t c =
    failed_after c.loop-selector.invariant c.in-Err-selector_in.ensures _

pub designator_in-returns : goal.designator_in-returns
designator_in-returns g t c =
    whole_after (λ k. name_operand k None c.args.of.now.first) (λ k o i. selector_in k c.args.of.now.first.at o (selector_view i)) c.args.of.now.rest.items c.loop-selector.selector-index (λ k. designator_in k (designator_view c.args.of.now)) (rw c.deref-selector-items.ensures.value at c.loop-selector-test.false) c.loop-selector.invariant
    (λ k. and_then_same (name_operand k None c.args.of.now.first) (λ o. folded (λ o i. selector_in k c.args.of.now.first.at o (selector_view i)) o c.args.of.now.rest.items) (λ o. selectors_in k c.args.of.now.first.at o (selectors (map selector_view c.args.of.now.rest.items)))
    (selectors_folded k selector_view c.args.of.now.first.at (name_operand k None c.args.of.now.first).value c.args.of.now.rest.items)
    ∙ ap (designator_in k) (sym (designator_seen c.args.of.now)))

pub selector_in-name_operand-requires-clause-within : goal.selector_in-name_operand-requires-clause-within
selector_in-name_operand-requires-clause-within g t c =
    rw c.in-ModuleName.is at c.requires.of

pub selector_in-name_operand-requires-clause-named : goal.selector_in-name_operand-requires-clause-named
selector_in-name_operand-requires-clause-named g t c =
    selector_read c.args.site.now.texts.now.names c.args.selector.now _ (ap selector_view c.in-Field.is ∙ field_seen c.in-Field.ident c.in-Field.field-1) c.requires.read

pub selector_in-returns-in-ModuleName : goal.selector_in-returns-in-ModuleName
selector_in-returns-in-ModuleName g t c =
    described c.name_operand.result c.name_operand.ensures
    (λ k. ap (λ o. field_operand k c.args.of.at o c.in-Field.ident) (sym c.in-ModuleName.is) ∙ ap (selector_in k c.args.of.at c.args.of.operand) (sym (ap selector_view c.in-Field.is ∙ field_seen c.in-Field.ident c.in-Field.field-1)))

pub selector_in-returns-in_default : goal.selector_in-returns-in_default
selector_in-returns-in_default g t c =
    described c.picked.result (c.picked.ensures (g.S.Scopes.state c.args.scopes.now))
    (λ k. no_module k c.args.of.at c.args.of.operand c.in-Field.ident c.in_default.not-ModuleName ∙ ap (selector_in k c.args.of.at c.args.of.operand) (sym (ap selector_view c.in-Field.is ∙ field_seen c.in-Field.ident c.in-Field.field-1)))

pub selector_in-returns-in-Deref : goal.selector_in-returns-in-Deref
selector_in-returns-in-Deref g t c =
    described c.picked-in-Deref.result (c.picked-in-Deref.ensures (g.S.Scopes.state c.args.scopes.now)) (λ k. ap (selector_in k c.args.of.at c.args.of.operand) (sym (ap selector_view c.in-Deref.is ∙ deref_seen c.in-Deref.field-0)))
