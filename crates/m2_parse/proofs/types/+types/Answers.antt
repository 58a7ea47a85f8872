use Rattle.std.proofs.Common.{refl, ap, ◌∙◌, map, arith}
use Rattle.std.proofs.lemmas.Grind.{common_steps}
use Rattle.std.proofs.lemmas.List.{map-append}
use Rattle.ll_grammar.proofs.Loops.{listed_starts, separated_is_done}
use Rattle.m2_base.specs.Views.{field_list_view, variant_arm_view}
use Rattle.m2_base.proofs.Seen.{array_seen, case_fields_seen, plain_fields_seen, pointer_seen, record_seen, type_seen, variant_arm_seen}
use Rattle.m2_parse.specs.ReadTypes.{array_with, case_fields_with, optional_field_with, other_fields_with, plain_fields_with, pointer_with, record_with, variant_with}
use Rattle.m2_parse.proofs.ListLemmas.{list_goes_on, list_ends, list_stops}
use Rattle.m2_parse.proofs.Steps.{as_read, handed_on, fails, fails_behind, where_taken}
use Rattle.m2_parse.proofs.types.+types.Goals as goal

pub fields-returns-in_default : goal.fields-returns-in_default
fields-returns-in_default t c = list_stops c.loop.invariant c.loop-test.true c.in_default.ensures.0 c.in_default.ensures.1

pub fields-returns-in_err-items : goal.fields-returns-in_err-items
fields-returns-in_err-items t c = handed_on _ _ _ c.from_residual.result c.from_residual.ensures.1 (fails _ _ _ c.in_err-items.ensures)

pub fields-returns-in_err-more : goal.fields-returns-in_err-more
fields-returns-in_err-more t c =
    handed_on _ _ _ c.from_residual-in_err-more.result c.from_residual-in_err-more.ensures.1 (list_ends _ c.loop.invariant c.loop-test.true c.in-Some.ensures.1 c.in_err-more.ensures)

pub fields-loop-init : goal.fields-loop-init
fields-loop-init t c = listed_starts _ c.in_ok-items.ensures refl

pub fields-loop-preserved : goal.fields-loop-preserved
fields-loop-preserved t c =
    list_goes_on c.loop.invariant c.loop-test.true c.in-Some.ensures.1 c.in_ok-more.ensures
    (ap (map field_list_view) c.in_ok-append.ensures.items ∙ map-append field_list_view c.loop.items.items c.in_ok-more.more.items)

pub fields-returns : goal.fields-returns
fields-returns t c = separated_is_done c.loop.invariant c.loop-test.false

pub variants-returns-in_default : goal.variants-returns-in_default
variants-returns-in_default t c = list_stops c.loop.invariant c.loop-test.true c.in_default.ensures.0 c.in_default.ensures.1

pub variants-returns-in_err-items : goal.variants-returns-in_err-items
variants-returns-in_err-items t c = handed_on _ _ _ c.from_residual.result c.from_residual.ensures.1 (fails _ _ _ c.in_err-items.ensures)

pub variants-returns-in_err-more : goal.variants-returns-in_err-more
variants-returns-in_err-more t c =
    handed_on _ _ _ c.from_residual-in_err-more.result c.from_residual-in_err-more.ensures.1 (list_ends _ c.loop.invariant c.loop-test.true c.in-Some.ensures.1 c.in_err-more.ensures)

pub variants-loop-init : goal.variants-loop-init
variants-loop-init t c = listed_starts _ c.in_ok-items.ensures refl

pub variants-loop-preserved : goal.variants-loop-preserved
variants-loop-preserved t c =
    list_goes_on c.loop.invariant c.loop-test.true c.in-Some.ensures.1 c.in_ok-more.ensures
    (ap (map variant_arm_view) c.in_ok-append.ensures.items ∙ map-append variant_arm_view c.loop.items.items c.in_ok-more.more.items)

pub variants-returns : goal.variants-returns
variants-returns t c = separated_is_done c.loop.invariant c.loop-test.false

pub array-returns-in_err-array : goal.array-returns-in_err-array
unfolding array_with
array-returns-in_err-array t c =
    handed_on _ _ _ c.from_residual.result c.from_residual.ensures.1 (fails _ _ _ c.in_err-array.ensures.gives)

pub array-returns-in_err-index : goal.array-returns-in_err-index
unfolding array_with
array-returns-in_err-index t c =
    handed_on _ _ _ c.from_residual-in_err-index.result c.from_residual-in_err-index.ensures.1
    (fails_behind _ _ _ c.in_ok-array.ensures.gives (fails _ _ _ c.in_err-index.ensures))

pub array-returns-in_err-expect : goal.array-returns-in_err-expect
unfolding array_with
array-returns-in_err-expect t c =
    handed_on _ _ _ c.from_residual-in_err-expect.result c.from_residual-in_err-expect.ensures.1
    (fails_behind _ _ _ c.in_ok-array.ensures.gives (fails_behind _ _ _ c.in_ok-index.ensures
    (fails _ _ _ c.in_err-expect.ensures.gives)))

pub array-returns-in_err-of : goal.array-returns-in_err-of
unfolding array_with
array-returns-in_err-of t c =
    handed_on _ _ _ c.from_residual-in_err-of.result c.from_residual-in_err-of.ensures.1
    (fails_behind _ _ _ c.in_ok-array.ensures.gives (fails_behind _ _ _ c.in_ok-index.ensures
    (fails_behind _ _ _ c.in_ok-expect.ensures.gives (fails _ _ _ c.in_err-of.ensures))))

pub array-returns-in_err-of-2 : goal.array-returns-in_err-of-2
unfolding array_with
array-returns-in_err-of-2 t c = grind (arith, common_steps)

pub array-returns : goal.array-returns
unfolding array_with
array-returns t c = grind (arith, common_steps, type_seen, array_seen)

pub record_type-returns-in_err-record : goal.record_type-returns-in_err-record
unfolding record_with
record_type-returns-in_err-record t c =
    handed_on _ _ _ c.from_residual.result c.from_residual.ensures.1 (fails _ _ _ c.in_err-record.ensures.gives)

pub record_type-returns-in_err-list : goal.record_type-returns-in_err-list
unfolding record_with
record_type-returns-in_err-list t c =
    handed_on _ _ _ c.from_residual-in_err-list.result c.from_residual-in_err-list.ensures.1
    (fails_behind _ _ _ c.in_ok-record.ensures.gives (fails _ _ _ c.in_err-list.ensures))

pub record_type-returns-in_err-expect : goal.record_type-returns-in_err-expect
unfolding record_with
record_type-returns-in_err-expect t c =
    handed_on _ _ _ c.from_residual-in_err-expect.result c.from_residual-in_err-expect.ensures.1
    (fails_behind _ _ _ c.in_ok-record.ensures.gives (fails_behind _ _ _ c.in_ok-list.ensures
    (fails _ _ _ c.in_err-expect.ensures.gives)))

pub record_type-returns : goal.record_type-returns
unfolding record_with
record_type-returns t c = grind (arith, common_steps, type_seen, record_seen)

pub pointer-returns-in_err-pointer : goal.pointer-returns-in_err-pointer
unfolding pointer_with
pointer-returns-in_err-pointer t c =
    handed_on _ _ _ c.from_residual.result c.from_residual.ensures.1 (fails _ _ _ c.in_err-pointer.ensures.gives)

pub pointer-returns-in_err-expect : goal.pointer-returns-in_err-expect
unfolding pointer_with
pointer-returns-in_err-expect t c =
    handed_on _ _ _ c.from_residual-in_err-expect.result c.from_residual-in_err-expect.ensures.1
    (fails_behind _ _ _ c.in_ok-pointer.ensures.gives (fails _ _ _ c.in_err-expect.ensures.gives))

pub pointer-returns-in_err-of : goal.pointer-returns-in_err-of
unfolding pointer_with
pointer-returns-in_err-of t c =
    handed_on _ _ _ c.from_residual-in_err-of.result c.from_residual-in_err-of.ensures.1
    (fails_behind _ _ _ c.in_ok-pointer.ensures.gives (fails_behind _ _ _ c.in_ok-expect.ensures.gives
    (fails _ _ _ c.in_err-of.ensures)))

pub pointer-returns-in_err-new : goal.pointer-returns-in_err-new
unfolding pointer_with
pointer-returns-in_err-new t c = grind (arith, common_steps)

pub pointer-returns : goal.pointer-returns
unfolding pointer_with
pointer-returns t c = grind (arith, common_steps, type_seen, pointer_seen)

pub optional_field-returns-then-not-begins_field : goal.optional_field-returns-then-not-begins_field
unfolding optional_field_with
optional_field-returns-then-not-begins_field t c = grind (arith, common_steps)

pub optional_field-returns-in_err-item : goal.optional_field-returns-in_err-item
unfolding optional_field_with
optional_field-returns-in_err-item t c = grind (arith, common_steps)

pub optional_field-returns-in_err-list_of : goal.optional_field-returns-in_err-list_of
unfolding optional_field_with
optional_field-returns-in_err-list_of t c = grind (arith, common_steps)

pub optional_field-returns : goal.optional_field-returns
unfolding optional_field_with
optional_field-returns t c = grind (arith, common_steps)

pub plain_fields-returns-in_err-names : goal.plain_fields-returns-in_err-names
unfolding plain_fields_with
plain_fields-returns-in_err-names t c =
    handed_on _ _ _ c.from_residual.result c.from_residual.ensures.1 (fails _ _ _ c.in_err-names.ensures)

pub plain_fields-returns-in_err-expect : goal.plain_fields-returns-in_err-expect
unfolding plain_fields_with
plain_fields-returns-in_err-expect t c =
    handed_on _ _ _ c.from_residual-in_err-expect.result c.from_residual-in_err-expect.ensures.1
    (fails_behind _ _ _ c.in_ok-names.ensures (fails _ _ _ c.in_err-expect.ensures.gives))

pub plain_fields-returns-in_err-typ : goal.plain_fields-returns-in_err-typ
unfolding plain_fields_with
plain_fields-returns-in_err-typ t c =
    handed_on _ _ _ c.from_residual-in_err-typ.result c.from_residual-in_err-typ.ensures.1
    (fails_behind _ _ _ c.in_ok-names.ensures (fails_behind _ _ _ c.in_ok-expect.ensures.gives
    (fails _ _ _ c.in_err-typ.ensures)))

pub plain_fields-returns : goal.plain_fields-returns
unfolding plain_fields_with
plain_fields-returns t c = grind (arith, common_steps, plain_fields_seen)

pub case_fields-returns-in_err-expect : goal.case_fields-returns-in_err-expect
unfolding case_fields_with
case_fields-returns-in_err-expect t c =
    handed_on _ _ _ c.from_residual.result c.from_residual.ensures.1 (fails _ _ _ c.in_err-expect.ensures.gives)

pub case_fields-returns-in_err-tag : goal.case_fields-returns-in_err-tag
unfolding case_fields_with
case_fields-returns-in_err-tag t c =
    handed_on _ _ _ c.from_residual-in_err-tag.result c.from_residual-in_err-tag.ensures.1
    (fails_behind _ _ _ c.in_ok-expect.ensures.gives (fails _ _ _ c.in_err-tag.ensures))

pub case_fields-returns-in_err-expect-2 : goal.case_fields-returns-in_err-expect-2
unfolding case_fields_with
case_fields-returns-in_err-expect-2 t c =
    handed_on _ _ _ c.from_residual-in_err-expect-2.result c.from_residual-in_err-expect-2.ensures.1
    (fails_behind _ _ _ c.in_ok-expect.ensures.gives (fails_behind _ _ _ c.in_ok-tag.ensures
    (fails _ _ _ c.in_err-expect-2.ensures.gives)))

pub case_fields-returns-in_err-of : goal.case_fields-returns-in_err-of
unfolding case_fields_with
case_fields-returns-in_err-of t c =
    handed_on _ _ _ c.from_residual-in_err-of.result c.from_residual-in_err-of.ensures.1
    (fails_behind _ _ _ c.in_ok-expect.ensures.gives (fails_behind _ _ _ c.in_ok-tag.ensures
    (fails_behind _ _ _ c.in_ok-expect-2.ensures.gives (fails _ _ _ c.in_err-of.ensures))))

pub case_fields-returns-in_err-expect-3 : goal.case_fields-returns-in_err-expect-3
unfolding case_fields_with
case_fields-returns-in_err-expect-3 t c =
    handed_on _ _ _ c.from_residual-in_err-expect-3.result c.from_residual-in_err-expect-3.ensures.1
    (fails_behind _ _ _ c.in_ok-expect.ensures.gives (fails_behind _ _ _ c.in_ok-tag.ensures
    (fails_behind _ _ _ c.in_ok-expect-2.ensures.gives (fails_behind _ _ _ c.in_ok-of.ensures
    (fails _ _ _ c.in_err-expect-3.ensures.gives)))))

pub case_fields-returns-in_err-arms : goal.case_fields-returns-in_err-arms
unfolding case_fields_with
case_fields-returns-in_err-arms t c =
    handed_on _ _ _ c.from_residual-in_err-arms.result c.from_residual-in_err-arms.ensures.1
    (fails_behind _ _ _ c.in_ok-expect.ensures.gives (fails_behind _ _ _ c.in_ok-tag.ensures
    (fails_behind _ _ _ c.in_ok-expect-2.ensures.gives (fails_behind _ _ _ c.in_ok-of.ensures
    (fails_behind _ _ _ c.in_ok-expect-3.ensures.gives (fails _ _ _ c.in_err-arms.ensures))))))

pub case_fields-returns-in_err-other : goal.case_fields-returns-in_err-other
unfolding case_fields_with
case_fields-returns-in_err-other t c =
    handed_on _ _ _ c.from_residual-in_err-other.result c.from_residual-in_err-other.ensures.1
    (fails_behind _ _ _ c.in_ok-expect.ensures.gives (fails_behind _ _ _ c.in_ok-tag.ensures
    (fails_behind _ _ _ c.in_ok-expect-2.ensures.gives (fails_behind _ _ _ c.in_ok-of.ensures
    (fails_behind _ _ _ c.in_ok-expect-3.ensures.gives (fails_behind _ _ _ c.in_ok-arms.ensures
    (fails _ _ _ c.in_err-other.ensures)))))))

pub case_fields-returns-in_err-expect-4 : goal.case_fields-returns-in_err-expect-4
unfolding case_fields_with
case_fields-returns-in_err-expect-4 t c =
    handed_on _ _ _ c.from_residual-in_err-expect-4.result c.from_residual-in_err-expect-4.ensures.1
    (fails_behind _ _ _ c.in_ok-expect.ensures.gives (fails_behind _ _ _ c.in_ok-tag.ensures
    (fails_behind _ _ _ c.in_ok-expect-2.ensures.gives (fails_behind _ _ _ c.in_ok-of.ensures
    (fails_behind _ _ _ c.in_ok-expect-3.ensures.gives (fails_behind _ _ _ c.in_ok-arms.ensures
    (fails_behind _ _ _ c.in_ok-other.ensures (fails _ _ _ c.in_err-expect-4.ensures.gives))))))))

pub case_fields-returns : goal.case_fields-returns
unfolding case_fields_with
case_fields-returns t c = grind (arith, common_steps, case_fields_seen)

pub variant-returns-then-not-begins_expr : goal.variant-returns-then-not-begins_expr
unfolding variant_with
variant-returns-then-not-begins_expr t c = grind (arith, common_steps, variant_arm_seen)

pub variant-returns-in_err-labels : goal.variant-returns-in_err-labels
unfolding variant_with
variant-returns-in_err-labels t c = grind (arith, common_steps)

pub variant-returns-in_err-expect : goal.variant-returns-in_err-expect
unfolding variant_with
variant-returns-in_err-expect t c = grind (arith, common_steps)

pub variant-returns-in_err-fields : goal.variant-returns-in_err-fields
unfolding variant_with
variant-returns-in_err-fields t c = grind (arith, common_steps)

pub variant-returns-in_err-list_of : goal.variant-returns-in_err-list_of
unfolding variant_with
variant-returns-in_err-list_of t c = grind (arith, common_steps)

pub variant-returns : goal.variant-returns
unfolding variant_with
variant-returns t c = grind (arith, common_steps, variant_arm_seen)

pub other_fields-returns-in_default : goal.other_fields-returns-in_default
unfolding other_fields_with
other_fields-returns-in_default t c = grind (arith, common_steps)

pub other_fields-returns : goal.other_fields-returns
unfolding other_fields_with
other_fields-returns t c = where_taken _ _ _ _ _ c.in-Some.ensures.0 c.in-Some.ensures.1 (as_read _ _ _ c.fields.ensures)
