use Rattle.std.proofs.Common.{Err, Ok, [], ap, arith, length, map, refl, subst, sym, ℕ, ◌∙◌, ◌∷◌, ◌≡◌, ◌++◌, List}
use Rattle.m2_base.specs.Rows.{field_kind, record_kind, set_kind, pointer_kind}
use Rattle.m2_base.specs.States.{Frame}
use Rattle.m2_base.specs.Statics.Arrays.{checked_base}
use Rattle.m2_base.specs.Statics.Makes.{make_then, makes_row, only_gives}
use Rattle.m2_base.specs.Statics.Shapes.{arms_shapes, fields_shapes, nameless, tag_shapes, type_shapes, Shape, form_shapes}
use Rattle.m2_base.specs.Statics.TypeRows.{type_rows}
use Rattle.m2_base.specs.Trees.{array_type, case_fields, enum_type, named_type, plain_fields, proc_type, record_type, set_type, type_at, pointer_type, sub_type}
use Rattle.m2_base.specs.Views.{type_view, expr_view}
use Rattle.m2_base.specs.declared.rows.RowMeaning.TheVariants.{Set}
use Rattle.m2_base.specs.declared.trees.types.TypeExpr.{TypeExpr}
use Rattle.m2_base.specs.declared.replies.Ask.TheVariants.{DontKnowYet, Known}
use Rattle.decl_sem.specs.Making.{next_ordinal}
use Rattle.decl_sem.specs.Pieces.{Declares, IsBehind, IsMaking}
use Rattle.decl_sem.specs.Records.{AreVariants, IsOwner, behind_tag_shapes}
use Rattle.decl_sem.proofs.Asking.{first_made}
use Rattle.decl_sem.proofs.OneRows.{room_for_row}
use Rattle.decl_sem.proofs.Pieces.{failed, making_front, making_on, then_after, waiting}
use Rattle.decl_sem.proofs.RecordRows.{all_arms, all_lists, arm_read, arms_then, cases_made, cases_making, cases_owner, field_read, greater_last, inner_failed, inner_making, inner_owner, inner_waits, is_cases, is_plain, labels_failed, labels_known, labels_making, labels_wait, list_failed, list_form_made, list_form_making, list_form_owner, list_form_read, list_making, list_owner, list_waits, one_arm, one_list, own_ahead, owner_front, owner_on, plain_made, record_whole}
use Rattle.decl_sem.proofs.RecordSizes.{arm_small, arms_of, cases_small, field_small, fields_of, plain_small, record_small}
use Rattle.decl_sem.proofs.TypeForms.{arms_no_types, at_seen, enum_room, fields_no_types, form_made, form_making, form_read, is_enum, is_named, is_proc, is_record, is_set, read_here, set_parts, tag_no_types, type_no_types, unmade, is_pointer, is_sub}
use Rattle.decl_sem.proofs.TypeSizes.{smaller_base, smaller_target}
use Rattle.decl_sem.proofs.ArrayLists.{all_indexes, arrays_making, checked_behind, checked_making, elem_behind, elem_failed, elem_making, elem_waiting, first_listed, first_waiting, index_made, index_making, index_small, indexes_behind, indexes_failed, indexes_full, indexes_making, indexes_waiting, is_array, listed_waiting, no_indexes, one_more_index, read_index, size_of_array, trees, whole_array}
use Rattle.decl_sem.proofs.PointerRows.{aliases_of_pointer, plain_known, pointer_by_layout, pointer_made, pointer_unmade, pointer_waits, target_known, target_making}
use Rattle.decl_sem.proofs.types.+types.Goals as goal

pub type_in-name_in-requires-clause-making : goal.type_in-name_in-requires-clause-making
type_in-name_in-requires-clause-making g t c = form_making c.args.typ.now (named_type c.in-Named.qual) (is_named c.args.typ.now c.in-Named.qual c.in-Named.is) c.requires.making

pub type_in-name_in-requires-clause-read : goal.type_in-name_in-requires-clause-read
type_in-name_in-requires-clause-read g t c = form_read c.args.typ.now (named_type c.in-Named.qual) c.args.site.now.texts.now.names (is_named c.args.typ.now c.in-Named.qual c.in-Named.is) c.requires.read

pub type_in-returns-in-Named : goal.type_in-returns-in-Named
type_in-returns-in-Named g t c = form_made c.args.typ.now (named_type c.in-Named.qual) (is_named c.args.typ.now c.in-Named.qual c.in-Named.is) c.name_in.ensures

pub type_in-make_enumeration-requires-clause-room : goal.type_in-make_enumeration-requires-clause-room
type_in-make_enumeration-requires-clause-room g t c =
    let names = c.deref.result.now in
    enum_room c.args.typ.now.at names (form_making c.args.typ.now (enum_type names) (is_enum c.args.typ.now c.in-Enum.names names c.deref.ensures.value c.in-Enum.is) c.requires.making)

pub type_in-returns-in-Err : goal.type_in-returns-in-Err
type_in-returns-in-Err g t c =
    let names = c.deref.result.now in
    let is = is_enum c.args.typ.now c.in-Enum.names names c.deref.ensures.value c.in-Enum.is in
    form_made c.args.typ.now (enum_type names) is
    (c.in-Err.ensures (g.S.Scopes.state c.args.scopes.now) (form_making c.args.typ.now (enum_type names) is c.requires.making)
    (read_here names c.requires.making.suits (form_read c.args.typ.now (enum_type names) c.args.site.now.texts.now.names is c.requires.read)))

pub type_in-returns-in-Ok : goal.type_in-returns-in-Ok
type_in-returns-in-Ok g t c =
    let names = c.deref.result.now in
    let is = is_enum c.args.typ.now c.in-Enum.names names c.deref.ensures.value c.in-Enum.is in
    form_made c.args.typ.now (enum_type names) is
    (c.in-Ok.ensures (g.S.Scopes.state c.args.scopes.now) (form_making c.args.typ.now (enum_type names) is c.requires.making)
    (read_here names c.requires.making.suits (form_read c.args.typ.now (enum_type names) c.args.site.now.texts.now.names is c.requires.read)))

pub type_in-type_in-requires : goal.type_in-type_in-requires
type_in-type_in-requires g t c κs within =
    let u = c.deref-in-Set.result.now in (
      (let small = smaller_base c.args.typ.now u (is_set c.args.typ.now c.in-Set.of u c.deref-in-Set.ensures c.in-Set.is) in omega (arith, small, c.decreases)),
      (within, set_parts c.args.typ.now c.in-Set.of u c.deref-in-Set.ensures c.in-Set.is c.args.site.now.texts.now.names c.requires.making c.requires.read),
    )

pub type_in-make_set-requires-clause-making : goal.type_in-make_set-requires-clause-making
type_in-make_set-requires-clause-making g t c =
    let u = c.deref-in-Set.result.now in
    let is = is_set c.args.typ.now c.in-Set.of u c.deref-in-Set.ensures c.in-Set.is in
    making_on (type_no_types (type_view u)) (form_making c.args.typ.now (set_type (type_view u)) is c.requires.making) (first_made c.in-Ok-type_in.is c.in-Known.is c.type_in.ensures)

pub type_in-returns-in-Known : goal.type_in-returns-in-Known
type_in-returns-in-Known g t c =
    let u = c.deref-in-Set.result.now in
    let is = is_set c.args.typ.now c.in-Set.of u c.deref-in-Set.ensures c.in-Set.is in
    let p = first_made c.in-Ok-type_in.is c.in-Known.is c.type_in.ensures in
    let at = c.args.typ.now.at in
    let same = ap (λ (v : TypeExpr). v.at) (c.deref-in-Set-2.ensures ∙ sym c.deref-in-Set.ensures) ∙ sym (at_seen u) in
    form_made c.args.typ.now (set_type (type_view u)) is
    (then_after (λ d. type_rows d (type_view u)) (λ base d. make_then d (only_gives (checked_base d (type_at (type_view u)) base)) (λ e b. makes_row e at (Set b))) c.make_set.result (type_no_types (type_view u))
    (form_making c.args.typ.now (set_type (type_view u)) is c.requires.making) p
    (subst (λ (n : ℕ). Declares (g.S.Scopes.state c.type_in.new.scopes) (g.S.Scopes.state c.make_set.new.scopes) c.type_in.new.made c.make_set.new.made c.args.site.now c.make_set.result (nameless set_kind at ∷ []) IsBehind
    (λ d. make_then d (only_gives (checked_base d n c.in-Known.value)) (λ e b. makes_row e at (Set b)))) same c.make_set.ensures))

pub type_in-proc_in-requires-clause-making : goal.type_in-proc_in-requires-clause-making
type_in-proc_in-requires-clause-making g t c =
    let l = c.deref-in-Proc.result.now in
    form_making c.args.typ.now (proc_type l c.in-Proc.outcome) (is_proc c.args.typ.now c.in-Proc.formals c.in-Proc.outcome l c.deref-in-Proc.ensures.value c.in-Proc.is) c.requires.making

pub type_in-proc_in-requires-clause-formals : goal.type_in-proc_in-requires-clause-formals
type_in-proc_in-requires-clause-formals g t c =
    let l = c.deref-in-Proc.result.now in
    (form_read c.args.typ.now (proc_type l c.in-Proc.outcome) c.args.site.now.texts.now.names (is_proc c.args.typ.now c.in-Proc.formals c.in-Proc.outcome l c.deref-in-Proc.ensures.value c.in-Proc.is) c.requires.read).0

pub type_in-proc_in-requires-clause-read : goal.type_in-proc_in-requires-clause-read
type_in-proc_in-requires-clause-read g t c =
    let l = c.deref-in-Proc.result.now in
    (form_read c.args.typ.now (proc_type l c.in-Proc.outcome) c.args.site.now.texts.now.names (is_proc c.args.typ.now c.in-Proc.formals c.in-Proc.outcome l c.deref-in-Proc.ensures.value c.in-Proc.is) c.requires.read).1

pub type_in-returns-in-Proc : goal.type_in-returns-in-Proc
type_in-returns-in-Proc g t c =
    let l = c.deref-in-Proc.result.now in
    form_made c.args.typ.now (proc_type l c.in-Proc.outcome) (is_proc c.args.typ.now c.in-Proc.formals c.in-Proc.outcome l c.deref-in-Proc.ensures.value c.in-Proc.is) c.proc_in.ensures

-- ** Subranges and pointers

pub type_in-subrange_in-requires-clause-making : goal.type_in-subrange_in-requires-clause-making
type_in-subrange_in-requires-clause-making g t c =
    form_making c.args.typ.now (sub_type c.in-Sub.base (expr_view c.in-Sub.low) (expr_view c.in-Sub.high)) (is_sub c.args.typ.now c.in-Sub.base c.in-Sub.low c.in-Sub.high c.in-Sub.is) c.requires.making

pub type_in-subrange_in-requires-clause-base : goal.type_in-subrange_in-requires-clause-base
type_in-subrange_in-requires-clause-base g t c =
    (form_read c.args.typ.now (sub_type c.in-Sub.base (expr_view c.in-Sub.low) (expr_view c.in-Sub.high)) c.args.site.now.texts.now.names (is_sub c.args.typ.now c.in-Sub.base c.in-Sub.low c.in-Sub.high c.in-Sub.is) c.requires.read).0

pub type_in-subrange_in-requires-clause-low : goal.type_in-subrange_in-requires-clause-low
type_in-subrange_in-requires-clause-low g t c =
    (form_read c.args.typ.now (sub_type c.in-Sub.base (expr_view c.in-Sub.low) (expr_view c.in-Sub.high)) c.args.site.now.texts.now.names (is_sub c.args.typ.now c.in-Sub.base c.in-Sub.low c.in-Sub.high c.in-Sub.is) c.requires.read).1

pub type_in-subrange_in-requires-clause-high : goal.type_in-subrange_in-requires-clause-high
type_in-subrange_in-requires-clause-high g t c =
    (form_read c.args.typ.now (sub_type c.in-Sub.base (expr_view c.in-Sub.low) (expr_view c.in-Sub.high)) c.args.site.now.texts.now.names (is_sub c.args.typ.now c.in-Sub.base c.in-Sub.low c.in-Sub.high c.in-Sub.is) c.requires.read).2

pub type_in-returns-in-Sub : goal.type_in-returns-in-Sub
type_in-returns-in-Sub g t c =
    form_made c.args.typ.now (sub_type c.in-Sub.base (expr_view c.in-Sub.low) (expr_view c.in-Sub.high)) (is_sub c.args.typ.now c.in-Sub.base c.in-Sub.low c.in-Sub.high c.in-Sub.is) c.subrange_in.ensures

pub type_in-target_in-requires : goal.type_in-target_in-requires
type_in-target_in-requires g t c =
    let u = c.deref-in-Pointer.result.now in
    let is = is_pointer c.args.typ.now c.in-Pointer.of u c.deref-in-Pointer.ensures c.in-Pointer.is in
    let making = form_making c.args.typ.now (pointer_type (type_view u)) is c.requires.making in
    record {
      making = making_front [] (form_shapes c.args.typ.now.at (pointer_type (type_view u))) making;
      aliases = aliases_of_pointer c.args.typ.now.at (type_view u) making;
    }

pub type_in-pointer_row-requires-clause-making : goal.type_in-pointer_row-requires-clause-making
type_in-pointer_row-requires-clause-making g t c =
    let u = c.deref-in-Pointer.result.now in
    let at = c.args.typ.now.at in
    let is = is_pointer c.args.typ.now c.in-Pointer.of u c.deref-in-Pointer.ensures c.in-Pointer.is in
    let plain : type_shapes (type_view u) ≡ [] = plain_known c.in-Ok-target_in.is c.in-Known-asked.is c.in-Some.is c.target_in.ensures.plain in
    let making = subst (λ (shapes : List Shape). IsMaking (g.S.Scopes.state c.args.scopes.now).frame c.args.site.now c.args.made.now (shapes ++ nameless pointer_kind at ∷ [])) plain (form_making c.args.typ.now (pointer_type (type_view u)) is c.requires.making) in
    making_on {ss = []} tt making (target_known u u refl c.in-Ok-target_in.is c.in-Known-asked.is c.in-Some.is c.target_in.ensures.target)

pub type_in-returns-in-Some : goal.type_in-returns-in-Some
type_in-returns-in-Some g t c =
    let u = c.deref-in-Pointer.result.now in
    let is = is_pointer c.args.typ.now c.in-Pointer.of u c.deref-in-Pointer.ensures c.in-Pointer.is in
    let plain : type_shapes (type_view u) ≡ [] = plain_known c.in-Ok-target_in.is c.in-Known-asked.is c.in-Some.is c.target_in.ensures.plain in
    form_made c.args.typ.now (pointer_type (type_view u)) is
    (pointer_by_layout c.args.typ.now.at (type_view u) c.pointer_row.result (form_making c.args.typ.now (pointer_type (type_view u)) is c.requires.making) c.in-Some.target plain
    (target_known u u refl c.in-Ok-target_in.is c.in-Known-asked.is c.in-Some.is c.target_in.ensures.target) c.pointer_row.ensures)

pub type_in-type_in-requires-in-None : goal.type_in-type_in-requires-in-None
type_in-type_in-requires-in-None g t c κs within =
    let v = c.deref-in-None.result.now in
    let at = c.args.typ.now.at in
    let is = is_pointer c.args.typ.now c.in-Pointer.of v c.deref-in-None.ensures c.in-Pointer.is in
    let making = form_making c.args.typ.now (pointer_type (type_view v)) is c.requires.making in
    let p = target_known c.deref-in-Pointer.result.now v (c.deref-in-Pointer.ensures ∙ sym c.deref-in-None.ensures) c.in-Ok-target_in.is c.in-Known-asked.is c.in-None.is c.target_in.ensures.target in (
      (let small = smaller_target c.args.typ.now v is in omega (arith, small, c.decreases)),
      (
        within,
        (
          making_front (type_shapes (type_view v)) (nameless pointer_kind at ∷ []) (target_making at (type_view v) making p),
          form_read c.args.typ.now (pointer_type (type_view v)) c.args.site.now.texts.now.names is c.requires.read,
        ),
      ),
    )

pub type_in-returns-in-DontKnowYet-asked-2 : goal.type_in-returns-in-DontKnowYet-asked-2
type_in-returns-in-DontKnowYet-asked-2 g t c =
    let v = c.deref-in-None.result.now in
    let is = is_pointer c.args.typ.now c.in-Pointer.of v c.deref-in-None.ensures c.in-Pointer.is in
    let p = target_known c.deref-in-Pointer.result.now v (c.deref-in-Pointer.ensures ∙ sym c.deref-in-None.ensures) c.in-Ok-target_in.is c.in-Known-asked.is c.in-None.is c.target_in.ensures.target in
    form_made c.args.typ.now (pointer_type (type_view v)) is
    (pointer_waits c.args.typ.now.at (type_view v) (form_making c.args.typ.now (pointer_type (type_view v)) is c.requires.making) p c.in-Ok-type_in-2.is c.in-DontKnowYet-asked-2.is c.type_in-in-None.ensures)

pub type_in-returns-in-Err-type_in-2 : goal.type_in-returns-in-Err-type_in-2
type_in-returns-in-Err-type_in-2 g t c =
    let v = c.deref-in-None.result.now in
    let is = is_pointer c.args.typ.now c.in-Pointer.of v c.deref-in-None.ensures c.in-Pointer.is in
    let p = target_known c.deref-in-Pointer.result.now v (c.deref-in-Pointer.ensures ∙ sym c.deref-in-None.ensures) c.in-Ok-target_in.is c.in-Known-asked.is c.in-None.is c.target_in.ensures.target in
    form_made c.args.typ.now (pointer_type (type_view v)) is
    (pointer_unmade c.args.typ.now.at (type_view v) (form_making c.args.typ.now (pointer_type (type_view v)) is c.requires.making) p c.in-Err-type_in-2.is c.type_in-in-None.ensures)

pub type_in-pointer_row-requires-in-None-clause-making : goal.type_in-pointer_row-requires-in-None-clause-making
type_in-pointer_row-requires-in-None-clause-making g t c =
    let v = c.deref-in-None.result.now in
    let is = is_pointer c.args.typ.now c.in-Pointer.of v c.deref-in-None.ensures c.in-Pointer.is in
    let p = target_known c.deref-in-Pointer.result.now v (c.deref-in-Pointer.ensures ∙ sym c.deref-in-None.ensures) c.in-Ok-target_in.is c.in-Known-asked.is c.in-None.is c.target_in.ensures.target in
    let making = target_making c.args.typ.now.at (type_view v) (form_making c.args.typ.now (pointer_type (type_view v)) is c.requires.making) p in
    making_on (type_no_types (type_view v)) making (first_made c.in-Ok-type_in-2.is c.in-Known-asked-2.is c.type_in-in-None.ensures)

pub type_in-returns-in-Known-asked-2 : goal.type_in-returns-in-Known-asked-2
type_in-returns-in-Known-asked-2 g t c =
    let v = c.deref-in-None.result.now in
    let is = is_pointer c.args.typ.now c.in-Pointer.of v c.deref-in-None.ensures c.in-Pointer.is in
    let p = target_known c.deref-in-Pointer.result.now v (c.deref-in-Pointer.ensures ∙ sym c.deref-in-None.ensures) c.in-Ok-target_in.is c.in-Known-asked.is c.in-None.is c.target_in.ensures.target in
    form_made c.args.typ.now (pointer_type (type_view v)) is
    (pointer_made c.args.typ.now.at (type_view v) c.pointer_row-in-None.result (form_making c.args.typ.now (pointer_type (type_view v)) is c.requires.making) p
    (first_made c.in-Ok-type_in-2.is c.in-Known-asked-2.is c.type_in-in-None.ensures) c.pointer_row-in-None.ensures)

-- ** Arrays

pub type_in-array_in-requires : goal.type_in-array_in-requires
type_in-array_in-requires g t c κs within =
    let l = c.deref-in-Array.result.now in
    let u = c.deref-in-Array-2.result.now in
    let is = is_array c.args.typ.now c.in-Array.index c.in-Array.of l u c.deref-in-Array.ensures.value c.deref-in-Array-2.ensures c.in-Array.is in
    let read = form_read c.args.typ.now (array_type (trees l) (type_view u)) c.args.site.now.texts.now.names is c.requires.read in (
      (let small = size_of_array c.args.typ.now l u is in omega (arith, small, c.decreases)),
      (within, (form_making c.args.typ.now (array_type (trees l) (type_view u)) is c.requires.making, (read.0, read.1))),
    )

pub type_in-returns-in-Array : goal.type_in-returns-in-Array
type_in-returns-in-Array g t c =
    let l = c.deref-in-Array.result.now in
    let u = c.deref-in-Array-2.result.now in
    form_made c.args.typ.now (array_type (trees l) (type_view u)) (is_array c.args.typ.now c.in-Array.index c.in-Array.of l u c.deref-in-Array.ensures.value c.deref-in-Array-2.ensures c.in-Array.is) c.array_in.ensures

pub index_in-type_in-requires : goal.index_in-type_in-requires
index_in-type_in-requires g t c κs within = (omega (arith, c.decreases), (within, (c.requires.making, c.requires.read)))

pub index_in-checked_index-requires-clause-making : goal.index_in-checked_index-requires-clause-making
index_in-checked_index-requires-clause-making g t c = checked_making c.args.typ.now c.requires.making (first_made c.in-Ok.is c.in-Known.is c.type_in.ensures)

pub index_in-checked_index-requires-clause-there : goal.index_in-checked_index-requires-clause-there
index_in-checked_index-requires-clause-there g t c = checked_behind c.args.typ.now c.requires.making (first_made c.in-Ok.is c.in-Known.is c.type_in.ensures)

pub index_in-returns : goal.index_in-returns
index_in-returns g t c = index_made c.args.typ.now c.requires.making (first_made c.in-Ok.is c.in-Known.is c.type_in.ensures) c.checked_index.result c.checked_index.ensures

pub indexes_in-loop-typ-init : goal.indexes_in-loop-typ-init
indexes_in-loop-typ-init g t c = no_indexes c.args.types.now c.new-indexes.result.items c.new-indexes.ensures.items c.requires.making

pub indexes_in-index_in-requires : goal.indexes_in-index_in-requires
indexes_in-index_in-requires g t c κs within = (
  let small = index_small c.args.types.now c.loop-typ.typ-index c.typ-item.result c.loop-typ-test.true c.typ-item.is in omega (arith, small, c.decreases),
  (
    within,
    (
      index_making c.args.types.now c.loop-typ.typ-index c.typ-item.result c.loop-typ.indexes.items c.loop-typ-test.true c.typ-item.is c.loop-typ.invariant,
      read_index c.args.site.now.texts.now.names c.args.types.now c.loop-typ.typ-index c.typ-item.result c.loop-typ-test.true c.typ-item.is c.requires.read,
    ),
  ),
)

pub indexes_in-returns-in-DontKnowYet : goal.indexes_in-returns-in-DontKnowYet
indexes_in-returns-in-DontKnowYet g t c =
    indexes_waiting c.args.types.now c.loop-typ.typ-index c.typ-item.result c.loop-typ.indexes.items c.loop-typ-test.true c.typ-item.is c.loop-typ.invariant (first_waiting c.in-Ok.is c.in-DontKnowYet.is c.index_in.ensures)

pub indexes_in-returns-in-Err : goal.indexes_in-returns-in-Err
indexes_in-returns-in-Err g t c =
    indexes_failed c.args.types.now c.loop-typ.typ-index c.typ-item.result c.loop-typ.indexes.items c.loop-typ-test.true c.typ-item.is c.loop-typ.invariant _ c.in-Err.ensures

pub indexes_in-returns-in_err-push : goal.indexes_in-returns-in_err-push
indexes_in-returns-in_err-push g t c =
    indexes_full c.args.types.now c.loop-typ.typ-index c.typ-item.result c.loop-typ.indexes.items c.loop-typ-test.true c.typ-item.is c.loop-typ.invariant c.from_residual.result c.from_residual.ensures.0 (first_made c.in-Ok.is c.in-Known.is c.index_in.ensures)

pub indexes_in-loop-typ-preserved : goal.indexes_in-loop-typ-preserved
indexes_in-loop-typ-preserved g t c =
    one_more_index c.args.types.now c.loop-typ.typ-index c.typ-item.result c.loop-typ.indexes.items c.loop-typ-test.true c.typ-item.is c.loop-typ.invariant c.push.new.self.items c.in_ok-push.ensures.items (first_made c.in-Ok.is c.in-Known.is c.index_in.ensures)

pub indexes_in-returns : goal.indexes_in-returns
indexes_in-returns g t c =
    let all : c.loop-typ.typ-index ≡ length c.args.types.now = let h = c.loop-typ-test.false in let e = c.loop-typ.auto.typ-index-end in omega arith in
    all_indexes c.args.types.now c.loop-typ.typ-index c.loop-typ.indexes.items all c.loop-typ.invariant

pub array_in-indexes_in-requires : goal.array_in-indexes_in-requires
array_in-indexes_in-requires g t c κs within = (omega (arith, c.decreases), (within, (indexes_making c.args.at c.args.index.now c.args.of.now c.requires.making, c.requires.indexes)))

pub array_in-returns-in-DontKnowYet : goal.array_in-returns-in-DontKnowYet
array_in-returns-in-DontKnowYet g t c = waiting (listed_waiting c.in-Ok.is c.in-DontKnowYet.is c.indexes_in.ensures)

pub array_in-type_in-requires : goal.array_in-type_in-requires
array_in-type_in-requires g t c κs within =
    (omega (arith, c.decreases), (within, (elem_making c.args.at c.args.index.now c.args.of.now c.requires.making (first_listed c.in-Ok.is c.in-Known.is c.indexes_in.ensures), c.requires.of)))

pub array_in-returns-in-DontKnowYet-asked : goal.array_in-returns-in-DontKnowYet-asked
array_in-returns-in-DontKnowYet-asked g t c =
    elem_waiting c.args.at c.args.index.now c.args.of.now c.requires.making (first_listed c.in-Ok.is c.in-Known.is c.indexes_in.ensures) (first_waiting c.in-Ok-type_in.is c.in-DontKnowYet-asked.is c.type_in.ensures)

pub array_in-returns-in-Err-type_in : goal.array_in-returns-in-Err-type_in
array_in-returns-in-Err-type_in g t c =
    elem_failed c.args.at c.args.index.now c.args.of.now c.requires.making (first_listed c.in-Ok.is c.in-Known.is c.indexes_in.ensures) c.in-Err-type_in.memory c.in-Err-type_in.ensures

pub array_in-put_arrays-requires-clause-making : goal.array_in-put_arrays-requires-clause-making
array_in-put_arrays-requires-clause-making g t c =
    rw c.deref.ensures.value (arrays_making c.args.at c.args.index.now c.args.of.now c.requires.making (first_listed c.in-Ok.is c.in-Known.is c.indexes_in.ensures) (first_made c.in-Ok-type_in.is c.in-Known-asked.is c.type_in.ensures))

pub array_in-put_arrays-requires-clause-indexes : goal.array_in-put_arrays-requires-clause-indexes
array_in-put_arrays-requires-clause-indexes g t c =
    rw c.deref.ensures.value (indexes_behind c.args.at c.args.index.now c.args.of.now c.requires.making (first_listed c.in-Ok.is c.in-Known.is c.indexes_in.ensures) (first_made c.in-Ok-type_in.is c.in-Known-asked.is c.type_in.ensures))

pub array_in-put_arrays-requires-clause-of : goal.array_in-put_arrays-requires-clause-of
array_in-put_arrays-requires-clause-of g t c =
    elem_behind c.args.at c.args.index.now c.args.of.now c.requires.making (first_listed c.in-Ok.is c.in-Known.is c.indexes_in.ensures) (first_made c.in-Ok-type_in.is c.in-Known-asked.is c.type_in.ensures)

pub array_in-returns : goal.array_in-returns
array_in-returns g t c =
    whole_array c.args.at c.args.index.now c.args.of.now c.requires.making (first_listed c.in-Ok.is c.in-Known.is c.indexes_in.ensures) (first_made c.in-Ok-type_in.is c.in-Known-asked.is c.type_in.ensures) c.put_arrays.result
    (rw c.deref.ensures.value at c.put_arrays.ensures)

-- ** Records

pub type_in-record_in-requires : goal.type_in-record_in-requires
type_in-record_in-requires g t c κs within =
    let l = c.deref-in-Rec.result.now in
    let is = is_record c.args.typ.now c.in-Rec.fields l c.deref-in-Rec.ensures.value c.in-Rec.is in (
      (let small = record_small c.args.typ.now c.in-Rec.fields l c.deref-in-Rec.ensures.value c.in-Rec.is in omega (arith, small, c.decreases)),
      (within, (form_making c.args.typ.now (record_type (fields_of l)) is c.requires.making, form_read c.args.typ.now (record_type (fields_of l)) c.args.site.now.texts.now.names is c.requires.read)),
    )

pub type_in-returns-in-Rec : goal.type_in-returns-in-Rec
type_in-returns-in-Rec g t c =
    let l = c.deref-in-Rec.result.now in
    form_made c.args.typ.now (record_type (fields_of l)) (is_record c.args.typ.now c.in-Rec.fields l c.deref-in-Rec.ensures.value c.in-Rec.is) c.record_in.ensures

pub record_in-returns-in-Err : goal.record_in-returns-in-Err
record_in-returns-in-Err g t c = unmade _ _ _ _ _ _ _

pub record_in-fields_in-requires : goal.record_in-fields_in-requires
record_in-fields_in-requires g t c κs within =
    let fields = fields_of c.args.fields.now in (
      omega (arith, c.decreases),
      (
        within,
        (
          making_front (fields_shapes fields) (nameless record_kind c.args.at ∷ []) c.requires.making,
          (own_ahead c.args.at c.next_row-first.result c.in-Ok.value fields c.requires.making c.next_row-first.ensures c.in-Ok.ensures, (omega arith, c.requires.read)),
        ),
      ),
    )

pub record_in-put_record-requires-clause-room : goal.record_in-put_record-requires-clause-room
record_in-put_record-requires-clause-room g t c =
    room_for_row (making_on (fields_no_types (fields_of c.args.fields.now)) c.requires.making (first_made c.in-Ok-fields_in.is c.in-Known.is c.fields_in.ensures))

pub record_in-returns-in-Err-put_record : goal.record_in-returns-in-Err-put_record
record_in-returns-in-Err-put_record g t c =
    let p = first_made c.in-Ok-fields_in.is c.in-Known.is c.fields_in.ensures in
    record_whole c.args.at c.next_row-first.result c.in-Ok.value (fields_of c.args.fields.now) (Err c.in-Err-put_record.memory) c.requires.making c.next_row-first.ensures c.in-Ok.ensures p
    (c.in-Err-put_record.ensures (g.S.Scopes.state c.fields_in.new.scopes) (making_on (fields_no_types (fields_of c.args.fields.now)) c.requires.making p))

pub record_in-returns : goal.record_in-returns
record_in-returns g t c =
    let p = first_made c.in-Ok-fields_in.is c.in-Known.is c.fields_in.ensures in
    record_whole c.args.at c.next_row-first.result c.in-Ok.value (fields_of c.args.fields.now) (Ok (Known c.in-Ok-put_record.value)) c.requires.making c.next_row-first.ensures c.in-Ok.ensures p
    (c.in-Ok-put_record.ensures (g.S.Scopes.state c.fields_in.new.scopes) (making_on (fields_no_types (fields_of c.args.fields.now)) c.requires.making p))

pub fields_in-field_list_in-requires : goal.fields_in-field_list_in-requires
fields_in-field_list_in-requires g t c κs within =
    let k = c.loop-list.list-index in
    let x = c.list-item.result in (
      (let small = field_small c.args.fields.now k x c.loop-list-test.true c.list-item.is in omega (arith, small, c.decreases)),
      (
        within,
        (
          list_making k x c.loop-list-test.true c.list-item.is c.loop-list.invariant,
          (list_owner k x c.loop-list-test.true c.list-item.is c.loop-list.invariant, (c.loop-list.invariant.end_is, field_read c.args.site.now.texts.now.names c.args.fields.now k x c.loop-list-test.true c.list-item.is c.requires.read)),
        ),
      ),
    )

pub fields_in-returns-in-DontKnowYet : goal.fields_in-returns-in-DontKnowYet
fields_in-returns-in-DontKnowYet g t c = list_waits c.loop-list.list-index c.list-item.result c.loop-list-test.true c.list-item.is c.loop-list.invariant (rw c.in-DontKnowYet.is at c.in-Ok.ensures)

pub fields_in-returns-in-Err : goal.fields_in-returns-in-Err
fields_in-returns-in-Err g t c = list_failed c.loop-list.list-index c.list-item.result c.loop-list-test.true c.list-item.is c.loop-list.invariant _ c.in-Err.ensures

pub fields_in-loop-list-preserved : goal.fields_in-loop-list-preserved
fields_in-loop-list-preserved g t c = one_list c.loop-list.list-index c.list-item.result c.loop-list-test.true c.list-item.is c.loop-list.invariant (rw c.in-Known.is at c.in-Ok.ensures)

pub fields_in-returns : goal.fields_in-returns
fields_in-returns g t c = all_lists c.loop-list.list-index (let h = c.loop-list-test.false in let e = c.loop-list.auto.list-index-end in omega arith) c.loop-list.invariant

pub field_list_in-type_in-requires : goal.field_list_in-type_in-requires
field_list_in-type_in-requires g t c κs within =
    let f = c.args.list.now in
    let typ = c.in-Plain.typ in
    let names = c.in-Plain.names.items in
    let is = is_plain f c.in-Plain.names typ typ names refl refl c.in-Plain.is in (
      (let small = plain_small f c.in-Plain.names typ typ refl c.in-Plain.is in omega (arith, small, c.decreases)),
      (
        within,
        (
          making_front (type_shapes (type_view typ)) (map (λ i. nameless field_kind i.at) names) (list_form_making f (plain_fields names (type_view typ)) is c.requires.making),
          (list_form_read f (plain_fields names (type_view typ)) is c.args.site.now.texts.now.names c.requires.read).1,
        ),
      ),
    )

pub field_list_in-put_fields-requires-clause-making : goal.field_list_in-put_fields-requires-clause-making
field_list_in-put_fields-requires-clause-making g t c =
    let f = c.args.list.now in
    let typ = c.in-Plain.typ in
    let names = c.deref.result.now in
    let is = is_plain f c.in-Plain.names typ typ names c.deref.ensures.value refl c.in-Plain.is in
    making_on (type_no_types (type_view typ)) (list_form_making f (plain_fields names (type_view typ)) is c.requires.making) (first_made c.in-Ok.is c.in-Known.is c.type_in.ensures)

pub field_list_in-put_fields-requires-clause-read : goal.field_list_in-put_fields-requires-clause-read
field_list_in-put_fields-requires-clause-read g t c =
    let f = c.args.list.now in
    let typ = c.in-Plain.typ in
    let names = c.deref.result.now in
    let is = is_plain f c.in-Plain.names typ typ names c.deref.ensures.value refl c.in-Plain.is in
    (list_form_read f (plain_fields names (type_view typ)) is c.args.site.now.texts.now.names c.requires.read).0

pub field_list_in-put_fields-requires-clause-owner : goal.field_list_in-put_fields-requires-clause-owner
field_list_in-put_fields-requires-clause-owner g t c =
    let f = c.args.list.now in
    let typ = c.in-Plain.typ in
    let names = c.deref.result.now in
    let is = is_plain f c.in-Plain.names typ typ names c.deref.ensures.value refl c.in-Plain.is in
    owner_on (map (λ i. nameless field_kind i.at) names) (list_form_owner f (plain_fields names (type_view typ)) is c.requires.owner) (first_made c.in-Ok.is c.in-Known.is c.type_in.ensures)

pub field_list_in-returns-in-Known : goal.field_list_in-returns-in-Known
field_list_in-returns-in-Known g t c =
    let f = c.args.list.now in
    let typ = c.in-Plain.typ in
    let names = c.deref.result.now in
    let is = is_plain f c.in-Plain.names typ typ names c.deref.ensures.value refl c.in-Plain.is in
    list_form_made f (plain_fields names (type_view typ)) is c.args.own c.args.offset
    (plain_made c.args.own c.args.offset (type_view typ) names c.put_fields.result (list_form_making f (plain_fields names (type_view typ)) is c.requires.making) (first_made c.in-Ok.is c.in-Known.is c.type_in.ensures) c.put_fields.ensures)

pub field_list_in-begin_variants-requires-clause-making : goal.field_list_in-begin_variants-requires-clause-making
field_list_in-begin_variants-requires-clause-making g t c =
    let f = c.args.list.now in
    let k = c.in-Cases.arms.items in
    let l = c.in-Cases.other.items in
    let is = is_cases f c.in-Cases.tag c.in-Cases.of c.in-Cases.arms c.in-Cases.other k l refl refl c.in-Cases.is in
    making_front (tag_shapes c.in-Cases.tag) (behind_tag_shapes (arms_of k) (fields_of l)) (cases_making f c.in-Cases.tag c.in-Cases.of (arms_of k) (fields_of l) is c.requires.making)

pub field_list_in-begin_variants-requires-clause-owner : goal.field_list_in-begin_variants-requires-clause-owner
field_list_in-begin_variants-requires-clause-owner g t c =
    let f = c.args.list.now in
    let k = c.in-Cases.arms.items in
    let l = c.in-Cases.other.items in
    let is = is_cases f c.in-Cases.tag c.in-Cases.of c.in-Cases.arms c.in-Cases.other k l refl refl c.in-Cases.is in
    owner_front (tag_shapes c.in-Cases.tag) (behind_tag_shapes (arms_of k) (fields_of l)) (cases_owner f c.in-Cases.tag c.in-Cases.of (arms_of k) (fields_of l) is c.requires.owner)

pub field_list_in-begin_variants-requires-clause-tag : goal.field_list_in-begin_variants-requires-clause-tag
field_list_in-begin_variants-requires-clause-tag g t c =
    let f = c.args.list.now in
    let k = c.in-Cases.arms.items in
    let l = c.in-Cases.other.items in
    let is = is_cases f c.in-Cases.tag c.in-Cases.of c.in-Cases.arms c.in-Cases.other k l refl refl c.in-Cases.is in
    (list_form_read f (case_fields c.in-Cases.tag c.in-Cases.of (arms_of k) (fields_of l)) is c.args.site.now.texts.now.names c.requires.read).0

pub field_list_in-begin_variants-requires-clause-read : goal.field_list_in-begin_variants-requires-clause-read
field_list_in-begin_variants-requires-clause-read g t c =
    let f = c.args.list.now in
    let k = c.in-Cases.arms.items in
    let l = c.in-Cases.other.items in
    let is = is_cases f c.in-Cases.tag c.in-Cases.of c.in-Cases.arms c.in-Cases.other k l refl refl c.in-Cases.is in
    (list_form_read f (case_fields c.in-Cases.tag c.in-Cases.of (arms_of k) (fields_of l)) is c.args.site.now.texts.now.names c.requires.read).1

pub field_list_in-variants_in-requires : goal.field_list_in-variants_in-requires
field_list_in-variants_in-requires g t c κs within =
    let f = c.args.list.now in
    let k = c.deref-in-Cases.result.now in
    let l = c.deref-in-Cases-2.result.now in
    let is = is_cases f c.in-Cases.tag c.in-Cases.of c.in-Cases.arms c.in-Cases.other k l c.deref-in-Cases.ensures.value c.deref-in-Cases-2.ensures.value c.in-Cases.is in
    let p = first_made c.in-Ok-begin_variants.is c.in-Known-asked.is c.begin_variants.ensures in
    let read = list_form_read f (case_fields c.in-Cases.tag c.in-Cases.of (arms_of k) (fields_of l)) is c.args.site.now.texts.now.names c.requires.read in (
      (let small = cases_small f c.in-Cases.tag c.in-Cases.of c.in-Cases.arms c.in-Cases.other k l c.deref-in-Cases.ensures.value c.deref-in-Cases-2.ensures.value c.in-Cases.is in omega (arith, small, c.decreases)),
      (
        within,
        (
          making_on (tag_no_types c.in-Cases.tag) (cases_making f c.in-Cases.tag c.in-Cases.of (arms_of k) (fields_of l) is c.requires.making) p,
          (
            subst (λ (n : ℕ). IsOwner c.args.site.now c.begin_variants.new.made (behind_tag_shapes (arms_of k) (fields_of l)) n) (sym p.there.of_record) (owner_on (behind_tag_shapes (arms_of k) (fields_of l)) (cases_owner f c.in-Cases.tag c.in-Cases.of (arms_of k) (fields_of l) is c.requires.owner) p),
            (subst (λ (h : Frame). AreVariants h (next_ordinal c.begin_variants.new.made) c.in-Known-asked.value) (sym p.works.keeps.frame) p.there.variants, (read.2, read.3)),
          ),
        ),
      ),
    )

pub field_list_in-returns-in-Known-asked : goal.field_list_in-returns-in-Known-asked
field_list_in-returns-in-Known-asked g t c =
    let f = c.args.list.now in
    let k = c.deref-in-Cases.result.now in
    let l = c.deref-in-Cases-2.result.now in
    let is = is_cases f c.in-Cases.tag c.in-Cases.of c.in-Cases.arms c.in-Cases.other k l c.deref-in-Cases.ensures.value c.deref-in-Cases-2.ensures.value c.in-Cases.is in
    list_form_made f (case_fields c.in-Cases.tag c.in-Cases.of (arms_of k) (fields_of l)) is c.args.own c.args.offset
    (cases_made c.args.own c.args.offset c.in-Cases.tag c.in-Cases.of (arms_of k) (fields_of l) c.variants_in.result (cases_making f c.in-Cases.tag c.in-Cases.of (arms_of k) (fields_of l) is c.requires.making)
    (first_made c.in-Ok-begin_variants.is c.in-Known-asked.is c.begin_variants.ensures) c.variants_in.ensures)

pub variants_in-arms_in-requires : goal.variants_in-arms_in-requires
variants_in-arms_in-requires g t c κs within =
    let arms = arms_of c.args.arms.now in
    let other = fields_of c.args.other.now in (
      omega (arith, c.decreases),
      (within, (making_front (arms_shapes arms) (fields_shapes other) c.requires.making, (owner_front (arms_shapes arms) (fields_shapes other) c.requires.owner, (c.requires.variants, c.requires.arms)))),
    )

pub variants_in-fields_in-requires : goal.variants_in-fields_in-requires
variants_in-fields_in-requires g t c κs within =
    let arms = arms_of c.args.arms.now in
    let other = fields_of c.args.other.now in
    let p = first_made c.in-Ok.is c.in-Known.is c.arms_in.ensures in (
      omega (arith, c.decreases),
      (within, (making_on (arms_no_types arms) c.requires.making p, (owner_on (fields_shapes other) c.requires.owner p, (c.requires.variants.offset, c.requires.other)))),
    )

pub variants_in-returns-in-DontKnowYet-asked : goal.variants_in-returns-in-DontKnowYet-asked
variants_in-returns-in-DontKnowYet-asked g t c =
    arms_then c.args.variants (arms_of c.args.arms.now) (fields_of c.args.other.now) (Ok (DontKnowYet c.in-DontKnowYet-asked.head)) c.requires.making (first_made c.in-Ok.is c.in-Known.is c.arms_in.ensures)
    (waiting (rw c.in-DontKnowYet-asked.is at c.in-Ok-fields_in.ensures))

pub variants_in-returns-in-Err-fields_in : goal.variants_in-returns-in-Err-fields_in
variants_in-returns-in-Err-fields_in g t c =
    arms_then c.args.variants (arms_of c.args.arms.now) (fields_of c.args.other.now) (Err c.in-Err-fields_in.memory) c.requires.making (first_made c.in-Ok.is c.in-Known.is c.arms_in.ensures)
    (failed c.in-Err-fields_in.ensures c.in-Err-fields_in.memory)

pub variants_in-returns : goal.variants_in-returns
variants_in-returns g t c =
    greater_last c.max.result c.args.variants (arms_of c.args.arms.now) (fields_of c.args.other.now) c.max.ensures c.requires.making (first_made c.in-Ok.is c.in-Known.is c.arms_in.ensures)
    (first_made c.in-Ok-fields_in.is c.in-Known-asked.is c.fields_in.ensures)

pub arms_in-labels_in-requires-clause-making : goal.arms_in-labels_in-requires-clause-making
arms_in-labels_in-requires-clause-making g t c = labels_making c.loop-arm.arm-index c.arm-item.result c.loop-arm-test.true c.arm-item.is c.loop-arm.invariant

pub arms_in-labels_in-requires-clause-read : goal.arms_in-labels_in-requires-clause-read
arms_in-labels_in-requires-clause-read g t c = rw c.deref.ensures.value ((arm_read c.args.site.now.texts.now.names c.args.arms.now c.loop-arm.arm-index c.arm-item.result c.loop-arm-test.true c.arm-item.is c.requires.read).0)

pub arms_in-returns-in-DontKnowYet : goal.arms_in-returns-in-DontKnowYet
arms_in-returns-in-DontKnowYet g t c =
    labels_wait c.loop-arm.arm-index c.arm-item.result c.loop-arm-test.true c.arm-item.is c.loop-arm.invariant
    (rw c.deref.ensures.value at (rw c.in-DontKnowYet.is at c.in-Ok.ensures))

pub arms_in-returns-in-Err : goal.arms_in-returns-in-Err
arms_in-returns-in-Err g t c =
    labels_failed c.loop-arm.arm-index c.arm-item.result c.loop-arm-test.true c.arm-item.is c.loop-arm.invariant _ (rw c.deref.ensures.value at c.in-Err.ensures)

pub arms_in-fields_in-requires : goal.arms_in-fields_in-requires
arms_in-fields_in-requires g t c κs within =
    let k = c.loop-arm.arm-index in
    let x = c.arm-item.result in
    let known = labels_known k x c.loop-arm-test.true c.arm-item.is c.loop-arm.invariant (rw c.deref.ensures.value at (rw c.in-Known.is at c.in-Ok.ensures)) in (
      (let small = arm_small c.args.arms.now k x c.deref-in-loop-arm.result.now c.deref-in-loop-arm.ensures.value c.loop-arm-test.true c.arm-item.is in omega (arith, small, c.decreases)),
      (
        within,
        (
          (rw c.deref-in-loop-arm.ensures.value (inner_making k x c.loop-arm-test.true c.arm-item.is c.loop-arm.invariant known)),
          (
            (rw c.deref-in-loop-arm.ensures.value (inner_owner k x c.loop-arm-test.true c.arm-item.is c.loop-arm.invariant known)),
            (c.requires.variants.offset, (rw c.deref-in-loop-arm.ensures.value ((arm_read c.args.site.now.texts.now.names c.args.arms.now k x c.loop-arm-test.true c.arm-item.is c.requires.read).1))),
          ),
        ),
      ),
    )

pub arms_in-returns-in-DontKnowYet-asked : goal.arms_in-returns-in-DontKnowYet-asked
arms_in-returns-in-DontKnowYet-asked g t c =
    let k = c.loop-arm.arm-index in
    let x = c.arm-item.result in
    let known = labels_known k x c.loop-arm-test.true c.arm-item.is c.loop-arm.invariant (rw c.deref.ensures.value at (rw c.in-Known.is at c.in-Ok.ensures)) in
    inner_waits k x c.loop-arm-test.true c.arm-item.is c.loop-arm.invariant known (rw c.deref-in-loop-arm.ensures.value at (rw c.in-DontKnowYet-asked.is at c.in-Ok-fields_in.ensures))

pub arms_in-returns-in-Err-fields_in : goal.arms_in-returns-in-Err-fields_in
arms_in-returns-in-Err-fields_in g t c =
    let k = c.loop-arm.arm-index in
    let x = c.arm-item.result in
    let known = labels_known k x c.loop-arm-test.true c.arm-item.is c.loop-arm.invariant (rw c.deref.ensures.value at (rw c.in-Known.is at c.in-Ok.ensures)) in
    inner_failed k x c.loop-arm-test.true c.arm-item.is c.loop-arm.invariant known _ (rw c.deref-in-loop-arm.ensures.value at c.in-Err-fields_in.ensures)

pub arms_in-loop-arm-preserved : goal.arms_in-loop-arm-preserved
arms_in-loop-arm-preserved g t c =
    let k = c.loop-arm.arm-index in
    let x = c.arm-item.result in
    let known = labels_known k x c.loop-arm-test.true c.arm-item.is c.loop-arm.invariant (rw c.deref.ensures.value at (rw c.in-Known.is at c.in-Ok.ensures)) in
    one_arm k x c.loop-arm-test.true c.arm-item.is c.loop-arm.invariant known c.max-end.result c.max-end.ensures (rw c.deref-in-loop-arm.ensures.value at (rw c.in-Known-asked.is at c.in-Ok-fields_in.ensures))

pub arms_in-returns : goal.arms_in-returns
arms_in-returns g t c = all_arms c.loop-arm.arm-index (let h = c.loop-arm-test.false in let e = c.loop-arm.auto.arm-index-end in omega arith) c.loop-arm.invariant
