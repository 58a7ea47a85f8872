use Rattle.std.proofs.lemmas.Result.{IfOk-from_err}
use Rattle.std.specs.Prelude.{flat_map}
use Rattle.m2_base.specs.Statics.Shapes.{arm_shapes, field_shapes, type_shapes}
use Rattle.m2_base.specs.Views.{field_list_view, type_view, variant_arm_view}
use Rattle.m2_base.specs.declared.trees.types.FieldList.{FieldList}
use Rattle.m2_base.specs.declared.trees.types.TypeExpr.{TypeExpr}
use Rattle.m2_base.specs.declared.trees.types.VariantArm.{VariantArm}
use Rattle.std.proofs.Common.{◌∙◌, ◌++◌, ap, sym}
use Rattle.decl_sem.proofs.TypeShapes.{of_arm}
use Rattle.decl_sem.proofs.EachShape.{all_made, one_more}
use Rattle.decl_sem.proofs.shapes.+types.Goals as goal

pub put_types-loop-typ-preserved : goal.put_types-loop-typ-preserved
put_types-loop-typ-preserved t c =
    one_more c.args.types.now c.loop-typ.typ-index c.args.shapes.now c.loop-typ.shapes c.put_type.new.shapes (λ (t : TypeExpr). type_shapes (type_view t)) c.typ-item.result
    c.loop-typ-test.true c.typ-item.is c.loop-typ.invariant c.in_ok-put_type.ensures

pub put_types-returns : goal.put_types-returns
put_types-returns t c = all_made c.args.types.now c.loop-typ.typ-index c.args.shapes.now c.loop-typ.shapes (flat_map (λ (t : TypeExpr). type_shapes (type_view t))) c.loop-typ-test.false c.loop-typ.invariant

pub put_types-returns-in_err-put_type : goal.put_types-returns-in_err-put_type
put_types-returns-in_err-put_type t c = IfOk-from_err c.from_residual.result _ c.from_residual.ensures.0

pub put_fields-loop-list-preserved : goal.put_fields-loop-list-preserved
put_fields-loop-list-preserved t c =
    one_more c.args.fields.now c.loop-list.list-index c.args.shapes.now c.loop-list.shapes c.put_field_list.new.shapes (λ (f : FieldList). field_shapes (field_list_view f)) c.list-item.result
    c.loop-list-test.true c.list-item.is c.loop-list.invariant c.in_ok-put_field_list.ensures

pub put_fields-returns : goal.put_fields-returns
put_fields-returns t c = all_made c.args.fields.now c.loop-list.list-index c.args.shapes.now c.loop-list.shapes (flat_map (λ (f : FieldList). field_shapes (field_list_view f))) c.loop-list-test.false c.loop-list.invariant

pub put_fields-returns-in_err-put_field_list : goal.put_fields-returns-in_err-put_field_list
put_fields-returns-in_err-put_field_list t c = IfOk-from_err c.from_residual.result _ c.from_residual.ensures.0

pub put_arms-loop-arm-preserved : goal.put_arms-loop-arm-preserved
put_arms-loop-arm-preserved t c =
    one_more c.args.arms.now c.loop-arm.arm-index c.args.shapes.now c.loop-arm.shapes c.put_fields.new.shapes (λ (a : VariantArm). arm_shapes (variant_arm_view a)) c.arm-item.result
    c.loop-arm-test.true c.arm-item.is c.loop-arm.invariant (c.in_ok-put_fields.ensures ∙ ap (λ shapes. c.loop-arm.shapes ++ shapes) (ap (flat_map (λ (f : FieldList). field_shapes (field_list_view f))) c.deref.ensures.value ∙ sym (of_arm c.arm-item.result)))

pub put_arms-returns : goal.put_arms-returns
put_arms-returns t c = all_made c.args.arms.now c.loop-arm.arm-index c.args.shapes.now c.loop-arm.shapes (flat_map (λ (a : VariantArm). arm_shapes (variant_arm_view a))) c.loop-arm-test.false c.loop-arm.invariant

pub put_arms-returns-in_err-put_fields : goal.put_arms-returns-in_err-put_fields
put_arms-returns-in_err-put_fields t c = IfOk-from_err c.from_residual.result _ c.from_residual.ensures.0

pub put_field_list-returns-in_err-put_type-in-Plain : goal.put_field_list-returns-in_err-put_type-in-Plain
put_field_list-returns-in_err-put_type-in-Plain t c = IfOk-from_err c.from_residual.result _ c.from_residual.ensures.0

pub put_field_list-returns-in_err-put_tag-in-Cases : goal.put_field_list-returns-in_err-put_tag-in-Cases
put_field_list-returns-in_err-put_tag-in-Cases t c = IfOk-from_err c.from_residual-in_err-put_tag-in-Cases.result _ c.from_residual-in_err-put_tag-in-Cases.ensures.0

pub put_field_list-returns-in_err-put_arms-in-Cases : goal.put_field_list-returns-in_err-put_arms-in-Cases
put_field_list-returns-in_err-put_arms-in-Cases t c = IfOk-from_err c.from_residual-in_err-put_arms-in-Cases.result _ c.from_residual-in_err-put_arms-in-Cases.ensures.0

pub put_type-returns-in_err-put_nameless-in-Enum : goal.put_type-returns-in_err-put_nameless-in-Enum
put_type-returns-in_err-put_nameless-in-Enum t c = IfOk-from_err c.from_residual.result _ c.from_residual.ensures.0

pub put_type-returns-in_err-put_types-in-Array : goal.put_type-returns-in_err-put_types-in-Array
put_type-returns-in_err-put_types-in-Array t c = IfOk-from_err c.from_residual-in_err-put_types-in-Array.result _ c.from_residual-in_err-put_types-in-Array.ensures.0

pub put_type-returns-in_err-put_type-in-Array : goal.put_type-returns-in_err-put_type-in-Array
put_type-returns-in_err-put_type-in-Array t c = IfOk-from_err c.from_residual-in_err-put_type-in-Array.result _ c.from_residual-in_err-put_type-in-Array.ensures.0

pub put_type-returns-in_err-put_fields-in-Rec : goal.put_type-returns-in_err-put_fields-in-Rec
put_type-returns-in_err-put_fields-in-Rec t c = IfOk-from_err c.from_residual-in_err-put_fields-in-Rec.result _ c.from_residual-in_err-put_fields-in-Rec.ensures.0

pub put_type-returns-in_err-put_type-in-Set : goal.put_type-returns-in_err-put_type-in-Set
put_type-returns-in_err-put_type-in-Set t c = IfOk-from_err c.from_residual-in_err-put_type-in-Set.result _ c.from_residual-in_err-put_type-in-Set.ensures.0

pub put_type-returns-in_err-put_type-in-Pointer : goal.put_type-returns-in_err-put_type-in-Pointer
put_type-returns-in_err-put_type-in-Pointer t c = IfOk-from_err c.from_residual-in_err-put_type-in-Pointer.result _ c.from_residual-in_err-put_type-in-Pointer.ensures.0

pub put_type-returns-in_err-put_formals-in-Proc : goal.put_type-returns-in_err-put_formals-in-Proc
put_type-returns-in_err-put_formals-in-Proc t c = IfOk-from_err c.from_residual-in_err-put_formals-in-Proc.result _ c.from_residual-in_err-put_formals-in-Proc.ensures.0
