use Rattle.std.proofs.Common.{◌≡◌, ◌++◌, take}
use Rattle.std.specs.Prelude.{flat_map}
use Rattle.m2_base.specs.Statics.Shapes.{type_shapes, field_shapes, arm_shapes}
use Rattle.m2_base.specs.Views.{type_view, field_list_view, variant_arm_view}
use Rattle.decl_sem.proofs.shapes.+types.Given as goal

abbrev pub invariant-put_types-loop-typ : goal.invariant-put_types-loop-typ
invariant-put_types-loop-typ l = l.shapes ≡ l.fn.shapes ++ flat_map (λ t. type_shapes (type_view t)) (take l.typ-index l.types)

abbrev pub invariant-put_fields-loop-list : goal.invariant-put_fields-loop-list
invariant-put_fields-loop-list l = l.shapes ≡ l.fn.shapes ++ flat_map (λ f. field_shapes (field_list_view f)) (take l.list-index l.fields)

abbrev pub invariant-put_arms-loop-arm : goal.invariant-put_arms-loop-arm
invariant-put_arms-loop-arm l = l.shapes ≡ l.fn.shapes ++ flat_map (λ a. arm_shapes (variant_arm_view a)) (take l.arm-index l.arms)
