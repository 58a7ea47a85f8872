use Rattle.const_eval.proofs.operators.compares.Goals as goal

pub is_pointer_row-pointers-requires : goal.is_pointer_row-pointers-requires
is_pointer_row-pointers-requires c = tt

pub is_pointer_row-requires : goal.is_pointer_row-requires
is_pointer_row-requires c = tt

pub is_relation-requires : goal.is_relation-requires
is_relation-requires c = tt

pub range_by-requires : goal.range_by-requires
range_by-requires c = tt

pub range_by-requires-then-is_some : goal.range_by-requires-then-is_some
range_by-requires-then-is_some c = tt
