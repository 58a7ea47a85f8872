use Rattle.const_eval.proofs.sets.element_within.Goals as goal

pub is_within-requires : goal.is_within-requires
is_within-requires c = tt
