use Rattle.const_eval.proofs.functions.absolute.Goals as goal

pub eq-requires : goal.eq-requires
eq-requires c = tt
