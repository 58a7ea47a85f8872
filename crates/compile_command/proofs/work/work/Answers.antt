use Rattle.compile_command.proofs.work.work.Goals as goal

pub outputs_by-requires-clause-unit : goal.outputs_by-requires-clause-unit
outputs_by-requires-clause-unit g c κs within =
    record {
      limits = c.requires.limits;
      front = c.requires.whole.0;
      fronts = c.requires.whole.1.fronts;
      whole = c.requires.whole.1.whole;
    }
