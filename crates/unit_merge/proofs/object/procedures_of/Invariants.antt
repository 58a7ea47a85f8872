use Rattle.std.proofs.Common.{◌≡◌, ◌<◌, ◌^◌, map}
use Rattle.m2_base.specs.Lists.{Each}
use Rattle.object_file.specs.Views.{procedure_of}
use Rattle.unit_merge.proofs.object.procedures_of.Given as goal

abbrev pub invariant-loop-output : goal.invariant-loop-output
invariant-loop-output l = record {
  codes : map procedure_of l.procedures.items ≡ map (λ o. procedure_of o.code) l.yielded;
  heights : Each (λ o. o.code.high < 2 ^ 32) l.yielded;
}
