use Rattle.std.proofs.Common.{◌≡◌, ◌++◌, ◌-◌, ◌≤◌, string_bytes}
use Rattle.std.specs.List.{flat_map}
use Rattle.module_gen.specs.BigModule.{numbers, procedure_text}
use Rattle.module_gen.proofs.big_module.push_procedures.Given as goal

abbrev pub invariant-loop-number : goal.invariant-loop-number
invariant-loop-number l =
    (1 ≤ l.number) × (string_bytes l.text ≡ string_bytes l.initial.text ++ flat_map procedure_text (numbers (l.number - 1)))
