use Rattle.std.proofs.Common.{◌≡◌, map, take}
use Rattle.m2_base.specs.Names.{with_names}
use Rattle.m2_base.proofs.names.Names.intern_all.Given as goal

-- the texts before this one have numbers
abbrev pub invariant-loop-text : goal.invariant-loop-text
invariant-loop-text l = l.self ≡ with_names l.fn.self (map (λ text. text.now) (take l.text-index l.texts))
