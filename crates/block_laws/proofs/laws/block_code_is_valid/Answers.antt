use Rattle.block_laws.specs.Sight.{IsInSight}
use Rattle.block_laws.proofs.Named.{block-code-valid}
use Rattle.block_laws.proofs.laws.block_code_is_valid.Goals as goal

pub returns : goal.returns
returns c = record { blocks = λ names source before all b w k. block-code-valid (λ s. IsInSight b.block s) names source before all b w k }
