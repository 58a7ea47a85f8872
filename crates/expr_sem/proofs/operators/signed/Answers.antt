use Rattle.std.proofs.Common.{◌≡◌, ap, refl}
use Rattle.m2_base.specs.declared.trees.operators.Operator.{Operator}
use Rattle.m2_base.specs.declared.trees.operators.Operator.TheVariants.{Minus, Not}
use Rattle.expr_sem.specs.Fragments.{part}
use Rattle.block_code.specs.Operators.{one_instr}
use Rattle.block_code.specs.Parts.{Part, none, plain, ◌⨟◌}
use Rattle.expr_sem.proofs.Sequencing.{Grows-refl, made_after}
use Rattle.expr_sem.proofs.operators.signed.Goals as goal

no_sign : (op : Operator) → (op ≡ Not → ⊥) → (op ≡ Minus → ⊥) → none ≡ plain (one_instr op)
no_sign Not n m = absurd (n refl)
no_sign Minus n m = absurd (m refl)
no_sign op n m = refl

pub returns-in_default : goal.returns-in_default
returns-in_default c =
    let ns = c.args.fragments.now.nodes.items in
    made_after c.then.result (Grows-refl ns) c.then.ensures.made (ap (λ (p : Part). part ns c.args.value ⨟ p) (no_sign c.args.op c.in_default.not-Not c.in_default.not-Minus))
