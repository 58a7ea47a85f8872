use Rattle.std.proofs.Common.{◌≡◌, ◌++◌, ◌∷◌, [], ℕ, Err, List, Ok, Result, arith, false, length, subst, sym, true}
use Rattle.std.specs.Prelude.{IsErr}
use Rattle.m2_base.specs.declared.memory.Memory.{Memory}
use Rattle.expr_sem.specs.Fragments.{Grows, IsMade, part_by, parts_after}
use Rattle.block_code.specs.Parts.{Part}
use Rattle.expr_sem.specs.declared.fragments.Fragment.{Fragment}
use Rattle.expr_sem.specs.declared.fragments.Fragment.TheVariants.{Node as NodeOf}
use Rattle.expr_sem.specs.declared.fragments.Node.{Node}
use Rattle.expr_sem.proofs.Pushing.{made_pushed}
use Rattle.expr_sem.proofs.Sequencing.{Grows-refl}
use Rattle.expr_sem.proofs.fragments.Fragments.push.Goals as goal

-- memory was wanted, and the nodes are as before
none_made : (ns ms : List Node) (r : Result Fragment Memory) (p : Part) → IsErr r → ms ≡ ns → IsMade ns ms r p
none_made ns ms (Ok f) p is same = absurd (let h : false ≡ true = is in cc)
none_made ns ms (Err m) p is same = record { grows = subst (λ (l : List Node). Grows ns l) (sym same) (Grows-refl ns); made = tt }

pub returns-in_err-push : goal.returns-in_err-push
returns-in_err-push c = record { made = none_made _ _ c.from_residual.result _ c.from_residual.ensures.0 c.in_err-push.ensures.items }

pub returns : goal.returns
returns c =
    let ns = c.args.self.now.nodes.items in
    let n : Node = record { form = c.args.form; size = c.args.size } in
    let p = part_by (parts_after [] ns) c.args.form in
    let e = c.in-Ok.ensures in
    let l = c.len.ensures in
    let number : length ns ≡ c.in-Ok.number = omega (arith, e, l) in
    record {
      made = subst (λ (ms : List Node). IsMade ns ms (Ok (NodeOf c.in-Ok.number)) p) (sym c.in_ok-push.ensures.items)
          (subst (λ (k : ℕ). IsMade ns (ns ++ n ∷ []) (Ok (NodeOf k)) p) number (made_pushed ns n c.requires.earlier c.requires.size));
    }
