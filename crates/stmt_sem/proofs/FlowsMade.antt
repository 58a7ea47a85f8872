-- Flows made of others, as one that is made.
use Rattle.std.proofs.Math.Path.{fun_ext}
use Rattle.std.proofs.Common.{◌≡◌, ◌∙◌, ◌++◌, [], ◌∷◌, ℕ, ◌+◌, List, Result, Ok, Err, ap, refl, append-nil, arith}
use Rattle.code_form.specs.Heights.{Step}
use Rattle.m2_base.specs.declared.memory.Memory.{Memory}
use Rattle.expr_sem.specs.declared.fragments.Node.{Node}
use Rattle.stmt_sem.specs.FlowTrees.{CellFlow, MadeBy, block_among, flow_in}
use Rattle.block_code.specs.Flows as flow
use Rattle.block_code.specs.Flows.{nothing, ◌⨾◌}
use Rattle.stmt_sem.specs.declared.flows.Flow.{Flow}

-- nothing behind a flow
pub then_nothing : (f : flow.Flow) → (f ⨾ nothing) ≡ f
then_nothing f =
    fun_ext (λ at.
    let p = f at in
    let code : (λ (out : ℕ). p.code (out + 0) ++ []) ≡ p.code = fun_ext (λ out. append-nil (p.code (out + 0)) ∙ ap p.code (none_more out)) in
    ap (λ (k : ℕ → List Step). record { code = k; bytes = p.bytes ++ []; next = p.next }) code
    ∙ ap (λ (bytes : List ℕ). record { code = p.code; bytes = bytes; next = p.next }) (append-nil p.bytes))
  where
    none_more : (n : ℕ) → n + 0 ≡ n
    none_more n = omega arith

-- nothing before a flow
pub nothing_then : (f : flow.Flow) → (nothing ⨾ f) ≡ f
nothing_then f = refl

-- what stands for one code stands for the same one
pub made_as : (ns : List Node) (r : Result Flow Memory) {F G : CellFlow} → MadeBy ns r F → ((t : ℕ) → F t ≡ G t) → MadeBy ns r G
made_as ns (Ok x) h e = record { there = h.there; flow_is = λ t. h.flow_is t ∙ e t }
made_as ns (Err m) h e = tt

-- two flows, one after the other
pub then_both : {a b c d : flow.Flow} → a ≡ c → b ≡ d → (a ⨾ b) ≡ (c ⨾ d)
then_both {a} {b} {c} {d} e f = ap (λ (k : flow.Flow). k ⨾ b) e ∙ ap (λ (k : flow.Flow). c ⨾ k) f

-- a block of two
pub two_flows : (ns : List Node) (x y : Flow) (xs : List Flow) (t : ℕ) → xs ≡ x ∷ y ∷ [] → block_among ns xs t ≡ (flow_in ns x t ⨾ flow_in ns y t)
two_flows ns x y xs t e = ap (λ (l : List Flow). block_among ns l t) e ∙ ap (λ (k : flow.Flow). flow_in ns x t ⨾ k) (then_nothing (flow_in ns y t))
