-- A block's code is valid where its instructions are ones and name what is there.
use Rattle.std.specs.Prelude.{◌≡◌, refl, ℕ, ◌+◌, ◌*◌, ◌^◌, ◌<◌, ◌≤◌, ◌==◌, Bool, true, false, List, [], ◌∷◌, ◌++◌, length, if◌then◌else◌, Option, Some, None}
use Rattle.std.proofs.Common.{arith, sym, ap, subst, ◌∙◌, append_assoc}
use Rattle.code_form.specs.Heights.{Callees, Step, after_step, step_among}
use Rattle.code_form.specs.Modules.{Procedure, World}
use Rattle.code_form.specs.Valid.{IsValidCode, callees_of, is_end, jump_of}
use Rattle.code_form.specs.declared.instr.Instr.TheVariants.{Call, CallX, Return, Trap}
use Rattle.code_form.specs.declared.instr.Instr.{Instr}
use Rattle.m2_base.specs.declared.rows.Row.{Row}
use Rattle.m2_base.specs.Statics.BlockRows.{declare_block}
use Rattle.m2_base.specs.Statics.Blocks.{BlockTree}
use Rattle.m2_base.specs.Statics.Contexts.{Context, Source}
use Rattle.m2_base.specs.Statics.Effects.{BlockEffects}
use Rattle.m2_base.specs.Statics.ProcedureRows.{result_cells}
use Rattle.m2_base.specs.Statics.UnitNotes.{complete_context}
use Rattle.m2_base.specs.Trees.{Heading}
use Rattle.block_code.proofs.ValueHeights.{both_ways}
use Rattle.block_code.specs.Heights.{needs_callee}
use Rattle.block_code.specs.Parts.{Spot, plain, plain_step, steps_size, no_callees}
use Rattle.block_code.specs.BlockCode.{block_code, body_of, ending, first_spot, prologue, run_of, stand_of}
use Rattle.block_code.specs.Flows.{Flow, straight, ◌⨾◌}
use Rattle.block_code.specs.FlowHeights.{KeepsHeight, Stands}
use Rattle.block_code.specs.Places.{CallsAgree, NameThere, OthersInRange, block_steps, instrs_of}
use Rattle.block_code.specs.StatementTokens.{block_tokens}
use Rattle.block_code.proofs.JumpRanges.{in_range}
use Rattle.block_code.proofs.StatementLengthLaw.{steps-short}
use Rattle.block_code.specs.Returns.{return_code}
use Rattle.block_code.proofs.BlockLengths.{length-code}
use Rattle.block_code.proofs.Flowing.{straight-flows, then-flows}
use Rattle.block_code.proofs.StatementLaw.{all-flows, prologue-moves}
use Rattle.block_code.proofs.Points.{Agree, Ends, ReturnAll, Sits, no_fault, sits-append}
use Rattle.block_code.proofs.ReturnHeights.{Exact, all-exact, prologue-stays, straight-exact, then-exact}
use Rattle.block_code.proofs.Still.{Still, all-still}

-- ---- the last step

return_step : Step
return_step = record { instr = Return; takes = 0; leaves = 0 }

-- what a block ends with
abbrev last_step : Option Heading → Step
last_step None = record { instr = Return; takes = 0; leaves = 0 }
last_step (Some h) = if result_cells h.result == 0 then record { instr = Return; takes = 0; leaves = 0 } else plain_step (Trap 7)

last-is : (h : Option Heading) (at : Spot) → (ending h at).code ≡ last_step h ∷ []
last-is None at = refl
last-is (Some h) at = go (result_cells h.result == 0)
  where
    go : (b : Bool) → ((if b then return_code else plain (Trap 7 ∷ [])) at).code ≡ (if b then record { instr = Return; takes = 0; leaves = 0 } else plain_step (Trap 7)) ∷ []
    go true = refl
    go false = refl

-- it takes nothing, doesn't jump, and ends
record IsLast (s : Step) : Type 0 where
  takes : s.takes ≤ 0
  stays : jump_of s.instr ≡ None
  ends : is_end s.instr ≡ true

last-ends : (h : Option Heading) → IsLast (last_step h)
last-ends None = record { takes = omega arith; stays = refl; ends = refl }
last-ends (Some h) =
    both_ways IsLast (result_cells h.result == 0) (record { instr = Return; takes = 0; leaves = 0 }) (plain_step (Trap 7))
    (record { takes = omega arith; stays = refl; ends = refl }) (record { takes = omega arith; stays = refl; ends = refl })

-- ---- the whole

ends-append : (a : List Step) (x : Step) → is_end x.instr ≡ true → Ends (a ++ (x ∷ []))
ends-append [] x e = e
ends-append (s ∷ []) x e = e
ends-append (s ∷ (t ∷ ss)) x e = ends-append (t ∷ ss) x e

some-append : (a : List Step) (x : Step) → length (instrs_of (a ++ (x ∷ []))) ≡ 0 → ⊥
some-append [] x e = omega (arith, e)
some-append (s ∷ ss) x e = omega (arith, e)

-- steps that sit where they may, and end
record Whole (ss : List Step) : Type 0 where
  sits : Sits [] 0 ss
  ends : Ends ss
  some : length (instrs_of ss) ≡ 0 → ⊥

whole : (b : BlockTree) (e : BlockEffects) (body : Flow) → KeepsHeight body → Still body → Whole ((run_of b e body).code 0)
whole b e body g s =
    let at : Spot = first_spot b.tree.kind e in
    let pro : Flow = straight (prologue e.prologue) in
    let p : List Step = (prologue e.prologue at).code in
    let s1 : Spot = (prologue e.prologue at).next in
    let d : List Step = (ending b.tree.heading (body s1).next).code in
    let x : Step = last_step b.tree.heading in
    let n : ℕ = 0 + steps_size d in
    let c : List Step = (body s1).code n in
    let l : IsLast x = last-ends b.tree.heading in
    let P : ℕ → List Step → Type 0 = λ o q. Stands [] o 0 (p ++ q) 0 in
    let before : KeepsHeight (pro ⨾ body) = then-flows pro body (straight-flows (prologue e.prologue) (prologue-moves e.prologue)) g in
    let zero : Stands [] 0 0 (p ++ c) 0 = subst (P 0) (s s1 0 n) (before at [] 0) in
    let one : Stands [] 1 0 (p ++ c) 0 = subst (P 1) (s s1 1 n) (before at [] 1) in
    let made : Whole ((p ++ c) ++ (x ∷ [])) = record {
      sits = sits-append [] 0 0 (p ++ c) x zero one l.takes l.stays;
      ends = ends-append (p ++ c) x l.ends;
      some = some-append (p ++ c) x;
    } in
    subst Whole (append_assoc p c (x ∷ []) ∙ ap (λ (q : List Step). p ++ (c ++ q)) (sym (last-is b.tree.heading (body s1).next))) made

ending-exact : (h : Option Heading) → Exact (straight (ending h))
ending-exact None = λ at o. ((refl, λ n. absurd cc), tt)
ending-exact (Some h) =
    both_ways (λ p. Exact (straight p)) (result_cells h.result == 0) return_code (plain (Trap 7 ∷ [])) (λ at o. ((refl, λ n. absurd cc), tt)) (λ at o. ((refl, λ n. refl), tt))

returns : (b : BlockTree) (e : BlockEffects) (body : Flow) → KeepsHeight body → Exact body → ReturnAll 0 ((run_of b e body).code 0)
returns b e body k g =
    let last : Flow = straight (ending b.tree.heading) in
    then-exact (straight (prologue e.prologue)) (body ⨾ last) (straight-flows (prologue e.prologue) (prologue-moves e.prologue))
    (straight-exact (prologue e.prologue) (prologue-stays e.prologue)) (then-exact body last k g (ending-exact b.tree.heading))
    (first_spot b.tree.kind e) 0

short_enough : (x n : ℕ) → x ≤ 64 * n → n ≤ 1048576 → x < 2 ^ 31
short_enough x n e f = omega (arith, e, f)

-- what asks no callee takes and leaves the same among all
among-same : (c : Callees) (i : Instr) → needs_callee i ≡ false → step_among c i ≡ step_among no_callees i
among-same c (Call p h) e = absurd cc
among-same c (CallX m k) e = absurd cc
among-same c Return e = absurd cc
among-same c i e = refl

agree : (c : Callees) (h : ℕ) (ss : List Step) → ReturnAll h ss → CallsAgree c ss → Agree c ss
agree c h [] r f = tt
agree c h (s ∷ ss) r f = (go (needs_callee s.instr) refl, agree c (after_step h s) ss r.1 f.1)
  where
    go : (b : Bool) → needs_callee s.instr ≡ b → step_among c s.instr ≡ s
    go true e = f.0 e
    go false e = among-same c s.instr e ∙ r.0.1 e

-- the code of a block is valid
pub block-valid : (source : Source) (before all : List (List Row)) (b : BlockTree) (w : World) (k : ℕ) (p : Procedure)
    → p.code ≡ (block_code source before all b).code → p.high ≡ (block_code source before all b).high
    → block_tokens b.tree ≤ 1048576
    → OthersInRange (block_steps source before all b)
    → CallsAgree (callees_of w p) (block_steps source before all b)
    → NameThere w k p (block_steps source before all b)
    → IsValidCode w k p
block-valid source before all b w k p e h n i a t =
    let c : Context = complete_context source all b.block in
    let ss : List Step = block_steps source before all b in
    let r : ReturnAll 0 ss = returns b (declare_block source before b).value (body_of c b).value (all-flows (stand_of c b) b.tree.body) (all-exact (stand_of c b) b.tree.body) in
    let g : Whole ss = whole b (declare_block source before b).value (body_of c b).value (all-flows (stand_of c b) b.tree.body) (all-still (stand_of c b) b.tree.body refl) in
    record {
      is = instrs_of ss;
      instrs = record { in_range = in_range ss g.sits (short_enough (steps_size ss) (block_tokens b.tree) (steps-short source before all b) n) i; spelled = e };
      no_fault = no_fault w k p ss g.some g.sits (agree (callees_of w p) 0 ss r a) r t g.ends (sym (length-code ss) ∙ ap length (sym e)) (sym h);
    }
