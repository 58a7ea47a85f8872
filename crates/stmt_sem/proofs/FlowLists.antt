-- Statements and arms one after another, as the walk collects them.
use Rattle.std.proofs.Math.Path.{fun_ext}
use Rattle.std.proofs.Common.{◌≡◌, ◌∙◌, ◌++◌, ◌∷◌, [], ℕ, List, Option, ap, sym, subst, refl}
use Rattle.m2_base.specs.Lists.{Each}
use Rattle.m2_base.specs.States.{Frame}
use Rattle.expr_sem.specs.Fragments.{Grows}
use Rattle.block_code.specs.Parts.{Part}
use Rattle.expr_sem.specs.declared.fragments.Node.{Node}
use Rattle.std.specs.declared.vec.Vec.{Vec}
use Rattle.std.specs.declared.alloc.Global.{Global}
use Rattle.stmt_sem.specs.FlowTrees.{IsOver, arms_among, block_among, code_by, flow_in}
use Rattle.block_code.specs.Flows as flow
use Rattle.block_code.specs.Flows.{nothing, ◌⨾◌}
use Rattle.stmt_sem.specs.Stated.{IsArm, arm_in, arms_in, block_in, onto}
use Rattle.block_code.specs.Statements.{arm_before}
use Rattle.stmt_sem.specs.declared.flows.Arm.{Arm}
use Rattle.stmt_sem.specs.declared.flows.Flow.{Flow}
use Rattle.stmt_sem.proofs.FlowsLater.{arm_later, code_later, flow_later, over_later}

-- ---- statements

onto_later : {from to : List Node} → Grows from to → (xs : List Flow) → Each (IsOver from) xs → (t : ℕ) (rest : flow.Flow) → onto to xs t rest ≡ onto from xs t rest
onto_later g [] h t rest = refl
onto_later {from} {to} g (x ∷ xs) h t rest =
    ap (λ (f : flow.Flow). f ⨾ onto to xs t rest) (flow_later g x h.0 t) ∙ ap (λ (f : flow.Flow). flow_in from x t ⨾ f) (onto_later g xs h.1 t rest)

onto_more : (ns : List Node) (xs : List Flow) (x : Flow) (t : ℕ) (rest : flow.Flow) → onto ns (xs ++ x ∷ []) t rest ≡ onto ns xs t (flow_in ns x t ⨾ rest)
onto_more ns [] x t rest = refl
onto_more ns (y ∷ xs) x t rest = ap (λ (f : flow.Flow). flow_in ns y t ⨾ f) (onto_more ns xs x t rest)

-- all of them
pub block_onto : (ns : List Node) (xs : List Flow) (t : ℕ) → block_among ns xs t ≡ onto ns xs t nothing
block_onto ns [] t = refl
block_onto ns (x ∷ xs) t = ap (λ (f : flow.Flow). flow_in ns x t ⨾ f) (block_onto ns xs t)

each_more : {X : Type 0} (P : X → Type 0) (xs : List X) (x : X) → Each P xs → P x → Each P (xs ++ x ∷ [])
each_more P [] x h l = (l, tt)
each_more P (y ∷ xs) x h l = (h.0, each_more P xs x h.1 l)

each_later : {X : Type 0} (P Q : X → Type 0) (xs : List X) → ((x : X) → P x → Q x) → Each P xs → Each Q xs
each_later P Q [] f h = tt
each_later P Q (x ∷ xs) f h = (f x h.0, each_later P Q xs f h.1)

module _ {from to : List Node} (g : Grows from to) where
  -- one more statement
  pub block_more : (made more : Vec Flow Global) (x : Flow) → more.items ≡ made.items ++ x ∷ [] → Each (IsOver from) made.items → (u : flow.Flow → flow.Flow) (m : flow.Flow)
      → ((cell : ℕ) → block_in from made cell ≡ u) → ((cell : ℕ) → flow_in to x cell ≡ m) → (cell : ℕ) → block_in to more cell ≡ (λ rest. u (m ⨾ rest))
  block_more made more x e h u m eu em cell =
      fun_ext (λ rest.
      ap (λ (xs : List Flow). onto to xs cell rest) e
      ∙ onto_more to made.items x cell rest
      ∙ onto_later g made.items h cell (flow_in to x cell ⨾ rest)
      ∙ ap (λ (f : flow.Flow). block_in from made cell (f ⨾ rest)) (em cell)
      ∙ ap (λ (f : flow.Flow → flow.Flow). f (m ⨾ rest)) (eu cell))

  pub block_there : (made more : Vec Flow Global) (x : Flow) → more.items ≡ made.items ++ x ∷ [] → Each (IsOver from) made.items → IsOver to x → Each (IsOver to) more.items
  block_there made more x e h l = subst (λ (xs : List Flow). Each (IsOver to) xs) (sym e) (each_more (IsOver to) made.items x (each_later (IsOver from) (IsOver to) made.items (λ y k. over_later g y k) h) l)

  -- ---- arms

  arms_later : (f : Frame) (xs : List Arm) → Each (IsArm f from) xs → (t : ℕ) (o : Option flow.Flow) → arms_among to xs t o ≡ arms_among from xs t o
  arms_later f [] h t o = refl
  arms_later f (a ∷ xs) h t o =
      ap (λ (p : Part). arm_before p (flow_in to a.body t) (arms_among to xs t o)) (code_later g a.test h.0.0 t)
      ∙ ap (λ (b : flow.Flow). arm_before (code_by from a.test t) b (arms_among to xs t o)) (flow_later g a.body h.0.1 t)
      ∙ ap (λ (b : Option flow.Flow). arm_before (code_by from a.test t) (flow_in from a.body t) b) (arms_later f xs h.1 t o)

  arms_push : (ns : List Node) (xs : List Arm) (a : Arm) (t : ℕ) (o : Option flow.Flow) → arms_among ns (xs ++ a ∷ []) t o ≡ arms_among ns xs t (arm_before (code_by ns a.test t) (flow_in ns a.body t) o)
  arms_push ns [] a t o = refl
  arms_push ns (y ∷ xs) a t o = ap (λ (b : Option flow.Flow). arm_before (code_by ns y.test t) (flow_in ns y.body t) b) (arms_push ns xs a t o)

  pub arms_same : (f : Frame) (made more : Vec Arm Global) (a : Arm) → more.items ≡ made.items ++ a ∷ [] → Each (IsArm f from) made.items → (t : ℕ) (o : Option flow.Flow) → arms_in to more t o ≡ arms_in from made t (arm_in to a t o)
  arms_same f made more a e h t o =
      ap (λ (xs : List Arm). arms_among to xs t o) e ∙ arms_push to made.items a t o ∙ arms_later f made.items h t (arm_in to a t o)

  -- one more arm
  pub arms_more : (f : Frame) (made more : Vec Arm Global) (a : Arm) → more.items ≡ made.items ++ a ∷ [] → Each (IsArm f from) made.items → (u m : Option flow.Flow → Option flow.Flow)
      → ((cell : ℕ) → arms_in from made cell ≡ u) → ((cell : ℕ) → arm_in to a cell ≡ m) → (cell : ℕ) → arms_in to more cell ≡ (λ other. u (m other))
  arms_more f made more a e h u m eu em cell =
      fun_ext (λ other.
      arms_same f made more a e h cell other
      ∙ ap (λ (k : Option flow.Flow → Option flow.Flow). arms_in from made cell (k other)) (em cell)
      ∙ ap (λ (k : Option flow.Flow → Option flow.Flow). k (m other)) (eu cell))

  pub arms_there : (f : Frame) (made more : Vec Arm Global) (a : Arm) → more.items ≡ made.items ++ a ∷ [] → Each (IsArm f from) made.items → IsArm f to a → Each (IsArm f to) more.items
  arms_there f made more a e h l = subst (λ (xs : List Arm). Each (IsArm f to) xs) (sym e) (each_more (IsArm f to) made.items a (each_later (IsArm f from) (IsArm f to) made.items (λ y k. arm_later g y k) h) l)

  pub arms_kept : (f : Frame) (made : Vec Arm Global) → Each (IsArm f from) made.items → Each (IsArm f to) made.items
  arms_kept f made h = each_later (IsArm f from) (IsArm f to) made.items (λ y k. arm_later g y k) h

  -- the same arms later
  pub arms_in_later : (f : Frame) (made : Vec Arm Global) → Each (IsArm f from) made.items → (t : ℕ) (o : Option flow.Flow) → arms_in to made t o ≡ arms_in from made t o
  arms_in_later f made h t o = arms_later f made.items h t o
