-- What blocks and choices stand for, by their lists of flows and of arms.
use Rattle.std.proofs.Common.{◌≡◌, ◌∙◌, ℕ, List, Option, Some, None, ap, refl, subst, sym}
use Rattle.std.specs.declared.alloc.Global.{Global}
use Rattle.std.specs.declared.boxed.Box.{Box}
use Rattle.std.specs.declared.vec.Vec.{Vec}
use Rattle.m2_base.specs.Lists.{Each}
use Rattle.expr_sem.specs.declared.fragments.Node.{Node}
use Rattle.stmt_sem.specs.FlowTrees.{AreArmRowOver, AreRowOver, IsArmOver, IsFormOver, IsHeldOver, IsOver, IsOverIfAny, arm_row_in, arms_among, block_among, choice_among, code_by, form_in, held_in, other_among, row_in}
use Rattle.block_code.specs.Flows as flow
use Rattle.block_code.specs.Flows.{◌⨾◌}
use Rattle.block_code.specs.Statements.{arm_before, flow_or_nothing}
use Rattle.stmt_sem.specs.declared.flows.Arm.{Arm}
use Rattle.stmt_sem.specs.declared.flows.Flow.{Flow}
use Rattle.stmt_sem.specs.declared.flows.FlowForm.{Row_of-Arm, Row_of-Flow, back-FlowForm-Choice-1, end_of-Arm, end_of-Flow, items-the_row-Arm, items-the_row-Flow, items_hidden-the_row-Arm-1, items_hidden-the_row-Flow-0, more_of-Arm, more_of-Flow}
use Rattle.stmt_sem.specs.declared.flows.FlowForm.TheBlock.{hidden-the_row-Arm-1, hidden-the_row-Flow-0}
use Rattle.stmt_sem.specs.declared.flows.FlowForm.TheVariants.{Block, Choice}

module _ (ns : List Node) where
  -- ---- blocks

  row_is : (k : _) (xs : Row_of-Flow k) (t : ℕ) → row_in ns xs t ≡ block_among ns (items-the_row-Flow k xs) t
  row_is k end_of-Flow t = refl
  row_is k (more_of-Flow x n xs) t = ap (λ (f : flow.Flow). form_in ns x t ⨾ f) (row_is _ xs t)

  pub block_is : (xs : Vec Flow Global) (t : ℕ) → form_in ns (Block xs) t ≡ block_among ns xs.items t
  block_is xs t = row_is _ (hidden-the_row-Flow-0 xs) t ∙ ap (λ (l : List Flow). block_among ns l t) (items_hidden-the_row-Flow-0 xs)

  over_row : (k : _) (xs : Row_of-Flow k) → Each (IsOver ns) (items-the_row-Flow k xs) → AreRowOver ns xs
  over_row k end_of-Flow h = tt
  over_row k (more_of-Flow x n xs) h = (h.0, over_row _ xs h.1)

  row_over : (k : _) (xs : Row_of-Flow k) → AreRowOver ns xs → Each (IsOver ns) (items-the_row-Flow k xs)
  row_over k end_of-Flow h = tt
  row_over k (more_of-Flow x n xs) h = (h.0, row_over _ xs h.1)

  pub block_over : (xs : Vec Flow Global) → Each (IsOver ns) xs.items → IsFormOver ns (Block xs)
  block_over xs h = over_row _ (hidden-the_row-Flow-0 xs) (subst (λ (l : List Flow). Each (IsOver ns) l) (sym (items_hidden-the_row-Flow-0 xs)) h)

  pub entries_over : (xs : Vec Flow Global) → IsFormOver ns (Block xs) → Each (IsOver ns) xs.items
  entries_over xs h = subst (λ (l : List Flow). Each (IsOver ns) l) (items_hidden-the_row-Flow-0 xs) (row_over _ (hidden-the_row-Flow-0 xs) h)

  -- ---- choices

  held_is : (o : Option (Box Flow Global)) (t : ℕ) → held_in ns (back-FlowForm-Choice-1 o) t ≡ other_among ns o t
  held_is None t = refl
  held_is (Some x) t = refl

  over_held : (o : Option (Box Flow Global)) → IsOverIfAny ns o → IsHeldOver ns (back-FlowForm-Choice-1 o)
  over_held None h = tt
  over_held (Some x) h = h

  held_over : (o : Option (Box Flow Global)) → IsHeldOver ns (back-FlowForm-Choice-1 o) → IsOverIfAny ns o
  held_over None h = tt
  held_over (Some x) h = h

  arm_row_is : (k : _) (xs : Row_of-Arm k) (t : ℕ) (o : Option flow.Flow) → arm_row_in ns xs t o ≡ arms_among ns (items-the_row-Arm k xs) t o
  arm_row_is k end_of-Arm t o = refl
  arm_row_is k (more_of-Arm c x n xs) t o = ap (λ (f : Option flow.Flow). arm_before (code_by ns c t) (form_in ns x t) f) (arm_row_is _ xs t o)

  pub choice_is : (arms : Vec Arm Global) (o : Option (Box Flow Global)) (t : ℕ) → form_in ns (Choice arms o) t ≡ choice_among ns arms.items o t
  choice_is arms o t =
      ap flow_or_nothing
      (arm_row_is _ (hidden-the_row-Arm-1 arms) t (held_in ns (back-FlowForm-Choice-1 o) t)
      ∙ ap (λ (l : List Arm). arms_among ns l t (held_in ns (back-FlowForm-Choice-1 o) t)) (items_hidden-the_row-Arm-1 arms)
      ∙ ap (λ (f : Option flow.Flow). arms_among ns arms.items t f) (held_is o t))

  over_arm_row : (k : _) (xs : Row_of-Arm k) → Each (IsArmOver ns) (items-the_row-Arm k xs) → AreArmRowOver ns xs
  over_arm_row k end_of-Arm h = tt
  over_arm_row k (more_of-Arm c x n xs) h = (h.0, over_arm_row _ xs h.1)

  arm_row_over : (k : _) (xs : Row_of-Arm k) → AreArmRowOver ns xs → Each (IsArmOver ns) (items-the_row-Arm k xs)
  arm_row_over k end_of-Arm h = tt
  arm_row_over k (more_of-Arm c x n xs) h = (h.0, arm_row_over _ xs h.1)

  pub choice_over : (arms : Vec Arm Global) (o : Option (Box Flow Global)) → Each (IsArmOver ns) arms.items → IsOverIfAny ns o → IsFormOver ns (Choice arms o)
  choice_over arms o h l =
      (over_arm_row _ (hidden-the_row-Arm-1 arms) (subst (λ (xs : List Arm). Each (IsArmOver ns) xs) (sym (items_hidden-the_row-Arm-1 arms)) h), over_held o l)

  pub arms_of_choice : (arms : Vec Arm Global) (o : Option (Box Flow Global)) → IsFormOver ns (Choice arms o) → Each (IsArmOver ns) arms.items
  arms_of_choice arms o h = subst (λ (xs : List Arm). Each (IsArmOver ns) xs) (items_hidden-the_row-Arm-1 arms) (arm_row_over _ (hidden-the_row-Arm-1 arms) h.0)

  pub other_of_choice : (arms : Vec Arm Global) (o : Option (Box Flow Global)) → IsFormOver ns (Choice arms o) → IsOverIfAny ns o
  other_of_choice arms o h = held_over o h.1
