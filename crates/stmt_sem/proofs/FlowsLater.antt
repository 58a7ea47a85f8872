-- With further fragments behind, a flow stands for the same code, and is made of those that are there.
use Rattle.std.proofs.Common.{◌≡◌, ◌∙◌, ◌∷◌, [], ℕ, List, Option, Some, ap, sym, subst, refl}
use Rattle.std.proofs.Math.Path.{fun_ext}
use Rattle.code_form.specs.declared.instr.Instr.TheVariants.{Load, Local, Store}
use Rattle.expr_sem.specs.Fragments.{Grows, part}
use Rattle.block_code.specs.Parts.{Part, plain, ◌⨟◌}
use Rattle.expr_sem.specs.declared.fragments.Node.{Node}
use Rattle.expr_sem.proofs.Sequencing.{in_later, part_later}
use Rattle.stmt_sem.specs.FlowTrees.{AreArmRowOver, AreRowOver, CellFlow, IsArmOver, IsCodeOf, IsFormOver, IsHeldOver, IsOver, Measures, arm_row_in, code_by, flow_in, form_in, held_in, row_in}
use Rattle.block_code.specs.Flows as flow
use Rattle.block_code.specs.Flows.{counted, for_ever, in_with, straight, until_true, while_true, with_cell, ◌⨾◌}
use Rattle.block_code.specs.Statements.{arm_before, flow_or_nothing}
use Rattle.stmt_sem.specs.declared.flows.Arm.{Arm}
use Rattle.stmt_sem.specs.declared.flows.Code.{Code}
use Rattle.stmt_sem.specs.declared.flows.Code.TheVariants.{Compared, Fixed, Labels, Stored}
use Rattle.stmt_sem.specs.declared.flows.Flow.{Flow}
use Rattle.stmt_sem.specs.declared.flows.FlowForm.{FlowForm, Nothing, Straight, Block', Exit, Choice', WhileTrue', UntilTrue', ForEver', Counted', WithCell', InWith', Row_of-Flow, end_of-Flow, more_of-Flow, Row_of-Arm, end_of-Arm, more_of-Arm, Held-FlowForm-Choice-1, None', Some'}

-- code of a statement's own
pub code_later : {from to : List Node} → Grows from to → (c : Code) → IsCodeOf from c → (t : ℕ) → code_by to c t ≡ code_by from c t
code_later g (Fixed f) h t = part_later g f h
code_later g (Stored f) h t = ap (λ (p : Part). plain (Local 0 t ∷ []) ⨟ p ⨟ plain (Store ∷ [])) (part_later g f h)
code_later g (Compared f i) h t = ap (λ (p : Part). p ⨟ plain (Load ∷ Local 0 t ∷ Load ∷ i ∷ [])) (part_later g f h)
code_later g (Labels ls) h t = refl

pub code_there : {from to : List Node} → Grows from to → (c : Code) → IsCodeOf from c → IsCodeOf to c
code_there g (Fixed f) h = in_later g f h
code_there g (Stored f) h = in_later g f h
code_there g (Compared f i) h = in_later g f h
code_there g (Labels ls) h = tt

module _ {from to : List Node} (g : Grows from to) where
  mutual
    form_later : (x : FlowForm) → IsFormOver from x → (t : ℕ) → form_in to x t ≡ form_in from x t
    form_later Nothing h t = refl
    form_later (Straight c) h t = ap straight (code_later g c h t)
    form_later (Block' p xs) h t = row_later xs h t
    form_later Exit h t = refl
    form_later (Choice' p arms o) h t =
        ap (λ (f : Option flow.Flow). flow_or_nothing (arm_row_in to arms t f)) (held_later o h.1 t) ∙ ap flow_or_nothing (arm_row_later arms h.0 t (held_in from o t))
    form_later (WhileTrue' c p x n) h t =
        ap (λ (q : Part). while_true q (form_in to x t)) (part_later g c h.0) ∙ ap (λ (f : flow.Flow). while_true (part from c) f) (form_later x h.1.0 t)
    form_later (UntilTrue' p x n c) h t =
        ap (λ (f : flow.Flow). until_true f (part to c)) (form_later x h.0.0 t) ∙ ap (λ (q : Part). until_true (form_in from x t) q) (part_later g c h.1)
    form_later (ForEver' p x n) h t = ap for_ever (form_later x h.0 t)
    form_later (Counted' p first x n again step) h t =
        ap (λ (q : Part). counted q (form_in to x t) (code_by to again t) (part to step)) (code_later g first h.0 t)
        ∙ ap (λ (f : flow.Flow). counted (code_by from first t) f (code_by to again t) (part to step)) (form_later x h.1.0 t)
        ∙ ap (λ (q : Part). counted (code_by from first t) (form_in from x t) q (part to step)) (code_later g again h.2 t)
        ∙ ap (λ (q : Part). counted (code_by from first t) (form_in from x t) (code_by from again t) q) (part_later g step h.3)
    form_later (WithCell' p x n) h t = ap (λ (f : CellFlow). with_cell f) (fun_ext (λ u. form_later x h.0 u))
    form_later (InWith' p x n) h t = ap (λ (f : flow.Flow). in_with t f) (form_later x h.0 t)

    row_later : {k : _} (xs : Row_of-Flow k) → AreRowOver from xs → (t : ℕ) → row_in to xs t ≡ row_in from xs t
    row_later end_of-Flow h t = refl
    row_later (more_of-Flow x n xs) h t =
        ap (λ (f : flow.Flow). f ⨾ row_in to xs t) (form_later x h.0.0 t) ∙ ap (λ (f : flow.Flow). form_in from x t ⨾ f) (row_later xs h.1 t)

    arm_row_later : {k : _} (xs : Row_of-Arm k) → AreArmRowOver from xs → (t : ℕ) (o : Option flow.Flow) → arm_row_in to xs t o ≡ arm_row_in from xs t o
    arm_row_later end_of-Arm h t o = refl
    arm_row_later (more_of-Arm c x n xs) h t o =
        ap (λ (q : Part). arm_before q (form_in to x t) (arm_row_in to xs t o)) (code_later g c h.0.0 t)
        ∙ ap (λ (f : flow.Flow). arm_before (code_by from c t) f (arm_row_in to xs t o)) (form_later x h.0.1.0 t)
        ∙ ap (λ (f : Option flow.Flow). arm_before (code_by from c t) (form_in from x t) f) (arm_row_later xs h.1 t o)

    held_later : (o : Held-FlowForm-Choice-1) → IsHeldOver from o → (t : ℕ) → held_in to o t ≡ held_in from o t
    held_later None' h t = refl
    held_later (Some' p x n) h t = ap (λ (f : flow.Flow). Some f) (form_later x h.0 t)

  sized_later : (x : FlowForm) (n : ℕ) → IsFormOver from x → Measures (form_in from x) n → Measures (form_in to x) n
  sized_later x n h m t = subst (λ (f : flow.Flow). flow.HasSize f n) (sym (form_later x h t)) (m t)

  mutual
    form_there : (x : FlowForm) → IsFormOver from x → IsFormOver to x
    form_there Nothing h = tt
    form_there (Straight c) h = code_there g c h
    form_there (Block' p xs) h = row_there xs h
    form_there Exit h = tt
    form_there (Choice' p arms o) h = (arm_row_there arms h.0, held_there o h.1)
    form_there (WhileTrue' c p x n) h = (in_later g c h.0, (form_there x h.1.0, sized_later x n h.1.0 h.1.1))
    form_there (UntilTrue' p x n c) h = ((form_there x h.0.0, sized_later x n h.0.0 h.0.1), in_later g c h.1)
    form_there (ForEver' p x n) h = (form_there x h.0, sized_later x n h.0 h.1)
    form_there (Counted' p first x n again step) h =
        (code_there g first h.0, (form_there x h.1.0, sized_later x n h.1.0 h.1.1), code_there g again h.2, in_later g step h.3)
    form_there (WithCell' p x n) h = (form_there x h.0, sized_later x n h.0 h.1)
    form_there (InWith' p x n) h = (form_there x h.0, sized_later x n h.0 h.1)

    row_there : {k : _} (xs : Row_of-Flow k) → AreRowOver from xs → AreRowOver to xs
    row_there end_of-Flow h = tt
    row_there (more_of-Flow x n xs) h = ((form_there x h.0.0, sized_later x n h.0.0 h.0.1), row_there xs h.1)

    arm_row_there : {k : _} (xs : Row_of-Arm k) → AreArmRowOver from xs → AreArmRowOver to xs
    arm_row_there end_of-Arm h = tt
    arm_row_there (more_of-Arm c x n xs) h = ((code_there g c h.0.0, (form_there x h.0.1.0, sized_later x n h.0.1.0 h.0.1.1)), arm_row_there xs h.1)

    held_there : (o : Held-FlowForm-Choice-1) → IsHeldOver from o → IsHeldOver to o
    held_there None' h = tt
    held_there (Some' p x n) h = (form_there x h.0, sized_later x n h.0 h.1)

  -- a flow stands for the same code
  pub flow_later : (x : Flow) → IsOver from x → (t : ℕ) → flow_in to x t ≡ flow_in from x t
  flow_later x h t = form_later x.form h.0 t

  -- and is made of what is there
  pub over_later : (x : Flow) → IsOver from x → IsOver to x
  over_later x h = (form_there x.form h.0, sized_later x.form x.size h.0 h.1)

  pub arm_later : (a : Arm) → IsArmOver from a → IsArmOver to a
  arm_later a h = (code_there g a.test h.0, over_later a.body h.1)
