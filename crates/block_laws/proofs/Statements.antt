-- The flow of every statement is right, and so is the code of every block.
use Rattle.std.specs.Prelude.{ℕ, ◌≤◌, ◌==◌, Bool, true, false, if◌then◌else◌, ℤ, List, [], ◌∷◌, length, map, Option, Some, None}
use Rattle.std.proofs.Common.{arith}
use Rattle.code_form.specs.Heights.{Step}
use Rattle.code_form.specs.declared.instr.Instr.{Instr}
use Rattle.code_form.specs.declared.instr.Instr.TheVariants.{Jump, JumpFalse, Load, Local, Move, OpenCopy, Trap}
use Rattle.block_code.specs.Coded.{Coded}
use Rattle.block_code.specs.Expressions.{call_alone, designated}
use Rattle.block_code.specs.Parts.{Part, plain, plain_step}
use Rattle.m2_base.proofs.SoundTypes.{either}
use Rattle.m2_base.specs.Gives.{Gives, gives}
use Rattle.m2_base.specs.Lists.{Each, WhereKept}
use Rattle.m2_base.specs.Rows.{IsValue}
use Rattle.m2_base.specs.declared.rows.Place.{Place}
use Rattle.m2_base.specs.Statics.Blocks.{BlockTree}
use Rattle.m2_base.specs.Statics.CaseLabels.{LabelTest, labels_of}
use Rattle.m2_base.specs.Statics.Constants.{constant_of}
use Rattle.m2_base.specs.Statics.Contexts.{Context, refuse}
use Rattle.m2_base.specs.Statics.Diagnostics.{exit_outside_loop}
use Rattle.m2_base.specs.Statics.Effects.{BlockEffects, ParamCopy, open_copy, own_copy}
use Rattle.m2_base.specs.Statics.Operands.{is_bad, operand_type}
use Rattle.m2_base.specs.Statics.ProcedureRows.{result_cells}
use Rattle.m2_base.specs.Statics.Ranges.{Range}
use Rattle.m2_base.specs.Statics.ReadTrees.{IsReadDesignator, IsReadExpr}
use Rattle.m2_base.specs.Trees.{CaseArm, CaseArms, CaseElse, Designator, Expr, Heading, IfArm, IfArms, Statement, Statements, StmtForm, assign_form, call_statement, case_arm, case_else, case_form, designator_at, empty_form, exit_form, expr_at, for_form, if_arm, if_form, loop_form, more_case_arms, more_if_arms, more_statements, no_case_arms, no_case_else, no_if_arms, no_statements, repeat_form, return_form, statement, while_form, with_form}
use Rattle.block_code.specs.Assignments.{assignment, code_unless_bad}
use Rattle.block_code.specs.BlockCode.{copy_code, ending, first_spot, prologue, run_of, stand_of}
use Rattle.block_code.specs.Cases.{labels_code, no_case, selector_code, selector_type}
use Rattle.block_code.specs.Counting.{bound_value, control_variable, for_first, for_last, for_more, for_step, for_test, has_code, or_one}
use Rattle.block_code.specs.Flows.{Flow, counted, exit, in_with, nothing, straight, with_cell, ◌⨾◌}
use Rattle.block_code.specs.Returns.{return_code}
use Rattle.block_code.specs.Statements.{Arm, Stand, arm_before, arm_flow, arms_flow, by_of, case_flow, cases_flow, else_flow, else_of, flow_of, flow_or_nothing, for_flow, form_flow, in_loop, return_of, statement_flow, test, value_at, variable, within}
use Rattle.block_code.specs.Withs.{in_with_of, record_variable, with_code}
use Rattle.m2_base.specs.Statics.ReadStatements.{AreReadCaseArms, AreReadIfArms, AreReadStatements, IsReadCaseArm, IsReadCaseElse, IsReadIfArm, IsReadExprOption, IsReadStatement, IsReadStmtForm}
use Rattle.block_laws.proofs.Constants.{constant-ok, labels-tests}
use Rattle.block_laws.proofs.Parts.{IsKept, IsSpot, Leads, Right, none-right, steps-if, then-right}
use Rattle.block_laws.proofs.Coded.{Setting, W, X}
use Rattle.block_laws.proofs.Coded.{variable-x}
use Rattle.block_laws.proofs.Expressions.{call_alone-x, designated-x, value-w}
use Rattle.block_laws.proofs.Flows.{Flows, choose-flow, counted-flow, exit-flow, for_ever-flow, in_with-flow, nothing-flow, straight-flow, then-flow, until-flow, when-flow, while-flow, with_cell-flow}
use Rattle.block_laws.proofs.Actions.{alone-right, always, assignment-right, bound-w, by-value, control-x, first-right, for_more-right, for_step-right, for_test-right, labels-right, last-right, no_case-right, no_result-right, or_one-value, record-x, return-right, return_value-right, selector-right, test-right, unless, unless_bad-right, with-right}

-- what is copied first
abbrev pub copy_instrs : ParamCopy → List Instr
copy_instrs (own_copy own cell size) = Local 0 own ∷ Local 0 cell ∷ Load ∷ Move size ∷ []
copy_instrs (open_copy cell elem_size) = OpenCopy cell elem_size ∷ []

module _ (q : Step → Type 0) (seen : ℕ → Type 0) (cells bytes : ℕ) where
  -- ** Combinations, where the rows of this context are known

  module _ (c : Context) (n from : ℕ) (set : Setting q seen cells bytes c) where
    abbrev R : Part → Type 0
    R p = Right q cells bytes n from p

    abbrev F : Flow → Type 0
    F f = Flows q cells bytes n from f

    ja : (j : ℤ) → q (plain_step (Jump j))
    ja j = always q seen cells bytes c n from set j

    ju : (j : ℤ) → q (plain_step (JumpFalse j))
    ju j = unless q seen cells bytes c n from set j

    line : (p : Part) → R p → F (straight p)
    line p f = straight-flow q cells bytes n from ja ju p f

    after : (a b : Flow) → F a → F b → F (a ⨾ b)
    after a b f g = then-flow q cells bytes n from ja ju a b f g

    none-f : F nothing
    none-f = nothing-flow q cells bytes n from ja ju

    abbrev FIf : Option Flow → Type 0
    FIf None = Unit {0}
    FIf (Some f) = F f

    or_nothing-f : (f : Option Flow) → FIf f → F (flow_or_nothing f)
    or_nothing-f None g = none-f
    or_nothing-f (Some f) g = g

    arm-f : (t : Part) (f : Flow) (other : Option Flow) → R t → F f → FIf other → FIf (arm_before t f other)
    arm-f t f None h g k = when-flow q cells bytes n from ja ju t f h g
    arm-f t f (Some other) h g k = choose-flow q cells bytes n from ja ju t f other h g k

    else-f : (ss : Statements) (f : Flow) → F f → FIf (else_of ss f)
    else-f no_statements f g = tt
    else-f (more_statements s ss) f g = g

  for-f : (c : Context) (n from : ℕ) (set : Setting q seen cells bytes c) (x first last : Coded) (by : ℤ) (f : Flow) → IsValue by
      → ((m : ℕ) → X q seen cells bytes c n m set x) → ((m : ℕ) → W q seen cells bytes c n m set first) → ((m : ℕ) → W q seen cells bytes c n m set last)
      → ((m : ℕ) → Flows q cells bytes n m f) → Flows q cells bytes n from (for_flow c x first last by f)
  for-f c n from set x first last by f v gx gf gl g =
      after c n from set (straight (for_first c x first)) (with_cell rest) (line c n from set (for_first c x first) (first-right q seen cells bytes c n from set x first (gx from) (gf from)))
      (with_cell-flow q cells bytes n from rest (λ t m h.
      after c n m set (straight (for_last c t x last)) (turns t) (line c n m set (for_last c t x last) (last-right q seen cells bytes c n m set t x last h (gl m)))
      (either (Flows q cells bytes n m) (has_code x) (counted (for_test t x by) f (for_more t x by) (for_step c.scene x by)) f
      (counted-flow q cells bytes n m (ja c n m set) (ju c n m set) (for_test t x by) f (for_more t x by) (for_step c.scene x by)
      (for_test-right q seen cells bytes c n m set t x by h (gx m)) (g m) (for_more-right q seen cells bytes c n m set t x by h (gx m) v) (for_step-right q seen cells bytes c n m set x by (gx m) v)) (g m))))
    where
      turns : ℕ → Flow
      turns t = if has_code x then counted (for_test t x by) f (for_more t x by) (for_step c.scene x by) else f

      rest : ℕ → Flow
      rest t = straight (for_last c t x last) ⨾ turns t

  -- the statements in a WITH of this variable
  with-f : (s : Stand) (from t : ℕ) (x : Coded) (body : Statements) → Setting q seen cells bytes s.context → IsKept t from
      → ((s' : Stand) → Setting q seen cells bytes s'.context → Flows q cells bytes (length s'.withs) from (flow_of s' body).value)
      → Flows q cells bytes (length s.withs) from (in_with_of x t (flow_of (within s x) body).value)
  with-f s from t x body set h g = by_error (is_bad x.operand)
    where
      opened : Stand
      opened = record s { withs = operand_type x.operand ∷ s.withs }

      by_error : (b : Bool) → Flows q cells bytes (length s.withs) from (if b then (flow_of (if b then s else opened) body).value else in_with t (flow_of (if b then s else opened) body).value)
      by_error true = g s set
      by_error false = in_with-flow q cells bytes (length s.withs) from t (flow_of opened body).value h (g opened set)

  module _ (names : List (List ℕ)) where
    -- ** What statements take from expressions

    value-at : (s : Stand) (from : ℕ) (set : Setting q seen cells bytes s.context) (e : Expr) → IsReadExpr names e → W q seen cells bytes s.context (length s.withs) from set (value_at s e).value
    value-at s from set e h = value-w q seen cells bytes s.context (length s.withs) from set names s.withs (omega arith) e h

    variable-at : (s : Stand) (from : ℕ) (set : Setting q seen cells bytes s.context) (d : Designator) → IsReadDesignator names d → X q seen cells bytes s.context (length s.withs) from set (variable s d).value
    variable-at s from set d h =
        variable-x q seen cells bytes s.context (length s.withs) from set (designator_at d) (designated s.context s.withs d).value
        (designated-x q seen cells bytes s.context (length s.withs) from set names s.withs (omega arith) d h)

    test-at : (s : Stand) (from : ℕ) (set : Setting q seen cells bytes s.context) (e : Expr) → IsReadExpr names e → Right q cells bytes (length s.withs) from (test s e).value
    test-at s from set e h = test-right q seen cells bytes s.context (length s.withs) from set (expr_at e) (value_at s e).value (value-at s from set e h)

    by-at : (s : Stand) (from : ℕ) (set : Setting q seen cells bytes s.context) (e : Option Expr) → IsReadExprOption names e → WhereKept (by_of s e).value IsValue
    by-at s from set None h = tt
    by-at s from set (Some e) h =
        by-value q seen cells bytes s.context (length s.withs) from set (expr_at e) (constant_of s.context e).value
        (constant-ok names seen s.context set.rows set.texts set.sees e h)

    return-at : (s : Stand) (from : ℕ) (set : Setting q seen cells bytes s.context) (at : ℕ) (e : Option Expr) → IsReadExprOption names e → Right q cells bytes (length s.withs) from (return_of s at e).value
    return-at s from set at None h = alone-right q seen cells bytes s.context (length s.withs) from set at s.result
    return-at s from set at (Some e) h =
        return_value-right q seen cells bytes s.context (length s.withs) from set at s.result (expr_at e) (value_at s e).value (value-at s from set e h)

    -- ** The induction

    abbrev FS : Stand → ℕ → Flow → Type 0
    FS s from f = Flows q cells bytes (length s.withs) from f

    mutual
      pub statement-f : (s : Stand) (from : ℕ) (set : Setting q seen cells bytes s.context) (st : Statement) → IsReadStatement names st → FS s from (statement_flow s st).value
      statement-f s from set (statement at form) h = form-f s from set at form h

      pub form-f : (s : Stand) (from : ℕ) (set : Setting q seen cells bytes s.context) (at : ℕ) (f : StmtForm) → IsReadStmtForm names f → FS s from (form_flow s at f).value
      form-f s from set at (assign_form d e) h =
          line s.context (length s.withs) from set (assignment s.context (variable s d).value (expr_at e) (value_at s e).value).value
          (assignment-right q seen cells bytes s.context (length s.withs) from set (variable s d).value (expr_at e) (value_at s e).value (variable-at s from set d h.0) (value-at s from set e h.1))
      form-f s from set at (call_statement d args) h =
          let x : Coded = (call_alone s.context s.withs d args).value in
          line s.context (length s.withs) from set (code_unless_bad x)
          (unless_bad-right q seen cells bytes s.context (length s.withs) from set x
          (call_alone-x q seen cells bytes s.context (length s.withs) from set names s.withs (omega arith) d args h.0 h.1))
      form-f s from set at (if_form arms other) h =
          or_nothing-f s.context (length s.withs) from set ((arms_flow s arms).value (else_of other (flow_of s other).value))
          (arms-f s from set arms (else_of other (flow_of s other).value) h.0
          (else-f s.context (length s.withs) from set other (flow_of s other).value (all-f s from set other h.1)))
      form-f s from set at (loop_form body) h =
          for_ever-flow q cells bytes (length s.withs) from (ja s.context (length s.withs) from set) (ju s.context (length s.withs) from set) (flow_of (in_loop s) body).value
          (all-f (in_loop s) from set body h)
      form-f s from set at exit_form h =
          either (λ (r : Gives Flow). FS s from r.value) s.looped (gives exit) (refuse s.context at exit_outside_loop nothing)
          (exit-flow q cells bytes (length s.withs) from (ja s.context (length s.withs) from set) (ju s.context (length s.withs) from set)) (none-f s.context (length s.withs) from set)
      form-f s from set at (case_form e arms other) h =
          let x : Coded = (value_at s e).value in
          let typ : Place = (selector_type s.context (expr_at e) x).value in
          let o : Flow = (else_flow s other).value in
          with_cell-flow q cells bytes (length s.withs) from (λ t. straight (selector_code s.context t x) ⨾ (cases_flow s typ [] arms).value t o) (λ t m k.
          after s.context (length s.withs) m set (straight (selector_code s.context t x)) ((cases_flow s typ [] arms).value t o)
          (line s.context (length s.withs) m set (selector_code s.context t x) (selector-right q seen cells bytes s.context (length s.withs) m set t x k (value-at s m set e h.0)))
          (cases-f s m set typ [] arms t o k h.1 (case_else-f s m set other h.2)))
      form-f s from set at (while_form e body) h =
          while-flow q cells bytes (length s.withs) from (ja s.context (length s.withs) from set) (ju s.context (length s.withs) from set) (test s e).value (flow_of s body).value
          (test-at s from set e h.0) (all-f s from set body h.1)
      form-f s from set at (repeat_form body e) h =
          until-flow q cells bytes (length s.withs) from (ja s.context (length s.withs) from set) (ju s.context (length s.withs) from set) (flow_of s body).value (test s e).value
          (all-f s from set body h.0) (test-at s from set e h.1)
      form-f s from set at (for_form i first last by body) h =
          let x : Coded = (control_variable s.context s.withs i).value in
          for-f s.context (length s.withs) from set x (bound_value s.context x (expr_at first) (value_at s first).value).value
          (bound_value s.context x (expr_at last) (value_at s last).value).value (or_one (by_of s by).value) (flow_of s body).value
          (or_one-value (by_of s by).value (by-at s from set by h.3))
          (λ m. control-x q seen cells bytes s.context (length s.withs) m set s.withs i)
          (λ m. bound-w q seen cells bytes s.context (length s.withs) m set x (expr_at first) (value_at s first).value (value-at s m set first h.1))
          (λ m. bound-w q seen cells bytes s.context (length s.withs) m set x (expr_at last) (value_at s last).value (value-at s m set last h.2))
          (λ m. all-f s m set body h.4)
      form-f s from set at (with_form d body) h =
          let v : Coded = (variable s d).value in
          let x : Coded = (record_variable s.context (designator_at d) v).value in
          let b : Flow = (flow_of (within s x) body).value in
          with_cell-flow q cells bytes (length s.withs) from (λ t. straight (with_code t x) ⨾ in_with_of x t b) (λ t m k.
          after s.context (length s.withs) m set (straight (with_code t x)) (in_with_of x t b)
          (line s.context (length s.withs) m set (with_code t x)
          (with-right q seen cells bytes s.context (length s.withs) m set t x k (record-x q seen cells bytes s.context (length s.withs) m set (designator_at d) v (variable-at s m set d h.0))))
          (with-f s m t x body set k (λ s' set'. all-f s' m set' body h.1)))
      form-f s from set at (return_form e) h = line s.context (length s.withs) from set (return_of s at e).value (return-at s from set at e h)
      form-f s from set at empty_form h = none-f s.context (length s.withs) from set

      pub all-f : (s : Stand) (from : ℕ) (set : Setting q seen cells bytes s.context) (ss : Statements) → AreReadStatements names ss → FS s from (flow_of s ss).value
      all-f s from set no_statements h = none-f s.context (length s.withs) from set
      all-f s from set (more_statements st ss) h =
          after s.context (length s.withs) from set (statement_flow s st).value (flow_of s ss).value (statement-f s from set st h.0) (all-f s from set ss h.1)

      pub arms-f : (s : Stand) (from : ℕ) (set : Setting q seen cells bytes s.context) (as' : IfArms) (other : Option Flow) → AreReadIfArms names as' → FIf s.context (length s.withs) from set other
          → FIf s.context (length s.withs) from set ((arms_flow s as').value other)
      arms-f s from set no_if_arms other h g = g
      arms-f s from set (more_if_arms a others) other h g = arm_of-f s from set a ((arms_flow s others).value other) h.0 (arms-f s from set others other h.1 g)

      pub arm_of-f : (s : Stand) (from : ℕ) (set : Setting q seen cells bytes s.context) (a : IfArm) (other : Option Flow) → IsReadIfArm names a → FIf s.context (length s.withs) from set other
          → FIf s.context (length s.withs) from set ((arm_flow s a).value other)
      arm_of-f s from set (if_arm e body) other h g =
          arm-f s.context (length s.withs) from set (test s e).value (flow_of s body).value other (test-at s from set e h.0) (all-f s from set body h.1) g

      pub cases-f : (s : Stand) (from : ℕ) (set : Setting q seen cells bytes s.context) (typ : Place) (covered : List Range) (as' : CaseArms) (t : ℕ) (other : Flow) → IsKept t from
          → AreReadCaseArms names as' → FS s from other → FS s from ((cases_flow s typ covered as').value t other)
      cases-f s from set typ covered no_case_arms t other k h g = g
      cases-f s from set typ covered (more_case_arms a others) t other k h g =
          let first : Arm = (case_flow s typ covered a).value in
          case-f s from set typ covered a t ((cases_flow s typ first.covered others).value t other) k h.0 (cases-f s from set typ first.covered others t other k h.1 g)

      pub case-f : (s : Stand) (from : ℕ) (set : Setting q seen cells bytes s.context) (typ : Place) (covered : List Range) (a : CaseArm) (t : ℕ) (other : Flow) → IsKept t from
          → IsReadCaseArm names a → FS s from other → FS s from ((case_flow s typ covered a).value.flow t other)
      case-f s from set typ covered (case_arm labels body) t other k h g =
          let tests : List LabelTest = (labels_of s.context typ covered labels).value.tests in
          choose-flow q cells bytes (length s.withs) from (ja s.context (length s.withs) from set) (ju s.context (length s.withs) from set) (labels_code t tests) (flow_of s body).value other
          (labels-right q seen cells bytes s.context (length s.withs) from set t tests k (labels-tests names seen s.context set.rows set.texts set.sees typ covered labels h.0))
          (all-f s from set body h.1) g

      pub case_else-f : (s : Stand) (from : ℕ) (set : Setting q seen cells bytes s.context) (e : CaseElse) → IsReadCaseElse names e → FS s from (else_flow s e).value
      case_else-f s from set no_case_else h = line s.context (length s.withs) from set no_case (no_case-right q seen cells bytes s.context (length s.withs) from set)
      case_else-f s from set (case_else body) h = all-f s from set body h

    -- ** A block

    copy-r : (n from : ℕ) (d : ParamCopy) → (from ≤ cells → Each q (map plain_step (copy_instrs d))) → Right q cells bytes n from (copy_code d)
    copy-r n from (own_copy own cell size) h = steps-if q cells bytes n from (map plain_step (copy_instrs (own_copy own cell size))) h
    copy-r n from (open_copy cell elem_size) h = steps-if q cells bytes n from (map plain_step (copy_instrs (open_copy cell elem_size))) h

    prologue-r : (n from : ℕ) (ds : List ParamCopy) → Each (λ d. from ≤ cells → Each q (map plain_step (copy_instrs d))) ds → Right q cells bytes n from (prologue ds)
    prologue-r n from [] h = none-right q cells bytes n from
    prologue-r n from (d ∷ ds) h = then-right q cells bytes n from (copy_code d) (prologue ds) (copy-r n from d h.0) (prologue-r n from ds h.1)

    ending-r : (c : Context) (n from : ℕ) (set : Setting q seen cells bytes c) (h : Option Heading) → Right q cells bytes n from (ending h)
    ending-r c n from set None = return-right q seen cells bytes c n from set
    ending-r c n from set (Some h) =
        either (Right q cells bytes n from) (result_cells h.result == 0) return_code (plain (Trap 7 ∷ [])) (return-right q seen cells bytes c n from set) (no_result-right q seen cells bytes c n from set)

    -- the code of a block, whose first spot is one
    pub block-f : (c : Context) (b : BlockTree) (e : BlockEffects) (from : ℕ) → Setting q seen cells bytes c → IsSpot 0 from (first_spot b.tree.kind e)
        → Each (λ d. from ≤ cells → Each q (map plain_step (copy_instrs d))) e.prologue → AreReadStatements names b.tree.body
        → let r = run_of b e (flow_of (stand_of c b) b.tree.body).value in
        Leads 0 from (first_spot b.tree.kind e) r.bytes r.next × (r.next.cell ≤ cells → r.next.byte ≤ bytes → (o : ℕ) → Each q (r.code o))
    block-f c b e from set spot copies read =
        let body : Flow = (flow_of (stand_of c b) b.tree.body).value in
        after c 0 from set (straight (prologue e.prologue)) (body ⨾ straight (ending b.tree.heading)) (line c 0 from set (prologue e.prologue) (prologue-r 0 from e.prologue copies))
        (after c 0 from set body (straight (ending b.tree.heading)) (all-f (stand_of c b) from set b.tree.body read) (line c 0 from set (ending b.tree.heading) (ending-r c 0 from set b.tree.heading)))
        (first_spot b.tree.kind e) spot
